-- The laws of a merge that runs beside checkpoints.
use Rattle.std.proofs.Common.{ℕ, List, refl}
use Rattle.mvo_recovery.specs.image.Opens.{Image}
use Rattle.mvo_recovery.specs.Settled.{other_slot}
use Rattle.mvo_recovery.specs.Merging.{merged_manifest}
use Rattle.mvo_recovery.proofs.Installed.{within_install}
use Rattle.mvo_recovery.specs.beside.Laws.{MergeBesideIsReady, InstallBesideKeeps, PlacesBeside}
use Rattle.mvo_recovery.proofs.beside.Ready.{manifest_now, ready_now, same_now, places_now}

pub merge_beside_ready : (content : Image) (may : ℕ → List ℕ → Type 0) → MergeBesideIsReady content may
merge_beside_ready content may f m x s pair settled seen now may_merge known data_file delta_file = record {
  is = manifest_now content m x.lives s settled.installed.own.is settled.installed.parts.live seen now pair may_merge;
  next = refl;
  ready = ready_now content may m x s pair settled seen now may_merge f known data_file delta_file;
  same = same_now content may m x s pair settled seen now may_merge f known data_file delta_file;
}

pub places_beside : PlacesBeside
places_beside content m x s pair seen now at is have differ are = places_now content m x.lives s is have seen now pair at differ are

pub install_beside : (content : Image) (may : ℕ → List ℕ → Type 0) → InstallBesideKeeps content may
install_beside content may m x y c settled is image t = within_install content may m x settled (other_slot m) refl (merged_manifest m c) y is.next is.ready is.same image t
