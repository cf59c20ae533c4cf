-- An append beside a running rotation keeps what the rotation has made.
use Rattle.std.proofs.Common.{◌≡◌, ◌≢◌, ℕ, ◌+◌, ◌<◌, Bool, List, refl, sym, subst, arith}
use Rattle.std.specs.List.{Contains}
use Rattle.std.proofs.lemmas.List.Elements.{All-contains}
use Rattle.mvo_disk.specs.Disk.{OthersStay}
use Rattle.mvo_format.specs.declared.format.Format.{Format}
use Rattle.mvo_manifest.specs.Data.{ManifestData, named}
use Rattle.mvo_manifest.specs.Rules.{IsManifest, IsFile}
use Rattle.mvo_manifest.specs.Slots.{IsShut, IsStaged}
use Rattle.mvo_recovery.specs.image.Opens.{Image}
use Rattle.mvo_recovery.specs.Parts.{Parts, IsLastFile}
use Rattle.mvo_recovery.specs.Settled.{other_slot, IsSettled}
use Rattle.mvo_recovery.specs.Installing.{IsStagedBeside}
use Rattle.mvo_recovery.specs.Rotation.{rotated, segments_left, IsFreshSegment}
use Rattle.mvo_recovery.proofs.Named.{last_named, slot_below}
use Rattle.mvo_recovery.proofs.Framed.{files_stay_others}
use Rattle.mvo_recovery.proofs.Rotated.{fresh_framed}

-- the file of the last segment is no slot
pub last_is_file : (m : ManifestData) (file : ℕ) → IsManifest m → IsLastFile m file → IsFile file
last_is_file m file is last = All-contains IsFile (named m) file is.rules.files (last_named m last.0 file last.1)

pub last_no_slot : (m : ManifestData) (file : ℕ) → IsManifest m → IsLastFile m file → other_slot m ≢ file
last_no_slot m file is last e =
    let below : file < 2 = subst (λ k. k < 2) e (slot_below (m.generation + 1)) in
    let from : IsFile file = last_is_file m file is last in
    omega (arith, below, from.0)

-- nor is it the fresh one
pub last_not_fresh : (m : ManifestData) (file fresh : ℕ) → IsLastFile m file → (Contains (named m) fresh → ⊥) → fresh ≢ file
last_not_fresh m file fresh last unnamed e = unnamed (subst (Contains (named m)) (sym e) (last_named m last.0 file last.1))

-- which is the last after the rotation
pub rotated_last : (replaces : Bool) (m : ManifestData) (fresh : ℕ) → IsLastFile (rotated replaces m fresh) fresh
rotated_last replaces m fresh = (segments_left replaces m.segments, refl)

module _ (old new : Image) (may_old may_new : ℕ → List ℕ → Type 0) (file : ℕ) (rest : OthersStay file old new may_old may_new) where
  -- a fresh segment in another file
  pub fresh_beside : (f : Format) (fresh : ℕ) → fresh ≢ file → IsFreshSegment f old may_old fresh → IsFreshSegment f new may_new fresh
  fresh_beside f fresh ne = fresh_framed f old new may_old may_new fresh (files_stay_others old new may_old may_new (λ n. n ≡ fresh) file (λ e. ne (sym e)) rest)

  module _ (m : ManifestData) (apart : other_slot m ≢ file) where
    -- the other slot, shut
    pub shut_beside : IsShut (old (other_slot m)) → IsShut (new (other_slot m))
    shut_beside shut = subst IsShut (sym (rest.content (other_slot m) apart)) shut

    -- the next manifest behind its gate, beside what is settled now
    pub staged_beside : (next : ManifestData) (x y : Parts) → IsStagedBeside old may_old m next x → IsSettled new may_new m y → IsStagedBeside new may_new m next y
    staged_beside next x y s settled = record { settled = settled; staged = subst (λ (c : List ℕ). IsStaged (other_slot m) next c) (sym (rest.content (other_slot m) apart)) s.staged }
