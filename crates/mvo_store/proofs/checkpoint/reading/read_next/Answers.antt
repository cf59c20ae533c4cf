use Rattle.std.proofs.Common.{◌≡◌, sym, ap, subst, ◌∙◌, Some}
use Rattle.std.specs.Prelude.{OnOk}
use Rattle.mvo_disk.specs.Disk.{IsHonest}
use Rattle.mvo_ckpt.specs.declared.building.Built.{Built}
use Rattle.mvo_ckpt.specs.declared.building.Built.TheVariants.{Ready}
use Rattle.mvo_load.proofs.Unchanged.{unchanged_yet}
use Rattle.mvo_store.specs.declared.checkpoint.reading.CheckpointReading.{CheckpointReading}
use Rattle.mvo_store.specs.declared.checkpoint.reading.CheckpointReading.TheVariants.{Pair as PairRead}
use Rattle.mvo_store.specs.Files.{files_taken}
use Rattle.mvo_store.specs.SegmentRead.{oldest_file, MayBeRead, IsReadOf, IsPairBuilt, IsPairOf}
use Rattle.mvo_store.specs.SegmentSlices.{IsSegmentSliceTo}
use Rattle.mvo_store.proofs.SegmentOn.{turn_stops, ended_done, ended_why, ended_stop, ended_read}
use Rattle.mvo_store.proofs.checkpoint.reading.read_next.Given as given
use Rattle.mvo_store.proofs.checkpoint.reading.read_next.Goals as goal
use Rattle.mvo_store.proofs.checkpoint.reading.read_next.Goals.{In-Pair-default-Ready}

pub returns-in-Whole-clause-stop : goal.returns-in-Whole-clause-stop
returns-in-Whole-clause-stop g c = λ honest.
    let m = c.args.manifest.now in
    let at = c.args.places.now.at in
    let content = g.D.Disk.content c.args.disk.now in
    let bytes = content (oldest_file m) in
    turn_stops m c.requires.safe.may at content (g.D.Disk.may_leave c.args.disk.now) c.turn_to_pair-reading.result.1
    (c.turn_to_pair-reading.ensures.only bytes (subst (λ (r : CheckpointReading). IsReadOf m at bytes r) c.in-Whole.is (c.requires.of honest)))

-- all of its pair is built
reading_is : (g : given.Over) (c : goal.In-Pair-default-Ready g) → c.args.reading ≡ PairRead c.in-Pair-default-Ready.mark (Ready c.in-Pair-default-Ready.made)
reading_is g c = c.in-Pair-default-Ready.is ∙ ap (λ (b : Built). PairRead c.in-Pair-default-Ready.mark b) c.in-Pair-default-Ready.field-1-is

pair_built : (g : given.Over) (c : goal.In-Pair-default-Ready g) → IsPairBuilt c.args.manifest.now c.args.places.now.at c.in-Pair-default-Ready.mark.0 (Ready c.in-Pair-default-Ready.made)
pair_built g c = subst (λ (r : CheckpointReading). MayBeRead c.args.manifest.now c.args.places.now.at r) (reading_is g c) c.requires.safe.read

pair_of : (g : given.Over) (c : goal.In-Pair-default-Ready g) → IsHonest (g.D.Disk.moment c.args.disk.now) → IsPairOf c.args.manifest.now c.args.places.now.at (g.D.Disk.content c.args.disk.now (oldest_file c.args.manifest.now)) c.in-Pair-default-Ready.mark.0 (Ready c.in-Pair-default-Ready.made)
pair_of g c honest = subst (λ (r : CheckpointReading). IsReadOf c.args.manifest.now c.args.places.now.at (g.D.Disk.content c.args.disk.now (oldest_file c.args.manifest.now)) r) (reading_is g c) (c.requires.of honest)

pub returns-in-Pair-default-Ready-clause-done : goal.returns-in-Pair-default-Ready-clause-done
returns-in-Pair-default-Ready-clause-done g c =
    let here = (goal.at.returns-in-Pair-default-Ready-clause-done g c).In-Pair-default-Ready in
    let m = c.args.manifest.now in
    let at = c.args.places.now.at in
    let honest = IsHonest (g.D.Disk.moment c.args.disk.now) in
    let content = g.D.Disk.content c.args.disk.now in
    let may = g.D.Disk.may_leave c.args.disk.now in
    let taken = files_taken c.args.other in
    let x = c.end_building-checkpoint.result in
    let room = c.end_building-checkpoint.new.places.room in
    subst (λ (r : CheckpointReading). OnOk x.1 (IsSegmentSliceTo honest content may m at room taken r (Some x.0))) (sym (reading_is g here))
    (ended_done m c.generation-generation.ensures.manifest c.requires.safe.may at c.in-Pair-default-Ready.mark c.in-Pair-default-Ready.made (pair_built g here) taken room honest content may (pair_of g here) x.0 x.1 c.end_building-checkpoint.ensures.done)

pub returns-in-Pair-default-Ready-clause-why : goal.returns-in-Pair-default-Ready-clause-why
returns-in-Pair-default-Ready-clause-why g c =
    let here = (goal.at.returns-in-Pair-default-Ready-clause-why g c).In-Pair-default-Ready in
    ended_why c.args.manifest.now c.generation-generation.ensures.manifest c.requires.safe.may c.args.places.now.at c.in-Pair-default-Ready.mark c.in-Pair-default-Ready.made (pair_built g here) c.end_building-checkpoint.result.1 c.end_building-checkpoint.ensures.refused

pub returns-in-Pair-default-Ready-clause-stop : goal.returns-in-Pair-default-Ready-clause-stop
returns-in-Pair-default-Ready-clause-stop g c = λ honest.
    let here = (goal.at.returns-in-Pair-default-Ready-clause-stop g c).In-Pair-default-Ready in
    ended_stop c.args.manifest.now c.generation-generation.ensures.manifest c.requires.safe.may c.args.places.now.at c.in-Pair-default-Ready.mark c.in-Pair-default-Ready.made (g.D.Disk.content c.args.disk.now) (g.D.Disk.may_leave c.args.disk.now) (pair_of g here honest) c.end_building-checkpoint.result.1 c.end_building-checkpoint.ensures.refused

pub returns-in-Pair-default-Ready-clause-read : goal.returns-in-Pair-default-Ready-clause-read
returns-in-Pair-default-Ready-clause-read g c =
    let here = (goal.at.returns-in-Pair-default-Ready-clause-read g c).In-Pair-default-Ready in
    ended_read c.args.manifest.now c.generation-generation.ensures.manifest c.requires.safe.may c.args.places.now.at c.in-Pair-default-Ready.mark c.in-Pair-default-Ready.made g.D.Disk c.args.disk.now (unchanged_yet g.D.Disk g.met.D.Disk.only_now c.args.disk.now) (pair_built g here) c.end_building-checkpoint.result.1 c.end_building-checkpoint.ensures.refused
