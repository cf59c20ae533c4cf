use Rattle.std.proofs.Common.{◌≡◌, ◌<◌, inr, ap, subst, arith, Result, Bool}
use Rattle.std.specs.Prelude.{IfErr, OnOk, OnErr}
use Rattle.mvo_disk.specs.Disk.{IsHonest}
use Rattle.mvo_types.specs.declared.refusal.Refusal.{Refusal}
use Rattle.mvo_load.proofs.Unchanged.{unchanged_yet, gives_any, then_misread}
use Rattle.mvo_store.specs.declared.merge.reading.MergeReading.{MergeReading}
use Rattle.mvo_store.specs.declared.merge.merge_job.MergeJob.TheVariants.{Reading}
use Rattle.mvo_store.specs.Files.{files_taken}
use Rattle.mvo_store.specs.PairsRead.{AreReadOn, IsRightRead}
use Rattle.mvo_store.specs.ReadSlices.{IsEndRefusal, IsEndedTo}
use Rattle.mvo_store.proofs.ReadOn.{side_file, slice_further, slice_why, slice_stop, turned_further, turn_why, turn_stop, end_misread, end_never, ended_slice}
use Rattle.mvo_store.proofs.merge.reading.read_next.Goals as goal

pub read_slice-requires-clause-file : goal.read_slice-requires-clause-file
read_slice-requires-clause-file g c = side_file c.args.manifest.now c.args.reading c.requires.safe

pub returns-in-Ok-clause-done : goal.returns-in-Ok-clause-done
returns-in-Ok-clause-done g c =
    let r = c.args.reading in
    let some : r.so_far.count < r.reading.pair.records = grind (arith, c.is_side_whole.ensures) in
    slice_further (IsHonest (g.D.Disk.moment c.read_slice.new.disk)) (g.D.Disk.content c.args.disk.now) c.args.manifest.now r c.requires.safe c.read_slice.new.self c.in-Ok.ensures.slice some (c.in-Ok.ensures.further some)

pub returns-in-Err-clause-err : goal.returns-in-Err-clause-err
returns-in-Err-clause-err g c = ap (λ (k : MergeReading). Reading k) c.in-Err.ensures.err

pub returns-in-Err-clause-why : goal.returns-in-Err-clause-why
returns-in-Err-clause-why g c = slice_why (IsHonest (g.D.Disk.moment c.read_slice.new.disk)) (g.D.Disk.content c.args.disk.now) c.args.manifest.now c.args.reading c.requires.safe c.in-Err.e c.in-Err.ensures.broken

pub returns-in-Err-clause-stop : goal.returns-in-Err-clause-stop
returns-in-Err-clause-stop g c = slice_stop (IsHonest (g.D.Disk.moment c.read_slice.new.disk)) (g.D.Disk.content c.args.disk.now) c.args.manifest.now c.args.reading c.requires.safe c.in-Err.e c.in-Err.ensures.broken

pub turn_right-requires-clause-right : goal.turn_right-requires-clause-right
turn_right-requires-clause-right g c = c.requires.safe.right_files

pub turn_right-requires-clause-read : goal.turn_right-requires-clause-read
turn_right-requires-clause-read g c = subst (λ (b : Bool). AreReadOn b c.args.reading) c.if-reading.true c.requires.safe.read

pub returns-in-Ok-turn_right-clause-done : goal.returns-in-Ok-turn_right-clause-done
returns-in-Ok-turn_right-clause-done g c =
    turned_further (IsHonest (g.D.Disk.moment c.turn_right.new.disk)) (g.D.Disk.content c.args.disk.now) c.args.manifest.now c.args.reading c.requires.safe c.generation-generation.ensures.manifest c.turn_right.new.self c.in-Ok-turn_right.ensures.turned c.if-reading.true

pub returns-in-Err-turn_right-clause-err : goal.returns-in-Err-turn_right-clause-err
returns-in-Err-turn_right-clause-err g c = ap (λ (k : MergeReading). Reading k) c.in-Err-turn_right.ensures.err

pub returns-in-Err-turn_right-clause-why : goal.returns-in-Err-turn_right-clause-why
returns-in-Err-turn_right-clause-why g c = turn_why (IsHonest (g.D.Disk.moment c.turn_right.new.disk)) (g.D.Disk.content c.args.disk.now) c.args.manifest.now c.args.reading c.requires.safe c.in-Err-turn_right.e c.in-Err-turn_right.ensures.refused

pub returns-in-Err-turn_right-clause-stop : goal.returns-in-Err-turn_right-clause-stop
returns-in-Err-turn_right-clause-stop g c = turn_stop (IsHonest (g.D.Disk.moment c.turn_right.new.disk)) (g.D.Disk.content c.args.disk.now) c.args.manifest.now c.args.reading c.requires.safe c.in-Err-turn_right.e c.in-Err-turn_right.ensures.refused c.generation-generation.ensures.manifest

pub end_reading-merge-requires-clause-read : goal.end_reading-merge-requires-clause-read
end_reading-merge-requires-clause-read g c = subst (λ (b : Bool). AreReadOn b c.args.reading) c.if-reading.false c.requires.safe.read

pub returns-in-Ok-ended-clause-done : goal.returns-in-Ok-ended-clause-done
returns-in-Ok-ended-clause-done g c =
    let r = c.args.reading in
    let j = c.end_reading-merge.result.0 in
    let taken = files_taken c.args.other in
    let read : IsRightRead r = subst (λ (b : Bool). AreReadOn b r) c.if-reading.false c.requires.safe.read in
    let to : IsEndedTo c.args.manifest.now taken r j = subst (λ (x : Result (Unit {0}) Refusal). OnOk x (IsEndedTo c.args.manifest.now taken r j)) c.in-Ok-ended.is c.end_reading-merge.ensures.done in
    ended_slice c.args.manifest.now r c.requires.safe read c.if-reading.false taken (IsHonest (g.D.Disk.moment c.args.disk.now)) (g.D.Disk.content c.args.disk.now) (g.D.Disk.may_leave c.args.disk.now) j to

pub returns-in-Ok-ended-clause-read : goal.returns-in-Ok-ended-clause-read
returns-in-Ok-ended-clause-read g c = gives_any g.D.Disk _ _ _ tt (unchanged_yet g.D.Disk g.met.D.Disk.only_now c.args.disk.now)

pub returns-in-Err-ended-clause-err : goal.returns-in-Err-ended-clause-err
returns-in-Err-ended-clause-err g c = subst (λ (x : Result (Unit {0}) Refusal). OnErr x (c.end_reading-merge.result.0 ≡ Reading c.args.reading)) c.in-Err-ended.is c.end_reading-merge.ensures.err

pub returns-in-Err-ended-clause-why : goal.returns-in-Err-ended-clause-why
returns-in-Err-ended-clause-why g c =
    let refused : IsEndRefusal c.args.reading c.in-Err-ended.e = subst (λ (x : Result (Unit {0}) Refusal). IfErr x (IsEndRefusal c.args.reading)) c.in-Err-ended.is c.end_reading-merge.ensures.refused in
    inr (end_misread c.args.reading.is_left c.args.reading c.requires.safe.read c.in-Err-ended.e refused)

pub returns-in-Err-ended-clause-stop : goal.returns-in-Err-ended-clause-stop
returns-in-Err-ended-clause-stop g c =
    let refused : IsEndRefusal c.args.reading c.in-Err-ended.e = subst (λ (x : Result (Unit {0}) Refusal). IfErr x (IsEndRefusal c.args.reading)) c.in-Err-ended.is c.end_reading-merge.ensures.refused in
    λ honest h. absurd (end_never (g.D.Disk.content c.args.disk.now) c.args.manifest.now c.args.reading c.in-Err-ended.e refused h)

pub returns-in-Err-ended-clause-read : goal.returns-in-Err-ended-clause-read
returns-in-Err-ended-clause-read g c =
    let refused : IsEndRefusal c.args.reading c.in-Err-ended.e = subst (λ (x : Result (Unit {0}) Refusal). IfErr x (IsEndRefusal c.args.reading)) c.in-Err-ended.is c.end_reading-merge.ensures.refused in
    let broken = end_misread c.args.reading.is_left c.args.reading c.requires.safe.read c.in-Err-ended.e refused in
    then_misread g.D.Disk _ c.args.disk.now c.args.disk.now c.in-Err-ended.e broken (unchanged_yet g.D.Disk g.met.D.Disk.only_now c.args.disk.now)
