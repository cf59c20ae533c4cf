use Rattle.std.proofs.Common.{arith, ap, List, ℕ, length, length-append}
use Rattle.std.proofs.lemmas.List.Folds.{length-flat_map-take}
use Rattle.mvo_group.specs.Data.{RecordData}
use Rattle.mvo_group.specs.Body.{record_bytes}
use Rattle.mvo_group.proofs.encode.append_records.Goals as goal

pub append_record-requires-clause-room : goal.append_record-requires-clause-room
append_record-requires-clause-room c =
    omega (arith, c.requires.room, c.loop-commit.invariant.room, simp length-append at (ap (λ (l : List ℕ). length l) c.loop-commit.invariant.items), length-flat_map-take record_bytes c.args.records.now c.loop-commit.commit-index c.commit-item.result c.loop-commit-test.true, ap (λ (r : RecordData). length (record_bytes r)) c.commit-item.is)
