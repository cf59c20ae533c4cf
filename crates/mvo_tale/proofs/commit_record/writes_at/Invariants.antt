use Rattle.std.proofs.Common.{◌≡◌, map, take}
use Rattle.mvo_group.specs.Data.{write_data}
use Rattle.mvo_tale.specs.Records.{net_writes}
use Rattle.mvo_theory.specs.Told.{history_told}
use Rattle.mvo_tale.proofs.commit_record.writes_at.Given as goal

abbrev pub invariant-loop-place : goal.invariant-loop-place
invariant-loop-place l = map write_data l.writes.items ≡ net_writes (history_told l.operations) (take l.place l.keys)
