use Rattle.std.proofs.Common.{arith, ap, sym, subst, List, ℕ, length, length-append}
use Rattle.mvo_group.specs.declared.write.Write.{Write as RustWrite}
use Rattle.mvo_group.specs.Data.{write_data}
use Rattle.mvo_group.specs.Rules.{KeepsLimits}
use Rattle.mvo_group.specs.Body.{write_bytes}
use Rattle.mvo_group.proofs.Sizes.{limits_at, writes_room}
use Rattle.mvo_group.proofs.encode.append_writes.Goals as goal

pub append_write-requires-clause-limits : goal.append_write-requires-clause-limits
append_write-requires-clause-limits c =
    subst (λ (w : RustWrite). KeepsLimits (write_data w)) (sym c.write-item.is) (limits_at c.args.writes.now c.loop-write.write-index c.write-item.result c.loop-write-test.true c.requires.limits)

pub append_write-requires-clause-room : goal.append_write-requires-clause-room
append_write-requires-clause-room c =
    omega (arith, c.requires.room, c.loop-write.invariant.room, simp length-append at (ap (λ (l : List ℕ). length l) c.loop-write.invariant.items), writes_room c.args.writes.now c.loop-write.write-index c.write-item.result c.loop-write-test.true, ap (λ (w : RustWrite). length (write_bytes (write_data w))) c.write-item.is)
