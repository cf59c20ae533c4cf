use Rattle.std.proofs.Common.{arith, ap}
use Rattle.mvo_group.specs.Data.{write_data}
use Rattle.mvo_group.specs.Rules.{write_len}
use Rattle.mvo_group.proofs.Sizes.{writes_part}
use Rattle.mvo_group.specs.declared.write.Write.{Write as RustWrite}
use Rattle.mvo_group.proofs.record.len_of.Goals as goal

pub encoded_len-len-requires : goal.encoded_len-len-requires
encoded_len-len-requires c =
    omega (arith, c.requires, writes_part c.args.writes.now c.loop-write.write-index c.write-item.result c.loop-write-test.true, ap (λ (w : RustWrite). write_len (write_data w)) c.write-item.is)

pub overflow_add-len : goal.overflow_add-len
overflow_add-len c =
    omega (arith, c.requires, c.loop-write.invariant, c.encoded_len-len.ensures, writes_part c.args.writes.now c.loop-write.write-index c.write-item.result c.loop-write-test.true, ap (λ (w : RustWrite). write_len (write_data w)) c.write-item.is)
