use Rattle.std.proofs.Common.{arith, refl}
use Rattle.mvo_group.proofs.Allowed.{records_are}
use Rattle.mvo_group.proofs.Sizes.{body_small}
use Rattle.mvo_group.proofs.rules.keeps_rules.Goals as goal

pub len_of_body-requires : goal.len_of_body-requires
len_of_body-requires c = omega (arith, body_small c.args.records.now (omega arith) (records_are c.args.format c.args.records.now (c.if-not-are_records.ensures.answer.0 refl)))
