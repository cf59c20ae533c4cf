use Rattle.std.proofs.Common.{◌∷◌}
use Rattle.std.specs.Option.{option_to_list}
use Rattle.mvo_core.specs.Keeping.{HasWrittenMore}
use Rattle.mvo_core.proofs.Written.{written}
use Rattle.mvo_core.proofs.depending.write.Goals as goal

pub returns : goal.returns
returns c =
    written c.args.table.now c.args.tx.id.0 c.in-Some.node.now c.write.new.self (HasWrittenMore (c.args.word ∷ option_to_list c.args.other)) c.in-Some.ensures.value
    c.write.ensures
