use Rattle.std.proofs.Common.{sym}
use Rattle.mvo_core.specs.Keeping.{IsPlacedInTale}
use Rattle.mvo_core.proofs.WrittenThen.{written_prepared}
use Rattle.mvo_core.proofs.ending.prepare.Goals as goal

pub returns-clause-ok : goal.returns-clause-ok
returns-clause-ok c =
    written_prepared c.args.table.now c.args.tx.id.0 c.in_ok-node.node.now c.keep_place.new.self (IsPlacedInTale c.args.place c.args.taken) (sym c.in_ok-node.ensures.value)
    c.keep_place.ensures
