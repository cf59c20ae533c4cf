use Rattle.std.proofs.Common.{sym, ◌∙◌}
use Rattle.mvo_core.proofs.GivenUp.{failed, reader_failed, reader_stays}
use Rattle.mvo_core.proofs.event_core.Core.give_up.Goals as goal

pub returns-then-is_failure-clause-left : goal.returns-then-is_failure-clause-left
returns-then-is_failure-clause-left c = failed c.args.self.now c.abort.new.self c.args.tx.id.0 c.args.refusal (sym c.is_failure.ensures ∙ c.if-is_failure.true) c.abort.ensures.others

pub returns-then-is_failure-clause-reader : goal.returns-then-is_failure-clause-reader
returns-then-is_failure-clause-reader c = reader_failed c.args.self.now c.abort.new.self c.args.tx.id.0 c.args.refusal (sym c.is_failure.ensures ∙ c.if-is_failure.true) c.abort.ensures.readers

pub returns-else-is_failure-clause-reader : goal.returns-else-is_failure-clause-reader
returns-else-is_failure-clause-reader c = reader_stays c.args.self.now c.args.tx.id.0 c.args.refusal (sym c.is_failure.ensures ∙ c.if-is_failure.false)
