use Rattle.std.proofs.Common.{sym, ◌∙◌}
use Rattle.mvo_store.proofs.Keeping.{due_first}
use Rattle.mvo_store.proofs.store.Store.why_not_open.Goals as goal

pub returns-in-Some : goal.returns-in-Some
returns-in-Some g c = sym (due_first c.args.self.now c.in-Some.refusal (sym c.why_not_due.ensures ∙ c.in-Some.is))
