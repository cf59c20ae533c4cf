use Rattle.std.proofs.Common.{◌∙◌, sym}
use Rattle.mvo_store.specs.Calls.StoreStep.{Take}
use Rattle.mvo_store.proofs.Keeping.{refused_step}
use Rattle.mvo_store.proofs.store.Store.take_group.Goals as goal

pub returns-in-Some-clause-step : goal.returns-in-Some-clause-step
returns-in-Some-clause-step g c = refused_step g.D.Disk g.met.D.Disk.only_now _ (Take c.args.group) _ (sym c.can_take.ensures ∙ c.in-Some.is)
