use Rattle.std.proofs.Common.{sym, subst}
use Rattle.mvo_core.specs.Data.{CoreData}
use Rattle.mvo_core.specs.View.{core_data}
use Rattle.mvo_core.specs.WholeStanding.{StandsWhole}
use Rattle.mvo_core.proofs.NextActive.{next_whole}
use Rattle.mvo_core.proofs.event_core.Core.next_active.Goals as goal

pub returns-clause-whole : goal.returns-clause-whole
returns-clause-whole c = λ opening steps own w h.
    let old : CoreData = core_data c.self.inside in
    next_whole opening steps own w old (subst (StandsWhole opening steps own w) (sym c.self.view_is) h) c.args.from.0 c.args.below.0 c.next_in.result c.next_in.ensures
