use Rattle.std.proofs.Common.{sym, subst}
use Rattle.mvo_theory.specs.Told.{history_told}
use Rattle.mvo_core.specs.Readers.{no_readers}
use Rattle.mvo_core.specs.Data.{CoreData}
use Rattle.mvo_core.specs.View.{core_data}
use Rattle.mvo_core.specs.Standing.{StandsFor}
use Rattle.mvo_core.specs.WholeStanding.{StandsWhole, readers_of}
use Rattle.mvo_core.proofs.ToldJust.{has_just}
use Rattle.mvo_core.proofs.event_core.Core.holds.Goals as goal

pub returns-clause-just : goal.returns-clause-just
returns-clause-just c = λ opening steps s h.
    let old : CoreData = core_data c.self.inside in
    has_just no_readers opening steps s old (subst (StandsFor opening steps s) (sym c.self.view_is) h) c.args.tx.0 (history_told c.args.told.now) c.has_told.result c.has_told.ensures

pub returns-clause-whole : goal.returns-clause-whole
returns-clause-whole c = λ opening steps own w h.
    let old : CoreData = core_data c.self.inside in
    has_just (readers_of w) opening own w.core old (subst (StandsWhole opening steps own w) (sym c.self.view_is) h).core c.args.tx.0 (history_told c.args.told.now) c.has_told.result c.has_told.ensures
