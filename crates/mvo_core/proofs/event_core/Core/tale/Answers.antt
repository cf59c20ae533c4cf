use Rattle.std.proofs.Common.{sym, ap, subst}
use Rattle.mvo_txn.specs.Txns.{state_of}
use Rattle.mvo_core.specs.Data.{CoreData}
use Rattle.mvo_tale.specs.Slots.{ends, AreRising}
use Rattle.mvo_core.specs.Trimming.{IsTaleOf}
use Rattle.mvo_core.proofs.Trimmed.{tale_is}
use Rattle.mvo_core.specs.WholeTales.{IsWholeTaleOf}
use Rattle.mvo_core.proofs.WholeTales.{whole_tale_is}
use Rattle.mvo_core.proofs.event_core.Core.tale.Goals as goal

pub returns-clause-stored : goal.returns-clause-stored
returns-clause-stored c = λ opening steps s h.
    let now = c.args.self.now in
    subst (λ slots. IsTaleOf s (state_of now.table) now.versions.slots slots) (sym (ap (λ (x : CoreData). x.tale) c.self.view_is)) (tale_is opening steps s now h)

pub returns-clause-whole : goal.returns-clause-whole
returns-clause-whole c = λ opening steps own w h.
    let now = c.args.self.now in
    let same = sym (ap (λ (x : CoreData). x.tale) c.self.view_is) in
    subst (λ slots. IsWholeTaleOf w (state_of now.table) now.versions.slots slots) same
    (whole_tale_is opening steps own w now h (subst (λ xs. AreRising (ends xs)) (sym same) c.len.ensures.rising))
