use Rattle.std.proofs.Common.{◌≤◌, ap, ◌∙◌, arith}
use Rattle.mvo_engine.specs.States.{CoreState}
use Rattle.mvo_engine.proofs.Pouring.{booked_count}
use Rattle.mvo_engine.proofs.locked_core.LockedCore.tally.Goals as goal

pub returns-then-self-gt0-clause-all : goal.returns-then-self-gt0-clause-all
returns-then-self-gt0-clause-all g c =
    let i = c.self.invariant in
    let s = c.self.inside in
    let same = c.replace-all.ensures.value ∙ c.empty-none.ensures.same in
    let parts = rw (same, c.audit.ensures.parts) at c.merge.ensures.parts in
    let amount = rw (same, c.audit.ensures.amount) at c.merge.ensures.amount in
    let apart = c.merge.ensures.apart in
    let spare = i.2.spare_parts in
    let needs : s.made ≤ c.args.whole.parts = rw (ap (λ (t : CoreState). t.made) c.self.view_is) c.requires in
    let total = c.audit-2.ensures.whole (omega (arith, parts, apart, spare, needs)) ∙ c.audit.ensures.total in
    rw (← c.self.view_is) (booked_count g.L.Run.watched s.core s.book.total c.args.whole.amount i.1 (λ low. let none = i.2.spare_amount low in omega (arith, none, amount, total)))

pub returns-else-self-gt0-clause-all : goal.returns-else-self-gt0-clause-all
returns-else-self-gt0-clause-all g c =
    let i = c.self.invariant in
    let s = c.self.inside in
    let same = c.replace-all.ensures.value ∙ c.empty-none.ensures.same in
    let parts = rw (same, c.audit.ensures.parts) at c.merge.ensures.parts in
    let amount = rw (same, c.audit.ensures.amount) at c.merge.ensures.amount in
    let apart = c.merge.ensures.apart in
    let spare = i.2.spare_parts in
    let needs : s.made ≤ c.args.whole.parts = rw (ap (λ (t : CoreState). t.made) c.self.view_is) c.requires in
    let total = c.audit-2.ensures.whole (omega (arith, parts, apart, spare, needs)) ∙ c.audit.ensures.total in
    rw (← c.self.view_is) (booked_count g.L.Run.watched s.core s.book.total c.args.whole.amount i.1 (λ low. let none = i.2.spare_amount low in omega (arith, none, amount, total)))
