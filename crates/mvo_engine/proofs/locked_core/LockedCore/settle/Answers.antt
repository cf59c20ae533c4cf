use Rattle.std.proofs.Common.{◌+◌, ℕ, Bool, true, false, Ok, inl, inr, refl, sym, ap, ◌∙◌, subst}
use Rattle.mvo_model.specs.History.{History}
use Rattle.mvo_theory.specs.Told.{history_told}
use Rattle.mvo_theory.specs.Calls.Call.{Settle}
use Rattle.mvo_core.specs.declared.answers.Settlement.{Settlement}
use Rattle.mvo_core.specs.Holding.{HoldsJustWhole}
use Rattle.mvo_core.specs.WholeEnds.{IsSettlementWhole}
use Rattle.mvo_core.specs.WholeStanding.{IsWholeStep}
use Rattle.mvo_core.specs.Receipts.{Receipt, receipt}
use Rattle.mvo_engine.specs.run.Receiving.{AreBelow}
use Rattle.mvo_engine.proofs.run.Receiving.{below_from}
use Rattle.mvo_engine.proofs.CoreSound.{stays_sound}
use Rattle.mvo_engine.proofs.Booked.{committed, waited, refused, ends_from, start_up, spare_later}
use Rattle.mvo_engine.proofs.locked_core.LockedCore.settle.Goals as goal

pub add-requires-clause-above : goal.add-requires-clause-above
add-requires-clause-above g c =
    let old = c.self.inside.core in
    let new = c.settle.new.self in
    let e = c.in-Ok-Committed.ensures in
    let q = c.in-Ok-Committed.field-0-is in
    let up = ends_from g.L.Run.watched c.self.invariant.1 c.args.tx c.in-Ok-Committed.end new
    (subst (λ (a : Settlement). IsWholeStep {A = Settlement} old (Settle c.args.tx.0) (Ok a) new) q e.whole)
    (subst (λ (a : Settlement). IsSettlementWhole old c.args.tx.0 a) q e.whole_answer) in
    subst (λ (n : ℕ). AreBelow n c.args.mine.now.list) (sym (ap (λ (r : Receipt). r.end) c.new.ensures)) (below_from c.args.tx.0 _ _ c.requires.above up)

pub returns-in-Ok-Committed-clause-step : goal.returns-in-Ok-Committed-clause-step
returns-in-Ok-Committed-clause-step g c =
    let old = c.self.inside.core in
    let new = c.settle.new.self in
    let was : HoldsJustWhole old c.args.tx.0 (history_told c.operations.result.now) true = subst (λ (b : Bool). HoldsJustWhole old c.args.tx.0 (history_told c.operations.result.now) b) c.if-not-holds.false c.holds.ensures.whole in
    let told : HoldsJustWhole old c.args.tx.0 c.args.told.now true = subst (λ (h : History). HoldsJustWhole old c.args.tx.0 h true) c.operations.ensures was in
    let step = subst (λ (a : Settlement). IsWholeStep {A = Settlement} old (Settle c.args.tx.0) (Ok a) new) c.in-Ok-Committed.field-0-is c.in-Ok-Committed.ensures.whole in
    rw (← c.self.view_is) (inl (told, record { step = step; sends = refl; made = refl }))

pub returns-in-Ok-Waiting-clause-step : goal.returns-in-Ok-Waiting-clause-step
returns-in-Ok-Waiting-clause-step g c =
    let old = c.self.inside.core in
    let new = c.settle.new.self in
    let was : HoldsJustWhole old c.args.tx.0 (history_told c.operations.result.now) true = subst (λ (b : Bool). HoldsJustWhole old c.args.tx.0 (history_told c.operations.result.now) b) c.if-not-holds.false c.holds.ensures.whole in
    let told : HoldsJustWhole old c.args.tx.0 c.args.told.now true = subst (λ (h : History). HoldsJustWhole old c.args.tx.0 h true) c.operations.ensures was in
    let step = subst (λ (a : Settlement). IsWholeStep {A = Settlement} old (Settle c.args.tx.0) (Ok a) new) c.in-Ok-Waiting.field-0-is c.in-Ok-Waiting.ensures.whole in
    rw (← c.self.view_is) (inl (told, record { step = step; sends = refl; made = refl }))

pub returns-in-Err-clause-step : goal.returns-in-Err-clause-step
returns-in-Err-clause-step g c =
    let old = c.self.inside.core in
    let new = c.settle.new.self in
    let was : HoldsJustWhole old c.args.tx.0 (history_told c.operations.result.now) true = subst (λ (b : Bool). HoldsJustWhole old c.args.tx.0 (history_told c.operations.result.now) b) c.if-not-holds.false c.holds.ensures.whole in
    let told : HoldsJustWhole old c.args.tx.0 c.args.told.now true = subst (λ (h : History). HoldsJustWhole old c.args.tx.0 h true) c.operations.ensures was in
    rw (← c.self.view_is) (inl (told, record { step = c.in-Err.ensures.whole; sends = refl; made = refl }))

pub invariant_of-self : goal.invariant_of-self
invariant_of-self g c =
    let i = c.self.invariant in
    let old = c.self.inside.core in
    let new = c.settle.new.self in
    let e = c.in-Ok-Committed.ensures in
    let q = c.in-Ok-Committed.field-0-is in
    let end = c.in-Ok-Committed.end in
    let step = subst (λ (a : Settlement). IsWholeStep {A = Settlement} old (Settle c.args.tx.0) (Ok a) new) q e.whole in
    let answer = subst (λ (a : Settlement). IsSettlementWhole old c.args.tx.0 a) q e.whole_answer in
    let holds : HoldsJustWhole old c.args.tx.0 c.args.told.now c.holds.result = subst (λ (h : History). HoldsJustWhole old c.args.tx.0 h c.holds.result) c.operations.ensures c.holds.ensures.whole in
    let added = c.new.ensures ∙ ap (receipt c.args.tx.0 end.0) c.take.ensures.told in
    let counts = c.add.ensures.total ∙ ap (λ (r : Receipt). c.self.inside.book.total + g.L.Run.watched.weigh r) added in (
      stays_sound i.0 c.settle.result c.settle.ensures.whole refl,
      committed g.L.Run.watched i.1 c.args.tx end c.args.told.now c.holds.result new c.add.new.book.total step answer holds c.if-not-holds.false counts,
      spare_later _ i.2 (start_up g.L.Run.watched i.1 _ c.settle.result c.settle.new.self c.settle.ensures.whole),
    )

pub invariant_of-self-in-Ok-Waiting : goal.invariant_of-self-in-Ok-Waiting
invariant_of-self-in-Ok-Waiting g c =
    let i = c.self.invariant in
    let old = c.self.inside.core in
    let new = c.settle.new.self in
    let e = c.in-Ok-Waiting.ensures in
    let q = c.in-Ok-Waiting.field-0-is in (
      stays_sound i.0 c.settle.result c.settle.ensures.whole refl,
      waited g.L.Run.watched i.1 c.args.tx c.in-Ok-Waiting.other new
          (subst (λ (a : Settlement). IsWholeStep {A = Settlement} old (Settle c.args.tx.0) (Ok a) new) q e.whole)
          (subst (λ (a : Settlement). IsSettlementWhole old c.args.tx.0 a) q e.whole_answer),
      spare_later _ i.2 (start_up g.L.Run.watched i.1 _ c.settle.result c.settle.new.self c.settle.ensures.whole),
    )

pub invariant_of-self-in-Err : goal.invariant_of-self-in-Err
invariant_of-self-in-Err g c =
    let i = c.self.invariant in
    let new = c.settle.new.self in (
      stays_sound i.0 c.settle.result c.settle.ensures.whole refl,
      refused g.L.Run.watched i.1 c.args.tx c.in-Err.refusal new c.in-Err.ensures.whole,
      spare_later _ i.2 (start_up g.L.Run.watched i.1 _ c.settle.result c.settle.new.self c.settle.ensures.whole),
    )

pub returns-in-Ok-Committed-clause-answer : goal.returns-in-Ok-Committed-clause-answer
returns-in-Ok-Committed-clause-answer g c =
    rw (← c.self.view_is) (subst (λ (a : Settlement). IsSettlementWhole c.self.inside.core c.args.tx.0 a) c.in-Ok-Committed.field-0-is c.in-Ok-Committed.ensures.whole_answer)

pub returns-in-Ok-Waiting-clause-answer : goal.returns-in-Ok-Waiting-clause-answer
returns-in-Ok-Waiting-clause-answer g c =
    rw (← c.self.view_is) (subst (λ (a : Settlement). IsSettlementWhole c.self.inside.core c.args.tx.0 a) c.in-Ok-Waiting.field-0-is c.in-Ok-Waiting.ensures.whole_answer)

pub returns-then-not-holds-clause-step : goal.returns-then-not-holds-clause-step
returns-then-not-holds-clause-step g c =
    let old = c.self.inside.core in
    let was : HoldsJustWhole old c.args.tx.0 (history_told c.operations.result.now) false = subst (λ (b : Bool). HoldsJustWhole old c.args.tx.0 (history_told c.operations.result.now) b) c.if-not-holds.true c.holds.ensures.whole in
    let told : HoldsJustWhole old c.args.tx.0 c.args.told.now false = subst (λ (h : History). HoldsJustWhole old c.args.tx.0 h false) c.operations.ensures was in
    rw (← c.self.view_is) (inr (told, refl, refl))
