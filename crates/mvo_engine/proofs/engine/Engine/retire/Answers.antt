use Rattle.std.proofs.Common.{refl, sym, ◌∙◌}
use Rattle.mvo_engine.proofs.Retiring.{in_tx, with_receipts, retired_so}
use Rattle.mvo_engine.proofs.engine.Engine.retire.Goals as goal

pub returns-then-has_tx : goal.returns-then-has_tx
returns-then-has_tx g c =
    (refl, in_tx c.args.session c.args.session.tx refl (sym c.has_tx.ensures ∙ c.if-has_tx.true))

pub returns-then-not-forget_up_to : goal.returns-then-not-forget_up_to
returns-then-not-forget_up_to g c =
    let f = c.forget_up_to in
    let t = c.tale_start in
    (refl, with_receipts c.args.session f.new.self c.deref.result.now t.result.0 f.result t.ensures.sound t.ensures.start f.ensures.forgotten f.ensures.some c.if-not-forget_up_to.true)

pub returns : goal.returns
returns g c =
    let f = c.forget_up_to in
    let t = c.tale_start in
    let b = c.take_back in
    let same = c.deref.ensures ∙ sym c.deref_mut.ensures.value in
    let none = f.ensures.none c.if-not-forget_up_to.false in
    retired_so c.args.session f.new.self c.deref.result.now c.deref_mut.result.now b.new.self t.result.0 (sym c.has_tx.ensures ∙ c.if-has_tx.false) t.ensures.sound t.ensures.start same f.ensures.forgotten none.0 b.ensures.fewer b.ensures.rest
