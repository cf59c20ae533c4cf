use Rattle.std.proofs.Common.{length, refl, ap}
use Rattle.std.specs.Option.{option_map}
use Rattle.mvo_types.specs.declared.ids.TxId.{TxId}
use Rattle.mvo_engine.proofs.Forgetting.{begins_left, forgotten_all}
use Rattle.mvo_engine.proofs.session.Session.forget_up_to.Goals as goal

pub invariant_of-self : goal.invariant_of-self
invariant_of-self g c =
    let i = c.self.invariant in
    (i.0, begins_left c.forget.ensures.gone (option_map (λ (t : TxId). t.0) c.self.inside.tx) i.1)

pub returns-clause-forgotten : goal.returns-clause-forgotten
returns-clause-forgotten g c =
    let h = c.forget.ensures in
    (c.forget.result, forgotten_all c.args.start.0 (length c.list-all.result.now) c.forget.result c.args.start.0 _ c.args.self.now c.forget.new.self.list c.forget.new.self.forgotten c.self.view_is refl h.gone (ap length c.list-all.ensures.value) h.forgotten)
