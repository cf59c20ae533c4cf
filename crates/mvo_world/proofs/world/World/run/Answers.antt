use Rattle.std.proofs.Common.{arith, ◌≡◌, ◌++◌, ◌∷◌, ◌+◌, [], List, length, take, refl, ap, ◌∙◌, sym, subst, length-append}
use Rattle.std.proofs.lemmas.List.{take_more, take_all, length-take-le}
use Rattle.mvo_readonly.proofs.Serials.{whole_is_serial}
use Rattle.mvo_world.specs.Past.{Past, with_events}
use Rattle.mvo_world.specs.Standing.{IsAfter}
use Rattle.mvo_world.specs.Steps.{IsRunStep, AreSteps}
use Rattle.mvo_world.specs.declared.event.Event.{Event}
use Rattle.mvo_world.specs.declared.reply.Reply.{Reply}
use Rattle.mvo_world.proofs.Runs.{with_events-push, steps-push}
use Rattle.mvo_world.proofs.world.World.run.Goals as goal

pub loop-event-init : goal.loop-event-init
loop-event-init g c =
    let none = c.in_ok-reserve.ensures.items ∙ c.new-replies.ensures.items in
    record {
      many = ap length none;
      room = let room = c.in_ok-reserve.ensures.ok in omega arith;
      each = subst (λ (rs : List Reply). AreSteps (IsRunStep g.D.Disk) c.args.self.now [] rs c.args.self.now) (sym none) refl;
      after = λ past h. h;
    }

pub push_reserved-requires : goal.push_reserved-requires
push_reserved-requires g c = let m = c.loop-event.invariant.many in let r = c.loop-event.invariant.room in let lt = c.loop-event-test.true in omega arith

pub loop-event-preserved : goal.loop-event-preserved
loop-event-preserved g c =
    let d = g.D.Disk in
    let i = c.loop-event.event-index in
    let es = c.args.events.now in
    let e = c.event-item.result in
    let r = c.step_copy-reply.result in
    let rs = c.loop-event.replies.items in
    let later = c.step_copy-reply.new.self in
    let before = c.loop-event.invariant in
    let pushed : c.push_reserved.new.items.items ≡ rs ++ r ∷ [] = c.push_reserved.ensures.items in
    let events : take (i + 1) es ≡ take i es ++ e ∷ [] = take_more es i e c.loop-event-test.true ∙ ap (λ (x : Event). take i es ++ x ∷ []) (sym c.event-item.is) in
    let many : length rs ≡ length (take i es) = before.many ∙ sym (length-take-le i es (omega arith)) in
    let step = c.step_copy-reply.ensures in
    record {
      many = ap length pushed ∙ length-append rs (r ∷ []) ∙ ap (λ n. n + 1) before.many;
      room = let a = before.room in let b = c.push_reserved.ensures.room in omega arith;
      each = subst (λ (xs : List Event). AreSteps (IsRunStep d) c.args.self.now xs c.push_reserved.new.items.items later) (sym events)
          (subst (λ (xs : List Reply). AreSteps (IsRunStep d) c.args.self.now (take i es ++ e ∷ []) xs later) (sym pushed)
          (steps-push (IsRunStep d) c.args.self.now (take i es) rs c.loop-event.self e r later before.each step));
      after = λ past h.
          let so_far = with_events past (take i es) rs in
          let now : with_events past (take (i + 1) es) c.push_reserved.new.items.items ≡ _ = ap (λ (xs : List Event). with_events past xs c.push_reserved.new.items.items) events ∙ ap (with_events past (take i es ++ e ∷ [])) pushed ∙ with_events-push past (take i es) rs e r many in
          subst (λ (p : Past). IsAfter d p later) (sym now) (step.after so_far (before.after past h));
    }

pub returns-clause-replies : goal.returns-clause-replies
returns-clause-replies g c = c.loop-event.invariant.many ∙ (let done = c.loop-event-test.false in omega arith)

pub returns-clause-after : goal.returns-clause-after
returns-clause-after g c = λ past h.
    subst (λ (es : List Event). IsAfter g.D.Disk (with_events past es c.loop-event.replies.items) c.loop-event.self) (take_all c.loop-event.event-index c.args.events.now (omega arith)) (c.loop-event.invariant.after past h)

pub returns-clause-serial : goal.returns-clause-serial
returns-clause-serial g c = λ past h.
    let after = returns-clause-after g c past h in
    let p = with_events past c.args.events.now c.loop-event.replies.items in
    whole_is_serial p.rows p.steps after.own.steps after.state after.core.kept

pub returns-clause-each : goal.returns-clause-each
returns-clause-each g c =
    subst (λ (es : List Event). AreSteps (IsRunStep g.D.Disk) c.args.self.now es c.loop-event.replies.items c.loop-event.self) (take_all c.loop-event.event-index c.args.events.now (omega arith)) c.loop-event.invariant.each
