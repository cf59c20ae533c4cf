use Rattle.std.proofs.Common.{◌≡◌, [], ◌∷◌, ◌++◌, ap, sym, refl, ◌∙◌, subst, append_assoc, append-nil}
use Rattle.std.specs.Option.{option_copied}
use Rattle.mvo_txn.specs.Txns.{state_of}
use Rattle.mvo_visible.specs.declared.walked.Walked.{Walked}
use Rattle.mvo_visible.specs.Versions.{versions_by}
use Rattle.mvo_visible.specs.Shown.{own_or, HasFallingStamps, HasOwnInFront}
use Rattle.mvo_visible.specs.Walked.{walked_over, walked_on}
use Rattle.mvo_visible.proofs.Walks.{versions_more, versions_same, versions_at_stop, walked_later, walked_more, walked_stop, falling_at, own_first}
use Rattle.mvo_visible.proofs.Settled.{last_settled, walked_settled}
use Rattle.mvo_visible.proofs.visible.shown_on.Goals.{in-None, in-Some+in-Some-get+in-Some-settled_put, in-Some+in-Some-get+in_default-settled_put+else-is_later+then-is_last}
use Rattle.mvo_visible.proofs.visible.shown_on.Goals as goal

pub loop-number-init : goal.loop-number-init
loop-number-init g c = (refl, sym c.into_iter-number-iterator.ensures.into_iter_gives)

pub loop-number-preserved-else-is_last : goal.loop-number-preserved-else-is_last
loop-number-preserved-else-is_last g c =
    let states = state_of c.args.table.now in
    let b = c.args.at.0 in
    let r = c.args.reader.0 in
    let slots = c.args.chains.now in
    let ns = c.loop-number.yielded in
    let n = c.in-Some.number in
    let v = c.in-Some-get.version.now in
    let there = ap option_copied (sym c.in-Some-get.is) ∙ c.get.ensures in (
      c.on-walked.ensures ∙ ap (λ w. walked_on states b r w (n, v)) c.loop-number.invariant.0
          ∙ sym (walked_more states b r (versions_by slots ns) (n, v))
          ∙ ap (walked_over states b r) (sym (versions_more slots ns n v there)),
      c.loop-number.invariant.1 ∙ ap (λ it. ns ++ it) c.in-Some.ensures.steps ∙ sym (append_assoc ns (n ∷ []) c.next.new.self),
    )

pub loop-number-preserved-then-is_later : goal.loop-number-preserved-then-is_later
loop-number-preserved-then-is_later g c =
    let states = state_of c.args.table.now in
    let b = c.args.at.0 in
    let r = c.args.reader.0 in
    let slots = c.args.chains.now in
    let ns = c.loop-number.yielded in
    let n = c.in-Some.number in
    let v = c.in-Some-get.version.now in
    let there = ap option_copied (sym c.in-Some-get.is) ∙ c.get.ensures in (
      c.loop-number.invariant.0
          ∙ sym (walked_later states b r (walked_over states b r (versions_by slots ns)) n v (sym c.is_later.ensures ∙ c.if-is_later.true))
          ∙ sym (walked_more states b r (versions_by slots ns) (n, v))
          ∙ ap (walked_over states b r) (sym (versions_more slots ns n v there)),
      c.loop-number.invariant.1 ∙ ap (λ it. ns ++ it) c.in-Some.ensures.steps ∙ sym (append_assoc ns (n ∷ []) c.next.new.self),
    )

pub loop-number-preserved : goal.loop-number-preserved
loop-number-preserved g c =
    let states = state_of c.args.table.now in
    let slots = c.args.chains.now in
    let ns = c.loop-number.yielded in
    let n = c.in-Some.number in
    let there = ap option_copied (sym c.in_default.is) ∙ c.get.ensures in (
      c.loop-number.invariant.0 ∙ ap (walked_over states c.args.at.0 c.args.reader.0) (sym (versions_same slots ns n there)),
      c.loop-number.invariant.1 ∙ ap (λ it. ns ++ it) c.in-Some.ensures.steps ∙ sym (append_assoc ns (n ∷ []) c.next.new.self),
    )

pub returns : goal.returns
returns g c order =
    let states = state_of c.args.table.now in
    let b = c.args.at.0 in
    let r = c.args.reader.0 in
    let slots = c.args.chains.now in
    let ns = c.loop-number.yielded in
    let all = c.args.walk in
    c.shown_by.ensures
    ∙ ap (λ (k : Walked). own_or k.own k.newest k.change)
    (elim c.match-next.branch as (λ _. c.match-next.walked ≡ walked_over states b r (versions_by slots all)) [
      | in-None w ↦
          let every : all ≡ ns = c.loop-number.invariant.1 ∙ ap (λ it. ns ++ it) w.in-None.ensures.steps.0 ∙ append-nil ns in
          w.walked-is ∙ c.loop-number.invariant.0 ∙ ap (λ ms. walked_over states b r (versions_by slots ms)) (sym every)
      | in-Some+in-Some-get+in-Some-settled_put w ↦
          let n = w.in-Some.number in
          let v = w.in-Some-get.version.now in
          let stamp = w.in-Some-settled_put.stamp in
          let put = sym w.settled_put.ensures ∙ w.in-Some-settled_put.is in
          let there = ap option_copied (sym w.in-Some-get.is) ∙ w.get.ensures in
          let every = c.loop-number.invariant.1 ∙ ap (λ it. ns ++ it) w.in-Some.ensures.steps in
          let split = versions_at_stop slots all ns n v c.next.new.self every there in
          let front = versions_by slots ns in
          let back = versions_by slots c.next.new.self in
          w.walked-is ∙ w.with_put-walked.ensures ∙ sym (walked_settled states b r c.loop-number.walked n v stamp put)
          ∙ ap (λ k. walked_on states b r k (n, v)) c.loop-number.invariant.0
          ∙ sym (walked_more states b r front (n, v))
          ∙ walked_stop states b r front (n, v) back (last_settled states b v stamp put) (falling_at states front (n, v) back (subst (λ vs. HasFallingStamps states vs) split order.falling)) (own_first states b r front (n, v) back (subst (λ vs. HasOwnInFront states b r vs) split order.own))
          ∙ ap (walked_over states b r) (sym split)
      | in-Some+in-Some-get+in_default-settled_put+else-is_later+then-is_last w ↦
          let n = w.in-Some.number in
          let v = w.in-Some-get.version.now in
          let there = ap option_copied (sym w.in-Some-get.is) ∙ w.get.ensures in
          let every = c.loop-number.invariant.1 ∙ ap (λ it. ns ++ it) w.in-Some.ensures.steps in
          let split = versions_at_stop slots all ns n v c.next.new.self every there in
          let front = versions_by slots ns in
          let back = versions_by slots c.next.new.self in
          w.walked-is ∙ w.on-walked.ensures ∙ ap (λ k. walked_on states b r k (n, v)) c.loop-number.invariant.0
          ∙ sym (walked_more states b r front (n, v))
          ∙ walked_stop states b r front (n, v) back (sym w.is_last.ensures ∙ w.if-is_last.true) (falling_at states front (n, v) back (subst (λ vs. HasFallingStamps states vs) split order.falling)) (own_first states b r front (n, v) back (subst (λ vs. HasOwnInFront states b r vs) split order.own))
          ∙ ap (walked_over states b r) (sym split)
    ])
