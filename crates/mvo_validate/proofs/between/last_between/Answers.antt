use Rattle.std.proofs.Common.{[], ◌∷◌, ◌++◌, map, filter, cond, ap, sym, ◌∙◌, subst, append_assoc}
use Rattle.std.specs.Option.{option_copied}
use Rattle.mvo_hash.specs.Lists.{number, numbers_of}
use Rattle.mvo_txn.specs.Txns.{state_of}
use Rattle.mvo_visible.specs.Versions.{versions_by}
use Rattle.mvo_visible.specs.Changes.{changes_by, greatest}
use Rattle.mvo_visible.specs.Shown.{HasFallingStamps}
use Rattle.mvo_visible.proofs.Walks.{falling_at, versions_more, versions_same, versions_at_stop}
use Rattle.mvo_validate.specs.Between.{stamp_between, is_before}
use Rattle.mvo_validate.specs.Entries.{has_sort}
use Rattle.mvo_validate.proofs.Windows.{seen_between, more, no_more}
use Rattle.mvo_validate.proofs.between.last_between.Goals as goal

pub loop-number-preserved-else-is_before : goal.loop-number-preserved-else-is_before
loop-number-preserved-else-is_before g c =
    let states = state_of c.args.table.now in
    let b = c.args.begin.0 in
    let e = c.args.end.0 in
    let p = has_sort c.args.sort in
    let slots = c.args.chains.now in
    let ns = c.loop-number.yielded in
    let n = c.in-Some.number in
    let v = c.in-Some-get.version.now in
    let there = ap option_copied (sym c.in-Some-get.is) ∙ c.get.ensures in (
      c.with_version-last.ensures
          ∙ ap (λ l. cond (p (n, v)) (greatest l (stamp_between b e (changes_by states (n, v)))) l) c.loop-number.invariant.0
          ∙ sym (more states b e p (versions_by slots ns) (n, v))
          ∙ ap (λ vs. seen_between states b e (filter p vs)) (sym (versions_more slots ns n v there)),
      c.loop-number.invariant.1 ∙ ap (λ it. ns ++ it) c.in-Some.ensures.steps ∙ sym (append_assoc ns (n ∷ []) c.next.new.self),
    )

pub loop-number-preserved : goal.loop-number-preserved
loop-number-preserved g c =
    let states = state_of c.args.table.now in
    let p = has_sort c.args.sort in
    let slots = c.args.chains.now in
    let ns = c.loop-number.yielded in
    let n = c.in-Some.number in
    let there = ap option_copied (sym c.in_default.is) ∙ c.get.ensures in (
      c.loop-number.invariant.0 ∙ ap (λ vs. seen_between states c.args.begin.0 c.args.end.0 (filter p vs)) (sym (versions_same slots ns n there)),
      c.loop-number.invariant.1 ∙ ap (λ it. ns ++ it) c.in-Some.ensures.steps ∙ sym (append_assoc ns (n ∷ []) c.next.new.self),
    )

pub returns-then-is_before : goal.returns-then-is_before
returns-then-is_before g c falling =
    let states = state_of c.args.table.now in
    let b = c.args.begin.0 in
    let e = c.args.end.0 in
    let p = has_sort c.args.sort in
    let slots = c.args.chains.now in
    let ns = c.loop-number.yielded in
    let all = map number (numbers_of c.args.index.now.versions c.args.key) in
    let n = c.in-Some.number in
    let v = c.in-Some-get.version.now in
    let there = ap option_copied (sym c.in-Some-get.is) ∙ c.get.ensures in
    let every = c.loop-number.invariant.1 ∙ ap (λ it. ns ++ it) c.in-Some.ensures.steps in
    let split = versions_at_stop slots all ns n v c.next.new.self every there in
    let front = versions_by slots ns in
    let back = versions_by slots c.next.new.self in
    c.with_version-last.ensures
    ∙ ap (λ l. cond (p (n, v)) (greatest l (stamp_between b e (changes_by states (n, v)))) l) c.loop-number.invariant.0
    ∙ sym (more states b e p front (n, v))
    ∙ no_more states b e p front (n, v) back (ap (is_before b) (sym c.seen_by_others.ensures) ∙ sym c.is_before.ensures ∙ c.if-is_before.true) (falling_at states front (n, v) back (subst (λ vs. HasFallingStamps states vs) split falling))
    ∙ ap (λ vs. seen_between states b e (filter p vs)) (append_assoc front ((n, v) ∷ []) back ∙ sym split)
