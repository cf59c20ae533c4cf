use Rattle.std.proofs.Common.{◌||◌, cond, Some, None, ap, sym, ◌∙◌}
use Rattle.std.specs.Option.{option_or}
use Rattle.mvo_txn.specs.Txns.{state_of}
use Rattle.mvo_visible.specs.Words.{seen_of, names}
use Rattle.mvo_visible.specs.Versions.{is_own_newest}
use Rattle.mvo_visible.specs.Changes.{deciding, later_change, put_of, removal_of}
use Rattle.mvo_visible.proofs.Decides.{deciding-append}
use Rattle.mvo_visible.proofs.visible.on.Goals as goal

pub returns : goal.returns
returns g c =
    let w = c.args.walked in
    let b = c.args.at.0 in
    let r = c.args.reader.0 in
    let n = c.args.number in
    let states = state_of c.args.table.now in
    let put = seen_of states c.args.version.now.begin in
    let end' = seen_of states c.args.version.now.end in
    let newest = c.or.ensures ∙ ap (option_or w.newest) c.own_newest-newest.ensures in
    let change =
    c.later.ensures
    ∙ ap (later_change w.change)
    (c.change_below.ensures
    ∙ ap (λ p. later_change (deciding b (put_of n p c.seen_by_others-end.result)) (deciding b (removal_of c.seen_by_others-end.result))) c.seen_by_others-put.ensures
    ∙ ap (λ e. later_change (deciding b (put_of n put e)) (deciding b (removal_of e))) c.seen_by_others-end.ensures
    ∙ sym (deciding-append b (put_of n put end') (removal_of end'))) in
    let own = names r c.args.version.now.begin || names r c.args.version.now.end in
    let one = cond (is_own_newest r (n, c.args.version.now)) (Some n) None in
    ap (λ o. record { own = w.own || o; newest = c.or.result; change = c.later.result }) c.is_own.ensures
    ∙ ap (λ m. record { own = w.own || own; newest = m; change = c.later.result }) newest
    ∙ ap (λ d. record { own = w.own || own; newest = option_or w.newest one; change = d }) change
