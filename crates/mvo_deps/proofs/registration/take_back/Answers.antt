use Rattle.std.proofs.Common.{◌<◌, ◌≤◌, length, sym, ap, subst, ◌∙◌}
use Rattle.mvo_deps.specs.Data.{IsLastBeyond, without_last_dependent}
use Rattle.mvo_deps.specs.Nodes.{data_of, after_change}
use Rattle.mvo_deps.proofs.Grown.{taken_back, all_taken_back, none_taken_back, one_less}
use Rattle.mvo_deps.proofs.registration.take_back.Goals as goal

pub loop-on-smaller : goal.loop-on-smaller
loop-on-smaller g c =
    subst (λ t. length (data_of t c.args.tx.id).on < length (data_of c.loop-on.table c.args.tx.id).on)
    (sym (c.drop_last_dependent.ensures ∙ ap (λ t. after_change t c.in-Some.on.0 without_last_dependent) c.drop_last_dependency.ensures))
    (one_less c.loop-on.table c.args.tx.id c.in-Some.on c.args.count c.in-Some.ensures)

pub loop-on-preserved : goal.loop-on-preserved
loop-on-preserved g c = λ before n.
    let m = c.loop-on.invariant before n in
    let e = c.in-Some.ensures in
    let ends : IsLastBeyond (length (data_of before c.args.tx.id).on) (data_of c.loop-on.table c.args.tx.id).on c.in-Some.on =
    record { more = subst (λ k. k < length (data_of c.loop-on.table c.args.tx.id).on) (sym m.counted) e.more; front = e.front; is = e.is } in
    let rest = all_taken_back before c.args.tx.id c.in-Some.on m.noted m.there (subst (λ t. IsLastBeyond (length (data_of before c.args.tx.id).on) (data_of t c.args.tx.id).on c.in-Some.on) m.is ends) in
    record {
      there = m.there;
      counted = m.counted;
      noted = rest.0;
      is = c.drop_last_dependent.ensures
          ∙ ap (λ t. after_change t c.in-Some.on.0 without_last_dependent) c.drop_last_dependency.ensures
          ∙ ap (λ t. taken_back t c.args.tx.id c.in-Some.on) m.is
          ∙ rest.1;
    }

pub returns : goal.returns
returns g c = λ before n.
    let m = c.loop-on.invariant before n in
    m.is
    ∙ none_taken_back before c.args.tx.id m.noted m.there
    (subst (λ t. length (data_of t c.args.tx.id).on ≤ length (data_of before c.args.tx.id).on) m.is
    (subst (λ k. length (data_of c.loop-on.table c.args.tx.id).on ≤ k) (sym m.counted) c.in_default.ensures))
