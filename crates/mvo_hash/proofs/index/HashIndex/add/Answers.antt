use Rattle.std.proofs.Common.{◌≡◌, IsSome, inr, sym, ap, ◌∙◌, subst}
use Rattle.std.specs.FinMap.{get}
use Rattle.mvo_hash.specs.Lists.{Index, newest_of, numbers_of, IsPastAll}
use Rattle.mvo_hash.specs.Table.{Table}
use Rattle.mvo_hash.specs.Links.{number_or_none, index_of, IsIndex, IsJoined}
use Rattle.mvo_hash.proofs.Views.{shown_newest, grown_is, grown_same, past_all, on_err}
use Rattle.mvo_hash.proofs.Joins.{not_newest, added_index, added_lists}
use Rattle.mvo_hash.proofs.index.HashIndex.add.Goals as goal

pub invariant_of-self : goal.invariant_of-self
invariant_of-self c = grown_is c.self.inside.heads.numbers c.self.inside.links c.reach.new.links c.in_err-reach.ensures.kept c.self.invariant

pub returns-in_err-reach-clause-err : goal.returns-in_err-reach-clause-err
returns-in_err-reach-clause-err c =
    on_err c.from_residual.result (grown_same c.self.inside.heads c.self.inside.links c.reach.new.links c.in_err-reach.ensures.kept c.self.invariant ∙ c.self.view_is)

pub invariant_of-self-in_err-put : goal.invariant_of-self-in_err-put
invariant_of-self-in_err-put c =
    subst (λ (m : Table). IsIndex m.numbers c.reach.new.links) (sym c.in_err-put.ensures.err)
    (grown_is c.self.inside.heads.numbers c.self.inside.links c.reach.new.links c.in_ok-reach.ensures.kept c.self.invariant)

pub returns-in_err-put-clause-err : goal.returns-in_err-put-clause-err
returns-in_err-put-clause-err c =
    on_err c.from_residual-in_err-put.result
    (ap (λ m. index_of m c.reach.new.links) c.in_err-put.ensures.err
    ∙ grown_same c.self.inside.heads c.self.inside.links c.reach.new.links c.in_ok-reach.ensures.kept c.self.invariant ∙ c.self.view_is)

pub join-requires-clause-apart : goal.join-requires-clause-apart
join-requires-clause-apart c =
    not_newest c.self.inside.heads.numbers c.put.new.self.numbers c.self.inside.links c.reach.new.links c.reach.new.links c.args.self.now.versions c.args.key c.args.version.0 c.or_none-older.result
    c.self.invariant (ap (λ (i : Index). i.versions) c.self.view_is) c.in_ok-reach.ensures.kept c.in_ok-reach.ensures.within c.requires (c.or_none-older.ensures ∙ ap number_or_none c.in_ok-put.ensures.before)

pub invariant_of-self-2 : goal.invariant_of-self-2
invariant_of-self-2 c =
    let old = c.reach.new.links in
    let j : IsJoined old c.join.new.links c.args.version.0 c.or_none-older.result = c.join.ensures in
    added_index c.self.inside.heads.numbers c.put.new.self.numbers c.self.inside.links old c.join.new.links c.args.self.now.versions c.args.key c.args.version.0 c.or_none-older.result
    c.self.invariant (ap (λ (i : Index). i.versions) c.self.view_is) c.in_ok-reach.ensures.kept c.in_ok-reach.ensures.within c.requires (c.or_none-older.ensures ∙ ap number_or_none c.in_ok-put.ensures.before)
    c.in_ok-put.ensures.ok j

pub returns-clause-ok : goal.returns-clause-ok
returns-clause-ok c =
    let old = c.reach.new.links in
    let j : IsJoined old c.join.new.links c.args.version.0 c.or_none-older.result = c.join.ensures in
    added_lists c.self.inside.heads.numbers c.put.new.self.numbers c.self.inside.links old c.join.new.links c.args.self.now.versions c.args.key c.args.version.0 c.or_none-older.result
    c.self.invariant (ap (λ (i : Index). i.versions) c.self.view_is) c.in_ok-reach.ensures.kept c.in_ok-reach.ensures.within c.requires (c.or_none-older.ensures ∙ ap number_or_none c.in_ok-put.ensures.before)
    c.in_ok-put.ensures.ok j

pub returns-clause-again : goal.returns-clause-again
returns-clause-again c =
    λ some.
    let newest : get c.self.inside.heads.numbers c.args.key ≡ newest_of (numbers_of c.args.self.now.versions c.args.key) =
    shown_newest c.self.inside.heads.numbers c.self.inside.links c.self.invariant c.args.key
    ∙ ap (λ (i : Index). newest_of (numbers_of i.versions c.args.key)) c.self.view_is in
    c.in_ok-put.ensures.again (subst IsSome (sym newest) some) ∙ ap (λ (i : Index). i.room) c.self.view_is

pub returns-in_err-reach-clause-full : goal.returns-in_err-reach-clause-full
returns-in_err-reach-clause-full c =
    on_err c.from_residual.result (inr (subst (λ m. IsPastAll m c.args.version.0) (ap (λ (i : Index). i.versions) c.self.view_is)
    (past_all c.self.inside.heads.numbers c.self.inside.links c.self.invariant c.args.version.0 c.in_err-reach.ensures.short)))
