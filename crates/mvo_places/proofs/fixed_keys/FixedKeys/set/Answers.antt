use Rattle.std.proofs.Common.{ℕ, Option, List, sym, subst, ◌∙◌, ap, refl}
use Rattle.std.specs.Prelude.{slice_set, is_some}
use Rattle.std.specs.List.Sorted.{IsStrictlySortedBy}
use Rattle.mvo_types.specs.declared.row.RowKey.{RowKey}
use Rattle.mvo_places.specs.Fixed.{Numbers}
use Rattle.mvo_places.specs.Falling.{Falls, falling_cmp, keys}
use Rattle.mvo_places.proofs.Falls.{falls_apart, found_at}
use Rattle.mvo_places.proofs.Over.{set_at, unchanged, keys-with_number}
use Rattle.mvo_places.proofs.fixed_keys.FixedKeys.set.Goals as goal

pub returns-in_default-clause-set : goal.returns-in_default-clause-set
returns-in_default-clause-set c = sym (unchanged c.args.self.now c.args.key c.args.number c.in_default.ensures.nowhere)

pub returns-clause-set : goal.returns-clause-set
returns-clause-set c =
    let falls : Falls c.args.self.now = subst (λ (xs : Numbers). Falls xs) c.self.view_is c.self.invariant in
    ap (λ (e : RowKey × Option ℕ). slice_set c.self.inside.keys.items c.in-Some.at e) c.new.ensures
    ∙ ap (λ (xs : Numbers). slice_set xs c.in-Some.at (c.args.key, c.args.number)) c.self.view_is
    ∙ set_at c.args.self.now c.args.key c.args.number c.in-Some.at c.index_mut.result.now (falls_apart c.args.self.now falls) c.in-Some.ensures.within (c.in-Some.ensures.at c.index_mut.result.now)

pub invariant_of-self : goal.invariant_of-self
invariant_of-self c =
    let same = ap (λ (xs : Numbers). keys xs) (returns-clause-set c) ∙ keys-with_number c.args.self.now c.args.key c.args.number ∙ ap (λ (xs : Numbers). keys xs) (sym c.self.view_is) in
    subst (λ (ks : List RowKey). IsStrictlySortedBy falling_cmp ks) (sym same) c.self.invariant

pub returns-clause-stands : goal.returns-clause-stands
returns-clause-stands c =
    let falls : Falls c.args.self.now = subst (λ (xs : Numbers). Falls xs) c.self.view_is c.self.invariant in (
      λ _. ap (λ (o : Option (Option ℕ)). is_some o) (found_at c.args.self.now c.args.key c.in-Some.at c.index_mut.result.now (falls_apart c.args.self.now falls) c.in-Some.ensures.within (c.in-Some.ensures.at c.index_mut.result.now)),
      λ _. refl,
    )
