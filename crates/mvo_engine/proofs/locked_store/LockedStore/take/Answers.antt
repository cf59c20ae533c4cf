use Rattle.std.proofs.Common.{◌≡◌, None, sym, ap, ◌∙◌, refl, arith}
use Rattle.mvo_store.specs.Seen.{mark_of, pending_of}
use Rattle.mvo_store.specs.StoreData.{StoreData}
use Rattle.mvo_store.specs.Causes.{why_not_take}
use Rattle.mvo_world.proofs.Moves.{nothing_taken}
use Rattle.mvo_engine.proofs.Passing.{one_more}
use Rattle.mvo_engine.proofs.Rings.{same_from}
use Rattle.mvo_engine.proofs.StoreSound.{taken_in, next_follows}
use Rattle.mvo_engine.proofs.locked_store.LockedStore.take.Goals as goal

pub invariant_of-self-2 : goal.invariant_of-self-2
invariant_of-self-2 g c =
    let i = c.self.invariant in
    let f = c.self.inside in
    let s = f.store in
    let t = c.accept_group.new.self in
    let x = c.in-Ok.group in
    let why : why_not_take s ≡ None = sym c.can_take.ensures ∙ c.in_default.is in
    let none = nothing_taken s why in
    let step = c.accept_group.ensures in
    let made = step.comes.made.makes in
    let mark = ap (λ (y : StoreData _). mark_of y) made in
    let p = i.2 in
    let got = c.in-Ok.ensures.ok in (
      taken_in g.D.Disk i.0 t _ x c.mark.ensures.group none got.0 (ap (λ (y : StoreData _). pending_of y) made) mark (next_follows g.D.Disk i.0 none x got.2) step.honest step.keeps,
      i.1,
      omega (arith, p, mark),
      (
        same_from f.ring c.pop.new.self c.in-Ok.ensures.ring ∙ i.3.0,
        one_more _ _ _ _ x i.3.1 c.saturating_add-self-inside.ensures got.0,
      ),
    )

pub accept_group-requires-clause-follows : goal.accept_group-requires-clause-follows
accept_group-requires-clause-follows g c =
    let i = c.self.invariant in
    let s = c.self.inside.store in
    let why : why_not_take s ≡ None = sym c.can_take.ensures ∙ c.in_default.is in
    next_follows g.D.Disk i.0 (nothing_taken s why) c.in-Ok.group c.in-Ok.ensures.ok.2

pub returns-clause-taken : goal.returns-clause-taken
returns-clause-taken g c =
    let i = c.self.invariant in
    let s = c.self.inside.store in
    let x = c.in-Ok.group in
    let why : why_not_take s ≡ None = sym c.can_take.ensures ∙ c.in_default.is in
    let none = nothing_taken s why in
    let got = c.in-Ok.ensures.ok in
    rw (← c.self.view_is) (record {
      group = x;
      prev = next_follows g.D.Disk i.0 none x got.2;
      received = got.0;
      step = c.accept_group.ensures;
      published = refl;
    })
