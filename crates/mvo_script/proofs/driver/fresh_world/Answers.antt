use Rattle.std.proofs.Common.{◌≡◌, ◌⊎◌, inl, inr, refl, subst, ℕ, arith}
use Rattle.std.specs.FinMap as map
use Rattle.mvo_types.specs.Keys.{Map}
use Rattle.mvo_core.specs.Standing.{HasOpenedOver}
use Rattle.mvo_world.specs.Past.{opened_over}
use Rattle.mvo_script.proofs.driver.fresh_world.Goals as goal

pub returns-in-Ok-open-clause-fresh : goal.returns-in-Ok-open-clause-fresh
returns-in-Ok-open-clause-fresh g c =
    let w = c.in-Ok-open.world in
    let formatted = c.in-Ok.ensures.formatted refl in
    let given = c.in-Ok-open.ensures.gives refl in
    let begins = c.in-Ok-open.ensures.begins refl given.0 given.1 in
    let found = c.in-Ok-open.ensures.prefix refl given.0 given.1 (opened_over map.empty 0) (record {
      slots = formatted.slots;
      rows = map.empty;
      mark = 0;
      gives = formatted.now;
      prefix = record { rows_are = refl; known = inl refl; covers = search arith };
    }) in
    let mark_is = only found.known in
    record {
      core = subst (λ (rows : Map). HasOpenedOver rows 0 w.core) found.rows_are (subst (λ (mark : ℕ). HasOpenedOver given.0 mark w.core) mark_is begins.core);
      mark = mark_is;
      ring = begins.ring;
      pending = begins.store.pending;
    }
  where
    only : {n m : ℕ} → (n ≡ m) ⊎ ⊥ → n ≡ m
    only (inl same) = same
    only (inr none) = absurd none
