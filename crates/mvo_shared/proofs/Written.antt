-- The test of the net writes says just that both write the same.
use Rattle.std.proofs.Common.{◌≡◌, Bool, true, false, cond, ◌||◌, List, [], ◌∷◌, ◌++◌, Option, None, Some, refl, sym, ap, ◌∙◌, subst}
use Rattle.std.specs.Prelude.{◌==◌, not, is_some}
use Rattle.std.specs.Option.{option_map}
use Rattle.std.specs.Ordering.{eq_by_cmp}
use Rattle.std.specs.Cmp.{IsEquivalence}
use Rattle.std.proofs.lemmas.Bool.{false≢true, true≢false, eq-eqb, eqb-true, and_parts, and_from, not-false}
use Rattle.std.specs.List.{AllByRecursion}
use Rattle.std.proofs.lemmas.Cmp.{eq_by_cmp_equiv}
use Rattle.std.proofs.lemmas.List.Folds.{list_any-append}
use Rattle.std.proofs.lemmas.Map.Steps.{list_any_congr}
use Rattle.mvo_types.specs.declared.row.RowKey.{RowKey}
use Rattle.mvo_types.specs.Keys.{key_cmp}
use Rattle.mvo_types.specs.Write.{Write, Effect}
use Rattle.mvo_types.proofs.Maps.{keys_total}
use Rattle.mvo_model.specs.History.{History, write_of, write_at, later, net_write}
use Rattle.mvo_theory.specs.Entries.{is_noted, noted, noted_key, written_from, written_keys}
use Rattle.mvo_types.specs.Write.Effect.{Put, Delete}
use Rattle.mvo_theory.specs.State.{ActiveTx}
use Rattle.mvo_theory.proofs.Footprints.{key_same, none_any, any_none, any_left, any_right}
use Rattle.mvo_shared.specs.Kept.{WorkContent}
use Rattle.mvo_shared.specs.Shared.{WriteTheSame}
use Rattle.mvo_shared.specs.Causes.{same_bytes, same_effect, writes_differently, is_write_mismatch}
use Rattle.mvo_shared.proofs.Causes.{bytes_are, same_self}

keys_equal : IsEquivalence (eq_by_cmp key_cmp)
keys_equal = eq_by_cmp_equiv keys_total

-- ---- a key is noted where it has a net write
or_some : (a b : Option Effect) → is_some (later a b) ≡ (is_some b || is_some a)
or_some None None = refl
or_some None (Some x) = refl
or_some (Some x) None = refl
or_some (Some x) (Some y) = refl

or_assoc : (a b c : Bool) → ((a || b) || c) ≡ (a || (b || c))
or_assoc true b c = refl
or_assoc false b c = refl

or_false : (a : Bool) → a ≡ (a || false)
or_false true = refl
or_false false = refl

or_true : (a : Bool) → a ≡ true → a ≡ (a || true)
or_true true e = refl
or_true false e = e

noted_more : (ks : List RowKey) (j k : RowKey) → is_noted (noted ks j) k ≡ (is_noted ks k || eq_by_cmp key_cmp k j)
noted_more ks j k = go (is_noted ks j) refl (eq_by_cmp key_cmp k j) refl
  where
    go : (b : Bool) → is_noted ks j ≡ b → (c : Bool) → eq_by_cmp key_cmp k j ≡ c → is_noted (cond b ks (ks ++ j ∷ [])) k ≡ (is_noted ks k || c)
    go true e true f = or_true (is_noted ks k) (list_any_congr keys_equal k j ks f ∙ e)
    go true e false f = or_false (is_noted ks k)
    go false e c f = list_any-append (eq_by_cmp key_cmp k) ks (j ∷ []) ∙ ap (λ b. is_noted ks k || b) (sym (or_false (eq_by_cmp key_cmp k j)) ∙ f)

some_at : (b : Bool) (h : Effect) → b ≡ is_some (cond b (Some h) None)
some_at true h = refl
some_at false h = refl

noted_write : (ks : List RowKey) (w : Option Write) (k : RowKey) → is_noted (noted_key ks (option_map (λ v. v.0) w)) k ≡ (is_noted ks k || is_some (write_at k w))
noted_write ks None k = or_false (is_noted ks k)
noted_write ks (Some w) k = noted_more ks w.0 k ∙ ap (λ b. is_noted ks k || b) (some_at (eq_by_cmp key_cmp k w.0) w.1)

noted_from : (ks : List RowKey) (ts : History) (k : RowKey) → is_noted (written_from ks ts) k ≡ (is_noted ks k || is_some (net_write k ts))
noted_from ks [] k = or_false (is_noted ks k)
noted_from ks (t ∷ ts) k =
    let w = write_of t.0 t.1 in
    noted_from (noted_key ks (option_map (λ v. v.0) w)) ts k
    ∙ ap (λ b. b || is_some (net_write k ts)) (noted_write ks w k)
    ∙ or_assoc (is_noted ks k) (is_some (write_at k w)) (is_some (net_write k ts))
    ∙ ap (λ b. is_noted ks k || b) (sym (or_some (net_write k ts) (write_at k w)))

pub noted_written : (ts : History) (k : RowKey) → is_noted (written_keys ts) k ≡ is_some (net_write k ts)
noted_written ts k = noted_from [] ts k

-- ---- equal effects
effects_are : (a b : Option Effect) → same_effect a b ≡ true → a ≡ b
effects_are None None h = refl
effects_are None (Some f) h = absurd (false≢true h)
effects_are (Some e) None h = absurd (false≢true h)
effects_are (Some Delete) (Some Delete) h = refl
effects_are (Some Delete) (Some (Put h)) e = absurd (false≢true e)
effects_are (Some (Put h)) (Some Delete) e = absurd (false≢true e)
effects_are (Some (Put h)) (Some (Put g)) e =
    let p = and_parts (h.sort == g.sort) (same_bytes h.bytes g.bytes) e in
    ap (λ n. Some (Put (record { sort = n; bytes = h.bytes }))) (eqb-true h.sort g.sort p.0) ∙ ap (λ bs. Some (Put (record { sort = g.sort; bytes = bs }))) (bytes_are h.bytes g.bytes p.1)

effect_self : (a : Option Effect) → same_effect a a ≡ true
effect_self None = refl
effect_self (Some Delete) = refl
effect_self (Some (Put h)) = and_from (h.sort == h.sort) (same_bytes h.bytes h.bytes) (eq-eqb h.sort h.sort refl) (same_self h.bytes)

-- ---- the test doesn't stand exactly where both write the same
each_noted : (P : RowKey → Type 0) (ks : List RowKey) (k : RowKey) → AllByRecursion P ks → is_noted ks k ≡ true → P k
each_noted P [] k h n = absurd (false≢true n)
each_noted P (j ∷ js) k h n = go (eq_by_cmp key_cmp k j) refl n (each_noted P js k h.1)
  where
    go : (b : Bool) → eq_by_cmp key_cmp k j ≡ b → (b || is_noted js k) ≡ true → (is_noted js k ≡ true → P k) → P k
    go true e g r = subst P (key_same k j e) h.0
    go false e g r = r g

none_some : (a : Option Effect) → is_some a ≡ false → a ≡ None
none_some None e = refl
none_some (Some h) e = absurd (true≢false e)

pub same_by_test : (r : ActiveTx) (w : WorkContent) → is_write_mismatch r w ≡ false → WriteTheSame r.history w.history
same_by_test r w h k = go (is_noted ks k) refl (is_noted us k) refl
  where
    ks : List RowKey
    ks = written_keys r.history

    us : List RowKey
    us = written_keys w.history

    P : RowKey → Type 0
    P j = writes_differently r.history w.history j ≡ false

    all : AllByRecursion P (ks ++ us)
    all = none_any (writes_differently r.history w.history) (ks ++ us) h

    here : is_noted (ks ++ us) k ≡ true → net_write k r.history ≡ net_write k w.history
    here n = effects_are (net_write k r.history) (net_write k w.history) (not-false (same_effect (net_write k r.history) (net_write k w.history)) (each_noted P (ks ++ us) k all n))

    go : (a : Bool) → is_noted ks k ≡ a → (b : Bool) → is_noted us k ≡ b → net_write k r.history ≡ net_write k w.history
    go true e b f = here (any_left (eq_by_cmp key_cmp k) ks us e)
    go false e true f = here (any_right (eq_by_cmp key_cmp k) ks us f)
    go false e false f = none_some (net_write k r.history) (sym (noted_written r.history k) ∙ e) ∙ sym (none_some (net_write k w.history) (sym (noted_written w.history k) ∙ f))

pub test_by_same : (r : ActiveTx) (w : WorkContent) → WriteTheSame r.history w.history → is_write_mismatch r w ≡ false
test_by_same r w h = any_none (writes_differently r.history w.history) (written_keys r.history ++ written_keys w.history) (each (written_keys r.history ++ written_keys w.history))
  where
    each : (ks : List RowKey) → AllByRecursion (λ k. writes_differently r.history w.history k ≡ false) ks
    each [] = tt
    each (k ∷ ks) = (ap (λ (c : Bool). not c) (ap (same_effect (net_write k r.history)) (sym (h k)) ∙ effect_self (net_write k r.history)), each ks)
