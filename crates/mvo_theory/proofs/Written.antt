-- The keys that are written are those with a net write.
use Rattle.std.proofs.Common.{◌≡◌, Bool, true, false, cond, ◌||◌, List, [], ◌∷◌, ◌++◌, Option, None, Some, refl, sym, ap, ◌∙◌}
use Rattle.std.specs.Prelude.{is_some}
use Rattle.std.specs.Option.{option_map}
use Rattle.std.specs.Ordering.{eq_by_cmp}
use Rattle.std.specs.Cmp.{IsEquivalence}
use Rattle.std.proofs.lemmas.Cmp.{eq_by_cmp_equiv}
use Rattle.std.proofs.lemmas.List.Folds.{list_any-append}
use Rattle.std.proofs.lemmas.Map.Steps.{list_any_congr}
use Rattle.mvo_types.specs.declared.row.RowKey.{RowKey}
use Rattle.mvo_types.specs.Keys.{key_cmp}
use Rattle.mvo_types.specs.Write.{Write, Effect}
use Rattle.mvo_types.proofs.Maps.{keys_total}
use Rattle.mvo_model.specs.History.{History, write_of, write_at, later, net_write}
use Rattle.mvo_theory.specs.Entries.{is_noted, noted, noted_key, written_from, written_keys}

pub keys_equal : IsEquivalence (eq_by_cmp key_cmp)
keys_equal = eq_by_cmp_equiv keys_total

or_some : (a b : Option Effect) → is_some (later a b) ≡ (is_some b || is_some a)
or_some None None = refl
or_some None (Some x) = refl
or_some (Some x) None = refl
or_some (Some x) (Some y) = refl

or_assoc : (a b c : Bool) → ((a || b) || c) ≡ (a || (b || c))
or_assoc true b c = refl
or_assoc false b c = refl

or_false : (a : Bool) → a ≡ (a || false)
or_false true = refl
or_false false = refl

or_true : (a : Bool) → a ≡ true → a ≡ (a || true)
or_true true e = refl
or_true false e = e

noted_more : (ks : List RowKey) (j k : RowKey) → is_noted (noted ks j) k ≡ (is_noted ks k || eq_by_cmp key_cmp k j)
noted_more ks j k = go (is_noted ks j) refl (eq_by_cmp key_cmp k j) refl
  where
    go : (b : Bool) → is_noted ks j ≡ b → (c : Bool) → eq_by_cmp key_cmp k j ≡ c → is_noted (cond b ks (ks ++ j ∷ [])) k ≡ (is_noted ks k || c)
    go true e true f = or_true (is_noted ks k) (list_any_congr keys_equal k j ks f ∙ e)
    go true e false f = or_false (is_noted ks k)
    go false e c f = list_any-append (eq_by_cmp key_cmp k) ks (j ∷ []) ∙ ap (λ b. is_noted ks k || b) (sym (or_false (eq_by_cmp key_cmp k j)) ∙ f)

some_at : (b : Bool) (h : Effect) → b ≡ is_some (cond b (Some h) None)
some_at true h = refl
some_at false h = refl

noted_write : (ks : List RowKey) (w : Option Write) (k : RowKey) → is_noted (noted_key ks (option_map (λ v. v.0) w)) k ≡ (is_noted ks k || is_some (write_at k w))
noted_write ks None k = or_false (is_noted ks k)
noted_write ks (Some w) k = noted_more ks w.0 k ∙ ap (λ b. is_noted ks k || b) (some_at (eq_by_cmp key_cmp k w.0) w.1)

noted_from : (ks : List RowKey) (ts : History) (k : RowKey) → is_noted (written_from ks ts) k ≡ (is_noted ks k || is_some (net_write k ts))
noted_from ks [] k = or_false (is_noted ks k)
noted_from ks (t ∷ ts) k =
    let w = write_of t.0 t.1 in
    noted_from (noted_key ks (option_map (λ v. v.0) w)) ts k
    ∙ ap (λ b. b || is_some (net_write k ts)) (noted_write ks w k)
    ∙ or_assoc (is_noted ks k) (is_some (write_at k w)) (is_some (net_write k ts))
    ∙ ap (λ b. is_noted ks k || b) (sym (or_some (net_write k ts) (write_at k w)))

pub noted_written : (ts : History) (k : RowKey) → is_noted (written_keys ts) k ≡ is_some (net_write k ts)
noted_written ts k = noted_from [] ts k
