-- What the check of an entry names by the rules is what it names in the state.
use Rattle.std.proofs.Common.{◌≡◌, ℕ, ◌+◌, ◌<◌, ◌≤◌, suc, zero, Bool, true, false, cond, ◌||◌, List, [], ◌∷◌, map, Option, None, Some, refl, sym, ap, ◌∙◌, arith}
use Rattle.std.specs.Prelude.{◌==◌, ◌&&◌, nat_lt}
use Rattle.std.specs.List.{filter}
use Rattle.std.specs.Option.{option_map}
use Rattle.std.proofs.lemmas.Bool.{eqb-true, le-ltb, ltb-false, true≢false, false≢true}
use Rattle.mvo_types.specs.declared.row.RowKey.{RowKey}
use Rattle.mvo_theory.specs.State.{State}
use Rattle.mvo_theory.specs.Causes.{change_of}
use Rattle.mvo_theory.specs.Sound.{IsSound, IsStarted}
use Rattle.mvo_chain.specs.Slots.{Slots}
use Rattle.mvo_hash.specs.Lists.{Lists}
use Rattle.mvo_range.specs.Place.{PlaceNumbers as Places}
use Rattle.mvo_visible.specs.declared.change.Change.{Change}
use Rattle.mvo_visible.specs.Words.{States}
use Rattle.mvo_visible.specs.Versions.{NumberedVersion, versions_at}
use Rattle.mvo_visible.specs.Changes.{changes_of, greatest_below}
use Rattle.mvo_types.specs.declared.entry.Entry.TheVariants.{Key}
use Rattle.mvo_validate.specs.Between.{is_above, stamp_between}
use Rattle.mvo_validate.specs.Entries.{has_sort, versions_in}
use Rattle.mvo_representation.specs.Words.{ends_of, has_stamp, NetEffect, net_effect, if_above, last_passing, stamp_above}
use Rattle.mvo_representation.specs.Versions.{AreVersionsOf}
use Rattle.mvo_representation.specs.Indexes.{all_versions, HasNumbers}
use Rattle.mvo_representation.specs.Table.{phases_of}
use Rattle.mvo_representation.proofs.Checked.{key_checked}
use Rattle.mvo_representation.proofs.Decided.{is_stamped, last_same, greatest_is, last_of_versions}
use Rattle.mvo_representation.proofs.ShownTo.{of_key, below_keyed}

-- ---- between two timestamps
none_from : (b : ℕ) (f : ℕ → Bool) (e : ℕ) → e ≤ b + 1 → last_passing (λ s. nat_lt b s && f s) e ≡ None
none_from b f zero le = refl
none_from b f (suc e) le = ap (λ c. cond (c && f e) (Some e) (last_passing (λ s. nat_lt b s && f s) e)) (le-ltb b e (omega (arith, le))) ∙ none_from b f e (omega (arith, le))

above_is : (b : ℕ) (f : ℕ → Bool) (e : ℕ) → last_passing (λ s. nat_lt b s && f s) e ≡ stamp_above b (last_passing f e)
above_is b f zero = refl
above_is b f (suc e) = go (f e) (nat_lt b e) refl (above_is b f e)
  where
    go : (c d : Bool) → nat_lt b e ≡ d → last_passing (λ s. nat_lt b s && f s) e ≡ stamp_above b (last_passing f e) → cond (d && c) (Some e) (last_passing (λ s. nat_lt b s && f s) e) ≡ stamp_above b (cond c (Some e) (last_passing f e))
    go true true q r = ap (λ x. cond x (Some e) None) (sym q)
    go true false q r = none_from b f e (let l : e ≤ b = ltb-false b e q in omega (arith, l)) ∙ ap (λ x. cond x (Some e) None) (sym q)
    go false true q r = r
    go false false q r = r

and_false : (a : Bool) → (a && false) ≡ false
and_false true = refl
and_false false = refl

stamped_above : (b s : ℕ) (cs : List Change) → is_stamped s (filter (is_above b) cs) ≡ (nat_lt b s && is_stamped s cs)
stamped_above b s [] = sym (and_false (nat_lt b s))
stamped_above b s (c ∷ cs) = go (is_above b c) refl (stamped_above b s cs)
  where
    or_and : (a d r : Bool) → (d ≡ true → a ≡ true) → (d || (a && r)) ≡ (a && (d || r))
    or_and true d r h = refl
    or_and false true r h = absurd (false≢true (h refl))
    or_and false false r h = refl

    and_or : (a d r : Bool) → (d ≡ true → a ≡ false) → (a && r) ≡ (a && (d || r))
    and_or false d r h = refl
    and_or true true r h = absurd (true≢false (h refl))
    and_or true false r h = refl

    go : (d : Bool) → is_above b c ≡ d → is_stamped s (filter (is_above b) cs) ≡ (nat_lt b s && is_stamped s cs) → is_stamped s (cond d (c ∷ filter (is_above b) cs) (filter (is_above b) cs)) ≡ (nat_lt b s && ((c.stamp.0 == s) || is_stamped s cs))
    go true q r = ap (λ x. (c.stamp.0 == s) || x) r ∙ or_and (nat_lt b s) (c.stamp.0 == s) (is_stamped s cs) (λ e. ap (nat_lt b) (sym (eqb-true c.stamp.0 s e)) ∙ q)
    go false q r = r ∙ and_or (nat_lt b s) (c.stamp.0 == s) (is_stamped s cs) (λ e. ap (nat_lt b) (sym (eqb-true c.stamp.0 s e)) ∙ q)

pub between_is : (b e : ℕ) (cs : List Change) → stamp_between b e cs ≡ stamp_above b (greatest_below e cs)
between_is b e cs =
    greatest_is e (filter (is_above b) cs)
    ∙ last_same (λ s. is_stamped s (filter (is_above b) cs)) (λ s. nat_lt b s && is_stamped s cs) e (λ s. stamped_above b s cs)
    ∙ above_is b (λ s. is_stamped s cs) e
    ∙ ap (stamp_above b) (sym (greatest_is e cs))

-- ---- a key
all_pass : (vs : List NumberedVersion) → filter (has_sort None) vs ≡ vs
all_pass [] = refl
all_pass (v ∷ vs) = ap (λ ws. v ∷ ws) (all_pass vs)

above_change : (f : ℕ → NetEffect) (b : ℕ) (w : Option ℕ) → if_above b (option_map (λ s. (s, f s)) w) ≡ stamp_above b w
above_change f b None = refl
above_change f b (Some s) = refl

pub key_check_is : (s : State) (states : States) (slots : Slots) (lists : Lists) (places : Places) (b e : ℕ) (k : RowKey) → IsSound s → IsStarted s → AreVersionsOf s (phases_of states) (all_versions slots) → HasNumbers slots lists → s.start ≤ b → b < e → stamp_between b e (changes_of states (versions_in slots lists places (Key k))) ≡ change_of s.stamped b e (Key k)
key_check_is s states slots lists places b e k sd st h ns le lt =
    ap (λ vs. stamp_between b e (changes_of states vs)) (all_pass (versions_at slots lists k))
    ∙ between_is b e (changes_of states (versions_at slots lists k))
    ∙ sym (above_change (λ m. net_effect (has_stamp (ends_of (phases_of states)) m) k (map (λ v. v.1) (versions_at slots lists k))) b (greatest_below e (changes_of states (versions_at slots lists k))))
    ∙ ap (if_above b) (sym (last_of_versions states e k (versions_at slots lists k) (of_key slots lists k ns)) ∙ sym (below_keyed states slots lists k e ns))
    ∙ key_checked s (phases_of states) (all_versions slots) b e k sd st h le lt
