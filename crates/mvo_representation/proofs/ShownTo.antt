-- What a transaction is shown by the rules is what its snapshot has, and on whom it depends then.
use Rattle.std.proofs.Common.{◌≡◌, ℕ, ◌≤◌, Bool, true, false, cond, List, [], ◌∷◌, map, Option, None, Some, refl, sym, ap, ◌∙◌, subst, arith}
use Rattle.std.specs.Prelude.{◌==◌, slice_index_or}
use Rattle.std.specs.List.{AllByRecursion, list_any}
use Rattle.std.specs.Option.{option_map, option_or}
use Rattle.std.specs.FinMap as fin
use Rattle.std.proofs.lemmas.Bool.{eq-eqb, true≢false}
use Rattle.mvo_types.specs.declared.row.RowKey.{RowKey}
use Rattle.mvo_types.specs.RowData.{content_of}
use Rattle.mvo_theory.specs.State.{State, ActiveTx, active_of, snapshot, seen_by}
use Rattle.mvo_theory.specs.Claims.{origin}
use Rattle.mvo_model.specs.History.{net_write}
use Rattle.mvo_theory.specs.Sound.{IsSound, IsStarted, how_many}
use Rattle.mvo_theory.proofs.Who.{active_holds}
use Rattle.mvo_word.specs.declared.held.Held.{Held}
use Rattle.mvo_chain.specs.declared.version.Version.{Version}
use Rattle.mvo_chain.specs.declared.version.VersionNo.{VersionNo}
use Rattle.mvo_chain.specs.Slots.{Slots, version_at}
use Rattle.mvo_hash.specs.Lists.{Lists, number, numbers_of}
use Rattle.mvo_visible.specs.Words.{States, names}
use Rattle.mvo_visible.specs.Versions.{NumberedVersion, and_version, versions_by, versions_at, is_own, own_newest}
use Rattle.mvo_visible.specs.Changes.{changes_of, greatest_below, done_with, deciding}
use Rattle.mvo_visible.specs.Shown.{shown_by, own_or, shown_to}
use Rattle.mvo_representation.specs.Words.{ends_of, has_stamp, NetEffect, net_effect, change_below, standing, row_in, shown_over, shown_row, content_put, is_clash}
use Rattle.mvo_representation.specs.Words.NetEffect.{Untouched, Removed, Puts, Clash}
use Rattle.mvo_representation.specs.Versions.{Say, AreVersionsOf}
use Rattle.mvo_representation.specs.Indexes.{all_versions, and_found, versions_numbered, is_of_key, HasNumbers}
use Rattle.mvo_representation.specs.Table.{phases_of, content_shown}
use Rattle.mvo_representation.proofs.LastChanges.{last_change_same}
use Rattle.mvo_representation.proofs.Shown.{active_begins, behind_is, stands_below, shown_right}
use Rattle.mvo_representation.proofs.Version.{clash_in, no_clash}
use Rattle.mvo_representation.proofs.Own.{not_clash}
use Rattle.mvo_representation.proofs.Indexed.{index_net_effect}
use Rattle.mvo_representation.proofs.Decided.{is_put_by, first_put, number_of, version_first, AreOfKey, unnumbered, is_change, content_of_first, change_any, content_first, last_of_versions}
use Rattle.mvo_deps.proofs.Lists.{one}

-- ---- the versions of a key
pub versions_in_by : (slots : Slots) (ns : List ℕ) → unnumbered (versions_by slots (map number ns)) ≡ versions_numbered slots ns
versions_in_by slots [] = refl
versions_in_by slots (n ∷ ns) = go (slice_index_or slots n None) ∙ ap (and_found (slice_index_or slots n None)) (versions_in_by slots ns)
  where
    go : (o : Option Version) → unnumbered (and_version (number n) o (versions_by slots (map number ns))) ≡ and_found o (unnumbered (versions_by slots (map number ns)))
    go None = refl
    go (Some v) = refl

-- each is of the key
abbrev IsListed : Slots → RowKey → List ℕ → Type 0
IsListed slots k ns = AllByRecursion (λ n. is_of_key k (slice_index_or slots n None) ≡ true) ns

listed : (slots : Slots) (k : RowKey) (ns : List ℕ) → ((m : ℕ) → 1 ≤ how_many (λ i. i == m) ns → is_of_key k (slice_index_or slots m None) ≡ true) → IsListed slots k ns
listed slots k [] h = tt
listed slots k (n ∷ ns) h = (
  h n (let c : one (n == n) ≡ 1 = ap one (eq-eqb n n refl) in omega (arith, c)),
  listed slots k ns (λ m le. h m (omega (arith, le))),
)

pub one_is : (b : Bool) → 1 ≤ cond b 1 0 → b ≡ true
one_is true l = refl
one_is false l = absurd (omega (arith, l))

listed_at : (slots : Slots) (lists : Lists) (k : RowKey) → HasNumbers slots lists → IsListed slots k (numbers_of lists k)
listed_at slots lists k h = listed slots k (numbers_of lists k) (λ m le. one_is (is_of_key k (slice_index_or slots m None)) (let q = h.at k m in omega (arith, le, q)))

of_key_by : (slots : Slots) (k : RowKey) (ns : List ℕ) → IsListed slots k ns → AreOfKey k (versions_by slots (map number ns))
of_key_by slots k [] h = tt
of_key_by slots k (n ∷ ns) h = go (slice_index_or slots n None) h.0 (of_key_by slots k ns h.1)
  where
    go : (o : Option Version) → is_of_key k o ≡ true → AreOfKey k (versions_by slots (map number ns)) → AreOfKey k (and_version (number n) o (versions_by slots (map number ns)))
    go None e r = r
    go (Some v) e r = (e, r)

pub of_key : (slots : Slots) (lists : Lists) (k : RowKey) → HasNumbers slots lists → AreOfKey k (versions_at slots lists k)
of_key slots lists k h = of_key_by slots k (numbers_of lists k) (listed_at slots lists k h)

-- each stands at its number
abbrev pub AreThere : Slots → List NumberedVersion → Type 0
AreThere slots vs = AllByRecursion (λ e. version_at slots e.0 ≡ Some e.1) vs

there_by : (slots : Slots) (ns : List VersionNo) → AreThere slots (versions_by slots ns)
there_by slots [] = tt
there_by slots (n ∷ ns) = go (version_at slots n) refl (there_by slots ns)
  where
    go : (o : Option Version) → version_at slots n ≡ o → AreThere slots (versions_by slots ns) → AreThere slots (and_version n o (versions_by slots ns))
    go None e r = r
    go (Some v) e r = (e, r)

pub there : (slots : Slots) (lists : Lists) (k : RowKey) → AreThere slots (versions_at slots lists k)
there slots lists k = there_by slots (map number (numbers_of lists k))

content_found : (slots : Slots) (n : Held → Bool) (vs : List NumberedVersion) → AreThere slots vs → content_shown slots (number_of (first_put n vs)) ≡ content_of_first (first_put n vs)
content_found slots n [] h = refl
content_found slots n (e ∷ es) h = go (is_put_by n e) (content_found slots n es h.1)
  where
    go : (b : Bool) → content_shown slots (number_of (first_put n es)) ≡ content_of_first (first_put n es) → content_shown slots (number_of (option_or (cond b (Some e) None) (first_put n es))) ≡ content_of_first (option_or (cond b (Some e) None) (first_put n es))
    go true r = ap (option_map (λ v. content_of v.row)) h.0
    go false r = r

-- ---- the rule
pub own_newest_first : (t : ℕ) (vs : List NumberedVersion) → own_newest t vs ≡ number_of (first_put (names t) vs)
own_newest_first t [] = refl
own_newest_first t (e ∷ es) = ap (option_or (cond (is_put_by (names t) e) (Some e.0) None)) (own_newest_first t es) ∙ by (is_put_by (names t) e)
  where
    by : (b : Bool) → option_or (cond b (Some e.0) None) (number_of (first_put (names t) es)) ≡ number_of (option_or (cond b (Some e) None) (first_put (names t) es))
    by true = refl
    by false = refl

row_put : (s : ℕ) (d : NetEffect) → row_in (Some (s, d)) ≡ content_put d
row_put s Untouched = refl
row_put s Removed = refl
row_put s (Puts h) = refl
row_put s Clash = refl

-- no two puts stand
pub record IsClear (states : States) (t : ℕ) (k : RowKey) (vs : List Version) : Type 0 where
  pub own : is_clash (net_effect (names t) k vs) ≡ false
  pub others : (p : ℕ × NetEffect) → change_below (ends_of (phases_of states)) t k vs ≡ Some p → is_clash p.1 ≡ false

others_row : (states : States) (slots : Slots) (t : ℕ) (k : RowKey) (vs : List NumberedVersion) → AreOfKey k vs → AreThere slots vs → IsClear states t k (unnumbered vs) → content_shown slots (shown_by (deciding t (changes_of states vs))).version ≡ row_in (change_below (ends_of (phases_of states)) t k (unnumbered vs))
others_row states slots t k vs of th clear = go (greatest_below t (changes_of states vs)) refl
  where
    effect_with : ℕ → NetEffect
    effect_with s = net_effect (has_stamp (ends_of (phases_of states)) s) k (unnumbered vs)

    last : (w : Option ℕ) → greatest_below t (changes_of states vs) ≡ w → change_below (ends_of (phases_of states)) t k (unnumbered vs) ≡ option_map (λ s. (s, effect_with s)) w
    last w e = last_of_versions states t k vs of ∙ ap (option_map (λ s. (s, effect_with s))) e

    go : (w : Option ℕ) → greatest_below t (changes_of states vs) ≡ w → content_shown slots (shown_by (deciding t (changes_of states vs))).version ≡ row_in (change_below (ends_of (phases_of states)) t k (unnumbered vs))
    go None e =
        ap (λ w. content_shown slots (shown_by (option_map (done_with (changes_of states vs)) w)).version) e
        ∙ sym (ap row_in (last None e))
    go (Some s) e =
        ap (λ w. content_shown slots (shown_by (option_map (done_with (changes_of states vs)) w)).version) e
        ∙ ap (content_shown slots) (version_first states s vs)
        ∙ content_found slots (has_stamp (ends_of (phases_of states)) s) vs th
        ∙ sym (content_first (has_stamp (ends_of (phases_of states)) s) k vs of (clear.others (s, effect_with s) (last (Some s) e)))
        ∙ sym (ap row_in (last (Some s) e) ∙ row_put s (effect_with s))

pub rule_is : (states : States) (slots : Slots) (t : ℕ) (k : RowKey) (vs : List NumberedVersion) → AreOfKey k vs → AreThere slots vs → IsClear states t k (unnumbered vs) → content_shown slots (shown_to states t t vs).version ≡ shown_row (ends_of (phases_of states)) t k (unnumbered vs)
rule_is states slots t k vs of th clear = go (net_effect (names t) k (unnumbered vs)) refl
  where
    own : (d : NetEffect) → net_effect (names t) k (unnumbered vs) ≡ d → list_any (is_own t) vs ≡ is_change d
    own d e = sym (change_any (names t) k vs of) ∙ ap is_change e

    mine : (d : NetEffect) → net_effect (names t) k (unnumbered vs) ≡ d → content_shown slots (own_newest t vs) ≡ content_put d
    mine d e =
        ap (content_shown slots) (own_newest_first t vs) ∙ content_found slots (names t) vs th
        ∙ sym (content_first (names t) k vs of clear.own) ∙ ap content_put e

    shown : (b : Bool) → list_any (is_own t) vs ≡ b → content_shown slots (shown_to states t t vs).version ≡ cond b (content_shown slots (own_newest t vs)) (content_shown slots (shown_by (deciding t (changes_of states vs))).version)
    shown b e = ap (λ c. content_shown slots (own_or c (own_newest t vs) (deciding t (changes_of states vs))).version) e ∙ by b
      where
        by : (b : Bool) → content_shown slots (own_or b (own_newest t vs) (deciding t (changes_of states vs))).version ≡ cond b (content_shown slots (own_newest t vs)) (content_shown slots (shown_by (deciding t (changes_of states vs))).version)
        by true = refl
        by false = refl

    over : (d : NetEffect) → net_effect (names t) k (unnumbered vs) ≡ d → shown_row (ends_of (phases_of states)) t k (unnumbered vs) ≡ shown_over d (change_below (ends_of (phases_of states)) t k (unnumbered vs))
    over d e = ap (λ x. shown_over x (change_below (ends_of (phases_of states)) t k (unnumbered vs))) e

    go : (d : NetEffect) → net_effect (names t) k (unnumbered vs) ≡ d → content_shown slots (shown_to states t t vs).version ≡ shown_row (ends_of (phases_of states)) t k (unnumbered vs)
    go Untouched e = shown false (own Untouched e) ∙ others_row states slots t k vs of th clear ∙ sym (over Untouched e)
    go Removed e = shown true (own Removed e) ∙ mine Removed e ∙ sym (over Removed e)
    go (Puts h) e = shown true (own (Puts h) e) ∙ mine (Puts h) e ∙ sym (over (Puts h) e)
    go Clash e = absurd (true≢false (sym (ap is_clash e) ∙ clear.own))

-- ---- in a state
clash_standing : (s : ℕ) (d : NetEffect) → clash_in (standing (Some (s, d))) ≡ is_clash d
clash_standing s Untouched = refl
clash_standing s Removed = refl
clash_standing s (Puts h) = refl
clash_standing s Clash = refl

clear_in : (s : State) (states : States) (vs : List Version) (t : ℕ) (r : ActiveTx) (k : RowKey) → IsSound s → IsStarted s → AreVersionsOf s (phases_of states) vs → active_of t s.active ≡ Some r → IsClear states t k vs
clear_in s states vs t r k sd st h f = record {
  own = let w = active_holds (λ q. Say (names q.id) q.history q.footprint vs) t s.active r f h.active in subst (λ (n : ℕ). is_clash (net_effect (names n) k vs) ≡ false) w.1 (ap is_clash (w.0.writes k) ∙ not_clash (net_write k r.history));
  others = λ p e. sym (clash_standing p.0 p.1) ∙ ap (λ c. clash_in (standing c)) (sym e)
      ∙ ap clash_in (stands_below s (phases_of states) vs t k sd st h (active_begins s (phases_of states) vs t r sd h f) (behind_is s (phases_of states) vs t r h f))
      ∙ no_clash (origin s t k) (fin.get (seen_by s.base s.stamped t) k);
}

-- what all versions say of a key, those of the key say
pub keyed : (slots : Slots) (lists : Lists) (k : RowKey) → HasNumbers slots lists → (n : Held → Bool) → net_effect n k (all_versions slots) ≡ net_effect n k (unnumbered (versions_at slots lists k))
keyed slots lists k h n = index_net_effect n k slots lists h ∙ ap (net_effect n k) (sym (versions_in_by slots (numbers_of lists k)))

pub below_keyed : (states : States) (slots : Slots) (lists : Lists) (k : RowKey) (b : ℕ) → HasNumbers slots lists → change_below (ends_of (phases_of states)) b k (all_versions slots) ≡ change_below (ends_of (phases_of states)) b k (unnumbered (versions_at slots lists k))
below_keyed states slots lists k b h = last_change_same (λ s. net_effect (has_stamp (ends_of (phases_of states)) s) k (all_versions slots)) (λ s. net_effect (has_stamp (ends_of (phases_of states)) s) k (unnumbered (versions_at slots lists k))) b (λ s _. keyed slots lists k h (has_stamp (ends_of (phases_of states)) s))

clear_keyed : (states : States) (slots : Slots) (lists : Lists) (t : ℕ) (k : RowKey) → HasNumbers slots lists → IsClear states t k (all_versions slots) → IsClear states t k (unnumbered (versions_at slots lists k))
clear_keyed states slots lists t k h c = record {
  own = ap is_clash (sym (keyed slots lists k h (names t))) ∙ c.own;
  others = λ p e. c.others p (below_keyed states slots lists k t h ∙ e);
}

-- the version that the rule shows has the content of the snapshot
pub shown_is : (s : State) (states : States) (slots : Slots) (lists : Lists) (t : ℕ) (r : ActiveTx) (k : RowKey) → IsSound s → IsStarted s → AreVersionsOf s (phases_of states) (all_versions slots) → HasNumbers slots lists → active_of t s.active ≡ Some r → content_shown slots (shown_to states t t (versions_at slots lists k)).version ≡ fin.get (snapshot s t) k
shown_is s states slots lists t r k sd st h ns f =
    rule_is states slots t k (versions_at slots lists k) (of_key slots lists k ns) (there slots lists k) (clear_keyed states slots lists t k ns (clear_in s states (all_versions slots) t r k sd st h f))
    ∙ ap (λ d. shown_over d (change_below (ends_of (phases_of states)) t k (unnumbered (versions_at slots lists k)))) (sym (keyed slots lists k ns (names t)))
    ∙ ap (shown_over (net_effect (names t) k (all_versions slots))) (sym (below_keyed states slots lists k t ns))
    ∙ shown_right s (phases_of states) (all_versions slots) t r k sd st h f
