-- The deciding change by the rules is the last change by words.
use Rattle.std.proofs.Common.{◌≡◌, ℕ, ◌<◌, suc, zero, Bool, true, false, cond, not, ◌||◌, List, [], ◌∷◌, map, Option, None, Some, refl, sym, ap, ◌∙◌, arith, ◌⊎◌, inl, inr}
use Rattle.std.specs.Prelude.{◌==◌, ◌&&◌, nat_lt, max}
use Rattle.std.specs.List.{AllByRecursion, list_any}
use Rattle.std.specs.Option.{option_map, option_or}
use Rattle.std.specs.Ordering.{eq_by_cmp}
use Rattle.std.proofs.lemmas.Bool.{eq-eqb, eqb-true, ne_eqb, lt-ltb, le-ltb, cases_order, true≢false}
use Rattle.std.proofs.lemmas.List.Folds.{list_any-append}
use Rattle.mvo_types.specs.declared.row.RowKey.{RowKey}
use Rattle.mvo_types.specs.declared.ids.Stamp.{Stamp}
use Rattle.mvo_types.specs.RowData.{ContentData, content_of}
use Rattle.mvo_types.specs.Keys.{key_cmp}
use Rattle.mvo_word.specs.declared.held.Held.{Held}
use Rattle.mvo_chain.specs.declared.version.Version.{Version}
use Rattle.mvo_chain.specs.declared.version.VersionNo.{VersionNo}
use Rattle.mvo_visible.specs.declared.seen.Seen.{Seen}
use Rattle.mvo_visible.specs.declared.seen.Seen.TheVariants.{Nothing, Settled, Speculative}
use Rattle.mvo_visible.specs.declared.change.Change.{Change}
use Rattle.mvo_visible.specs.Words.{States, seen_of}
use Rattle.mvo_visible.specs.Versions.{NumberedVersion}
use Rattle.mvo_visible.specs.Changes.{is_at, put_of, removal_of, unless_removed, changes_by, changes_of, greater, greatest_below, first_with, version_with}
use Rattle.mvo_visible.proofs.Decides.{first_with-append, option_or-none}
use Rattle.mvo_representation.specs.Words.{ends_of, has_stamp, NetEffect, with_effect, effect_by, effect_of, net_effect, or_change_at, last_change, last_passing, change_below, content_put, is_clash}
use Rattle.mvo_representation.specs.Words.NetEffect.{Untouched, Removed, Puts, Clash}
use Rattle.mvo_representation.specs.Table.{phases_of}
use Rattle.mvo_representation.proofs.Seen.{seen_at}
use Rattle.mvo_theory.proofs.Numbers.{or_false}

-- ---- the greatest number that passes
pub some_end : (a b : ℕ) → ◌≡◌ {A = Option ℕ} (Some a) (Some b) → a ≡ b
some_end a b q = cc

pub none_end : (e : ℕ) → ◌≡◌ {A = Option ℕ} None (Some e) → ⊥
none_end e q = cc

pub last_same : (f g : ℕ → Bool) (b : ℕ) → ((s : ℕ) → f s ≡ g s) → last_passing f b ≡ last_passing g b
last_same f g zero h = refl
last_same f g (suc b) h = ap (λ c. cond c (Some b) (last_passing f b)) (h b) ∙ ap (cond (g b) (Some b)) (last_same f g b h)

pub last_within : (f : ℕ → Bool) (b n : ℕ) → last_passing f b ≡ Some n → n < b
last_within f zero n e = absurd (none_end n e)
last_within f (suc b) n e = go (f b) e (λ g. last_within f b n g)
  where
    go : (c : Bool) → cond c (Some b) (last_passing f b) ≡ Some n → (last_passing f b ≡ Some n → n < b) → n < suc b
    go true g again = let q = some_end b n g in omega (arith, q)
    go false g again = let l = again g in omega (arith, l)

pub last_holds : (f : ℕ → Bool) (b n : ℕ) → last_passing f b ≡ Some n → f n ≡ true
last_holds f zero n e = absurd (none_end n e)
last_holds f (suc b) n e = go (f b) refl e (λ g. last_holds f b n g)
  where
    go : (c : Bool) → f b ≡ c → cond c (Some b) (last_passing f b) ≡ Some n → (last_passing f b ≡ Some n → f n ≡ true) → f n ≡ true
    go true q g again = ap f (sym (some_end b n g)) ∙ q
    go false q g again = again g

-- one number more
one_more : (c : ℕ) (f : ℕ → Bool) (b : ℕ) → last_passing (λ s. (c == s) || f s) b ≡ cond (nat_lt c b) (Some (greater c (last_passing f b))) (last_passing f b)
one_more c f zero = ap (λ d. cond d (Some c) None) (sym (le-ltb c 0 (omega arith)))
one_more c f (suc b) = go (cases_order c b) (one_more c f b)
  where
    top : (w : Option ℕ) → ((n : ℕ) → w ≡ Some n → n < b) → c ≡ b → b ≡ greater c w
    top None h e = sym e
    top (Some n) h e = let l = h n refl in omega (arith, l, e)

    go : (c ≡ b) ⊎ ((c < b) ⊎ (b < c)) → last_passing (λ s. (c == s) || f s) b ≡ cond (nat_lt c b) (Some (greater c (last_passing f b))) (last_passing f b) → last_passing (λ s. (c == s) || f s) (suc b) ≡ cond (nat_lt c (suc b)) (Some (greater c (last_passing f (suc b)))) (last_passing f (suc b))
    go (inl e) again =
        ap (λ d. cond (d || f b) (Some b) (last_passing (λ s. (c == s) || f s) b)) (eq-eqb c b e)
        ∙ by (f b)
        ∙ ap (λ d. cond d (Some (greater c (last_passing f (suc b)))) (last_passing f (suc b))) (sym (lt-ltb c (suc b) (omega (arith, e))))
      where
        by : (d : Bool) → Some b ≡ Some (greater c (cond d (Some b) (last_passing f b)))
        by true = ap Some (let m : max c b ≡ b = omega (arith, e) in sym m)
        by false = ap Some (top (last_passing f b) (λ n q. last_within f b n q) e)
    go (inr (inl l)) again =
        ap (λ d. cond (d || f b) (Some b) (last_passing (λ s. (c == s) || f s) b)) (ne_eqb c b (λ q. absurd (omega (arith, l, q))))
        ∙ ap (cond (f b) (Some b)) (again ∙ ap (λ d. cond d (Some (greater c (last_passing f b))) (last_passing f b)) (lt-ltb c b l))
        ∙ by (f b)
        ∙ ap (λ d. cond d (Some (greater c (last_passing f (suc b)))) (last_passing f (suc b))) (sym (lt-ltb c (suc b) (omega (arith, l))))
      where
        by : (d : Bool) → cond d (Some b) (Some (greater c (last_passing f b))) ≡ Some (greater c (cond d (Some b) (last_passing f b)))
        by true = ap Some (let m : max c b ≡ b = omega (arith, l) in sym m)
        by false = refl
    go (inr (inr l)) again =
        ap (λ d. cond (d || f b) (Some b) (last_passing (λ s. (c == s) || f s) b)) (ne_eqb c b (λ q. absurd (omega (arith, l, q))))
        ∙ ap (cond (f b) (Some b)) (again ∙ ap (λ d. cond d (Some (greater c (last_passing f b))) (last_passing f b)) (le-ltb c b (omega (arith, l))))
        ∙ ap (λ d. cond d (Some (greater c (last_passing f (suc b)))) (last_passing f (suc b))) (sym (le-ltb c (suc b) (omega (arith, l))))

abbrev pub is_stamped : ℕ → List Change → Bool
is_stamped s cs = list_any (λ c. c.stamp.0 == s) cs

pub greatest_is : (b : ℕ) (cs : List Change) → greatest_below b cs ≡ last_passing (λ s. is_stamped s cs) b
greatest_is b [] = none b
  where
    none : (b : ℕ) → None ≡ last_passing (λ s. false) b
    none zero = refl
    none (suc b) = none b
greatest_is b (c ∷ cs) =
    ap (λ w. cond (nat_lt c.stamp.0 b) (Some (greater c.stamp.0 w)) w) (greatest_is b cs)
    ∙ sym (one_more c.stamp.0 (λ s. is_stamped s cs) b)

-- ---- the changes of versions
-- whether a version is put or ended with the stamp
abbrev pub changes_at : States → ℕ → NumberedVersion → Bool
changes_at states s e = has_stamp (ends_of (phases_of states)) s e.1.begin || has_stamp (ends_of (phases_of states)) s e.1.end

any_put : (s : ℕ) (n : VersionNo) (w x : Seen) → is_stamped s (put_of n w x) ≡ is_at s w
any_put s n Nothing x = refl
any_put s n (Settled e) x = or_false (e.0 == s)
any_put s n (Speculative e t) x = or_false (e.0 == s)

any_removal : (s : ℕ) (x : Seen) → is_stamped s (removal_of x) ≡ is_at s x
any_removal s Nothing = refl
any_removal s (Settled e) = or_false (e.0 == s)
any_removal s (Speculative e t) = or_false (e.0 == s)

pub stamped_by : (states : States) (s : ℕ) (vs : List NumberedVersion) → is_stamped s (changes_of states vs) ≡ list_any (changes_at states s) vs
stamped_by states s [] = refl
stamped_by states s (e ∷ es) =
    list_any-append (λ c. c.stamp.0 == s) (changes_by states e) (changes_of states es)
    ∙ ap (λ b. b || is_stamped s (changes_of states es))
    (list_any-append (λ c. c.stamp.0 == s) (put_of e.0 (seen_of states e.1.begin) (seen_of states e.1.end)) (removal_of (seen_of states e.1.end))
    ∙ ap (λ b. b || is_stamped s (removal_of (seen_of states e.1.end))) (any_put s e.0 (seen_of states e.1.begin) (seen_of states e.1.end) ∙ seen_at states s e.1.begin)
    ∙ ap (λ b. has_stamp (ends_of (phases_of states)) s e.1.begin || b) (any_removal s (seen_of states e.1.end) ∙ seen_at states s e.1.end))
    ∙ ap (λ b. changes_at states s e || b) (stamped_by states s es)

pub greatest_change : (states : States) (b : ℕ) (vs : List NumberedVersion) → greatest_below b (changes_of states vs) ≡ last_passing (λ s. list_any (changes_at states s) vs) b
greatest_change states b vs = greatest_is b (changes_of states vs) ∙ last_same (λ s. is_stamped s (changes_of states vs)) (λ s. list_any (changes_at states s) vs) b (λ s. stamped_by states s vs)

-- ---- the version that is put with a stamp
-- the first version that is put by words that pass, and not ended by such
abbrev pub is_put_by : (Held → Bool) → NumberedVersion → Bool
is_put_by n e = n e.1.begin && not (n e.1.end)

abbrev pub first_put : (Held → Bool) → List NumberedVersion → Option NumberedVersion
first_put n [] = None
first_put n (e ∷ es) = option_or (cond (is_put_by n e) (Some e) None) (first_put n es)

version_put_at : (s : ℕ) (n : VersionNo) (e : Stamp) (x : Seen) → option_or (cond (e.0 == s) (unless_removed n e x) None) None ≡ cond ((e.0 == s) && not (is_at s x)) (Some n) None
version_put_at s n e x = go (e.0 == s) refl
  where
    by : (b : Bool) → cond b None (Some n) ≡ cond (not b) (Some n) None
    by true = refl
    by false = refl

    go : (b : Bool) → (e.0 == s) ≡ b → option_or (cond b (unless_removed n e x) None) None ≡ cond (b && not (is_at s x)) (Some n) None
    go true q = option_or-none (unless_removed n e x) ∙ ap (λ (m : ℕ). cond (is_at m x) None (Some n)) (eqb-true e.0 s q) ∙ by (is_at s x)
    go false q = refl

version_put : (s : ℕ) (n : VersionNo) (w x : Seen) → first_with (λ c. c.version) s (put_of n w x) ≡ cond (is_at s w && not (is_at s x)) (Some n) None
version_put s n Nothing x = refl
version_put s n (Settled e) x = version_put_at s n e x
version_put s n (Speculative e t) x = version_put_at s n e x

none_either : (b : Bool) (w : Option VersionNo) → w ≡ None → option_or (cond b w None) None ≡ None
none_either true w q = ap (λ v. option_or v None) q
none_either false w q = refl

version_removed : (s : ℕ) (x : Seen) → first_with (λ c. c.version) s (removal_of x) ≡ None
version_removed s Nothing = refl
version_removed s (Settled e) = none_either (e.0 == s) None refl
version_removed s (Speculative e t) = none_either (e.0 == s) None refl

abbrev pub number_of : Option NumberedVersion → Option VersionNo
number_of w = option_map (λ e. e.0) w

-- the version with the stamp is the first that is put with it and stays
pub version_first : (states : States) (s : ℕ) (vs : List NumberedVersion) → version_with s (changes_of states vs) ≡ number_of (first_put (has_stamp (ends_of (phases_of states)) s) vs)
version_first states s [] = refl
version_first states s (e ∷ es) =
    first_with-append (λ c. c.version) s (changes_by states e) (changes_of states es)
    ∙ ap (λ w. option_or w (version_with s (changes_of states es)))
    (first_with-append (λ c. c.version) s (put_of e.0 (seen_of states e.1.begin) (seen_of states e.1.end)) (removal_of (seen_of states e.1.end))
    ∙ ap (option_or (first_with (λ c. c.version) s (put_of e.0 (seen_of states e.1.begin) (seen_of states e.1.end)))) (version_removed s (seen_of states e.1.end))
    ∙ option_or-none (first_with (λ c. c.version) s (put_of e.0 (seen_of states e.1.begin) (seen_of states e.1.end)))
    ∙ version_put s e.0 (seen_of states e.1.begin) (seen_of states e.1.end)
    ∙ ap (λ b. cond (b && not (is_at s (seen_of states e.1.end))) (Some e.0) None) (seen_at states s e.1.begin)
    ∙ ap (λ b. cond (has_stamp (ends_of (phases_of states)) s e.1.begin && not b) (Some e.0) None) (seen_at states s e.1.end))
    ∙ ap (option_or (cond (is_put_by (has_stamp (ends_of (phases_of states)) s) e) (Some e.0) None)) (version_first states s es)
    ∙ by (is_put_by (has_stamp (ends_of (phases_of states)) s) e)
  where
    by : (b : Bool) → option_or (cond b (Some e.0) None) (number_of (first_put (has_stamp (ends_of (phases_of states)) s) es)) ≡ number_of (option_or (cond b (Some e) None) (first_put (has_stamp (ends_of (phases_of states)) s) es))
    by true = refl
    by false = refl

-- ---- versions of one key
abbrev pub AreOfKey : RowKey → List NumberedVersion → Type 0
AreOfKey k vs = AllByRecursion (λ e. eq_by_cmp key_cmp k e.1.row.key ≡ true) vs

abbrev pub unnumbered : List NumberedVersion → List Version
unnumbered vs = map (λ e. e.1) vs

abbrev pub is_change : NetEffect → Bool
is_change Untouched = false
is_change Removed = true
is_change (Puts h) = true
is_change Clash = true

abbrev pub content_of_first : Option NumberedVersion → Option ContentData
content_of_first w = option_map (λ e. content_of e.1.row) w

-- the effect of a version of the key
effect_here : (n : Held → Bool) (k : RowKey) (v : Version) → eq_by_cmp key_cmp k v.row.key ≡ true → effect_of n k v ≡ effect_by (n v.begin) (n v.end) (content_of v.row)
effect_here n k v e = ap (λ b. cond b (effect_by (n v.begin) (n v.end) (content_of v.row)) Untouched) e

-- something was done where some word passes
pub change_any : (n : Held → Bool) (k : RowKey) (vs : List NumberedVersion) → AreOfKey k vs → is_change (net_effect n k (unnumbered vs)) ≡ list_any (λ e. n e.1.begin || n e.1.end) vs
change_any n k [] h = refl
change_any n k (e ∷ es) h =
    ap (λ d. is_change (with_effect d (net_effect n k (unnumbered es)))) (effect_here n k e.1 h.0)
    ∙ go (n e.1.begin) (n e.1.end) (net_effect n k (unnumbered es))
    ∙ ap (λ b. (n e.1.begin || n e.1.end) || b) (change_any n k es h.1)
  where
    go : (b c : Bool) (d : NetEffect) → is_change (with_effect (effect_by b c (content_of e.1.row)) d) ≡ ((b || c) || is_change d)
    go true true Untouched = refl
    go true true Removed = refl
    go true true (Puts h) = refl
    go true true Clash = refl
    go true false Untouched = refl
    go true false Removed = refl
    go true false (Puts h) = refl
    go true false Clash = refl
    go false true Untouched = refl
    go false true Removed = refl
    go false true (Puts h) = refl
    go false true Clash = refl
    go false false d = refl

-- what is put is the content of the first version that is put and stays
pub content_first : (n : Held → Bool) (k : RowKey) (vs : List NumberedVersion) → AreOfKey k vs → is_clash (net_effect n k (unnumbered vs)) ≡ false → content_put (net_effect n k (unnumbered vs)) ≡ content_of_first (first_put n vs)
content_first n k [] h c = refl
content_first n k (e ∷ es) h c =
    ap (λ d. content_put (with_effect d (net_effect n k (unnumbered es)))) (effect_here n k e.1 h.0)
    ∙ go (n e.1.begin) (n e.1.end) (net_effect n k (unnumbered es)) (sym (ap (λ d. is_clash (with_effect d (net_effect n k (unnumbered es)))) (effect_here n k e.1 h.0)) ∙ c) (λ q. content_first n k es h.1 q)
  where
    go : (b c : Bool) (d : NetEffect) → is_clash (with_effect (effect_by b c (content_of e.1.row)) d) ≡ false → (is_clash d ≡ false → content_put d ≡ content_of_first (first_put n es)) → content_put (with_effect (effect_by b c (content_of e.1.row)) d) ≡ content_of_first (option_or (cond (b && not c) (Some e) None) (first_put n es))
    go true true Untouched q r = r refl
    go true true Removed q r = r refl
    go true true (Puts h) q r = r refl
    go true true Clash q r = absurd (true≢false q)
    go true false Untouched q r = refl
    go true false Removed q r = refl
    go true false (Puts h) q r = absurd (true≢false q)
    go true false Clash q r = absurd (true≢false q)
    go false true Untouched q r = r refl
    go false true Removed q r = r refl
    go false true (Puts h) q r = r refl
    go false true Clash q r = absurd (true≢false q)
    go false false d q r = r q

-- ---- the last change is the greatest stamp with its effect
pub last_change_is : (f : ℕ → NetEffect) (b : ℕ) → last_change f b ≡ option_map (λ s. (s, f s)) (last_passing (λ s. is_change (f s)) b)
last_change_is f zero = refl
last_change_is f (suc b) = go (f b) refl (last_change_is f b)
  where
    go : (d : NetEffect) → f b ≡ d → last_change f b ≡ option_map (λ s. (s, f s)) (last_passing (λ s. is_change (f s)) b) → or_change_at b (f b) (last_change f b) ≡ option_map (λ s. (s, f s)) (cond (is_change (f b)) (Some b) (last_passing (λ s. is_change (f s)) b))
    go Untouched e r = ap (λ d. or_change_at b d (last_change f b)) e ∙ r ∙ ap (λ d. option_map (λ s. (s, f s)) (cond (is_change d) (Some b) (last_passing (λ s. is_change (f s)) b))) (sym e)
    go Removed e r = ap (λ d. or_change_at b d (last_change f b)) e ∙ ap (λ d. Some (b, d)) (sym e) ∙ ap (λ d. option_map (λ s. (s, f s)) (cond (is_change d) (Some b) (last_passing (λ s. is_change (f s)) b))) (sym e)
    go (Puts h) e r = ap (λ d. or_change_at b d (last_change f b)) e ∙ ap (λ d. Some (b, d)) (sym e) ∙ ap (λ d. option_map (λ s. (s, f s)) (cond (is_change d) (Some b) (last_passing (λ s. is_change (f s)) b))) (sym e)
    go Clash e r = ap (λ d. or_change_at b d (last_change f b)) e ∙ ap (λ d. Some (b, d)) (sym e) ∙ ap (λ d. option_map (λ s. (s, f s)) (cond (is_change d) (Some b) (last_passing (λ s. is_change (f s)) b))) (sym e)

-- the deciding change of the versions of a key, by its stamp
pub last_of_versions : (states : States) (b : ℕ) (k : RowKey) (vs : List NumberedVersion) → AreOfKey k vs → change_below (ends_of (phases_of states)) b k (unnumbered vs) ≡ option_map (λ s. (s, net_effect (has_stamp (ends_of (phases_of states)) s) k (unnumbered vs))) (greatest_below b (changes_of states vs))
last_of_versions states b k vs h =
    last_change_is (λ s. net_effect (has_stamp (ends_of (phases_of states)) s) k (unnumbered vs)) b
    ∙ ap (option_map (λ s. (s, net_effect (has_stamp (ends_of (phases_of states)) s) k (unnumbered vs))))
    (last_same (λ s. is_change (net_effect (has_stamp (ends_of (phases_of states)) s) k (unnumbered vs))) (λ s. list_any (changes_at states s) vs) b (λ s. change_any (has_stamp (ends_of (phases_of states)) s) k vs h)
    ∙ sym (greatest_change states b vs))
