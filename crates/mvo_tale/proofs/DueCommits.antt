-- Which commits are due, as a walk over the places finds them.
use Rattle.std.proofs.Common.{◌≡◌, ℕ, suc, ◌+◌, ◌<◌, ◌≤◌, Bool, true, false, cond, List, [], ◌∷◌, ◌++◌, length, take, drop, get_or, refl, sym, ap, ◌∙◌, subst, arith, take-append-drop}
use Rattle.std.specs.Prelude.{nat_lt, nat_le, ◌&&◌, filter}
use Rattle.std.specs.List.{AllByRecursion}
use Rattle.std.proofs.lemmas.Bool.{true≢false, le-ltb, lt-leb, le-leb, ltb-false}
use Rattle.std.proofs.lemmas.List.{take_more, drop_all}
use Rattle.std.proofs.lemmas.List.Elements.{filter-append}
use Rattle.std.proofs.Math.Seq.{drop-cons}
use Rattle.mvo_theory.specs.Marks.{Commit}
use Rattle.mvo_theory.specs.Groups.{is_writing, is_due}
use Rattle.mvo_theory.proofs.Each.{each_append, each_weaker}
use Rattle.mvo_tale.specs.declared.tale_place.TalePlace.{TalePlace}
use Rattle.mvo_tale.specs.declared.tale_place.TalePlace.TheVariants.{Open, Reading, Settled, Empty}
use Rattle.mvo_tale.specs.Stored.{StoredCommit, stored_commit_of}
use Rattle.mvo_tale.specs.Slots.{ends, open_ends, tale_commits, AreRising}
use Rattle.mvo_tale.specs.Next.{due_in, NoneIsDue}
use Rattle.mvo_tale.specs.Walk.{IsWalkEnd, IsPassedOver, IsPassed, IsDueAt}
use Rattle.mvo_tale.proofs.Rising.{commits-append, open_ends-append, rising_drop, open_drop}

abbrev is_up_to : ℕ → Commit → Bool
is_up_to low c = nat_le c.0 low

-- ---- what isn't due
and_false : (a : Bool) → (a && false) ≡ false
and_false true = refl
and_false false = refl

pub within_not_due : (mark : ℕ) (c : Commit) → c.0 ≤ mark → is_due mark c ≡ false
within_not_due mark c le = ap (λ (b : Bool). b && is_writing c) (le-ltb mark c.0 le)

pub idle_not_due : (mark : ℕ) (c : Commit) → is_writing c ≡ false → is_due mark c ≡ false
idle_not_due mark c idle = ap (λ (w : Bool). nat_lt mark c.0 && w) idle ∙ and_false (nat_lt mark c.0)

pub not_due_later : (m n : ℕ) (c : Commit) → m ≤ n → is_due m c ≡ false → is_due n c ≡ false
not_due_later m n c le = go (nat_lt m c.0) refl (is_writing c)
  where
    go : (a : Bool) → nat_lt m c.0 ≡ a → (w : Bool) → (a && w) ≡ false → (nat_lt n c.0 && w) ≡ false
    go true e true h = absurd (true≢false h)
    go true e false h = and_false (nat_lt n c.0)
    go false e w h = ap (λ (b : Bool). b && w) (le-ltb n c.0 (let l = ltb-false m c.0 e in omega arith))

pub none_later : (m n : ℕ) (cs : List Commit) → m ≤ n → NoneIsDue m cs → NoneIsDue n cs
none_later m n cs le h = each_weaker (λ c. is_due m c ≡ false) (λ c. is_due n c ≡ false) (λ c e. not_due_later m n c le e) cs h

pub none_due : (prev low : ℕ) (cs : List Commit) → NoneIsDue prev cs → filter (is_due prev) (filter (is_up_to low) cs) ≡ []
none_due prev low [] h = refl
none_due prev low (c ∷ cs) h = go (is_up_to low c) (none_due prev low cs h.1)
  where
    go : (b : Bool) → filter (is_due prev) (filter (is_up_to low) cs) ≡ [] → filter (is_due prev) (cond b (c ∷ filter (is_up_to low) cs) (filter (is_up_to low) cs)) ≡ []
    go true r = ap (λ (v : Bool). cond v (c ∷ filter (is_due prev) (filter (is_up_to low) cs)) (filter (is_due prev) (filter (is_up_to low) cs))) h.0 ∙ r
    go false r = r

-- ---- one place more
pub due_in-append : (prev low : ℕ) (xs ys : List TalePlace) → due_in prev low (xs ++ ys) ≡ due_in prev low xs ++ due_in prev low ys
due_in-append prev low xs ys =
    ap (λ cs. filter (is_due prev) (filter (is_up_to low) cs)) (commits-append xs ys)
    ∙ ap (filter (is_due prev)) (filter-append (is_up_to low) (tale_commits xs) (tale_commits ys))
    ∙ filter-append (is_due prev) (filter (is_up_to low) (tale_commits xs)) (filter (is_up_to low) (tale_commits ys))

taken_more : (xs : List TalePlace) (p : ℕ) (x : TalePlace) → p < length xs → x ≡ get_or xs p x → take (p + 1) xs ≡ take p xs ++ x ∷ []
taken_more xs p x lt is = take_more xs p x lt ∙ ap (λ y. take p xs ++ y ∷ []) (sym is)

pub due_more : (prev low : ℕ) (xs : List TalePlace) (p : ℕ) (x : TalePlace) → p < length xs → x ≡ get_or xs p x → due_in prev low (take (p + 1) xs) ≡ due_in prev low (take p xs) ++ due_in prev low (x ∷ [])
due_more prev low xs p x lt is = ap (due_in prev low) (taken_more xs p x lt is) ∙ due_in-append prev low (take p xs) (x ∷ [])

pub none_more : (mark : ℕ) (xs : List TalePlace) (p : ℕ) (x : TalePlace) → p < length xs → x ≡ get_or xs p x → NoneIsDue mark (tale_commits (take p xs)) → NoneIsDue mark (tale_commits (x ∷ [])) → NoneIsDue mark (tale_commits (take (p + 1) xs))
none_more mark xs p x lt is h k =
    subst (NoneIsDue mark) (sym (ap tale_commits (taken_more xs p x lt is) ∙ commits-append (take p xs) (x ∷ []))) (each_append (λ c. is_due mark c ≡ false) (tale_commits (take p xs)) (tale_commits (x ∷ [])) h k)

pub opens_more : (xs : List TalePlace) (p : ℕ) (x : TalePlace) → p < length xs → x ≡ get_or xs p x → open_ends (take p xs) ≡ [] → open_ends (x ∷ []) ≡ [] → open_ends (take (p + 1) xs) ≡ []
opens_more xs p x lt is h k = ap open_ends (taken_more xs p x lt is) ∙ open_ends-append (take p xs) (x ∷ []) ∙ ap (λ es. es ++ open_ends (x ∷ [])) h ∙ k

pub left_from : (xs : List TalePlace) (p : ℕ) (x : TalePlace) → p < length xs → x ≡ get_or xs p x → drop p xs ≡ x ∷ drop (p + 1) xs
left_from xs p x lt is =
    let next : suc p ≡ p + 1 = omega arith in
    drop-cons xs p x lt ∙ ap (λ y. y ∷ drop (suc p) xs) (sym is) ∙ ap (λ (n : ℕ). x ∷ drop n xs) next

pub due_parts : (prev low : ℕ) (xs : List TalePlace) (p : ℕ) → due_in prev low xs ≡ due_in prev low (take p xs) ++ due_in prev low (drop p xs)
due_parts prev low xs p = ap (due_in prev low) (sym (take-append-drop p xs)) ∙ due_in-append prev low (take p xs) (drop p xs)

-- ---- what each place has
due_one : (prev low : ℕ) (c : Commit) (cs : List Commit) → c.0 ≤ low → filter (is_due prev) (filter (is_up_to low) (c ∷ cs)) ≡ cond (is_due prev c) (c ∷ filter (is_due prev) (filter (is_up_to low) cs)) (filter (is_due prev) (filter (is_up_to low) cs))
due_one prev low c cs le = ap (λ (b : Bool). filter (is_due prev) (cond b (c ∷ filter (is_up_to low) cs) (filter (is_up_to low) cs))) (le-leb c.0 low le)

pub due_first : (prev low : ℕ) (x : TalePlace) (xs : List TalePlace) (commit : StoredCommit) → IsDueAt prev low x commit → due_in prev low (x ∷ xs) ≡ stored_commit_of commit ∷ due_in prev low xs
due_first prev low x xs commit h =
    ap (λ y. due_in prev low (y ∷ xs)) h.at
    ∙ due_one prev low (stored_commit_of commit) (tale_commits xs) h.within
    ∙ ap (λ (b : Bool). cond b (stored_commit_of commit ∷ due_in prev low xs) (due_in prev low xs)) h.due

pub due_passed : (prev low : ℕ) (x : TalePlace) → IsPassed prev low x → due_in prev low (x ∷ []) ≡ []
due_passed prev low x h =
    ap (λ y. due_in prev low (y ∷ [])) h.at
    ∙ due_one prev low (stored_commit_of h.commit) [] h.within
    ∙ ap (λ (b : Bool). cond b (stored_commit_of h.commit ∷ []) []) h.due

-- where no commit is, and none that wrote will be
pub due_over : (prev low : ℕ) (x : TalePlace) → IsPassedOver x → due_in prev low (x ∷ []) ≡ []
due_over prev low (Open e) h = absurd h
due_over prev low (Reading b) h = refl
due_over prev low (Settled c) h = absurd h
due_over prev low Empty h = refl

pub none_over : (mark : ℕ) (x : TalePlace) → IsPassedOver x → NoneIsDue mark (tale_commits (x ∷ []))
none_over mark (Open e) h = absurd h
none_over mark (Reading b) h = tt
none_over mark (Settled c) h = absurd h
none_over mark Empty h = tt

pub opens_over : (x : TalePlace) → IsPassedOver x → open_ends (x ∷ []) ≡ []
opens_over (Open e) h = absurd h
opens_over (Reading b) h = refl
opens_over (Settled c) h = absurd h
opens_over Empty h = refl

pub passed_within : (low : ℕ) (x : TalePlace) (commit : StoredCommit) → x ≡ Settled commit → commit.end ≤ low → NoneIsDue low (tale_commits (x ∷ []))
passed_within low x commit is le = subst (λ y. NoneIsDue low (tale_commits (y ∷ []))) (sym is) (within_not_due low (stored_commit_of commit) le, tt)

-- ---- where the walk stops
above_low : (low : ℕ) (xs : List TalePlace) → AllByRecursion (λ e. low < e) (ends xs) → filter (is_up_to low) (tale_commits xs) ≡ []
above_low low [] h = refl
above_low low (Open e ∷ xs) h = above_low low xs h.1
above_low low (Reading b ∷ xs) h = above_low low xs h.1
above_low low (Settled x ∷ xs) h = ap (λ (b : Bool). cond b (stored_commit_of x ∷ filter (is_up_to low) (tale_commits xs)) (filter (is_up_to low) (tale_commits xs))) (lt-leb x.end low h.0) ∙ above_low low xs h.1
above_low low (Empty ∷ xs) h = above_low low xs h

from_above : (low e : ℕ) (xs : List TalePlace) → low < e → AllByRecursion (λ d. e < d) (ends xs) → AllByRecursion (λ d. low < d) (ends xs)
from_above low e xs lt h = each_weaker (λ d. e < d) (λ d. low < d) (λ d l. omega arith) (ends xs) h

stop_above : (low : ℕ) (x : TalePlace) (xs : List TalePlace) → IsWalkEnd low x → AreRising (ends (x ∷ xs)) → AllByRecursion (λ e. low < e) (open_ends (x ∷ xs)) → AllByRecursion (λ e. low < e) (ends (x ∷ xs))
stop_above low (Open e) xs s r o = (o.0, from_above low e.0 xs o.0 r.0)
stop_above low (Reading b) xs s r o = absurd s
stop_above low (Settled y) xs s r o = (s, from_above low y.end xs s r.0)
stop_above low Empty xs s r o = absurd s

pub none_left : (prev low : ℕ) (xs : List TalePlace) (p : ℕ) (x : TalePlace) → p < length xs → x ≡ get_or xs p x → IsWalkEnd low x → AreRising (ends xs) → AllByRecursion (λ e. low < e) (open_ends xs) → due_in prev low (drop p xs) ≡ []
none_left prev low xs p x lt is s r o =
    let parts = left_from xs p x lt is in
    let rising = subst (λ (ys : List TalePlace). AreRising (ends ys)) parts (rising_drop p xs r) in
    let opens = subst (λ (ys : List TalePlace). AllByRecursion (λ e. low < e) (open_ends ys)) parts (open_drop low p xs o) in
    ap (due_in prev low) parts ∙ ap (filter (is_due prev)) (above_low low (x ∷ drop (p + 1) xs) (stop_above low x (drop (p + 1) xs) s rising opens))

pub none_behind : (prev low : ℕ) (xs : List TalePlace) (p : ℕ) → length xs ≤ p → due_in prev low (drop p xs) ≡ []
none_behind prev low xs p le = ap (due_in prev low) (drop_all p xs le)
