-- The ends over the places rise.
use Rattle.std.proofs.Common.{◌≡◌, ℕ, zero, suc, ◌<◌, Bool, true, false, cond, List, [], ◌∷◌, ◌++◌, Option, None, Some, take, drop, refl, sym, ap, ◌∙◌, subst, take-append-drop}
use Rattle.std.specs.Prelude.{slice_set, filter}
use Rattle.std.specs.List.{AllByRecursion}
use Rattle.mvo_theory.specs.Marks.{Commit}
use Rattle.mvo_theory.proofs.Each.{each_append, each_back, each_filter}
use Rattle.mvo_tale.specs.declared.tale_place.TalePlace.{TalePlace}
use Rattle.mvo_tale.specs.declared.tale_place.TalePlace.TheVariants.{Open, Reading, Settled, Empty}
use Rattle.mvo_tale.specs.Stored.{StoredCommit, stored_commit_of}
use Rattle.mvo_tale.specs.Slots.{ends, open_ends, tale_commits, AreRising, open_end_at, pending_end_at}

-- ---- lists, one after another
pub ends-append : (xs ys : List TalePlace) → ends (xs ++ ys) ≡ ends xs ++ ends ys
ends-append [] ys = refl
ends-append (Open e ∷ xs) ys = ap (λ es. e.0 ∷ es) (ends-append xs ys)
ends-append (Reading b ∷ xs) ys = ap (λ es. b.0 ∷ es) (ends-append xs ys)
ends-append (Settled x ∷ xs) ys = ap (λ es. x.end ∷ es) (ends-append xs ys)
ends-append (Empty ∷ xs) ys = ends-append xs ys

pub open_ends-append : (xs ys : List TalePlace) → open_ends (xs ++ ys) ≡ open_ends xs ++ open_ends ys
open_ends-append [] ys = refl
open_ends-append (Open e ∷ xs) ys = ap (λ es. e.0 ∷ es) (open_ends-append xs ys)
open_ends-append (Reading b ∷ xs) ys = open_ends-append xs ys
open_ends-append (Settled x ∷ xs) ys = open_ends-append xs ys
open_ends-append (Empty ∷ xs) ys = open_ends-append xs ys

pub commits-append : (xs ys : List TalePlace) → tale_commits (xs ++ ys) ≡ tale_commits xs ++ tale_commits ys
commits-append [] ys = refl
commits-append (Open e ∷ xs) ys = commits-append xs ys
commits-append (Reading b ∷ xs) ys = commits-append xs ys
commits-append (Settled x ∷ xs) ys = ap (λ cs. stored_commit_of x ∷ cs) (commits-append xs ys)
commits-append (Empty ∷ xs) ys = commits-append xs ys

-- ---- parts of rising ends
rising_back : (es fs : List ℕ) → AreRising (es ++ fs) → AreRising fs
rising_back [] fs h = h
rising_back (e ∷ es) fs h = rising_back es fs h.1

pub rising_drop : (n : ℕ) (xs : List TalePlace) → AreRising (ends xs) → AreRising (ends (drop n xs))
rising_drop n xs h = rising_back (ends (take n xs)) (ends (drop n xs)) (subst AreRising (ap ends (sym (take-append-drop n xs)) ∙ ends-append (take n xs) (drop n xs)) h)

pub open_drop : (low n : ℕ) (xs : List TalePlace) → AllByRecursion (λ e. low < e) (open_ends xs) → AllByRecursion (λ e. low < e) (open_ends (drop n xs))
open_drop low n xs h = each_back (λ e. low < e) (open_ends (take n xs)) (open_ends (drop n xs)) (subst (AllByRecursion (λ e. low < e)) (ap open_ends (sym (take-append-drop n xs)) ∙ open_ends-append (take n xs) (drop n xs)) h)

-- ---- an end is added at the back
rising_push : (es : List ℕ) (e : ℕ) → AreRising es → AllByRecursion (λ d. d < e) es → AreRising (es ++ e ∷ [])
rising_push [] e h k = (tt, tt)
rising_push (d ∷ es) e h k = (each_append (λ f. d < f) es (e ∷ []) h.0 (k.0, tt), rising_push es e h.1 k.1)

pub rising_opened : (xs : List TalePlace) (x : TalePlace) (e : ℕ) → ends (x ∷ []) ≡ e ∷ [] → AreRising (ends xs) → AllByRecursion (λ d. d < e) (ends xs) → AreRising (ends (xs ++ x ∷ []))
rising_opened xs x e is h k = subst AreRising (sym (ends-append xs (x ∷ []) ∙ ap (λ es. ends xs ++ es) is)) (rising_push (ends xs) e h k)

-- ---- a place that is open for its end is settled: the ends are the same
none_some : (e : ℕ) → ◌≡◌ {A = Option ℕ} None (Some e) → ⊥
none_some e h = cc

pub same_end : (d e : ℕ) → ◌≡◌ {A = Option ℕ} (Some d) (Some e) → d ≡ e
same_end d e h = cc

-- a transaction that is Preparing, and may have written, is one that may be settled
pub open_pending : (xs : List TalePlace) (n e : ℕ) → open_end_at xs n ≡ Some e → pending_end_at xs n ≡ Some e
open_pending [] n e is = absurd (none_some e is)
open_pending (Open d ∷ xs) zero e is = is
open_pending (Reading b ∷ xs) zero e is = absurd (none_some e is)
open_pending (Settled y ∷ xs) zero e is = absurd (none_some e is)
open_pending (Empty ∷ xs) zero e is = absurd (none_some e is)
open_pending (x ∷ xs) (suc n) e is = open_pending xs n e is

pub ends_settled : (xs : List TalePlace) (n : ℕ) (x : StoredCommit) → pending_end_at xs n ≡ Some x.end → ends (slice_set xs n (Settled x)) ≡ ends xs
ends_settled [] n x is = absurd (none_some x.end is)
ends_settled (Open e ∷ xs) zero x is = ap (λ d. d ∷ ends xs) (sym (same_end e.0 x.end is))
ends_settled (Reading b ∷ xs) zero x is = ap (λ d. d ∷ ends xs) (sym (same_end b.0 x.end is))
ends_settled (Settled y ∷ xs) zero x is = absurd (none_some x.end is)
ends_settled (Empty ∷ xs) zero x is = absurd (none_some x.end is)
ends_settled (Open e ∷ xs) (suc n) x is = ap (λ es. e.0 ∷ es) (ends_settled xs n x is)
ends_settled (Reading b ∷ xs) (suc n) x is = ap (λ es. b.0 ∷ es) (ends_settled xs n x is)
ends_settled (Settled y ∷ xs) (suc n) x is = ap (λ es. y.end ∷ es) (ends_settled xs n x is)
ends_settled (Empty ∷ xs) (suc n) x is = ends_settled xs n x is

-- ---- a place is emptied: an end less
each_emptied : (P : ℕ → Type 0) (xs : List TalePlace) (n : ℕ) → AllByRecursion P (ends xs) → AllByRecursion P (ends (slice_set xs n Empty))
each_emptied P [] n h = tt
each_emptied P (Open e ∷ xs) zero h = h.1
each_emptied P (Reading b ∷ xs) zero h = h.1
each_emptied P (Settled y ∷ xs) zero h = h.1
each_emptied P (Empty ∷ xs) zero h = h
each_emptied P (Open e ∷ xs) (suc n) h = (h.0, each_emptied P xs n h.1)
each_emptied P (Reading b ∷ xs) (suc n) h = (h.0, each_emptied P xs n h.1)
each_emptied P (Settled y ∷ xs) (suc n) h = (h.0, each_emptied P xs n h.1)
each_emptied P (Empty ∷ xs) (suc n) h = each_emptied P xs n h

pub rising_emptied : (xs : List TalePlace) (n : ℕ) → AreRising (ends xs) → AreRising (ends (slice_set xs n Empty))
rising_emptied [] n h = tt
rising_emptied (Open e ∷ xs) zero h = h.1
rising_emptied (Reading b ∷ xs) zero h = h.1
rising_emptied (Settled y ∷ xs) zero h = h.1
rising_emptied (Empty ∷ xs) zero h = h
rising_emptied (Open e ∷ xs) (suc n) h = (each_emptied (λ d. e.0 < d) xs n h.0, rising_emptied xs n h.1)
rising_emptied (Reading b ∷ xs) (suc n) h = (each_emptied (λ d. b.0 < d) xs n h.0, rising_emptied xs n h.1)
rising_emptied (Settled y ∷ xs) (suc n) h = (each_emptied (λ d. y.end < d) xs n h.0, rising_emptied xs n h.1)
rising_emptied (Empty ∷ xs) (suc n) h = rising_emptied xs n h

-- ---- commits rise as their ends do
abbrev pub RisingCommits : List Commit → Type 0
RisingCommits [] = Unit {0}
RisingCommits (c ∷ cs) = AllByRecursion (λ d. c.0 < d.0) cs × RisingCommits cs

each_commit : (P : ℕ → Type 0) (xs : List TalePlace) → AllByRecursion P (ends xs) → AllByRecursion (λ c. P c.0) (tale_commits xs)
each_commit P [] h = tt
each_commit P (Open e ∷ xs) h = each_commit P xs h.1
each_commit P (Reading b ∷ xs) h = each_commit P xs h.1
each_commit P (Settled x ∷ xs) h = (h.0, each_commit P xs h.1)
each_commit P (Empty ∷ xs) h = each_commit P xs h

rising_commits : (xs : List TalePlace) → AreRising (ends xs) → RisingCommits (tale_commits xs)
rising_commits [] h = tt
rising_commits (Open e ∷ xs) h = rising_commits xs h.1
rising_commits (Reading b ∷ xs) h = rising_commits xs h.1
rising_commits (Settled x ∷ xs) h = (each_commit (λ e. x.end < e) xs h.0, rising_commits xs h.1)
rising_commits (Empty ∷ xs) h = rising_commits xs h

rising_front : (cs ds : List Commit) → RisingCommits (cs ++ ds) → RisingCommits cs
rising_front [] ds h = tt
rising_front (c ∷ cs) ds h = (front cs ds h.0, rising_front cs ds h.1)
  where
    front : (es fs : List Commit) → AllByRecursion (λ d. c.0 < d.0) (es ++ fs) → AllByRecursion (λ d. c.0 < d.0) es
    front [] fs k = tt
    front (e ∷ es) fs k = (k.0, front es fs k.1)

pub rising_filter : (p : Commit → Bool) (cs : List Commit) → RisingCommits cs → RisingCommits (filter p cs)
rising_filter p [] h = tt
rising_filter p (c ∷ cs) h = go (p c) (rising_filter p cs h.1)
  where
    go : (b : Bool) → RisingCommits (filter p cs) → RisingCommits (cond b (c ∷ filter p cs) (filter p cs))
    go true k = (each_filter p (λ d. c.0 < d.0) (λ d. c.0 < d.0) (λ d e l. l) cs h.0, k)
    go false k = k

pub rising_taken : (n : ℕ) (xs : List TalePlace) → AreRising (ends xs) → RisingCommits (tale_commits (take n xs))
rising_taken n xs h = rising_front (tale_commits (take n xs)) (tale_commits (drop n xs)) (subst RisingCommits (ap tale_commits (sym (take-append-drop n xs)) ∙ commits-append (take n xs) (drop n xs)) (rising_commits xs h))
