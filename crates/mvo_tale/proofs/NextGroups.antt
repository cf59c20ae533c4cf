-- The next records are those of the next group of the theory.
use Rattle.std.proofs.Common.{◌≡◌, ℕ, ◌+◌, ◌<◌, Bool, true, false, cond, List, [], ◌∷◌, ◌++◌, map, drop, length, refl, sym, ap, ◌∙◌, subst, arith, length-append}
use Rattle.std.specs.Prelude.{nat_le, ◌&&◌, filter}
use Rattle.std.specs.List.{AllByRecursion, sum_by}
use Rattle.std.proofs.lemmas.Bool.{false≢true, le-leb, leb-true}
use Rattle.std.proofs.lemmas.List.Sums.{sum_by-append}
use Rattle.mvo_types.specs.declared.ids.Stamp.{Stamp}
use Rattle.mvo_theory.specs.State.{State, StampedTx, timeline}
use Rattle.mvo_theory.specs.Marks.{Commit, settled_to, low_water}
use Rattle.mvo_theory.specs.Groups.{is_due, IsLongest, mark_by, due, IsNextGroup}
use Rattle.mvo_theory.proofs.Groups.{AreLimits}
use Rattle.mvo_tale.specs.declared.tale_place.TalePlace.{TalePlace}
use Rattle.mvo_tale.specs.declared.tale_place.TalePlace.TheVariants.{Open, Reading, Settled, Empty}
use Rattle.mvo_tale.specs.declared.next_records.NextRecords.{NextRecords}
use Rattle.mvo_tale.specs.Stored.{StoredCommit, stored_commit_of}
use Rattle.mvo_tale.specs.Slots.{ends, open_ends, tale_commits}
use Rattle.mvo_tale.specs.Records.{commit_len, fits}
use Rattle.mvo_tale.specs.Next.{due_in, AreNextRecords}
use Rattle.mvo_tale.specs.Timeline.{IsStoredAs, ArePlacesOf}

-- ---- what the places have is what the transactions have
pub ends_of_places : (slots : List TalePlace) (xs : List StampedTx) → ArePlacesOf slots xs → ends slots ≡ map (λ x. x.end) xs
ends_of_places [] [] h = refl
ends_of_places [] (x ∷ xs) h = absurd h
ends_of_places (Open e ∷ slots) [] h = absurd h
ends_of_places (Open e ∷ slots) (x ∷ xs) h = ap (λ (d : ℕ). d ∷ ends slots) (sym h.0.1) ∙ ap (λ es. x.end ∷ es) (ends_of_places slots xs h.1)
ends_of_places (Reading b ∷ slots) [] h = absurd h
ends_of_places (Reading b ∷ slots) (x ∷ xs) h = absurd h
ends_of_places (Settled c ∷ slots) [] h = absurd h
ends_of_places (Settled c ∷ slots) (x ∷ xs) h = ap (λ (d : ℕ). d ∷ ends slots) (sym h.0.end') ∙ ap (λ es. x.end ∷ es) (ends_of_places slots xs h.1)
ends_of_places (Empty ∷ slots) [] h = ends_of_places slots [] h
ends_of_places (Empty ∷ slots) (x ∷ xs) h = ends_of_places slots (x ∷ xs) h

pub open_ends_above : (m : ℕ) (slots : List TalePlace) (xs : List StampedTx) → ArePlacesOf slots xs → AllByRecursion (λ x. x.settled ≡ false → m < x.end) xs → AllByRecursion (λ e. m < e) (open_ends slots)
open_ends_above m [] [] h k = tt
open_ends_above m [] (x ∷ xs) h k = tt
open_ends_above m (Open e ∷ slots) [] h k = absurd h
open_ends_above m (Open e ∷ slots) (x ∷ xs) h k = (let lt = k.0 h.0.0 in let same = h.0.1 in omega arith, open_ends_above m slots xs h.1 k.1)
open_ends_above m (Reading b ∷ slots) [] h k = absurd h
open_ends_above m (Reading b ∷ slots) (x ∷ xs) h k = absurd h
open_ends_above m (Settled c ∷ slots) [] h k = absurd h
open_ends_above m (Settled c ∷ slots) (x ∷ xs) h k = open_ends_above m slots xs h.1 k.1
open_ends_above m (Empty ∷ slots) [] h k = open_ends_above m slots [] h k
open_ends_above m (Empty ∷ slots) (x ∷ xs) h k = open_ends_above m slots (x ∷ xs) h k

same_commit : (c : StoredCommit) (x : StampedTx) → IsStoredAs c x → ◌≡◌ {A = Commit} (x.end, x.history) (stored_commit_of c)
same_commit c x h = ap (λ (e : ℕ). (e, x.history)) h.end' ∙ ap (λ ts. (c.end, ts)) h.history

pub settled_to_places : (m : ℕ) (slots : List TalePlace) (xs : List StampedTx) → ArePlacesOf slots xs → settled_to m xs ≡ filter (λ c. nat_le c.0 m) (tale_commits slots)
settled_to_places m [] [] h = refl
settled_to_places m [] (x ∷ xs) h = absurd h
settled_to_places m (Open e ∷ slots) [] h = absurd h
settled_to_places m (Open e ∷ slots) (x ∷ xs) h = ap (λ (b : Bool). cond (b && nat_le x.end m) ((x.end, x.history) ∷ settled_to m xs) (settled_to m xs)) h.0.0 ∙ settled_to_places m slots xs h.1
settled_to_places m (Reading b ∷ slots) [] h = absurd h
settled_to_places m (Reading b ∷ slots) (x ∷ xs) h = absurd h
settled_to_places m (Settled c ∷ slots) [] h = absurd h
settled_to_places m (Settled c ∷ slots) (x ∷ xs) h =
    ap (λ (b : Bool). cond (b && nat_le x.end m) ((x.end, x.history) ∷ settled_to m xs) (settled_to m xs)) h.0.settled
    ∙ ap (λ (d : Commit). cond (nat_le d.0 m) (d ∷ settled_to m xs) (settled_to m xs)) (same_commit c x h.0)
    ∙ ap (λ cs. cond (nat_le c.end m) (stored_commit_of c ∷ cs) cs) (settled_to_places m slots xs h.1)
settled_to_places m (Empty ∷ slots) [] h = settled_to_places m slots [] h
settled_to_places m (Empty ∷ slots) (x ∷ xs) h = settled_to_places m slots (x ∷ xs) h

-- ---- the next group
due_is : (s : State) (slots : List TalePlace) → ArePlacesOf slots (timeline s) → due_in s.marks.closed (low_water s) slots ≡ due s
due_is s slots h = ap (filter (is_due s.marks.closed)) (sym (settled_to_places (low_water s) slots (timeline s) h))

pub next_group_is : (s : State) (slots : List TalePlace) (n : NextRecords) → ArePlacesOf slots (timeline s) → (h : AreNextRecords slots s.marks.closed (low_water s) n) → IsNextGroup fits s (record { prev = s.marks.closed; mark = n.mark.0; commits = h.taken })
next_group_is s slots n p h =
    let same = due_is s slots p in
    record {
      prev = refl;
      longest = subst (λ cs. IsLongest fits cs h.taken) same h.longest;
      mark = h.mark ∙ ap (λ cs. mark_by (low_water s) s.marks.closed h.taken (drop (length h.taken) cs)) same;
    }

-- ---- a place is opened
pub places_opened : (slots : List TalePlace) (xs : List StampedTx) (e : Stamp) (x : StampedTx) → ArePlacesOf slots xs → x.settled ≡ false → x.end ≡ e.0 → ArePlacesOf (slots ++ Open e ∷ []) (xs ++ x ∷ [])
places_opened [] [] e x h a b = ((a, b), tt)
places_opened [] (y ∷ ys) e x h a b = absurd h
places_opened (Open d ∷ slots) [] e x h a b = absurd h
places_opened (Open d ∷ slots) (y ∷ ys) e x h a b = (h.0, places_opened slots ys e x h.1 a b)
places_opened (Reading d ∷ slots) [] e x h a b = absurd h
places_opened (Reading d ∷ slots) (y ∷ ys) e x h a b = absurd h
places_opened (Settled c ∷ slots) [] e x h a b = absurd h
places_opened (Settled c ∷ slots) (y ∷ ys) e x h a b = (h.0, places_opened slots ys e x h.1 a b)
places_opened (Empty ∷ slots) [] e x h a b = places_opened slots [] e x h a b
places_opened (Empty ∷ slots) (y ∷ ys) e x h a b = places_opened slots (y ∷ ys) e x h a b

-- ---- a beginning of what fits does too
both_true : (a b : Bool) → (a && b) ≡ true → (a ≡ true) × (b ≡ true)
both_true true b h = (refl, h)
both_true false b h = absurd (false≢true h)

pub are_limits : AreLimits fits
are_limits xs ys h =
    let b = both_true (nat_le (length (xs ++ ys)) 1024) (nat_le (18 + sum_by commit_len (xs ++ ys)) 4194304) h in
    let few = leb-true (length (xs ++ ys)) 1024 b.0 in
    let size = leb-true (18 + sum_by commit_len (xs ++ ys)) 4194304 b.1 in
    ap (λ (v : Bool). v && nat_le (18 + sum_by commit_len xs) 4194304) (le-leb (length xs) 1024 (omega (arith, few, length-append xs ys)))
    ∙ le-leb (18 + sum_by commit_len xs) 4194304 (omega (arith, size, sum_by-append commit_len xs ys))
