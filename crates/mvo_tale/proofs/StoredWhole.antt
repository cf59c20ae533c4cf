-- What is stored above the start is the whole tale, and legal.
use Rattle.std.proofs.Common.{◌≡◌, ℕ, ◌<◌, Bool, true, false, cond, List, [], ◌∷◌, ◌++◌, map, refl, sym, ap, ◌∙◌, subst, arith}
use Rattle.std.specs.Prelude.{nat_lt}
use Rattle.std.specs.List.{AllByRecursion}
use Rattle.std.specs.List.Sorted.{IsPermutation, IsStrictlySortedBy}
use Rattle.std.specs.declared.cmp.Ordering.TheVariants.{Less}
use Rattle.std.proofs.lemmas.Bool.{false≢true, eqb-true, le-ltb, lt-ltb}
use Rattle.std.proofs.lemmas.List.Elements.{recursion_from_All, All-from_recursion}
use Rattle.std.proofs.lemmas.List.Sorted.{IsPermutation-refl, IsPermutation-trans, IsPermutation-cons, IsPermutation-middle, IsPermutation-map, IsPermutation-append_left, All-permutation}
use Rattle.mvo_model.specs.History.{History, Legal}
use Rattle.mvo_model.specs.Trace.{Step, end_cmp, history_of}
use Rattle.mvo_model.proofs.Orders.{only_in_order}
use Rattle.mvo_model.proofs.Scans.{end_total}
use Rattle.mvo_theory.specs.AfterTrace.{pairs}
use Rattle.mvo_theory.specs.Sound.{IsPast}
use Rattle.mvo_theory.specs.State.{StampedTx}
use Rattle.mvo_theory.proofs.Each.{each_back, each_filter, each_weaker}
use Rattle.mvo_group.proofs.Orders.{lt_cmp}
use Rattle.mvo_readonly.specs.Whole.{CommittedReader}
use Rattle.mvo_readonly.specs.WholeKept.{reader_commits}
use Rattle.mvo_readonly.specs.WholeTale.{stored_readers, whole_tale, told_in}
use Rattle.mvo_readonly.proofs.Serials.{told_here, committed_told}
use Rattle.mvo_readonly.proofs.Tales.{tale_is_legal}
use Rattle.mvo_tale.specs.declared.tale_place.TalePlace.{TalePlace}
use Rattle.mvo_tale.specs.declared.tale_place.TalePlace.TheVariants.{Open, Reading, Settled, Empty}
use Rattle.mvo_tale.specs.Stored.{StoredCommit}
use Rattle.mvo_tale.specs.Slots.{ends, AreRising}
use Rattle.mvo_tale.specs.Timeline.{ArePlacesOf}
use Rattle.mvo_tale.specs.Others.{ends_at_begin, others_places}
use Rattle.mvo_tale.specs.WholePlaces.{reader_of, readers_at, stored_after, StoredIsWhole}
use Rattle.mvo_tale.proofs.KeptPlaces.{places_parted}

-- ---- those of the others
past_stored : (start : ℕ) (front back : List TalePlace) (xs : List StampedTx) → ArePlacesOf front xs → AllByRecursion (IsPast start) xs → stored_after start (front ++ back) ≡ stored_after start back
past_stored start [] back xs h k = refl
past_stored start (Open e ∷ front) back [] h k = absurd h
past_stored start (Open e ∷ front) back (x ∷ xs) h k = past_stored start front back xs h.1 k.1
past_stored start (Reading b ∷ front) back [] h k = absurd h
past_stored start (Reading b ∷ front) back (x ∷ xs) h k = absurd h
past_stored start (Settled c ∷ front) back [] h k = absurd h
past_stored start (Settled c ∷ front) back (x ∷ xs) h k =
    let u = k.0.until in
    let is = h.0.end' in
    ap (λ (b : Bool). cond b (c ∷ stored_after start (front ++ back)) (stored_after start (front ++ back))) (le-ltb start c.end (omega (arith, u, is)))
    ∙ past_stored start front back xs h.1 k.1
past_stored start (Empty ∷ front) back [] h k = past_stored start front back [] h k
past_stored start (Empty ∷ front) back (x ∷ xs) h k = past_stored start front back (x ∷ xs) h k

later_stored : (start : ℕ) (slots : List TalePlace) (xs : List StampedTx) → ArePlacesOf slots xs → AllByRecursion (λ x. start < x.end) xs → map (λ (c : StoredCommit). (c.end, c.id)) (stored_after start slots) ≡ pairs xs
later_stored start [] [] h k = refl
later_stored start [] (x ∷ xs) h k = absurd h
later_stored start (Open e ∷ slots) [] h k = absurd h
later_stored start (Open e ∷ slots) (x ∷ xs) h k =
    later_stored start slots xs h.1 k.1
    ∙ sym (ap (λ (b : Bool). cond b ((x.end, x.id) ∷ pairs xs) (pairs xs)) h.0.0)
later_stored start (Reading b ∷ slots) [] h k = absurd h
later_stored start (Reading b ∷ slots) (x ∷ xs) h k = absurd h
later_stored start (Settled c ∷ slots) [] h k = absurd h
later_stored start (Settled c ∷ slots) (x ∷ xs) h k =
    let lt = k.0 in
    let is = h.0.end' in
    ap (λ (b : Bool). map (λ (d : StoredCommit). (d.end, d.id)) (cond b (c ∷ stored_after start slots) (stored_after start slots))) (lt-ltb start c.end (omega (arith, lt, is)))
    ∙ ap (λ (l : List (ℕ × ℕ)). (c.end, c.id) ∷ l) (later_stored start slots xs h.1 k.1)
    ∙ ap (λ (e : ℕ). (e, c.id) ∷ pairs xs) (sym h.0.end')
    ∙ ap (λ (t : ℕ). (x.end, t) ∷ pairs xs) (sym h.0.id)
    ∙ sym (ap (λ (b : Bool). cond b ((x.end, x.id) ∷ pairs xs) (pairs xs)) h.0.settled)
later_stored start (Empty ∷ slots) [] h k = later_stored start slots [] h k
later_stored start (Empty ∷ slots) (x ∷ xs) h k = later_stored start slots (x ∷ xs) h k

later_told : (P : StoredCommit → Type 0) (start : ℕ) (slots : List TalePlace) (xs : List StampedTx) → ArePlacesOf slots xs → AllByRecursion (λ (x : StampedTx). (c : StoredCommit) → x.id ≡ c.id → x.history ≡ c.history → P c) xs → AllByRecursion P (stored_after start slots)
later_told P start [] xs h k = tt
later_told P start (Open e ∷ slots) [] h k = absurd h
later_told P start (Open e ∷ slots) (x ∷ xs) h k = later_told P start slots xs h.1 k.1
later_told P start (Reading b ∷ slots) [] h k = absurd h
later_told P start (Reading b ∷ slots) (x ∷ xs) h k = absurd h
later_told P start (Settled c ∷ slots) [] h k = absurd h
later_told P start (Settled c ∷ slots) (x ∷ xs) h k = go (nat_lt start c.end) (later_told P start slots xs h.1 k.1)
  where
    go : (b : Bool) → AllByRecursion P (stored_after start slots) → AllByRecursion P (cond b (c ∷ stored_after start slots) (stored_after start slots))
    go true r = (k.0 c h.0.id h.0.history, r)
    go false r = r
later_told P start (Empty ∷ slots) [] h k = later_told P start slots [] h k
later_told P start (Empty ∷ slots) (x ∷ xs) h k = later_told P start slots (x ∷ xs) h k

-- ---- these and the read-only ones
-- each stored one is a read-only one's or another's
each_stored : (P : StoredCommit → Type 0) (start : ℕ) (slots : List TalePlace) → AllByRecursion (λ (y : CommittedReader). (c : StoredCommit) → y.id ≡ c.id → y.history ≡ c.history → P c) (stored_readers start (readers_at slots)) → AllByRecursion P (stored_after start (others_places slots)) → AllByRecursion P (stored_after start slots)
each_stored P start [] h k = tt
each_stored P start (Open e ∷ slots) h k = each_stored P start slots h k
each_stored P start (Reading b ∷ slots) h k = each_stored P start slots h k
each_stored P start (Settled c ∷ slots) h k = go (ends_at_begin c) refl (λ q r. each_stored P start slots q r) h k
  where
    read : (v w : Bool) → (AllByRecursion (λ (y : CommittedReader). (d : StoredCommit) → y.id ≡ d.id → y.history ≡ d.history → P d) (stored_readers start (readers_at slots)) → AllByRecursion P (stored_after start (others_places slots)) → AllByRecursion P (stored_after start slots)) → AllByRecursion (λ (y : CommittedReader). (d : StoredCommit) → y.id ≡ d.id → y.history ≡ d.history → P d) (cond v (reader_of c ∷ stored_readers start (readers_at slots)) (stored_readers start (readers_at slots))) → v ≡ w → AllByRecursion P (stored_after start (others_places slots)) → AllByRecursion P (cond w (c ∷ stored_after start slots) (stored_after start slots))
    read true true f q i r = (q.0 c refl refl, f q.1 r)
    read true false f q i r = f q.1 r
    read false true f q i r = absurd (false≢true i)
    read false false f q i r = f q r

    other : (v : Bool) → (AllByRecursion (λ (y : CommittedReader). (d : StoredCommit) → y.id ≡ d.id → y.history ≡ d.history → P d) (stored_readers start (readers_at slots)) → AllByRecursion P (stored_after start (others_places slots)) → AllByRecursion P (stored_after start slots)) → AllByRecursion (λ (y : CommittedReader). (d : StoredCommit) → y.id ≡ d.id → y.history ≡ d.history → P d) (stored_readers start (readers_at slots)) → AllByRecursion P (cond v (c ∷ stored_after start (others_places slots)) (stored_after start (others_places slots))) → AllByRecursion P (cond v (c ∷ stored_after start slots) (stored_after start slots))
    other true f q r = (r.0, f q r.1)
    other false f q r = f q r

    go : (b : Bool) → ends_at_begin c ≡ b → (AllByRecursion (λ (y : CommittedReader). (d : StoredCommit) → y.id ≡ d.id → y.history ≡ d.history → P d) (stored_readers start (readers_at slots)) → AllByRecursion P (stored_after start (others_places slots)) → AllByRecursion P (stored_after start slots)) → AllByRecursion (λ (y : CommittedReader). (d : StoredCommit) → y.id ≡ d.id → y.history ≡ d.history → P d) (stored_readers start (cond b (reader_of c ∷ readers_at slots) (readers_at slots))) → AllByRecursion P (stored_after start (cond b Empty (Settled c) ∷ others_places slots)) → AllByRecursion P (cond (nat_lt start c.end) (c ∷ stored_after start slots) (stored_after start slots))
    go true i f q r = read (nat_lt start c.id) (nat_lt start c.end) f q (ap (nat_lt start) (eqb-true c.id c.end i)) r
    go false i f q r = other (nat_lt start c.end) f q r
each_stored P start (Empty ∷ slots) h k = each_stored P start slots h k

-- in some order they are all
stored_parts : (start : ℕ) (slots : List TalePlace) → IsPermutation (reader_commits (stored_readers start (readers_at slots)) ++ map (λ (c : StoredCommit). (c.end, c.id)) (stored_after start (others_places slots))) (map (λ (c : StoredCommit). (c.end, c.id)) (stored_after start slots))
stored_parts start [] = IsPermutation-refl []
stored_parts start (Open e ∷ slots) = stored_parts start slots
stored_parts start (Reading b ∷ slots) = stored_parts start slots
stored_parts start (Settled c ∷ slots) = go (ends_at_begin c) refl (stored_parts start slots)
  where
    read : (v w : Bool) → v ≡ w → c.id ≡ c.end → IsPermutation (reader_commits (stored_readers start (readers_at slots)) ++ map (λ (d : StoredCommit). (d.end, d.id)) (stored_after start (others_places slots))) (map (λ (d : StoredCommit). (d.end, d.id)) (stored_after start slots))
        → IsPermutation (reader_commits (cond v (reader_of c ∷ stored_readers start (readers_at slots)) (stored_readers start (readers_at slots))) ++ map (λ (d : StoredCommit). (d.end, d.id)) (stored_after start (others_places slots))) (map (λ (d : StoredCommit). (d.end, d.id)) (cond w (c ∷ stored_after start slots) (stored_after start slots)))
    read true true i same p =
        subst (λ (e : ℕ). IsPermutation ((c.id, c.id) ∷ (reader_commits (stored_readers start (readers_at slots)) ++ map (λ (d : StoredCommit). (d.end, d.id)) (stored_after start (others_places slots)))) ((e, c.id) ∷ map (λ (d : StoredCommit). (d.end, d.id)) (stored_after start slots))) same
        (IsPermutation-cons (c.id, c.id) (reader_commits (stored_readers start (readers_at slots)) ++ map (λ (d : StoredCommit). (d.end, d.id)) (stored_after start (others_places slots))) (map (λ (d : StoredCommit). (d.end, d.id)) (stored_after start slots)) p)
    read true false i same p = absurd (false≢true (sym i))
    read false true i same p = absurd (false≢true i)
    read false false i same p = p

    other : (v : Bool) → IsPermutation (reader_commits (stored_readers start (readers_at slots)) ++ map (λ (d : StoredCommit). (d.end, d.id)) (stored_after start (others_places slots))) (map (λ (d : StoredCommit). (d.end, d.id)) (stored_after start slots))
        → IsPermutation (reader_commits (stored_readers start (readers_at slots)) ++ map (λ (d : StoredCommit). (d.end, d.id)) (cond v (c ∷ stored_after start (others_places slots)) (stored_after start (others_places slots)))) (map (λ (d : StoredCommit). (d.end, d.id)) (cond v (c ∷ stored_after start slots) (stored_after start slots)))
    other true p =
        let rs = reader_commits (stored_readers start (readers_at slots)) in
        let os = map (λ (d : StoredCommit). (d.end, d.id)) (stored_after start (others_places slots)) in
        let all = map (λ (d : StoredCommit). (d.end, d.id)) (stored_after start slots) in
        IsPermutation-trans (rs ++ (c.end, c.id) ∷ os) ((c.end, c.id) ∷ (rs ++ os)) ((c.end, c.id) ∷ all) (IsPermutation-middle rs (c.end, c.id) os) (IsPermutation-cons (c.end, c.id) (rs ++ os) all p)
    other false p = p

    go : (b : Bool) → ends_at_begin c ≡ b → IsPermutation (reader_commits (stored_readers start (readers_at slots)) ++ map (λ (d : StoredCommit). (d.end, d.id)) (stored_after start (others_places slots))) (map (λ (d : StoredCommit). (d.end, d.id)) (stored_after start slots))
        → IsPermutation (reader_commits (stored_readers start (cond b (reader_of c ∷ readers_at slots) (readers_at slots))) ++ map (λ (d : StoredCommit). (d.end, d.id)) (stored_after start (cond b Empty (Settled c) ∷ others_places slots))) (map (λ (d : StoredCommit). (d.end, d.id)) (cond (nat_lt start c.end) (c ∷ stored_after start slots) (stored_after start slots)))
    go true i p = read (nat_lt start c.id) (nat_lt start c.end) (ap (nat_lt start) (eqb-true c.id c.end i)) (eqb-true c.id c.end i) p
    go false i p = other (nat_lt start c.end) p
stored_parts start (Empty ∷ slots) = stored_parts start slots

-- they rise
each_above : (P : ℕ → Type 0) (start : ℕ) (slots : List TalePlace) → AllByRecursion P (ends slots) → AllByRecursion (λ (c : ℕ × ℕ). P c.0) (map (λ (d : StoredCommit). (d.end, d.id)) (stored_after start slots))
each_above P start [] h = tt
each_above P start (Open e ∷ slots) h = each_above P start slots h.1
each_above P start (Reading b ∷ slots) h = each_above P start slots h.1
each_above P start (Settled c ∷ slots) h = go (nat_lt start c.end) (each_above P start slots h.1)
  where
    go : (b : Bool) → AllByRecursion (λ (c : ℕ × ℕ). P c.0) (map (λ (d : StoredCommit). (d.end, d.id)) (stored_after start slots)) → AllByRecursion (λ (c : ℕ × ℕ). P c.0) (map (λ (d : StoredCommit). (d.end, d.id)) (cond b (c ∷ stored_after start slots) (stored_after start slots)))
    go true r = (h.0, r)
    go false r = r
each_above P start (Empty ∷ slots) h = each_above P start slots h

stored_rise : (start : ℕ) (slots : List TalePlace) → AreRising (ends slots) → IsStrictlySortedBy end_cmp (map (λ (d : StoredCommit). (d.end, d.id)) (stored_after start slots))
unfolding IsStrictlySortedBy
stored_rise start [] h = tt
stored_rise start (Open e ∷ slots) h = stored_rise start slots h.1
stored_rise start (Reading b ∷ slots) h = stored_rise start slots h.1
stored_rise start (Settled c ∷ slots) h = go (nat_lt start c.end) (stored_rise start slots h.1)
  where
    go : (b : Bool) → IsStrictlySortedBy end_cmp (map (λ (d : StoredCommit). (d.end, d.id)) (stored_after start slots)) → IsStrictlySortedBy end_cmp (map (λ (d : StoredCommit). (d.end, d.id)) (cond b (c ∷ stored_after start slots) (stored_after start slots)))
    go true r = (each_weaker (λ (q : ℕ × ℕ). c.end < q.0) (λ (q : ℕ × ℕ). end_cmp (c.end, c.id) q ≡ Less) (λ q lt. lt_cmp c.end q.0 lt) (map (λ (d : StoredCommit). (d.end, d.id)) (stored_after start slots)) (each_above (λ e. c.end < e) start slots h.0), r)
    go false r = r
stored_rise start (Empty ∷ slots) h = stored_rise start slots h

-- ---- all together
map_told : (steps : List Step) (cs : List StoredCommit) → AllByRecursion (λ (c : StoredCommit). history_of c.id steps ≡ c.history) cs → map (told_in steps) (map (λ (d : StoredCommit). (d.end, d.id)) cs) ≡ map (λ (d : StoredCommit). d.history) cs
map_told steps [] h = refl
map_told steps (c ∷ cs) h = ap (λ (ts : History). ts ∷ map (told_in steps) (map (λ (d : StoredCommit). (d.end, d.id)) cs)) h.0 ∙ ap (λ (l : List History). c.history ∷ l) (map_told steps cs h.1)

-- what a transaction was told is what is stored of it
by_id : (steps : List Step) (t : ℕ) (ts : History) (c : StoredCommit) → history_of t steps ≡ ts → t ≡ c.id → ts ≡ c.history → history_of c.id steps ≡ c.history
by_id steps t ts c told i e = ap (λ (n : ℕ). history_of n steps) (sym i) ∙ told ∙ e

abbrev IsToldAs : List Step → CommittedReader → Type 0
IsToldAs steps y = (c : StoredCommit) → y.id ≡ c.id → y.history ≡ c.history → history_of c.id steps ≡ c.history

pub stored_is_whole : StoredIsWhole
stored_is_whole opening steps own w slots kept rising h =
    let start = w.core.start in
    let ys = stored_readers start w.committed_readers in
    let zs = stored_readers start (readers_at slots) in
    let past = each_back (IsPast start) h.others.gone h.others.kept (subst (AllByRecursion (IsPast start)) h.others.parts kept.kept.started.past) in
    let parts = places_parted (others_places slots) h.others.kept w.core.stamped h.others.places in
    let same : stored_after start (others_places slots) ≡ stored_after start parts.back = ap (stored_after start) parts.are ∙ past_stored start parts.front parts.back h.others.kept parts.first past in
    let line : map (λ (d : StoredCommit). (d.end, d.id)) (stored_after start (others_places slots)) ≡ pairs w.core.stamped = ap (map (λ (d : StoredCommit). (d.end, d.id))) same ∙ later_stored start parts.back w.core.stamped parts.second kept.kept.started.later in
    let readers : IsPermutation ys zs = h.readers.stored start (omega arith) in
    let order : IsPermutation (reader_commits ys ++ pairs w.core.stamped) (map (λ (d : StoredCommit). (d.end, d.id)) (stored_after start slots)) =
    IsPermutation-trans (reader_commits ys ++ pairs w.core.stamped) (reader_commits zs ++ pairs w.core.stamped) (map (λ (d : StoredCommit). (d.end, d.id)) (stored_after start slots))
    (IsPermutation-append_left (pairs w.core.stamped) (reader_commits ys) (reader_commits zs) (IsPermutation-map (λ (y : CommittedReader). (y.id, y.id)) ys zs readers))
    (subst (λ (l : List (ℕ × ℕ)). IsPermutation (reader_commits zs ++ l) (map (λ (d : StoredCommit). (d.end, d.id)) (stored_after start slots))) line (stored_parts start slots)) in
    let is : map (λ (d : StoredCommit). (d.end, d.id)) (stored_after start slots) ≡ whole_tale w =
    only_in_order end_total (reader_commits ys ++ pairs w.core.stamped) (map (λ (d : StoredCommit). (d.end, d.id)) (stored_after start slots)) (record { same = order; rise = stored_rise start slots rising }) in
    let read : AllByRecursion (IsToldAs steps) zs =
    recursion_from_All (IsToldAs steps) zs (All-permutation (IsToldAs steps) ys zs readers (All-from_recursion (IsToldAs steps) ys
    (each_filter (λ (y : CommittedReader). nat_lt start y.id) _ (IsToldAs steps) (λ y e q c i k. by_id steps y.id y.history c q.0 i k) w.committed_readers (committed_told opening steps own w kept)))) in
    let told = each_back (λ (x : StampedTx). told_in steps (x.end, x.id) ≡ x.history) w.core.past w.core.stamped (told_here opening steps own w kept) in
    let others : AllByRecursion (λ (c : StoredCommit). history_of c.id steps ≡ c.history) (stored_after start (others_places slots)) =
    subst (AllByRecursion (λ (c : StoredCommit). history_of c.id steps ≡ c.history)) (sym same)
    (later_told (λ (c : StoredCommit). history_of c.id steps ≡ c.history) start parts.back w.core.stamped parts.second
    (each_weaker (λ (x : StampedTx). told_in steps (x.end, x.id) ≡ x.history) (λ (x : StampedTx). (c : StoredCommit) → x.id ≡ c.id → x.history ≡ c.history → history_of c.id steps ≡ c.history) (λ x q c i k. by_id steps x.id x.history c q i k) w.core.stamped told)) in
    let each = each_stored (λ (c : StoredCommit). history_of c.id steps ≡ c.history) start slots read others in
    record {
      stored = is;
      legal = subst (Legal w.core.base) (ap (map (told_in steps)) (sym is) ∙ map_told steps (stored_after start slots) each) (tale_is_legal opening steps own w kept);
    }
