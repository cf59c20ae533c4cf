-- What the entries of the ordered index are where a run comes or goes.
use Rattle.std.proofs.Common.{◌≡◌, ℕ, ◌+◌, ◌-◌, suc, zero, Bool, true, false, cond, not, ◌||◌, Option, None, Some, IsSome, refl, sym, ap, ◌∙◌, subst, arith}
use Rattle.std.specs.Prelude.{◌&&◌, slice_index_or}
use Rattle.std.specs.Option.{option_map}
use Rattle.std.specs.Ordering.{eq_by_cmp}
use Rattle.std.specs.FinMap as fin
use Rattle.std.proofs.lemmas.Bool.{true≢false}
use Rattle.std.proofs.lemmas.Cmp.{eq_by_cmp_equiv}
use Rattle.std.proofs.lemmas.Map.Views.{tells_apart}
use Rattle.mvo_chain.specs.declared.version.Version.{Version}
use Rattle.mvo_chain.specs.declared.version.VersionNo.{VersionNo}
use Rattle.mvo_chain.specs.Slots.{Slots}
use Rattle.mvo_range.specs.declared.sort_place.SortPlace.{SortPlace}
use Rattle.mvo_range.specs.Place.{PlaceNumbers as Places, place_cmp}
use Rattle.mvo_range.proofs.Places.{places_total, exact_places}
use Rattle.mvo_representation.specs.Indexes.{version_place}
use Rattle.mvo_versions.specs.Changes.{is_slot_at, is_number_at, is_one_at}
use Rattle.mvo_versions.specs.Runs.{runs_entry, or_none, passes, count_at, with_count, one_more, one_less, place_at, if_at, joined_place, less_joined, left, entered}
use Rattle.mvo_versions.proofs.Counting.{one, entry_back}

abbrev pub same : SortPlace → SortPlace → Bool
same q p = eq_by_cmp place_cmp q p

pub same_is : (q p : SortPlace) → same q p ≡ true → q ≡ p
same_is q p e = tells_apart exact_places q p e

-- each place has the entry of so many runs
abbrev pub Has : Places → (SortPlace → ℕ) → Type 0
Has places f = (q : SortPlace) → fin.get places q ≡ runs_entry (f q)

pub count_is : (places : Places) (f : SortPlace → ℕ) (p : SortPlace) → Has places f → count_at places p ≡ f p
count_is places f p h = ap or_none (h p) ∙ entry_back (f p)

get_count : (places : Places) (p : SortPlace) (n : ℕ) (q : SortPlace) → fin.get (with_count places p n) q ≡ cond (same q p) (runs_entry n) (fin.get places q)
get_count places p zero q = fin.get-remove places_total places p q
get_count places p (suc n) q = fin.get-insert places_total places p (suc n) q

counted : (places : Places) (f : SortPlace → ℕ) (p : SortPlace) (n : ℕ) (q : SortPlace) → Has places f → fin.get (with_count places p n) q ≡ runs_entry (cond (same q p) n (f q))
counted places f p n q h = get_count places p n q ∙ go (same q p)
  where
    go : (b : Bool) → cond b (runs_entry n) (fin.get places q) ≡ runs_entry (cond b n (f q))
    go true = refl
    go false = h q

pub more_has : (places : Places) (f : SortPlace → ℕ) (p : SortPlace) → Has places f → Has (one_more places p) (λ q. f q + one (same q p))
more_has places f p h q = counted places f p (count_at places p + 1) q h ∙ ap runs_entry (go (same q p) refl)
  where
    go : (b : Bool) → same q p ≡ b → cond b (count_at places p + 1) (f q) ≡ f q + one b
    go true e = ap (λ m. m + 1) (count_is places f p h ∙ ap f (sym (same_is q p e)))
    go false e = omega arith

pub less_has : (places : Places) (f : SortPlace → ℕ) (p : SortPlace) → Has places f → Has (one_less places p) (λ q. f q - one (same q p))
less_has places f p h q = counted places f p (count_at places p - 1) q h ∙ ap runs_entry (go (same q p) refl)
  where
    go : (b : Bool) → same q p ≡ b → cond b (count_at places p - 1) (f q) ≡ f q - one b
    go true e = ap (λ m. m - 1) (count_is places f p h ∙ ap f (sym (same_is q p e)))
    go false e = omega arith

pub entered_has : (joins : Bool) (places : Places) (f : SortPlace → ℕ) (p : SortPlace) → Has places f → Has (entered joins places p) (λ q. f q + cond joins 0 (one (same q p)))
entered_has true places f p h q = h q ∙ ap runs_entry (omega arith)
entered_has false places f p h q = more_has places f p h q

-- a place that a number was put at has an entry
pub has_put : (places : Places) (p : SortPlace) (n : ℕ) → IsSome (fin.get (fin.insert places p n) p)
has_put places p n = subst (λ o. IsSome o) (sym (fin.get-insert places_total places p n p ∙ ap (λ b. cond b (Some n) (fin.get places p)) ((eq_by_cmp_equiv places_total).refl p))) refl

-- a number that is put at a place stands for the one that was put there before
pub put_twice : (places : Places) (p : SortPlace) (n m : ℕ) → fin.insert (fin.insert places p n) p m ≡ fin.insert places p m
put_twice places p n m = fin.same_map places_total exact_places _ _ (λ q. fin.get-insert places_total (fin.insert places p n) p m q ∙ go q (same q p) (fin.get-insert places_total places p n q) ∙ sym (fin.get-insert places_total places p m q))
  where
    go : (q : SortPlace) (b : Bool) → fin.get (fin.insert places p n) q ≡ cond b (Some n) (fin.get places q) → cond b (Some m) (fin.get (fin.insert places p n) q) ≡ cond b (Some m) (fin.get places q)
    go q true e = refl
    go q false e = e

-- a run is counted at a place that has an entry
pub counted_up : (places : Places) (p : SortPlace) (runs : ℕ) → fin.get places p ≡ Some runs → fin.insert (fin.insert places p 1) p (runs + 1) ≡ one_more places p
counted_up places p runs e =
    put_twice places p 1 (runs + 1)
    ∙ sym (ap (λ o. with_count places p (or_none o + 1)) e ∙ at_least_one runs)
  where
    at_least_one : (n : ℕ) → with_count places p (n + 1) ≡ fin.insert places p (n + 1)
    at_least_one n = let next : suc n ≡ n + 1 = omega arith in subst (λ m. with_count places p m ≡ fin.insert places p m) next refl

-- places with the same entries are the same
pub same_entries : (old new : Places) (f g : SortPlace → ℕ) → Has old f → Has new g → ((q : SortPlace) → g q ≡ f q) → new ≡ old
same_entries old new f g h i alike = fin.same_map places_total exact_places new old (λ q. i q ∙ ap runs_entry (alike q) ∙ sym (h q))

-- a run that was counted is taken back
pub given_back : (joins : Bool) (places : Places) (f : SortPlace → ℕ) (p : SortPlace) → Has places f → cond joins (entered joins places p) (one_less (entered joins places p) p) ≡ places
given_back true places f p h = refl
given_back false places f p h = same_entries places (one_less (one_more places p) p) f _ h (less_has (one_more places p) _ p (more_has places f p h)) (λ q. omega arith)

-- ---- where the neighbours stand
abbrev pub stands : SortPlace → Option SortPlace → Bool
stands q None = false
stands q (Some r) = same q r

pub one_at_place : (slots : Slots) (q : SortPlace) (o : Option VersionNo) → is_one_at slots q o ≡ stands q (place_at slots o)
one_at_place slots q None = refl
one_at_place slots q (Some n) = go (slice_index_or slots n.0 None)
  where
    go : (x : Option Version) → is_slot_at q x ≡ stands q (option_map version_place x)
    go None = refl
    go (Some v) = refl

pub one_at_passes : (slots : Slots) (q : SortPlace) (o : Option VersionNo) → is_one_at slots q o ≡ passes (is_number_at slots q) (option_map (λ (n : VersionNo). n.0) o)
one_at_passes slots q None = refl
one_at_passes slots q (Some n) = refl

abbrev pub joined_of : Option SortPlace → Option SortPlace → Option SortPlace
joined_of None b = None
joined_of (Some r) b = cond (stands r b) (Some r) None

abbrev pub left_of : Places → SortPlace → Option SortPlace → Option SortPlace → Places
left_of places p a b = cond (stands p a || stands p b) places (less_joined (one_less places p) (joined_of a b))

pub left_is : (slots : Slots) (places : Places) (p : SortPlace) (newer older : Option VersionNo) → left slots places p newer older ≡ left_of places p (place_at slots newer) (place_at slots older)
left_is slots places p newer older =
    ap (λ b. cond (b || is_one_at slots p older) places (less_joined (one_less places p) (joined_place slots newer older))) (one_at_place slots p newer)
    ∙ ap (λ b. cond (stands p (place_at slots newer) || b) places (less_joined (one_less places p) (joined_place slots newer older))) (one_at_place slots p older)
    ∙ ap (λ j. cond (stands p (place_at slots newer) || stands p (place_at slots older)) places (less_joined (one_less places p) j)) (go (place_at slots newer))
  where
    go : (o : Option SortPlace) → if_at slots older o ≡ joined_of o (place_at slots older)
    go None = refl
    go (Some r) = ap (λ b. cond b (Some r) None) (one_at_place slots r older)

joined_has : (places : Places) (f : SortPlace → ℕ) (a b : Option SortPlace) → Has places f → Has (less_joined places (joined_of a b)) (λ q. f q - one (stands q a && stands q b))
joined_has places f None b h q = h q ∙ ap runs_entry (omega arith)
joined_has places f (Some r) b h q = go (stands r b) refl
  where
    both : (c : Bool) → same q r ≡ c → stands r b ≡ true → one c ≡ one (c && stands q b)
    both true e t = sym (ap one (ap (λ i. stands i b) (same_is q r e) ∙ t))
    both false e t = refl

    neither : (c : Bool) → same q r ≡ c → stands r b ≡ false → 0 ≡ one (c && stands q b)
    neither true e t = sym (ap one (ap (λ i. stands i b) (same_is q r e) ∙ t))
    neither false e t = refl

    go : (c : Bool) → stands r b ≡ c → fin.get (less_joined places (cond c (Some r) None)) q ≡ runs_entry (f q - one (same q r && stands q b))
    go true t = less_has places f r h q ∙ ap (λ m. runs_entry (f q - m)) (both (same q r) refl t)
    go false t = h q ∙ ap runs_entry (let z = neither (same q r) refl t in omega (arith, z))

-- how many runs fewer there are at a place
abbrev pub fewer : SortPlace → Option SortPlace → Option SortPlace → SortPlace → ℕ
fewer p a b q = cond (same q p) (one (not (stands q a || stands q b))) (one (stands q a && stands q b))

at_one_place : (q p : SortPlace) (c : Option SortPlace) → stands q c ≡ true → stands p c ≡ true → same q p ≡ true
at_one_place q p None i j = absurd (true≢false (sym i))
at_one_place q p (Some r) i j = ap (same q) (same_is p r j ∙ sym (same_is q r i)) ∙ (eq_by_cmp_equiv places_total).refl q

-- none goes where a neighbour stands at the place
none_fewer : (p : SortPlace) (a b : Option SortPlace) (q : SortPlace) → (stands p a || stands p b) ≡ true → fewer p a b q ≡ 0
none_fewer p a b q t = go (same q p) refl
  where
    either : (x : Bool) → stands p a ≡ x → stands q a ≡ true → stands q b ≡ true → same q p ≡ true
    either true e i j = at_one_place q p a i e
    either false e i j = at_one_place q p b j (ap (λ x. x || stands p b) (sym e) ∙ t)

    both : (x y : Bool) → stands q a ≡ x → stands q b ≡ y → same q p ≡ false → one (x && y) ≡ 0
    both true true i j d = absurd (true≢false (sym (either (stands p a) refl i j) ∙ d))
    both true false i j d = refl
    both false y i j d = refl

    go : (e : Bool) → same q p ≡ e → cond e (one (not (stands q a || stands q b))) (one (stands q a && stands q b)) ≡ 0
    go true e = ap (λ i. one (not (stands i a || stands i b))) (same_is q p e) ∙ ap (λ c. one (not c)) t
    go false e = both (stands q a) (stands q b) refl refl e

pub left_has : (places : Places) (f : SortPlace → ℕ) (p : SortPlace) (a b : Option SortPlace) → Has places f → Has (left_of places p a b) (λ q. f q - fewer p a b q)
left_has places f p a b h q = go (stands p a || stands p b) refl
  where
    twice : (n : ℕ) (e x y : Bool) → (e ≡ true → (x || y) ≡ false) → (n - one e) - one (x && y) ≡ n - cond e (one (not (x || y))) (one (x && y))
    twice n true true y d = absurd (true≢false (d refl))
    twice n true false true d = absurd (true≢false (d refl))
    twice n true false false d = omega arith
    twice n false true true d = omega arith
    twice n false true false d = omega arith
    twice n false false y d = omega arith

    go : (t : Bool) → (stands p a || stands p b) ≡ t → fin.get (cond t places (less_joined (one_less places p) (joined_of a b))) q ≡ runs_entry (f q - fewer p a b q)
    go true t = h q ∙ ap runs_entry (let z = none_fewer p a b q t in omega (arith, z))
    go false t =
        joined_has (one_less places p) (λ r. f r - one (same r p)) a b (less_has places f p h) q
        ∙ ap runs_entry (twice (f q) (same q p) (stands q a) (stands q b) (λ e. ap (λ i. stands i a || stands i b) (same_is q p e) ∙ t))
