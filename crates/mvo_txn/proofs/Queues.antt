-- A queue stays one while transactions come and go.
use Rattle.std.proofs.Common.{◌≡◌, ◌≢◌, ℕ, ◌+◌, ◌<◌, ◌≤◌, Bool, true, false, cond, eqb, List, [], ◌∷◌, ◌++◌, slice_index_or, drop, Option, Some, None, refl, sym, ap, subst, ◌∙◌, arith, inl, inr, ⊎_elim}
use Rattle.std.proofs.lemmas.Bool.{cases_eq, false≢true, eqb-true, eq-eqb}
use Rattle.std.proofs.lemmas.Option.{none-some}
use Rattle.std.specs.Option.{unwrap_or, option_eq}
use Rattle.std.specs.List.{filter}
use Rattle.mvo_txn.specs.declared.mark.Mark.{Mark}
use Rattle.mvo_txn.specs.Queue.{HasRisingStamps, IsListed, IsCurrent, IsListing, IsQueue, is_current}

abbrev pub Stamps : Type 0
Stamps = ℕ → Option ℕ

pub same_some : (a b : ℕ) → Some a ≡ Some b → a ≡ b
same_some a b e = ap (λ o. unwrap_or o a) e

-- ---- rising timestamps
pub rising_higher : (low high higher : ℕ) (ms : List Mark) → high ≤ higher → HasRisingStamps low high ms → HasRisingStamps low higher ms
rising_higher low high higher [] le r = omega arith
rising_higher low high higher (m ∷ ms) le r = (r.0, rising_higher (m.stamp + 1) high higher ms le r.1)

rising_lower : (lower low high : ℕ) (ms : List Mark) → lower ≤ low → HasRisingStamps low high ms → HasRisingStamps lower high ms
rising_lower lower low high [] le r = omega arith
rising_lower lower low high (m ∷ ms) le r = let at : low ≤ m.stamp = r.0 in (omega arith, r.1)

rising_behind : (low high higher : ℕ) (ms : List Mark) (m : Mark) → high ≤ m.stamp → m.stamp < higher → HasRisingStamps low high ms → HasRisingStamps low higher (ms ++ m ∷ [])
rising_behind low high higher [] m at lt r = (omega arith, omega arith)
rising_behind low high higher (n ∷ ms) m at lt r = (r.0, rising_behind (n.stamp + 1) high higher ms m at lt r.1)

rising_rest : (low high : ℕ) (m : Mark) (ms : List Mark) → HasRisingStamps low high (m ∷ ms) → HasRisingStamps low high ms
rising_rest low high m ms r = let at : low ≤ m.stamp = r.0 in rising_lower low (m.stamp + 1) high ms (omega arith) r.1

pub rising_filtered : (p : Mark → Bool) (low high : ℕ) (ms : List Mark) → HasRisingStamps low high ms → HasRisingStamps low high (filter p ms)
rising_filtered p low high [] r = r
rising_filtered p low high (m ∷ ms) r =
    elim (p m) as (λ b. HasRisingStamps low high (cond b (m ∷ filter p ms) (filter p ms))) [
      | true ↦ (r.0, rising_filtered p (m.stamp + 1) high ms r.1)
      | false ↦ rising_filtered p low high ms (rising_rest low high m ms r)
    ]

-- a listed timestamp lies between
pub listed_above : (low high id stamp : ℕ) (ms : List Mark) → HasRisingStamps low high ms → IsListed id stamp ms → low ≤ stamp
listed_above low high id stamp [] r h = absurd h
listed_above low high id stamp (m ∷ ms) r h =
    let at : low ≤ m.stamp = r.0 in
    ⊎_elim (λ same. let is : m.stamp ≡ stamp = same.1 in omega arith) (λ later. let le : m.stamp + 1 ≤ stamp = listed_above (m.stamp + 1) high id stamp ms r.1 later in omega arith) h

rising_ends : (low high : ℕ) (ms : List Mark) → HasRisingStamps low high ms → low ≤ high
rising_ends low high [] r = r
rising_ends low high (m ∷ ms) r = let at : low ≤ m.stamp = r.0 in let le : m.stamp + 1 ≤ high = rising_ends (m.stamp + 1) high ms r.1 in omega arith

pub listed_below : (low high id stamp : ℕ) (ms : List Mark) → HasRisingStamps low high ms → IsListed id stamp ms → stamp < high
listed_below low high id stamp [] r h = absurd h
listed_below low high id stamp (m ∷ ms) r h =
    ⊎_elim (λ same. let is : m.stamp ≡ stamp = same.1 in let le : m.stamp + 1 ≤ high = rising_ends (m.stamp + 1) high ms r.1 in omega arith)
    (λ later. listed_below (m.stamp + 1) high id stamp ms r.1 later) h

-- ---- who is listed
listed_before : (id stamp : ℕ) (m : Mark) (ms : List Mark) → IsListed id stamp ms → IsListed id stamp (ms ++ m ∷ [])
listed_before id stamp m [] h = absurd h
listed_before id stamp m (n ∷ ms) h = ⊎_elim (λ same. inl same) (λ later. inr (listed_before id stamp m ms later)) h

listed_last : (m : Mark) (ms : List Mark) → IsListed m.id m.stamp (ms ++ m ∷ [])
listed_last m [] = inl (refl, refl)
listed_last m (n ∷ ms) = inr (listed_last m ms)

listed_filtered : (p : Mark → Bool) (id stamp : ℕ) → p (record { stamp = stamp; id = id }) ≡ true → (ms : List Mark) → IsListed id stamp ms → IsListed id stamp (filter p ms)
listed_filtered p id stamp passes [] h = h
listed_filtered p id stamp passes (m ∷ ms) h =
    elim (p m) as (λ b. p m ≡ b → IsListed id stamp (cond b (m ∷ filter p ms) (filter p ms))) [
      | true ↦ λ e. ⊎_elim (λ same. inl same) (λ later. inr (listed_filtered p id stamp passes ms later)) h
      | false ↦ λ e. ⊎_elim (λ same. absurd (false≢true (sym e ∙ ap p (λ i. record { stamp = same.1 i; id = same.0 i }) ∙ passes))) (λ later. listed_filtered p id stamp passes ms later) h
    ] refl

-- ---- the first
current_filtered : (f : Stamps) (p : Mark → Bool) → ((m : Mark) → p m ≡ true → f m.id ≡ Some m.stamp) → (ms : List Mark) → IsCurrent f (filter p ms)
current_filtered f p says [] = tt
current_filtered f p says (m ∷ ms) =
    elim (p m) as (λ b. p m ≡ b → IsCurrent f (cond b (m ∷ filter p ms) (filter p ms))) [
      | true ↦ λ e. says m e
      | false ↦ λ e. current_filtered f p says ms
    ] refl

-- ---- queues
equal_options : (o : Option ℕ) (s : ℕ) → option_eq eqb o (Some s) ≡ true → o ≡ Some s
equal_options None s e = absurd (false≢true e)
equal_options (Some r) s e = ap Some (eqb-true r s e)

pub current_if : (f : Stamps) (m : Mark) → is_current f m ≡ true → f m.id ≡ Some m.stamp
current_if f m e = equal_options (f m.id) m.stamp e

pub if_current : (f : Stamps) (m : Mark) → f m.id ≡ Some m.stamp → is_current f m ≡ true
if_current f m e = ap (λ o. option_eq eqb o (Some m.stamp)) e ∙ eq-eqb m.stamp m.stamp refl

-- those that count remain
pub queue_filtered : (f : Stamps) (p : Mark → Bool) → ((m : Mark) → p m ≡ true → f m.id ≡ Some m.stamp) → ((m : Mark) → f m.id ≡ Some m.stamp → p m ≡ true) → (high : ℕ) (ms : List Mark) → IsQueue f high ms → IsQueue f high (filter p ms)
queue_filtered f p says passes high ms q = record {
  listing = record {
    rising = rising_filtered p 1 high ms q.listing.rising;
    complete = λ id stamp e. listed_filtered p id stamp (passes (record { stamp = stamp; id = id }) e) ms (q.listing.complete id stamp e);
  };
  current = current_filtered f p says ms;
}

-- the first, which doesn't count, is dropped
pub listing_rest : (f : Stamps) (high : ℕ) (m : Mark) (ms : List Mark) → f m.id ≢ Some m.stamp → IsListing f high (m ∷ ms) → IsListing f high ms
listing_rest f high m ms not l = record {
  rising = rising_rest 1 high m ms l.rising;
  complete = λ id stamp e.
      ⊎_elim (λ same. absurd (not (ap f same.0 ∙ e ∙ ap Some (sym same.1)))) (λ later. later) (l.complete id stamp e);
}

-- the front, which doesn't count, is dropped
pub listing_dropped : (f : Stamps) (high : ℕ) (ms : List Mark) (m : Mark) → m ≡ slice_index_or ms 0 m → is_current f m ≡ false → IsListing f high ms → IsListing f high (drop 1 ms)
listing_dropped f high [] m at not l = l
listing_dropped f high (x ∷ rest) m at not l =
    listing_rest f high x rest (λ is. false≢true (sym not ∙ ap (is_current f) at ∙ if_current f x is)) l

-- one counts no longer, or nothing changes
pub listing_less : (f g : Stamps) (high : ℕ) (ms : List Mark) → ((id stamp : ℕ) → g id ≡ Some stamp → f id ≡ Some stamp) → IsListing f high ms → IsListing g high ms
listing_less f g high ms less l = record { rising = l.rising; complete = λ id stamp e. l.complete id stamp (less id stamp e) }

same_current : (f g : Stamps) (ms : List Mark) → ((id : ℕ) → g id ≡ f id) → IsCurrent f ms → IsCurrent g ms
same_current f g [] same c = tt
same_current f g (m ∷ ms) same c = same m.id ∙ c

-- the same count, and higher timestamps may come
pub queue_same : (f g : Stamps) (high higher : ℕ) (ms : List Mark) → high ≤ higher → ((id : ℕ) → g id ≡ f id) → IsQueue f high ms → IsQueue g higher ms
queue_same f g high higher ms le same q = record {
  listing = record {
    rising = rising_higher 1 high higher ms le q.listing.rising;
    complete = λ id stamp e. q.listing.complete id stamp (sym (same id) ∙ e);
  };
  current = same_current f g ms same q.current;
}

current_behind : (f g : Stamps) (m : Mark) (ms : List Mark) → f m.id ≡ None → g m.id ≡ Some m.stamp → ((id : ℕ) → id ≢ m.id → g id ≡ f id) → IsCurrent f ms → IsCurrent g (ms ++ m ∷ [])
current_behind f g m [] none now same c = now
current_behind f g m (n ∷ ms) none now same c =
    let other : n.id ≢ m.id = λ e. none-some n.stamp (sym none ∙ ap f (sym e) ∙ c) in same n.id other ∙ c

-- one more counts, with a timestamp above the others
pub queue_behind : (f g : Stamps) (high higher : ℕ) (m : Mark) (ms : List Mark) → f m.id ≡ None → g m.id ≡ Some m.stamp → ((id : ℕ) → id ≢ m.id → g id ≡ f id) → high ≤ m.stamp → m.stamp < higher → IsQueue f high ms → IsQueue g higher (ms ++ m ∷ [])
queue_behind f g high higher m ms none now same at lt q = record {
  listing = record {
    rising = rising_behind 1 high higher ms m at lt q.listing.rising;
    complete = λ id stamp e.
        ⊎_elim
        (λ is. subst (λ s. IsListed id s (ms ++ m ∷ [])) (same_some _ _ (sym now ∙ ap g (sym is) ∙ e)) (subst (λ i. IsListed i m.stamp (ms ++ m ∷ [])) (sym is) (listed_last m ms)))
        (λ other. listed_before id stamp m ms (q.listing.complete id stamp (sym (same id other) ∙ e)))
        (cases_eq id m.id);
  };
  current = current_behind f g m ms none now same q.current;
}
