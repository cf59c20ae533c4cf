-- The tale through a trim, and as places at its front go.
use Rattle.std.proofs.Common.{◌≡◌, ◌<◌, ◌≤◌, Bool, true, false, cond, List, [], ◌∷◌, ◌++◌, filter, refl, sym, ap, ◌∙◌, subst, arith, append_assoc}
use Rattle.std.specs.List.{AllByRecursion}
use Rattle.mvo_theory.specs.State.{State, StampedTx}
use Rattle.mvo_theory.specs.Sound.{IsStarted}
use Rattle.mvo_theory.specs.Changes.{is_to}
use Rattle.mvo_theory.proofs.Each.{each_weaker, each_append}
use Rattle.mvo_theory.proofs.Trim.{is_after, parted}
use Rattle.mvo_tale.specs.declared.tale_place.TalePlace.{TalePlace}
use Rattle.mvo_tale.specs.declared.tale_place.TalePlace.TheVariants.{Open, Reading, Settled, Empty}
use Rattle.mvo_tale.specs.Stored.{StoredCommit}
use Rattle.mvo_tale.specs.Timeline.{ArePlacesOf}
use Rattle.std.specs.Prelude.{nat_le}
use Rattle.std.proofs.lemmas.Bool.{leb-true}
use Rattle.mvo_tale.specs.Forgetting.{forgotten}
use Rattle.mvo_tale.specs.Kept.{MayGo, HasTale, TrimKeepsTale, CloseKeepsTale, ForgettingKeepsTale, WholeIsTale}

-- ---- places of two lists one after another
pub record ArePartedPlaces (slots : List TalePlace) (xs ys : List StampedTx) : Type 0 where
  pub front : List TalePlace
  pub back : List TalePlace
  pub are : slots ≡ front ++ back
  pub first : ArePlacesOf front xs
  pub second : ArePlacesOf back ys

pub places_parted : (slots : List TalePlace) (xs ys : List StampedTx) → ArePlacesOf slots (xs ++ ys) → ArePartedPlaces slots xs ys
places_parted slots [] ys h = record { front = []; back = slots; are = refl; first = tt; second = h }
places_parted [] (x ∷ xs) ys h = absurd h
places_parted (Open e ∷ slots) (x ∷ xs) ys h = let p = places_parted slots xs ys h.1 in record { front = Open e ∷ p.front; back = p.back; are = ap (λ (l : List TalePlace). Open e ∷ l) p.are; first = (h.0, p.first); second = p.second }
places_parted (Reading b ∷ slots) (x ∷ xs) ys h = absurd h
places_parted (Settled c ∷ slots) (x ∷ xs) ys h = let p = places_parted slots xs ys h.1 in record { front = Settled c ∷ p.front; back = p.back; are = ap (λ (l : List TalePlace). Settled c ∷ l) p.are; first = (h.0, p.first); second = p.second }
places_parted (Empty ∷ slots) (x ∷ xs) ys h = let p = places_parted slots (x ∷ xs) ys h in record { front = Empty ∷ p.front; back = p.back; are = ap (λ (l : List TalePlace). Empty ∷ l) p.are; first = p.first; second = p.second }

pub places_joined : (front back : List TalePlace) (xs ys : List StampedTx) → ArePlacesOf front xs → ArePlacesOf back ys → ArePlacesOf (front ++ back) (xs ++ ys)
places_joined [] back [] ys a b = b
places_joined [] back (x ∷ xs) ys a b = absurd a
places_joined (Open e ∷ front) back [] ys a b = absurd a
places_joined (Open e ∷ front) back (x ∷ xs) ys a b = (a.0, places_joined front back xs ys a.1 b)
places_joined (Reading d ∷ front) back [] ys a b = absurd a
places_joined (Reading d ∷ front) back (x ∷ xs) ys a b = absurd a
places_joined (Settled c ∷ front) back [] ys a b = absurd a
places_joined (Settled c ∷ front) back (x ∷ xs) ys a b = (a.0, places_joined front back xs ys a.1 b)
places_joined (Empty ∷ front) back [] ys a b = empty_more (front ++ back) ys (places_joined front back [] ys a b)
  where
    empty_more : (slots : List TalePlace) (zs : List StampedTx) → ArePlacesOf slots zs → ArePlacesOf (Empty ∷ slots) zs
    empty_more slots [] h = h
    empty_more slots (z ∷ zs) h = h
places_joined (Empty ∷ front) back (x ∷ xs) ys a b = places_joined front back (x ∷ xs) ys a b

-- ---- a trim
pub tale_trimmed : TrimKeepsTale
tale_trimmed s m slots rising le h = record {
  gone = h.gone;
  kept = h.kept ++ filter (is_to m) s.stamped;
  parts = ap (λ (xs : List StampedTx). xs ++ filter (is_to m) s.stamped) h.parts ∙ append_assoc h.gone h.kept (filter (is_to m) s.stamped);
  places = subst (ArePlacesOf slots) (ap (λ (xs : List StampedTx). h.kept ++ xs) (sym (parted m s.stamped rising)) ∙ sym (append_assoc h.kept (filter (is_to m) s.stamped) (filter (is_after m) s.stamped))) h.places;
  may = each_weaker (MayGo s.start s.marks.closed) (MayGo m s.marks.closed) (λ x g. record { trimmed = (let l = g.trimmed in omega (arith, l, le)); grouped = g.grouped }) h.gone h.may;
}

-- ---- a group is closed
pub tale_closed : CloseKeepsTale
tale_closed s mark slots le h = record {
  gone = h.gone;
  kept = h.kept;
  parts = h.parts;
  places = h.places;
  may = each_weaker (MayGo s.start s.marks.closed) (MayGo s.start mark) (λ x g. record { trimmed = g.trimmed; grouped = (let l = g.grouped in omega (arith, l, le)) }) h.gone h.may;
}

-- ---- the front goes: an empty place
pub empty_goes : (s : State) (slots : List TalePlace) → HasTale s (Empty ∷ slots) → HasTale s slots
empty_goes s slots h = record { gone = h.gone; kept = h.kept; parts = h.parts; places = go (h.kept ++ s.stamped) h.places; may = h.may }
  where
    go : (xs : List StampedTx) → ArePlacesOf (Empty ∷ slots) xs → ArePlacesOf slots xs
    go [] p = p
    go (x ∷ xs) p = p

-- a commit that ends at most at the start and is in a group
pub settled_goes : (s : State) (c : StoredCommit) (slots : List TalePlace) → IsStarted s → c.end ≤ s.start → c.end ≤ s.marks.closed → HasTale s (Settled c ∷ slots) → HasTale s slots
settled_goes s c slots st low grouped h = go h.kept h.parts h.places
  where
    later : (xs : List StampedTx) → AllByRecursion (λ x. s.start < x.end) xs → ArePlacesOf (Settled c ∷ slots) xs → ⊥
    later [] l p = p
    later (x ∷ xs) l p = let i = p.0.end' in let k = l.0 in omega (arith, i, k, low)

    go : (kept : List StampedTx) → s.past ≡ h.gone ++ kept → ArePlacesOf (Settled c ∷ slots) (kept ++ s.stamped) → HasTale s slots
    go [] past p = absurd (later s.stamped st.later p)
    go (x ∷ kept) past p = record {
      gone = h.gone ++ x ∷ [];
      kept = kept;
      parts = past ∙ sym (append_assoc h.gone (x ∷ []) kept);
      places = p.1;
      may = each_append (MayGo s.start s.marks.closed) h.gone (x ∷ []) h.may (record { trimmed = (let i = p.0.end' in omega (arith, i, low)); grouped = (let i = p.0.end' in omega (arith, i, grouped)) }, tt);
    }

-- ---- untrimmed, as the tale is when a core opens
pub tale_whole : WholeIsTale
tale_whole s slots e h = record { gone = []; kept = []; parts = e; places = h; may = tt }

-- ---- it leaves an empty place
pub empty_comes : (s : State) (slots : List TalePlace) → HasTale s slots → HasTale s (Empty ∷ slots)
empty_comes s slots h = record { gone = h.gone; kept = h.kept; parts = h.parts; places = go (h.kept ++ s.stamped) h.places; may = h.may }
  where
    go : (xs : List StampedTx) → ArePlacesOf slots xs → ArePlacesOf (Empty ∷ slots) xs
    go [] p = p
    go (x ∷ xs) p = p

-- ---- all that may be forgotten at the front is
pub tale_forgotten : ForgettingKeepsTale
tale_forgotten s upto [] st a b h = h
tale_forgotten s upto (Open e ∷ slots) st a b h = h
tale_forgotten s upto (Reading d ∷ slots) st a b h = h
tale_forgotten s upto (Settled c ∷ slots) st a b h = go (nat_le c.end upto) refl (λ k. tale_forgotten s upto slots st a b k)
  where
    go : (x : Bool) → nat_le c.end upto ≡ x → (HasTale s slots → HasTale s (forgotten upto slots)) → HasTale s (cond x (Empty ∷ forgotten upto slots) (Settled c ∷ slots))
    go true i r = let l = leb-true c.end upto i in empty_comes s (forgotten upto slots) (r (settled_goes s c slots st (omega (arith, l, a)) (omega (arith, l, b)) h))
    go false i r = h
tale_forgotten s upto (Empty ∷ slots) st a b h = empty_comes s (forgotten upto slots) (tale_forgotten s upto slots st a b (empty_goes s slots h))
