-- No more marks count than transactions have a seat.
use Rattle.std.proofs.Common.{◌≡◌, ◌≢◌, ℕ, ◌+◌, ◌-◌, ◌<◌, ◌≤◌, true, false, cond, List, [], ◌∷◌, length, Option, Some, None, refl, sym, ap, ◌∙◌, arith, ⊎_elim}
use Rattle.std.proofs.lemmas.Bool.{cases_eq, false≢true}
use Rattle.std.proofs.lemmas.Cmp.{nat_cmp_total}
use Rattle.std.proofs.lemmas.Option.{none-some}
use Rattle.std.specs.Option.{option_map, is_some}
use Rattle.std.specs.List.{filter}
use Rattle.std.specs.Ordering.{nat_cmp}
use Rattle.std.specs.FinMap.{FinMap, get, remove, len, len-remove, empty_of_len, get-empty}
use Rattle.mvo_txn.specs.declared.mark.Kind.{Kind}
use Rattle.mvo_txn.specs.declared.mark.Kind.TheVariants.{Begin, OpenEnd}
use Rattle.mvo_txn.specs.declared.mark.Mark.{Mark}
use Rattle.mvo_txn.specs.declared.table_seat.TableSeat.{TableSeat}
use Rattle.mvo_txn.specs.Seats.{SeatMap}
use Rattle.mvo_txn.specs.Queue.{queue_stamp, open_end, is_current, HasRisingStamps}
use Rattle.mvo_txn.proofs.Queues.{Stamps, same_some, current_if, rising_filtered}
use Rattle.mvo_txn.proofs.Stamps.{get_left}

-- each counts, and has a seat
abbrev AllCount : {X : Type 0} → Stamps → FinMap nat_cmp X → List Mark → Type 0
AllCount f m [] = Unit {0}
AllCount f m (x ∷ xs) = (f x.id ≡ Some x.stamp) × (is_some (get m x.id) ≡ true) × AllCount f m xs

module _ {X : Type 0} where
  -- those behind the first are others
  all_others : (f : Stamps) (m : FinMap nat_cmp X) (x : Mark) (low high : ℕ) (xs : List Mark) → f x.id ≡ Some x.stamp → x.stamp < low → HasRisingStamps low high xs → AllCount f m xs → AllCount f (remove m x.id) xs
  all_others f m x low high [] here lt r h = tt
  all_others f m x low high (y ∷ ys) here lt r h =
      let other : y.id ≢ x.id = λ e. let same = same_some y.stamp x.stamp (sym h.0 ∙ ap f e ∙ here) in let le : low ≤ y.stamp = r.0 in omega (arith, same, le) in
      let le : low ≤ y.stamp = r.0 in
      (h.0, ap is_some (get_left m x.id y.id other) ∙ h.1, all_others f m x (y.stamp + 1) high ys here (omega arith) r.1 h.2)

  some_held : (m : FinMap nat_cmp X) (k : ℕ) → is_some (get m k) ≡ true → len m ≡ len (remove m k) + 1
  some_held m k there = ⊎_elim (λ none. absurd (false≢true (sym (ap (λ n. is_some (get n k)) (empty_of_len m none) ∙ ap is_some (get-empty nat_cmp k)) ∙ there)))
      (λ some. let e = len-remove nat_cmp_total m k ∙ ap (λ b. cond b (len m - 1) (len m)) there in omega (arith, e, some)) (cases_eq (len m) 0)

  all_few : (f : Stamps) (m : FinMap nat_cmp X) (low high : ℕ) (xs : List Mark) → HasRisingStamps low high xs → AllCount f m xs → length xs ≤ len m
  all_few f m low high [] r h = omega arith
  all_few f m low high (x ∷ xs) r h =
      let less : length xs ≤ len (remove m x.id) = all_few f (remove m x.id) (x.stamp + 1) high xs r.1 (all_others f m x (x.stamp + 1) high xs h.0 (omega arith) r.1 h.2) in
      let more = some_held m x.id h.1 in
      omega arith

module _ {P : Type 0} where
  seat_of : (kind : Kind) (m : SeatMap P) (id stamp : ℕ) (o : Option (TableSeat P)) → get m id ≡ o → queue_stamp kind m id ≡ Some stamp → is_some o ≡ true
  seat_of kind m id stamp (Some s) there e = refl
  seat_of Begin m id stamp None there e = absurd (none-some stamp (sym (ap (option_map (λ _. id)) there) ∙ e))
  seat_of OpenEnd m id stamp None there e = absurd (none-some stamp (sym (ap (λ o. open_end (option_map (λ s. s.state) o)) there) ∙ e))

  all_count : (kind : Kind) (m : SeatMap P) (xs : List Mark) → AllCount (queue_stamp kind m) m (filter (is_current (queue_stamp kind m)) xs)
  all_count kind m [] = tt
  all_count kind m (x ∷ xs) =
      elim (is_current (queue_stamp kind m) x) as (λ b. is_current (queue_stamp kind m) x ≡ b → AllCount (queue_stamp kind m) m (cond b (x ∷ filter (is_current (queue_stamp kind m)) xs) (filter (is_current (queue_stamp kind m)) xs))) [
        | true ↦ λ e. let is = current_if (queue_stamp kind m) x e in (is, seat_of kind m x.id x.stamp (get m x.id) refl is, all_count kind m xs)
        | false ↦ λ e. all_count kind m xs
      ] refl

  pub few_current : (kind : Kind) (m : SeatMap P) (low high : ℕ) (xs : List Mark) → HasRisingStamps low high xs → length (filter (is_current (queue_stamp kind m)) xs) ≤ len m
  few_current kind m low high xs r = all_few (queue_stamp kind m) m low high (filter (is_current (queue_stamp kind m)) xs) (rising_filtered (is_current (queue_stamp kind m)) low high xs r) (all_count kind m xs)
