-- What counts after a change of the seats.
use Rattle.std.proofs.Common.{◌≡◌, ◌≢◌, ℕ, ◌+◌, ◌-◌, ◌≤◌, Bool, true, false, cond, eqb, Option, Some, None, refl, sym, ap, subst, ◌∙◌, arith, ⊎_elim}
use Rattle.std.proofs.lemmas.Bool.{cases_eq, eqb-true, eq-eqb}
use Rattle.std.proofs.lemmas.Cmp.{nat_cmp_total}
use Rattle.std.proofs.lemmas.Option.{none-some}
use Rattle.std.specs.Option.{option_map, is_some}
use Rattle.std.specs.Cmp.{unsigned_tied}
use Rattle.std.specs.Ordering.{nat_cmp, eq_by_cmp}
use Rattle.std.specs.FinMap.{FinMap, get, insert, remove, len, contains_key, get-insert, get-remove, len-insert, len-remove}
use Rattle.mvo_txn.specs.declared.mark.Kind.{Kind}
use Rattle.mvo_txn.specs.declared.mark.Kind.TheVariants.{Begin, OpenEnd}
use Rattle.mvo_txn.specs.declared.table_seat.TableSeat.{TableSeat}
use Rattle.mvo_txn.specs.Seats.{SeatMap}
use Rattle.mvo_txn.specs.Queue.{queue_stamp, open_end}

tied : (a b : ℕ) → a ≡ b → eq_by_cmp nat_cmp a b ≡ true
tied a b e = unsigned_tied a b ∙ eq-eqb a b e

pub apart_by : (t : Bool) (a b : ℕ) → eqb a b ≡ t → a ≢ b → t ≡ false
apart_by true a b e ne = absurd (ne (eqb-true a b e))
apart_by false a b e ne = refl

apart : (a b : ℕ) → a ≢ b → eq_by_cmp nat_cmp a b ≡ false
apart a b ne = unsigned_tied a b ∙ apart_by (eqb a b) a b refl ne

len_less_by : (b : Bool) (n : ℕ) → cond b (n - 1) n ≤ n
len_less_by true n = omega arith
len_less_by false n = omega arith

module _ {X : Type 0} where
  -- ---- a finite map after a change at one id
  pub get_inserted : (m : FinMap nat_cmp X) (k : ℕ) (x : X) → get (insert m k x) k ≡ Some x
  get_inserted m k x = get-insert nat_cmp_total m k x k ∙ ap (λ b. cond b (Some x) (get m k)) (tied k k refl)

  pub get_beside : (m : FinMap nat_cmp X) (k : ℕ) (x : X) (q : ℕ) → q ≢ k → get (insert m k x) q ≡ get m q
  get_beside m k x q ne = get-insert nat_cmp_total m k x q ∙ ap (λ b. cond b (Some x) (get m q)) (apart q k ne)

  pub get_removed : (m : FinMap nat_cmp X) (k : ℕ) → get (remove m k) k ≡ None
  get_removed m k = get-remove nat_cmp_total m k k ∙ ap (λ b. cond b None (get m k)) (tied k k refl)

  pub get_left : (m : FinMap nat_cmp X) (k q : ℕ) → q ≢ k → get (remove m k) q ≡ get m q
  get_left m k q ne = get-remove nat_cmp_total m k q ∙ ap (λ b. cond b None (get m q)) (apart q k ne)

  pub len_replaced : (m : FinMap nat_cmp X) (k : ℕ) (old x : X) → get m k ≡ Some old → len (insert m k x) ≡ len m
  len_replaced m k old x there = len-insert nat_cmp_total m k x ∙ ap (λ o. cond (is_some o) (len m) (len m + 1)) there

  pub len_grown : (m : FinMap nat_cmp X) (k : ℕ) (x : X) → get m k ≡ None → len (insert m k x) ≡ len m + 1
  len_grown m k x new = len-insert nat_cmp_total m k x ∙ ap (λ o. cond (is_some o) (len m) (len m + 1)) new

  pub len_left : (m : FinMap nat_cmp X) (k : ℕ) → len (remove m k) ≤ len m
  len_left m k = subst (λ n. n ≤ len m) (sym (len-remove nat_cmp_total m k)) (len_less_by (contains_key m k) (len m))

module _ {P : Type 0} where
  -- ---- an id with its begin is its own
  begin_at : (o : Option (TableSeat P)) (id stamp : ℕ) → option_map (λ _. id) o ≡ Some stamp → id ≡ stamp
  begin_at None id stamp e = absurd (none-some stamp e)
  begin_at (Some s) id stamp e = ap (λ o. Rattle.std.specs.Option.unwrap_or o id) e

  pub begin_is_id : (m : SeatMap P) (id stamp : ℕ) → queue_stamp Begin m id ≡ Some stamp → id ≡ stamp
  begin_is_id m id stamp e = begin_at (get m id) id stamp e

  -- ---- stamps that a change leaves
  pub same_beside : (kind : Kind) (m n : SeatMap P) (q : ℕ) → get n q ≡ get m q → queue_stamp kind n q ≡ queue_stamp kind m q
  same_beside Begin m n q e = ap (option_map (λ _. q)) e
  same_beside OpenEnd m n q e = ap (λ o. open_end (option_map (λ s. s.state) o)) e

  -- the seats with another at an id that has one
  pub same_begins : (m : SeatMap P) (id : ℕ) (old new : TableSeat P) → get m id ≡ Some old → (q : ℕ) → queue_stamp Begin (insert m id new) q ≡ queue_stamp Begin m q
  same_begins m id old new there q =
      ⊎_elim
      (λ is. ap (λ i. option_map (λ _. q) (get (insert m id new) i)) is ∙ ap (option_map (λ _. q)) (get_inserted m id new) ∙ sym (ap (λ i. option_map (λ _. q) (get m i)) is ∙ ap (option_map (λ _. q)) there))
      (λ ne. same_beside Begin m (insert m id new) q (get_beside m id new q ne))
      (cases_eq q id)

  -- the seats with another at an id, whose end is open or not as before
  pub same_ends : (m : SeatMap P) (id : ℕ) (new : TableSeat P) → open_end (Some new.state) ≡ queue_stamp OpenEnd m id → (q : ℕ) → queue_stamp OpenEnd (insert m id new) q ≡ queue_stamp OpenEnd m q
  same_ends m id new same q =
      ⊎_elim
      (λ is. ap (queue_stamp OpenEnd (insert m id new)) is ∙ ap (λ o. open_end (option_map (λ s. s.state) o)) (get_inserted m id new) ∙ same ∙ sym (ap (queue_stamp OpenEnd m) is))
      (λ ne. same_beside OpenEnd m (insert m id new) q (get_beside m id new q ne))
      (cases_eq q id)
