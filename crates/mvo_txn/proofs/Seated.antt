-- The map of the seats after a change of a slab of chairs.
use Rattle.std.proofs.Common.{◌≡◌, ℕ, ◌<◌, ◌≤◌, true, false, eqb, Option, Some, None, refl, sym, ap, subst, ◌∙◌, arith, ⊎_elim}
use Rattle.std.proofs.lemmas.Bool.{cases_eq, eqb-true, false≢true}
use Rattle.std.proofs.lemmas.Cmp.{nat_cmp_total}
use Rattle.std.proofs.lemmas.Option.{none-some}
use Rattle.std.specs.Option.{option_map}
use Rattle.std.specs.Ordering.{nat_cmp}
use Rattle.std.specs.FinMap as map
use Rattle.mvo_types.specs.declared.ids.Stamp.{Stamp}
use Rattle.mvo_types.specs.declared.limits.TheConstants.{MAX_UNFINISHED}
use Rattle.slab.specs.Slab.{Slab, get, with_value, slab_len, HasRoomFor, Updates}
use Rattle.mvo_txn.specs.declared.chair.Chair.{Chair}
use Rattle.mvo_txn.specs.declared.table_seat.TableSeat.{TableSeat}
use Rattle.mvo_txn.specs.declared.directory.Directory.{Directory}
use Rattle.mvo_txn.specs.declared.state.TxState.{TxState}
use Rattle.mvo_txn.specs.declared.state.TxState.TheVariants.{Active, Preparing, Committed, Aborted}
use Rattle.mvo_txn.specs.Queue.{open_end}
use Rattle.mvo_txn.specs.Seats.{SeatMap, with_state, with_state_at, with_kept, with_kept_at}
use Rattle.mvo_txn.specs.Directory.{is_of, Knows, KnowsAlike, Notes, Forgets}
use Rattle.mvo_txn.specs.Chairs.{seats_of, AreSeats}
use Rattle.mvo_txn.proofs.Held.{get_held, one_put, one_gone}
use Rattle.mvo_txn.proofs.Stamps.{get_inserted, get_beside, get_removed, get_left}
use Rattle.mvo_txn.proofs.Chairs.{not_true, chair_of, look_at, look_none, look_put, look_gone, at_set, at_others, len_seats, directory_alike, directory_written, directory_put, directory_gone}

module _ {P : Type 0} where
  -- the map of the chairs' seats
  abbrev pub seat_map : Slab (Chair P) → SeatMap P
  seat_map s = map.from_entries (seats_of s.slots)

  -- ---- what stands there
  pub got : (d : Directory) (s : Slab (Chair P)) (m : SeatMap P) (n id : ℕ) (c : Chair P) → AreSeats d s → seat_map s ≡ m → get s n ≡ Some c → is_of (get s n) id ≡ true → map.get m id ≡ Some c.seat
  got d s m n id c are view here is =
      let own = chair_of (get s n) id is in
      ap (λ x. map.get x id) (sym view) ∙ get_held (seats_of s.slots) id ∙ look_at s.slots n id own.0 are.directory.own own.1 own.2 ∙ same (get s n) own.0 c own.1 here
    where
      same : (o : Option (Chair P)) (a b : Chair P) → o ≡ Some a → o ≡ Some b → Some a.seat ≡ Some b.seat
      same o a b e f = ap (option_map (λ x. x.seat)) (sym e ∙ f)

  pub got_none : (d : Directory) (s : Slab (Chair P)) (m : SeatMap P) (id : ℕ) → AreSeats d s → seat_map s ≡ m → ((n : ℕ) → Knows d id n → is_of (get s n) id ≡ false) → map.get m id ≡ None
  got_none d s m id are view none =
      ap (λ x. map.get x id) (sym view) ∙ get_held (seats_of s.slots) id
      ∙ look_none s.slots id (λ n. not_true (is_of (get s n) id) (λ t. false≢true (sym (none n (are.directory.known n id t)) ∙ t)))

  -- a chair that was found isn't empty
  pub not_empty : (s : Slab (Chair P)) (n id : ℕ) → None ≡ get s n → is_of (get s n) id ≡ true → ⊥
  not_empty s n id e is = false≢true (ap (λ o. is_of o id) e ∙ is)

  nobody : (d : Directory) (s : Slab (Chair P)) (m : SeatMap P) (id : ℕ) → AreSeats d s → seat_map s ≡ m → map.get m id ≡ None → (n : ℕ) → is_of (get s n) id ≡ false
  nobody d s m id are view none n = not_true (is_of (get s n) id) (λ t. none-some (chair_of (get s n) id t).0.seat (sym none ∙ got d s m n id (chair_of (get s n) id t).0 are view (chair_of (get s n) id t).1 t))

  -- ---- how many
  pub len_is : (d : Directory) (s : Slab (Chair P)) (m : SeatMap P) → AreSeats d s → seat_map s ≡ m → slab_len s ≡ map.len m
  len_is d s m are view = sym (len_seats s.slots are.directory.own) ∙ ap map.len view

  pub has_room : (d : Directory) (s : Slab (Chair P)) (m : SeatMap P) → AreSeats d s → seat_map s ≡ m → map.len m < MAX_UNFINISHED → HasRoomFor s 1
  has_room d s m are view few = let e = len_is d s m are view in let room = are.room in omega (arith, e, room, few)

  -- ---- changes
  pub alike : (d d' : Directory) (s : Slab (Chair P)) → KnowsAlike d d' → AreSeats d s → AreSeats d' s
  alike d d' s same are = record { directory = directory_alike d d' s same are.directory; room = are.room }

  pub put_seats : (d d' : Directory) (s s' : Slab (Chair P)) (m : SeatMap P) (n id : ℕ) (seat : TableSeat P) → AreSeats d s → seat_map s ≡ m → map.get m id ≡ None
      → Notes d d' s id n → Updates s s' n (Some (record { id = id; seat = seat })) → s'.capacity ≡ s.capacity → AreSeats d' s'
  put_seats d d' s s' m n id seat are view none notes put same = record {
    directory = directory_put d d' s s' n id (record { id = id; seat = seat }) put.changed refl put.others (nobody d s m id are view none) notes are.directory;
    room = subst (λ k. MAX_UNFINISHED ≤ k) (sym same) are.room;
  }

  pub put_map : (d d' : Directory) (s s' : Slab (Chair P)) (m : SeatMap P) (n id : ℕ) (seat : TableSeat P) → AreSeats d s → AreSeats d' s' → seat_map s ≡ m → get s n ≡ None
      → Updates s s' n (Some (record { id = id; seat = seat })) → seat_map s' ≡ map.insert m id seat
  put_map d d' s s' m n id seat are are' view free put =
      one_put (seats_of s.slots) (seats_of s'.slots) id seat
      (look_put s.slots s'.slots n id (record { id = id; seat = seat }) are.directory.own are'.directory.own put.changed refl put.others (λ q ne. ap (λ o. is_of o q) free))
      ∙ ap (λ x. map.insert x id seat) view

  pub gone_seats : (d d' : Directory) (s s' : Slab (Chair P)) (n id : ℕ) → AreSeats d s → is_of (get s n) id ≡ true → Updates s s' n None → Forgets d d' id → s'.capacity ≡ s.capacity → AreSeats d' s'
  gone_seats d d' s s' n id are is left forgets same = record {
    directory = directory_gone d d' s s' n id is left.changed left.others forgets are.directory;
    room = subst (λ k. MAX_UNFINISHED ≤ k) (sym same) are.room;
  }

  pub gone_map : (d d' : Directory) (s s' : Slab (Chair P)) (m : SeatMap P) (n id : ℕ) → AreSeats d s → AreSeats d' s' → seat_map s ≡ m → is_of (get s n) id ≡ true → Updates s s' n None → seat_map s' ≡ map.remove m id
  gone_map d d' s s' m n id are are' view is left =
      one_gone (seats_of s.slots) (seats_of s'.slots) id (look_gone s.slots s'.slots n id are.directory.own are'.directory.own left.changed is left.others)
      ∙ ap (λ x. map.remove x id) view

  -- a chair is given another seat
  abbrev pub with_seat : Slab (Chair P) → ℕ → Chair P → TableSeat P → Slab (Chair P)
  with_seat s n c seat = with_value s n (record c { seat = seat })

  pub written_seats : (d : Directory) (s : Slab (Chair P)) (n : ℕ) (c : Chair P) (seat : TableSeat P) → AreSeats d s → get s n ≡ Some c → AreSeats d (with_seat s n c seat)
  written_seats d s n c seat are here = record {
    directory = directory_written d s (with_seat s n c seat) n c (record c { seat = seat }) here (at_set s.slots n c (Some (record c { seat = seat })) here) refl
        (λ m ne. at_others s.slots n (Some (record c { seat = seat })) m ne) are.directory;
    room = are.room;
  }

  pub written_map : (d : Directory) (s : Slab (Chair P)) (m : SeatMap P) (n id : ℕ) (c : Chair P) (seat : TableSeat P) → AreSeats d s → seat_map s ≡ m → get s n ≡ Some c → is_of (get s n) id ≡ true
      → seat_map (with_seat s n c seat) ≡ map.insert m id seat
  written_map d s m n id c seat are view here is =
      one_put (seats_of s.slots) (seats_of (with_seat s n c seat).slots) id seat
      (look_put s.slots (with_seat s n c seat).slots n id (record c { seat = seat }) are.directory.own (written_seats d s n c seat are here).directory.own
      (at_set s.slots n c (Some (record c { seat = seat })) here) c_is (λ k ne. at_others s.slots n (Some (record c { seat = seat })) k ne)
      (λ q ne. ap (λ o. is_of o q) here ∙ not_true (eqb c.id q) (λ t. ne (sym (eqb-true c.id q t) ∙ c_is))))
      ∙ ap (λ x. map.insert x id seat) view
    where
      c_is : c.id ≡ id
      c_is = eqb-true c.id id (sym (ap (λ o. is_of o id) here) ∙ is)

-- one that isn't there may be left out
pub left_out : {X : Type 0} (m : map.FinMap nat_cmp X) (id : ℕ) → map.get m id ≡ None → m ≡ map.remove m id
left_out m id none = map.same_map nat_cmp_total map.nat_cmp-IsAntisymmetric m (map.remove m id) (λ q.
    ⊎_elim (λ is. ap (map.get m) is ∙ none ∙ sym (ap (map.get (map.remove m id)) is ∙ get_removed m id)) (λ ne. sym (get_left m id q ne)) (cases_eq q id))

-- what was put at an id is replaced
put_twice : {X : Type 0} (m : map.FinMap nat_cmp X) (id : ℕ) (a b : X) → map.insert (map.insert m id a) id b ≡ map.insert m id b
put_twice m id a b = map.same_map nat_cmp_total map.nat_cmp-IsAntisymmetric (map.insert (map.insert m id a) id b) (map.insert m id b) (λ q.
    ⊎_elim (λ is. ap (map.get (map.insert (map.insert m id a) id b)) is ∙ get_inserted (map.insert m id a) id b ∙ sym (ap (map.get (map.insert m id b)) is ∙ get_inserted m id b))
    (λ ne. get_beside (map.insert m id a) id b q ne ∙ get_beside m id a q ne ∙ sym (get_beside m id b q ne)) (cases_eq q id))

-- one that has another state, and of which this is kept
pub restated : {P : Type 0} (m : SeatMap P) (id : ℕ) (state : TxState) (old : TableSeat P) (kept : P) → map.get m id ≡ Some old → map.insert m id (record { state = state; kept = kept }) ≡ with_kept (with_state m id state) id kept
restated {P} m id state old kept there =
    let stood : TableSeat P = record old { state = state } in
    sym (ap (λ o. with_kept (with_state_at o m id state) id kept) there
    ∙ ap (λ o. with_kept_at o (map.insert m id stood) id kept) (get_inserted m id stood) ∙ put_twice m id stood (record { state = state; kept = kept }))

-- one that isn't Preparing has no open end
pub not_open : (state : TxState) → ((end : Stamp) → state ≡ Preparing end → ⊥) → open_end (Some state) ≡ None
not_open Active h = refl
not_open (Preparing end) h = absurd (h end refl)
not_open (Committed end) h = refl
not_open Aborted h = refl
