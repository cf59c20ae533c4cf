-- Each call keeps the queues those of the seats.
use Rattle.std.proofs.Common.{◌≡◌, ◌≢◌, ℕ, Bool, true, false, eqb, ◌+◌, ◌<◌, ◌≤◌, List, [], ◌∷◌, ◌++◌, Option, Some, None, refl, sym, ap, subst, ◌∙◌, arith, ⊎_elim}
use Rattle.std.specs.Prelude.{cond}
use Rattle.std.proofs.Common.{leb}
use Rattle.std.proofs.lemmas.Bool.{cases_eq, eq-eqb}
use Rattle.std.proofs.lemmas.Bool.Decides.{leb_tells}
use Rattle.mvo_types.specs.declared.refusal.Refusal.TheVariants.{TableFull, ClockSpent}
use Rattle.std.proofs.lemmas.Option.{none-some}
use Rattle.std.specs.Option.{option_map}
use Rattle.std.specs.VecDeque.{deque_capacity}
use Rattle.std.specs.FinMap.{get, insert, remove, len, empty, get-empty, len-empty}
use Rattle.std.specs.Ordering.{nat_cmp}
use Rattle.mvo_types.specs.declared.limits.TheConstants.{MAX_STAMP, MAX_UNFINISHED}
use Rattle.mvo_txn.specs.declared.state.TxState.{TxState}
use Rattle.mvo_txn.specs.declared.state.TxState.TheVariants.{Active, Preparing, Committed, Aborted}
use Rattle.mvo_txn.specs.declared.mark.Kind.{Kind}
use Rattle.mvo_txn.specs.declared.mark.Kind.TheVariants.{Begin, OpenEnd}
use Rattle.mvo_txn.specs.declared.mark.Mark.{Mark}
use Rattle.mvo_txn.specs.declared.queue.Queue.{Queue}
use Rattle.mvo_txn.specs.declared.table_seat.TableSeat.{TableSeat}
use Rattle.mvo_txn.specs.Seats.{SeatMap, state_in, with_state, with_state_at, with_kept, with_kept_at}
use Rattle.mvo_txn.specs.Queue.{queue_stamp, stamp_without, open_end, IsListing, IsQueue}
use Rattle.mvo_txn.specs.Sound.{IsQueueOf, AreSeatsSound, KeepsForm}
use Rattle.mvo_txn.specs.Txns.{IsUnended, IsEnded, spent_clock}
use Rattle.mvo_txn.proofs.Queues.{queue_same, queue_behind, listing_less, listed_below}
use Rattle.mvo_txn.proofs.Stamps.{apart_by, get_inserted, get_beside, get_removed, get_left, len_replaced, len_grown, len_left, same_begins, same_ends, same_beside}

room_kept : (q r : Queue) → KeepsForm q r → MAX_UNFINISHED < deque_capacity q.marks → MAX_UNFINISHED < deque_capacity r.marks
room_kept q r same room = let e = same.room in omega (arith, e, room)

-- one counts no longer
fewer_at : (b : Bool) (o : Option ℕ) (stamp : ℕ) → cond b None o ≡ Some stamp → o ≡ Some stamp
fewer_at true o stamp e = absurd (none-some stamp e)
fewer_at false o stamp e = e

fewer : (f : ℕ → Option ℕ) (gone id stamp : ℕ) → stamp_without gone f id ≡ Some stamp → f id ≡ Some stamp
fewer f gone id stamp e = fewer_at (eqb id gone) (f id) stamp e

module _ {P : Type 0} where
  -- ---- one queue
  abbrev pub Keeps : Kind → SeatMap P → List Mark → List Mark → Type 0
  Keeps kind m old new = (high : ℕ) → IsQueue (queue_stamp kind m) high old → IsQueue (queue_stamp kind m) high new

  abbrev pub Trims : Kind → SeatMap P → ℕ → List Mark → List Mark → Type 0
  Trims kind m gone old new = (high : ℕ) → IsListing (stamp_without gone (queue_stamp kind m)) high old → IsQueue (stamp_without gone (queue_stamp kind m)) high new

  pub queue_roomy : (kind : Kind) (clock : ℕ) (m : SeatMap P) (q r : Queue) → KeepsForm q r → Keeps q.kind m q.marks.items r.marks.items → IsQueueOf kind clock m q → IsQueueOf kind clock m r
  queue_roomy kind clock m q r same kept is = record {
    kind_is = same.kind ∙ is.kind_is;
    room = room_kept q r same is.room;
    queue = subst (λ k. IsQueue (queue_stamp k m) (clock + 1) r.marks.items) is.kind_is (kept (clock + 1) (subst (λ k. IsQueue (queue_stamp k m) (clock + 1) q.marks.items) (sym is.kind_is) is.queue));
  }

  -- it was trimmed where the seats were x
  queue_trimmed : (kind : Kind) (clock : ℕ) (m x n : SeatMap P) (gone : ℕ) (q r : Queue) → KeepsForm q r → Trims q.kind x gone q.marks.items r.marks.items → ((id stamp : ℕ) → queue_stamp kind x id ≡ Some stamp → queue_stamp kind m id ≡ Some stamp)
      → ((id : ℕ) → queue_stamp kind n id ≡ stamp_without gone (queue_stamp kind x) id) → IsQueueOf kind clock m q → IsQueueOf kind clock n r
  queue_trimmed kind clock m x n gone q r same trims less now is = record {
    kind_is = same.kind ∙ is.kind_is;
    room = room_kept q r same is.room;
    queue = queue_same (stamp_without gone (queue_stamp kind x)) (queue_stamp kind n) (clock + 1) (clock + 1) r.marks.items (omega arith) now
        (subst (λ k. Trims k x gone q.marks.items r.marks.items) is.kind_is trims (clock + 1)
        (listing_less (queue_stamp kind m) (stamp_without gone (queue_stamp kind x)) (clock + 1) q.marks.items (λ id stamp e. less id stamp (fewer (queue_stamp kind x) gone id stamp e)) is.queue.listing));
  }

  -- one counts no longer, and the others count as before
  without : (kind : Kind) (m n : SeatMap P) (gone : ℕ) → queue_stamp kind n gone ≡ None → ((i : ℕ) → i ≢ gone → get n i ≡ get m i) → (id : ℕ) → queue_stamp kind n id ≡ stamp_without gone (queue_stamp kind m) id
  without kind m n gone none others id =
      ⊎_elim
      (λ is. ap (queue_stamp kind n) is ∙ none ∙ sym (ap (λ b. cond b None (queue_stamp kind m id)) (eq-eqb id gone is)))
      (λ ne. same_beside kind m n id (others id ne) ∙ sym (ap (λ b. cond b None (queue_stamp kind m id)) (apart_by (eqb id gone) id gone refl ne)))
      (cases_eq id gone)

  queue_untouched : (kind : Kind) (clock later : ℕ) (m n : SeatMap P) (q : Queue) → clock ≤ later → ((id : ℕ) → queue_stamp kind n id ≡ queue_stamp kind m id) → IsQueueOf kind clock m q → IsQueueOf kind later n q
  queue_untouched kind clock later m n q le same is = record {
    kind_is = is.kind_is;
    room = is.room;
    queue = queue_same (queue_stamp kind m) (queue_stamp kind n) (clock + 1) (later + 1) q.marks.items (omega arith) same is.queue;
  }

  queue_pushed : (kind : Kind) (clock : ℕ) (m n : SeatMap P) (q r : Queue) (id : ℕ) → KeepsForm q r → r.marks.items ≡ q.marks.items ++ record { stamp = clock + 1; id = id } ∷ []
      → queue_stamp kind m id ≡ None → queue_stamp kind n id ≡ Some (clock + 1) → ((i : ℕ) → i ≢ id → get n i ≡ get m i) → IsQueueOf kind clock m q → IsQueueOf kind (clock + 1) n r
  queue_pushed kind clock m n q r id same items none now others is = record {
    kind_is = same.kind ∙ is.kind_is;
    room = room_kept q r same is.room;
    queue = subst (IsQueue (queue_stamp kind n) (clock + 1 + 1)) (sym items)
        (queue_behind (queue_stamp kind m) (queue_stamp kind n) (clock + 1) (clock + 1 + 1) (record { stamp = clock + 1; id = id }) q.marks.items none now
        (λ i ne. same_beside kind m n i (others i ne)) (omega arith) (omega arith) is.queue);
  }

  pub queue_of_none : (kind : Kind) (clock : ℕ) (q : Queue) → q.kind ≡ kind → q.marks.items ≡ [] → MAX_UNFINISHED < deque_capacity q.marks → IsQueueOf kind clock (empty {X = TableSeat P} {R = nat_cmp}) q
  queue_of_none kind clock q is none room = record {
    kind_is = is;
    room = room;
    queue = subst (IsQueue (queue_stamp kind (empty {X = TableSeat P} {R = nat_cmp})) (clock + 1)) (sym none) (record {
      listing = record { rising = omega arith; complete = λ id stamp e. none-some stamp (sym (no_stamp kind id) ∙ e) };
      current = tt;
    });
  } where
    no_stamp : (k : Kind) (id : ℕ) → queue_stamp k (empty {X = TableSeat P} {R = nat_cmp}) id ≡ None
    no_stamp Begin id = ap (option_map (λ _. id)) (get-empty nat_cmp id)
    no_stamp OpenEnd id = ap (λ o. open_end (option_map (λ s. s.state) o)) (get-empty nat_cmp id)

  -- ---- the table
  seat_at : (o : Option (TableSeat P)) (state : TxState) → option_map (λ s. s.state) o ≡ Some state → (seat : TableSeat P) × ((o ≡ Some seat) × (seat.state ≡ state))
  seat_at None state e = absurd (none-some state e)
  seat_at (Some seat) state e = (seat, (refl, ap (λ o. Rattle.std.specs.Option.unwrap_or o seat.state) e))

  fresh_at : (m : SeatMap P) (clock : ℕ) (q : Queue) → IsQueueOf Begin clock m q → (o : Option (TableSeat P)) → get m (clock + 1) ≡ o → get m (clock + 1) ≡ None
  fresh_at m clock q is None e = e
  fresh_at m clock q is (Some seat) e =
      let lt : clock + 1 < clock + 1 = listed_below 1 (clock + 1) (clock + 1) (clock + 1) q.marks.items is.queue.listing.rising (is.queue.listing.complete (clock + 1) (clock + 1) (ap (option_map (λ _. clock + 1)) e)) in
      absurd (omega arith)

  -- the next number of the clock is nobody's id
  pub fresh : (m : SeatMap P) (clock : ℕ) (q : Queue) → IsQueueOf Begin clock m q → get m (clock + 1) ≡ None
  fresh m clock q is = fresh_at m clock q is (get m (clock + 1)) refl

  pub sound_none : (clock : ℕ) (m : SeatMap P) (b e : Queue) → clock ≤ MAX_STAMP → m ≡ empty → b.kind ≡ Begin → b.marks.items ≡ [] → MAX_UNFINISHED < deque_capacity b.marks → e.kind ≡ OpenEnd → e.marks.items ≡ [] → MAX_UNFINISHED < deque_capacity e.marks → AreSeatsSound clock m b e
  sound_none clock m b e le is b_is b_none b_room e_is e_none e_room =
      subst (λ m. AreSeatsSound clock m b e) (sym is) (record {
        stamped = le;
        few = let none = len-empty nat_cmp (TableSeat P) in omega (arith, none);
        begins_are = queue_of_none Begin clock b b_is b_none b_room;
        open_ends_are = queue_of_none OpenEnd clock e e_is e_none e_room;
      })

  -- room is made in a queue
  pub sound_roomy_begins : (clock : ℕ) (m : SeatMap P) (b b' e : Queue) → KeepsForm b b' → Keeps b.kind m b.marks.items b'.marks.items → AreSeatsSound clock m b e → AreSeatsSound clock m b' e
  sound_roomy_begins clock m b b' e same kept s = record {
    stamped = s.stamped;
    few = s.few;
    begins_are = queue_roomy Begin clock m b b' same kept s.begins_are;
    open_ends_are = s.open_ends_are;
  }

  pub sound_roomy_ends : (clock : ℕ) (m : SeatMap P) (b e e' : Queue) → KeepsForm e e' → Keeps e.kind m e.marks.items e'.marks.items → AreSeatsSound clock m b e → AreSeatsSound clock m b e'
  sound_roomy_ends clock m b e e' same kept s = record {
    stamped = s.stamped;
    few = s.few;
    begins_are = s.begins_are;
    open_ends_are = queue_roomy OpenEnd clock m e e' same kept s.open_ends_are;
  }

  pub sound_begun : (clock : ℕ) (m n : SeatMap P) (b b' e : Queue) (kept : P) → clock < MAX_STAMP → len m < MAX_UNFINISHED
      → n ≡ insert m (clock + 1) (record { state = Active; kept = kept }) → KeepsForm b b' → b'.marks.items ≡ b.marks.items ++ record { stamp = clock + 1; id = clock + 1 } ∷ []
      → AreSeatsSound clock m b e → AreSeatsSound (clock + 1) n b' e
  sound_begun clock m n b b' e kept lt few is same items s =
      let seat : TableSeat P = record { state = Active; kept = kept } in
      let new = fresh m clock b s.begins_are in
      subst (λ n. AreSeatsSound (clock + 1) n b' e) (sym is) (record {
        stamped = omega arith;
        few = let grown = len_grown m (clock + 1) seat new in omega arith;
        begins_are = queue_pushed Begin clock m (insert m (clock + 1) seat) b b' (clock + 1) same items (ap (option_map (λ _. clock + 1)) new) (ap (option_map (λ _. clock + 1)) (get_inserted m (clock + 1) seat)) (get_beside m (clock + 1) seat) s.begins_are;
        open_ends_are = queue_untouched OpenEnd clock (clock + 1) m (insert m (clock + 1) seat) e (omega arith)
            (same_ends m (clock + 1) seat (sym (ap (λ o. open_end (option_map (λ s. s.state) o)) new))) s.open_ends_are;
      })

  pub sound_prepared : (clock : ℕ) (m n : SeatMap P) (b e e' : Queue) (id : ℕ) → clock < MAX_STAMP → state_in m id ≡ Some Active
      → n ≡ with_state m id (Preparing (record { 0 = clock + 1 })) → KeepsForm e e' → e'.marks.items ≡ e.marks.items ++ record { stamp = clock + 1; id = id } ∷ []
      → AreSeatsSound clock m b e → AreSeatsSound (clock + 1) n b e'
  sound_prepared clock m n b e e' id lt active is same items s =
      let old = seat_at (get m id) Active active in
      let seat : TableSeat P = record { state = Preparing (record { 0 = clock + 1 }); kept = old.0.kept } in
      subst (λ n. AreSeatsSound (clock + 1) n b e') (sym (is ∙ ap (λ o. with_state_at o m id (Preparing (record { 0 = clock + 1 }))) old.1.0)) (record {
        stamped = omega arith;
        few = let same_len = len_replaced m id old.0 seat old.1.0 in omega (arith, s.few);
        begins_are = queue_untouched Begin clock (clock + 1) m (insert m id seat) b (omega arith) (same_begins m id old.0 seat old.1.0) s.begins_are;
        open_ends_are = queue_pushed OpenEnd clock m (insert m id seat) e e' id same items (ap open_end active) (ap (λ o. open_end (option_map (λ s. s.state) o)) (get_inserted m id seat)) (get_beside m id seat) s.open_ends_are;
      })

  pub sound_closed : (clock : ℕ) (m n : SeatMap P) (b e e' : Queue) (id : ℕ) (before after : TxState) → state_in m id ≡ Some before → open_end (Some after) ≡ None
      → n ≡ with_state m id after → KeepsForm e e' → Trims e.kind m id e.marks.items e'.marks.items → AreSeatsSound clock m b e → AreSeatsSound clock n b e'
  sound_closed clock m n b e e' id before after was closed is same trims s =
      let old = seat_at (get m id) before was in
      let seat : TableSeat P = record { state = after; kept = old.0.kept } in
      subst (λ n. AreSeatsSound clock n b e') (sym (is ∙ ap (λ o. with_state_at o m id after) old.1.0)) (record {
        stamped = s.stamped;
        few = let same_len = len_replaced m id old.0 seat old.1.0 in omega (arith, s.few);
        begins_are = queue_untouched Begin clock clock m (insert m id seat) b (omega arith) (same_begins m id old.0 seat old.1.0) s.begins_are;
        open_ends_are = queue_trimmed OpenEnd clock m m (insert m id seat) id e e' same trims (λ i stamp e. e)
            (without OpenEnd m (insert m id seat) id (ap (λ o. open_end (option_map (λ s. s.state) o)) (get_inserted m id seat) ∙ closed) (get_beside m id seat)) s.open_ends_are;
      })

  pub sound_kept : (clock : ℕ) (m : SeatMap P) (b e : Queue) (id : ℕ) (kept : P) → AreSeatsSound clock m b e → AreSeatsSound clock (with_kept m id kept) b e
  sound_kept clock m b e id kept s =
      elim (get m id) as (λ o. get m id ≡ o → AreSeatsSound clock (with_kept_at o m id kept) b e) [
        | None ↦ λ _. s
        | Some old ↦ λ there.
            let seat : TableSeat P = record { state = old.state; kept = kept } in
            record {
              stamped = s.stamped;
              few = let same_len = len_replaced m id old seat there in omega (arith, s.few);
              begins_are = queue_untouched Begin clock clock m (insert m id seat) b (omega arith) (same_begins m id old seat there) s.begins_are;
              open_ends_are = queue_untouched OpenEnd clock clock m (insert m id seat) e (omega arith) (same_ends m id seat (sym (ap (λ o. open_end (option_map (λ s. s.state) o)) there))) s.open_ends_are;
            }
      ] refl

  fewer_begins : (m : SeatMap P) (id i stamp : ℕ) → queue_stamp Begin (remove m id) i ≡ Some stamp → queue_stamp Begin m i ≡ Some stamp
  fewer_begins m id i stamp e =
      ⊎_elim
      (λ is. absurd (none-some stamp (sym (ap (λ j. option_map (λ _. i) (get (remove m id) j)) is ∙ ap (option_map (λ _. i)) (get_removed m id)) ∙ e)))
      (λ ne. sym (same_beside Begin m (remove m id) i (get_left m id i ne)) ∙ e)
      (cases_eq i id)

  same_ends_left : (m : SeatMap P) (id : ℕ) → open_end (state_in m id) ≡ None → (i : ℕ) → queue_stamp OpenEnd (remove m id) i ≡ queue_stamp OpenEnd m i
  same_ends_left m id closed i =
      ⊎_elim
      (λ is. ap (queue_stamp OpenEnd (remove m id)) is ∙ ap (λ o. open_end (option_map (λ s. s.state) o)) (get_removed m id) ∙ sym closed ∙ sym (ap (queue_stamp OpenEnd m) is))
      (λ ne. same_beside OpenEnd m (remove m id) i (get_left m id i ne))
      (cases_eq i id)

  pub sound_left : (clock : ℕ) (m n : SeatMap P) (b b' e : Queue) (id : ℕ) → open_end (state_in m id) ≡ None → n ≡ remove m id → KeepsForm b b'
      → Trims b.kind n id b.marks.items b'.marks.items → AreSeatsSound clock m b e → AreSeatsSound clock n b' e
  sound_left clock m n b b' e id closed is same trims s =
      subst (λ n. AreSeatsSound clock n b' e) (sym is) (record {
        stamped = s.stamped;
        few = let less = len_left m id in omega (arith, s.few);
        begins_are = queue_trimmed Begin clock m (remove m id) (remove m id) id b b' same (subst (λ n. Trims b.kind n id b.marks.items b'.marks.items) is trims) (fewer_begins m id)
            (without Begin (remove m id) (remove m id) id (ap (option_map (λ _. id)) (get_removed m id)) (λ i ne. refl)) s.begins_are;
        open_ends_are = queue_untouched OpenEnd clock clock m (remove m id) e (omega arith) (same_ends_left m id closed) s.open_ends_are;
      })

-- ---- how one stands
pub unended_state : (o : Option TxState) → IsUnended o → (state : TxState) × (o ≡ Some state)
unended_state None h = absurd h
unended_state (Some state) h = (state, refl)

pub ended_is_closed : (o : Option TxState) → IsEnded o → open_end o ≡ None
ended_is_closed None h = absurd h
ended_is_closed (Some Active) h = absurd h
ended_is_closed (Some (Preparing end)) h = absurd h
ended_is_closed (Some (Committed end)) h = refl
ended_is_closed (Some Aborted) h = refl

-- where one may begin there is room, and the clock isn't spent
pub may_begin : (count clock : ℕ) → cond (leb MAX_UNFINISHED count) (Some TableFull) (spent_clock clock) ≡ None → (count < MAX_UNFINISHED) × (clock < MAX_STAMP)
may_begin count clock none =
    ⊎_elim (λ t. absurd (none-some _ (sym none ∙ ap (λ b. cond b (Some TableFull) (spent_clock clock)) t.0)))
    (λ t. (t.1, unspent (sym (ap (λ b. cond b (Some TableFull) (spent_clock clock)) t.0) ∙ none)))
    (leb_tells MAX_UNFINISHED count)
  where
    unspent : spent_clock clock ≡ None → clock < MAX_STAMP
    unspent h = ⊎_elim (λ t. absurd (none-some _ (sym h ∙ ap (λ b. cond b (Some ClockSpent) None) t.0))) (λ t. t.1) (leb_tells MAX_STAMP clock)
