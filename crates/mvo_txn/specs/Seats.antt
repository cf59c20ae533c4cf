-- Seats by id.
use Rattle.std.specs.Prelude.{ℕ, zero, suc, ◌≡◌, Option, Some, None, refl}
use Rattle.std.specs.Option.{option_map}
use Rattle.std.specs.Ordering.{nat_cmp}
use Rattle.std.specs.Coded.{Coded, code_by, coded×, coded_ℕ}
use Rattle.std.specs.FinMap as map
use Rattle.mvo_txn.specs.declared.state.TxState.{TxState}
use Rattle.mvo_txn.specs.declared.state.TxState.TheVariants.{Active, Preparing, Committed, Aborted}
use Rattle.mvo_txn.specs.declared.table_seat.TableSeat.{TableSeat}

-- a finite map from ids to what is held
abbrev pub SeatMap : Type 0 → Type 0
SeatMap P = map.FinMap nat_cmp (TableSeat P)

-- a state as how it stands, and the end timestamp
abbrev pub state_pair : TxState → ℕ × ℕ
state_pair Active = (0, 0)
state_pair (Preparing s) = (1, s.0)
state_pair (Committed s) = (2, s.0)
state_pair Aborted = (3, 0)

abbrev pub state_of_pair : ℕ → ℕ → TxState
state_of_pair zero s = Active
state_of_pair (suc zero) s = Preparing (record { 0 = s })
state_of_pair (suc (suc zero)) s = Committed (record { 0 = s })
state_of_pair (suc (suc (suc n))) s = Aborted

pub state_back : (s : TxState) → state_of_pair (state_pair s).0 (state_pair s).1 ≡ s
state_back Active = refl
state_back (Preparing s) = refl
state_back (Committed s) = refl
state_back Aborted = refl

abbrev pub coded_state : Coded TxState
coded_state =
    code_by (ℕ × ℕ) (coded× coded_ℕ coded_ℕ) state_pair (λ p. state_of_pair p.0 p.1) state_back

abbrev pub coded_seat : {P : Type 0} → Coded P → Coded (TableSeat P)
coded_seat {P} c =
    code_by (TxState × P) (coded× coded_state c)
    (λ s. (s.state, s.kept)) (λ p. record { state = p.0; kept = p.1 }) (λ _. refl)

abbrev pub coded_seats : {P : Type 0} → Coded P → Coded (SeatMap P)
coded_seats c = map.code coded_ℕ (coded_seat c)

-- how a transaction stands, if it has a seat
abbrev pub state_in : {P : Type 0} → SeatMap P → ℕ → Option TxState
state_in m id = option_map (λ seat. seat.state) (map.get m id)

-- what is kept of a transaction, if it has a seat
abbrev pub kept_in : {P : Type 0} → SeatMap P → ℕ → Option P
kept_in m id = option_map (λ seat. seat.kept) (map.get m id)

abbrev pub with_state_at : {P : Type 0} → Option (TableSeat P) → SeatMap P → ℕ → TxState → SeatMap P
with_state_at None m id state = m
with_state_at (Some seat) m id state = map.insert m id (record seat { state = state })

-- the seats where the transaction has this state
abbrev pub with_state : {P : Type 0} → SeatMap P → ℕ → TxState → SeatMap P
with_state m id state = with_state_at (map.get m id) m id state

abbrev pub with_kept_at : {P : Type 0} → Option (TableSeat P) → SeatMap P → ℕ → P → SeatMap P
with_kept_at None m id kept = m
with_kept_at (Some seat) m id kept = map.insert m id (record seat { kept = kept })

-- the seats where this is kept of the transaction
abbrev pub with_kept : {P : Type 0} → SeatMap P → ℕ → P → SeatMap P
with_kept m id kept = with_kept_at (map.get m id) m id kept
