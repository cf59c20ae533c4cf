-- What becomes of a table once a borrow of what it keeps ends.
use Rattle.std.specs.Prelude.{ℕ, Option, Result}
use Rattle.std.specs.Borrow.{Lends, LendsIf, LendsIfOk, MutBor, Fml, RattleType}
use Rattle.mvo_types.specs.declared.ids.Stamp.{Stamp}
use Rattle.mvo_types.specs.declared.refusal.Refusal.{Refusal}
use Rattle.mvo_txn.specs.declared.state.TxState.{TxState}
use Rattle.mvo_txn.specs.declared.state.TxState.TheVariants.{Committed}
use Rattle.mvo_txn.specs.Seats.{SeatMap, with_state, with_kept}
use Rattle.mvo_txn.specs.Txns.{Txns, table_after_prepare, table_after_change, table_after_write}
use Rattle.mvo_txn.specs.contracts.seats.Seats.{the_row as seats_row}
use Rattle.mvo_txn.specs.contracts.table.TxnTable.{the_row as table_row}

-- what was last written is kept of the transaction
abbrev pub LendsKeptOfSeats : (T : RattleType)
    → MutBor (SeatMap T.Denot) → ℕ → Option (MutBor T.Denot) → Fml
LendsKeptOfSeats T m id r = LendsIf (seats_row T) T m r (with_kept m.now id) m.now

abbrev pub LendsKept : (T : RattleType) → MutBor (Txns T.Denot) → ℕ → Option (MutBor T.Denot) → Fml
LendsKept T t id r = LendsIf (table_row T) T t r (table_after_write t.now id) t.now

-- it has this state, and what was last written is kept of it
abbrev pub LendsRestated : (T : RattleType)
    → MutBor (SeatMap T.Denot) → ℕ → TxState → MutBor T.Denot → Fml
LendsRestated T m id state r = Lends (seats_row T) T m r (with_kept (with_state m.now id state) id)

-- the same of one that is Committed with this end
abbrev pub LendsSettled : (T : RattleType)
    → MutBor (SeatMap T.Denot) → ℕ → Stamp × MutBor T.Denot → Fml
LendsSettled T m id r =
    Lends (seats_row T) T m r.1 (with_kept (with_state m.now id (Committed r.0)) id)

-- it has drawn its end, and what was last written is kept of it. A refusal changes nothing
abbrev pub LendsPrepared : (T : RattleType)
    → MutBor (Txns T.Denot) → ℕ → Result (MutBor T.Denot) Refusal → Fml
LendsPrepared T t id r =
    LendsIfOk (table_row T) T t r (table_after_write (table_after_prepare t.now id) id) t.now

-- it is Committed with this end, and what was last written is kept of it
abbrev pub LendsCommitted : (T : RattleType)
    → MutBor (Txns T.Denot) → ℕ → Stamp × MutBor T.Denot → Fml
LendsCommitted T t id r =
    Lends (table_row T) T t r.1 (table_after_write (table_after_change t.now id (Committed r.0)) id)
