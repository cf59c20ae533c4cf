-- The transaction table as contracts see it.
use Rattle.std.specs.Prelude.{ℕ, ◌≡◌, ◌+◌, ◌<◌, ◌≤◌, ◌⊎◌, nat_le, Option, Some, None, IsSome, if◌then◌else◌, refl}
use Rattle.std.specs.Coded.{Coded, code_by, coded×, coded_ℕ}
use Rattle.std.specs.FinMap as map
use Rattle.mvo_types.specs.declared.limits.TheConstants.{MAX_STAMP, MAX_UNFINISHED}
use Rattle.mvo_types.specs.declared.refusal.Refusal.{Refusal}
use Rattle.mvo_types.specs.declared.refusal.Refusal.TheVariants.{TableFull, ClockSpent, OutOfMemory}
use Rattle.mvo_txn.specs.declared.state.TxState.{TxState}
use Rattle.mvo_txn.specs.declared.state.TxState.TheVariants.{Active, Preparing, Committed, Aborted}
use Rattle.mvo_txn.specs.Seats.{SeatMap, coded_seats, state_in, kept_in, with_state, with_kept}
use Rattle.mvo_txn.specs.Queue.{open_end}

-- the clock, and each unfinished transaction by its id
pub record Txns (P : Type 0) : Type 0 where
  pub clock : ℕ
  pub seats : SeatMap P

abbrev pub coded_txns : {P : Type 0} → Coded P → Coded (Txns P)
coded_txns {P} c =
    code_by (ℕ × SeatMap P) (coded× coded_ℕ (coded_seats c))
    (λ t. (t.clock, t.seats)) (λ p. record { clock = p.0; seats = p.1 }) (λ _. refl)

-- nobody has begun
abbrev pub no_txns : {P : Type 0} → ℕ → Txns P
no_txns mark = record { clock = mark; seats = map.empty }

-- how the transaction stands
abbrev pub state_of : {P : Type 0} → Txns P → ℕ → Option TxState
state_of t id = state_in t.seats id

-- what is kept of the transaction
abbrev pub kept_of : {P : Type 0} → Txns P → ℕ → Option P
kept_of t id = kept_in t.seats id

-- ---- how one stands
abbrev pub IsPreparingState : Option TxState → Type 0
IsPreparingState state = IsSome (open_end state)

-- Active or Preparing
abbrev pub IsUnended : Option TxState → Type 0
IsUnended None = ⊥
IsUnended (Some Active) = Unit {0}
IsUnended (Some (Preparing end)) = Unit {0}
IsUnended (Some (Committed end)) = ⊥
IsUnended (Some Aborted) = ⊥

-- Committed or Aborted
abbrev pub IsEnded : Option TxState → Type 0
IsEnded None = ⊥
IsEnded (Some Active) = ⊥
IsEnded (Some (Preparing end)) = ⊥
IsEnded (Some (Committed end)) = Unit {0}
IsEnded (Some Aborted) = Unit {0}

-- ---- what calls leave
-- a transaction begins, and this is kept of it
abbrev pub table_after_begin : {P : Type 0} → Txns P → P → Txns P
table_after_begin t kept = record {
  clock = t.clock + 1;
  seats = map.insert t.seats (t.clock + 1) (record { state = Active; kept = kept });
}

-- it draws its end
abbrev pub table_after_prepare : {P : Type 0} → Txns P → ℕ → Txns P
table_after_prepare t id = record {
  clock = t.clock + 1;
  seats = with_state t.seats id (Preparing (record { 0 = t.clock + 1 }));
}

-- it stands so
abbrev pub table_after_change : {P : Type 0} → Txns P → ℕ → TxState → Txns P
table_after_change t id state = record t { seats = with_state t.seats id state }

-- this is kept of it
abbrev pub table_after_write : {P : Type 0} → Txns P → ℕ → P → Txns P
table_after_write t id kept = record t { seats = with_kept t.seats id kept }

-- it leaves
abbrev pub after_terminate : {P : Type 0} → Txns P → ℕ → Txns P
after_terminate t id = record t { seats = map.remove t.seats id }

-- ---- refusals
abbrev pub spent_clock : ℕ → Option Refusal
spent_clock clock = if nat_le MAX_STAMP clock then Some ClockSpent else None

-- why no transaction begins: the first cause that stands
abbrev pub why_not_begun : {P : Type 0} → Txns P → Option Refusal
why_not_begun t =
    if nat_le MAX_UNFINISHED (map.len t.seats) then Some TableFull else spent_clock t.clock

-- the refusal that has a cause, and out of memory where none has
abbrev pub IsTableRefusal : Option Refusal → Refusal → Type 0
IsTableRefusal (Some why) refusal = refusal ≡ why
IsTableRefusal None refusal = refusal ≡ OutOfMemory

-- ---- oldest begin and low-water
-- the least of the numbers that are so
abbrev pub IsLeastOf : (ℕ → Type 0) → ℕ → Type 0
IsLeastOf Has n = Has n × ((m : ℕ) → Has m → n ≤ m)

abbrev pub HasNone : (ℕ → Type 0) → Type 0
HasNone Has = (m : ℕ) → ¬ (Has m)

-- an unfinished transaction has this begin
abbrev pub HasBegin : {P : Type 0} → Txns P → ℕ → Type 0
HasBegin t begin = IsSome (map.get t.seats begin)

-- a Preparing transaction has this end
abbrev pub HasOpenEnd : {P : Type 0} → Txns P → ℕ → Type 0
HasOpenEnd t end = (id : ℕ) × (open_end (state_of t id) ≡ Some end)

-- the least begin of the unfinished, or the clock if there is none
abbrev pub IsOldestBegin : {P : Type 0} → Txns P → ℕ → Type 0
IsOldestBegin t n = IsLeastOf (HasBegin t) n ⊎ (HasNone (HasBegin t) × (n ≡ t.clock))

-- one below the least end of the Preparing, or the clock if there is none
abbrev pub IsLowWater : {P : Type 0} → Txns P → ℕ → Type 0
IsLowWater t n = IsLeastOf (HasOpenEnd t) (n + 1) ⊎ (HasNone (HasOpenEnd t) × (n ≡ t.clock))

-- ---- what always holds
pub record IsTable {P : Type 0} (t : Txns P) : Type 0 where
  pub stamped : t.clock ≤ MAX_STAMP
  pub few : map.len t.seats ≤ MAX_UNFINISHED
  pub begins : (begin : ℕ) → HasBegin t begin → (0 < begin) × (begin ≤ t.clock)
  pub open_ends : (end : ℕ) → HasOpenEnd t end → (0 < end) × (end ≤ t.clock)
