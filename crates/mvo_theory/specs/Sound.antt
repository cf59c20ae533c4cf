-- What each core keeps, with several Preparing transactions.
use Rattle.std.specs.Prelude.{ℕ, ◌≡◌, ◌≢◌, ◌+◌, ◌<◌, ◌≤◌, ◌⊎◌, Bool, true, false, is_some, List, [], ◌∷◌, cond, take, None, ⊤}
use Rattle.std.specs.List.{AllByRecursion, list_any}
use Rattle.mvo_types.specs.declared.row.RowKey.{RowKey}
use Rattle.mvo_types.specs.Keys.{Map}
use Rattle.mvo_model.specs.History.{History, AreSerial, net_write, after_history}
use Rattle.mvo_theory.specs.State.{State, StampedTx, ActiveTx, seen_by, is_active_as, is_preparing_as, is_ended_as}
use Rattle.mvo_types.specs.declared.entry.Entry.{Entry}
use Rattle.mvo_theory.specs.Entries.{entry_of, entries}
use Rattle.mvo_theory.specs.Ranges.{Row, shows, footprint_of}
use Rattle.mvo_theory.specs.Dependencies.{is_writer, has_end, counts_for}
use Rattle.mvo_theory.specs.Claims.{has_claim}
use Rattle.mvo_types.specs.declared.entry.Entry.TheVariants.{Key, Range}

-- one of these writes the key below the begin
abbrev pub IsKeyWritten : RowKey → ℕ → List StampedTx → Type 0
IsKeyWritten k b [] = ⊥
IsKeyWritten k b (x ∷ xs) = (is_writer k b x ≡ true) ⊎ IsKeyWritten k b xs

-- the key's last writer below the begin is settled, or is depended on
abbrev pub IsDecided : RowKey → ℕ → List ℕ → List StampedTx → Type 0
IsDecided k b ds [] = ⊤
IsDecided k b ds (x ∷ xs) =
    (x.settled ≡ false → is_writer k b x ≡ true → (has_end ds x.end ≡ true) ⊎ IsKeyWritten k b xs)
    × IsDecided k b ds xs

-- that of each key that counts for the entry
abbrev pub IsDecidedOn : Entry → ℕ → List ℕ → Map → List StampedTx → Type 0
IsDecidedOn e b ds base stamped =
    (q : RowKey) → counts_for e q b base stamped ≡ true → IsDecided q b ds stamped

-- whether the transaction changes the entry: it has a writing answer on the key, or one that put or
-- ended a row in the range
abbrev pub changes : Entry → StampedTx → Bool
changes (Key k) u = is_some (net_write k u.history)
changes (Range table lo hi) u = list_any (shows (Range table lo hi)) u.footprint

-- no other has changed the entry between the begin and the end
abbrev pub IsUnchanged : List StampedTx → ℕ → ℕ → Entry → Type 0
IsUnchanged stamped begin end' e =
    AllByRecursion (λ u. begin < u.end → u.end < end' → changes e u ≡ false) stamped

-- the transaction leaves the entry alone. One that is flagged may have ended a row that was never
-- committed
abbrev pub LeavesAlone : StampedTx → Entry → Type 0
LeavesAlone x (Key k) = net_write k x.history ≡ None
LeavesAlone x (Range table lo hi) =
    x.aborted_dependency ≡ None → changes (Range table lo hi) x ≡ false

-- it leaves alone where these operations look
abbrev pub IsApart : StampedTx → History → Type 0
IsApart x ts = AllByRecursion (λ o. LeavesAlone x (entry_of o.0)) ts

-- no settled one has looked where an earlier one that isn't settled wrote
abbrev pub IsClear : List StampedTx → Type 0
IsClear [] = ⊤
IsClear (x ∷ xs) =
    (x.settled ≡ false → AllByRecursion (λ u. u.settled ≡ true → IsApart x u.history) xs)
    × IsClear xs

abbrev pub IsRising : List StampedTx → Type 0
IsRising [] = ⊤
IsRising (x ∷ xs) = AllByRecursion (λ y. x.end < y.end) xs × IsRising xs

-- the settled ones, one after another from these rows: the answers of each are those of the serial
-- steps, and it put and ended the rows of its footprint
abbrev pub IsLegal : Map → List StampedTx → Type 0
IsLegal m [] = ⊤
IsLegal m (x ∷ xs) =
    (x.settled ≡ true → AreSerial x.history m × (footprint_of x.history m ≡ x.footprint))
    × IsLegal (after_history (cond x.settled x.history []) m) xs

-- an unfinished transaction that isn't flagged: its answers are those on what it sees, and who
-- decides each is settled or depended on
pub record IsConsistent (base : Map) (stamped : List StampedTx) (id : ℕ) (history : History)
    (footprint : List Row) (depends_on : List ℕ) : Type 0 where
  pub serial : AreSerial history (seen_by base stamped id)
  pub decided : AllByRecursion (λ o. IsDecidedOn (entry_of o.0) id depends_on base stamped) history
  pub prints : footprint_of history (seen_by base stamped id) ≡ footprint

pub record IsActive (base : Map) (stamped : List StampedTx) (clock : ℕ)
    (r : ActiveTx) : Type 0 where
  pub consistent : r.aborted_dependency ≡ None
      → IsConsistent base stamped r.id r.history r.footprint r.depends_on
  pub below : AllByRecursion (λ d. d < r.id) r.depends_on
  pub others : AllByRecursion (λ x. x.end ≢ r.id) stamped
  pub drawn : r.id ≤ clock

pub record IsPreparing (base : Map) (stamped : List StampedTx) (x : StampedTx) : Type 0 where
  pub consistent : x.aborted_dependency ≡ None
      → IsConsistent base stamped x.id x.history x.footprint x.depends_on
  pub below : AllByRecursion (λ d. d < x.id) x.depends_on
  pub checked : AllByRecursion (IsUnchanged stamped x.id x.end) (take x.checked (entries x.history))
  pub valid : x.valid ≡ true → AllByRecursion (IsUnchanged stamped x.id x.end) (entries x.history)

pub record IsPlaced (stamped : List StampedTx) (clock : ℕ) (x : StampedTx) : Type 0 where
  pub begun : x.id < x.end
  pub drawn : x.end ≤ clock
  pub others : AllByRecursion (λ y. y.end ≢ x.id) stamped

pub record IsSound (s : State) : Type 0 where
  pub legal : IsLegal s.base s.stamped
  pub rising : IsRising s.stamped
  pub clear : IsClear s.stamped
  pub placed : AllByRecursion (IsPlaced s.stamped s.clock) s.stamped
  pub preparing : AllByRecursion (λ x. x.settled ≡ false → IsPreparing s.base s.stamped x) s.stamped
  pub active : AllByRecursion (IsActive s.base s.stamped s.clock) s.active

abbrev pub AreDistinct : List ActiveTx → Type 0
AreDistinct [] = ⊤
AreDistinct (r ∷ rs) = AllByRecursion (λ q. q.id ≢ r.id) rs × AreDistinct rs

-- no two Active transactions have one id, and none of them has that of one with an end
pub record IsNumbered (s : State) : Type 0 where
  pub distinct : AreDistinct s.active
  pub apart : AllByRecursion (λ r. AllByRecursion (λ x. x.id ≢ r.id) s.stamped) s.active
  pub before : AllByRecursion (λ r. AllByRecursion (λ x. x.id ≢ r.id) s.past) s.active

pub record IsPast (start : ℕ) (x : StampedTx) : Type 0 where
  pub settled : x.settled ≡ true
  pub begun : x.id < x.end
  pub until : x.end ≤ start

-- up to the start all are settled, and those that are stamped end above it
pub record IsStarted (s : State) : Type 0 where
  pub past : AllByRecursion (IsPast s.start) s.past
  pub rising : IsRising s.past
  pub later : AllByRecursion (λ x. s.start < x.end) s.stamped
  pub drawn : s.start ≤ s.clock
  pub opened : s.marks.opening ≤ s.start
  pub after : AllByRecursion (λ x. s.marks.opening < x.end) s.past
  pub begun : AllByRecursion (λ r. s.start ≤ r.id) s.active

-- how many pass the test
abbrev pub how_many : {X : Type 0} → (X → Bool) → List X → ℕ
how_many p [] = 0
how_many p (x ∷ xs) = cond (p x) 1 0 + how_many p xs

-- an unfinished transaction stands at one place
pub record IsSingle (s : State) : Type 0 where
  pub once : (t : ℕ)
      → how_many (is_active_as t) s.active
      + (how_many (is_preparing_as t) s.stamped + how_many (is_ended_as t) s.ended) ≤ 1
  pub drawn : AllByRecursion (λ u. u.id ≤ s.clock) s.ended

-- no two transactions claim one version
abbrev pub AreExclusive : State → Type 0
AreExclusive s = (k : RowKey) (n : ℕ)
    → how_many (λ (r : ActiveTx). has_claim r.claims k n) s.active
    + how_many (λ (x : StampedTx). has_claim x.claims k n) s.stamped ≤ 1
