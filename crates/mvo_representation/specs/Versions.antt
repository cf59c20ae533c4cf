-- What ties the versions and the transaction table to a state.
use Rattle.std.specs.Prelude.{ℕ, ◌≡◌, ◌≢◌, ◌<◌, ◌≤◌, ◌⊎◌, ◌==◌, suc, Bool, true, false, cond, List, [], ◌∷◌, Some, ⊤}
use Rattle.std.specs.List.{AllByRecursion, list_any}
use Rattle.std.specs.FinMap as fin
use Rattle.std.specs.Option.{option_map}
use Rattle.mvo_types.specs.declared.row.RowKey.{RowKey}
use Rattle.mvo_types.specs.RowData.{row_with}
use Rattle.mvo_types.specs.Keys.{Map}
use Rattle.mvo_chain.specs.Slots.{added}
use Rattle.mvo_model.specs.History.{History, net_write}
use Rattle.mvo_model.specs.Trace.Phase.{Absent, Committed}
use Rattle.mvo_types.specs.Write.Effect.{Put}
use Rattle.mvo_theory.specs.Ranges.{Row, puts}
use Rattle.mvo_theory.specs.State.{State, StampedTx, ActiveTx, Claim}
use Rattle.mvo_theory.specs.Claims.{has_claim, end_or}
use Rattle.mvo_theory.specs.Dependencies.{last_writer}
use Rattle.mvo_theory.specs.Phases.{phase_in}
use Rattle.mvo_word.specs.declared.held.Held.{Held}
use Rattle.mvo_word.specs.declared.held.Held.TheVariants.{At, By, Infinity}
use Rattle.mvo_chain.specs.declared.version.Version.{Version}
use Rattle.mvo_representation.specs.Words.{Phases, Ends, ends_of, stamp_in, is_stamp, has_stamp, Touch, net_effect, is_touched, as_net_effect, change_below, standing, standing_effect}
use Rattle.mvo_visible.specs.Words.{names}
use Rattle.mvo_representation.specs.Words.NetEffect.{Puts}
use Rattle.mvo_representation.specs.Words.Touch.{OnlyPut, PutOrEnded}

-- the history of the one with this end timestamp, and the rows that it put and ended
abbrev pub history_at : ℕ → List StampedTx → History
history_at e [] = []
history_at e (x ∷ xs) = cond (x.end == e) x.history (history_at e xs)

abbrev pub rows_at : ℕ → List StampedTx → List Row
rows_at e [] = []
rows_at e (x ∷ xs) = cond (x.end == e) x.footprint (rows_at e xs)

-- the rows that are put, or ended too
abbrev pub rows_by : Touch → History → List Row → List Row
rows_by OnlyPut ts rows = puts ts
rows_by PutOrEnded ts rows = rows

-- the words that pass say these writes, and mark these rows
pub record Say (n : Held → Bool) (ts : History) (rows : List Row) (vs : List Version) : Type 0 where
  pub writes : (k : RowKey) → net_effect n k vs ≡ as_net_effect (net_write k ts)
  pub touches : (g : Touch) (p : Row → Bool) → is_touched g n p vs ≡ list_any p (rows_by g ts rows)

-- a timestamp that a word may hold: it was drawn, and isn't the begin of an Active one, nor the end
-- of one that isn't settled
pub record IsKnownStamp (s : State) (e : ℕ) : Type 0 where
  pub drawn : e ≤ s.clock
  pub apart : AllByRecursion (λ r. r.id ≢ e) s.active
  pub settled : AllByRecursion (λ x. x.settled ≡ false → x.end ≢ e) s.stamped

-- a word holds such a timestamp, or names one in the table, or is infinity
abbrev pub IsKnown : State → Phases → Held → Type 0
IsKnown s table (At e) = IsKnownStamp s e.0
IsKnown s table (By t) = table t.0 ≢ Absent
IsKnown s table Infinity = ⊤

abbrev pub AreKnown : State → Phases → List Version → Type 0
AreKnown s table vs = AllByRecursion (λ v. IsKnown s table v.begin × IsKnown s table v.end) vs

-- the End is the one's just if the one claimed the version that begins at a
abbrev pub EndIsClaimed : RowKey → ℕ → (Held → Bool) → List Claim → Held → Type 0
EndIsClaimed k a n cs w = n w ≡ has_claim cs k a

-- of a version that has a stamp and isn't removed with it: who claims it, and no other, is in its
-- End
pub record EndHasClaims (s : State) (ends : Ends) (v : Version) (a : ℕ) : Type 0 where
  pub active : AllByRecursion (λ r. EndIsClaimed v.row.key a (names r.id) r.claims v.end) s.active
  pub stamped :
      AllByRecursion
      (λ x. EndIsClaimed v.row.key a (has_stamp ends x.end) x.claims v.end) s.stamped

abbrev pub HasItsClaims : State → Ends → Version → Type 0
HasItsClaims s ends v = (a : ℕ) → stamp_in ends v.begin ≡ Some a
    → is_stamp a (stamp_in ends v.end) ≡ false → EndHasClaims s ends v a

-- a removal isn't before the put
abbrev pub IsForward : Ends → Version → Type 0
IsForward ends v = (a e : ℕ) → stamp_in ends v.begin ≡ Some a → stamp_in ends v.end ≡ Some e
    → a ≤ e

-- a version that an Active one put is ended by nobody else
abbrev pub IsInside : Version → ActiveTx → Type 0
IsInside v r = names r.id v.begin ≡ true → (v.end ≡ Infinity) ⊎ (names r.id v.end ≡ true)

-- the claims are of versions that begin up to the clock
abbrev pub AreDrawn : ℕ → List Claim → Type 0
AreDrawn clock cs = AllByRecursion (λ c. c.origin ≤ clock) cs

-- the stamp with which a row at the start was put
abbrev pub origin_at_start : State → RowKey → ℕ
origin_at_start s k = end_or s.marks.opening (last_writer k (suc s.start) s.past)

-- just these rows stand up to this timestamp
abbrev pub HoldsRows : Ends → ℕ → Map → List Version → Type 0
HoldsRows ends m rows vs = (k : RowKey)
    → standing_effect ends m k vs ≡ as_net_effect (option_map (λ h. Put h) (fin.get rows k))

pub record AreVersionsOf (s : State) (table : Phases) (vs : List Version) : Type 0 where
  pub phases : (t : ℕ) → table t ≡ phase_in s t
  -- a stamp above the start: the words with it say what the one with that end did
  pub stamped : (e : ℕ) → s.start < e
      → Say (has_stamp (ends_of table) e) (history_at e s.stamped) (rows_at e s.stamped) vs
  -- an Active one: the words with its id say what it did
  pub active : AllByRecursion (λ r. Say (names r.id) r.history r.footprint vs) s.active
  -- the last change up to the start leaves the row at the start, with its origin
  pub opened : (k : RowKey)
      → standing (change_below (ends_of table) (suc s.start) k vs)
      ≡ option_map (λ h. (origin_at_start s k, Puts h)) (fin.get s.base k)
  -- just the rows at the start stand at the start
  pub stood : HoldsRows (ends_of table) s.start s.base vs
  pub known : AreKnown s table vs
  pub claims : AllByRecursion (HasItsClaims s (ends_of table)) vs
  pub forward : AllByRecursion (IsForward (ends_of table)) vs
  pub inside : AllByRecursion (λ v. AllByRecursion (IsInside v) s.active) vs
  -- what the state keeps beside
  pub begun : AllByRecursion (λ r. s.start ≤ r.id) s.active
  pub behind : AllByRecursion (λ r. AllByRecursion (λ x. x.end < r.id) s.past) s.active
  pub begun_stamped : AllByRecursion (λ x. x.settled ≡ false → s.start ≤ x.id) s.stamped
  pub committed : (t e : ℕ) → table t ≡ Committed e → IsKnownStamp s e
  pub drawn : AllByRecursion (λ r. AreDrawn s.clock r.claims) s.active
  pub drawn_stamped : AllByRecursion (λ x. AreDrawn s.clock x.claims) s.stamped

-- the versions of a core that was just opened over these rows
abbrev pub loaded_from : ℕ → List Row → List Version
loaded_from mark [] = []
loaded_from mark (e ∷ es) =
    added (row_with e.0 e.1) (At (record { 0 = mark })) ∷ loaded_from mark es

abbrev pub loaded : Map → ℕ → List Version
loaded rows mark = loaded_from mark (fin.entries rows)
