-- The abstract state of a core, and what its transactions see.
use Rattle.std.specs.Prelude.{ℕ, ◌==◌, nat_lt, Bool, not, ◌&&◌, cond, if◌then◌else◌, List, [], ◌∷◌, ◌++◌, Option, None, Some}
use Rattle.std.specs.List.{find}
use Rattle.mvo_types.specs.declared.row.RowKey.{RowKey}
use Rattle.mvo_types.specs.Keys.{Map}
use Rattle.mvo_model.specs.History.{History, after_history}
use Rattle.mvo_theory.specs.Ranges.{Row}

-- a claim: the transaction was the first to end the version of the key with this origin
pub record Claim : Type 0 where
  pub key : RowKey
  pub origin : ℕ

-- a transaction that is Active. Its id is its begin timestamp
pub record ActiveTx : Type 0 where
  pub id : ℕ
  pub history : History  -- its operations with their answers
  pub footprint : List Row  -- the rows that it put and ended, as they were then
  pub claims : List Claim
  pub depends_on : List ℕ  -- the end timestamps of those that it depends on
  pub aborted_dependency : Option ℕ  -- the first of these that was aborted, by its id

-- a transaction with an end timestamp: Preparing, or Committed and then settled
pub record StampedTx : Type 0 where
  pub id : ℕ
  pub end : ℕ
  pub history : History
  pub footprint : List Row
  pub claims : List Claim
  pub settled : Bool
  pub checked : ℕ  -- how many of its entries were checked
  pub valid : Bool  -- whether Valid was answered
  pub depends_on : List ℕ
  pub aborted_dependency : Option ℕ

-- how a transaction ended
pub data Outcome : Type 0 where
  Committed : (end' : ℕ) → Outcome
  Aborted : Outcome

-- a word of a version that names the transaction: of a version that it put itself,
-- or the End of another's version, on which it has this claim
pub data Word : Type 0 where
  Own : Word
  Ended : Claim → Word

-- a transaction that is Committed or Aborted, and unfinished
pub record EndedTx : Type 0 where
  pub id : ℕ
  pub outcome : Outcome
  pub words : List Word  -- those that still name it, in the order of writing

-- the mark of the rows that the core was opened over, and that of the group that was closed last:
-- the opening mark before any
pub record Marks : Type 0 where
  pub opening : ℕ
  pub closed : ℕ

pub record State : Type 0 where
  pub start : ℕ  -- where the tale starts: the opening mark, or where it was trimmed last
  pub base : Map  -- the rows at the start
  pub past : List StampedTx  -- the settled ones that end at most at the start, in the base
  pub marks : Marks
  pub clock : ℕ
  pub active : List ActiveTx
  pub stamped : List StampedTx  -- those that end above the start, by end timestamp
  pub ended : List EndedTx

-- the state of a core that was just opened
abbrev pub opened : Map → ℕ → State
opened rows mark = record {
  start = mark;
  base = rows;
  past = [];
  marks = record { opening = mark; closed = mark };
  clock = mark;
  active = [];
  stamped = [];
  ended = [];
}

-- ---- who is where
-- whether this one is the transaction t: Active, Preparing, or Committed or Aborted
abbrev pub is_active_as : ℕ → ActiveTx → Bool
is_active_as t r = r.id == t

abbrev pub is_preparing_as : ℕ → StampedTx → Bool
is_preparing_as t x = (x.id == t) && not x.settled

abbrev pub is_ended_as : ℕ → EndedTx → Bool
is_ended_as t u = u.id == t

-- the Active transaction t
abbrev pub active_of : ℕ → List ActiveTx → Option ActiveTx
active_of t [] = None
active_of t (r ∷ rs) = if r.id == t then Some r else active_of t rs

-- the Preparing transaction t
abbrev pub preparing_of : ℕ → List StampedTx → Option StampedTx
preparing_of t [] = None
preparing_of t (x ∷ xs) = if (x.id == t) && not x.settled then Some x else preparing_of t xs

-- the Committed or Aborted transaction t
abbrev pub ended_of : ℕ → List EndedTx → Option EndedTx
ended_of t us = find (is_ended_as t) us

-- the history of the Active transaction t
abbrev pub history_of_active : ℕ → List ActiveTx → History
history_of_active t [] = []
history_of_active t (r ∷ rs) = if r.id == t then r.history else history_of_active t rs

-- ---- the tale
-- the histories of the settled ones, by end timestamp
abbrev pub tale : List StampedTx → List History
tale [] = []
tale (x ∷ xs) = cond x.settled (x.history ∷ tale xs) (tale xs)

-- the rows after the settled ones, one after another
abbrev pub after_settled : List StampedTx → Map → Map
after_settled [] m = m
after_settled (x ∷ xs) m = after_settled xs (after_history (cond x.settled x.history []) m)

-- all that have an end timestamp, by it
abbrev pub timeline : State → List StampedTx
timeline s = s.past ++ s.stamped

-- ---- snapshots
-- the histories of those with an end below b, one after another
abbrev pub history_below : ℕ → List StampedTx → History
history_below b [] = []
history_below b (x ∷ xs) = (if nat_lt x.end b then x.history else []) ++ history_below b xs

-- the rows that a transaction with the begin b sees, without its own writes
abbrev pub seen_by : Map → List StampedTx → ℕ → Map
seen_by base stamped b = after_history (history_below b stamped) base

-- the snapshot of the Active transaction t: the rows after those with an end below its begin,
-- Preparing or Committed, and then after its own writes
abbrev pub snapshot : State → ℕ → Map
snapshot s t = after_history (history_of_active t s.active) (seen_by s.base s.stamped t)
