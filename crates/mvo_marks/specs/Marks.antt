-- The closed and the durable mark, and what seats know of them.
use Rattle.std.specs.Prelude.{◌≡◌, ℕ, ◌≤◌, List, [], ◌∷◌, Bool, true, false, max}
use mathlib.Core.Option.{some}
use lib.ListN.{get_elem?}
use Rattle.atomic_table.specs.Table.{State}
use Rattle.atomic_table.specs.Seated.{TableId}
use Rattle.mvo_marks.specs.declared.rule.Known.{Known}

-- what contracts see of a seat: of which marks, and what it knows of them
pub record SeatData : Type 0 where
  pub marks : TableId
  pub known : Known

abbrev pub seat_data : TableId → Known → SeatData
seat_data t k = record { marks = t; known = k }

-- it has seen both marks so far
pub record HasSeen (closed durable : ℕ) (s : SeatData) : Type 0 where
  pub closed_is : s.known.closed ≡ closed
  pub durable_is : s.known.durable ≡ durable

-- it has seen the closed mark at least as far as before, and the durable one as far
pub record HasMoreClosed (old new : SeatData) : Type 0 where
  pub marks : new.marks ≡ old.marks
  pub more : old.known.closed ≤ new.known.closed
  pub durable : new.known.durable ≡ old.known.durable

-- the publishing seat at the start
abbrev pub first : ℕ → Known
first start = record {
  closed = start;
  durable = start;
  publishes = true;
  published = start;
  raised = start;
}

-- a seat that knows nothing
abbrev pub nobody : Known
nobody = record { closed = 0; durable = 0; publishes = false; published = 0; raised = 0 }

-- a seat that has seen as much, and has published and raised nothing
abbrev pub onlooker : Known → Known
onlooker v = record nobody { closed = v.closed; durable = v.durable }

abbrev pub with_closed : Known → ℕ → Known
with_closed v n = record v { closed = n }

abbrev pub with_raised : Known → ℕ → ℕ → Known
with_raised v n stamp = record v { closed = n; raised = max v.raised stamp }

abbrev pub with_durable : Known → ℕ → Known
with_durable v n = record v { durable = n }

abbrev pub with_published : Known → ℕ → Known
with_published v n = record v { durable = n; published = n }

-- what a seat has seen is at most the words, and the one publishing seat published the durable word
pub record Fits (closed durable seat by : ℕ) (v : Known) : Type 0 where
  pub closed_seen : v.closed ≤ closed
  pub durable_seen : v.durable ≤ durable
  pub one : v.publishes ≡ true → by ≡ seat
  pub published : v.publishes ≡ true → v.published ≡ durable

pub record Standing (closed durable seat : ℕ) (words : List ℕ) (views : List Known) : Type 0 where
  pub words_are : words ≡ closed ∷ durable ∷ []
  pub ordered : durable ≤ closed
  pub publisher : Known
  pub there : get_elem? views seat ≡ some publisher
  pub in_office : publisher.publishes ≡ true
  pub each : (by : ℕ) (v : Known) → get_elem? views by ≡ some v → Fits closed durable seat by v

-- the rule
abbrev pub IsRuleKept : State ℕ Known → Type 0
IsRuleKept s =
    (closed : ℕ) × (durable : ℕ) × (seat : ℕ) × Standing closed durable seat s.words s.views

-- a seat that has seen what the other has seen
abbrev pub seat_noted : Known → Known → Known
seat_noted v w = with_durable v (max v.durable w.durable)
