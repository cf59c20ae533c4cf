-- What the past says of the closing of a group: up to where all are settled, and what was closed.
use Rattle.std.specs.Prelude.{◌≡◌, false, ◌⊎◌, ◌+◌, ◌-◌, ◌<◌, ◌≤◌, ℕ, List, [], ◌∷◌, length}
use Rattle.mvo_types.specs.declared.limits.TheConstants.{RING_GROUPS}
use Rattle.mvo_types.specs.declared.refusal.Refusal.TheVariants.{NothingToDo, RingFull, OutOfMemory}
use Rattle.mvo_model.specs.Trace.{phase_of}
use Rattle.mvo_model.specs.Trace.Phase.{Preparing}
use Rattle.mvo_world.specs.Past.{Past}
use Rattle.mvo_world.specs.Forgetting.{last_drawn}
use Rattle.mvo_world.specs.WholeJustified.{is_among}
use Rattle.mvo_world.specs.declared.reply.Reply.{Reply}
use Rattle.mvo_world.specs.declared.reply.Reply.TheVariants.{Closed, Refused}

-- The transaction is Preparing with the end e, and may have written. A read-only one writes
-- nothing, so no group waits for it.
pub record IsPreparingWriter (p : Past) (t e : ℕ) : Type 0 where
  pub preparing : phase_of t p.steps ≡ Preparing e
  pub writes : is_among t p.read_only ≡ false

-- no such transaction is Preparing
abbrev pub NoneIsPreparing : Past → Type 0
NoneIsPreparing p = (t e : ℕ) → IsPreparingWriter p t e → ⊥

-- it is the least end of those that are Preparing
pub record IsLeastEnd (p : Past) (e : ℕ) : Type 0 where
  pub tx : ℕ
  pub preparing : IsPreparingWriter p tx e
  pub least : (t f : ℕ) → IsPreparingWriter p t f → e ≤ f

-- the low-water: the last draw, or just below the least end of those that are Preparing
abbrev pub IsLowWaterOf : Past → ℕ → Type 0
IsLowWaterOf p n = (NoneIsPreparing p × (n ≡ last_drawn p)) ⊎ IsLeastEnd p (n + 1)

abbrev pub last_of_marks : ℕ → List ℕ → ℕ
last_of_marks m [] = m
last_of_marks m (n ∷ ns) = last_of_marks n ns

-- the mark of the group that was closed last, or the opening one
abbrev pub last_closed : Past → ℕ
last_closed p = last_of_marks p.mark p.closed

-- nothing was drawn or settled that a group could close: the low-water is the last group's mark
abbrev pub IsAllClosed : Past → Type 0
IsAllClosed p = IsLowWaterOf p (last_closed p)

-- how many closed groups the store hasn't taken
abbrev pub untaken : Past → ℕ
untaken p = length p.closed - p.taken

-- There is nothing to do just where the low-water is the last group's mark; else the ring is full
-- just where it has no room; else a group is closed, or is refused memory.
abbrev pub IsJustClosing : Past → Reply → Type 0
IsJustClosing p (Closed c) = (IsAllClosed p → ⊥) × (untaken p < RING_GROUPS)
IsJustClosing p (Refused NothingToDo) = IsAllClosed p
IsJustClosing p (Refused RingFull) = (IsAllClosed p → ⊥) × (untaken p ≡ RING_GROUPS)
IsJustClosing p (Refused OutOfMemory) = (IsAllClosed p → ⊥) × (untaken p < RING_GROUPS)
IsJustClosing p r = ⊥
