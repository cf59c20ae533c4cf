-- What gathering comes to.
use Rattle.std.specs.Prelude.{◌≡◌, ◌⊎◌, ℕ, ◌<◌, ◌≤◌, List, length, reverse}
use Rattle.std.specs.List.{AllByRecursion, sum_by, flat_map}
use Rattle.mvo_types.specs.declared.refusal.Refusal.{Refusal}
use Rattle.mvo_types.specs.declared.refusal.Refusal.TheVariants.{Busy, OutOfMemory}
use Rattle.mvo_core.specs.Receipts.{Receipt}
use Rattle.mvo_engine.specs.States.{CoreState, SessionState}
use Rattle.mvo_engine.specs.run.Watching.{Watched, count_of}
use Rattle.mvo_engine.specs.Booked.{IsBooked}
use Rattle.mvo_engine.specs.declared.gathering.Gathered.{Gathered}
use Rattle.mvo_engine.specs.declared.gathering.Gathered.TheVariants.{All, Missing}

-- the receipts of these sessions, those of the last one first
abbrev pub gathered_receipts : List SessionState → List Receipt
gathered_receipts sessions = flat_map (λ s. s.receipts) (reverse sessions)

-- how many these are
abbrev pub receipts_in : List SessionState → ℕ
receipts_in sessions = sum_by (λ s. length s.receipts) sessions

-- none of the sessions has let go of receipts above the start of the tale
abbrev pub AreForgottenUpTo : ℕ → List SessionState → Type 0
AreForgottenUpTo start sessions = AllByRecursion (λ s. s.forgotten ≤ start) sessions

-- refused for want of memory; or with Busy, since one has, which no run meets
abbrev pub IsNotGathered : CoreState → List SessionState → Refusal → Type 0
IsNotGathered c sessions e =
    (e ≡ OutOfMemory) ⊎ ((e ≡ Busy) × (AreForgottenUpTo c.core.start sessions → ⊥))

-- All receipts of the sessions, as many as were made. Where the tale starts below the end that is
-- watched, they count what the stored commits do. Where fewer are handed in, these come back.
abbrev pub HasGathered : {A B C : Type 0} → Watched → CoreState → List SessionState
    → Gathered A B C → Type 0
HasGathered watched c sessions (All v) =
    (c.made ≤ length sessions) × (v.items ≡ gathered_receipts sessions)
    × IsBooked watched c.core (count_of watched v.items)
HasGathered watched c sessions (Missing v) = (length sessions < c.made) × (v.items ≡ sessions)
