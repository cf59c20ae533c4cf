-- What each kind of atomic step makes of what the seat knows that takes it.
use Rattle.std.specs.Prelude.{◌≡◌, ℕ, ◌≤◌, max}
use Rattle.atomic_table.specs.Table.{Me, Step}
use Rattle.mvo_marks.specs.declared.rule.Known.{Known}
use Rattle.mvo_marks.specs.Marks.{with_closed, with_raised, with_durable, with_published}

-- a load, and a raise, of either word
abbrev pub HasSeenDurable : Step ℕ → Me ℕ Known → ℕ → Me ℕ Known → Type 0
HasSeenDurable s v found w = (w ≡ (with_durable v.0 found, v.1)) × (v.0.durable ≤ found)

abbrev pub HasSeenClosed : Step ℕ → Me ℕ Known → ℕ → Me ℕ Known → Type 0
HasSeenClosed s v found w = (w ≡ (with_closed v.0 found, v.1)) × (v.0.closed ≤ found)

abbrev pub HasRaised : Step ℕ → Me ℕ Known → ℕ → Me ℕ Known → Type 0
HasRaised s v found w =
    (w ≡ (with_raised v.0 (max found s.first) s.first, v.1)) × (v.0.closed ≤ found)

abbrev pub HasPublished : Step ℕ → Me ℕ Known → ℕ → Me ℕ Known → Type 0
HasPublished s v found w =
    (w ≡ (with_published v.0 (max found s.first), v.1)) × (found ≡ v.0.published)

-- the publisher looks: what it has seen is at most what it published
abbrev pub HasConfirmed : Step ℕ → Me ℕ Known → ℕ → Me ℕ Known → Type 0
HasConfirmed s v found w =
    (w ≡ (with_durable v.0 found, v.1)) × (v.0.durable ≤ found) × (found ≡ v.0.published)
