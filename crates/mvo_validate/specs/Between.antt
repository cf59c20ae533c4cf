-- The greatest stamp of a change between two timestamps.
use Rattle.std.specs.Prelude.{ℕ, nat_lt, nat_le, Bool, false, List, filter, Option, None, Some}
use Rattle.mvo_visible.specs.declared.change.Change.{Change}
use Rattle.mvo_visible.specs.declared.seen.Seen.{Seen}
use Rattle.mvo_visible.specs.declared.seen.Seen.TheVariants.{Nothing, Settled, Speculative}
use Rattle.mvo_visible.specs.Changes.{greatest_below}
use Rattle.mvo_validate.specs.declared.check.Check.{Check}
use Rattle.mvo_validate.specs.declared.check.Check.TheVariants.{Same, Differs}

abbrev pub is_above : ℕ → Change → Bool
is_above begin c = nat_lt begin c.stamp.0

-- the greatest stamp of these above the begin and below the end
abbrev pub stamp_between : ℕ → ℕ → List Change → Option ℕ
stamp_between begin end' cs = greatest_below end' (filter (is_above begin) cs)

-- the entry differs by the greatest
abbrev pub checked_by : Option ℕ → Check
checked_by None = Same
checked_by (Some s) = Differs (record { 0 = s })

-- whether the put is settled with a stamp of at most the begin
abbrev pub is_before : ℕ → Seen → Bool
is_before begin Nothing = false
is_before begin (Settled s) = nat_le s.0 begin
is_before begin (Speculative s t) = false
