-- Collections by their count: each takes a version, of those that were there at the opening and
-- those that were put since.
use Rattle.std.specs.Prelude.{ℕ, ◌+◌, ◌<◌, List, [], ◌∷◌, ⊤}
use Rattle.std.specs.FinMap as fin
use Rattle.mvo_types.specs.Keys.{Map}
use Rattle.mvo_model.specs.Trace.{Step, rows_up_to}
use Rattle.mvo_model.specs.Trace.Step.{Answers}
use Rattle.mvo_core.specs.Collection.{Collection}
use Rattle.mvo_core.specs.Collection.TheVariants.{Collected, Nothing}
use Rattle.mvo_core.specs.Counting.{versions_put}
use Rattle.mvo_world.specs.Past.{Past}
use Rattle.mvo_world.specs.Forgetting.{tale_start}

-- how many versions were put: one for each Inserted or Updated that was answered
abbrev pub put_in : List Step → ℕ
put_in [] = 0
put_in (Answers t op a ∷ xs) = versions_put a + put_in xs
put_in (x ∷ xs) = put_in xs

-- how many there ever were: one for each row at the opening, and those that were put since
abbrev pub versions_ever : Past → ℕ
versions_ever p = fin.len p.rows + put_in p.steps

-- the rows where the tale starts, each of which has a version that stays
abbrev pub rows_at_start : Past → Map
rows_at_start p = rows_up_to (tale_start p) p.rows p.steps

-- a version is collected only where there was another one: of those that there ever were, beside
-- those of the rows where the tale starts and those that were collected before
abbrev pub IsJustCollection : Past → Collection → Type 0
IsJustCollection p Collected = p.collected + fin.len (rows_at_start p) < versions_ever p
IsJustCollection p Nothing = ⊤
