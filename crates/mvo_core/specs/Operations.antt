-- Which operations have a row.
use Rattle.std.specs.Prelude.{⊤}
use Rattle.mvo_types.specs.declared.op.Op.{Op}
use Rattle.mvo_types.specs.declared.op.Op.TheVariants.{Insert, Update}

-- it puts a row
abbrev pub PutsRow : Op → Type 0
PutsRow (Insert row) = ⊤
PutsRow (Update row) = ⊤
PutsRow op = ⊥
