-- What the past says of a trim: where the tale starts, and who would still need what it lets go of.
use Rattle.std.specs.Prelude.{ℕ, ◌+◌, length}
use Rattle.mvo_types.specs.declared.refusal.Refusal.TheVariants.{NothingToDo}
use Rattle.mvo_theory.specs.Counts.{draws}
use Rattle.mvo_theory.specs.rests.Course.{start_behind}
use Rattle.mvo_world.specs.Past.{Past, course_of}
use Rattle.mvo_world.specs.WholeJustified.{MayTrim}
use Rattle.mvo_world.specs.declared.reply.Reply.{Reply}
use Rattle.mvo_world.specs.declared.reply.Reply.TheVariants.{Trimmed, Refused}

-- the last timestamp that was drawn
abbrev pub last_drawn : Past → ℕ
last_drawn p = p.mark + draws p.steps

-- where the tale starts: at the opening mark, or where it was trimmed last
abbrev pub tale_start : Past → ℕ
tale_start p = start_behind p.mark p.trims (length p.steps)

-- The tale may be trimmed to the stamp: it starts below, the stamp was drawn, no transaction that
-- began before the stamp is unfinished, nor is a read-only one that began at it.
abbrev pub MayBeTrimmed : Past → ℕ → Type 0
MayBeTrimmed p stamp = MayTrim p.read_only (course_of p) stamp

-- it is trimmed where it may be, and there is nothing to do just where it may not
abbrev pub IsJustTrim : Past → ℕ → Reply → Type 0
IsJustTrim p stamp (Trimmed m) = MayBeTrimmed p stamp
IsJustTrim p stamp (Refused NothingToDo) = MayBeTrimmed p stamp → ⊥
IsJustTrim p stamp r = ⊥
