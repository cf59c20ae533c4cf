-- What the core keeps of what a transaction wrote.
use Rattle.std.specs.Prelude.{ℕ, List}
use Rattle.mvo_work.specs.declared.word_place.WordPlace.{WordPlace}

-- the words that are still to be replaced, in order of writing, and for how many more there is room
pub record WritesData : Type 0 where
  pub words : List WordPlace
  pub room : ℕ
