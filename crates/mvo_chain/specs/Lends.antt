-- What becomes of a list in pieces once a borrow of an item ends.
use Rattle.std.specs.Prelude.{ℕ, List, slice_set}
use Rattle.std.specs.Borrow.{Lends, MutBor, Fml, RattleType}
use Rattle.mvo_chain.specs.contracts.pieces.Pieces.{the_row}

-- what was last written stands at the place
abbrev pub LendsItem : (T : RattleType) → MutBor (List T.Denot) → ℕ → MutBor T.Denot → Fml
LendsItem T p at r = Lends (the_row T) T p r (slice_set p.now at)
