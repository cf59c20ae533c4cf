-- The work of a transaction, as its owner holds it.
use Rattle.std.specs.Prelude.{ℕ}
use Rattle.mvo_content.specs.Done.{DoneData}

-- the transaction, and what it did
pub record HeldData : Type 0 where
  pub id : ℕ
  pub content : DoneData
