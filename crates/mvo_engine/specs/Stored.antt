-- What is stored of the commits in the core.
use Rattle.mvo_txn.specs.Txns.{state_of}
use Rattle.mvo_core.specs.Data.{CoreData}
use Rattle.mvo_core.specs.WholeAnswers.{InEachWhole}
use Rattle.mvo_core.specs.WholeTales.{IsWholeTaleOf}

-- The tale has just the commits above its start, a read-only one at its begin. They are legal from
-- the rows there, which a transaction is shown that begins just above it.
abbrev pub HasStored : CoreData → Type 0
HasStored c = InEachWhole c (λ w. IsWholeTaleOf w (state_of c.table) c.versions.slots c.tale)
