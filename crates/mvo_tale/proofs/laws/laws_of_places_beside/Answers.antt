use Rattle.mvo_tale.proofs.ReadingMoves.{readers_prepared, readers_committed, readers_aborted}
use Rattle.mvo_tale.proofs.laws.laws_of_places_beside.Goals as goal

pub returns-clause-prepares : goal.returns-clause-prepares
returns-clause-prepares c = readers_prepared

pub returns-clause-commits : goal.returns-clause-commits
returns-clause-commits c = readers_committed

pub returns-clause-aborted : goal.returns-clause-aborted
returns-clause-aborted c = readers_aborted
