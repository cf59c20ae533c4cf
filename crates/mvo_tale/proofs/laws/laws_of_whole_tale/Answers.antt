use Rattle.mvo_tale.proofs.WholePlaces.{group_takes_others}
use Rattle.mvo_tale.proofs.StoredWhole.{stored_is_whole}
use Rattle.mvo_tale.proofs.laws.laws_of_whole_tale.Goals as goal

pub returns-clause-groups : goal.returns-clause-groups
returns-clause-groups c = group_takes_others

pub returns-clause-stored : goal.returns-clause-stored
returns-clause-stored c = stored_is_whole
