use Rattle.mvo_readonly.proofs.Tales.{tale_is_legal, tale_leaves, group_is}
use Rattle.mvo_readonly.proofs.Weights.{tale_weighs}
use Rattle.mvo_readonly.proofs.Trims.{trim_by_look_up}
use Rattle.mvo_readonly.proofs.laws.laws_of_read_only_tale.Goals as goal

pub returns-clause-legal : goal.returns-clause-legal
returns-clause-legal c = tale_is_legal

pub returns-clause-leaves : goal.returns-clause-leaves
returns-clause-leaves c = tale_leaves

pub returns-clause-groups : goal.returns-clause-groups
returns-clause-groups c = group_is

pub returns-clause-trims : goal.returns-clause-trims
returns-clause-trims c = trim_by_look_up

pub returns-clause-weighs : goal.returns-clause-weighs
returns-clause-weighs c = tale_weighs
