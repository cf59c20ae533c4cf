use Rattle.mvo_representation.proofs.OrderAborts.{absent_is_unnamed}
use Rattle.mvo_representation.proofs.OrderWritten.{nothing_is_written, insert_is_written, delete_is_written, update_is_written, others_keep_written}
use Rattle.mvo_representation.proofs.laws.laws_of_written_versions.Goals as goal

pub returns-clause-nothing : goal.returns-clause-nothing
returns-clause-nothing c = nothing_is_written

pub returns-clause-insert : goal.returns-clause-insert
returns-clause-insert c = insert_is_written

pub returns-clause-delete : goal.returns-clause-delete
returns-clause-delete c = delete_is_written

pub returns-clause-update : goal.returns-clause-update
returns-clause-update c = update_is_written

pub returns-clause-others : goal.returns-clause-others
returns-clause-others c = others_keep_written

pub returns-clause-absent : goal.returns-clause-absent
returns-clause-absent c = absent_is_unnamed
