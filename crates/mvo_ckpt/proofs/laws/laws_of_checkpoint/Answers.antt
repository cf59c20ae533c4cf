use Rattle.mvo_ckpt.proofs.Rows.{keeps_rows}
use Rattle.mvo_ckpt.proofs.Staying.{stays_apart}
use Rattle.mvo_ckpt.proofs.Naming.{names_others, leaves_others}
use Rattle.mvo_ckpt.proofs.InOrder.{gives_entries}
use Rattle.mvo_ckpt.proofs.Few.{few_enough}
use Rattle.mvo_ckpt.proofs.LastPuts.{last_puts}
use Rattle.mvo_ckpt.proofs.Taking.{places_taken_over}
use Rattle.mvo_ckpt.proofs.laws.laws_of_checkpoint.Goals as goal

pub returns-clause-rows : goal.returns-clause-rows
returns-clause-rows c = keeps_rows

pub returns-clause-apart : goal.returns-clause-apart
returns-clause-apart c = stays_apart

pub returns-clause-numbers : goal.returns-clause-numbers
returns-clause-numbers c = names_others

pub returns-clause-left : goal.returns-clause-left
returns-clause-left c = leaves_others

pub returns-clause-entries : goal.returns-clause-entries
returns-clause-entries c = gives_entries

pub returns-clause-few : goal.returns-clause-few
returns-clause-few c = few_enough

pub returns-clause-set : goal.returns-clause-set
returns-clause-set c = last_puts

pub returns-clause-taken : goal.returns-clause-taken
returns-clause-taken c = places_taken_over
