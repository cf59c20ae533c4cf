use Rattle.mvo_theory.proofs.Justified.{justified}
use Rattle.mvo_theory.proofs.Counting.{counted_opened, counted_after_call}
use Rattle.mvo_theory.proofs.cause_laws.laws_of_causes.Goals as goal

pub returns-clause-justified : goal.returns-clause-justified
returns-clause-justified c = justified

pub returns-clause-opens : goal.returns-clause-opens
returns-clause-opens c = counted_opened

pub returns-clause-counts : goal.returns-clause-counts
returns-clause-counts c = counted_after_call
