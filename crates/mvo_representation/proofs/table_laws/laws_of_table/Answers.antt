use Rattle.mvo_representation.proofs.TableCounts.{unfinished_is, why_not_begun_is}
use Rattle.mvo_representation.proofs.TableMarks.{oldest_begin_is, low_water_is}
use Rattle.mvo_representation.proofs.table_laws.laws_of_table.Goals as goal

pub returns-clause-phases : goal.returns-clause-phases
returns-clause-phases g c = λ s table h. λ i t. h.phases t i

pub returns-clause-unfinished : goal.returns-clause-unfinished
returns-clause-unfinished g c = unfinished_is

pub returns-clause-why_not_begun : goal.returns-clause-why_not_begun
returns-clause-why_not_begun g c = why_not_begun_is

pub returns-clause-oldest_begin : goal.returns-clause-oldest_begin
returns-clause-oldest_begin g c = oldest_begin_is

pub returns-clause-low_water : goal.returns-clause-low_water
returns-clause-low_water g c = low_water_is
