use Rattle.std.specs.Prelude.{[]}
use Rattle.mvo_readonly.specs.Whole.{opened_whole}
use Rattle.mvo_readonly.proofs.WholeRuns.{whole_opened, whole_after_call}
use Rattle.mvo_readonly.proofs.Tales.{phase_is}
use Rattle.mvo_readonly.proofs.CoreRuns.{core_is_run, core_run_is_chained, stays_after_whole_run}
use Rattle.mvo_readonly.proofs.ReaderCauses.{some_result}
use Rattle.mvo_readonly.proofs.laws.laws_of_read_only_calls.Goals as goal

pub returns-clause-opens : goal.returns-clause-opens
returns-clause-opens c = whole_opened

pub returns-clause-keeps : goal.returns-clause-keeps
returns-clause-keeps c = whole_after_call

pub returns-clause-phases : goal.returns-clause-phases
returns-clause-phases c = phase_is

pub returns-clause-core : goal.returns-clause-core
returns-clause-core c = λ rows mark run m. let k = core_is_run rows [] [] (opened_whole rows mark) run m (whole_opened rows mark) in (k.0, k.1, core_run_is_chained rows mark run m)

pub returns-clause-stays : goal.returns-clause-stays
returns-clause-stays c = stays_after_whole_run

pub returns-clause-comes : goal.returns-clause-comes
returns-clause-comes c = some_result
