use Rattle.mvo_shadow.proofs.Runs.{causes_go, call_goes, runs_go}
use Rattle.mvo_shadow.proofs.Back.{call_is_one, runs_are_ones}
use Rattle.mvo_shadow.proofs.laws.laws_of_shadows.Goals as goal

pub returns-clause-causes : goal.returns-clause-causes
returns-clause-causes c = causes_go

pub returns-clause-calls : goal.returns-clause-calls
returns-clause-calls c = call_goes

pub returns-clause-runs : goal.returns-clause-runs
returns-clause-runs c = runs_go

pub returns-clause-back : goal.returns-clause-back
returns-clause-back c = call_is_one

pub returns-clause-ones : goal.returns-clause-ones
returns-clause-ones c = runs_are_ones
