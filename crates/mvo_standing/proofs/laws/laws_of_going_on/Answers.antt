use Rattle.mvo_standing.proofs.Together.{opens_together, call_goes_on}
use Rattle.mvo_standing.proofs.Fits.{fits_alike}
use Rattle.mvo_standing.proofs.laws.laws_of_going_on.Goals as goal

pub returns-clause-opens : goal.returns-clause-opens
returns-clause-opens c = opens_together

pub returns-clause-calls : goal.returns-clause-calls
returns-clause-calls c = call_goes_on

pub returns-clause-fits : goal.returns-clause-fits
returns-clause-fits c = fits_alike
