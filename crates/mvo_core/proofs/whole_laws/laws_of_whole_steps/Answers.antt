use Rattle.mvo_core.proofs.OthersLead.{others_lead}
use Rattle.mvo_core.proofs.ReaderBegins.{reader_begins}
use Rattle.mvo_core.proofs.ReadersMoved.{readers_moved, reader_goes_on}
use Rattle.mvo_core.proofs.whole_laws.laws_of_whole_steps.Goals as goal

pub returns-clause-others : goal.returns-clause-others
returns-clause-others c = others_lead

pub returns-clause-moves : goal.returns-clause-moves
returns-clause-moves c = readers_moved

pub returns-clause-begins : goal.returns-clause-begins
returns-clause-begins c = reader_begins

pub returns-clause-goes_on : goal.returns-clause-goes_on
returns-clause-goes_on c = reader_goes_on
