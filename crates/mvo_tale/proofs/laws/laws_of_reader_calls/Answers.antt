use Rattle.mvo_tale.proofs.ReaderPlaces.{begin_opens, reader_calls_keep, reader_calls_grouped}
use Rattle.mvo_tale.proofs.laws.laws_of_reader_calls.Goals as goal

pub returns-clause-begins : goal.returns-clause-begins
returns-clause-begins c = begin_opens

pub returns-clause-calls : goal.returns-clause-calls
returns-clause-calls c = reader_calls_keep

pub returns-clause-grouped : goal.returns-clause-grouped
returns-clause-grouped c = reader_calls_grouped
