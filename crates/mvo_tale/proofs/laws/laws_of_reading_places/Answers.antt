use Rattle.mvo_tale.proofs.WholePlaces.{whole_begun, whole_staged, whole_settled, whole_left, whole_finished, whole_trimmed, whole_closed, whole_forgotten}
use Rattle.mvo_tale.proofs.laws.laws_of_reading_places.Goals as goal

pub returns-clause-begins : goal.returns-clause-begins
returns-clause-begins c = whole_begun

pub returns-clause-goes_on : goal.returns-clause-goes_on
returns-clause-goes_on c = whole_staged

pub returns-clause-commits : goal.returns-clause-commits
returns-clause-commits c = whole_settled

pub returns-clause-aborted : goal.returns-clause-aborted
returns-clause-aborted c = whole_left

pub returns-clause-finished : goal.returns-clause-finished
returns-clause-finished c = whole_finished

pub returns-clause-trim : goal.returns-clause-trim
returns-clause-trim c = whole_trimmed

pub returns-clause-close : goal.returns-clause-close
returns-clause-close c = whole_closed

pub returns-clause-forget : goal.returns-clause-forget
returns-clause-forget c = whole_forgotten
