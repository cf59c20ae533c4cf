use Rattle.mvo_standing.proofs.Telling.{holds_history, tells_answer, goes_on_told, shows_others_row, shows_others_range, goes_on_begun, goes_on_without}
use Rattle.mvo_standing.proofs.Absent.{shown_others, none_in_front}
use Rattle.mvo_standing.proofs.laws.laws_of_telling.Goals as goal

pub returns-clause-holds : goal.returns-clause-holds
returns-clause-holds c = λ opening steps s g works t r h found. holds_history opening steps s g works h t r found

pub returns-clause-answer : goal.returns-clause-answer
returns-clause-answer c = λ opening steps s g works t op rows h may with'. tells_answer opening steps s g works h t op rows may with'

pub returns-clause-told : goal.returns-clause-told
returns-clause-told c = λ opening steps s g works t op rows more h may with' told. goes_on_told opening steps s g works h t op rows more may with' told

pub returns-clause-row : goal.returns-clause-row
returns-clause-row c = λ opening steps s g works t r k h found new. shows_others_row opening steps s g works h t r k found new

pub returns-clause-range : goal.returns-clause-range
returns-clause-range c = λ opening steps s g works t r table lo hi h found none. shows_others_range opening steps s g works h t r table lo hi found none

pub returns-clause-begun : goal.returns-clause-begun
returns-clause-begun c = λ opening steps s g works more h may told. goes_on_begun opening steps s g works h more may told

pub returns-clause-without : goal.returns-clause-without
returns-clause-without c = λ opening steps s g works more t w h apart is told. goes_on_without opening steps s g works h more t w apart is told

pub returns-clause-absent : goal.returns-clause-absent
returns-clause-absent c = λ opening s states slots lists places n b k h absent. (shown_others opening s states slots lists places n b k h absent, none_in_front opening s states slots lists places n b k h absent)
