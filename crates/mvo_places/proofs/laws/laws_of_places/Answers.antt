use Rattle.mvo_places.proofs.Rising.{live_numbers_rise}
use Rattle.mvo_places.proofs.Growing.{no_places, places_grow}
use Rattle.mvo_places.proofs.laws.laws_of_places.Goals as goal

pub returns-clause-live : goal.returns-clause-live
returns-clause-live c = live_numbers_rise

pub returns-clause-none : goal.returns-clause-none
returns-clause-none c = no_places

pub returns-clause-grow : goal.returns-clause-grow
returns-clause-grow c = places_grow
