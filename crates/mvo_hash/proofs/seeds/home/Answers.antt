use Rattle.std.proofs.Common.{refl}
use Rattle.mvo_hash.specs.Home.{home_in}
use Rattle.mvo_hash.proofs.seeds.home.Goals as goal

pub returns-clause-at : goal.returns-clause-at
unfolding home_in
returns-clause-at c = refl
