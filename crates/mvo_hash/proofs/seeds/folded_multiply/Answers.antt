use Rattle.std.proofs.Common.{refl}
use Rattle.mvo_hash.specs.Home.{folded}
use Rattle.mvo_hash.proofs.seeds.folded_multiply.Goals as goal

pub returns : goal.returns
unfolding folded
returns c = refl
