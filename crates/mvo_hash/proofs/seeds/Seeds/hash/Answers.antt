use Rattle.mvo_hash.specs.Home.{hash_of}
use Rattle.mvo_hash.proofs.seeds.Seeds.hash.Goals as goal

pub returns : goal.returns
unfolding hash_of
returns c = c.folded_multiply.ensures
