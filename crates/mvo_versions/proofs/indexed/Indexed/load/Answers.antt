use Rattle.mvo_word.specs.declared.held.Held.TheVariants.{At}
use Rattle.mvo_versions.proofs.Loading.{all_loaded, loaded_counted}
use Rattle.mvo_versions.proofs.Counted.{indexed}
use Rattle.mvo_versions.proofs.indexed.Indexed.load.Goals as goal

pub invariant_of-result : goal.invariant_of-result
invariant_of-result g c = loaded_counted (At c.args.mark) c.args.rows _ _ _ _ c.in_ok-chains.ensures c.in_ok-index.ensures.numbers c.in_ok-index.ensures.places

pub returns-clause-indexed : goal.returns-clause-indexed
returns-clause-indexed g c = indexed _ (invariant_of-result g c)

pub returns-clause-loaded : goal.returns-clause-loaded
returns-clause-loaded g c = all_loaded c.args.mark.0 c.args.rows _ c.in_ok-chains.ensures.slots_are
