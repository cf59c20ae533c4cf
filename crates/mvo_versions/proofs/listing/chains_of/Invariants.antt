use Rattle.mvo_word.specs.declared.held.Held.TheVariants.{At}
use Rattle.mvo_versions.specs.Loading.{AreListed}
use Rattle.mvo_versions.proofs.listing.chains_of.Given as goal

abbrev pub invariant-loop-row : goal.invariant-loop-row
invariant-loop-row l = AreListed (At l.mark) l.yielded l.chains l.places.items
