use Rattle.mvo_versions.proofs.Older.{Reaches}
use Rattle.mvo_versions.proofs.leading.skip_from.Given as goal

-- all from the number on up to this one have ended
abbrev pub invariant-loop : goal.invariant-loop
invariant-loop l = Reaches l.chains l.index.versions l.fn.number.0 l.to.0 l.least.0
