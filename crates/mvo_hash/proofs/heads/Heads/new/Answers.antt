use Rattle.std.proofs.Common.{sym, subst}
use Rattle.mvo_hash.specs.Shards.{IsSharded}
use Rattle.mvo_hash.proofs.Shared.{shared_none}
use Rattle.mvo_hash.proofs.heads.Heads.new.Goals as goal

pub invariant_of-result : goal.invariant_of-result
invariant_of-result c = subst (IsSharded c.new.result) (sym c.new-2.ensures.items) (shared_none c.new.result)
