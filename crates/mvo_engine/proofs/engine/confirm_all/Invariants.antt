use Rattle.std.proofs.Common.{◌≡◌, length}
use Rattle.mvo_store.specs.Seen.{mark_of}
use Rattle.mvo_engine.specs.Ending.{AreSeenUpTo}
use Rattle.mvo_engine.proofs.engine.confirm_all.Given as goal

abbrev pub invariant-loop-one : goal.invariant-loop-one
invariant-loop-one g l = record {
  covers : AreSeenUpTo (mark_of l.initial.store.store) l.left.items → AreSeenUpTo (mark_of l.initial.store.store) l.initial.left.items;
  store : l.store ≡ l.initial.store;
}

abbrev pub decreases-loop-one : goal.decreases-loop-one
decreases-loop-one g l = length l.left.items
