use Rattle.std.proofs.Common.{ℕ}
use Rattle.mvo_store.specs.Wholes.{AreMore}
use Rattle.mvo_store.proofs.jobs.whole.write_deltas.Given as goal

abbrev pub invariant-loop : goal.invariant-loop
invariant-loop g l = (n : ℕ) × AreMore g.C.StoreCaller.comes_to n l.initial.caller l.caller
