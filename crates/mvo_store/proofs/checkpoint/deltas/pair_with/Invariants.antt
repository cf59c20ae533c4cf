use Rattle.std.proofs.Common.{◌≡◌, ◌==◌, ◌-◌, true, length, drop}
use Rattle.std.specs.List.{list_any}
use Rattle.mvo_store.proofs.checkpoint.deltas.pair_with.Given as goal

abbrev pub invariant-loop-place : goal.invariant-loop-place
invariant-loop-place l = list_any (λ p. p.data_file == l.data_file) (drop l.place l.pairs) ≡ true

abbrev pub decreases-loop-place : goal.decreases-loop-place
decreases-loop-place l = length l.pairs - l.place
