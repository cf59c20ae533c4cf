use Rattle.std.proofs.Common.{List, ℕ, ap, subst, arith}
use Rattle.std.specs.List.Sorted.{IsPermutation}
use Rattle.std.proofs.lemmas.List.Sorted.{IsNonDecreasingBy-from_sort}
use Rattle.mvo_ckpt.specs.Walk.{Walk}
use Rattle.mvo_ckpt.proofs.gaining.no_gains.Goals as goal

pub returns-clause-gains : goal.returns-clause-gains
returns-clause-gains c at ps gs all small = record {
  records = ap (λ (s : Walk). s.records) all;
  gone = ap (λ (s : Walk). s.gone) all;
  moved = subst (λ (l : List ℕ). IsPermutation l c.sort_unstable.new.self.items) (ap (λ (s : Walk). s.places) all) c.sort_unstable.ensures.permutation;
  sorted = IsNonDecreasingBy-from_sort (λ n. n) c.sort_unstable.new.self.items c.sort_unstable.ensures.sorted;
  few = omega arith;
  deltas = c.new.ensures.items;
  small = small;
}
