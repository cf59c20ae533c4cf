use Rattle.std.proofs.Common.{rules, ltb, ltb-true, ltb-false, arith}
use Rattle.std.proofs.lemmas.List.Sorted.{IsPartitionPoint-from_clause, IsPartitionedBy-ltb}
use Rattle.mvo_txn.proofs.NextStamps.{rising_along}
use Rattle.mvo_txn.proofs.queue.Queue.place_of.Goals as goal

pub returns-clause-place : goal.returns-clause-place
returns-clause-place c = λ high r.
    let parted = IsPartitionedBy-ltb (λ m. m.stamp) _ c.args.from (rising_along 1 high c.args.self.now.marks.items r) in
    let point = IsPartitionPoint-from_clause (λ m. ltb m.stamp c.args.from) _ _ c.partition_point.ensures.partitioned parted (λ a r q k. search rules) in
    (λ k d le lt. ltb-true _ _ (point.0 k d le lt), λ k d le lt. ltb-false _ _ (point.1 k d le lt))
