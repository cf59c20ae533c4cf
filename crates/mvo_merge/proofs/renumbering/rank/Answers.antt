use Rattle.std.proofs.Common.{ℕ, ltb, sym, rules}
use Rattle.std.proofs.lemmas.List.Sorted.{IsPartitionPoint-from_clause, IsPartitionedBy-ltb}
use Rattle.mvo_merge.proofs.Ranks.{count_upto, falls_nowhere}
use Rattle.mvo_merge.proofs.renumbering.rank.Goals as goal

pub returns-clause-rank : goal.returns-clause-rank
returns-clause-rank c =
    let parted = IsPartitionedBy-ltb (λ (n : ℕ). n) c.args.numbers.now c.args.number (falls_nowhere c.args.numbers.now c.requires.rise) in
    let point = IsPartitionPoint-from_clause (λ (n : ℕ). ltb n c.args.number) _ _ c.partition_point.ensures.partitioned parted (λ a r q k. search rules) in
    sym (count_upto (λ (n : ℕ). ltb n c.args.number) c.args.numbers.now c.partition_point.result c.partition_point.ensures.bound point.0 point.1)
