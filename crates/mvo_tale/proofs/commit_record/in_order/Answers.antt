use Rattle.std.proofs.Common.{subst, List}
use Rattle.std.specs.List.Sorted.{IsPermutation}
use Rattle.mvo_types.specs.declared.row.RowKey.{RowKey}
use Rattle.mvo_tale.proofs.NetWrites.{rise_strictly, sorted_apart}
use Rattle.mvo_tale.proofs.commit_record.in_order.Goals as goal

pub returns-clause-rise : goal.returns-clause-rise
returns-clause-rise c =
    let moved : IsPermutation c.args.keys.now.items c.sort_unstable.new.self.items = subst (λ (ks : List RowKey). IsPermutation ks c.sort_unstable.new.self.items) c.in_ok-sorted.ensures c.sort_unstable.ensures.permutation in
    rise_strictly c.sort_unstable.new.self.items c.sort_unstable.ensures.sorted (sorted_apart c.args.keys.now.items c.sort_unstable.new.self.items moved c.requires)
