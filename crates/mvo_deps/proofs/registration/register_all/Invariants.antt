use Rattle.std.proofs.Common.{◌≡◌, length, take}
use Rattle.mvo_deps.specs.Nodes.{data_of, after_register_all, HasNoted}
use Rattle.mvo_deps.proofs.registration.register_all.Given as goal

abbrev pub invariant-loop-id : goal.invariant-loop-id
invariant-loop-id g l = record {
  done : l.table ≡ after_register_all l.initial.table l.tx.id (take l.id-index l.on);
  noted : HasNoted l.initial.table l.table l.tx.id (length (data_of l.initial.table l.tx.id).on);
}
