use Rattle.std.proofs.Common.{◌≡◌, map, take}
use Rattle.mvo_model.specs.History.{net_write}
use Rattle.mvo_theory.specs.Told.{history_told}
use Rattle.mvo_tale.specs.Stored.{effects_data}
use Rattle.mvo_tale.proofs.writes.last_writes.Given as goal

abbrev pub invariant-loop-told : goal.invariant-loop-told
invariant-loop-told l = effects_data l.lasts.items ≡ map (λ k. net_write k (history_told (take l.told-index l.operations))) l.keys
