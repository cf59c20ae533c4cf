use Rattle.std.proofs.Common.{◌≡◌, take}
use Rattle.mvo_model.specs.History.{after_history}
use Rattle.mvo_theory.specs.Told.{history_told}
use Rattle.mvo_content.proofs.own_rows.write_all.Given as goal

abbrev pub invariant-loop-op : goal.invariant-loop-op
invariant-loop-op l = l.map ≡ after_history (history_told (take l.op-index l.told)) l.fn.map
