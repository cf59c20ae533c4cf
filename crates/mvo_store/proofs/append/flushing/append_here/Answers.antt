use Rattle.std.proofs.Common.{◌≡◌, true, arith}
use Rattle.mvo_store.specs.Flushing.IsAppendHere.{HereAtOpen}
use Rattle.mvo_store.specs.Flushing.{lets_go_on}
use Rattle.mvo_store.proofs.Goes.{goes_of}
use Rattle.mvo_store.proofs.append.flushing.append_here.Goals as goal
use Rattle.mvo_store.proofs.append.flushing.append_here.Goals.{in-Ok-1, in-Err+in-Busy-1}

pub returns-in-Ok : goal.returns-in-Ok
returns-in-Ok g c =
    let goes : lets_go_on c.call.result ≡ true = elim c.in-Ok-1.branch [
      | in-Ok-1 w ↦ goes_of c.call.result (λ e is not. grind (arith, is))
      | in-Err+in-Busy-1 w ↦ goes_of c.call.result (λ e is not. grind (arith, is, not))
    ] in
    HereAtOpen c.call.result c.call.new.self goes c.call.ensures c.call-in-Ok.ensures
