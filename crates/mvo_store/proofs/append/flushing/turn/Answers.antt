use Rattle.std.proofs.Common.{◌≡◌, true, arith, inr, subst}
use Rattle.mvo_store.specs.Flushing.{IsAppend, lets_go_on}
use Rattle.mvo_store.proofs.Goes.{goes_of}
use Rattle.mvo_store.proofs.append.flushing.turn.Goals as goal
use Rattle.mvo_store.proofs.append.flushing.turn.Goals.{in-Ok-1, in-Err+in-Busy-1}

pub returns-in-Ok-append : goal.returns-in-Ok-append
returns-in-Ok-append g c =
    let goes : lets_go_on c.take_next.result ≡ true = elim c.match-take_next.branch [
      | in-Ok-1 w ↦ goes_of c.take_next.result (λ e is not. grind (arith, is))
      | in-Err+in-Busy-1 w ↦ goes_of c.take_next.result (λ e is not. grind (arith, is, not))
    ] in
    (c.in-Ok-append.field-0, (c.take_next.result, c.take_next.new.self, c.take_next.ensures, goes, subst (λ r. IsAppend g.L.StoreCaller.comes_to c.take_next.new.self r c.append.new.log) c.in-Ok-append.is c.append.ensures))

pub returns-in-Err-append : goal.returns-in-Err-append
returns-in-Err-append g c =
    let goes : lets_go_on c.take_next.result ≡ true = elim c.match-take_next.branch [
      | in-Ok-1 w ↦ goes_of c.take_next.result (λ e is not. grind (arith, is))
      | in-Err+in-Busy-1 w ↦ goes_of c.take_next.result (λ e is not. grind (arith, is, not))
    ] in
    inr (c.take_next.result, c.take_next.new.self, c.take_next.ensures, goes, subst (λ r. IsAppend g.L.StoreCaller.comes_to c.take_next.new.self r c.append.new.log) c.in-Err-append.is c.append.ensures)
