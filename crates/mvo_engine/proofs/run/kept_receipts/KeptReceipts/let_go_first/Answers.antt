use Rattle.std.proofs.Common.{◌<◌, ◌≤◌, length, refl, ap, sym, arith, rules}
use Rattle.mvo_engine.specs.run.Receiving.{KeptState}
use Rattle.mvo_engine.proofs.Forgetting.{left_above_start, first_gone}
use Rattle.mvo_engine.proofs.run.kept_receipts.KeptReceipts.let_go_first.Goals as goal

pub returns-then-lt : goal.returns-then-lt
returns-then-lt c =
    let xs = c.self.inside.list.items in
    let within : c.self.inside.gone < length xs = omega arith in
    let above : c.args.start.0 < c.index.result.now.end = first_of (grind (arith, c.if-lt.true, c.lt.ensures, c.end.ensures), search rules) in
    rw (← c.self.view_is) (refl, left_above_start c.args.start.0 c.self.inside.gone xs c.index.result.now within c.index.ensures above c.self.invariant.1)

pub returns : goal.returns
returns c =
    let xs = c.self.inside.list.items in
    let within : c.self.inside.gone < length xs = omega arith in
    let up_to : c.index.result.now.end ≤ c.args.start.0 = first_of (grind (arith, c.if-lt.false, c.lt.ensures, c.end.ensures), search rules) in
    first_gone c.args.start.0 c.self.inside.gone xs c.args.self.now.list c.give_up_places.new.self.list c.index.result.now c.empty.new.self within c.index.ensures up_to (sym (ap (λ (s : KeptState). s.list) c.self.view_is)) c.give_up_places.ensures
