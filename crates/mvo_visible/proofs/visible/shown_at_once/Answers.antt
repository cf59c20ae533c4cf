use Rattle.std.proofs.Common.{ap, sym, ◌∙◌}
use Rattle.std.specs.Option.{option_copied}
use Rattle.mvo_visible.proofs.First.{shown_first}
use Rattle.mvo_visible.proofs.visible.shown_at_once.Goals as goal

pub returns-in-Some-settled_put-clause-shown : goal.returns-in-Some-settled_put-clause-shown
returns-in-Some-settled_put-clause-shown c =
    shown_first c.args.at.0 c.args.chains.now c.args.walk.now c.in-Some.number c.in_ok-get.field-0.now c.in-Some-settled_put.field-0
    (sym c.peek.ensures ∙ c.in-Some.is) (ap option_copied (sym c.in_ok-get.was) ∙ c.get.ensures) (sym c.settled_put.ensures ∙ c.in-Some-settled_put.is)
