use Rattle.std.proofs.Common.{◌<◌, subst, sym}
use Rattle.crossbeam_channel.specs.Claims.{view}
use Rattle.mvo_front.specs.declared.rule.Hand.{Hand}
use Rattle.mvo_front.proofs.Moves.{hires}
use Rattle.mvo_front.proofs.front.Front.hire.Goals as goal

pub another-pass-requires-clause-rule : goal.another-pass-requires-clause-rule
another-pass-requires-clause-rule g c = hires _ (view c.ticket.inside.pass) (subst (λ (v : Hand). 1 < v.parts) (sym c.ticket.view_is) c.requires)
