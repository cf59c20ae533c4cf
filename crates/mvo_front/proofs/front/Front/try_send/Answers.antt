use Rattle.std.proofs.Common.{ap, ◌∙◌}
use Rattle.crossbeam_channel.specs.Claims.{view}
use Rattle.mvo_front.specs.declared.rule.Hand.{Hand}
use Rattle.mvo_front.proofs.Moves.{pushes}
use Rattle.mvo_front.proofs.front.Front.try_send.Goals as goal

pub try_send_as-requires-clause-rule : goal.try_send_as-requires-clause-rule
try_send_as-requires-clause-rule g c = (
  pushes _ _ (view c.ticket.inside.pass) c.args.job (ap (λ (v : Hand). v.pushes) c.ticket.view_is ∙ c.requires),
  λ items views h at. tt,
)
