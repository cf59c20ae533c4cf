use Rattle.std.proofs.Common.{ap, ◌∙◌}
use Rattle.mvo_engine.specs.Opened.{FreshData, fresh_opening}
use Rattle.mvo_engine.proofs.Begun.{renamed, booked, sound_core, sound_store}
use Rattle.mvo_engine.proofs.engine.Engine.new.Goals as goal

pub new-requires-clause-sound : goal.new-requires-clause-sound
new-requires-clause-sound g c =
    let same = ap (λ (x : FreshData _). fresh_opening g.D.Disk x) c.fresh.view_is ∙ c.requires.opening_is in
    sound_core g.D.Disk (renamed g.D.Disk c.fresh.invariant.0 same) _ (c.new-sends.ensures.sent ∙ c.fresh.invariant.2.sent_is)

pub new-requires-3-clause-sound : goal.new-requires-3-clause-sound
new-requires-3-clause-sound g c =
    let same = ap (λ (x : FreshData _). fresh_opening g.D.Disk x) c.fresh.view_is ∙ c.requires.opening_is in
    sound_store g.D.Disk (renamed g.D.Disk c.fresh.invariant.0 same) _ c.fresh.invariant.2.received_is

pub new-requires-clause-booked : goal.new-requires-clause-booked
new-requires-clause-booked g c = booked g.D.Disk c.fresh.invariant.0 g.L.Run.watched c.open-ledger.result.0.total c.open-ledger.ensures.total
