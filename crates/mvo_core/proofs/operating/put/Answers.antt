use Rattle.mvo_versions.proofs.Putting.{put_there}
use Rattle.mvo_core.proofs.TakenBack.{taken_back}
use Rattle.mvo_core.proofs.operating.put.Goals as goal

pub returns-in_default-clause-err : goal.returns-in_default-clause-err
returns-in_default-clause-err c =
    taken_back c.args.versions.now c.put.new.self c.take_out.new.self _ c.args.tx.id.0 c.in_ok-number.number c.in_ok-number.ensures.ok c.take_out.ensures.gone

pub take_out-requires : goal.take_out-requires
take_out-requires c =
    put_there c.args.versions.now.slots c.put.new.self.slots c.in_ok-number.number _ c.in_ok-number.ensures.ok.hole c.in_ok-number.ensures.ok.slots
