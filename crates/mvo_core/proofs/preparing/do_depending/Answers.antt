use Rattle.mvo_core.proofs.WorksHeld.{kept_may_be_told}
use Rattle.mvo_core.proofs.preparing.do_depending.Goals as goal

pub tell-requires : goal.tell-requires
tell-requires c =
    kept_may_be_told c.args.works.now c.prepare.new.self c.args.tx.id.0 c.args.op _ c.requires.work
    c.in_ok-next.ensures.same c.in_ok-next.next c.in_ok-next.ensures.next
