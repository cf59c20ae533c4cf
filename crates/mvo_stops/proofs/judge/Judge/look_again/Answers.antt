use Rattle.std.proofs.Common.{subst, Ok}
use Rattle.std.specs.Prelude.{IfOk}
use Rattle.mvo_disk.specs.Record.{file_content}
use Rattle.mvo_store.specs.Opening.{IsAnswer}
use Rattle.mvo_stops.proofs.judge.Judge.look_again.Goals as goal

pub returns-in-Ok-clause-kept : goal.returns-in-Ok-clause-kept
returns-in-Ok-clause-kept g c =
    let p = c.in-Ok.ensures.promised in
    (p.0, subst (λ o. IfOk o (λ x. IsAnswer (file_content c.args.disk) (Ok (x.0, x.1.0)))) p.1 c.open_at-opened.ensures.answer, p.2)
