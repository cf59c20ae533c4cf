use Rattle.std.proofs.Common.{◌∙◌, ap, subst, sym, Ok}
use Rattle.std.proofs.lemmas.Result.{IfOk-weaker}
use Rattle.mvo_stops.specs.Judging.{Promises}
use Rattle.mvo_stops.proofs.judge.Judge.judge_opened.Goals as goal

pub returns-in-Ok-clause-promised : goal.returns-in-Ok-clause-promised
returns-in-Ok-clause-promised c =
    IfOk-weaker c.judge_rows.result _ _ (λ m p. (
      c.in-Ok.rows,
      c.in-Ok.is ∙ ap (λ n. Ok (c.in-Ok.rows, n)) (sym p.0),
      subst (λ n. Promises c.args.self.now c.args.recorded.now c.args.acknowledged.0 c.in-Ok.rows n.0) (sym p.0) p.1,
    )) c.judge_rows.ensures.promised
