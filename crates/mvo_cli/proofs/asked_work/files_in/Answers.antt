use Rattle.std.proofs.Common.{◌∙◌, List, Some, ap, codes, map, sym}
use Rattle.std.proofs.lemmas.Result.{IfOk-weaker}
use Rattle.std.specs.Borrow.{Bor}
use Rattle.clap.specs.Words.{Text}
use Rattle.mvo_cli.proofs.Given.{given_all}
use Rattle.mvo_cli.proofs.asked_work.files_in.Goals as goal

pub returns-in-Some : goal.returns-in-Some
returns-in-Some c =
    let all = given_all c.args.found.now (codes "FILE") c.get_strs.result (Some c.in-Some.paths) c.get_strs.ensures c.in-Some.is in
    IfOk-weaker c.copied.result _ _ (λ v same some. all ∙ ap (λ (xs : List (Bor Text)). Some (map (λ f. f.now) xs)) (sym same)) c.copied.ensures
