use Rattle.std.proofs.Common.{rules, ◌∙◌, ◌<◌, List, Some, ap, codes, map, refl, subst, sym, vec_len}
use Rattle.std.specs.Borrow.{Bor}
use Rattle.clap.specs.Words.{Text, found_of, rows_of}
use Rattle.mvo_cli.specs.Tasks.{HasCount, is_true}
use Rattle.mvo_cli.specs.declared.workers.Workers.{Workers}
use Rattle.mvo_cli.proofs.Given.{given}
use Rattle.mvo_cli.proofs.asked_work.work_task_of.Goals as goal

pub returns : goal.returns
returns c =
    let folder = given c.args.found.now (codes "DIR") c.get_str.result (Some c.in-Some.folder) c.get_str.ensures c.in-Some.is in
    let keep = given c.args.found.now (codes "keep") c.get_str-2.result c.get_str-2.result c.get_str-2.ensures refl in
    let some : 0 < vec_len c.in_ok-files.files = search rules in (
      refl,
      folder ∙ ap (λ (f : Bor Text). Some f.now) (sym c.new.ensures.folder),
      subst (λ (w : Workers). HasCount (codes "workers") (rows_of (found_of c.args.found.now)) w.count) (sym c.new.ensures.workers) c.in-Some-count_in.ensures,
      c.new.ensures.keeps ∙ (c.is_true-keeps.ensures ∙ ap is_true (sym keep)),
      c.in_ok-files.ensures some ∙ ap (λ (xs : List (Bor Text)). Some (map (λ f. f.now) xs)) (sym c.new.ensures.files),
      c.new.ensures.some,
    )
