use Rattle.std.proofs.Common.{◌∙◌}
use Rattle.std.proofs.lemmas.Result.{IfOk-at_ok}
use Rattle.indexmap.proofs.CallerLemmas.{insert_entry-new}
use Rattle.mvo_content.proofs.Seeking.{found_by}
use Rattle.mvo_content.proofs.Same.{same_eq}
use Rattle.mvo_content.proofs.looks.put_behind.Goals as goal

pub returns-clause-kept : goal.returns-clause-kept
returns-clause-kept c = IfOk-at_ok _ c.unwrap.ensures c.insert.ensures.entries ∙ insert_entry-new _ c.args.behind.now c.args.entry c.args.rows (found_by _ c.args.entry (same_eq c.args.entry) c.args.behind.now.entries ∙ c.requires.fresh)
