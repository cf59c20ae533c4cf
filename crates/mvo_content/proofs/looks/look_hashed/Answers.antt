use Rattle.std.proofs.Common.{◌∙◌}
use Rattle.mvo_content.proofs.Seeking.{found_by}
use Rattle.mvo_content.proofs.Same.{same_value}
use Rattle.mvo_content.proofs.looks.look_hashed.Goals as goal

pub returns : goal.returns
returns c = c.get.ensures.value ∙ found_by _ c.args.entry (same_value c.args.entry) c.args.behind.now.entries
