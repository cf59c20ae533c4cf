use Rattle.mvo_core.proofs.FirstWord.{first_there}
use Rattle.mvo_core.proofs.finishing.replace_first.Goals as goal

pub replace-requires : goal.replace-requires
replace-requires c =
    first_there c.args.versions.now.slots c.args.tx.0 c.args.writes.now.words c.pass_others.new.writes.words c.in-Some.place c.pass_others.ensures.words c.in-Some.ensures.first
