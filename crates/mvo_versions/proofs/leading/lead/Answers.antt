use Rattle.mvo_versions.proofs.Kept.{noted_skips}
use Rattle.mvo_versions.proofs.leading.lead.Goals as goal

pub returns-in-Some-skip_from : goal.returns-in-Some-skip_from
returns-in-Some-skip_from c = noted_skips c.args.chains.now c.args.index.now.versions c.args.skips.now c.lead.new.self c.args.number.0 c.in-Some-skip_from.skip c.lead.ensures c.in-Some-skip_from.ensures
