use Rattle.std.proofs.Common.{ap, ◌∙◌}
use Rattle.mvo_core.specs.Counting.{version_count}
use Rattle.mvo_core.specs.Data.{CoreData}
use Rattle.mvo_core.proofs.VersionCounts.{versions_there}
use Rattle.mvo_core.proofs.event_core.Core.version_count.Goals as goal

pub returns : goal.returns
returns c = c.version_count.ensures ∙ (versions_there c.self.inside.versions.slots ∙ ap (λ (x : CoreData). version_count x) c.self.view_is)
