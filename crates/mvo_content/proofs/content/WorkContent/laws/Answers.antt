use Rattle.std.proofs.Common.{◌≤◌, length, subst}
use Rattle.mvo_types.specs.declared.limits.TheConstants.{MAX_ENTRIES}
use Rattle.mvo_theory.specs.Limits.{AreLimited}
use Rattle.mvo_shared.specs.Kept.{IsWork, IsOrdered}
use Rattle.mvo_content.specs.Done.{DoneData, work_in}
use Rattle.mvo_content.proofs.content.WorkContent.laws.Goals as goal

pub returns-clause-work : goal.returns-clause-work
returns-clause-work c = subst (λ (d : DoneData). IsWork (work_in d)) c.self.view_is c.self.invariant.work

pub returns-clause-order : goal.returns-clause-order
returns-clause-order c = subst (λ (d : DoneData). IsOrdered (work_in d)) c.self.view_is c.self.invariant.sound.entries

pub returns-clause-limits : goal.returns-clause-limits
returns-clause-limits c = subst (λ (d : DoneData). AreLimited d.history) c.self.view_is c.self.invariant.sound.limits

pub returns-clause-few : goal.returns-clause-few
returns-clause-few c = subst (λ (d : DoneData). length d.looked ≤ MAX_ENTRIES) c.self.view_is c.self.invariant.few
