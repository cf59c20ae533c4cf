use Rattle.std.proofs.Common.{◌∙◌}
use Rattle.mvo_store_tests.proofs.Lying.{goes_on_so, answered_so}
use Rattle.mvo_store_tests.proofs.lying_disk.LyingDiskDisk.len.Goals as goal

pub returns-in_err-len-clause-time : goal.returns-in_err-len-clause-time
returns-in_err-len-clause-time c = goes_on_so c.args.self.now.disk c.len.new.self c.args.self.now.is_honest _ (λ h. h) c.in_err-len.ensures.time

pub returns-clause-time : goal.returns-clause-time
returns-clause-time c =
    answered_so c.args.self.now.disk c.len.new.self c.answered.new.self.disk c.args.self.now.is_honest c.is_due.new.self.is_honest _ c.answered.new.self.is_honest (c.answered.ensures.disk ∙ c.is_due.ensures.disk) c.is_due.ensures.honest c.answered.ensures.honest c.in_ok-len.ensures.time
