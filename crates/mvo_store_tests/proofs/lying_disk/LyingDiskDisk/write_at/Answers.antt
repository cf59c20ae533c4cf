use Rattle.std.proofs.Common.{◌∙◌, sym}
use Rattle.mvo_store_tests.proofs.Lying.{goes_on_so}
use Rattle.mvo_store_tests.proofs.lying_disk.LyingDiskDisk.write_at.Goals as goal

pub returns-then-at-bytes-clause-time : goal.returns-then-at-bytes-clause-time
returns-then-at-bytes-clause-time c = goes_on_so c.args.self.now.disk c.fail.new.self.disk c.args.self.now.is_honest c.fail.new.self.is_honest (λ h. sym c.fail.ensures.honest ∙ h) c.fail.ensures.time

pub returns-clause-time : goal.returns-clause-time
returns-clause-time c = goes_on_so c.args.self.now.disk c.write_at.new.self c.args.self.now.is_honest _ (λ h. h) c.write_at.ensures.time
