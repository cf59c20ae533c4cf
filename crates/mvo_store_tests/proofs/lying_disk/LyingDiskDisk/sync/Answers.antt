use Rattle.mvo_store_tests.proofs.Lying.{goes_on_so}
use Rattle.mvo_store_tests.proofs.lying_disk.LyingDiskDisk.sync.Goals as goal

pub returns-clause-time : goal.returns-clause-time
returns-clause-time c = goes_on_so c.args.self.now.disk c.sync.new.self c.args.self.now.is_honest _ (λ h. h) c.sync.ensures.time
