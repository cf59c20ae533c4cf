use Rattle.std.proofs.Common.{length}
use Rattle.mvo_files_tests.proofs.files.merge.making.+rises.Given as goal

abbrev pub decreases-rises : goal.decreases-rises
decreases-rises l = length l.live.now
