use Rattle.std.proofs.Common.{length}
use Rattle.mvo_files_tests.proofs.files.merge.making.+is_new.Given as goal

abbrev pub decreases-is_new : goal.decreases-is_new
decreases-is_new l = length l.records.now
