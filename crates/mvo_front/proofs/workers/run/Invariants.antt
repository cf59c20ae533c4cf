use Rattle.crossbeam_channel.specs.Ends.{sends_on}
use Rattle.mvo_front.proofs.workers.run.Given as goal

abbrev pub ghosts-run_in : goal.ghosts-run_in
ghosts-run_in g a = record {
  table = (sends_on a.opened.sender).stamps.shared.table_id;
  keys = (sends_on a.opened.sender).stamps.shared.key;
}
