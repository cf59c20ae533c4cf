use Rattle.crossbeam_channel.specs.Ends.{sends_on}
use Rattle.mvo_program_tests.proofs.jobs.queue.a_closed_queue_gives_the_job_back.Given as goal

abbrev pub ghosts-push_and_take : goal.ghosts-push_and_take
ghosts-push_and_take g a = record {
  table = (sends_on a.opened.sender).stamps.shared.table_id;
  keys = (sends_on a.opened.sender).stamps.shared.key;
}
