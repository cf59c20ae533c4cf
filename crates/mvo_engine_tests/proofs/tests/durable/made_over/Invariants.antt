use Rattle.mvo_engine.specs.Opened.{fresh_opening}
use Rattle.mvo_engine.specs.Watching.{nothing_watched}
use Rattle.mvo_engine_tests.proofs.tests.durable.made_over.Given as goal

abbrev pub ghosts-run_made-L-Ledger : goal.ghosts-run_made-L-Ledger
ghosts-run_made-L-Ledger g a = record { name = a.fresh.ledger; parts = a.fresh.parts }

abbrev pub ghosts-run_made-L-Run : goal.ghosts-run_made-L-Run
ghosts-run_made-L-Run g a = record {
  opening = fresh_opening g.D.Disk a.fresh;
  marks = a.fresh.marks;
  ring = a.fresh.ring;
  watched = nothing_watched;
}
