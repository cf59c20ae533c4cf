use Rattle.mvo_engine.specs.Opened.{fresh_opening}
use Rattle.mvo_engine.specs.Watching.{nothing_watched}
use Rattle.mvo_engine_tests.proofs.tests.letting_by.beside.Given as goal

abbrev pub ghosts-run_beside-L-Ledger : goal.ghosts-run_beside-L-Ledger
ghosts-run_beside-L-Ledger g a = record { name = a.fresh.ledger; parts = a.fresh.parts }

abbrev pub ghosts-run_beside-L-Run : goal.ghosts-run_beside-L-Run
ghosts-run_beside-L-Run g a = record {
  opening = fresh_opening g.D.Disk a.fresh;
  marks = a.fresh.marks;
  ring = a.fresh.ring;
  watched = nothing_watched;
}
