use Rattle.mvo_engine.specs.Opened.{fresh_opening}
use Rattle.mvo_engine.specs.Watching.{nothing_watched}
use Rattle.example_accounts.proofs.accounts.total_on_disk.Given as goal

abbrev pub ghosts-run_total-L-Ledger : goal.ghosts-run_total-L-Ledger
ghosts-run_total-L-Ledger g a = record { name = a.fresh.ledger; parts = a.fresh.parts }

abbrev pub ghosts-run_total-L-Run : goal.ghosts-run_total-L-Run
ghosts-run_total-L-Run g a = record {
  opening = fresh_opening g.D.Disk a.fresh;
  marks = a.fresh.marks;
  ring = a.fresh.ring;
  watched = nothing_watched;
}
