use Rattle.mvo_engine.specs.Opened.{fresh_opening}
use Rattle.mvo_engine.specs.Watching.{nothing_watched}
use Rattle.bench_disk.proofs.beside.filling.fill.Given as goal

abbrev pub ghosts-fill_in-L-Ledger : goal.ghosts-fill_in-L-Ledger
ghosts-fill_in-L-Ledger g a = record { name = a.fresh.ledger; parts = a.fresh.parts }

abbrev pub ghosts-fill_in-L-Run : goal.ghosts-fill_in-L-Run
ghosts-fill_in-L-Run g a = record {
  opening = fresh_opening g.D.Disk a.fresh;
  marks = a.fresh.marks;
  ring = a.fresh.ring;
  watched = nothing_watched;
}
