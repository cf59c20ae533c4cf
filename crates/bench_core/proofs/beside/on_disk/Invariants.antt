use Rattle.mvo_engine.specs.Opened.{fresh_opening}
use Rattle.mvo_engine.specs.Watching.{nothing_watched}
use Rattle.bench_core.proofs.beside.on_disk.Given as goal

abbrev pub ghosts-with_engine-L-Ledger : goal.ghosts-with_engine-L-Ledger
ghosts-with_engine-L-Ledger g a = record { name = a.fresh.ledger; parts = a.fresh.parts }

abbrev pub ghosts-with_engine-L-Run : goal.ghosts-with_engine-L-Run
ghosts-with_engine-L-Run g a = record {
  opening = fresh_opening g.D.Disk a.fresh;
  marks = a.fresh.marks;
  ring = a.fresh.ring;
  watched = nothing_watched;
}
