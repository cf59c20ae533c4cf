use Rattle.std.proofs.Common.{◌≡◌, ◌++◌, map}
use Rattle.mvo_theory.specs.Told.{history_told}
use Rattle.mvo_engine.specs.Reads.{row_found}
use Rattle.mvo_engine.proofs.session.reading_all.keep_each.Given as goal

abbrev pub invariant-loop-op : goal.invariant-loop-op
invariant-loop-op l =
    (l.told ≡ l.fn.told ++ history_told l.yielded)
    × (l.rows.items ≡ map (λ r. row_found r.1) l.yielded)
