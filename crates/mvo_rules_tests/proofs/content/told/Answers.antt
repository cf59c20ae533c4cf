use Rattle.std.proofs.Common.{List, sym, subst}
use Rattle.mvo_types.specs.RowData.{RowData}
use Rattle.mvo_theory.specs.Entries.{entry_of}
use Rattle.mvo_content.specs.Shown.{AreRowsOf}
use Rattle.mvo_content.proofs.Fitting.{shown_fits}
use Rattle.mvo_rules_tests.proofs.content.told.Goals as goal

pub keep-requires-clause-shown : goal.keep-requires-clause-shown
keep-requires-clause-shown c =
    subst (λ (rows : List RowData). AreRowsOf (entry_of c.args.op) rows) (sym c.in_ok-rows.ensures) (shown_fits (entry_of c.args.op) c.args.others.now)
