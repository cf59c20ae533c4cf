use Rattle.std.proofs.Common.{List, sym, subst}
use Rattle.std.specs.List.{IsDistinct}
use Rattle.std.specs.Ordering.{eq_by_cmp}
use Rattle.mvo_types.specs.RowData.{RowData}
use Rattle.mvo_model.specs.Serial.{scan_cmp}
use Rattle.mvo_model.proofs.Scans.{within_apart}
use Rattle.mvo_model.proofs.serial.Serial.scan.Goals as goal

-- the rows of a range differ in sort or key
pub in_scan_order-requires : goal.in_scan_order-requires
in_scan_order-requires c =
    subst (λ (rows : List RowData). IsDistinct (eq_by_cmp scan_cmp) rows) (sym c.in_ok-rows.ensures) (within_apart c.self.inside.rows c.args.table c.args.low c.args.high)
