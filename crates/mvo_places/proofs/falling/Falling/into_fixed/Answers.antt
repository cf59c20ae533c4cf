use Rattle.std.proofs.Common.{◌∙◌, sym, subst, ap}
use Rattle.std.specs.List.{IsDistinct}
use Rattle.std.specs.Prelude.{List}
use Rattle.mvo_types.specs.declared.row.RowKey.{RowKey}
use Rattle.mvo_places.specs.Falling.{keys, PlaceList}
use Rattle.mvo_places.proofs.Keys.{eq}
use Rattle.mvo_places.proofs.Falls.{falls_apart}
use Rattle.mvo_places.proofs.Over.{keys-live}
use Rattle.mvo_places.proofs.falling.Falling.into_fixed.Goals as goal

pub returns-clause-apart : goal.returns-clause-apart
returns-clause-apart c =
    subst (λ (ks : List RowKey). IsDistinct eq ks)
    (sym (keys-live c.self.inside.fixed c.self.invariant.0) ∙ ap (λ (x : PlaceList). keys x) c.self.view_is)
    (falls_apart c.self.inside.fixed c.self.invariant.1)
