use Rattle.std.proofs.Common.{◌≡◌, Bool, true, false, is_ok, if◌then◌else◌}
use Rattle.mvo_engine.proofs.gathering.add_all.Goals as goal

where_true : {X : Type 0} (b : Bool) (x y z : X) → b ≡ true → z ≡ (if b then x else y) → z ≡ x
where_true true x y z is e = e
where_true false x y z is e = absurd cc

pub returns-clause-items : goal.returns-clause-items
returns-clause-items c = where_true (is_ok c.append.result) _ _ _ (c.append.ensures.succeeds c.requires) c.append.ensures.items

pub returns-clause-length : goal.returns-clause-length
returns-clause-length c = where_true (is_ok c.append.result) _ _ _ (c.append.ensures.succeeds c.requires) c.append.ensures.len
