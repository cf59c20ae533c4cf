-- When two keys are one.
use Rattle.std.proofs.Common.{◌≡◌, Bool, true}
use Rattle.std.specs.Ordering.{eq_by_cmp}
use Rattle.std.specs.Cmp.{eq_by_cmp_equiv}
use Rattle.std.proofs.lemmas.Map.Views.{tells_apart}
use Rattle.mvo_types.specs.declared.row.RowKey.{RowKey}
use Rattle.mvo_types.specs.Keys.{key_cmp}
use Rattle.mvo_types.proofs.Maps.{keys_total, exact_keys}

abbrev pub eq : RowKey → RowKey → Bool
eq = eq_by_cmp key_cmp

pub key_same : (x y : RowKey) → eq x y ≡ true → x ≡ y
key_same = tells_apart exact_keys

pub eq_self : (x : RowKey) → eq x x ≡ true
eq_self = (eq_by_cmp_equiv keys_total).refl

pub eq_flips : (x y : RowKey) → eq x y ≡ eq y x
eq_flips = (eq_by_cmp_equiv keys_total).symm
