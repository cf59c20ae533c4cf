use Rattle.std.proofs.Common.{◌∙◌, ap, rules, length, ◌-◌}
use Rattle.std.specs.Prelude.{slice_get}
use Rattle.std.specs.Ordering.{is_lt}
use Rattle.mvo_types.specs.declared.row.RowKey.{RowKey}
use Rattle.mvo_types.specs.Keys.{key_cmp}
use Rattle.mvo_places.specs.Fixed.{Numbers}
use Rattle.mvo_places.proofs.Falls.{may_follow}
use Rattle.mvo_places.proofs.fixed_keys.FixedKeys.may_follow.Goals as goal

pub returns-in-Some : goal.returns-in-Some
returns-in-Some c =
    may_follow c.args.self.now c.args.key c.in-Some.last.now.0 c.in-Some.last.now.1 c.is_below.result
    (c.in-Some.ensures.value ∙ ap (λ (xs : Numbers). slice_get xs (length xs - 1)) (c.deref.ensures.value ∙ c.self.view_is))
    (c.is_below.ensures ∙ ap (λ (x : RowKey). is_lt (key_cmp c.args.key x)) c.key.ensures.key)
    (search (rules, c.if-key-gt-MAX_TABLE.false))
