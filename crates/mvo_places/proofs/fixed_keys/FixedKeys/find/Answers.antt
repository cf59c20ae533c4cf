use Rattle.std.proofs.Common.{◌≡◌, Option, None, sym, ap, subst, rules, get_or, ◌∙◌, ℕ, arith}
use Rattle.std.specs.FinMap.{find}
use Rattle.std.proofs.lemmas.List.{get_or_default}
use Rattle.std.proofs.lemmas.List.Sorted.{IsPartitionPoint-from_clause}
use Rattle.mvo_types.specs.declared.row.RowKey.{RowKey}
use Rattle.mvo_types.specs.Keys.{key_cmp}
use Rattle.mvo_places.specs.Fixed.{Numbers}
use Rattle.mvo_places.specs.Falling.{Falls}
use Rattle.mvo_places.proofs.Falls.{below_entry, parted, nowhere, parts_differ}
use Rattle.mvo_places.proofs.fixed_keys.FixedKeys.find.Goals as goal
use Rattle.mvo_places.proofs.fixed_keys.FixedKeys.find.Goals.{else-at-len-via-then-at-len+else-eq, else-at-len-via-else-at-len}

pub returns-clause-nowhere : goal.returns-clause-nowhere
returns-clause-nowhere c =
    let es : Numbers = c.deref.result.now in
    let falls : Falls es = subst (λ (xs : Numbers). Falls xs) (sym c.deref.ensures.value) c.self.invariant in
    let point = IsPartitionPoint-from_clause (below_entry es falls c.args.key) _ _ c.partition_point-at.ensures.partitioned (parted es falls c.args.key) (λ a r q k. search rules) in
    subst (λ (xs : Numbers). find key_cmp c.args.key xs ≡ None) (c.deref.ensures.value ∙ c.self.view_is)
    (nowhere es falls c.args.key c.partition_point-at.result point (λ d within same. elim c.else-at-len.branch [
      | else-at-len-via-then-at-len+else-eq w ↦
          let at = w.index.ensures ∙ ap (λ (xs : Numbers). get_or xs c.partition_point-at.result w.index.result.now) (sym c.deref.ensures.value) ∙ get_or_default es c.partition_point-at.result w.index.result.now d within in
          parts_differ w.key.result c.args.key w.eq.result w.eq.ensures w.if-eq.false (w.key.ensures.key ∙ ap (λ (e : RowKey × Option ℕ). e.0) at ∙ same)
      | else-at-len-via-else-at-len w ↦ absurd (omega (arith, within, w.if-at-len.false, c.len.ensures, c.deref.ensures.len))
    ]))
