use Rattle.std.proofs.Common.{List, Option, sym, ap, ◌∙◌}
use Rattle.std.proofs.lemmas.List.{nil_from_length}
use Rattle.std.specs.Ordering.{eq_by_cmp}
use Rattle.mvo_types.specs.Keys.{key_cmp}
use Rattle.mvo_types.specs.declared.row.RowKey.{RowKey}
use Rattle.mvo_types.specs.RowData.{RowData}
use Rattle.mvo_content.specs.Done.{left_at}
use Rattle.mvo_content.proofs.Same.{same_key}
use Rattle.mvo_content.proofs.Leaving.{lookup_by}
use Rattle.mvo_content.proofs.own_writes.left_at.Goals as goal

pub returns-then-len-eq0 : goal.returns-then-len-eq0
returns-then-len-eq0 c = sym (ap (λ (es : List (RowKey × Option RowData)). left_at es c.args.key)
    (nil_from_length c.args.left.now.entries (sym c.len.ensures.len ∙ c.if-len-eq0.true)))

pub returns : goal.returns
returns c = c.get.ensures.value ∙ lookup_by _ (eq_by_cmp key_cmp c.args.key) (λ j. same_key c.args.key j) c.args.left.now.entries
