use Rattle.std.proofs.Common.{sym, ap, ◌∙◌, subst, []}
use Rattle.std.specs.FinMap.{empty}
use Rattle.mvo_types.specs.Keys.{key_cmp}
use Rattle.mvo_hash.specs.Table.{KeyNumbers}
use Rattle.mvo_hash.specs.Links.{index_of, IsIndex}
use Rattle.mvo_hash.proofs.Views.{empty_index, new_index, to_index}
use Rattle.mvo_hash.proofs.index.HashIndex.new.Goals as goal

pub invariant_of-result : goal.invariant_of-result
invariant_of-result c =
    subst (IsIndex c.new.result.numbers) (sym c.new-2.ensures)
    (subst (λ (m : KeyNumbers). IsIndex m []) (sym c.new.ensures.numbers) (to_index (empty {R = key_cmp}) [] (λ _. []) empty_index))

pub returns : goal.returns
returns c = ap (index_of c.new.result) c.new-2.ensures ∙ new_index c.new.result c.new.ensures.numbers c.new.ensures.room
