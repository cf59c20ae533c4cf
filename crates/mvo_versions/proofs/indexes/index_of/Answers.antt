use Rattle.std.proofs.Common.{◌+◌, ◌<◌, take, length, sym, ap, ◌∙◌, subst, arith}
use Rattle.std.specs.Option.{option_copied}
use Rattle.mvo_types.specs.declared.row.RowKey.{RowKey}
use Rattle.mvo_hash.specs.Lists.{Index}
use Rattle.mvo_visible.specs.Fronts.{with_new}
use Rattle.mvo_representation.specs.Indexes.{HasNumbers}
use Rattle.mvo_versions.proofs.Numbering.{none_numbered, next_fresh, next_numbered, next_empty, all_numbered}
use Rattle.mvo_versions.proofs.indexes.index_of.Goals as goal
use Rattle.mvo_versions.proofs.indexes.index_of.Goals.{in-Some+in_ok-add, in_default}

pub loop-at-init : goal.loop-at-init
loop-at-init c = none_numbered c.args.chains.now _ (c.in_ok-reserve.ensures.same ∙ ap (λ (i : Index). i.versions) c.new-index.ensures)

pub add-requires : goal.add-requires
add-requires c = next_fresh c.args.chains.now c.loop-at.index.versions c.loop-at.at (let within = c.loop-at-test.true in let count = c.slot_count-count.ensures in omega (arith, within, count)) c.loop-at.invariant

pub loop-at-preserved : goal.loop-at-preserved
loop-at-preserved c =
    let slots = c.args.chains.now in
    let at = c.loop-at.at in
    let inside : at < length slots = let within = c.loop-at-test.true in let count = c.slot_count-count.ensures in omega (arith, within, count) in
    elim c.match-get.branch [
      | in-Some+in_ok-add w ↦ subst (λ (i : Index). HasNumbers (take (at + 1) slots) i.versions) (sym w.index-is)
          (next_numbered slots c.loop-at.index.versions _ at w.in-Some.version.now inside (sym c.get.ensures ∙ ap option_copied w.in-Some.is)
          (w.in_ok-add.ensures.ok ∙ ap (λ (k : RowKey). with_new c.loop-at.index.versions k at) w.row_key.ensures) c.loop-at.invariant)
      | in_default w ↦ subst (λ (i : Index). HasNumbers (take (at + 1) slots) i.versions) (sym w.index-is)
          (next_empty slots c.loop-at.index.versions at inside (sym c.get.ensures ∙ ap option_copied w.in_default.is) c.loop-at.invariant)
    ]

pub returns : goal.returns
returns c = all_numbered c.args.chains.now c.loop-at.index.versions c.loop-at.at (let out = c.loop-at-test.false in let count = c.slot_count-count.ensures in omega (arith, out, count)) c.loop-at.invariant
