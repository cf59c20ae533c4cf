use Rattle.std.proofs.Common.{append-nil, [], ◌∷◌, ◌++◌, ap, sym, subst, ◌≡◌, ◌∙◌, append_assoc}
use Rattle.mvo_types.specs.declared.row.RowKey.{RowKey}
use Rattle.mvo_txn.specs.Txns.{state_of}
use Rattle.mvo_visible.specs.Versions.{versions_at}
use Rattle.mvo_visible.specs.Shown.{AreVersionsInOrder, shown_to}
use Rattle.mvo_validate.specs.Entries.{key_at}
use Rattle.mvo_core.proofs.Scanned.{IsSoFar, none_yet, so_far_more, all_seen}
use Rattle.mvo_core.proofs.scanning.scan_places.Goals as goal

pub loop-entry-init : goal.loop-entry-init
loop-entry-init c = (
  (λ order.
      let a = c.args in
      subst (λ xs. IsSoFar (state_of a.table.now) a.versions.now a.start.0 a.tx.0 a.of a.lo a.hi [] xs c.new-on.result.items) (sym (c.in_ok-reserve.ensures.items ∙ c.new-rows.ensures.items))
      (subst (λ ys. IsSoFar (state_of a.table.now) a.versions.now a.start.0 a.tx.0 a.of a.lo a.hi [] [] ys) (sym c.new-on.ensures.items)
      (none_yet (state_of a.table.now) a.versions.now a.start.0 a.tx.0 a.of a.lo a.hi))),
  sym (c.into_iter-entry-iterator.ensures.into_iter_gives ∙ c.between-entry-items.ensures),
)

pub loop-entry-preserved : goal.loop-entry-preserved
loop-entry-preserved c = (
  (λ order.
      let a = c.args in
      let is = subst (λ (k : RowKey). AreVersionsInOrder (state_of a.table.now) a.tx.0 a.tx.0 (versions_at a.versions.now.slots a.versions.now.lists k)
      → c.shown-found.result ≡ shown_to (state_of a.table.now) a.tx.0 a.tx.0 (versions_at a.versions.now.slots a.versions.now.lists k)) c.row_key.ensures c.shown-found.ensures in
      so_far_more (state_of a.table.now) a.versions.now a.start.0 a.tx.0 a.of a.lo a.hi c.loop-entry.yielded c.in-Some.entry c.next.new.self
      c.loop-entry.rows.items c.add_row.new.rows.items c.loop-entry.on.items c.add_named.new.on.items c.shown-found.result c.in_ok-row.row
      (c.loop-entry.invariant.1 ∙ ap (λ it. c.loop-entry.yielded ++ it) c.in-Some.ensures.steps) (is (order (key_at c.in-Some.entry.0))) c.in_ok-row.ensures c.in_ok-add_row.ensures c.in_ok-add_named.ensures
      (c.loop-entry.invariant.0 order)),
  c.loop-entry.invariant.1 ∙ ap (λ it. c.loop-entry.yielded ++ it) c.in-Some.ensures.steps ∙ sym (append_assoc c.loop-entry.yielded (c.in-Some.entry ∷ []) c.next.new.self),
)

pub returns : goal.returns
returns c = λ order.
    let a = c.args in
    all_seen (state_of a.table.now) a.versions.now a.start.0 a.tx.0 a.of a.lo a.hi c.loop-entry.yielded c.loop-entry.rows.items c.loop-entry.on.items
    (c.loop-entry.invariant.1 ∙ ap (λ it. c.loop-entry.yielded ++ it) c.in-None.ensures.steps.0 ∙ append-nil c.loop-entry.yielded) (c.loop-entry.invariant.0 order)
