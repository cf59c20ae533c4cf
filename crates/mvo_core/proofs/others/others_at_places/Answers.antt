use Rattle.std.proofs.Common.{append-nil, ℕ, ◌+◌, [], ◌∷◌, ◌++◌, ap, sym, subst, ◌≡◌, ◌∙◌, append_assoc}
use Rattle.mvo_types.specs.declared.row.RowKey.{RowKey}
use Rattle.mvo_txn.specs.Txns.{state_of}
use Rattle.mvo_visible.specs.Versions.{versions_at}
use Rattle.mvo_visible.specs.Shown.{AreVersionsInOrder, shown_to}
use Rattle.mvo_standing.specs.Scans.{rows_of_places}
use Rattle.mvo_core.specs.Others.{shown_as_of}
use Rattle.mvo_core.proofs.Scanned.{firsts}
use Rattle.mvo_core.proofs.OthersShown.{AreSoFar, so_far_with}
use Rattle.mvo_core.proofs.others.others_at_places.Goals as goal

pub loop-entry-init : goal.loop-entry-init
loop-entry-init c = (
  (λ order. c.new-rows.ensures.items),
  sym (c.into_iter-entry-iterator.ensures.into_iter_gives ∙ c.between-entry-items.ensures),
)

pub loop-entry-preserved : goal.loop-entry-preserved
loop-entry-preserved c = (
  (let a = c.args in
      let is = subst (λ (n : ℕ). AreVersionsInOrder (state_of a.table.now) a.tx.0 n (versions_at a.versions.now.slots a.versions.now.lists c.row_key.result)
      → c.shown_as-found.result ≡ shown_to (state_of a.table.now) a.tx.0 n (versions_at a.versions.now.slots a.versions.now.lists c.row_key.result)) c.next_id-nobody.ensures c.shown_as-found.ensures in
      so_far_with (state_of a.table.now) a.versions.now a.tx.0 (a.table.now.clock + 1) c.loop-entry.yielded c.in-Some.entry c.loop-entry.rows.items c.add_row.new.rows.items c.shown_as-found.result c.in_ok-row.row
      (subst (λ (k : RowKey). AreVersionsInOrder (state_of a.table.now) a.tx.0 (a.table.now.clock + 1) (versions_at a.versions.now.slots a.versions.now.lists k)
      → c.shown_as-found.result ≡ shown_to (state_of a.table.now) a.tx.0 (a.table.now.clock + 1) (versions_at a.versions.now.slots a.versions.now.lists k)) c.row_key.ensures is)
      c.in_ok-row.ensures c.in_ok-add_row.ensures c.loop-entry.invariant.0),
  c.loop-entry.invariant.1 ∙ ap (λ it. c.loop-entry.yielded ++ it) c.in-Some.ensures.steps ∙ sym (append_assoc c.loop-entry.yielded (c.in-Some.entry ∷ []) c.next.new.self),
)

pub returns : goal.returns
returns c = λ order.
    let a = c.args in
    c.loop-entry.invariant.0 order
    ∙ ap (λ xs. rows_of_places a.versions.now.slots (shown_as_of (state_of a.table.now) a.versions.now a.tx.0 (a.table.now.clock + 1)) (firsts xs))
    (sym (c.loop-entry.invariant.1 ∙ ap (λ it. c.loop-entry.yielded ++ it) c.in-None.ensures.steps.0 ∙ append-nil c.loop-entry.yielded))
