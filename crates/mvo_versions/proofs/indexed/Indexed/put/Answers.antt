use Rattle.std.proofs.Common.{Some, None, refl, sym, ap, ◌∙◌, subst}
use Rattle.mvo_types.specs.declared.row.RowKey.{RowKey}
use Rattle.mvo_types.specs.RowData.{RowData}
use Rattle.mvo_chain.specs.Slots.{added, with_room, with_slot}
use Rattle.mvo_visible.specs.Fronts.{with_new}
use Rattle.mvo_representation.specs.Steps.{fresh}
use Rattle.mvo_versions.proofs.Counted.{indexed, few_at}
use Rattle.mvo_versions.proofs.Putting.{fresh_number, undone, undone_right, put_right, put_there, places_back}
use Rattle.mvo_versions.proofs.indexed.Indexed.put.Goals as goal

-- nothing was put
pub returns-in_err-number-clause-indexed : goal.returns-in_err-number-clause-indexed
returns-in_err-number-clause-indexed c = indexed _ (subst (λ ss. Rattle.mvo_versions.specs.Runs.AreCounted (record { slots = ss; lists = c.self.inside.index.versions; places = c.self.inside.order })) (sym c.in_err-number.ensures.err) c.self.invariant)

pub enter-requires : goal.enter-requires
enter-requires c = few_at (record { slots = c.self.inside.chains; lists = c.self.inside.index.versions; places = c.self.inside.order }) c.new-place.result c.self.invariant

pub take_out-requires : goal.take_out-requires
take_out-requires c = put_there c.self.inside.chains c.add.new.self c.in_ok-number.number _ c.in_ok-number.ensures.hole c.in_ok-number.ensures.ok

-- the version went again
pub invariant_of-self-in_default : goal.invariant_of-self-in_default
invariant_of-self-in_default c = undone_right (record { slots = c.self.inside.chains; lists = c.self.inside.index.versions; places = c.self.inside.order }) c.in_ok-number.number _ _ _ _ c.fits.ensures c.in_ok-number.ensures.hole (c.take_out.ensures.emptied ∙ ap (λ ss. with_slot ss c.in_ok-number.number None) c.in_ok-number.ensures.ok) refl c.in_default.ensures.err c.self.invariant

pub returns-in_default-clause-err : goal.returns-in_default-clause-err
returns-in_default-clause-err c = rw (← c.self.view_is) (undone (record { slots = c.self.inside.chains; lists = c.self.inside.index.versions; places = c.self.inside.order }) c.in_ok-number.number _ _ _ _ c.in_ok-number.ensures.hole (c.take_out.ensures.emptied ∙ ap (λ ss. with_slot ss c.in_ok-number.number None) c.in_ok-number.ensures.ok) refl c.in_default.ensures.err)

pub add-requires-2 : goal.add-requires-2
add-requires-2 c = fresh_number c.self.inside.chains c.self.inside.index.versions c.in_ok-number.number c.in_ok-number.ensures.hole c.self.invariant.numbers

pub take_out-requires-in_default-add : goal.take_out-requires-in_default-add
take_out-requires-in_default-add c = put_there c.self.inside.chains c.add.new.self c.in_ok-number.number _ c.in_ok-number.ensures.hole c.in_ok-number.ensures.ok

-- the run is taken back, and the version goes again
pub invariant_of-self-in_default-add : goal.invariant_of-self-in_default-add
invariant_of-self-in_default-add c = undone_right (record { slots = c.self.inside.chains; lists = c.self.inside.index.versions; places = c.self.inside.order }) c.in_ok-number.number _ _ _ _ c.fits.ensures c.in_ok-number.ensures.hole (c.take_out-in_default-add.ensures.emptied ∙ ap (λ ss. with_slot ss c.in_ok-number.number None) c.in_ok-number.ensures.ok) (ap (λ i. i.versions) c.in_default-add.ensures.err) (places_back (record { slots = c.self.inside.chains; lists = c.self.inside.index.versions; places = c.self.inside.order }) c.joins-joins.result c.new-place.result c.enter.new.order c.give_back.new.order c.self.invariant c.in-Ok.ensures.ok c.give_back.ensures) c.self.invariant

pub returns-in_default-add-clause-err : goal.returns-in_default-add-clause-err
returns-in_default-add-clause-err c = rw (← c.self.view_is) (undone (record { slots = c.self.inside.chains; lists = c.self.inside.index.versions; places = c.self.inside.order }) c.in_ok-number.number _ _ _ _ c.in_ok-number.ensures.hole (c.take_out-in_default-add.ensures.emptied ∙ ap (λ ss. with_slot ss c.in_ok-number.number None) c.in_ok-number.ensures.ok) (ap (λ i. i.versions) c.in_default-add.ensures.err) (places_back (record { slots = c.self.inside.chains; lists = c.self.inside.index.versions; places = c.self.inside.order }) c.joins-joins.result c.new-place.result c.enter.new.order c.give_back.new.order c.self.invariant c.in-Ok.ensures.ok c.give_back.ensures))

-- it stands
pub invariant_of-self-in-Ok-add : goal.invariant_of-self-in-Ok-add
invariant_of-self-in-Ok-add c = put_right (record { slots = c.self.inside.chains; lists = c.self.inside.index.versions; places = c.self.inside.order }) c.in_ok-number.number (fresh c.args.by.0 c.args.row) c.joins-joins.result c.new-place.result _ _ _ c.fits.ensures c.in_ok-number.ensures.hole
    (c.in_ok-number.ensures.ok ∙ ap (λ w. with_slot (with_room c.self.inside.chains) c.in_ok-number.number (Some (added c.args.row w))) c.id.ensures)
    (c.in-Ok-add.ensures.ok ∙ ap (λ k. with_new c.self.inside.index.versions k c.in_ok-number.number.0) search)
    (c.new-place.ensures ∙ ap (λ (k : RowKey). record { table = k.table; sort = c.row.inside.sort; key = k.key }) c.row_key-key.ensures ∙ ap (λ (r : RowData). record { table = c.args.row.key.table; sort = r.sort; key = c.args.row.key.key }) c.row.view_is)
    c.joins-joins.ensures c.in-Ok.ensures.ok c.self.invariant

pub returns-clause-ok : goal.returns-clause-ok
returns-clause-ok c = rw (← c.self.view_is) (record {
  hole = c.in_ok-number.ensures.hole;
  slots = c.in_ok-number.ensures.ok ∙ ap (λ w. with_slot (with_room c.self.inside.chains) c.in_ok-number.number (Some (added c.args.row w))) c.id.ensures;
  unused = fresh_number c.self.inside.chains c.self.inside.index.versions c.in_ok-number.number c.in_ok-number.ensures.hole c.self.invariant.numbers;
  lists = c.in-Ok-add.ensures.ok ∙ ap (λ k. with_new c.self.inside.index.versions k c.in_ok-number.number.0) search;
})

-- the indexes are those of the versions at each return
pub returns-in_default-clause-indexed : goal.returns-in_default-clause-indexed
returns-in_default-clause-indexed c = indexed _ (invariant_of-self-in_default c)

pub returns-in_default-add-clause-indexed : goal.returns-in_default-add-clause-indexed
returns-in_default-add-clause-indexed c = indexed _ (invariant_of-self-in_default-add c)

pub returns-clause-indexed : goal.returns-clause-indexed
returns-clause-indexed c = indexed _ (invariant_of-self-in-Ok-add c)
