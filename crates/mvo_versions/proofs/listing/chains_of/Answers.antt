use Rattle.std.proofs.lemmas.List.{map-id}
use Rattle.std.proofs.lemmas.Iterator.Consumers.{YieldsList-end}
use Rattle.std.proofs.lemmas.Iterator.Adapters.{YieldsList-from_vec}
use Rattle.std.proofs.Common.{◌≡◌, List, [], ◌∷◌, ◌++◌, Some, sym, ap, ◌∙◌, subst}
use Rattle.mvo_types.specs.declared.row.RowKey.{RowKey}
use Rattle.mvo_types.specs.RowData.{RowData}
use Rattle.mvo_types.specs.RowLists.{rows_by_key}
use Rattle.mvo_word.specs.declared.held.Held.TheVariants.{At}
use Rattle.mvo_chain.specs.Slots.{with_room, with_slot, added}
use Rattle.mvo_versions.specs.Loading.{AreListed}
use Rattle.mvo_versions.proofs.Loading.{one_listed, none_listed}
use Rattle.mvo_versions.proofs.listing.chains_of.Goals as goal

pub loop-row-init : goal.loop-row-init
loop-row-init c = none_listed (At c.args.mark) _ _ c.new-chains.ensures c.in_ok-places.ensures.items

pub loop-row-preserved : goal.loop-row-preserved
loop-row-preserved c =
    subst (λ es. AreListed (At c.args.mark) (c.loop-row.yielded ++ c.in-Some.row ∷ []) c.add.new.self es) (sym c.in_ok-push.ensures.items)
    (one_listed (At c.args.mark) c.loop-row.yielded c.loop-row.chains c.add.new.self c.loop-row.places.items c.in-Some.row c.in_ok-number.number c.new-place.result c.fits.ensures c.loop-row.invariant c.in_ok-number.ensures.hole
    (c.in_ok-number.ensures.ok ∙ ap (λ w. with_slot (with_room c.loop-row.chains) c.in_ok-number.number (Some (added c.in-Some.row w))) c.stamp.ensures)
    (c.new-place.ensures ∙ ap (λ (k : RowKey). record { table = k.table; sort = c.row.inside.sort; key = k.key }) c.row_key.ensures ∙ ap (λ (r : RowData). record { table = c.in-Some.row.key.table; sort = r.sort; key = c.in-Some.row.key.key }) c.row.view_is))

-- all rows have versions
pub returns : goal.returns
returns c =
    let b = c.into_iter-row-iterator.ensures.into_iter_gives in
    let t = YieldsList-end (YieldsList-from_vec {s = c.into_iter-row-iterator.result} c.in_ok-rows.rows.items b.0 (b.1 ∙ c.in_ok-rows.rows.ok.0)) c.loop-row.yielded c.loop-row.row-iterator c.loop-row.yielded_by c.next.result c.next.new.self c.in-None.is c.next.ensures.steps in
    let all : ◌≡◌ {A = List RowData} c.loop-row.yielded (rows_by_key c.args.rows) = sym (map-id c.loop-row.yielded) ∙ t.0 ∙ c.in_ok-rows.ensures in
    subst (λ (rs : List RowData). AreListed (At c.args.mark) rs c.loop-row.chains c.loop-row.places.items) all c.loop-row.invariant
