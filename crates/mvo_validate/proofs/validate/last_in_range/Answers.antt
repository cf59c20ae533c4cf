use Rattle.std.proofs.Common.{ℕ, [], ◌∷◌, ◌++◌, Some, ap, sym, refl, ◌∙◌, append_assoc, append-nil}
use Rattle.std.proofs.lemmas.Grind.{flat_map-append}
use Rattle.std.specs.List.{flat_map}
use Rattle.mvo_range.specs.declared.sort_place.SortPlace.{SortPlace}
use Rattle.mvo_txn.specs.Txns.{state_of}
use Rattle.mvo_visible.specs.Changes.{greatest}
use Rattle.mvo_validate.specs.Entries.{versions_of_place, versions_of_sort}
use Rattle.mvo_validate.proofs.Windows.{seen_between, seen_between-append}
use Rattle.mvo_validate.proofs.validate.last_in_range.Goals as goal

pub loop-place-init : goal.loop-place-init
loop-place-init g c = (λ _. refl, sym c.between-place-items.ensures ∙ sym c.into_iter-place-iterator.ensures.into_iter_gives)

pub loop-place-preserved : goal.loop-place-preserved
loop-place-preserved g c =
    let states = state_of c.args.table.now in
    let b = c.args.begin.0 in
    let e = c.args.end.0 in
    let one = versions_of_place c.args.chains.now c.args.index.now.versions in
    let ps = c.loop-place.yielded in
    let p : SortPlace × ℕ = (c.in-Some.place, c.in-Some.field-0-1) in (
      λ falling. c.greatest-last.ensures
          ∙ ap (λ l. greatest l c.last_between-here.result) (c.loop-place.invariant.0 falling)
          ∙ ap (greatest (seen_between states b e (flat_map one ps)))
          (c.last_between-here.ensures (falling c.row_key-key.result) ∙ ap (λ k. seen_between states b e (versions_of_sort c.args.chains.now c.args.index.now.versions k (Some c.in-Some.place.sort))) c.row_key-key.ensures
          ∙ ap (seen_between states b e) (sym (append-nil (one p))))
          ∙ sym (seen_between-append states b e (flat_map one ps) (flat_map one (p ∷ [])))
          ∙ ap (seen_between states b e) (sym (flat_map-append one ps (p ∷ []))),
      c.loop-place.invariant.1 ∙ ap (λ it. ps ++ it) c.in-Some.ensures.steps ∙ sym (append_assoc ps (p ∷ []) c.next.new.self),
    )

pub returns : goal.returns
returns g c falling =
    c.loop-place.invariant.0 falling
    ∙ ap (λ ps. seen_between (state_of c.args.table.now) c.args.begin.0 c.args.end.0 (flat_map (versions_of_place c.args.chains.now c.args.index.now.versions) ps))
    (sym (c.loop-place.invariant.1 ∙ ap (λ it. c.loop-place.yielded ++ it) c.in-None.ensures.steps.0 ∙ append-nil c.loop-place.yielded))
