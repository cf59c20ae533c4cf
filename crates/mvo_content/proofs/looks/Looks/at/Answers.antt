use Rattle.std.proofs.Common.{◌≡◌, ◌++◌, List, None, Some, sym, ap, ◌∙◌}
use Rattle.std.specs.Prelude.{slice_get}
use Rattle.std.specs.Option.{option_map}
use Rattle.std.specs.Map.Iter.{deref_pair}
use Rattle.std.proofs.lemmas.Option.{slice_get-map}
use Rattle.mvo_types.specs.declared.entry.Entry.{Entry}
use Rattle.mvo_content.specs.declared.rows_shown.RowsShown.{RowsShown}
use Rattle.mvo_content.specs.Looks.{LooksData, look_of}
use Rattle.mvo_content.proofs.Places.{place_front, look_behind_few}
use Rattle.mvo_content.proofs.looks.Looks.at.Goals as goal

pub returns-in-Some : goal.returns-in-Some
returns-in-Some c =
    let few = c.self.inside.few.items in
    let behind = c.self.inside.behind.entries in
    let place = c.args.place in
    let there : slice_get few place ≡ Some (deref_pair c.in-Some.found) =
    sym (ap (λ (ls : List (Entry × RowsShown)). slice_get ls place) c.deref.ensures.value) ∙ sym c.few_at.ensures ∙ ap (option_map deref_pair) c.in-Some.is in
    ap (option_map look_of) (sym (place_front few behind place (deref_pair c.in-Some.found) there))
    ∙ sym (slice_get-map look_of (few ++ behind) place)
    ∙ ap (λ (d : LooksData). slice_get d.looked place) c.self.view_is

pub returns-in-None : goal.returns-in-None
returns-in-None c =
    let few = c.self.inside.few.items in
    let behind = c.self.inside.behind.entries in
    let place = c.args.place in
    let none : slice_get few place ≡ None =
    sym (ap (λ (ls : List (Entry × RowsShown)). slice_get ls place) c.deref.ensures.value) ∙ sym c.few_at.ensures ∙ ap (option_map deref_pair) c.in-None.is in
    ap (option_map look_of) (c.get_index.ensures.entry ∙ ap (slice_get behind) c.saturating_sub.ensures ∙ sym (look_behind_few few behind place c.self.invariant none))
    ∙ sym (slice_get-map look_of (few ++ behind) place)
    ∙ ap (λ (d : LooksData). slice_get d.looked place) c.self.view_is
