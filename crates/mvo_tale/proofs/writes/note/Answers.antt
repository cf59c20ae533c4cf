use Rattle.std.proofs.Common.{Some, ap, sym, ◌∙◌}
use Rattle.std.specs.Option.{option_map}
use Rattle.std.proofs.lemmas.List.{length-map, map-set}
use Rattle.std.proofs.lemmas.Map.Keys.{IsDistinct-from_sorted}
use Rattle.mvo_types.specs.Keys.{key_cmp}
use Rattle.mvo_types.proofs.Maps.{exact_keys}
use Rattle.mvo_tale.specs.Stored.{write_as, effect_data, effects_data}
use Rattle.mvo_tale.specs.Records.{with_newer}
use Rattle.mvo_tale.proofs.Noting.{no_write, other_write, set_write, searchable, not_there}
use Rattle.mvo_tale.proofs.writes.note.Goals as goal

pub returns-in_default : goal.returns-in_default
returns-in_default c =
    let ks = c.args.keys.now in
    let es = effects_data c.args.lasts.now.items in
    let many = length-map c.args.lasts.now.items (option_map effect_data) ∙ c.requires.len in
    sym (no_write ks es many)
    ∙ ap (λ w. with_newer (option_map write_as w) ks es) (sym c.in_default.is)

pub returns-in-Ok : goal.returns-in-Ok
returns-in-Ok c =
    let ks = c.args.keys.now in
    let es = effects_data c.args.lasts.now.items in
    let k = c.in-Some.key in
    let many = length-map c.args.lasts.now.items (option_map effect_data) ∙ c.requires.len in
    map-set (option_map effect_data) c.args.lasts.now.items c.in-Ok.place (Some c.in-Some.effect)
    ∙ set_write ks es c.in-Ok.place k (effect_data c.in-Some.effect) (IsDistinct-from_sorted key_cmp ks c.requires.rise) c.in-Ok.ensures.bound (exact_keys _ _ (c.in-Ok.ensures.ok k)) many
    ∙ ap (λ w. with_newer (option_map write_as w) ks es) (sym c.in-Some.is)

pub returns-in_default-binary_search : goal.returns-in_default-binary_search
returns-in_default-binary_search c =
    let ks = c.args.keys.now in
    let es = effects_data c.args.lasts.now.items in
    let k = c.in-Some.key in
    let many = length-map c.args.lasts.now.items (option_map effect_data) ∙ c.requires.len in
    let others = not_there ks k c.in_default-binary_search.field-0 (c.in_default-binary_search.ensures.position (searchable ks k c.requires.rise)) in
    sym (other_write ks es k (effect_data c.in-Some.effect) others many)
    ∙ ap (λ w. with_newer (option_map write_as w) ks es) (sym c.in-Some.is)
