use Rattle.std.proofs.Common.{◌≡◌, ◌∷◌, [], ◌++◌, Some, get_or, map, take, sym, ap, ◌∙◌}
use Rattle.std.proofs.lemmas.List.{map_push}
use Rattle.std.specs.Option.{option_map}
use Rattle.mvo_types.specs.declared.row.RowKey.{RowKey}
use Rattle.mvo_types.specs.Write.{Write}
use Rattle.mvo_group.specs.Data.{write_data}
use Rattle.mvo_model.specs.History.{net_write}
use Rattle.mvo_theory.specs.Told.{history_told}
use Rattle.mvo_tale.specs.Records.{net_writes}
use Rattle.mvo_tale.specs.Stored.{effect_data}
use Rattle.mvo_tale.proofs.NetWrites.{writes_more, writes_same}
use Rattle.mvo_tale.proofs.Noting.{at_place}
use Rattle.mvo_tale.proofs.commit_record.writes_at.Goals as goal
use Rattle.mvo_tale.proofs.commit_record.writes_at.Goals.{in-Some+in_ok-left_at+in_ok-push, in_default}

pub loop-place-preserved : goal.loop-place-preserved
loop-place-preserved c =
    let ts = history_told c.args.operations.now in
    let i = c.loop-place.place in
    let ks = c.args.keys.now in
    let d : RowKey = record { table = 0; key = 0 } in
    let there : net_write (get_or ks i d) ts ≡ option_map effect_data c.index.result.now = at_place ks c.in_ok-lasts.lasts.items (λ k. net_write k ts) i d c.index.result.now c.in_ok-lasts.ensures c.loop-place-test.true c.index.ensures in
    elim c.match-index.branch [
      | in-Some+in_ok-left_at+in_ok-push w ↦ ap (λ ws. map write_data ws.items) w.writes-is
          ∙ ap (map write_data) w.in_ok-push.ensures.items
          ∙ map_push write_data c.loop-place.writes.items w.in_ok-left_at.field-0
          ∙ ap (λ xs. xs ++ write_data w.in_ok-left_at.field-0 ∷ []) c.loop-place.invariant
          ∙ ap (λ (x : Write). net_writes ts (take i ks) ++ x ∷ []) w.in_ok-left_at.ensures
          ∙ sym (writes_more ts ks i d (Some (effect_data w.in-Some.effect)) c.loop-place-test.true (there ∙ ap (option_map effect_data) w.in-Some.is))
      | in_default w ↦ ap (λ ws. map write_data ws.items) w.writes-is
          ∙ c.loop-place.invariant
          ∙ writes_same ts ks i d c.loop-place-test.true (there ∙ ap (option_map effect_data) w.in_default.is)
    ]
