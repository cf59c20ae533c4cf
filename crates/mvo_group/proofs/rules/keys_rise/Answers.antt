use Rattle.std.proofs.Common.{◌≡◌, false, true, map, List, [], refl, sym, ap, ◌∙◌, arith}
use Rattle.std.proofs.lemmas.List.{nil_from_length}
use Rattle.mvo_group.specs.declared.write.Write.{Write as RustWrite}
use Rattle.mvo_group.specs.Data.{write_data}
use Rattle.mvo_group.proofs.Orders.{do_keys_rise, keys_answer, front_falls}
use Rattle.mvo_group.proofs.rules.keys_rise.Goals as goal

pub returns-then-not-is_below : goal.returns-then-not-is_below
returns-then-not-is_below c =
    keys_answer false (map (λ w. w.0) (map write_data c.args.writes.now))
    (sym (sym c.loop-rest.invariant ∙ front_falls c.loop-rest.rest.now _ c.first-item.result c.second-item.result refl c.in-len1-up.len_at_least c.in-len1-up-after.len_at_least c.first-item.is c.second-item.is (sym c.if-not-is_below.ensures)))

pub returns : goal.returns
returns c =
    let nil : c.loop-rest.rest.now ≡ [] = nil_from_length c.loop-rest.rest.now (let h = c.in_default.len_below in omega arith) in
    keys_answer true (map (λ w. w.0) (map write_data c.args.writes.now)) (ap (λ (ws : List RustWrite). do_keys_rise (map (λ w. w.0) (map write_data ws))) (sym nil) ∙ c.loop-rest.invariant)
