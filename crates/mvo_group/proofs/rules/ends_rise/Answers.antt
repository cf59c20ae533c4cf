use Rattle.std.proofs.Common.{rules, ◌≡◌, false, true, List, [], sym, ap, ◌∙◌, arith}
use Rattle.std.proofs.lemmas.List.{nil_from_length}
use Rattle.mvo_group.specs.Data.{RecordData}
use Rattle.mvo_group.proofs.Orders.{do_ends_rise, ends_answer}
use Rattle.mvo_group.proofs.rules.ends_rise.Goals as goal

pub returns-then-end-last : goal.returns-then-end-last
returns-then-end-last c =
    let e : false ≡ do_ends_rise c.args.prev.0 c.args.mark.0 c.args.records.now = search rules in
    ends_answer false c.args.prev.0 c.args.mark.0 c.args.records.now e

pub returns : goal.returns
returns c =
    let nil : c.loop-rest.rest.now ≡ [] = nil_from_length c.loop-rest.rest.now (let h = c.in_default.len_below in omega arith) in
    ends_answer true c.args.prev.0 c.args.mark.0 c.args.records.now (ap (λ (rs : List RecordData). do_ends_rise c.loop-rest.last c.args.mark.0 rs) (sym nil) ∙ c.loop-rest.invariant)
