use Rattle.std.proofs.Common.{ℕ, ◌-◌, sym, ap, ◌∙◌, arith}
use Rattle.std.specs.Prelude.{slice_get}
use Rattle.mvo_tale.proofs.Backs.{ends_in, last_there}
use Rattle.mvo_tale.proofs.tale.ends_empty.Goals as goal

pub returns-in-Some-clause-kept : goal.returns-in-Some-clause-kept
returns-in-Some-clause-kept c =
    let xs = c.args.slots.now.items in
    ends_in xs c.in-Some.slot.now c.is_empty.result
    (ap (λ (n : ℕ). slice_get xs (n - 1)) (sym c.len-len.ensures) ∙ sym c.in-Some.ensures)
    c.is_empty.ensures

pub returns-in-None-clause-kept : goal.returns-in-None-clause-kept
returns-in-None-clause-kept c =
    let xs = c.args.slots.now.items in
    absurd (last_there xs (omega arith) (ap (λ (n : ℕ). slice_get xs (n - 1)) (sym c.len-len.ensures) ∙ sym c.in-None.ensures))
