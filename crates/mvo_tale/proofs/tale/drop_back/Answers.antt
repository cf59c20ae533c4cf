use Rattle.std.proofs.Common.{◌≡◌, ℕ, ◌<◌, [], length, sym, ap, ◌∙◌, arith}
use Rattle.mvo_tale.specs.Slots.{without_empty_back}
use Rattle.mvo_tale.specs.Forgetting.{behind_gone}
use Rattle.mvo_tale.proofs.Gone.{closed_kept, closed_whole, no_places}
use Rattle.mvo_tale.proofs.tale.drop_back.Goals as goal

pub returns-then-len-eq0-clause-same : goal.returns-then-len-eq0-clause-same
returns-then-len-eq0-clause-same c =
    let xs = c.args.slots.now.items in
    let none : c.drop_empty.new.slots.items ≡ [] = no_places c.drop_empty.new.slots.items (omega arith) in
    let n : c.len-count.result ≡ length xs = c.len-count.ensures in
    ap (behind_gone c.len-count.result) none
    ∙ ap (λ (m : ℕ). behind_gone m []) n
    ∙ closed_whole xs (sym c.drop_empty.ensures.kept ∙ none)

pub returns-clause-same : goal.returns-clause-same
returns-clause-same c =
    let xs = c.args.slots.now.items in
    let some : 0 < length (without_empty_back xs) = omega (arith, ap length c.drop_empty.ensures.kept, c.len.ensures, c.if-len-eq0.false) in
    c.drop_empty.ensures.kept ∙ closed_kept xs some
