use Rattle.std.proofs.Common.{◌∙◌, ◌+◌, ◌<◌, ◌^◌, List, [], ◌∷◌, ◌++◌, length, take, sym, ap}
use Rattle.std.specs.Prelude.{map}
use Rattle.std.proofs.lemmas.List.{map_more}
use Rattle.std.proofs.lemmas.List.Elements.{All-more}
use Rattle.mvo_pair.specs.declared.pair.Pair.{Pair}
use Rattle.mvo_recovery.specs.Checkpoint.{raise}
use Rattle.mvo_store.specs.Checkpoint.{gained}
use Rattle.mvo_store.proofs.checkpoint.planning.raised.Goals as goal

pub loop-pair-preserved : goal.loop-pair-preserved
loop-pair-preserved c =
    let ds = c.args.deltas.now in
    let ps = c.args.pairs.now in
    let i = c.loop-pair.pair-index in
    let so_far = c.loop-pair.invariant in
    let is = c.in-Some.ensures in
    let lt : i < length ps = c.loop-pair-test.true in (
      c.in_ok-push.ensures.items
          ∙ ap (λ (l : List Pair). l ++ c.in-Some.raised ∷ []) so_far.0
          ∙ ap (λ (p : Pair). map (raise (gained ds)) (take i ps) ++ p ∷ []) is.1
          ∙ sym (map_more (raise (gained ds)) ps i _ lt),
      All-more (λ (p : Pair). p.entries + length (gained ds p) < 2 ^ 32) ps i _ lt so_far.1 is.0,
    )
