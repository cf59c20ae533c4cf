use Rattle.std.proofs.Common.{rules}
use Rattle.std.proofs.lemmas.List.Sorted.{answers_always}
use Rattle.mvo_group.specs.Data.{write_data}
use Rattle.mvo_load.proofs.Replaying.{sorted_same}
use Rattle.mvo_load.proofs.replay.sorted.Goals as goal

pub returns : goal.returns
returns c =
    let keys = answers_always _ _ _ (λ f a r next called. search rules) in
    λ rows. sorted_same rows _ _ (c.sort_by_key.ensures.stable (λ w. (write_data w).0) keys)
