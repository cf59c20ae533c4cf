-- How many groups went by: one more, none more, and those of an opening.
use Rattle.std.proofs.Common.{◌≡◌, ℕ, ◌+◌, ◌-◌, ◌^◌, Bool, true, false, List, [], ◌∷◌, ◌++◌, length, sym, ap, ◌∙◌, arith, length-append}
use Rattle.std.specs.Prelude.{min}
use Rattle.mvo_group.specs.Data.{GroupData}
use Rattle.mvo_engine.specs.Passing.{count_of_groups}

pub one_more : (n r : ℕ) (before after : List GroupData) (g : GroupData) → n ≡ count_of_groups before → r ≡ min (n + 1) (2 ^ 64 - 1) → after ≡ before ++ g ∷ [] → r ≡ count_of_groups after
one_more n r before after g a b is =
    let more : length (before ++ g ∷ []) ≡ length before + 1 = length-append before (g ∷ []) in
    let long : length after ≡ length (before ++ g ∷ []) = ap (λ (x : List GroupData). length x) is in
    omega (arith, a, b, more, long)

pub none_more : (n : ℕ) (before after : List GroupData) → n ≡ count_of_groups before → after ≡ before → n ≡ count_of_groups after
none_more n before after a is = a ∙ ap (λ (x : List GroupData). count_of_groups x) (sym is)
