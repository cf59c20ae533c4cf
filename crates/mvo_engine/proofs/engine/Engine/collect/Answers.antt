use Rattle.std.proofs.Common.{◌≡◌, ◌+◌, ◌-◌, ◌^◌, ℕ, List, [], ◌∷◌, ◌++◌, arith}
use Rattle.std.specs.Prelude.{min}
use Rattle.std.specs.List.{sum}
use Rattle.std.proofs.lemmas.List.Sums.{fold-append}
use Rattle.mvo_theory.proofs.Each.{each_append}
use Rattle.mvo_engine.specs.declared.engine.TheConstants.{AT_ONCE}
use Rattle.mvo_engine.specs.Collecting.{WasCollected}
use Rattle.mvo_engine.proofs.engine.Engine.collect.Goals as goal

-- one collection more
sum_so : (all n r : ℕ) (before : List ℕ) → all ≡ min (sum before) (2 ^ 64 - 1) → r ≡ min (all + n) (2 ^ 64 - 1) → r ≡ min (sum (before ++ n ∷ [])) (2 ^ 64 - 1)
sum_so all n r before a b =
    let more : sum (before ++ n ∷ []) ≡ sum before + n = fold-append ◌+◌ 0 before (n ∷ []) in
    omega (arith, a, b, more)

pub returns-then-taken-lt-AT_ONCE : goal.returns-then-taken-lt-AT_ONCE
returns-then-taken-lt-AT_ONCE g c =
    let before = c.loop.invariant in
    let n = c.collect_up_to-taken.result in
    let fewer = c.if-taken-lt-AT_ONCE.true in
    record {
      before = before.0;
      last = n;
      fewer = omega (arith, fewer);
      each = each_append (WasCollected AT_ONCE) before.0 (n ∷ []) before.1 ((c.deref_mut.result.now, c.collect_up_to-taken.new.self, c.collect_up_to-taken.ensures.collected), tt);
      sum = sum_so c.loop.all n c.saturating_add-all.result before.0 before.2 c.saturating_add-all.ensures;
    }

pub loop-preserved : goal.loop-preserved
loop-preserved g c =
    let before = c.loop.invariant in
    let n = c.collect_up_to-taken.result in (
      before.0 ++ n ∷ [],
      each_append (WasCollected AT_ONCE) before.0 (n ∷ []) before.1 ((c.deref_mut.result.now, c.collect_up_to-taken.new.self, c.collect_up_to-taken.ensures.collected), tt),
      sum_so c.loop.all n c.saturating_add-all.result before.0 before.2 c.saturating_add-all.ensures,
    )
