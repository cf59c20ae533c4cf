use Rattle.std.proofs.Common.{◌≡◌, ◌≤◌, ◌-◌, ◌++◌, [], ◌∷◌, arith}
use Rattle.mvo_theory.proofs.Each.{each_append}
use Rattle.mvo_engine.specs.declared.engine.TheConstants.{AT_ONCE}
use Rattle.mvo_engine.specs.Keeping.{WasPiece}
use Rattle.mvo_engine.proofs.Upkeep.{one_piece_more}
use Rattle.mvo_engine.proofs.engine.Engine.collect_some.Goals as goal
use Rattle.mvo_engine.proofs.engine.Engine.collect_some.Goals.{then-left-eq0-via-then-left-eq0, then-left-eq0-via-else-left-eq0+then-taken-asked}

pub returns-then-left-eq0 : goal.returns-then-left-eq0
returns-then-left-eq0 g c =
    let before = c.loop.invariant in
    let n = c.collect_up_to-taken.result in
    let least = c.min-asked.ensures in
    let few = c.collect_up_to-taken.ensures.few in
    let low : n ≤ c.loop.left = omega (arith, least, few) in
    let at_once : c.min-asked.result ≤ AT_ONCE = omega (arith, least) in
    let some : WasPiece n = (c.min-asked.result, at_once, (c.deref_mut.result.now, c.collect_up_to-taken.new.self, c.collect_up_to-taken.ensures.collected)) in
    let more = one_piece_more c.args.most c.loop.left n before.0 before.2 low in
    record {
      counts = before.0 ++ n ∷ [];
      each = each_append WasPiece before.0 (n ∷ []) before.1 (some, tt);
      sum = omega (arith, more);
      few = omega arith;
      fewer = λ less. elim c.then-left-eq0.branch [
        | then-left-eq0-via-then-left-eq0 w ↦
            let none = w.if-left-eq0.true in
            absurd (omega (arith, none, less))
        | then-left-eq0-via-else-left-eq0+then-taken-asked w ↦
            let fewer = w.if-taken-asked.true in
            (c.min-asked.result, n, omega (arith, fewer), (c.deref_mut.result.now, c.collect_up_to-taken.new.self, c.collect_up_to-taken.ensures.collected))
      ];
    }

pub loop-preserved : goal.loop-preserved
loop-preserved g c =
    let before = c.loop.invariant in
    let n = c.collect_up_to-taken.result in
    let least = c.min-asked.ensures in
    let few = c.collect_up_to-taken.ensures.few in
    let low : n ≤ c.loop.left = omega (arith, least, few) in
    let at_once : c.min-asked.result ≤ AT_ONCE = omega (arith, least) in
    let some : WasPiece n = (c.min-asked.result, at_once, (c.deref_mut.result.now, c.collect_up_to-taken.new.self, c.collect_up_to-taken.ensures.collected)) in (
      before.0 ++ n ∷ [],
      each_append WasPiece before.0 (n ∷ []) before.1 (some, tt),
      one_piece_more c.args.most c.loop.left n before.0 before.2 low,
    )
