use Rattle.std.proofs.Common.{◌≡◌, ◌≤◌, ◌++◌, [], ◌∷◌, Option, Some, Result, Ok, refl, subst, arith, rules}
use Rattle.mvo_types.specs.declared.ids.Stamp.{Stamp}
use Rattle.mvo_types.specs.declared.refusal.Refusal.{Refusal}
use Rattle.mvo_theory.proofs.Each.{each_append}
use Rattle.mvo_core.specs.Seen.{clock_of}
use Rattle.mvo_engine.specs.Flushing.{IsWholeFlush}
use Rattle.mvo_engine.specs.Keeping.IsFlushToEnd.{Refused, Reached, Stayed}
use Rattle.mvo_engine.proofs.Upkeep.{EndsWith, each_twice}
use Rattle.mvo_engine.proofs.engine.Engine.flush_to_end.Goals as goal

pub returns-in-Err : goal.returns-in-Err
returns-in-Err g c =
    let before = c.loop.invariant in
    Refused before.0 before.1 c.in-Err.refusal (subst (λ (r : Result Stamp Refusal). IsWholeFlush g.D.Disk r) c.in-Err.is c.flush.ensures) refl

pub returns-then-le : goal.returns-then-le
returns-then-le g c =
    let before = c.loop.invariant in
    let one = subst (λ (r : Result Stamp Refusal). IsWholeFlush g.D.Disk r) c.in-Ok.is c.flush.ensures in
    let reached : clock_of c.deref.result.now.core ≤ c.in-Ok.mark.0 = first_of (grind (arith, c.if-le.true, c.le.ensures, c.clock-clock.ensures.value), search rules) in
    Reached c.deref.result.now c.clock-clock.ensures.legal before.0 c.in-Ok.mark (each_append (λ (m : Stamp). IsWholeFlush g.D.Disk (Ok m)) before.0 (c.in-Ok.mark ∷ []) before.1 (one, tt)) reached refl

pub returns-then-eq : goal.returns-then-eq
returns-then-eq g c =
    let before = c.loop.invariant in
    let one = subst (λ (r : Result Stamp Refusal). IsWholeFlush g.D.Disk r) c.in-Ok.is c.flush.ensures in
    let same : c.loop.before ≡ Some c.in-Ok.mark = first_of (grind (arith, c.if-eq.true, c.eq.ensures), search rules) in
    let ends : EndsWith (Some c.in-Ok.mark) before.0 = subst (λ (o : Option Stamp). EndsWith o before.0) same before.2 in
    Stayed ends.0 c.in-Ok.mark (each_twice (λ (m : Stamp). IsWholeFlush g.D.Disk (Ok m)) ends.0 before.0 c.in-Ok.mark ends.1 before.1 one) refl

pub loop-preserved : goal.loop-preserved
loop-preserved g c =
    let before = c.loop.invariant in
    let one = subst (λ (r : Result Stamp Refusal). IsWholeFlush g.D.Disk r) c.in-Ok.is c.flush.ensures in (
      before.0 ++ c.in-Ok.mark ∷ [],
      each_append (λ (m : Stamp). IsWholeFlush g.D.Disk (Ok m)) before.0 (c.in-Ok.mark ∷ []) before.1 (one, tt),
      (before.0, refl),
    )
