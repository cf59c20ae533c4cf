use Rattle.std.proofs.Common.{◌≡◌, [], ◌∷◌, ◌++◌, arith, true, false, Bool, Result, Ok, refl, subst}
use Rattle.mvo_types.specs.declared.refusal.Refusal.{Refusal}
use Rattle.mvo_store.specs.Flushing.{IsTurn}
use Rattle.mvo_theory.proofs.Each.{each_append}
use Rattle.mvo_engine.specs.Calls.{IsTaking, IsLockedCall}
use Rattle.mvo_engine.specs.Flushing.{IsClosingFirst, IsFlushOfOne, WasFlushed}
use Rattle.mvo_engine.specs.Flushing.IsWholeFlush.{AtClosing, AtTurn, AtEnd}
use Rattle.mvo_engine.proofs.engine.Engine.flush.Goals as goal

pub returns-in-Err : goal.returns-in-Err
returns-in-Err g c = AtClosing c.in-Err.refusal refl (subst IsClosingFirst c.in-Err.is c.close_group.ensures)

pub loop-preserved : goal.loop-preserved
loop-preserved g c =
    let before = c.loop.invariant in
    let is : c.flush_one-came.result ≡ Ok true = grind arith in
    let flushed = subst (λ (r : Result Bool Refusal). IsFlushOfOne c.lock_store-store.result r c.flush_one-came.new.self) is c.flush_one-came.ensures.flushed in
    (before.0 ++ flushed.group ∷ [], before.1, each_append (WasFlushed g.row.D.Denot) before.0 (flushed.group ∷ []) before.2 ((c.lock_store-store.result, c.flush_one-came.new.self, flushed, refl), tt))

pub returns-in-Ok-false : goal.returns-in-Ok-false
returns-in-Ok-false g c =
    let is : c.flush_one-came.result ≡ Ok false = grind arith in
    let none = subst (λ (r : Result Bool Refusal). IsFlushOfOne c.lock_store-store.result r c.flush_one-came.new.self) is c.flush_one-came.ensures.flushed in
    AtEnd c.loop.invariant.1 c.loop.invariant.0 c.loop.invariant.2 c.mark.result refl c.lock_store-store.result c.flush_one-came.new.self none c.mark.ensures.value

pub returns-in-Err-came : goal.returns-in-Err-came
returns-in-Err-came g c =
    let turn = subst (λ (r : Result Bool Refusal). IsTurn (IsTaking g.D.Disk) (IsLockedCall g.D.Disk) c.lock_store-store.result r c.flush_one-came.new.self) c.in-Err-came.is c.flush_one-came.ensures.steps in
    AtTurn c.loop.invariant.1 c.loop.invariant.0 c.loop.invariant.2 c.in-Err-came.refusal refl c.lock_store-store.result c.flush_one-came.new.self turn
