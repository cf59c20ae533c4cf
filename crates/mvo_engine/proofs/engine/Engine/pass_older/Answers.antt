use Rattle.std.proofs.Common.{ℕ, [], ◌∷◌, ◌++◌, None, subst}
use Rattle.mvo_theory.proofs.Each.{each_append}
use Rattle.mvo_core.specs.Unfinished.{IsNextActive}
use Rattle.mvo_engine.specs.RollingBack.{HasGivenWay}
use Rattle.mvo_engine.proofs.RollingBack.{one_more_counts, more_than_none}
use Rattle.mvo_engine.proofs.engine.Engine.pass_older.Goals as goal

pub returns-in_default : goal.returns-in_default
returns-in_default g c =
    let before = c.loop.invariant in
    let old = c.deref_mut.result.now in
    record {
      ids = before.0;
      each = before.1;
      count = before.2;
      none = λ e. record {
        state = old;
        sound = c.roll_back_next-next.ensures.sound;
        none = subst (λ (from : ℕ). IsNextActive old.core.table from c.args.stamp.0 None) (before.3 e) c.in_default.ensures.next;
      };
    }

pub loop-preserved : goal.loop-preserved
loop-preserved g c =
    let before = c.loop.invariant in
    let t = c.in-Some-next.tx.0 in
    let one : HasGivenWay g.L.Run.opening c.args.stamp.0 t = record {
      old = c.deref_mut.result.now;
      new = c.roll_back_next-next.new.core;
      sound = c.roll_back_next-next.ensures.sound;
      from = c.loop.from.0;
      next = c.in-Some-next.ensures.next;
      rolled_back = c.in-Some-next.ensures.rolled_back;
      finished = c.finish.ensures;
    } in (
      before.0 ++ t ∷ [],
      each_append (HasGivenWay g.L.Run.opening c.args.stamp.0) before.0 (t ∷ []) before.1 (one, tt),
      one_more_counts c.loop.all c.saturating_add-all.result t before.0 before.2 c.saturating_add-all.ensures,
      λ e. absurd (more_than_none c.loop.all c.saturating_add-all.result c.saturating_add-all.ensures e),
    )
