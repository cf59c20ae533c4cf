use Rattle.std.proofs.Common.{Result, sym, ap, ◌∙◌, subst}
use Rattle.std.specs.Prelude.{not}
use Rattle.mvo_types.specs.declared.refusal.Refusal.{Refusal}
use Rattle.mvo_engine.specs.declared.kept.Kept.{Kept}
use Rattle.mvo_engine.specs.Keeping.{HasKept, may_go_on}
use Rattle.mvo_engine.proofs.engine.Engine.turn_or_rest.Goals as goal
use Rattle.mvo_engine.proofs.engine.Engine.turn_or_rest.Goals.{in-Ok-Idle, in-Err+else-ends_keeping}

pub returns-then-ends_keeping-clause-down : goal.returns-then-ends_keeping-clause-down
returns-then-ends_keeping-clause-down g c = (
  c.keep.new.keeper,
  subst (λ (r : Result Kept Refusal). HasKept g.D.Disk g.L.Run.opening c.args.policy.now c.args.keeper.now r c.keep.new.keeper) c.in-Err.is c.keep.ensures,
  sym c.ends_keeping.ensures ∙ c.if-ends_keeping.true,
)

pub returns-clause-ok : goal.returns-clause-ok
returns-clause-ok g c = (
  c.keep.result,
  c.keep.ensures,
  elim c.match-keep.branch [
    | in-Ok-Idle w ↦ ap may_go_on w.in-Ok-Idle.is
    | in-Err+else-ends_keeping w ↦
        ap may_go_on w.in-Err.is ∙ ap not (sym w.ends_keeping.ensures ∙ w.if-ends_keeping.false)
  ],
)
