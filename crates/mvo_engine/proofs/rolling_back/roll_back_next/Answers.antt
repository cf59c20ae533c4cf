use Rattle.std.proofs.Common.{sym, ◌∙◌}
use Rattle.std.proofs.lemmas.Option.{none-some}
use Rattle.mvo_engine.proofs.RollingBack.{may_be_undone}
use Rattle.mvo_engine.proofs.rolling_back.roll_back_next.Goals as goal

pub unreachable-requires : goal.unreachable-requires
unreachable-requires g c = none-some _ (sym (may_be_undone _ _ c.in-Some.ensures.next.0.1) ∙ c.in-Err.ensures.cause)
