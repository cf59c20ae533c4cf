use Rattle.std.proofs.Common.{sym, ◌∙◌}
use Rattle.mvo_core.proofs.Passed.{own_stays, none_stays}
use Rattle.mvo_core.proofs.finishing.pass_others.Goals as goal

pub returns-then-is_own-clause-words : goal.returns-then-is_own-clause-words
returns-then-is_own-clause-words c =
    sym (own_stays c.args.versions.now.slots c.args.tx.0 c.loop-place.writes.words c.in-Some.place c.in-Some.ensures c.if-is_own.ensures)
    ∙ c.loop-place.invariant

pub returns-clause-words : goal.returns-clause-words
returns-clause-words c =
    sym (none_stays c.args.versions.now.slots c.args.tx.0 c.loop-place.writes.words c.in_default.ensures)
    ∙ c.loop-place.invariant
