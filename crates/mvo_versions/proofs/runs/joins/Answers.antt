use Rattle.std.proofs.Common.{sym, ◌∙◌}
use Rattle.mvo_versions.proofs.Counting.{none_if}
use Rattle.mvo_versions.proofs.Putting.{like_held, joins_like}
use Rattle.mvo_versions.proofs.runs.joins.Goals as goal

pub newer-requires : goal.newer-requires
newer-requires c = like_held c.args.chains.now c.args.index.now.versions c.args.place c.in-Some.like c.requires (sym c.is_at.ensures ∙ c.if-is_at.true)

pub returns-then-is_none : goal.returns-then-is_none
returns-then-is_none c = joins_like c.args.chains.now c.args.index.now.versions c.args.place c.in-Some.like c.newer.result c.requires (sym c.is_at.ensures ∙ c.if-is_at.true) c.newer.ensures (none_if c.newer.result c.is_none.result c.is_none.ensures c.if-is_none.true)
