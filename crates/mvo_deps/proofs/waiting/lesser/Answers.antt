use Rattle.std.proofs.Common.{sym, inl, inr}
use Rattle.mvo_deps.proofs.Least.{least_skipped, least_replaced, least_stays}
use Rattle.mvo_deps.proofs.waiting.lesser.Goals as goal

pub returns-in_default : goal.returns-in_default
returns-in_default g c = record { stays = λ ids h. least_skipped c.args.table.now ids c.args.id c.args.least c.args.least_end.0 (sym c.in_default.ensures) h }

pub returns-then-is_none : goal.returns-then-is_none
returns-then-is_none g c = record { stays = λ ids h. least_replaced c.args.table.now ids c.args.id c.args.least c.args.least_end.0 c.in-Some.end.0 (sym c.in-Some.ensures) (inl c.if-is_none.ensures) h }

pub returns-then-end-least_end : goal.returns-then-end-least_end
returns-then-end-least_end g c = record { stays = λ ids h. least_replaced c.args.table.now ids c.args.id c.args.least c.args.least_end.0 c.in-Some.end.0 (sym c.in-Some.ensures) (inr c.if-end-least_end.true) h }

pub returns : goal.returns
returns g c = record { stays = λ ids h. least_stays c.args.table.now ids c.args.id c.args.least c.args.least_end.0 c.in-Some.end.0 (sym c.in-Some.ensures) c.if-is_none.ensures c.if-end-least_end.false h }
