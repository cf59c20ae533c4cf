use Rattle.mvo_visible.proofs.Moves.{new_keeps_order, front_keeps_order, less_keeps_order, unheld_keeps_order, alike_keeps_order}
use Rattle.mvo_visible.proofs.Orders.{abort_keeps_order, prepare_keeps_order, commit_keeps_order, fewer_keep_front, commit_keeps_front}
use Rattle.mvo_visible.proofs.laws.laws_of_order.Goals as goal

pub returns-clause-new : goal.returns-clause-new
returns-clause-new c = new_keeps_order

pub returns-clause-front : goal.returns-clause-front
returns-clause-front c = front_keeps_order

pub returns-clause-abort : goal.returns-clause-abort
returns-clause-abort c = abort_keeps_order

pub returns-clause-prepare : goal.returns-clause-prepare
returns-clause-prepare c = prepare_keeps_order

pub returns-clause-commit : goal.returns-clause-commit
returns-clause-commit c = commit_keeps_order

pub returns-clause-alike : goal.returns-clause-alike
returns-clause-alike c = alike_keeps_order

pub returns-clause-fewer : goal.returns-clause-fewer
returns-clause-fewer c = fewer_keep_front

pub returns-clause-commit_front : goal.returns-clause-commit_front
returns-clause-commit_front c = commit_keeps_front

pub returns-clause-less : goal.returns-clause-less
returns-clause-less c = less_keeps_order

pub returns-clause-unheld : goal.returns-clause-unheld
returns-clause-unheld c = unheld_keeps_order
