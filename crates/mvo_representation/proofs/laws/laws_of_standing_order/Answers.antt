use Rattle.mvo_representation.proofs.OrderFalls.{order_falls, order_has_own_in_front, trim_keeps_order}
use Rattle.mvo_representation.proofs.OrderOperations.{insert_keeps_order, delete_keeps_order, update_keeps_order}
use Rattle.mvo_representation.proofs.OrderEnds.{draw_keeps_order, forward_is_same, unstamped_is_unseen}
use Rattle.mvo_representation.proofs.OrderAborts.{abort_brings_order, begin_keeps_order, commit_stays_in_order, leaving_keeps_order, same_stay_in_order}
use Rattle.mvo_representation.proofs.OrderSteps.{alike_stay_in_order, removal_keeps_order, unheld_stays_in_order, single_stand_in_order}
use Rattle.mvo_representation.proofs.OrderOthers.{finish_stays_in_order, opening_stands_in_order, fronts_keep_numbers, numbers_are_among, holes_are_fresh}
use Rattle.mvo_representation.proofs.OrderSlots.{added_is_now, changed_is_now}
use Rattle.mvo_representation.proofs.laws.laws_of_standing_order.Goals as goal

pub returns-clause-falls : goal.returns-clause-falls
returns-clause-falls c = order_falls

pub returns-clause-own_in_front : goal.returns-clause-own_in_front
returns-clause-own_in_front c = order_has_own_in_front

pub returns-clause-insert : goal.returns-clause-insert
returns-clause-insert c = insert_keeps_order

pub returns-clause-delete : goal.returns-clause-delete
returns-clause-delete c = delete_keeps_order

pub returns-clause-update : goal.returns-clause-update
returns-clause-update c = update_keeps_order

pub returns-clause-draw : goal.returns-clause-draw
returns-clause-draw c = draw_keeps_order

pub returns-clause-abort : goal.returns-clause-abort
returns-clause-abort c = abort_brings_order

pub returns-clause-alike : goal.returns-clause-alike
returns-clause-alike c = alike_stay_in_order

pub returns-clause-begin : goal.returns-clause-begin
returns-clause-begin c = begin_keeps_order

pub returns-clause-commit : goal.returns-clause-commit
returns-clause-commit c = commit_stays_in_order

pub returns-clause-finish : goal.returns-clause-finish
returns-clause-finish c = finish_stays_in_order

pub returns-clause-leaving : goal.returns-clause-leaving
returns-clause-leaving c = leaving_keeps_order

pub returns-clause-trim : goal.returns-clause-trim
returns-clause-trim c = trim_keeps_order

pub returns-clause-removal : goal.returns-clause-removal
returns-clause-removal c = removal_keeps_order

pub returns-clause-unheld : goal.returns-clause-unheld
returns-clause-unheld c = unheld_stays_in_order

pub returns-clause-single : goal.returns-clause-single
returns-clause-single c = single_stand_in_order

pub returns-clause-opening : goal.returns-clause-opening
returns-clause-opening c = opening_stands_in_order

pub returns-clause-numbers : goal.returns-clause-numbers
returns-clause-numbers c = fronts_keep_numbers

pub returns-clause-among : goal.returns-clause-among
returns-clause-among c = numbers_are_among

pub returns-clause-holes : goal.returns-clause-holes
returns-clause-holes c = holes_are_fresh

pub returns-clause-added : goal.returns-clause-added
returns-clause-added c = added_is_now

pub returns-clause-changed : goal.returns-clause-changed
returns-clause-changed c = changed_is_now

pub returns-clause-forward : goal.returns-clause-forward
returns-clause-forward c = forward_is_same

pub returns-clause-unseen : goal.returns-clause-unseen
returns-clause-unseen c = unstamped_is_unseen

pub returns-clause-same : goal.returns-clause-same
returns-clause-same c = same_stay_in_order
