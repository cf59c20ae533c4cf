use Rattle.mvo_representation.proofs.WordsKept.{opening_has_lists, begin_keeps_lists, answer_keeps_lists, check_keeps_lists, commit_keeps_lists, trim_keeps_lists, close_keeps_lists}
use Rattle.mvo_representation.proofs.WordsSaid.{lists_are_written, done_is_seen, none_is_unnamed, passing_keeps_lists, removal_keeps_lists, room_keeps_lists}
use Rattle.mvo_representation.proofs.WordsEnded.{precommit_keeps_lists, abort_keeps_lists}
use Rattle.mvo_representation.proofs.WordsWritten.{insert_keeps_lists, delete_keeps_lists, update_keeps_lists}
use Rattle.mvo_representation.proofs.WordsFinished.{last_is_unnamed, finish_keeps_lists, last_keeps_lists, leaving_keeps_lists}
use Rattle.mvo_representation.proofs.WordsStand.{finished_is_alike, finished_stands}
use Rattle.mvo_representation.proofs.WordPuts.{one_put_is_left, one_put_stands}
use Rattle.mvo_representation.proofs.laws.laws_of_words.Goals as goal

pub returns-clause-opening : goal.returns-clause-opening
returns-clause-opening c = opening_has_lists

pub returns-clause-begin : goal.returns-clause-begin
returns-clause-begin c = begin_keeps_lists

pub returns-clause-insert : goal.returns-clause-insert
returns-clause-insert c = insert_keeps_lists

pub returns-clause-delete : goal.returns-clause-delete
returns-clause-delete c = delete_keeps_lists

pub returns-clause-update : goal.returns-clause-update
returns-clause-update c = update_keeps_lists

pub returns-clause-answer : goal.returns-clause-answer
returns-clause-answer c = answer_keeps_lists

pub returns-clause-precommit : goal.returns-clause-precommit
returns-clause-precommit c = precommit_keeps_lists

pub returns-clause-check : goal.returns-clause-check
returns-clause-check c = check_keeps_lists

pub returns-clause-commit : goal.returns-clause-commit
returns-clause-commit c = commit_keeps_lists

pub returns-clause-abort : goal.returns-clause-abort
returns-clause-abort c = abort_keeps_lists

pub returns-clause-passing : goal.returns-clause-passing
returns-clause-passing c = passing_keeps_lists

pub returns-clause-done : goal.returns-clause-done
returns-clause-done c = done_is_seen

pub returns-clause-finish : goal.returns-clause-finish
returns-clause-finish c = finish_keeps_lists

pub returns-clause-last : goal.returns-clause-last
returns-clause-last c = last_is_unnamed

pub returns-clause-last_kept : goal.returns-clause-last_kept
returns-clause-last_kept c = last_keeps_lists

pub returns-clause-none : goal.returns-clause-none
returns-clause-none c = none_is_unnamed

pub returns-clause-leaving : goal.returns-clause-leaving
returns-clause-leaving c = leaving_keeps_lists

pub returns-clause-alike : goal.returns-clause-alike
returns-clause-alike c = finished_is_alike

pub returns-clause-stands : goal.returns-clause-stands
returns-clause-stands c = finished_stands

pub returns-clause-trim : goal.returns-clause-trim
returns-clause-trim c = trim_keeps_lists

pub returns-clause-close : goal.returns-clause-close
returns-clause-close c = close_keeps_lists

pub returns-clause-removal : goal.returns-clause-removal
returns-clause-removal c = removal_keeps_lists

pub returns-clause-room : goal.returns-clause-room
returns-clause-room c = room_keeps_lists

pub returns-clause-written : goal.returns-clause-written
returns-clause-written c = lists_are_written

pub returns-clause-one_left : goal.returns-clause-one_left
returns-clause-one_left c = one_put_is_left

pub returns-clause-one_stands : goal.returns-clause-one_stands
returns-clause-one_stands c = one_put_stands
