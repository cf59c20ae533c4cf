-- The laws of the representation that finishing rests on, at what the core keeps of a transaction.
use Rattle.mvo_representation.specs.DependencyLaws.{WordInTable, LeaveInTable}
use Rattle.mvo_representation.specs.OrderLaws.{ChangedIsNow, FinishStaysInOrder, LeavingKeepsOrder}
use Rattle.mvo_representation.specs.WordLaws.{PassingKeepsLists, DoneIsSeen, FinishKeepsLists, LastIsUnnamed, LastKeepsLists, NoneIsUnnamed, LeavingKeepsLists, FinishedStands}
use Rattle.mvo_representation.proofs.TableSteps.{table_word, table_left}
use Rattle.mvo_representation.proofs.OrderSlots.{changed_is_now}
use Rattle.mvo_representation.proofs.OrderOthers.{finish_stays_in_order}
use Rattle.mvo_representation.proofs.OrderAborts.{leaving_keeps_order}
use Rattle.mvo_representation.proofs.WordsSaid.{passing_keeps_lists, done_is_seen, none_is_unnamed}
use Rattle.mvo_representation.proofs.WordsFinished.{finish_keeps_lists, last_is_unnamed, last_keeps_lists, leaving_keeps_lists}
use Rattle.mvo_representation.proofs.WordsStand.{finished_stands}
use Rattle.mvo_core.specs.declared.kept_transaction.KeptTransaction.{KeptTransaction}

pub word_in_table : WordInTable KeptTransaction
word_in_table = table_word

pub leave_in_table : LeaveInTable KeptTransaction
leave_in_table = table_left

pub changed_now : ChangedIsNow
changed_now = changed_is_now

pub finish_in_order : FinishStaysInOrder
finish_in_order = finish_stays_in_order

pub leaving_in_order : LeavingKeepsOrder
leaving_in_order = leaving_keeps_order

pub passing_in_lists : PassingKeepsLists
passing_in_lists = passing_keeps_lists

pub done_seen : DoneIsSeen
done_seen = done_is_seen

pub none_unnamed : NoneIsUnnamed
none_unnamed = none_is_unnamed

pub finish_in_lists : FinishKeepsLists
finish_in_lists = finish_keeps_lists

pub last_unnamed : LastIsUnnamed
last_unnamed = last_is_unnamed

pub last_in_lists : LastKeepsLists
last_in_lists = last_keeps_lists

pub leaving_in_lists : LeavingKeepsLists
leaving_in_lists = leaving_keeps_lists

pub finished_stands_for : FinishedStands
finished_stands_for = finished_stands
