-- The laws of the representation on how a transaction ends, at what the core keeps of one.
use Rattle.mvo_representation.specs.DependencyLaws.{PrecommitInTable, CheckInTable, CommitInTable, AbortInTable, TellsAwaited}
use Rattle.mvo_representation.specs.Laws.{NamesChange}
use Rattle.mvo_representation.specs.OrderLaws.{DrawKeepsOrder, AbortBringsOrder, CommitStaysInOrder, FrontsKeepNumbers, OrderFalls}
use Rattle.mvo_representation.specs.WordLaws.{PrecommitKeepsLists, CheckKeepsLists, CommitKeepsLists, AbortKeepsLists, ListsAreWritten}
use Rattle.mvo_representation.proofs.TableSteps.{table_prepared, table_checked, table_committed, table_aborted}
use Rattle.mvo_representation.proofs.TableTells.{awaited_is}
use Rattle.mvo_representation.proofs.Proved.{names_change}
use Rattle.mvo_representation.proofs.OrderAborts.{abort_brings_order, commit_stays_in_order}
use Rattle.mvo_representation.proofs.OrderEnds.{draw_keeps_order}
use Rattle.mvo_representation.proofs.OrderFalls.{order_falls}
use Rattle.mvo_representation.proofs.OrderOthers.{fronts_keep_numbers}
use Rattle.mvo_representation.proofs.WordsKept.{check_keeps_lists, commit_keeps_lists}
use Rattle.mvo_representation.proofs.WordsEnded.{precommit_keeps_lists, abort_keeps_lists}
use Rattle.mvo_representation.proofs.WordsSaid.{lists_are_written as written_lists}
use Rattle.mvo_core.specs.declared.kept_transaction.KeptTransaction.{KeptTransaction}

pub precommit_in_table : PrecommitInTable KeptTransaction
precommit_in_table = table_prepared

pub check_in_table : CheckInTable KeptTransaction
check_in_table = table_checked

pub commit_in_table : CommitInTable KeptTransaction
commit_in_table = table_committed

pub abort_in_table : AbortInTable KeptTransaction
abort_in_table = table_aborted

pub awaited_told : TellsAwaited KeptTransaction
awaited_told = awaited_is

pub change_named : NamesChange
change_named = names_change

pub draw_in_order : DrawKeepsOrder
draw_in_order = draw_keeps_order

pub abort_in_order : AbortBringsOrder
abort_in_order = abort_brings_order

pub commit_in_order : CommitStaysInOrder
commit_in_order = commit_stays_in_order

pub fronts_in_numbers : FrontsKeepNumbers
fronts_in_numbers = fronts_keep_numbers

pub stamps_fall : OrderFalls
stamps_fall = order_falls

pub precommit_in_lists : PrecommitKeepsLists
precommit_in_lists = precommit_keeps_lists

pub check_in_lists : CheckKeepsLists
check_in_lists = check_keeps_lists

pub commit_in_lists : CommitKeepsLists
commit_in_lists = commit_keeps_lists

pub abort_in_lists : AbortKeepsLists
abort_in_lists = abort_keeps_lists

pub lists_are_written : ListsAreWritten
lists_are_written = written_lists
