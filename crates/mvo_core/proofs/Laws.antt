-- The laws of the representation, at what the core keeps of a transaction.
use Rattle.mvo_representation.specs.DependencyLaws.{BeginInTable, WriteInTable, AnswerInTable, TellsFlagOfActive, TellsFlagOfPreparing}
use Rattle.mvo_representation.specs.TableLaws.{TellsWhyNotBegun}
use Rattle.mvo_representation.specs.Laws.{EachCallKeeps}
use Rattle.mvo_representation.specs.OrderLaws.{BeginKeepsOrder}
use Rattle.mvo_representation.specs.WordLaws.{BeginKeepsLists}
use Rattle.mvo_representation.proofs.TableSteps.{table_begun, table_written}
use Rattle.mvo_representation.proofs.TableTells.{flag_of_active_is, flag_of_preparing_is}
use Rattle.mvo_representation.proofs.TableCounts.{why_not_begun_is}
use Rattle.mvo_representation.proofs.Proved.{each_call_keeps}
use Rattle.mvo_representation.proofs.OrderAborts.{begin_keeps_order}
use Rattle.mvo_representation.proofs.TableRegistered.{table_answered}
use Rattle.mvo_representation.proofs.WordsKept.{begin_keeps_lists}
use Rattle.mvo_deps.specs.declared.node.Node.{Node}
use Rattle.mvo_core.specs.declared.kept_transaction.KeptTransaction.{KeptTransaction}

pub flag_of_active_told : TellsFlagOfActive KeptTransaction
flag_of_active_told = flag_of_active_is

pub flag_of_preparing_told : TellsFlagOfPreparing KeptTransaction
flag_of_preparing_told = flag_of_preparing_is

pub why_not_begun_told : TellsWhyNotBegun (Node KeptTransaction)
why_not_begun_told = why_not_begun_is

pub begin_in_table : BeginInTable KeptTransaction
begin_in_table = table_begun

pub write_in_table : WriteInTable KeptTransaction
write_in_table = table_written

pub call_keeps : EachCallKeeps
call_keeps = each_call_keeps

pub begin_in_order : BeginKeepsOrder
begin_in_order = begin_keeps_order

pub begin_in_lists : BeginKeepsLists
begin_in_lists = begin_keeps_lists

pub answer_in_table : AnswerInTable KeptTransaction
answer_in_table = table_answered
