use Rattle.mvo_representation.proofs.TableSteps.{table_opened, table_begun, table_written, table_prepared, table_checked, table_committed, table_aborted, table_word, table_left, table_trimmed, table_closed}
use Rattle.mvo_representation.proofs.OnWhom.{key_named, scan_named}
use Rattle.mvo_representation.proofs.TableRegistered.{table_answered}
use Rattle.mvo_representation.proofs.TableTells.{flag_of_active_is, flag_of_preparing_is, awaited_is, counted_is}
use Rattle.mvo_representation.proofs.dependency_laws.laws_of_dependencies.Goals as goal

pub returns-clause-opened : goal.returns-clause-opened
returns-clause-opened g c = table_opened

pub returns-clause-begin : goal.returns-clause-begin
returns-clause-begin g c = table_begun

pub returns-clause-write : goal.returns-clause-write
returns-clause-write g c = table_written

pub returns-clause-answer : goal.returns-clause-answer
returns-clause-answer g c = table_answered

pub returns-clause-key : goal.returns-clause-key
returns-clause-key g c = key_named

pub returns-clause-scan : goal.returns-clause-scan
returns-clause-scan g c = scan_named

pub returns-clause-precommit : goal.returns-clause-precommit
returns-clause-precommit g c = table_prepared

pub returns-clause-check : goal.returns-clause-check
returns-clause-check g c = table_checked

pub returns-clause-commit : goal.returns-clause-commit
returns-clause-commit g c = table_committed

pub returns-clause-abort : goal.returns-clause-abort
returns-clause-abort g c = table_aborted

pub returns-clause-word : goal.returns-clause-word
returns-clause-word g c = table_word

pub returns-clause-leave : goal.returns-clause-leave
returns-clause-leave g c = table_left

pub returns-clause-trim : goal.returns-clause-trim
returns-clause-trim g c = table_trimmed

pub returns-clause-close : goal.returns-clause-close
returns-clause-close g c = table_closed

pub returns-clause-flag_of_active : goal.returns-clause-flag_of_active
returns-clause-flag_of_active g c = flag_of_active_is

pub returns-clause-flag_of_preparing : goal.returns-clause-flag_of_preparing
returns-clause-flag_of_preparing g c = flag_of_preparing_is

pub returns-clause-awaited : goal.returns-clause-awaited
returns-clause-awaited g c = awaited_is

pub returns-clause-counts : goal.returns-clause-counts
returns-clause-counts g c = counted_is
