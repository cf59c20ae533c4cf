use Rattle.std.proofs.Common.{◌≡◌, false, [], ◌∷◌}
use Rattle.mvo_shared.proofs.Works.{work_after_op, ordered_after_op, kept_serial}
use Rattle.mvo_shared.proofs.Steps.{shared_opened, shared_begun, shared_registered, shared_written, shared_valid, shared_prepared, shared_checked, IsChecked}
use Rattle.mvo_shared.proofs.Finals.{shared_aborted, shared_settled, shared_trimmed, shared_tale}
use Rattle.mvo_shared.proofs.Known.{quiet_look, loud_look}
use Rattle.mvo_shared.proofs.Own.{own_answer, one_of_seen}
use Rattle.mvo_shared.proofs.Causes.{found_by_test, no_look_test, no_entry_test}
use Rattle.mvo_shared.proofs.Written.{same_by_test, test_by_same}
use Rattle.mvo_shared.specs.Shared.{AreSeen}
use Rattle.mvo_shared.specs.Causes.{is_entry_mismatch}
use Rattle.mvo_theory.proofs.Each.{each_weaker}
use Rattle.mvo_shared.proofs.laws.laws_of_works.Goals as goal

pub returns-clause-kind : goal.returns-clause-kind
returns-clause-kind c = work_after_op

pub returns-clause-serial : goal.returns-clause-serial
returns-clause-serial c = kept_serial

pub returns-clause-opening : goal.returns-clause-opening
returns-clause-opening c = shared_opened

pub returns-clause-begin : goal.returns-clause-begin
returns-clause-begin c = shared_begun

pub returns-clause-look : goal.returns-clause-look
returns-clause-look c = shared_registered

pub returns-clause-precommit : goal.returns-clause-precommit
returns-clause-precommit c = λ s all r e w lt it only work same h. shared_prepared s all r e w lt it only work (same_by_test r w same) h

pub returns-clause-check : goal.returns-clause-check
returns-clause-check c = λ s all e f h. shared_checked s all e (each_weaker _ (IsChecked s.base s.stamped all e) (λ x g is l n. found_by_test s.base s.stamped x l (g is l n)) s.stamped f) h

pub returns-clause-abort : goal.returns-clause-abort
returns-clause-abort c = shared_aborted

pub returns-clause-tale : goal.returns-clause-tale
returns-clause-tale c = shared_tale

pub returns-clause-quiet : goal.returns-clause-quiet
returns-clause-quiet c = quiet_look

pub returns-clause-loud : goal.returns-clause-loud
returns-clause-loud c = loud_look

pub returns-clause-answers : goal.returns-clause-answers
returns-clause-answers c = own_answer

pub returns-clause-looks : goal.returns-clause-looks
returns-clause-looks c = no_look_test

pub returns-clause-writes : goal.returns-clause-writes
returns-clause-writes c = λ base stamped r w h. test_by_same r w h.writes

pub returns-clause-found : goal.returns-clause-found
returns-clause-found c = λ base stamped x looked h. each_weaker (λ l. AreSeen base stamped x.id x.depends_on (l ∷ [])) (λ l. is_entry_mismatch base stamped x l ≡ false) (λ l g. no_entry_test base stamped x l g) looked (one_of_seen base stamped x.id x.depends_on looked h)

pub returns-clause-order : goal.returns-clause-order
returns-clause-order c = ordered_after_op

pub returns-clause-write : goal.returns-clause-write
returns-clause-write c = shared_written

pub returns-clause-last : goal.returns-clause-last
returns-clause-last c = shared_valid

pub returns-clause-settle : goal.returns-clause-settle
returns-clause-settle c = shared_settled

pub returns-clause-trim : goal.returns-clause-trim
returns-clause-trim c = λ s all m above drawn settled active preparing h. shared_trimmed s all m (record { above = above; drawn = drawn; settled = settled; active = active; preparing = preparing }) h
