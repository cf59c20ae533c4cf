use Rattle.std.proofs.Common.{arith, ap, subst, ℕ, List, ◌≡◌, ◌≢◌, ◌∙◌}
use Rattle.mvo_types.specs.declared.ids.Stamp.{Stamp}
use Rattle.mvo_types.specs.declared.ids.TxId.{TxId}
use Rattle.mvo_core.specs.declared.answers.Settlement.TheVariants.{Committed}
use Rattle.mvo_core.specs.declared.answers.Validation.TheVariants.{Valid}
use Rattle.mvo_core.specs.declared.answers.Finishing.TheVariants.{Done}
use Rattle.mvo_world.specs.WorldData.{WorldData}
use Rattle.mvo_world.specs.declared.event.Event.{Event}
use Rattle.mvo_world.specs.declared.reply.Reply.{Reply}
use Rattle.mvo_world.specs.declared.reply.Reply.TheVariants.{Prepared, Validated, Settled, Finished}
use Rattle.mvo_script.specs.Answers.{IsCommit, IsStepOf, IsSettleStep, AreStepsOf}
use Rattle.mvo_script.specs.Answers.IsCommit.{AtPrecommit, AtValidate, AtSettle, AtFinish, AtEnd}
use Rattle.mvo_script.specs.declared.driver.Driver.{Driver}
use Rattle.mvo_script.proofs.driver.Driver.commit.Goals as goal

step_at : {D : Type 0} {P : WorldData D → Event → Reply → WorldData D → Type 0} {d : Driver D} {e : Event} {r s : Reply} {d' : Driver D} → r ≡ s → IsStepOf P d e r d' → IsStepOf P d e s d'
step_at {P} {d} {e} {r} {s} {d'} same it = subst (λ (x : Reply). IsStepOf P d e x d') same it

steps_at : {D : Type 0} {P : WorldData D → Event → Reply → WorldData D → Type 0} {more : Reply} {d : Driver D} {e : Event} {r s : Reply} {d' : Driver D} → r ≡ s → AreStepsOf P more d e r d' → AreStepsOf P more d e s d'
steps_at {P} {more} {d} {e} {r} {s} {d'} same it = subst (λ (x : Reply). AreStepsOf P more d e x d') same it

settled_at : {D : Type 0} {P : WorldData D → Event → Reply → WorldData D → Type 0} {d : Driver D} {n : List ℕ} {t : TxId} {r s : Reply} {d' : Driver D} → r ≡ s → IsSettleStep P d n t r d' → IsSettleStep P d n t s d'
settled_at {P} {d} {n} {t} {r} {s} {d'} same it = subst (λ (x : Reply). IsSettleStep P d n t x d') same it

commit_at : {D : Type 0} {P : WorldData D → Event → Reply → WorldData D → Type 0} {d : Driver D} {n : List ℕ} {t : TxId} {r s : Reply} {d' : Driver D} → r ≡ s → IsCommit P d n t r d' → IsCommit P d n t s d'
commit_at {P} {d} {n} {t} {r} {s} {d'} same it = subst (λ (x : Reply). IsCommit P d n t x d') same it

pub returns-in_default-validate : goal.returns-in_default-validate
returns-in_default-validate g c =
    let stop = c.in-Prepared.field-0 in
    let prepares : c.ask.result ≡ Prepared stop = c.in-Prepared.is in
    let other : c.validate.result ≢ Validated Valid = λ e. grind (arith, e) in
    commit_at (grind arith) (AtValidate stop c.ask.new.self other (step_at prepares c.ask.ensures) c.validate.ensures)

pub returns-in_default-settled : goal.returns-in_default-settled
returns-in_default-settled g c =
    let stop = c.in-Prepared.field-0 in
    let prepares : c.ask.result ≡ Prepared stop = c.in-Prepared.is in
    let valid : c.validate.result ≡ Validated Valid = c.in-Validated-Valid.is ∙ ap Validated c.in-Validated-Valid.field-0-is in
    let other : (end' : Stamp) → c.settle-settled.result ≢ Settled (Committed end') = λ end' e. grind (arith, e) in
    AtSettle c.validate.new.self other
    (record { stop = stop; then_on = c.ask.new.self; prepared = step_at prepares c.ask.ensures; checked = steps_at valid c.validate.ensures }) c.settle-settled.ensures

pub returns-in-Finished-Done : goal.returns-in-Finished-Done
returns-in-Finished-Done g c =
    let stop = c.in-Prepared.field-0 in
    let prepares : c.ask.result ≡ Prepared stop = c.in-Prepared.is in
    let valid : c.validate.result ≡ Validated Valid = c.in-Validated-Valid.is ∙ ap Validated c.in-Validated-Valid.field-0-is in
    let commits : c.settle-settled.result ≡ Settled (Committed c.in-Settled-Committed.field-0-0) = grind arith in
    let done : c.finish.result ≡ Finished Done = c.in-Finished-Done.is ∙ ap Finished c.in-Finished-Done.field-0-is in
    AtEnd c.validate.new.self c.settle-settled.new.self c.in-Settled-Committed.field-0-0 commits
    (record { stop = stop; then_on = c.ask.new.self; prepared = step_at prepares c.ask.ensures; checked = steps_at valid c.validate.ensures }) c.settle-settled.ensures (steps_at done c.finish.ensures)

pub returns-in_default-finish : goal.returns-in_default-finish
returns-in_default-finish g c =
    let stop = c.in-Prepared.field-0 in
    let prepares : c.ask.result ≡ Prepared stop = c.in-Prepared.is in
    let valid : c.validate.result ≡ Validated Valid = c.in-Validated-Valid.is ∙ ap Validated c.in-Validated-Valid.field-0-is in
    let commits : c.settle-settled.result ≡ Settled (Committed c.in-Settled-Committed.field-0-0) = grind arith in
    let other : c.finish.result ≢ Finished Done = λ e. grind (arith, e) in
    commit_at (grind arith) (AtFinish c.validate.new.self c.settle-settled.new.self c.in-Settled-Committed.field-0-0 other
    (record { stop = stop; then_on = c.ask.new.self; prepared = step_at prepares c.ask.ensures; checked = steps_at valid c.validate.ensures }) (settled_at commits c.settle-settled.ensures) c.finish.ensures)

pub returns-in_default-validate-2 : goal.returns-in_default-validate-2
returns-in_default-validate-2 g c =
    let stop = c.in-Prepared.field-0 in
    let prepares : c.ask.result ≡ Prepared stop = c.in-Prepared.is in
    let other : c.validate.result ≢ Validated Valid = λ e. grind (arith, e) in
    commit_at (grind arith) (AtValidate stop c.ask.new.self other (step_at prepares c.ask.ensures) c.validate.ensures)

pub returns-in_default-settled-2 : goal.returns-in_default-settled-2
returns-in_default-settled-2 g c =
    let stop = c.in-Prepared.field-0 in
    let prepares : c.ask.result ≡ Prepared stop = c.in-Prepared.is in
    let valid : c.validate.result ≡ Validated Valid = c.in-Validated-Valid.is ∙ ap Validated c.in-Validated-Valid.field-0-is in
    let other : (end' : Stamp) → c.settle-settled.result ≢ Settled (Committed end') = λ end' e. grind (arith, e) in
    AtSettle c.validate.new.self other
    (record { stop = stop; then_on = c.ask.new.self; prepared = step_at prepares c.ask.ensures; checked = steps_at valid c.validate.ensures }) c.settle-settled.ensures

pub returns-in_default-finish-2 : goal.returns-in_default-finish-2
returns-in_default-finish-2 g c =
    let stop = c.in-Prepared.field-0 in
    let prepares : c.ask.result ≡ Prepared stop = c.in-Prepared.is in
    let valid : c.validate.result ≡ Validated Valid = c.in-Validated-Valid.is ∙ ap Validated c.in-Validated-Valid.field-0-is in
    let commits : c.settle-settled.result ≡ Settled (Committed c.in-Settled-Committed.field-0-0) = grind arith in
    let other : c.finish.result ≢ Finished Done = λ e. grind (arith, e) in
    commit_at (grind arith) (AtFinish c.validate.new.self c.settle-settled.new.self c.in-Settled-Committed.field-0-0 other
    (record { stop = stop; then_on = c.ask.new.self; prepared = step_at prepares c.ask.ensures; checked = steps_at valid c.validate.ensures }) (settled_at commits c.settle-settled.ensures) c.finish.ensures)
