-- What a session's calls came to in the core, and attempts at a whole transaction.
use Rattle.std.proofs.Common.{◌≡◌, ◌+◌, ◌<◌, ℕ, Bool, true, false, List, [], ◌∷◌, ◌++◌, Option, None, Some, Result, Ok, Err, refl, sym, ap, ◌∙◌, subst, arith}
use Rattle.std.specs.Prelude.{IfSome, max, suc}
use Rattle.std.specs.Option.{option_map}
use Rattle.mvo_types.specs.declared.answer.Answer.{Answer}
use Rattle.mvo_types.specs.declared.ids.Stamp.{Stamp}
use Rattle.mvo_types.specs.declared.ids.TxId.{TxId}
use Rattle.mvo_types.specs.declared.op.Op.{Op}
use Rattle.mvo_types.specs.declared.refusal.Refusal.{Refusal}
use Rattle.mvo_types.specs.declared.refusal.Refusal.TheVariants.{NoSuchTransaction}
use Rattle.mvo_theory.specs.Causes.{is_failure}
use Rattle.mvo_theory.specs.Calls.Call.{Do}
use Rattle.mvo_core.specs.Receipts.{Receipt, receipt}
use Rattle.mvo_core.specs.WholeAnswers.{IsAnsweredWhole}
use Rattle.mvo_engine.specs.declared.outcome.Outcome.{Outcome}
use Rattle.mvo_engine.specs.declared.outcome.Outcome.TheVariants.{Commit, GiveUp}
use Rattle.mvo_engine.specs.declared.transacted.Transacted.{Transacted}
use Rattle.mvo_engine.specs.run.Opening.{Opening}
use Rattle.mvo_engine.specs.run.Receiving.{AreBelow}
use Rattle.mvo_engine.specs.Sound.{IsSoundCore}
use Rattle.mvo_engine.specs.States.{CoreState, SessionState}
use Rattle.mvo_engine.specs.Calls.{IsCoreStep, IsBegun, IsNoTx, HasCommitted}
use Rattle.mvo_engine.specs.Asked.{WasAsked, WasAnswered, HasGone}
use Rattle.mvo_engine.specs.Refusing.{refuses_begin, refuses_commit}
use Rattle.mvo_engine.specs.Transacting.{Work, HasNewTx, HasDone, HasGivenUp, HasTransacted, HasNotDone, IsAttempt, HaveFailed, AreAttempts}
use Rattle.mvo_engine.specs.Transacting.IsRefusedBy.{Beginning, Working, Committing}
use Rattle.mvo_engine.specs.Forgetting.{HasForgottenSome, HasForgottenAny}
use Rattle.mvo_engine.specs.declared.session.operating.TheConstants.{FORGOTTEN_AT_ONCE}
use Rattle.mvo_engine.proofs.Forgetting.{none_forgotten, some_forgotten, more_forgotten}

-- an operation of the session's transaction, by a copy of it
pub answered_so : {o : Opening} (x : Option TxId) (tx : TxId) (op copy : Op) (a : Answer) (old new : CoreState) → x ≡ Some tx → copy ≡ op → IsSoundCore o old.core old.sends.sent → IsCoreStep old (Do tx.0 op) (Ok a) new → IsAnsweredWhole old.core tx.0 op a → IfSome (option_map (λ (t : TxId). t.0) x) (λ t. WasAnswered o t copy a)
answered_so {o} x tx op copy a old new is same sound step answer =
    let was : WasAnswered o tx.0 op a = record { old = old; new = new; sound = sound; step = step; answer = answer } in
    subst (λ (y : Option TxId). IfSome (option_map (λ (t : TxId). t.0) y) (λ t. WasAnswered o t copy a)) (sym is) (subst (λ (p : Op). WasAnswered o tx.0 p a) (sym same) was)

-- one that is refused
pub refused_so : {o : Opening} (x : Option TxId) (tx : TxId) (op : Op) (e : Refusal) (old new : CoreState) → x ≡ Some tx → IsSoundCore o old.core old.sends.sent → IsCoreStep {A = Answer} old (Do tx.0 op) (Err e) new → IfSome (option_map (λ (t : TxId). t.0) x) (λ t. WasAsked {A = Answer} o (Do t op) (Err e))
refused_so {o} x tx op e old new is sound step =
    let was : WasAsked {A = Answer} o (Do tx.0 op) (Err e) = record { old = old; new = new; sound = sound; step = step } in
    subst (λ (y : Option TxId). IfSome (option_map (λ (t : TxId). t.0) y) (λ t. WasAsked {A = Answer} o (Do t op) (Err e))) (sym is) was

-- a begin that is accepted
pub begun_so : {o : Opening} (old new : SessionState) (t : TxId) → old.tx ≡ None → IsBegun old.tx (Ok t) new.tx → new.told ≡ [] → AreBelow t.0 old.receipts → HasForgottenSome o FORGOTTEN_AT_ONCE old new → new ≡ record old { tx = new.tx; told = new.told; receipts = new.receipts; forgotten = new.forgotten } → HasNewTx o old new
begun_so old new t none begun told above forgets rest =
    let there : new.tx ≡ Some t.0 = subst (λ (x : Option ℕ). IsBegun x (Ok t) new.tx) none begun in
    record {
      tx = t.0;
      above = above;
      forgets = forgets;
      begun = rest ∙ (λ k. record old { tx = there k; told = told k; receipts = new.receipts; forgotten = new.forgotten });
    }

-- the receipts that a begin has left, and behind it as many
left_of : {o : Opening} (old begun : SessionState) (new : List Receipt) → HasNewTx o old begun → new ≡ begun.receipts → HasForgottenAny o old.receipts new
left_of {o} old begun new b same = subst (HasForgottenAny o old.receipts) (sym same) (some_forgotten o old begun b.forgets)

-- work that is refused, behind which the session leaves the transaction
pub not_worked : {A : Type 0} {o : Opening} (work : Work A) (old begun worked new : SessionState) (e f : Refusal) → HasNewTx o old begun → work begun (Err e) worked → worked.receipts ≡ begun.receipts → IfSome worked.tx (HasGone o) → f ≡ e → new ≡ record worked { tx = None } → HasNotDone o work old f new
not_worked {o = o} work old begun worked new e f begins works same gone is left =
    let done : HasNotDone o work old e new = record {
      by = Working begun worked begins works gone;
      receipts = left_of old begun new.receipts begins (ap (λ (s : SessionState). s.receipts) left ∙ same);
      tx = ap (λ (s : SessionState). s.tx) left;
    } in
    subst (λ (r : Refusal). HasNotDone o work old r new) (sym is) done

-- work that gave up
pub gave_up : {A : Type 0} {o : Opening} (work : Work A) (old begun worked new : SessionState) (a : A) (out : Outcome A) (done : Transacted A) → out ≡ GiveUp a → HasNewTx o old begun → work begun (Ok out) worked → worked.receipts ≡ begun.receipts → done.told ≡ a → done.end ≡ None → IfSome worked.tx (HasGone o) → new ≡ record worked { tx = None } → IsAttempt o work old (Ok done) new
gave_up {A} {o = o} work old begun worked new a out done kind begins works same given none gone left =
    let up : HasGivenUp o work old a new = record {
      begun = begun;
      begins = begins;
      worked = worked;
      works = subst (λ (x : Outcome A). work begun (Ok x) worked) kind works;
      gone = gone;
      leaves = left ∙ (λ k. record worked { tx = None; receipts = same k });
    } in
    subst (λ (e : Option Stamp). HasTransacted o work old done.told e new) (sym none) (subst (λ (x : A). HasGivenUp o work old x new) (sym given) up)

-- a commit that is refused
pub not_committed : {A : Type 0} {o : Opening} (work : Work A) (old begun worked asked new : SessionState) (a : A) (out : Outcome A) (e f : Refusal) → out ≡ Commit a → HasNewTx o old begun → work begun (Ok out) worked → worked.receipts ≡ begun.receipts → refuses_commit e ≡ true → HasCommitted worked (Err e) asked → f ≡ e → new ≡ record asked { tx = None } → HasNotDone o work old f new
not_committed {A} {o = o} work old begun worked asked new a out e f kind begins works same listed commits is left =
    let done : HasNotDone o work old e new = record {
      by = Committing begun worked begins a (subst (λ (x : Outcome A). work begun (Ok x) worked) kind works) listed;
      receipts = left_of old begun new.receipts begins (ap (λ (s : SessionState). s.receipts) left ∙ ap (λ (s : SessionState). s.receipts) commits ∙ same);
      tx = ap (λ (s : SessionState). s.tx) left;
    } in
    subst (λ (r : Refusal). HasNotDone o work old r new) (sym is) done

-- a begin that is refused
pub not_begun : {A : Type 0} {o : Opening} (work : Work A) (old new : SessionState) (e : Refusal) → old.tx ≡ None → IsBegun old.tx (Err e) new.tx → (new.receipts ≡ old.receipts) × (new.forgotten ≡ old.forgotten) → refuses_begin e ≡ true → HasNotDone o work old e new
not_begun {o = o} work old new e none begun same listed = record {
  by = Beginning listed;
  receipts = none_forgotten o old.receipts new.receipts same.0;
  tx = subst (λ (x : Option ℕ). IsBegun x (Err e) new.tx) none begun;
}

-- a commit that is accepted
pub committed_so : {A : Type 0} {o : Opening} (work : Work A) (old begun worked new : SessionState) (a : A) (e : Stamp) (x : Option ℕ) → worked.tx ≡ x → HasNewTx o old begun → work begun (Ok (Commit a)) worked → worked.receipts ≡ begun.receipts → IsNoTx {A = Stamp} x (Ok e) → IfSome x (λ t. new ≡ record worked { tx = None; told = []; receipts = worked.receipts ++ receipt t e.0 worked.told ∷ [] }) → HasDone o work old a e new
committed_so work old begun worked new a e None is begins works same there commits = absurd (apart there)
  where
    apart : Ok e ≡ Err NoSuchTransaction → ⊥
    apart p = cc
committed_so work old begun worked new a e (Some t) is begins works same there commits = record {
  begun = begun;
  begins = begins;
  worked = worked;
  works = works;
  tx = t;
  there = is;
  commits = commits ∙ (λ k. record worked { tx = None; told = []; receipts = same k ++ receipt t e.0 worked.told ∷ [] });
}

-- ---- attempts
not_both : (b : Bool) → b ≡ false → b ≡ true → ⊥
not_both true wrong right = absurd cc
not_both false wrong right = absurd cc

-- one that is refused with no failure is the last
pub ended_by : {A : Type 0} (o : Opening) (work : Work A) (times n : ℕ) (old before new : SessionState) (e : Refusal) (b : Bool) → HaveFailed o work n old before → HasForgottenAny o old.receipts before.receipts → HasNotDone o work before e new → n < max 1 times → b ≡ is_failure e → b ≡ false → AreAttempts o work times old (Err e) new
ended_by o work times n old before new e b failed same last fewer is wrong = record {
  failures = n;
  before = before;
  failed = failed;
  last = last;
  fewer = fewer;
  spent = λ right. absurd (not_both b wrong (is ∙ right));
  receipts = more_forgotten o old.receipts before.receipts new.receipts same last.receipts;
  tx = last.tx;
}

-- one that is committed is the last
committed_by : {A : Type 0} (o : Opening) (work : Work A) (times n : ℕ) (old before new : SessionState) (told : A) (end : Stamp) → HaveFailed o work n old before → HasForgottenAny o old.receipts before.receipts → HasDone o work before told end new → n < max 1 times → AreAttempts o work times old (Ok (record { told = told; end = Some end })) new
committed_by o work times n old before new told end failed same last fewer = record {
  failures = n;
  before = before;
  failed = failed;
  last = last;
  fewer = fewer;
  spent = tt;
  receipts = (
    last.begun.receipts,
    more_forgotten o old.receipts before.receipts last.begun.receipts same (some_forgotten o before last.begun last.begins.forgets),
    receipt last.tx end.0 last.worked.told,
    refl,
    ap (λ (s : SessionState). s.receipts) last.commits,
  );
  tx = ap (λ (s : SessionState). s.tx) last.commits;
}

-- so is one that gave up
gave_up_by : {A : Type 0} (o : Opening) (work : Work A) (times n : ℕ) (old before new : SessionState) (told : A) → HaveFailed o work n old before → HasForgottenAny o old.receipts before.receipts → HasGivenUp o work before told new → n < max 1 times → AreAttempts o work times old (Ok (record { told = told; end = None })) new
gave_up_by o work times n old before new told failed same last fewer = record {
  failures = n;
  before = before;
  failed = failed;
  last = last;
  fewer = fewer;
  spent = tt;
  receipts = more_forgotten o old.receipts before.receipts new.receipts same (left_of before last.begun new.receipts last.begins (ap (λ (s : SessionState). s.receipts) last.leaves));
  tx = ap (λ (s : SessionState). s.tx) last.leaves;
}

come_by : {A : Type 0} (o : Opening) (work : Work A) (times n : ℕ) (old before new : SessionState) (told : A) (end : Option Stamp) → HaveFailed o work n old before → HasForgottenAny o old.receipts before.receipts → HasTransacted o work before told end new → n < max 1 times → AreAttempts o work times old (Ok (record { told = told; end = end })) new
come_by o work times n old before new told (Some end) failed same last fewer = committed_by o work times n old before new told end failed same last fewer
come_by o work times n old before new told None failed same last fewer = gave_up_by o work times n old before new told failed same last fewer

-- one that isn't refused is the last
pub done_by : {A : Type 0} (o : Opening) (work : Work A) (times n : ℕ) (old before new : SessionState) (done : Transacted A) → HaveFailed o work n old before → HasForgottenAny o old.receipts before.receipts → IsAttempt o work before (Ok done) new → n < max 1 times → AreAttempts o work times old (Ok done) new
done_by o work times n old before new done failed same last fewer = come_by o work times n old before new done.told done.end failed same last fewer

-- the last that there may be
pub last_by : {A : Type 0} (o : Opening) (work : Work A) (times n : ℕ) (old before new : SessionState) (r : Result (Transacted A) Refusal) → HaveFailed o work n old before → HasForgottenAny o old.receipts before.receipts → IsAttempt o work before r new → n + 1 ≡ max 1 times → AreAttempts o work times old r new
last_by o work times n old before new (Ok done) failed same last all = done_by o work times n old before new done failed same last (omega (arith, all))
last_by o work times n old before new (Err e) failed same last all = record {
  failures = n;
  before = before;
  failed = failed;
  last = last;
  fewer = omega (arith, all);
  spent = λ right. all;
  receipts = more_forgotten o old.receipts before.receipts new.receipts same last.receipts;
  tx = last.tx;
}

-- one failure more
pub failed_more : {A : Type 0} (o : Opening) (work : Work A) (n : ℕ) (old before new : SessionState) (e : Refusal) (b : Bool) → HaveFailed o work n old before → HasNotDone o work before e new → b ≡ is_failure e → b ≡ true → HaveFailed o work (n + 1) old new
failed_more o work n old before new e b failed last is right' =
    let right : is_failure e ≡ true = sym is ∙ right' in
    let all : HaveFailed o work (suc n) old new = (before, failed, e, right, last) in
    let one : suc n ≡ n + 1 = omega arith in
    subst (λ (m : ℕ). HaveFailed o work m old new) one all
