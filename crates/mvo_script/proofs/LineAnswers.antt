-- What answers a line: by the transaction that its name is bound to, or by the one step that it
-- asks for.
use Rattle.std.proofs.Common.{◌≡◌, ◌≢◌, ℕ, List, [], Option, Some, None, refl, sym, subst, ap, ◌∙◌, rules}
use Rattle.std.specs.Prelude.{IsSome, IsSomeAnd, MatchOption}
use Rattle.std.specs.Borrow.{Bor}
use Rattle.mvo_types.specs.declared.ids.TxId.{TxId}
use Rattle.mvo_types.specs.declared.op.Op.TheVariants as op
use Rattle.mvo_world.specs.WorldData.{WorldData}
use Rattle.mvo_world.specs.declared.event.Event.{Event}
use Rattle.mvo_world.specs.declared.event.Event.TheVariants as event
use Rattle.mvo_world.specs.declared.reply.Reply.{Reply}
use Rattle.mvo_script.specs.Answers.{IsAnswerTo, IsAnswerBy, IsCommit, IsStepOf}
use Rattle.mvo_script.specs.Bound.{bound_by}
use Rattle.mvo_script.specs.Flushing.{IsFlush, IsFlushed}
use Rattle.mvo_script.specs.Events.{event_by, event_of_line, name_in}
use Rattle.mvo_script.specs.declared.bound.BoundTx.{BoundTx}
use Rattle.mvo_script.specs.declared.driver.Driver.{Driver}
use Rattle.mvo_script.specs.declared.line.line.Line.{Line}
use Rattle.mvo_script.specs.declared.line.line.Line.TheVariants as line
use Rattle.mvo_script.specs.declared.line.line.RowText.{RowText}

-- ---- what is said of a value that may be none

pub match_some : {A : Type 0} (o : Option A) (X : Type 0) (Q R : A → Type 0) → ((x : A) → Q x → R x) → IsSomeAnd o Q → MatchOption o X R
match_some None X Q R f h = absurd h
match_some (Some x) X Q R f h = f x h

pub some_weaker : {A : Type 0} (o : Option A) (Q R : A → Type 0) → ((x : A) → Q x → R x) → IsSomeAnd o Q → IsSomeAnd o R
some_weaker None Q R f h = absurd h
some_weaker (Some x) Q R f h = f x h

given : {A : Type 0} (o : Option A) (x : A) (Q : A → Type 0) → o ≡ Some x → Q x → IsSomeAnd o Q
given o x Q e q = subst (λ o. IsSomeAnd o Q) (sym e) q

not_some : (o : Option (List ℕ)) → o ≡ None → IsSome o → ⊥
not_some None e is = cc
not_some (Some y) e is = cc

event_same : (x y : Event) → Some x ≡ Some y → x ≡ y
event_same x y e = cc

text_of : Option (List ℕ) → List ℕ
text_of (Some t) = t
text_of None = []

-- ---- the name of a line

pub is_some : (o : Option (List ℕ)) (t : List ℕ) → o ≡ Some t → IsSome o
is_some None t e = absurd (cc)
is_some (Some x) t e = search rules

-- ---- the step that a line asks for

-- that of a line of a transaction, which is none of these
pub has_event : (l : Line) (tx : TxId) → IsSome (name_in l) → ((n : Bor (List ℕ)) (k : RowText) → l ≢ line.Insert n k) →
    ((n : Bor (List ℕ)) (k : RowText) → l ≢ line.Update n k) → ((n : Bor (List ℕ)) → l ≢ line.Settle n) →
    ((n : Bor (List ℕ)) → l ≢ line.Commit n) → ((n : Bor (List ℕ)) → l ≢ line.Poll n) →
    (e : Event) × (event_by l tx ≡ Some e)
has_event (line.Begin n) tx is i u s c p = absurd (not_some None refl is)
has_event (line.BeginReadOnly n) tx is i u s c p = absurd (not_some None refl is)
has_event (line.Read n k) tx is i u s c p = (event.Do tx (op.Read k), refl)
has_event (line.Scan n k) tx is i u s c p = (event.Do tx (op.Scan k.table k.lo k.hi), refl)
has_event (line.Insert n k) tx is i u s c p = absurd (i n k refl)
has_event (line.Update n k) tx is i u s c p = absurd (u n k refl)
has_event (line.Delete n k) tx is i u s c p = (event.Do tx (op.Delete k), refl)
has_event (line.Precommit n) tx is i u s c p = (event.Precommit tx, refl)
has_event (line.Validate n) tx is i u s c p = (event.Validate tx, refl)
has_event (line.Settle n) tx is i u s c p = absurd (s n refl)
has_event (line.Rollback n) tx is i u s c p = (event.Rollback tx, refl)
has_event (line.Finish n) tx is i u s c p = (event.Finish tx, refl)
has_event (line.Commit n) tx is i u s c p = absurd (c n refl)
has_event (line.Poll n) tx is i u s c p = absurd (p n refl)
has_event line.Collect tx is i u s c p = absurd (not_some None refl is)
has_event (line.Trim j) tx is i u s c p = absurd (not_some None refl is)
has_event line.Group tx is i u s c p = absurd (not_some None refl is)
has_event line.Take tx is i u s c p = absurd (not_some None refl is)
has_event line.Flush tx is i u s c p = absurd (not_some None refl is)
has_event line.Rotate tx is i u s c p = absurd (not_some None refl is)
has_event line.Checkpoint tx is i u s c p = absurd (not_some None refl is)
has_event (line.Merge j) tx is i u s c p = absurd (not_some None refl is)
has_event (line.Store call) tx is i u s c p = absurd (not_some None refl is)

-- that of a line of no transaction, which is none of these
pub has_step : (l : Line) → name_in l ≡ None → ((n : Bor (List ℕ)) → l ≢ line.Begin n) → ((n : Bor (List ℕ)) → l ≢ line.BeginReadOnly n) → l ≢ line.Flush → l ≢ line.Rotate →
    l ≢ line.Checkpoint → ((i : ℕ) → l ≢ line.Merge i) → (e : Event) × (event_of_line l ≡ Some e)
has_step (line.Begin n) is b o f r c m = absurd (b n refl)
has_step (line.BeginReadOnly n) is b o f r c m = absurd (o n refl)
has_step (line.Read n k) is b o f r c m = absurd (cc)
has_step (line.Scan n k) is b o f r c m = absurd (cc)
has_step (line.Insert n k) is b o f r c m = absurd (cc)
has_step (line.Update n k) is b o f r c m = absurd (cc)
has_step (line.Delete n k) is b o f r c m = absurd (cc)
has_step (line.Precommit n) is b o f r c m = absurd (cc)
has_step (line.Validate n) is b o f r c m = absurd (cc)
has_step (line.Settle n) is b o f r c m = absurd (cc)
has_step (line.Rollback n) is b o f r c m = absurd (cc)
has_step (line.Finish n) is b o f r c m = absurd (cc)
has_step (line.Commit n) is b o f r c m = absurd (cc)
has_step (line.Poll n) is b o f r c m = absurd (cc)
has_step line.Collect is b o f r c m = (event.Collect, refl)
has_step (line.Trim j) is b o f r c m = (event.Trim j, refl)
has_step line.Group is b o f r c m = (event.CloseGroup, refl)
has_step line.Take is b o f r c m = (event.TakeGroup, refl)
has_step line.Flush is b o f r c m = absurd (f refl)
has_step line.Rotate is b o f r c m = absurd (r refl)
has_step line.Checkpoint is b o f r c m = absurd (c refl)
has_step (line.Merge i) is b o f r c m = absurd (m i refl)
has_step (line.Store call) is b o f r c m = (event.Store call, refl)

module _ {D : Type 0} (P : WorldData D → Event → Reply → WorldData D → Type 0) where
  by_text : (d : Driver D) (l : Line) (b : BoundTx) (r : Reply) (d' : Driver D) → bound_by d.names (text_of (name_in l)) ≡ Some b →
      IsAnswerBy P d l (text_of (name_in l)) b r d' → IsAnswerTo P d l r d'
  unfolding text_of
  by_text d (line.Begin n) b r d' bound it = absurd it
  by_text d (line.BeginReadOnly n) b r d' bound it = absurd it
  by_text d (line.Read n k) b r d' bound it = given _ b (λ b. IsAnswerBy P d (line.Read n k) n.now b r d') bound it
  by_text d (line.Scan n k) b r d' bound it = given _ b (λ b. IsAnswerBy P d (line.Scan n k) n.now b r d') bound it
  by_text d (line.Insert n k) b r d' bound it = given _ b (λ b. IsAnswerBy P d (line.Insert n k) n.now b r d') bound it
  by_text d (line.Update n k) b r d' bound it = given _ b (λ b. IsAnswerBy P d (line.Update n k) n.now b r d') bound it
  by_text d (line.Delete n k) b r d' bound it = given _ b (λ b. IsAnswerBy P d (line.Delete n k) n.now b r d') bound it
  by_text d (line.Precommit n) b r d' bound it = given _ b (λ b. IsAnswerBy P d (line.Precommit n) n.now b r d') bound it
  by_text d (line.Validate n) b r d' bound it = given _ b (λ b. IsAnswerBy P d (line.Validate n) n.now b r d') bound it
  by_text d (line.Settle n) b r d' bound it = given _ b (λ b. IsAnswerBy P d (line.Settle n) n.now b r d') bound it
  by_text d (line.Rollback n) b r d' bound it = given _ b (λ b. IsAnswerBy P d (line.Rollback n) n.now b r d') bound it
  by_text d (line.Finish n) b r d' bound it = given _ b (λ b. IsAnswerBy P d (line.Finish n) n.now b r d') bound it
  by_text d (line.Commit n) b r d' bound it = given _ b (λ b. IsAnswerBy P d (line.Commit n) n.now b r d') bound it
  by_text d (line.Poll n) b r d' bound it = given _ b (λ b. IsAnswerBy P d (line.Poll n) n.now b r d') bound it
  by_text d line.Collect b r d' bound it = absurd it
  by_text d (line.Trim j) b r d' bound it = absurd it
  by_text d line.Group b r d' bound it = absurd it
  by_text d line.Take b r d' bound it = absurd it
  by_text d line.Flush b r d' bound it = absurd it
  by_text d line.Rotate b r d' bound it = absurd it
  by_text d line.Checkpoint b r d' bound it = absurd it
  by_text d (line.Merge i) b r d' bound it = absurd it
  by_text d (line.Store call) b r d' bound it = absurd it

  -- what is answered for the transaction that the name is bound to answers the line
  pub by_bound : (d : Driver D) (l : Line) (name : List ℕ) (b : BoundTx) (r : Reply) (d' : Driver D) → name_in l ≡ Some name →
      bound_by d.names name ≡ Some b → IsAnswerBy P d l name b r d' → IsAnswerTo P d l r d'
  unfolding text_of
  by_bound d l name b r d' is bound it =
      let e : text_of (name_in l) ≡ name = ap text_of is in
      by_text d l b r d' (ap (bound_by d.names) e ∙ bound) (subst (λ (m : List ℕ). IsAnswerBy P d l m b r d') (sym e) it)

  -- the one step that a line of a transaction asks for
  pub by_event : (d : Driver D) (l : Line) (name : List ℕ) (b : BoundTx) (e : Event) (r : Reply) (d' : Driver D) → event_by l b.tx ≡ Some e →
      IsStepOf P d e r d' → IsAnswerBy P d l name b r d'
  by_event d (line.Begin n) name b e r d' is it = absurd (cc)
  by_event d (line.BeginReadOnly n) name b e r d' is it = absurd (cc)
  by_event d (line.Read n k) name b e r d' is it = subst (λ (x : Event). IsStepOf P d x r d') (sym (event_same _ _ is)) it
  by_event d (line.Scan n k) name b e r d' is it = subst (λ (x : Event). IsStepOf P d x r d') (sym (event_same _ _ is)) it
  by_event d (line.Insert n k) name b e r d' is it = absurd (cc)
  by_event d (line.Update n k) name b e r d' is it = absurd (cc)
  by_event d (line.Delete n k) name b e r d' is it = subst (λ (x : Event). IsStepOf P d x r d') (sym (event_same _ _ is)) it
  by_event d (line.Precommit n) name b e r d' is it = subst (λ (x : Event). IsStepOf P d x r d') (sym (event_same _ _ is)) it
  by_event d (line.Validate n) name b e r d' is it = subst (λ (x : Event). IsStepOf P d x r d') (sym (event_same _ _ is)) it
  by_event d (line.Settle n) name b e r d' is it = absurd (cc)
  by_event d (line.Rollback n) name b e r d' is it = subst (λ (x : Event). IsStepOf P d x r d') (sym (event_same _ _ is)) it
  by_event d (line.Finish n) name b e r d' is it = subst (λ (x : Event). IsStepOf P d x r d') (sym (event_same _ _ is)) it
  by_event d (line.Commit n) name b e r d' is it = absurd (cc)
  by_event d (line.Poll n) name b e r d' is it = absurd (cc)
  by_event d line.Collect name b e r d' is it = absurd (cc)
  by_event d (line.Trim j) name b e r d' is it = absurd (cc)
  by_event d line.Group name b e r d' is it = absurd (cc)
  by_event d line.Take name b e r d' is it = absurd (cc)
  by_event d line.Flush name b e r d' is it = absurd (cc)
  by_event d line.Rotate name b e r d' is it = absurd (cc)
  by_event d line.Checkpoint name b e r d' is it = absurd (cc)
  by_event d (line.Merge i) name b e r d' is it = absurd (cc)
  by_event d (line.Store call) name b e r d' is it = absurd (cc)

  -- the one step that a line of no transaction asks for
  pub by_step : (d : Driver D) (l : Line) (e : Event) (r : Reply) (d' : Driver D) → event_of_line l ≡ Some e → IsStepOf P d e r d' → IsAnswerTo P d l r d'
  by_step d (line.Begin n) e r d' is it = absurd (cc)
  by_step d (line.BeginReadOnly n) e r d' is it = absurd (cc)
  by_step d (line.Read n k) e r d' is it = absurd (cc)
  by_step d (line.Scan n k) e r d' is it = absurd (cc)
  by_step d (line.Insert n k) e r d' is it = absurd (cc)
  by_step d (line.Update n k) e r d' is it = absurd (cc)
  by_step d (line.Delete n k) e r d' is it = absurd (cc)
  by_step d (line.Precommit n) e r d' is it = absurd (cc)
  by_step d (line.Validate n) e r d' is it = absurd (cc)
  by_step d (line.Settle n) e r d' is it = absurd (cc)
  by_step d (line.Rollback n) e r d' is it = absurd (cc)
  by_step d (line.Finish n) e r d' is it = absurd (cc)
  by_step d (line.Commit n) e r d' is it = absurd (cc)
  by_step d (line.Poll n) e r d' is it = absurd (cc)
  by_step d line.Collect e r d' is it = subst (λ (x : Event). IsStepOf P d x r d') (sym (event_same _ _ is)) it
  by_step d (line.Trim j) e r d' is it = subst (λ (x : Event). IsStepOf P d x r d') (sym (event_same _ _ is)) it
  by_step d line.Group e r d' is it = subst (λ (x : Event). IsStepOf P d x r d') (sym (event_same _ _ is)) it
  by_step d line.Take e r d' is it = subst (λ (x : Event). IsStepOf P d x r d') (sym (event_same _ _ is)) it
  by_step d line.Flush e r d' is it = absurd (cc)
  by_step d line.Rotate e r d' is it = absurd (cc)
  by_step d line.Checkpoint e r d' is it = absurd (cc)
  by_step d (line.Merge i) e r d' is it = absurd (cc)
  by_step d (line.Store call) e r d' is it = subst (λ (x : Event). IsStepOf P d x r d') (sym (event_same _ _ is)) it

  -- a commit of the transaction that the name is bound to
  pub by_commit : (d : Driver D) (l : Line) (n : Bor (List ℕ)) (name : List ℕ) (b : BoundTx) (r : Reply) (d' : Driver D) → l ≡ line.Commit n →
      IsCommit P d name b.tx r d' → IsAnswerBy P d l name b r d'
  by_commit d l n name b r d' is it = subst (λ (x : Line). IsAnswerBy P d x name b r d') (sym is) it

  -- a flush of the driver's world
  pub by_flush : (d : Driver D) (l : Line) (r : Reply) (d' : Driver D) → l ≡ line.Flush → IsFlush P d.world r d'.world → IsFlushed d'.world r →
      d'.names ≡ d.names → IsAnswerTo P d l r d'
  by_flush d l r d' is steps flushed names = subst (λ (x : Line). IsAnswerTo P d x r d') (sym is) (steps, flushed, names)
