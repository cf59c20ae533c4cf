-- For whom a transaction waits, and that it rests on none that was aborted, is the same by both courses.
use Rattle.std.proofs.Common.{◌≡◌, ℕ, Bool, true, false, ◌⊎◌, inl, inr, ◌∷◌, ◌++◌, Option, None, Some, refl, sym, ap, ◌∙◌, subst}
use Rattle.std.specs.Prelude.{is_some}
use Rattle.std.proofs.lemmas.Bool.{true≢false, false≢true}
use Rattle.mvo_model.specs.History.{write_of}
use Rattle.mvo_model.specs.Trace.{history_of, phase_of}
use Rattle.mvo_model.specs.Trace.Step.{Answers}
use Rattle.mvo_theory.specs.Snapshots.{is_aborted}
use Rattle.mvo_theory.proofs.Each.{each_front}
use Rattle.mvo_theory.specs.rests.Course.{Course}
use Rattle.mvo_theory.specs.rests.Resting.{RestsOn, RestsOnNoAborted, Awaits, IsFirstAwaited, AwaitsNone}
use Rattle.mvo_readonly.specs.ReadAt.{WritesNothing}
use Rattle.mvo_readonly.specs.Whole.{ReaderStage, WholeState, stage_of}
use Rattle.mvo_readonly.specs.WholeKept.{IsWholeKept}
use Rattle.mvo_readonly.proofs.Traces.{history_both}
use Rattle.mvo_readonly.proofs.Stages.{core_stands}
use Rattle.mvo_readonly.proofs.Depending.{idle_net}
use Rattle.mvo_readonly.proofs.Flags.{never_preparing}
use Rattle.mvo_readonly.specs.rests.Joint.{AreJoint}
use Rattle.mvo_readonly.specs.BothTraces.{is_prepare_of, NoPrepare, IsMatched, AreGiven}
use Rattle.mvo_readonly.proofs.rests.Joint.{rests_own, rests_whole}

-- ---- one on whom another rests wrote, and got an end
rested_wrote : (o : Course) (t x e : ℕ) → RestsOn o t x e → WritesNothing (history_of x o.steps) → ⊥
rested_wrote o t x e r i =
    let all : WritesNothing (history_of x r.before ++ history_of x (Answers t r.op r.answer ∷ r.after)) = subst WritesNothing (ap (history_of x) r.then' ∙ history_both x r.before (Answers t r.op r.answer ∷ r.after)) i in
    let front = each_front (λ p. write_of p.0 p.1 ≡ None) (history_of x r.before) (history_of x (Answers t r.op r.answer ∷ r.after)) all in
    false≢true (sym (ap is_some (idle_net r.depends.key (history_of x r.before) front)) ∙ r.depends.writer.writes)

pub rested_prepared : (o : Course) (t x e : ℕ) → RestsOn o t x e → NoPrepare x o.steps → ⊥
rested_prepared o t x e r n =
    never_preparing x r.before e (each_front (λ z. is_prepare_of x z ≡ false) r.before (Answers t r.op r.answer ∷ r.after) (subst (λ l. NoPrepare x l) r.then' n)) r.depends.writer.preparing

-- ---- it stands alike in both
stands : (a o : Course) (w : WholeState) (x : ℕ) → IsWholeKept o.rows a.steps o.steps w → (WritesNothing (history_of x o.steps) → ⊥) → phase_of x a.steps ≡ phase_of x o.steps
stands a o w x h i = go (stage_of x w.readers) refl
  where
    go : (p : Option ReaderStage) → stage_of x w.readers ≡ p → phase_of x a.steps ≡ phase_of x o.steps
    go None f = h.phases x f
    go (Some p) f = absurd (i (core_stands a.steps o.steps w.core x w.readers p f h.readers).2)

-- ---- WAITING
pub awaits_own : (a o : Course) (w : WholeState) (t x e : ℕ) → IsWholeKept o.rows a.steps o.steps w → AreJoint a o → Awaits a t x e → Awaits o t x e
awaits_own a o w t x e h j d =
    let r = rests_own a o t x e j d.rests in
    record { rests = r; preparing = sym (stands a o w x h (rested_wrote o t x e r)) ∙ d.preparing }

pub awaits_whole : (a o : Course) (w : WholeState) (t x e : ℕ) → IsWholeKept o.rows a.steps o.steps w → AreJoint a o → Awaits o t x e → Awaits a t x e
awaits_whole a o w t x e h j d = record {
  rests = rests_whole a o t x e j d.rests;
  preparing = stands a o w x h (rested_wrote o t x e d.rests) ∙ d.preparing;
}

pub first_awaited_whole : (a o : Course) (w : WholeState) (t x : ℕ) → IsWholeKept o.rows a.steps o.steps w → AreJoint a o → IsFirstAwaited o t x → IsFirstAwaited a t x
first_awaited_whole a o w t x h j f = record {
  end' = f.end';
  awaits = awaits_whole a o w t x f.end' h j f.awaits;
  least = λ y e d. f.least y e (awaits_own a o w t y e h j d);
}

pub awaits_none_whole : (a o : Course) (w : WholeState) (t : ℕ) → IsWholeKept o.rows a.steps o.steps w → AreJoint a o → AwaitsNone o t → AwaitsNone a t
awaits_none_whole a o w t h j n x e d = n x e (awaits_own a o w t x e h j d)

-- ---- 22: it rests on none that was aborted
pub none_aborted_whole : (a o : Course) (w : WholeState) (t : ℕ) → AreGiven o.rows a.steps o.steps w → AreJoint a o → RestsOnNoAborted o t → RestsOnNoAborted a t
none_aborted_whole a o w t g j n x e d = go (is_aborted x a.steps) refl
  where
    go : (b : Bool) → is_aborted x a.steps ≡ b → is_aborted x a.steps ≡ false
    go false f = f
    go true f = absurd (true≢false (sym (g.aborts x f) ∙ n x e (rests_own a o t x e j d)))

pub none_aborted_own : (a o : Course) (w : WholeState) (t : ℕ) → IsMatched a.steps o.steps w → AreJoint a o → RestsOnNoAborted a t → RestsOnNoAborted o t
none_aborted_own a o w t k j n x e d = go (is_aborted x o.steps) refl
  where
    other : (is_aborted x a.steps ≡ true) ⊎ NoPrepare x o.steps → ⊥
    other (inl q) = true≢false (sym q ∙ n x e (rests_whole a o t x e j d))
    other (inr q) = rested_prepared o t x e d q

    go : (b : Bool) → is_aborted x o.steps ≡ b → is_aborted x o.steps ≡ false
    go false f = f
    go true f = absurd (other (k.aborts x f))
