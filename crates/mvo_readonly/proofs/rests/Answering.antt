-- What a call is answered is what the whole trace says.
use Rattle.std.proofs.Common.{◌≡◌, ℕ, ◌+◌, Bool, true, false, cond, Option, None, Some, length, refl, sym, ap, ◌∙◌, arith}
use Rattle.std.specs.Prelude.{nat_lt, nat_le}
use Rattle.std.proofs.lemmas.Bool.{and_parts, leb-true, le-leb}
use Rattle.mvo_types.specs.declared.op.Op.{Op}
use Rattle.mvo_types.specs.declared.refusal.Refusal.{Refusal}
use Rattle.mvo_types.specs.declared.refusal.Refusal.TheVariants.{Ended, NotPreparing}
use Rattle.mvo_types.specs.Keys.{Map}
use Rattle.mvo_model.specs.Serial.{answer_to}
use Rattle.mvo_model.specs.Trace.{history_of, phase_of}
use Rattle.mvo_model.specs.Trace.Phase.{Preparing as IsPreparing}
use Rattle.mvo_theory.specs.Entries.{entries}
use Rattle.mvo_theory.specs.State.{history_of_active}
use Rattle.mvo_theory.specs.Causes.{why_not_do}
use Rattle.mvo_theory.specs.Counts.{draws, checks_in}
use Rattle.mvo_theory.specs.Snapshots.{snapshot_of, is_aborted}
use Rattle.mvo_theory.specs.Steps.{is_valid_now}
use Rattle.mvo_theory.specs.Calls.{answer_in}
use Rattle.mvo_theory.specs.Calls.Call.{Do, Validate, Settle}
use Rattle.mvo_theory.specs.Calls.Result.{Accepted}
use Rattle.mvo_theory.specs.rests.Course.{Course}
use Rattle.mvo_theory.proofs.Answered.{valid_is, settles_so}
use Rattle.mvo_theory.proofs.Conflicting.{told_so}
use Rattle.mvo_theory.proofs.Snapshots.{answers_traced}
use Rattle.mvo_theory.proofs.Who.{preparing_after_check}
use Rattle.mvo_readonly.specs.Whole.{ReaderStage, WholeState, stage_of}
use Rattle.mvo_readonly.specs.Whole.ReaderStage.{Reading, Preparing, Committed, Aborted}
use Rattle.mvo_readonly.specs.WholeCauses.{is_valid_stage, why_not_reader, MayComeAtStage, MayComeWhole}
use Rattle.mvo_readonly.specs.WholeCauses.WholeCall.{CoreCall}
use Rattle.mvo_readonly.specs.WholeCalls.{checked_more}
use Rattle.mvo_readonly.specs.WholeCounts.{HasReaderChecks}
use Rattle.mvo_readonly.specs.rests.Followed.{IsFollowed}
use Rattle.mvo_readonly.specs.rests.Answers.{is_valid_at_stage, end_at_stage}
use Rattle.mvo_readonly.proofs.Others.{may_come}
use Rattle.mvo_readonly.proofs.Stages.{core_stands, found_active, may_read}
use Rattle.mvo_readonly.proofs.ReaderCalls.{in_core}
use Rattle.mvo_readonly.proofs.Snapshots.{snapshot_whole}
use Rattle.mvo_readonly.proofs.WholeCounts.{at_stage}
use Rattle.mvo_readonly.proofs.WholeJustified.{open_alive}
use Rattle.mvo_readonly.proofs.rests.Justifying.{counts}

some_why : (r : Refusal) → ◌≡◌ {A = Option Refusal} (Some r) None → ⊥
some_why r e = cc

module _ (a o : Course) (w : WholeState) (f : IsFollowed a o w) where
  pub clock_drawn : w.core.clock ≡ a.mark + draws a.steps
  clock_drawn = f.counts.core.clock ∙ ap (λ (n : ℕ). o.mark + n) (sym f.counts.drawn) ∙ ap (λ (n : ℕ). n + draws a.steps) (sym f.joint.mark)

  -- ---- an operation
  answer_is : (t : ℕ) (op : Op) → why_not_do w.core t op ≡ None → answer_in w.core t op ≡ answer_to op (snapshot_of a.rows a.steps t)
  answer_is t op n =
      answers_traced o.rows o.steps w.core t op n f.kept.kept
      ∙ ap (answer_to op) (sym (snapshot_whole o.rows a.steps o.steps w t f.kept f.matched f.given))
      ∙ ap (λ (rows : Map). answer_to op (snapshot_of rows a.steps t)) (sym f.joint.rows)

  pub answers_whole : (t : ℕ) (op : Op) → MayComeWhole w (CoreCall (Do t op)) Accepted → answer_in w.core t op ≡ answer_to op (snapshot_of a.rows a.steps t)
  answers_whole t op m = go (stage_of t w.readers) refl m
    where
      go : (p : Option ReaderStage) → stage_of t w.readers ≡ p → MayComeAtStage w (Do t op) p Accepted → answer_in w.core t op ≡ answer_to op (snapshot_of a.rows a.steps t)
      go None e k = answer_is t op (may_come w (Do t op) Accepted (λ j i. absurd cc) k).0
      go (Some p) e k = answer_is t op (may_read w.core t op p (in_core o.rows a.steps o.steps w t p e f.kept) k.0).0

  -- ---- a check
  other_valid : (t : ℕ) → stage_of t w.readers ≡ None → MayComeAtStage w (Validate t) None Accepted → is_valid_now w.core t ≡ nat_le (length (entries (history_of t a.steps))) (checks_in t a.steps + 1)
  other_valid t e k =
      let x = preparing_after_check w.core t k.0 in
      let alive : is_aborted t o.steps ≡ false = open_alive o.rows a.steps o.steps w f.kept f.matched f.given f.remembered f.recalled (counts a o w f) t x.0 x.1 in
      valid_is o.rows o.mark o.steps w.core t k.0 f.kept.kept f.counts.core
      ∙ ap (λ ts. nat_le (length (entries ts)) (checks_in t o.steps + 1)) (sym (f.kept.histories t))
      ∙ ap (λ (n : ℕ). nat_le (length (entries (history_of t a.steps))) (n + 1)) (sym (f.counts.checks t e alive))

  reader_valid : (t : ℕ) (p : ReaderStage) → stage_of t w.readers ≡ Some p → why_not_reader w.core p (Validate t) ≡ None → is_valid_stage (checked_more w.core t p) ≡ nat_le (length (entries (history_of t a.steps))) (checks_in t a.steps + 1)
  reader_valid t Reading e m = absurd (some_why NotPreparing m)
  reader_valid t Committed e m = absurd (some_why Ended m)
  reader_valid t Aborted e m = absurd (some_why Ended m)
  reader_valid t (Preparing n v) e m = go v (at_stage o.rows a.steps o.steps w f.kept f.counts.readers t (Preparing n v) e)
    where
      len : ℕ
      len = length (entries (history_of t a.steps))

      c : ℕ
      c = checks_in t a.steps

      go : (b : Bool) → HasReaderChecks a.steps t n b → is_valid_stage (cond b (Preparing n b) (Preparing (n + 1) (nat_le (length (entries (history_of_active t w.core.active))) (n + 1)))) ≡ nat_le len (c + 1)
      go true q =
          let r = and_parts (nat_lt 0 c) (nat_le len c) q.valid in
          let le = leb-true len c r.1 in
          sym (le-leb len (c + 1) (omega (arith, le)))
      go false q =
          let r = found_active w.core t (in_core o.rows a.steps o.steps w t (Preparing n v) e f.kept) in
          ap (λ ts. nat_le (length (entries ts)) (n + 1)) (told_so o.rows o.steps w.core t r.0 r.1 f.kept.kept ∙ sym (f.kept.histories t))
          ∙ ap (λ (i : ℕ). nat_le len (i + 1)) (q.checked refl)

  pub checks_whole : (t : ℕ) → MayComeWhole w (CoreCall (Validate t)) Accepted → is_valid_at_stage w.core t (stage_of t w.readers) ≡ nat_le (length (entries (history_of t a.steps))) (checks_in t a.steps + 1)
  checks_whole t m = go (stage_of t w.readers) refl m
    where
      go : (p : Option ReaderStage) → stage_of t w.readers ≡ p → MayComeAtStage w (Validate t) p Accepted → is_valid_at_stage w.core t p ≡ nat_le (length (entries (history_of t a.steps))) (checks_in t a.steps + 1)
      go None e k = other_valid t e k
      go (Some p) e k = reader_valid t p e k.0

  -- ---- a settling
  reader_end : (t : ℕ) (p : ReaderStage) → stage_of t w.readers ≡ Some p → why_not_reader w.core p (Settle t) ≡ None → phase_of t a.steps ≡ IsPreparing t
  reader_end t Reading e m = absurd (some_why NotPreparing m)
  reader_end t (Preparing n v) e m = (core_stands a.steps o.steps w.core t w.readers (Preparing n v) e f.kept.readers).1
  reader_end t Committed e m = absurd (some_why Ended m)
  reader_end t Aborted e m = absurd (some_why Ended m)

  pub settles_at_end : (t : ℕ) → MayComeWhole w (CoreCall (Settle t)) Accepted → phase_of t a.steps ≡ IsPreparing (end_at_stage w.core t (stage_of t w.readers))
  settles_at_end t m = go (stage_of t w.readers) refl m
    where
      go : (p : Option ReaderStage) → stage_of t w.readers ≡ p → MayComeAtStage w (Settle t) p Accepted → phase_of t a.steps ≡ IsPreparing (end_at_stage w.core t p)
      go None e k = f.kept.phases t e ∙ settles_so o.rows o.steps w.core t k.0 f.kept.kept
      go (Some p) e k = reader_end t p e k.0
