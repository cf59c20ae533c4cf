-- Each call keeps who began read-only, and one of them that is gone is refused everything.
use Rattle.std.proofs.Common.{◌≡◌, ◌≢◌, ℕ, ◌+◌, ◌≤◌, Bool, true, false, cond, not, ◌⊎◌, inl, inr, List, [], ◌∷◌, ◌++◌, Option, None, Some, refl, sym, ap, ◌∙◌, subst, arith}
use Rattle.std.specs.Prelude.{◌==◌, eqb, ◌||◌}
use Rattle.std.proofs.lemmas.Bool.{true≢false, false≢true, eq-eqb, eqb-true}
use Rattle.mvo_types.specs.declared.refusal.Refusal.{Refusal}
use Rattle.mvo_types.specs.declared.refusal.Refusal.TheVariants.{NoSuchTransaction}
use Rattle.mvo_types.specs.declared.op.Op.{Op}
use Rattle.mvo_types.specs.declared.op.Op.TheVariants.{Read, Scan, Insert, Update, Delete}
use Rattle.mvo_types.specs.Keys.{Map}
use Rattle.mvo_model.specs.Trace.{Step, phase_of}
use Rattle.mvo_model.specs.Trace.Phase.{Absent}
use Rattle.mvo_model.specs.Trace.Step.{Begins, Terminates}
use Rattle.mvo_model.proofs.Traces.{phase_of-push_own}
use Rattle.mvo_theory.specs.State.{State, StampedTx}
use Rattle.mvo_theory.specs.Phases.{phase_in}
use Rattle.mvo_theory.specs.Causes.{is_failure, why_not_do}
use Rattle.mvo_theory.specs.Words.{is_done}
use Rattle.mvo_theory.specs.Calls.{Call, Result, why_not, takes_memory, IsRefusal, MayCome, steps_of}
use Rattle.mvo_theory.specs.Calls.Call.{Begin, Do, Precommit, Validate, Settle, Rollback, Finish, Trim, Close}
use Rattle.mvo_theory.specs.Calls.Result.{Accepted, Refused}
use Rattle.mvo_theory.proofs.Footprints.{or_left, or_right, any_left}
use Rattle.mvo_readonly.specs.Whole.{ReaderStage, UnfinishedReader, WholeState, opened_whole, stage_of, id_named, stage_named}
use Rattle.mvo_readonly.specs.Whole.ReaderStage.{Reading, Preparing, Committed, Aborted}
use Rattle.mvo_readonly.specs.WholeCauses.{WholeCall, MayComeAtStage, MayComeWhole, awaited_by_reader}
use Rattle.mvo_readonly.specs.WholeCauses.WholeCall.{CoreCall, BeginReadOnly}
use Rattle.mvo_readonly.specs.WholeCalls.{core_calls, with_stage, without_reader, settled_unless, checked_more, readers_reader, readers_at_stage, readers_after, after_whole_call, commits_unless, reader_steps, steps_at_stage, steps_of_whole_call}
use Rattle.mvo_readonly.specs.WholeKept.{IsWholeKept}
use Rattle.mvo_readonly.proofs.Traces.{append-none, AreOthers, phase_others, steps_of_others}
use Rattle.mvo_readonly.proofs.CoreRuns.{may_core}
use Rattle.mvo_readonly.proofs.Flags.{run_clock}
use Rattle.mvo_readonly.proofs.Others.{may_come}
use Rattle.mvo_readonly.proofs.Stages.{unstaged_before}
use Rattle.mvo_readonly.proofs.ReaderCalls.{unstaged_without}
use Rattle.mvo_readonly.proofs.WholeRuns.{unstaged_front}
use Rattle.mvo_world.specs.WholeJustified.{is_among, KnowsReaders}

none_some : (p : ReaderStage) → ◌≡◌ {A = Option ReaderStage} None (Some p) → ⊥
none_some p e = cc

some_id : (t u : ℕ) → ◌≡◌ {A = Option ℕ} (Some t) (Some u) → t ≡ u
some_id t u e = cc

none_why : (r : Refusal) → ◌≡◌ {A = Option Refusal} None (Some r) → ⊥
none_why r e = cc

no_id : (t : ℕ) → ◌≡◌ {A = Option ℕ} None (Some t) → ⊥
no_id t e = cc

-- ---- one more that began
among_left : (t u : ℕ) (ids : List ℕ) → is_among t ids ≡ true → is_among t (ids ++ u ∷ []) ≡ true
among_left t u ids e = any_left (eqb t) ids (u ∷ []) e

among_last : (u : ℕ) (ids : List ℕ) → is_among u (ids ++ u ∷ []) ≡ true
among_last u [] = or_left (eqb u u) false (eq-eqb u u refl)
among_last u (i ∷ is) = or_right (eqb u i) (is_among u (is ++ u ∷ [])) (among_last u is)

among_push : (t u : ℕ) (ids : List ℕ) → is_among t (ids ++ u ∷ []) ≡ true → (is_among t ids ≡ true) ⊎ (u ≡ t)
among_push t u [] e = go (eqb t u) refl e
  where
    go : (b : Bool) → eqb t u ≡ b → (b || false) ≡ true → (false ≡ true) ⊎ (u ≡ t)
    go true f g = inr (sym (eqb-true t u f))
    go false f g = absurd (false≢true g)
among_push t u (i ∷ is) e = go (eqb t i) e (among_push t u is)
  where
    go : (b : Bool) → (b || is_among t (is ++ u ∷ [])) ≡ true → (is_among t (is ++ u ∷ []) ≡ true → (is_among t is ≡ true) ⊎ (u ≡ t)) → ((b || is_among t is) ≡ true) ⊎ (u ≡ t)
    go true f k = inl refl
    go false f k = k f

-- ---- who has a stage, in another list of the unfinished
-- whoever had none has none, and whoever has none had none
record StaysUnstaged (u : ℕ) (rs rs' : List UnfinishedReader) : Type 0 where
  none : stage_of u rs ≡ None → stage_of u rs' ≡ None
  before : stage_of u rs' ≡ None → stage_of u rs ≡ None

same_list : (u : ℕ) (rs : List UnfinishedReader) → StaysUnstaged u rs rs
same_list u rs = record { none = λ e. e; before = λ e. e }

none_staged : (u t : ℕ) (q : ReaderStage) (rs : List UnfinishedReader) → stage_of u rs ≡ None → stage_of u (with_stage t q rs) ≡ None
none_staged u t q [] e = refl
none_staged u t q (r ∷ rs) e = go (r.id == u) e (none_staged u t q rs)
  where
    go : (b : Bool) → cond b (Some r.stage) (stage_of u rs) ≡ None → (stage_of u rs ≡ None → stage_of u (with_stage t q rs) ≡ None) → cond b (Some (cond (r.id == t) q r.stage)) (stage_of u (with_stage t q rs)) ≡ None
    go true f k = absurd (none_some r.stage (sym f))
    go false f k = k f

staged_list : (u t : ℕ) (q : ReaderStage) (rs : List UnfinishedReader) → StaysUnstaged u rs (with_stage t q rs)
staged_list u t q rs = record { none = none_staged u t q rs; before = unstaged_before u t q rs }

none_without : (u t : ℕ) (rs : List UnfinishedReader) → stage_of u rs ≡ None → stage_of u (without_reader t rs) ≡ None
none_without u t [] e = refl
none_without u t (r ∷ rs) e = go (r.id == u) (r.id == t) refl e (none_without u t rs)
  where
    go : (b c : Bool) → (r.id == u) ≡ b → cond b (Some r.stage) (stage_of u rs) ≡ None → (stage_of u rs ≡ None → stage_of u (without_reader t rs) ≡ None) → stage_of u (cond (not c) (r ∷ without_reader t rs) (without_reader t rs)) ≡ None
    go true c i f k = absurd (none_some r.stage (sym f))
    go false true i f k = k f
    go false false i f k = ap (λ (b : Bool). cond b (Some r.stage) (stage_of u (without_reader t rs))) i ∙ k f

none_pushed : (u : ℕ) (rs : List UnfinishedReader) (r : UnfinishedReader) → r.id ≢ u → stage_of u rs ≡ None → stage_of u (rs ++ r ∷ []) ≡ None
none_pushed u [] r n e = go (r.id == u) refl
  where
    go : (b : Bool) → (r.id == u) ≡ b → cond b (Some r.stage) None ≡ None
    go true f = absurd (n (eqb-true r.id u f))
    go false f = refl
none_pushed u (q ∷ qs) r n e = go (q.id == u) e (none_pushed u qs r n)
  where
    go : (b : Bool) → cond b (Some q.stage) (stage_of u qs) ≡ None → (stage_of u qs ≡ None → stage_of u (qs ++ r ∷ []) ≡ None) → cond b (Some q.stage) (stage_of u (qs ++ r ∷ [])) ≡ None
    go true f k = absurd (none_some q.stage (sym f))
    go false f k = k f

staged_last : (u : ℕ) (rs : List UnfinishedReader) (r : UnfinishedReader) → r.id ≡ u → None ≡ stage_of u (rs ++ r ∷ []) → ⊥
staged_last u [] r i e = none_some r.stage (e ∙ ap (λ (b : Bool). cond b (Some r.stage) None) (eq-eqb r.id u i))
staged_last u (q ∷ qs) r i e = go (q.id == u) e (staged_last u qs r i)
  where
    go : (b : Bool) → None ≡ cond b (Some q.stage) (stage_of u (qs ++ r ∷ [])) → (None ≡ stage_of u (qs ++ r ∷ []) → ⊥) → ⊥
    go true f k = none_some q.stage f
    go false f k = k f

-- ---- a call of one that is Absent
absent_do : (s : State) (t : ℕ) (op : Op) → phase_in s t ≡ Absent → why_not_do s t op ≡ Some NoSuchTransaction
absent_do s t (Read k) e = cc
absent_do s t (Scan table lo hi) e = cc
absent_do s t (Insert row) e = cc
absent_do s t (Update row) e = cc
absent_do s t (Delete k) e = cc

absent_why : (s : State) (c : Call) (t : ℕ) → id_named c ≡ Some t → phase_in s t ≡ Absent → why_not s c ≡ Some NoSuchTransaction
absent_why s Begin t i e = absurd (no_id t i)
absent_why s (Trim m) t i e = absurd (no_id t i)
absent_why s (Close fits g full) t i e = absurd (no_id t i)
absent_why s (Do u op) t i e = absent_do s u op (subst (λ (n : ℕ). phase_in s n ≡ Absent) (sym (some_id u t i)) e)
absent_why s (Precommit u) t i e = let f : phase_in s u ≡ Absent = ap (phase_in s) (some_id u t i) ∙ e in cc
absent_why s (Validate u) t i e = let f : phase_in s u ≡ Absent = ap (phase_in s) (some_id u t i) ∙ e in cc
absent_why s (Settle u) t i e = let f : phase_in s u ≡ Absent = ap (phase_in s) (some_id u t i) ∙ e in cc
absent_why s (Rollback u) t i e = let f : phase_in s u ≡ Absent = ap (phase_in s) (some_id u t i) ∙ e in cc
absent_why s (Finish u) t i e = let f : phase_in s u ≡ Absent = ap (phase_in s) (some_id u t i) ∙ e in cc

-- it is refused so
pub refused_so : (w : WholeState) (c : Call) (r : Result) (t : ℕ) → id_named c ≡ Some t → phase_in w.core t ≡ Absent → MayComeAtStage w c None r → r ≡ Refused NoSuchTransaction
refused_so w c r t i e m = go r (may_come w c r (λ k j. no_id t (ap id_named (sym j) ∙ i)) m)
  where
    why : why_not w.core c ≡ Some NoSuchTransaction
    why = absent_why w.core c t i e

    go : (q : Result) → MayCome w.core c q → q ≡ Refused NoSuchTransaction
    go Accepted k = absurd (none_why NoSuchTransaction (sym k.0 ∙ why))
    go (Refused v) k = ap Refused (subst (λ (o : Option Refusal). IsRefusal (takes_memory c) o v) why k)

-- and that is no step
no_step : (s : State) (c : Call) → steps_of s c (Refused NoSuchTransaction) ≡ []
no_step s Begin = refl
no_step s (Do t op) = refl
no_step s (Precommit t) = refl
no_step s (Validate t) = refl
no_step s (Settle t) = refl
no_step s (Rollback t) = refl
no_step s (Finish t) = refl
no_step s (Trim m) = refl
no_step s (Close fits g full) = refl

-- ---- the steps of a read-only one's call are its own
reader_others : (u : ℕ) (s : State) (c : Call) (r : Result) → u ≤ s.clock → ((t : ℕ) → id_named c ≡ Some t → t ≢ u) → AreOthers u (reader_steps s c r)
reader_others u s c (Refused q) le n = steps_of_others u s c (Refused q) le n
reader_others u s (Precommit t) Accepted le n = (n t refl, tt)
reader_others u s (Validate t) Accepted le n = (n t refl, tt)
reader_others u s (Settle t) Accepted le n = go (awaited_by_reader s t)
  where
    go : (v : Option StampedTx) → AreOthers u (commits_unless t v)
    go None = (n t refl, tt)
    go (Some x) = tt
reader_others u s Begin Accepted le n = steps_of_others u s Begin Accepted le n
reader_others u s (Do t op) Accepted le n = steps_of_others u s (Do t op) Accepted le n
reader_others u s (Rollback t) Accepted le n = steps_of_others u s (Rollback t) Accepted le n
reader_others u s (Finish t) Accepted le n = steps_of_others u s (Finish t) Accepted le n
reader_others u s (Trim m) Accepted le n = steps_of_others u s (Trim m) Accepted le n
reader_others u s (Close fits g full) Accepted le n = steps_of_others u s (Close fits g full) Accepted le n

-- ---- what a read-only one's call makes of the unfinished ones
failed_list : (u t : ℕ) (b : Bool) (rs : List UnfinishedReader) → StaysUnstaged u rs (cond b (with_stage t Aborted rs) rs)
failed_list u t true rs = staged_list u t Aborted rs
failed_list u t false rs = same_list u rs

settled_list : (u t : ℕ) (rs : List UnfinishedReader) (v : Option StampedTx) → StaysUnstaged u rs (settled_unless t rs v)
settled_list u t rs None = staged_list u t Committed rs
settled_list u t rs (Some x) = same_list u rs

-- each but a finishing that is answered takes none out
reader_list : (u : ℕ) (s : State) (p : ReaderStage) (c : Call) (r : Result) (rs : List UnfinishedReader) → ((t : ℕ) → c ≡ Finish t → r ≡ Accepted → ⊥) → StaysUnstaged u rs (readers_reader s p c r rs)
reader_list u s p Begin Accepted rs n = same_list u rs
reader_list u s p (Do t op) Accepted rs n = same_list u rs
reader_list u s p (Precommit t) Accepted rs n = staged_list u t (Preparing 0 false) rs
reader_list u s p (Validate t) Accepted rs n = staged_list u t (checked_more s t p) rs
reader_list u s p (Settle t) Accepted rs n = settled_list u t rs (awaited_by_reader s t)
reader_list u s p (Rollback t) Accepted rs n = staged_list u t Aborted rs
reader_list u s p (Finish t) Accepted rs n = absurd (n t refl refl)
reader_list u s p (Trim m) Accepted rs n = same_list u rs
reader_list u s p (Close fits g full) Accepted rs n = same_list u rs
reader_list u s p Begin (Refused q) rs n = same_list u rs
reader_list u s p (Do t op) (Refused q) rs n = failed_list u t (is_failure q) rs
reader_list u s p (Precommit t) (Refused q) rs n = failed_list u t (is_failure q) rs
reader_list u s p (Validate t) (Refused q) rs n = failed_list u t (is_failure q) rs
reader_list u s p (Settle t) (Refused q) rs n = failed_list u t (is_failure q) rs
reader_list u s p (Rollback t) (Refused q) rs n = same_list u rs
reader_list u s p (Finish t) (Refused q) rs n = same_list u rs
reader_list u s p (Trim m) (Refused q) rs n = same_list u rs
reader_list u s p (Close fits g full) (Refused q) rs n = same_list u rs

-- ---- what a call makes of those that began read-only
-- a read-only one that begins is one more
abbrev pub ids_after : WholeState → WholeCall → Result → List ℕ → List ℕ
ids_after w BeginReadOnly Accepted ids = ids ++ (w.core.clock + 1) ∷ []
ids_after w BeginReadOnly (Refused r) ids = ids
ids_after w (CoreCall c) r ids = ids

pub readers_opened : (rows : Map) (mark : ℕ) → KnowsReaders [] [] (opened_whole rows mark)
readers_opened rows mark = record {
  all = λ t p e. absurd (none_some p e);
  others = λ t e f. absurd (false≢true e);
  began = λ t e. absurd (false≢true e);
}

module _ (opening : Map) (ws xs : List Step) (w : WholeState) (h : IsWholeKept opening ws xs w) (ids : List ℕ) (k : KnowsReaders ids ws w) where
  -- what is known of one of them after a call of the core's list
  record Goes (u : ℕ) (zs : List Step) (rs : List UnfinishedReader) : Type 0 where
    none : stage_of u w.readers ≡ None → stage_of u rs ≡ None
    gone : is_among u ids ≡ true → stage_of u rs ≡ None → phase_of u (ws ++ zs) ≡ Absent

  gone_before : (u : ℕ) (zs : List Step) → (stage_of u w.readers ≡ None → AreOthers u zs) → is_among u ids ≡ true → stage_of u w.readers ≡ None → phase_of u (ws ++ zs) ≡ Absent
  gone_before u zs o a e = phase_others u ws zs Absent (o e) (k.others u a e)

  by_list : (u : ℕ) (zs : List Step) (rs : List UnfinishedReader) → StaysUnstaged u w.readers rs → (stage_of u w.readers ≡ None → AreOthers u zs) → Goes u zs rs
  by_list u zs rs l o = record { none = l.none; gone = λ a e. gone_before u zs o a (l.before e) }

  absent_here : (u : ℕ) → is_among u ids ≡ true → stage_of u w.readers ≡ None → phase_in w.core u ≡ Absent
  absent_here u a e = sym (h.kept.after_trace.phases u) ∙ sym (h.phases u e) ∙ k.others u a e

  -- ---- of a call of another
  other_named : (u : ℕ) (c : Call) (r : Result) → MayComeAtStage w c None r → is_among u ids ≡ true → stage_of u w.readers ≡ None → (n : Option ℕ) → id_named c ≡ n → ((n ≡ Some u) ⊎ (n ≡ Some u → ⊥)) → phase_of u (ws ++ steps_of w.core c r) ≡ Absent
  other_named u c r m a e n i (inl j) =
      let is = refused_so w c r u (i ∙ j) (absent_here u a e) m in
      ap (λ (q : Result). phase_of u (ws ++ steps_of w.core c q)) is
      ∙ ap (λ (zs : List Step). phase_of u (ws ++ zs)) (no_step w.core c)
      ∙ ap (phase_of u) (append-none ws)
      ∙ k.others u a e
  other_named u c r m a e n i (inr j) = phase_others u ws (steps_of w.core c r) Absent (steps_of_others u w.core c r (k.began u a) (λ t q f. j (sym i ∙ q ∙ ap Some f))) (k.others u a e)

  is_it : (u : ℕ) (n : Option ℕ) → (n ≡ Some u) ⊎ (n ≡ Some u → ⊥)
  is_it u None = inr (λ q. no_id u q)
  is_it u (Some t) = go (t == u) refl
    where
      go : (b : Bool) → (t == u) ≡ b → (Some t ≡ Some u) ⊎ (Some t ≡ Some u → ⊥)
      go true f = inl (ap Some (eqb-true t u f))
      go false f = inr (λ q. true≢false (sym (eq-eqb t u (some_id t u q)) ∙ f))

  other_call : (u : ℕ) (c : Call) (r : Result) → MayComeAtStage w c None r → Goes u (steps_of w.core c r) w.readers
  other_call u c r m = record {
    none = λ e. e;
    gone = λ a e. other_named u c r m a e (id_named c) refl (is_it u (id_named c));
  }

  -- ---- of a call of a read-only one
  not_named_now : (u : ℕ) (c : Call) (p : ReaderStage) → stage_named w.readers (id_named c) ≡ Some p → stage_of u w.readers ≡ None → (t : ℕ) → id_named c ≡ Some t → t ≢ u
  not_named_now u c p i e t q f = none_some p (sym e ∙ ap (λ (n : ℕ). stage_of n w.readers) (sym f) ∙ ap (stage_named w.readers) (sym q) ∙ i)

  others_of : (u : ℕ) (c : Call) (r : Result) (p : ReaderStage) → stage_named w.readers (id_named c) ≡ Some p → is_among u ids ≡ true → stage_of u w.readers ≡ None → AreOthers u (reader_steps w.core c r)
  others_of u c r p i a e = reader_others u w.core c r (k.began u a) (not_named_now u c p i e)

  reader_stays : (u : ℕ) (c : Call) (r : Result) (p : ReaderStage) → stage_named w.readers (id_named c) ≡ Some p → ((t : ℕ) → c ≡ Finish t → r ≡ Accepted → ⊥) → Goes u (reader_steps w.core c r) (readers_reader w.core p c r w.readers)
  reader_stays u c r p i n =
      let l = reader_list u w.core p c r w.readers n in
      record {
        none = l.none;
        gone = λ a e. phase_others u ws (reader_steps w.core c r) Absent (others_of u c r p i a (l.before e)) (k.others u a (l.before e));
      }

  reader_finishes : (u t : ℕ) (p : ReaderStage) → stage_of t w.readers ≡ Some p → Goes u (reader_steps w.core (Finish t) Accepted) (readers_reader w.core p (Finish t) Accepted w.readers)
  reader_finishes u t p i = go (is_done w.core t) (others_of u (Finish t) Accepted p i)
    where
      left : (u' : ℕ) → is_among u' ids ≡ true → (is_among u' ids ≡ true → stage_of u' w.readers ≡ None → AreOthers u' (Terminates t ∷ [])) → stage_of u' (without_reader t w.readers) ≡ None → (b : Bool) → (t == u') ≡ b → phase_of u' (ws ++ Terminates t ∷ []) ≡ Absent
      left u' a o e true f = phase_of-push_own u' ws (Terminates t) (eqb-true t u' f)
      left u' a o e false f =
          let before = unstaged_without u' t w.readers (λ j. true≢false (sym (eq-eqb t u' j) ∙ f)) e in
          phase_others u' ws (Terminates t ∷ []) Absent (o a before) (k.others u' a before)

      go : (b : Bool) → (is_among u ids ≡ true → stage_of u w.readers ≡ None → AreOthers u (cond b (Terminates t ∷ []) [])) → Goes u (cond b (Terminates t ∷ []) []) (cond b (without_reader t w.readers) w.readers)
      go true o = record { none = none_without u t w.readers; gone = λ a e. left u a o e (t == u) refl }
      go false o = record { none = λ e. e; gone = λ a e. phase_others u ws [] Absent tt (k.others u a e) }

  reader_call : (u : ℕ) (c : Call) (r : Result) (p : ReaderStage) → stage_named w.readers (id_named c) ≡ Some p → Goes u (reader_steps w.core c r) (readers_reader w.core p c r w.readers)
  reader_call u (Finish t) Accepted p i = reader_finishes u t p i
  reader_call u Begin r p i = reader_stays u Begin r p i (λ t e f. absurd cc)
  reader_call u (Do t op) r p i = reader_stays u (Do t op) r p i (λ t' e f. absurd cc)
  reader_call u (Precommit t) r p i = reader_stays u (Precommit t) r p i (λ t' e f. absurd cc)
  reader_call u (Validate t) r p i = reader_stays u (Validate t) r p i (λ t' e f. absurd cc)
  reader_call u (Settle t) r p i = reader_stays u (Settle t) r p i (λ t' e f. absurd cc)
  reader_call u (Rollback t) r p i = reader_stays u (Rollback t) r p i (λ t' e f. absurd cc)
  reader_call u (Finish t) (Refused q) p i = reader_stays u (Finish t) (Refused q) p i (λ t' e f. absurd cc)
  reader_call u (Trim m) r p i = reader_stays u (Trim m) r p i (λ t' e f. absurd cc)
  reader_call u (Close fits g full) r p i = reader_stays u (Close fits g full) r p i (λ t' e f. absurd cc)

  -- ---- each call
  core_call : (u : ℕ) (c : Call) (r : Result) → MayComeWhole w (CoreCall c) r → Goes u (steps_of_whole_call w (CoreCall c) r) (readers_after w (CoreCall c) r)
  core_call u c r m = go (stage_named w.readers (id_named c)) refl m
    where
      go : (p : Option ReaderStage) → stage_named w.readers (id_named c) ≡ p → MayComeAtStage w c p r → Goes u (steps_at_stage w.core c r p) (readers_at_stage w.core c r p w.readers)
      go None e j = other_call u c r j
      go (Some p) e j = reader_call u c r p e

  -- whoever has a stage had one
  from_before : (rs : List UnfinishedReader) (u : ℕ) (p : ReaderStage) → (stage_of u w.readers ≡ None → stage_of u rs ≡ None) → stage_of u rs ≡ Some p → is_among u ids ≡ true
  from_before rs u p n e = go (stage_of u w.readers) refl
    where
      go : (v : Option ReaderStage) → stage_of u w.readers ≡ v → is_among u ids ≡ true
      go (Some q) f = k.all u q f
      go None f = absurd (none_some p (sym (n f) ∙ e))

  clock_rises : (a : WholeCall) (r : Result) → MayComeWhole w a r → w.core.clock ≤ (after_whole_call w a r).core.clock
  clock_rises a r m = run_clock opening xs w.core (core_calls w a r) (may_core opening ws xs w a r m h) h.kept

  pub readers_after_call : (a : WholeCall) (r : Result) → MayComeWhole w a r → KnowsReaders (ids_after w a r ids) (ws ++ steps_of_whole_call w a r) (after_whole_call w a r)
  readers_after_call (CoreCall c) r m = record {
    all = λ u p e. from_before (readers_after w (CoreCall c) r) u p (core_call u c r m).none e;
    others = λ u a e. (core_call u c r m).gone a e;
    began = λ u a. let b = k.began u a in let l = clock_rises (CoreCall c) r m in omega arith;
  }
  readers_after_call BeginReadOnly (Refused q) m = record {
    all = k.all;
    others = λ u a e. phase_others u ws [] Absent tt (k.others u a e);
    began = k.began;
  }
  readers_after_call BeginReadOnly Accepted m = begins
    where
      t : ℕ
      t = w.core.clock + 1

      new : UnfinishedReader
      new = record { id = t; stage = Reading }

      all_now : (u : ℕ) (p : ReaderStage) → stage_of u (w.readers ++ new ∷ []) ≡ Some p → (b : Bool) → (t == u) ≡ b → is_among u (ids ++ t ∷ []) ≡ true
      all_now u p e true f = subst (λ (n : ℕ). is_among n (ids ++ t ∷ []) ≡ true) (eqb-true t u f) (among_last t ids)
      all_now u p e false f = among_left u t ids (from_before (w.readers ++ new ∷ []) u p (none_pushed u w.readers new (λ j. true≢false (sym (eq-eqb t u j) ∙ f))) e)

      others_now : (u : ℕ) → stage_of u (w.readers ++ new ∷ []) ≡ None → ((is_among u ids ≡ true) ⊎ (t ≡ u)) → phase_of u (ws ++ Begins t ∷ []) ≡ Absent
      others_now u e (inl a) = phase_others u ws (Begins t ∷ []) Absent ((λ j. let b = k.began u a in absurd (omega arith)), tt) (k.others u a (unstaged_front u w.readers new e))
      others_now u e (inr j) = absurd (staged_last u w.readers new j (sym e))

      began_now : (u : ℕ) → ((is_among u ids ≡ true) ⊎ (t ≡ u)) → u ≤ w.core.clock + 1
      began_now u (inl a) = let b = k.began u a in omega arith
      began_now u (inr j) = omega arith

      begins : KnowsReaders (ids ++ t ∷ []) (ws ++ Begins t ∷ []) (after_whole_call w BeginReadOnly Accepted)
      begins = record {
        all = λ u p e. all_now u p e (t == u) refl;
        others = λ u a e. others_now u e (among_push u t ids a);
        began = λ u a. began_now u (among_push u t ids a);
      }
