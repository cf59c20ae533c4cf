-- What the whole trace counts is what the core's own does, but for the checks of the read-only ones.
use Rattle.std.proofs.Common.{◌≡◌, ◌≢◌, ℕ, ◌+◌, ◌<◌, Bool, true, false, cond, not, ◌||◌, ◌⊎◌, inl, inr, List, [], ◌∷◌, ◌++◌, Option, None, Some, length, refl, sym, ap, ◌∙◌, subst, arith, append_assoc}
use Rattle.std.specs.Prelude.{◌==◌, ◌&&◌, nat_lt, nat_le}
use Rattle.std.specs.List.{AllByRecursion}
use Rattle.std.proofs.lemmas.Bool.{true≢false, ne_eqb, eq-eqb, and_parts, lt-ltb, leb-true, le-leb, cases_eq}
use Rattle.mvo_types.specs.declared.op.Op.{Op}
use Rattle.mvo_types.specs.declared.refusal.Refusal.{Refusal}
use Rattle.mvo_types.specs.declared.refusal.Refusal.TheVariants.{NoSuchTransaction, Ended, NotActive, NotPreparing, NotEnded}
use Rattle.mvo_types.specs.Causes.{first_cause, when}
use Rattle.mvo_types.specs.Keys.{Map}
use Rattle.mvo_model.specs.Trace.{Step, Phase, owner_of, phase_of, history_of}
use Rattle.mvo_model.specs.Trace.Step.{Begins, Answers, Prepares, Checks, Commits, Aborts, Terminates}
use Rattle.mvo_model.specs.Trace.Phase.{Active as IsActive}
use Rattle.mvo_theory.specs.Entries.{entries}
use Rattle.mvo_theory.specs.State.{State, StampedTx, history_of_active}
use Rattle.mvo_theory.specs.Phases.{phase_in, is_absent, is_active, is_preparing}
use Rattle.mvo_theory.specs.Causes.{is_failure, why_not_finish}
use Rattle.mvo_theory.specs.Snapshots.{is_aborted}
use Rattle.mvo_theory.specs.Sound.{how_many}
use Rattle.mvo_theory.specs.Words.{is_done}
use Rattle.mvo_theory.specs.Steps.{steps_of_refusal}
use Rattle.mvo_theory.specs.Calls.{Call, Result, Run, MayRun, after_call, after_run, answer_in, steps_of, trace_of, IsKept}
use Rattle.mvo_theory.specs.Calls.Call.{Begin, Do, Precommit, Validate, Settle, Rollback, Finish, Trim, Close}
use Rattle.mvo_theory.specs.Calls.Result.{Accepted, Refused}
use Rattle.mvo_theory.specs.Counts.{is_draw, is_begin, is_finish, is_check_of, checks_in, is_validated}
use Rattle.mvo_theory.specs.Counted.{HasCounts}
use Rattle.mvo_theory.proofs.Each.{each_weaker, each_append}
use Rattle.mvo_theory.proofs.Counting.{counted_opened, counted_after_call}
use Rattle.mvo_theory.proofs.Conflicting.{told_so}
use Rattle.mvo_theory.proofs.Runs.{kept_after_call}
use Rattle.mvo_readonly.specs.Whole.{ReaderStage, UnfinishedReader, WholeState, opened_whole, stage_of, phase_at_stage, id_named, stage_named}
use Rattle.mvo_readonly.specs.Whole.ReaderStage.{Reading, Preparing, Committed, Aborted}
use Rattle.mvo_readonly.specs.WholeCauses.{WholeCall, why_not_reader, MayComeAtStage, MayComeWhole, awaited_by_reader}
use Rattle.mvo_readonly.specs.WholeCauses.WholeCall.{CoreCall, BeginReadOnly}
use Rattle.mvo_readonly.specs.WholeCalls.{rolled_back, unless_awaited, core_failed, core_reader, core_other, core_at_stage, core_calls, with_stage, without_reader, checked_more, settled_unless, readers_failed, readers_reader, readers_at_stage, readers_after, after_whole_call, commits_unless, reader_steps, steps_at_stage, steps_of_whole_call}
use Rattle.mvo_readonly.specs.WholeKept.{IsUnfinishedReader, IsWholeKept}
use Rattle.mvo_readonly.specs.WholeCounts.{HasReaderChecks, HasStageChecks, HasWholeCounts}
use Rattle.mvo_readonly.proofs.Traces.{append-none, aborted_still, AreOthers, history_from_others, history_quiet, steps_of_others}
use Rattle.mvo_readonly.proofs.Others.{not_named}
use Rattle.mvo_readonly.proofs.Stages.{staged, core_stands, found_active, not_it, each_staged, unstaged_before}
use Rattle.mvo_readonly.proofs.ReaderCalls.{in_core, unstaged_without}
use Rattle.mvo_readonly.proofs.WholeRuns.{unstaged_front}
use Rattle.mvo_readonly.proofs.CoreRuns.{may_core}
use Rattle.mvo_readonly.proofs.Gone.{is_gone}

-- ---- a count over steps behind steps
count_both : (p : Step → Bool) (xs ys : List Step) → how_many p (xs ++ ys) ≡ how_many p xs + how_many p ys
count_both p [] ys = omega arith
count_both p (x ∷ xs) ys = let h = count_both p xs ys in omega (arith, h)

count_same : (p : Step → Bool) (ws xs us vs : List Step) → how_many p ws ≡ how_many p xs → how_many p us ≡ how_many p vs → how_many p (ws ++ us) ≡ how_many p (xs ++ vs)
count_same p ws xs us vs h k = let a = count_both p ws us in let b = count_both p xs vs in omega (arith, a, b, h, k)

-- ---- what a call adds to a count, in the whole trace and in the core's own
once : (p : Step → Bool) (s : State) (c : Call) (r : Result) → how_many p (steps_of s c r) ≡ how_many p (steps_of s c r ++ [])
once p s c r = ap (how_many p) (sym (append-none (steps_of s c r)))

other_counts : (p : Step → Bool) (s : State) (c : Call) (r : Result) → how_many p (steps_of s c r) ≡ how_many p (trace_of s (core_other c r))
other_counts p s Begin r = once p s Begin r
other_counts p s (Do t op) r = once p s (Do t op) r
other_counts p s (Precommit t) r = once p s (Precommit t) r
other_counts p s (Validate t) r = once p s (Validate t) r
other_counts p s (Settle t) r = once p s (Settle t) r
other_counts p s (Rollback t) r = once p s (Rollback t) r
other_counts p s (Finish t) r = once p s (Finish t) r
other_counts p s (Close fits g full) r = once p s (Close fits g full) r
other_counts p s (Trim m) Accepted = refl
other_counts p s (Trim m) (Refused q) = refl

-- what a read-only transaction does beside the core isn't counted
abbrev pub IsBlindTo : (Step → Bool) → ℕ → Type 0
IsBlindTo p t = (p (Prepares t t) ≡ false) × (p (Checks t) ≡ false) × (p (Commits t t) ≡ false) × (p (Aborts t) ≡ false)

uncounted : (p : Step → Bool) (z : Step) → p z ≡ false → how_many p (z ∷ []) ≡ 0
uncounted p z e = ap (λ (b : Bool). cond b 1 0 + 0) e

failed_counts : (p : Step → Bool) (s : State) (t : ℕ) (r : Refusal) → how_many p (steps_of_refusal t r) ≡ how_many p (trace_of s (core_failed t r))
failed_counts p s t r = go (is_failure r)
  where
    go : (b : Bool) → how_many p (cond b (Aborts t ∷ []) []) ≡ how_many p (trace_of s (cond b (rolled_back t) []))
    go true = refl
    go false = refl

settled_counts : (p : Step → Bool) (s : State) (t : ℕ) (x : Option StampedTx) → IsBlindTo p t → how_many p (commits_unless t x) ≡ how_many p (trace_of s (unless_awaited t x))
settled_counts p s t (Some x) n = refl
settled_counts p s t None n = uncounted p (Commits t t) n.2 ∙ sym (uncounted p (Aborts t) n.3)

reader_counts : (p : Step → Bool) (s : State) (c : Call) (r : Result) → ((t : ℕ) → id_named c ≡ Some t → IsBlindTo p t) → how_many p (reader_steps s c r) ≡ how_many p (trace_of s (core_reader s c r))
reader_counts p s Begin Accepted n = once p s Begin Accepted
reader_counts p s (Do t op) Accepted n = once p s (Do t op) Accepted
reader_counts p s (Precommit t) Accepted n = uncounted p (Prepares t t) (n t refl).0
reader_counts p s (Validate t) Accepted n = uncounted p (Checks t) (n t refl).1
reader_counts p s (Settle t) Accepted n = settled_counts p s t (awaited_by_reader s t) (n t refl)
reader_counts p s (Rollback t) Accepted n = once p s (Rollback t) Accepted
reader_counts p s (Finish t) Accepted n = once p s (Finish t) Accepted
reader_counts p s (Trim m) Accepted n = refl
reader_counts p s (Close fits g full) Accepted n = refl
reader_counts p s Begin (Refused q) n = refl
reader_counts p s (Do t op) (Refused q) n = failed_counts p s t q
reader_counts p s (Precommit t) (Refused q) n = failed_counts p s t q
reader_counts p s (Validate t) (Refused q) n = failed_counts p s t q
reader_counts p s (Settle t) (Refused q) n = failed_counts p s t q
reader_counts p s (Rollback t) (Refused q) n = refl
reader_counts p s (Finish t) (Refused q) n = refl
reader_counts p s (Trim m) (Refused q) n = refl
reader_counts p s (Close fits g full) (Refused q) n = refl

call_counts : (p : Step → Bool) (w : WholeState) (a : WholeCall) (r : Result) → ((t : ℕ) (q : ReaderStage) → stage_of t w.readers ≡ Some q → IsBlindTo p t) → how_many p (steps_of_whole_call w a r) ≡ how_many p (trace_of w.core (core_calls w a r))
call_counts p w BeginReadOnly r n = once p w.core Begin r
call_counts p w (CoreCall c) r n = go (stage_named w.readers (id_named c)) refl
  where
    go : (q : Option ReaderStage) → stage_named w.readers (id_named c) ≡ q → how_many p (steps_at_stage w.core c r q) ≡ how_many p (trace_of w.core (core_at_stage w.core c r q))
    go None e = other_counts p w.core c r
    go (Some q) e = reader_counts p w.core c r (λ t i. n t q (subst (λ (o : Option ℕ). stage_named w.readers o ≡ Some q) i e))

-- ---- a read-only transaction leaves the unfinished ones by its finishing alone
left_failed : (u t : ℕ) (q : Refusal) (rs : List UnfinishedReader) → stage_of u (readers_failed t q rs) ≡ None → stage_of u rs ≡ None
left_failed u t q rs e = go (is_failure q) e
  where
    go : (b : Bool) → stage_of u (cond b (with_stage t Aborted rs) rs) ≡ None → stage_of u rs ≡ None
    go true f = unstaged_before u t Aborted rs f
    go false f = f

abbrev Leaves : ℕ → Call → Result → List UnfinishedReader → Type 0
Leaves u c r rs = (stage_of u rs ≡ None) ⊎ ((c ≡ Finish u) × (r ≡ Accepted))

left_by : (u : ℕ) (s : State) (p : ReaderStage) (c : Call) (r : Result) (rs : List UnfinishedReader) → stage_of u (readers_reader s p c r rs) ≡ None → Leaves u c r rs
left_by u s p Begin Accepted rs e = inl e
left_by u s p (Do t op) Accepted rs e = inl e
left_by u s p (Precommit t) Accepted rs e = inl (unstaged_before u t (Preparing 0 false) rs e)
left_by u s p (Validate t) Accepted rs e = inl (unstaged_before u t (checked_more s t p) rs e)
left_by u s p (Settle t) Accepted rs e = inl (go (awaited_by_reader s t) e)
  where
    go : (v : Option StampedTx) → stage_of u (settled_unless t rs v) ≡ None → stage_of u rs ≡ None
    go (Some x) f = f
    go None f = unstaged_before u t Committed rs f
left_by u s p (Rollback t) Accepted rs e = inl (unstaged_before u t Aborted rs e)
left_by u s p (Finish t) Accepted rs e = go (is_done s t) e
  where
    who : (t ≡ u) ⊎ (t ≡ u → ⊥) → stage_of u (without_reader t rs) ≡ None → Leaves u (Finish t) Accepted rs
    who (inl i) f = inr (ap (λ (n : ℕ). Finish n) i, refl)
    who (inr n) f = inl (unstaged_without u t rs n f)

    go : (b : Bool) → stage_of u (cond b (without_reader t rs) rs) ≡ None → Leaves u (Finish t) Accepted rs
    go true f = who (cases_eq t u) f
    go false f = inl f
left_by u s p (Trim m) Accepted rs e = inl e
left_by u s p (Close fits g full) Accepted rs e = inl e
left_by u s p Begin (Refused q) rs e = inl e
left_by u s p (Do t op) (Refused q) rs e = inl (left_failed u t q rs e)
left_by u s p (Precommit t) (Refused q) rs e = inl (left_failed u t q rs e)
left_by u s p (Validate t) (Refused q) rs e = inl (left_failed u t q rs e)
left_by u s p (Settle t) (Refused q) rs e = inl (left_failed u t q rs e)
left_by u s p (Rollback t) (Refused q) rs e = inl e
left_by u s p (Finish t) (Refused q) rs e = inl e
left_by u s p (Trim m) (Refused q) rs e = inl e
left_by u s p (Close fits g full) (Refused q) rs e = inl e

no_refusal : (r : Refusal) → ◌≡◌ {A = Option Refusal} (Some r) None → ⊥
no_refusal r e = cc

not_finished : (s : State) (u : ℕ) → phase_in s u ≡ IsActive → why_not_finish s u ≡ None → ⊥
not_finished s u e n = no_refusal NotEnded (sym (ap (λ (p : Phase). first_cause (when (is_absent p) NoSuchTransaction ∷ when (is_active p || is_preparing p) NotEnded ∷ [])) e) ∙ n)

-- so it was aborted in the core's own trace
left_aborted : (opening : Map) (ws xs : List Step) (w : WholeState) (c : Call) (r : Result) (q : ReaderStage) (u : ℕ) → stage_named w.readers (id_named c) ≡ Some q → MayComeAtStage w c (Some q) r → IsWholeKept opening ws xs w → is_aborted u xs ≡ false → stage_of u (readers_reader w.core q c r w.readers) ≡ None → stage_of u w.readers ≡ None
left_aborted opening ws xs w c r q u e m h alive f = go (left_by u w.core q c r w.readers f)
  where
    ended : (p : ReaderStage) → stage_of u w.readers ≡ Some p → why_not_finish w.core u ≡ None → ⊥
    ended Reading i n = not_finished w.core u (in_core opening ws xs w u Reading i h) n
    ended (Preparing k v) i n = not_finished w.core u (in_core opening ws xs w u (Preparing k v) i h) n
    ended Committed i n = true≢false (sym (is_gone u xs (core_stands ws xs w.core u w.readers Committed i h.readers).0) ∙ alive)
    ended Aborted i n = true≢false (sym (is_gone u xs (core_stands ws xs w.core u w.readers Aborted i h.readers).0) ∙ alive)

    finished : (d : Call) (o : Result) → stage_named w.readers (id_named d) ≡ Some q → MayComeAtStage w d (Some q) o → d ≡ Finish u → o ≡ Accepted → ⊥
    finished d o i k j l = now (subst (λ (v : Call). stage_named w.readers (id_named v) ≡ Some q) j i) (subst (λ (v : Call). MayComeAtStage w v (Some q) Accepted) j (subst (MayComeAtStage w d (Some q)) l k))
      where
        now : stage_of u w.readers ≡ Some q → MayComeAtStage w (Finish u) (Some q) Accepted → ⊥
        now a b = ended q a b.0

    go : Leaves u c r w.readers → stage_of u w.readers ≡ None
    go (inl i) = i
    go (inr i) = absurd (finished c r e m i.0 i.1)

stays_none : (opening : Map) (ws xs : List Step) (w : WholeState) (a : WholeCall) (r : Result) (u : ℕ) → MayComeWhole w a r → IsWholeKept opening ws xs w → is_aborted u xs ≡ false → stage_of u (readers_after w a r) ≡ None → stage_of u w.readers ≡ None
stays_none opening ws xs w BeginReadOnly Accepted u m h alive e = unstaged_front u w.readers (record { id = w.core.clock + 1; stage = Reading }) e
stays_none opening ws xs w BeginReadOnly (Refused q) u m h alive e = e
stays_none opening ws xs w (CoreCall c) r u m h alive e = go (stage_named w.readers (id_named c)) refl m e
  where
    go : (q : Option ReaderStage) → stage_named w.readers (id_named c) ≡ q → MayComeAtStage w c q r → stage_of u (readers_at_stage w.core c r q w.readers) ≡ None → stage_of u w.readers ≡ None
    go None i k f = f
    go (Some q) i k f = left_aborted opening ws xs w c r q u i k h alive f

-- ---- the checks of a read-only transaction, over steps
no_check : (t : ℕ) (z : Step) → owner_of z ≢ t → is_check_of t z ≡ false
no_check t (Checks v) n = ne_eqb v t n
no_check t (Begins v) n = refl
no_check t (Answers v op s) n = refl
no_check t (Prepares v e) n = refl
no_check t (Commits v e) n = refl
no_check t (Aborts v) n = refl
no_check t (Terminates v) n = refl

none_counted : (p : Step → Bool) (zs : List Step) → AllByRecursion (λ z. p z ≡ false) zs → how_many p zs ≡ 0
none_counted p [] h = refl
none_counted p (z ∷ zs) h = let k = none_counted p zs h.1 in let a : cond (p z) 1 0 ≡ 0 = ap {B = ℕ} (λ (b : Bool). cond b 1 0) h.0 in omega (arith, a, k)

unchecked : (t : ℕ) (ws us : List Step) → AllByRecursion (λ z. is_check_of t z ≡ false) us → checks_in t (ws ++ us) ≡ checks_in t ws
unchecked t ws us h = let a = count_both (is_check_of t) ws us in let b = none_counted (is_check_of t) us h in omega (arith, a, b)

others_unchecked : (t : ℕ) (us : List Step) → AreOthers t us → AllByRecursion (λ z. is_check_of t z ≡ false) us
others_unchecked t us o = each_weaker (λ z. owner_of z ≢ t) (λ z. is_check_of t z ≡ false) (λ z n. no_check t z n) us o

-- neither a check nor an answer of it is among the steps
checks_stay : (ws us : List Step) (t : ℕ) (p : ReaderStage) → AllByRecursion (λ z. is_check_of t z ≡ false) us → history_of t us ≡ [] → HasStageChecks ws t p → HasStageChecks (ws ++ us) t p
checks_stay ws us t Reading n q h = unchecked t ws us n ∙ h
checks_stay ws us t (Preparing k v) n q h =
    let same = unchecked t ws us n in
    record {
      checked = λ f. h.checked f ∙ sym same;
      valid = ap (λ (m : ℕ). nat_lt 0 m && nat_le (length (entries (history_of t (ws ++ us)))) m) same
          ∙ ap (λ ts. nat_lt 0 (checks_in t ws) && nat_le (length (entries ts)) (checks_in t ws)) (history_quiet t ws us (history_of t ws) q refl)
          ∙ h.valid;
    }
checks_stay ws us t Committed n q h = tt
checks_stay ws us t Aborted n q h = tt

others_stay : (ws us : List Step) (t : ℕ) (p : ReaderStage) → AreOthers t us → HasStageChecks ws t p → HasStageChecks (ws ++ us) t p
others_stay ws us t p o h = checks_stay ws us t p (others_unchecked t us o) (history_from_others t us o) h

-- ---- one stage more, behind steps of the transaction t
abbrev pub AreChecked : List Step → List UnfinishedReader → Type 0
AreChecked ws rs = AllByRecursion (λ r. HasStageChecks ws r.id r.stage) rs

staged_checks : (ws us : List Step) (t : ℕ) (q : ReaderStage) (rs : List UnfinishedReader) → ((u : ℕ) → t ≢ u → AreOthers u us) → HasStageChecks (ws ++ us) t q → AreChecked ws rs → AreChecked (ws ++ us) (with_stage t q rs)
staged_checks ws us t q rs o h k =
    each_staged (λ r. HasStageChecks ws r.id r.stage) (λ r. HasStageChecks (ws ++ us) r.id r.stage) t q
    (λ r g i. subst (λ (n : ℕ). HasStageChecks (ws ++ us) n q) (sym i) h)
    (λ r g n. others_stay ws us r.id r.stage (o r.id (λ i. n (sym i))) g) rs k

one_owner : (t u : ℕ) (z : Step) → owner_of z ≡ t → t ≢ u → AreOthers u (z ∷ [])
one_owner t u z i n = ((λ e. n (sym i ∙ e)), tt)

quiet_checks : (ws us : List Step) (rs : List UnfinishedReader) → ((u : ℕ) → AllByRecursion (λ z. is_check_of u z ≡ false) us) → ((u : ℕ) → history_of u us ≡ []) → AreChecked ws rs → AreChecked (ws ++ us) rs
quiet_checks ws us rs n q k = each_weaker (λ r. HasStageChecks ws r.id r.stage) (λ r. HasStageChecks (ws ++ us) r.id r.stage) (λ r h. checks_stay ws us r.id r.stage (n r.id) (q r.id) h) rs k

failed_checks : (ws : List Step) (t : ℕ) (q : Refusal) (rs : List UnfinishedReader) → AreChecked ws rs → AreChecked (ws ++ steps_of_refusal t q) (readers_failed t q rs)
failed_checks ws t q rs k = go (is_failure q)
  where
    go : (b : Bool) → AreChecked (ws ++ cond b (Aborts t ∷ []) []) (cond b (with_stage t Aborted rs) rs)
    go true = staged_checks ws (Aborts t ∷ []) t Aborted rs (λ u n. one_owner t u (Aborts t) refl n) tt k
    go false = quiet_checks ws [] rs (λ u. tt) (λ u. refl) k

some_why : (r : Refusal) → ◌≡◌ {A = Option Refusal} (Some r) None → ⊥
some_why r e = cc

reading_stage : (t : ℕ) (p : ReaderStage) → phase_at_stage t p ≡ IsActive → p ≡ Reading
reading_stage t Reading e = refl
reading_stage t (Preparing n v) e = absurd cc
reading_stage t Committed e = absurd cc
reading_stage t Aborted e = absurd cc

module _ (opening : Map) (ws xs : List Step) (w : WholeState) (h : IsWholeKept opening ws xs w) (k : AreChecked ws w.readers) where
  pub at_stage : (t : ℕ) (p : ReaderStage) → stage_of t w.readers ≡ Some p → HasStageChecks ws t p
  at_stage t p e = let f = staged (λ r. HasStageChecks ws r.id r.stage) t w.readers p e k in subst (λ (n : ℕ). HasStageChecks ws n p) f.2 (subst (HasStageChecks ws f.0.id) f.3 f.1)

  phase_is : (t : ℕ) (p : ReaderStage) → stage_of t w.readers ≡ Some p → phase_of t ws ≡ phase_at_stage t p
  phase_is t p e = (core_stands ws xs w.core t w.readers p e h.readers).1

  -- who is told an answer reads
  told_checks : (t : ℕ) (op : Op) (p : ReaderStage) → stage_of t w.readers ≡ Some p → why_not_reader w.core p (Do t op) ≡ None → AreChecked (ws ++ steps_of w.core (Do t op) Accepted) w.readers
  told_checks t op p e m = each_weaker (λ r. IsUnfinishedReader ws xs w.core r × HasStageChecks ws r.id r.stage) (λ r. HasStageChecks (ws ++ zs) r.id r.stage) (λ r q. one r q.0 q.1 (cases_eq t r.id)) w.readers (both w.readers h.readers k)
    where
      zs : List Step
      zs = steps_of w.core (Do t op) Accepted

      both : (rs : List UnfinishedReader) → AllByRecursion (IsUnfinishedReader ws xs w.core) rs → AreChecked ws rs → AllByRecursion (λ r. IsUnfinishedReader ws xs w.core r × HasStageChecks ws r.id r.stage) rs
      both [] a b = tt
      both (r ∷ rs) a b = ((a.0, b.0), both rs a.1 b.1)

      reads : (q : ReaderStage) → why_not_reader w.core q (Do t op) ≡ None → q ≡ Reading
      reads Reading n = refl
      reads (Preparing j v) n = absurd (some_why NotActive n)
      reads Committed n = absurd (some_why Ended n)
      reads Aborted n = absurd (some_why Ended n)

      active : phase_of t ws ≡ IsActive
      active = phase_is t p e ∙ ap (phase_at_stage t) (reads p m)

      unless : (r : UnfinishedReader) → r.stage ≡ Reading → HasStageChecks ws r.id r.stage → HasStageChecks (ws ++ zs) r.id r.stage
      unless r i c = subst (HasStageChecks (ws ++ zs) r.id) (sym i) (unchecked r.id ws zs (refl, tt) ∙ subst (HasStageChecks ws r.id) i c)

      one : (r : UnfinishedReader) → IsUnfinishedReader ws xs w.core r → HasStageChecks ws r.id r.stage → (t ≡ r.id) ⊎ (t ≡ r.id → ⊥) → HasStageChecks (ws ++ zs) r.id r.stage
      one r q c (inl i) = unless r (reading_stage r.id r.stage (sym q.phase ∙ subst (λ (n : ℕ). phase_of n ws ≡ IsActive) i active)) c
      one r q c (inr n) = others_stay ws zs r.id r.stage (one_owner t r.id (Answers t op (answer_in w.core t op)) refl n) c

  prepared_checks : (t : ℕ) (p : ReaderStage) → stage_of t w.readers ≡ Some p → why_not_reader w.core p (Precommit t) ≡ None → AreChecked (ws ++ Prepares t t ∷ []) (with_stage t (Preparing 0 false) w.readers)
  prepared_checks t p e m = staged_checks ws (Prepares t t ∷ []) t (Preparing 0 false) w.readers (λ u n. one_owner t u (Prepares t t) refl n) (new p e m) k
    where
      new : (q : ReaderStage) → stage_of t w.readers ≡ Some q → why_not_reader w.core q (Precommit t) ≡ None → HasReaderChecks (ws ++ Prepares t t ∷ []) t 0 false
      new Reading i n =
          let zero' = unchecked t ws (Prepares t t ∷ []) (refl, tt) ∙ at_stage t Reading i in
          record {
            checked = λ _. sym zero';
            valid = ap (λ (j : ℕ). nat_lt 0 j && nat_le (length (entries (history_of t (ws ++ Prepares t t ∷ [])))) j) zero';
          }
      new (Preparing j v) i n = absurd (some_why NotActive n)
      new Committed i n = absurd (some_why Ended n)
      new Aborted i n = absurd (some_why Ended n)

  checked_checks : (t : ℕ) (p : ReaderStage) → stage_of t w.readers ≡ Some p → why_not_reader w.core p (Validate t) ≡ None → AreChecked (ws ++ Checks t ∷ []) (with_stage t (checked_more w.core t p) w.readers)
  checked_checks t p e m = staged_checks ws (Checks t ∷ []) t (checked_more w.core t p) w.readers (λ u n. one_owner t u (Checks t) refl n) (new p e m) k
    where
      ys : List Step
      ys = ws ++ Checks t ∷ []

      n : ℕ
      n = checks_in t ws

      len : ℕ
      len = length (entries (history_of t ws))

      more : checks_in t ys ≡ n + 1
      more = let a = count_both (is_check_of t) ws (Checks t ∷ []) in let b : how_many (is_check_of t) (Checks t ∷ []) ≡ 1 = ap {B = ℕ} (λ (c : Bool). cond c 1 0 + 0) (eq-eqb t t refl) in omega (arith, a, b)

      told : history_of t ys ≡ history_of t ws
      told = history_quiet t ws (Checks t ∷ []) (history_of t ws) refl refl

      valid_is : is_validated t ys ≡ nat_le len (n + 1)
      valid_is =
          ap (λ (m' : ℕ). nat_lt 0 m' && nat_le (length (entries (history_of t ys))) m') more
          ∙ ap (λ ts. nat_lt 0 (n + 1) && nat_le (length (entries ts)) (n + 1)) told
          ∙ ap (λ (b : Bool). b && nat_le len (n + 1)) (lt-ltb 0 (n + 1) (omega arith))

      go : (j : ℕ) (b : Bool) → phase_in w.core t ≡ IsActive → HasReaderChecks ws t j b → HasStageChecks ys t (cond b (Preparing j b) (Preparing (j + 1) (nat_le (length (entries (history_of_active t w.core.active))) (j + 1))))
      go j true a c =
          let q = and_parts (nat_lt 0 n) (nat_le len n) c.valid in
          let le = leb-true len n q.1 in
          record {
            checked = λ f. absurd (true≢false f);
            valid = valid_is ∙ le-leb len (n + 1) (omega (arith, le));
          }
      go j false a c =
          let r = found_active w.core t a in
          let is : j ≡ n = c.checked refl in
          let hist = h.histories t ∙ sym (told_so opening xs w.core t r.0 r.1 h.kept) in
          record {
            checked = λ _. ap (λ (i : ℕ). i + 1) is ∙ sym more;
            valid = valid_is ∙ ap (λ ts. nat_le (length (entries ts)) (n + 1)) hist ∙ ap (λ (i : ℕ). nat_le (length (entries (history_of_active t w.core.active))) (i + 1)) (sym is);
          }

      new : (q : ReaderStage) → stage_of t w.readers ≡ Some q → why_not_reader w.core q (Validate t) ≡ None → HasStageChecks ys t (checked_more w.core t q)
      new Reading i o = absurd (some_why NotPreparing o)
      new (Preparing j v) i o = go j v (in_core opening ws xs w t (Preparing j v) i h) (at_stage t (Preparing j v) i)
      new Committed i o = absurd (some_why Ended o)
      new Aborted i o = absurd (some_why Ended o)

  settled_checks : (t : ℕ) (x : Option StampedTx) → AreChecked (ws ++ commits_unless t x) (settled_unless t w.readers x)
  settled_checks t (Some x) = quiet_checks ws [] w.readers (λ u. tt) (λ u. refl) k
  settled_checks t None = staged_checks ws (Commits t t ∷ []) t Committed w.readers (λ u n. one_owner t u (Commits t t) refl n) tt k

  finished_checks : (t : ℕ) (b : Bool) → AreChecked (ws ++ cond b (Terminates t ∷ []) []) (cond b (without_reader t w.readers) w.readers)
  finished_checks t true = quiet_checks ws (Terminates t ∷ []) (without_reader t w.readers) (λ u. (refl, tt)) (λ u. refl) (part w.readers k)
    where
      part : (rs : List UnfinishedReader) → AreChecked ws rs → AreChecked ws (without_reader t rs)
      part [] q = tt
      part (r ∷ rs) q = go (not (r.id == t)) q.0 (part rs q.1)
        where
          go : (c : Bool) → HasStageChecks ws r.id r.stage → AreChecked ws (without_reader t rs) → AreChecked ws (cond c (r ∷ without_reader t rs) (without_reader t rs))
          go true a d = (a, d)
          go false a d = d
  finished_checks t false = quiet_checks ws [] w.readers (λ u. tt) (λ u. refl) k

  same_checks : AreChecked (ws ++ []) w.readers
  same_checks = quiet_checks ws [] w.readers (λ u. tt) (λ u. refl) k

  reader_checks : (c : Call) (r : Result) (p : ReaderStage) → stage_named w.readers (id_named c) ≡ Some p → MayComeAtStage w c (Some p) r → AreChecked (ws ++ reader_steps w.core c r) (readers_reader w.core p c r w.readers)
  reader_checks Begin r p e m = absurd (no_stage p e)
    where
      no_stage : (q : ReaderStage) → ◌≡◌ {A = Option ReaderStage} None (Some q) → ⊥
      no_stage q i = cc
  reader_checks (Trim n) r p e m = absurd (no_stage p e)
    where
      no_stage : (q : ReaderStage) → ◌≡◌ {A = Option ReaderStage} None (Some q) → ⊥
      no_stage q i = cc
  reader_checks (Close fits g full) r p e m = absurd (no_stage p e)
    where
      no_stage : (q : ReaderStage) → ◌≡◌ {A = Option ReaderStage} None (Some q) → ⊥
      no_stage q i = cc
  reader_checks (Do t op) Accepted p e m = told_checks t op p e m.0
  reader_checks (Precommit t) Accepted p e m = prepared_checks t p e m.0
  reader_checks (Validate t) Accepted p e m = checked_checks t p e m.0
  reader_checks (Settle t) Accepted p e m = settled_checks t (awaited_by_reader w.core t)
  reader_checks (Rollback t) Accepted p e m = staged_checks ws (Aborts t ∷ []) t Aborted w.readers (λ u n. one_owner t u (Aborts t) refl n) tt k
  reader_checks (Finish t) Accepted p e m = finished_checks t (is_done w.core t)
  reader_checks (Do t op) (Refused q) p e m = failed_checks ws t q w.readers k
  reader_checks (Precommit t) (Refused q) p e m = failed_checks ws t q w.readers k
  reader_checks (Validate t) (Refused q) p e m = failed_checks ws t q w.readers k
  reader_checks (Settle t) (Refused q) p e m = failed_checks ws t q w.readers k
  reader_checks (Rollback t) (Refused q) p e m = same_checks
  reader_checks (Finish t) (Refused q) p e m = same_checks

  -- a call that names none of them
  other_checks : (c : Call) (r : Result) → stage_named w.readers (id_named c) ≡ None → AreChecked (ws ++ steps_of w.core c r) w.readers
  other_checks c r e = go w.readers h.readers k (not_named c w.readers e)
    where
      go : (rs : List UnfinishedReader) → AllByRecursion (IsUnfinishedReader ws xs w.core) rs → AreChecked ws rs → AllByRecursion (λ q. (t : ℕ) → id_named c ≡ Some t → t ≢ q.id) rs → AreChecked (ws ++ steps_of w.core c r) rs
      go [] a b n = tt
      go (q ∷ qs) a b n = (others_stay ws (steps_of w.core c r) q.id q.stage (steps_of_others q.id w.core c r a.0.drawn n.0) b.0, go qs a.1 b.1 n.1)

-- ---- a timestamp that wasn't drawn is nobody's
none_fresh : (ws xs : List Step) (s : State) (t : ℕ) (rs : List UnfinishedReader) → s.clock < t → AllByRecursion (IsUnfinishedReader ws xs s) rs → stage_of t rs ≡ None
none_fresh ws xs s t [] lt h = refl
none_fresh ws xs s t (r ∷ rs) lt h = ap (λ (b : Bool). cond b (Some r.stage) (stage_of t rs)) (ne_eqb r.id t (λ i. absurd (let d = h.0.drawn in omega (arith, d, i, lt)))) ∙ none_fresh ws xs s t rs lt h.1

-- ---- the core goes by a run
counted_after_run : (opening : Map) (mark : ℕ) (xs : List Step) (s : State) (cs : Run) → MayRun s cs → IsKept opening xs s → HasCounts mark xs s → HasCounts mark (xs ++ trace_of s cs) (after_run s cs)
counted_after_run opening mark xs s [] m k h = subst (λ l. HasCounts mark l s) (sym (append-none xs)) h
counted_after_run opening mark xs s (c ∷ cs) m k h =
    subst (λ l. HasCounts mark l (after_run (after_call s c.0 c.1) cs)) (append_assoc xs (steps_of s c.0 c.1) (trace_of (after_call s c.0 c.1) cs))
    (counted_after_run opening mark (xs ++ steps_of s c.0 c.1) (after_call s c.0 c.1) cs m.1 (kept_after_call opening xs s c.0 c.1 m.0 k) (counted_after_call opening mark xs s c.0 c.1 m.0 k h))

-- ---- EACH CALL keeps the counts
all_checks : (opening : Map) (mark : ℕ) (ws xs : List Step) (w : WholeState) (a : WholeCall) (r : Result) → MayComeWhole w a r → IsWholeKept opening ws xs w → HasWholeCounts mark ws xs w → AreChecked (ws ++ steps_of_whole_call w a r) (readers_after w a r)
all_checks opening mark ws xs w BeginReadOnly (Refused q) m h n = same_checks opening ws xs w h n.readers
all_checks opening mark ws xs w BeginReadOnly Accepted m h n =
    let t = w.core.clock + 1 in
    let lt : w.core.clock < t = omega arith in
    each_append (λ r. HasStageChecks (ws ++ Begins t ∷ []) r.id r.stage) w.readers (record { id = t; stage = Reading } ∷ [])
    (quiet_checks ws (Begins t ∷ []) w.readers (λ u. (refl, tt)) (λ u. refl) n.readers)
    (unchecked t ws (Begins t ∷ []) (refl, tt) ∙ n.checks t (none_fresh ws xs w.core t w.readers lt h.readers) (h.kept.has_ends.fresh t lt) ∙ n.core.fresh t lt, tt)
all_checks opening mark ws xs w (CoreCall c) r m h n = go (stage_named w.readers (id_named c)) refl m
  where
    go : (q : Option ReaderStage) → stage_named w.readers (id_named c) ≡ q → MayComeAtStage w c q r → AreChecked (ws ++ steps_at_stage w.core c r q) (readers_at_stage w.core c r q w.readers)
    go None e k = other_checks opening ws xs w h n.readers c r e
    go (Some p) e k = reader_checks opening ws xs w h n.readers c r p e k

pub whole_counts_after_call : (opening : Map) (mark : ℕ) (ws xs : List Step) (w : WholeState) (a : WholeCall) (r : Result) → MayComeWhole w a r → IsWholeKept opening ws xs w → HasWholeCounts mark ws xs w →
    HasWholeCounts mark (ws ++ steps_of_whole_call w a r) (xs ++ trace_of w.core (core_calls w a r)) (after_whole_call w a r)
whole_counts_after_call opening mark ws xs w a r m h n = record {
  core = counted_after_run opening mark xs w.core (core_calls w a r) (may_core opening ws xs w a r m h) h.kept n.core;
  drawn = count_same is_draw ws xs us vs n.drawn (call_counts is_draw w a r (λ t q e. (ap not (eq-eqb t t refl), refl, refl, refl)));
  begun = count_same is_begin ws xs us vs n.begun (call_counts is_begin w a r (λ t q e. (refl, refl, refl, refl)));
  finished = count_same is_finish ws xs us vs n.finished (call_counts is_finish w a r (λ t q e. (refl, refl, refl, refl)));
  checks = λ u e alive.
      let before = unaborted u alive in
      let none = stays_none opening ws xs w a r u m h before e in
      count_same (is_check_of u) ws xs us vs (n.checks u none before) (call_counts (is_check_of u) w a r (λ t q f. (refl, ne_eqb t u (λ i. not_it u t w.readers q f none (sym i)), refl, refl)));
  readers = all_checks opening mark ws xs w a r m h n;
}
  where
    us : List Step
    us = steps_of_whole_call w a r

    vs : List Step
    vs = trace_of w.core (core_calls w a r)

    unaborted : (u : ℕ) → is_aborted u (xs ++ vs) ≡ false → is_aborted u xs ≡ false
    unaborted u e = go (is_aborted u xs) refl
      where
        go : (b : Bool) → is_aborted u xs ≡ b → is_aborted u xs ≡ false
        go false f = f
        go true f = absurd (true≢false (sym (aborted_still u xs vs f) ∙ e))

pub whole_counts_opened : (rows : Map) (mark : ℕ) → HasWholeCounts mark [] [] (opened_whole rows mark)
whole_counts_opened rows mark = record {
  core = counted_opened rows mark;
  drawn = refl;
  begun = refl;
  finished = refl;
  checks = λ t e f. refl;
  readers = tt;
}
