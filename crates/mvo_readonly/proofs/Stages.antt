-- What the calls of a read-only transaction need, and what they leave of the others.
use Rattle.std.proofs.Common.{◌≡◌, ◌≢◌, ℕ, ◌+◌, ◌<◌, ◌≤◌, Bool, true, false, cond, List, [], ◌∷◌, ◌++◌, Option, None, Some, length, refl, sym, ap, ◌∙◌, subst, arith}
use Rattle.std.specs.Prelude.{◌==◌, nat_le, nat_lt}
use Rattle.std.specs.List.{AllByRecursion}
use Rattle.std.specs.List.Sorted.{IsPermutation}
use Rattle.std.proofs.lemmas.Bool.{eqb-true, eq-eqb, true≢false, false≢true}
use Rattle.mvo_types.specs.declared.limits.TheConstants.{MAX_TABLE}
use Rattle.mvo_types.specs.declared.op.Op.{Op}
use Rattle.mvo_types.specs.declared.op.Op.TheVariants.{Read, Scan, Insert, Update, Delete}
use Rattle.mvo_types.specs.declared.refusal.Refusal.{Refusal}
use Rattle.mvo_types.specs.declared.refusal.Refusal.TheVariants.{NoSuchTransaction, Ended, NotActive, TooManyReads, BadTable, ReadOnly}
use Rattle.mvo_types.specs.Keys.{Map}
use Rattle.mvo_types.specs.AnswerData.{AnswerData}
use Rattle.mvo_model.specs.History.{write_of}
use Rattle.mvo_model.specs.Trace.{Step, Phase, commits, history_of, phase_of}
use Rattle.mvo_model.specs.Trace.Phase.{Active as IsActive, Preparing as IsPreparing}
use Rattle.mvo_theory.specs.Entries.{entries}
use Rattle.mvo_types.specs.declared.entry.Entry.TheVariants.{Key, Range}
use Rattle.mvo_theory.specs.State.{State, StampedTx, ActiveTx, EndedTx, active_of, preparing_of, ended_of, history_of_active}
use Rattle.mvo_theory.specs.Phases.{phase_by, phase_in, ended_as, is_absent, is_ended, is_preparing}
use Rattle.mvo_types.specs.Causes.{first_cause, or_next, when}
use Rattle.mvo_theory.specs.Causes.{flagged, is_entry_too_many, is_failure, why_not_do, why_not_rollback}
use Rattle.mvo_theory.specs.Calls.{IsKept}
use Rattle.mvo_theory.specs.Calls.Call.{Do, Precommit, Validate, Settle}
use Rattle.mvo_theory.specs.Calls.Result.{Refused}
use Rattle.mvo_theory.specs.State.{Outcome}
use Rattle.mvo_theory.specs.State.Outcome.{Committed as CommittedAt, Aborted as AbortedNow}
use Rattle.mvo_readonly.specs.ReadAt.{WritesNothing}
use Rattle.mvo_readonly.specs.Whole.{ReaderStage, UnfinishedReader, CommittedReader, WholeState, stage_of, phase_at_stage}
use Rattle.mvo_readonly.specs.WholeCauses.{flag_of_reader, why_not_reader, MayComeAtStage}
use Rattle.mvo_readonly.specs.WholeCalls.{checked_more, with_stage}
use Rattle.mvo_readonly.specs.Whole.ReaderStage.{Reading, Preparing, Committed, Aborted}
use Rattle.mvo_readonly.specs.WholeKept.{core_phase, IsUnfinishedReader, IsCommittedReader, HaveDistinctIds, IsWholeKept, reader_commits}
use Rattle.mvo_readonly.proofs.Traces.{phase_others, history_quiet, AreOthers}
use Rattle.mvo_readonly.proofs.Others.{reader_stays}

-- ---- the one that is named
none_stage : (p : ReaderStage) → ◌≡◌ {A = Option ReaderStage} None (Some p) → ⊥
none_stage p e = cc

some_stage : (p q : ReaderStage) → ◌≡◌ {A = Option ReaderStage} (Some p) (Some q) → p ≡ q
some_stage p q e = cc

pub staged : (P : UnfinishedReader → Type 0) (t : ℕ) (rs : List UnfinishedReader) (p : ReaderStage) → stage_of t rs ≡ Some p → AllByRecursion P rs → (r : UnfinishedReader) × P r × (r.id ≡ t) × (r.stage ≡ p)
staged P t [] p e h = absurd (none_stage p e)
staged P t (r ∷ rs) p e h = go (r.id == t) refl e (λ f. staged P t rs p f h.1)
  where
    go : (b : Bool) → (r.id == t) ≡ b → cond b (Some r.stage) (stage_of t rs) ≡ Some p → (stage_of t rs ≡ Some p → (q : UnfinishedReader) × P q × (q.id ≡ t) × (q.stage ≡ p)) → (q : UnfinishedReader) × P q × (q.id ≡ t) × (q.stage ≡ p)
    go true f g k = (r, h.0, eqb-true r.id t f, some_stage r.stage p g)
    go false f g k = k g

-- where both traces have it
pub core_stands : (ws xs : List Step) (s : State) (t : ℕ) (rs : List UnfinishedReader) (p : ReaderStage) → stage_of t rs ≡ Some p → AllByRecursion (IsUnfinishedReader ws xs s) rs → (phase_of t xs ≡ core_phase p) × (phase_of t ws ≡ phase_at_stage t p) × WritesNothing (history_of t xs) × (t ≤ s.clock) × (s.start < t)
core_stands ws xs s t rs p e h =
    let f = staged (IsUnfinishedReader ws xs s) t rs p e h in
    let i = f.2 in
    let q = f.3 in (
      subst (λ (n : ℕ). phase_of n xs ≡ core_phase p) i (f.1.stands ∙ ap core_phase q),
      subst (λ (n : ℕ). phase_of n ws ≡ phase_at_stage n p) i (f.1.phase ∙ ap (phase_at_stage f.0.id) q),
      subst (λ (n : ℕ). WritesNothing (history_of n xs)) i f.1.idle,
      (let d = f.1.drawn in omega arith),
      (let d = f.1.later in omega arith),
    )

-- ---- in the core of the others
pub found_active : (s : State) (t : ℕ) → phase_in s t ≡ IsActive → (r : ActiveTx) × (active_of t s.active ≡ Some r)
found_active s t e = go (active_of t s.active) (preparing_of t s.stamped) (ended_of t s.ended) e
  where
    ended : (u : EndedTx) → ended_as u.outcome ≡ IsActive → ⊥
    ended u f = by u.outcome f
      where
        by : (o : Outcome) → ended_as o ≡ IsActive → ⊥
        by (CommittedAt n) g = absurd cc
        by AbortedNow g = absurd cc

    go : (a : Option ActiveTx) (b : Option StampedTx) (c : Option EndedTx) → phase_by a b c ≡ IsActive → (r : ActiveTx) × (a ≡ Some r)
    go (Some r) b c f = (r, refl)
    go None (Some x) c f = absurd cc
    go None None (Some u) f = absurd (ended u f)
    go None None None f = absurd cc

pub may_roll_back : (s : State) (t : ℕ) → phase_in s t ≡ IsActive → why_not_rollback s t ≡ None
may_roll_back s t e = ap (λ (p : Phase). first_cause (when (is_absent p) NoSuchTransaction ∷ when (is_ended p) Ended ∷ [])) e

-- ---- what the causes say
none_why : (r : Refusal) → ◌≡◌ {A = Option Refusal} (Some r) None → ⊥
none_why r e = cc

stopped : (f : Option ℕ) (r : Refusal) → or_next (flagged f) (Some r) ≡ None → ⊥
stopped None r e = none_why r e
stopped (Some x) r e = none_why _ e

pub not_flagged : (f : Option ℕ) (w : Option Refusal) → or_next (flagged f) w ≡ None → (f ≡ None) × (w ≡ None)
not_flagged None w e = (refl, e)
not_flagged (Some x) w e = absurd (none_why _ e)

-- an operation that is answered is a read or a scan, and nothing stands in its way in the core
pub may_read : (s : State) (t : ℕ) (op : Op) (p : ReaderStage) → phase_in s t ≡ core_phase p → why_not_reader s p (Do t op) ≡ None → (why_not_do s t op ≡ None) × ((a : AnswerData) → write_of op a ≡ None)
may_read s t op Committed e w = absurd (none_why Ended w)
may_read s t op Aborted e w = absurd (none_why Ended w)
may_read s t op (Preparing n v) e w = absurd (none_why NotActive w)
may_read s t (Insert row) Reading e w = absurd (stopped (flag_of_reader s t) ReadOnly w)
may_read s t (Update row) Reading e w = absurd (stopped (flag_of_reader s t) ReadOnly w)
may_read s t (Delete k) Reading e w = absurd (stopped (flag_of_reader s t) ReadOnly w)
may_read s t (Read k) Reading e w = (
  ap (λ (p : Phase). first_cause (when (is_absent p) NoSuchTransaction ∷ when (is_ended p) Ended ∷ when (is_preparing p) NotActive ∷ flagged (flag_of_reader s t) ∷ when (nat_lt MAX_TABLE k.table) BadTable ∷ when (is_entry_too_many (history_of_active t s.active) (Key k)) TooManyReads ∷ [])) e ∙ w,
  λ a. refl,
)
may_read s t (Scan table lo hi) Reading e w = (
  ap (λ (p : Phase). first_cause (when (is_absent p) NoSuchTransaction ∷ when (is_ended p) Ended ∷ when (is_preparing p) NotActive ∷ flagged (flag_of_reader s t) ∷ when (nat_lt MAX_TABLE table) BadTable ∷ when (is_entry_too_many (history_of_active t s.active) (Range table lo hi)) TooManyReads ∷ [])) e ∙ w,
  λ a. refl,
)

pub may_prepare : (s : State) (t : ℕ) (p : ReaderStage) → why_not_reader s p (Precommit t) ≡ None → core_phase p ≡ IsActive
may_prepare s t Reading w = refl
may_prepare s t (Preparing n v) w = refl
may_prepare s t Committed w = absurd (none_why Ended w)
may_prepare s t Aborted w = absurd (none_why Ended w)

-- one that settles isn't flagged
pub may_settle : (s : State) (t : ℕ) (p : ReaderStage) → why_not_reader s p (Settle t) ≡ None → (core_phase p ≡ IsActive) × (flag_of_reader s t ≡ None)
may_settle s t Reading w = absurd (none_why _ w)
may_settle s t (Preparing n v) w = (refl, (not_flagged (flag_of_reader s t) _ w).0)
may_settle s t Committed w = absurd (none_why Ended w)
may_settle s t Aborted w = absurd (none_why Ended w)

-- one that a refusal aborts is Active in the core
not_failure : (r : Refusal) → r ≡ Ended → is_failure r ≡ true → ⊥
not_failure r e f = false≢true (sym (ap is_failure e) ∙ f)

pub may_fail_do : (w : WholeState) (t : ℕ) (op : Op) (p : ReaderStage) (r : Refusal) → MayComeAtStage w (Do t op) (Some p) (Refused r) → is_failure r ≡ true → core_phase p ≡ IsActive
may_fail_do w t op Reading r m f = refl
may_fail_do w t op (Preparing n v) r m f = refl
may_fail_do w t op Committed r m f = absurd (not_failure r m f)
may_fail_do w t op Aborted r m f = absurd (not_failure r m f)

pub may_fail_precommit : (w : WholeState) (t : ℕ) (p : ReaderStage) (r : Refusal) → MayComeAtStage w (Precommit t) (Some p) (Refused r) → is_failure r ≡ true → core_phase p ≡ IsActive
may_fail_precommit w t Reading r m f = refl
may_fail_precommit w t (Preparing n v) r m f = refl
may_fail_precommit w t Committed r m f = absurd (not_failure r m f)
may_fail_precommit w t Aborted r m f = absurd (not_failure r m f)

pub may_fail_validate : (w : WholeState) (t : ℕ) (p : ReaderStage) (r : Refusal) → MayComeAtStage w (Validate t) (Some p) (Refused r) → is_failure r ≡ true → core_phase p ≡ IsActive
may_fail_validate w t Reading r m f = refl
may_fail_validate w t (Preparing n v) r m f = refl
may_fail_validate w t Committed r m f = absurd (not_failure r m f)
may_fail_validate w t Aborted r m f = absurd (not_failure r m f)

pub may_fail_settle : (w : WholeState) (t : ℕ) (p : ReaderStage) (r : Refusal) → MayComeAtStage w (Settle t) (Some p) (Refused r) → is_failure r ≡ true → core_phase p ≡ IsActive
may_fail_settle w t Reading r m f = refl
may_fail_settle w t (Preparing n v) r m f = refl
may_fail_settle w t Committed r m f = absurd (not_failure r m f)
may_fail_settle w t Aborted r m f = absurd (not_failure r m f)

-- a check moves the stage within Preparing
pub checked_phase : (s : State) (t : ℕ) (p : ReaderStage) → (core_phase (checked_more s t p) ≡ core_phase p) × (phase_at_stage t (checked_more s t p) ≡ phase_at_stage t p)
checked_phase s t Reading = (refl, refl)
checked_phase s t Committed = (refl, refl)
checked_phase s t Aborted = (refl, refl)
checked_phase s t (Preparing n v) = go v
  where
    go : (b : Bool) → (core_phase (cond b (Preparing n b) (Preparing (n + 1) (nat_le (length (entries (history_of_active t s.active))) (n + 1)))) ≡ IsActive) × (phase_at_stage t (cond b (Preparing n b) (Preparing (n + 1) (nat_le (length (entries (history_of_active t s.active))) (n + 1)))) ≡ IsPreparing t)
    go true = (refl, refl)
    go false = (refl, refl)

-- ---- one stage more
pub each_staged : (P Q : UnfinishedReader → Type 0) (t : ℕ) (q : ReaderStage) → ((r : UnfinishedReader) → P r → r.id ≡ t → Q (record r { stage = q })) → ((r : UnfinishedReader) → P r → r.id ≢ t → Q r) → (rs : List UnfinishedReader) → AllByRecursion P rs → AllByRecursion Q (with_stage t q rs)
each_staged P Q t q f g [] h = tt
each_staged P Q t q f g (r ∷ rs) h = (go (r.id == t) refl, each_staged P Q t q f g rs h.1)
  where
    go : (b : Bool) → (r.id == t) ≡ b → Q (record r { stage = cond b q r.stage })
    go true e = f r h.0 (eqb-true r.id t e)
    go false e = g r h.0 (λ i. true≢false (sym (eq-eqb r.id t i) ∙ e))

some_none : (p : ReaderStage) → ◌≡◌ {A = Option ReaderStage} (Some p) None → ⊥
some_none p e = cc

pub unstaged_before : (u t : ℕ) (q : ReaderStage) (rs : List UnfinishedReader) → stage_of u (with_stage t q rs) ≡ None → stage_of u rs ≡ None
unstaged_before u t q [] e = refl
unstaged_before u t q (r ∷ rs) e = go (r.id == u) e (unstaged_before u t q rs)
  where
    go : (b : Bool) → cond b (Some (cond (r.id == t) q r.stage)) (stage_of u (with_stage t q rs)) ≡ None → (stage_of u (with_stage t q rs) ≡ None → stage_of u rs ≡ None) → cond b (Some r.stage) (stage_of u rs) ≡ None
    go true f k = absurd (some_none _ f)
    go false f k = k f

-- it is none of those without a stage
pub not_it : (u t : ℕ) (rs : List UnfinishedReader) (p : ReaderStage) → stage_of t rs ≡ Some p → stage_of u rs ≡ None → u ≢ t
not_it u t rs p e f i = some_none p (sym e ∙ subst (λ (n : ℕ). stage_of n rs ≡ None) i f)

-- ---- a call of the read-only transaction t, after which its stage is q
pub moved : (opening : Map) (ws xs us vs : List Step) (w : WholeState) (t : ℕ) (p q : ReaderStage) (s' : State) (ys : List CommittedReader) → stage_of t w.readers ≡ Some p → IsWholeKept opening ws xs w → IsKept opening (xs ++ vs) s' → w.core.clock ≤ s'.clock → s'.start ≡ w.core.start →
    ((u : ℕ) → t ≢ u → AreOthers u us × AreOthers u vs) → phase_of t (xs ++ vs) ≡ core_phase q → phase_of t (ws ++ us) ≡ phase_at_stage t q → ((u : ℕ) → history_of u us ≡ []) → ((u : ℕ) → history_of u vs ≡ []) →
    AllByRecursion (IsCommittedReader opening (xs ++ vs) s') ys → HaveDistinctIds ys → IsPermutation (commits (ws ++ us)) (commits (xs ++ vs) ++ reader_commits ys) →
    IsWholeKept opening (ws ++ us) (xs ++ vs) (record { core = s'; readers = with_stage t q w.readers; committed_readers = ys })
moved opening ws xs us vs w t p q s' ys e h kept clock start others own whole quiet quiet' committed_readers apart perm = record {
  kept = kept;
  readers = each_staged (IsUnfinishedReader ws xs w.core) (IsUnfinishedReader (ws ++ us) (xs ++ vs) s') t q
      (λ r k i. record {
        stands = subst (λ (n : ℕ). phase_of n (xs ++ vs) ≡ core_phase q) (sym i) own;
        phase = subst (λ (n : ℕ). phase_of n (ws ++ us) ≡ phase_at_stage n q) (sym i) whole;
        idle = subst WritesNothing (sym (history_quiet r.id xs vs (history_of r.id xs) (quiet' r.id) refl)) k.idle;
        drawn = let d = k.drawn in omega arith;
        later = let l = k.later in omega arith;
      })
      (λ r k n. let o = others r.id (λ i. n (sym i)) in reader_stays ws xs us vs w.core s' r o.0 o.1 clock (let l = k.later in omega arith) k) w.readers h.readers;
  committed_readers = committed_readers;
  apart = apart;
  histories = λ u. history_quiet u ws us (history_of u xs) (quiet u) (h.histories u) ∙ sym (history_quiet u xs vs (history_of u xs) (quiet' u) refl);
  commits = perm;
  phases = λ u n.
      let before = unstaged_before u t q w.readers n in
      let o = others u (λ i. not_it u t w.readers p e before (sym i)) in
      phase_others u ws us (phase_of u xs) o.0 (h.phases u before) ∙ sym (phase_others u xs vs (phase_of u xs) o.1 refl);
}
