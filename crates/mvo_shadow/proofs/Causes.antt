-- Each call is refused on the shadow, with own works, for the cause that there is on the state.
use Rattle.std.proofs.Common.{◌≡◌, ℕ, Bool, true, false, suc, zero, ◌||◌, cond, not, List, [], ◌∷◌, ◌++◌, Option, None, Some, length, refl, sym, ap, ◌∙◌, subst}
use Rattle.std.specs.Prelude.{◌==◌, ◌&&◌, nat_lt, nat_le, is_some, slice_get}
use Rattle.std.specs.List.{AllByRecursion}
use Rattle.std.specs.Option.{option_map}
use Rattle.std.specs.FinMap as fin
use Rattle.std.proofs.lemmas.List.{length-map}
use Rattle.mvo_types.specs.declared.limits.TheConstants.{MAX_STAMP, MAX_TABLE, MAX_DATA_LEN, MAX_UNFINISHED, MAX_ENTRIES}
use Rattle.mvo_types.specs.declared.row.RowKey.{RowKey}
use Rattle.mvo_types.specs.declared.op.Op.{Op}
use Rattle.mvo_types.specs.declared.op.Op.TheVariants.{Read, Scan, Insert, Update, Delete}
use Rattle.mvo_types.specs.declared.entry.Entry.{Entry}
use Rattle.mvo_types.specs.declared.entry.Entry.TheVariants.{Key, Range}
use Rattle.mvo_types.specs.declared.cause.Cause.{Cause}
use Rattle.mvo_types.specs.declared.refusal.Refusal.{Refusal}
use Rattle.mvo_types.specs.declared.refusal.Refusal.TheVariants.{NoSuchTransaction, Ended, NotActive, NotPreparing, NotValidated, NotEnded, TableFull, TooManyWrites, TooManyReads, DataTooLong, BadTable, ClockSpent, RingFull, NothingToDo}
use Rattle.mvo_types.specs.Causes.{when, first_cause}
use Rattle.mvo_types.specs.Entries.{has_entry}
use Rattle.mvo_types.specs.RowData.{RowData}
use Rattle.mvo_types.specs.AnswerData.AnswerData.{Exists, Inserted, Updated, Deleted, Absent}
use Rattle.mvo_model.specs.History.{History, write_of, net_write}
use Rattle.mvo_theory.specs.Entries.{entries}
use Rattle.mvo_theory.specs.State.{State, ActiveTx, StampedTx, active_of, preparing_of, ended_of, history_of_active, snapshot}
use Rattle.mvo_theory.specs.Phases.{phase_in, is_absent, is_active, is_preparing, is_ended}
use Rattle.mvo_theory.specs.Marks.{low_water, oldest_begin}
use Rattle.mvo_theory.specs.Causes.{flag_of_active, flag_of_preparing, flagged, unless_active, unless_preparing, claimed_by, conflict, conflicts, is_entry_too_many, is_write_too_many, why_not_do, why_not_precommit, why_not_validate, differs, entry_differs, next_differs, was_valid}
use Rattle.mvo_theory.specs.Sound.{IsNumbered}
use Rattle.mvo_theory.specs.Calls.{Call, why_not, answer_in}
use Rattle.mvo_theory.specs.Calls.Call.{Begin, Do, Precommit, Validate, Settle, Rollback, Finish, Trim, Close}
use Rattle.mvo_theory.proofs.Who.{active_holds}
use Rattle.mvo_theory.proofs.Each.{each_back}
use Rattle.mvo_theory.proofs.Commits.{split_at}
use Rattle.mvo_shared.specs.Kept.{Looked, WorkContent, entries_in}
use Rattle.mvo_shared.specs.Shared.{AllTaken, looked_of, WorksById, AreOwnWorks}
use Rattle.mvo_shared.specs.Shadow.{active_shadow, stamped_shadow, shadow}
use Rattle.mvo_shared.specs.Causes.{next_looked}
use Rattle.mvo_shared.specs.Given.{if_mismatch, among, first_given, answer_given, look_differs, is_look_too_many, conflict_at, conflict_given, op_causes, why_not_do_given, writes_differ, why_not_precommit_given, look_changed, next_changed, next_mismatches, why_not_validate_given, why_not_given}
use Rattle.mvo_shared.specs.Given.GivenRefusal.{Because, WorkMismatch}
use Rattle.mvo_shared.specs.Held.{work_for}
use Rattle.mvo_shared.proofs.Shadow.{change_shadow}
use Rattle.mvo_shared.proofs.GivenCauses.{active_given}
use Rattle.mvo_shared.proofs.OwnRuns.{never_mismatched, told_by}
use Rattle.mvo_shadow.specs.Shadowed.{IsWorkOf, shadow_call}
use Rattle.mvo_shadow.proofs.Finds.{active_there, preparing_there, phase_alike, active_flag_alike, preparing_flag_alike, was_valid_alike, unfinished_alike, conflict_alike, low_water_alike, oldest_alike}

-- ---- lists of causes
first_among : (cs : List (Option Refusal)) → first_given (among cs) ≡ option_map Because (first_cause cs)
first_among [] = refl
first_among (None ∷ cs) = first_among cs
first_among (Some q ∷ cs) = refl

-- a mismatch that is never answered counts for nothing
skipped : (us : List (Option Refusal)) (b : Bool) (cs : List (Option Refusal)) → (first_given (among us ++ if_mismatch b ∷ among cs) ≡ Some WorkMismatch → ⊥) → first_given (among us ++ if_mismatch b ∷ among cs) ≡ option_map Because (first_cause (us ++ cs))
skipped [] true cs n = absurd (n refl)
skipped [] false cs n = first_among cs
skipped (None ∷ us) b cs n = skipped us b cs n
skipped (Some q ∷ us) b cs n = refl

rest_alike : (us bs cs : List (Option Refusal)) → (first_cause us ≡ None → first_cause bs ≡ first_cause cs) → first_cause (us ++ bs) ≡ first_cause (us ++ cs)
rest_alike [] bs cs h = h refl
rest_alike (None ∷ us) bs cs h = rest_alike us bs cs h
rest_alike (Some q ∷ us) bs cs h = refl

-- ---- the heads
active_head : (s : State) (t : ℕ) → unless_active (shadow s) t ≡ unless_active s t
active_head s t =
    ap (λ p. when (is_absent p) NoSuchTransaction ∷ when (is_ended p) Ended ∷ when (is_preparing p) NotActive ∷ flagged (flag_of_active (active_of t (shadow s).active)) ∷ []) (phase_alike s t)
    ∙ ap (λ f. when (is_absent (phase_in s t)) NoSuchTransaction ∷ when (is_ended (phase_in s t)) Ended ∷ when (is_preparing (phase_in s t)) NotActive ∷ flagged f ∷ []) (active_flag_alike s t)

preparing_head : (s : State) (t : ℕ) → unless_preparing (shadow s) t ≡ unless_preparing s t
preparing_head s t =
    ap (λ p. when (is_absent p) NoSuchTransaction ∷ when (is_ended p) Ended ∷ when (is_active p) NotPreparing ∷ flagged (flag_of_preparing (preparing_of t (shadow s).stamped)) ∷ []) (phase_alike s t)
    ∙ ap (λ f. when (is_absent (phase_in s t)) NoSuchTransaction ∷ when (is_ended (phase_in s t)) Ended ∷ when (is_active (phase_in s t)) NotPreparing ∷ flagged f ∷ []) (preparing_flag_alike s t)

head_found : (s : State) (t : ℕ) → first_cause (unless_active s t) ≡ None → (r : ActiveTx) × (active_of t s.active ≡ Some r) × (r.aborted_dependency ≡ None)
head_found s t e =
    let f = active_given (active_of t s.active) (preparing_of t s.stamped) (ended_of t s.ended) None (first_among (unless_active s t) ∙ ap (option_map Because) e) in
    (f.0, f.1, f.2)

-- ---- the limits
pub entries_are : (ts : History) (w : WorkContent) → IsWorkOf ts w → entries_in w.looked ≡ entries ts
entries_are ts w h = h.order ∙ ap entries h.history

look_limit : (ts : History) (w : WorkContent) (e : Entry) → IsWorkOf ts w → is_look_too_many w e ≡ is_entry_too_many ts e
look_limit ts w e h =
    ap (λ (n : ℕ). not (has_entry (entries_in w.looked) e) && nat_le MAX_ENTRIES n) (sym (length-map w.looked (λ (l : Looked). l.entry)))
    ∙ ap (λ (es : List Entry). not (has_entry es e) && nat_le MAX_ENTRIES (length es)) (entries_are ts w h)

write_limit : (ts : History) (w : WorkContent) (k : RowKey) → IsWorkOf ts w → is_write_too_many w.history k ≡ is_write_too_many ts k
write_limit ts w k h = ap (λ us. is_write_too_many us k) h.history

-- ---- who stands in the way of a write
no_row : (s : State) (t : ℕ) (k : RowKey) → fin.contains_key (snapshot s t) k ≡ false → conflict s t k ≡ None
no_row s t k e = ap (λ (b : Bool). cond (b && not (is_some (net_write k (history_of_active t s.active)))) (claimed_by s t k) None) e

module _ (s : State) (t : ℕ) (w : WorkContent) where
  insert_free : (row : RowData) → answer_given (shadow s) t w (Insert row) ≡ answer_in (shadow s) t (Insert row) → conflict_given (shadow s) t w (Insert row) ≡ None
  insert_free row told = ap (λ a. conflict_at (shadow s) t (write_of (Insert row) a)) told ∙ go (fin.contains_key (snapshot (shadow s) t) row.key) refl
    where
      go : (b : Bool) → fin.contains_key (snapshot (shadow s) t) row.key ≡ b → conflict_at (shadow s) t (write_of (Insert row) (cond b Exists Inserted)) ≡ None
      go true e = refl
      go false e = no_row (shadow s) t row.key e

  update_way : (row : RowData) → answer_given (shadow s) t w (Update row) ≡ answer_in (shadow s) t (Update row) → conflict_given (shadow s) t w (Update row) ≡ conflict s t row.key
  update_way row told = ap (λ a. conflict_at (shadow s) t (write_of (Update row) a)) told ∙ go (fin.contains_key (snapshot (shadow s) t) row.key) refl ∙ conflict_alike s t row.key
    where
      go : (b : Bool) → fin.contains_key (snapshot (shadow s) t) row.key ≡ b → conflict_at (shadow s) t (write_of (Update row) (cond b Updated Absent)) ≡ conflict (shadow s) t row.key
      go true e = refl
      go false e = sym (no_row (shadow s) t row.key e)

  delete_way : (k : RowKey) → answer_given (shadow s) t w (Delete k) ≡ answer_in (shadow s) t (Delete k) → conflict_given (shadow s) t w (Delete k) ≡ conflict s t k
  delete_way k told = ap (λ a. conflict_at (shadow s) t (write_of (Delete k) a)) told ∙ go (fin.contains_key (snapshot (shadow s) t) k) refl ∙ conflict_alike s t k
    where
      go : (b : Bool) → fin.contains_key (snapshot (shadow s) t) k ≡ b → conflict_at (shadow s) t (write_of (Delete k) (cond b Deleted Absent)) ≡ conflict (shadow s) t k
      go true e = refl
      go false e = sym (no_row (shadow s) t k e)

-- ---- an operation: the causes behind the head
abbrev theory_causes : State → ℕ → Op → List (Option Refusal)
theory_causes s t (Read k) = when (nat_lt MAX_TABLE k.table) BadTable ∷ when (is_entry_too_many (history_of_active t s.active) (Key k)) TooManyReads ∷ []
theory_causes s t (Scan table lo hi) = when (nat_lt MAX_TABLE table) BadTable ∷ when (is_entry_too_many (history_of_active t s.active) (Range table lo hi)) TooManyReads ∷ []
theory_causes s t (Insert row) =
    when (nat_lt MAX_TABLE row.key.table) BadTable ∷ when (nat_lt MAX_DATA_LEN (length row.bytes)) DataTooLong ∷ when (is_entry_too_many (history_of_active t s.active) (Key row.key)) TooManyReads
    ∷ when (is_write_too_many (history_of_active t s.active) row.key) TooManyWrites ∷ []
theory_causes s t (Update row) =
    when (nat_lt MAX_TABLE row.key.table) BadTable ∷ when (nat_lt MAX_DATA_LEN (length row.bytes)) DataTooLong ∷ when (is_entry_too_many (history_of_active t s.active) (Key row.key)) TooManyReads
    ∷ when (is_write_too_many (history_of_active t s.active) row.key) TooManyWrites ∷ conflicts (conflict s t row.key) ∷ []
theory_causes s t (Delete k) =
    when (nat_lt MAX_TABLE k.table) BadTable ∷ when (is_entry_too_many (history_of_active t s.active) (Key k)) TooManyReads
    ∷ when (is_write_too_many (history_of_active t s.active) k) TooManyWrites ∷ conflicts (conflict s t k) ∷ []

causes_are : (s : State) (t : ℕ) (op : Op) → first_cause (unless_active s t ++ theory_causes s t op) ≡ why_not_do s t op
causes_are s t (Read k) = refl
causes_are s t (Scan table lo hi) = refl
causes_are s t (Insert row) = refl
causes_are s t (Update row) = refl
causes_are s t (Delete k) = refl

op_alike : (s : State) (t : ℕ) (w : WorkContent) (op : Op) → IsWorkOf (history_of_active t s.active) w → answer_given (shadow s) t w op ≡ answer_in (shadow s) t op → first_cause (op_causes (shadow s) t w op) ≡ first_cause (theory_causes s t op)
op_alike s t w (Read k) h told = ap (λ b. first_cause (when (nat_lt MAX_TABLE k.table) BadTable ∷ when b TooManyReads ∷ [])) (look_limit (history_of_active t s.active) w (Key k) h)
op_alike s t w (Scan table lo hi) h told = ap (λ b. first_cause (when (nat_lt MAX_TABLE table) BadTable ∷ when b TooManyReads ∷ [])) (look_limit (history_of_active t s.active) w (Range table lo hi) h)
op_alike s t w (Insert row) h told =
    let ts = history_of_active t s.active in
    let bad = when (nat_lt MAX_TABLE row.key.table) BadTable in
    let long = when (nat_lt MAX_DATA_LEN (length row.bytes)) DataTooLong in
    ap (λ b. first_cause (bad ∷ long ∷ when b TooManyReads ∷ when (is_write_too_many w.history row.key) TooManyWrites ∷ conflicts (conflict_given (shadow s) t w (Insert row)) ∷ [])) (look_limit ts w (Key row.key) h)
    ∙ ap (λ b. first_cause (bad ∷ long ∷ when (is_entry_too_many ts (Key row.key)) TooManyReads ∷ when b TooManyWrites ∷ conflicts (conflict_given (shadow s) t w (Insert row)) ∷ [])) (write_limit ts w row.key h)
    ∙ ap (λ (c : Option Cause). first_cause (bad ∷ long ∷ when (is_entry_too_many ts (Key row.key)) TooManyReads ∷ when (is_write_too_many ts row.key) TooManyWrites ∷ conflicts c ∷ [])) (insert_free s t w row told)
op_alike s t w (Update row) h told =
    let ts = history_of_active t s.active in
    let bad = when (nat_lt MAX_TABLE row.key.table) BadTable in
    let long = when (nat_lt MAX_DATA_LEN (length row.bytes)) DataTooLong in
    ap (λ b. first_cause (bad ∷ long ∷ when b TooManyReads ∷ when (is_write_too_many w.history row.key) TooManyWrites ∷ conflicts (conflict_given (shadow s) t w (Update row)) ∷ [])) (look_limit ts w (Key row.key) h)
    ∙ ap (λ b. first_cause (bad ∷ long ∷ when (is_entry_too_many ts (Key row.key)) TooManyReads ∷ when b TooManyWrites ∷ conflicts (conflict_given (shadow s) t w (Update row)) ∷ [])) (write_limit ts w row.key h)
    ∙ ap (λ (c : Option Cause). first_cause (bad ∷ long ∷ when (is_entry_too_many ts (Key row.key)) TooManyReads ∷ when (is_write_too_many ts row.key) TooManyWrites ∷ conflicts c ∷ [])) (update_way s t w row told)
op_alike s t w (Delete k) h told =
    let ts = history_of_active t s.active in
    let bad = when (nat_lt MAX_TABLE k.table) BadTable in
    ap (λ b. first_cause (bad ∷ when b TooManyReads ∷ when (is_write_too_many w.history k) TooManyWrites ∷ conflicts (conflict_given (shadow s) t w (Delete k)) ∷ [])) (look_limit ts w (Key k) h)
    ∙ ap (λ b. first_cause (bad ∷ when (is_entry_too_many ts (Key k)) TooManyReads ∷ when b TooManyWrites ∷ conflicts (conflict_given (shadow s) t w (Delete k)) ∷ [])) (write_limit ts w k h)
    ∙ ap (λ (c : Option Cause). first_cause (bad ∷ when (is_entry_too_many ts (Key k)) TooManyReads ∷ when (is_write_too_many ts k) TooManyWrites ∷ conflicts c ∷ [])) (delete_way s t w k told)

-- ---- the transaction that is found
history_found : (t : ℕ) (rs : List ActiveTx) (r : ActiveTx) → active_of t rs ≡ Some r → history_of_active t rs ≡ r.history
history_found t [] r e = absurd (nobody r e)
  where
    nobody : (q : ActiveTx) → ◌≡◌ {A = Option ActiveTx} None (Some q) → ⊥
    nobody q f = cc
history_found t (q ∷ rs) r e = go (q.id == t) e (history_found t rs r)
  where
    same : (p q : ActiveTx) → ◌≡◌ {A = Option ActiveTx} (Some p) (Some q) → p ≡ q
    same p q f = cc

    go : (b : Bool) → cond b (Some q) (active_of t rs) ≡ Some r → (active_of t rs ≡ Some r → history_of_active t rs ≡ r.history) → cond b q.history (history_of_active t rs) ≡ r.history
    go true f h = ap (λ (p : ActiveTx). p.history) (same q r f)
    go false f h = h f

pub work_of_active : (s : State) (works : WorksById) (t : ℕ) (r : ActiveTx) → active_of t s.active ≡ Some r → AllByRecursion (λ q. IsWorkOf q.history (works q.id)) s.active → IsWorkOf r.history (works t)
work_of_active s works t r f h = let q = active_holds (λ q. IsWorkOf q.history (works q.id)) t s.active r f h in subst (λ (n : ℕ). IsWorkOf r.history (works n)) q.1 q.0

pub preparing_holds : (P : StampedTx → Type 0) (t : ℕ) (xs : List StampedTx) (x : StampedTx) → preparing_of t xs ≡ Some x → AllByRecursion P xs → P x × (x.settled ≡ false)
preparing_holds P t xs x f h = let p = split_at t xs x f in ((each_back P p.0 (x ∷ p.1) (subst (AllByRecursion P) p.2 h)).0, p.4)

-- ---- the next entry to check
slice_there : (ls : List Looked) (n : ℕ) → slice_get (entries_in ls) n ≡ option_map (λ (l : Looked). l.entry) (slice_get ls n)
slice_there [] n = refl
slice_there (l ∷ ls) zero = refl
slice_there (l ∷ ls) (suc n) = slice_there ls n

module _ (s : State) (all : AllTaken) (works : WorksById) (numbered : IsNumbered (shadow s)) (own : AreOwnWorks (shadow s) all works)
    (active : AllByRecursion (λ r. IsWorkOf r.history (works r.id)) s.active) (taken : AllByRecursion (λ x. IsWorkOf x.history (all x.end).work) s.stamped)
    (checked : AllByRecursion (λ x. x.settled ≡ false → (all x.end).checked ≡ x.checked) s.stamped) where
  never : (c : Call) → why_not_given (record { state = shadow s; taken = all }) (work_for works c) c ≡ Some WorkMismatch → ⊥
  never c = never_mismatched (record { state = shadow s; taken = all }) works c own

  pub told_alike : (t : ℕ) (op : Op) (r : ActiveTx) → active_of t s.active ≡ Some r → r.aborted_dependency ≡ None → answer_given (shadow s) t (works t) op ≡ answer_in (shadow s) t op
  told_alike t op r f n = told_by (shadow s) all works t op (active_shadow r) (active_there t s.active ∙ ap (option_map active_shadow) f) n numbered own

  do_alike : (t : ℕ) (op : Op) → why_not_do_given (shadow s) t (works t) op ≡ option_map Because (why_not_do s t op)
  do_alike t op =
      skipped (unless_active (shadow s) t) (look_differs (shadow s) (active_of t (shadow s).active) (works t) op) (op_causes (shadow s) t (works t) op) (never (Do t op))
      ∙ ap (λ us. option_map Because (first_cause (us ++ op_causes (shadow s) t (works t) op))) (active_head s t)
      ∙ ap (option_map Because) (rest_alike (unless_active s t) (op_causes (shadow s) t (works t) op) (theory_causes s t op)
      (λ e. let f = head_found s t e in op_alike s t (works t) op (subst (λ ts. IsWorkOf ts (works t)) (sym (history_found t s.active f.0 f.1)) (work_of_active s works t f.0 f.1 active)) (told_alike t op f.0 f.1 f.2))
      ∙ causes_are s t op)

  precommit_alike : (t : ℕ) → why_not_precommit_given (shadow s) t (works t) ≡ option_map Because (why_not_precommit s t)
  precommit_alike t =
      skipped (unless_active (shadow s) t) (writes_differ (active_of t (shadow s).active) (works t)) (when (nat_le MAX_STAMP s.clock) ClockSpent ∷ []) (never (Precommit t))
      ∙ ap (λ us. option_map Because (first_cause (us ++ when (nat_le MAX_STAMP s.clock) ClockSpent ∷ []))) (active_head s t)

  -- ---- a check
  looked_alike : (x : StampedTx) (v : Option Looked) → look_changed (shadow s).stamped (stamped_shadow x) v ≡ entry_differs s.stamped x (option_map (λ (l : Looked). l.entry) v)
  looked_alike x None = refl
  looked_alike x (Some l) = ap differs (change_shadow x.id x.end l.entry s.stamped)

  pub next_alike : (x : StampedTx) → IsWorkOf x.history (all x.end).work → (all x.end).checked ≡ x.checked → option_map (λ (l : Looked). l.entry) (next_looked all x.end) ≡ slice_get (entries x.history) x.checked
  next_alike x h c =
      sym (slice_there (looked_of (all x.end)) (all x.end).checked)
      ∙ ap (λ (n : ℕ). slice_get (entries_in (looked_of (all x.end))) n) c
      ∙ ap (λ (es : List Entry). slice_get es x.checked) (entries_are x.history (all x.end).work h)

  changed_alike : (t : ℕ) → next_changed all (shadow s).stamped (preparing_of t (shadow s).stamped) ≡ next_differs s.stamped (preparing_of t s.stamped)
  changed_alike t = ap (next_changed all (shadow s).stamped) (preparing_there t s.stamped) ∙ go (preparing_of t s.stamped) refl
    where
      go : (v : Option StampedTx) → preparing_of t s.stamped ≡ v → next_changed all (shadow s).stamped (option_map stamped_shadow v) ≡ next_differs s.stamped v
      go None f = refl
      go (Some x) f =
          let h = preparing_holds (λ y. IsWorkOf y.history (all y.end).work) t s.stamped x f taken in
          let c = preparing_holds (λ y. y.settled ≡ false → (all y.end).checked ≡ y.checked) t s.stamped x f checked in
          ap (cond x.valid None) (looked_alike x (next_looked all x.end) ∙ ap (entry_differs s.stamped x) (next_alike x h.0 (c.0 c.1)))

  validate_alike : (t : ℕ) → why_not_validate_given (shadow s) all t ≡ option_map Because (why_not_validate s t)
  validate_alike t =
      let changed = next_changed all (shadow s).stamped (preparing_of t (shadow s).stamped) in
      skipped (unless_preparing (shadow s) t ++ changed ∷ []) (next_mismatches all s.base (shadow s).stamped (preparing_of t (shadow s).stamped)) [] (never (Validate t))
      ∙ ap (λ us. option_map Because (first_cause (us ++ changed ∷ []))) (preparing_head s t)
      ∙ ap (λ c. option_map Because (first_cause (unless_preparing s t ++ c ∷ []))) (changed_alike t)

  -- ---- each call
  pub causes_alike : (c : Call) → why_not_given (record { state = shadow s; taken = all }) (work_for works (shadow_call c)) (shadow_call c) ≡ option_map Because (why_not s c)
  causes_alike Begin = ap (λ (n : ℕ). option_map Because (first_cause (when (nat_le MAX_UNFINISHED n) TableFull ∷ when (nat_le MAX_STAMP s.clock) ClockSpent ∷ []))) (unfinished_alike s)
  causes_alike (Do t op) = do_alike t op
  causes_alike (Precommit t) = precommit_alike t
  causes_alike (Validate t) = validate_alike t
  causes_alike (Settle t) =
      ap (λ us. option_map Because (first_cause (us ++ when (not (was_valid (preparing_of t (shadow s).stamped))) NotValidated ∷ []))) (preparing_head s t)
      ∙ ap (λ b. option_map Because (first_cause (unless_preparing s t ++ when (not b) NotValidated ∷ []))) (was_valid_alike s t)
  causes_alike (Rollback t) = ap (λ p. option_map Because (first_cause (when (is_absent p) NoSuchTransaction ∷ when (is_ended p) Ended ∷ []))) (phase_alike s t)
  causes_alike (Finish t) = ap (λ p. option_map Because (first_cause (when (is_absent p) NoSuchTransaction ∷ when (is_active p || is_preparing p) NotEnded ∷ []))) (phase_alike s t)
  causes_alike (Trim m) =
      ap (λ (n : ℕ). option_map Because (first_cause (when (not (nat_lt s.start m && (nat_le m n && nat_le m (low_water (shadow s))))) NothingToDo ∷ []))) (oldest_alike s)
      ∙ ap (λ (n : ℕ). option_map Because (first_cause (when (not (nat_lt s.start m && (nat_le m (oldest_begin s) && nat_le m n))) NothingToDo ∷ []))) (low_water_alike s)
  causes_alike (Close fits g full) = ap (λ (n : ℕ). option_map Because (first_cause (when (n == s.marks.closed) NothingToDo ∷ when full RingFull ∷ []))) (low_water_alike s)
