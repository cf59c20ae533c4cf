-- With own works each call is refused for the cause that there is on the whole state.
use Rattle.std.proofs.Common.{◌≡◌, ℕ, Bool, true, false, suc, zero, cond, not, List, [], ◌∷◌, ◌++◌, Option, None, Some, length, refl, sym, ap, ◌∙◌, subst}
use Rattle.std.specs.Prelude.{◌==◌, ◌&&◌, nat_lt, nat_le, slice_get}
use Rattle.std.specs.List.{AllByRecursion}
use Rattle.std.specs.Option.{option_map}
use Rattle.std.proofs.lemmas.List.{length-map}
use Rattle.mvo_types.specs.declared.limits.TheConstants.{MAX_TABLE, MAX_ENTRIES}
use Rattle.mvo_types.specs.declared.op.Op.{Op}
use Rattle.mvo_types.specs.declared.op.Op.TheVariants.{Read, Scan, Insert, Update, Delete}
use Rattle.mvo_types.specs.declared.entry.Entry.{Entry}
use Rattle.mvo_types.specs.declared.entry.Entry.TheVariants.{Key, Range}
use Rattle.mvo_types.specs.declared.refusal.Refusal.{Refusal}
use Rattle.mvo_types.specs.declared.refusal.Refusal.TheVariants.{NotValidated, TooManyReads, BadTable, NothingToDo}
use Rattle.mvo_types.specs.Causes.{when, first_cause}
use Rattle.mvo_types.specs.Entries.{has_entry}
use Rattle.mvo_types.specs.Keys.{Map}
use Rattle.mvo_model.specs.History.{History}
use Rattle.mvo_model.specs.Trace.{Step}
use Rattle.mvo_model.specs.Trace.Phase.{Active as IsActive}
use Rattle.mvo_theory.specs.State.{State, ActiveTx, active_of, history_of_active}
use Rattle.mvo_theory.specs.Phases.{phase_in}
use Rattle.mvo_theory.specs.Marks.{low_water, oldest_begin}
use Rattle.mvo_theory.specs.Changes.{to_stamped}
use Rattle.mvo_theory.specs.Causes.{flagged, flag_of_active, is_entry_too_many}
use Rattle.mvo_theory.specs.Calls.{Call, why_not}
use Rattle.mvo_theory.specs.Calls.Call.{Begin, Do, Precommit, Validate, Settle, Rollback, Finish, Trim, Close}
use Rattle.mvo_theory.proofs.Who.{active_holds}
use Rattle.mvo_shared.specs.Kept.{Looked, WorkContent, entries_in}
use Rattle.mvo_shared.specs.Shared.{AllTaken, WorksById, AreSeen, IsOwnWork, AreOwnWorks}
use Rattle.mvo_shared.specs.Shadow.{shadow}
use Rattle.mvo_shared.specs.Given.{if_mismatch, among, or_behind, first_given, look_differs, is_look_too_many, writes_differ, entry_mismatches, why_not_given}
use Rattle.mvo_shared.specs.Given.GivenRefusal.{Because}
use Rattle.mvo_shared.specs.Held.{work_for}
use Rattle.mvo_shared.proofs.Causes.{no_look_test, no_entry_test}
use Rattle.mvo_shared.proofs.Written.{test_by_same}
use Rattle.mvo_shared.proofs.Own.{one_of_seen}
use Rattle.mvo_shadow.specs.Shadowed.{IsWorkOf, shadow_call}
use Rattle.mvo_shadow.proofs.Finds.{active_flag_alike, oldest_alike, low_water_alike}
use Rattle.mvo_shadow.proofs.Causes.{entries_are, work_of_active}
use Rattle.mvo_shadow.proofs.Runs.{AtShadow, at_there, causes_here}
use Rattle.mvo_readonly.specs.Whole.{ReaderStage, WholeState, stage_of, id_named, stage_named}
use Rattle.mvo_readonly.specs.Whole.ReaderStage.{Reading, Preparing, Committed, Aborted}
use Rattle.mvo_readonly.specs.WholeCauses.{WholeCall, flag_of_reader, unless_reading, unless_prepared, unless_read_only, why_not_reader, has_reader_to, why_not_other, why_not_at_stage}
use Rattle.mvo_readonly.specs.WholeCauses.WholeCall.{CoreCall, BeginReadOnly}
use Rattle.mvo_readonly.specs.WholeKept.{core_phase}
use Rattle.mvo_readonly.proofs.Stages.{staged, found_active}
use Rattle.mvo_readonly.proofs.ReaderCalls.{in_core}
use Rattle.mvo_given.specs.GivenWhole.{GivenWhole, read_causes, why_not_read_given, why_not_take_reads, next_read, read_mismatches, why_not_reader_given, why_not_other_given, why_not_given_at_stage, why_not_given_whole}
use Rattle.mvo_given.specs.GivenCalls.{work_for_whole}
use Rattle.mvo_given.specs.WholeShadowed.{HasReadsAt, HasReads, IsWholeShadowed, GoWholeTogether, why_not_whole, whole_shadow_call}

-- ---- lists of causes
first_among : (cs : List (Option Refusal)) → first_given (among cs) ≡ option_map Because (first_cause cs)
first_among [] = refl
first_among (None ∷ cs) = first_among cs
first_among (Some q ∷ cs) = refl

-- behind the flag, where no mismatch is met
behind_flag : (f : Option ℕ) (b : Bool) (bs cs : List (Option Refusal)) → (f ≡ None → b ≡ false) → (f ≡ None → first_cause bs ≡ first_cause cs)
    → first_given (option_map Because (flagged f) ∷ if_mismatch b ∷ among bs) ≡ option_map Because (first_cause (flagged f ∷ cs))
behind_flag (Some x) b bs cs n h = refl
behind_flag None b bs cs n h = ap (λ (m : Bool). or_behind (if_mismatch m) (first_given (among bs))) (n refl) ∙ first_among bs ∙ ap (option_map Because) (h refl)

-- ---- the one that is found
pub history_found : (t : ℕ) (rs : List ActiveTx) (r : ActiveTx) → active_of t rs ≡ Some r → history_of_active t rs ≡ r.history
history_found t [] r e = absurd (nobody r e)
  where
    nobody : (q : ActiveTx) → ◌≡◌ {A = Option ActiveTx} None (Some q) → ⊥
    nobody q f = cc
history_found t (q ∷ rs) r e = go (q.id == t) e (history_found t rs r)
  where
    same : (p q : ActiveTx) → ◌≡◌ {A = Option ActiveTx} (Some p) (Some q) → p ≡ q
    same p q f = cc

    go : (b : Bool) → cond b (Some q) (active_of t rs) ≡ Some r → (active_of t rs ≡ Some r → history_of_active t rs ≡ r.history) → cond b q.history (history_of_active t rs) ≡ r.history
    go true f h = ap (λ (p : ActiveTx). p.history) (same q r f)
    go false f h = h f

each_got : {X : Type 0} (P : X → Type 0) (xs : List X) (n : ℕ) (x : X) → AllByRecursion P xs → slice_get xs n ≡ Some x → P x
each_got P [] n x h e = absurd (nothing x e)
  where
    nothing : {X : Type 0} (x : X) → ◌≡◌ {A = Option X} None (Some x) → ⊥
    nothing x e = cc
each_got P (y ∷ ys) zero x h e = subst P (same y x e) h.0
  where
    same : {X : Type 0} (y x : X) → ◌≡◌ {A = Option X} (Some y) (Some x) → y ≡ x
    same y x e = cc
each_got P (y ∷ ys) (suc n) x h e = each_got P ys n x h.1 e

look_limit : (ts : History) (w : WorkContent) (e : Entry) → IsWorkOf ts w → is_look_too_many w e ≡ is_entry_too_many ts e
look_limit ts w e h =
    ap (λ (n : ℕ). not (has_entry (entries_in w.looked) e) && nat_le MAX_ENTRIES n) (sym (length-map w.looked (λ (l : Looked). l.entry)))
    ∙ ap (λ (es : List Entry). not (has_entry es e) && nat_le MAX_ENTRIES (length es)) (entries_are ts w h)

module _ (s : State) (all : AllTaken) (works : WorksById) (own : AreOwnWorks (shadow s) all works) (active : AllByRecursion (λ r. IsWorkOf r.history (works r.id)) s.active) (t : ℕ) where
  own_here : (r : ActiveTx) → active_of t (shadow s).active ≡ Some r → IsOwnWork (shadow s).base (shadow s).stamped r (works t)
  own_here r e = let q = active_holds (λ p. IsOwnWork (shadow s).base (shadow s).stamped p (works p.id)) t (shadow s).active r e own.active in subst (λ (n : ℕ). IsOwnWork (shadow s).base (shadow s).stamped r (works n)) q.1 q.0

  -- its work is that of its operations
  pub work_there : phase_in s t ≡ IsActive → IsWorkOf (history_of_active t s.active) (works t)
  work_there a = let f = found_active s t a in subst (λ ts. IsWorkOf ts (works t)) (sym (history_found t s.active f.0 f.1)) (work_of_active s works t f.0 f.1 active)

  -- ---- an operation
  no_look : (op : Op) → flag_of_reader (shadow s) t ≡ None → look_differs (shadow s) (active_of t (shadow s).active) (works t) op ≡ false
  no_look op = go (active_of t (shadow s).active) refl
    where
      go : (v : Option ActiveTx) → active_of t (shadow s).active ≡ v → flag_of_active v ≡ None → look_differs (shadow s) v (works t) op ≡ false
      go None e f = refl
      go (Some r) e f = no_look_test (shadow s) r (works t) op f (own_here r e)

  limits_alike : (op : Op) → IsWorkOf (history_of_active t s.active) (works t) → first_cause (read_causes (works t) op) ≡ first_cause (unless_read_only s t op)
  limits_alike (Read k) h = ap (λ b. first_cause (when (nat_lt MAX_TABLE k.table) BadTable ∷ when b TooManyReads ∷ [])) (look_limit (history_of_active t s.active) (works t) (Key k) h)
  limits_alike (Scan table lo hi) h = ap (λ b. first_cause (when (nat_lt MAX_TABLE table) BadTable ∷ when b TooManyReads ∷ [])) (look_limit (history_of_active t s.active) (works t) (Range table lo hi) h)
  limits_alike (Insert row) h = refl
  limits_alike (Update row) h = refl
  limits_alike (Delete k) h = refl

  read_alike : (p : ReaderStage) (op : Op) → phase_in s t ≡ core_phase p → why_not_read_given (shadow s) p t (works t) op ≡ option_map Because (first_cause (unless_reading s t p ++ unless_read_only s t op))
  read_alike (Preparing n v) op a = refl
  read_alike Committed op a = refl
  read_alike Aborted op a = refl
  read_alike Reading op a =
      behind_flag (flag_of_reader (shadow s) t) (look_differs (shadow s) (active_of t (shadow s).active) (works t) op) (read_causes (works t) op) (unless_read_only s t op) (no_look op) (λ f. limits_alike op (work_there a))
      ∙ ap (λ f. option_map Because (first_cause (flagged f ∷ unless_read_only s t op))) (active_flag_alike s t)

  -- ---- a precommit
  no_write : flag_of_reader (shadow s) t ≡ None → writes_differ (active_of t (shadow s).active) (works t) ≡ false
  no_write n = go (active_of t (shadow s).active) refl
    where
      go : (v : Option ActiveTx) → active_of t (shadow s).active ≡ v → writes_differ v (works t) ≡ false
      go None e = refl
      go (Some r) e = test_by_same r (works t) (own_here r e).writes

  take_alike : (p : ReaderStage) → why_not_take_reads (shadow s) p t (works t) ≡ option_map Because (first_cause (unless_reading s t p))
  take_alike (Preparing n v) = refl
  take_alike Committed = refl
  take_alike Aborted = refl
  take_alike Reading =
      behind_flag (flag_of_reader (shadow s) t) (writes_differ (active_of t (shadow s).active) (works t)) [] [] no_write (λ f. refl)
      ∙ ap (λ f. option_map Because (first_cause (flagged f ∷ []))) (active_flag_alike s t)

  -- ---- a check
  no_read : (w : WorkContent) (p : ReaderStage) → HasReadsAt (λ n. w) works t p → flag_of_reader (shadow s) t ≡ None → read_mismatches (shadow s) (active_of t (shadow s).active) (next_read w p) ≡ false
  no_read w p h = go (active_of t (shadow s).active) refl
    where
      none_in : (r : ActiveTx) → entry_mismatches (shadow s).base (shadow s).stamped (to_stamped r.id r) None ≡ false
      none_in r = refl

      one : (r : ActiveTx) (n : ℕ) → AreSeen (shadow s).base (shadow s).stamped r.id r.depends_on w.looked → (l : Option Looked) → slice_get w.looked n ≡ l → entry_mismatches (shadow s).base (shadow s).stamped (to_stamped r.id r) l ≡ false
      one r n k None e = refl
      one r n k (Some l) e = no_entry_test (shadow s).base (shadow s).stamped (to_stamped r.id r) l (each_got (λ m. AreSeen (shadow s).base (shadow s).stamped r.id r.depends_on (m ∷ [])) w.looked n l (one_of_seen (shadow s).base (shadow s).stamped r.id r.depends_on w.looked k) e)

      at_stage : (r : ActiveTx) (q : ReaderStage) → (AreSeen (shadow s).base (shadow s).stamped r.id r.depends_on (works t).looked) → HasReadsAt (λ n. w) works t q → entry_mismatches (shadow s).base (shadow s).stamped (to_stamped r.id r) (next_read w q) ≡ false
      at_stage r Reading k m = refl
      at_stage r Committed k m = refl
      at_stage r Aborted k m = refl
      at_stage r (Preparing n v) k m = by v
        where
          seen : AreSeen (shadow s).base (shadow s).stamped r.id r.depends_on w.looked
          seen = subst (λ (u : WorkContent). AreSeen (shadow s).base (shadow s).stamped r.id r.depends_on u.looked) (sym m) k

          by : (b : Bool) → entry_mismatches (shadow s).base (shadow s).stamped (to_stamped r.id r) (cond b None (slice_get w.looked n)) ≡ false
          by true = refl
          by false = one r n seen (slice_get w.looked n) refl

      go : (v : Option ActiveTx) → active_of t (shadow s).active ≡ v → flag_of_active v ≡ None → read_mismatches (shadow s) v (next_read w p) ≡ false
      go None e f = refl
      go (Some r) e f = at_stage r p ((own_here r e).seen f) h

  check_alike : (w : WorkContent) (p : ReaderStage) → HasReadsAt (λ n. w) works t p
      → first_given (among (unless_prepared (shadow s) t p) ++ if_mismatch (read_mismatches (shadow s) (active_of t (shadow s).active) (next_read w p)) ∷ []) ≡ option_map Because (first_cause (unless_prepared s t p))
  check_alike w Reading h = refl
  check_alike w Committed h = refl
  check_alike w Aborted h = refl
  check_alike w (Preparing n v) h =
      behind_flag (flag_of_reader (shadow s) t) (read_mismatches (shadow s) (active_of t (shadow s).active) (next_read w (Preparing n v))) [] [] (no_read w (Preparing n v) h) (λ f. refl)
      ∙ ap (λ f. option_map Because (first_cause (flagged f ∷ []))) (active_flag_alike s t)

-- ---- a settling
settle_alike : (s : State) (t : ℕ) (p : ReaderStage) → why_not_reader (shadow s) p (Settle t) ≡ why_not_reader s p (Settle t)
settle_alike s t Reading = refl
settle_alike s t Committed = refl
settle_alike s t Aborted = refl
settle_alike s t (Preparing n v) = ap (λ f. first_cause (flagged f ∷ when (not v) NotValidated ∷ [])) (active_flag_alike s t)

-- ---- at the shadow itself
abbrev pub whole_shadow : WholeState → WholeState
whole_shadow w = record { core = shadow w.core; readers = w.readers; committed_readers = w.committed_readers }

abbrev pub at_whole_shadow : WholeState → AllTaken → WorksById → GivenWhole
at_whole_shadow w all reads = record { whole = whole_shadow w; taken = all; reads = reads }

pub given_whole_is : (w : WholeState) (g : GivenWhole) (works : WorksById) → IsWholeShadowed w g works → at_whole_shadow w g.taken g.reads ≡ g
given_whole_is w g works h =
    ap (λ (q : State). record { whole = record { core = q; readers = w.readers; committed_readers = w.committed_readers }; taken = g.taken; reads = g.reads }) (sym h.core.state)
    ∙ ap (λ rs. record { whole = record { core = g.whole.core; readers = rs; committed_readers = w.committed_readers }; taken = g.taken; reads = g.reads }) (sym h.readers)
    ∙ ap (λ ys. record { whole = record { core = g.whole.core; readers = g.whole.readers; committed_readers = ys }; taken = g.taken; reads = g.reads }) (sym h.committed)

pub same_named : (c : Call) → id_named (shadow_call c) ≡ id_named c
same_named Begin = refl
same_named (Do t op) = refl
same_named (Precommit t) = refl
same_named (Validate t) = refl
same_named (Settle t) = refl
same_named (Rollback t) = refl
same_named (Finish t) = refl
same_named (Trim m) = refl
same_named (Close fits g full) = refl

-- what is known of the read-only transaction that a call names
pub record IsNamed (s : State) (reads works : WorksById) (t : ℕ) (p : ReaderStage) : Type 0 where
  pub phase : phase_in s t ≡ core_phase p
  pub taken : HasReadsAt reads works t p

pub named_here : (opening : Map) (ws xs : List Step) (w : WholeState) (g : GivenWhole) (works : WorksById) (t : ℕ) (p : ReaderStage) → stage_of t w.readers ≡ Some p → GoWholeTogether opening ws xs w g works → IsNamed w.core g.reads works t p
named_here opening ws xs w g works t p e h =
    let f = staged (HasReads g.reads works) t w.readers p e h.shadowed.reads in
    let at = subst (λ (n : ℕ). HasReadsAt g.reads works n f.0.stage) f.2 f.1 in
    record { phase = in_core opening ws xs w t p e h.kept; taken = subst (HasReadsAt g.reads works t) f.3 at }

reads_at : (reads works : WorksById) (t : ℕ) (p : ReaderStage) → HasReadsAt reads works t p → HasReadsAt (λ n. reads t) works t p
reads_at reads works t Reading h = tt
reads_at reads works t Committed h = tt
reads_at reads works t Aborted h = tt
reads_at reads works t (Preparing n v) h = h

module _ (w : WholeState) (all : AllTaken) (works reads : WorksById) (h : AtShadow w.core all works) where
  trim_alike : (m : ℕ) → why_not_other (whole_shadow w) (Trim m) ≡ why_not_other w (Trim m)
  trim_alike m =
      ap (λ (n : ℕ). first_cause (when (not (nat_lt w.core.start m && (nat_le m n && nat_le m (low_water (shadow w.core))))) NothingToDo ∷ when (has_reader_to m w.readers) NothingToDo ∷ [])) (oldest_alike w.core)
      ∙ ap (λ (n : ℕ). first_cause (when (not (nat_lt w.core.start m && (nat_le m (oldest_begin w.core) && nat_le m n))) NothingToDo ∷ when (has_reader_to m w.readers) NothingToDo ∷ [])) (low_water_alike w.core)

  here : (c : Call) → why_not_given (record { state = shadow w.core; taken = all }) (work_for works (shadow_call c)) (shadow_call c) ≡ option_map Because (why_not w.core c)
  here c = causes_here w.core all works h c

  other_alike : (c : Call) → why_not_other_given (at_whole_shadow w all reads) (work_for works (shadow_call c)) (shadow_call c) ≡ option_map Because (why_not_other w c)
  other_alike Begin = here Begin
  other_alike (Do t op) = here (Do t op)
  other_alike (Precommit t) = here (Precommit t)
  other_alike (Validate t) = here (Validate t)
  other_alike (Settle t) = here (Settle t)
  other_alike (Rollback t) = here (Rollback t)
  other_alike (Finish t) = here (Finish t)
  other_alike (Trim m) = ap (option_map Because) (trim_alike m)
  other_alike (Close fits g full) = here (Close fits g full)

  reader_alike : (c : Call) (p : ReaderStage) → ((t : ℕ) → id_named c ≡ Some t → IsNamed w.core reads works t p) → why_not_reader_given (at_whole_shadow w all reads) (work_for works (shadow_call c)) p (shadow_call c) ≡ option_map Because (why_not_reader w.core p c)
  reader_alike Begin p n = here Begin
  reader_alike (Do t op) p n = read_alike w.core all works h.own h.held.active t p op (n t refl).phase
  reader_alike (Precommit t) p n = take_alike w.core all works h.own h.held.active t p
  reader_alike (Validate t) p n = check_alike w.core all works h.own h.held.active t (reads t) p (reads_at reads works t p (n t refl).taken)
  reader_alike (Settle t) p n = ap (option_map Because) (settle_alike w.core t p)
  reader_alike (Rollback t) p n = here (Rollback t)
  reader_alike (Finish t) p n = here (Finish t)
  reader_alike (Trim m) p n = here (Trim m)
  reader_alike (Close fits g full) p n = here (Close fits g full)

  pub stage_alike : (c : Call) (v : Option ReaderStage) → ((t : ℕ) (p : ReaderStage) → id_named c ≡ Some t → v ≡ Some p → IsNamed w.core reads works t p)
      → why_not_given_at_stage (at_whole_shadow w all reads) (work_for works (shadow_call c)) (shadow_call c) v ≡ option_map Because (why_not_at_stage w c v)
  stage_alike c None n = other_alike c
  stage_alike c (Some p) n = reader_alike c p (λ t e. n t p e refl)

  pub whole_alike : ((t : ℕ) (p : ReaderStage) → stage_of t w.readers ≡ Some p → IsNamed w.core reads works t p) → (c : WholeCall)
      → why_not_given_whole (at_whole_shadow w all reads) (work_for_whole works (whole_shadow_call c)) (whole_shadow_call c) ≡ option_map Because (why_not_whole w c)
  whole_alike n BeginReadOnly = here Begin
  whole_alike n (CoreCall c) =
      ap (λ i. why_not_given_at_stage (at_whole_shadow w all reads) (work_for works (shadow_call c)) (shadow_call c) (stage_named w.readers i)) (same_named c)
      ∙ stage_alike c (stage_named w.readers (id_named c)) (λ t p i e. n t p (sym (ap (stage_named w.readers) i) ∙ e))

pub whole_at_there : (opening : Map) (ws xs : List Step) (w : WholeState) (g : GivenWhole) (works : WorksById) → GoWholeTogether opening ws xs w g works → AtShadow w.core g.taken works
whole_at_there opening ws xs w g works h = at_there opening xs w.core (record { state = g.whole.core; taken = g.taken }) works h.others

-- ---- each call
pub whole_causes_go : (opening : Map) (ws xs : List Step) (w : WholeState) (g : GivenWhole) (works : WorksById) (c : WholeCall) → GoWholeTogether opening ws xs w g works
    → why_not_given_whole g (work_for_whole works (whole_shadow_call c)) (whole_shadow_call c) ≡ option_map Because (why_not_whole w c)
whole_causes_go opening ws xs w g works c h =
    subst (λ (q : GivenWhole). why_not_given_whole q (work_for_whole works (whole_shadow_call c)) (whole_shadow_call c) ≡ option_map Because (why_not_whole w c)) (given_whole_is w g works h.shadowed)
    (whole_alike w g.taken works g.reads (whole_at_there opening ws xs w g works h) (λ t p e. named_here opening ws xs w g works t p e h) c)
