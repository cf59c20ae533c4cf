-- What a call comes to tells whom its transaction rests on.
use Rattle.std.proofs.Common.{◌≡◌, ℕ, ◌≤◌, Bool, true, false, cond, not, List, [], ◌∷◌, ◌++◌, Option, None, Some, length, refl, sym, ap, ◌∙◌, subst, inl, inr}
use Rattle.std.specs.Prelude.{◌&&◌, nat_lt, nat_le, if◌then◌else◌, slice_get}
use Rattle.std.specs.List.{AllByRecursion}
use Rattle.std.proofs.lemmas.Bool.{true≢false}
use Rattle.mvo_types.specs.declared.limits.TheConstants.{MAX_STAMP, MAX_TABLE, MAX_DATA_LEN}
use Rattle.mvo_types.specs.declared.row.RowKey.{RowKey}
use Rattle.mvo_types.specs.declared.op.Op.{Op}
use Rattle.mvo_types.specs.declared.op.Op.TheVariants.{Read, Scan, Insert, Update, Delete}
use Rattle.mvo_types.specs.declared.cause.Cause.{Cause}
use Rattle.mvo_types.specs.declared.entry.Entry.{Entry}
use Rattle.mvo_types.specs.declared.entry.Entry.TheVariants.{Key, Range}
use Rattle.mvo_types.specs.declared.refusal.Refusal.{Refusal}
use Rattle.mvo_types.specs.declared.refusal.Refusal.TheVariants.{NoSuchTransaction, Ended, NotActive, NotPreparing, NotValidated, DependencyAborted, TooManyWrites, TooManyReads, DataTooLong, BadTable, ClockSpent, OutOfMemory}
use Rattle.mvo_types.specs.Causes.{when, first_cause}
use Rattle.mvo_model.specs.Trace.{phase_of}
use Rattle.mvo_model.specs.Trace.Phase.{Preparing}
use Rattle.mvo_theory.specs.Entries.{entries}
use Rattle.mvo_theory.specs.State.{State, StampedTx, ActiveTx, active_of, preparing_of, ended_of, history_of_active}
use Rattle.mvo_theory.specs.Dependencies.{has_end}
use Rattle.mvo_theory.specs.Phases.{phase_in, is_absent, is_active, is_preparing, is_ended}
use Rattle.mvo_theory.specs.Causes.{flag_of_active, flag_of_preparing, flagged, unless_active, unless_preparing, conflict, conflicts, is_entry_too_many, is_write_too_many, change_of, entry_differs, next_differs, why_not_do, was_valid, waiting_for, awaited_by, awaited}
use Rattle.mvo_theory.specs.Calls.{Call, Result, why_not, takes_memory, IsRefusal, MayCome, IsKept}
use Rattle.mvo_theory.specs.Calls.Call.{Do, Precommit, Validate, Settle}
use Rattle.mvo_theory.specs.Calls.Result.{Accepted, Refused}
use Rattle.mvo_theory.proofs.Apart.{IsIn}
use Rattle.mvo_theory.proofs.Causes.{waiting_none, waiting_is, waiting_least}
use Rattle.mvo_theory.proofs.Commits.{split_at}
use Rattle.mvo_theory.proofs.Firsts.{FirstOf, first_is, none_is, none_refusal, when_none, when_some, flagged_some, conflicts_some, differs_some, runs, prepares}
use Rattle.mvo_theory.proofs.LastWriter.{preparing_phase, preparing_there, found_in}
use Rattle.mvo_theory.proofs.Who.{active_holds, preparing_settled}
use Rattle.mvo_theory.proofs.Depends.{same_stamped}
use Rattle.mvo_theory.specs.rests.Course.{Course}
use Rattle.mvo_theory.specs.rests.Resting.{RestsOn, RestsOnNoAborted}
use Rattle.mvo_theory.specs.rests.Known.{IsFlag, KnowsOne, KnowsRests}
use Rattle.mvo_theory.specs.rests.Laws.{TellsAborted, TellsRests, TellsSettling}
use Rattle.mvo_theory.proofs.rests.Reached.{reached, in_timeline, its_id}

-- ---- which causes name an aborted one
abbrev pub names_aborted : Refusal → Bool
names_aborted (DependencyAborted x) = true
names_aborted r = false

-- none of these causes does
abbrev NamesNone : Option Refusal → Type 0
NamesNone c = (r : Refusal) → c ≡ Some r → names_aborted r ≡ false

abbrev NoneNames : List (Option Refusal) → Type 0
NoneNames cs = AllByRecursion NamesNone cs

no_when : (b : Bool) (v : Refusal) → names_aborted v ≡ false → (r : Refusal) → when b v ≡ Some r → names_aborted r ≡ false
no_when b v n r e = ap names_aborted (when_some b v r e).1 ∙ n

no_conflict : (w : Option Cause) (r : Refusal) → conflicts w ≡ Some r → names_aborted r ≡ false
no_conflict w r e = ap names_aborted (conflicts_some w r e).2

no_difference : (stamped : List StampedTx) (w : Option StampedTx) (r : Refusal) → next_differs stamped w ≡ Some r → names_aborted r ≡ false
no_difference stamped None r e = absurd (none_refusal r e)
no_difference stamped (Some x) r e = at_valid x.valid e
  where
    at_entry : (d : Option Entry) → entry_differs stamped x d ≡ Some r → names_aborted r ≡ false
    at_entry None f = absurd (none_refusal r f)
    at_entry (Some d) f = ap names_aborted (differs_some (change_of stamped x.id x.end d) r f).2

    at_valid : (b : Bool) → (if b then None else entry_differs stamped x (slice_get (entries x.history) x.checked)) ≡ Some r → names_aborted r ≡ false
    at_valid true f = absurd (none_refusal r f)
    at_valid false f = at_entry (slice_get (entries x.history) x.checked) f

first_names : (cs : List (Option Refusal)) (r : Refusal) → NoneNames cs → FirstOf cs r → names_aborted r ≡ false
first_names [] r n f = absurd f
first_names (c ∷ cs) r n (inl e) = n.0 r e
first_names (c ∷ cs) r n (inr q) = first_names cs r n.1 q.1

none_stamped : (z : StampedTx) → ◌≡◌ {A = Option StampedTx} None (Some z) → ⊥
none_stamped z q = cc

-- what any other refusal tells
pub other_tells : (c : Course) (t : ℕ) (r : Refusal) → names_aborted r ≡ false → RestsOnNoAborted c t → TellsAborted c t (Refused r)
other_tells c t NoSuchTransaction n h = tt
other_tells c t Ended n h = tt
other_tells c t NotActive n h = tt
other_tells c t NotPreparing n h = tt
other_tells c t (DependencyAborted x) n h = absurd (true≢false n)
other_tells c t r n h = h

waiting_in : (ds : List ℕ) (xs : List StampedTx) (y : StampedTx) → waiting_for ds xs ≡ Some y → IsIn y xs
waiting_in ds [] y e = absurd (none_stamped y e)
waiting_in ds (x ∷ xs) y e = go (not x.settled && has_end ds x.end) e (λ g. waiting_in ds xs y g)
  where
    go : (b : Bool) → cond b (Some x) (waiting_for ds xs) ≡ Some y → (waiting_for ds xs ≡ Some y → IsIn y xs) → IsIn y (x ∷ xs)
    go true g r = λ P h. subst P (same_stamped x y g) h.0
    go false g r = λ P h. r g P h.1

none_flagged : (d : Option ℕ) → flagged d ≡ None → d ≡ None
none_flagged None e = refl
none_flagged (Some x) e = absurd cc

module _ (c : Course) (s : State) (k : IsKept c.rows c.steps s) (h : KnowsRests c s) where
  abbrev Tells : ℕ → Refusal → Type 0
  Tells t r = TellsAborted c t (Refused r)

  -- ---- what the state knows of one that is Active, and of one that is Preparing
  pub active_known : (t : ℕ) (r : ActiveTx) → active_of t s.active ≡ Some r → KnowsOne c t r.depends_on r.aborted_dependency
  active_known t r f = let q = active_holds (λ (v : ActiveTx). KnowsOne c v.id v.depends_on v.aborted_dependency) t s.active r f h.active in subst (λ (i : ℕ). KnowsOne c i r.depends_on r.aborted_dependency) q.1 q.0

  open_known : (t : ℕ) (x : StampedTx) → preparing_of t s.stamped ≡ Some x → KnowsOne c t x.depends_on x.aborted_dependency
  open_known t x f =
      let m = found_in t s.stamped x f in
      subst (λ (i : ℕ). KnowsOne c i x.depends_on x.aborted_dependency) m.1
      (m.0 (λ v. v.settled ≡ false → KnowsOne c v.id v.depends_on v.aborted_dependency) h.preparing (split_at t s.stamped x f).4)

  active_flag : (t : ℕ) → is_absent (phase_in s t) ≡ false → is_ended (phase_in s t) ≡ false → is_preparing (phase_in s t) ≡ false → IsFlag c t (flag_of_active (active_of t s.active))
  active_flag t a b d =
      let there = runs (active_of t s.active) (preparing_of t s.stamped) (ended_of t s.ended) a b d in
      subst (IsFlag c t) (sym (ap flag_of_active there.1)) (active_known t there.0 there.1).flag

  open_flag : (t : ℕ) → is_absent (phase_in s t) ≡ false → is_ended (phase_in s t) ≡ false → is_active (phase_in s t) ≡ false → IsFlag c t (flag_of_preparing (preparing_of t s.stamped))
  open_flag t a b d =
      let there = prepares (active_of t s.active) (preparing_of t s.stamped) (ended_of t s.ended) a b d in
      subst (IsFlag c t) (sym (ap flag_of_preparing there.1)) (open_known t there.0 there.1).flag

  -- ---- along the list of causes, whose third is of one that stands elsewhere
  module _ (t : ℕ) (elsewhere : Bool) (v : Refusal) (d : Option ℕ) (flag : is_absent (phase_in s t) ≡ false → is_ended (phase_in s t) ≡ false → elsewhere ≡ false → IsFlag c t d) (rest : List (Option Refusal)) where
    abbrev causes : List (Option Refusal)
    causes = when (is_absent (phase_in s t)) NoSuchTransaction ∷ when (is_ended (phase_in s t)) Ended ∷ when elsewhere v ∷ flagged d ∷ rest

    first_tells : (r : Refusal) → Tells t v → NoneNames rest → FirstOf causes r → Tells t r
    first_tells r told n (inl e) = subst (Tells t) (sym (when_some (is_absent (phase_in s t)) NoSuchTransaction r e).1) tt
    first_tells r told n (inr (a, inl e)) = subst (Tells t) (sym (when_some (is_ended (phase_in s t)) Ended r e).1) tt
    first_tells r told n (inr (a, inr (b, inl e))) = subst (Tells t) (sym (when_some elsewhere v r e).1) told
    first_tells r told n (inr (a, inr (b, inr (p, q)))) =
        let known = flag (when_none (is_absent (phase_in s t)) NoSuchTransaction a) (when_none (is_ended (phase_in s t)) Ended b) (when_none elsewhere v p) in
        elim q [
          | inl e ↦ (let f = flagged_some d r e in subst (Tells t) (sym f.2) (subst (IsFlag c t) f.1 known))
          | inr e ↦ other_tells c t r (first_names rest r n e.1) (subst (IsFlag c t) (none_flagged d e.0) known)
        ]

    free_tells : AllByRecursion (λ w. w ≡ None) causes → RestsOnNoAborted c t
    free_tells n = subst (IsFlag c t) (none_flagged d n.1.1.1.0) (flag (when_none (is_absent (phase_in s t)) NoSuchTransaction n.0) (when_none (is_ended (phase_in s t)) Ended n.1.0) (when_none elsewhere v n.1.1.0))

  active_first : (t : ℕ) (rest : List (Option Refusal)) (r : Refusal) → NoneNames rest → first_cause (unless_active s t ++ rest) ≡ Some r → Tells t r
  active_first t rest r n w = first_tells t (is_preparing (phase_in s t)) NotActive (flag_of_active (active_of t s.active)) (active_flag t) rest r tt n (first_is (unless_active s t ++ rest) r w).is

  active_free : (t : ℕ) (rest : List (Option Refusal)) → first_cause (unless_active s t ++ rest) ≡ None → RestsOnNoAborted c t
  active_free t rest w = free_tells t (is_preparing (phase_in s t)) NotActive (flag_of_active (active_of t s.active)) (active_flag t) rest (none_is (unless_active s t ++ rest) w)

  open_first : (t : ℕ) (rest : List (Option Refusal)) (r : Refusal) → NoneNames rest → first_cause (unless_preparing s t ++ rest) ≡ Some r → Tells t r
  open_first t rest r n w = first_tells t (is_active (phase_in s t)) NotPreparing (flag_of_preparing (preparing_of t s.stamped)) (open_flag t) rest r tt n (first_is (unless_preparing s t ++ rest) r w).is

  open_free : (t : ℕ) (rest : List (Option Refusal)) → first_cause (unless_preparing s t ++ rest) ≡ None → RestsOnNoAborted c t
  open_free t rest w = free_tells t (is_active (phase_in s t)) NotPreparing (flag_of_preparing (preparing_of t s.stamped)) (open_flag t) rest (none_is (unless_preparing s t ++ rest) w)

  -- the causes behind those
  abbrev bad_table : ℕ → Option Refusal
  bad_table table = when (nat_lt MAX_TABLE table) BadTable

  abbrev long_data : List ℕ → Option Refusal
  long_data bytes = when (nat_lt MAX_DATA_LEN (length bytes)) DataTooLong

  abbrev many_entries : ℕ → Entry → Option Refusal
  many_entries t d = when (is_entry_too_many (history_of_active t s.active) d) TooManyReads

  abbrev many_writes : ℕ → RowKey → Option Refusal
  many_writes t j = when (is_write_too_many (history_of_active t s.active) j) TooManyWrites

  abbrev causes_of : ℕ → Op → List (Option Refusal)
  causes_of t (Read j) = bad_table j.table ∷ many_entries t (Key j) ∷ []
  causes_of t (Scan table lo hi) = bad_table table ∷ many_entries t (Range table lo hi) ∷ []
  causes_of t (Insert row) = bad_table row.key.table ∷ long_data row.bytes ∷ many_entries t (Key row.key) ∷ many_writes t row.key ∷ []
  causes_of t (Update row) = bad_table row.key.table ∷ long_data row.bytes ∷ many_entries t (Key row.key) ∷ many_writes t row.key ∷ conflicts (conflict s t row.key) ∷ []
  causes_of t (Delete j) = bad_table j.table ∷ many_entries t (Key j) ∷ many_writes t j ∷ conflicts (conflict s t j) ∷ []

  causes_are : (t : ℕ) (op : Op) → why_not_do s t op ≡ first_cause (unless_active s t ++ causes_of t op)
  causes_are t (Read j) = refl
  causes_are t (Scan table lo hi) = refl
  causes_are t (Insert row) = refl
  causes_are t (Update row) = refl
  causes_are t (Delete j) = refl

  table_no : (table : ℕ) → NamesNone (bad_table table)
  table_no table = no_when (nat_lt MAX_TABLE table) BadTable refl

  data_no : (bytes : List ℕ) → NamesNone (long_data bytes)
  data_no bytes = no_when (nat_lt MAX_DATA_LEN (length bytes)) DataTooLong refl

  entry_no : (t : ℕ) (d : Entry) → NamesNone (many_entries t d)
  entry_no t d = no_when (is_entry_too_many (history_of_active t s.active) d) TooManyReads refl

  write_no : (t : ℕ) (j : RowKey) → NamesNone (many_writes t j)
  write_no t j = no_when (is_write_too_many (history_of_active t s.active) j) TooManyWrites refl

  none_names : (t : ℕ) (op : Op) → NoneNames (causes_of t op)
  none_names t (Read j) = (table_no j.table, (entry_no t (Key j), tt))
  none_names t (Scan table lo hi) = (table_no table, (entry_no t (Range table lo hi), tt))
  none_names t (Insert row) = (table_no row.key.table, (data_no row.bytes, (entry_no t (Key row.key), (write_no t row.key, tt))))
  none_names t (Update row) = (table_no row.key.table, (data_no row.bytes, (entry_no t (Key row.key), (write_no t row.key, (no_conflict (conflict s t row.key), tt)))))
  none_names t (Delete j) = (table_no j.table, (entry_no t (Key j), (write_no t j, (no_conflict (conflict s t j), tt))))

  -- ---- each call
  all_free : (call : Call) → why_not s call ≡ None → TellsRests c call Accepted × TellsRests c call (Refused OutOfMemory)
  all_free (Do t op) w = let n = active_free t (causes_of t op) (sym (causes_are t op) ∙ w) in (n, n)
  all_free (Precommit t) w = let n = active_free t (when (nat_le MAX_STAMP s.clock) ClockSpent ∷ []) w in (n, n)
  all_free (Validate t) w = let n = open_free t (next_differs s.stamped (preparing_of t s.stamped) ∷ []) w in (n, n)
  all_free (Settle t) w = let n = open_free t (when (not (was_valid (preparing_of t s.stamped))) NotValidated ∷ []) w in (n, n)
  all_free call w = (tt, tt)

  all_refused : (call : Call) (r : Refusal) → why_not s call ≡ Some r → TellsRests c call (Refused r)
  all_refused (Do t op) r w = active_first t (causes_of t op) r (none_names t op) (sym (causes_are t op) ∙ w)
  all_refused (Precommit t) r w = active_first t (when (nat_le MAX_STAMP s.clock) ClockSpent ∷ []) r (no_when (nat_le MAX_STAMP s.clock) ClockSpent refl, tt) w
  all_refused (Validate t) r w = open_first t (next_differs s.stamped (preparing_of t s.stamped) ∷ []) r (no_difference s.stamped (preparing_of t s.stamped), tt) w
  all_refused (Settle t) r w = open_first t (when (not (was_valid (preparing_of t s.stamped))) NotValidated ∷ []) r (no_when (not (was_valid (preparing_of t s.stamped))) NotValidated refl, tt) w
  all_refused call r w = tt

  pub told_rests : (call : Call) (r : Result) → MayCome s call r → TellsRests c call r
  told_rests call Accepted m = (all_free call m.0).0
  told_rests call (Refused r) m = go (why_not s call) refl (takes_memory call) m
    where
      go : (w : Option Refusal) → why_not s call ≡ w → (b : Bool) → IsRefusal b w r → TellsRests c call (Refused r)
      go (Some why) e b q = all_refused call r (e ∙ ap (λ (v : Refusal). Some v) (sym q))
      go None e true q = subst (λ (v : Refusal). TellsRests c call (Refused v)) (sym q) (all_free call e).1
      go None e false q = absurd q

  -- ---- a settling
  open_there : (x e : ℕ) → phase_of x c.steps ≡ Preparing e → (y : StampedTx) × (preparing_of x s.stamped ≡ Some y) × (y.end ≡ e)
  open_there x e p = preparing_there (active_of x s.active) (preparing_of x s.stamped) (ended_of x s.ended) e (sym (k.after_trace.phases x) ∙ p)

  -- whom one waits for, of those with these ends, on whom it rests
  pub told_waiting : (t : ℕ) (ds : List ℕ) (f : Option ℕ) → KnowsOne c t ds f → RestsOnNoAborted c t → TellsSettling c t (waiting_for ds s.stamped)
  told_waiting t ds f known none = go (waiting_for ds s.stamped) refl
    where
      go : (v : Option StampedTx) → waiting_for ds s.stamped ≡ v → TellsSettling c t v
      go None w = λ x e a.
          let y = open_there x e a.preparing in
          let open' = (split_at x s.stamped y.0 y.1).4 in
          let free = (found_in x s.stamped y.0 y.1).0 (λ v. v.settled ≡ false → has_end ds v.end ≡ false) (waiting_none ds s.stamped w) open' in
          true≢false (sym (subst (λ (n : ℕ). has_end ds n ≡ true) (sym y.2) (known.all x e a.rests)) ∙ free)
      go (Some y) w =
          let is = waiting_is ds s.stamped y w in
          let r = known.only y.end is.1 in
          let among : IsIn y s.stamped = waiting_in ds s.stamped y w in
          let same = its_id c.rows c.steps s y r.0 k (in_timeline s y among) (reached c s t r.0 y.end k r.1 (none r.0 y.end r.1)) in
          record {
            end' = y.end;
            awaits = record { rests = subst (λ (i : ℕ). RestsOn c t i y.end) same r.1; preparing = k.after_trace.phases y.id ∙ preparing_phase s y among is.0 k.single };
            least = λ z e a.
                let v = open_there z e a.preparing in
                let open' = (split_at z s.stamped v.0 v.1).4 in
                subst (λ (n : ℕ). y.end ≤ n) v.2
                ((found_in z s.stamped v.0 v.1).0 (λ q. q.settled ≡ false → has_end ds q.end ≡ true → y.end ≤ q.end) (waiting_least ds s.stamped y k.sound.rising w) open' (subst (λ (n : ℕ). has_end ds n ≡ true) (sym v.2) (known.all z e a.rests)));
          }

  pub told_settling : (t : ℕ) → MayCome s (Settle t) Accepted → TellsSettling c t (awaited s t)
  told_settling t m =
      let found : (x : StampedTx) × (preparing_of t s.stamped ≡ Some x) = preparing_settled s t m.0 in
      subst (TellsSettling c t) (sym (ap (awaited_by s.stamped) found.1))
      (told_waiting t found.0.depends_on found.0.aborted_dependency (open_known t found.0 found.1) (all_free (Settle t) m.0).0)
