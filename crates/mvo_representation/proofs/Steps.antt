-- Each call keeps the versions those of the state.
use Rattle.std.proofs.Common.{◌≡◌, ℕ, Bool, true, false, cond, List, [], ◌∷◌, ◌++◌, Option, None, Some, refl, sym, ap, ◌∙◌, subst, ◌⊎◌, inl, inr}
use Rattle.std.proofs.lemmas.Bool.{cases_eq}
use Rattle.std.specs.FinMap as fin
use Rattle.mvo_types.specs.declared.row.RowKey.{RowKey}
use Rattle.mvo_types.specs.RowData.{RowData}
use Rattle.mvo_types.specs.declared.op.Op.{Op}
use Rattle.mvo_types.specs.declared.op.Op.TheVariants.{Read, Scan, Insert, Update, Delete}
use Rattle.mvo_types.specs.declared.refusal.Refusal.{Refusal}
use Rattle.mvo_types.specs.declared.refusal.Refusal.TheVariants.{OutOfMemory}
use Rattle.mvo_types.specs.Keys.{Map}
use Rattle.mvo_types.specs.AnswerData.AnswerData.{Inserted, Exists, Updated, Deleted, Absent as NotThere}
use Rattle.mvo_model.specs.History.{net_write}
use Rattle.mvo_theory.specs.State.{State, ActiveTx, StampedTx, snapshot, active_of}
use Rattle.mvo_theory.specs.Changes.{after_answer, after_finish, after_termination, after_trim, after_close, with_words}
use Rattle.mvo_theory.specs.Words.{is_done, words_left}
use Rattle.mvo_theory.specs.Causes.{why_not_do, why_not_settle, why_not_finish, why_not_trim, awaited, is_failure}
use Rattle.mvo_theory.specs.Steps.{after_validate, after_settle, after_settle_unless, after_abort, after_refusal}
use Rattle.mvo_theory.specs.Phases.{phase_in}
use Rattle.mvo_theory.specs.Calls.{Call, Result, IsRefusal, MayCome, why_not, takes_memory, answer_in, after_accepted, after_refused, after_call}
use Rattle.mvo_shared.specs.Standing.{IsStanding}
use Rattle.mvo_theory.specs.Calls.Call.{Begin, Do, Precommit, Validate, Settle, Rollback, Finish, Trim, Close}
use Rattle.mvo_theory.specs.Calls.Result.{Accepted, Refused}
use Rattle.mvo_theory.proofs.Cases.{found_is}
use Rattle.mvo_theory.proofs.Phases.{IsUnended, leads_after_check}
use Rattle.mvo_shared.proofs.Standing.{phases_trimmed}
use Rattle.mvo_theory.proofs.Trimmed.{may_trim}
use Rattle.mvo_theory.proofs.Who.{active_done, unended_done, unended_after_prepare, unended_after_check, unended_settled, unended_rolled_back, ended_finished}
use Rattle.mvo_chain.specs.declared.version.Version.{Version}
use Rattle.mvo_representation.specs.Words.{Phases}
use Rattle.mvo_representation.specs.Versions.{AreVersionsOf}
use Rattle.mvo_representation.specs.Steps.{IsOneMore, fresh, ended_by, IsUnnamed, MayEnd, IsFreeToEnd, IsVersionReplaced, IsVersionRemoved, IsAfterAnswer, IsAfterCall}
use Rattle.mvo_representation.specs.Steps.MayEnd.{Own, Other}
use Rattle.mvo_representation.proofs.TrimRows.{trim_holds_rows}
use Rattle.mvo_representation.proofs.Opened.{kept_moved}
use Rattle.mvo_representation.proofs.Quiet.{kept_after_termination}
use Rattle.mvo_representation.proofs.Cut.{kept_after_trim}
use Rattle.mvo_representation.proofs.Writing.{EndsOther}
use Rattle.mvo_representation.proofs.Reworded.{kept_with_words, kept_after_close}
use Rattle.mvo_representation.proofs.Calls.{IsTable, kept_by_begin, kept_by_precommit, kept_by_validate, kept_by_settle, kept_by_abort, kept_by_read, kept_by_scan, kept_by_insert, kept_by_insert_exists, kept_by_update_absent, kept_by_delete_absent, kept_by_update_other, kept_by_update_own, kept_by_delete_other, kept_by_delete_own}

-- the table is what the state says: so it may be left out
pub retabled : (s : State) (table table' : Phases) (vs : List Version) → IsTable table' s → AreVersionsOf s table vs → AreVersionsOf s table' vs
retabled s table table' vs h k = let same : table ≡ table' = λ i u. (k.phases u ∙ sym (h u)) i in subst (λ (x : Phases). AreVersionsOf s x vs) same k

-- ---- a version goes to any place
placed : (s : State) (table : Phases) (v : Version) (old new : List Version) → IsOneMore v old new → AreVersionsOf s table (old ++ v ∷ []) → AreVersionsOf s table new
placed s table v old new m h = subst (AreVersionsOf s table) m.with' (kept_moved s table m.before v m.after (subst (λ vs. AreVersionsOf s table (vs ++ v ∷ [])) (sym m.without) h))

-- ---- an operation
module _ (opening : Map) (s : State) (table : Phases) (t : ℕ) (mine : ActiveTx) (k : IsStanding opening s) (f : active_of t s.active ≡ Some mine) where
  ends_other : (vs : List Version) (v : Version) → (w : IsFreeToEnd s table t vs v) → EndsOther s table t mine vs v w.stamp
  ends_other vs v w = record { shown = w.shown; unwritten = ap (net_write v.row.key) (sym (found_is t s.active mine f).1) ∙ w.unwritten; free = w.free }

  inserted : (vs vs' : List Version) (r : RowData) → AreVersionsOf s table vs → (b : Bool) → fin.contains_key (snapshot s t) r.key ≡ b → IsAfterAnswer s table t (Insert r) (cond b Exists Inserted) vs vs' → AreVersionsOf (after_answer s t (Insert r) (answer_in s t (Insert r))) table vs'
  inserted vs vs' r h true e a = subst (AreVersionsOf (after_answer s t (Insert r) (answer_in s t (Insert r))) table) (sym a) (kept_by_insert_exists opening s table vs t mine r k h f e)
  inserted vs vs' r h false e a = placed (after_answer s t (Insert r) (answer_in s t (Insert r))) table (fresh t r) vs vs' a (kept_by_insert opening s table vs t mine r k h f e)

  replaced : (vs vs' : List Version) (r : RowData) → AreVersionsOf s table vs → IsVersionReplaced s table t r vs vs' → AreVersionsOf (after_answer s t (Update r) (answer_in s t (Update r))) table vs'
  replaced vs vs' r h a =
      placed (after_answer s t (Update r) (answer_in s t (Update r))) table (fresh t r) a.between vs' a.put
      (subst (λ ws. AreVersionsOf (after_answer s t (Update r) (answer_in s t (Update r))) table (ws ++ fresh t r ∷ [])) a.ended.is (by a.may))
    where
      here : AreVersionsOf s table (a.ended.before ++ a.version ∷ a.ended.after)
      here = subst (AreVersionsOf s table) (sym a.ended.was) h

      by : MayEnd s table t vs a.version → AreVersionsOf (after_answer s t (Update r) (answer_in s t (Update r))) table ((a.ended.before ++ ended_by t a.version ∷ a.ended.after) ++ fresh t r ∷ [])
      by (Own w) = kept_by_update_own opening s table a.ended.before a.version a.ended.after t mine r k here f w a.key
      by (Other w) = kept_by_update_other opening s table a.ended.before a.version a.ended.after t mine r w.stamp k here f (subst (λ ws. EndsOther s table t mine ws a.version w.stamp) (sym a.ended.was) (ends_other vs a.version w)) a.key

  updated : (vs vs' : List Version) (r : RowData) → AreVersionsOf s table vs → (b : Bool) → fin.contains_key (snapshot s t) r.key ≡ b → IsAfterAnswer s table t (Update r) (cond b Updated NotThere) vs vs' → AreVersionsOf (after_answer s t (Update r) (answer_in s t (Update r))) table vs'
  updated vs vs' r h true e a = replaced vs vs' r h a
  updated vs vs' r h false e a = subst (AreVersionsOf (after_answer s t (Update r) (answer_in s t (Update r))) table) (sym a) (kept_by_update_absent opening s table vs t mine r k h f e)

  removed : (vs vs' : List Version) (v : Version) → AreVersionsOf s table vs → IsVersionRemoved s table t v vs vs' → AreVersionsOf (after_answer s t (Delete v.row.key) (answer_in s t (Delete v.row.key))) table vs'
  removed vs vs' v h a = subst (AreVersionsOf (after_answer s t (Delete v.row.key) (answer_in s t (Delete v.row.key))) table) a.ended.is (by a.may)
    where
      here : AreVersionsOf s table (a.ended.before ++ v ∷ a.ended.after)
      here = subst (AreVersionsOf s table) (sym a.ended.was) h

      by : MayEnd s table t vs v → AreVersionsOf (after_answer s t (Delete v.row.key) (answer_in s t (Delete v.row.key))) table (a.ended.before ++ ended_by t v ∷ a.ended.after)
      by (Own w) = kept_by_delete_own opening s table a.ended.before v a.ended.after t mine k here f w
      by (Other w) = kept_by_delete_other opening s table a.ended.before v a.ended.after t mine w.stamp k here f (subst (λ ws. EndsOther s table t mine ws v w.stamp) (sym a.ended.was) (ends_other vs v w))

  deleted : (vs vs' : List Version) (q : RowKey) → AreVersionsOf s table vs → (b : Bool) → fin.contains_key (snapshot s t) q ≡ b → IsAfterAnswer s table t (Delete q) (cond b Deleted NotThere) vs vs' → AreVersionsOf (after_answer s t (Delete q) (answer_in s t (Delete q))) table vs'
  deleted vs vs' q h true e a = subst (λ (j : RowKey). AreVersionsOf (after_answer s t (Delete j) (answer_in s t (Delete j))) table vs') a.1 (removed vs vs' a.0 h a.2)
  deleted vs vs' q h false e a = subst (AreVersionsOf (after_answer s t (Delete q) (answer_in s t (Delete q))) table) (sym a) (kept_by_delete_absent opening s table vs t mine q k h f e)

  answered : (vs vs' : List Version) (op : Op) → AreVersionsOf s table vs → IsAfterAnswer s table t op (answer_in s t op) vs vs' → AreVersionsOf (after_answer s t op (answer_in s t op)) table vs'
  answered vs vs' (Read q) h a = subst (AreVersionsOf (after_answer s t (Read q) (answer_in s t (Read q))) table) (sym a) (kept_by_read opening s table vs t mine q k h f)
  answered vs vs' (Scan tab lo hi) h a = subst (AreVersionsOf (after_answer s t (Scan tab lo hi) (answer_in s t (Scan tab lo hi))) table) (sym a) (kept_by_scan opening s table vs t mine tab lo hi k h f)
  answered vs vs' (Insert r) h a = inserted vs vs' r h (fin.contains_key (snapshot s t) r.key) refl a
  answered vs vs' (Update r) h a = updated vs vs' r h (fin.contains_key (snapshot s t) r.key) refl a
  answered vs vs' (Delete q) h a = deleted vs vs' q h (fin.contains_key (snapshot s t) q) refl a

-- ---- what a refusal leaves
failed : (opening : Map) (s : State) (t : ℕ) (r : Refusal) (vs : List Version) → IsStanding opening s → AreVersionsOf s (phase_in s) vs → (is_failure r ≡ true → IsUnended s t) → AreVersionsOf (after_refusal s t r) (phase_in (after_refusal s t r)) vs
failed opening s t r vs k h u = go (is_failure r) refl
  where
    go : (b : Bool) → is_failure r ≡ b → AreVersionsOf (cond b (after_abort s t) s) (phase_in (cond b (after_abort s t) s)) vs
    go true e = kept_by_abort opening s (phase_in s) (phase_in (after_abort s t)) vs t k h (u e) (λ _. refl)
    go false e = h

refused : (opening : Map) (s : State) (c : Call) (r : Refusal) (vs : List Version) → IsStanding opening s → AreVersionsOf s (phase_in s) vs → why_not s c ≡ Some r → AreVersionsOf (after_refused s c r) (phase_in (after_refused s c r)) vs
refused opening s Begin r vs k h w = h
refused opening s (Do t op) r vs k h w = failed opening s t r vs k h (unended_done s t op r w)
refused opening s (Precommit t) r vs k h w = failed opening s t r vs k h (unended_after_prepare s t r w)
refused opening s (Validate t) r vs k h w = failed opening s t r vs k h (unended_after_check s t r w)
refused opening s (Settle t) r vs k h w = failed opening s t r vs k h (unended_settled s t r w)
refused opening s (Rollback t) r vs k h w = h
refused opening s (Finish t) r vs k h w = h
refused opening s (Trim m) r vs k h w = h
refused opening s (Close fits g full) r vs k h w = h

spent : (s : State) (c : Call) (vs : List Version) → AreVersionsOf s (phase_in s) vs → AreVersionsOf (after_refused s c OutOfMemory) (phase_in (after_refused s c OutOfMemory)) vs
spent s Begin vs h = h
spent s (Do t op) vs h = h
spent s (Precommit t) vs h = h
spent s (Validate t) vs h = h
spent s (Settle t) vs h = h
spent s (Rollback t) vs h = h
spent s (Finish t) vs h = h
spent s (Trim m) vs h = h
spent s (Close fits g full) vs h = h

-- ---- what an accepted call leaves
settled : (opening : Map) (s : State) (t : ℕ) (vs : List Version) → IsStanding opening s → AreVersionsOf s (phase_in s) vs → why_not_settle s t ≡ None → AreVersionsOf (after_settle s t) (phase_in (after_settle s t)) vs
settled opening s t vs k h w = go (awaited s t) refl
  where
    waits : (x : StampedTx) → awaited s t ≡ Some x → AreVersionsOf (after_settle s t) (phase_in (after_settle s t)) vs
    waits x e = subst (λ (o : Option StampedTx). AreVersionsOf (after_settle_unless s t o) (phase_in (after_settle_unless s t o)) vs) (sym e) h

    go : (o : Option StampedTx) → awaited s t ≡ o → AreVersionsOf (after_settle s t) (phase_in (after_settle s t)) vs
    go None e = kept_by_settle opening s (phase_in s) (phase_in (after_settle s t)) vs t k h w e (λ _. refl)
    go (Some x) e = waits x e

finished : (opening : Map) (s : State) (t : ℕ) (vs : List Version) → IsStanding opening s → AreVersionsOf s (phase_in s) vs → why_not_finish s t ≡ None → (is_done s t ≡ true → IsUnnamed t vs) → AreVersionsOf (after_finish s t) (phase_in (after_finish s t)) vs
finished opening s t vs k h w un = go (is_done s t) refl
  where
    go : (b : Bool) → is_done s t ≡ b → AreVersionsOf (cond b (after_termination s t) (with_words (words_left t) s)) (phase_in (cond b (after_termination s t) (with_words (words_left t) s))) vs
    go true e = kept_after_termination s (phase_in s) (phase_in (after_termination s t)) vs t k.single h (ended_finished s t w) (un e) (λ _. refl)
    go false e = retabled (with_words (words_left t) s) (phase_in s) (phase_in (with_words (words_left t) s)) vs (λ _. refl) (kept_with_words (words_left t) s (phase_in s) vs h)

done : (opening : Map) (s : State) (t : ℕ) (op : Op) (vs vs' : List Version) → IsStanding opening s → AreVersionsOf s (phase_in s) vs → why_not_do s t op ≡ None → IsAfterAnswer s (phase_in s) t op (answer_in s t op) vs vs' → AreVersionsOf (after_answer s t op (answer_in s t op)) (phase_in (after_answer s t op (answer_in s t op))) vs'
done opening s t op vs vs' k h w a =
    let r = active_done s t op w in
    let s' = after_answer s t op (answer_in s t op) in
    retabled s' (phase_in s) (phase_in s') vs' (λ _. refl) (answered opening s (phase_in s) t r.0 k r.1 vs vs' op h a)

trimmed : (opening : Map) (s : State) (m : ℕ) (vs : List Version) → IsStanding opening s → AreVersionsOf s (phase_in s) vs → why_not_trim s m ≡ None → AreVersionsOf (after_trim s m) (phase_in (after_trim s m)) vs
trimmed opening s m vs k h w =
    retabled (after_trim s m) (phase_in s) (phase_in (after_trim s m)) vs (λ _. refl)
    (kept_after_trim s (phase_in s) vs m k.sound k.started (may_trim s m w k.sound) h (λ u. sym (phases_trimmed s m (may_trim s m w k.sound) u)) (trim_holds_rows opening s (phase_in s) vs m k h w))

validated : (s : State) (t : ℕ) (vs : List Version) → AreVersionsOf s (phase_in s) vs → AreVersionsOf (after_validate s t) (phase_in (after_validate s t)) vs
validated s t vs h = retabled (after_validate s t) (phase_in s) (phase_in (after_validate s t)) vs (λ _. refl) (kept_by_validate s (phase_in s) vs t h (λ u. same u (cases_eq t u)))
  where
    same : (u : ℕ) → (t ≡ u) ⊎ (t ≡ u → ⊥) → phase_in s u ≡ phase_in (after_validate s t) u
    same u (inl e) = subst (λ (n : ℕ). phase_in s n ≡ phase_in (after_validate s t) n) e (sym (leads_after_check s t).own)
    same u (inr n) = sym ((leads_after_check s t).others u n)

accepted : (opening : Map) (s : State) (c : Call) (vs vs' : List Version) → IsStanding opening s → AreVersionsOf s (phase_in s) vs → why_not s c ≡ None → IsAfterCall s (phase_in s) c Accepted vs vs' → AreVersionsOf (after_accepted s c) (phase_in (after_accepted s c)) vs'
accepted opening s Begin vs vs' k h w a = subst (AreVersionsOf (after_accepted s Begin) (phase_in (after_accepted s Begin))) (sym a) (kept_by_begin opening s (phase_in s) (phase_in (after_accepted s Begin)) vs k h (λ _. refl))
accepted opening s (Do t op) vs vs' k h w a = done opening s t op vs vs' k h w a
accepted opening s (Precommit t) vs vs' k h w a = subst (AreVersionsOf (after_accepted s (Precommit t)) (phase_in (after_accepted s (Precommit t)))) (sym a) (kept_by_precommit opening s (phase_in s) (phase_in (after_accepted s (Precommit t))) vs t k h w (λ _. refl))
accepted opening s (Validate t) vs vs' k h w a = subst (AreVersionsOf (after_validate s t) (phase_in (after_validate s t))) (sym a) (validated s t vs h)
accepted opening s (Settle t) vs vs' k h w a = subst (AreVersionsOf (after_settle s t) (phase_in (after_settle s t))) (sym a) (settled opening s t vs k h w)
accepted opening s (Rollback t) vs vs' k h w a = subst (AreVersionsOf (after_abort s t) (phase_in (after_abort s t))) (sym a) (kept_by_abort opening s (phase_in s) (phase_in (after_abort s t)) vs t k h (unended_rolled_back s t w) (λ _. refl))
accepted opening s (Finish t) vs vs' k h w a = subst (AreVersionsOf (after_finish s t) (phase_in (after_finish s t))) (sym a.0) (finished opening s t vs k h w a.1)
accepted opening s (Trim m) vs vs' k h w a = subst (AreVersionsOf (after_trim s m) (phase_in (after_trim s m))) (sym a) (trimmed opening s m vs k h w)
accepted opening s (Close fits g full) vs vs' k h w a = subst (AreVersionsOf (after_close s g.mark) (phase_in (after_close s g.mark))) (sym a) (kept_after_close s (phase_in s) vs g.mark h)

-- each call, whatever it may come to
pub versions_after_call : (opening : Map) (s : State) (c : Call) (r : Result) (vs vs' : List Version) → IsStanding opening s → MayCome s c r → AreVersionsOf s (phase_in s) vs → IsAfterCall s (phase_in s) c r vs vs' → AreVersionsOf (after_call s c r) (phase_in (after_call s c r)) vs'
versions_after_call opening s c Accepted vs vs' k m h a = accepted opening s c vs vs' k h m.0 a
versions_after_call opening s c (Refused r) vs vs' k m h a = subst (AreVersionsOf (after_refused s c r) (phase_in (after_refused s c r))) (sym (unchanged c a)) (go (why_not s c) refl (takes_memory c) m)
  where
    unchanged : (c : Call) → IsAfterCall s (phase_in s) c (Refused r) vs vs' → vs' ≡ vs
    unchanged Begin e = e
    unchanged (Do t op) e = e
    unchanged (Precommit t) e = e
    unchanged (Validate t) e = e
    unchanged (Settle t) e = e
    unchanged (Rollback t) e = e
    unchanged (Finish t) e = e
    unchanged (Trim m) e = e
    unchanged (Close fits g full) e = e

    go : (w : Option Refusal) → why_not s c ≡ w → (b : Bool) → IsRefusal b w r → AreVersionsOf (after_refused s c r) (phase_in (after_refused s c r)) vs
    go (Some why) e b q = refused opening s c r vs k h (e ∙ ap (λ (v : Refusal). Some v) (sym q))
    go None e true q = subst (λ (v : Refusal). AreVersionsOf (after_refused s c v) (phase_in (after_refused s c v)) vs) (sym q) (spent s c vs h)
    go None e false q = absurd q
