-- Whatever works it is given, a core keeps what it keeps: each call, accepted or refused, and so each list of calls.
use Rattle.std.proofs.Common.{◌≡◌, ℕ, ◌≤◌, ◌+◌, Bool, true, false, cond, not, List, [], ◌∷◌, ◌++◌, Option, None, Some, length, map, refl, sym, ap, ◌∙◌, subst, arith}
use Rattle.std.specs.Prelude.{◌&&◌, ◌==◌, is_some}
use Rattle.std.specs.List.{AllByRecursion}
use Rattle.std.specs.Option.{option_map}
use Rattle.std.specs.FinMap as fin
use Rattle.std.proofs.lemmas.Bool.{false≢true, leb-true}
use Rattle.mvo_types.specs.declared.row.RowKey.{RowKey}
use Rattle.mvo_types.specs.declared.op.Op.{Op}
use Rattle.mvo_types.specs.declared.op.Op.TheVariants.{Read, Scan, Insert, Update, Delete}
use Rattle.mvo_types.specs.declared.entry.Entry.{Entry}
use Rattle.mvo_types.specs.declared.entry.Entry.TheVariants.{Key}
use Rattle.mvo_types.specs.declared.refusal.Refusal.{Refusal}
use Rattle.mvo_types.specs.declared.refusal.Refusal.TheVariants.{OutOfMemory}
use Rattle.mvo_types.specs.RowData.{RowData}
use Rattle.mvo_types.specs.AnswerData.{AnswerData}
use Rattle.mvo_types.specs.AnswerData.AnswerData.{Exists, Inserted, Updated, Deleted, Absent}
use Rattle.mvo_types.specs.Keys.{Map}
use Rattle.mvo_types.specs.Write.{Write}
use Rattle.mvo_model.specs.Serial.{answer_to}
use Rattle.mvo_model.specs.History.{write_of, net_write, after_history}
use Rattle.mvo_theory.specs.Entries.{entry_of}
use Rattle.mvo_theory.specs.State.{State, opened, ActiveTx, StampedTx, EndedTx, Claim, Word, active_of, preparing_of, history_of_active, seen_by, snapshot, is_ended_as}
use Rattle.mvo_theory.specs.Dependencies.{has_end}
use Rattle.mvo_theory.specs.Claims.{ended_key, new_claim}
use Rattle.mvo_theory.specs.Words.{words_without, words_left, is_done}
use Rattle.mvo_theory.specs.Changes.{with_words, taken_over, after_operation, after_answer, after_commit, without_ended, after_finish}
use Rattle.mvo_theory.specs.Causes.{claimed_by, conflict, awaited, awaited_by, waiting_for, is_failure, why_not_settle}
use Rattle.mvo_theory.specs.Steps.{after_precommit_of, after_commit_of, after_settle_unless, after_settle, after_abort_of, after_abort, after_refusal}
use Rattle.mvo_theory.specs.Sound.{IsSound, IsActive, IsRising, how_many, IsNumbered}
use Rattle.mvo_theory.specs.Calls.{Call, takes_memory, answer_in, after_refused}
use Rattle.mvo_theory.specs.Calls.Call.{Begin, Do, Precommit, Validate, Settle, Rollback, Finish, Trim, Close}
use Rattle.mvo_theory.proofs.Each.{each_weaker, each_map}
use Rattle.mvo_theory.proofs.Finds.{count_map}
use Rattle.mvo_theory.proofs.Looks.{write_entry}
use Rattle.mvo_theory.proofs.Sound.{IsAnswer}
use Rattle.mvo_theory.proofs.Claims.{IsFirst, none_key, same_key}
use Rattle.mvo_theory.proofs.Commits.{split_at, free_settled}
use Rattle.mvo_theory.proofs.AfterTrace.{alone_open}
use Rattle.mvo_theory.proofs.OriginEnds.{alone_at}
use Rattle.mvo_theory.proofs.LastWriter.{found_in}
use Rattle.mvo_theory.proofs.Phases.{IsUnended}
use Rattle.mvo_theory.proofs.Snapshots.{history_is}
use Rattle.mvo_theory.proofs.Trimmed.{may_trim}
use Rattle.mvo_theory.proofs.Who.{active_holds, id_of, preparing_settled, unended_settled, unended_rolled_back}
use Rattle.mvo_theory.proofs.Kept.{sees}
use Rattle.mvo_shared.specs.Kept.{Looked, WorkContent, IsWork}
use Rattle.mvo_shared.specs.Shared.{TakenWork, AllTaken, looked_of, with_taken, OnlyWrites, AreFound, IsShared, after_registering, after_valid}
use Rattle.mvo_shared.specs.Causes.{is_found, next_looked}
use Rattle.mvo_shared.specs.Standing.{IsStanding}
use Rattle.mvo_shared.specs.Given.{GivenRefusal, GivenState, GivenResult, GivenCall, answer_given, conflict_at, conflict_given, why_not_given, IsGivenRefusal, MayComeGiven, core_op, after_core_op, after_do_given, one_more_checked, is_last_look, after_check_given, after_took, after_given, after_given_run, MayRunGiven, with_new_state}
use Rattle.mvo_shared.specs.Given.GivenRefusal.{Because, WorkMismatch}
use Rattle.mvo_shared.specs.Given.GivenResult.{Took, Denied}
use Rattle.mvo_shared.specs.Held.{IsHeldGiven}
use Rattle.mvo_shared.proofs.Told.{taken_there}
use Rattle.mvo_shared.proofs.Steps.{shared_opened, shared_begun, shared_registered, shared_written, shared_worded, shared_prepared, shared_checked, shared_valid, shared_ended, shared_closed}
use Rattle.mvo_shared.proofs.Finals.{shared_settled, shared_aborted_active, shared_aborted, shared_trimmed}
use Rattle.mvo_shared.proofs.Causes.{found_by_test}
use Rattle.mvo_shared.proofs.Written.{same_by_test}
use Rattle.mvo_shared.proofs.Standing.{standing_opened, standing_begun, standing_registered, standing_written, standing_prepared, standing_valid, standing_settled, standing_aborted_active, standing_aborted, standing_trimmed, standing_ended, standing_closed}
use Rattle.mvo_shared.proofs.GivenCauses.{given_done, do_failed, given_prepared, precommit_failed, given_checked, check_failed}

-- ---- begin
held_begun : (opening : Map) (g : GivenState) → IsHeldGiven opening g → IsHeldGiven opening (after_took g (record { history = []; looked = [] }) Begin)
held_begun opening g h = let now = shared_begun g.state g.taken (g.state.clock + 1) (omega arith) h.shared in record {
  shared = now;
  standing = standing_begun opening g.state (g.state.clock + 1) (omega arith) now.sound h.standing;
}

-- ---- an operation
answers_now : (s : State) (t : ℕ) (op : Op) → IsNumbered s → AllByRecursion (IsAnswer s t op (answer_in s t op)) s.active
answers_now s t op n = each_weaker (λ (r : ActiveTx). r.id ≡ t → snapshot s t ≡ after_history r.history (seen_by s.base s.stamped r.id)) (IsAnswer s t op (answer_in s t op)) (λ r f e _. ap (answer_to op) (f e)) s.active (sees s t n)

-- where the core ends a row, the key is the one that the work is told it writes, and it stands
record IsEnding (s : State) (t : ℕ) (k : RowKey) : Type 0 where
  stands : fin.contains_key (snapshot s t) k ≡ true
  free : conflict s t k ≡ None

same_place : (j k : RowKey) → ◌≡◌ {A = Entry} (Key j) (Key k) → j ≡ k
same_place j k e = cc

is_ending : (s : State) (t : ℕ) (op : Op) (a : AnswerData) (k : RowKey) → is_some (write_of op a) ≡ true → conflict_at s t (write_of op a) ≡ None → ended_key (core_op (snapshot s t) op) (answer_in s t (core_op (snapshot s t) op)) ≡ Some k → IsEnding s t k
is_ending s t op a k w c e = by_write (write_of op a) refl w c
  where
    m : Map
    m = snapshot s t

    put_ends : (row : RowData) (b : Bool) → fin.contains_key m row.key ≡ b → ended_key (cond b (Update row) (Insert row)) (answer_to (cond b (Update row) (Insert row)) m) ≡ Some k → (row.key ≡ k) × (fin.contains_key m k ≡ true)
    put_ends row true f g = let q = same_key row.key k (sym (ap (λ b. ended_key (Update row) (cond b Updated Absent)) f) ∙ g) in (q, ap (fin.contains_key m) (sym q) ∙ f)
    put_ends row false f g = absurd (none_key k (sym (ap (λ b. ended_key (Insert row) (cond b Exists Inserted)) f) ∙ g))

    delete_ends : (j : RowKey) (b : Bool) → fin.contains_key m j ≡ b → ended_key (Delete j) (cond b Deleted Absent) ≡ Some k → (j ≡ k) × (fin.contains_key m k ≡ true)
    delete_ends j true f g = let q = same_key j k g in (q, ap (fin.contains_key m) (sym q) ∙ f)
    delete_ends j false f g = absurd (none_key k g)

    ends : (o : Op) → ended_key (core_op m o) (answer_to (core_op m o) m) ≡ Some k → (entry_of o ≡ Key k) × (fin.contains_key m k ≡ true)
    ends (Read j) g = absurd (none_key k g)
    ends (Scan table lo hi) g = absurd (none_key k g)
    ends (Insert row) g = let q = put_ends row (fin.contains_key m row.key) refl g in (ap Key q.0, q.1)
    ends (Update row) g = let q = put_ends row (fin.contains_key m row.key) refl g in (ap Key q.0, q.1)
    ends (Delete j) g = let q = delete_ends j (fin.contains_key m j) refl g in (ap Key q.0, q.1)

    by_write : (v : Option Write) → write_of op a ≡ v → is_some v ≡ true → conflict_at s t v ≡ None → IsEnding s t k
    by_write None f g n = absurd (false≢true g)
    by_write (Some v) f g n =
        let q = ends op e in
        let is = same_place v.0 k (sym (write_entry op a v f) ∙ q.0) in
        record { stands = q.1; free = subst (λ (j : RowKey). conflict s t j ≡ None) is n }

unclaimed : (s : State) (t : ℕ) (k : RowKey) → IsEnding s t k → is_some (net_write k (history_of_active t s.active)) ≡ false → claimed_by s t k ≡ None
unclaimed s t k h n = sym (ap (λ (b : Bool). cond (b && not (is_some (net_write k (history_of_active t s.active)))) (claimed_by s t k) None) h.stands ∙ ap (λ (b : Bool). cond (not b) (claimed_by s t k) None) n) ∙ h.free

first_given_write : (s : State) (t : ℕ) (op : Op) (a : AnswerData) → is_some (write_of op a) ≡ true → conflict_at s t (write_of op a) ≡ None → IsNumbered s → IsFirst s t (core_op (snapshot s t) op) (answer_in s t (core_op (snapshot s t) op))
first_given_write s t op a w c n k e = each_weaker (λ (q : ActiveTx). q.id ≡ t → history_of_active t s.active ≡ q.history) (λ (q : ActiveTx). q.id ≡ t → is_some (net_write k q.history) ≡ false → claimed_by s q.id k ≡ None)
    (λ q own is none. subst (λ (u : ℕ). claimed_by s u k ≡ None) (sym is) (unclaimed s t k (is_ending s t op a k w c e) (ap (λ ts. is_some (net_write k ts)) (own is) ∙ none))) s.active (history_is t s.active n.distinct)

standing_worded : (opening : Map) (f : EndedTx → List Word) (s : State) → IsSound (with_words f s) → IsStanding opening s → IsStanding opening (with_words f s)
standing_worded opening f s sound h = standing_ended opening s (map {A = EndedTx} (λ u. record u { words = f u }) s.ended)
    (λ t. count_map (is_ended_as t) (λ (u : EndedTx). record u { words = f u }) s.ended (λ u q. q))
    (each_map (λ (u : EndedTx). record u { words = f u }) (λ u. u.id ≤ s.clock) (λ u. u.id ≤ s.clock) (λ u q. q) s.ended h.single.drawn) sound h

held_worded : (opening : Map) (f : EndedTx → List Word) (s : State) (all : AllTaken) → IsHeldGiven opening (record { state = s; taken = all }) → IsHeldGiven opening (record { state = with_words f s; taken = all })
held_worded opening f s all h = let now = shared_worded f s all h.shared in record { shared = now; standing = standing_worded opening f s now.sound h.standing }

held_over : (opening : Map) (c : Option Claim) (s : State) (all : AllTaken) → IsHeldGiven opening (record { state = s; taken = all }) → IsHeldGiven opening (record { state = taken_over c s; taken = all })
held_over opening None s all h = h
held_over opening (Some c) s all h = held_worded opening (λ u. words_without c u.outcome u.words) s all h

held_registered : (opening : Map) (s : State) (all : AllTaken) (t : ℕ) (op : Op) → IsHeldGiven opening (record { state = s; taken = all }) → IsHeldGiven opening (record { state = after_registering s t op; taken = all })
held_registered opening s all t op h = let now = shared_registered s all t op h.shared in record { shared = now; standing = standing_registered opening s t op now.sound h.standing }

held_done : (opening : Map) (s : State) (all : AllTaken) (t : ℕ) (w : WorkContent) (op : Op) → conflict_given s t w op ≡ None → IsHeldGiven opening (record { state = s; taken = all }) → IsHeldGiven opening (record { state = after_do_given s t w op; taken = all })
held_done opening s all t w op c h = told (is_some (write_of op (answer_given s t w op))) refl
  where
    own : Op
    own = core_op (snapshot s t) op

    writes : is_some (write_of op (answer_given s t w op)) ≡ true → (b : Bool) → is_some (write_of own (answer_in s t own)) ≡ b → IsHeldGiven opening (record { state = cond b (after_answer s t own (answer_in s t own)) (after_registering s t own); taken = all })
    writes e false f = held_registered opening s all t own h
    writes e true f =
        let now = shared_written s all t own (answer_in s t own) f (answers_now s t own h.standing.numbered) h.shared in
        held_over opening (new_claim s t own (answer_in s t own)) (after_operation s t own (answer_in s t own)) all (record {
          shared = now;
          standing = standing_written opening s t own (answer_in s t own) (first_given_write s t op (answer_given s t w op) e c h.standing.numbered) now.sound h.standing;
        })

    told : (b : Bool) → is_some (write_of op (answer_given s t w op)) ≡ b → IsHeldGiven opening (record { state = cond b (after_core_op s t own (answer_in s t own)) (after_registering s t op); taken = all })
    told false e = held_registered opening s all t op h
    told true e = writes e (is_some (write_of own (answer_in s t own))) refl

-- ---- precommit
held_prepared : (opening : Map) (s : State) (all : AllTaken) (t : ℕ) (w : WorkContent) → IsWork w → why_not_given (record { state = s; taken = all }) w (Precommit t) ≡ None → IsHeldGiven opening (record { state = s; taken = all }) → IsHeldGiven opening (after_took (record { state = s; taken = all }) w (Precommit t))
held_prepared opening s all t w work n h =
    let f = given_prepared s t w n in
    let r = f.0 in
    let now = sym (ap (after_precommit_of s) f.1) in
    let more = with_taken all (s.clock + 1) (record { work = w; checked = 0 }) in
    let same : active_of r.id s.active ≡ Some r = subst (λ (u : ℕ). active_of u s.active ≡ Some r) (sym (id_of t s.active r f.1)) f.1 in
    let then = shared_prepared s all r (s.clock + 1) w (omega arith) (active_holds (IsActive s.base s.stamped s.clock) t s.active r f.1 h.shared.sound.active).0 (active_holds (λ q. OnlyWrites q.history) t s.active r f.1 h.shared.active).0 work (same_by_test r w f.3) h.shared in
    record {
      shared = subst (λ (q : State). IsShared q more) now then;
      standing = subst (IsStanding opening) now (standing_prepared opening s r (s.clock + 1) (omega arith) same then.sound h.standing);
    }

-- ---- a check
held_checked : (opening : Map) (s : State) (all : AllTaken) (t : ℕ) → why_not_given (record { state = s; taken = all }) (record { history = []; looked = [] }) (Validate t) ≡ None → IsHeldGiven opening (record { state = s; taken = all }) → IsHeldGiven opening (after_check_given (record { state = s; taken = all }) (preparing_of t s.stamped))
held_checked opening s all t n h =
    let f = given_checked s all t n in
    let p = split_at t s.stamped f.0 f.1 in
    subst (λ (v : Option StampedTx). IsHeldGiven opening (after_check_given (record { state = s; taken = all }) v)) (sym f.1) (go f.0 p.0 p.1 p.2 p.4 f.0.valid refl f.2)
  where
    everywhere : (x : StampedTx) (before after : List StampedTx) → s.stamped ≡ before ++ x ∷ after → (P : StampedTx → Type 0) → P x → AllByRecursion (λ y. y.end ≡ x.end → P y) s.stamped
    everywhere x before after e P here = subst (AllByRecursion (λ y. y.end ≡ x.end → P y)) (sym e) (alone_at before after x (subst IsRising e h.shared.sound.rising) P here)

    checked : (x : StampedTx) (before after : List StampedTx) → s.stamped ≡ before ++ x ∷ after → ((l : Looked) → next_looked all x.end ≡ Some l → is_found s.base s.stamped x l ≡ true) → IsShared s (one_more_checked all x.end)
    checked x before after e found = shared_checked s all x.end (everywhere x before after e (λ y. (l : Looked) → next_looked all x.end ≡ Some l → AreFound s.base s.stamped y (l ∷ [])) (λ l q. found_by_test s.base s.stamped x l (found l q))) h.shared

    last : (x : StampedTx) (before after : List StampedTx) → s.stamped ≡ before ++ x ∷ after → x.settled ≡ false → (b : Bool) → is_last_look (all x.end) ≡ b → IsShared s (one_more_checked all x.end) → IsHeldGiven opening (record { state = cond b (after_valid s x.end) s; taken = one_more_checked all x.end })
    last x before after e o false f g = record { shared = g; standing = h.standing }
    last x before after e o true f g =
        let more = one_more_checked all x.end in
        let next : TakenWork = record { work = (all x.end).work; checked = (all x.end).checked + 1 } in
        let through : length (looked_of (more x.end)) ≤ (more x.end).checked = subst (λ (w : TakenWork). length (looked_of w) ≤ w.checked) (sym (taken_there all x.end next)) (leb-true (length (looked_of (all x.end))) ((all x.end).checked + 1) f) in
        let now = shared_valid s more x.end (everywhere x before after e (λ y. (y.settled ≡ false) × (length (looked_of (more y.end)) ≤ (more y.end).checked)) (o, through)) g in
        record { shared = now; standing = standing_valid opening s x.end now.sound h.standing }

    go : (x : StampedTx) (before after : List StampedTx) → s.stamped ≡ before ++ x ∷ after → x.settled ≡ false → (b : Bool) → x.valid ≡ b → (x.valid ≡ false → (l : Looked) → next_looked all x.end ≡ Some l → is_found s.base s.stamped x l ≡ true) →
        IsHeldGiven opening (cond b (record { state = s; taken = all }) (record { state = cond (is_last_look (all x.end)) (after_valid s x.end) s; taken = one_more_checked all x.end }))
    go x before after e o true v found = h
    go x before after e o false v found = last x before after e o (is_last_look (all x.end)) refl (checked x before after e (found v))

-- ---- settle
held_committed : (opening : Map) (s : State) (all : AllTaken) (t : ℕ) (x : StampedTx) → preparing_of t s.stamped ≡ Some x → why_not_settle s t ≡ None → waiting_for x.depends_on s.stamped ≡ None → IsHeldGiven opening (record { state = s; taken = all }) → IsHeldGiven opening (record { state = after_commit s t x.end; taken = all })
held_committed opening s all t x f w n h =
    let p = split_at t s.stamped x f in
    let q = free_settled s t x f w n in
    let m = found_in t s.stamped x f in
    let split = record s { stamped = p.0 ++ x ∷ p.1 } in
    let there : IsShared split all = subst (λ (l : List StampedTx). IsShared (record s { stamped = l }) all) p.2 h.shared in
    let free = subst (AllByRecursion (λ y. y.settled ≡ false → has_end x.depends_on y.end ≡ false)) p.2 q.2 in
    let now : IsShared (after_commit s t x.end) all =
    subst (λ (l : List StampedTx). IsShared (after_commit (record s { stamped = l }) t x.end) all) (sym p.2)
    (subst (λ (i : ℕ). IsShared (after_commit split i x.end) all) p.3
    (shared_settled s.start s.base s.past s.marks s.clock s.active p.0 p.1 x s.ended all p.4 q.1 q.0 free there)) in
    record {
      shared = now;
      standing = standing_settled opening s t x f m.0 (λ P here. subst (AllByRecursion (λ y. y.end ≡ x.end → P y)) (sym p.2) (alone_at p.0 p.1 x (subst IsRising p.2 h.shared.sound.rising) P here)) p.4 q.1 q.0 q.2 now.sound h.standing;
    }

held_settled : (opening : Map) (s : State) (all : AllTaken) (t : ℕ) → why_not_settle s t ≡ None → IsHeldGiven opening (record { state = s; taken = all }) → IsHeldGiven opening (record { state = after_settle s t; taken = all })
held_settled opening s all t w h = go (awaited s t) refl
  where
    go : (v : Option StampedTx) → awaited s t ≡ v → IsHeldGiven opening (record { state = after_settle_unless s t v; taken = all })
    go (Some y) e = h
    go None e =
        let f = preparing_settled s t w in
        subst (λ (v : Option StampedTx). IsHeldGiven opening (record { state = after_commit_of s t v; taken = all })) (sym f.1)
        (held_committed opening s all t f.0 f.1 w (sym (ap (awaited_by s.stamped) f.1) ∙ e) h)

-- ---- an abort
held_aborted : (opening : Map) (s : State) (all : AllTaken) (t : ℕ) → IsUnended s t → IsHeldGiven opening (record { state = s; taken = all }) → IsHeldGiven opening (record { state = after_abort s t; taken = all })
held_aborted opening s all t u h = go (preparing_of t s.stamped) refl
  where
    go : (v : Option StampedTx) → preparing_of t s.stamped ≡ v → IsHeldGiven opening (record { state = after_abort_of s t v; taken = all })
    go None e = let r = u e in let now = shared_aborted_active s all t h.shared in record { shared = now; standing = standing_aborted_active opening s t r.0 r.1 now.sound h.standing }
    go (Some x) e =
        let p = split_at t s.stamped x e in
        let alone : AllByRecursion (λ y. y.end ≡ x.end → y.settled ≡ false) s.stamped = subst (AllByRecursion (λ y. y.end ≡ x.end → y.settled ≡ false)) (sym p.2) (alone_open p.0 p.1 x p.4 (subst IsRising p.2 h.shared.sound.rising)) in
        let now = shared_aborted s all t x.end alone h.shared in
        record { shared = now; standing = standing_aborted opening s t x e alone now.sound h.standing }

held_failed : (opening : Map) (s : State) (all : AllTaken) (t : ℕ) (r : Refusal) → (is_failure r ≡ true → IsUnended s t) → IsHeldGiven opening (record { state = s; taken = all }) → IsHeldGiven opening (record { state = after_refusal s t r; taken = all })
held_failed opening s all t r f h = go (is_failure r) refl
  where
    go : (b : Bool) → is_failure r ≡ b → IsHeldGiven opening (record { state = cond b (after_abort s t) s; taken = all })
    go true e = held_aborted opening s all t (f e) h
    go false e = h

-- ---- finishing
fewer_without : (n t : ℕ) (us : List EndedTx) → how_many (is_ended_as n) (without_ended t us) ≤ how_many (is_ended_as n) us
fewer_without n t [] = omega arith
fewer_without n t (u ∷ us) = go (u.id == t) (fewer_without n t us)
  where
    go : (b : Bool) → how_many (is_ended_as n) (without_ended t us) ≤ how_many (is_ended_as n) us → how_many (is_ended_as n) (cond b us (u ∷ without_ended t us)) ≤ cond (is_ended_as n u) 1 0 + how_many (is_ended_as n) us
    go true l = omega arith
    go false l = omega (arith, l)

each_without : (P : EndedTx → Type 0) (t : ℕ) (us : List EndedTx) → AllByRecursion P us → AllByRecursion P (without_ended t us)
each_without P t [] h = tt
each_without P t (u ∷ us) h = go (u.id == t) (each_without P t us h.1)
  where
    go : (b : Bool) → AllByRecursion P (without_ended t us) → AllByRecursion P (cond b us (u ∷ without_ended t us))
    go true r = h.1
    go false r = (h.0, r)

held_finished : (opening : Map) (s : State) (all : AllTaken) (t : ℕ) → IsHeldGiven opening (record { state = s; taken = all }) → IsHeldGiven opening (record { state = after_finish s t; taken = all })
held_finished opening s all t h = go (is_done s t)
  where
    go : (b : Bool) → IsHeldGiven opening (record { state = cond b (record s { ended = without_ended t s.ended }) (with_words (words_left t) s); taken = all })
    go true = let now = shared_ended s all (without_ended t s.ended) h.shared in record {
      shared = now;
      standing = standing_ended opening s (without_ended t s.ended) (λ n. fewer_without n t s.ended) (each_without (λ u. u.id ≤ s.clock) t s.ended h.standing.single.drawn) now.sound h.standing;
    }
    go false = held_worded opening (words_left t) s all h

-- ---- each call
by_cause : (w : Option Refusal) (r : Refusal) → option_map Because w ≡ Some (Because r) → w ≡ Some r
by_cause None r e = cc
by_cause (Some q) r e = cc

no_cause : (w : Option Refusal) → option_map Because w ≡ None → w ≡ None
no_cause None e = refl
no_cause (Some q) e = cc

held_took : (opening : Map) (g : GivenState) (w : WorkContent) (c : Call) → IsWork w → why_not_given g w c ≡ None → IsHeldGiven opening g → IsHeldGiven opening (after_took g w c)
held_took opening g w Begin work n h = held_begun opening g h
held_took opening g w (Do t op) work n h = let f = given_done g.state t w op n in held_done opening g.state g.taken t w op f.1.first h
held_took opening g w (Precommit t) work n h = held_prepared opening g.state g.taken t w work n h
held_took opening g w (Validate t) work n h = held_checked opening g.state g.taken t n h
held_took opening g w (Settle t) work n h = held_settled opening g.state g.taken t (no_cause _ n) h
held_took opening g w (Rollback t) work n h = held_aborted opening g.state g.taken t (unended_rolled_back g.state t (no_cause _ n)) h
held_took opening g w (Finish t) work n h = held_finished opening g.state g.taken t h
held_took opening g w (Trim m) work n h = let t = may_trim g.state m (no_cause _ n) h.shared.sound in let now = shared_trimmed g.state g.taken m t h.shared in record {
  shared = now;
  standing = standing_trimmed opening g.state m t now.sound h.standing;
}
held_took opening g w (Close fits group full) work n h = let now = shared_closed g.state g.taken group.mark h.shared in record {
  shared = now;
  standing = standing_closed opening g.state group.mark now.sound h.standing;
}

-- a failure stands in the list, since it isn't want of memory
is_cause : (takes : Bool) (why : Option GivenRefusal) (r : Refusal) → IsGivenRefusal takes why (Because r) → is_failure r ≡ true → why ≡ Some (Because r)
is_cause takes (Some q) r e f = ap Some (sym e)
is_cause true None r e f = absurd (false≢true (sym (ap is_failure (of_memory r e)) ∙ f))
  where
    of_memory : (r : Refusal) → ◌≡◌ {A = GivenRefusal} (Because r) (Because OutOfMemory) → r ≡ OutOfMemory
    of_memory r e = cc
is_cause false None r e f = absurd e

held_denied : (opening : Map) (g : GivenState) (w : WorkContent) (c : Call) (r : Refusal) → IsGivenRefusal (takes_memory c) (why_not_given g w c) (Because r) → IsHeldGiven opening g → IsHeldGiven opening (with_new_state g (after_refused g.state c r))
held_denied opening g w Begin r e h = h
held_denied opening g w (Do t op) r e h = held_failed opening g.state g.taken t r (λ f. do_failed g.state t w op r (is_cause true (why_not_given g w (Do t op)) r e f) f) h
held_denied opening g w (Precommit t) r e h = held_failed opening g.state g.taken t r (λ f. precommit_failed g.state t w r (is_cause true (why_not_given g w (Precommit t)) r e f) f) h
held_denied opening g w (Validate t) r e h = held_failed opening g.state g.taken t r (λ f. check_failed g.state g.taken t r (is_cause false (why_not_given g w (Validate t)) r e f) f) h
held_denied opening g w (Settle t) r e h = held_failed opening g.state g.taken t r (λ f. unended_settled g.state t r (by_cause (why_not_settle g.state t) r (is_cause false (why_not_given g w (Settle t)) r e f)) f) h
held_denied opening g w (Rollback t) r e h = h
held_denied opening g w (Finish t) r e h = h
held_denied opening g w (Trim m) r e h = h
held_denied opening g w (Close fits group full) r e h = h

pub held_after : (opening : Map) (g : GivenState) (w : WorkContent) (c : Call) (r : GivenResult) → IsWork w → MayComeGiven g w c r → IsHeldGiven opening g → IsHeldGiven opening (after_given g w c r)
held_after opening g w c Took work m h = held_took opening g w c work m.0 h
held_after opening g w c (Denied (Because r)) work m h = held_denied opening g w c r m h
held_after opening g w c (Denied WorkMismatch) work m h = h

-- ---- each list of calls
pub held_opened : (rows : Map) (mark : ℕ) (all : AllTaken) → IsHeldGiven rows (record { state = opened rows mark; taken = all })
held_opened rows mark all = record { shared = shared_opened rows mark all; standing = standing_opened rows mark }

pub held_run : (opening : Map) (g : GivenState) (cs : List GivenCall) → MayRunGiven g cs → IsHeldGiven opening g → IsHeldGiven opening (after_given_run g cs)
held_run opening g [] m h = h
held_run opening g (c ∷ cs) m h = held_run opening (after_given g c.work c.call c.result) cs m.2 (held_after opening g c.work c.call c.result m.0 m.1 h)
