-- Without any trace, each step keeps what the representation needs of a state.
use Rattle.std.proofs.Common.{◌≡◌, ◌≢◌, ℕ, ◌<◌, ◌≤◌, Bool, true, false, cond, not, List, [], ◌∷◌, ◌++◌, Option, None, Some, map, refl, sym, ap, ◌∙◌, subst, arith}
use Rattle.std.specs.Prelude.{◌==◌, is_some}
use Rattle.std.specs.List.{AllByRecursion, filter}
use Rattle.std.proofs.lemmas.Bool.{false≢true}
use Rattle.mvo_types.specs.declared.row.RowKey.{RowKey}
use Rattle.mvo_types.specs.declared.op.Op.{Op}
use Rattle.mvo_types.specs.Keys.{Map}
use Rattle.mvo_types.specs.AnswerData.{AnswerData}
use Rattle.mvo_types.specs.Write.{Effect}
use Rattle.mvo_model.specs.History.{History, later, net_write}
use Rattle.mvo_model.proofs.Serials.{net_write-append}
use Rattle.mvo_model.specs.Trace.{Step}
use Rattle.mvo_theory.specs.State.{ended_of, is_active_as, is_preparing_as, State, ActiveTx, StampedTx, Claim, opened, after_settled, active_of, preparing_of, EndedTx, is_ended_as}
use Rattle.mvo_theory.specs.Claims.{has_claim, ended_key, origin, claims_with}
use Rattle.mvo_theory.specs.Changes.{new_active, after_begin, after_operation, with_answer, after_prepare, to_stamped, after_commit, with_settled, after_abort_of_active, after_abort_of_preparing, active_with_flag, with_flag, not_at, is_to, after_trim, after_close}
use Rattle.mvo_theory.specs.Sound.{IsLegal, how_many, IsActive, IsSound, IsPast, AreDistinct}
use Rattle.mvo_theory.specs.Origins.{settled_origin, AreWritten}
use Rattle.mvo_theory.specs.Calls.{IsKept}
use Rattle.mvo_theory.specs.Phases.{phase_by, phase_in}
use Rattle.mvo_theory.proofs.Each.{each_weaker, each_both, each_append, each_front, each_back, each_map, each_filter}
use Rattle.mvo_theory.proofs.Finds.{count_map}
use Rattle.mvo_theory.proofs.Stamped.{each_part}
use Rattle.mvo_theory.proofs.Apart.{IsIn, IsFreeToSettle}
use Rattle.mvo_theory.proofs.ClaimSteps.{ended_written}
use Rattle.mvo_theory.proofs.Numbered.{numbered_map, numbered_after_begin, numbered_after_operation, numbered_after_prepare, numbered_after_commit, numbered_after_abort_of_active, numbered_after_abort_of_preparing}
use Rattle.mvo_theory.proofs.Single.{single_after_begin, single_after_operation, single_after_prepare, single_after_commit, single_after_abort_of_active, single_after_abort_of_preparing}
use Rattle.mvo_theory.proofs.Claims.{exclusive_map, exclusive_after_begin, IsFirst, exclusive_after_operation, exclusive_after_prepare, exclusive_after_commit, exclusive_after_abort_of_active, exclusive_after_abort_of_preparing}
use Rattle.mvo_theory.proofs.Started.{started_map, started_after_begin, started_after_operation, started_after_prepare, started_after_commit, started_after_abort_of_active, started_after_abort_of_preparing}
use Rattle.mvo_theory.proofs.Trim.{parted, legal_front, is_after, IsTrim, started_after_trim, after_settled-append}
use Rattle.mvo_theory.proofs.Trimmed.{preparing_after_trim, numbered_after_trim, single_after_trim, exclusive_after_trim}
use Rattle.mvo_theory.proofs.Who.{active_holds}
use Rattle.mvo_theory.proofs.Kept.{written_claims}
use Rattle.mvo_theory.proofs.OriginSteps.{Of, OfPreparing, OfSettled, IsBehind, moved, origins_alike, origins_after_begin, origins_after_operation, origins_after_prepare, origins_after_abort_of_active, origins_after_trim}
use Rattle.mvo_theory.proofs.OriginEnds.{origins_after_commit, origins_after_abort_of_preparing}
use Rattle.mvo_shared.specs.Shared.{with_dependencies, after_registering, with_valid, after_valid}
use Rattle.mvo_shared.specs.Standing.{AreComplete, HaveCompleteClaims, IsStanding}
use Rattle.mvo_theory.specs.Claimed.{HasClaims, AreClaimed}
use Rattle.mvo_theory.proofs.Tales.{legal_append}
use Rattle.mvo_shared.proofs.Complete.{complete_answer}

-- ---- what each core has kept so far has it
complete_claims : (steps : List Step) (s : State) → AreClaimed steps s → HaveCompleteClaims s
complete_claims steps s h = record {
  active = each_weaker (λ r. HasClaims s.marks.opening steps r.id r.history r.claims) (λ r. AreComplete r.history r.claims) (λ r q. q.complete) s.active h.active;
  stamped = each_weaker (λ x. HasClaims s.marks.opening steps x.id x.history x.claims) (λ x. AreComplete x.history x.claims) (λ x q. q.complete) s.stamped h.stamped;
  past = each_weaker (λ x. HasClaims s.marks.opening steps x.id x.history x.claims) (λ x. AreComplete x.history x.claims) (λ x q. q.complete) s.past h.past;
}

pub standing_of : (opening : Map) (steps : List Step) (s : State) → IsKept opening steps s → IsStanding opening s
standing_of opening steps s h = record {
  sound = h.sound;
  numbered = h.numbered;
  single = h.single;
  exclusive = h.exclusive;
  started = h.started;
  origins = h.origins;
  written = written_claims steps s h.claimed;
  complete = complete_claims steps s h.claimed;
  base = h.after_trace.base;
  legal = h.after_trace.legal;
  others = h.has_ends.others;
}

-- ---- begin
pub standing_begun : (opening : Map) (s : State) (t : ℕ) → s.clock < t → IsSound (after_begin s t) → IsStanding opening s → IsStanding opening (after_begin s t)
standing_begun opening s t lt sound h = record {
  sound = sound;
  numbered = numbered_after_begin s t lt h.sound h.started h.numbered;
  single = single_after_begin s t lt h.sound h.single;
  exclusive = exclusive_after_begin s t h.exclusive;
  started = started_after_begin s t lt h.started;
  origins = origins_after_begin s t h.origins;
  written = record { active = each_append (λ r. AreWritten r.history r.claims) s.active (new_active t ∷ []) h.written.active (tt, tt); stamped = h.written.stamped; past = h.written.past };
  complete = record { active = each_append (λ r. AreComplete r.history r.claims) s.active (new_active t ∷ []) h.complete.active (λ k f. absurd (false≢true f), tt); stamped = h.complete.stamped; past = h.complete.past };
  base = h.base;
  legal = h.legal;
  others = each_append (λ r. AllByRecursion (λ x. x.end ≢ r.id) s.past) s.active (new_active t ∷ []) h.others
      (each_weaker (IsPast s.start) (λ x. x.end ≢ t) (λ x p e. absurd (let u = p.until in let d = h.started.drawn in omega arith)) s.past h.started.past, tt);
}

-- ---- a look that the core hears of
distinct_map : (s : State) (t : ℕ) (op : Op) (rs : List ActiveTx) → AreDistinct rs → AreDistinct (map (with_dependencies s t op) rs)
distinct_map s t op [] h = tt
distinct_map s t op (r ∷ rs) h = (each_map (with_dependencies s t op) (λ q. q.id ≢ r.id) (λ q. q.id ≢ r.id) (λ q n. n) rs h.0, distinct_map s t op rs h.1)

pub standing_registered : (opening : Map) (s : State) (t : ℕ) (op : Op) → IsSound (after_registering s t op) → IsStanding opening s → IsStanding opening (after_registering s t op)
standing_registered opening s t op sound h =
    let f = with_dependencies s t op in
    record {
      sound = sound;
      numbered = record {
        distinct = distinct_map s t op s.active h.numbered.distinct;
        apart = each_map f (λ r. AllByRecursion (λ x. x.id ≢ r.id) s.stamped) (λ r. AllByRecursion (λ x. x.id ≢ r.id) s.stamped) (λ r q. q) s.active h.numbered.apart;
        before = each_map f (λ r. AllByRecursion (λ x. x.id ≢ r.id) s.past) (λ r. AllByRecursion (λ x. x.id ≢ r.id) s.past) (λ r q. q) s.active h.numbered.before;
      };
      single = record { once = λ u. let l = count_map (is_active_as u) f s.active (λ r q. q) in let o = h.single.once u in omega (arith, l, o); drawn = h.single.drawn };
      exclusive = λ k n. let l = count_map (λ (r : ActiveTx). has_claim r.claims k n) f s.active (λ r q. q) in let o = h.exclusive k n in omega (arith, l, o);
      started = record { past = h.started.past; rising = h.started.rising; later = h.started.later; drawn = h.started.drawn; opened = h.started.opened; after = h.started.after; begun = each_map f (λ r. s.start ≤ r.id) (λ r. s.start ≤ r.id) (λ r q. q) s.active h.started.begun };
      origins = record { active = each_map f (Of s) (Of s) (λ r q. q) s.active h.origins.active; preparing = h.origins.preparing; settled = h.origins.settled; behind = h.origins.behind };
      written = record { active = each_map f (λ r. AreWritten r.history r.claims) (λ r. AreWritten r.history r.claims) (λ r q. q) s.active h.written.active; stamped = h.written.stamped; past = h.written.past };
      complete = record { active = each_map f (λ r. AreComplete r.history r.claims) (λ r. AreComplete r.history r.claims) (λ r q. q) s.active h.complete.active; stamped = h.complete.stamped; past = h.complete.past };
      base = h.base;
      legal = h.legal;
      others = each_map f (λ r. AllByRecursion (λ x. x.end ≢ r.id) s.past) (λ r. AllByRecursion (λ x. x.end ≢ r.id) s.past) (λ r q. q) s.active h.others;
    }

-- ---- a write that nobody else has claimed
later_left : (a b : Option Effect) → is_some a ≡ true → is_some (later a b) ≡ true
later_left None b e = absurd (false≢true e)
later_left (Some h) b e = refl

later_right : (a b : Option Effect) → is_some b ≡ true → is_some (later a b) ≡ true
later_right None b e = e
later_right (Some h) b e = refl

still_written : (ts : History) (o : Op × AnswerData) (cs : List Claim) → AreWritten ts cs → AreWritten (ts ++ o ∷ []) cs
still_written ts o cs h = each_weaker (λ c. is_some (net_write c.key ts) ≡ true) (λ c. is_some (net_write c.key (ts ++ o ∷ [])) ≡ true) (λ c q. ap is_some (net_write-append c.key ts (o ∷ [])) ∙ later_right (net_write c.key (o ∷ [])) (net_write c.key ts) q) cs h

claim_written : (s : State) (op : Op) (a : AnswerData) (r : ActiveTx) → AreWritten r.history r.claims → AreWritten (r.history ++ (op, a) ∷ []) (claims_with s r (ended_key op a))
claim_written s op a r h = go (ended_key op a) refl
  where
    both : (k : RowKey) (b : Bool) → ended_key op a ≡ Some k → AreWritten (r.history ++ (op, a) ∷ []) (cond b r.claims (r.claims ++ (record { key = k; origin = origin s r.id k }) ∷ []))
    both k true e = still_written r.history (op, a) r.claims h
    both k false e = each_append (λ c. is_some (net_write c.key (r.history ++ (op, a) ∷ [])) ≡ true) r.claims ((record { key = k; origin = origin s r.id k }) ∷ []) (still_written r.history (op, a) r.claims h)
        (ap is_some (net_write-append k r.history ((op, a) ∷ [])) ∙ later_left (net_write k ((op, a) ∷ [])) (net_write k r.history) (ended_written op a k e), tt)

    go : (w : Option RowKey) → ended_key op a ≡ w → AreWritten (r.history ++ (op, a) ∷ []) (claims_with s r w)
    go None e = still_written r.history (op, a) r.claims h
    go (Some k) e = both k (is_some (net_write k r.history)) e

write_one : (s : State) (op : Op) (a : AnswerData) (r : ActiveTx) (b : Bool) → AreWritten r.history r.claims → AreWritten (cond b (r.history ++ (op, a) ∷ []) r.history) (cond b (claims_with s r (ended_key op a)) r.claims)
write_one s op a r true h = claim_written s op a r h
write_one s op a r false h = h

complete_one : (s : State) (op : Op) (a : AnswerData) (r : ActiveTx) (b : Bool) → AreComplete r.history r.claims → AreComplete (cond b (r.history ++ (op, a) ∷ []) r.history) (cond b (claims_with s r (ended_key op a)) r.claims)
complete_one s op a r true h = complete_answer s op a r h
complete_one s op a r false h = h

pub standing_written : (opening : Map) (s : State) (t : ℕ) (op : Op) (a : AnswerData) → IsFirst s t op a → IsSound (after_operation s t op a) → IsStanding opening s → IsStanding opening (after_operation s t op a)
standing_written opening s t op a first sound h = record {
  sound = sound;
  numbered = numbered_after_operation s t op a h.numbered;
  single = single_after_operation s t op a h.single;
  exclusive = exclusive_after_operation s t op a (let o = h.single.once t in omega arith) first h.exclusive;
  started = started_after_operation s t op a h.started;
  origins = origins_after_operation s t op a h.origins;
  written = record { active = each_map (with_answer s t op a) (λ r. AreWritten r.history r.claims) (λ r. AreWritten r.history r.claims) (λ r. write_one s op a r (r.id == t)) s.active h.written.active; stamped = h.written.stamped; past = h.written.past };
  complete = record { active = each_map (with_answer s t op a) (λ r. AreComplete r.history r.claims) (λ r. AreComplete r.history r.claims) (λ r. complete_one s op a r (r.id == t)) s.active h.complete.active; stamped = h.complete.stamped; past = h.complete.past };
  base = h.base;
  legal = h.legal;
  others = each_map (with_answer s t op a) (λ r. AllByRecursion (λ x. x.end ≢ r.id) s.past) (λ r. AllByRecursion (λ x. x.end ≢ r.id) s.past) (λ r q. q) s.active h.others;
}

-- ---- precommit
pub standing_prepared : (opening : Map) (s : State) (r : ActiveTx) (e : ℕ) → s.clock < e → active_of r.id s.active ≡ Some r → IsSound (after_prepare s r e) → IsStanding opening s → IsStanding opening (after_prepare s r e)
standing_prepared opening s r e lt f sound h = record {
  sound = sound;
  numbered = numbered_after_prepare s r e h.numbered;
  single = single_after_prepare s r e f (omega arith) h.single;
  exclusive = exclusive_after_prepare s r e f h.exclusive;
  started = started_after_prepare s r e lt h.started;
  origins = origins_after_prepare s r e lt (active_holds (IsActive s.base s.stamped s.clock) r.id s.active r f h.sound.active).0 (active_holds (Of s) r.id s.active r f h.origins.active).0 (active_holds (λ q. AllByRecursion (λ x. x.end ≢ q.id) s.past) r.id s.active r f h.others).0 (active_holds (λ q. s.start ≤ q.id) r.id s.active r f h.started.begun).0 h.sound h.started h.origins;
  written = record {
    active = each_filter (λ q. not (q.id == r.id)) (λ q. AreWritten q.history q.claims) (λ q. AreWritten q.history q.claims) (λ q _ w. w) s.active h.written.active;
    stamped = each_append (λ x. AreWritten x.history x.claims) s.stamped (to_stamped e r ∷ []) h.written.stamped ((active_holds (λ q. AreWritten q.history q.claims) r.id s.active r f h.written.active).0, tt);
    past = h.written.past;
  };
  complete = record {
    active = each_filter (λ q. not (q.id == r.id)) (λ q. AreComplete q.history q.claims) (λ q. AreComplete q.history q.claims) (λ q _ w. w) s.active h.complete.active;
    stamped = each_append (λ x. AreComplete x.history x.claims) s.stamped (to_stamped e r ∷ []) h.complete.stamped ((active_holds (λ q. AreComplete q.history q.claims) r.id s.active r f h.complete.active).0, tt);
    past = h.complete.past;
  };
  base = h.base;
  legal = h.legal;
  others = each_filter (λ q. not (q.id == r.id)) (λ q. AllByRecursion (λ x. x.end ≢ q.id) s.past) (λ q. AllByRecursion (λ x. x.end ≢ q.id) s.past) (λ q _ w. w) s.active h.others;
}

-- ---- the last check
pub standing_valid : (opening : Map) (s : State) (e : ℕ) → IsSound (after_valid s e) → IsStanding opening s → IsStanding opening (after_valid s e)
standing_valid opening s e sound h =
    let f = with_valid e in
    record {
      sound = sound;
      numbered = numbered_map s f (λ x. refl) h.numbered;
      single = record { once = λ u. let l = count_map (is_preparing_as u) f s.stamped (λ x q. q) in let o = h.single.once u in omega (arith, l, o); drawn = h.single.drawn };
      exclusive = exclusive_map s f (λ x. refl) h.exclusive;
      started = started_map s f (λ x q. q) h.started;
      origins = record {
        active = each_weaker (Of s) (Of now) (λ r q n. moved (origin s r.id) (origin now r.id) r.claims (λ k. still.0 k r.id) (q n)) s.active h.origins.active;
        preparing = each_map f (OfPreparing s) (OfPreparing now) (λ x q o n. moved (origin s x.id) (origin now x.id) x.claims (λ k. still.0 k x.id) (q o n)) s.stamped h.origins.preparing;
        settled = each_append (OfSettled now) s.past (map f s.stamped)
            (each_weaker (OfSettled s) (OfSettled now) keep s.past (each_front (OfSettled s) s.past s.stamped h.origins.settled))
            (each_map f (OfSettled s) (OfSettled now) keep s.stamped (each_back (OfSettled s) s.past s.stamped h.origins.settled));
        behind = each_map f (IsBehind s.past) (IsBehind s.past) (λ x q. q) s.stamped h.origins.behind;
      };
      written = record { active = h.written.active; stamped = each_map f (λ x. AreWritten x.history x.claims) (λ x. AreWritten x.history x.claims) (λ x q. q) s.stamped h.written.stamped; past = h.written.past };
      complete = record { active = h.complete.active; stamped = each_map f (λ x. AreComplete x.history x.claims) (λ x. AreComplete x.history x.claims) (λ x q. q) s.stamped h.complete.stamped; past = h.complete.past };
      base = h.base;
      legal = h.legal;
      others = h.others;
    }
  where
    now : State
    now = after_valid s e

    still : ((k : RowKey) (b : ℕ) → origin s b k ≡ origin (after_valid s e) b k) × ((k : RowKey) (b : ℕ) → settled_origin s b k ≡ settled_origin (after_valid s e) b k)
    still = origins_alike s (after_valid s e) (with_valid e) refl refl refl (λ x. refl) (λ x. refl) (λ x. refl)

    keep : (x : StampedTx) → OfSettled s x → OfSettled (after_valid s e) x
    keep x q o = moved (settled_origin s x.end) (settled_origin (after_valid s e) x.end) x.claims (λ k. still.1 k x.end) (q o)

-- ---- a settlement
pub standing_settled : (opening : Map) (s : State) (t : ℕ) (x : StampedTx) → preparing_of t s.stamped ≡ Some x → IsIn x s.stamped → ((P : StampedTx → Type 0) → P x → AllByRecursion (λ y. y.end ≡ x.end → P y) s.stamped) → x.settled ≡ false → x.valid ≡ true → x.aborted_dependency ≡ None → IsFreeToSettle s.stamped x.depends_on → IsSound (after_commit s t x.end) → IsStanding opening s →
    IsStanding opening (after_commit s t x.end)
standing_settled opening s t x f m alone o v n free sound h = record {
  sound = sound;
  numbered = numbered_after_commit s t x.end h.numbered;
  single = single_after_commit s t x f h.sound h.single;
  exclusive = exclusive_after_commit s t x.end h.exclusive;
  started = started_after_commit s t x.end h.started;
  origins = origins_after_commit [] s t x m alone o v n free h.sound h.started h.written h.origins;
  written = record { active = h.written.active; stamped = each_map (with_settled x.end) (λ y. AreWritten y.history y.claims) (λ y. AreWritten y.history y.claims) (λ y q. q) s.stamped h.written.stamped; past = h.written.past };
  complete = record { active = h.complete.active; stamped = each_map (with_settled x.end) (λ y. AreComplete y.history y.claims) (λ y. AreComplete y.history y.claims) (λ y q. q) s.stamped h.complete.stamped; past = h.complete.past };
  base = h.base;
  legal = h.legal;
  others = h.others;
}

-- ---- aborts
pub standing_aborted_active : (opening : Map) (s : State) (t : ℕ) (r : ActiveTx) → active_of t s.active ≡ Some r → IsSound (after_abort_of_active s t) → IsStanding opening s → IsStanding opening (after_abort_of_active s t)
standing_aborted_active opening s t r f sound h = record {
  sound = sound;
  numbered = numbered_after_abort_of_active s t h.numbered;
  single = single_after_abort_of_active s t r f h.sound h.single;
  exclusive = exclusive_after_abort_of_active s t h.exclusive;
  started = started_after_abort_of_active s t h.started;
  origins = origins_after_abort_of_active s t h.origins;
  written = record { active = each_filter (λ q. not (q.id == t)) (λ q. AreWritten q.history q.claims) (λ q. AreWritten q.history q.claims) (λ q _ w. w) s.active h.written.active; stamped = h.written.stamped; past = h.written.past };
  complete = record { active = each_filter (λ q. not (q.id == t)) (λ q. AreComplete q.history q.claims) (λ q. AreComplete q.history q.claims) (λ q _ w. w) s.active h.complete.active; stamped = h.complete.stamped; past = h.complete.past };
  base = h.base;
  legal = h.legal;
  others = each_filter (λ q. not (q.id == t)) (λ q. AllByRecursion (λ x. x.end ≢ q.id) s.past) (λ q. AllByRecursion (λ x. x.end ≢ q.id) s.past) (λ q _ w. w) s.active h.others;
}

pub standing_aborted : (opening : Map) (s : State) (t : ℕ) (x : StampedTx) → preparing_of t s.stamped ≡ Some x → AllByRecursion (λ y. y.end ≡ x.end → y.settled ≡ false) s.stamped → IsSound (after_abort_of_preparing s t x.end) → IsStanding opening s → IsStanding opening (after_abort_of_preparing s t x.end)
standing_aborted opening s t x f alone sound h = record {
  sound = sound;
  numbered = numbered_after_abort_of_preparing s t x.end h.numbered;
  single = single_after_abort_of_preparing s t x f h.sound h.single;
  exclusive = exclusive_after_abort_of_preparing s t x.end h.exclusive;
  started = started_after_abort_of_preparing s t x.end h.started;
  origins = origins_after_abort_of_preparing [] s t x.end alone h.sound h.written h.origins;
  written = record {
    active = each_map (active_with_flag t x.end) (λ q. AreWritten q.history q.claims) (λ q. AreWritten q.history q.claims) (λ q w. w) s.active h.written.active;
    stamped = each_map (with_flag t x.end) (λ y. AreWritten y.history y.claims) (λ y. AreWritten y.history y.claims) (λ y w. w) (filter (not_at x.end) s.stamped) (each_part (not_at x.end) (λ y. AreWritten y.history y.claims) s.stamped h.written.stamped);
    past = h.written.past;
  };
  complete = record {
    active = each_map (active_with_flag t x.end) (λ q. AreComplete q.history q.claims) (λ q. AreComplete q.history q.claims) (λ q w. w) s.active h.complete.active;
    stamped = each_map (with_flag t x.end) (λ y. AreComplete y.history y.claims) (λ y. AreComplete y.history y.claims) (λ y w. w) (filter (not_at x.end) s.stamped) (each_part (not_at x.end) (λ y. AreComplete y.history y.claims) s.stamped h.complete.stamped);
    past = h.complete.past;
  };
  base = h.base;
  legal = h.legal;
  others = each_map (active_with_flag t x.end) (λ q. AllByRecursion (λ y. y.end ≢ q.id) s.past) (λ q. AllByRecursion (λ y. y.end ≢ q.id) s.past) (λ q w. w) s.active h.others;
}

-- ---- a trim
pub standing_trimmed : (opening : Map) (s : State) (m : ℕ) → IsTrim m s → IsSound (after_trim s m) → IsStanding opening s → IsStanding opening (after_trim s m)
standing_trimmed opening s m t sound h =
    let front = filter (is_to m) s.stamped in
    record {
      sound = sound;
      numbered = numbered_after_trim s m h.numbered;
      single = single_after_trim s m h.single;
      exclusive = exclusive_after_trim s m h.exclusive;
      started = started_after_trim s m t h.sound h.started;
      origins = origins_after_trim s m t h.sound h.origins;
      written = record {
        active = h.written.active;
        stamped = each_part (is_after m) (λ x. AreWritten x.history x.claims) s.stamped h.written.stamped;
        past = each_append (λ x. AreWritten x.history x.claims) s.past front h.written.past (each_part (is_to m) (λ x. AreWritten x.history x.claims) s.stamped h.written.stamped);
      };
      complete = record {
        active = h.complete.active;
        stamped = each_part (is_after m) (λ x. AreComplete x.history x.claims) s.stamped h.complete.stamped;
        past = each_append (λ x. AreComplete x.history x.claims) s.past front h.complete.past (each_part (is_to m) (λ x. AreComplete x.history x.claims) s.stamped h.complete.stamped);
      };
      base = ap (after_settled front) h.base ∙ sym (after_settled-append s.past front opening);
      legal = legal_append opening s.past front h.legal (subst (λ (n : Map). IsLegal n front) h.base (legal_front s.base front (filter (is_after m) s.stamped) (subst (IsLegal s.base) (sym (parted m s.stamped h.sound.rising)) h.sound.legal)));
      others = each_both (λ r. AllByRecursion (λ x. x.end ≢ r.id) s.past) (IsActive s.base s.stamped s.clock) (λ r. AllByRecursion (λ x. x.end ≢ r.id) (s.past ++ front)) (λ r a q. each_append (λ x. x.end ≢ r.id) s.past front a (each_part (is_to m) (λ x. x.end ≢ r.id) s.stamped q.others)) s.active h.others h.sound.active;
    }

-- and each transaction stands where it stood
pub phases_trimmed : (s : State) (m : ℕ) → IsTrim m s → (u : ℕ) → phase_in (after_trim s m) u ≡ phase_in s u
phases_trimmed s m t u = ap (λ (w : Option StampedTx). phase_by (active_of u s.active) w (ended_of u s.ended)) (preparing_after_trim s m u t)

pub standing_opened : (rows : Map) (mark : ℕ) → IsStanding rows (opened rows mark)
standing_opened rows mark = record {
  sound = record { legal = tt; rising = tt; clear = tt; placed = tt; preparing = tt; active = tt };
  numbered = record { distinct = tt; apart = tt; before = tt };
  single = record { once = λ u. omega arith; drawn = tt };
  exclusive = λ k n. omega arith;
  started = record { past = tt; rising = tt; later = tt; drawn = omega arith; opened = omega arith; after = tt; begun = tt };
  origins = record { active = tt; preparing = tt; settled = tt; behind = tt };
  written = record { active = tt; stamped = tt; past = tt };
  complete = record { active = tt; stamped = tt; past = tt };
  base = refl;
  legal = tt;
  others = tt;
}

-- ---- words of ended ones, one that is over, and a closed group: nothing of this speaks of them, but that a transaction stands at one place
pub standing_ended : (opening : Map) (s : State) (ended : List EndedTx) → ((t : ℕ) → how_many (is_ended_as t) ended ≤ how_many (is_ended_as t) s.ended) → AllByRecursion (λ u. u.id ≤ s.clock) ended → IsSound (record s { ended = ended }) → IsStanding opening s → IsStanding opening (record s { ended = ended })
standing_ended opening s ended fewer drawn sound h = record {
  sound = sound;
  numbered = record { distinct = h.numbered.distinct; apart = h.numbered.apart; before = h.numbered.before };
  single = record { once = λ t. let o = h.single.once t in let l = fewer t in omega (arith, l, o); drawn = drawn };
  exclusive = h.exclusive;
  started = record { past = h.started.past; rising = h.started.rising; later = h.started.later; drawn = h.started.drawn; opened = h.started.opened; after = h.started.after; begun = h.started.begun };
  origins = record { active = h.origins.active; preparing = h.origins.preparing; settled = h.origins.settled; behind = h.origins.behind };
  written = record { active = h.written.active; stamped = h.written.stamped; past = h.written.past };
  complete = record { active = h.complete.active; stamped = h.complete.stamped; past = h.complete.past };
  base = h.base;
  legal = h.legal;
  others = h.others;
}

pub standing_closed : (opening : Map) (s : State) (mark : ℕ) → IsSound (after_close s mark) → IsStanding opening s → IsStanding opening (after_close s mark)
standing_closed opening s mark sound h = record {
  sound = sound;
  numbered = record { distinct = h.numbered.distinct; apart = h.numbered.apart; before = h.numbered.before };
  single = record { once = h.single.once; drawn = h.single.drawn };
  exclusive = h.exclusive;
  started = record { past = h.started.past; rising = h.started.rising; later = h.started.later; drawn = h.started.drawn; opened = h.started.opened; after = h.started.after; begun = h.started.begun };
  origins = record { active = h.origins.active; preparing = h.origins.preparing; settled = h.origins.settled; behind = h.origins.behind };
  written = record { active = h.written.active; stamped = h.written.stamped; past = h.written.past };
  complete = record { active = h.complete.active; stamped = h.complete.stamped; past = h.complete.past };
  base = h.base;
  legal = h.legal;
  others = h.others;
}
