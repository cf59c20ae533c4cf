-- Whatever works it is given, a core keeps what it keeps: opening, begin, a look, a write, precommit, a check.
use Rattle.std.proofs.Common.{take, length, add-one, ◌≡◌, ℕ, ◌+◌, ◌<◌, ◌≤◌, Bool, true, false, cond, not, ◌||◌, List, [], ◌∷◌, ◌++◌, Some, map, refl, sym, ap, ◌∙◌, subst, arith, inl, inr}
use Rattle.std.specs.Prelude.{◌==◌, is_some, slice_get}
use Rattle.std.specs.List.{AllByRecursion}
use Rattle.std.proofs.lemmas.Bool.{eqb-true, false≢true, or_cases}
use Rattle.std.proofs.lemmas.List.{take_all}
use Rattle.mvo_types.specs.declared.op.Op.{Op}
use Rattle.mvo_types.specs.Keys.{Map}
use Rattle.mvo_types.specs.AnswerData.{AnswerData}
use Rattle.mvo_model.specs.History.{write_of}
use Rattle.mvo_theory.specs.State.{State, StampedTx, ActiveTx, EndedTx, Word, opened}
use Rattle.mvo_theory.specs.Changes.{new_active, after_begin, after_operation, with_answer, with_words, after_prepare, to_stamped, after_close}
use Rattle.mvo_theory.specs.Sound.{IsUnchanged, IsActive, IsPlaced}
use Rattle.mvo_theory.proofs.Each.{each_weaker, each_both, each_append, each_map, each_filter}
use Rattle.mvo_theory.proofs.Stamped.{IsLike}
use Rattle.mvo_theory.proofs.Sound.{sound_after_begin, IsAnswer, sound_after_operation, sound_after_prepare, each_take_more}
use Rattle.mvo_shared.specs.Kept.{Looked, WorkContent, IsWork, IsLookShown}
use Rattle.mvo_shared.specs.Shared.{TakenWork, AllTaken, looked_of, taken_history, with_taken, OnlyWrites, WriteTheSame, IsTakenWork, AreFound, IsChecking, IsShared, with_dependencies, after_registering, with_valid, after_valid}
use Rattle.mvo_theory.specs.Sound.{IsDecidedOn}
use Rattle.mvo_theory.specs.State.{seen_by}
use Rattle.mvo_shared.proofs.Seen.{seen_last, seen_map, still_last, still_map}
use Rattle.mvo_shared.proofs.Valid.{each_taken, IsNowValid, sound_after_valid, sound_after_register}
use Rattle.mvo_shared.proofs.Told.{taken_other, taken_there, serial_with, apart_with, serial_last, apart_last, serial_valid, apart_told_valid}

-- ---- opening
pub shared_opened : (rows : Map) (mark : ℕ) (all : AllTaken) → IsShared (opened rows mark) all
shared_opened rows mark all = record {
  sound = record { legal = tt; rising = tt; clear = tt; placed = tt; preparing = tt; active = tt };
  active = tt;
  stamped = tt;
  taken = tt;
  serial = tt;
  apart = tt;
  checking = tt;
  uncounted = tt;
}

-- ---- begin
pub shared_begun : (s : State) (all : AllTaken) (t : ℕ) → s.clock < t → IsShared s all → IsShared (after_begin s t) all
shared_begun s all t lt h = record {
  sound = sound_after_begin s t lt h.sound;
  active = each_append (λ r. OnlyWrites r.history) s.active (new_active t ∷ []) h.active (tt, tt);
  stamped = h.stamped;
  taken = h.taken;
  serial = h.serial;
  apart = h.apart;
  checking = h.checking;
  uncounted = h.uncounted;
}

-- ---- a look that makes the transaction depend on others. A look that doesn't changes nothing
pub shared_registered : (s : State) (all : AllTaken) (t : ℕ) (op : Op) → IsShared s all → IsShared (after_registering s t op) all
shared_registered s all t op h = record {
  sound = sound_after_register s t op h.sound;
  active = each_map (with_dependencies s t op) (λ r. OnlyWrites r.history) (λ r. OnlyWrites r.history) (λ r q. q) s.active h.active;
  stamped = h.stamped;
  taken = h.taken;
  serial = h.serial;
  apart = h.apart;
  checking = h.checking;
  uncounted = h.uncounted;
}

-- ---- a write, with the answer that the core's own rows give
write_one : (s : State) (t : ℕ) (op : Op) (a : AnswerData) (r : ActiveTx) (b : Bool) → is_some (write_of op a) ≡ true → OnlyWrites r.history → OnlyWrites (cond b (r.history ++ (op, a) ∷ []) r.history)
write_one s t op a r true w h = each_append (λ o. is_some (write_of o.0 o.1) ≡ true) r.history ((op, a) ∷ []) h (w, tt)
write_one s t op a r false w h = h

pub shared_written : (s : State) (all : AllTaken) (t : ℕ) (op : Op) (a : AnswerData) → is_some (write_of op a) ≡ true → AllByRecursion (IsAnswer s t op a) s.active → IsShared s all → IsShared (after_operation s t op a) all
shared_written s all t op a w answer h = record {
  sound = sound_after_operation s t op a answer h.sound;
  active = each_map (with_answer s t op a) (λ r. OnlyWrites r.history) (λ r. OnlyWrites r.history) (λ r. write_one s t op a r (r.id == t) w) s.active h.active;
  stamped = h.stamped;
  taken = h.taken;
  serial = h.serial;
  apart = h.apart;
  checking = h.checking;
  uncounted = h.uncounted;
}

-- words of ended ones, which nothing here speaks of
pub shared_worded : (f : EndedTx → List Word) (s : State) (all : AllTaken) → IsShared s all → IsShared (with_words f s) all
shared_worded f s all h = record {
  sound = record { legal = h.sound.legal; rising = h.sound.rising; clear = h.sound.clear; placed = h.sound.placed; preparing = h.sound.preparing; active = h.sound.active };
  active = h.active;
  stamped = h.stamped;
  taken = h.taken;
  serial = h.serial;
  apart = h.apart;
  checking = h.checking;
  uncounted = h.uncounted;
}

-- ---- precommit takes the work in
found_last : (base : Map) (stamped : List StampedTx) (y x : StampedTx) (looked : List Looked) → x.id ≤ y.end → x.end ≤ y.end → AreFound base stamped x looked → AreFound base (stamped ++ y ∷ []) x looked
found_last base stamped y x looked le ge h = record {
  seen = λ n. seen_last base stamped y x.id x.depends_on looked le (h.seen n);
  still = still_last stamped y x.id x.end looked ge h.still;
}

pub shared_prepared : (s : State) (all : AllTaken) (r : ActiveTx) (e : ℕ) (w : WorkContent) → s.clock < e → IsActive s.base s.stamped s.clock r → OnlyWrites r.history → IsWork w → WriteTheSame r.history w.history → IsShared s all →
    IsShared (after_prepare s r e) (with_taken all e (record { work = w; checked = 0 }))
shared_prepared s all r e w lt it only work same h =
    let y = to_stamped e r in
    let new : TakenWork = record { work = w; checked = 0 } in
    let more = with_taken all e new in
    let old : AllByRecursion (λ x. more x.end ≡ all x.end) s.stamped = each_weaker (IsPlaced s.stamped s.clock) (λ x. more x.end ≡ all x.end) (λ x p. taken_other all e new x.end (λ is. absurd (let d = p.drawn in omega arith))) s.stamped h.sound.placed in
    let told : AllByRecursion (λ x. taken_history (more x.end) ≡ taken_history (all x.end)) s.stamped = each_weaker (λ x. more x.end ≡ all x.end) (λ x. taken_history (more x.end) ≡ taken_history (all x.end)) (λ x q. ap taken_history q) s.stamped old in
    let mine = taken_there all e new in
    record {
      sound = sound_after_prepare s r e lt it h.sound;
      active = each_filter (λ q. not (q.id == r.id)) (λ q. OnlyWrites q.history) (λ q. OnlyWrites q.history) (λ q _ o. o) s.active h.active;
      stamped = each_append (λ x. OnlyWrites x.history) s.stamped (y ∷ []) h.stamped (only, tt);
      taken = each_append (λ x. IsTakenWork x (more x.end)) s.stamped (y ∷ []) (each_both (λ x. IsTakenWork x (all x.end)) (λ x. more x.end ≡ all x.end) (λ x. IsTakenWork x (more x.end)) (λ x q i. subst (IsTakenWork x) (sym i) q) s.stamped h.taken old)
          (subst (IsTakenWork y) (sym mine) (record { work = work; writes = same }), tt);
      serial = serial_last more s.base s.stamped y refl (serial_with all more s.base s.stamped told h.serial);
      apart = apart_last more s.stamped y refl (apart_with all more s.stamped told h.apart);
      checking = each_append (λ x. x.settled ≡ false → IsChecking s.base (s.stamped ++ y ∷ []) x (more x.end)) s.stamped (y ∷ [])
          (each_both (λ x. IsPlaced s.stamped s.clock x × (more x.end ≡ all x.end)) (λ x. x.settled ≡ false → IsChecking s.base s.stamped x (all x.end)) (λ x. x.settled ≡ false → IsChecking s.base (s.stamped ++ y ∷ []) x (more x.end))
          (λ x p q o. subst (IsChecking s.base (s.stamped ++ y ∷ []) x) (sym p.1) (let b = p.0.begun in let d = p.0.drawn in record {
            found = found_last s.base s.stamped y x (take (all x.end).checked (looked_of (all x.end))) (omega arith) (omega arith) (q o).found;
            all = λ v. found_last s.base s.stamped y x (looked_of (all x.end)) (omega arith) (omega arith) ((q o).all v);
          })) s.stamped (each_both (IsPlaced s.stamped s.clock) (λ x. more x.end ≡ all x.end) (λ x. IsPlaced s.stamped s.clock x × (more x.end ≡ all x.end)) (λ x p q. (p, q)) s.stamped h.sound.placed old) h.checking) (
            λ _. subst (IsChecking s.base (s.stamped ++ y ∷ []) y) (sym mine) (record {
              found = record { seen = λ _. record { shown = tt; decided = tt }; still = tt };
              all = λ v. absurd (false≢true v);
            }),
            tt,
          );
      uncounted = each_append (λ x. x.settled ≡ false → x.checked ≡ 0) s.stamped (y ∷ []) h.uncounted (λ _. refl, tt);
    }

-- ---- a check of the next entry
-- what validate_one has to find of it: no other has changed it since the begin; and unless the transaction is flagged, others show its rows to the begin, and who decides it is settled or depended on
abbrev pub IsChecked : Map → List StampedTx → AllTaken → ℕ → StampedTx → Type 0
IsChecked base stamped all e x = x.end ≡ e → (l : Looked) → slice_get (looked_of (all e)) (all e).checked ≡ Some l → AreFound base stamped x (l ∷ [])

found_more : (base : Map) (stamped : List StampedTx) (x : StampedTx) (n : ℕ) (looked : List Looked) → AreFound base stamped x (take n looked) → ((l : Looked) → slice_get looked n ≡ Some l → AreFound base stamped x (l ∷ [])) → AreFound base stamped x (take (n + 1) looked)
found_more base stamped x n looked h f = record {
  seen = λ d. record {
    shown = rw add-one (each_take_more (IsLookShown (seen_by base stamped x.id)) looked n (h.seen d).shown (λ l g. ((f l g).seen d).shown.0));
    decided = rw add-one (each_take_more (λ l. IsDecidedOn l.entry x.id x.depends_on base stamped) looked n (h.seen d).decided (λ l g. ((f l g).seen d).decided.0));
  };
  still = rw add-one (each_take_more (λ l. IsUnchanged stamped x.id x.end l.entry) looked n h.still (λ l g. (f l g).still.0));
}

pub shared_checked : (s : State) (all : AllTaken) (e : ℕ) → AllByRecursion (IsChecked s.base s.stamped all e) s.stamped → IsShared s all → IsShared s (with_taken all e (record { work = (all e).work; checked = (all e).checked + 1 }))
shared_checked s all e c h =
    let new : TakenWork = record { work = (all e).work; checked = (all e).checked + 1 } in
    let more = with_taken all e new in
    record {
      sound = h.sound;
      active = h.active;
      stamped = h.stamped;
      taken = each_weaker (λ x. IsTakenWork x (all x.end)) (λ x. IsTakenWork x (more x.end)) (λ x q. one_taken x (x.end == e) refl q) s.stamped h.taken;
      serial = serial_with all more s.base s.stamped (each_weaker (λ x. IsTakenWork x (all x.end)) (λ x. taken_history (more x.end) ≡ taken_history (all x.end)) (λ x _. one_told x (x.end == e) refl) s.stamped h.taken) h.serial;
      apart = apart_with all more s.stamped (each_weaker (λ x. IsTakenWork x (all x.end)) (λ x. taken_history (more x.end) ≡ taken_history (all x.end)) (λ x _. one_told x (x.end == e) refl) s.stamped h.taken) h.apart;
      checking = each_both (IsChecked s.base s.stamped all e) (λ x. x.settled ≡ false → IsChecking s.base s.stamped x (all x.end)) (λ x. x.settled ≡ false → IsChecking s.base s.stamped x (more x.end)) (λ x f q o. one_checking x (x.end == e) refl f (q o)) s.stamped c h.checking;
      uncounted = h.uncounted;
    }
  where
    next : TakenWork
    next = record { work = (all e).work; checked = (all e).checked + 1 }

    one_told : (x : StampedTx) (b : Bool) → x.end == e ≡ b → taken_history (cond b next (all x.end)) ≡ taken_history (all x.end)
    one_told x true i = ap (λ n. taken_history (all n)) (sym (eqb-true x.end e i))
    one_told x false i = refl

    one_taken : (x : StampedTx) (b : Bool) → x.end == e ≡ b → IsTakenWork x (all x.end) → IsTakenWork x (cond b next (all x.end))
    one_taken x true i h = let g : IsTakenWork x (all e) = subst (λ n. IsTakenWork x (all n)) (eqb-true x.end e i) h in record { work = g.work; writes = g.writes }
    one_taken x false i h = h

    one_checking : (x : StampedTx) (b : Bool) → x.end == e ≡ b → IsChecked s.base s.stamped all e x → IsChecking s.base s.stamped x (all x.end) → IsChecking s.base s.stamped x (cond b next (all x.end))
    one_checking x true i f h = let is = eqb-true x.end e i in let g : IsChecking s.base s.stamped x (all e) = subst (λ n. IsChecking s.base s.stamped x (all n)) is h in record {
      found = found_more s.base s.stamped x (all e).checked (looked_of (all e)) g.found (f is);
      all = g.all;
    }
    one_checking x false i f h = h

-- ---- the last check
valid_checking : (base : Map) (stamped : List StampedTx) (e : ℕ) (w : TakenWork) (x : StampedTx) (b : Bool) → b ≡ (x.end == e) → (x.end ≡ e → length (looked_of w) ≤ w.checked) → IsChecking base stamped x w → IsChecking base stamped (record x { valid = x.valid || b }) w
valid_checking base stamped e w x b is n h = record {
  found = record { seen = h.found.seen; still = h.found.still };
  all = λ v. elim (or_cases x.valid b v) [
    | inl p ↦ record { seen = (h.all p).seen; still = (h.all p).still }
    | inr p ↦ let f = subst (λ looked. AreFound base stamped x looked) (take_all w.checked (looked_of w) (n (eqb-true x.end e (sym is ∙ p)))) h.found in record { seen = f.seen; still = f.still }
  ];
}

found_map : (f : StampedTx → StampedTx) → IsLike f → (base : Map) (stamped : List StampedTx) (x : StampedTx) (looked : List Looked) → AreFound base stamped x looked → AreFound base (map f stamped) x looked
found_map f l base stamped x looked h = record {
  seen = λ n. seen_map f l base stamped x.id x.depends_on looked (h.seen n);
  still = still_map f l stamped x.id x.end looked h.still;
}

pub checking_map : (f : StampedTx → StampedTx) → IsLike f → (base : Map) (stamped : List StampedTx) (x : StampedTx) (w : TakenWork) → IsChecking base stamped x w → IsChecking base (map f stamped) x w
checking_map f l base stamped x w h = record {
  found = found_map f l base stamped x (take w.checked (looked_of w)) h.found;
  all = λ v. found_map f l base stamped x (looked_of w) (h.all v);
}

-- all entries of the one with the end e are checked, and it isn't settled
abbrev pub IsThrough : AllTaken → ℕ → StampedTx → Type 0
IsThrough all e x = x.end ≡ e → (x.settled ≡ false) × (length (looked_of (all x.end)) ≤ (all x.end).checked)

pub shared_valid : (s : State) (all : AllTaken) (e : ℕ) → AllByRecursion (IsThrough all e) s.stamped → IsShared s all → IsShared (after_valid s e) all
shared_valid s all e n h =
    let f = with_valid e in
    let l : IsLike f = λ x. (refl, refl, λ q. q, refl) in
    record {
      sound = sound_after_valid s e (each_both (λ x. IsThrough all e x × OnlyWrites x.history) (λ x. IsTakenWork x (all x.end) × (x.settled ≡ false → IsChecking s.base s.stamped x (all x.end))) (IsNowValid s.stamped e) now s.stamped
          (each_both (IsThrough all e) (λ x. OnlyWrites x.history) (λ x. IsThrough all e x × OnlyWrites x.history) (λ x p q. (p, q)) s.stamped n h.stamped)
          (each_both (λ x. IsTakenWork x (all x.end)) (λ x. x.settled ≡ false → IsChecking s.base s.stamped x (all x.end)) (λ x. IsTakenWork x (all x.end) × (x.settled ≡ false → IsChecking s.base s.stamped x (all x.end))) (λ x p q. (p, q)) s.stamped h.taken h.checking)) h.sound;
      active = h.active;
      stamped = each_map f (λ x. OnlyWrites x.history) (λ x. OnlyWrites x.history) (λ x q. q) s.stamped h.stamped;
      taken = each_map f (λ x. IsTakenWork x (all x.end)) (λ x. IsTakenWork x (all x.end)) (λ x q. record { work = q.work; writes = q.writes }) s.stamped h.taken;
      serial = serial_valid all e s.base s.stamped h.serial;
      apart = apart_told_valid all e s.stamped h.apart;
      checking = each_map f (λ x. IsThrough all e x × (x.settled ≡ false → IsChecking s.base s.stamped x (all x.end))) (λ x. x.settled ≡ false → IsChecking s.base (map f s.stamped) x (all x.end))
          (λ x p o. checking_map f l s.base s.stamped (f x) (all x.end) (valid_checking s.base s.stamped e (all x.end) x (x.end == e) refl (λ i. (p.0 i).1) (p.1 o))) s.stamped
          (each_both (IsThrough all e) (λ x. x.settled ≡ false → IsChecking s.base s.stamped x (all x.end)) (λ x. IsThrough all e x × (x.settled ≡ false → IsChecking s.base s.stamped x (all x.end))) (λ x p q. (p, q)) s.stamped n h.checking);
      uncounted = each_map f (λ x. x.settled ≡ false → x.checked ≡ 0) (λ x. x.settled ≡ false → x.checked ≡ 0) (λ x q. q) s.stamped h.uncounted;
    }
  where
    now : (x : StampedTx) → IsThrough all e x × OnlyWrites x.history → IsTakenWork x (all x.end) × (x.settled ≡ false → IsChecking s.base s.stamped x (all x.end)) → IsNowValid s.stamped e x
    now x p q i =
        let r = p.0 i in
        let f = q.1 r.0 in
        each_taken (IsUnchanged s.stamped x.id x.end) x (all x.end) p.1 q.0 (subst (λ looked. AllByRecursion (λ l. IsUnchanged s.stamped x.id x.end l.entry) looked) (take_all (all x.end).checked (looked_of (all x.end)) r.1) f.found.still)

-- ---- one that is over, and a closed group: nothing of this speaks of them
pub shared_ended : (s : State) (all : AllTaken) (ended : List EndedTx) → IsShared s all → IsShared (record s { ended = ended }) all
shared_ended s all ended h = record {
  sound = record { legal = h.sound.legal; rising = h.sound.rising; clear = h.sound.clear; placed = h.sound.placed; preparing = h.sound.preparing; active = h.sound.active };
  active = h.active;
  stamped = h.stamped;
  taken = h.taken;
  serial = h.serial;
  apart = h.apart;
  checking = h.checking;
  uncounted = h.uncounted;
}

pub shared_closed : (s : State) (all : AllTaken) (mark : ℕ) → IsShared s all → IsShared (after_close s mark) all
shared_closed s all mark h = record {
  sound = record { legal = h.sound.legal; rising = h.sound.rising; clear = h.sound.clear; placed = h.sound.placed; preparing = h.sound.preparing; active = h.sound.active };
  active = h.active;
  stamped = h.stamped;
  taken = h.taken;
  serial = h.serial;
  apart = h.apart;
  checking = h.checking;
  uncounted = h.uncounted;
}
