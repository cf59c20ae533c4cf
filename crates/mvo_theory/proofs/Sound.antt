-- Each step keeps what a core keeps: begin, an operation, precommit and a check.
use Rattle.std.proofs.Common.{suc, zero, take, length, add-one, ◌≡◌, ◌≢◌, ℕ, ◌+◌, ◌<◌, ◌≤◌, Bool, true, false, cond, not, List, [], ◌∷◌, ◌++◌, None, Some, map, refl, sym, ap, ◌∙◌, subst, arith, append-nil}
use Rattle.std.specs.Prelude.{◌==◌, slice_get}
use Rattle.std.specs.List.{AllByRecursion}
use Rattle.std.proofs.lemmas.Bool.{eqb-true, false≢true}
use Rattle.std.proofs.lemmas.List.{take_all}
use Rattle.mvo_types.specs.declared.op.Op.{Op}
use Rattle.mvo_types.specs.Keys.{Map}
use Rattle.mvo_types.specs.AnswerData.{AnswerData}
use Rattle.mvo_model.specs.Serial.{answer_to}
use Rattle.mvo_model.specs.History.{after_history, write_of}
use Rattle.mvo_model.proofs.Serials.{AreSerial-push}
use Rattle.mvo_types.specs.declared.entry.Entry.{Entry}
use Rattle.mvo_theory.specs.Entries.{entry_of, entries}
use Rattle.mvo_theory.specs.Ranges.{changed_by}
use Rattle.mvo_theory.specs.State.{State, StampedTx, ActiveTx, seen_by}
use Rattle.mvo_theory.specs.Dependencies.{keys_for, unwritten, dependencies}
use Rattle.mvo_theory.specs.Claims.{claims_with, ended_key}
use Rattle.mvo_theory.specs.Changes.{after_begin, after_operation, with_answer, after_prepare, to_stamped, after_check, with_check}
use Rattle.mvo_theory.specs.Sound.{changes, IsDecidedOn, IsUnchanged, LeavesAlone, IsApart, IsClear, IsLegal, IsActive, IsPreparing, IsPlaced, IsSound}
use Rattle.mvo_theory.proofs.Each.{each_weaker, each_both, each_append, each_map, each_filter}
use Rattle.mvo_theory.proofs.Footprints.{footprint_push}
use Rattle.mvo_theory.proofs.Stamped.{legal_last, clear_last, rising_last, IsLike, rising_map, unchanged_map}
use Rattle.mvo_theory.proofs.Depends.{depends_more, decided_on_now, decided_on_more, below_all, consistent_last, consistent_map}
use Rattle.mvo_types.specs.declared.entry.Entry.TheVariants.{Key, Range}

-- ---- begin
le_later : (a clock t : ℕ) → clock < t → a ≤ clock → a ≤ t
le_later a clock t lt h = omega arith

placed_later : (stamped : List StampedTx) (clock t : ℕ) → clock < t → (x : StampedTx) → IsPlaced stamped clock x → IsPlaced stamped t x
placed_later stamped clock t lt x h = record { begun = h.begun; drawn = le_later x.end clock t lt h.drawn; others = h.others }

active_later : (base : Map) (stamped : List StampedTx) (clock t : ℕ) → clock < t → (r : ActiveTx) → IsActive base stamped clock r → IsActive base stamped t r
active_later base stamped clock t lt r h = record { consistent = h.consistent; below = h.below; others = h.others; drawn = le_later r.id clock t lt h.drawn }

stop_differs : (stamped : List StampedTx) (clock t : ℕ) → clock < t → (x : StampedTx) → IsPlaced stamped clock x → x.end ≢ t
stop_differs stamped clock t lt x h e = absurd (let d = h.drawn in omega arith)

pub sound_after_begin : (s : State) (t : ℕ) → s.clock < t → IsSound s → IsSound (after_begin s t)
sound_after_begin s t lt h = record {
  legal = h.legal;
  rising = h.rising;
  clear = h.clear;
  placed = each_weaker (IsPlaced s.stamped s.clock) (IsPlaced s.stamped t) (placed_later s.stamped s.clock t lt) s.stamped h.placed;
  preparing = h.preparing;
  active = each_append (IsActive s.base s.stamped t) s.active _ (each_weaker (IsActive s.base s.stamped s.clock) (IsActive s.base s.stamped t) (active_later s.base s.stamped s.clock t lt) s.active h.active) (
    record {
      consistent = λ _. record { serial = tt; decided = tt; prints = refl };
      below = tt;
      others = each_weaker (IsPlaced s.stamped s.clock) (λ x. x.end ≢ t) (stop_differs s.stamped s.clock t lt) s.stamped h.placed;
      drawn = omega arith;
    },
    tt,
  );
}

-- ---- an operation
-- what the answer of an operation of the transaction t has to be, unless it is flagged
abbrev pub IsAnswer : State → ℕ → Op → AnswerData → ActiveTx → Type 0
IsAnswer s t op a r = r.id ≡ t → r.aborted_dependency ≡ None → a ≡ answer_to op (after_history r.history (seen_by s.base s.stamped r.id))

history_one : (s : State) (t : ℕ) (op : Op) (a : AnswerData) (r : ActiveTx) (b : Bool) → r.id == t ≡ b → IsAnswer s t op a r → IsActive s.base s.stamped s.clock r → IsActive s.base s.stamped s.clock (record {
  id = r.id;
  history = cond b (r.history ++ (op, a) ∷ []) r.history;
  footprint = cond b (r.footprint ++ changed_by (write_of op a) (after_history r.history (seen_by s.base s.stamped r.id))) r.footprint;
  claims = cond b (claims_with s r (ended_key op a)) r.claims;
  depends_on = cond b (dependencies s op r) r.depends_on;
  aborted_dependency = r.aborted_dependency;
})
history_one s t op a r false e w h = record { consistent = h.consistent; below = h.below; others = h.others; drawn = h.drawn }
history_one s t op a r true e w h = record {
  consistent = λ d.
      let q = h.consistent d in
      let seen = seen_by s.base s.stamped r.id in
      record {
        serial = AreSerial-push r.history op a seen q.serial (w (eqb-true r.id t e) d);
        decided = each_append (λ o. IsDecidedOn (entry_of o.0) r.id (dependencies s op r) s.base s.stamped) r.history ((op, a) ∷ [])
            (each_weaker (λ o. IsDecidedOn (entry_of o.0) r.id r.depends_on s.base s.stamped) (λ o. IsDecidedOn (entry_of o.0) r.id (dependencies s op r) s.base s.stamped)
            (λ o. decided_on_more (entry_of o.0) r.id r.depends_on (dependencies s op r) s.base s.stamped (depends_more r.depends_on (unwritten r.history (keys_for (entry_of op) r.id s.base s.stamped)) r.id s.stamped)) r.history q.decided)
            (decided_on_now s op r q.decided, tt);
        prints = footprint_push r.history ((op, a) ∷ []) seen ∙ ap (λ rs. rs ++ (changed_by (write_of op a) (after_history r.history seen) ++ [])) q.prints ∙ ap (λ rs. r.footprint ++ rs) (append-nil (changed_by (write_of op a) (after_history r.history seen)));
      };
  below = below_all r.id r.depends_on (unwritten r.history (keys_for (entry_of op) r.id s.base s.stamped)) s.stamped h.below;
  others = h.others;
  drawn = h.drawn;
}

history_each : (s : State) (t : ℕ) (op : Op) (a : AnswerData) (rs : List ActiveTx) → AllByRecursion (IsAnswer s t op a) rs → AllByRecursion (IsActive s.base s.stamped s.clock) rs → AllByRecursion (IsActive s.base s.stamped s.clock) (map (with_answer s t op a) rs)
history_each s t op a [] w h = tt
history_each s t op a (r ∷ rs) w h = (history_one s t op a r (r.id == t) refl w.0 h.0, history_each s t op a rs w.1 h.1)

pub sound_after_operation : (s : State) (t : ℕ) (op : Op) (a : AnswerData) → AllByRecursion (IsAnswer s t op a) s.active → IsSound s → IsSound (after_operation s t op a)
sound_after_operation s t op a w h = record {
  legal = h.legal;
  rising = h.rising;
  clear = h.clear;
  placed = h.placed;
  preparing = h.preparing;
  active = history_each s t op a s.active w h.active;
}

-- ---- precommit
pub unchanged_last : (stamped : List StampedTx) (y : StampedTx) (b c : ℕ) (e : Entry) → c ≤ y.end → IsUnchanged stamped b c e → IsUnchanged (stamped ++ y ∷ []) b c e
unchanged_last stamped y b c e le h = each_append (λ u. b < u.end → u.end < c → changes e u ≡ false) stamped (y ∷ []) h (λ _ lt. absurd (omega arith), tt)

preparing_last : (base : Map) (stamped : List StampedTx) (clock : ℕ) (y x : StampedTx) → clock < y.end → (IsPlaced stamped clock x) × (x.settled ≡ false → IsPreparing base stamped x) → x.settled ≡ false → IsPreparing base (stamped ++ y ∷ []) x
preparing_last base stamped clock y x lt h o =
    let p = h.0 in
    let b = p.begun in
    let d = p.drawn in
    let q = h.1 o in
    record {
      consistent = λ n. consistent_last base stamped y x.id x.history x.footprint x.depends_on (omega arith) (q.consistent n);
      below = q.below;
      checked = each_weaker (IsUnchanged stamped x.id x.end) (IsUnchanged (stamped ++ y ∷ []) x.id x.end) (λ e. unchanged_last stamped y x.id x.end e (omega arith)) (take x.checked (entries x.history)) q.checked;
      valid = λ v. each_weaker (IsUnchanged stamped x.id x.end) (IsUnchanged (stamped ++ y ∷ []) x.id x.end) (λ e. unchanged_last stamped y x.id x.end e (omega arith)) (entries x.history) (q.valid v);
    }

placed_last : (stamped : List StampedTx) (clock : ℕ) (y x : StampedTx) → clock < y.end → IsPlaced stamped clock x → IsPlaced (stamped ++ y ∷ []) y.end x
placed_last stamped clock y x lt h = let b = h.begun in let d = h.drawn in record {
  begun = h.begun;
  drawn = omega arith;
  others = each_append (λ z. z.end ≢ x.id) stamped (y ∷ []) h.others (λ e. absurd (omega arith), tt);
}

active_last : (base : Map) (stamped : List StampedTx) (clock : ℕ) (y : StampedTx) (r : ActiveTx) → clock < y.end → IsActive base stamped clock r → IsActive base (stamped ++ y ∷ []) y.end r
active_last base stamped clock y r lt h = let d = h.drawn in record {
  consistent = λ n. consistent_last base stamped y r.id r.history r.footprint r.depends_on (omega arith) (h.consistent n);
  below = h.below;
  others = each_append (λ z. z.end ≢ r.id) stamped (y ∷ []) h.others (λ e. absurd (omega arith), tt);
  drawn = omega arith;
}

pub sound_after_prepare : (s : State) (r : ActiveTx) (e : ℕ) → s.clock < e → IsActive s.base s.stamped s.clock r → IsSound s → IsSound (after_prepare s r e)
sound_after_prepare s r e lt it h =
    let d = it.drawn in
    let y = to_stamped e r in
    record {
      legal = legal_last s.base s.stamped y refl h.legal;
      rising = rising_last s.stamped y (each_weaker (IsPlaced s.stamped s.clock) (λ x. x.end < e) (λ x p. let q = p.drawn in omega arith) s.stamped h.placed) h.rising;
      clear = clear_last s.stamped y refl h.clear;
      placed = each_append (IsPlaced (s.stamped ++ y ∷ []) e) s.stamped (y ∷ []) (each_weaker (IsPlaced s.stamped s.clock) (IsPlaced (s.stamped ++ y ∷ []) e) (λ x. placed_last s.stamped s.clock y x lt) s.stamped h.placed) (
        record {
          begun = omega arith;
          drawn = omega arith;
          others = each_append (λ z. z.end ≢ r.id) s.stamped (y ∷ []) it.others (λ q. absurd (omega arith), tt);
        },
        tt,
      );
      preparing = each_append (λ x. x.settled ≡ false → IsPreparing s.base (s.stamped ++ y ∷ []) x) s.stamped (y ∷ [])
          (each_both (IsPlaced s.stamped s.clock) (λ x. x.settled ≡ false → IsPreparing s.base s.stamped x) (λ x. x.settled ≡ false → IsPreparing s.base (s.stamped ++ y ∷ []) x) (λ x p q. preparing_last s.base s.stamped s.clock y x lt (p, q)) s.stamped h.placed h.preparing) (
            λ _. record {
              consistent = λ n. consistent_last s.base s.stamped y r.id r.history r.footprint r.depends_on (omega arith) (it.consistent n);
              below = it.below;
              checked = tt;
              valid = λ v. absurd (false≢true v);
            },
            tt,
          );
      active = each_filter (λ q. not (q.id == r.id)) (IsActive s.base s.stamped s.clock) (IsActive s.base (s.stamped ++ y ∷ []) e) (λ q _. active_last s.base s.stamped s.clock y q lt) s.active h.active;
    }

-- ---- a change of each that keeps what others see
pub preparing_map : (f : StampedTx → StampedTx) → IsLike f → (base : Map) (stamped : List StampedTx) (x : StampedTx) → IsPreparing base stamped x → IsPreparing base (map f stamped) x
preparing_map f l base stamped x h = record {
  consistent = λ n. consistent_map f l base stamped x.id x.history x.footprint x.depends_on (h.consistent n);
  below = h.below;
  checked = each_weaker (IsUnchanged stamped x.id x.end) (IsUnchanged (map f stamped) x.id x.end) (λ e. unchanged_map f l x.id x.end e stamped) (take x.checked (entries x.history)) h.checked;
  valid = λ v. each_weaker (IsUnchanged stamped x.id x.end) (IsUnchanged (map f stamped) x.id x.end) (λ e. unchanged_map f l x.id x.end e stamped) (entries x.history) (h.valid v);
}

pub others_map : (f : StampedTx → StampedTx) → IsLike f → (n : ℕ) (stamped : List StampedTx) → AllByRecursion (λ y. y.end ≢ n) stamped → AllByRecursion (λ y. y.end ≢ n) (map f stamped)
others_map f l n stamped h = each_map f (λ y. y.end ≢ n) (λ y. y.end ≢ n) (λ y g e. g (sym (l y).0 ∙ e)) stamped h

pub active_map : (f : StampedTx → StampedTx) → IsLike f → (base : Map) (stamped : List StampedTx) (clock : ℕ) (r : ActiveTx) → IsActive base stamped clock r → IsActive base (map f stamped) clock r
active_map f l base stamped clock r h = record {
  consistent = λ n. consistent_map f l base stamped r.id r.history r.footprint r.depends_on (h.consistent n);
  below = h.below;
  others = others_map f l r.id stamped h.others;
  drawn = h.drawn;
}

-- ---- a check
pub each_take_more : {X : Type 0} (P : X → Type 0) (xs : List X) (n : ℕ) → AllByRecursion P (take n xs) → ((x : X) → slice_get xs n ≡ Some x → P x) → AllByRecursion P (take (suc n) xs)
each_take_more P [] n h f = tt
each_take_more P (x ∷ xs) zero h f = (f x refl, tt)
each_take_more P (x ∷ xs) (suc n) h f = (h.0, each_take_more P xs n h.1 f)

-- the next entry of the transaction with the end e is the same
abbrev pub IsCheck : List StampedTx → ℕ → Bool → StampedTx → Type 0
IsCheck stamped e v x = x.end ≡ e → ((d : Entry) → slice_get (entries x.history) x.checked ≡ Some d → IsUnchanged stamped x.id x.end d) × (v ≡ true → length (entries x.history) ≤ x.checked + 1)

like_check : (e : ℕ) (v : Bool) → IsLike (with_check e v)
like_check e v = λ x. (refl, refl, λ q. q, refl)

checked_one : (base : Map) (stamped : List StampedTx) (e : ℕ) (v : Bool) (x : StampedTx) (b : Bool) → x.end == e ≡ b → IsCheck stamped e v x → IsPreparing base stamped x → IsPreparing base stamped (record x { checked = cond b (x.checked + 1) x.checked; valid = cond b v x.valid })
checked_one base stamped e v x false is c h = record { consistent = h.consistent; below = h.below; checked = h.checked; valid = h.valid }
checked_one base stamped e v x true is c h =
    let now = c (eqb-true x.end e is) in
    let all : AllByRecursion (IsUnchanged stamped x.id x.end) (take (x.checked + 1) (entries x.history)) = rw add-one (each_take_more (IsUnchanged stamped x.id x.end) (entries x.history) x.checked h.checked now.0) in
    record {
      consistent = h.consistent;
      below = h.below;
      checked = all;
      valid = λ f. subst (AllByRecursion (IsUnchanged stamped x.id x.end)) (take_all (x.checked + 1) (entries x.history) (now.1 f)) all;
    }

legal_check : (e : ℕ) (v : Bool) (m : Map) (xs : List StampedTx) → IsLegal m xs → IsLegal m (map (with_check e v) xs)
legal_check e v m [] h = tt
legal_check e v m (x ∷ xs) h = (h.0, legal_check e v (after_history (cond x.settled x.history []) m) xs h.1)

alone_check : (e : ℕ) (v : Bool) (x : StampedTx) (d : Entry) → LeavesAlone x d → LeavesAlone (with_check e v x) d
alone_check e v x (Key k) h = h
alone_check e v x (Range t lo hi) h = h

clear_check : (e : ℕ) (v : Bool) (xs : List StampedTx) → IsClear xs → IsClear (map (with_check e v) xs)
clear_check e v [] h = tt
clear_check e v (x ∷ xs) h = (
  λ o. each_map (with_check e v) (λ u. u.settled ≡ true → IsApart x u.history) (λ u. u.settled ≡ true → IsApart (with_check e v x) u.history) (λ u q s. each_weaker (λ w. LeavesAlone x (entry_of w.0)) (λ w. LeavesAlone (with_check e v x) (entry_of w.0)) (λ w. alone_check e v x (entry_of w.0)) u.history (q s)) xs (h.0 o),
  clear_check e v xs h.1,
)

pub sound_after_check : (s : State) (e : ℕ) (v : Bool) → AllByRecursion (IsCheck s.stamped e v) s.stamped → IsSound s → IsSound (after_check s e v)
sound_after_check s e v c h =
    let f = with_check e v in
    let l = like_check e v in
    record {
      legal = legal_check e v s.base s.stamped h.legal;
      rising = rising_map f l s.stamped h.rising;
      clear = clear_check e v s.stamped h.clear;
      placed = each_map f (IsPlaced s.stamped s.clock) (IsPlaced (map f s.stamped) s.clock) (λ x p. record { begun = p.begun; drawn = p.drawn; others = others_map f l x.id s.stamped p.others }) s.stamped h.placed;
      preparing = each_map f (λ x. IsCheck s.stamped e v x × (x.settled ≡ false → IsPreparing s.base s.stamped x)) (λ x. x.settled ≡ false → IsPreparing s.base (map f s.stamped) x) (λ x p o. preparing_map f l s.base s.stamped (f x) (checked_one s.base s.stamped e v x (x.end == e) refl p.0 (p.1 o))) s.stamped
          (each_both (IsCheck s.stamped e v) (λ x. x.settled ≡ false → IsPreparing s.base s.stamped x) (λ x. IsCheck s.stamped e v x × (x.settled ≡ false → IsPreparing s.base s.stamped x)) (λ x p q. (p, q)) s.stamped c h.preparing);
      active = each_weaker (IsActive s.base s.stamped s.clock) (IsActive s.base (map f s.stamped) s.clock) (λ r. active_map f l s.base s.stamped s.clock r) s.active h.active;
    }
