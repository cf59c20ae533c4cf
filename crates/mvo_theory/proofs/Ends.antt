-- Each step keeps what a core keeps: a settlement anywhere among the stamped ones, and an abort.
use Rattle.std.proofs.Common.{take, ◌≡◌, ◌≢◌, ◌||◌, ℕ, ◌<◌, Bool, true, false, cond, not, List, [], ◌∷◌, ◌++◌, Option, None, Some, map, refl, sym, ap, ◌∙◌, arith}
use Rattle.std.specs.Prelude.{◌==◌}
use Rattle.std.specs.List.{AllByRecursion, filter}
use Rattle.std.proofs.lemmas.Bool.{eqb-true, false≢true, true≢false, not-false}
use Rattle.mvo_types.specs.Keys.{Map}
use Rattle.mvo_model.specs.History.{History, after_history}
use Rattle.mvo_theory.specs.State.{EndedTx, Marks, State, StampedTx, ActiveTx, seen_by}
use Rattle.mvo_types.specs.declared.entry.Entry.{Entry}
use Rattle.mvo_theory.specs.Entries.{entry_of, entries}
use Rattle.mvo_theory.specs.Ranges.{Row}
use Rattle.mvo_theory.specs.Dependencies.{has_end}
use Rattle.mvo_theory.specs.Changes.{after_commit, with_settled, aborted_dependency_after, with_flag, active_with_flag, not_at, after_abort_of_active, after_abort_of_preparing}
use Rattle.mvo_theory.specs.Sound.{changes, IsUnchanged, LeavesAlone, IsApart, IsClear, IsRising, IsLegal, IsConsistent, IsActive, IsPreparing, IsPlaced, IsSound}
use Rattle.mvo_theory.proofs.Each.{each_weaker, each_append, each_back, each_map, each_filter}
use Rattle.mvo_theory.proofs.Looks.{serial_agrees, footprint_agrees}
use Rattle.mvo_theory.proofs.Stamped.{legal_filter, clear_filter, rising_filter, IsLike, rising_map, unchanged_map, IsOut, each_part}
use Rattle.mvo_theory.proofs.Depends.{consistent_map, consistent_filter}
use Rattle.mvo_theory.proofs.Between.{settled_below}
use Rattle.mvo_theory.proofs.Apart.{IsFreeToSettle, apart_all}
use Rattle.mvo_theory.proofs.Settle.{rising_before, rising_after, legal_settled, clear_settled, agree_at_end}
use Rattle.mvo_theory.proofs.Sound.{preparing_map, others_map, active_map}
use Rattle.mvo_types.specs.declared.entry.Entry.TheVariants.{Key, Range}

-- ---- settle
or_true : (a b : Bool) → a ≡ true → (a || b) ≡ true
or_true true b e = refl
or_true false b e = absurd (false≢true e)

now_open : (a b : Bool) → (a || b) ≡ false → a ≡ false
now_open true b h = absurd (true≢false h)
now_open false b h = refl

pub like_settled : (e : ℕ) → IsLike (with_settled e)
like_settled e = λ x. (refl, refl, λ q. or_true x.settled (x.end == e) q, refl)

pub one_end : (t : StampedTx) (before after : List StampedTx) → IsRising (before ++ t ∷ after) → AllByRecursion (λ u. u.end ≡ t.end → u.history ≡ t.history) (before ++ t ∷ after)
one_end t before after r = each_append (λ u. u.end ≡ t.end → u.history ≡ t.history) before (t ∷ after)
    (each_weaker (λ x. x.end < t.end) (λ u. u.end ≡ t.end → u.history ≡ t.history) (λ u lt e. absurd (omega arith)) before (rising_before before after t r))
    (λ _. refl, each_weaker (λ x. t.end < x.end) (λ u. u.end ≡ t.end → u.history ≡ t.history) (λ u lt e. absurd (omega arith)) after (rising_after before after t r))

-- another one, that stays Preparing
settled_one : (base : Map) (stamped : List StampedTx) (e : ℕ) (x : StampedTx) (b : Bool) → x.end == e ≡ b → (x.settled || b) ≡ false → IsPreparing base stamped x → IsPreparing base stamped (record x { settled = x.settled || b; checked = cond b 0 x.checked })
settled_one base stamped e x true is q h = absurd (true≢false (sym (or_right x.settled) ∙ q))
  where
    or_right : (a : Bool) → (a || true) ≡ true
    or_right true = refl
    or_right false = refl
settled_one base stamped e x false is q h = record { consistent = h.consistent; below = h.below; checked = h.checked; valid = h.valid }

pub settled_in : (start : ℕ) (base : Map) (past : List StampedTx) (marks : Marks) (clock : ℕ) (active : List ActiveTx) (before after : List StampedTx) (t : StampedTx) (ended : List EndedTx) → t.settled ≡ false → t.valid ≡ true → t.aborted_dependency ≡ None → IsFreeToSettle (before ++ t ∷ after) t.depends_on →
    let s : State = record { start = start; base = base; past = past; marks = marks; clock = clock; active = active; stamped = before ++ t ∷ after; ended = ended } in
    IsSound s → IsSound (after_commit s t.id t.end)
settled_in start base past marks clock active before after t ended o v d n h =
    let stamped = before ++ t ∷ after in
    let f = with_settled t.end in
    let l = like_settled t.end in
    let it = (each_back (IsPlaced stamped clock) before (t ∷ after) h.placed).0 in
    let mine = (each_back (λ x. x.settled ≡ false → IsPreparing base stamped x) before (t ∷ after) h.preparing).0 o in
    let reads = mine.consistent d in
    let valid = mine.valid v in
    let seen = seen_by base stamped t.id in
    let ends = after_history (settled_below t.end stamped) base in
    let agree = agree_at_end base stamped clock t reads valid n h.clear h.rising h.legal it in
    record {
      legal = legal_settled base before after t h.rising h.clear o d (serial_agrees t.history seen ends agree reads.serial) (sym (footprint_agrees t.history seen ends agree) ∙ reads.prints) h.legal;
      rising = rising_map f l stamped h.rising;
      clear = clear_settled t.end t.history stamped h.rising (one_end t before after h.rising) (apart_all base stamped clock t reads valid n h.clear it h.placed h.preparing) h.clear;
      placed = each_map f (IsPlaced stamped clock) (IsPlaced (map f stamped) clock) (λ x p. record { begun = p.begun; drawn = p.drawn; others = others_map f l x.id stamped p.others }) stamped h.placed;
      preparing = each_map f (λ x. x.settled ≡ false → IsPreparing base stamped x) (λ x. x.settled ≡ false → IsPreparing base (map f stamped) x)
          (λ x p q. settled_one base (map f stamped) t.end x (x.end == t.end) refl q (preparing_map f l base stamped x (p (now_open x.settled (x.end == t.end) q)))) stamped h.preparing;
      active = each_weaker (IsActive base stamped clock) (IsActive base (map f stamped) clock) (λ r. active_map f l base stamped clock r) active h.active;
    }

-- ---- an abort
pub sound_after_abort_of_active : (s : State) (t : ℕ) → IsSound s → IsSound (after_abort_of_active s t)
sound_after_abort_of_active s t h = record {
  legal = h.legal;
  rising = h.rising;
  clear = h.clear;
  placed = h.placed;
  preparing = h.preparing;
  active = each_filter (λ r. not (r.id == t)) (IsActive s.base s.stamped s.clock) (IsActive s.base s.stamped s.clock) (λ r _ q. q) s.active h.active;
}

some_none : (n : ℕ) → ◌≡◌ {A = Option ℕ} (Some n) None → ⊥
some_none n g = cc

-- what isn't flagged by this abort wasn't before, and doesn't depend on the aborted one
pub spared : (t e : ℕ) (ds : List ℕ) (aborted_dependency : Option ℕ) → aborted_dependency_after t e ds aborted_dependency ≡ None → (aborted_dependency ≡ None) × (has_end ds e ≡ false)
spared t e ds (Some u) h = absurd (some_none u h)
spared t e ds None h = (refl, go (has_end ds e) h)
  where
    go : (b : Bool) → cond b (Some t) None ≡ None → b ≡ false
    go true g = absurd (some_none t g)
    go false g = refl

pub out_here : (e : ℕ) (ds : List ℕ) → has_end ds e ≡ false → (x : StampedTx) → (x.end ≡ e → x.settled ≡ false) → IsOut (not_at e) ds x
out_here e ds n x f = λ q. let is = eqb-true x.end e (not-false (x.end == e) q) in (f is, ap (has_end ds) is ∙ n)

pub like_flag : (t e : ℕ) → IsLike (with_flag t e)
like_flag t e = λ x. (refl, refl, λ q. q, refl)

pub consistent_after_abort_of_preparing : (base : Map) (stamped : List StampedTx) (t e id : ℕ) (ts : History) (rs : List Row) (ds : List ℕ) (aborted_dependency : Option ℕ) → AllByRecursion (λ x. x.end ≡ e → x.settled ≡ false) stamped → (aborted_dependency ≡ None → IsConsistent base stamped id ts rs ds) → aborted_dependency_after t e ds aborted_dependency ≡ None → IsConsistent base (map (with_flag t e) (filter (not_at e) stamped)) id ts rs ds
consistent_after_abort_of_preparing base stamped t e id ts rs ds aborted_dependency o h n =
    let q = spared t e ds aborted_dependency n in
    consistent_map (with_flag t e) (like_flag t e) base (filter (not_at e) stamped) id ts rs ds
    (consistent_filter (not_at e) base stamped id ts rs ds (each_weaker (λ x. x.end ≡ e → x.settled ≡ false) (IsOut (not_at e) ds) (out_here e ds q.1) stamped o) (h q.0))

legal_flag : (t e : ℕ) (m : Map) (xs : List StampedTx) → IsLegal m xs → IsLegal m (map (with_flag t e) xs)
legal_flag t e m [] h = tt
legal_flag t e m (x ∷ xs) h = (h.0, legal_flag t e (after_history (cond x.settled x.history []) m) xs h.1)

pub alone_flag : (t e : ℕ) (x : StampedTx) (d : Entry) → LeavesAlone x d → LeavesAlone (with_flag t e x) d
alone_flag t e x (Key k) h = h
alone_flag t e x (Range a lo hi) h = λ n. h (spared t e x.depends_on x.aborted_dependency n).0

clear_flag : (t e : ℕ) (xs : List StampedTx) → IsClear xs → IsClear (map (with_flag t e) xs)
clear_flag t e [] h = tt
clear_flag t e (x ∷ xs) h = (
  λ o. each_map (with_flag t e) (λ u. u.settled ≡ true → IsApart x u.history) (λ u. u.settled ≡ true → IsApart (with_flag t e x) u.history) (λ u q s. each_weaker (λ w. LeavesAlone x (entry_of w.0)) (λ w. LeavesAlone (with_flag t e x) (entry_of w.0)) (λ w. alone_flag t e x (entry_of w.0)) u.history (q s)) xs (h.0 o),
  clear_flag t e xs h.1,
)

others_after_abort_of_preparing : (t e n : ℕ) (stamped : List StampedTx) → AllByRecursion (λ y. y.end ≢ n) stamped → AllByRecursion (λ y. y.end ≢ n) (map (with_flag t e) (filter (not_at e) stamped))
others_after_abort_of_preparing t e n stamped h = others_map (with_flag t e) (like_flag t e) n (filter (not_at e) stamped) (each_part (not_at e) (λ y. y.end ≢ n) stamped h)

pub unchanged_after_abort_of_preparing : (t e b c : ℕ) (stamped : List StampedTx) (d : Entry) → IsUnchanged stamped b c d → IsUnchanged (map (with_flag t e) (filter (not_at e) stamped)) b c d
unchanged_after_abort_of_preparing t e b c stamped d h = unchanged_map (with_flag t e) (like_flag t e) b c d (filter (not_at e) stamped) (each_part (not_at e) (λ u. b < u.end → u.end < c → changes d u ≡ false) stamped h)

preparing_after_abort_of_preparing : (base : Map) (stamped : List StampedTx) (t e : ℕ) → AllByRecursion (λ x. x.end ≡ e → x.settled ≡ false) stamped → (x : StampedTx) → (x.settled ≡ false → IsPreparing base stamped x) → x.settled ≡ false → IsPreparing base (map (with_flag t e) (filter (not_at e) stamped)) (with_flag t e x)
preparing_after_abort_of_preparing base stamped t e o x h s =
    let q = h s in
    record {
      consistent = consistent_after_abort_of_preparing base stamped t e x.id x.history x.footprint x.depends_on x.aborted_dependency o q.consistent;
      below = q.below;
      checked = each_weaker (IsUnchanged stamped x.id x.end) (IsUnchanged (map (with_flag t e) (filter (not_at e) stamped)) x.id x.end) (unchanged_after_abort_of_preparing t e x.id x.end stamped) (take x.checked (entries x.history)) q.checked;
      valid = λ v. each_weaker (IsUnchanged stamped x.id x.end) (IsUnchanged (map (with_flag t e) (filter (not_at e) stamped)) x.id x.end) (unchanged_after_abort_of_preparing t e x.id x.end stamped) (entries x.history) (q.valid v);
    }

pub sound_after_abort_of_preparing : (s : State) (t e : ℕ) → AllByRecursion (λ x. x.end ≡ e → x.settled ≡ false) s.stamped → IsSound s → IsSound (after_abort_of_preparing s t e)
sound_after_abort_of_preparing s t e o h =
    let after_termination = filter (not_at e) s.stamped in
    let f = with_flag t e in
    let l = like_flag t e in
    record {
      legal = legal_flag t e s.base after_termination (legal_filter (not_at e) s.base s.stamped (each_weaker (λ x. x.end ≡ e → x.settled ≡ false) (λ x. not_at e x ≡ false → x.settled ≡ false) (λ x g q. g (eqb-true x.end e (not-false (x.end == e) q))) s.stamped o) h.legal);
      rising = rising_map f l after_termination (rising_filter (not_at e) s.stamped h.rising);
      clear = clear_flag t e after_termination (clear_filter (not_at e) s.stamped h.clear);
      placed = each_map f (IsPlaced s.stamped s.clock) (IsPlaced (map f after_termination) s.clock) (λ x p. record { begun = p.begun; drawn = p.drawn; others = others_after_abort_of_preparing t e x.id s.stamped p.others }) after_termination (each_part (not_at e) (IsPlaced s.stamped s.clock) s.stamped h.placed);
      preparing = each_map f (λ x. x.settled ≡ false → IsPreparing s.base s.stamped x) (λ x. x.settled ≡ false → IsPreparing s.base (map f after_termination) x) (preparing_after_abort_of_preparing s.base s.stamped t e o) after_termination
          (each_part (not_at e) (λ x. x.settled ≡ false → IsPreparing s.base s.stamped x) s.stamped h.preparing);
      active = each_map (active_with_flag t e) (IsActive s.base s.stamped s.clock) (IsActive s.base (map f after_termination) s.clock) (λ r q. record {
        consistent = consistent_after_abort_of_preparing s.base s.stamped t e r.id r.history r.footprint r.depends_on r.aborted_dependency o q.consistent;
        below = q.below;
        others = others_after_abort_of_preparing t e r.id s.stamped q.others;
        drawn = q.drawn;
      }) s.active h.active;
    }
