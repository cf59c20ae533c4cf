-- When the closing of a group is refused, by the past.
use Rattle.std.proofs.Common.{◌≡◌, ◌≢◌, ℕ, ◌≤◌, ◌<◌, ◌+◌, Bool, true, false, cond, List, [], ◌∷◌, ◌++◌, Option, None, Some, map, length, refl, sym, ap, ◌∙◌, subst, arith, inl, inr}
use Rattle.std.specs.Prelude.{◌==◌}
use Rattle.std.specs.List.{AllByRecursion}
use Rattle.std.proofs.lemmas.Bool.{true≢false, eqb-true, eq-eqb}
use Rattle.mvo_types.specs.declared.limits.TheConstants.{RING_GROUPS}
use Rattle.mvo_types.specs.declared.refusal.Refusal.{Refusal}
use Rattle.mvo_types.specs.declared.refusal.Refusal.TheVariants.{NothingToDo, RingFull}
use Rattle.mvo_types.specs.Causes.{when}
use Rattle.mvo_model.specs.Trace.{Phase, phase_of}
use Rattle.mvo_model.specs.Trace.Phase.{Preparing}
use Rattle.mvo_disk.specs.declared.disk.Disk.{Ghosts}
use Rattle.mvo_group.specs.Data.{GroupData}
use Rattle.mvo_theory.specs.State.{State, Marks, ActiveTx, StampedTx, EndedTx, active_of, preparing_of, ended_of}
use Rattle.mvo_theory.specs.Phases.{phase_by, is_preparing, ended_as}
use Rattle.mvo_theory.specs.State.{Outcome}
use Rattle.mvo_theory.specs.State.Outcome.{Committed, Aborted}
use Rattle.mvo_theory.specs.Marks.{low_water, least_open, below_open}
use Rattle.mvo_theory.specs.Sound.{IsRising, IsPlaced}
use Rattle.mvo_theory.specs.Causes.{why_not_close}
use Rattle.mvo_theory.specs.Calls.{IsKept, IsRefusal}
use Rattle.mvo_theory.specs.rests.Course.{Course}
use Rattle.mvo_readonly.specs.Whole.{WholeState}
use Rattle.mvo_readonly.specs.rests.Followed.{IsFollowed}
use Rattle.mvo_readonly.proofs.rests.Answering.{clock_drawn}
use Rattle.mvo_theory.proofs.Apart.{IsIn}
use Rattle.mvo_theory.proofs.Each.{each_weaker}
use Rattle.mvo_theory.proofs.Firsts.{FirstOf, first_is, none_is, when_none, when_some}
use Rattle.mvo_theory.proofs.LastWriter.{found_in, preparing_phase}
use Rattle.mvo_theory.proofs.Commits.{split_at}
use Rattle.mvo_core.specs.Seen.{closed_mark_of}
use Rattle.mvo_store.specs.Frames.{mark_after}
use Rattle.mvo_store.specs.Seen.{mark_of}
use Rattle.mvo_world.specs.WorldData.{WorldData, waiting, IsLinked}
use Rattle.mvo_world.specs.Past.{Past, course_of}
use Rattle.mvo_world.specs.WholeJustified.{KnowsReaders}
use Rattle.mvo_world.specs.Ring.{is_full}
use Rattle.mvo_world.specs.Standing.{IsAfter}
use Rattle.mvo_world.specs.Closing.{IsPreparingWriter, NoneIsPreparing, IsLeastEnd, IsLowWaterOf, last_of_marks, last_closed, IsAllClosed, untaken, IsJustClosing}
use Rattle.mvo_world.specs.Replies.{IsReplyTo}
use Rattle.mvo_world.specs.declared.event.Event.TheVariants.{CloseGroup}
use Rattle.mvo_world.specs.declared.reply.Reply.TheVariants.{Closed, Refused}
use Rattle.mvo_core.specs.declared.answers.Closed as closing
use Rattle.mvo_world.proofs.Standing.{mark_after-append, follow_to}
use Rattle.mvo_world.proofs.WholeJustified.{preparing_own, preparing_whole}

-- ---- who is Preparing
not_prepared : (q : Phase) (e : ℕ) → is_preparing q ≡ false → q ≡ Preparing e → ⊥
not_prepared q e n f = true≢false (sym (ap is_preparing f) ∙ n)

ends_at : (e f : ℕ) → Preparing e ≡ Preparing f → e ≡ f
ends_at e f q = cc

who_prepares : (r : Option ActiveTx) (w : Option StampedTx) (u : Option EndedTx) (e : ℕ) → phase_by r w u ≡ Preparing e → (x : StampedTx) × (w ≡ Some x) × (x.end ≡ e)
who_prepares None (Some x) u e q = (x, refl, ends_at x.end e q)
who_prepares (Some r) w u e q = absurd (not_prepared (phase_by (Some r) w u) e refl q)
who_prepares None None None e q = absurd (not_prepared (phase_by None None None) e refl q)
who_prepares None None (Some u) e q = absurd (not_prepared (ended_as u.outcome) e (so u.outcome) q)
  where
    so : (o : Outcome) → is_preparing (ended_as o) ≡ false
    so (Committed n) = refl
    so Aborted = refl

none_some : (n : ℕ) → ◌≡◌ {A = Option ℕ} None (Some n) → ⊥
none_some n q = cc

some_same : (m n : ℕ) → ◌≡◌ {A = Option ℕ} (Some m) (Some n) → m ≡ n
some_same m n q = cc

-- none of the stamped ones is open
all_settled : (xs : List StampedTx) → least_open xs ≡ None → AllByRecursion (λ x. x.settled ≡ true) xs
all_settled [] q = tt
all_settled (x ∷ xs) q = go x.settled refl q (all_settled xs)
  where
    go : (s : Bool) → x.settled ≡ s → cond s (least_open xs) (Some x.end) ≡ None → (least_open xs ≡ None → AllByRecursion (λ y. y.settled ≡ true) xs) → (x.settled ≡ true) × AllByRecursion (λ y. y.settled ≡ true) xs
    go true e f r = (e, r f)
    go false e f r = absurd (none_some x.end (sym f))

-- the first that is open has the least end
record IsFirstOpen (xs : List StampedTx) (e : ℕ) : Type 1 where
  x : StampedTx
  among : IsIn x xs
  open' : x.settled ≡ false
  ends : x.end ≡ e
  least : AllByRecursion (λ y. y.settled ≡ false → e ≤ y.end) xs

first_open : (xs : List StampedTx) (e : ℕ) → IsRising xs → least_open xs ≡ Some e → IsFirstOpen xs e
first_open [] e rise q = absurd (none_some e q)
first_open (x ∷ xs) e rise q = go x.settled refl q (first_open xs e rise.1)
  where
    go : (s : Bool) → x.settled ≡ s → cond s (least_open xs) (Some x.end) ≡ Some e → (least_open xs ≡ Some e → IsFirstOpen xs e) → IsFirstOpen (x ∷ xs) e
    go true o f r = let i = r f in record { x = i.x; among = λ P h. i.among P h.1; open' = i.open'; ends = i.ends; least = ((λ n. absurd (true≢false (sym o ∙ n))), i.least) }
    go false o f r =
        let same = some_same x.end e f in
        record {
          x = x;
          among = λ P h. h.0;
          open' = o;
          ends = same;
          least = ((λ _. omega (arith, same)), each_weaker (λ y. x.end < y.end) (λ y. y.settled ≡ false → e ≤ y.end) (λ y l _. omega (arith, l, same)) xs rise.0);
        }

module _ (p : Past) (own : Course) (w : WholeState) (f : IsFollowed (course_of p) own w) (readers : KnowsReaders p.read_only p.steps w) where
  abbrev s : State
  s = w.core

  abbrev kept : IsKept own.rows own.steps s
  kept = f.kept.kept

  -- who may have written is Preparing in both traces
  own_phase : (t e : ℕ) → IsPreparingWriter p t e → phase_of t own.steps ≡ Preparing e
  own_phase t e q = preparing_own p.read_only (course_of p) own w f readers t e q.writes q.preparing

  is_writer : (t e : ℕ) → phase_of t own.steps ≡ Preparing e → IsPreparingWriter p t e
  is_writer t e q = let both = preparing_whole p.read_only (course_of p) own w f readers t e q in record { preparing = both.1; writes = both.0 }

  prepares : (t e : ℕ) → IsPreparingWriter p t e → (x : StampedTx) × (preparing_of t s.stamped ≡ Some x) × (x.end ≡ e)
  prepares t e q = who_prepares (active_of t s.active) (preparing_of t s.stamped) (ended_of t s.ended) e (sym (kept.after_trace.phases t) ∙ own_phase t e q)

  none_prepares : AllByRecursion (λ x. x.settled ≡ true) s.stamped → NoneIsPreparing p
  none_prepares all t e q =
      let y = prepares t e q in
      let m = found_in t s.stamped y.0 y.1 in
      true≢false (sym (m.0 (λ x. x.settled ≡ true) all) ∙ (split_at t s.stamped y.0 y.1).4)

  least_end : (e n : ℕ) → IsFirstOpen s.stamped e → e ≡ n + 1 → IsLeastEnd p (n + 1)
  least_end e n i is = record {
    tx = i.x.id;
    preparing = is_writer i.x.id (n + 1) (kept.after_trace.phases i.x.id ∙ preparing_phase s i.x i.among i.open' kept.single ∙ ap Preparing (i.ends ∙ is));
    least = λ t g q.
        let y = prepares t g q in
        let m = found_in t s.stamped y.0 y.1 in
        let l = m.0 (λ x. x.settled ≡ false → e ≤ x.end) i.least (split_at t s.stamped y.0 y.1).4 in
        let ends = y.2 in
        omega (arith, l, ends, is);
  }

  low_is : IsLowWaterOf p (low_water s)
  low_is = go (least_open s.stamped) refl
    where
      go : (o : Option ℕ) → least_open s.stamped ≡ o → IsLowWaterOf p (below_open s.clock o)
      go None q = inl (none_prepares (all_settled s.stamped q), clock_drawn (course_of p) own w f)
      go (Some e) q =
          let i = first_open s.stamped e kept.sound.rising q in
          let begun = (i.among (IsPlaced s.stamped s.clock) kept.sound.placed).begun in
          let ends = i.ends in
          inr (least_end e (below_open s.clock (Some e)) i (omega (arith, begun, ends)))

  low_one : (n : ℕ) → IsLowWaterOf p n → low_water s ≡ n
  low_one n low = go low_is low
    where
      go : IsLowWaterOf p (low_water s) → IsLowWaterOf p n → low_water s ≡ n
      go (inl a) (inl b) = a.1 ∙ sym b.1
      go (inl a) (inr b) = absurd (a.0 b.tx (n + 1) b.preparing)
      go (inr a) (inl b) = absurd (b.0 a.tx (low_water s + 1) a.preparing)
      go (inr a) (inr b) = let up = a.least b.tx (n + 1) b.preparing in let down = b.least a.tx (low_water s + 1) a.preparing in omega (arith, up, down)

last_marks : (m : ℕ) (gs : List GroupData) → mark_after m gs ≡ last_of_marks m (map (λ g. g.mark) gs)
last_marks m [] = refl
last_marks m (g ∷ gs) = last_marks g.mark gs

module _ {D : Type 0} (d : Ghosts D) (p : Past) (w : WorldData D) (h : IsAfter d p w) (linked : IsLinked w) where
  closed_is : h.state.core.marks.closed ≡ last_closed p
  closed_is =
      ap (λ (m : Marks). m.closed) h.core.core.marks
      ∙ sym (follow_to (mark_of w.store) (closed_mark_of w.core) (waiting w) linked)
      ∙ ap (λ (m : ℕ). mark_after m (waiting w)) h.mark
      ∙ sym (mark_after-append p.mark h.sent (waiting w))
      ∙ last_marks p.mark (h.sent ++ waiting w)
      ∙ ap (last_of_marks p.mark) h.marks

  none_left : (low_water h.state.core == h.state.core.marks.closed) ≡ true → IsAllClosed p
  none_left e = subst (IsLowWaterOf p) (eqb-true (low_water h.state.core) h.state.core.marks.closed e ∙ closed_is) (low_is p h.own h.state h.followed h.readers)

  one_left : (low_water h.state.core == h.state.core.marks.closed) ≡ false → IsAllClosed p → ⊥
  one_left e all = true≢false (sym (eq-eqb (low_water h.state.core) h.state.core.marks.closed (low_one p h.own h.state h.followed h.readers (last_closed p) all ∙ sym closed_is)) ∙ e)

  has_room : is_full w.ring ≡ false → untaken p < RING_GROUPS
  has_room e =
      let n : length w.ring ≢ RING_GROUPS = λ f. true≢false (sym (eq-eqb (length w.ring) RING_GROUPS f) ∙ e) in
      let u = h.untaken in
      let r = h.room in
      omega (arith, n, u, r)

  has_none : is_full w.ring ≡ true → untaken p ≡ RING_GROUPS
  has_none e = let l = eqb-true (length w.ring) RING_GROUPS e in let u = h.untaken in omega (arith, l, u)

  abbrev nothing : Option Refusal
  nothing = when (low_water h.state.core == h.state.core.marks.closed) NothingToDo

  abbrev full : Option Refusal
  full = when (is_full w.ring) RingFull

  -- neither stands
  free : why_not_close h.state.core (is_full w.ring) ≡ None → (IsAllClosed p → ⊥) × (untaken p < RING_GROUPS)
  free e =
      let none = none_is (nothing ∷ full ∷ []) e in
      (one_left (when_none (low_water h.state.core == h.state.core.marks.closed) NothingToDo none.0), has_room (when_none (is_full w.ring) RingFull none.1.0))

  stands : (r : Refusal) → FirstOf (nothing ∷ full ∷ []) r → IsJustClosing p (Refused r)
  stands r (inl e) = let q = when_some (low_water h.state.core == h.state.core.marks.closed) NothingToDo r e in subst (λ (v : Refusal). IsJustClosing p (Refused v)) (sym q.1) (none_left q.0)
  stands r (inr (n, inl e)) =
      let q = when_some (is_full w.ring) RingFull r e in
      subst (λ (v : Refusal). IsJustClosing p (Refused v)) (sym q.1) (one_left (when_none (low_water h.state.core == h.state.core.marks.closed) NothingToDo n), has_none q.0)
  stands r (inr (n, inr m)) = absurd m.1

  refused_so : (r : Refusal) (v : Option Refusal) → why_not_close h.state.core (is_full w.ring) ≡ v → IsRefusal true v r → IsJustClosing p (Refused r)
  refused_so r (Some why) e q = stands r (first_is (nothing ∷ full ∷ []) r (e ∙ ap (λ (v : Refusal). Some v) (sym q))).is
  refused_so r None e q = subst (λ (v : Refusal). IsJustClosing p (Refused v)) (sym q) (free e)

  pub closed_so : (c : closing.Closed) (w' : WorldData D) → IsReplyTo d w CloseGroup (Closed c) w' → IsJustClosing p (Closed c)
  closed_so c w' q =
      let told = q.closing p.rows p.steps h.own.steps h.state h.core in
      free (subst (λ (b : Bool). why_not_close h.state.core b ≡ None) (sym told.0) told.1.2.leads.may.0)

  pub unclosed_so : (r : Refusal) (w' : WorldData D) → IsReplyTo d w CloseGroup (Refused r) w' → IsJustClosing p (Refused r)
  unclosed_so r w' q = refused_so r (why_not_close h.state.core (is_full w.ring)) refl ((q.closing p.rows p.steps h.own.steps h.state h.core).0 (record { prev = 0; mark = 0; commits = [] })).may
