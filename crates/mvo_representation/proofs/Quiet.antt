-- The steps after which each stamp is as before: a check, a commit, the abort of an Active one, a begin.
use Rattle.std.proofs.Common.{◌≡◌, ◌≢◌, ℕ, ◌<◌, ◌≤◌, Bool, true, false, cond, not, ◌||◌, eqb, List, [], ◌∷◌, ◌++◌, map, Option, None, Some, refl, sym, ap, ◌∙◌, subst, arith, ◌⊎◌, inl, inr}
use Rattle.std.specs.Prelude.{⊤, ◌==◌}
use Rattle.std.specs.List.{AllByRecursion}
use Rattle.std.proofs.lemmas.Bool.{eq-eqb, ne_eqb, true≢false, cases_eq}
use Rattle.mvo_model.specs.Trace.{Step, owner_of, phase_after}
use Rattle.mvo_model.specs.Trace.Step.{Begins, Commits, Aborts, Terminates}
use Rattle.mvo_model.specs.Trace.Phase.{Absent, Active, Committed, Aborted}
use Rattle.mvo_theory.specs.State.{EndedTx, State, StampedTx, ActiveTx, Claim, preparing_of, active_of}
use Rattle.mvo_theory.specs.Claims.{has_claim}
use Rattle.mvo_theory.specs.Changes.{after_termination, without_ended, after_begin, new_active, after_commit, committed_tx, with_settled, after_check, with_check, after_abort_of_active, aborted_tx, without_id}
use Rattle.mvo_theory.proofs.Cases.{is_ended_in}
use Rattle.mvo_theory.specs.Phases.{phase_in}
use Rattle.mvo_theory.specs.Sound.{IsSound, IsSingle, IsStarted, IsPast}
use Rattle.mvo_theory.proofs.Each.{each_weaker, each_both, each_always, each_map, each_filter, each_append}
use Rattle.mvo_theory.proofs.Phases.{Leads, leads_after_begin, leads_after_commit, leads_after_abort_of_active, leads_after_termination}
use Rattle.mvo_theory.proofs.Who.{id_of}
use Rattle.mvo_representation.proofs.Effects.{net_effect_same, is_touched_same}
use Rattle.mvo_word.specs.declared.held.Held.{Held}
use Rattle.mvo_word.specs.declared.held.Held.TheVariants.{At, By, Infinity}
use Rattle.mvo_chain.specs.declared.version.Version.{Version}
use Rattle.mvo_representation.specs.Words.{Phases, Ends, is_up_to, end_in, ends_of, stamp_in, is_stamp, has_stamp}
use Rattle.mvo_visible.specs.Words.{names}
use Rattle.mvo_representation.specs.Steps.{IsUnnamed}
use Rattle.mvo_representation.specs.Versions.{history_at, rows_at, Say, IsKnownStamp, IsKnown, EndIsClaimed, EndHasClaims, HasItsClaims, IsForward, IsInside, AreDrawn, AreVersionsOf}
use Rattle.mvo_representation.proofs.Facts.{IsDrawn, phase_preparing, phase_active, phase_absent, end_drawn, say_nothing}
use Rattle.mvo_representation.proofs.Kept.{IsSame, IsVersion, each_version, kept_alike, standing_effect_same}
use Rattle.mvo_theory.specs.Words.{words_now}

-- ---- the ends after a step
pub ends_stay : (s s' : State) (x : Step) (table table' : Phases) → ((t : ℕ) → table t ≡ phase_in s t) → ((t : ℕ) → table' t ≡ phase_in s' t) → Leads x s s' → end_in (phase_after x (table (owner_of x))) ≡ end_in (table (owner_of x)) → ends_of table' ≡ ends_of table
ends_stay s s' x table table' p p' l same = λ i t. at t i
  where
    go : (t : ℕ) → (owner_of x ≡ t) ⊎ (owner_of x ≡ t → ⊥) → end_in (table' t) ≡ end_in (table t)
    go t (inl e) = subst (λ (u : ℕ). end_in (table' u) ≡ end_in (table u)) e (ap end_in (p' (owner_of x) ∙ l.own ∙ ap (phase_after x) (sym (p (owner_of x)))) ∙ same)
    go t (inr n) = ap end_in (p' t ∙ l.others t n ∙ sym (p t))

    at : (t : ℕ) → end_in (table' t) ≡ end_in (table t)
    at t = go t (cases_eq (owner_of x) t)

-- another end for one of them
abbrev pub with_end : ℕ → Option ℕ → Ends → Ends
with_end t e ends u = cond (u == t) e (ends u)

pub ends_turn : (s s' : State) (x : Step) (t : ℕ) (o : Option ℕ) (table table' : Phases) → ((t : ℕ) → table t ≡ phase_in s t) → ((t : ℕ) → table' t ≡ phase_in s' t) → Leads x s s' → owner_of x ≡ t → end_in (phase_after x (table t)) ≡ o → ends_of table' ≡ with_end t o (ends_of table)
ends_turn s s' x t o table table' p p' l own is = λ i u. at u i
  where
    go : (u : ℕ) → (u ≡ t) ⊎ (u ≡ t → ⊥) → end_in (table' u) ≡ cond (eqb u t) o (end_in (table u))
    go u (inl e) = ap (λ v. end_in (table' v)) e ∙ ap (λ v. end_in (table' v)) (sym own) ∙ ap end_in (p' (owner_of x) ∙ l.own ∙ ap (phase_after x) (sym (p (owner_of x)))) ∙ ap (λ v. end_in (phase_after x (table v))) own ∙ is ∙ sym (ap (λ b. cond b o (end_in (table u))) (eq-eqb u t e))
    go u (inr n) = ap end_in (p' u ∙ l.others u (λ e. n (sym e ∙ own)) ∙ sym (p u)) ∙ sym (ap (λ b. cond b o (end_in (table u))) (ne_eqb u t n))

    at : (u : ℕ) → end_in (table' u) ≡ cond (eqb u t) o (end_in (table u))
    at u = go u (cases_eq u t)

pub other_stays : (s s' : State) (x : Step) (table table' : Phases) → ((t : ℕ) → table t ≡ phase_in s t) → ((t : ℕ) → table' t ≡ phase_in s' t) → Leads x s s' → (u : ℕ) → (owner_of x ≡ u → ⊥) → table' u ≡ table u
other_stays s s' x table table' p p' l u n = p' u ∙ l.others u n ∙ sym (p u)

pub own_led : (s s' : State) (x : Step) (table table' : Phases) → ((t : ℕ) → table t ≡ phase_in s t) → ((t : ℕ) → table' t ≡ phase_in s' t) → Leads x s s' → table' (owner_of x) ≡ phase_after x (table (owner_of x))
own_led s s' x table table' p p' l = p' (owner_of x) ∙ l.own ∙ ap (phase_after x) (sym (p (owner_of x)))

-- who was there and isn't led away is there
pub still_there : (s s' : State) (x : Step) (table table' : Phases) → ((t : ℕ) → table t ≡ phase_in s t) → ((t : ℕ) → table' t ≡ phase_in s' t) → Leads x s s' → (phase_after x (table (owner_of x)) ≡ Absent → ⊥) → (u : ℕ) → (table u ≡ Absent → ⊥) → table' u ≡ Absent → ⊥
still_there s s' x table table' p p' l away u there = go (cases_eq (owner_of x) u)
  where
    go : (owner_of x ≡ u) ⊎ (owner_of x ≡ u → ⊥) → table' u ≡ Absent → ⊥
    go (inl e) q = away (sym (own_led s s' x table table' p p' l) ∙ ap table' e ∙ q)
    go (inr n) q = there (sym (other_stays s s' x table table' p p' l u n) ∙ q)

pub same_self : (start : ℕ) (ends : Ends) (vs : List Version) → IsSame start ends vs ends vs
same_self start ends vs = record { net_effect = λ k e. refl; touches = λ g p e. refl; standing_effect = λ k. refl }

pub same_ends : (start : ℕ) (ends ends' : Ends) (vs : List Version) → ends' ≡ ends → IsSame start ends vs ends' vs
same_ends start ends ends' vs e = subst (λ (x : Ends). IsSame start ends vs x vs) (sym e) (same_self start ends vs)

-- a word is known after the step
pub known_next : (s s' : State) (table table' : Phases) → ((e : ℕ) → IsKnownStamp s e → IsKnownStamp s' e) → ((u : ℕ) → (table u ≡ Absent → ⊥) → table' u ≡ Absent → ⊥) → (w : Held) → IsKnown s table w → IsKnown s' table' w
known_next s s' table table' f g (At e) k = f e.0 k
known_next s s' table table' f g (By t) k = g t.0 k
known_next s s' table table' f g Infinity k = tt

-- a version after a step with the same ends
pub version_next : (s s' : State) (table table' : Phases) (v : Version) → ends_of table' ≡ ends_of table → ((e : ℕ) → IsKnownStamp s e → IsKnownStamp s' e) → ((u : ℕ) → (table u ≡ Absent → ⊥) → table' u ≡ Absent → ⊥) → ((a : ℕ) → EndHasClaims s (ends_of table) v a → EndHasClaims s' (ends_of table) v a) → AllByRecursion (IsInside v) s'.active → IsVersion s table v → IsVersion s' table' v
version_next s s' table table' v same f g claims inside h = record {
  known = (known_next s s' table table' f g v.begin h.known.0, known_next s s' table table' f g v.end h.known.1);
  claims = subst (λ (x : Ends). HasItsClaims s' x v) (sym same) (λ a put stays. claims a (h.claims a put stays));
  forward = subst (λ (x : Ends). IsForward x v) (sym same) h.forward;
  inside = inside;
}

-- ---- the history at an end, where each keeps its end
pub history_at-map : (f : StampedTx → StampedTx) (e : ℕ) → ((x : StampedTx) → ((f x).end ≡ x.end) × ((f x).history ≡ x.history)) → (xs : List StampedTx) → history_at e (map f xs) ≡ history_at e xs
history_at-map f e h [] = refl
history_at-map f e h (x ∷ xs) =
    ap (λ n. cond (n == e) (f x).history (history_at e (map f xs))) (h x).0
    ∙ ap (λ ts. cond (x.end == e) ts (history_at e (map f xs))) (h x).1
    ∙ ap (cond (x.end == e) x.history) (history_at-map f e h xs)

pub rows_at-map : (f : StampedTx → StampedTx) (e : ℕ) → ((x : StampedTx) → ((f x).end ≡ x.end) × ((f x).footprint ≡ x.footprint)) → (xs : List StampedTx) → rows_at e (map f xs) ≡ rows_at e xs
rows_at-map f e h [] = refl
rows_at-map f e h (x ∷ xs) =
    ap (λ n. cond (n == e) (f x).footprint (rows_at e (map f xs))) (h x).0
    ∙ ap (λ ts. cond (x.end == e) ts (rows_at e (map f xs))) (h x).1
    ∙ ap (cond (x.end == e) x.footprint) (rows_at-map f e h xs)

-- ---- a commit
pub or_no : (a b : Bool) → (a || b) ≡ false → (a ≡ false) × (b ≡ false)
or_no true b h = absurd (true≢false h)
or_no false b h = (refl, h)

stamp_committed : (s : State) (t e n : ℕ) → IsKnownStamp s n → IsKnownStamp (after_commit s t e) n
stamp_committed s t e n h = record {
  drawn = h.drawn;
  apart = h.apart;
  settled = each_map (with_settled e) (λ x. x.settled ≡ false → x.end ≢ n) (λ x. x.settled ≡ false → x.end ≢ n) (λ x g f. g (or_no x.settled (x.end == e) f).0) s.stamped h.settled;
}

stamp_own : (s : State) (t e : ℕ) → e ≤ s.clock → AllByRecursion (λ r. r.id ≢ e) s.active → IsKnownStamp (after_commit s t e) e
stamp_own s t e le n = record {
  drawn = le;
  apart = n;
  settled = each_map (with_settled e) (λ x. ⊤) (λ x. x.settled ≡ false → x.end ≢ e) (λ x _ f q. true≢false (sym (eq-eqb x.end e q) ∙ (or_no x.settled (x.end == e) f).1)) s.stamped (each_always (λ x. ⊤) (λ x. tt) s.stamped);
}

claims_map : (s : State) (ends : Ends) (f : StampedTx → StampedTx) (us : List EndedTx) (v : Version) (a : ℕ) → ((x : StampedTx) → ((f x).end ≡ x.end) × ((f x).claims ≡ x.claims)) → EndHasClaims s ends v a → EndHasClaims (record s { stamped = map f s.stamped; ended = us }) ends v a
claims_map s ends f us v a like h = record {
  active = h.active;
  stamped = each_map f (λ x. EndIsClaimed v.row.key a (has_stamp ends x.end) x.claims v.end) (λ x. EndIsClaimed v.row.key a (has_stamp ends x.end) x.claims v.end)
      (λ x g. ap (λ n. has_stamp ends n v.end) (like x).0 ∙ g ∙ ap (λ cs. has_claim cs v.row.key a) (sym (like x).1)) s.stamped h.stamped;
}

-- settle
pub kept_after_commit : (s : State) (table table' : Phases) (vs : List Version) (t : ℕ) (x : StampedTx) → IsSound s → IsSingle s → AreVersionsOf s table vs → preparing_of t s.stamped ≡ Some x → ((u : ℕ) → table' u ≡ phase_in (after_commit s t x.end) u) → AreVersionsOf (after_commit s t x.end) table' vs
kept_after_commit s table table' vs t x sd sg h f ph =
    kept_alike s s.clock s.active (map (with_settled x.end) s.stamped) (s.ended ++ committed_tx t x.end (words_now s t) ∷ []) table table' vs vs h ph
    (same_ends s.start (ends_of table) (ends_of table') vs path)
    (λ e. history_at-map (with_settled x.end) e (λ y. (refl, refl)) s.stamped)
    (λ e. rows_at-map (with_settled x.end) e (λ y. (refl, refl)) s.stamped)
    h.active
    (each_weaker (IsVersion s table) (IsVersion (after_commit s t x.end) table') (λ v i. version_next s (after_commit s t x.end) table table' v path (stamp_committed s t x.end) (still_there s (after_commit s t x.end) (Commits t x.end) table table' h.phases ph leads (λ q. gone q)) (λ a. claims_map s (ends_of table) (with_settled x.end) (s.ended ++ committed_tx t x.end (words_now s t) ∷ []) v a (λ y. (refl, refl))) i.inside i) vs (each_version s table vs h))
    (record {
      begun = h.begun;
      behind = h.behind;
      begun_stamped = each_map (with_settled x.end) (λ y. y.settled ≡ false → s.start ≤ y.id) (λ y. y.settled ≡ false → s.start ≤ y.id) (λ y g e. g (or_no y.settled (y.end == x.end) e).0) s.stamped h.begun_stamped;
      committed = λ u e q. by u e q (cases_eq t u);
      drawn = h.drawn;
      drawn_stamped = each_map (with_settled x.end) (λ y. AreDrawn s.clock y.claims) (λ y. AreDrawn s.clock y.claims) (λ y g. g) s.stamped h.drawn_stamped;
    })
  where
    leads : Leads (Commits t x.end) s (after_commit s t x.end)
    leads = leads_after_commit s t x f sd sg

    gone : Committed x.end ≡ Absent → ⊥
    gone q = cc

    same_end : (a b : ℕ) → Committed a ≡ Committed b → a ≡ b
    same_end a b q = cc

    end_before : end_in (table t) ≡ Some x.end
    end_before = ap end_in (h.phases t ∙ phase_preparing s t x sg f)

    path : ends_of table' ≡ ends_of table
    path = ends_stay s (after_commit s t x.end) (Commits t x.end) table table' h.phases ph leads (sym end_before)

    is_drawn : IsDrawn s x.end
    is_drawn = end_drawn s table vs sd h t x.end end_before

    by : (u e : ℕ) → table' u ≡ Committed e → (t ≡ u) ⊎ (t ≡ u → ⊥) → IsKnownStamp (after_commit s t x.end) e
    by u e q (inl i) = subst (λ (n : ℕ). IsKnownStamp (after_commit s t x.end) n) (same_end x.end e (sym (own_led s (after_commit s t x.end) (Commits t x.end) table table' h.phases ph leads) ∙ ap table' i ∙ q)) (stamp_own s t x.end is_drawn.drawn is_drawn.apart)
    by u e q (inr n) = stamp_committed s t x.end e (h.committed u e (sym (other_stays s (after_commit s t x.end) (Commits t x.end) table table' h.phases ph leads u n) ∙ q))

-- ---- a check
-- validate: an entry more is checked
pub kept_after_check : (s : State) (table : Phases) (vs : List Version) (e : ℕ) (b : Bool) → AreVersionsOf s table vs → ((u : ℕ) → table u ≡ phase_in (after_check s e b) u) → AreVersionsOf (after_check s e b) table vs
kept_after_check s table vs e b h ph =
    kept_alike s s.clock s.active (map (with_check e b) s.stamped) s.ended table table vs vs h ph
    (same_self s.start (ends_of table) vs)
    (λ n. history_at-map (with_check e b) n (λ y. (refl, refl)) s.stamped)
    (λ n. rows_at-map (with_check e b) n (λ y. (refl, refl)) s.stamped)
    h.active
    (each_weaker (IsVersion s table) (IsVersion (after_check s e b) table) (λ v i. version_next s (after_check s e b) table table v refl stamp (λ u n. n) (λ a. claims_map s (ends_of table) (with_check e b) s.ended v a (λ y. (refl, refl))) i.inside i) vs (each_version s table vs h))
    (record {
      begun = h.begun;
      behind = h.behind;
      begun_stamped = each_map (with_check e b) (λ y. y.settled ≡ false → s.start ≤ y.id) (λ y. y.settled ≡ false → s.start ≤ y.id) (λ y g. g) s.stamped h.begun_stamped;
      committed = λ u n q. stamp n (h.committed u n q);
      drawn = h.drawn;
      drawn_stamped = each_map (with_check e b) (λ y. AreDrawn s.clock y.claims) (λ y. AreDrawn s.clock y.claims) (λ y g. g) s.stamped h.drawn_stamped;
    })
  where
    stamp : (n : ℕ) → IsKnownStamp s n → IsKnownStamp (after_check s e b) n
    stamp n g = record { drawn = g.drawn; apart = g.apart; settled = each_map (with_check e b) (λ y. y.settled ≡ false → y.end ≢ n) (λ y. y.settled ≡ false → y.end ≢ n) (λ y q. q) s.stamped g.settled }

-- ---- the abort of an Active one
stamp_aborted : (s : State) (t n : ℕ) → IsKnownStamp s n → IsKnownStamp (after_abort_of_active s t) n
stamp_aborted s t n h = record {
  drawn = h.drawn;
  apart = each_filter (λ r. not (r.id == t)) (λ r. r.id ≢ n) (λ r. r.id ≢ n) (λ r _ g. g) s.active h.apart;
  settled = h.settled;
}

-- rollback, and a refusal that aborts, of an Active one: its words fall silent
pub kept_after_abort_of_active : (s : State) (table table' : Phases) (vs : List Version) (t : ℕ) (r : ActiveTx) → IsSingle s → AreVersionsOf s table vs → active_of t s.active ≡ Some r → ((u : ℕ) → table' u ≡ phase_in (after_abort_of_active s t) u) → AreVersionsOf (after_abort_of_active s t) table' vs
kept_after_abort_of_active s table table' vs t r sg h f ph =
    kept_alike s s.clock (without_id t s.active) s.stamped (s.ended ++ aborted_tx t (words_now s t) ∷ []) table table' vs vs h ph
    (same_ends s.start (ends_of table) (ends_of table') vs path)
    (λ e. refl) (λ e. refl)
    (each_filter (λ q. not (q.id == t)) (λ q. Say (names q.id) q.history q.footprint vs) (λ q. Say (names q.id) q.history q.footprint vs) (λ q _ g. g) s.active h.active)
    (each_weaker (IsVersion s table) (IsVersion (after_abort_of_active s t) table') (λ v i. version_next s (after_abort_of_active s t) table table' v path (stamp_aborted s t) (still_there s (after_abort_of_active s t) (Aborts t) table table' h.phases ph leads (λ q. gone q)) (claims v) (each_filter (λ q. not (q.id == t)) (IsInside v) (IsInside v) (λ q _ g. g) s.active i.inside) i) vs (each_version s table vs h))
    (record {
      begun = each_filter (λ q. not (q.id == t)) (λ q. s.start ≤ q.id) (λ q. s.start ≤ q.id) (λ q _ g. g) s.active h.begun;
      behind = each_filter (λ q. not (q.id == t)) (λ q. AllByRecursion (λ x. x.end < q.id) s.past) (λ q. AllByRecursion (λ x. x.end < q.id) s.past) (λ q _ g. g) s.active h.behind;
      begun_stamped = h.begun_stamped;
      committed = λ u e q. by u e q (cases_eq t u);
      drawn = each_filter (λ q. not (q.id == t)) (λ q. AreDrawn s.clock q.claims) (λ q. AreDrawn s.clock q.claims) (λ q _ g. g) s.active h.drawn;
      drawn_stamped = h.drawn_stamped;
    })
  where
    leads : Leads (Aborts t) s (after_abort_of_active s t)
    leads = leads_after_abort_of_active s t r f (id_of t s.active r f) sg

    gone : Aborted ≡ Absent → ⊥
    gone q = cc

    other : (e : ℕ) → Aborted ≡ Committed e → ⊥
    other e q = cc

    path : ends_of table' ≡ ends_of table
    path = ends_stay s (after_abort_of_active s t) (Aborts t) table table' h.phases ph leads (sym (ap end_in (h.phases t ∙ phase_active s t r f)))

    claims : (v : Version) (a : ℕ) → EndHasClaims s (ends_of table) v a → EndHasClaims (after_abort_of_active s t) (ends_of table) v a
    claims v a g = record { active = each_filter (λ q. not (q.id == t)) (λ q. EndIsClaimed v.row.key a (names q.id) q.claims v.end) (λ q. EndIsClaimed v.row.key a (names q.id) q.claims v.end) (λ q _ i. i) s.active g.active; stamped = g.stamped }

    by : (u e : ℕ) → table' u ≡ Committed e → (t ≡ u) ⊎ (t ≡ u → ⊥) → IsKnownStamp (after_abort_of_active s t) e
    by u e q (inl i) = absurd (other e (sym (own_led s (after_abort_of_active s t) (Aborts t) table table' h.phases ph leads) ∙ ap table' i ∙ q))
    by u e q (inr n) = stamp_aborted s t e (h.committed u e (sym (other_stays s (after_abort_of_active s t) (Aborts t) table table' h.phases ph leads u n) ∙ q))

-- ---- a begin
stamp_began : (s : State) (t n : ℕ) → s.clock < t → IsKnownStamp s n → IsKnownStamp (after_begin s t) n
stamp_began s t n lt h = record {
  drawn = let d : n ≤ s.clock = h.drawn in omega (arith, d, lt);
  apart = each_append (λ r. r.id ≢ n) s.active (new_active t ∷ []) h.apart ((λ q. let d : n ≤ s.clock = h.drawn in absurd (omega (arith, d, lt, q))), tt);
  settled = h.settled;
}

-- no word names one that isn't in the table
pub unnamed : (s : State) (table : Phases) (t : ℕ) → table t ≡ Absent → (w : Held) → IsKnown s table w → names t w ≡ false
unnamed s table t e (At n) k = refl
unnamed s table t e (By u) k = ne_eqb u.0 t (λ q. k (ap table q ∙ e))
unnamed s table t e Infinity k = refl

-- begin
pub kept_after_begin : (s : State) (table table' : Phases) (vs : List Version) (t : ℕ) → s.clock < t → IsSound s → IsSingle s → IsStarted s → AreVersionsOf s table vs → ((u : ℕ) → table' u ≡ phase_in (after_begin s t) u) → AreVersionsOf (after_begin s t) table' vs
kept_after_begin s table table' vs t lt sd sg st h ph =
    kept_alike s t (s.active ++ new_active t ∷ []) s.stamped s.ended table table' vs vs h ph
    (same_ends s.start (ends_of table) (ends_of table') vs path)
    (λ e. refl) (λ e. refl)
    (each_append (λ q. Say (names q.id) q.history q.footprint vs) s.active (new_active t ∷ []) h.active (say_nothing (IsKnown s table) (names t) (unnamed s table t absent) vs h.known, tt))
    (each_weaker (IsVersion s table) (IsVersion (after_begin s t) table') (λ v i. version_next s (after_begin s t) table table' v path (λ n. stamp_began s t n lt) (still_there s (after_begin s t) (Begins t) table table' h.phases ph leads (λ q. gone q)) (claims v (unnamed s table t absent v.end i.known.1)) (each_append (IsInside v) s.active (new_active t ∷ []) i.inside ((λ q. absurd (true≢false (sym q ∙ unnamed s table t absent v.begin i.known.0))), tt)) i) vs (each_version s table vs h))
    (record {
      begun = each_append (λ q. s.start ≤ q.id) s.active (new_active t ∷ []) h.begun (later, tt);
      behind = each_append (λ q. AllByRecursion (λ x. x.end < q.id) s.past) s.active (new_active t ∷ []) h.behind (each_weaker (IsPast s.start) (λ x. x.end < t) (λ x p. behind x.end p.until) s.past st.past, tt);
      begun_stamped = h.begun_stamped;
      committed = λ u e q. by u e q (cases_eq t u);
      drawn = each_append (λ q. AreDrawn t q.claims) s.active (new_active t ∷ []) (each_weaker (λ q. AreDrawn s.clock q.claims) (λ q. AreDrawn t q.claims) (λ q. wider q.claims) s.active h.drawn) (tt, tt);
      drawn_stamped = each_weaker (λ x. AreDrawn s.clock x.claims) (λ x. AreDrawn t x.claims) (λ x. wider x.claims) s.stamped h.drawn_stamped;
    })
  where
    leads : Leads (Begins t) s (after_begin s t)
    leads = leads_after_begin s t lt sd sg

    absent : table t ≡ Absent
    absent = h.phases t ∙ phase_absent s t lt sd sg

    gone : Active ≡ Absent → ⊥
    gone q = cc

    other : (e : ℕ) → Active ≡ Committed e → ⊥
    other e q = cc

    later : s.start ≤ t
    later = let d = st.drawn in omega (arith, d, lt)

    behind : (n : ℕ) → n ≤ s.start → n < t
    behind n le = let d = st.drawn in omega (arith, d, lt, le)

    wider : (cs : List Claim) → AreDrawn s.clock cs → AreDrawn t cs
    wider cs g = each_weaker (λ c. c.origin ≤ s.clock) (λ c. c.origin ≤ t) (λ c le. omega (arith, le, lt)) cs g

    path : ends_of table' ≡ ends_of table
    path = ends_stay s (after_begin s t) (Begins t) table table' h.phases ph leads (sym (ap end_in absent))

    claims : (v : Version) → names t v.end ≡ false → (a : ℕ) → EndHasClaims s (ends_of table) v a → EndHasClaims (after_begin s t) (ends_of table) v a
    claims v n a g = record { active = each_append (λ q. EndIsClaimed v.row.key a (names q.id) q.claims v.end) s.active (new_active t ∷ []) g.active (n, tt); stamped = g.stamped }

    by : (u e : ℕ) → table' u ≡ Committed e → (t ≡ u) ⊎ (t ≡ u → ⊥) → IsKnownStamp (after_begin s t) e
    by u e q (inl i) = absurd (other e (sym (own_led s (after_begin s t) (Begins t) table table' h.phases ph leads) ∙ ap table' i ∙ q))
    by u e q (inr n) = stamp_began s t e lt (h.committed u e (sym (other_stays s (after_begin s t) (Begins t) table table' h.phases ph leads u n) ∙ q))

-- ---- leaving
pub stamp_other : (ends : Ends) (t : ℕ) (o : Option ℕ) (w : Held) → names t w ≡ false → stamp_in (with_end t o ends) w ≡ stamp_in ends w
stamp_other ends t o (At n) q = refl
stamp_other ends t o (By u) q = ap (λ b. cond b o (ends u.0)) q
stamp_other ends t o Infinity q = refl

-- a version whose stamps stay
pub claims_turned : (s : State) (ends ends' : Ends) (v : Version) → stamp_in ends' v.begin ≡ stamp_in ends v.begin → stamp_in ends' v.end ≡ stamp_in ends v.end → HasItsClaims s ends v → HasItsClaims s ends' v
claims_turned s ends ends' v o c h a put stays =
    let g = h a (sym o ∙ put) (ap (is_stamp a) (sym c) ∙ stays) in
    record { active = g.active; stamped = each_weaker (λ x. EndIsClaimed v.row.key a (has_stamp ends x.end) x.claims v.end) (λ x. EndIsClaimed v.row.key a (has_stamp ends' x.end) x.claims v.end) (λ x i. ap (is_stamp x.end) c ∙ i) s.stamped g.stamped }

pub forward_turned : (ends ends' : Ends) (v : Version) → stamp_in ends' v.begin ≡ stamp_in ends v.begin → stamp_in ends' v.end ≡ stamp_in ends v.end → IsForward ends v → IsForward ends' v
forward_turned ends ends' v o c h a e put is = h a e (sym o ∙ put) (sym c ∙ is)

same_other : (start : ℕ) (ends : Ends) (t : ℕ) (o : Option ℕ) (vs : List Version) → IsUnnamed t vs → IsSame start ends vs (with_end t o ends) vs
same_other start ends t o vs n = record {
  net_effect = λ k e. net_effect_same (λ w. names t w ≡ false) (has_stamp (with_end t o ends) e) (has_stamp ends e) k (λ w q. ap (is_stamp e) (stamp_other ends t o w q)) vs n;
  touches = λ g p e. is_touched_same g (λ w. names t w ≡ false) (has_stamp (with_end t o ends) e) (has_stamp ends e) p (λ w q. ap (is_stamp e) (stamp_other ends t o w q)) vs n;
  standing_effect = λ k. standing_effect_same (λ w. names t w ≡ false) (with_end t o ends) ends start k (λ w q. ap (is_up_to start) (stamp_other ends t o w q)) vs n;
}

-- finish, after the last word: no word names the one that leaves
pub kept_after_termination : (s : State) (table table' : Phases) (vs : List Version) (t : ℕ) → IsSingle s → AreVersionsOf s table vs → is_ended_in s t ≡ true → IsUnnamed t vs → ((u : ℕ) → table' u ≡ phase_in (after_termination s t) u) → AreVersionsOf (after_termination s t) table' vs
kept_after_termination s table table' vs t sg h o un ph =
    kept_alike s s.clock s.active s.stamped (without_ended t s.ended) table table' vs vs h ph
    (subst (λ (x : Ends). IsSame s.start (ends_of table) vs x vs) (sym path) (same_other s.start (ends_of table) t None vs un))
    (λ e. refl) (λ e. refl) h.active
    (each_both (λ v. (names t v.begin ≡ false) × (names t v.end ≡ false)) (IsVersion s table) (IsVersion (after_termination s t) table') (λ v n i. version v n i) vs un (each_version s table vs h))
    (record {
      begun = h.begun;
      behind = h.behind;
      begun_stamped = h.begun_stamped;
      committed = λ u e q. by u e q (cases_eq t u);
      drawn = h.drawn;
      drawn_stamped = h.drawn_stamped;
    })
  where
    leads : Leads (Terminates t) s (after_termination s t)
    leads = leads_after_termination s t o sg

    other : (e : ℕ) → Absent ≡ Committed e → ⊥
    other e q = cc

    path : ends_of table' ≡ with_end t None (ends_of table)
    path = ends_turn s (after_termination s t) (Terminates t) t None table table' h.phases ph leads refl refl

    stamp : (n : ℕ) → IsKnownStamp s n → IsKnownStamp (after_termination s t) n
    stamp n g = record { drawn = g.drawn; apart = g.apart; settled = g.settled }

    known : (w : Held) → names t w ≡ false → IsKnown s table w → IsKnown (after_termination s t) table' w
    known (At n) q k = stamp n.0 k
    known (By u) q k = λ g. k (sym (other_stays s (after_termination s t) (Terminates t) table table' h.phases ph leads u.0 (λ i. true≢false (sym (eq-eqb u.0 t (sym i)) ∙ q))) ∙ g)
    known Infinity q k = tt

    version : (v : Version) → (names t v.begin ≡ false) × (names t v.end ≡ false) → IsVersion s table v → IsVersion (after_termination s t) table' v
    version v n i = record {
      known = (known v.begin n.0 i.known.0, known v.end n.1 i.known.1);
      claims = subst (λ (x : Ends). HasItsClaims (after_termination s t) x v) (sym path) (claims_turned (after_termination s t) (ends_of table) (with_end t None (ends_of table)) v (stamp_other (ends_of table) t None v.begin n.0) (stamp_other (ends_of table) t None v.end n.1) (λ a put stays. let g = i.claims a put stays in record { active = g.active; stamped = g.stamped }));
      forward = subst (λ (x : Ends). IsForward x v) (sym path) (forward_turned (ends_of table) (with_end t None (ends_of table)) v (stamp_other (ends_of table) t None v.begin n.0) (stamp_other (ends_of table) t None v.end n.1) i.forward);
      inside = i.inside;
    }

    by : (u e : ℕ) → table' u ≡ Committed e → (t ≡ u) ⊎ (t ≡ u → ⊥) → IsKnownStamp (after_termination s t) e
    by u e q (inl i) = absurd (other e (sym (own_led s (after_termination s t) (Terminates t) table table' h.phases ph leads) ∙ ap table' i ∙ q))
    by u e q (inr n) = stamp e (h.committed u e (sym (other_stays s (after_termination s t) (Terminates t) table table' h.phases ph leads u n) ∙ q))
