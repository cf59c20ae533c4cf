-- The footprints of the state are those of the trace: each step keeps that.
use Rattle.std.proofs.Common.{◌≡◌, ◌≢◌, ℕ, ◌<◌, ◌≤◌, Bool, cond, not, List, [], ◌∷◌, ◌++◌, refl, sym, ap, ◌∙◌, arith, append_assoc, append-nil, ◌⊎◌, inl, inr}
use Rattle.std.specs.Prelude.{◌==◌}
use Rattle.std.specs.List.{AllByRecursion, filter, list_any}
use Rattle.std.proofs.lemmas.Bool.{eq-eqb, ne_eqb, cases_eq}
use Rattle.mvo_types.specs.declared.op.Op.{Op}
use Rattle.mvo_types.specs.Keys.{Map}
use Rattle.mvo_types.specs.AnswerData.{AnswerData}
use Rattle.mvo_model.specs.History.{after_history, write_of}
use Rattle.mvo_model.specs.Trace.{Step}
use Rattle.mvo_model.specs.Trace.Step.{Begins, Answers, Prepares, Checks, Commits, Aborts, Terminates}
use Rattle.mvo_types.specs.declared.entry.Entry.TheVariants.{Range}
use Rattle.mvo_theory.specs.Ranges.{Row, shows, changed_by}
use Rattle.mvo_theory.specs.State.{State, StampedTx, ActiveTx, seen_by, opened}
use Rattle.mvo_theory.specs.Changes.{new_active, after_begin, after_operation, with_answer, after_prepare, to_stamped, after_check, with_check, after_commit, with_settled, with_flag, active_with_flag, not_at, after_abort_of_active, after_abort_of_preparing, after_termination, is_to, after_trim}
use Rattle.mvo_theory.specs.Sound.{changes}
use Rattle.mvo_theory.specs.Snapshots.{snapshot_of, changed_in, footprint_since, footprint_in, HasFootprints}
use Rattle.mvo_theory.proofs.Each.{each_weaker, each_both, each_append, each_map}
use Rattle.mvo_theory.proofs.Stamped.{each_part}

since-push : (opening : Map) (before xs : List Step) (x : Step) (u : ℕ) → footprint_since opening before (xs ++ x ∷ []) u ≡ footprint_since opening before xs u ++ changed_in opening (before ++ xs) x u
since-push opening before [] x u = append-nil (changed_in opening before x u) ∙ ap (λ b. changed_in opening b x u) (sym (append-nil before))
since-push opening before (y ∷ ys) x u =
    ap (λ rs. changed_in opening before y u ++ rs) (since-push opening (before ++ y ∷ []) ys x u ∙ ap (λ b. footprint_since opening (before ++ y ∷ []) ys u ++ changed_in opening b x u) (append_assoc before (y ∷ []) ys))
    ∙ sym (append_assoc (changed_in opening before y u) (footprint_since opening (before ++ y ∷ []) ys u) (changed_in opening (before ++ y ∷ ys) x u))

footprint-push : (opening : Map) (xs : List Step) (x : Step) (u : ℕ) → footprint_in opening (xs ++ x ∷ []) u ≡ footprint_in opening xs u ++ changed_in opening xs x u
footprint-push opening xs x u = since-push opening [] xs x u

still : (opening : Map) (xs : List Step) (x : Step) (u : ℕ) (rs : List Row) → changed_in opening xs x u ≡ [] → footprint_in opening xs u ≡ rs → footprint_in opening (xs ++ x ∷ []) u ≡ rs
still opening xs x u rs n e = footprint-push opening xs x u ∙ ap (λ cs. footprint_in opening xs u ++ cs) n ∙ append-nil (footprint_in opening xs u) ∙ e

pub prints_opened : (rows : Map) (mark : ℕ) → HasFootprints rows [] (opened rows mark)
prints_opened rows mark = record { active = tt; stamped = tt; fresh = λ t lt. refl }

-- a step that changes no row
pub prints_silent : (opening : Map) (xs : List Step) (x : Step) (s : State) → ((u : ℕ) → changed_in opening xs x u ≡ []) → HasFootprints opening xs s → HasFootprints opening (xs ++ x ∷ []) s
prints_silent opening xs x s n h = record {
  active = each_weaker (λ r. footprint_in opening xs r.id ≡ r.footprint) (λ r. footprint_in opening (xs ++ x ∷ []) r.id ≡ r.footprint) (λ r. still opening xs x r.id r.footprint (n r.id)) s.active h.active;
  stamped = each_weaker (λ y. footprint_in opening xs y.id ≡ y.footprint) (λ y. footprint_in opening (xs ++ x ∷ []) y.id ≡ y.footprint) (λ y. still opening xs x y.id y.footprint (n y.id)) s.stamped h.stamped;
  fresh = λ t lt. still opening xs x t [] (n t) (h.fresh t lt);
}

pub prints_after_begin : (opening : Map) (xs : List Step) (s : State) (t : ℕ) → s.clock < t → HasFootprints opening xs s → HasFootprints opening (xs ++ Begins t ∷ []) (after_begin s t)
prints_after_begin opening xs s t lt h = prints_silent opening xs (Begins t) (after_begin s t) (λ u. refl) (record {
  active = each_append (λ r. footprint_in opening xs r.id ≡ r.footprint) s.active (new_active t ∷ []) h.active (h.fresh t lt, tt);
  stamped = h.stamped;
  fresh = λ u l. h.fresh u (omega arith);
})

pub prints_after_prepare : (opening : Map) (xs : List Step) (s : State) (r : ActiveTx) (t e : ℕ) → s.clock ≤ e → footprint_in opening xs r.id ≡ r.footprint → HasFootprints opening xs s → HasFootprints opening (xs ++ Prepares t e ∷ []) (after_prepare s r e)
prints_after_prepare opening xs s r t e le mine h = prints_silent opening xs (Prepares t e) (after_prepare s r e) (λ u. refl) (record {
  active = each_part (λ q. not (q.id == r.id)) (λ q. footprint_in opening xs q.id ≡ q.footprint) s.active h.active;
  stamped = each_append (λ x. footprint_in opening xs x.id ≡ x.footprint) s.stamped (to_stamped e r ∷ []) h.stamped (mine, tt);
  fresh = λ u l. h.fresh u (omega arith);
})

pub prints_after_check : (opening : Map) (xs : List Step) (s : State) (t e : ℕ) (v : Bool) → HasFootprints opening xs s → HasFootprints opening (xs ++ Checks t ∷ []) (after_check s e v)
prints_after_check opening xs s t e v h = prints_silent opening xs (Checks t) (after_check s e v) (λ u. refl) (record { active = h.active; stamped = each_map (with_check e v) (λ x. footprint_in opening xs x.id ≡ x.footprint) (λ x. footprint_in opening xs x.id ≡ x.footprint) (λ x q. q) s.stamped h.stamped; fresh = h.fresh })

pub prints_after_commit : (opening : Map) (xs : List Step) (s : State) (t u n e : ℕ) → HasFootprints opening xs s → HasFootprints opening (xs ++ Commits u n ∷ []) (after_commit s t e)
prints_after_commit opening xs s t u n e h = prints_silent opening xs (Commits u n) (after_commit s t e) (λ v. refl) (record { active = h.active; stamped = each_map (with_settled e) (λ x. footprint_in opening xs x.id ≡ x.footprint) (λ x. footprint_in opening xs x.id ≡ x.footprint) (λ x q. q) s.stamped h.stamped; fresh = h.fresh })

pub prints_after_abort_of_active : (opening : Map) (xs : List Step) (s : State) (t : ℕ) → HasFootprints opening xs s → HasFootprints opening (xs ++ Aborts t ∷ []) (after_abort_of_active s t)
prints_after_abort_of_active opening xs s t h = prints_silent opening xs (Aborts t) (after_abort_of_active s t) (λ u. refl) (record { active = each_part (λ r. not (r.id == t)) (λ r. footprint_in opening xs r.id ≡ r.footprint) s.active h.active; stamped = h.stamped; fresh = h.fresh })

pub prints_after_abort_of_preparing : (opening : Map) (xs : List Step) (s : State) (t e : ℕ) → HasFootprints opening xs s → HasFootprints opening (xs ++ Aborts t ∷ []) (after_abort_of_preparing s t e)
prints_after_abort_of_preparing opening xs s t e h = prints_silent opening xs (Aborts t) (after_abort_of_preparing s t e) (λ u. refl) (record {
  active = each_map (active_with_flag t e) (λ r. footprint_in opening xs r.id ≡ r.footprint) (λ r. footprint_in opening xs r.id ≡ r.footprint) (λ r q. q) s.active h.active;
  stamped = each_map (with_flag t e) (λ x. footprint_in opening xs x.id ≡ x.footprint) (λ x. footprint_in opening xs x.id ≡ x.footprint) (λ x q. q) (filter (not_at e) s.stamped) (each_part (not_at e) (λ x. footprint_in opening xs x.id ≡ x.footprint) s.stamped h.stamped);
  fresh = h.fresh;
})

pub prints_after_termination : (opening : Map) (xs : List Step) (s : State) (t : ℕ) → HasFootprints opening xs s → HasFootprints opening (xs ++ Terminates t ∷ []) (after_termination s t)
prints_after_termination opening xs s t h = prints_silent opening xs (Terminates t) (after_termination s t) (λ u. refl) (record { active = h.active; stamped = h.stamped; fresh = h.fresh })

pub prints_after_trim : (opening : Map) (xs : List Step) (s : State) (m : ℕ) → HasFootprints opening xs s → HasFootprints opening xs (after_trim s m)
prints_after_trim opening xs s m h = record { active = h.active; stamped = each_part (λ x. not (is_to m x)) (λ x. footprint_in opening xs x.id ≡ x.footprint) s.stamped h.stamped; fresh = h.fresh }

-- ---- an operation
other : (opening : Map) (xs : List Step) (t : ℕ) (op : Op) (a : AnswerData) (u : ℕ) (rs : List Row) → u ≢ t → footprint_in opening xs u ≡ rs → footprint_in opening (xs ++ Answers t op a ∷ []) u ≡ rs
other opening xs t op a u rs n e = still opening xs (Answers t op a) u rs (ap (λ (b : Bool). cond b (changed_by (write_of op a) (snapshot_of opening xs u)) []) (ne_eqb t u (λ q. n (sym q)))) e

mine_now : (opening : Map) (xs : List Step) (s : State) (t : ℕ) (op : Op) (a : AnswerData) (r : ActiveTx) → after_history r.history (seen_by s.base s.stamped r.id) ≡ snapshot_of opening xs r.id → footprint_in opening xs r.id ≡ r.footprint →
    footprint_in opening (xs ++ Answers t op a ∷ []) r.id ≡ cond (r.id == t) (r.footprint ++ changed_by (write_of op a) (after_history r.history (seen_by s.base s.stamped r.id))) r.footprint
mine_now opening xs s t op a r sees e = go (cases_eq r.id t)
  where
    now : List Row
    now = changed_by (write_of op a) (after_history r.history (seen_by s.base s.stamped r.id))

    go : ((r.id ≡ t) ⊎ (r.id ≡ t → ⊥)) → footprint_in opening (xs ++ Answers t op a ∷ []) r.id ≡ cond (r.id == t) (r.footprint ++ now) r.footprint
    go (inl q) =
        footprint-push opening xs (Answers t op a) r.id
        ∙ ap (λ (b : Bool). footprint_in opening xs r.id ++ cond b (changed_by (write_of op a) (snapshot_of opening xs r.id)) []) (eq-eqb t r.id (sym q))
        ∙ ap (λ (m : Map). footprint_in opening xs r.id ++ changed_by (write_of op a) m) (sym sees)
        ∙ ap (λ rs. rs ++ now) e
        ∙ sym (ap (λ (b : Bool). cond b (r.footprint ++ now) r.footprint) (eq-eqb r.id t q))
    go (inr n) = other opening xs t op a r.id r.footprint n e ∙ sym (ap (λ (b : Bool). cond b (r.footprint ++ now) r.footprint) (ne_eqb r.id t n))

pub prints_after_operation : (opening : Map) (xs : List Step) (s : State) (t : ℕ) (op : Op) (a : AnswerData) → t ≤ s.clock → AllByRecursion (λ (x : StampedTx). x.id ≢ t) s.stamped → AllByRecursion (λ (r : ActiveTx). after_history r.history (seen_by s.base s.stamped r.id) ≡ snapshot_of opening xs r.id) s.active → HasFootprints opening xs s → HasFootprints opening (xs ++ Answers t op a ∷ []) (after_operation s t op a)
prints_after_operation opening xs s t op a le n sees h = record {
  active = each_map (with_answer s t op a) (λ (r : ActiveTx). (after_history r.history (seen_by s.base s.stamped r.id) ≡ snapshot_of opening xs r.id) × (footprint_in opening xs r.id ≡ r.footprint)) (λ r. footprint_in opening (xs ++ Answers t op a ∷ []) r.id ≡ r.footprint) (λ r q. mine_now opening xs s t op a r q.0 q.1) s.active
      (each_both (λ (r : ActiveTx). after_history r.history (seen_by s.base s.stamped r.id) ≡ snapshot_of opening xs r.id) (λ r. footprint_in opening xs r.id ≡ r.footprint) (λ (r : ActiveTx). (after_history r.history (seen_by s.base s.stamped r.id) ≡ snapshot_of opening xs r.id) × (footprint_in opening xs r.id ≡ r.footprint)) (λ r u v. (u, v)) s.active sees h.active);
  stamped = each_both (λ (x : StampedTx). x.id ≢ t) (λ x. footprint_in opening xs x.id ≡ x.footprint) (λ x. footprint_in opening (xs ++ Answers t op a ∷ []) x.id ≡ x.footprint) (λ x ne q. other opening xs t op a x.id x.footprint ne q) s.stamped n h.stamped;
  fresh = λ u l. other opening xs t op a u [] (λ q. absurd (omega arith)) (h.fresh u l);
}

-- whether one with an end changes a range is what the trace says
pub ranges_traced : (opening : Map) (xs : List Step) (s : State) (t lo hi : ℕ) → HasFootprints opening xs s → AllByRecursion (λ x. changes (Range t lo hi) x ≡ list_any (shows (Range t lo hi)) (footprint_in opening xs x.id)) s.stamped
ranges_traced opening xs s t lo hi h = each_weaker (λ x. footprint_in opening xs x.id ≡ x.footprint) (λ x. changes (Range t lo hi) x ≡ list_any (shows (Range t lo hi)) (footprint_in opening xs x.id)) (λ x e. ap (list_any (shows (Range t lo hi))) (sym e)) s.stamped h.stamped
