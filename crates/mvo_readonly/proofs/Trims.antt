-- Which trims a read-only transaction stands in the way of.
use Rattle.std.proofs.Common.{◌≡◌, ℕ, ◌≤◌, Bool, true, false, cond, ◌||◌, List, [], ◌∷◌, ◌++◌, Option, None, Some, map, refl, sym, ◌∙◌, subst, arith}
use Rattle.std.specs.Prelude.{nat_le, nat_lt, ◌==◌, ◌&&◌, is_some}
use Rattle.std.specs.List.{AllByRecursion, list_any}
use Rattle.std.proofs.lemmas.Bool.{eqb-true, eq-eqb, leb-true, leb-false, lt-ltb, true≢false, false≢true, and_parts}
use Rattle.mvo_types.specs.Keys.{Map}
use Rattle.mvo_model.specs.Trace.{Step, phase_of}
use Rattle.mvo_model.specs.Trace.Phase.{Active as IsActive, Aborted as IsAborted}
use Rattle.mvo_theory.specs.State.{State, StampedTx, ActiveTx, EndedTx, active_of, preparing_of, ended_of}
use Rattle.mvo_theory.specs.Phases.{phase_by, phase_in}
use Rattle.mvo_theory.specs.Marks.{oldest_begin, open_begins, least, low_water}
use Rattle.mvo_theory.specs.Causes.{is_trim}
use Rattle.mvo_theory.proofs.Each.{each_weaker}
use Rattle.mvo_theory.proofs.Cases.{ended_in}
use Rattle.mvo_theory.proofs.Who.{active_holds}
use Rattle.mvo_readonly.specs.Whole.{ReaderStage, UnfinishedReader, WholeState, stage_of}
use Rattle.mvo_readonly.specs.WholeCauses.{has_reader_to}
use Rattle.mvo_readonly.specs.Whole.ReaderStage.{Reading, Preparing, Committed, Aborted}
use Rattle.mvo_readonly.specs.WholeKept.{core_phase, IsUnfinishedReader, IsWholeKept}
use Rattle.mvo_readonly.proofs.Stages.{found_active, core_stands}

-- ---- the oldest begin is at most each
least_first : (n : ℕ) (xs : List ℕ) → least n xs ≤ n
least_first n [] = omega arith
least_first n (x ∷ xs) = let r = least_first (cond (nat_le n x) n x) xs in let q = go (nat_le n x) refl in omega arith
  where
    go : (b : Bool) → nat_le n x ≡ b → cond b n x ≤ n
    go true e = omega arith
    go false e = let l = leb-false n x e in omega arith

least_each : (n : ℕ) (xs : List ℕ) → AllByRecursion (λ x. least n xs ≤ x) xs
least_each n [] = tt
least_each n (x ∷ xs) = ((let r = least_first (cond (nat_le n x) n x) xs in let q = go (nat_le n x) refl in omega arith), least_each (cond (nat_le n x) n x) xs)
  where
    go : (b : Bool) → nat_le n x ≡ b → cond b n x ≤ x
    go true e = leb-true n x e
    go false e = omega arith

each_append_left : (P : ℕ → Type 0) (xs ys : List ℕ) → AllByRecursion P (xs ++ ys) → AllByRecursion P xs
each_append_left P [] ys h = tt
each_append_left P (x ∷ xs) ys h = (h.0, each_append_left P xs ys h.1)

each_append_right : (P : ℕ → Type 0) (xs ys : List ℕ) → AllByRecursion P (xs ++ ys) → AllByRecursion P ys
each_append_right P [] ys h = h
each_append_right P (x ∷ xs) ys h = each_append_right P xs ys h.1

each_id : (P : ℕ → Type 0) (rs : List ActiveTx) → AllByRecursion P (map (λ r. r.id) rs) → AllByRecursion (λ r. P r.id) rs
each_id P [] h = tt
each_id P (r ∷ rs) h = (h.0, each_id P rs h.1)

each_ended : (P : ℕ → Type 0) (us : List EndedTx) → AllByRecursion P (map (λ u. u.id) us) → AllByRecursion (λ u. P u.id) us
each_ended P [] h = tt
each_ended P (u ∷ us) h = (h.0, each_ended P us h.1)

any_ended : (P : ℕ → Type 0) (t : ℕ) (us : List EndedTx) → list_any (λ (v : EndedTx). v.id == t) us ≡ true → AllByRecursion (λ u. P u.id) us → P t
any_ended P t [] e h = absurd (false≢true e)
any_ended P t (u ∷ us) e h = go (u.id == t) refl e (λ k. any_ended P t us k h.1)
  where
    go : (b : Bool) → (u.id == t) ≡ b → (b || list_any (λ (v : EndedTx). v.id == t) us) ≡ true → (list_any (λ (v : EndedTx). v.id == t) us ≡ true → P t) → P t
    go true f g k = subst P (eqb-true u.id t f) h.0
    go false f g k = k g

found_ended : (s : State) (t : ℕ) → phase_in s t ≡ IsAborted → (u : EndedTx) × (ended_of t s.ended ≡ Some u)
found_ended s t e = go (active_of t s.active) (preparing_of t s.stamped) (ended_of t s.ended) e
  where
    go : (a : Option ActiveTx) (b : Option StampedTx) (c : Option EndedTx) → phase_by a b c ≡ IsAborted → (u : EndedTx) × (c ≡ Some u)
    go (Some r) b c f = absurd cc
    go None (Some x) c f = absurd cc
    go None None (Some u) f = (u, refl)
    go None None None f = absurd cc

oldest_active : (s : State) (t : ℕ) → phase_in s t ≡ IsActive → oldest_begin s ≤ t
oldest_active s t e =
    let f = found_active s t e in
    let all = least_each s.clock (map (λ (r : ActiveTx). r.id) s.active ++ (open_begins s.stamped ++ map (λ (u : EndedTx). u.id) s.ended)) in
    let mine = active_holds (λ r. oldest_begin s ≤ r.id) t s.active f.0 f.1 (each_id (λ n. oldest_begin s ≤ n) s.active (each_append_left (λ n. oldest_begin s ≤ n) (map (λ (r : ActiveTx). r.id) s.active) (open_begins s.stamped ++ map (λ (u : EndedTx). u.id) s.ended) all)) in
    let le = mine.0 in let is = mine.1 in omega arith

oldest_ended : (s : State) (t : ℕ) → phase_in s t ≡ IsAborted → oldest_begin s ≤ t
oldest_ended s t e =
    let f = found_ended s t e in
    let all = least_each s.clock (map (λ (r : ActiveTx). r.id) s.active ++ (open_begins s.stamped ++ map (λ (u : EndedTx). u.id) s.ended)) in
    any_ended (λ n. oldest_begin s ≤ n) t s.ended (ended_in t s.ended f.0 f.1)
    (each_ended (λ n. oldest_begin s ≤ n) s.ended (each_append_right (λ n. oldest_begin s ≤ n) (open_begins s.stamped) (map (λ (u : EndedTx). u.id) s.ended) (each_append_right (λ n. oldest_begin s ≤ n) (map (λ (r : ActiveTx). r.id) s.active) (open_begins s.stamped ++ map (λ (u : EndedTx). u.id) s.ended) all)))

reader_old : (ws xs : List Step) (s : State) (r : UnfinishedReader) → ((t : ℕ) → phase_of t xs ≡ phase_in s t) → IsUnfinishedReader ws xs s r → oldest_begin s ≤ r.id
reader_old ws xs s r ph h = go r.stage (sym (ph r.id) ∙ h.stands)
  where
    go : (p : ReaderStage) → phase_in s r.id ≡ core_phase p → oldest_begin s ≤ r.id
    go Reading e = oldest_active s r.id e
    go (Preparing n v) e = oldest_active s r.id e
    go Committed e = oldest_ended s r.id e
    go Aborted e = oldest_ended s r.id e

-- ---- where the core of the others may be trimmed up to m, a read-only transaction stands in the way
-- exactly where m is its begin: one look-up in the table decides
stage_at : (m : ℕ) (rs : List UnfinishedReader) → AllByRecursion (λ r. m ≤ r.id) rs → has_reader_to m rs ≡ is_some (stage_of m rs)
stage_at m [] h = refl
stage_at m (r ∷ rs) h = go (r.id == m) refl (nat_le r.id m) refl (stage_at m rs h.1)
  where
    go : (b : Bool) → (r.id == m) ≡ b → (c : Bool) → nat_le r.id m ≡ c → has_reader_to m rs ≡ is_some (stage_of m rs) → (c || has_reader_to m rs) ≡ is_some (cond b (Some r.stage) (stage_of m rs))
    go true e true f k = refl
    go true e false f k = absurd (let l = leb-false r.id m f in let i = eqb-true r.id m e in omega arith)
    go false e true f k = absurd (true≢false (sym (eq-eqb r.id m (let l = leb-true r.id m f in let g = h.0 in omega arith)) ∙ e))
    go false e false f k = k

pub trim_by_look_up : (opening : Map) (ws xs : List Step) (w : WholeState) (m : ℕ) → IsWholeKept opening ws xs w → is_trim w.core m ≡ true → has_reader_to m w.readers ≡ is_some (stage_of m w.readers)
trim_by_look_up opening ws xs w m h e =
    let p = and_parts (nat_lt w.core.start m) (nat_le m (oldest_begin w.core) && nat_le m (low_water w.core)) e in
    let q = and_parts (nat_le m (oldest_begin w.core)) (nat_le m (low_water w.core)) p.1 in
    let le = leb-true m (oldest_begin w.core) q.0 in
    stage_at m w.readers (each_weaker (IsUnfinishedReader ws xs w.core) (λ r. m ≤ r.id) (λ r k. let o = reader_old ws xs w.core r h.kept.after_trace.phases k in omega arith) w.readers h.readers)

-- an unfinished one begins above the start, so that its commit is stored
pub begins_above : (opening : Map) (ws xs : List Step) (w : WholeState) (t : ℕ) (p : ReaderStage) → IsWholeKept opening ws xs w → stage_of t w.readers ≡ Some p → nat_lt w.core.start t ≡ true
begins_above opening ws xs w t p h e = lt-ltb w.core.start t (core_stands ws xs w.core t w.readers p e h.readers).4
