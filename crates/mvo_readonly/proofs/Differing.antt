-- Whom the whole trace names as one that has changed an entry, the core's own names too.
use Rattle.std.proofs.Common.{◌≡◌, ℕ, Bool, true, false, cond, ◌||◌, inl, inr, List, [], ◌∷◌, ◌++◌, Option, None, Some, refl, sym, ap, ◌∙◌, subst}
use Rattle.std.specs.Prelude.{◌==◌, ◌&&◌, is_some}
use Rattle.std.specs.List.{AllByRecursion, list_any}
use Rattle.std.proofs.lemmas.Bool.{false≢true, eqb-true, and_parts}
use Rattle.mvo_types.specs.Keys.{Map}
use Rattle.mvo_model.specs.History.{write_of, net_write}
use Rattle.mvo_model.specs.Trace.{Step, committed, history_of, history_by, phase_of}
use Rattle.mvo_model.specs.Trace.Step.{Begins, Answers, Prepares, Checks, Commits, Aborts, Terminates}
use Rattle.mvo_model.specs.Trace.Phase.{Preparing as IsPreparing}
use Rattle.mvo_types.specs.declared.entry.Entry.{Entry}
use Rattle.mvo_types.specs.declared.entry.Entry.TheVariants.{Key, Range}
use Rattle.mvo_theory.specs.Ranges.{shows, changed_by}
use Rattle.mvo_theory.specs.Snapshots.{snapshot_of, changed_in, footprint_since}
use Rattle.mvo_theory.specs.AfterTrace.{pairs}
use Rattle.mvo_theory.specs.State.{timeline}
use Rattle.mvo_theory.specs.Differences.{HasChanged, DiffersBy}
use Rattle.mvo_theory.specs.Ends.{EndsAt}
use Rattle.mvo_theory.proofs.Each.{each_weaker, each_append, each_front, each_back}
use Rattle.mvo_theory.proofs.Footprints.{or_left, or_right}
use Rattle.mvo_theory.proofs.Tales.{pairs-append}
use Rattle.mvo_readonly.specs.ReadAt.{WritesNothing}
use Rattle.mvo_readonly.specs.Whole.{ReaderStage, WholeState, stage_of}
use Rattle.mvo_readonly.specs.WholeKept.{IsWholeKept, reader_commits}
use Rattle.mvo_readonly.specs.WholeTale.{told_in}
use Rattle.mvo_readonly.specs.BothTraces.{AreGiven}
use Rattle.mvo_readonly.proofs.Stages.{core_stands}
use Rattle.mvo_readonly.proofs.Ordered.{Pairs, each_in_order}
use Rattle.mvo_readonly.proofs.Serials.{idle_pairs, order_is}
use Rattle.mvo_readonly.proofs.Depending.{idle_net}

-- ---- one that wrote nothing has changed nothing
idle_print : (opening : Map) (before zs : List Step) (u : ℕ) → WritesNothing (history_of u zs) → footprint_since opening before zs u ≡ []
idle_print opening before [] u h = refl
idle_print opening before (z ∷ zs) u h =
    ap (λ rs. rs ++ footprint_since opening (before ++ z ∷ []) zs u) (one z (each_front (λ o. write_of o.0 o.1 ≡ None) (history_by z u) (history_of u zs) h))
    ∙ idle_print opening (before ++ z ∷ []) zs u (each_back (λ o. write_of o.0 o.1 ≡ None) (history_by z u) (history_of u zs) h)
  where
    one : (y : Step) → WritesNothing (history_by y u) → changed_in opening before y u ≡ []
    one (Begins t) i = refl
    one (Prepares t n) i = refl
    one (Checks t) i = refl
    one (Commits t n) i = refl
    one (Aborts t) i = refl
    one (Terminates t) i = refl
    one (Answers t op a) i = go (t == u) i
      where
        go : (b : Bool) → WritesNothing (cond b ((op, a) ∷ []) []) → cond b (changed_by (write_of op a) (snapshot_of opening before u)) [] ≡ []
        go true k = ap (λ w. changed_by w (snapshot_of opening before u)) k.0
        go false k = refl

pub not_idle_changed : (opening : Map) (xs : List Step) (e : Entry) (u : ℕ) → HasChanged opening xs e u → WritesNothing (history_of u xs) → ⊥
not_idle_changed opening xs (Key k) u c i = false≢true (sym (ap is_some (idle_net k (history_of u xs) i)) ∙ c)
not_idle_changed opening xs (Range t lo hi) u c i = false≢true (sym (ap (list_any (shows (Range t lo hi))) (idle_print opening [] xs u i)) ∙ c)

-- ---- who has an end in the whole trace and has written has it in the core's own
pub among : (p : ℕ × ℕ → Bool) (R : Type 0) (cs : Pairs) → AllByRecursion (λ c. p c ≡ true → R) cs → list_any p cs ≡ true → R
among p R [] h e = absurd (false≢true e)
among p R (c ∷ cs) h e = go (p c) refl e (among p R cs h.1)
  where
    go : (b : Bool) → p c ≡ b → (b || list_any p cs) ≡ true → (list_any p cs ≡ true → R) → R
    go true f g k = h.0 f
    go false f g k = k g

pub each_is_in : (p : ℕ × ℕ → Bool) (cs : Pairs) → AllByRecursion (λ c. p c ≡ true → list_any p cs ≡ true) cs
each_is_in p [] = tt
each_is_in p (c ∷ cs) = (
  (λ f. or_left (p c) (list_any p cs) f),
  each_weaker (λ d. p d ≡ true → list_any p cs ≡ true) (λ d. p d ≡ true → (p c || list_any p cs) ≡ true) (λ d k f. or_right (p c) (list_any p cs) (k f)) cs (each_is_in p cs),
)

pub ends_own : (opening : Map) (ws xs : List Step) (w : WholeState) (u n : ℕ) → IsWholeKept opening ws xs w → (WritesNothing (history_of u xs) → ⊥) → EndsAt ws u n → EndsAt xs u n
ends_own opening ws xs w u n h i (inl e) = inl (go (stage_of u w.readers) refl)
  where
    go : (p : Option ReaderStage) → stage_of u w.readers ≡ p → phase_of u xs ≡ IsPreparing n
    go None f = sym (h.phases u f) ∙ e
    go (Some p) f = absurd (i (core_stands ws xs w.core u w.readers p f h.readers).2)
ends_own opening ws xs w u n h i (inr e) = inr (among is_it (list_any is_it (committed xs) ≡ true) (committed ws) all e)
  where
    is_it : ℕ × ℕ → Bool
    is_it c = (c.0 == n) && (c.1 == u)

    idle_so : (c : ℕ × ℕ) → WritesNothing (told_in ws c) → is_it c ≡ true → list_any is_it (committed xs) ≡ true
    idle_so c k f =
        let q = and_parts (c.0 == n) (c.1 == u) f in
        absurd (i (subst WritesNothing (h.histories c.1 ∙ ap (λ (t : ℕ). history_of t xs) (eqb-true c.1 u q.1)) k))

    all : AllByRecursion (λ c. is_it c ≡ true → list_any is_it (committed xs) ≡ true) (committed ws)
    all = subst (AllByRecursion (λ c. is_it c ≡ true → list_any is_it (committed xs) ≡ true)) (sym (order_is opening ws xs w h))
        (each_in_order (λ c. is_it c ≡ true → list_any is_it (committed xs) ≡ true) (reader_commits w.committed_readers ++ pairs (timeline w.core)) (each_append (λ c. is_it c ≡ true → list_any is_it (committed xs) ≡ true) (reader_commits w.committed_readers) (pairs (timeline w.core))
        (each_weaker (λ d. WritesNothing (told_in ws d)) (λ c. is_it c ≡ true → list_any is_it (committed xs) ≡ true) idle_so (reader_commits w.committed_readers) (idle_pairs opening ws xs w h))
        (subst (AllByRecursion (λ c. is_it c ≡ true → list_any is_it (committed xs) ≡ true)) (h.kept.after_trace.tale ∙ sym (pairs-append w.core.past w.core.stamped)) (each_is_in is_it (committed xs)))))

-- ---- 21, THE CONVERSE: who differs by the whole trace differs by the core's own
pub differs_own : (opening : Map) (ws xs : List Step) (w : WholeState) (b e n : ℕ) (entry : Entry) → IsWholeKept opening ws xs w → AreGiven opening ws xs w → DiffersBy opening ws entry b e n → DiffersBy opening xs entry b e n
differs_own opening ws xs w b e n entry h g d = record {
  writer = d.writer;
  ends = ends_own opening ws xs w d.writer n h (not_idle_changed opening xs entry d.writer changed) d.ends;
  above = d.above;
  below = d.below;
  changed = changed;
}
  where
    so : (v : Entry) → HasChanged opening ws v d.writer → HasChanged opening xs v d.writer
    so (Key k) c = sym (ap (λ ts. is_some (net_write k ts)) (h.histories d.writer)) ∙ c
    so (Range a lo hi) c = sym (ap (list_any (shows (Range a lo hi))) (g.prints d.writer)) ∙ c

    changed : HasChanged opening xs entry d.writer
    changed = so entry d.changed
