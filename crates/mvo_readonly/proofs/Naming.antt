-- Whom each cause names, read off the whole trace.
use Rattle.std.proofs.Common.{◌≡◌, ℕ, Bool, true, false, cond, inl, inr, List, [], ◌∷◌, ◌++◌, Option, None, Some, refl, sym, ap, ◌∙◌, subst}
use Rattle.std.specs.Prelude.{◌==◌, ◌&&◌, not, is_some}
use Rattle.std.specs.List.{list_any}
use Rattle.std.proofs.lemmas.Bool.{eq-eqb}
use Rattle.mvo_types.specs.declared.row.RowKey.{RowKey}
use Rattle.mvo_types.specs.declared.op.Op.{Op}
use Rattle.mvo_types.specs.declared.op.Op.TheVariants.{Read, Scan, Insert, Update, Delete}
use Rattle.mvo_types.specs.declared.cause.Cause.{Cause}
use Rattle.mvo_types.specs.declared.cause.Cause.TheVariants.{Active, Stamped}
use Rattle.mvo_types.specs.Keys.{Map}
use Rattle.mvo_types.specs.Write.{Write}
use Rattle.mvo_types.specs.AnswerData.{AnswerData}
use Rattle.mvo_types.specs.AnswerData.AnswerData.{Updated, Deleted}
use Rattle.mvo_model.specs.History.{net_write, write_of}
use Rattle.mvo_model.specs.Trace.{Step, history_of, phase_of}
use Rattle.mvo_model.specs.Trace.Step.{Answers}
use Rattle.mvo_model.specs.Trace.Phase.{Active as IsActive, Preparing as IsPreparing}
use Rattle.mvo_types.specs.declared.entry.Entry.{Entry}
use Rattle.mvo_types.specs.declared.entry.Entry.TheVariants.{Key, Range}
use Rattle.mvo_theory.specs.Ranges.{shows}
use Rattle.mvo_theory.specs.State.{StampedTx, ActiveTx, Claim, active_of}
use Rattle.mvo_theory.specs.Claims.{ended_key}
use Rattle.mvo_theory.specs.Claimed.{IsClaimed}
use Rattle.mvo_theory.specs.Causes.{change_of, claimed_by, waiting_for}
use Rattle.mvo_theory.specs.Traced.{DependsOn, IsDependency, IsTraced}
use Rattle.mvo_theory.proofs.Causes.{waiting_is}
use Rattle.mvo_theory.specs.Conflicts.{IsFirstWriter, IsNamed}
use Rattle.mvo_theory.specs.Differences.{HasChanged, DiffersBy}
use Rattle.mvo_theory.specs.Ends.{EndsAt}
use Rattle.mvo_theory.proofs.Conflicting.{named}
use Rattle.mvo_theory.proofs.Differing.{differs_by}
use Rattle.mvo_theory.proofs.Each.{each_back}
use Rattle.mvo_theory.proofs.LastWriter.{preparing_phase}
use Rattle.mvo_theory.proofs.Named.{waiting_in}
use Rattle.mvo_theory.proofs.Traced.{has_it}
use Rattle.mvo_theory.proofs.Who.{active_holds}
use Rattle.mvo_readonly.specs.ReadAt.{WritesNothing}
use Rattle.mvo_readonly.specs.Whole.{ReaderStage, WholeState, stage_of}
use Rattle.mvo_readonly.specs.WholeCauses.{depends_of_active, awaited_by_reader}
use Rattle.mvo_readonly.specs.WholeKept.{IsWholeKept}
use Rattle.mvo_readonly.specs.BothTraces.{IsMatched, AreGiven, IsRemembered}
use Rattle.mvo_readonly.proofs.Stages.{core_stands}
use Rattle.mvo_readonly.proofs.Traces.{history_both}
use Rattle.mvo_readonly.proofs.Depending.{no_phase}
use Rattle.mvo_readonly.proofs.Flags.{are_traced}
use Rattle.mvo_readonly.proofs.Claims.{committed_whole, claim_whole, origin_whole}

-- one of the others with an end in the core's own trace has it in the whole
pub ends_whole : (opening : Map) (ws xs : List Step) (w : WholeState) (u n : ℕ) → IsWholeKept opening ws xs w → EndsAt xs u n → EndsAt ws u n
ends_whole opening ws xs w u n h (inr e) = inr (committed_whole opening ws xs w (λ c. (c.0 == n) && (c.1 == u)) h e)
ends_whole opening ws xs w u n h (inl e) = inl (go (stage_of u w.readers) refl)
  where
    go : (p : Option ReaderStage) → stage_of u w.readers ≡ p → phase_of u ws ≡ IsPreparing n
    go None f = h.phases u f ∙ e
    go (Some p) f = absurd (no_phase p n (sym (core_stands ws xs w.core u w.readers p f h.readers).0 ∙ e))

-- ---- 21: who changed the entry
pub changed_whole : (opening : Map) (ws xs : List Step) (w : WholeState) (entry : Entry) (u : ℕ) → IsWholeKept opening ws xs w → AreGiven opening ws xs w → HasChanged opening xs entry u → HasChanged opening ws entry u
changed_whole opening ws xs w (Key k) u h g c = ap (λ ts. is_some (net_write k ts)) (h.histories u) ∙ c
changed_whole opening ws xs w (Range a lo hi) u h g c = ap (list_any (shows (Range a lo hi))) (g.prints u) ∙ c

pub differs_whole : (opening : Map) (ws xs : List Step) (w : WholeState) (b e n : ℕ) (entry : Entry) → change_of w.core.stamped b e entry ≡ Some n → IsWholeKept opening ws xs w → AreGiven opening ws xs w → DiffersBy opening ws entry b e n
differs_whole opening ws xs w b e n entry c h g =
    let q = differs_by opening xs w.core b e n entry c h.kept in record {
      writer = q.writer;
      ends = ends_whole opening ws xs w q.writer n h q.ends;
      above = q.above;
      below = q.below;
      changed = changed_whole opening ws xs w entry q.writer h g q.changed;
    }

-- ---- 20: who was first
-- one that ended a key wrote
not_idle : (op : Op) (a : AnswerData) (k : RowKey) → ended_key op a ≡ Some k → write_of op a ≡ None → ⊥
not_idle (Read j) a k e n = no_key k e
  where
    no_key : (j' : RowKey) → ◌≡◌ {A = Option RowKey} None (Some j') → ⊥
    no_key j' q = cc
not_idle (Scan t lo hi) a k e n = no_key k e
  where
    no_key : (j' : RowKey) → ◌≡◌ {A = Option RowKey} None (Some j') → ⊥
    no_key j' q = cc
not_idle (Insert row) a k e n = no_key k e
  where
    no_key : (j' : RowKey) → ◌≡◌ {A = Option RowKey} None (Some j') → ⊥
    no_key j' q = cc
not_idle (Update row) Updated k e n = no_write _ n
  where
    no_write : (v : Write) → ◌≡◌ {A = Option Write} (Some v) None → ⊥
    no_write v q = cc
not_idle (Update row) a k e n = no_key k e
  where
    no_key : (j' : RowKey) → ◌≡◌ {A = Option RowKey} None (Some j') → ⊥
    no_key j' q = cc
not_idle (Delete j) Deleted k e n = no_write _ n
  where
    no_write : (v : Write) → ◌≡◌ {A = Option Write} (Some v) None → ⊥
    no_write v q = cc
not_idle (Delete j) a k e n = no_key k e
  where
    no_key : (j' : RowKey) → ◌≡◌ {A = Option RowKey} None (Some j') → ⊥
    no_key j' q = cc

pub claimer_writes : (mark : ℕ) (xs : List Step) (u : ℕ) (c : Claim) → IsClaimed mark xs u c → WritesNothing (history_of u xs) → ⊥
claimer_writes mark xs u c q i =
    let all : WritesNothing (history_of u q.before ++ history_of u (Answers u q.op q.answer ∷ q.after)) = subst WritesNothing (ap (history_of u) q.then' ∙ history_both u q.before (Answers u q.op q.answer ∷ q.after)) i in
    let mine = each_back (λ o. write_of o.0 o.1 ≡ None) (history_of u q.before) (history_of u (Answers u q.op q.answer ∷ q.after)) all in
    not_idle q.op q.answer c.key q.answered
    (subst (λ (b : Bool). WritesNothing (cond b ((q.op, q.answer) ∷ []) [] ++ history_of u q.after)) (eq-eqb u u refl) mine).0

first_whole : (opening : Map) (ws xs : List Step) (w : WholeState) (t u : ℕ) (k : RowKey) → IsWholeKept opening ws xs w → IsRemembered opening ws xs → IsFirstWriter w.core.marks.opening xs t u k → IsFirstWriter w.core.marks.opening ws t u k
first_whole opening ws xs w t u k h m q = record {
  origin = q.origin;
  claimed = claim_whole opening ws xs w.core.marks.opening u (record { key = k; origin = q.origin }) m q.claimed;
  now = origin_whole opening ws xs w w.core.marks.opening k t q.origin h q.now;
}

pub named_whole : (opening : Map) (ws xs : List Step) (w : WholeState) (t : ℕ) (k : RowKey) (c : Cause) → IsWholeKept opening ws xs w → IsRemembered opening ws xs → IsNamed w.core.marks.opening xs t k c → IsNamed w.core.marks.opening ws t k c
named_whole opening ws xs w t k (Stamped e) h m (u, q, f) = (u, ends_whole opening ws xs w u e.0 h q, first_whole opening ws xs w t u k h m f)
named_whole opening ws xs w t k (Active u) h m (n, e, f) = (n, go (stage_of u.0 w.readers) refl, first_whole opening ws xs w t u.0 k h m f)
  where
    go : (p : Option ReaderStage) → stage_of u.0 w.readers ≡ p → phase_of u.0 ws ≡ IsActive
    go None i = h.phases u.0 i ∙ e
    go (Some p) i = absurd (claimer_writes w.core.marks.opening xs u.0 (record { key = k; origin = f.origin }) f.claimed (core_stands ws xs w.core u.0 w.readers p i h.readers).2)

pub conflict_whole : (opening : Map) (ws xs : List Step) (w : WholeState) (t : ℕ) (k : RowKey) (c : Cause) → claimed_by w.core t k ≡ Some c → IsWholeKept opening ws xs w → IsRemembered opening ws xs → IsNamed w.core.marks.opening ws t k c
conflict_whole opening ws xs w t k c e h m = named_whole opening ws xs w t k c h m (named opening xs w.core t k c e h.kept)

-- ---- Waiting: whom a read-only one waits for
pub record IsAwaited (opening : Map) (steps : List Step) (t x e : ℕ) : Type 0 where
  pub depends : DependsOn opening steps t x e
  pub preparing : phase_of x steps ≡ IsPreparing e

none_waited : (ss : List StampedTx) → waiting_for [] ss ≡ None
none_waited [] = refl
none_waited (s ∷ ss) = go s.settled (none_waited ss)
  where
    go : (b : Bool) → waiting_for [] ss ≡ None → cond (not b && false) (Some s) (waiting_for [] ss) ≡ None
    go true e = e
    go false e = e

pub reader_waits_for : (opening : Map) (ws xs : List Step) (w : WholeState) (t : ℕ) (y : StampedTx) → awaited_by_reader w.core t ≡ Some y → IsWholeKept opening ws xs w → IsRemembered opening ws xs → IsMatched ws xs w → IsAwaited opening ws t y.id y.end
reader_waits_for opening ws xs w t y e h m k = go (active_of t w.core.active) refl e
  where
    no_one : ◌≡◌ {A = Option StampedTx} None (Some y) → ⊥
    no_one q = cc

    go : (a : Option ActiveTx) → active_of t w.core.active ≡ a → waiting_for (depends_of_active a) w.core.stamped ≡ Some y → IsAwaited opening ws t y.id y.end
    go None f q = absurd (no_one (sym (none_waited w.core.stamped) ∙ q))
    go (Some r) f q =
        let open' = (waiting_is r.depends_on w.core.stamped y q).0 in
        let among = (waiting_is r.depends_on w.core.stamped y q).1 in
        let n = waiting_in r.depends_on w.core.stamped y q in
        let mine = active_holds (λ v. IsTraced opening ws w.core.stamped v.id v.depends_on v.aborted_dependency) t w.core.active r f (are_traced opening ws xs w h m k).active in
        let d = has_it (IsDependency opening ws w.core.stamped r.id) r.depends_on y.end mine.0.depends among in
        record {
          depends = subst (λ (i : ℕ). DependsOn opening ws i y.id y.end) mine.1 (subst (λ (z : ℕ). DependsOn opening ws r.id z y.end) (sym (n (λ v. v.end ≡ y.end → v.id ≡ d.id) d.one refl)) d.depends);
          preparing = stands (h.kept.after_trace.phases y.id ∙ preparing_phase w.core y n open' h.kept.single) (stage_of y.id w.readers) refl;
        }
      where
        stands : phase_of y.id xs ≡ IsPreparing y.end → (p : Option ReaderStage) → stage_of y.id w.readers ≡ p → phase_of y.id ws ≡ IsPreparing y.end
        stands i None j = h.phases y.id j ∙ i
        stands i (Some p) j = absurd (no_phase p y.end (sym (core_stands ws xs w.core y.id w.readers p j h.readers).0 ∙ i))
