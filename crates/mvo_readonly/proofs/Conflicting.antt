-- Whom the whole trace names as the first writer, the core's own names too: each prefix of the whole trace that an answer follows has its prefix of the core's own.
use Rattle.std.proofs.Common.{◌≡◌, ℕ, ◌<◌, Bool, true, ◌||◌, ◌⊎◌, inl, inr, List, [], ◌∷◌, ◌++◌, Option, None, Some, refl, sym, ap, ◌∙◌, subst, append_assoc}
use Rattle.std.specs.Prelude.{◌==◌, ◌&&◌, is_some}
use Rattle.std.specs.FinMap as fin
use Rattle.std.specs.List.{AllByRecursion, list_any}
use Rattle.std.proofs.lemmas.Bool.{false≢true, eqb-true, eq-eqb, and_parts, and_from}
use Rattle.mvo_types.specs.declared.row.RowKey.{RowKey}
use Rattle.mvo_types.specs.declared.op.Op.{Op}
use Rattle.mvo_types.specs.declared.cause.Cause.{Cause}
use Rattle.mvo_types.specs.declared.cause.Cause.TheVariants.{Active, Stamped}
use Rattle.mvo_types.specs.Keys.{Map}
use Rattle.mvo_types.specs.AnswerData.{AnswerData}
use Rattle.mvo_model.specs.History.{net_write}
use Rattle.mvo_model.specs.Trace.{Step, committed, history_of, phase_of}
use Rattle.mvo_model.specs.Trace.Step.{Answers}
use Rattle.mvo_model.specs.Trace.Phase.{Active as IsActive, Preparing as IsPreparing}
use Rattle.mvo_theory.specs.State.{Claim}
use Rattle.mvo_theory.specs.Claimed.{IsWrittenAt, IsOrigin, IsClaimed}
use Rattle.mvo_theory.specs.Conflicts.{IsFirstWriter, IsNamed, IsInTheWay}
use Rattle.mvo_theory.specs.Calls.{trace_of}
use Rattle.mvo_theory.proofs.Each.{each_weaker}
use Rattle.mvo_theory.proofs.Footprints.{or_left, or_right}
use Rattle.mvo_readonly.specs.ReadAt.{WritesNothing}
use Rattle.mvo_readonly.specs.Whole.{ReaderStage, WholeState, stage_of}
use Rattle.mvo_readonly.specs.WholeCalls.{own_trace, steps_of_whole_call, core_calls, after_whole_call, WholeRun, MayRunWhole, whole_trace}
use Rattle.mvo_readonly.specs.WholeKept.{IsWholeKept}
use Rattle.mvo_readonly.specs.BothTraces.{IsMatched, AreGiven, HasOwnPlace, IsRecalled}
use Rattle.mvo_readonly.proofs.Traces.{append-none}
use Rattle.mvo_readonly.proofs.Stages.{core_stands}
use Rattle.mvo_readonly.proofs.Ordered.{Pairs}
use Rattle.mvo_readonly.proofs.WholeRuns.{whole_after_call}
use Rattle.mvo_readonly.proofs.Depending.{idle_net, no_phase, splits, Adds, no_answer_in, alone_is, call_adds}
use Rattle.mvo_readonly.proofs.Claims.{committed_whole}
use Rattle.mvo_readonly.proofs.Snapshots.{snapshot_whole}
use Rattle.mvo_readonly.proofs.Naming.{claimer_writes}
use Rattle.mvo_readonly.proofs.Differing.{among, ends_own}

-- ---- the prefix of the core's own trace
longer : (opening : Map) (xs vs front : List Step) (t : ℕ) (op : Op) (a : AnswerData) → HasOwnPlace opening xs front t op a → HasOwnPlace opening (xs ++ vs) front t op a
longer opening xs vs front t op a h = record {
  before = h.before;
  after = h.after ++ vs;
  state = h.state;
  then' = ap (λ l. l ++ vs) h.then' ∙ append_assoc h.before (Answers t op a ∷ h.after) vs;
  kept = h.kept;
}

pub recalled_more : (opening : Map) (ws xs us vs : List Step) (w : WholeState) → Adds us vs → IsWholeKept opening ws xs w → IsRecalled opening ws xs → IsRecalled opening (ws ++ us) (xs ++ vs)
recalled_more opening ws xs us vs w d h m = record { at = λ front back t op a e. found front back t op a d (splits ws us front back (Answers t op a) e) }
  where
    found : (front back : List Step) (t : ℕ) (op : Op) (a : AnswerData) → Adds us vs → ((mid : List Step) × (ws ≡ front ++ (Answers t op a ∷ mid))) ⊎ ((rest : List Step) × (front ≡ ws ++ rest) × (us ≡ rest ++ (Answers t op a ∷ back))) → HasOwnPlace opening (xs ++ vs) front t op a
    found front back t op a k (inl q) = longer opening xs vs front t op a (m.at front q.0 t op a q.1)
    found front back t op a (inl k) (inr q) = absurd (no_answer_in q.0 back t op a us q.2 k.0)
    found front back t op a (inr k) (inr q) =
        let one = alone_is q.0 back (Answers t op a) (Answers k.0 k.1 k.2) (sym k.3 ∙ q.2) in
        let here : front ≡ ws = q.1 ∙ ap (λ l. ws ++ l) one.0 ∙ append-none ws in
        record {
          before = xs;
          after = [];
          state = w;
          then' = ap (λ l. xs ++ l) (k.4 ∙ ap (λ z. z ∷ []) one.1);
          kept = subst (λ l. IsWholeKept opening l xs w) (sym here) h;
        }

pub recalled_opened : (opening : Map) → IsRecalled opening [] []
recalled_opened opening = record { at = λ front back t op a e. absurd (empty_is front back t op a e) }
  where
    empty_is : (front back : List Step) (t : ℕ) (op : Op) (a : AnswerData) → [] ≡ front ++ (Answers t op a ∷ back) → ⊥
    empty_is [] back t op a q = absurd cc
    empty_is (b ∷ front) back t op a q = absurd cc

pub recalled_after_whole_run : (opening : Map) (ws xs : List Step) (w : WholeState) (d : WholeRun) → MayRunWhole w d → IsWholeKept opening ws xs w → IsRecalled opening ws xs → IsRecalled opening (ws ++ whole_trace w d) (xs ++ own_trace w d)
recalled_after_whole_run opening ws xs w [] m h k = subst (λ l. IsRecalled opening l (xs ++ [])) (sym (append-none ws)) (subst (λ l. IsRecalled opening ws l) (sym (append-none xs)) k)
recalled_after_whole_run opening ws xs w (a ∷ rest) m h k =
    let w' = after_whole_call w a.0 a.1 in
    let us = steps_of_whole_call w a.0 a.1 in
    let vs = trace_of w.core (core_calls w a.0 a.1) in
    subst (λ l. IsRecalled opening l (xs ++ (vs ++ own_trace w' rest))) (append_assoc ws us (whole_trace w' rest))
    (subst (λ l. IsRecalled opening ((ws ++ us) ++ whole_trace w' rest) l) (append_assoc xs vs (own_trace w' rest))
    (recalled_after_whole_run opening (ws ++ us) (xs ++ vs) w' rest m.1 (whole_after_call opening ws xs w a.0 a.1 m.0 h) (recalled_more opening ws xs us vs w (call_adds w a.0 a.1) h k)))

-- ---- an origin of the whole trace is one of the core's own
pub wrote : (k : RowKey) (u : ℕ) (ws xs : List Step) → history_of u ws ≡ history_of u xs → is_some (net_write k (history_of u ws)) ≡ true → WritesNothing (history_of u xs) → ⊥
wrote k u ws xs e f i = false≢true (sym (ap is_some (idle_net k (history_of u xs) i)) ∙ sym (ap (λ ts. is_some (net_write k ts)) e) ∙ f)

written_own : (opening : Map) (ws xs : List Step) (w : WholeState) (mark : ℕ) (k : RowKey) (b n : ℕ) → IsWholeKept opening ws xs w → IsWrittenAt mark ws k b n → IsWrittenAt mark xs k b n
written_own opening ws xs w mark k b n h q = record {
  writer = q.writer;
  above = q.above;
  ends = ends_own opening ws xs w q.writer n h (wrote k q.writer ws xs (h.histories q.writer) q.writes) q.ends;
  below = q.below;
  writes = sym (ap (λ ts. is_some (net_write k ts)) (h.histories q.writer)) ∙ q.writes;
}

abbrev pub is_pair : ℕ × ℕ → ℕ × ℕ → Bool
is_pair c d = (d.0 == c.0) && (d.1 == c.1)

pub each_there : (cs : Pairs) → AllByRecursion (λ c. list_any (is_pair c) cs ≡ true) cs
each_there [] = tt
each_there (c ∷ cs) = (
  or_left (is_pair c c) (list_any (is_pair c) cs) (and_from (c.0 == c.0) (c.1 == c.1) (eq-eqb c.0 c.0 refl) (eq-eqb c.1 c.1 refl)),
  each_weaker (λ d. list_any (is_pair d) cs ≡ true) (λ d. (is_pair d c || list_any (is_pair d) cs) ≡ true) (λ d k. or_right (is_pair d c) (list_any (is_pair d) cs) k) cs (each_there cs),
)

pub origin_own : (opening : Map) (ws xs : List Step) (w : WholeState) (mark : ℕ) (k : RowKey) (b n : ℕ) → IsWholeKept opening ws xs w → IsOrigin mark ws k b n → IsOrigin mark xs k b n
origin_own opening ws xs w mark k b n h q = record {
  source = source q.source;
  no_preparing = λ z e p f g. none z e p f g (stage_of z w.readers) refl;
  no_committed = each_weaker (λ c. list_any (is_pair c) (committed xs) ≡ true) P one (committed xs) (each_there (committed xs));
}
  where
    P : ℕ × ℕ → Type 0
    P c = n < c.0 → c.0 < b → net_write k (history_of c.1 xs) ≡ None

    same : (c d : ℕ × ℕ) → (n < d.0 → d.0 < b → net_write k (history_of d.1 ws) ≡ None) → is_pair c d ≡ true → P c
    same c d r e f g =
        let p = and_parts (d.0 == c.0) (d.1 == c.1) e in
        let i = eqb-true d.0 c.0 p.0 in
        sym (ap (λ (t : ℕ). net_write k (history_of t ws)) (eqb-true d.1 c.1 p.1) ∙ ap (net_write k) (h.histories c.1)) ∙ r (subst (λ (m : ℕ). n < m) (sym i) f) (subst (λ (m : ℕ). m < b) (sym i) g)

    one : (c : ℕ × ℕ) → list_any (is_pair c) (committed xs) ≡ true → P c
    one c m = among (is_pair c) (P c) (committed ws) (each_weaker (λ d. n < d.0 → d.0 < b → net_write k (history_of d.1 ws) ≡ None) (λ d. is_pair c d ≡ true → P c) (λ d. same c d) (committed ws) q.no_committed) (committed_whole opening ws xs w (is_pair c) h m)

    source : (n ≡ mark) ⊎ IsWrittenAt mark ws k b n → (n ≡ mark) ⊎ IsWrittenAt mark xs k b n
    source (inl e) = inl e
    source (inr e) = inr (written_own opening ws xs w mark k b n h e)

    none : (z e : ℕ) → phase_of z xs ≡ IsPreparing e → n < e → e < b → (p : Option ReaderStage) → stage_of z w.readers ≡ p → net_write k (history_of z xs) ≡ None
    none z e p f g None i = sym (ap (net_write k) (h.histories z)) ∙ q.no_preparing z e (h.phases z i ∙ p) f g
    none z e p f g (Some r) i = absurd (no_phase r e (sym (core_stands ws xs w.core z w.readers r i h.readers).0 ∙ p))

-- ---- CLAIMS and 20, THE CONVERSE
pub claim_own : (opening : Map) (ws xs : List Step) (mark u : ℕ) (c : Claim) → IsRecalled opening ws xs → IsClaimed mark ws u c → IsClaimed mark xs u c
claim_own opening ws xs mark u c m q =
    let r = m.at q.before q.after u q.op q.answer q.then' in record {
      before = r.before;
      op = q.op;
      answer = q.answer;
      after = r.after;
      then' = r.then';
      answered = q.answered;
      first = sym (ap (λ ts. is_some (net_write c.key ts)) (r.kept.histories u)) ∙ q.first;
      origin = origin_own opening q.before r.before r.state mark c.key u c.origin r.kept q.origin;
    }

pub first_own : (opening : Map) (ws xs : List Step) (w : WholeState) (mark t u : ℕ) (k : RowKey) → IsWholeKept opening ws xs w → IsRecalled opening ws xs → IsFirstWriter mark ws t u k → IsFirstWriter mark xs t u k
first_own opening ws xs w mark t u k h m q = record {
  origin = q.origin;
  claimed = claim_own opening ws xs mark u (record { key = k; origin = q.origin }) m q.claimed;
  now = origin_own opening ws xs w mark k t q.origin h q.now;
}

pub named_own : (opening : Map) (ws xs : List Step) (w : WholeState) (mark t : ℕ) (k : RowKey) (c : Cause) → IsWholeKept opening ws xs w → IsRecalled opening ws xs → IsNamed mark ws t k c → IsNamed mark xs t k c
named_own opening ws xs w mark t k (Stamped e) h m (u, q, f) =
    let g = first_own opening ws xs w mark t u k h m f in
    (u, ends_own opening ws xs w u e.0 h (claimer_writes mark xs u (record { key = k; origin = g.origin }) g.claimed) q, g)
named_own opening ws xs w mark t k (Active u) h m (n, e, f) = (n, go (stage_of u.0 w.readers) refl, g)
  where
    g : IsFirstWriter mark xs t u.0 k
    g = first_own opening ws xs w mark t u.0 k h m f

    go : (p : Option ReaderStage) → stage_of u.0 w.readers ≡ p → phase_of u.0 xs ≡ IsActive
    go None i = sym (h.phases u.0 i) ∙ e
    go (Some p) i = absurd (claimer_writes mark xs u.0 (record { key = k; origin = g.origin }) g.claimed (core_stands ws xs w.core u.0 w.readers p i h.readers).2)

pub in_the_way_own : (opening : Map) (ws xs : List Step) (w : WholeState) (mark t : ℕ) (k : RowKey) (c : Cause) → IsWholeKept opening ws xs w → IsMatched ws xs w → AreGiven opening ws xs w → IsRecalled opening ws xs → IsInTheWay opening mark ws t k c → IsInTheWay opening mark xs t k c
in_the_way_own opening ws xs w mark t k c h p g m d = record {
  stands = sym (ap (λ (l : Map). fin.contains_key l k) (snapshot_whole opening ws xs w t h p g)) ∙ d.stands;
  unwritten = sym (ap (λ ts. is_some (net_write k ts)) (h.histories t)) ∙ d.unwritten;
  named = named_own opening ws xs w mark t k c h m d.named;
}
