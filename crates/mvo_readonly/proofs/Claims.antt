-- What each transaction claims, read off the whole trace.
use Rattle.std.proofs.Common.{◌≡◌, ℕ, ◌<◌, Bool, true, false, cond, ◌||◌, ◌⊎◌, inl, inr, List, [], ◌∷◌, ◌++◌, Option, None, Some, refl, sym, ap, ◌∙◌, subst}
use Rattle.std.specs.Prelude.{◌==◌, ◌&&◌, is_some}
use Rattle.std.specs.List.{AllByRecursion, list_any}
use Rattle.std.specs.Ordering.{is_lt}
use Rattle.mvo_types.specs.declared.row.RowKey.{RowKey}
use Rattle.mvo_types.specs.Keys.{Map}
use Rattle.mvo_model.specs.History.{net_write}
use Rattle.mvo_model.specs.Order.{placed, in_order}
use Rattle.mvo_model.specs.Trace.{Step, committed, end_cmp, history_of, phase_of}
use Rattle.mvo_model.specs.Trace.Phase.{Preparing as IsPreparing}
use Rattle.mvo_theory.specs.AfterTrace.{pairs}
use Rattle.mvo_theory.specs.State.{Claim, timeline}
use Rattle.mvo_theory.specs.Claimed.{IsWrittenAt, IsOrigin, IsClaimed, HasClaims, AreClaimed}
use Rattle.mvo_theory.proofs.Each.{each_weaker, each_append}
use Rattle.mvo_theory.proofs.Footprints.{or_left, or_right}
use Rattle.mvo_theory.proofs.Tales.{pairs-append}
use Rattle.mvo_readonly.specs.ReadAt.{WritesNothing}
use Rattle.mvo_readonly.specs.Whole.{ReaderStage, WholeState, opened_whole, stage_of}
use Rattle.mvo_readonly.specs.WholeCalls.{own_trace, WholeRun, MayRunWhole, after_whole_run, whole_trace}
use Rattle.mvo_readonly.specs.WholeKept.{IsWholeKept, reader_commits}
use Rattle.mvo_readonly.specs.WholeTale.{told_in}
use Rattle.mvo_readonly.specs.BothTraces.{IsRemembered}
use Rattle.mvo_readonly.proofs.Stages.{core_stands}
use Rattle.mvo_readonly.proofs.Ordered.{Pairs, each_in_order}
use Rattle.mvo_readonly.proofs.Serials.{idle_pairs, order_is}
use Rattle.mvo_readonly.proofs.WholeRuns.{whole_opened, whole_after_run}
use Rattle.mvo_readonly.proofs.Depending.{idle_net, no_phase, remembered_after_whole_run, remembered_opened}

-- ---- one of the others is committed in the whole trace too
any_placed : (p : ℕ × ℕ → Bool) (d : ℕ × ℕ) (cs : Pairs) → list_any p cs ≡ true → list_any p (placed end_cmp d cs) ≡ true
any_placed p d [] e = or_right (p d) false e
any_placed p d (c ∷ cs) e = go (is_lt (end_cmp c d)) (p c) refl e (any_placed p d cs)
  where
    go : (a b : Bool) → p c ≡ b → (b || list_any p cs) ≡ true → (list_any p cs ≡ true → list_any p (placed end_cmp d cs) ≡ true) → list_any p (cond a (c ∷ placed end_cmp d cs) (d ∷ c ∷ cs)) ≡ true
    go true true f g k = or_left (p c) (list_any p (placed end_cmp d cs)) f
    go true false f g k = or_right (p c) (list_any p (placed end_cmp d cs)) (k g)
    go false b f g k = or_right (p d) (p c || list_any p cs) (ap (λ (x : Bool). x || list_any p cs) f ∙ g)

any_head : (p : ℕ × ℕ → Bool) (d : ℕ × ℕ) (cs : Pairs) → p d ≡ true → list_any p (placed end_cmp d cs) ≡ true
any_head p d [] e = or_left (p d) false e
any_head p d (c ∷ cs) e = go (is_lt (end_cmp c d)) (any_head p d cs e)
  where
    go : (a : Bool) → list_any p (placed end_cmp d cs) ≡ true → list_any p (cond a (c ∷ placed end_cmp d cs) (d ∷ c ∷ cs)) ≡ true
    go true k = or_right (p c) (list_any p (placed end_cmp d cs)) k
    go false k = or_left (p d) (p c || list_any p cs) e

any_in_order : (p : ℕ × ℕ → Bool) (cs : Pairs) → list_any p cs ≡ true → list_any p (in_order end_cmp cs) ≡ true
any_in_order p [] e = e
any_in_order p (c ∷ cs) e = go (p c) refl e (any_in_order p cs)
  where
    go : (b : Bool) → p c ≡ b → (b || list_any p cs) ≡ true → (list_any p cs ≡ true → list_any p (in_order end_cmp cs) ≡ true) → list_any p (placed end_cmp c (in_order end_cmp cs)) ≡ true
    go true f g k = any_head p c (in_order end_cmp cs) f
    go false f g k = any_placed p c (in_order end_cmp cs) (k g)

any_behind : (p : ℕ × ℕ → Bool) (ds cs : Pairs) → list_any p cs ≡ true → list_any p (ds ++ cs) ≡ true
any_behind p [] cs e = e
any_behind p (d ∷ ds) cs e = or_right (p d) (list_any p (ds ++ cs)) (any_behind p ds cs e)

pub committed_whole : (opening : Map) (ws xs : List Step) (w : WholeState) (p : ℕ × ℕ → Bool) → IsWholeKept opening ws xs w → list_any p (committed xs) ≡ true → list_any p (committed ws) ≡ true
committed_whole opening ws xs w p h e =
    ap (list_any p) (order_is opening ws xs w h)
    ∙ any_in_order p (reader_commits w.committed_readers ++ pairs (timeline w.core)) (any_behind p (reader_commits w.committed_readers) (pairs (timeline w.core)) (sym (ap (list_any p) (h.kept.after_trace.tale ∙ sym (pairs-append w.core.past w.core.stamped))) ∙ e))

-- ---- an origin of the core's own trace is one of the whole
written_whole : (opening : Map) (ws xs : List Step) (w : WholeState) (mark : ℕ) (k : RowKey) (b n : ℕ) → IsWholeKept opening ws xs w → IsWrittenAt mark xs k b n → IsWrittenAt mark ws k b n
written_whole opening ws xs w mark k b n h q = record {
  writer = q.writer;
  above = q.above;
  ends = ends q.ends;
  below = q.below;
  writes = ap (λ ts. is_some (net_write k ts)) (h.histories q.writer) ∙ q.writes;
}
  where
    stands : phase_of q.writer xs ≡ IsPreparing n → (p : Option ReaderStage) → stage_of q.writer w.readers ≡ p → phase_of q.writer ws ≡ IsPreparing n
    stands e None f = h.phases q.writer f ∙ e
    stands e (Some p) f = absurd (no_phase p n (sym (core_stands ws xs w.core q.writer w.readers p f h.readers).0 ∙ e))

    ends : (phase_of q.writer xs ≡ IsPreparing n) ⊎ (list_any (λ c. (c.0 == n) && (c.1 == q.writer)) (committed xs) ≡ true) → (phase_of q.writer ws ≡ IsPreparing n) ⊎ (list_any (λ c. (c.0 == n) && (c.1 == q.writer)) (committed ws) ≡ true)
    ends (inl e) = inl (stands e (stage_of q.writer w.readers) refl)
    ends (inr e) = inr (committed_whole opening ws xs w (λ c. (c.0 == n) && (c.1 == q.writer)) h e)

pub origin_whole : (opening : Map) (ws xs : List Step) (w : WholeState) (mark : ℕ) (k : RowKey) (b n : ℕ) → IsWholeKept opening ws xs w → IsOrigin mark xs k b n → IsOrigin mark ws k b n
origin_whole opening ws xs w mark k b n h q = record {
  source = source q.source;
  no_preparing = λ z e p f g. none z e p f g (stage_of z w.readers) refl;
  no_committed = subst (AllByRecursion P) (sym (order_is opening ws xs w h))
      (each_in_order P (reader_commits w.committed_readers ++ pairs (timeline w.core)) (each_append P (reader_commits w.committed_readers) (pairs (timeline w.core))
      (each_weaker (λ d. WritesNothing (told_in ws d)) P (λ d i _ _. idle_net k (told_in ws d) i) (reader_commits w.committed_readers) (idle_pairs opening ws xs w h))
      (subst (AllByRecursion P) (h.kept.after_trace.tale ∙ sym (pairs-append w.core.past w.core.stamped))
      (each_weaker (λ (c : ℕ × ℕ). n < c.0 → c.0 < b → net_write k (history_of c.1 xs) ≡ None) P (λ c r f g. ap (net_write k) (h.histories c.1) ∙ r f g) (committed xs) q.no_committed))));
}
  where
    P : ℕ × ℕ → Type 0
    P c = n < c.0 → c.0 < b → net_write k (history_of c.1 ws) ≡ None

    source : (n ≡ mark) ⊎ IsWrittenAt mark xs k b n → (n ≡ mark) ⊎ IsWrittenAt mark ws k b n
    source (inl e) = inl e
    source (inr e) = inr (written_whole opening ws xs w mark k b n h e)

    none : (z e : ℕ) → phase_of z ws ≡ IsPreparing e → n < e → e < b → (p : Option ReaderStage) → stage_of z w.readers ≡ p → net_write k (history_of z ws) ≡ None
    none z e p f g None i = ap (net_write k) (h.histories z) ∙ q.no_preparing z e (sym (h.phases z i) ∙ p) f g
    none z e p f g (Some r) i = ap (net_write k) (h.histories z) ∙ idle_net k (history_of z xs) (core_stands ws xs w.core z w.readers r i h.readers).2

-- ---- CLAIMS
pub claim_whole : (opening : Map) (ws xs : List Step) (mark u : ℕ) (c : Claim) → IsRemembered opening ws xs → IsClaimed mark xs u c → IsClaimed mark ws u c
claim_whole opening ws xs mark u c m q =
    let r = m.at q.before q.after u q.op q.answer q.then' in record {
      before = r.front;
      op = q.op;
      answer = q.answer;
      after = r.back;
      then' = r.then';
      answered = q.answered;
      first = ap (λ ts. is_some (net_write c.key ts)) (r.kept.histories u) ∙ q.first;
      origin = origin_whole opening r.front q.before r.state mark c.key u c.origin r.kept q.origin;
    }

pub are_claimed : (opening : Map) (ws xs : List Step) (w : WholeState) → IsWholeKept opening ws xs w → IsRemembered opening ws xs → AreClaimed ws w.core
are_claimed opening ws xs w h m =
    let mark = w.core.marks.opening in record {
      active = each_weaker (λ r. HasClaims mark xs r.id r.history r.claims) (λ r. HasClaims mark ws r.id r.history r.claims) (λ r q. record { sound = each_weaker (IsClaimed mark xs r.id) (IsClaimed mark ws r.id) (λ c. claim_whole opening ws xs mark r.id c m) r.claims q.sound; written = q.written; complete = q.complete }) w.core.active h.kept.claimed.active;
      stamped = each_weaker (λ x. HasClaims mark xs x.id x.history x.claims) (λ x. HasClaims mark ws x.id x.history x.claims) (λ x q. record { sound = each_weaker (IsClaimed mark xs x.id) (IsClaimed mark ws x.id) (λ c. claim_whole opening ws xs mark x.id c m) x.claims q.sound; written = q.written; complete = q.complete }) w.core.stamped h.kept.claimed.stamped;
      past = each_weaker (λ x. HasClaims mark xs x.id x.history x.claims) (λ x. HasClaims mark ws x.id x.history x.claims) (λ x q. record { sound = each_weaker (IsClaimed mark xs x.id) (IsClaimed mark ws x.id) (λ c. claim_whole opening ws xs mark x.id c m) x.claims q.sound; written = q.written; complete = q.complete }) w.core.past h.kept.claimed.past;
    }

pub runs_are_claimed : (rows : Map) (mark : ℕ) (d : WholeRun) → MayRunWhole (opened_whole rows mark) d → AreClaimed (whole_trace (opened_whole rows mark) d) (after_whole_run (opened_whole rows mark) d).core
runs_are_claimed rows mark d m =
    let w = opened_whole rows mark in
    are_claimed rows (whole_trace w d) (own_trace w d) (after_whole_run w d) (whole_after_run rows [] [] w d m (whole_opened rows mark)) (remembered_after_whole_run rows [] [] w d m (whole_opened rows mark) (remembered_opened rows))
