-- The stored commits are just the commits of the trace that end above the start, each once: what a ledger counts.
use Rattle.std.proofs.Common.{◌≡◌, ℕ, ◌+◌, ◌<◌, ◌≤◌, Bool, true, false, cond, List, [], ◌∷◌, ◌++◌, refl, sym, ap, ◌∙◌, subst, arith}
use Rattle.std.specs.Prelude.{nat_lt, sum_by}
use Rattle.std.specs.List.{AllByRecursion}
use Rattle.std.specs.List.Sorted.{IsPermutation}
use Rattle.std.proofs.lemmas.Bool.{lt-ltb, le-ltb}
use Rattle.std.proofs.lemmas.List.Sums.{sum_by-append}
use Rattle.std.proofs.lemmas.List.Sorted.{sum_by-IsPermutation}
use Rattle.mvo_types.specs.Keys.{Map}
use Rattle.mvo_model.specs.History.{AreSerial}
use Rattle.mvo_model.specs.Trace.{Step, commits, committed, history_of}
use Rattle.mvo_model.proofs.Orders.{in_order_same}
use Rattle.mvo_model.proofs.Scans.{end_total}
use Rattle.mvo_theory.specs.AfterTrace.{pairs}
use Rattle.mvo_theory.specs.Sound.{IsPast}
use Rattle.mvo_theory.specs.State.{timeline}
use Rattle.mvo_theory.proofs.Each.{each_weaker}
use Rattle.mvo_theory.proofs.Tales.{each_pair}
use Rattle.mvo_readonly.specs.Whole.{CommittedReader, WholeState}
use Rattle.mvo_readonly.specs.WholeKept.{IsWholeKept, reader_commits}
use Rattle.mvo_readonly.specs.WholeTale.{stored_readers, whole_tale, told_in, weight_above}
use Rattle.mvo_readonly.proofs.Ordered.{Pairs, below, rows_of, rows_many}
use Rattle.mvo_readonly.proofs.Serials.{rows_before, told_here, committed_told, idle_pairs, rise, order_is}

sum_cons : (h : ℕ × ℕ → ℕ) (c : ℕ × ℕ) (cs : Pairs) → sum_by h (c ∷ cs) ≡ h c + sum_by h cs
sum_cons h c cs = let r = sum_by-append h (c ∷ []) cs in omega arith

zero_plus : (n : ℕ) → 0 + n ≡ n
zero_plus n = omega arith

none_above : (start : ℕ) (h : ℕ × ℕ → ℕ) (cs : Pairs) → AllByRecursion (λ c. c.0 ≤ start) cs → sum_by (weight_above start h) cs ≡ 0
none_above start h [] a = refl
none_above start h (c ∷ cs) a =
    sum_cons (weight_above start h) c cs
    ∙ ap (λ (b : Bool). cond b (h c) 0 + sum_by (weight_above start h) cs) (le-ltb start c.0 a.0)
    ∙ zero_plus (sum_by (weight_above start h) cs)
    ∙ none_above start h cs a.1

all_above : (start : ℕ) (h : ℕ × ℕ → ℕ) (cs : Pairs) → AllByRecursion (λ c. start < c.0) cs → sum_by (weight_above start h) cs ≡ sum_by h cs
all_above start h [] a = refl
all_above start h (c ∷ cs) a =
    sum_cons (weight_above start h) c cs
    ∙ ap (λ (b : Bool). cond b (h c) 0 + sum_by (weight_above start h) cs) (lt-ltb start c.0 a.0)
    ∙ ap (λ (n : ℕ). h c + n) (all_above start h cs a.1)
    ∙ sym (sum_cons h c cs)

stored_sum : (start : ℕ) (h : ℕ × ℕ → ℕ) (ys : List CommittedReader) → sum_by (weight_above start h) (reader_commits ys) ≡ sum_by h (reader_commits (stored_readers start ys))
stored_sum start h [] = refl
stored_sum start h (y ∷ ys) = sum_cons (weight_above start h) (y.id, y.id) (reader_commits ys) ∙ go (nat_lt start y.id) (stored_sum start h ys)
  where
    go : (b : Bool) → sum_by (weight_above start h) (reader_commits ys) ≡ sum_by h (reader_commits (stored_readers start ys)) → cond b (h (y.id, y.id)) 0 + sum_by (weight_above start h) (reader_commits ys) ≡ sum_by h (reader_commits (cond b (y ∷ stored_readers start ys) (stored_readers start ys)))
    go true e = ap (λ (n : ℕ). h (y.id, y.id) + n) e ∙ sym (sum_cons h (y.id, y.id) (reader_commits (stored_readers start ys)))
    go false e = zero_plus (sum_by (weight_above start h) (reader_commits ys)) ∙ e

-- whatever is weighed
pub tale_weighs : (opening : Map) (ws xs : List Step) (w : WholeState) (h : ℕ × ℕ → ℕ) → IsWholeKept opening ws xs w → sum_by h (whole_tale w) ≡ sum_by (weight_above w.core.start h) (commits ws)
tale_weighs opening ws xs w h k =
    let start = w.core.start in
    let f = weight_above start h in
    let old = reader_commits (stored_readers start w.committed_readers) in
    let line = pairs w.core.stamped in
    let past = pairs w.core.past in
    let ordered : sum_by h (whole_tale w) ≡ sum_by h (old ++ line) = sum_by-IsPermutation h (old ++ line) (whole_tale w) (in_order_same end_total (old ++ line)) in
    let own : sum_by f (past ++ line) ≡ sum_by f (commits xs) = sum_by-IsPermutation f (commits xs) (past ++ line) (subst (IsPermutation (commits xs)) k.kept.after_trace.tale (in_order_same end_total (commits xs))) in
    let whole : sum_by f (commits xs ++ reader_commits w.committed_readers) ≡ sum_by f (commits ws) = sum_by-IsPermutation f (commits ws) (commits xs ++ reader_commits w.committed_readers) k.commits in
    let a = sum_by-append h old line in
    let b = sum_by-append f past line in
    let c = sum_by-append f (commits xs) (reader_commits w.committed_readers) in
    let d = none_above start h past (each_pair (λ n. n ≤ start) w.core.past (each_weaker (IsPast start) (λ x. x.end ≤ start) (λ x q. q.until) w.core.past k.kept.started.past)) in
    let e = all_above start h line (each_pair (λ n. start < n) w.core.stamped k.kept.started.later) in
    let g = stored_sum start h w.committed_readers in
    omega arith

-- ---- each committed read-only transaction was told what one map shows after all commits below its begin
pub read_at_begin : (opening : Map) (ws xs : List Step) (w : WholeState) → IsWholeKept opening ws xs w → AllByRecursion (λ y. AreSerial (history_of y.id ws) (rows_of (told_in ws) (below y.id (committed ws)) opening)) w.committed_readers
read_at_begin opening ws xs w h =
    let f = told_in ws in
    let tl = timeline w.core in
    each_weaker _ (λ y. AreSerial (history_of y.id ws) (rows_of f (below y.id (committed ws)) opening))
    (λ y q. subst (λ ts. AreSerial ts (rows_of f (below y.id (committed ws)) opening)) (sym q.0)
    (subst (λ (cs : Pairs). AreSerial y.history (rows_of f (below y.id cs) opening)) (sym (order_is opening ws xs w h))
    (subst (AreSerial y.history) (rows_before f y.id tl opening (told_here opening ws xs w h) ∙ sym (rows_many f (λ c. nat_lt c.0 y.id) (reader_commits w.committed_readers) (pairs tl) opening (rise opening ws xs w h) (idle_pairs opening ws xs w h))) q.1.serial)))
    w.committed_readers (committed_told opening ws xs w h)
