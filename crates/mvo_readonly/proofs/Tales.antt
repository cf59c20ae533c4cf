-- The stored commits with the read-only ones: legal from the base, with the rows and the groups of the others.
use Rattle.std.proofs.Common.{◌≡◌, ◌≢◌, ℕ, ◌<◌, Bool, true, false, cond, not, List, [], ◌∷◌, ◌++◌, None, length, map, refl, sym, ap, ◌∙◌, subst, arith}
use Rattle.std.specs.Prelude.{nat_lt, nat_le, ◌==◌, ◌&&◌}
use Rattle.std.specs.List.{AllByRecursion, filter}
use Rattle.std.specs.List.Sorted.{IsStrictlySortedBy}
use Rattle.std.specs.Option.{option_map}
use Rattle.std.specs.Ordering.{is_lt}
use Rattle.std.proofs.lemmas.Bool.{ltb-true, and_right}
use Rattle.mvo_types.specs.declared.row.RowKey.{RowKey}
use Rattle.mvo_types.specs.Keys.{Map}
use Rattle.mvo_types.specs.Write.{Write}
use Rattle.mvo_model.specs.History.{History, AreSerial, Legal, after_history}
use Rattle.mvo_model.specs.Order.{in_order, placed}
use Rattle.mvo_model.specs.Trace.{Step, end_cmp, committed, phase_of}
use Rattle.mvo_model.proofs.Serials.{after_history-append}
use Rattle.mvo_theory.specs.Entries.{noted_key, written_from}
use Rattle.mvo_theory.specs.State.{StampedTx, after_settled, timeline}
use Rattle.mvo_theory.specs.AfterTrace.{pairs}
use Rattle.mvo_theory.specs.Groups.{is_due}
use Rattle.mvo_theory.specs.Sound.{IsPast}
use Rattle.mvo_theory.proofs.Each.{each_weaker, each_filter, each_back}
use Rattle.mvo_theory.proofs.Tales.{pairs_rise, history_settled, legal_tale}
use Rattle.mvo_readonly.specs.ReadAt.{WritesNothing, settled_before, IsReadAt}
use Rattle.mvo_readonly.specs.Whole.{ReaderStage, CommittedReader, WholeState, stage_of, phase_by_stage, phase_in_whole}
use Rattle.mvo_readonly.specs.WholeKept.{HaveDistinctIds, IsWholeKept, reader_commits}
use Rattle.mvo_readonly.specs.WholeTale.{stored_readers, whole_tale, told_in, is_in_group}
use Rattle.mvo_readonly.proofs.Timeline.{before-append}
use Rattle.mvo_readonly.proofs.ReaderCalls.{below_past}
use Rattle.mvo_readonly.proofs.Stages.{core_stands}
use Rattle.mvo_readonly.proofs.Ordered.{Pairs, below, rows_of, in_order_already, rows_many, legal_many}
use Rattle.mvo_readonly.proofs.Serials.{rows_before, each_committed, are_new, told_here, committed_told, idle_pairs, rise, order_is}
use Rattle.std.proofs.Common.{Option, Some}

-- ---- those above the start
apart_part : (p : CommittedReader → Bool) (ys : List CommittedReader) → HaveDistinctIds ys → HaveDistinctIds (filter p ys)
apart_part p [] h = tt
apart_part p (y ∷ ys) h = go (p y) (apart_part p ys h.1)
  where
    go : (b : Bool) → HaveDistinctIds (filter p ys) → HaveDistinctIds (cond b (y ∷ filter p ys) (filter p ys))
    go true k = (each_filter p (λ z. z.id ≢ y.id) (λ z. z.id ≢ y.id) (λ z _ n. n) ys h.0, k)
    go false k = k

stored_told : (opening : Map) (ws xs : List Step) (w : WholeState) → IsWholeKept opening ws xs w → AllByRecursion (λ y. (told_in ws (y.id, y.id) ≡ y.history) × IsReadAt opening (timeline w.core) y.id y.history × (w.core.start < y.id)) (stored_readers w.core.start w.committed_readers)
stored_told opening ws xs w h = each_filter (λ (y : CommittedReader). nat_lt w.core.start y.id) _ (λ y. (told_in ws (y.id, y.id) ≡ y.history) × IsReadAt opening (timeline w.core) y.id y.history × (w.core.start < y.id)) (λ y e q. (q.0, q.1, ltb-true w.core.start y.id e)) w.committed_readers (committed_told opening ws xs w h)

-- from the base, those with an end below b
rows_from_base : (opening : Map) (ws xs : List Step) (w : WholeState) (b : ℕ) → w.core.start < b → IsWholeKept opening ws xs w → after_history (settled_before b (timeline w.core)) opening ≡ after_history (settled_before b w.core.stamped) w.core.base
rows_from_base opening ws xs w b lt h =
    ap (λ us. after_history us opening) (before-append b w.core.past w.core.stamped)
    ∙ after_history-append (settled_before b w.core.past) (settled_before b w.core.stamped) opening
    ∙ ap (after_history (settled_before b w.core.stamped)) (below_past b w.core.past opening (each_weaker (IsPast w.core.start) (λ x. (x.settled ≡ true) × (x.end < b)) (λ x q. (q.settled, (let e = q.until in omega arith))) w.core.past h.kept.started.past) ∙ sym h.kept.after_trace.base)

-- THE TALE: the stored commits are legal from the rows at the start
pub tale_is_legal : (opening : Map) (ws xs : List Step) (w : WholeState) → IsWholeKept opening ws xs w → Legal w.core.base (map (told_in ws) (whole_tale w))
tale_is_legal opening ws xs w h =
    let f = told_in ws in
    let ys = stored_readers w.core.start w.committed_readers in
    let line = w.core.stamped in
    let told = each_back (λ x. f (x.end, x.id) ≡ x.history) w.core.past line (told_here opening ws xs w h) in
    legal_many f (reader_commits ys) (pairs line) w.core.base (pairs_rise line h.kept.sound.rising)
    (are_new ys line (apart_part (λ (y : CommittedReader). nat_lt w.core.start y.id) w.committed_readers h.apart) (each_weaker _ (λ y. AllByRecursion (λ x. x.end ≢ y.id) line) (λ y q. each_back (λ x. x.end ≢ y.id) w.core.past line q.1.others) ys (stored_told opening ws xs w h)))
    (each_committed (λ d. WritesNothing (f d)) ys (each_weaker _ (λ y. WritesNothing (f (y.id, y.id))) (λ y q. subst WritesNothing (sym q.0) q.1.idle) ys (stored_told opening ws xs w h)))
    (each_committed (λ d. AreSerial (f d) (rows_of f (below d.0 (pairs line)) w.core.base)) ys
    (each_weaker _ (λ y. AreSerial (f (y.id, y.id)) (rows_of f (below y.id (pairs line)) w.core.base))
    (λ y q. subst (λ ts. AreSerial ts (rows_of f (below y.id (pairs line)) w.core.base)) (sym q.0) (subst (AreSerial y.history) (rows_from_base opening ws xs w y.id q.2 h ∙ rows_before f y.id line w.core.base told) q.1.serial)) ys (stored_told opening ws xs w h)))
    (subst (Legal w.core.base) (sym (history_settled ws line told)) (legal_tale w.core.base line h.kept.sound.legal))

-- ---- the rows after it are those after the others
filter_all : (cs : Pairs) → filter (λ (c : ℕ × ℕ). true) cs ≡ cs
filter_all [] = refl
filter_all (c ∷ cs) = ap (λ ds. c ∷ ds) (filter_all cs)

rows_settled : (f : ℕ × ℕ → History) (xs : List StampedTx) (m : Map) → AllByRecursion (λ x. f (x.end, x.id) ≡ x.history) xs → rows_of f (pairs xs) m ≡ after_settled xs m
rows_settled f [] m h = refl
rows_settled f (x ∷ xs) m h = go x.settled (λ n. rows_settled f xs n h.1)
  where
    go : (b : Bool) → ((n : Map) → rows_of f (pairs xs) n ≡ after_settled xs n) → rows_of f (cond b ((x.end, x.id) ∷ pairs xs) (pairs xs)) m ≡ after_settled xs (after_history (cond b x.history []) m)
    go true k = ap (λ ts. rows_of f (pairs xs) (after_history ts m)) h.0 ∙ k (after_history x.history m)
    go false k = k m

pub tale_leaves : (opening : Map) (ws xs : List Step) (w : WholeState) → IsWholeKept opening ws xs w → rows_of (told_in ws) (whole_tale w) w.core.base ≡ after_settled w.core.stamped w.core.base
tale_leaves opening ws xs w h =
    let f = told_in ws in
    let ys = stored_readers w.core.start w.committed_readers in
    let line = w.core.stamped in
    let told = each_back (λ x. f (x.end, x.id) ≡ x.history) w.core.past line (told_here opening ws xs w h) in
    ap (λ (cs : Pairs). rows_of f cs w.core.base) (sym (filter_all (whole_tale w)))
    ∙ rows_many f (λ c. true) (reader_commits ys) (pairs line) w.core.base (pairs_rise line h.kept.sound.rising) (each_committed (λ d. WritesNothing (f d)) ys (each_weaker _ (λ y. WritesNothing (f (y.id, y.id))) (λ y q. subst WritesNothing (sym q.0) q.1.idle) ys (stored_told opening ws xs w h)))
    ∙ ap (λ (cs : Pairs). rows_of f cs w.core.base) (filter_all (pairs line))
    ∙ rows_settled f line w.core.base told

-- ---- groups: none of them is due
idle_keys : (ks : List RowKey) (ts : History) → WritesNothing ts → written_from ks ts ≡ ks
idle_keys ks [] h = refl
idle_keys ks (t ∷ ts) h = ap (λ w. written_from (noted_key ks (option_map (λ (v : Write). v.0) w)) ts) h.0 ∙ idle_keys ks ts h.1

pub never_due : (prev n : ℕ) (ts : History) → WritesNothing ts → is_due prev (n, ts) ≡ false
never_due prev n ts h = ap (λ (ks : List RowKey). nat_lt prev n && not (length ks == 0)) (idle_keys [] ts h) ∙ and_right (nat_lt prev n) false refl

filter_placed : (p : ℕ × ℕ → Bool) (d : ℕ × ℕ) (cs : Pairs) → p d ≡ false → filter p (placed end_cmp d cs) ≡ filter p cs
filter_placed p d [] e = ap (λ (b : Bool). cond b (d ∷ []) []) e
filter_placed p d (c ∷ cs) e = go (is_lt (end_cmp c d)) (filter_placed p d cs e)
  where
    go : (b : Bool) → filter p (placed end_cmp d cs) ≡ filter p cs → filter p (cond b (c ∷ placed end_cmp d cs) (d ∷ c ∷ cs)) ≡ filter p (c ∷ cs)
    go true k = ap (λ ds. cond (p c) (c ∷ ds) ds) k
    go false k = ap (λ (b : Bool). cond b (d ∷ filter p (c ∷ cs)) (filter p (c ∷ cs))) e

filter_many : (p : ℕ × ℕ → Bool) (ds cs : Pairs) → IsStrictlySortedBy end_cmp cs → AllByRecursion (λ d. p d ≡ false) ds → filter p (in_order end_cmp (ds ++ cs)) ≡ filter p cs
filter_many p [] cs s h = ap (filter p) (in_order_already cs s)
filter_many p (d ∷ ds) cs s h = filter_placed p d (in_order end_cmp (ds ++ cs)) h.0 ∙ filter_many p ds cs s h.1

-- a group of the whole commit order takes just what one of the others' does, however late they come
pub group_is : (opening : Map) (ws xs : List Step) (w : WholeState) (prev m : ℕ) → IsWholeKept opening ws xs w → filter (is_in_group ws prev m) (committed ws) ≡ filter (is_in_group ws prev m) (pairs (timeline w.core))
group_is opening ws xs w prev m h =
    ap (filter (is_in_group ws prev m)) (order_is opening ws xs w h)
    ∙ filter_many (is_in_group ws prev m) (reader_commits w.committed_readers) (pairs (timeline w.core)) (rise opening ws xs w h)
    (each_weaker (λ d. WritesNothing (told_in ws d)) (λ d. is_in_group ws prev m d ≡ false) (λ d i. ap (λ (b : Bool). nat_le d.0 m && b) (never_due prev d.0 (told_in ws d) i) ∙ and_right (nat_le d.0 m) false refl) (reader_commits w.committed_readers) (idle_pairs opening ws xs w h))

-- ---- each transaction stands where the whole trace says
pub phase_is : (opening : Map) (ws xs : List Step) (w : WholeState) (t : ℕ) → IsWholeKept opening ws xs w → phase_of t ws ≡ phase_in_whole w t
phase_is opening ws xs w t h = go (stage_of t w.readers) refl
  where
    go : (p : Option ReaderStage) → stage_of t w.readers ≡ p → phase_of t ws ≡ phase_by_stage w.core t p
    go None e = h.phases t e ∙ h.kept.after_trace.phases t
    go (Some p) e = (core_stands ws xs w.core t w.readers p e h.readers).1
