-- The replies of every list of calls are serial, the read-only ones at their begins.
use Rattle.std.proofs.Common.{◌≡◌, ◌≢◌, ℕ, Bool, true, false, cond, List, [], ◌∷◌, ◌++◌, map, refl, sym, ap, ◌∙◌, subst}
use Rattle.std.specs.Prelude.{nat_lt, nat_le, ◌&&◌}
use Rattle.std.specs.List.{AllByRecursion, filter}
use Rattle.std.specs.List.Sorted.{IsPermutation, IsStrictlySortedBy}
use Rattle.std.proofs.lemmas.List.Sorted.{IsPermutation-trans, IsPermutation-append_left, IsPermutation-append_comm}
use Rattle.mvo_types.specs.Keys.{Map}
use Rattle.mvo_model.specs.History.{History, AreSerial, Legal, after_history}
use Rattle.mvo_model.specs.Order.{in_order}
use Rattle.mvo_model.specs.Trace.{Step, commits, end_cmp, committed, history_of, rows_up_to, IsSerial}
use Rattle.mvo_model.proofs.Orders.{in_order_same}
use Rattle.mvo_model.proofs.Scans.{end_total, only_committed}
use Rattle.mvo_model.proofs.Serials.{after_history-append}
use Rattle.mvo_theory.specs.State.{StampedTx, timeline}
use Rattle.mvo_theory.specs.AfterTrace.{pairs}
use Rattle.mvo_theory.specs.Sound.{IsLegal}
use Rattle.mvo_theory.proofs.Each.{each_weaker, each_append}
use Rattle.mvo_theory.proofs.AfterTrace.{rising_all}
use Rattle.mvo_theory.proofs.Tales.{pairs-append, pairs_rise, each_pair, history_settled, legal_tale, legal_append}
use Rattle.mvo_readonly.specs.ReadAt.{WritesNothing, settled_before, IsReadAt}
use Rattle.mvo_readonly.specs.Whole.{CommittedReader, WholeState, opened_whole}
use Rattle.mvo_readonly.specs.WholeCalls.{own_trace, WholeRun, MayRunWhole, after_whole_run, whole_trace}
use Rattle.mvo_readonly.specs.WholeTale.{told_in}
use Rattle.mvo_readonly.specs.WholeKept.{IsCommittedReader, HaveDistinctIds, IsWholeKept, reader_commits}
use Rattle.mvo_readonly.proofs.WholeRuns.{whole_opened, whole_after_run}
use Rattle.mvo_readonly.proofs.Ordered.{Pairs, below, rows_of, AreNew, rise_new, rows_many, legal_many}

-- ---- the settled ones below b, as pairs
pub rows_before : (f : ℕ × ℕ → History) (b : ℕ) (xs : List StampedTx) (m : Map) → AllByRecursion (λ x. f (x.end, x.id) ≡ x.history) xs → after_history (settled_before b xs) m ≡ rows_of f (below b (pairs xs)) m
rows_before f b [] m h = refl
rows_before f b (x ∷ xs) m h =
    after_history-append (cond (x.settled && nat_lt x.end b) x.history []) (settled_before b xs) m
    ∙ go x.settled (nat_lt x.end b) refl (λ n. rows_before f b xs n h.1)
  where
    go : (s l : Bool) → nat_lt x.end b ≡ l → ((n : Map) → after_history (settled_before b xs) n ≡ rows_of f (below b (pairs xs)) n) → after_history (settled_before b xs) (after_history (cond (s && l) x.history []) m) ≡ rows_of f (below b (cond s ((x.end, x.id) ∷ pairs xs) (pairs xs))) m
    go false l e k = k m
    go true true e k = k (after_history x.history m) ∙ ap (λ ts. rows_of f (below b (pairs xs)) (after_history ts m)) (sym h.0) ∙ ap (λ (c : Bool). rows_of f (cond c ((x.end, x.id) ∷ below b (pairs xs)) (below b (pairs xs))) m) (sym e)
    go true false e k = k m ∙ ap (λ (c : Bool). rows_of f (cond c ((x.end, x.id) ∷ below b (pairs xs)) (below b (pairs xs))) m) (sym e)

pub each_committed : (P : ℕ × ℕ → Type 0) (ys : List CommittedReader) → AllByRecursion (λ y. P (y.id, y.id)) ys → AllByRecursion P (reader_commits ys)
each_committed P [] h = tt
each_committed P (y ∷ ys) h = (h.0, each_committed P ys h.1)

-- ---- those of a part of the committed read-only ones are new among the others
pub are_new : (ys : List CommittedReader) (xs : List StampedTx) → HaveDistinctIds ys → AllByRecursion (λ y. AllByRecursion (λ x. x.end ≢ y.id) xs) ys → AreNew (reader_commits ys) (pairs xs)
are_new [] xs a h = tt
are_new (y ∷ ys) xs a h = (
  each_append (λ (c : ℕ × ℕ). c.0 ≢ y.id) (reader_commits ys) (pairs xs) (each_committed (λ (c : ℕ × ℕ). c.0 ≢ y.id) ys a.0) (each_pair (λ n. n ≢ y.id) xs h.0),
  are_new ys xs a.1 h.1,
)

-- ---- what is kept over a list of calls
pub told_here : (opening : Map) (ws xs : List Step) (w : WholeState) → IsWholeKept opening ws xs w → AllByRecursion (λ x. told_in ws (x.end, x.id) ≡ x.history) (timeline w.core)
told_here opening ws xs w h = each_weaker (λ x. history_of x.id xs ≡ x.history) (λ x. history_of x.id ws ≡ x.history) (λ x e. h.histories x.id ∙ e) (timeline w.core) (each_append (λ x. history_of x.id xs ≡ x.history) w.core.past w.core.stamped h.kept.after_trace.past h.kept.after_trace.stamped)

pub committed_told : (opening : Map) (ws xs : List Step) (w : WholeState) → IsWholeKept opening ws xs w → AllByRecursion (λ y. (told_in ws (y.id, y.id) ≡ y.history) × IsReadAt opening (timeline w.core) y.id y.history) w.committed_readers
committed_told opening ws xs w h = each_weaker (IsCommittedReader opening xs w.core) (λ y. (history_of y.id ws ≡ y.history) × IsReadAt opening (timeline w.core) y.id y.history) (λ y q. (h.histories y.id ∙ q.told, q.read)) w.committed_readers h.committed_readers

pub idle_pairs : (opening : Map) (ws xs : List Step) (w : WholeState) → IsWholeKept opening ws xs w → AllByRecursion (λ d. WritesNothing (told_in ws d)) (reader_commits w.committed_readers)
idle_pairs opening ws xs w h = each_committed (λ d. WritesNothing (told_in ws d)) w.committed_readers (each_weaker _ (λ y. WritesNothing (told_in ws (y.id, y.id))) (λ y q. subst WritesNothing (sym q.0) q.1.idle) w.committed_readers (committed_told opening ws xs w h))

pub rise : (opening : Map) (ws xs : List Step) (w : WholeState) → IsWholeKept opening ws xs w → IsStrictlySortedBy end_cmp (pairs (timeline w.core))
rise opening ws xs w h = pairs_rise (timeline w.core) (rising_all w.core h.kept.sound h.kept.started)

pub new_pairs : (opening : Map) (ws xs : List Step) (w : WholeState) → IsWholeKept opening ws xs w → AreNew (reader_commits w.committed_readers) (pairs (timeline w.core))
new_pairs opening ws xs w h = are_new w.committed_readers (timeline w.core) h.apart (each_weaker (IsCommittedReader opening xs w.core) (λ y. AllByRecursion (λ x. x.end ≢ y.id) (timeline w.core)) (λ y q. q.read.others) w.committed_readers h.committed_readers)

-- the commit order: the others in the order of their ends, each read-only one at its begin
pub order_is : (opening : Map) (ws xs : List Step) (w : WholeState) → IsWholeKept opening ws xs w → committed ws ≡ in_order end_cmp (reader_commits w.committed_readers ++ pairs (timeline w.core))
order_is opening ws xs w h =
    let ds = reader_commits w.committed_readers in
    let cs = pairs (timeline w.core) in
    let new = rise_new ds cs (new_pairs opening ws xs w h) (rise opening ws xs w h) in
    let others : committed xs ≡ cs = h.kept.after_trace.tale ∙ sym (pairs-append w.core.past w.core.stamped) in
    let one : IsPermutation (commits xs) cs = subst (IsPermutation (commits xs)) others (in_order_same end_total (commits xs)) in
    sym (only_committed ws (in_order end_cmp (ds ++ cs)) (record {
      same = IsPermutation-trans (commits ws) (commits xs ++ ds) (in_order end_cmp (ds ++ cs)) h.commits
          (IsPermutation-trans (commits xs ++ ds) (cs ++ ds) (in_order end_cmp (ds ++ cs)) (IsPermutation-append_left ds (commits xs) cs one)
          (IsPermutation-trans (cs ++ ds) (ds ++ cs) (in_order end_cmp (ds ++ cs)) (IsPermutation-append_comm cs ds) new.same));
      rise = new.rise;
    }))

pub whole_is_serial : (opening : Map) (ws xs : List Step) (w : WholeState) → IsWholeKept opening ws xs w → IsSerial opening ws
whole_is_serial opening ws xs w h =
    let tl = timeline w.core in
    let f = told_in ws in
    subst (λ (l : Pairs). Legal opening (map f l)) (sym (order_is opening ws xs w h))
    (legal_many f (reader_commits w.committed_readers) (pairs tl) opening (rise opening ws xs w h) (new_pairs opening ws xs w h) (idle_pairs opening ws xs w h)
    (each_committed (λ d. AreSerial (f d) (rows_of f (below d.0 (pairs tl)) opening)) w.committed_readers
    (each_weaker _ (λ y. AreSerial (f (y.id, y.id)) (rows_of f (below y.id (pairs tl)) opening)) (λ y q. subst (λ ts. AreSerial ts (rows_of f (below y.id (pairs tl)) opening)) (sym q.0) (subst (AreSerial y.history) (rows_before f y.id tl opening (told_here opening ws xs w h)) q.1.serial)) w.committed_readers (committed_told opening ws xs w h)))
    (subst (Legal opening) (sym (history_settled ws tl (told_here opening ws xs w h)))
    (legal_tale opening tl (legal_append opening w.core.past w.core.stamped h.kept.after_trace.legal (subst (λ (m : Map). IsLegal m w.core.stamped) h.kept.after_trace.base h.kept.sound.legal)))))

-- THE THEOREM: for every list of calls, read-only transactions among them, the committed transactions'
-- replies are those of one map that runs them one after another by end timestamp, a read-only one's
-- being its begin
pub replies_are_serial : (rows : Map) (mark : ℕ) (d : WholeRun) → MayRunWhole (opened_whole rows mark) d → IsSerial rows (whole_trace (opened_whole rows mark) d)
replies_are_serial rows mark d m = whole_is_serial rows (whole_trace (opened_whole rows mark) d) (own_trace (opened_whole rows mark) d) (after_whole_run (opened_whole rows mark) d) (whole_after_run rows [] [] (opened_whole rows mark) d m (whole_opened rows mark))

-- ---- rows up to a mark are those of the others
pub same_rows : (f g : ℕ × ℕ → History) → ((c : ℕ × ℕ) → f c ≡ g c) → (cs : Pairs) (m : Map) → rows_of f cs m ≡ rows_of g cs m
same_rows f g e [] m = refl
same_rows f g e (c ∷ cs) m = ap (λ ts. rows_of f cs (after_history ts m)) (e c) ∙ same_rows f g e cs (after_history (g c) m)

pub rows_up_to_same : (opening : Map) (ws xs : List Step) (w : WholeState) (m : ℕ) → IsWholeKept opening ws xs w → rows_up_to m opening ws ≡ rows_up_to m opening xs
rows_up_to_same opening ws xs w m h =
    let cs = pairs (timeline w.core) in
    let p : ℕ × ℕ → Bool = λ c. nat_le c.0 m in
    ap (λ (l : Pairs). rows_of (told_in ws) (filter p l) opening) (order_is opening ws xs w h)
    ∙ rows_many (told_in ws) p (reader_commits w.committed_readers) cs opening (rise opening ws xs w h) (idle_pairs opening ws xs w h)
    ∙ same_rows (told_in ws) (told_in xs) (λ c. h.histories c.1) (filter p cs) opening
    ∙ ap (λ (l : Pairs). rows_of (told_in xs) (filter p l) opening) (pairs-append w.core.past w.core.stamped ∙ sym h.kept.after_trace.tale)
