-- The groups of a world hold the commits up to the last mark of them, and leave the rows after what these were told.
use Rattle.std.proofs.Common.{◌≡◌, ℕ, Bool, true, false, cond, List, [], ◌∷◌, ◌++◌, None, Some, map, refl, sym, ap, ◌∙◌, ◌<◌, ◌≤◌, subst, arith, append-nil}
use Rattle.std.specs.Prelude.{nat_lt, ◌&&◌, nat_le}
use Rattle.std.specs.List.{AllByRecursion, filter, fold}
use Rattle.std.specs.List.Sorted.{IsStrictlySortedBy}
use Rattle.std.specs.Ordering.{eq_by_cmp}
use Rattle.std.proofs.lemmas.Map.Keys.{IsDistinct-head, IsDistinct-from_sorted}
use Rattle.mvo_types.specs.declared.row.RowKey.{RowKey}
use Rattle.mvo_types.specs.Keys.{Map, key_cmp}
use Rattle.mvo_types.proofs.Maps.{keys_total, exact_keys}
use Rattle.mvo_types.specs.Write.{Write, content_after, content_after_last}
use Rattle.mvo_model.specs.History.{History, after_effect, after_history, after_histories}
use Rattle.mvo_model.proofs.Serials.{get-after_effect, get-after_history}
use Rattle.mvo_group.specs.Data.{RecordData, GroupData}
use Rattle.mvo_group.specs.Rules.{KeepsRules}
use Rattle.mvo_theory.specs.Groups.{is_due, is_writing, IsNextGroup}
use Rattle.mvo_theory.proofs.Footprints.{key_same}
use Rattle.mvo_theory.proofs.Places.{idle_leaves}
use Rattle.mvo_store.specs.Rows.{after_record, after_groups}
use Rattle.mvo_core.specs.Records.{IsRecordOf, AreRecordsOf, write_in, fits}
use Rattle.std.proofs.Math.Bool.{and-false}
use Rattle.std.proofs.lemmas.Bool.{lt-ltb, le-leb, leb-true, leb-false, le-ltb, lt-leb}
use Rattle.mvo_model.specs.Trace.{Step, history_of, rows_up_to}
use Rattle.mvo_theory.specs.State.{State, StampedTx, timeline}
use Rattle.mvo_theory.specs.Sound.{IsRising}
use Rattle.mvo_theory.specs.Marks.{Commit, IsClosedAt, StaysBelow, settled_to}
use Rattle.mvo_theory.specs.Calls.{IsKept}
use Rattle.mvo_theory.proofs.Groups.{next_group_closes}
use Rattle.mvo_theory.specs.AfterTrace.{IsAfterTrace, pairs}
use Rattle.mvo_theory.proofs.Tales.{pairs-append}
use Rattle.mvo_theory.proofs.Each.{each_append, each_weaker}
use Rattle.mvo_store.specs.Frames.{mark_after}
use Rattle.mvo_store.proofs.Grown.{after_groups-append}
use Rattle.mvo_core.specs.Groups.{HasRecordsOf, HaveRecordsOf}
use Rattle.std.specs.FinMap as fin

-- ---- one record
no_later : (q k : RowKey) (ws : List Write) → q ≡ k → AllByRecursion (λ (j : RowKey). eq_by_cmp key_cmp k j ≡ false) (map (λ w. w.0) ws) → write_in q ws ≡ None
no_later q k [] e h = refl
no_later q k (w ∷ ws) e h = ap (λ (b : Bool). cond b (Some w.1) (write_in q ws)) (ap (λ (j : RowKey). eq_by_cmp key_cmp j w.0) e ∙ h.0) ∙ no_later q k ws e h.1

abbrev after_writes : List Write → Map → Map
after_writes ws m = fold (λ n w. after_effect w.0 w.1 n) m ws

get-after_writes : (q : RowKey) (ws : List Write) (m : Map) → IsStrictlySortedBy key_cmp (map (λ w. w.0) ws) → fin.get (after_writes ws m) q ≡ content_after_last (write_in q ws) (fin.get m q)
unfolding IsStrictlySortedBy
get-after_writes q [] m h = refl
get-after_writes q (w ∷ ws) m h =
    get-after_writes q ws (after_effect w.0 w.1 m) h.1
    ∙ ap (content_after_last (write_in q ws)) (get-after_effect q w.0 w.1 m)
    ∙ go (eq_by_cmp key_cmp q w.0) refl
  where
    go : (b : Bool) → eq_by_cmp key_cmp q w.0 ≡ b → content_after_last (write_in q ws) (cond b (content_after w.1) (fin.get m q)) ≡ content_after_last (cond b (Some w.1) (write_in q ws)) (fin.get m q)
    go true t = ap (λ o. content_after_last o (content_after w.1)) (no_later q w.0 ws (sym (key_same q w.0 t)) (IsDistinct-head (eq_by_cmp key_cmp) w.0 (map (λ v. v.0) ws) (IsDistinct-from_sorted key_cmp (map (λ v. v.0) (w ∷ ws)) h)))
    go false t = refl

record_rows : (c : ℕ × History) (r : RecordData) (m : Map) → IsRecordOf c r → after_record m r ≡ after_history c.1 m
record_rows c r m is = fin.same_map keys_total exact_keys _ _ (λ q. get-after_writes q r.writes m is.rise ∙ ap (λ o. content_after_last o (fin.get m q)) (is.writes q) ∙ sym (get-after_history q c.1 m))

-- ---- one commit after another
abbrev pub left_by_all : List (ℕ × History) → Map → Map
left_by_all [] m = m
left_by_all (c ∷ cs) m = left_by_all cs (after_history c.1 m)

pub left_by_all-append : (cs ds : List (ℕ × History)) (m : Map) → left_by_all (cs ++ ds) m ≡ left_by_all ds (left_by_all cs m)
left_by_all-append [] ds m = refl
left_by_all-append (c ∷ cs) ds m = left_by_all-append cs ds (after_history c.1 m)

abbrev pub is_after : ℕ → ℕ × History → Bool
is_after prev c = nat_lt prev c.0

-- the records of those that wrote leave what they all leave
pub records_rows : (prev : ℕ) (cs : List (ℕ × History)) (rs : List RecordData) (m : Map) → AreRecordsOf (filter (is_due prev) cs) rs → fold after_record m rs ≡ left_by_all (filter (is_after prev) cs) m
records_rows prev [] [] m h = refl
records_rows prev [] (r ∷ rs) m h = absurd h
records_rows prev (c ∷ cs) rs m h = go (nat_lt prev c.0) (is_writing c) refl rs h (λ qs n k. records_rows prev cs qs n k)
  where
    go : (a b : Bool) → is_writing c ≡ b → (qs : List RecordData) → AreRecordsOf (cond (a && b) (c ∷ filter (is_due prev) cs) (filter (is_due prev) cs)) qs →
        ((ps : List RecordData) (n : Map) → AreRecordsOf (filter (is_due prev) cs) ps → fold after_record n ps ≡ left_by_all (filter (is_after prev) cs) n) →
        fold after_record m qs ≡ left_by_all (cond a (c ∷ filter (is_after prev) cs) (filter (is_after prev) cs)) m
    go false b e qs k ih = ih qs m k
    go true false e qs k ih = ih qs m k ∙ ap (left_by_all (filter (is_after prev) cs)) (sym (idle_leaves c.0 c.1 m e))
    go true true e [] k ih = absurd k
    go true true e (r ∷ qs) k ih = ap (λ (n : Map). fold after_record n qs) (record_rows c r m k.0) ∙ ih qs (after_history c.1 m) k.1

-- ---- rows up to a mark, by the line
rows_of_line : (m : ℕ) (line : List StampedTx) (steps : List Step) (rows : Map) → AllByRecursion (λ (x : StampedTx). history_of x.id steps ≡ x.history) line → after_histories (map (λ (c : ℕ × ℕ). history_of c.1 steps) (filter (λ (c : ℕ × ℕ). nat_le c.0 m) (pairs line))) rows ≡ left_by_all (settled_to m line) rows
rows_of_line m [] steps rows h = refl
rows_of_line m (x ∷ xs) steps rows h =
    let with = rows_of_line m xs steps (after_history x.history rows) h.1 in
    let without = rows_of_line m xs steps rows h.1 in
    grind (arith, h.0, with, without)

-- the tale is not trimmed
pub rows_up_to_is : (m : ℕ) (opening : Map) (steps : List Step) (s : State) → IsAfterTrace opening steps s → rows_up_to m opening steps ≡ left_by_all (settled_to m (timeline s)) opening
rows_up_to_is m opening steps s h =
    ap (λ (cs : List (ℕ × ℕ)). after_histories (map (λ (c : ℕ × ℕ). history_of c.1 steps) (filter (λ (c : ℕ × ℕ). nat_le c.0 m) cs)) opening) (h.tale ∙ sym (pairs-append s.past s.stamped))
    ∙ rows_of_line m (timeline s) steps opening (each_append (λ (x : StampedTx). history_of x.id steps ≡ x.history) s.past s.stamped h.past h.stamped)

-- ---- the commits up to one mark, and those up to a later one
none_to : (m : ℕ) (xs : List StampedTx) → AllByRecursion (λ (x : StampedTx). m < x.end) xs → settled_to m xs ≡ []
none_to m [] h = refl
none_to m (x ∷ xs) h = simp (lt-leb x.end m h.0, and-false, none_to m xs h.1)

rows_after_all : (m n : ℕ) (xs : List StampedTx) → AllByRecursion (λ (x : StampedTx). m < x.end) xs → filter (is_after m) (settled_to n xs) ≡ settled_to n xs
rows_after_all m n [] h = refl
rows_after_all m n (x ∷ xs) h = grind (arith, lt-ltb m x.end h.0, rows_after_all m n xs h.1)

pub parts : (m n : ℕ) (xs : List StampedTx) → m ≤ n → IsRising xs → settled_to n xs ≡ settled_to m xs ++ filter (is_after m) (settled_to n xs)
parts m n [] le h = refl
parts m n (x ∷ xs) le h = go (nat_le x.end m) refl (parts m n xs le h.1)
  where
    go : (b : Bool) → nat_le x.end m ≡ b → settled_to n xs ≡ settled_to m xs ++ filter (is_after m) (settled_to n xs) → settled_to n (x ∷ xs) ≡ settled_to m (x ∷ xs) ++ filter (is_after m) (settled_to n (x ∷ xs))
    go true e r = let low = leb-true x.end m e in grind (arith, e, le-leb x.end n (omega arith), le-ltb m x.end low, r)
    go false e r =
        let high = leb-false x.end m e in
        let all : AllByRecursion (λ (y : StampedTx). m < y.end) (x ∷ xs) = (high, each_weaker (λ (y : StampedTx). x.end < y.end) (λ (y : StampedTx). m < y.end) (λ y lt. omega arith) xs h.0) in
        rw (none_to m (x ∷ xs) all, rows_after_all m n (x ∷ xs) all) refl

-- ---- the rows that the groups leave
pub chain_rows : (s : State) (mark : ℕ) (gs : List GroupData) (rows : Map) → IsRising (timeline s) → HaveRecordsOf s mark gs → after_groups (left_by_all (settled_to mark (timeline s)) rows) gs ≡ left_by_all (settled_to (mark_after mark gs) (timeline s)) rows
chain_rows s mark [] rows h gs = refl
chain_rows s mark (g ∷ more) rows h gs =
    let prev = gs.0 in
    let it = gs.1 in
    let lt = it.rules.above in
    let le : mark ≤ g.mark = omega arith in
    let before = left_by_all (settled_to mark (timeline s)) rows in
    after_groups-append before (g ∷ []) more
    ∙ ap (λ (m : Map). after_groups m more) (
    ap (λ (rs : List RecordData). fold after_record before rs) (append-nil g.records)
    ∙ records_rows g.prev (settled_to g.mark (timeline s)) g.records (left_by_all (settled_to mark (timeline s)) rows) it.records
    ∙ ap (λ (n : ℕ). left_by_all (filter (is_after n) (settled_to g.mark (timeline s))) (left_by_all (settled_to mark (timeline s)) rows)) prev
    ∙ sym (left_by_all-append (settled_to mark (timeline s)) (filter (is_after mark) (settled_to g.mark (timeline s))) rows)
    ∙ ap (λ cs. left_by_all cs rows) (sym (parts mark g.mark (timeline s) le h)))
    ∙ chain_rows s g.mark more rows h gs.2

-- the group that a core closes holds the commits up to its mark
pub group_of_next : (opening : Map) (steps : List Step) (s : State) (g : GroupData) (commits : List Commit) → IsKept opening steps s → IsClosedAt s.marks.closed s → IsNextGroup fits s (record { prev = g.prev; mark = g.mark; commits = commits }) → AreRecordsOf commits g.records → KeepsRules g → HasRecordsOf s g
group_of_next opening steps s g commits kept closed next records rules =
    let q = next_group_closes opening steps s fits (record { prev = g.prev; mark = g.mark; commits = commits }) kept closed next in
    record { closed = q.closed; records = subst (λ (cs : List Commit). AreRecordsOf cs g.records) q.commits records; rules = rules }

-- ---- what stays
pub groups_stay : (s s' : State) (mark : ℕ) (gs : List GroupData) → StaysBelow s s' → HaveRecordsOf s mark gs → HaveRecordsOf s' mark gs
groups_stay s s' mark [] stays h = tt
groups_stay s s' mark (g ∷ gs) stays h =
    let kept = stays g.mark h.1.closed in
    (h.0, record { closed = kept.0; records = subst (λ cs. AreRecordsOf (filter (is_due g.prev) cs) g.records) (sym kept.1) h.1.records; rules = h.1.rules }, groups_stay s s' g.mark gs stays h.2)
