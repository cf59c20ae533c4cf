-- An operation depends on the same transactions by the whole trace as by the core's own.
use Rattle.std.proofs.Common.{◌≡◌, ℕ, ◌<◌, Bool, true, false, cond, not, ◌||◌, ◌⊎◌, inl, inr, List, [], ◌∷◌, ◌++◌, Option, None, Some, refl, sym, ap, ◌∙◌, subst}
use Rattle.std.specs.Prelude.{◌==◌, ◌&&◌, nat_lt, is_some}
use Rattle.std.specs.FinMap as fin
use Rattle.std.specs.List.{AllByRecursion, filter, list_any}
use Rattle.std.proofs.lemmas.Bool.{true≢false, eqb-true, and_parts}
use Rattle.mvo_types.specs.declared.row.RowKey.{RowKey}
use Rattle.mvo_types.specs.declared.op.Op.{Op}
use Rattle.mvo_types.specs.Keys.{Map}
use Rattle.mvo_model.specs.History.{History, net_write}
use Rattle.mvo_model.specs.Trace.{Step, committed, history_of, phase_of}
use Rattle.mvo_model.specs.Trace.Phase.{Preparing as IsPreparing}
use Rattle.mvo_types.specs.declared.entry.Entry.{Entry}
use Rattle.mvo_types.specs.declared.entry.Entry.TheVariants.{Key, Range}
use Rattle.mvo_theory.specs.Entries.{entry_of}
use Rattle.mvo_theory.specs.Ranges.{Row, shows, pass, puts, put_by, is_row_of}
use Rattle.mvo_theory.specs.Snapshots.{prepares, is_aborted}
use Rattle.mvo_theory.specs.Traced.{IsLastWriter}
use Rattle.mvo_theory.proofs.Each.{each_weaker}
use Rattle.mvo_theory.specs.rests.Resting.{is_put_between, LooksAt, DependsNow}
use Rattle.mvo_readonly.specs.ReadAt.{WritesNothing}
use Rattle.mvo_readonly.specs.Whole.{ReaderStage, WholeState, stage_of}
use Rattle.mvo_readonly.specs.WholeKept.{IsWholeKept}
use Rattle.mvo_readonly.specs.BothTraces.{NoPrepare, IsMatched, is_others, IsGiven, AreGiven}
use Rattle.mvo_readonly.proofs.Stages.{core_stands}
use Rattle.mvo_readonly.proofs.Serials.{rows_up_to_same}
use Rattle.mvo_readonly.proofs.Depending.{no_phase, last_whole}
use Rattle.mvo_readonly.proofs.Claims.{committed_whole}
use Rattle.mvo_readonly.proofs.Snapshots.{each_kept, prepared, not_not}
use Rattle.mvo_readonly.proofs.Differing.{among}
use Rattle.mvo_readonly.proofs.Conflicting.{is_pair, each_there, wrote}

-- ---- the last writer
pub last_own : (opening : Map) (ws xs : List Step) (w : WholeState) (k : RowKey) (b x e : ℕ) → IsWholeKept opening ws xs w → IsLastWriter ws k b x e → IsLastWriter xs k b x e
last_own opening ws xs w k b x e h l = record {
  preparing = stands (stage_of x w.readers) refl;
  below = l.below;
  writes = sym (ap (λ ts. is_some (net_write k ts)) (h.histories x)) ∙ l.writes;
  no_preparing = λ z n p f g. none z n p f g (stage_of z w.readers) refl;
  no_committed = each_weaker (λ c. list_any (is_pair c) (committed xs) ≡ true) P one (committed xs) (each_there (committed xs));
}
  where
    P : ℕ × ℕ → Type 0
    P c = e < c.0 → c.0 < b → net_write k (history_of c.1 xs) ≡ None

    same : (c d : ℕ × ℕ) → (e < d.0 → d.0 < b → net_write k (history_of d.1 ws) ≡ None) → is_pair c d ≡ true → P c
    same c d r i f g =
        let p = and_parts (d.0 == c.0) (d.1 == c.1) i in
        let j = eqb-true d.0 c.0 p.0 in
        sym (ap (λ (t : ℕ). net_write k (history_of t ws)) (eqb-true d.1 c.1 p.1) ∙ ap (net_write k) (h.histories c.1)) ∙ r (subst (λ (m : ℕ). e < m) (sym j) f) (subst (λ (m : ℕ). m < b) (sym j) g)

    one : (c : ℕ × ℕ) → list_any (is_pair c) (committed xs) ≡ true → P c
    one c m = among (is_pair c) (P c) (committed ws) (each_weaker (λ d. e < d.0 → d.0 < b → net_write k (history_of d.1 ws) ≡ None) (λ d. is_pair c d ≡ true → P c) (λ d. same c d) (committed ws) l.no_committed) (committed_whole opening ws xs w (is_pair c) h m)

    stands : (p : Option ReaderStage) → stage_of x w.readers ≡ p → phase_of x xs ≡ IsPreparing e
    stands None f = sym (h.phases x f) ∙ l.preparing
    stands (Some p) f = absurd (wrote k x ws xs (h.histories x) l.writes (core_stands ws xs w.core x w.readers p f h.readers).2)

    none : (z n : ℕ) → phase_of z xs ≡ IsPreparing n → e < n → n < b → (p : Option ReaderStage) → stage_of z w.readers ≡ p → net_write k (history_of z xs) ≡ None
    none z n p f g None i = sym (ap (net_write k) (h.histories z)) ∙ l.no_preparing z n (h.phases z i ∙ p) f g
    none z n p f g (Some r) i = absurd (no_phase r n (sym (core_stands ws xs w.core z w.readers r i h.readers).0 ∙ p))

-- ---- the rows that were put
idle_puts : (ts : History) → WritesNothing ts → puts ts ≡ []
idle_puts [] h = refl
idle_puts (t ∷ ts) h = ap (λ w. put_by w ++ puts ts) h.0 ∙ idle_puts ts h.1

any_alike : (f g p q r : ℕ × ℕ → Bool) (cs : List (ℕ × ℕ)) → ((c : ℕ × ℕ) → f c ≡ g c) → AllByRecursion (λ c. r c ≡ false → f c ≡ false) cs → AllByRecursion (λ c. r c ≡ true → p c ≡ q c) cs →
    list_any f (filter p cs) ≡ list_any g (filter q (filter r cs))
any_alike f g p q r [] s h a = refl
any_alike f g p q r (c ∷ cs) s h a = go (r c) (p c) (q c) refl refl refl (any_alike f g p q r cs s h.1 a.1)
  where
    go : (x y z : Bool) → r c ≡ x → p c ≡ y → q c ≡ z → list_any f (filter p cs) ≡ list_any g (filter q (filter r cs)) → list_any f (cond y (c ∷ filter p cs) (filter p cs)) ≡ list_any g (filter q (cond x (c ∷ filter r cs) (filter r cs)))
    go false true z e i j k = ap (λ (b : Bool). b || list_any f (filter p cs)) (h.0 e) ∙ k
    go false false z e i j k = k
    go true true true e i j k = ap (λ (b : Bool). b || list_any f (filter p cs)) (s c) ∙ ap (λ (b : Bool). g c || b) k ∙ ap (λ (v : Bool). list_any g (cond v (c ∷ filter q (filter r cs)) (filter q (filter r cs)))) (sym j)
    go true false false e i j k = k ∙ ap (λ (v : Bool). list_any g (cond v (c ∷ filter q (filter r cs)) (filter q (filter r cs)))) (sym j)
    go true true false e i j k = absurd (true≢false (sym i ∙ a.0 e ∙ j))
    go true false true e i j k = absurd (true≢false (sym j ∙ sym (a.0 e) ∙ i))

aborted_same : (opening : Map) (ws xs : List Step) (w : WholeState) (u : ℕ) → IsMatched ws xs w → AreGiven opening ws xs w → (NoPrepare u xs → ⊥) → is_aborted u ws ≡ is_aborted u xs
aborted_same opening ws xs w u k g n = go (is_aborted u ws) (is_aborted u xs) refl refl
  where
    other : is_aborted u ws ≡ false → (is_aborted u ws ≡ true) ⊎ NoPrepare u xs → ⊥
    other e (inl q) = true≢false (sym q ∙ e)
    other e (inr q) = n q

    go : (a b : Bool) → is_aborted u ws ≡ a → is_aborted u xs ≡ b → a ≡ b
    go true true e f = refl
    go false false e f = refl
    go true false e f = absurd (true≢false (sym (g.aborts u e) ∙ f))
    go false true e f = absurd (other e (k.aborts u f))

pub put_between_same : (opening : Map) (ws xs : List Step) (w : WholeState) (p : Row → Bool) (q : RowKey) (m b : ℕ) → IsWholeKept opening ws xs w → IsMatched ws xs w → AreGiven opening ws xs w → is_put_between p q m b ws ≡ is_put_between p q m b xs
put_between_same opening ws xs w p q m b h k g =
    any_alike (put_in ws) (put_in xs) (λ c. not (is_aborted c.1 ws)) (λ c. not (is_aborted c.1 xs)) is_others (prepares ws)
    (λ c. ap (λ ts. (nat_lt m c.0 && nat_lt c.0 b) && list_any (is_row_of p q) (puts ts)) (h.histories c.1))
    (each_weaker (IsGiven ws xs w) (λ c. is_others c ≡ false → put_in ws c ≡ false) (λ c i e. none c (subst WritesNothing (sym (h.histories c.1)) (i.idle (eqb-true c.0 c.1 (not_not (c.0 == c.1) e))))) (prepares ws) g.each)
    (each_kept (λ c. not (is_aborted c.1 ws) ≡ not (is_aborted c.1 xs)) is_others (prepares ws) (subst (AllByRecursion (λ c. not (is_aborted c.1 ws) ≡ not (is_aborted c.1 xs))) (sym g.order) (each_weaker (λ (c : ℕ × ℕ). NoPrepare c.1 xs → ⊥) (λ c. not (is_aborted c.1 ws) ≡ not (is_aborted c.1 xs)) (λ c n. ap not (aborted_same opening ws xs w c.1 k g n)) (prepares xs) (prepared xs))))
    ∙ ap (λ cs. list_any (put_in xs) (filter (λ (c : ℕ × ℕ). not (is_aborted c.1 xs)) cs)) g.order
  where
    put_in : List Step → ℕ × ℕ → Bool
    put_in steps c = (nat_lt m c.0 && nat_lt c.0 b) && list_any (is_row_of p q) (puts (history_of c.1 steps))

    none : (c : ℕ × ℕ) → WritesNothing (history_of c.1 ws) → put_in ws c ≡ false
    none c i = ap (λ rs. (nat_lt m c.0 && nat_lt c.0 b) && list_any (is_row_of p q) rs) (idle_puts (history_of c.1 ws) i) ∙ last (nat_lt m c.0 && nat_lt c.0 b)
      where
        last : (v : Bool) → (v && false) ≡ false
        last true = refl
        last false = refl

-- ---- at what is looked, and on whom is depended
looks_same : (opening : Map) (ws xs : List Step) (w : WholeState) (m b : ℕ) (e : Entry) (q : RowKey) → IsWholeKept opening ws xs w → IsMatched ws xs w → AreGiven opening ws xs w → LooksAt opening ws m b e q ≡ LooksAt opening xs m b e q
looks_same opening ws xs w m b (Key k) q h g i = refl
looks_same opening ws xs w m b (Range t lo hi) q h g i =
    ap (λ (r : Map). (is_some (pass (shows (Range t lo hi)) q (fin.get r q)) || is_put_between (shows (Range t lo hi)) q m b ws) ≡ true) (rows_up_to_same opening ws xs w m h)
    ∙ ap (λ (v : Bool). (is_some (pass (shows (Range t lo hi)) q (fin.get (Rattle.mvo_model.specs.Trace.rows_up_to m opening xs) q)) || v) ≡ true) (put_between_same opening ws xs w (shows (Range t lo hi)) q m b h g i)

pub depends_now_own : (opening : Map) (ws xs : List Step) (w : WholeState) (m t : ℕ) (op : Op) (x e : ℕ) → IsWholeKept opening ws xs w → IsMatched ws xs w → AreGiven opening ws xs w → DependsNow opening ws m t op x e → DependsNow opening xs m t op x e
depends_now_own opening ws xs w m t op x e h k g d = record {
  key = d.key;
  looked = subst (λ (A : Type 0). A) (looks_same opening ws xs w m t (entry_of op) d.key h k g) d.looked;
  unwritten = sym (ap (λ ts. is_some (net_write d.key ts)) (h.histories t)) ∙ d.unwritten;
  writer = last_own opening ws xs w d.key t x e h d.writer;
}

pub depends_now_whole : (opening : Map) (ws xs : List Step) (w : WholeState) (m t : ℕ) (op : Op) (x e : ℕ) → IsWholeKept opening ws xs w → IsMatched ws xs w → AreGiven opening ws xs w → DependsNow opening xs m t op x e → DependsNow opening ws m t op x e
depends_now_whole opening ws xs w m t op x e h k g d = record {
  key = d.key;
  looked = subst (λ (A : Type 0). A) (sym (looks_same opening ws xs w m t (entry_of op) d.key h k g)) d.looked;
  unwritten = ap (λ ts. is_some (net_write d.key ts)) (h.histories t) ∙ d.unwritten;
  writer = last_whole opening ws xs w d.key t x e h d.writer;
}
