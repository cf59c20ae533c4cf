-- What a committed read-only transaction was told stays right, whatever becomes of those with an end.
use Rattle.std.proofs.Common.{◌≡◌, ◌≢◌, ℕ, ◌<◌, ◌≤◌, Bool, true, false, cond, not, ◌||◌, List, [], ◌∷◌, ◌++◌, None, map, refl, sym, ap, ◌∙◌, subst, arith, append_assoc}
use Rattle.std.specs.Prelude.{nat_lt, ◌==◌, ◌&&◌}
use Rattle.std.specs.List.{AllByRecursion, filter}
use Rattle.std.proofs.lemmas.Bool.{eqb-true, ne_eqb, true≢false, ltb-true, ltb-false, le-ltb, and_right}
use Rattle.mvo_types.specs.Keys.{Map}
use Rattle.mvo_model.specs.History.{History, after_history, AreSerial}
use Rattle.mvo_model.proofs.Serials.{after_history-append}
use Rattle.mvo_types.specs.declared.entry.Entry.{Entry}
use Rattle.mvo_theory.specs.Entries.{entry_of}
use Rattle.mvo_types.specs.declared.entry.Entry.TheVariants.{Key, Range}
use Rattle.mvo_theory.specs.Ranges.{AgreeOn, AllAgreeOn, footprint_of}
use Rattle.mvo_theory.specs.State.{StampedTx}
use Rattle.mvo_theory.specs.Changes.{with_check, with_settled, with_flag, not_at}
use Rattle.mvo_theory.specs.Sound.{LeavesAlone, IsApart, IsRising, IsLegal}
use Rattle.mvo_theory.proofs.Each.{each_weaker, each_always, each_append, each_front, each_back, each_map, each_filter}
use Rattle.mvo_theory.proofs.Footprints.{unchanged_agree}
use Rattle.mvo_theory.proofs.Looks.{serial_agrees, all_agree_left}
use Rattle.mvo_theory.proofs.Settle.{changes_not, or-false, map-both, apart_settled}
use Rattle.mvo_theory.proofs.Ends.{spared}
use Rattle.mvo_readonly.specs.ReadAt.{settled_before, IsReadAt}

-- ---- the settled ones below b
pub before-append : (b : ℕ) (xs ys : List StampedTx) → settled_before b (xs ++ ys) ≡ settled_before b xs ++ settled_before b ys
before-append b [] ys = refl
before-append b (x ∷ xs) ys =
    ap (λ ts. cond (x.settled && nat_lt x.end b) x.history [] ++ ts) (before-append b xs ys)
    ∙ sym (append_assoc (cond (x.settled && nat_lt x.end b) x.history []) (settled_before b xs) (settled_before b ys))

pub before_none : (b : ℕ) (xs : List StampedTx) → AllByRecursion (λ x. b ≤ x.end) xs → settled_before b xs ≡ []
before_none b [] h = refl
before_none b (x ∷ xs) h = ap (λ (c : Bool). cond c x.history [] ++ settled_before b xs) (and_right x.settled (nat_lt x.end b) (le-ltb x.end b h.0)) ∙ before_none b xs h.1

-- ---- a change of those behind the past that keeps the settled ones below b
pub seen_back : (opening : Map) (past ys zs : List StampedTx) (b : ℕ) (ts : History) → settled_before b zs ≡ settled_before b ys →
    (AllByRecursion (λ x. x.settled ≡ false → x.end < b → IsApart x ts) ys → AllByRecursion (λ x. x.settled ≡ false → x.end < b → IsApart x ts) zs) →
    (AllByRecursion (λ x. x.end ≢ b) ys → AllByRecursion (λ x. x.end ≢ b) zs) → IsReadAt opening (past ++ ys) b ts → IsReadAt opening (past ++ zs) b ts
seen_back opening past ys zs b ts e f g h = record {
  serial = subst (λ (us : History). AreSerial ts (after_history us opening)) (before-append b past ys ∙ ap (λ us. settled_before b past ++ us) (sym e) ∙ sym (before-append b past zs)) h.serial;
  apart = each_append (λ x. x.settled ≡ false → x.end < b → IsApart x ts) past zs (each_front (λ x. x.settled ≡ false → x.end < b → IsApart x ts) past ys h.apart) (f (each_back (λ x. x.settled ≡ false → x.end < b → IsApart x ts) past ys h.apart));
  others = each_append (λ x. x.end ≢ b) past zs (each_front (λ x. x.end ≢ b) past ys h.others) (g (each_back (λ x. x.end ≢ b) past ys h.others));
  idle = h.idle;
}

-- ---- one more, with an end above b
before_last : (b : ℕ) (xs : List StampedTx) (y : StampedTx) → b ≤ y.end → settled_before b (xs ++ y ∷ []) ≡ settled_before b xs
before_last b [] y le = ap (λ (c : Bool). cond c y.history [] ++ []) (and_right y.settled (nat_lt y.end b) (le-ltb y.end b le))
before_last b (x ∷ xs) y le = ap (λ ts. cond (x.settled && nat_lt x.end b) x.history [] ++ ts) (before_last b xs y le)

pub read_prepared : (opening : Map) (past ys : List StampedTx) (y : StampedTx) (b : ℕ) (ts : History) → b < y.end → IsReadAt opening (past ++ ys) b ts → IsReadAt opening (past ++ (ys ++ y ∷ [])) b ts
read_prepared opening past ys y b ts lt h = seen_back opening past ys (ys ++ y ∷ []) b ts (before_last b ys y (omega arith))
    (λ q. each_append (λ x. x.settled ≡ false → x.end < b → IsApart x ts) ys (y ∷ []) q ((λ o l. absurd (omega arith)), tt))
    (λ q. each_append (λ x. x.end ≢ b) ys (y ∷ []) q ((λ e. absurd (omega arith)), tt)) h

-- ---- a check
alone_checked : (e : ℕ) (v : Bool) (x : StampedTx) (d : Entry) → LeavesAlone x d → LeavesAlone (with_check e v x) d
alone_checked e v x (Key k) h = h
alone_checked e v x (Range t lo hi) h = h

apart_checked : (e : ℕ) (v : Bool) (x : StampedTx) (ts : History) → IsApart x ts → IsApart (with_check e v x) ts
apart_checked e v x ts h = each_weaker (λ o. LeavesAlone x (entry_of o.0)) (λ o. LeavesAlone (with_check e v x) (entry_of o.0)) (λ o. alone_checked e v x (entry_of o.0)) ts h

before_checked : (b e : ℕ) (v : Bool) (xs : List StampedTx) → settled_before b (map (with_check e v) xs) ≡ settled_before b xs
before_checked b e v [] = refl
before_checked b e v (x ∷ xs) = ap (λ ts. cond (x.settled && nat_lt x.end b) x.history [] ++ ts) (before_checked b e v xs)

pub read_checked : (opening : Map) (past ys : List StampedTx) (e : ℕ) (v : Bool) (b : ℕ) (ts : History) → IsReadAt opening (past ++ ys) b ts → IsReadAt opening (past ++ map (with_check e v) ys) b ts
read_checked opening past ys e v b ts h = seen_back opening past ys (map (with_check e v) ys) b ts (before_checked b e v ys)
    (λ q. each_map (with_check e v) (λ x. x.settled ≡ false → x.end < b → IsApart x ts) (λ x. x.settled ≡ false → x.end < b → IsApart x ts) (λ x f o l. apart_checked e v x ts (f o l)) ys q)
    (λ q. each_map (with_check e v) (λ x. x.end ≢ b) (λ x. x.end ≢ b) (λ x f. f) ys q) h

-- ---- an abort of a Preparing one
alone_flagged : (t e : ℕ) (x : StampedTx) (d : Entry) → LeavesAlone x d → LeavesAlone (with_flag t e x) d
alone_flagged t e x (Key k) h = h
alone_flagged t e x (Range u lo hi) h = λ q. h (spared t e x.depends_on x.aborted_dependency q).0

apart_flagged : (t e : ℕ) (x : StampedTx) (ts : History) → IsApart x ts → IsApart (with_flag t e x) ts
apart_flagged t e x ts h = each_weaker (λ o. LeavesAlone x (entry_of o.0)) (λ o. LeavesAlone (with_flag t e x) (entry_of o.0)) (λ o. alone_flagged t e x (entry_of o.0)) ts h

before_aborted : (b t e : ℕ) (xs : List StampedTx) → AllByRecursion (λ x. x.end ≡ e → x.settled ≡ false) xs → settled_before b (map (with_flag t e) (filter (not_at e) xs)) ≡ settled_before b xs
before_aborted b t e [] h = refl
before_aborted b t e (x ∷ xs) h = go (x.end == e) refl (before_aborted b t e xs h.1)
  where
    go : (c : Bool) → (x.end == e) ≡ c → settled_before b (map (with_flag t e) (filter (not_at e) xs)) ≡ settled_before b xs → settled_before b (map (with_flag t e) (cond (not c) (x ∷ filter (not_at e) xs) (filter (not_at e) xs))) ≡ cond (x.settled && nat_lt x.end b) x.history [] ++ settled_before b xs
    go true f q = q ∙ sym (ap (λ (d : Bool). cond (d && nat_lt x.end b) x.history [] ++ settled_before b xs) (h.0 (eqb-true x.end e f)))
    go false f q = ap (λ ts. cond (x.settled && nat_lt x.end b) x.history [] ++ ts) q

pub read_aborted : (opening : Map) (past ys : List StampedTx) (t e b : ℕ) (ts : History) → AllByRecursion (λ x. x.end ≡ e → x.settled ≡ false) ys → IsReadAt opening (past ++ ys) b ts → IsReadAt opening (past ++ map (with_flag t e) (filter (not_at e) ys)) b ts
read_aborted opening past ys t e b ts o h = seen_back opening past ys (map (with_flag t e) (filter (not_at e) ys)) b ts (before_aborted b t e ys o)
    (λ q. each_map (with_flag t e) (λ x. x.settled ≡ false → x.end < b → IsApart x ts) (λ x. x.settled ≡ false → x.end < b → IsApart x ts) (λ x f p l. apart_flagged t e x ts (f p l)) (filter (not_at e) ys)
    (each_filter (not_at e) (λ x. x.settled ≡ false → x.end < b → IsApart x ts) (λ x. x.settled ≡ false → x.end < b → IsApart x ts) (λ x _ f. f) ys q))
    (λ q. each_map (with_flag t e) (λ x. x.end ≢ b) (λ x. x.end ≢ b) (λ x f. f) (filter (not_at e) ys) (each_filter (not_at e) (λ x. x.end ≢ b) (λ x. x.end ≢ b) (λ x _ f. f) ys q)) h

-- ---- a commit, also of one that ends below b
before_away : (b e : ℕ) (xs : List StampedTx) → AllByRecursion (λ x. x.end ≢ e) xs → settled_before b (map (with_settled e) xs) ≡ settled_before b xs
before_away b e [] h = refl
before_away b e (x ∷ xs) h =
    ap (λ ts. cond ((x.settled || (x.end == e)) && nat_lt x.end b) x.history [] ++ ts) (before_away b e xs h.1)
    ∙ ap (λ (c : Bool). cond (c && nat_lt x.end b) x.history [] ++ settled_before b xs) (or-false x.settled (x.end == e) (ne_eqb x.end e h.0))

same_agree : (ts : History) (m n : Map) → m ≡ n → AllAgreeOn ts m n
same_agree ts m n e = subst (AllAgreeOn ts m) e (each_always (λ o. AgreeOn (entry_of o.0) m m) (λ o q. refl) ts)

abbrev IsOpenAt : ℕ → StampedTx → Type 0
IsOpenAt e x = x.end ≡ e → (x.settled ≡ false) × (x.aborted_dependency ≡ None)

commit_agrees : (e b : ℕ) (ts : History) (m : Map) (xs : List StampedTx) → IsRising xs → IsLegal m (map (with_settled e) xs) → AllByRecursion (IsOpenAt e) xs → AllByRecursion (λ x. x.settled ≡ false → x.end < b → IsApart x ts) xs →
    AllAgreeOn ts (after_history (settled_before b xs) m) (after_history (settled_before b (map (with_settled e) xs)) m)
commit_agrees e b ts m [] r l o a = same_agree ts m m refl
commit_agrees e b ts m (x ∷ xs) r l o a = go x.settled (x.end == e) (nat_lt x.end b) refl refl refl l (λ n k. commit_agrees e b ts n xs r.1 k o.1 a.1)
  where
    back : List StampedTx
    back = map (with_settled e) xs

    away : x.end ≡ e → AllByRecursion (λ y. y.end ≢ e) xs
    away is = each_weaker (λ y. x.end < y.end) (λ y. y.end ≢ e) (λ y lt i. absurd (omega arith)) xs r.0

    prefixed : (us : History) → AllAgreeOn ts (after_history (settled_before b xs) (after_history us m)) (after_history (settled_before b back) (after_history us m)) → AllAgreeOn ts (after_history (us ++ settled_before b xs) m) (after_history (us ++ settled_before b back) m)
    prefixed us h = subst (λ n. AllAgreeOn ts n (after_history (us ++ settled_before b back) m)) (sym (after_history-append us (settled_before b xs) m)) (subst (AllAgreeOn ts (after_history (settled_before b xs) (after_history us m))) (sym (after_history-append us (settled_before b back) m)) h)

    go : (s c l' : Bool) → x.settled ≡ s → (x.end == e) ≡ c → nat_lt x.end b ≡ l' → ((s || c) ≡ true → AreSerial x.history m × (footprint_of x.history m ≡ x.footprint)) × IsLegal (after_history (cond (s || c) x.history []) m) back →
        ((n : Map) → IsLegal n back → AllAgreeOn ts (after_history (settled_before b xs) n) (after_history (settled_before b back) n)) →
        AllAgreeOn ts (after_history (cond (s && l') x.history [] ++ settled_before b xs) m) (after_history (cond ((s || c) && l') x.history [] ++ settled_before b back) m)
    go true true l' f g i k q = absurd (true≢false (sym f ∙ (o.0 (eqb-true x.end e g)).0))
    go false true true f g i k q =
        let is = eqb-true x.end e g in
        let mine : AllAgreeOn ts m (after_history x.history m) =
        each_weaker (λ w. LeavesAlone x (entry_of w.0)) (λ w. AgreeOn (entry_of w.0) m (after_history x.history m)) (λ w n. unchanged_agree (entry_of w.0) x m (k.0 refl).1 (changes_not x (entry_of w.0) (o.0 is).1 n)) ts (a.0 f (ltb-true x.end b i)) in
        subst (AllAgreeOn ts (after_history (settled_before b xs) m)) (sym (after_history-append x.history (settled_before b back) m ∙ ap (λ us. after_history us (after_history x.history m)) (before_away b e xs (away is))))
        (all_agree_left ts (settled_before b xs) m (after_history x.history m) mine)
    go false true false f g i k q = same_agree ts _ _ (ap (λ us. after_history us m) (sym (before_away b e xs (away (eqb-true x.end e g)))))
    go false false l' f g i k q = q m k.1
    go true false true f g i k q = prefixed x.history (q (after_history x.history m) k.1)
    go true false false f g i k q =
        let above = ltb-false x.end b i in
        let none = each_weaker (λ y. x.end < y.end) (λ y. b ≤ y.end) (λ y lt. omega arith) xs r.0 in
        same_agree ts _ _ (ap (λ us. after_history us m) (before_none b xs none ∙ sym (before_none b back (each_map (with_settled e) (λ y. b ≤ y.end) (λ y. b ≤ y.end) (λ y p. p) xs none))))

open_before : (a b : Bool) → (a || b) ≡ false → a ≡ false
open_before true b h = absurd (true≢false h)
open_before false b h = refl

read_of_settled : (opening : Map) (xs : List StampedTx) (e b : ℕ) (ts : History) → IsRising xs → IsLegal opening (map (with_settled e) xs) → AllByRecursion (IsOpenAt e) xs → IsReadAt opening xs b ts → IsReadAt opening (map (with_settled e) xs) b ts
read_of_settled opening xs e b ts r l o h = record {
  serial = serial_agrees ts (after_history (settled_before b xs) opening) (after_history (settled_before b (map (with_settled e) xs)) opening) (commit_agrees e b ts opening xs r l o h.apart) h.serial;
  apart = each_map (with_settled e) (λ x. x.settled ≡ false → x.end < b → IsApart x ts) (λ x. x.settled ≡ false → x.end < b → IsApart x ts) (λ x f p q. apart_settled e x ts (f (open_before x.settled (x.end == e) p) q)) xs h.apart;
  others = each_map (with_settled e) (λ x. x.end ≢ b) (λ x. x.end ≢ b) (λ x f. f) xs h.others;
  idle = h.idle;
}

settled_same : (e : ℕ) (x : StampedTx) → x.end ≢ e → with_settled e x ≡ x
settled_same e x n =
    ap (λ (c : Bool). record x { settled = x.settled || c; checked = cond c 0 x.checked }) (ne_eqb x.end e n)
    ∙ ap (λ (c : Bool). record x { settled = c }) (or-false x.settled false refl)

settled_away : (e : ℕ) (xs : List StampedTx) → AllByRecursion (λ x. x.end ≢ e) xs → map (with_settled e) xs ≡ xs
settled_away e [] h = refl
settled_away e (x ∷ xs) h = ap (λ y. y ∷ map (with_settled e) xs) (settled_same e x h.0) ∙ ap (λ ys. x ∷ ys) (settled_away e xs h.1)

-- the past keeps its place in front of those that are stamped
pub read_settled : (opening : Map) (past ys : List StampedTx) (e b : ℕ) (ts : History) → AllByRecursion (λ x. x.end ≢ e) past → IsRising (past ++ ys) → IsLegal opening (past ++ map (with_settled e) ys) →
    AllByRecursion (λ x. x.end ≡ e → (x.settled ≡ false) × (x.aborted_dependency ≡ None)) ys → IsReadAt opening (past ++ ys) b ts → IsReadAt opening (past ++ map (with_settled e) ys) b ts
read_settled opening past ys e b ts n r l o h =
    let same : map (with_settled e) (past ++ ys) ≡ past ++ map (with_settled e) ys = map-both e past ys ∙ ap (λ zs. zs ++ map (with_settled e) ys) (settled_away e past n) in
    subst (λ zs. IsReadAt opening zs b ts) same
    (read_of_settled opening (past ++ ys) e b ts r (subst (IsLegal opening) (sym same) l)
    (each_append (IsOpenAt e) past ys (each_weaker (λ x. x.end ≢ e) (IsOpenAt e) (λ x ne i. absurd (ne i)) past n) o) h)
