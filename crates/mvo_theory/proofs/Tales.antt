-- A commit is put into its place among the commits of a trace.
use Rattle.std.proofs.Common.{◌≡◌, ◌≢◌, ℕ, ◌<◌, Bool, true, false, cond, List, [], ◌∷◌, ◌++◌, map, refl, sym, ap, ◌∙◌, subst, arith}
use Rattle.std.specs.Prelude.{◌==◌, ◌||◌}
use Rattle.std.specs.List.{AllByRecursion}
use Rattle.std.specs.List.Sorted.{IsPermutation, IsStrictlySortedBy}
use Rattle.std.specs.Ordering.{nat_cmp}
use Rattle.std.specs.declared.cmp.Ordering.TheVariants.{Less, Equal, Greater}
use Rattle.std.proofs.lemmas.List.Sorted.{IsPermutation-sym, IsPermutation-trans, IsPermutation-append_left, IsPermutation-to_front, IsPermutation-middle}
use Rattle.std.proofs.lemmas.Bool.{lt-ltb, ne_eqb, eq-eqb}
use Rattle.mvo_types.specs.Keys.{Map}
use Rattle.mvo_model.specs.History.{History, after_history, AreSerial, Legal}
use Rattle.mvo_model.proofs.Serials.{rows_after_all-after_history}
use Rattle.mvo_model.specs.Trace.{Step, history_of, commits, end_cmp, committed, IsSerial}
use Rattle.mvo_model.specs.Trace.Step.{Commits}
use Rattle.mvo_model.proofs.Orders.{in_order_same}
use Rattle.mvo_model.proofs.Scans.{end_total, only_committed}
use Rattle.mvo_model.proofs.Traces.{commits-push}
use Rattle.mvo_theory.proofs.Each.{each_weaker, each_append}
use Rattle.mvo_theory.specs.State.{State, StampedTx, tale, after_settled}
use Rattle.mvo_theory.specs.Changes.{with_settled}
use Rattle.mvo_theory.specs.Sound.{IsRising, IsLegal, IsSound}
use Rattle.mvo_theory.specs.AfterTrace.{IsAfterTrace, pairs}
use Rattle.mvo_theory.proofs.Stamped.{rising_map}
use Rattle.mvo_theory.proofs.Ends.{like_settled}
use Rattle.mvo_theory.proofs.Settle.{rising_before, rising_after, map-both, or-false, or-true}

-- ---- a commit in the middle
pub pairs-append : (xs ys : List StampedTx) → pairs (xs ++ ys) ≡ pairs xs ++ pairs ys
pairs-append [] ys = refl
pairs-append (x ∷ xs) ys = ap (λ ts. cond x.settled ((x.end, x.id) ∷ ts) ts) (pairs-append xs ys) ∙ go x.settled
  where
    go : (b : Bool) → cond b ((x.end, x.id) ∷ (pairs xs ++ pairs ys)) (pairs xs ++ pairs ys) ≡ cond b ((x.end, x.id) ∷ pairs xs) (pairs xs) ++ pairs ys
    go true = refl
    go false = refl

pub each_pair : (P : ℕ → Type 0) (xs : List StampedTx) → AllByRecursion (λ x. P x.end) xs → AllByRecursion (λ (c : ℕ × ℕ). P c.0) (pairs xs)
each_pair P [] h = tt
each_pair P (x ∷ xs) h = go x.settled (each_pair P xs h.1)
  where
    go : (b : Bool) → AllByRecursion (λ (c : ℕ × ℕ). P c.0) (pairs xs) → AllByRecursion (λ (c : ℕ × ℕ). P c.0) (cond b ((x.end, x.id) ∷ pairs xs) (pairs xs))
    go true r = (h.0, r)
    go false r = r

pub pairs_others : (e : ℕ) (xs : List StampedTx) → AllByRecursion (λ x. x.end ≢ e) xs → pairs (map (with_settled e) xs) ≡ pairs xs
pairs_others e [] h = refl
pairs_others e (x ∷ xs) h =
    ap (λ ts. cond (x.settled || (x.end == e)) ((x.end, x.id) ∷ ts) ts) (pairs_others e xs h.1)
    ∙ ap (λ (b : Bool). cond b ((x.end, x.id) ∷ pairs xs) (pairs xs)) (or-false x.settled (x.end == e) (ne_eqb x.end e h.0))

-- the pairs of ends that rise
below_pairs : (x : StampedTx) (xs : List StampedTx) → AllByRecursion (λ y. x.end < y.end) xs → AllByRecursion (λ (c : ℕ × ℕ). end_cmp (x.end, x.id) c ≡ Less) (pairs xs)
below_pairs x xs h = each_pair (λ n. nat_cmp x.end n ≡ Less) xs (each_weaker (λ y. x.end < y.end) (λ y. nat_cmp x.end y.end ≡ Less) (λ y l. ap (λ (b : Bool). cond b Less (cond (x.end == y.end) Equal Greater)) (lt-ltb x.end y.end l)) xs h)

pub pairs_rise : (xs : List StampedTx) → IsRising xs → IsStrictlySortedBy end_cmp (pairs xs)
unfolding IsStrictlySortedBy
pairs_rise [] h = tt
pairs_rise (x ∷ xs) h = go x.settled (pairs_rise xs h.1)
  where
    go : (b : Bool) → IsStrictlySortedBy end_cmp (pairs xs) → IsStrictlySortedBy end_cmp (cond b ((x.end, x.id) ∷ pairs xs) (pairs xs))
    go true r = (below_pairs x xs h.0, r)
    go false r = r

-- one more among elements, at the end and in the middle
push_between : {X : Type 0} (list front back : List X) (d : X) → IsPermutation list (front ++ back) → IsPermutation (list ++ d ∷ []) (front ++ d ∷ back)
push_between list front back d p =
    IsPermutation-trans (list ++ d ∷ []) ((front ++ back) ++ d ∷ []) (front ++ d ∷ back) (IsPermutation-append_left (d ∷ []) list (front ++ back) p)
    (IsPermutation-trans ((front ++ back) ++ d ∷ []) (d ∷ (front ++ back)) (front ++ d ∷ back) (IsPermutation-to_front (front ++ back) d)
    (IsPermutation-sym (front ++ d ∷ back) (d ∷ (front ++ back)) (IsPermutation-middle front d back)))

-- the committed ones of the steps with the commit are the settled ones among the stamped ones after it
pub committed_between : (steps : List Step) (before after : List StampedTx) (x : StampedTx) → IsRising (before ++ x ∷ after) → x.settled ≡ false → committed steps ≡ pairs (before ++ x ∷ after) →
    committed (steps ++ Commits x.id x.end ∷ []) ≡ pairs (map (with_settled x.end) (before ++ x ∷ after))
committed_between steps before after x r o h =
    sym (only_committed (steps ++ Commits x.id x.end ∷ []) (pairs stamped_after) (record { same = same; rise = pairs_rise stamped_after (rising_map (with_settled x.end) (like_settled x.end) (before ++ x ∷ after) r) }))
  where
    d : ℕ × ℕ
    d = (x.end, x.id)

    stamped_after : List StampedTx
    stamped_after = map (with_settled x.end) (before ++ x ∷ after)

    others : (ys : List StampedTx) → AllByRecursion (λ y. y.end ≢ x.end) ys → pairs (map (with_settled x.end) ys) ≡ pairs ys
    others ys n = pairs_others x.end ys n

    old : pairs (before ++ x ∷ after) ≡ pairs before ++ pairs after
    old = pairs-append before (x ∷ after) ∙ ap (λ (b : Bool). pairs before ++ cond b (d ∷ pairs after) (pairs after)) o

    new : pairs (map (with_settled x.end) (before ++ x ∷ after)) ≡ pairs before ++ d ∷ pairs after
    new =
        ap pairs (map-both x.end before (x ∷ after)) ∙ pairs-append (map (with_settled x.end) before) (map (with_settled x.end) (x ∷ after))
        ∙ ap (λ ts. ts ++ pairs (map (with_settled x.end) (x ∷ after))) (others before (each_weaker (λ y. y.end < x.end) (λ y. y.end ≢ x.end) (λ y l e. absurd (omega arith)) before (rising_before before after x r)))
        ∙ ap (λ (b : Bool). pairs before ++ cond b (d ∷ pairs (map (with_settled x.end) after)) (pairs (map (with_settled x.end) after))) (or-true x.settled (x.end == x.end) (eq-eqb x.end x.end refl))
        ∙ ap (λ ts. pairs before ++ d ∷ ts) (others after (each_weaker (λ y. x.end < y.end) (λ y. y.end ≢ x.end) (λ y l e. absurd (omega arith)) after (rising_after before after x r)))

    same : IsPermutation (commits (steps ++ Commits x.id x.end ∷ [])) (pairs (map (with_settled x.end) (before ++ x ∷ after)))
    same =
        subst (λ (cs : List (ℕ × ℕ)). IsPermutation cs (pairs (map (with_settled x.end) (before ++ x ∷ after)))) (sym (commits-push steps (Commits x.id x.end)))
        (subst (IsPermutation (commits steps ++ d ∷ [])) (sym new)
        (push_between (commits steps) (pairs before) (pairs after) d (subst (IsPermutation (commits steps)) (h ∙ old) (in_order_same end_total (commits steps)))))

pub history_settled : (steps : List Step) (xs : List StampedTx) → AllByRecursion (λ x. history_of x.id steps ≡ x.history) xs → map (λ (c : ℕ × ℕ). history_of c.1 steps) (pairs xs) ≡ tale xs
history_settled steps [] h = refl
history_settled steps (x ∷ xs) h = go x.settled (history_settled steps xs h.1)
  where
    go : (b : Bool) → map (λ (c : ℕ × ℕ). history_of c.1 steps) (pairs xs) ≡ tale xs → map (λ (c : ℕ × ℕ). history_of c.1 steps) (cond b ((x.end, x.id) ∷ pairs xs) (pairs xs)) ≡ cond b (x.history ∷ tale xs) (tale xs)
    go true e = ap (λ (t : History). t ∷ map (λ (c : ℕ × ℕ). history_of c.1 steps) (pairs xs)) h.0 ∙ ap (λ ts. x.history ∷ ts) e
    go false e = e

-- the settled ones, one after another
pub legal_tale : (m : Map) (xs : List StampedTx) → IsLegal m xs → Legal m (tale xs)
legal_tale m [] h = tt
legal_tale m (x ∷ xs) h = go x.settled (λ s. (h.0 s).0) (legal_tale (after_history (cond x.settled x.history []) m) xs h.1)
  where
    go : (b : Bool) → (b ≡ true → AreSerial x.history m) → Legal (after_history (cond b x.history []) m) (tale xs) → Legal m (cond b (x.history ∷ tale xs) (tale xs))
    go true f r = (f refl, subst (λ (n : Map). Legal n (tale xs)) (sym (rows_after_all-after_history x.history m (f refl))) r)
    go false f r = r

pub legal_append : (m : Map) (xs ys : List StampedTx) → IsLegal m xs → IsLegal (after_settled xs m) ys → IsLegal m (xs ++ ys)
legal_append m [] ys h k = k
legal_append m (x ∷ xs) ys h k = (h.0, legal_append (after_history (cond x.settled x.history []) m) xs ys h.1 k)

pub serial_after_trace : (opening : Map) (steps : List Step) (s : State) → IsSound s → IsAfterTrace opening steps s → IsSerial opening steps
serial_after_trace opening steps s k h =
    let all = s.past ++ s.stamped in
    let legal : IsLegal opening all = legal_append opening s.past s.stamped h.legal (subst (λ (m : Map). IsLegal m s.stamped) h.base k.legal) in
    let history = history_settled steps all (each_append (λ x. history_of x.id steps ≡ x.history) s.past s.stamped h.past h.stamped) in
    subst (Legal opening) (sym (ap (map (λ (c : ℕ × ℕ). history_of c.1 steps)) (h.tale ∙ sym (pairs-append s.past s.stamped)) ∙ history)) (legal_tale opening all legal)
