-- Counts and firsts over lists of transactions.
use Rattle.std.proofs.Common.{◌≡◌, ◌≢◌, ℕ, ◌+◌, ◌<◌, Bool, true, false, cond, eqb, ◌||◌, List, [], ◌∷◌, ◌++◌, Option, Some, None, refl, sym, ap, ◌∙◌, arith, ⊎_elim}
use Rattle.std.specs.Prelude.{count_by}
use Rattle.std.proofs.lemmas.Bool.{cases_eq, eq-eqb, false≢true, ne_eqb}
use Rattle.std.proofs.lemmas.List.Sums.{sum_by-cons}
use Rattle.mvo_types.specs.declared.ids.TxId.{TxId}
use Rattle.mvo_deps.specs.Data.{is_id_among, AreDistinctIds, first_of}
use Rattle.mvo_deps.specs.Graph.{first_among}
use Rattle.mvo_deps.proofs.Apart.{among_behind, among_same}

abbrev pub one : Bool → ℕ
one b = cond b 1 0

-- what is among the first and the rest
pub in_head : (x q : TxId) (ids : List TxId) → x.0 ≡ q.0 → is_id_among q (x ∷ ids) ≡ true
in_head x q ids e = ap (λ b. b || is_id_among q ids) (eq-eqb x.0 q.0 e)

pub in_tail : (x q : TxId) (ids : List TxId) → is_id_among q ids ≡ true → is_id_among q (x ∷ ids) ≡ true
in_tail x q ids e = ap (λ b. eqb x.0 q.0 || b) e ∙ or_true (eqb x.0 q.0)
  where
    or_true : (b : Bool) → (b || true) ≡ true
    or_true true = refl
    or_true false = refl

-- ---- counts
count_step : (p : TxId → Bool) (x : TxId) (ids : List TxId) → count_by p (x ∷ ids) ≡ one (p x) + count_by p ids
count_step p x ids = sum_by-cons (λ y. one (p y)) x ids

-- tests that agree on the list
pub count_same : (p r : TxId → Bool) (ids : List TxId) → ((q : TxId) → is_id_among q ids ≡ true → r q ≡ p q) → count_by r ids ≡ count_by p ids
count_same p r [] same = refl
count_same p r (x ∷ ids) same =
    let head : one (r x) ≡ one (p x) = ap one (same x (in_head x x ids refl)) in
    let rest = count_same p r ids (λ q e. same q (in_tail x q ids e)) in
    count_step r x ids ∙ ap (λ n. n + count_by r ids) head ∙ ap (λ n. one (p x) + n) rest ∙ sym (count_step p x ids)

pub count_behind : (p : TxId → Bool) (x : TxId) (ids : List TxId) → count_by p (ids ++ x ∷ []) ≡ count_by p ids + one (p x)
count_behind p x [] = count_step p x [] ∙ omega arith
count_behind p x (y ∷ ids) =
    let rest = count_behind p x ids in
    let a = count_step p y (ids ++ x ∷ []) in
    let b = count_step p y ids in
    omega (arith, rest, a, b)

-- one of the list passes no longer
pub count_closed : (p r : TxId → Bool) (on : TxId) (ids : List TxId) → ((q : TxId) → q.0 ≢ on.0 → r q ≡ p q) → ((q : TxId) → q.0 ≡ on.0 → r q ≡ false)
    → ((q : TxId) → q.0 ≡ on.0 → is_id_among on ids ≡ true → p q ≡ true) → AreDistinctIds ids → count_by p ids ≡ count_by r ids + one (is_id_among on ids)
count_closed p r on [] others closed opened apart = refl
count_closed p r on (x ∷ ids) others closed opened apart =
    ⊎_elim
    (λ is.
    let first : is_id_among on (x ∷ ids) ≡ true = in_head x on ids is in
    let none : is_id_among on ids ≡ false = among_same on x ids (sym is) ∙ apart.0 in
    let same = count_same p r ids (λ q e. others q (λ f. false≢true (sym none ∙ sym (among_same q on ids f) ∙ e))) in
    let a = count_step p x ids ∙ ap (λ b. one b + count_by p ids) (opened x is first) in
    let b = count_step r x ids ∙ ap (λ b. one b + count_by r ids) (closed x is) in
    let c = ap one first in
    omega (arith, same, a, b, c))
    (λ ne.
    let rest = count_closed p r on ids others closed (λ q f e. opened q f (in_tail x on ids e)) apart.1 in
    let a = count_step p x ids in
    let b = count_step r x ids ∙ ap (λ b. one b + count_by r ids) (others x ne) in
    let c = ap (λ b. one (b || is_id_among on ids)) (ne_eqb x.0 on.0 ne) in
    omega (arith, rest, a, b, c))
    (cases_eq x.0 on.0)

-- ---- the first that is among some
pub first_none : (ab : List TxId) → first_among ab [] ≡ None
first_none [] = refl
first_none (x ∷ ab) = first_none ab

pub or_false : (b : Bool) → (b || false) ≡ b
or_false true = refl
or_false false = refl

or_parts : (a b : Bool) → (a || b) ≡ false → (a ≡ false) × (b ≡ false)
or_parts true b e = absurd (false≢true (sym e))
or_parts false b e = (refl, e)

-- one more that isn't of the former
pub first_more : (ab ids : List TxId) (on : TxId) → is_id_among on ab ≡ false → first_among ab (ids ++ on ∷ []) ≡ first_among ab ids
first_more [] ids on none = refl
first_more (x ∷ ab) ids on none =
    let parts = or_parts (eqb x.0 on.0) (is_id_among on ab) none in
    ap (λ b. cond b (Some x) (first_among ab (ids ++ on ∷ []))) (among_behind x on ids ∙ ap (λ b. is_id_among x ids || b) parts.0 ∙ or_false (is_id_among x ids))
    ∙ ap (cond (is_id_among x ids) (Some x)) (first_more ab ids on parts.1)

abbrev or_first : Option TxId → Bool → TxId → Option TxId
or_first None b on = cond b (Some on) None
or_first (Some x) b on = Some x

first_behind : (ab ids : List TxId) (on : TxId) → first_among (ab ++ on ∷ []) ids ≡ or_first (first_among ab ids) (is_id_among on ids) on
first_behind [] ids on = refl
first_behind (x ∷ ab) ids on = go (is_id_among x ids) (first_behind ab ids on)
  where
    go : (b : Bool) → first_among (ab ++ on ∷ []) ids ≡ or_first (first_among ab ids) (is_id_among on ids) on → cond b (Some x) (first_among (ab ++ on ∷ []) ids) ≡ or_first (cond b (Some x) (first_among ab ids)) (is_id_among on ids) on
    go true rest = refl
    go false rest = rest

or_first_yes : (o : Option TxId) (on : TxId) → or_first o true on ≡ Some (first_of o on)
or_first_yes None on = refl
or_first_yes (Some x) on = refl

or_first_no : (o : Option TxId) (on : TxId) → or_first o false on ≡ o
or_first_no None on = refl
or_first_no (Some x) on = refl

-- one more of the former, which is among the latter or not
pub first_with : (ab ids : List TxId) (on : TxId) → is_id_among on ids ≡ true → first_among (ab ++ on ∷ []) ids ≡ Some (first_of (first_among ab ids) on)
first_with ab ids on e = first_behind ab ids on ∙ ap (λ b. or_first (first_among ab ids) b on) e ∙ or_first_yes (first_among ab ids) on

pub first_without : (ab ids : List TxId) (on : TxId) → is_id_among on ids ≡ false → first_among (ab ++ on ∷ []) ids ≡ first_among ab ids
first_without ab ids on e = first_behind ab ids on ∙ ap (λ b. or_first (first_among ab ids) b on) e ∙ or_first_no (first_among ab ids) on

-- ---- whether somebody passes
pub count_none : (p : TxId → Bool) (ids : List TxId) → ((q : TxId) → is_id_among q ids ≡ true → p q ≡ false) → count_by p ids ≡ 0
count_none p [] none = refl
count_none p (x ∷ ids) none =
    let rest = count_none p ids (λ q e. none q (in_tail x q ids e)) in
    let a = count_step p x ids ∙ ap (λ b. one b + count_by p ids) (none x (in_head x x ids refl)) in
    omega (arith, rest, a)

pub count_some : (p : TxId → Bool) (id : TxId) (ids : List TxId) → is_id_among id ids ≡ true → ((q : TxId) → q.0 ≡ id.0 → p q ≡ true) → 0 < count_by p ids
count_some p id [] among passes = absurd (false≢true among)
count_some p id (x ∷ ids) among passes =
    ⊎_elim
    (λ is. let a = count_step p x ids ∙ ap (λ b. one b + count_by p ids) (passes x is) in omega (arith, a))
    (λ ne.
    let rest = count_some p id ids (sym (ap (λ b. b || is_id_among id ids) (ne_eqb x.0 id.0 ne)) ∙ among) passes in
    let a = count_step p x ids in
    omega (arith, rest, a))
    (cases_eq x.0 id.0)
