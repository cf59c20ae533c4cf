-- No two transactions claim one version: each call keeps that.
use Rattle.std.proofs.Common.{◌≡◌, ℕ, ◌+◌, ◌≤◌, Bool, true, false, cond, not, ◌||◌, List, [], ◌∷◌, ◌++◌, Option, None, Some, map, refl, sym, ap, ◌∙◌, subst, arith, ◌⊎◌, inl, inr}
use Rattle.std.specs.Prelude.{nat_lt, length, ◌==◌, ◌&&◌, is_some}
use Rattle.std.specs.List.{AllByRecursion, filter, list_any}
use Rattle.std.specs.Ordering.{eq_by_cmp}
use Rattle.std.specs.FinMap as fin
use Rattle.std.proofs.lemmas.Bool.{eqb-true, eq-eqb, false≢true, true≢false, and_parts, and_from}
use Rattle.mvo_types.specs.declared.row.RowKey.{RowKey}
use Rattle.mvo_types.specs.declared.cause.Cause.{Cause}
use Rattle.mvo_types.specs.declared.cause.Cause.TheVariants.{Active, Stamped}
use Rattle.mvo_types.specs.declared.op.Op.{Op}
use Rattle.mvo_types.specs.declared.op.Op.TheVariants.{Read, Scan, Insert, Update, Delete}
use Rattle.mvo_types.specs.declared.refusal.Refusal.{Refusal}
use Rattle.mvo_types.specs.declared.refusal.Refusal.TheVariants.{WriteConflict, TooManyWrites, TooManyReads, DataTooLong, BadTable}
use Rattle.mvo_types.specs.declared.limits.TheConstants.{MAX_TABLE, MAX_DATA_LEN}
use Rattle.mvo_types.specs.Keys.{key_cmp}
use Rattle.mvo_types.specs.AnswerData.{AnswerData}
use Rattle.mvo_types.specs.AnswerData.AnswerData.{Inserted, Exists, Updated, Deleted, Absent}
use Rattle.mvo_model.specs.Serial.{answer_to}
use Rattle.mvo_model.specs.History.{after_history, net_write}
use Rattle.mvo_types.specs.declared.entry.Entry.TheVariants.{Key}
use Rattle.mvo_theory.specs.State.{State, StampedTx, ActiveTx, Claim, seen_by, active_of, is_active_as}
use Rattle.mvo_theory.specs.Claims.{origin, ended_key, claims_with, has_claim}
use Rattle.mvo_theory.specs.Changes.{new_active, after_begin, after_operation, with_answer, after_prepare, to_stamped, without_id, after_check, with_check, after_commit, with_settled, with_flag, active_with_flag, not_at, after_abort_of_active, after_abort_of_preparing, after_termination}
use Rattle.mvo_theory.proofs.Cases.{if_stands, not_written, not_op, conflict_by, none_refusal}
use Rattle.mvo_theory.specs.Causes.{active_claim, stamped_claim, or_cause, claimed_by, conflicts, is_entry_too_many, is_write_too_many}
use Rattle.mvo_theory.specs.Sound.{how_many, AreExclusive}
use Rattle.mvo_theory.proofs.Each.{each_weaker}
use Rattle.mvo_theory.proofs.Footprints.{none_any, key_same}
use Rattle.mvo_theory.proofs.Finds.{at_most, push_no, count_none, count_push, count_map, count_filter}

abbrev pub claims_it : RowKey → ℕ → ActiveTx → Bool
claims_it k n r = has_claim r.claims k n

abbrev pub claimed_it : RowKey → ℕ → StampedTx → Bool
claimed_it k n x = has_claim x.claims k n

-- ---- no cause, no claim
pub none_cause : (c : Cause) → ◌≡◌ {A = Option Cause} (Some c) None → ⊥
none_cause c e = cc

pub or_none : (a b : Option Cause) → or_cause a b ≡ None → (a ≡ None) × (b ≡ None)
or_none None b h = (refl, h)
or_none (Some c) b h = absurd (none_cause c h)

pub others_none : (t : ℕ) (k : RowKey) (n : ℕ) (rs : List ActiveTx) → active_claim t k n rs ≡ None → AllByRecursion (λ r. claims_it k n r ≡ true → is_active_as t r ≡ true) rs
others_none t k n [] h = tt
others_none t k n (r ∷ rs) h = go (r.id == t) (has_claim r.claims k n) h (others_none t k n rs)
  where
    go : (a b : Bool) → cond (not a && b) (Some (Active (record { 0 = r.id }))) (active_claim t k n rs) ≡ None → (active_claim t k n rs ≡ None → AllByRecursion (λ q. claims_it k n q ≡ true → is_active_as t q ≡ true) rs) → (b ≡ true → a ≡ true) × AllByRecursion (λ q. claims_it k n q ≡ true → is_active_as t q ≡ true) rs
    go true b g f = (λ _. refl, f g)
    go false true g f = absurd (none_cause (Active (record { 0 = r.id })) g)
    go false false g f = (λ e. absurd (false≢true e), f g)

pub stamped_none : (k : RowKey) (n : ℕ) (xs : List StampedTx) → stamped_claim k n xs ≡ None → AllByRecursion (λ x. claimed_it k n x ≡ false) xs
stamped_none k n [] h = tt
stamped_none k n (x ∷ xs) h = go (has_claim x.claims k n) h (stamped_none k n xs)
  where
    go : (b : Bool) → cond b (Some (Stamped (record { 0 = x.end }))) (stamped_claim k n xs) ≡ None → (stamped_claim k n xs ≡ None → AllByRecursion (λ y. claimed_it k n y ≡ false) xs) → (b ≡ false) × AllByRecursion (λ y. claimed_it k n y ≡ false) xs
    go true g f = absurd (none_cause (Stamped (record { 0 = x.end })) g)
    go false g f = (refl, f g)

next_none : (b : Bool) (r : Refusal) (w : Option Refusal) → if_stands b r w ≡ None → w ≡ None
next_none true r w h = absurd (none_refusal r h)
next_none false r w h = h

written_none : (k : RowKey) (r : ActiveTx) (w : Option Refusal) → not_written k r w ≡ None → w ≡ None
written_none k r w h = next_none (is_write_too_many r.history k) TooManyWrites w (next_none (is_entry_too_many r.history (Key k)) TooManyReads (if_stands (is_write_too_many r.history k) TooManyWrites w) h)

conflict_none : (w : Option Cause) → conflicts w ≡ None → w ≡ None
conflict_none None h = refl
conflict_none (Some c) h = absurd (none_refusal (WriteConflict c) h)

pub none_key : (k : RowKey) → ◌≡◌ {A = Option RowKey} None (Some k) → ⊥
none_key k e = cc

pub same_key : (j k : RowKey) → ◌≡◌ {A = Option RowKey} (Some j) (Some k) → j ≡ k
same_key j k e = cc

unclaimed : (s : State) (r : ActiveTx) (k : RowKey) → conflict_by s r k ≡ None → fin.contains_key (after_history r.history (seen_by s.base s.stamped r.id)) k ≡ true → is_some (net_write k r.history) ≡ false → claimed_by s r.id k ≡ None
unclaimed s r k h c n = sym (ap (λ (b : Bool). cond (b && not (is_some (net_write k r.history))) (claimed_by s r.id k) None) c ∙ ap (λ (b : Bool). cond (not b) (claimed_by s r.id k) None) n) ∙ h

-- who ends a version first, where nothing stands in the way, ends one that nobody claims
pub first_claim : (s : State) (op : Op) (r : ActiveTx) (k : RowKey) → not_op s op r ≡ None → ended_key op (answer_to op (after_history r.history (seen_by s.base s.stamped r.id))) ≡ Some k → is_some (net_write k r.history) ≡ false → claimed_by s r.id k ≡ None
first_claim s (Read j) r k h e n = absurd (none_key k e)
first_claim s (Scan t lo hi) r k h e n = absurd (none_key k e)
first_claim s (Insert row) r k h e n = go (fin.contains_key (after_history r.history (seen_by s.base s.stamped r.id)) row.key) e
  where
    go : (b : Bool) → ended_key (Insert row) (cond b Exists Inserted) ≡ Some k → claimed_by s r.id k ≡ None
    go true g = absurd (none_key k g)
    go false g = absurd (none_key k g)
first_claim s (Update row) r k h e n = go (fin.contains_key (after_history r.history (seen_by s.base s.stamped r.id)) row.key) refl e
  where
    free : conflict_by s r row.key ≡ None
    free = conflict_none (conflict_by s r row.key) (written_none row.key r (conflicts (conflict_by s r row.key)) (next_none (nat_lt MAX_DATA_LEN (length row.bytes)) DataTooLong (not_written row.key r (conflicts (conflict_by s r row.key)))
        (next_none (nat_lt MAX_TABLE row.key.table) BadTable (if_stands (nat_lt MAX_DATA_LEN (length row.bytes)) DataTooLong (not_written row.key r (conflicts (conflict_by s r row.key)))) h)))

    go : (b : Bool) → fin.contains_key (after_history r.history (seen_by s.base s.stamped r.id)) row.key ≡ b → ended_key (Update row) (cond b Updated Absent) ≡ Some k → claimed_by s r.id k ≡ None
    go true f g = subst (λ (j : RowKey). claimed_by s r.id j ≡ None) (same_key row.key k g) (unclaimed s r row.key free f (subst (λ (j : RowKey). is_some (net_write j r.history) ≡ false) (sym (same_key row.key k g)) n))
    go false f g = absurd (none_key k g)
first_claim s (Delete j) r k h e n = go (fin.contains_key (after_history r.history (seen_by s.base s.stamped r.id)) j) refl e
  where
    free : conflict_by s r j ≡ None
    free = conflict_none (conflict_by s r j) (written_none j r (conflicts (conflict_by s r j)) (next_none (nat_lt MAX_TABLE j.table) BadTable (not_written j r (conflicts (conflict_by s r j))) h))

    go : (b : Bool) → fin.contains_key (after_history r.history (seen_by s.base s.stamped r.id)) j ≡ b → ended_key (Delete j) (cond b Deleted Absent) ≡ Some k → claimed_by s r.id k ≡ None
    go true f g = subst (λ (i : RowKey). claimed_by s r.id i ≡ None) (same_key j k g) (unclaimed s r j free f (subst (λ (i : RowKey). is_some (net_write i r.history) ≡ false) (sym (same_key j k g)) n))
    go false f g = absurd (none_key k g)

-- ---- counts
count_to : {X : Type 0} (p q : X → Bool) (f : X → X) (xs : List X) → AllByRecursion (λ x. p (f x) ≡ true → q x ≡ true) xs → how_many p (map f xs) ≤ how_many q xs
count_to p q f [] h = omega arith
count_to p q f (x ∷ xs) h = let l = at_most (p (f x)) (q x) h.0 in let r = count_to p q f xs h.1 in omega arith

count_without : (p : ActiveTx → Bool) (t : ℕ) (rs : List ActiveTx) (r : ActiveTx) → active_of t rs ≡ Some r → how_many p (without_id t rs) + cond (p r) 1 0 ≤ how_many p rs
count_without p t [] r e = absurd (no_active r e)
  where
    no_active : (q : ActiveTx) → ◌≡◌ {A = Option ActiveTx} None (Some q) → ⊥
    no_active q g = cc
count_without p t (q ∷ qs) r e = go (q.id == t) e (λ g. count_without p t qs r g)
  where
    same : (v w : ActiveTx) → ◌≡◌ {A = Option ActiveTx} (Some v) (Some w) → v ≡ w
    same v w g = cc

    go : (b : Bool) → cond b (Some q) (active_of t qs) ≡ Some r → (active_of t qs ≡ Some r → how_many p (without_id t qs) + cond (p r) 1 0 ≤ how_many p qs) → how_many p (cond (not b) (q ∷ without_id t qs) (without_id t qs)) + cond (p r) 1 0 ≤ cond (p q) 1 0 + how_many p qs
    go true g f = subst (λ (v : ActiveTx). how_many p (without_id t qs) + cond (p v) 1 0 ≤ cond (p q) 1 0 + how_many p qs) (same q r g) (let l = count_filter p (λ v. not (v.id == t)) qs in omega arith)
    go false g f = let l = f g in omega arith

-- ---- each step
pub exclusive_after_begin : (s : State) (t : ℕ) → AreExclusive s → AreExclusive (after_begin s t)
exclusive_after_begin s t h = λ k n. let l = push_no (claims_it k n) s.active (new_active t) refl in let o = h k n in omega arith

-- the operation of t, where its answer claims a version that nobody claims
abbrev pub IsFirst : State → ℕ → Op → AnswerData → Type 0
IsFirst s t op a = (k : RowKey) → ended_key op a ≡ Some k → AllByRecursion (λ (r : ActiveTx). r.id ≡ t → is_some (net_write k r.history) ≡ false → claimed_by s r.id k ≡ None) s.active

claim_push : (cs : List Claim) (c : Claim) (k : RowKey) (n : ℕ) → has_claim (cs ++ c ∷ []) k n ≡ true → (has_claim cs k n ≡ true) ⊎ ((eq_by_cmp key_cmp k c.key && (c.origin == n)) ≡ true)
claim_push [] c k n h = go (eq_by_cmp key_cmp k c.key && (c.origin == n)) refl h
  where
    go : (b : Bool) → (eq_by_cmp key_cmp k c.key && (c.origin == n)) ≡ b → (b || false) ≡ true → (false ≡ true) ⊎ (b ≡ true)
    go true e g = inr refl
    go false e g = inl g
claim_push (d ∷ ds) c k n h = go (eq_by_cmp key_cmp k d.key && (d.origin == n)) h (claim_push ds c k n)
  where
    go : (b : Bool) → (b || has_claim (ds ++ c ∷ []) k n) ≡ true → (has_claim (ds ++ c ∷ []) k n ≡ true → (has_claim ds k n ≡ true) ⊎ ((eq_by_cmp key_cmp k c.key && (c.origin == n)) ≡ true)) → ((b || has_claim ds k n) ≡ true) ⊎ ((eq_by_cmp key_cmp k c.key && (c.origin == n)) ≡ true)
    go true g f = inl refl
    go false g f = f g

-- what one has after the operation
abbrev claims_after : State → ℕ → Op → AnswerData → ActiveTx → List Claim
claims_after s t op a r = cond (r.id == t) (claims_with s r (ended_key op a)) r.claims

one_of : {X : Type 0} (Q : Type 0) (p : X → Bool) (xs : List X) → list_any p xs ≡ true → AllByRecursion (λ x. p x ≡ true → Q) xs → Q
one_of Q p [] h f = absurd (false≢true h)
one_of Q p (x ∷ xs) h f = go (p x) refl h (λ g. one_of Q p xs g f.1)
  where
    go : (b : Bool) → p x ≡ b → (b || list_any p xs) ≡ true → (list_any p xs ≡ true → Q) → Q
    go true e g r = f.0 e
    go false e g r = r g

-- it claims no more
same_claims : (s : State) (t : ℕ) (op : Op) (a : AnswerData) (k : RowKey) (n : ℕ) (r : ActiveTx) → ended_key op a ≡ None → has_claim (claims_after s t op a r) k n ≡ true → has_claim r.claims k n ≡ true
same_claims s t op a k n r e h = go (r.id == t) h
  where
    go : (b : Bool) → has_claim (cond b (claims_with s r (ended_key op a)) r.claims) k n ≡ true → has_claim r.claims k n ≡ true
    go true g = sym (ap (λ w. has_claim (claims_with s r w) k n) e) ∙ g
    go false g = g

-- or claims this version
more_claims : (s : State) (t : ℕ) (op : Op) (a : AnswerData) (k : RowKey) (n : ℕ) (r : ActiveTx) (j : RowKey) → ended_key op a ≡ Some j → has_claim (claims_after s t op a r) k n ≡ true →
    (has_claim r.claims k n ≡ true) ⊎ ((r.id ≡ t) × (is_some (net_write j r.history) ≡ false) × ((eq_by_cmp key_cmp k j && (origin s r.id j == n)) ≡ true))
more_claims s t op a k n r j e h = go (r.id == t) refl h
  where
    new : Claim
    new = record { key = j; origin = origin s r.id j }

    here : (r.id == t) ≡ true → (c : Bool) → is_some (net_write j r.history) ≡ c → has_claim (cond c r.claims (r.claims ++ new ∷ [])) k n ≡ true →
        (has_claim r.claims k n ≡ true) ⊎ ((r.id ≡ t) × (is_some (net_write j r.history) ≡ false) × ((eq_by_cmp key_cmp k j && (origin s r.id j == n)) ≡ true))
    here f true g i = inl i
    here f false g i = elim (claim_push r.claims new k n i) [ inl q ↦ inl q | inr q ↦ inr (eqb-true r.id t f, g, q) ]

    go : (b : Bool) → (r.id == t) ≡ b → has_claim (cond b (claims_with s r (ended_key op a)) r.claims) k n ≡ true →
        (has_claim r.claims k n ≡ true) ⊎ ((r.id ≡ t) × (is_some (net_write j r.history) ≡ false) × ((eq_by_cmp key_cmp k j && (origin s r.id j == n)) ≡ true))
    go true f g = here f (is_some (net_write j r.history)) refl (sym (ap (λ w. has_claim (claims_with s r w) k n) e) ∙ g)
    go false f g = inl g

is_new : (s : State) (t : ℕ) (k : RowKey) (n : ℕ) (j : RowKey) (r : ActiveTx) → Bool
is_new s t k n j r = (r.id == t) && (not (is_some (net_write j r.history)) && (eq_by_cmp key_cmp k j && (origin s r.id j == n)))

not_is : (b : Bool) → b ≡ false → not b ≡ true
not_is true e = absurd (true≢false e)
not_is false e = refl

is_not : (b : Bool) → not b ≡ true → b ≡ false
is_not true e = absurd (false≢true e)
is_not false e = refl

unfolding_new : (s : State) (t : ℕ) (k : RowKey) (n : ℕ) (j : RowKey) (r : ActiveTx) → is_new s t k n j r ≡ true → (r.id ≡ t) × (is_some (net_write j r.history) ≡ false) × (k ≡ j) × (origin s r.id j ≡ n)
unfolding is_new
unfolding_new s t k n j r h =
    let a = and_parts (r.id == t) (not (is_some (net_write j r.history)) && (eq_by_cmp key_cmp k j && (origin s r.id j == n))) h in
    let b = and_parts (not (is_some (net_write j r.history))) (eq_by_cmp key_cmp k j && (origin s r.id j == n)) a.1 in
    let c = and_parts (eq_by_cmp key_cmp k j) (origin s r.id j == n) b.1 in
    (eqb-true r.id t a.0, is_not (is_some (net_write j r.history)) b.0, sym (key_same k j c.0), eqb-true (origin s r.id j) n c.1)

folding_new : (s : State) (t : ℕ) (k : RowKey) (n : ℕ) (j : RowKey) (r : ActiveTx) → r.id ≡ t → is_some (net_write j r.history) ≡ false → (eq_by_cmp key_cmp k j && (origin s r.id j == n)) ≡ true → is_new s t k n j r ≡ true
unfolding is_new
folding_new s t k n j r i w e = and_from (r.id == t) (not (is_some (net_write j r.history)) && (eq_by_cmp key_cmp k j && (origin s r.id j == n))) (eq-eqb r.id t i) (and_from (not (is_some (net_write j r.history))) (eq_by_cmp key_cmp k j && (origin s r.id j == n)) (not_is (is_some (net_write j r.history)) w) e)

pub exclusive_after_operation : (s : State) (t : ℕ) (op : Op) (a : AnswerData) → how_many (is_active_as t) s.active ≤ 1 → IsFirst s t op a → AreExclusive s → AreExclusive (after_operation s t op a)
exclusive_after_operation s t op a one first h k n = go (ended_key op a) refl
  where
    f : ActiveTx → ActiveTx
    f = with_answer s t op a

    none_new : (j : RowKey) → ended_key op a ≡ Some j → list_any (is_new s t k n j) s.active ≡ false → AllByRecursion (λ r. claims_it k n (f r) ≡ true → claims_it k n r ≡ true) s.active
    none_new j e g = each_weaker (λ r. is_new s t k n j r ≡ false) (λ r. claims_it k n (f r) ≡ true → claims_it k n r ≡ true)
        (λ r q w. elim (more_claims s t op a k n r j e w) [ inl old ↦ old | inr new ↦ absurd (true≢false (sym (folding_new s t k n j r new.0 new.1 new.2) ∙ q)) ]) s.active (none_any (is_new s t k n j) s.active g)

    free : (j : RowKey) → ended_key op a ≡ Some j → list_any (is_new s t k n j) s.active ≡ true → (active_claim t k n s.active ≡ None) × (stamped_claim k n s.stamped ≡ None)
    free j e g = one_of ((active_claim t k n s.active ≡ None) × (stamped_claim k n s.stamped ≡ None)) (is_new s t k n j) s.active g
        (each_weaker (λ (r : ActiveTx). r.id ≡ t → is_some (net_write j r.history) ≡ false → claimed_by s r.id j ≡ None) (λ r. is_new s t k n j r ≡ true → (active_claim t k n s.active ≡ None) × (stamped_claim k n s.stamped ≡ None))
        (λ r q w.
        let p = unfolding_new s t k n j r w in
        let c = or_none (active_claim r.id j (origin s r.id j) s.active) (stamped_claim j (origin s r.id j) s.stamped) (q p.0 p.1) in
        let d : (active_claim r.id j n s.active ≡ None) × (stamped_claim j n s.stamped ≡ None) = subst (λ (o : ℕ). (active_claim r.id j o s.active ≡ None) × (stamped_claim j o s.stamped ≡ None)) p.3 c in
        subst (λ (i : RowKey). (active_claim t i n s.active ≡ None) × (stamped_claim i n s.stamped ≡ None)) (sym p.2)
        (subst (λ (u : ℕ). (active_claim u j n s.active ≡ None) × (stamped_claim j n s.stamped ≡ None)) p.0 d)) s.active (first j e))

    some : (j : RowKey) → ended_key op a ≡ Some j → (b : Bool) → list_any (is_new s t k n j) s.active ≡ b → how_many (claims_it k n) (map f s.active) + how_many (claimed_it k n) s.stamped ≤ 1
    some j e false g = let l = count_to (claims_it k n) (claims_it k n) f s.active (none_new j e g) in let o = h k n in omega arith
    some j e true g =
        let q = free j e g in
        let mine = others_none t k n s.active q.0 in
        let l = count_to (claims_it k n) (is_active_as t) f s.active
        (each_weaker (λ r. claims_it k n r ≡ true → is_active_as t r ≡ true) (λ r. claims_it k n (f r) ≡ true → is_active_as t r ≡ true)
        (λ r w v. elim (more_claims s t op a k n r j e v) [ inl old ↦ w old | inr new ↦ eq-eqb r.id t new.0 ]) s.active mine) in
        let z = count_none (claimed_it k n) s.stamped (stamped_none k n s.stamped q.1) in
        omega arith

    go : (w : Option RowKey) → ended_key op a ≡ w → how_many (claims_it k n) (map f s.active) + how_many (claimed_it k n) s.stamped ≤ 1
    go None e = let l = count_map (claims_it k n) f s.active (λ r v. same_claims s t op a k n r e v) in let o = h k n in omega arith
    go (Some j) e = some j e (list_any (is_new s t k n j) s.active) refl

pub exclusive_after_prepare : (s : State) (r : ActiveTx) (e : ℕ) → active_of r.id s.active ≡ Some r → AreExclusive s → AreExclusive (after_prepare s r e)
exclusive_after_prepare s r e f h = λ k n.
    let l = count_without (claims_it k n) r.id s.active r f in
    let m = count_push (claimed_it k n) s.stamped (to_stamped e r) in
    let o = h k n in
    omega arith

pub exclusive_map : (s : State) (f : StampedTx → StampedTx) → ((x : StampedTx) → (f x).claims ≡ x.claims) → AreExclusive s → AreExclusive (record s { stamped = map f s.stamped })
exclusive_map s f g h = λ k n. let l = count_map (claimed_it k n) f s.stamped (λ x q. sym (ap (λ cs. has_claim cs k n) (g x)) ∙ q) in let o = h k n in omega arith

pub exclusive_after_check : (s : State) (e : ℕ) (v : Bool) → AreExclusive s → AreExclusive (after_check s e v)
exclusive_after_check s e v h = exclusive_map s (with_check e v) (λ x. refl) h

pub exclusive_after_commit : (s : State) (t e : ℕ) → AreExclusive s → AreExclusive (after_commit s t e)
exclusive_after_commit s t e h = exclusive_map s (with_settled e) (λ x. refl) h

pub exclusive_after_abort_of_active : (s : State) (t : ℕ) → AreExclusive s → AreExclusive (after_abort_of_active s t)
exclusive_after_abort_of_active s t h = λ k n. let l = count_filter (claims_it k n) (λ r. not (r.id == t)) s.active in let o = h k n in omega arith

pub exclusive_after_abort_of_preparing : (s : State) (t e : ℕ) → AreExclusive s → AreExclusive (after_abort_of_preparing s t e)
exclusive_after_abort_of_preparing s t e h = λ k n.
    let a = count_map (claims_it k n) (active_with_flag t e) s.active (λ r q. q) in
    let l = count_map (claimed_it k n) (with_flag t e) (filter (not_at e) s.stamped) (λ y q. q) in
    let m = count_filter (claimed_it k n) (not_at e) s.stamped in
    let o = h k n in
    omega arith

pub exclusive_after_termination : (s : State) (t : ℕ) → AreExclusive s → AreExclusive (after_termination s t)
exclusive_after_termination s t h = h

-- who ends a version first is refused by nobody only where no other claims it
pub nobody_claims : (s : State) (op : Op) (r : ActiveTx) (k : RowKey) → not_op s op r ≡ None → ended_key op (answer_to op (after_history r.history (seen_by s.base s.stamped r.id))) ≡ Some k → is_some (net_write k r.history) ≡ false →
    AllByRecursion (λ q. claims_it k (origin s r.id k) q ≡ true → is_active_as r.id q ≡ true) s.active × AllByRecursion (λ x. claimed_it k (origin s r.id k) x ≡ false) s.stamped
nobody_claims s op r k w e n =
    let c = or_none (active_claim r.id k (origin s r.id k) s.active) (stamped_claim k (origin s r.id k) s.stamped) (first_claim s op r k w e n) in
    (others_none r.id k (origin s r.id k) s.active c.0, stamped_none k (origin s r.id k) s.stamped c.1)
