-- The last writer, read off the trace.
use Rattle.std.proofs.Common.{◌≡◌, ℕ, ◌+◌, ◌<◌, ◌≤◌, Bool, true, false, cond, not, List, [], ◌∷◌, ◌++◌, Option, None, Some, refl, sym, ap, ◌∙◌, subst, arith}
use Rattle.std.specs.Prelude.{nat_lt, ◌==◌, is_some}
use Rattle.std.specs.List.{AllByRecursion, find}
use Rattle.std.proofs.lemmas.Bool.{false≢true, true≢false, lt-ltb, eq-eqb, and_from}
use Rattle.mvo_types.specs.declared.row.RowKey.{RowKey}
use Rattle.mvo_model.specs.History.{net_write}
use Rattle.mvo_model.specs.Trace.{Phase}
use Rattle.mvo_model.specs.Trace.Phase.{Absent, Active, Preparing, Committed as Commits_at, Aborted as Aborts_at}
use Rattle.mvo_theory.specs.State.{Outcome, EndedTx, State, StampedTx, ActiveTx, active_of, preparing_of, ended_of, is_active_as, is_preparing_as}
use Rattle.mvo_theory.specs.Dependencies.{is_writer, or_later, last_writer}
use Rattle.mvo_theory.specs.Phases.{ended_as, phase_by, phase_in}
use Rattle.mvo_theory.specs.Sound.{IsRising, IsSingle, how_many}
use Rattle.mvo_theory.proofs.Each.{each_weaker}
use Rattle.mvo_theory.proofs.Footprints.{none_unless}
use Rattle.mvo_theory.proofs.Apart.{IsIn}
use Rattle.mvo_theory.proofs.Commits.{split_at}
use Rattle.mvo_theory.proofs.Finds.{find_none}
use Rattle.mvo_theory.proofs.Single.{active_found, preparing_found}
use Rattle.mvo_theory.proofs.Stamped.{no_stamped}
use Rattle.mvo_theory.proofs.Depends.{same_stamped}
use Rattle.mvo_theory.specs.State.Outcome.{Committed, Aborted}

-- ---- among the stamped ones
-- it is in the list, and writes the key
pub last_is : (k : RowKey) (b : ℕ) (xs : List StampedTx) (x : StampedTx) → last_writer k b xs ≡ Some x → IsIn x xs
last_is k b [] x e = absurd (no_stamped x e)
last_is k b (y ∷ ys) x e = go (is_writer k b y) (last_writer k b ys) (λ z g. last_is k b ys z g) e
  where
    go : (c : Bool) (w : Option StampedTx) → ((z : StampedTx) → w ≡ Some z → IsIn z ys) → or_later (cond c (Some y) None) w ≡ Some x → IsIn x (y ∷ ys)
    go c (Some z) r q = λ P h. subst P (same_stamped z x q) (r z refl P h.1)
    go true None r q = λ P h. subst P (same_stamped y x q) h.0
    go false None r q = absurd (no_stamped x q)

pub last_writes : (k : RowKey) (b : ℕ) (xs : List StampedTx) (x : StampedTx) → last_writer k b xs ≡ Some x → is_writer k b x ≡ true
last_writes k b [] x e = absurd (no_stamped x e)
last_writes k b (y ∷ ys) x e = go (is_writer k b y) refl (last_writer k b ys) (λ z g. last_writes k b ys z g) e
  where
    go : (c : Bool) → is_writer k b y ≡ c → (w : Option StampedTx) → ((z : StampedTx) → w ≡ Some z → is_writer k b z ≡ true) → or_later (cond c (Some y) None) w ≡ Some x → is_writer k b x ≡ true
    go c f (Some z) r q = subst (λ (v : StampedTx). is_writer k b v ≡ true) (same_stamped z x q) (r z refl)
    go true f None r q = subst (λ (v : StampedTx). is_writer k b v ≡ true) (same_stamped y x q) f
    go false f None r q = absurd (no_stamped x q)

pub none_writes : (k : RowKey) (b : ℕ) (xs : List StampedTx) → last_writer k b xs ≡ None → AllByRecursion (λ z. is_writer k b z ≡ false) xs
none_writes k b [] e = tt
none_writes k b (y ∷ ys) e = go (is_writer k b y) refl (last_writer k b ys) (λ g. none_writes k b ys g) refl e
  where
    go : (c : Bool) → is_writer k b y ≡ c → (w : Option StampedTx) → (last_writer k b ys ≡ None → AllByRecursion (λ z. is_writer k b z ≡ false) ys) → last_writer k b ys ≡ w → or_later (cond c (Some y) None) w ≡ None → (is_writer k b y ≡ false) × AllByRecursion (λ z. is_writer k b z ≡ false) ys
    go c f (Some z) r g q = absurd (no_stamped z (sym q))
    go true f None r g q = absurd (no_stamped y (sym q))
    go false f None r g q = (f, r g)

pub not_written : (k : RowKey) (b : ℕ) (z : StampedTx) → is_writer k b z ≡ false → z.end < b → net_write k z.history ≡ None
not_written k b z f l = none_unless (net_write k z.history) (go (is_some (net_write k z.history)) refl)
  where
    go : (w : Bool) → is_some (net_write k z.history) ≡ w → is_some (net_write k z.history) ≡ false
    go false g = g
    go true g = absurd (true≢false (sym (and_from (nat_lt z.end b) (is_some (net_write k z.history)) (lt-ltb z.end b l) g) ∙ f))

-- none between it and the begin does
pub after_last : (k : RowKey) (b : ℕ) (xs : List StampedTx) (x : StampedTx) → IsRising xs → last_writer k b xs ≡ Some x → AllByRecursion (λ y. x.end < y.end → y.end < b → net_write k y.history ≡ None) xs
after_last k b [] x r e = tt
after_last k b (y ∷ ys) x r e = go (is_writer k b y) (last_writer k b ys) refl (λ z g. after_last k b ys z r.1 g) e
  where
    go : (c : Bool) (w : Option StampedTx) → last_writer k b ys ≡ w → ((z : StampedTx) → last_writer k b ys ≡ Some z → AllByRecursion (λ v. z.end < v.end → v.end < b → net_write k v.history ≡ None) ys) → or_later (cond c (Some y) None) w ≡ Some x →
        (x.end < y.end → y.end < b → net_write k y.history ≡ None) × AllByRecursion (λ v. x.end < v.end → v.end < b → net_write k v.history ≡ None) ys
    go c (Some z) g f q = subst (λ (u : StampedTx). (u.end < y.end → y.end < b → net_write k y.history ≡ None) × AllByRecursion (λ v. u.end < v.end → v.end < b → net_write k v.history ≡ None) ys) (same_stamped z x q)
        ((λ l m. absurd (let above = last_is k b ys z g (λ v. y.end < v.end) r.0 in omega arith)), f z g)
    go true None g f q = subst (λ (u : StampedTx). (u.end < y.end → y.end < b → net_write k y.history ≡ None) × AllByRecursion (λ v. u.end < v.end → v.end < b → net_write k v.history ≡ None) ys) (same_stamped y x q)
        ((λ l m. absurd (omega arith)), each_weaker (λ z. is_writer k b z ≡ false) (λ v. y.end < v.end → v.end < b → net_write k v.history ≡ None) (λ v n l m. not_written k b v n m) ys (none_writes k b ys g))
    go false None g f q = absurd (no_stamped x q)

-- ---- one alone that passes is the one that is found
pub counted : {X : Type 0} (p : X → Bool) (xs : List X) → AllByRecursion (λ z. p z ≡ true → 1 ≤ how_many p xs) xs
counted p [] = tt
counted p (x ∷ xs) = (λ e. go (p x) e, each_weaker (λ z. p z ≡ true → 1 ≤ how_many p xs) (λ z. p z ≡ true → 1 ≤ cond (p x) 1 0 + how_many p xs) (λ z f e. let l = f e in omega arith) xs (counted p xs))
  where
    go : (b : Bool) → b ≡ true → 1 ≤ cond b 1 0 + how_many p xs
    go true e = omega arith
    go false e = absurd (false≢true e)

found_alone : {X : Type 0} (p : X → Bool) (xs : List X) → how_many p xs ≤ 1 → AllByRecursion (λ z. p z ≡ true → find p xs ≡ Some z) xs
found_alone p [] h = tt
found_alone p (x ∷ xs) h = go (p x) refl h (counted p xs) (λ l. found_alone p xs l)
  where
    go : (b : Bool) → p x ≡ b → cond b 1 0 + how_many p xs ≤ 1 → AllByRecursion (λ z. p z ≡ true → 1 ≤ how_many p xs) xs → (how_many p xs ≤ 1 → AllByRecursion (λ z. p z ≡ true → find p xs ≡ Some z) xs) →
        (p x ≡ true → cond b (Some x) (find p xs) ≡ Some x) × AllByRecursion (λ z. p z ≡ true → cond b (Some x) (find p xs) ≡ Some z) xs
    go true e l c f = ((λ _. refl), each_weaker (λ z. p z ≡ true → 1 ≤ how_many p xs) (λ z. p z ≡ true → Some x ≡ Some z) (λ z g q. absurd (let m = g q in omega arith)) xs c)
    go false e l c f = ((λ q. absurd (false≢true (sym e ∙ q))), f (omega arith))

-- ---- its phase
pub preparing_phase : (s : State) (x : StampedTx) → IsIn x s.stamped → x.settled ≡ false → IsSingle s → phase_in s x.id ≡ Preparing x.end
preparing_phase s x m o h = ap (λ (w : Option ActiveTx). phase_by w (preparing_of x.id s.stamped) (ended_of x.id s.ended)) none ∙ ap (λ (w : Option StampedTx). phase_by None w (ended_of x.id s.ended)) found
  where
    mine : is_preparing_as x.id x ≡ true
    mine = and_from (x.id == x.id) (not x.settled) (eq-eqb x.id x.id refl) (ap not o)

    one : how_many (is_preparing_as x.id) s.stamped ≤ 1
    one = let q = h.once x.id in omega arith

    found : preparing_of x.id s.stamped ≡ Some x
    found = preparing_found x.id s.stamped ∙ m (λ z. is_preparing_as x.id z ≡ true → find (is_preparing_as x.id) s.stamped ≡ Some z) (found_alone (is_preparing_as x.id) s.stamped one) mine

    none : active_of x.id s.active ≡ None
    none = active_found x.id s.active ∙ find_none (is_active_as x.id) s.active (let q = h.once x.id in let c = m (λ z. is_preparing_as x.id z ≡ true → 1 ≤ how_many (is_preparing_as x.id) s.stamped) (counted (is_preparing_as x.id) s.stamped) mine in omega arith)

-- who is Preparing in the trace is among the stamped ones
active_no : (n : ℕ) → ◌≡◌ {A = Phase} Active (Preparing n) → ⊥
active_no n e = cc

absent_no : (n : ℕ) → ◌≡◌ {A = Phase} Absent (Preparing n) → ⊥
absent_no n e = cc

aborted_no : (n : ℕ) → ◌≡◌ {A = Phase} Aborts_at (Preparing n) → ⊥
aborted_no n e = cc

committed_no : (m n : ℕ) → ◌≡◌ {A = Phase} (Commits_at m) (Preparing n) → ⊥
committed_no m n e = cc

pub same_end : (m n : ℕ) → ◌≡◌ {A = Phase} (Preparing m) (Preparing n) → m ≡ n
same_end m n e = cc

pub preparing_there : (r : Option ActiveTx) (w : Option StampedTx) (u : Option EndedTx) (n : ℕ) → phase_by r w u ≡ Preparing n → (x : StampedTx) × (w ≡ Some x) × (x.end ≡ n)
preparing_there (Some r) w u n e = absurd (active_no n e)
preparing_there None (Some x) u n e = (x, refl, same_end x.end n e)
preparing_there None None (Some u) n e = go u.outcome e
  where
    go : (o : Outcome) → ended_as o ≡ Preparing n → (x : StampedTx) × (◌≡◌ {A = Option StampedTx} None (Some x)) × (x.end ≡ n)
    go (Committed m) f = absurd (committed_no m n f)
    go Aborted f = absurd (aborted_no n f)
preparing_there None None None n e = absurd (absent_no n e)

pub found_in : (z : ℕ) (xs : List StampedTx) (x : StampedTx) → preparing_of z xs ≡ Some x → IsIn x xs × (x.id ≡ z)
found_in z xs x e = let p = split_at z xs x e in (λ P h. in_both P p.0 p.1 x (subst (AllByRecursion P) p.2 h), p.3)
  where
    in_both : (P : StampedTx → Type 0) (before after : List StampedTx) (y : StampedTx) → AllByRecursion P (before ++ y ∷ after) → P y
    in_both P [] after y h = h.0
    in_both P (v ∷ vs) after y h = in_both P vs after y h.1
