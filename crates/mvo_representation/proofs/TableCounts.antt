-- Who is in the table, and how many are.
use Rattle.std.proofs.Common.{◌≡◌, ◌≢◌, ℕ, ◌+◌, ◌-◌, ◌≤◌, Bool, true, false, cond, not, ◌||◌, List, [], ◌∷◌, ◌++◌, length, map, Option, None, Some, refl, sym, ap, ◌∙◌, ⊎_elim, arith, length-append}
use Rattle.std.specs.Prelude.{◌==◌, ◌&&◌, nat_le}
use Rattle.std.specs.Option.{option_map, is_some}
use Rattle.std.specs.Ordering.{nat_cmp}
use Rattle.std.specs.FinMap.{FinMap, get, len, remove, empty, get-empty, len-empty, len-remove, empty_of_len, same_map, nat_cmp-IsAntisymmetric}
use Rattle.std.proofs.lemmas.Bool.{cases_eq, eq-eqb, ne_eqb, true≢false, false≢true}
use Rattle.std.proofs.lemmas.Cmp.{nat_cmp_total}
use Rattle.std.proofs.lemmas.List.{length-map}
use Rattle.std.proofs.lemmas.List.Folds.{list_any-append}
use Rattle.mvo_types.specs.declared.limits.TheConstants.{MAX_UNFINISHED}
use Rattle.mvo_types.specs.declared.refusal.Refusal.TheVariants.{TableFull}
use Rattle.mvo_types.specs.Keys.{Map}
use Rattle.mvo_model.specs.Trace.{Step, Phase}
use Rattle.mvo_model.specs.Trace.Phase.{Absent, Active, Preparing, Committed, Aborted}
use Rattle.mvo_theory.specs.State.{State, ActiveTx, StampedTx, EndedTx, Outcome, active_of, preparing_of, ended_of, is_active_as, is_preparing_as, is_ended_as}
use Rattle.mvo_theory.specs.State.Outcome.{Committed as WasCommitted, Aborted as WasAborted}
use Rattle.mvo_theory.specs.Causes.{unsettled, unfinished, why_not_begin}
use Rattle.mvo_theory.specs.Dependencies.{has_end}
use Rattle.mvo_theory.specs.Marks.{open_begins}
use Rattle.mvo_theory.specs.Phases.{phase_by, ended_as}
use Rattle.mvo_theory.specs.Sound.{IsSingle, how_many}
use Rattle.mvo_shared.specs.Standing.{IsStanding}
use Rattle.mvo_theory.proofs.Cases.{begin_cases}
use Rattle.mvo_txn.specs.declared.state.TxState.{TxState}
use Rattle.mvo_txn.specs.declared.state.TxState.TheVariants as state
use Rattle.mvo_txn.specs.declared.table_seat.TableSeat.{TableSeat}
use Rattle.mvo_txn.specs.Txns.{Txns, state_of, spent_clock, why_not_begun}
use Rattle.mvo_txn.proofs.Stamps.{get_removed, get_left}
use Rattle.mvo_representation.specs.Table.{phase_as}
use Rattle.mvo_representation.specs.Dependencies.{IsTableOf}

-- the begins of the unfinished ones
abbrev pub begins : State → List ℕ
begins s = map (λ r. r.id) s.active ++ (open_begins s.stamped ++ map (λ u. u.id) s.ended)

-- ---- who is there
and_none : (b : Bool) → (b && false) ≡ false
and_none true = refl
and_none false = refl

has_active : (b : ℕ) (rs : List ActiveTx) → has_end (map (λ r. r.id) rs) b ≡ is_some (active_of b rs)
has_active b [] = refl
has_active b (r ∷ rs) = go (r.id == b) (has_active b rs)
  where
    go : (c : Bool) → has_end (map (λ q. q.id) rs) b ≡ is_some (active_of b rs) → (c || has_end (map (λ q. q.id) rs) b) ≡ is_some (cond c (Some r) (active_of b rs))
    go true h = refl
    go false h = h

has_open : (b : ℕ) (xs : List StampedTx) → has_end (open_begins xs) b ≡ is_some (preparing_of b xs)
has_open b [] = refl
has_open b (x ∷ xs) = go x.settled (x.id == b) refl (has_open b xs)
  where
    go : (c d : Bool) → (x.id == b) ≡ d → has_end (open_begins xs) b ≡ is_some (preparing_of b xs) → has_end (cond c (open_begins xs) (x.id ∷ open_begins xs)) b ≡ is_some (cond (d && not c) (Some x) (preparing_of b xs))
    go true d e h = h ∙ sym (ap (λ v. is_some (cond v (Some x) (preparing_of b xs))) (and_none d))
    go false true e h = ap (λ v. v || has_end (open_begins xs) b) e
    go false false e h = ap (λ v. v || has_end (open_begins xs) b) e ∙ h

has_ended : (b : ℕ) (us : List EndedTx) → has_end (map (λ u. u.id) us) b ≡ is_some (ended_of b us)
has_ended b [] = refl
has_ended b (u ∷ us) = go (u.id == b) (has_ended b us)
  where
    go : (c : Bool) → has_end (map (λ v. v.id) us) b ≡ is_some (ended_of b us) → (c || has_end (map (λ v. v.id) us) b) ≡ is_some (cond c (Some u) (ended_of b us))
    go true h = refl
    go false h = h

pub begins_are : (s : State) (b : ℕ) → has_end (begins s) b ≡ (is_some (active_of b s.active) || (is_some (preparing_of b s.stamped) || is_some (ended_of b s.ended)))
begins_are s b =
    list_any-append (λ (x : ℕ). x == b) (map (λ (r : ActiveTx). r.id) s.active) (open_begins s.stamped ++ map (λ (u : EndedTx). u.id) s.ended)
    ∙ ap (λ v. v || has_end (open_begins s.stamped ++ map (λ (u : EndedTx). u.id) s.ended) b) (has_active b s.active)
    ∙ ap (λ v. is_some (active_of b s.active) || v)
    (list_any-append (λ (x : ℕ). x == b) (open_begins s.stamped) (map (λ (u : EndedTx). u.id) s.ended)
    ∙ ap (λ v. v || has_end (map (λ (u : EndedTx). u.id) s.ended) b) (has_open b s.stamped)
    ∙ ap (λ v. is_some (preparing_of b s.stamped) || v) (has_ended b s.ended))

-- one that isn't Absent
abbrev is_there : Phase → Bool
is_there Absent = false
is_there Active = true
is_there (Preparing e) = true
is_there (Committed e) = true
is_there Aborted = true

there_as : (o : Option TxState) → is_there (phase_as o) ≡ is_some o
there_as None = refl
there_as (Some state.Active) = refl
there_as (Some (state.Preparing e)) = refl
there_as (Some (state.Committed e)) = refl
there_as (Some state.Aborted) = refl

there_ended : (o : Outcome) → is_there (ended_as o) ≡ true
there_ended (WasCommitted e) = refl
there_ended WasAborted = refl

there_by : (a : Option ActiveTx) (p : Option StampedTx) (u : Option EndedTx) → is_there (phase_by a p u) ≡ (is_some a || (is_some p || is_some u))
there_by (Some r) p u = refl
there_by None (Some x) u = refl
there_by None None (Some u) = there_ended u.outcome
there_by None None None = refl

module _ {P : Type 0} where
  seat_state : (o : Option (TableSeat P)) → is_some (option_map (λ s. s.state) o) ≡ is_some o
  seat_state None = refl
  seat_state (Some s) = refl

  -- just the unfinished ones have a seat
  pub seats_are : (s : State) (table : Txns P) → IsTableOf s table → (b : ℕ) → is_some (get table.seats b) ≡ has_end (begins s) b
  seats_are s table h b =
      sym (seat_state (get table.seats b))
      ∙ sym (there_as (state_of table b))
      ∙ ap is_there (h.phases b)
      ∙ there_by (active_of b s.active) (preparing_of b s.stamped) (ended_of b s.ended)
      ∙ sym (begins_are s b)

-- ---- each once
abbrev is_it : ℕ → ℕ → Bool
is_it t i = i == t

count_append : (p : ℕ → Bool) (xs ys : List ℕ) → how_many p (xs ++ ys) ≡ how_many p xs + how_many p ys
count_append p [] ys = omega arith
count_append p (x ∷ xs) ys = let h = count_append p xs ys in omega (arith, h)

count_active : (t : ℕ) (rs : List ActiveTx) → how_many (is_it t) (map (λ r. r.id) rs) ≡ how_many (is_active_as t) rs
count_active t [] = refl
count_active t (r ∷ rs) = ap (λ (n : ℕ). cond (r.id == t) 1 0 + n) (count_active t rs)

count_open : (t : ℕ) (xs : List StampedTx) → how_many (is_it t) (open_begins xs) ≡ how_many (is_preparing_as t) xs
count_open t [] = refl
count_open t (x ∷ xs) = go x.settled (x.id == t) refl (count_open t xs)
  where
    go : (c d : Bool) → (x.id == t) ≡ d → how_many (is_it t) (open_begins xs) ≡ how_many (is_preparing_as t) xs → how_many (is_it t) (cond c (open_begins xs) (x.id ∷ open_begins xs)) ≡ cond (d && not c) 1 0 + how_many (is_preparing_as t) xs
    go true true e h = omega (arith, h)
    go true false e h = omega (arith, h)
    go false true e h = ap (λ v. cond v 1 0 + how_many (is_it t) (open_begins xs)) e ∙ ap (λ (n : ℕ). 1 + n) h
    go false false e h = ap (λ v. cond v 1 0 + how_many (is_it t) (open_begins xs)) e ∙ ap (λ (n : ℕ). 0 + n) h

count_ended : (t : ℕ) (us : List EndedTx) → how_many (is_it t) (map (λ u. u.id) us) ≡ how_many (is_ended_as t) us
count_ended t [] = refl
count_ended t (u ∷ us) = ap (λ (n : ℕ). cond (u.id == t) 1 0 + n) (count_ended t us)

once_each : (s : State) → IsSingle s → (t : ℕ) → how_many (is_it t) (begins s) ≤ 1
once_each s h t =
    let o = h.once t in
    let a = count_append (is_it t) (map (λ (r : ActiveTx). r.id) s.active) (open_begins s.stamped ++ map (λ (u : EndedTx). u.id) s.ended) in
    let b = count_append (is_it t) (open_begins s.stamped) (map (λ (u : EndedTx). u.id) s.ended) in
    let c = count_active t s.active in
    let d = count_open t s.stamped in
    let e = count_ended t s.ended in
    omega (arith, o, a, b, c, d, e)

any_counted : (t : ℕ) (xs : List ℕ) → has_end xs t ≡ true → 1 ≤ how_many (is_it t) xs
any_counted t [] e = absurd (false≢true e)
any_counted t (x ∷ xs) e = go (x == t) e (λ f. any_counted t xs f)
  where
    go : (c : Bool) → (c || has_end xs t) ≡ true → (has_end xs t ≡ true → 1 ≤ how_many (is_it t) xs) → 1 ≤ cond c 1 0 + how_many (is_it t) xs
    go true f again = omega arith
    go false f again = let l = again f in omega (arith, l)

-- ---- how many
none_there : {X : Type 0} (o : Option X) → is_some o ≡ false → o ≡ None
none_there None e = refl
none_there (Some x) e = absurd (true≢false e)

pub counted : {X : Type 0} (ids : List ℕ) (m : FinMap nat_cmp X) → ((t : ℕ) → how_many (is_it t) ids ≤ 1) → ((b : ℕ) → is_some (get m b) ≡ has_end ids b) → len m ≡ length ids
counted {X} [] m once there =
    ap len (same_map nat_cmp_total nat_cmp-IsAntisymmetric m (empty {X = X} {R = nat_cmp}) (λ b. none_there (get m b) (there b) ∙ sym (get-empty nat_cmp b)))
    ∙ len-empty nat_cmp X
counted {X} (x ∷ ids) m once there =
    let rest = counted ids (remove m x) (λ t. let n = once t in fewer (x == t) (how_many (is_it t) ids) n) left in
    let removed : len (remove m x) ≡ len m - 1 = len-remove nat_cmp_total m x ∙ ap (λ c. cond c (len m - 1) (len m)) here in
    let some : len m ≢ 0 = λ e. true≢false (sym here ∙ ap (λ n. is_some (get n x)) (empty_of_len m e) ∙ ap is_some (get-empty nat_cmp x)) in
    omega (arith, rest, removed, some)
  where
    fewer : (c : Bool) (n : ℕ) → cond c 1 0 + n ≤ 1 → n ≤ 1
    fewer true n h = omega arith
    fewer false n h = omega arith

    here : is_some (get m x) ≡ true
    here = there x ∙ ap (λ c. c || has_end ids x) (eq-eqb x x refl)

    one : (c : Bool) → has_end ids x ≡ c → has_end ids x ≡ false
    one false e = e
    one true e = absurd (
        let n = once x in
        let k = any_counted x ids e in
        let f : ◌≡◌ {A = ℕ} (cond (x == x) 1 0) 1 = ap (λ c. cond c 1 0) (eq-eqb x x refl) in
        omega (arith, n, k, f))

    left : (b : ℕ) → is_some (get (remove m x) b) ≡ has_end ids b
    left b = ⊎_elim
        (λ is. ap (λ (n : ℕ). is_some (get (remove m x) n)) is ∙ ap is_some (get_removed m x) ∙ sym (one (has_end ids x) refl) ∙ ap (has_end ids) (sym is))
        (λ ne. ap is_some (get_left m x b ne) ∙ there b ∙ ap (λ c. c || has_end ids b) (ne_eqb x b (λ e. ne (sym e))))
        (cases_eq b x)

length_open : (xs : List StampedTx) → length (open_begins xs) ≡ unsettled xs
length_open [] = refl
length_open (x ∷ xs) = go x.settled (length_open xs)
  where
    go : (c : Bool) → length (open_begins xs) ≡ unsettled xs → length (cond c (open_begins xs) (x.id ∷ open_begins xs)) ≡ cond c (unsettled xs) (unsettled xs + 1)
    go true h = h
    go false h = omega (arith, h)

begins_counted : (s : State) → length (begins s) ≡ unfinished s
begins_counted s =
    let a = length-append (map (λ (r : ActiveTx). r.id) s.active) (open_begins s.stamped ++ map (λ (u : EndedTx). u.id) s.ended) in
    let b = length-append (open_begins s.stamped) (map (λ (u : EndedTx). u.id) s.ended) in
    let c = length-map s.active (λ (r : ActiveTx). r.id) in
    let d = length_open s.stamped in
    let e = length-map s.ended (λ (u : EndedTx). u.id) in
    omega (arith, a, b, c, d, e)

module _ {P : Type 0} where
  pub unfinished_is : (opening : Map) (s : State) (table : Txns P) → IsStanding opening s → IsTableOf s table → len table.seats ≡ unfinished s
  unfinished_is opening s table k h = counted (begins s) table.seats (once_each s k.single) (seats_are s table h) ∙ begins_counted s

  pub why_not_begun_is : (opening : Map) (s : State) (table : Txns P) → IsStanding opening s → IsTableOf s table → why_not_begun table ≡ why_not_begin s
  why_not_begun_is opening s table k h =
      ap (λ (n : ℕ). cond (nat_le MAX_UNFINISHED n) (Some TableFull) (spent_clock table.clock)) (unfinished_is opening s table k h)
      ∙ ap (λ (n : ℕ). cond (nat_le MAX_UNFINISHED (unfinished s)) (Some TableFull) (spent_clock n)) h.clock
      ∙ sym (begin_cases s)
