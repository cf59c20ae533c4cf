-- What a look-up finds in a slab of chairs.
use Rattle.std.proofs.Common.{◌≡◌, ◌≢◌, ℕ, zero, suc, Bool, true, false, cond, eqb, List, [], ◌∷◌, length, slice_index_or, slice_set, Option, Some, None, refl, sym, ap, subst, ◌∙◌, arith, ◌⊎◌, inl, inr, ⊎_elim, count_by}
use Rattle.std.proofs.lemmas.Bool.{cases_eq, eqb-true, eq-eqb, false≢true, ne_eqb}
use Rattle.std.proofs.lemmas.Option.{none-some}
use Rattle.std.proofs.lemmas.List.{get_or-set_other}
use Rattle.std.proofs.lemmas.List.Sums.{sum_by-cons}
use Rattle.std.specs.Option.{is_some, unwrap_or}
use Rattle.std.specs.List.{IsDistinct, AllByRecursion}
use Rattle.std.specs.Map.{lookup, keys_of}
use Rattle.std.specs.Ordering.{nat_cmp}
use Rattle.std.specs.FinMap.{from_entries, len}
use Rattle.slab.specs.Slab.{Slab, get}
use Rattle.mvo_txn.specs.declared.chair.Chair.{Chair}
use Rattle.mvo_txn.specs.declared.directory.Directory.{Directory}
use Rattle.mvo_txn.specs.Directory.{is_of, Knows, KnowsAlike, Notes, Forgets, IsDirectory}
use Rattle.mvo_txn.specs.Chairs.{seats_of}
use Rattle.mvo_txn.proofs.Held.{len_held}

pub not_true : (b : Bool) → (b ≡ true → ⊥) → b ≡ false
not_true true h = absurd (h refl)
not_true false h = refl

turned : (a b : ℕ) → eqb a b ≡ false → eqb b a ≡ false
turned a b e = not_true (eqb b a) (λ t. false≢true (sym e ∙ eq-eqb a b (sym (eqb-true b a t))))

module _ {P : Type 0} where
  abbrev pub at : List (Option (Chair P)) → ℕ → Option (Chair P)
  at slots n = slice_index_or slots n None

  -- no id has two chairs
  abbrev pub IsOwn : List (Option (Chair P)) → Type 0
  IsOwn slots = (i j id : ℕ) → is_of (at slots i) id ≡ true → is_of (at slots j) id ≡ true → i ≡ j

  pub chair_of : (o : Option (Chair P)) (id : ℕ) → is_of o id ≡ true → (c : Chair P) × (o ≡ Some c) × (c.id ≡ id)
  chair_of None id e = absurd (false≢true e)
  chair_of (Some c) id e = (c, refl, eqb-true c.id id e)

  pub of_chair : (o : Option (Chair P)) (c : Chair P) (id : ℕ) → o ≡ Some c → c.id ≡ id → is_of o id ≡ true
  of_chair o c id e is = ap (λ x. is_of x id) e ∙ eq-eqb c.id id is

  own_rest : (x : Option (Chair P)) (slots : List (Option (Chair P))) → IsOwn (x ∷ slots) → IsOwn slots
  own_rest x slots own i j id a b = let e : suc i ≡ suc j = own (suc i) (suc j) id a b in omega (arith, e)

  -- ---- look-ups
  pub look_at : (slots : List (Option (Chair P))) (n id : ℕ) (c : Chair P) → IsOwn slots → at slots n ≡ Some c → c.id ≡ id → lookup (eqb id) (seats_of slots) ≡ Some c.seat
  look_at [] n id c own e is = absurd (none-some c e)
  look_at (None ∷ slots) zero id c own e is = absurd (none-some c e)
  look_at (None ∷ slots) (suc n) id c own e is = look_at slots n id c (own_rest None slots own) e is
  look_at (Some d ∷ slots) zero id c own e is =
      let same : d ≡ c = ap (λ o. unwrap_or o d) e in
      ap (λ b. cond b (Some d.seat) (lookup (eqb id) (seats_of slots))) (eq-eqb id d.id (sym (ap (λ x. x.id) same ∙ is))) ∙ ap (λ x. Some x.seat) same
  look_at (Some d ∷ slots) (suc n) id c own e is =
      let other : eqb id d.id ≡ false = not_true (eqb id d.id) (λ t. let z : zero ≡ suc n = own zero (suc n) id (eq-eqb d.id id (sym (eqb-true id d.id t))) (of_chair (at slots n) c id e is) in omega (arith, z)) in
      ap (λ b. cond b (Some d.seat) (lookup (eqb id) (seats_of slots))) other ∙ look_at slots n id c (own_rest (Some d) slots own) e is

  pub look_none : (slots : List (Option (Chair P))) (id : ℕ) → ((n : ℕ) → is_of (at slots n) id ≡ false) → lookup (eqb id) (seats_of slots) ≡ None
  look_none [] id h = refl
  look_none (None ∷ slots) id h = look_none slots id (λ n. h (suc n))
  look_none (Some d ∷ slots) id h =
      ap (λ b. cond b (Some d.seat) (lookup (eqb id) (seats_of slots))) (turned d.id id (h zero)) ∙ look_none slots id (λ n. h (suc n))

  first_or : (x : Option (Chair P)) (slots : List (Option (Chair P))) (id : ℕ) → is_of x id ≡ false → ((n : ℕ) → is_of (at slots n) id ≡ false) → (n : ℕ) → is_of (at (x ∷ slots) n) id ≡ false
  first_or x slots id e h zero = e
  first_or x slots id e h (suc n) = h n

  -- somebody has the id, or nobody
  pub who : (slots : List (Option (Chair P))) (id : ℕ) → ((n : ℕ) × (is_of (at slots n) id ≡ true)) ⊎ ((n : ℕ) → is_of (at slots n) id ≡ false)
  who [] id = inr (λ n. refl)
  who (x ∷ slots) id = go (is_of x id) refl (who slots id)
    where
      go : (b : Bool) → is_of x id ≡ b → ((n : ℕ) × (is_of (at slots n) id ≡ true)) ⊎ ((n : ℕ) → is_of (at slots n) id ≡ false)
          → ((n : ℕ) × (is_of (at (x ∷ slots) n) id ≡ true)) ⊎ ((n : ℕ) → is_of (at (x ∷ slots) n) id ≡ false)
      go true e rest = inl (zero, e)
      go false e (inl (n, f)) = inl (suc n, f)
      go false e (inr h) = inr (first_or x slots id e h)

  -- the others' look-ups stay
  look_same : (old new : List (Option (Chair P))) (n q : ℕ) → IsOwn old → IsOwn new → is_of (at old n) q ≡ false → is_of (at new n) q ≡ false → ((m : ℕ) → m ≢ n → at new m ≡ at old m)
      → lookup (eqb q) (seats_of new) ≡ lookup (eqb q) (seats_of old)
  look_same old new n q own own' gone gone' others = go (who old q)
    where
      go : ((m : ℕ) × (is_of (at old m) q ≡ true)) ⊎ ((m : ℕ) → is_of (at old m) q ≡ false) → lookup (eqb q) (seats_of new) ≡ lookup (eqb q) (seats_of old)
      go (inl (m, e)) =
          let c = chair_of (at old m) q e in
          let other : m ≢ n = λ is. false≢true (sym gone ∙ ap (λ k. is_of (at old k) q) (sym is) ∙ e) in
          look_at new m q c.0 own' (others m other ∙ c.1) c.2 ∙ sym (look_at old m q c.0 own c.1 c.2)
      go (inr h) =
          look_none new q (λ m. ⊎_elim (λ is. ap (λ k. is_of (at new k) q) is ∙ gone') (λ ne. ap (λ o. is_of o q) (others m ne) ∙ h m) (cases_eq m n)) ∙ sym (look_none old q h)

  pub look_put : (old new : List (Option (Chair P))) (n id : ℕ) (c : Chair P) → IsOwn old → IsOwn new → at new n ≡ Some c → c.id ≡ id → ((m : ℕ) → m ≢ n → at new m ≡ at old m)
      → ((q : ℕ) → q ≢ id → is_of (at old n) q ≡ false) → (q : ℕ) → lookup (eqb q) (seats_of new) ≡ cond (eqb id q) (Some c.seat) (lookup (eqb q) (seats_of old))
  look_put old new n id c own own' here is others before q =
      ⊎_elim
      (λ e. look_at new n q c own' here (is ∙ sym e) ∙ sym (ap (λ b. cond b (Some c.seat) (lookup (eqb q) (seats_of old))) (eq-eqb id q (sym e))))
      (λ ne.
      look_same old new n q own own' (before q ne) (ap (λ o. is_of o q) here ∙ ne_eqb c.id q (λ f. ne (sym f ∙ is))) others
      ∙ sym (ap (λ b. cond b (Some c.seat) (lookup (eqb q) (seats_of old))) (ne_eqb id q (λ f. ne (sym f)))))
      (cases_eq q id)

  pub look_gone : (old new : List (Option (Chair P))) (n id : ℕ) → IsOwn old → IsOwn new → at new n ≡ None → is_of (at old n) id ≡ true → ((m : ℕ) → m ≢ n → at new m ≡ at old m)
      → (q : ℕ) → lookup (eqb q) (seats_of new) ≡ cond (eqb id q) None (lookup (eqb q) (seats_of old))
  look_gone old new n id own own' here was others q =
      ⊎_elim
      (λ e.
      look_none new q (λ m. ⊎_elim (λ is. ap (λ k. is_of (at new k) q) is ∙ ap (λ o. is_of o q) here)
      (λ ne. not_true (is_of (at new m) q) (λ t. ne (own m n q (ap (λ o. is_of o q) (sym (others m ne)) ∙ t) (ap (is_of (at old n)) e ∙ was)))) (cases_eq m n))
      ∙ sym (ap (λ b. cond b None (lookup (eqb q) (seats_of old))) (eq-eqb id q (sym e))))
      (λ ne.
      look_same old new n q own own' (not_true (is_of (at old n) q) (λ t. ne (sym (chair_of (at old n) q t).2 ∙ same_chair (at old n) (chair_of (at old n) q t).0 (chair_of (at old n) id was).0 (chair_of (at old n) q t).1 (chair_of (at old n) id was).1 ∙ (chair_of (at old n) id was).2)))
      (ap (λ o. is_of o q) here) others
      ∙ sym (ap (λ b. cond b None (lookup (eqb q) (seats_of old))) (ne_eqb id q (λ f. ne (sym f)))))
      (cases_eq q id)
    where
      same_chair : (o : Option (Chair P)) (c d : Chair P) → o ≡ Some c → o ≡ Some d → c.id ≡ d.id
      same_chair o c d e f = ap (λ x. (unwrap_or x c).id) (sym e ∙ f)

  -- ---- writes
  pub at_set : (slots : List (Option (Chair P))) (n : ℕ) (c : Chair P) (x : Option (Chair P)) → at slots n ≡ Some c → at (slice_set slots n x) n ≡ x
  at_set [] n c x e = absurd (none-some c e)
  at_set (y ∷ slots) zero c x e = refl
  at_set (y ∷ slots) (suc n) c x e = at_set slots n c x e

  pub at_others : (slots : List (Option (Chair P))) (n : ℕ) (x : Option (Chair P)) (m : ℕ) → m ≢ n → at (slice_set slots n x) m ≡ at slots m
  at_others slots n x m ne = get_or-set_other slots n m x None ne

  -- ---- how many
  pub count_seats : (slots : List (Option (Chair P))) → length (seats_of slots) ≡ count_by is_some slots
  count_seats [] = refl
  count_seats (None ∷ slots) = let e = sum_by-cons (λ o. cond (is_some o) 1 0) None slots in let r = count_seats slots in omega (arith, e, r)
  count_seats (Some c ∷ slots) = let e = sum_by-cons (λ o. cond (is_some o) 1 0) (Some c) slots in let r = count_seats slots in omega (arith, e, r)

  no_other : (id : ℕ) (slots : List (Option (Chair P))) → ((n : ℕ) → is_of (at slots n) id ≡ false) → AllByRecursion (λ y. eqb id y ≡ false) (keys_of (seats_of slots))
  no_other id [] h = tt
  no_other id (None ∷ slots) h = no_other id slots (λ n. h (suc n))
  no_other id (Some d ∷ slots) h = (turned d.id id (h zero), no_other id slots (λ n. h (suc n)))

  distinct : (slots : List (Option (Chair P))) → IsOwn slots → IsDistinct eqb (keys_of (seats_of slots))
  unfolding IsDistinct
  distinct [] own = tt
  distinct (None ∷ slots) own = distinct slots (own_rest None slots own)
  distinct (Some d ∷ slots) own = (
    no_other d.id slots (λ n. not_true (is_of (at slots n) d.id) (λ t. let z : zero ≡ suc n = own zero (suc n) d.id (eq-eqb d.id d.id refl) t in omega (arith, z))),
    distinct slots (own_rest (Some d) slots own),
  )

  pub len_seats : (slots : List (Option (Chair P))) → IsOwn slots → len (from_entries {R = nat_cmp} (seats_of slots)) ≡ count_by is_some slots
  len_seats slots own = len_held (seats_of slots) (distinct slots own) ∙ count_seats slots

  -- ---- the directory
  pub directory_alike : (d d' : Directory) (s : Slab (Chair P)) → KnowsAlike d d' → IsDirectory d s → IsDirectory d' s
  directory_alike d d' s same h = record { own = h.own; known = λ n id e. same id n (h.known n id e) }

  -- a chair is given another seat
  pub directory_written : (d : Directory) (s s' : Slab (Chair P)) (n : ℕ) (c c' : Chair P) → get s n ≡ Some c → get s' n ≡ Some c' → c'.id ≡ c.id
      → ((m : ℕ) → m ≢ n → get s' m ≡ get s m) → IsDirectory d s → IsDirectory d s'
  directory_written d s s' n c c' was now same others h = record {
    own = λ i j id a b. h.own i j id (sym (of_same i id) ∙ a) (sym (of_same j id) ∙ b);
    known = λ m id e. h.known m id (sym (of_same m id) ∙ e);
  } where
    of_same : (m id : ℕ) → is_of (get s' m) id ≡ is_of (get s m) id
    of_same m id = ⊎_elim
        (λ is. ap (λ k. is_of (get s' k) id) is ∙ ap (λ o. is_of o id) now ∙ ap (λ i. eqb i id) same ∙ sym (ap (λ k. is_of (get s k) id) is ∙ ap (λ o. is_of o id) was))
        (λ ne. ap (λ o. is_of o id) (others m ne))
        (cases_eq m n)

  -- a new id takes a free chair
  pub directory_put : (d d' : Directory) (s s' : Slab (Chair P)) (n id : ℕ) (c : Chair P) → get s' n ≡ Some c → c.id ≡ id → ((m : ℕ) → m ≢ n → get s' m ≡ get s m)
      → ((m : ℕ) → is_of (get s m) id ≡ false) → Notes d d' s id n → IsDirectory d s → IsDirectory d' s'
  directory_put d d' s s' n id c here is others new notes h = record {
    own = λ i j other a b. ⊎_elim
        (λ i_is. ⊎_elim (λ j_is. i_is ∙ sym j_is) (λ j_ne. absurd (nobody j other j_ne (here_id i other i_is a) b)) (cases_eq j n))
        (λ i_ne. ⊎_elim (λ j_is. absurd (nobody i other i_ne (here_id j other j_is b) a)) (λ j_ne. h.own i j other (before i other i_ne a) (before j other j_ne b)) (cases_eq j n))
        (cases_eq i n);
    known = λ m other e. ⊎_elim
        (λ m_is. subst (λ k. Knows d' other k) (sym m_is) (subst (λ k. Knows d' k n) (sym (here_id m other m_is e)) notes.known))
        (λ m_ne. notes.others other m (λ is_id. nobody m other m_ne is_id e) (before m other m_ne e) (h.known m other (before m other m_ne e)))
        (cases_eq m n);
  } where
    before : (m other : ℕ) → m ≢ n → is_of (get s' m) other ≡ true → is_of (get s m) other ≡ true
    before m other ne e = ap (λ o. is_of o other) (sym (others m ne)) ∙ e

    here_id : (m other : ℕ) → m ≡ n → is_of (get s' m) other ≡ true → other ≡ id
    here_id m other m_is e = sym (eqb-true c.id other (sym (ap (λ k. is_of (get s' k) other) m_is ∙ ap (λ o. is_of o other) here) ∙ e)) ∙ is

    nobody : (m other : ℕ) → m ≢ n → other ≡ id → is_of (get s' m) other ≡ true → ⊥
    nobody m other ne is_id e = false≢true (sym (new m) ∙ ap (is_of (get s m)) (sym is_id) ∙ before m other ne e)

  -- an id leaves its chair
  pub directory_gone : (d d' : Directory) (s s' : Slab (Chair P)) (n id : ℕ) → is_of (get s n) id ≡ true → get s' n ≡ None → ((m : ℕ) → m ≢ n → get s' m ≡ get s m)
      → Forgets d d' id → IsDirectory d s → IsDirectory d' s'
  directory_gone d d' s s' n id was here others forgets h = record {
    own = λ i j other a b. h.own i j other (before i other a) (before j other b);
    known = λ m other e. forgets.others other m (λ is. not_here m other e (h.own m n other (before m other e) (ap (is_of (get s n)) is ∙ was))) (h.known m other (before m other e));
  } where
    not_here : (m other : ℕ) → is_of (get s' m) other ≡ true → m ≢ n
    not_here m other e is = false≢true (sym (ap (λ k. is_of (get s' k) other) is ∙ ap (λ o. is_of o other) here) ∙ e)

    before : (m other : ℕ) → is_of (get s' m) other ≡ true → is_of (get s m) other ≡ true
    before m other e = ap (λ o. is_of o other) (sym (others m (not_here m other e))) ∙ e
