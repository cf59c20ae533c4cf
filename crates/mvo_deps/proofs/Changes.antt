-- What a change of one transaction's dependencies leaves at each id.
use Rattle.std.proofs.Common.{◌≡◌, ℕ, Bool, true, false, eqb, ◌||◌, List, [], ◌∷◌, ◌++◌, Option, Some, None, refl, sym, ap, ◌∙◌, ⊎_elim}
use Rattle.std.proofs.lemmas.Bool.{cases_eq, eqb-true, eq-eqb, false≢true, ne_eqb}
use Rattle.std.proofs.lemmas.Cmp.{nat_cmp_total}
use Rattle.std.specs.Prelude.{Result, Ok, Err, OnErr}
use Rattle.std.specs.Option.{option_map, unwrap_or}
use Rattle.std.specs.Ordering.{nat_cmp}
use Rattle.std.specs.FinMap.{FinMap, get, insert, same_map, nat_cmp-IsAntisymmetric}
use Rattle.mvo_types.specs.declared.ids.TxId.{TxId}
use Rattle.mvo_txn.specs.declared.table_seat.TableSeat.{TableSeat}
use Rattle.mvo_txn.specs.Seats.{with_kept_at}
use Rattle.mvo_txn.specs.Txns.{Txns, kept_of, table_after_write}
use Rattle.mvo_txn.proofs.Stamps.{get_inserted, get_beside}
use Rattle.mvo_deps.specs.declared.node.Node.{Node}
use Rattle.mvo_deps.specs.Data.{DependencyData, is_id_among, AreDistinctIds, with_dependent, without_last_dependent}
use Rattle.mvo_deps.specs.Nodes.{after_change, after_change_at, changed_if, with_data, IsEachChanged}
use Rattle.mvo_deps.proofs.Apart.{apart_last, among_same, among_behind, front_of}

-- ---- a write that leaves what was there
inserted_same : {X : Type 0} (m : FinMap nat_cmp X) (id : ℕ) (x : X) → get m id ≡ Some x → insert m id x ≡ m
inserted_same m id x there = same_map nat_cmp_total nat_cmp-IsAntisymmetric _ _ (λ q.
    ⊎_elim (λ is. ap (get (insert m id x)) is ∙ get_inserted m id x ∙ sym (ap (get m) is ∙ there)) (λ ne. get_beside m id x q ne) (cases_eq q id))

kept_same_at : {P : Type 0} (t : Txns P) (id : ℕ) (o : Option (TableSeat P)) (kept : P) → get t.seats id ≡ o → option_map (λ s. s.kept) o ≡ Some kept → with_kept_at o t.seats id kept ≡ t.seats
kept_same_at t id None kept there e = refl
kept_same_at t id (Some seat) kept there e =
    inserted_same t.seats id (record seat { kept = kept }) (there ∙ ap (λ k. Some (record seat { kept = k })) (ap (λ o. unwrap_or o kept) e))

-- what was kept is kept
pub write_same : {P : Type 0} (t : Txns P) (id : ℕ) (kept : P) → kept_of t id ≡ Some kept → table_after_write t id kept ≡ t
write_same t id kept e = ap (λ m. record t { seats = m }) (kept_same_at t id (get t.seats id) kept refl e)

module _ {P : Type 0} where
  -- ---- a change at one id, as a look-up sees it
  unchanged : (o : Option (TableSeat (Node P))) (f : DependencyData → DependencyData) → o ≡ option_map (with_data (changed_if false f)) o
  unchanged None f = refl
  unchanged (Some s) f = refl

  change_at : (t : Txns (Node P)) (id : ℕ) (f : DependencyData → DependencyData) (o : Option (TableSeat (Node P))) → get t.seats id ≡ o → (q : ℕ)
      → get (after_change_at (option_map (λ s. s.kept) o) t id f).seats q ≡ option_map (with_data (changed_if (eqb q id) f)) (get t.seats q)
  change_at t id f None there q =
      ⊎_elim
      (λ is. ap (get t.seats) is ∙ there ∙ sym (ap (option_map (with_data (changed_if (eqb q id) f))) (ap (get t.seats) is ∙ there)))
      (λ ne. unchanged (get t.seats q) f ∙ ap (λ b. option_map (with_data (changed_if b f)) (get t.seats q)) (sym (ne_eqb q id ne)))
      (cases_eq q id)
  change_at t id f (Some seat) there q =
      ap (λ o. get (with_kept_at o t.seats id (record seat.kept { dependencies = f seat.kept.dependencies })) q) there
      ∙ ⊎_elim
      (λ is. ap (get (insert t.seats id (with_data f seat))) is ∙ get_inserted t.seats id (with_data f seat)
      ∙ sym (ap (λ b. option_map (with_data (changed_if b f)) (get t.seats q)) (eq-eqb q id is) ∙ ap (option_map (with_data f)) (ap (get t.seats) is ∙ there)))
      (λ ne. get_beside t.seats id (with_data f seat) q ne ∙ unchanged (get t.seats q) f ∙ ap (λ b. option_map (with_data (changed_if b f)) (get t.seats q)) (sym (ne_eqb q id ne)))
      (cases_eq q id)

  pub get_changed : (t : Txns (Node P)) (id : ℕ) (f : DependencyData → DependencyData) (q : ℕ) → get (after_change t id f).seats q ≡ option_map (with_data (changed_if (eqb q id) f)) (get t.seats q)
  get_changed t id f q = change_at t id f (get t.seats id) refl q

  clock_at : (t : Txns (Node P)) (id : ℕ) (f : DependencyData → DependencyData) (o : Option (Node P)) → (after_change_at o t id f).clock ≡ t.clock
  clock_at t id f None = refl
  clock_at t id f (Some node) = refl

  pub clock_changed : (t : Txns (Node P)) (id : ℕ) (f : DependencyData → DependencyData) → (after_change t id f).clock ≡ t.clock
  clock_changed t id f = clock_at t id f (kept_of t id)

  -- ---- one change after another
  joined : (a b : Bool) (f : DependencyData → DependencyData) (o : Option (TableSeat (Node P))) → (a ≡ true → b ≡ false)
      → option_map (with_data (changed_if b f)) (option_map (with_data (changed_if a f)) o) ≡ option_map (with_data (changed_if (a || b) f)) o
  joined a b f None apart = refl
  joined true true f (Some s) apart = absurd (false≢true (sym (apart refl)))
  joined true false f (Some s) apart = refl
  joined false true f (Some s) apart = refl
  joined false false f (Some s) apart = refl

  -- ---- a change that is taken back
  taken_back : (f h : DependencyData → DependencyData) → ((d : DependencyData) → h (f d) ≡ d) → (b : Bool) (o : Option (TableSeat (Node P)))
      → option_map (with_data (changed_if b h)) (option_map (with_data (changed_if b f)) o) ≡ o
  taken_back f h back b None = refl
  taken_back f h back true (Some s) = ap (λ d. Some (record s { kept = record s.kept { dependencies = d } })) (back s.kept.dependencies)
  taken_back f h back false (Some s) = refl

  same_txns : (t u : Txns (Node P)) → u.clock ≡ t.clock → ((q : ℕ) → get u.seats q ≡ get t.seats q) → u ≡ t
  same_txns t u clock each = λ i. record { clock = clock i; seats = same_map nat_cmp_total nat_cmp-IsAntisymmetric u.seats t.seats each i }

  pub change_taken_back : (t : Txns (Node P)) (id : ℕ) (f h : DependencyData → DependencyData) → ((d : DependencyData) → h (f d) ≡ d) → after_change (after_change t id f) id h ≡ t
  change_taken_back t id f h back =
      same_txns t (after_change (after_change t id f) id h) (clock_changed (after_change t id f) id h ∙ clock_changed t id f) (λ q.
      get_changed (after_change t id f) id h q ∙ ap (option_map (with_data (changed_if (eqb q id) h))) (get_changed t id f q) ∙ taken_back f h back (eqb q id) (get t.seats q))

  -- ---- each of a list
  pub each_none : (f : DependencyData → DependencyData) (t : Txns (Node P)) → IsEachChanged f t t []
  each_none f t = record { clock = refl; each = λ id. unchanged (get t.seats id.0) f }

  pub each_more : (f : DependencyData → DependencyData) (t u : Txns (Node P)) (ids : List TxId) (id : TxId) → AreDistinctIds (ids ++ id ∷ []) → IsEachChanged f t u ids → IsEachChanged f t (after_change u id.0 f) (ids ++ id ∷ [])
  each_more f t u ids id apart h = record {
    clock = clock_changed u id.0 f ∙ h.clock;
    each = λ q.
        get_changed u id.0 f q.0 ∙ ap (option_map (with_data (changed_if (eqb q.0 id.0) f))) (h.each q)
        ∙ joined (is_id_among q ids) (eqb q.0 id.0) f (get t.seats q.0) (λ e. not_last q e (eqb q.0 id.0) refl)
        ∙ ap (λ b. option_map (with_data (changed_if b f)) (get t.seats q.0)) (sym (among_more q));
  } where
    not_last : (q : TxId) → is_id_among q ids ≡ true → (b : Bool) → eqb q.0 id.0 ≡ b → eqb q.0 id.0 ≡ false
    not_last q e true same = absurd (false≢true (sym (apart_last ids id apart) ∙ sym (among_same q id ids (eqb-true q.0 id.0 same)) ∙ e))
    not_last q e false same = same

    among_more : (q : TxId) → is_id_among q (ids ++ id ∷ []) ≡ (is_id_among q ids || eqb q.0 id.0)
    among_more q = among_behind q id ids

-- ---- a dependent that is taken back
pub dependent_taken_back : (id : TxId) (d : DependencyData) → without_last_dependent (with_dependent id d) ≡ d
dependent_taken_back id d = ap (λ ids. record d { dependents = ids }) (front_of id d.dependents)

pub on_err : {T E : Type 0} (A B : Type 0) (r : Result T E) → OnErr r A → (A → B) → OnErr r B
on_err A B (Ok x) h f = tt
on_err A B (Err e) h f = f h
