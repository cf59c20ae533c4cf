-- Several dependencies that are noted, one after another, and taken back.
use Rattle.std.proofs.Common.{◌≡◌, ◌+◌, ◌-◌, ◌<◌, ◌≤◌, ℕ, Bool, true, false, cond, eqb, length, take, List, [], ◌∷◌, ◌++◌, refl, sym, ap, ◌∙◌, arith, length-append}
use Rattle.std.specs.List.{AllByRecursion}
use Rattle.std.proofs.lemmas.Bool.{eq-eqb}
use Rattle.std.specs.Option.{is_some}
use Rattle.std.specs.FinMap.{get}
use Rattle.mvo_types.specs.declared.ids.TxId.{TxId}
use Rattle.mvo_txn.specs.Txns.{Txns, state_of}
use Rattle.mvo_txn.specs.Queue.{open_end}
use Rattle.mvo_deps.specs.declared.node.Node.{Node}
use Rattle.mvo_deps.specs.Data.{DependencyData, is_id_among, with_dependency, with_dependent, without_last_dependency, without_last_dependent, IsLastBeyond}
use Rattle.mvo_deps.specs.Nodes.{data_of, after_change, changed_if, after_register, after_register_all, noted_on, noted_all}
use Rattle.mvo_deps.specs.Graph.{is_id_preparing, IsDependencyGraph}
use Rattle.mvo_deps.proofs.Apart.{front_of}
use Rattle.mvo_deps.proofs.Changes.{clock_changed, change_taken_back, dependent_taken_back}
use Rattle.mvo_deps.proofs.Looks.{state_changed, there_changed, data_changed, no_data}
use Rattle.mvo_deps.proofs.Registered.{kept_noted}

-- ---- one that is taken back
pub dependency_taken_back : (id : TxId) (d : DependencyData) → without_last_dependency (with_dependency id d) ≡ d
dependency_taken_back id d =
    let n : d.unsettled + 1 - 1 ≡ d.unsettled = omega arith in
    λ i. record d { unsettled = n i; on = front_of id d.on i }

or_changed : (b : Bool) (tx : TxId) (d : DependencyData) → (changed_if b (with_dependent tx) d).on ≡ d.on
or_changed true tx d = refl
or_changed false tx d = refl

last_is : (xs ys : List TxId) (x y : TxId) → xs ++ x ∷ [] ≡ ys ++ y ∷ [] → x ≡ y
last_is [] [] x y e = cc
last_is [] (b ∷ ys) x y e = absurd (let n = ap length e in let m = length-append ys (y ∷ []) in omega (arith, n, m))
last_is (a ∷ xs) [] x y e = absurd (let n = ap length e in let m = length-append xs (x ∷ []) in omega (arith, n, m))
last_is (a ∷ xs) (b ∷ ys) x y e = last_is xs ys x y (cc)

module _ {P : Type 0} where
  -- ---- what noting leaves
  pub there_noted : (t : Txns (Node P)) (tx on : TxId) (q : ℕ) → is_some (get (noted_on t tx on).seats q) ≡ is_some (get t.seats q)
  there_noted t tx on q = there_changed (after_change t on.0 (with_dependent tx)) tx.0 (with_dependency on) q ∙ there_changed t on.0 (with_dependent tx) q

  pub on_noted : (t : Txns (Node P)) (tx on : TxId) → is_some (get t.seats tx.0) ≡ true → (data_of (noted_on t tx on) tx).on ≡ (data_of t tx).on ++ on ∷ []
  on_noted t tx on there =
      ap (λ (d : DependencyData). d.on)
      (data_changed (after_change t on.0 (with_dependent tx)) tx.0 (with_dependency on) tx (there_changed t on.0 (with_dependent tx) tx.0 ∙ there)
      ∙ ap (λ b. changed_if b (with_dependency on) (data_of (after_change t on.0 (with_dependent tx)) tx)) (eq-eqb tx.0 tx.0 refl)
      ∙ ap (with_dependency on) (data_changed t on.0 (with_dependent tx) tx there))
      ∙ ap (λ ids. ids ++ on ∷ []) (or_changed (eqb tx.0 on.0) tx (data_of t tx))

  pub there_all : (t : Txns (Node P)) (tx : TxId) (ons : List TxId) → is_some (get (noted_all t tx ons).seats tx.0) ≡ is_some (get t.seats tx.0)
  there_all t tx [] = refl
  there_all t tx (on ∷ ons) = there_noted (noted_all t tx ons) tx on tx.0 ∙ there_all t tx ons

  pub more_all : (t : Txns (Node P)) (tx : TxId) (ons : List TxId) → is_some (get t.seats tx.0) ≡ true → length (data_of (noted_all t tx ons) tx).on ≡ length (data_of t tx).on + length ons
  more_all t tx [] there = omega arith
  more_all t tx (on ∷ ons) there =
      let n = ap length (on_noted (noted_all t tx ons) tx on (there_all t tx ons ∙ there)) in
      let m = length-append (data_of (noted_all t tx ons) tx).on (on ∷ []) in
      let k = more_all t tx ons there in
      omega (arith, n, m, k)

  -- ---- the last is taken back
  abbrev pub taken_back : Txns (Node P) → TxId → TxId → Txns (Node P)
  taken_back t tx on = after_change (after_change t tx.0 without_last_dependency) on.0 without_last_dependent

  noted_taken_back : (t : Txns (Node P)) (tx on : TxId) → taken_back (noted_on t tx on) tx on ≡ t
  noted_taken_back t tx on =
      ap (λ u. after_change u on.0 without_last_dependent) (change_taken_back (after_change t on.0 (with_dependent tx)) tx.0 (with_dependency on) without_last_dependency (dependency_taken_back on))
      ∙ change_taken_back t on.0 (with_dependent tx) without_last_dependent (dependent_taken_back tx)

  pub all_taken_back : (t : Txns (Node P)) (tx on : TxId) (ons : List TxId) → is_some (get t.seats tx.0) ≡ true → IsLastBeyond (length (data_of t tx).on) (data_of (noted_all t tx ons) tx).on on
      → (rest : List TxId) × (taken_back (noted_all t tx ons) tx on ≡ noted_all t tx rest)
  all_taken_back t tx on [] there e = absurd (let lt = e.more in omega (arith, lt))
  all_taken_back t tx on (x ∷ xs) there e =
      let same : x ≡ on = last_is (data_of (noted_all t tx xs) tx).on e.front x on (sym (on_noted (noted_all t tx xs) tx x (there_all t tx xs ∙ there)) ∙ e.is) in
      (xs, ap (λ o. taken_back (noted_on (noted_all t tx xs) tx x) tx o) (sym same) ∙ noted_taken_back (noted_all t tx xs) tx x)

  pub none_taken_back : (t : Txns (Node P)) (tx : TxId) (ons : List TxId) → is_some (get t.seats tx.0) ≡ true → length (data_of (noted_all t tx ons) tx).on ≤ length (data_of t tx).on → noted_all t tx ons ≡ t
  none_taken_back t tx [] there le = refl
  none_taken_back t tx (x ∷ xs) there le = absurd (let n = more_all t tx (x ∷ xs) there in omega (arith, n, le))

  -- ---- and there is one less then
  pub there_if_depends : (t : Txns (Node P)) (tx on : TxId) (count : ℕ) → IsLastBeyond count (data_of t tx).on on → is_some (get t.seats tx.0) ≡ true
  there_if_depends t tx on count e = go (is_some (get t.seats tx.0)) refl
    where
      go : (b : Bool) → is_some (get t.seats tx.0) ≡ b → is_some (get t.seats tx.0) ≡ true
      go true q = q
      go false q = absurd (
          let n : length (data_of t tx).on ≡ 0 = ap (λ (d : DependencyData). length d.on) (no_data t tx q) in
          let m = ap length e.is in let k = length-append e.front (on ∷ []) in omega (arith, n, m, k))

  pub one_less : (t : Txns (Node P)) (tx on : TxId) (count : ℕ) → IsLastBeyond count (data_of t tx).on on → length (data_of (taken_back t tx on) tx).on < length (data_of t tx).on
  one_less t tx on count e =
      let there = there_if_depends t tx on count e in
      let first : (data_of (after_change t tx.0 without_last_dependency) tx).on ≡ e.front =
      ap (λ (d : DependencyData). d.on) (data_changed t tx.0 without_last_dependency tx there ∙ ap (λ b. changed_if b without_last_dependency (data_of t tx)) (eq-eqb tx.0 tx.0 refl))
      ∙ ap (λ ids. take (length ids - 1) ids) e.is ∙ front_of on e.front in
      let second : (data_of (taken_back t tx on) tx).on ≡ (data_of (after_change t tx.0 without_last_dependency) tx).on =
      ap (λ (d : DependencyData). d.on) (data_changed (after_change t tx.0 without_last_dependency) on.0 without_last_dependent tx (there_changed t tx.0 without_last_dependency tx.0 ∙ there))
      ∙ same (eqb tx.0 on.0) (data_of (after_change t tx.0 without_last_dependency) tx) in
      let n = ap length (second ∙ first) in let m = ap length e.is in let k = length-append e.front (on ∷ []) in
      omega (arith, n, m, k)
    where
      same : (b : Bool) (d : DependencyData) → (changed_if b without_last_dependent d).on ≡ d.on
      same true d = refl
      same false d = refl

  -- ---- registering notes, or changes nothing
  pub registered_grows : (before t : Txns (Node P)) (tx on : TxId) (ons : List TxId) → t ≡ noted_all before tx ons → (more : List TxId) × (after_register t tx on ≡ noted_all before tx more)
  registered_grows before t tx on ons e = go (is_id_among on (data_of t tx).on) (is_id_among tx (data_of t on).dependents)
    where
      go : (a b : Bool) → (more : List TxId) × (cond a t (cond b t (noted_on t tx on)) ≡ noted_all before tx more)
      go true b = (ons, e)
      go false true = (ons, e)
      go false false = (on ∷ ons, ap (λ u. noted_on u tx on) e)

  pub register_all-append : (t : Txns (Node P)) (tx on : TxId) (ons : List TxId) → after_register_all t tx (ons ++ on ∷ []) ≡ after_register (after_register_all t tx ons) tx on
  register_all-append t tx on [] = refl
  register_all-append t tx on (x ∷ xs) = register_all-append (after_register t tx x) tx on xs

  -- ---- the graph
  pub state_registered : (t : Txns (Node P)) (tx on : TxId) (q : ℕ) → state_of (after_register t tx on) q ≡ state_of t q
  state_registered t tx on q = go (is_id_among on (data_of t tx).on) (is_id_among tx (data_of t on).dependents)
    where
      go : (a b : Bool) → state_of (cond a t (cond b t (noted_on t tx on))) q ≡ state_of t q
      go true b = refl
      go false true = refl
      go false false = state_changed (after_change t on.0 (with_dependent tx)) tx.0 (with_dependency on) q ∙ state_changed t on.0 (with_dependent tx) q

  pub clock_registered : (t : Txns (Node P)) (tx on : TxId) → (after_register t tx on).clock ≡ t.clock
  clock_registered t tx on = go (is_id_among on (data_of t tx).on) (is_id_among tx (data_of t on).dependents)
    where
      go : (a b : Bool) → (cond a t (cond b t (noted_on t tx on))).clock ≡ t.clock
      go true b = refl
      go false true = refl
      go false false = clock_changed (after_change t on.0 (with_dependent tx)) tx.0 (with_dependency on) ∙ clock_changed t on.0 (with_dependent tx)

  pub there_registered : (t : Txns (Node P)) (tx on : TxId) (q : ℕ) → is_some (get (after_register t tx on).seats q) ≡ is_some (get t.seats q)
  there_registered t tx on q = go (is_id_among on (data_of t tx).on) (is_id_among tx (data_of t on).dependents)
    where
      go : (a b : Bool) → is_some (get (cond a t (cond b t (noted_on t tx on))).seats q) ≡ is_some (get t.seats q)
      go true b = refl
      go false true = refl
      go false false = there_noted t tx on q

  pub kept_registered : (t : Txns (Node P)) (ab : List TxId) (tx on : TxId) → is_some (get t.seats tx.0) ≡ true → is_id_preparing t on ≡ true → IsDependencyGraph t ab → IsDependencyGraph (after_register t tx on) ab
  kept_registered t ab tx on there prep h = go (is_id_among on (data_of t tx).on) refl (is_id_among tx (data_of t on).dependents) refl
    where
      go : (a : Bool) → is_id_among on (data_of t tx).on ≡ a → (b : Bool) → is_id_among tx (data_of t on).dependents ≡ b → IsDependencyGraph (cond a t (cond b t (noted_on t tx on))) ab
      go true i b j = h
      go false i true j = h
      go false i false j = kept_noted t ab tx on there prep i j h

  pub kept_registered_all : (t : Txns (Node P)) (ab : List TxId) (tx : TxId) (ons : List TxId) → is_some (get t.seats tx.0) ≡ true → AllByRecursion (λ on. is_id_preparing t on ≡ true) ons → IsDependencyGraph t ab → IsDependencyGraph (after_register_all t tx ons) ab
  kept_registered_all t ab tx [] there prep h = h
  kept_registered_all t ab tx (x ∷ xs) there prep h =
      kept_registered_all (after_register t tx x) ab tx xs (there_registered t tx x tx.0 ∙ there) (still xs prep.1) (kept_registered t ab tx x there prep.0 h)
    where
      still : (ons : List TxId) → AllByRecursion (λ on. is_id_preparing t on ≡ true) ons → AllByRecursion (λ on. is_id_preparing (after_register t tx x) on ≡ true) ons
      still [] k = tt
      still (y ∷ ys) k = (ap (λ o. is_some (open_end o)) (state_registered t tx x y.0) ∙ k.0, still ys k.1)
