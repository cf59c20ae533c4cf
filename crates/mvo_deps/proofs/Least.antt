-- The least end of the Preparing ones among the first of a list.
use Rattle.std.proofs.Common.{◌≡◌, ℕ, ◌<◌, ◌≤◌, Bool, true, false, eqb, ◌||◌, List, [], ◌∷◌, ◌++◌, Option, Some, None, refl, sym, ap, ◌∙◌, arith, ◌⊎◌, inl, inr, ⊎_elim}
use Rattle.std.proofs.lemmas.Bool.{eqb-true, eq-eqb, false≢true}
use Rattle.std.proofs.lemmas.Option.{none-some}
use Rattle.std.specs.Prelude.{MatchOption}
use Rattle.std.specs.Option.{is_some}
use Rattle.mvo_types.specs.declared.ids.TxId.{TxId}
use Rattle.mvo_txn.specs.Txns.{Txns, state_of}
use Rattle.mvo_txn.specs.Queue.{open_end}
use Rattle.mvo_txn.proofs.Queues.{same_some}
use Rattle.mvo_deps.specs.Data.{is_id_among}
use Rattle.mvo_deps.specs.Waiting.{IsOpenEnd, IsLeastOpen, HasNoneOpen, IsLeast}
use Rattle.mvo_deps.specs.Waiting.IsLeast.{Nobody, Somebody}
use Rattle.mvo_deps.proofs.Apart.{among_behind}

pub either : (a b : Bool) → (a || b) ≡ true → (a ≡ true) ⊎ (b ≡ true)
either true b e = inl refl
either false b e = inr e

or_true_left : (a b : Bool) → a ≡ true → (a || b) ≡ true
or_true_left a b e = ap (λ x. x || b) e

or_true_right : (a b : Bool) → b ≡ true → (a || b) ≡ true
or_true_right true b e = refl
or_true_right false b e = e

module _ {P : Type 0} where
  -- one more of the list is open as before, or is the last
  open_more : (t : Txns P) (ids : List TxId) (d id : TxId) (end : ℕ) → IsOpenEnd t (ids ++ d ∷ []) id end → IsOpenEnd t ids id end ⊎ ((id.0 ≡ d.0) × (open_end (state_of t d.0) ≡ Some end))
  open_more t ids d id end h =
      ⊎_elim
      (λ e. inl (record { among = e; open_end_is = h.open_end_is }))
      (λ e. let same = eqb-true id.0 d.0 e in inr (same, sym (ap (λ n. open_end (state_of t n)) same) ∙ h.open_end_is))
      (either (is_id_among id ids) (eqb id.0 d.0) (sym (among_behind id d ids) ∙ h.among))

  open_before : (t : Txns P) (ids : List TxId) (d id : TxId) (end : ℕ) → IsOpenEnd t ids id end → IsOpenEnd t (ids ++ d ∷ []) id end
  open_before t ids d id end h = record { among = among_behind id d ids ∙ or_true_left (is_id_among id ids) (eqb id.0 d.0) h.among; open_end_is = h.open_end_is }

  open_last : (t : Txns P) (ids : List TxId) (d : TxId) (end : ℕ) → open_end (state_of t d.0) ≡ Some end → IsOpenEnd t (ids ++ d ∷ []) d end
  open_last t ids d end e = record { among = among_behind d d ids ∙ or_true_right (is_id_among d ids) (eqb d.0 d.0) (eq-eqb d.0 d.0 refl); open_end_is = e }

  pub least_none : (t : Txns P) (end : ℕ) → IsLeast t [] None end
  least_none t end = Nobody end (record { none = λ id e h. false≢true h.among })

  -- the last isn't Preparing
  pub least_skipped : (t : Txns P) (ids : List TxId) (d : TxId) (least : Option TxId) (end : ℕ) → open_end (state_of t d.0) ≡ None → IsLeast t ids least end → IsLeast t (ids ++ d ∷ []) least end
  least_skipped t ids d _ _ closed (Nobody end h) =
      Nobody end (record { none = λ id e g. ⊎_elim (λ k. h.none id e k) (λ k. none-some e (sym closed ∙ k.1)) (open_more t ids d id e g) })
  least_skipped t ids d _ _ closed (Somebody id end o least) =
      Somebody id end (open_before t ids d id end o) (λ other later g. ⊎_elim (λ k. least other later k) (λ k. absurd (none-some later (sym closed ∙ k.1))) (open_more t ids d other later g))

  -- the last has a lesser end, or is the first that is Preparing
  pub least_replaced : (t : Txns P) (ids : List TxId) (d : TxId) (least : Option TxId) (end lesser : ℕ) → open_end (state_of t d.0) ≡ Some lesser → (is_some least ≡ false) ⊎ (lesser < end) → IsLeast t ids least end → IsLeast t (ids ++ d ∷ []) (Some d) lesser
  least_replaced t ids d _ _ lesser is why (Nobody end h) =
      Somebody d lesser (open_last t ids d lesser is) (λ other later g.
      ⊎_elim (λ k. absurd (h.none other later k)) (λ k. let e = same_some lesser later (sym is ∙ k.1) in omega (arith, e)) (open_more t ids d other later g))
  least_replaced t ids d _ _ lesser is why (Somebody id end o least) =
      Somebody d lesser (open_last t ids d lesser is) (λ other later g.
      ⊎_elim
      (λ k. let le = least other later k in ⊎_elim (λ n. absurd (false≢true (sym n))) (λ lt. omega (arith, le, lt)) why)
      (λ k. let e = same_some lesser later (sym is ∙ k.1) in omega (arith, e))
      (open_more t ids d other later g))

  -- the last has no lesser end
  pub least_stays : (t : Txns P) (ids : List TxId) (d : TxId) (least : Option TxId) (end higher : ℕ) → open_end (state_of t d.0) ≡ Some higher → is_some least ≡ true → end ≤ higher → IsLeast t ids least end → IsLeast t (ids ++ d ∷ []) least end
  least_stays t ids d _ _ higher is some le (Nobody end h) = absurd (false≢true some)
  least_stays t ids d _ _ higher is some le (Somebody id end o least) =
      Somebody id end (open_before t ids d id end o) (λ other later g.
      ⊎_elim (λ k. least other later k) (λ k. let e = same_some higher later (sym is ∙ k.1) in omega (arith, e, le)) (open_more t ids d other later g))

  pub least_found : (t : Txns P) (ids : List TxId) (least : Option TxId) (end : ℕ) → IsLeast t ids least end → MatchOption least (HasNoneOpen t ids) (IsLeastOpen t ids)
  least_found t ids _ _ (Nobody end h) = h
  least_found t ids _ _ (Somebody id end o least) = record { end = end; is_open = o; least = least }
