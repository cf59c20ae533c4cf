-- Who is Active may be rolled back; and how many were.
use Rattle.std.proofs.Common.{◌≡◌, ◌+◌, ◌-◌, ◌^◌, ◌++◌, ℕ, true, List, [], ◌∷◌, length, Option, None, Some, refl, ap, arith, length-append}
use Rattle.std.specs.Prelude.{min}
use Rattle.std.proofs.lemmas.Bool.{false≢true}
use Rattle.mvo_txn.specs.declared.state.TxState.{TxState}
use Rattle.mvo_txn.specs.declared.state.TxState.TheVariants.{Active, Preparing, Committed, Aborted}
use Rattle.mvo_core.specs.declared.kept_transaction.TransactionKind.{TransactionKind}
use Rattle.mvo_core.specs.Causes.{why_not_undo}
use Rattle.mvo_core.specs.Unfinished.{is_active_kind}
use Rattle.mvo_engine.specs.States.{SessionState}

pub may_be_undone : (o : Option TxState) (kind : TransactionKind) → is_active_kind o kind ≡ true → why_not_undo o ≡ None
may_be_undone None kind e = absurd (false≢true e)
may_be_undone (Some Active) kind e = refl
may_be_undone (Some (Preparing d)) kind e = absurd (false≢true e)
may_be_undone (Some (Committed d)) kind e = absurd (false≢true e)
may_be_undone (Some Aborted) kind e = absurd (false≢true e)

-- where a session has no transaction, it is as if that were taken from it
pub none_after : (s : SessionState) → s.tx ≡ None → s ≡ record s { tx = None }
none_after s e = ap (λ (o : Option ℕ). record s { tx = o }) e

-- ---- how many
-- one more
pub one_more_counts : (all r t : ℕ) (ids : List ℕ) → all ≡ min (length ids) (2 ^ 64 - 1) → r ≡ min (all + 1) (2 ^ 64 - 1) → r ≡ min (length (ids ++ t ∷ [])) (2 ^ 64 - 1)
one_more_counts all r t ids a b =
    let more : length (ids ++ t ∷ []) ≡ length ids + 1 = length-append ids (t ∷ []) in
    omega (arith, a, b, more)

-- so many more
pub more_count : (all n r : ℕ) (ids more : List ℕ) → all ≡ min (length ids) (2 ^ 64 - 1) → n ≡ min (length more) (2 ^ 64 - 1) → r ≡ min (all + n) (2 ^ 64 - 1) → r ≡ min (length (ids ++ more)) (2 ^ 64 - 1)
more_count all n r ids more a b e =
    let both : length (ids ++ more) ≡ length ids + length more = length-append ids more in
    omega (arith, a, b, e, both)

-- one more isn't none
pub more_than_none : (all r : ℕ) → r ≡ min (all + 1) (2 ^ 64 - 1) → r ≡ 0 → ⊥
more_than_none all r e z = omega (arith, e, z)
