-- What settling under the lock of the core comes to for the session.
use Rattle.std.specs.Prelude.{◌≡◌, ℕ, List, [], ◌∷◌, ◌++◌, Option, None, Some, Result, Ok, Err, ⊤}
use Rattle.mvo_types.specs.declared.ids.Stamp.{Stamp}
use Rattle.mvo_types.specs.declared.refusal.Refusal.{Refusal}
use Rattle.mvo_model.specs.History.{History}
use Rattle.mvo_core.specs.declared.answers.Settlement.{Settlement}
use Rattle.mvo_core.specs.declared.answers.Settlement.TheVariants.{Committed, Waiting}
use Rattle.mvo_core.specs.Receipts.{Receipt, receipt}
use Rattle.mvo_engine.specs.run.Receiving.{ReceiptsState, AreBelow}

-- the transaction, if there is one, begins above the ends of all receipts
abbrev pub BeginsAbove : Option ℕ → List Receipt → Type 0
BeginsAbove None rs = ⊤
BeginsAbove (Some t) rs = AreBelow t rs

-- The receipt of what the transaction was told is one more, and that is taken.
abbrev pub HasAdded : ℕ → History → ℕ → ReceiptsState → ReceiptsState → History → Type 0
HasAdded t told e old new told' = (new.list ≡ old.list ++ receipt t e told ∷ [])
    × (new.forgotten ≡ old.forgotten) × (told' ≡ [])

-- so it is where the transaction is committed, and else nothing has changed
abbrev pub HasSettled : ℕ → History → ReceiptsState → Result Settlement Refusal → ReceiptsState
    → History → Type 0
HasSettled t told old (Ok (Committed e)) new told' = HasAdded t told e.0 old new told'
HasSettled t told old (Ok (Waiting x)) new told' = (new ≡ old) × (told' ≡ told)
HasSettled t told old (Err r) new told' = (new ≡ old) × (told' ≡ told)

abbrev pub HasEnded : ℕ → History → ReceiptsState → Result Stamp Refusal → ReceiptsState
    → History → Type 0
HasEnded t told old (Ok e) new told' = HasAdded t told e.0 old new told'
HasEnded t told old (Err r) new told' = (new ≡ old) × (told' ≡ told)
