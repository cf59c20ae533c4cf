-- A worked example: versions that are only ever added in front don't always stand in order. Two
-- transactions insert one key; the second commits with the end 3, and the first has the end 4 then.
use Rattle.std.proofs.Common.{◌≡◌, ◌≤◌, cond, List, [], ◌∷◌, None, Some, refl, arith}
use Rattle.std.specs.Prelude.{◌==◌, take}
use Rattle.std.specs.FinMap as fin
use Rattle.mvo_types.specs.RowData.{RowData}
use Rattle.mvo_types.specs.declared.op.Op.TheVariants.{Insert}
use Rattle.mvo_model.specs.Trace.Phase.{Preparing, Committed}
use Rattle.mvo_theory.specs.State.{State, opened}
use Rattle.mvo_theory.specs.Phases.{phase_in}
use Rattle.mvo_theory.specs.Calls.{why_not, after_accepted}
use Rattle.mvo_theory.specs.Calls.Call.{Begin, Do, Precommit, Validate, Settle}
use Rattle.mvo_word.specs.declared.held.Held.TheVariants.{By}
use Rattle.mvo_txn.specs.declared.state.TxState.TheVariants as state
use Rattle.mvo_chain.specs.Slots.{added}
use Rattle.mvo_visible.specs.Words.{States}
use Rattle.mvo_visible.specs.Versions.{NumberedVersion}
use Rattle.mvo_visible.specs.Shown.{HasFallingStamps, shown_to}

abbrev row : RowData
row = record { key = record { table = 0; key = 1 }; sort = 10; bytes = 61 ∷ [] }

-- ---- the run
abbrev s0 : State
s0 = opened fin.empty 0

abbrev s4 : State
s4 = after_accepted (after_accepted (after_accepted (after_accepted s0 Begin) Begin) (Do 1 (Insert row))) (Do 2 (Insert row))

abbrev s7 : State
s7 = after_accepted (after_accepted (after_accepted s4 (Precommit 2)) (Validate 2)) (Settle 2)

may4 : why_not (after_accepted (after_accepted (after_accepted s0 Begin) Begin) (Do 1 (Insert row))) (Do 2 (Insert row)) ≡ None
may4 = refl

may5 : why_not s4 (Precommit 2) ≡ None
may5 = refl

may6 : why_not (after_accepted s4 (Precommit 2)) (Validate 2) ≡ None
may6 = refl

may7 : why_not (after_accepted (after_accepted s4 (Precommit 2)) (Validate 2)) (Settle 2) ≡ None
may7 = refl

may8 : why_not s7 (Precommit 1) ≡ None
may8 = refl

one : phase_in (after_accepted s7 (Precommit 1)) 1 ≡ Preparing 4
one = refl

two : phase_in (after_accepted s7 (Precommit 1)) 2 ≡ Committed 3
two = refl

-- ---- the versions, newest first
abbrev states : States
states t = cond (t == 1) (Some (state.Preparing (record { 0 = 4 }))) (cond (t == 2) (Some (state.Committed (record { 0 = 3 }))) None)

abbrev newest_first : List NumberedVersion
newest_first = (record { 0 = 1 }, added row (By (record { 0 = 2 }))) ∷ (record { 0 = 0 }, added row (By (record { 0 = 1 }))) ∷ []

-- the settled put of the second stands in front of a greater stamp
pub out_of_order : HasFallingStamps states newest_first → ⊥
out_of_order h = let w = (h.0 (record { 0 = 3 }) refl).below in let le : 4 ≤ 3 = w.0 in omega (arith, le)

-- so a reader that stopped at it would be shown another version than the rule shows
by_rule : shown_to states 5 5 newest_first ≡ record { version = Some (record { 0 = 0 }); depends_on = Some (record { 0 = 1 }) }
by_rule = refl

by_first : shown_to states 5 5 (take 1 newest_first) ≡ record { version = Some (record { 0 = 1 }); depends_on = None }
by_first = refl
