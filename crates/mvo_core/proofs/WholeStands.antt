-- What a core stands for after a call of the whole state, it stands for.
use Rattle.std.proofs.Common.{ℕ, Bool, true, false, List, [], ◌∷◌, ◌++◌, sym, subst}
use Rattle.mvo_types.specs.Keys.{Map}
use Rattle.mvo_model.specs.Trace.{Step}
use Rattle.mvo_theory.specs.Calls.{Result, Run, IsKept, MayRun, after_call, after_run, steps_of, trace_of}
use Rattle.mvo_theory.specs.Marks.{IsClosedAt}
use Rattle.mvo_theory.specs.State.{State}
use Rattle.mvo_theory.proofs.Runs.{kept_after_call}
use Rattle.mvo_readonly.specs.Whole.{WholeState}
use Rattle.mvo_readonly.specs.WholeCauses.{WholeCall, MayComeWhole}
use Rattle.mvo_readonly.specs.WholeCalls.{core_calls, after_whole_call, steps_of_whole_call}
use Rattle.mvo_readonly.specs.WholeKept.{IsWholeKept}
use Rattle.mvo_readonly.proofs.CoreRuns.{may_core}
use Rattle.mvo_txn.specs.Txns.{Txns, state_of}
use Rattle.mvo_chain.specs.Slots.{Slots}
use Rattle.mvo_collect.specs.Waiting.{WaitingData, AreWaiting}
use Rattle.mvo_deps.specs.declared.node.Node.{Node}
use Rattle.mvo_core.specs.declared.kept_transaction.KeptTransaction.{KeptTransaction}
use Rattle.mvo_core.specs.declared.kept_transaction.TransactionKind.{TransactionKind}
use Rattle.mvo_core.specs.Data.{CoreData}
use Rattle.mvo_core.specs.Keeping.{HasEndedAs, HasEndedIf}
use Rattle.mvo_core.specs.WholeStanding.{StandsInWhole, LeadsWhole}
use Rattle.mvo_core.proofs.Begun.{still_closed}
use Rattle.mvo_core.proofs.Waits.{waits_alike, alike_written}

-- ---- up to the mark of the group that was closed last all stay settled
closed_run : (opening : Map) (steps : List Step) (s : State) (cs : Run) → MayRun s cs → IsKept opening steps s → IsClosedAt s.marks.closed s → IsClosedAt (after_run s cs).marks.closed (after_run s cs)
closed_run opening steps s [] m kept closed = closed
closed_run opening steps s (c ∷ cs) m kept closed = closed_run opening (steps ++ steps_of s c.0 c.1) (after_call s c.0 c.1) cs m.1 (kept_after_call opening steps s c.0 c.1 m.0 kept) (still_closed opening steps s c.0 c.1 m.0 kept closed)

pub still_closed_whole : (opening : Map) (steps own : List Step) (w : WholeState) (a : WholeCall) (r : Result) → MayComeWhole w a r → IsWholeKept opening steps own w → IsClosedAt w.core.marks.closed w.core
    → IsClosedAt (after_whole_call w a r).core.marks.closed (after_whole_call w a r).core
still_closed_whole opening steps own w a r may kept closed = closed_run opening own w.core (core_calls w a r) (may_core opening steps own w a r may kept) kept.kept closed

-- ---- what it stands for
pub whole_stands_on : {old : CoreData} (i : StandsInWhole old) (a : WholeCall) (r : Result) (c : CoreData) → LeadsWhole i.opening i.steps i.own i.whole a r c → StandsInWhole c
whole_stands_on {old} i a r c l = record {
  opening = i.opening;
  steps = i.steps ++ steps_of_whole_call i.whole a r;
  own = i.own ++ trace_of i.whole.core (core_calls i.whole a r);
  whole = after_whole_call i.whole a r;
  stands = l.stands;
  closed = still_closed_whole i.opening i.steps i.own i.whole a r l.may i.stands.kept i.closed;
}

-- ---- and what waits, where one that is read-only has ended
pub waits_ended : (b : Bool) (kind : TransactionKind) (old new : Txns (Node KeptTransaction)) (t : ℕ) (slots : Slots) (w : WaitingData) → HasEndedIf b kind old new t → AreWaiting old.clock (state_of old) slots w → AreWaiting new.clock (state_of new) slots w
waits_ended true kind old new t slots w h k = waits_alike old new slots w (alike_written old new t (HasEndedAs kind) h) k
waits_ended false kind old new t slots w h k = subst (λ (x : Txns (Node KeptTransaction)). AreWaiting x.clock (state_of x) slots w) (sym h) k
