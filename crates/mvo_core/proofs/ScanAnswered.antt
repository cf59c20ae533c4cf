-- A range is scanned: what the core stands for then.
use Rattle.std.proofs.Common.{◌≡◌, ℕ, List, None, refl, sym, ap, ◌∙◌, subst}
use Rattle.mvo_types.specs.declared.ids.TxId.{TxId}
use Rattle.mvo_types.specs.declared.op.Op.TheVariants.{Scan}
use Rattle.mvo_types.specs.AnswerData.{AnswerData}
use Rattle.mvo_types.specs.AnswerData.AnswerData.{Rows}
use Rattle.mvo_types.specs.Keys.{Map}
use Rattle.mvo_types.specs.RowData.{RowData}
use Rattle.mvo_model.specs.History.{History}
use Rattle.mvo_model.specs.Serial.{scan}
use Rattle.mvo_model.specs.Trace.{Step}
use Rattle.mvo_theory.specs.Calls.{answer_in}
use Rattle.mvo_theory.specs.Calls.Call.{Do}
use Rattle.mvo_theory.specs.Calls.Result.{Accepted}
use Rattle.mvo_types.specs.declared.entry.Entry.TheVariants.{Range}
use Rattle.mvo_theory.specs.State.{State, snapshot}
use Rattle.mvo_txn.specs.Txns.{Txns, state_of}
use Rattle.mvo_deps.specs.declared.node.Node.{Node}
use Rattle.mvo_deps.specs.Nodes.{after_register_all}
use Rattle.mvo_readonly.specs.Whole.{stage_of}
use Rattle.mvo_core.proofs.CausesTold.{MayLook}
use Rattle.mvo_core.specs.Readers.{Readers}
use Rattle.mvo_core.specs.declared.kept_transaction.KeptTransaction.{KeptTransaction}
use Rattle.mvo_core.specs.Causes.{why_not_look}
use Rattle.mvo_core.specs.Own.{done_in}
use Rattle.mvo_core.specs.Data.{CoreData}
use Rattle.mvo_core.specs.Scanning.{IsSeen, IsScanned}
use Rattle.mvo_core.specs.Others.{AreOthersShown}
use Rattle.mvo_core.specs.Standing.{StandsAmong}
use Rattle.mvo_core.specs.Steps.{LeadsAmong}
use Rattle.mvo_content.specs.Shown.{AreRowsOf}
use Rattle.mvo_content.specs.Next.{NextData}
use Rattle.mvo_content.specs.Works.{WorksData, IsPreparedAt, MayBeTold}
use Rattle.mvo_core.proofs.Answered.{recorded_leads}
use Rattle.mvo_core.proofs.Asked.{active_if_looked}
use Rattle.mvo_core.proofs.Looked.{IsActiveHere, active_here}
use Rattle.mvo_core.proofs.ScanDepends.{scan_seen, scan_depends}
use Rattle.mvo_core.proofs.ScanRefused.{may_scan}
use Rattle.mvo_core.proofs.ScanSame.{rows_are_scan}
use Rattle.mvo_core.proofs.OthersShown.{others_are, others_fit}
use Rattle.mvo_core.proofs.WorksHeld.{IsNextTold, may_be_told, told_answer, was_told}

module _ (rs : Readers) (opening : Map) (steps : List Step) (s : State) (c : CoreData) (h : StandsAmong rs opening steps s c) (t : TxId) (of lo hi : ℕ) (none : why_not_look c.table (done_in c.works t.0) t.0 of (Range of lo hi) ≡ None) (looks : MayLook (stage_of t.0 rs.unfinished)) where
  here : IsActiveHere s c t.0
  here = active_here rs opening steps s c h t.0 (active_if_looked c.table (done_in c.works t.0) t.0 of (Range of lo hi) none)

  -- its work may be told
  pub scan_may_be_told : (others : List RowData) (n : NextData) → IsPreparedAt c.works t.0 (Scan of lo hi) others n → MayBeTold c.works t.0 n
  scan_may_be_told others n p = may_be_told rs opening steps s c h t.0 (Scan of lo hi) (may_scan rs opening steps s c h t of lo hi looks none) others n p

  module _ (rows : List RowData) (on : List TxId) (w : IsScanned (state_of c.table) c.versions c.start t.0 of lo hi rows on) where
    seen : IsSeen (state_of c.table) c.versions s.start t.0 of lo hi rows on
    seen = scan_seen rs opening steps s c h t.0 of lo hi rows on c.start (sym h.start) here.state w

    rows_there : rows ≡ scan (snapshot s t.0) of lo hi
    rows_there = seen.rows' ∙ rows_are_scan rs opening steps s c h t.0 here.tx here.found of lo hi

    -- it is told what the state answers
    pub scan_answers : (ts : History) → ts ≡ done_in c.works t.0 → (others : List RowData) → AreOthersShown ts c.table c.versions t.0 of lo hi rows others → (n : NextData) → IsPreparedAt c.works t.0 (Scan of lo hi) others n → (a : AnswerData) → a ≡ n.answer → a ≡ answer_in s t.0 (Scan of lo hi)
    scan_answers ts same others o n p a told =
        told
        ∙ told_answer rs opening steps s c h t.0 (Scan of lo hi) (may_scan rs opening steps s c h t of lo hi looks none) others (λ new. others_are rs opening steps s c h t.0 here of lo hi ts same rows others rows_there o) n p

    pub scan_fits : (ts : History) → ts ≡ done_in c.works t.0 → (others : List RowData) → AreOthersShown ts c.table c.versions t.0 of lo hi rows others → AreRowsOf (Range of lo hi) others
    scan_fits ts same others o = others_fit rs opening steps s c h t.0 here of lo hi ts same rows others rows_there o

    -- with these ids, and these rows
    pub scan_leads : (ids : List TxId) → ids ≡ on → (table : Txns (Node KeptTransaction)) → table ≡ after_register_all c.table t ids
        → (ts : History) → ts ≡ done_in c.works t.0 → (others : List RowData) → AreOthersShown ts c.table c.versions t.0 of lo hi rows others → (more : WorksData) → IsNextTold c.works t.0 (Scan of lo hi) others more → LeadsAmong rs opening steps s (Do t.0 (Scan of lo hi)) Accepted (record c { table = table; works = more })
    scan_leads ids all table k ts same others o more next =
        recorded_leads rs opening steps s c h t here.tx here.found (Scan of lo hi) (Rows rows) (may_scan rs opening steps s c h t of lo hi looks none) (ap Rows rows_there) refl on
        (scan_depends rs opening steps s c h t.0 of lo hi rows on here.tx here.found seen) table
        (subst (λ (xs : List TxId). table ≡ after_register_all c.table t xs) all k) more
        (was_told rs opening steps s c h t.0 (Scan of lo hi) (may_scan rs opening steps s c h t of lo hi looks none) others (λ new. others_are rs opening steps s c h t.0 here of lo hi ts same rows others rows_there o) more next)
