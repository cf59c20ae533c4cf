-- The book is kept.
use Rattle.std.proofs.Common.{◌≡◌, ℕ, ◌+◌, ◌<◌, ◌≤◌, Bool, true, false, cond, not, List, [], ◌∷◌, ◌++◌, Option, None, Some, Result, Ok, Err, refl, sym, ap, ◌∙◌, subst, arith}
use Rattle.std.specs.Prelude.{◌==◌, ◌&&◌, IsTrue}
use Rattle.std.proofs.lemmas.Bool.{false≢true, eqb-true}
use Rattle.mvo_types.specs.declared.ids.TxId.{TxId}
use Rattle.mvo_types.specs.declared.ids.Stamp.{Stamp}
use Rattle.mvo_types.specs.declared.refusal.Refusal.{Refusal}
use Rattle.mvo_group.specs.Data.{GroupData}
use Rattle.mvo_model.specs.History.{History}
use Rattle.mvo_theory.specs.State.{State, ActiveTx, StampedTx, active_of, preparing_of, history_of_active}
use Rattle.mvo_theory.specs.Sound.{IsPlaced}
use Rattle.mvo_theory.specs.Causes.{awaited, end_of, end_at}
use Rattle.mvo_theory.specs.Groups.{Group}
use Rattle.mvo_theory.specs.Calls.{Call, Result as CallResult, after_run, trace_of}
use Rattle.mvo_theory.specs.Calls.Call.{Begin, Do, Precommit, Validate, Settle, Rollback, Finish, Trim, Close}
use Rattle.mvo_theory.specs.Calls.Result.{Accepted, Refused}
use Rattle.mvo_theory.proofs.Who.{preparing_settled}
use Rattle.mvo_theory.proofs.Below.{none_some, some_same}
use Rattle.mvo_readonly.specs.Whole.{ReaderStage, CommittedReader, WholeState, stage_of}
use Rattle.mvo_readonly.specs.WholeCauses.{WholeCall, MayComeAtStage, awaited_by_reader}
use Rattle.mvo_readonly.specs.WholeCauses.WholeCall.{CoreCall, BeginReadOnly}
use Rattle.mvo_readonly.specs.WholeCalls.{core_at_stage, core_calls, unless_awaited, committed_unless, committed_at_stage, committed_after, steps_of_whole_call, after_whole_call}
use Rattle.mvo_readonly.proofs.CoreRuns.{may_core}
use Rattle.mvo_readonly.proofs.ReaderCalls.{in_core}
use Rattle.mvo_readonly.proofs.Stages.{may_settle, found_active}
use Rattle.mvo_core.specs.Records.{fits}
use Rattle.mvo_core.specs.declared.answers.Closed as closing
use Rattle.mvo_core.specs.declared.answers.Settlement.{Settlement}
use Rattle.mvo_core.specs.declared.answers.Settlement.TheVariants.{Committed, Waiting}
use Rattle.mvo_core.specs.Data.{CoreData}
use Rattle.mvo_core.specs.Steps.{came, settled_as}
use Rattle.mvo_core.specs.Holding.{HoldsJustWhole}
use Rattle.mvo_core.specs.Receipts.{Receipt, receipt, receipt_of}
use Rattle.mvo_core.specs.WholeAnswers.{StandsWholeAsBefore}
use Rattle.mvo_core.specs.WholeEnds.{IsSettlementWhole, settled_by_stage, reader_settled_as}
use Rattle.mvo_core.specs.WholeStanding.{LeadsWhole, IsWholeStep, IsReadOnlyBegin}
use Rattle.mvo_core.specs.WholeTales.{receipt_of_reader}
use Rattle.mvo_engine.specs.run.Opening.{Opening}
use Rattle.mvo_engine.specs.run.Watching.{Watched}
use Rattle.mvo_engine.specs.Booked.{IsBooked, HasSpareParts}
use Rattle.mvo_engine.specs.Sound.{IsSoundCore}
use Rattle.mvo_engine.specs.States.{SendsState}
use Rattle.mvo_engine.specs.Calls.{HasSent}
use Rattle.mvo_engine.proofs.Added.{found_weight, unless_waiting}
use Rattle.mvo_engine.proofs.Counted.{found_holds}
use Rattle.mvo_engine.proofs.CoreSound.{stays_sound as sound_over, begins_sound}
use Rattle.mvo_engine.proofs.Starts.{is_quiet, quiet_group}
use Rattle.mvo_engine.proofs.WholeSteps.{start_up_run, added_by_run, counted_after_run, readers_weight, whole_weight, weight_of_stored, one_more_reader, may_commit, adds_none, same_committed}

found_id : (t : ℕ) (xs : List StampedTx) (x : StampedTx) → preparing_of t xs ≡ Some x → x.id ≡ t
found_id t [] x e = absurd (none_some x e)
found_id t (y ∷ ys) x e = go (y.id == t) y.settled refl e (λ f. found_id t ys x f)
  where
    go : (a b : Bool) → (y.id == t) ≡ a → cond (a && not b) (Some y) (preparing_of t ys) ≡ Some x → (preparing_of t ys ≡ Some x → x.id ≡ t) → x.id ≡ t
    go true false q g r = ap (λ (z : StampedTx). z.id) (sym (some_same y x g)) ∙ eqb-true y.id t q
    go true true q g r = r g
    go false b q g r = r g

adds_nothing : (h : Receipt → ℕ) (s : State) (t : ℕ) (other : TxId) (w : Option StampedTx) → Waiting other ≡ settled_as s t w → unless_waiting h s t w ≡ 0
adds_nothing h s t other (Some x) q = refl
adds_nothing h s t other None q = absurd (apart q)
  where
    apart : Waiting other ≡ Committed (record { 0 = end_of s t }) → ⊥
    apart p = cc

not_waiting : (s : State) (t : ℕ) (e : Stamp) (w : Option StampedTx) → Committed e ≡ settled_as s t w → w ≡ None
not_waiting s t e None q = refl
not_waiting s t e (Some x) q = absurd (apart q)
  where
    apart : Committed e ≡ Waiting (record { 0 = x.id }) → ⊥
    apart p = cc

end_is : (s : State) (t : ℕ) (e : Stamp) → Committed e ≡ settled_as s t None → e.0 ≡ end_of s t
end_is s t e q = ap (λ (m : Stamp). m.0) (same q)
  where
    same : Committed e ≡ Committed (record { 0 = end_of s t }) → e ≡ record { 0 = end_of s t }
    same p = cc

-- ---- what a settlement answers of a read-only one
waits_for_one : (t : ℕ) (other : TxId) (w : Option StampedTx) → Waiting other ≡ reader_settled_as t w → (x : StampedTx) × (w ≡ Some x)
waits_for_one t other (Some x) q = (x, refl)
waits_for_one t other None q = absurd (apart q)
  where
    apart : Waiting other ≡ Committed (record { 0 = t }) → ⊥
    apart p = cc

reader_not_waiting : (t : ℕ) (e : Stamp) (w : Option StampedTx) → Committed e ≡ reader_settled_as t w → (w ≡ None) × (e.0 ≡ t)
reader_not_waiting t e (Some x) q = absurd (apart q)
  where
    apart : Committed e ≡ Waiting (record { 0 = x.id }) → ⊥
    apart p = cc
reader_not_waiting t e None q = (refl, ap (λ (m : Stamp). m.0) (same q))
  where
    same : Committed e ≡ Committed (record { 0 = t }) → e ≡ record { 0 = t }
    same p = cc

-- the history of the one that is found
history_found : (t : ℕ) (rs : List ActiveTx) (r : ActiveTx) → active_of t rs ≡ Some r → history_of_active t rs ≡ r.history
history_found t [] r e = absurd cc
history_found t (x ∷ xs) r e = go (x.id == t) e (history_found t xs r)
  where
    go : (b : Bool) → cond b (Some x) (active_of t xs) ≡ Some r → (active_of t xs ≡ Some r → history_of_active t xs ≡ r.history) → cond b x.history (history_of_active t xs) ≡ r.history
    go true f k = ap (λ (y : ActiveTx). y.history) (same f)
      where
        same : ◌≡◌ {A = Option ActiveTx} (Some x) (Some r) → x ≡ r
        same p = cc
    go false f k = k f

module _ (w : Watched) {c : CoreData} {total : ℕ} (i : IsBooked w c total) where
  weight_was : i.whole.core.start < w.end → total ≡ whole_weight w.weigh i.whole
  weight_was low = i.counted low ∙ weight_of_stored w.weigh w.end i.whole w.at low

  -- over a call, by what the core's own calls add and the read-only ones that are committed then
  leads_to : (a : WholeCall) (r : CallResult) (new : CoreData) → LeadsWhole i.rows i.steps i.own i.whole a r new → (more : ℕ)
      → added_by_run w.weigh i.whole.core (core_calls i.whole a r) + readers_weight w.weigh (after_whole_call i.whole a r).committed_readers ≡ readers_weight w.weigh i.whole.committed_readers + more → IsBooked w new (total + more)
  leads_to a r new l more adds =
      let h = w.weigh in
      let s = i.whole.core in
      let cs = core_calls i.whole a r in
      let may = may_core i.rows i.steps i.own i.whole a r l.may i.stands.kept in
      let after = after_whole_call i.whole a r in
      record {
        rows = i.rows;
        steps = i.steps ++ steps_of_whole_call i.whole a r;
        own = i.own ++ trace_of s cs;
        whole = after;
        stands = l.stands;
        counted = λ low.
            let up = start_up_run i.rows i.own s cs may i.stands.kept.kept in
            let was = weight_was (omega (arith, low, up)) in
            let now = counted_after_run h w.end w.at i.rows i.own s cs may i.stands.kept.kept low in
            let stored = weight_of_stored h w.end after w.at low in
            omega (arith, was, adds, now, stored);
      }

  leads_nothing : (a : WholeCall) (r : CallResult) (new : CoreData) → LeadsWhole i.rows i.steps i.own i.whole a r new → added_by_run w.weigh i.whole.core (core_calls i.whole a r) ≡ 0 → (after_whole_call i.whole a r).committed_readers ≡ i.whole.committed_readers → IsBooked w new total
  leads_nothing a r new l none same =
      let reads = ap (readers_weight w.weigh) same in
      subst (IsBooked w new) (omega arith) (leads_to a r new l 0 (omega (arith, none, reads)))

  -- over a step that commits nothing
  pub stepped : {A : Type 0} (call : Call) (result : Result A Refusal) (new : CoreData) → IsWholeStep c call result new → may_commit call (came result) ≡ false → IsBooked w new total
  stepped call result new step none = leads_nothing (CoreCall call) (came result) new (step i.rows i.steps i.own i.whole i.stands) (adds_none w.weigh i.whole call (came result) none) (same_committed i.whole call (came result) none)

  pub begun_reading : {A : Type 0} (result : Result A Refusal) (new : CoreData) → IsReadOnlyBegin c result new → IsBooked w new total
  begun_reading result new step = leads_nothing BeginReadOnly (came result) new (step i.rows i.steps i.own i.whole i.stands) refl refl

  -- ---- over a settlement
  module _ (t : TxId) where
    abbrev settling : WholeCall
    settling = CoreCall (Settle t.0)

    abbrev s : State
    s = i.whole.core

    -- what the core's own calls add, and which read-only ones are committed, by how far it is
    own_adds : (o : Option ReaderStage) → stage_of t.0 i.whole.readers ≡ o → added_by_run w.weigh s (core_calls i.whole settling Accepted) ≡ added_by_run w.weigh s (core_at_stage s (Settle t.0) Accepted o)
    own_adds o q = ap (λ (p : Option ReaderStage). added_by_run w.weigh s (core_at_stage s (Settle t.0) Accepted p)) q

    own_committed : (o : Option ReaderStage) → stage_of t.0 i.whole.readers ≡ o → committed_after i.whole settling Accepted ≡ committed_at_stage s (Settle t.0) Accepted o i.whole.committed_readers
    own_committed o q = ap (λ (p : Option ReaderStage). committed_at_stage s (Settle t.0) Accepted p i.whole.committed_readers) q

    -- that of another: its receipt is one more
    committed_other : (end' : Stamp) (history : History) (b : Bool) (new : CoreData) → LeadsWhole i.rows i.steps i.own i.whole settling Accepted new → HoldsJustWhole c t.0 history b → IsTrue b
        → (stage_of t.0 i.whole.readers ≡ None) → Committed end' ≡ settled_as s t.0 (awaited s t.0) → IsBooked w new (total + w.weigh (receipt t.0 end'.0 history))
    committed_other end' history b new l holds is_so q says =
        let h = w.weigh in
        let may : MayComeAtStage i.whole (Settle t.0) None Accepted = subst (λ (o : Option ReaderStage). MayComeAtStage i.whole (Settle t.0) o Accepted) q l.may in
        let free = not_waiting s t.0 end' (awaited s t.0) says in
        let found = preparing_settled s t.0 may.0 in
        let x = found.0 in
        let here = found.1 in
        let id = found_id t.0 s.stamped x here in
        let told' : x.history ≡ history = ((holds i.rows i.steps i.own i.whole i.stands).1 x here).0 is_so in
        let ends = end_is s t.0 end' (says ∙ ap (settled_as s t.0) free) ∙ ap end_at here in
        let one : receipt_of x ≡ receipt t.0 end'.0 history = λ k. record { id = id k; begin = id k; end = sym ends k; history = told' k } in
        let adds : unless_waiting h s t.0 (awaited s t.0) ≡ h (receipt t.0 end'.0 history) = ap (unless_waiting h s t.0) free ∙ (ap (found_weight h) here ∙ ap h one) in
        let all = own_adds None q in
        let same = ap (readers_weight h) (own_committed None q) in
        leads_to settling Accepted new l (h (receipt t.0 end'.0 history)) (omega (arith, all, adds, same))

    -- that of a read-only one: it ends at its begin, and wrote nothing
    committed_reader : (end' : Stamp) (history : History) (b : Bool) (new : CoreData) → LeadsWhole i.rows i.steps i.own i.whole settling Accepted new → HoldsJustWhole c t.0 history b → IsTrue b
        → (p : ReaderStage) → (stage_of t.0 i.whole.readers ≡ Some p) → Committed end' ≡ reader_settled_as t.0 (awaited_by_reader s t.0) → IsBooked w new (total + w.weigh (receipt t.0 end'.0 history))
    committed_reader end' history b new l holds is_so p q says =
        let h = w.weigh in
        let may : MayComeAtStage i.whole (Settle t.0) (Some p) Accepted = subst (λ (o : Option ReaderStage). MayComeAtStage i.whole (Settle t.0) o Accepted) q l.may in
        let free = reader_not_waiting t.0 end' (awaited_by_reader s t.0) says in
        let found = found_active s t.0 (in_core i.rows i.steps i.own i.whole t.0 p q i.stands.kept ∙ (may_settle s t.0 p may.0).0) in
        let told' : history_of_active t.0 s.active ≡ history = history_found t.0 s.active found.0 found.1 ∙ ((holds i.rows i.steps i.own i.whole i.stands).0 found.0 found.1).0 is_so in
        let y : CommittedReader = record { id = t.0; history = history_of_active t.0 s.active } in
        let one : receipt_of_reader y ≡ receipt t.0 end'.0 history = λ k. record { id = t.0; begin = t.0; end = sym free.1 k; history = told' k } in
        let adds = own_adds (Some p) q ∙ ap (λ (o : Option StampedTx). added_by_run h s (unless_awaited t.0 o)) free.0 in
        let grown = ap (readers_weight h) (own_committed (Some p) q ∙ ap (committed_unless s t.0 i.whole.committed_readers) free.0) in
        let more = one_more_reader h i.whole.committed_readers y in
        let as' = ap h one in
        leads_to settling Accepted new l (h (receipt t.0 end'.0 history)) (omega (arith, adds, grown, more, as'))

    -- either
    committed_so : (end' : Stamp) (history : History) (b : Bool) (new : CoreData) → LeadsWhole i.rows i.steps i.own i.whole settling Accepted new → HoldsJustWhole c t.0 history b → IsTrue b
        → (o : Option ReaderStage) → (stage_of t.0 i.whole.readers ≡ o) → Committed end' ≡ settled_by_stage s t.0 o → IsBooked w new (total + w.weigh (receipt t.0 end'.0 history))
    committed_so end' history b new l holds is_so None q says = committed_other end' history b new l holds is_so q says
    committed_so end' history b new l holds is_so (Some p) q says = committed_reader end' history b new l holds is_so p q says

    -- one that waits adds nothing
    waited_so : (other : TxId) (new : CoreData) → LeadsWhole i.rows i.steps i.own i.whole settling Accepted new → (o : Option ReaderStage) → (stage_of t.0 i.whole.readers ≡ o) → Waiting other ≡ settled_by_stage s t.0 o → IsBooked w new total
    waited_so other new l None q says =
        let none = adds_nothing w.weigh s t.0 other (awaited s t.0) says in
        let all = own_adds None q in
        leads_nothing settling Accepted new l (omega (arith, all, none)) (own_committed None q)
    waited_so other new l (Some p) q says =
        let waits = (waits_for_one t.0 other (awaited_by_reader s t.0) says).1 in
        leads_nothing settling Accepted new l (own_adds (Some p) q ∙ ap (λ (o : Option StampedTx). added_by_run w.weigh s (unless_awaited t.0 o)) waits) (own_committed (Some p) q ∙ ap (committed_unless s t.0 i.whole.committed_readers) waits)

    -- another ends above its begin, and a read-only one there
    ends_so : (end' : Stamp) → (o : Option ReaderStage) → MayComeAtStage i.whole (Settle t.0) o Accepted → Committed end' ≡ settled_by_stage s t.0 o → t.0 ≤ end'.0
    ends_so end' None may says =
        let free = not_waiting s t.0 end' (awaited s t.0) says in
        let found = preparing_settled s t.0 may.0 in
        let x = found.0 in
        let here = found.1 in
        let id = found_id t.0 s.stamped x here in
        let ends = end_is s t.0 end' (says ∙ ap (settled_as s t.0) free) ∙ ap end_at here in
        let placed = found_holds (IsPlaced s.stamped s.clock) t.0 s.stamped x here i.stands.kept.kept.sound.placed in
        let begun = placed.begun in
        omega (arith, begun, id, ends)
    ends_so end' (Some p) may says = let free = (reader_not_waiting t.0 end' (awaited_by_reader s t.0) says).1 in omega (arith, free)

  -- over one that commits: the book counts the receipt
  pub committed : (t : TxId) (end' : Stamp) (history : History) (b : Bool) (new : CoreData) (total' : ℕ) → IsWholeStep {A = Settlement} c (Settle t.0) (Ok (Committed end')) new → IsSettlementWhole c t.0 (Committed end') → HoldsJustWhole c t.0 history b → IsTrue b → total' ≡ total + w.weigh (receipt t.0 end'.0 history) → IsBooked w new total'
  committed t end' history b new total' step answer holds is_so counts =
      subst (IsBooked w new) (sym counts)
      (committed_so t end' history b new (step i.rows i.steps i.own i.whole i.stands) holds is_so (stage_of t.0 i.whole.readers) refl (answer i.rows i.steps i.own i.whole i.stands))

  -- it doesn't end below its begin
  pub ends_from : (t : TxId) (end' : Stamp) (new : CoreData) → IsWholeStep {A = Settlement} c (Settle t.0) (Ok (Committed end')) new → IsSettlementWhole c t.0 (Committed end') → t.0 ≤ end'.0
  ends_from t end' new step answer = ends_so t end' (stage_of t.0 i.whole.readers) (step i.rows i.steps i.own i.whole i.stands).may (answer i.rows i.steps i.own i.whole i.stands)

  -- over one that waits
  pub waited : (t other : TxId) (new : CoreData) → IsWholeStep {A = Settlement} c (Settle t.0) (Ok (Waiting other)) new → IsSettlementWhole c t.0 (Waiting other) → IsBooked w new total
  waited t other new step answer = waited_so t other new (step i.rows i.steps i.own i.whole i.stands) (stage_of t.0 i.whole.readers) refl (answer i.rows i.steps i.own i.whole i.stands)

  -- over one that is refused
  pub refused : (t : TxId) (r : Refusal) (new : CoreData) → IsWholeStep {A = Settlement} c (Settle t.0) (Err r) new → IsBooked w new total
  refused t r new step = stepped {A = Settlement} (Settle t.0) (Err r) new step refl

  -- over a collection
  pub collected : (new : CoreData) → StandsWholeAsBefore c new → IsBooked w new total
  collected new stands = record { rows = i.rows; steps = i.steps; own = i.own; whole = i.whole; stands = stands i.rows i.steps i.own i.whole i.stands; counted = i.counted }

  -- over the closing of a group, or where it is refused
  pub closed : (old new' : SendsState) (result : Result closing.Closed Refusal) (new : CoreData) → HasSent i.rows i.steps i.own i.whole old result new new' → IsBooked w new total
  closed old new' (Ok x) new h =
      let now = h.0.2 in
      let g = h.0.0 in
      leads_nothing (CoreCall (Close fits (record { prev = g.prev; mark = g.mark; commits = now.commits }) false)) Accepted new now.leads refl refl
  closed old new' (Err r) new h = leads_nothing (CoreCall (Close fits (record { prev = 0; mark = 0; commits = [] }) h.1.0)) (Refused r) new (h.1.1 (record { prev = 0; mark = 0; commits = [] })) refl refl

  -- ---- the tale starts no lower
  start_led : (a : WholeCall) (r : CallResult) (new : CoreData) → LeadsWhole i.rows i.steps i.own i.whole a r new → c.start ≤ new.start
  start_led a r new l =
      let up = start_up_run i.rows i.own i.whole.core (core_calls i.whole a r) (may_core i.rows i.steps i.own i.whole a r l.may i.stands.kept) i.stands.kept.kept in
      let was = i.stands.core.start in
      let now = l.stands.core.start in
      omega (arith, up, was, now)

  pub start_up : {A : Type 0} (call : Call) (result : Result A Refusal) (new : CoreData) → IsWholeStep c call result new → c.start ≤ new.start
  start_up call result new step = start_led (CoreCall call) (came result) new (step i.rows i.steps i.own i.whole i.stands)

  pub start_up_reading : {A : Type 0} (result : Result A Refusal) (new : CoreData) → IsReadOnlyBegin c result new → c.start ≤ new.start
  start_up_reading result new step = start_led BeginReadOnly (came result) new (step i.rows i.steps i.own i.whole i.stands)

  -- nor after the closing of a group
  pub start_closed : (old new' : SendsState) (result : Result closing.Closed Refusal) (new : CoreData) → HasSent i.rows i.steps i.own i.whole old result new new' → c.start ≤ new.start
  start_closed old new' (Ok x) new h = start_led (CoreCall (Close fits (record { prev = h.0.0.prev; mark = h.0.0.mark; commits = h.0.2.commits }) false)) Accepted new h.0.2.leads
  start_closed old new' (Err r) new h = start_led (CoreCall (Close fits (record { prev = 0; mark = 0; commits = [] }) h.1.0)) (Refused r) new (h.1.1 (record { prev = 0; mark = 0; commits = [] }))

-- the spare parts, where the tale starts no lower
pub spare_later : {w : Watched} {start parts made spare amount : ℕ} (start' : ℕ) → HasSpareParts w start parts made spare amount → start ≤ start' → HasSpareParts w start' parts made spare amount
spare_later start' h up = record { all = h.all; spare_parts = h.spare_parts; at_most = h.at_most; spare_amount = λ low. h.spare_amount (omega (arith, low, up)) }

quiet_commits : (call : Call) (r : CallResult) → is_quiet call ≡ true → may_commit call r ≡ false
quiet_commits Begin r q = refl
quiet_commits (Do t op) r q = refl
quiet_commits (Precommit t) r q = refl
quiet_commits (Validate t) r q = refl
quiet_commits (Settle t) r q = absurd (false≢true q)
quiet_commits (Rollback t) r q = refl
quiet_commits (Finish t) r q = refl
quiet_commits (Trim upto) r q = refl
quiet_commits (Close fits g full) r q = refl

-- what the lock keeps, over a step that stores no commit and closes no group
pub stays_sound : {w : Watched} {o : Opening} {c : CoreData} {sent : List GroupData} {total parts made spare amount : ℕ} {A : Type 0} {call : Call} {new : CoreData} → IsSoundCore o c sent × IsBooked w c total × HasSpareParts w c.start parts made spare amount → (result : Result A Refusal) → IsWholeStep c call result new → is_quiet call ≡ true
    → IsSoundCore o new sent × IsBooked w new total × HasSpareParts w new.start parts made spare amount
stays_sound {w = w} {call = call} {new = new} i result step quiet =
    (sound_over i.0 result step (quiet_group call (came result) quiet), stepped w i.1 call result new step (quiet_commits call (came result) quiet), spare_later new.start i.2 (start_up w i.1 call result new step))

-- and over a begin of a read-only one
pub begins_sound_reading : {w : Watched} {o : Opening} {c : CoreData} {sent : List GroupData} {total parts made spare amount : ℕ} {A : Type 0} {new : CoreData} → IsSoundCore o c sent × IsBooked w c total × HasSpareParts w c.start parts made spare amount → (result : Result A Refusal) → IsReadOnlyBegin c result new
    → IsSoundCore o new sent × IsBooked w new total × HasSpareParts w new.start parts made spare amount
begins_sound_reading {w = w} {new = new} i result step = (begins_sound i.0 result step, begun_reading w i.1 result new step, spare_later new.start i.2 (start_up_reading w i.1 result new step))
