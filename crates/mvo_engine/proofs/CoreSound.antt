-- The core under its lock stays sound.
use Rattle.std.proofs.Common.{◌≡◌, ℕ, ◌≤◌, List, [], ◌∷◌, ◌++◌, Bool, false, Result, Ok, Err, refl, sym, ap, ◌∙◌, subst, arith}
use Rattle.mvo_types.specs.declared.refusal.Refusal.{Refusal}
use Rattle.mvo_group.specs.Data.{GroupData}
use Rattle.mvo_theory.specs.State.{State, StampedTx, Marks}
use Rattle.mvo_theory.specs.Sound.{IsPast, IsPlaced}
use Rattle.mvo_theory.specs.Changes.{after_close}
use Rattle.mvo_theory.specs.Groups.{Group, AreGroupsOf}
use Rattle.mvo_theory.specs.Calls.{Call, Result as CallResult, after_run, trace_of, groups_closed_by, groups_of}
use Rattle.mvo_theory.specs.Calls.Call.{Close}
use Rattle.mvo_theory.specs.Calls.Result.{Accepted, Refused}
use Rattle.mvo_theory.proofs.Chain.{chained_after_run}
use Rattle.mvo_theory.proofs.Each.{each_append, each_weaker}
use Rattle.mvo_readonly.specs.Whole.{CommittedReader}
use Rattle.mvo_readonly.specs.WholeCauses.{WholeCall}
use Rattle.mvo_readonly.specs.WholeCauses.WholeCall.{CoreCall, BeginReadOnly}
use Rattle.mvo_readonly.specs.WholeCalls.{core_calls, steps_of_whole_call, after_whole_call}
use Rattle.mvo_readonly.specs.WholeKept.{IsCommittedReader}
use Rattle.mvo_readonly.proofs.CoreRuns.{may_core, stays_after_whole_run}
use Rattle.mvo_readonly.proofs.Serials.{whole_is_serial}
use Rattle.mvo_core.specs.Records.{fits}
use Rattle.mvo_core.specs.declared.answers.Closed as closing
use Rattle.mvo_core.specs.Data.{CoreData}
use Rattle.mvo_core.specs.Seen.{clock_of, closed_mark_of}
use Rattle.mvo_core.specs.Groups.{HaveRecordsOf}
use Rattle.mvo_core.specs.Steps.{came}
use Rattle.mvo_core.specs.WholeAnswers.{StandsWholeAsBefore}
use Rattle.mvo_core.specs.WholeClosing.{IsClosedWhole, IsNotClosedWhole}
use Rattle.mvo_core.specs.WholeStanding.{LeadsWhole, IsWholeStep, IsReadOnlyBegin}
use Rattle.mvo_core.proofs.WholeStands.{still_closed_whole}
use Rattle.mvo_world.proofs.Chain.{groups_stay, group_of_next}
use Rattle.mvo_world.proofs.Moves.{groups_closed}
use Rattle.mvo_world.proofs.Standing.{mark_after-append, groups_push}
use Rattle.mvo_engine.specs.run.Opening.{Opening}
use Rattle.mvo_engine.specs.Sound.{IsSoundCore, last_mark}
use Rattle.mvo_engine.specs.Legal.{IsLegalCore}
use Rattle.mvo_engine.specs.States.{SendsState}
use Rattle.mvo_engine.specs.Calls.{HasSent}
use Rattle.mvo_engine.proofs.WholeSteps.{closes_none}

module _ {o : Opening} {c : CoreData} {sent : List GroupData} (i : IsSoundCore o c sent) where
  -- where the core's own calls close no group, the mark of the group that was closed last stays
  same_closed : {new : CoreData} (a : WholeCall) (r : CallResult) → groups_of (core_calls i.whole a r) ≡ [] → LeadsWhole i.rows i.steps i.own i.whole a r new → closed_mark_of c ≡ closed_mark_of new
  same_closed {new} a r none l =
      let s = i.whole.core in
      let cs = core_calls i.whole a r in
      let chained = chained_after_run i.rows i.own s.marks.closed [] s cs (may_core i.rows i.steps i.own i.whole a r l.may i.stands.kept) i.stands.kept.kept (record { closed = i.closed; groups = refl }) in
      let same : s.marks.closed ≡ (after_run s cs).marks.closed = subst (λ (gs : List Group). AreGroupsOf (after_run s cs) s.marks.closed gs) none chained.groups in
      sym (ap (λ (m : Marks). m.closed) i.stands.core.marks) ∙ same ∙ ap (λ (m : Marks). m.closed) l.stands.core.marks

  -- over a call that closes none
  pub leads_on : {new : CoreData} (a : WholeCall) (r : CallResult) → groups_of (core_calls i.whole a r) ≡ [] → LeadsWhole i.rows i.steps i.own i.whole a r new → IsSoundCore o new sent
  leads_on a r none l =
      let after = after_whole_call i.whole a r in
      record {
        rows = i.rows;
        mark = i.mark;
        gives = i.gives;
        steps = i.steps ++ steps_of_whole_call i.whole a r;
        own = i.own ++ trace_of i.whole.core (core_calls i.whole a r);
        whole = after;
        stands = l.stands;
        closed = still_closed_whole i.rows i.steps i.own i.whole a r l.may i.stands.kept i.closed;
        groups = groups_stay i.whole.core after.core 0 sent (stays_after_whole_run i.rows i.steps i.own i.whole ((a, r) ∷ []) (l.may, tt) i.stands.kept) i.groups;
        last = i.last ∙ same_closed a r none l;
      }

  pub stays_sound : {A : Type 0} {call : Call} {new : CoreData} (result : Result A Refusal) → IsWholeStep c call result new → groups_closed_by call (came result) ≡ [] → IsSoundCore o new sent
  stays_sound {call = call} result step none = leads_on (CoreCall call) (came result) (closes_none i.whole call (came result) none) (step i.rows i.steps i.own i.whole i.stands)

  -- over a begin of a read-only one
  pub begins_sound : {A : Type 0} {new : CoreData} (result : Result A Refusal) → IsReadOnlyBegin c result new → IsSoundCore o new sent
  begins_sound result step = leads_on BeginReadOnly (came result) refl (step i.rows i.steps i.own i.whole i.stands)

  -- over a collection
  pub collected : (new : CoreData) → StandsWholeAsBefore c new → new ≡ record c { versions = new.versions } → IsSoundCore o new sent
  collected new stands rest = record {
    rows = i.rows;
    mark = i.mark;
    gives = i.gives;
    steps = i.steps;
    own = i.own;
    whole = i.whole;
    stands = stands i.rows i.steps i.own i.whole i.stands;
    closed = i.closed;
    groups = i.groups;
    last = i.last ∙ sym (ap (λ (x : CoreData). x.closed) rest);
  }

  -- over the closing of a group
  pub closed_to : (sent' : List GroupData) (new : CoreData) (x : closing.Closed) (g : GroupData) → sent' ≡ sent ++ g ∷ [] → IsClosedWhole i.rows i.steps i.own i.whole x new g → IsSoundCore o new sent'
  closed_to sent' new x g there now =
      let s = i.whole.core in
      let l = now.leads in
      let call : WholeCall = CoreCall (Close fits (record { prev = g.prev; mark = g.mark; commits = now.commits }) false) in
      let next = l.may.1 in
      let is = group_of_next i.rows i.own s g now.commits i.stands.kept.kept i.closed next now.records now.rules in
      let prev : g.prev ≡ last_mark sent = next.prev ∙ ap (λ (m : Marks). m.closed) i.stands.core.marks ∙ sym i.last in
      record {
        rows = i.rows;
        mark = i.mark;
        gives = i.gives;
        steps = i.steps ++ steps_of_whole_call i.whole call Accepted;
        own = i.own ++ trace_of s (core_calls i.whole call Accepted);
        whole = after_whole_call i.whole call Accepted;
        stands = l.stands;
        closed = still_closed_whole i.rows i.steps i.own i.whole call Accepted l.may i.stands.kept i.closed;
        groups = subst (HaveRecordsOf (after_close s g.mark) 0) (sym there) (groups_closed s g.mark 0 (sent ++ g ∷ []) (groups_push s 0 sent g i.groups prev is));
        last = ap last_mark there ∙ mark_after-append 0 sent (g ∷ []) ∙ ap (λ (m : Marks). m.closed) l.stands.core.marks;
      }

  -- over one that is refused, whatever group it would have been
  pub unclosed : (sent' : List GroupData) (new : CoreData) (full : Bool) (r : Refusal) → sent' ≡ sent → IsNotClosedWhole i.rows i.steps i.own i.whole full r new → IsSoundCore o new sent'
  unclosed sent' new full r same stays =
      let none : Group = record { prev = 0; mark = 0; commits = [] } in
      subst (IsSoundCore o new) (sym same) (leads_on (CoreCall (Close fits none full)) (Refused r) refl (stays none))

  -- over either, by what was sent
  pub after_closing : (old new' : SendsState) → old.sent ≡ sent → (result : Result closing.Closed Refusal) (new : CoreData) → HasSent i.rows i.steps i.own i.whole old result new new' → IsSoundCore o new new'.sent
  after_closing old new' is (Ok x) new h = closed_to new'.sent new x h.0.0 (h.0.1 ∙ ap (λ (gs : List GroupData). gs ++ h.0.0 ∷ []) is) h.0.2
  after_closing old new' is (Err r) new h = unclosed new'.sent new h.1.0 r (h.0 ∙ is) h.1.1

  -- what is known of it
  pub legal : IsLegalCore o c sent
  legal = record {
    rows = i.rows;
    mark = i.mark;
    gives = i.gives;
    steps = i.steps;
    own = i.own;
    whole = i.whole;
    stands = i.stands;
    serial = whole_is_serial i.rows i.steps i.own i.whole i.stands.kept;
    ends =
        let s = i.whole.core in
        let is = i.stands.core.dependencies.stands.clock in
        let started = i.stands.core.kept.started in
        each_append (λ (x : StampedTx). x.end ≤ clock_of c) s.past s.stamped
        (each_weaker (IsPast s.start) (λ (x : StampedTx). x.end ≤ clock_of c) (λ x p. let le = p.until in let drawn = started.drawn in omega (arith, is, le, drawn)) s.past started.past)
        (each_weaker (IsPlaced s.stamped s.clock) (λ (x : StampedTx). x.end ≤ clock_of c) (λ x p. let le = p.drawn in omega (arith, is, le)) s.stamped i.stands.core.kept.sound.placed);
    reads =
        let is = i.stands.core.dependencies.stands.clock in
        each_weaker (IsCommittedReader i.rows i.own i.whole.core) (λ (y : CommittedReader). y.id ≤ clock_of c) (λ y p. let le = p.drawn in omega (arith, is, le)) i.whole.committed_readers i.stands.kept.committed_readers;
    groups = i.groups;
  }
