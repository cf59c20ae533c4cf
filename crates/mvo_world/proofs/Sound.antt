-- A world stays sound over a call of its core.
use Rattle.std.proofs.Common.{◌≡◌, ℕ, ◌+◌, Bool, true, false, List, [], ◌∷◌, ◌++◌, Option, None, Some, Result, Ok, Err, refl, sym, ap, ◌∙◌, subst}
use Rattle.std.specs.Option.{option_to_list}
use Rattle.mvo_types.specs.declared.refusal.Refusal.{Refusal}
use Rattle.mvo_group.specs.Data.{GroupData}
use Rattle.std.specs.Prelude.{if◌then◌else◌, ⊤}
use Rattle.mvo_types.specs.Keys.{Map}
use Rattle.mvo_model.specs.Trace.{Step}
use Rattle.mvo_theory.specs.State.{State, StampedTx, Marks}
use Rattle.mvo_theory.specs.Causes.{is_failure}
use Rattle.mvo_theory.specs.Groups.{Group, AreGroupsOf}
use Rattle.mvo_theory.specs.Calls.{Call, Result as CallResult, after_call, after_run, groups_closed_by, groups_of}
use Rattle.mvo_theory.specs.Calls.Call.{Begin, Do, Precommit, Validate, Settle, Rollback, Finish, Trim, Close}
use Rattle.mvo_theory.specs.Calls.Result.{Accepted, Refused}
use Rattle.mvo_theory.proofs.Chain.{chained_after_call, chained_after_run}
use Rattle.mvo_readonly.specs.Whole.{ReaderStage, WholeState, id_named, stage_named}
use Rattle.mvo_readonly.specs.WholeCauses.{WholeCall, awaited_by_reader}
use Rattle.mvo_readonly.specs.WholeCauses.WholeCall.{CoreCall, BeginReadOnly}
use Rattle.mvo_readonly.specs.WholeCalls.{rolled_back, unless_awaited, core_failed, core_reader, core_other, core_at_stage, core_calls}
use Rattle.mvo_readonly.proofs.CoreRuns.{may_core}
use Rattle.mvo_core.specs.declared.answers.Closed as closing
use Rattle.mvo_core.specs.Data.{CoreData}
use Rattle.mvo_core.specs.Seen.{clock_of, closed_mark_of, HasNewVersions}
use Rattle.mvo_core.specs.Standing.{Stands}
use Rattle.mvo_core.specs.Steps.{came, LeadsOn}
use Rattle.mvo_core.specs.WholeAnswers.{StandsWholeAsBefore}
use Rattle.mvo_core.specs.WholeStanding.{StandsWhole, StandsInWhole, LeadsWhole, IsWholeStep}
use Rattle.mvo_core.specs.Records.{fits}
use Rattle.mvo_core.proofs.WholeStands.{whole_stands_on}
use Rattle.mvo_world.specs.Ring.{is_full, IsClosingInto}
use Rattle.mvo_world.specs.WorldData.{WorldData, waiting, Follow, IsSoundWorld}
use Rattle.mvo_world.specs.Replies.{IsDrawn}
use Rattle.mvo_store.specs.Seen.{mark_of, pending_of}
use Rattle.mvo_world.proofs.Moves.{linked_closed}

-- the mark of the group that was closed last stays
pub same_closed : {old new : CoreData} (i : Stands old) (c : Call) (r : CallResult) → groups_closed_by c r ≡ [] → LeadsOn i.opening i.steps i.state c r new → closed_mark_of new ≡ closed_mark_of old
same_closed {old} {new} i c r none l =
    let s = i.state in
    let chained = chained_after_call i.opening i.steps s.marks.closed [] s c r l.may i.stands.kept (record { closed = i.closed; groups = refl }) in
    let same : s.marks.closed ≡ (after_call s c r).marks.closed = subst (λ (gs : List Group). AreGroupsOf (after_call s c r) s.marks.closed gs) none chained.groups in
    sym (ap (λ (m : Marks). m.closed) l.stands.marks) ∙ sym same ∙ ap (λ (m : Marks). m.closed) i.stands.marks

-- ---- so it does beside read-only transactions
-- a call that closes no group closes none of the core's
quiet_other : (c : Call) (r : CallResult) → groups_closed_by c r ≡ [] → groups_of (core_other c r) ≡ []
quiet_other (Trim m) (Refused why) none = refl
quiet_other (Trim m) Accepted none = refl
quiet_other (Close fits g full) (Refused why) none = refl
quiet_other (Close fits g full) Accepted none = absurd cc
quiet_other Begin r none = refl
quiet_other (Do t op) r none = refl
quiet_other (Precommit t) r none = refl
quiet_other (Validate t) r none = refl
quiet_other (Settle t) r none = refl
quiet_other (Rollback t) r none = refl
quiet_other (Finish t) r none = refl

quiet_unless : (t : ℕ) (x : Option StampedTx) → groups_of (unless_awaited t x) ≡ []
quiet_unless t None = refl
quiet_unless t (Some x) = refl

quiet_failed : (t : ℕ) (r : Refusal) → groups_of (core_failed t r) ≡ []
quiet_failed t r = go (is_failure r)
  where
    go : (b : Bool) → groups_of (if b then rolled_back t else []) ≡ []
    go true = refl
    go false = refl

quiet_reader : (s : State) (c : Call) (r : CallResult) → groups_closed_by c r ≡ [] → groups_of (core_reader s c r) ≡ []
quiet_reader s Begin Accepted none = refl
quiet_reader s (Do t op) Accepted none = refl
quiet_reader s (Precommit t) Accepted none = refl
quiet_reader s (Validate t) Accepted none = refl
quiet_reader s (Settle t) Accepted none = quiet_unless t (awaited_by_reader s t)
quiet_reader s (Rollback t) Accepted none = refl
quiet_reader s (Finish t) Accepted none = refl
quiet_reader s (Trim m) Accepted none = refl
quiet_reader s (Close fits g full) Accepted none = absurd cc
quiet_reader s Begin (Refused r) none = refl
quiet_reader s (Do t op) (Refused r) none = quiet_failed t r
quiet_reader s (Precommit t) (Refused r) none = quiet_failed t r
quiet_reader s (Validate t) (Refused r) none = quiet_failed t r
quiet_reader s (Settle t) (Refused r) none = quiet_failed t r
quiet_reader s (Rollback t) (Refused r) none = refl
quiet_reader s (Finish t) (Refused r) none = refl
quiet_reader s (Trim m) (Refused r) none = refl
quiet_reader s (Close fits g full) (Refused r) none = refl

-- the call is none that closes a group
abbrev pub ClosesNone : WholeCall → CallResult → Type 0
ClosesNone BeginReadOnly r = ⊤
ClosesNone (CoreCall c) r = groups_closed_by c r ≡ []

quiet_whole : (w : WholeState) (a : WholeCall) (r : CallResult) → ClosesNone a r → groups_of (core_calls w a r) ≡ []
quiet_whole w BeginReadOnly r none = refl
quiet_whole w (CoreCall c) r none = go (stage_named w.readers (id_named c))
  where
    go : (p : Option ReaderStage) → groups_of (core_at_stage w.core c r p) ≡ []
    go None = quiet_other c r none
    go (Some p) = quiet_reader w.core c r none

same_closed_whole : {old new : CoreData} (i : StandsInWhole old) (a : WholeCall) (r : CallResult) → ClosesNone a r → LeadsWhole i.opening i.steps i.own i.whole a r new → closed_mark_of new ≡ closed_mark_of old
same_closed_whole {old} {new} i a r none l =
    let s = i.whole.core in
    let kept = i.stands.kept in
    let cs = core_calls i.whole a r in
    let chained = chained_after_run i.opening i.own s.marks.closed [] s cs (may_core i.opening i.steps i.own i.whole a r l.may kept) kept.kept (record { closed = i.closed; groups = refl }) in
    let same : s.marks.closed ≡ (after_run s cs).marks.closed = subst (λ (gs : List Group). AreGroupsOf (after_run s cs) s.marks.closed gs) (quiet_whole i.whole a r none) chained.groups in
    sym (ap (λ (m : Marks). m.closed) l.stands.core.marks) ∙ sym same ∙ ap (λ (m : Marks). m.closed) i.stands.core.marks

-- the timestamp behind the clock is the next one in each state
pub next_stamp : {D : Type 0} (w : WorldData D) (n : ℕ) → n ≡ clock_of w.core + 1 → IsDrawn w n
next_stamp w n e = λ opening steps own s h. e ∙ ap (λ (m : ℕ). m + 1) h.core.dependencies.stands.clock

module _ {D : Type 0} (w : WorldData D) (i : IsSoundWorld w) where
  -- over a call that closes no group
  pub sound_told : {A : Type 0} (a : WholeCall) (result : Result A Refusal) {core : CoreData} → ((opening : Map) (steps own : List Step) (s : WholeState) → StandsWhole opening steps own s w.core → LeadsWhole opening steps own s a (came result) core) → ClosesNone a (came result) → IsSoundWorld (record w { core = core })
  sound_told {A} a result {core} step none =
      let l = step i.core.opening i.core.steps i.core.own i.core.whole i.core.stands in
      record {
        core = whole_stands_on i.core a (came result) core l;
        linked = subst (λ (n : ℕ). Follow (mark_of w.store) (waiting w) n) (sym (same_closed_whole i.core a (came result) none l)) i.linked;
      }

  pub sound_asked : {A : Type 0} {c : Call} (result : Result A Refusal) {core : CoreData} → IsWholeStep w.core c result core → groups_closed_by c (came result) ≡ [] → IsSoundWorld (record w { core = core })
  sound_asked {A} {c} result {core} step none = sound_told (CoreCall c) result step none

  -- over a collection
  pub sound_collected : (core : CoreData) → StandsWholeAsBefore w.core core → HasNewVersions w.core core → IsSoundWorld (record w { core = core })
  sound_collected core stands rest = record {
    core = record {
      opening = i.core.opening;
      steps = i.core.steps;
      own = i.core.own;
      whole = i.core.whole;
      stands = stands i.core.opening i.core.steps i.core.own i.core.whole i.core.stands;
      closed = i.core.closed;
    };
    linked = subst (λ (n : ℕ). Follow (mark_of w.store) (waiting w) n) (sym (ap (λ (c : CoreData). closed_mark_of c) rest)) i.linked;
  }

  -- over one that is to close a group
  pub sound_closed : (result : Result closing.Closed Refusal) (core : CoreData) (ring : List GroupData) → IsClosingInto w.core w.ring result core ring → IsSoundWorld (record w { core = core; ring = ring })
  sound_closed (Ok c) core ring step =
      let told = step i.core.opening i.core.steps i.core.own i.core.whole i.core.stands in
      let g = told.1.0 in
      let there = told.1.1 in
      let now = told.1.2 in
      let call = CoreCall (Close fits (record { prev = g.prev; mark = g.mark; commits = now.commits }) false) in
      let at : g.mark ≡ closed_mark_of core = ap (λ (m : Marks). m.closed) now.leads.stands.core.marks in
      let prev : g.prev ≡ closed_mark_of w.core = now.leads.may.1.prev ∙ ap (λ (m : Marks). m.closed) i.core.stands.core.marks in
      record {
        core = whole_stands_on i.core call Accepted core now.leads;
        linked = subst (λ (gs : List GroupData). Follow (mark_of w.store) (option_to_list (pending_of w.store) ++ gs) (closed_mark_of core)) (sym there)
            (subst (λ (n : ℕ). Follow (mark_of w.store) (option_to_list (pending_of w.store) ++ (w.ring ++ g ∷ [])) n) at (linked_closed w g prev i.linked));
      }
  sound_closed (Err r) core ring step =
      let told = step i.core.opening i.core.steps i.core.own i.core.whole i.core.stands in
      let g : Group = record { prev = 0; mark = 0; commits = [] } in
      let l = told.0 g in
      record {
        core = whole_stands_on i.core (CoreCall (Close fits g (is_full w.ring))) (Refused r) core l;
        linked = subst (λ (gs : List GroupData). Follow (mark_of w.store) (option_to_list (pending_of w.store) ++ gs) (closed_mark_of core)) (sym told.1)
            (subst (λ (n : ℕ). Follow (mark_of w.store) (waiting w) n) (sym (ap (λ (m : Marks). m.closed) i.core.stands.core.marks) ∙ ap (λ (m : Marks). m.closed) l.stands.core.marks) i.linked);
      }
