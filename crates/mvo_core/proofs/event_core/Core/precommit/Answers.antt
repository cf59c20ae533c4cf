use Rattle.std.proofs.Common.{arith, Bool, cond, List, ◌≡◌, ◌<◌, ◌≤◌, ◌+◌, Some, sym, ap, ◌∙◌, subst, refl}
use Rattle.mvo_types.specs.declared.limits.TheConstants.{MAX_STAMP}
use Rattle.mvo_types.specs.declared.ids.Stamp.{Stamp}
use Rattle.mvo_types.specs.declared.refusal.Refusal.TheVariants.{ClockSpent, OutOfMemory}
use Rattle.mvo_theory.specs.Calls.Call.{Precommit}
use Rattle.mvo_theory.specs.Calls.Result.{Accepted, Refused}
use Rattle.mvo_core.specs.Readers.{no_readers}
use Rattle.mvo_core.specs.Data.{CoreData}
use Rattle.mvo_core.specs.View.{core_data}
use Rattle.mvo_core.specs.Causes.{why_not_active}
use Rattle.mvo_core.specs.Standing.{StandsFor}
use Rattle.mvo_core.specs.WholeStanding.{StandsInWhole}
use Rattle.mvo_core.specs.Steps.{came, LeadsOn, LeadsAmong}
use Rattle.mvo_readonly.specs.Whole.{stage_of}
use Rattle.mvo_readonly.specs.WholeCauses.WholeCall.{CoreCall}
use Rattle.mvo_core.specs.Causes.{is_read_only}
use Rattle.mvo_core.specs.WholeStanding.{StandsWhole, LeadsWhole, readers_of}
use Rattle.mvo_core.proofs.WholeCalled.{none_reads, other_leads_whole}
use Rattle.mvo_core.proofs.WholePrecommits.{read_is_some, precommit_refused_whole, reads_precommits}
use Rattle.mvo_core.specs.Data.{own_of}
use Rattle.mvo_core.proofs.WholeStands.{whole_stands_on}
use Rattle.mvo_core.proofs.Refused.{came_spent}
use Rattle.mvo_core.proofs.Drawing.{precommit_refused, clock_spent_leads, memory_spent_leads, ends_below, was_active, draw_leads}
use Rattle.mvo_txn.specs.Txns.{state_of}
use Rattle.mvo_tale.specs.declared.tale_place.TalePlace.{TalePlace}
use Rattle.mvo_core.proofs.Waits.{waits_roomy_ended, waits_alike, alike_written}
use Rattle.mvo_core.proofs.WaitsOn.{drawn_waits}
use Rattle.mvo_core.specs.Keeping.{HasStartedChecks}
use Rattle.mvo_core.specs.WholeEnds.{end_drawn}
use Rattle.mvo_core.proofs.event_core.Core.precommit.Goals as goal

pub returns-in-Some-clause-step : goal.returns-in-Some-clause-step
returns-in-Some-clause-step c = λ opening steps s h.
    let f = c.self.inside in
    let old : CoreData = core_data f in
    let why : why_not_active old.table c.args.tx.0 ≡ Some c.in-Some.refusal = sym c.active-refusal.ensures.refusal ∙ c.in-Some.is in
    subst (λ r. LeadsOn opening steps s (Precommit c.args.tx.0) (Refused r) c.give_up.new.self) (sym c.give_up.ensures.same)
    (precommit_refused no_readers opening steps s c.args.self.now h c.args.tx.0 refl c.in-Some.refusal c.give_up.new.self
    (ap (λ (v : CoreData). why_not_active v.table c.args.tx.0) (sym c.self.view_is) ∙ why) c.give_up.ensures.left)

pub returns-then-clock-ge-MAX_STAMP-clause-step : goal.returns-then-clock-ge-MAX_STAMP-clause-step
returns-then-clock-ge-MAX_STAMP-clause-step c = λ opening steps s h.
    let f = c.self.inside in
    let old : CoreData = core_data f in
    let g : StandsFor opening steps s old = subst (StandsFor opening steps s) (sym c.self.view_is) h in
    subst (LeadsOn opening steps s (Precommit c.args.tx.0) (Refused ClockSpent)) c.self.view_is
    (clock_spent_leads no_readers opening steps s old g c.args.tx (sym c.active-refusal.ensures.refusal ∙ c.in_default.is) refl (subst (λ n. MAX_STAMP ≤ n) c.clock-clock.ensures.value c.if-clock-ge-MAX_STAMP.true))

pub open-requires : goal.open-requires
open-requires c =
    let f = c.self.inside in
    let i = c.self.invariant.stands in
    let old : CoreData = core_data f in
    ends_below (readers_of i.whole) i.opening i.own i.whole.core old i.stands.core (c.clock-clock.result.0 + 1) (ap (λ n. n + 1) c.clock-clock.ensures.value)

pub returns-in_err-place-clause-step : goal.returns-in_err-place-clause-step
returns-in_err-place-clause-step c = λ opening steps s h.
    let f = c.self.inside in
    let old : CoreData = core_data f in
    let g : StandsFor opening steps s old = subst (StandsFor opening steps s) (sym c.self.view_is) h in
    subst (λ r. LeadsOn opening steps s (Precommit c.args.tx.0) r (record old { tale = c.open.new.self })) (came_spent c.from_residual-in_err-place.result c.from_residual-in_err-place.ensures.1)
    (subst (λ slots. LeadsOn opening steps s (Precommit c.args.tx.0) (Refused OutOfMemory) (record old { tale = slots })) (sym c.in_err-place.ensures.err)
    (memory_spent_leads no_readers opening steps s old g c.args.tx (sym c.active-refusal.ensures.refusal ∙ c.in_default.is) refl (subst (λ n. n < MAX_STAMP) c.clock-clock.ensures.value c.if-clock-ge-MAX_STAMP.false)))

pub prepare-requires : goal.prepare-requires
prepare-requires c =
    let f = c.self.inside in
    let i = c.self.invariant.stands in
    let old : CoreData = core_data f in
    was_active (readers_of i.whole) i.opening i.own i.whole.core old i.stands.core c.args.tx (sym c.active-refusal.ensures.refusal ∙ c.in_default.is)

pub invariant_of-self-2 : goal.invariant_of-self-2
invariant_of-self-2 c =
    let f = c.self.inside in
    let i = c.self.invariant.stands in
    let old : CoreData = core_data f in
    let none = sym c.active-refusal.ensures.refusal ∙ c.in_default.is in
    let drawn : Stamp = record { 0 = c.clock-clock.result.0 + 1 } in
    let unspent = subst (λ n. n < MAX_STAMP) c.clock-clock.ensures.value c.if-clock-ge-MAX_STAMP.false in
    record {
      stands =
          whole_stands_on i (CoreCall (Precommit c.args.tx.0)) (came c.prepare.result) (record old { versions = c.draw_words.new.versions; table = c.prepare.new.table; tale = c.open.new.self; works = c.take_out-taken.new.works })
          (let drawn : Stamp = record { 0 = c.clock-clock.result.0 + 1 } in
          other_leads_whole i.opening i.steps i.own i.whole old i.stands c.args.tx.0 (Precommit c.args.tx.0) refl tt (came c.prepare.result) (record old { versions = c.draw_words.new.versions; table = c.prepare.new.table; tale = c.open.new.self; works = c.take_out-taken.new.works }) (sym c.active-refusal.ensures.reads ∙ c.if-reads.false)
          (λ other. draw_leads (readers_of i.whole) i.opening i.own i.whole.core old i.stands.core c.args.tx (sym c.active-refusal.ensures.refusal ∙ c.in_default.is) c.in_ok-place.place c.in_ok-place.ensures.place
          drawn (ap (λ n. n + 1) c.clock-clock.ensures.value) c.open.new.self c.in_ok-place.ensures.ok c.draw_words.new.versions c.draw_words.ensures.fronts
          (subst (λ n. n < MAX_STAMP) c.clock-clock.ensures.value c.if-clock-ge-MAX_STAMP.false) other c.take_out-taken.result c.take_out-taken.ensures.taken c.take_out-taken.new.works c.take_out-taken.ensures.left c.prepare.result c.prepare.new.table c.prepare.ensures.ok c.prepare.ensures.refused));
      waiting = drawn_waits (readers_of i.whole) i.opening i.own i.whole.core old i.stands.core c.args.tx none c.in_ok-place.place c.in_ok-place.ensures.place drawn (ap (λ n. n + 1) c.clock-clock.ensures.value) c.draw_words.new.versions c.draw_words.ensures.fronts c.take_out-taken.result c.take_out-taken.ensures.taken unspent f.waiting c.make_room_for_ended.new.self c.draw_words.new.waiting c.make_room_for_ended.ensures.same c.draw_words.ensures.waits c.self.invariant.waiting c.prepare.result c.prepare.new.table c.prepare.ensures.ok c.prepare.ensures.refused;
    }

pub returns-clause-step : goal.returns-clause-step
returns-clause-step c = λ opening steps s h.
    let f = c.self.inside in
    let old : CoreData = core_data f in
    let g : StandsFor opening steps s old = subst (StandsFor opening steps s) (sym c.self.view_is) h in
    let drawn : Stamp = record { 0 = c.clock-clock.result.0 + 1 } in
    draw_leads no_readers opening steps s old g c.args.tx (sym c.active-refusal.ensures.refusal ∙ c.in_default.is) c.in_ok-place.place c.in_ok-place.ensures.place
    drawn (ap (λ n. n + 1) c.clock-clock.ensures.value) c.open.new.self c.in_ok-place.ensures.ok c.draw_words.new.versions c.draw_words.ensures.fronts
    (subst (λ n. n < MAX_STAMP) c.clock-clock.ensures.value c.if-clock-ge-MAX_STAMP.false) refl c.take_out-taken.result c.take_out-taken.ensures.taken c.take_out-taken.new.works c.take_out-taken.ensures.left c.prepare.result c.prepare.new.table c.prepare.ensures.ok c.prepare.ensures.refused

pub returns-in_err-written-clause-step : goal.returns-in_err-written-clause-step
returns-in_err-written-clause-step c = λ opening steps s h.
    let f = c.self.inside in
    let old : CoreData = core_data f in
    let g : StandsFor opening steps s old = subst (StandsFor opening steps s) (sym c.self.view_is) h in
    subst (λ (x : CoreData). LeadsOn opening steps s (Precommit c.args.tx.0) (came c.from_residual.result) x) c.self.view_is
    (subst (λ r. LeadsOn opening steps s (Precommit c.args.tx.0) r old) (came_spent c.from_residual.result c.from_residual.ensures.1)
    (memory_spent_leads no_readers opening steps s old g c.args.tx (sym c.active-refusal.ensures.refusal ∙ c.in_default.is) refl (subst (λ n. n < MAX_STAMP) c.clock-clock.ensures.value c.if-clock-ge-MAX_STAMP.false)))

pub returns-in_err-make_room_for_ended-clause-step : goal.returns-in_err-make_room_for_ended-clause-step
returns-in_err-make_room_for_ended-clause-step c = λ opening steps s h.
    let f = c.self.inside in
    let old : CoreData = core_data f in
    let g : StandsFor opening steps s old = subst (StandsFor opening steps s) (sym c.self.view_is) h in
    subst (λ r. LeadsOn opening steps s (Precommit c.args.tx.0) r old) (came_spent c.from_residual-in_err-make_room_for_ended.result c.from_residual-in_err-make_room_for_ended.ensures.1)
    (memory_spent_leads no_readers opening steps s old g c.args.tx (sym c.active-refusal.ensures.refusal ∙ c.in_default.is) refl (subst (λ n. n < MAX_STAMP) c.clock-clock.ensures.value c.if-clock-ge-MAX_STAMP.false))

-- ---- room for what it has ended
pub invariant_of-self-in_err-make_room_for_ended : goal.invariant_of-self-in_err-make_room_for_ended
invariant_of-self-in_err-make_room_for_ended c =
    let f = c.self.inside in
    record {
      stands = c.self.invariant.stands;
      waiting = waits_roomy_ended f.table.clock (state_of f.table) f.versions.slots f.waiting c.make_room_for_ended.new.self c.make_room_for_ended.new.self.ended_room c.make_room_for_ended.ensures.same c.self.invariant.waiting;
    }

pub invariant_of-self-in_err-place : goal.invariant_of-self-in_err-place
invariant_of-self-in_err-place c =
    let f = c.self.inside in
    let old : CoreData = core_data f in
    record {
      stands = subst (λ (slots : List TalePlace). StandsInWhole (record old { tale = slots })) (sym c.in_err-place.ensures.err) c.self.invariant.stands;
      waiting = waits_roomy_ended f.table.clock (state_of f.table) f.versions.slots f.waiting c.make_room_for_ended.new.self c.make_room_for_ended.new.self.ended_room c.make_room_for_ended.ensures.same c.self.invariant.waiting;
    }

pub take_out-taken-requires : goal.take_out-taken-requires
take_out-taken-requires c = c.in_ok-written.ensures

pub draw_words-requires-clause-room : goal.draw_words-requires-clause-room
draw_words-requires-clause-room c = let room = c.in_ok-make_room_for_ended.ensures.ok in omega (arith, room)

-- ---- with read-only ones beside
pub returns-in-Some-clause-whole : goal.returns-in-Some-clause-whole
returns-in-Some-clause-whole c = λ opening steps own w h.
    let f = c.self.inside in
    let old : CoreData = core_data f in
    let why : why_not_active old.table c.args.tx.0 ≡ Some c.in-Some.refusal = sym c.active-refusal.ensures.refusal ∙ c.in-Some.is in
    subst (λ r. LeadsWhole opening steps own w (CoreCall (Precommit c.args.tx.0)) (Refused r) c.give_up.new.self) (sym c.give_up.ensures.same)
    (precommit_refused_whole opening steps own w c.args.self.now h c.args.tx.0 c.in-Some.refusal c.give_up.new.self
    (ap (λ (v : CoreData). why_not_active v.table c.args.tx.0) (sym c.self.view_is) ∙ why) c.give_up.ensures.left c.give_up.ensures.reader)

pub returns-then-clock-ge-MAX_STAMP-clause-whole : goal.returns-then-clock-ge-MAX_STAMP-clause-whole
returns-then-clock-ge-MAX_STAMP-clause-whole c = λ opening steps own w h.
    let f = c.self.inside in
    let old : CoreData = core_data f in
    let g : StandsWhole opening steps own w old = subst (StandsWhole opening steps own w) (sym c.self.view_is) h in
    subst (LeadsWhole opening steps own w (CoreCall (Precommit c.args.tx.0)) (Refused ClockSpent)) c.self.view_is
    (other_leads_whole opening steps own w old g c.args.tx.0 (Precommit c.args.tx.0) refl tt (Refused ClockSpent) old (sym c.active-refusal.ensures.reads ∙ c.if-reads.false)
    (λ other. clock_spent_leads (readers_of w) opening own w.core old g.core c.args.tx (sym c.active-refusal.ensures.refusal ∙ c.in_default.is) other (subst (λ n. MAX_STAMP ≤ n) c.clock-clock.ensures.value c.if-clock-ge-MAX_STAMP.true)))

pub returns-in_err-place-clause-whole : goal.returns-in_err-place-clause-whole
returns-in_err-place-clause-whole c = λ opening steps own w h.
    let f = c.self.inside in
    let old : CoreData = core_data f in
    let g : StandsWhole opening steps own w old = subst (StandsWhole opening steps own w) (sym c.self.view_is) h in
    subst (λ r. LeadsWhole opening steps own w (CoreCall (Precommit c.args.tx.0)) r (record old { tale = c.open.new.self })) (came_spent c.from_residual-in_err-place.result c.from_residual-in_err-place.ensures.1)
    (subst (λ slots. LeadsWhole opening steps own w (CoreCall (Precommit c.args.tx.0)) (Refused OutOfMemory) (record old { tale = slots })) (sym c.in_err-place.ensures.err)
    (other_leads_whole opening steps own w old g c.args.tx.0 (Precommit c.args.tx.0) refl tt (Refused OutOfMemory) old (sym c.active-refusal.ensures.reads ∙ c.if-reads.false)
    (λ other. memory_spent_leads (readers_of w) opening own w.core old g.core c.args.tx (sym c.active-refusal.ensures.refusal ∙ c.in_default.is) other (subst (λ n. n < MAX_STAMP) c.clock-clock.ensures.value c.if-clock-ge-MAX_STAMP.false))))

pub returns-in_err-written-clause-whole : goal.returns-in_err-written-clause-whole
returns-in_err-written-clause-whole c = λ opening steps own w h.
    let f = c.self.inside in
    let old : CoreData = core_data f in
    let g : StandsWhole opening steps own w old = subst (StandsWhole opening steps own w) (sym c.self.view_is) h in
    subst (λ (x : CoreData). LeadsWhole opening steps own w (CoreCall (Precommit c.args.tx.0)) (came c.from_residual.result) x) c.self.view_is
    (subst (λ r. LeadsWhole opening steps own w (CoreCall (Precommit c.args.tx.0)) r old) (came_spent c.from_residual.result c.from_residual.ensures.1)
    (other_leads_whole opening steps own w old g c.args.tx.0 (Precommit c.args.tx.0) refl tt (Refused OutOfMemory) old (sym c.active-refusal.ensures.reads ∙ c.if-reads.false)
    (λ other. memory_spent_leads (readers_of w) opening own w.core old g.core c.args.tx (sym c.active-refusal.ensures.refusal ∙ c.in_default.is) other (subst (λ n. n < MAX_STAMP) c.clock-clock.ensures.value c.if-clock-ge-MAX_STAMP.false))))

pub returns-in_err-make_room_for_ended-clause-whole : goal.returns-in_err-make_room_for_ended-clause-whole
returns-in_err-make_room_for_ended-clause-whole c = λ opening steps own w h.
    let f = c.self.inside in
    let old : CoreData = core_data f in
    let g : StandsWhole opening steps own w old = subst (StandsWhole opening steps own w) (sym c.self.view_is) h in
    subst (λ r. LeadsWhole opening steps own w (CoreCall (Precommit c.args.tx.0)) r old) (came_spent c.from_residual-in_err-make_room_for_ended.result c.from_residual-in_err-make_room_for_ended.ensures.1)
    (other_leads_whole opening steps own w old g c.args.tx.0 (Precommit c.args.tx.0) refl tt (Refused OutOfMemory) old (sym c.active-refusal.ensures.reads ∙ c.if-reads.false)
    (λ other. memory_spent_leads (readers_of w) opening own w.core old g.core c.args.tx (sym c.active-refusal.ensures.refusal ∙ c.in_default.is) other (subst (λ n. n < MAX_STAMP) c.clock-clock.ensures.value c.if-clock-ge-MAX_STAMP.false)))

pub returns-clause-whole : goal.returns-clause-whole
returns-clause-whole c = λ opening steps own w h.
    let f = c.self.inside in
    let old : CoreData = core_data f in
    let g : StandsWhole opening steps own w old = subst (StandsWhole opening steps own w) (sym c.self.view_is) h in
    let drawn : Stamp = record { 0 = c.clock-clock.result.0 + 1 } in
    other_leads_whole opening steps own w old g c.args.tx.0 (Precommit c.args.tx.0) refl tt (came c.prepare.result) (record old { versions = c.draw_words.new.versions; table = c.prepare.new.table; tale = c.open.new.self; works = c.take_out-taken.new.works }) (sym c.active-refusal.ensures.reads ∙ c.if-reads.false)
    (λ other. draw_leads (readers_of w) opening own w.core old g.core c.args.tx (sym c.active-refusal.ensures.refusal ∙ c.in_default.is) c.in_ok-place.place c.in_ok-place.ensures.place
    drawn (ap (λ n. n + 1) c.clock-clock.ensures.value) c.open.new.self c.in_ok-place.ensures.ok c.draw_words.new.versions c.draw_words.ensures.fronts
    (subst (λ n. n < MAX_STAMP) c.clock-clock.ensures.value c.if-clock-ge-MAX_STAMP.false) other c.take_out-taken.result c.take_out-taken.ensures.taken c.take_out-taken.new.works c.take_out-taken.ensures.left c.prepare.result c.prepare.new.table c.prepare.ensures.ok c.prepare.ensures.refused)

-- ---- of one that is read-only, which none is
pub start_checks-requires : goal.start_checks-requires
start_checks-requires c = read_is_some (own_of c.self.inside.table c.args.tx.0) (sym c.active-refusal.ensures.reads ∙ c.if-reads.true)

pub returns-then-reads-clause-step : goal.returns-then-reads-clause-step
returns-then-reads-clause-step c = λ opening steps s h.
    let f = c.self.inside in
    let old : CoreData = core_data f in
    let g : StandsFor opening steps s old = subst (StandsFor opening steps s) (sym c.self.view_is) h in
    absurd (none_reads opening steps s old g c.args.tx.0 (sym c.active-refusal.ensures.reads ∙ c.if-reads.true))

pub returns-then-reads-clause-end : goal.returns-then-reads-clause-end
returns-then-reads-clause-end c =
    let f = c.self.inside in
    c.start_checks.ensures.end ∙ subst (λ (v : CoreData). c.args.tx.0 ≡ end_drawn v c.args.tx.0) c.self.view_is (sym (ap (λ (b : Bool). cond b c.args.tx.0 (f.table.clock + 1)) (sym c.active-refusal.ensures.reads ∙ c.if-reads.true)))

pub invariant_of-self : goal.invariant_of-self
invariant_of-self c =
    let f = c.self.inside in
    let i = c.self.invariant.stands in
    let old : CoreData = core_data f in
    record {
      stands =
          whole_stands_on i (CoreCall (Precommit c.args.tx.0)) Accepted (record old { table = c.start_checks.new.table })
          (reads_precommits i.opening i.steps i.own i.whole old i.stands c.args.tx.0 c.start_checks.new.table c.start_checks.ensures.started (sym c.active-refusal.ensures.refusal ∙ c.in_default.is) (sym c.active-refusal.ensures.reads ∙ c.if-reads.true));
      waiting = waits_alike f.table c.start_checks.new.table f.versions.slots f.waiting (alike_written f.table c.start_checks.new.table c.args.tx.0 HasStartedChecks c.start_checks.ensures.started) c.self.invariant.waiting;
    }

pub returns-then-reads-clause-whole : goal.returns-then-reads-clause-whole
returns-then-reads-clause-whole c = λ opening steps own w h.
    let f = c.self.inside in
    let old : CoreData = core_data f in
    let g : StandsWhole opening steps own w old = subst (StandsWhole opening steps own w) (sym c.self.view_is) h in
    reads_precommits opening steps own w old g c.args.tx.0 c.start_checks.new.table c.start_checks.ensures.started (sym c.active-refusal.ensures.refusal ∙ c.in_default.is) (sym c.active-refusal.ensures.reads ∙ c.if-reads.true)
