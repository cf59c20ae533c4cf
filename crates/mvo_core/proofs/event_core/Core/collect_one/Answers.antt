use Rattle.std.proofs.Common.{sym, subst}
use Rattle.mvo_collect.specs.Garbage.{horizon}
use Rattle.mvo_collect.specs.Laws.{IsCountedSo}
use Rattle.mvo_core.specs.Readers.{no_readers}
use Rattle.mvo_core.specs.Data.{CoreData}
use Rattle.mvo_core.specs.View.{core_data}
use Rattle.mvo_core.specs.Collecting.{ShowsSame}
use Rattle.mvo_core.specs.Counting.{HasTakenOne}
use Rattle.mvo_core.specs.Standing.{StandsFor}
use Rattle.mvo_core.proofs.WaitsOn.{collected_stands, collected_waits, collected_counts, collected_shows, taken_so}
use Rattle.mvo_core.specs.WholeStanding.{readers_of, StandsWhole}
use Rattle.mvo_core.specs.WholeAnswers.{ShowsSameWhole}
use Rattle.mvo_core.proofs.VersionCounts.{taken_counts}
use Rattle.mvo_core.proofs.event_core.Core.collect_one.Goals as goal

pub invariant_of-self : goal.invariant_of-self
invariant_of-self c =
    let f = c.self.inside in
    let i = c.self.invariant.stands in
    let old : CoreData = core_data f in
    record {
      stands = record {
        opening = i.opening;
        steps = i.steps;
        own = i.own;
        whole = i.whole;
        stands = record { core = collected_stands (readers_of i.whole) i.opening i.own i.whole.core old i.stands.core f.waiting c.self.invariant.waiting c.collect_one.result c.collect_one.new.versions c.collect_one.new.waiting c.collect_one.ensures; kept = i.stands.kept };
        closed = i.closed;
      };
      waiting = collected_waits (readers_of i.whole) i.opening i.own i.whole.core old i.stands.core f.waiting c.self.invariant.waiting c.collect_one.result c.collect_one.new.versions c.collect_one.new.waiting c.collect_one.ensures;
    }

pub returns-clause-stands : goal.returns-clause-stands
returns-clause-stands c = λ opening steps s h.
    let f = c.self.inside in
    let old : CoreData = core_data f in
    collected_stands no_readers opening steps s old (subst (StandsFor opening steps s) (sym c.self.view_is) h) f.waiting c.self.invariant.waiting c.collect_one.result c.collect_one.new.versions c.collect_one.new.waiting c.collect_one.ensures

pub returns-clause-counts : goal.returns-clause-counts
returns-clause-counts c = λ opening steps s h.
    let f = c.self.inside in
    let old : CoreData = core_data f in
    subst (λ (x : CoreData). IsCountedSo (horizon s) x.versions.slots c.collect_one.new.versions.slots c.collect_one.result) c.self.view_is
    (collected_counts no_readers opening steps s old (subst (StandsFor opening steps s) (sym c.self.view_is) h) f.waiting c.self.invariant.waiting c.collect_one.result c.collect_one.new.versions c.collect_one.new.waiting c.collect_one.ensures)

pub returns-clause-shows : goal.returns-clause-shows
returns-clause-shows c =
    let f = c.self.inside in
    let old : CoreData = core_data f in
    subst (λ (x : CoreData). ShowsSame x (record old { versions = c.collect_one.new.versions })) c.self.view_is
    (λ opening steps s h. collected_shows no_readers opening steps s old h f.waiting c.self.invariant.waiting c.collect_one.result c.collect_one.new.versions c.collect_one.new.waiting c.collect_one.ensures)

-- ---- beside read-only ones
pub returns-clause-whole : goal.returns-clause-whole
returns-clause-whole c = λ opening steps own w h.
    let f = c.self.inside in
    let old : CoreData = core_data f in
    let g : StandsWhole opening steps own w old = subst (StandsWhole opening steps own w) (sym c.self.view_is) h in
    record {
      core = collected_stands (readers_of w) opening own w.core old g.core f.waiting c.self.invariant.waiting c.collect_one.result c.collect_one.new.versions c.collect_one.new.waiting c.collect_one.ensures;
      kept = g.kept;
    }

pub returns-clause-whole_counts : goal.returns-clause-whole_counts
returns-clause-whole_counts c = λ opening steps own w h.
    let f = c.self.inside in
    let old : CoreData = core_data f in
    let g : StandsWhole opening steps own w old = subst (StandsWhole opening steps own w) (sym c.self.view_is) h in
    subst (λ (x : CoreData). IsCountedSo (horizon w.core) x.versions.slots c.collect_one.new.versions.slots c.collect_one.result) c.self.view_is
    (collected_counts (readers_of w) opening own w.core old g.core f.waiting c.self.invariant.waiting c.collect_one.result c.collect_one.new.versions c.collect_one.new.waiting c.collect_one.ensures)

pub returns-clause-whole_shows : goal.returns-clause-whole_shows
returns-clause-whole_shows c =
    let f = c.self.inside in
    let old : CoreData = core_data f in
    subst (λ (x : CoreData). ShowsSameWhole x (record old { versions = c.collect_one.new.versions })) c.self.view_is
    (λ opening steps own w h. collected_shows (readers_of w) opening own w.core old h.core f.waiting c.self.invariant.waiting c.collect_one.result c.collect_one.new.versions c.collect_one.new.waiting c.collect_one.ensures)

pub returns-clause-count : goal.returns-clause-count
returns-clause-count c =
    let f = c.self.inside in
    let old : CoreData = core_data f in
    let one = c.collect_one in
    subst (λ (x : CoreData). HasTakenOne x one.result (record old { versions = one.new.versions })) c.self.view_is
    (taken_counts f.start.0 old one.result one.new.versions (taken_so f.start.0 f.versions one.new.versions f.waiting one.new.waiting one.result one.ensures))
