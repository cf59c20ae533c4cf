use Rattle.std.proofs.Common.{sym, subst, refl, ap, ◌∙◌}
use Rattle.mvo_theory.specs.Calls.Call.{Finish}
use Rattle.mvo_theory.specs.Calls.Result.{Accepted}
use Rattle.mvo_core.specs.Readers.{no_readers}
use Rattle.mvo_core.specs.Data.{CoreData}
use Rattle.mvo_core.specs.View.{core_data}
use Rattle.mvo_txn.specs.Txns.{state_of}
use Rattle.mvo_core.specs.Standing.{StandsFor, words_in}
use Rattle.mvo_core.proofs.WholeStands.{whole_stands_on}
use Rattle.mvo_core.proofs.Finished.{drawn_end, final_ended, finish_more, finish_done, replaced_ended}
use Rattle.mvo_core.proofs.WorksHeld.{stands_forgotten_work, whole_forgotten_work}
use Rattle.mvo_core.specs.WholeStanding.{readers_of, StandsWhole, LeadsWhole}
use Rattle.mvo_readonly.specs.WholeCauses.WholeCall.{CoreCall}
use Rattle.mvo_core.specs.Finishing.{why_not_finished}
use Rattle.mvo_core.proofs.WholeFinished.{came_refused, finish_refused_whole, finish_more_whole, finish_done_whole}
use Rattle.mvo_core.proofs.Waits.{owed_for, waits_finished, waits_gone}
use Rattle.mvo_core.proofs.VersionCounts.{one_replaced_counts}
use Rattle.mvo_core.specs.Counting.{version_count}
use Rattle.mvo_core.proofs.event_core.Core.finish_one.Goals as goal

pub final_word-requires : goal.final_word-requires
final_word-requires c =
    let f = c.self.inside in
    let i = c.self.invariant.stands in
    let old : CoreData = core_data f in
    drawn_end (readers_of i.whole) i.opening i.own i.whole.core old i.stands.core c.args.tx.0

pub terminate-node-requires : goal.terminate-node-requires
terminate-node-requires c =
    replaced_ended c.self.inside.versions c.replace_next-replaced.new.versions c.self.inside.table c.replace_next-replaced.ensures.replaced.between c.args.tx.0 c.in_ok-word.word c.replace_next-replaced.ensures.replaced.next
    c.replace_next-replaced.new.table c.replace_next-replaced.ensures.replaced.passed c.in_ok-word.ensures.ok

-- ---- words are left
pub invariant_of-self : goal.invariant_of-self
invariant_of-self c =
    let f = c.self.inside in
    let i = c.self.invariant.stands in
    let old : CoreData = core_data f in
    record {
      stands =
          whole_stands_on i (CoreCall (Finish c.args.tx.0)) Accepted (record old { versions = c.replace_next-replaced.new.versions; table = c.replace_next-replaced.new.table })
          ((finish_more_whole i.opening i.steps i.own i.whole old i.stands c.args.tx.0 c.in_ok-word.word c.in_ok-word.ensures.ok c.replace_next-replaced.new.versions c.replace_next-replaced.ensures.replaced.between c.replace_next-replaced.new.table
          c.replace_next-replaced.ensures.replaced.next c.replace_next-replaced.ensures.replaced.passed c.replace_next-replaced.result.1 c.replace_next-replaced.ensures.next c.if-is_some.ensures).leads);
      waiting = waits_finished f.versions c.replace_next-replaced.new.versions f.table c.replace_next-replaced.ensures.replaced.between c.replace_next-replaced.new.table c.args.tx.0 c.in_ok-word.word c.replace_next-replaced.ensures.replaced.next c.in_ok-word.ensures.ok c.replace_next-replaced.ensures.replaced.passed f.waiting c.count_off.new.waiting c.replace_next-replaced.result.0 c.replace_next-replaced.ensures.first c.count_off.ensures c.self.invariant.waiting;
    }

pub returns-then-is_some-clause-step : goal.returns-then-is_some-clause-step
returns-then-is_some-clause-step c = λ opening steps s h.
    let f = c.self.inside in
    let old : CoreData = core_data f in
    (finish_more no_readers opening steps s old (subst (StandsFor opening steps s) (sym c.self.view_is) h) c.args.tx.0 refl c.in_ok-word.word c.in_ok-word.ensures.ok
    c.replace_next-replaced.new.versions c.replace_next-replaced.ensures.replaced.between c.replace_next-replaced.new.table c.replace_next-replaced.ensures.replaced.next c.replace_next-replaced.ensures.replaced.passed c.replace_next-replaced.result.1 c.replace_next-replaced.ensures.next c.if-is_some.ensures).leads

pub returns-then-is_some-clause-answer : goal.returns-then-is_some-clause-answer
returns-then-is_some-clause-answer c = λ opening steps s h.
    let f = c.self.inside in
    let old : CoreData = core_data f in
    (finish_more no_readers opening steps s old (subst (StandsFor opening steps s) (sym c.self.view_is) h) c.args.tx.0 refl c.in_ok-word.word c.in_ok-word.ensures.ok
    c.replace_next-replaced.new.versions c.replace_next-replaced.ensures.replaced.between c.replace_next-replaced.new.table c.replace_next-replaced.ensures.replaced.next c.replace_next-replaced.ensures.replaced.passed c.replace_next-replaced.result.1 c.replace_next-replaced.ensures.next c.if-is_some.ensures).answer

-- ---- none is left
pub invariant_of-self-2 : goal.invariant_of-self-2
invariant_of-self-2 c =
    let f = c.self.inside in
    let i = c.self.invariant.stands in
    let old : CoreData = core_data f in
    let now : CoreData = record old { works = c.forget.new.self } in
    record {
      stands =
          whole_stands_on i (CoreCall (Finish c.args.tx.0)) Accepted (record now { versions = c.replace_next-replaced.new.versions; table = c.terminate-node.new.self })
          ((finish_done_whole i.opening i.steps i.own i.whole now (whole_forgotten_work i.opening i.steps i.own i.whole old i.stands c.forget.new.self c.args.tx.0 (final_ended (state_of f.table c.args.tx.0) c.in_ok-word.word c.in_ok-word.ensures.ok) c.forget.ensures) c.args.tx.0 c.in_ok-word.word c.in_ok-word.ensures.ok c.replace_next-replaced.new.versions c.replace_next-replaced.ensures.replaced.between c.replace_next-replaced.new.table
          c.replace_next-replaced.ensures.replaced.next c.replace_next-replaced.ensures.replaced.passed c.replace_next-replaced.result.1 c.replace_next-replaced.ensures.next c.if-is_some.ensures c.terminate-node.new.self c.terminate-node.ensures.gone).leads);
      waiting = waits_gone c.replace_next-replaced.new.table c.terminate-node.new.self c.args.tx.0 c.replace_next-replaced.new.versions.slots c.count_off.new.waiting c.terminate-node.ensures.gone (waits_finished f.versions c.replace_next-replaced.new.versions f.table c.replace_next-replaced.ensures.replaced.between c.replace_next-replaced.new.table c.args.tx.0 c.in_ok-word.word c.replace_next-replaced.ensures.replaced.next c.in_ok-word.ensures.ok c.replace_next-replaced.ensures.replaced.passed f.waiting c.count_off.new.waiting c.replace_next-replaced.result.0 c.replace_next-replaced.ensures.first c.count_off.ensures c.self.invariant.waiting);
    }

pub returns-clause-step : goal.returns-clause-step
returns-clause-step c = λ opening steps s h.
    let f = c.self.inside in
    let old : CoreData = core_data f in
    let now : CoreData = record old { works = c.forget.new.self } in
    (finish_done no_readers opening steps s now (stands_forgotten_work no_readers opening steps s old (subst (StandsFor opening steps s) (sym c.self.view_is) h) c.forget.new.self c.args.tx.0 (final_ended (state_of f.table c.args.tx.0) c.in_ok-word.word c.in_ok-word.ensures.ok) c.forget.ensures) c.args.tx.0 refl c.in_ok-word.word c.in_ok-word.ensures.ok
    c.replace_next-replaced.new.versions c.replace_next-replaced.ensures.replaced.between c.replace_next-replaced.new.table c.terminate-node.new.self c.replace_next-replaced.ensures.replaced.next c.replace_next-replaced.ensures.replaced.passed c.replace_next-replaced.result.1 c.replace_next-replaced.ensures.next
    c.if-is_some.ensures c.terminate-node.ensures.gone).leads

pub returns-clause-answer : goal.returns-clause-answer
returns-clause-answer c = λ opening steps s h.
    let f = c.self.inside in
    let old : CoreData = core_data f in
    (finish_done no_readers opening steps s old (subst (StandsFor opening steps s) (sym c.self.view_is) h) c.args.tx.0 refl c.in_ok-word.word c.in_ok-word.ensures.ok
    c.replace_next-replaced.new.versions c.replace_next-replaced.ensures.replaced.between c.replace_next-replaced.new.table c.terminate-node.new.self c.replace_next-replaced.ensures.replaced.next c.replace_next-replaced.ensures.replaced.passed c.replace_next-replaced.result.1 c.replace_next-replaced.ensures.next
    c.if-is_some.ensures c.terminate-node.ensures.gone).answer

pub count_off-requires : goal.count_off-requires
count_off-requires c =
    let f = c.self.inside in
    owed_for f.table.clock (state_of f.table) f.versions.slots f.waiting c.args.tx.0 (words_in f.table c.args.tx.0) c.replace_next-replaced.result.0 c.replace_next-replaced.ensures.first c.self.invariant.waiting

-- ---- beside read-only ones
pub returns-then-is_some-clause-whole : goal.returns-then-is_some-clause-whole
returns-then-is_some-clause-whole c = λ opening steps own w h.
    let f = c.self.inside in
    let old : CoreData = core_data f in
    let g : StandsWhole opening steps own w old = subst (StandsWhole opening steps own w) (sym c.self.view_is) h in
    (finish_more_whole opening steps own w old g c.args.tx.0 c.in_ok-word.word c.in_ok-word.ensures.ok c.replace_next-replaced.new.versions c.replace_next-replaced.ensures.replaced.between c.replace_next-replaced.new.table
    c.replace_next-replaced.ensures.replaced.next c.replace_next-replaced.ensures.replaced.passed c.replace_next-replaced.result.1 c.replace_next-replaced.ensures.next c.if-is_some.ensures).leads

pub returns-clause-whole : goal.returns-clause-whole
returns-clause-whole c = λ opening steps own w h.
    let f = c.self.inside in
    let old : CoreData = core_data f in
    let now : CoreData = record old { works = c.forget.new.self } in
    let g : StandsWhole opening steps own w now = whole_forgotten_work opening steps own w old (subst (StandsWhole opening steps own w) (sym c.self.view_is) h) c.forget.new.self c.args.tx.0 (final_ended (state_of f.table c.args.tx.0) c.in_ok-word.word c.in_ok-word.ensures.ok) c.forget.ensures in
    (finish_done_whole opening steps own w now g c.args.tx.0 c.in_ok-word.word c.in_ok-word.ensures.ok c.replace_next-replaced.new.versions c.replace_next-replaced.ensures.replaced.between c.replace_next-replaced.new.table
    c.replace_next-replaced.ensures.replaced.next c.replace_next-replaced.ensures.replaced.passed c.replace_next-replaced.result.1 c.replace_next-replaced.ensures.next c.if-is_some.ensures c.terminate-node.new.self c.terminate-node.ensures.gone).leads

pub returns-then-is_some-clause-whole_answer : goal.returns-then-is_some-clause-whole_answer
returns-then-is_some-clause-whole_answer c = λ opening steps own w h.
    let f = c.self.inside in
    let old : CoreData = core_data f in
    let g : StandsWhole opening steps own w old = subst (StandsWhole opening steps own w) (sym c.self.view_is) h in
    (finish_more_whole opening steps own w old g c.args.tx.0 c.in_ok-word.word c.in_ok-word.ensures.ok c.replace_next-replaced.new.versions c.replace_next-replaced.ensures.replaced.between c.replace_next-replaced.new.table
    c.replace_next-replaced.ensures.replaced.next c.replace_next-replaced.ensures.replaced.passed c.replace_next-replaced.result.1 c.replace_next-replaced.ensures.next c.if-is_some.ensures).answer

pub returns-clause-whole_answer : goal.returns-clause-whole_answer
returns-clause-whole_answer c = λ opening steps own w h.
    let f = c.self.inside in
    let old : CoreData = core_data f in
    let g : StandsWhole opening steps own w old = subst (StandsWhole opening steps own w) (sym c.self.view_is) h in
    (finish_done_whole opening steps own w old g c.args.tx.0 c.in_ok-word.word c.in_ok-word.ensures.ok c.replace_next-replaced.new.versions c.replace_next-replaced.ensures.replaced.between c.replace_next-replaced.new.table
    c.replace_next-replaced.ensures.replaced.next c.replace_next-replaced.ensures.replaced.passed c.replace_next-replaced.result.1 c.replace_next-replaced.ensures.next c.if-is_some.ensures c.terminate-node.new.self c.terminate-node.ensures.gone).answer

pub returns-in_err-word-clause-whole : goal.returns-in_err-word-clause-whole
returns-in_err-word-clause-whole c = λ opening steps own w h.
    subst (λ r. LeadsWhole opening steps own w (CoreCall (Finish c.args.tx.0)) r c.args.self.now) (came_refused c.from_residual.result c.in_err-word.field-0.0 c.from_residual.ensures.1)
    (finish_refused_whole opening steps own w c.args.self.now h c.args.tx.0 c.in_err-word.field-0.0
    (ap (λ (v : CoreData). why_not_finished (state_of v.table c.args.tx.0)) (sym c.self.view_is) ∙ c.in_err-word.ensures.err))

-- ---- as many versions
pub returns-then-is_some-clause-count : goal.returns-then-is_some-clause-count
returns-then-is_some-clause-count c =
    let f = c.self.inside in
    one_replaced_counts f.versions c.replace_next-replaced.new.versions f.table c.replace_next-replaced.new.table c.args.tx.0 c.in_ok-word.word c.replace_next-replaced.ensures.replaced ∙ ap version_count c.self.view_is

pub returns-clause-count : goal.returns-clause-count
returns-clause-count c =
    let f = c.self.inside in
    one_replaced_counts f.versions c.replace_next-replaced.new.versions f.table c.replace_next-replaced.new.table c.args.tx.0 c.in_ok-word.word c.replace_next-replaced.ensures.replaced ∙ ap version_count c.self.view_is
