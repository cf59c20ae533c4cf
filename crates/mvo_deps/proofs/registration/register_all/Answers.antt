use Rattle.std.proofs.Common.{take, slice_index_or, sym, ap, subst, ◌∙◌}
use Rattle.std.proofs.lemmas.List.{take_more, take_all}
use Rattle.mvo_types.specs.declared.ids.TxId.{TxId}
use Rattle.mvo_deps.specs.Nodes.{after_register, after_register_all}
use Rattle.mvo_deps.specs.Graph.{IsDependencyGraph}
use Rattle.mvo_deps.proofs.Grown.{registered_grows, register_all-append, kept_registered_all}
use Rattle.mvo_deps.proofs.registration.register_all.Goals as goal

pub returns-in-Err-clause-err : goal.returns-in-Err-clause-err
returns-in-Err-clause-err g c =
    let m = c.loop-id.invariant.noted in
    c.take_back.ensures c.args.table.now (record { there = m.there; counted = sym c.dependency_count-count.ensures; noted = m.noted; is = c.in-Err.ensures.err ∙ m.is })

pub returns-in-Err-clause-graph : goal.returns-in-Err-clause-graph
returns-in-Err-clause-graph g c = λ aborted there prep h. subst (λ t. IsDependencyGraph t aborted) (sym (returns-in-Err-clause-err g c)) h

pub loop-id-preserved : goal.loop-id-preserved
loop-id-preserved g c =
    let m = c.loop-id.invariant.noted in
    let id : TxId = slice_index_or c.args.on.now c.loop-id.id-index (record { 0 = 0 }) in
    let more = registered_grows c.args.table.now c.loop-id.table c.args.tx.id id m.noted m.is in
    record {
      done = c.in_default.ensures.ok
          ∙ ap (λ t. after_register t c.args.tx.id id) c.loop-id.invariant.done
          ∙ sym (register_all-append c.args.table.now c.args.tx.id id (take c.loop-id.id-index c.args.on.now))
          ∙ ap (after_register_all c.args.table.now c.args.tx.id) (sym (take_more c.args.on.now c.loop-id.id-index (record { 0 = 0 }) c.loop-id-test.true));
      noted = record { there = m.there; counted = m.counted; noted = more.0; is = c.in_default.ensures.ok ∙ more.1 };
    }

pub returns-clause-graph : goal.returns-clause-graph
returns-clause-graph g c = λ aborted there prep h.
    subst (λ t. IsDependencyGraph t aborted)
    (sym (c.loop-id.invariant.done ∙ ap (after_register_all c.args.table.now c.args.tx.id) (take_all c.loop-id.id-index c.args.on.now c.loop-id-test.false)))
    (kept_registered_all c.args.table.now aborted c.args.tx.id c.args.on.now there prep h)
