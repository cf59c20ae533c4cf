use Rattle.std.proofs.Common.{◌≡◌, true, sym, ap, subst, ◌∙◌}
use Rattle.mvo_deps.specs.Data.{is_id_among, with_dependency, with_dependent, without_last_dependent}
use Rattle.mvo_deps.specs.Graph.{IsDependencyGraph}
use Rattle.mvo_deps.specs.Nodes.{after_change, data_of}
use Rattle.mvo_deps.proofs.Changes.{change_taken_back, dependent_taken_back}
use Rattle.mvo_deps.proofs.Registered.{kept_noted, among_noted}
use Rattle.mvo_deps.proofs.registration.register.Goals as goal

pub returns-in-Err-clause-err : goal.returns-in-Err-clause-err
returns-in-Err-clause-err g c =
    c.drop_last_dependent.ensures
    ∙ ap (λ t. after_change t c.args.on.0 without_last_dependent) (c.in-Err.ensures.err ∙ c.in_ok-add_dependent.ensures.ok)
    ∙ change_taken_back c.args.table.now c.args.on.0 (with_dependent c.args.tx.id) without_last_dependent (dependent_taken_back c.args.tx.id)

pub returns-in-Err-clause-graph : goal.returns-in-Err-clause-graph
returns-in-Err-clause-graph g c = λ aborted there prep h. subst (λ t. IsDependencyGraph t aborted) (sym (returns-in-Err-clause-err g c)) h

pub returns-clause-graph : goal.returns-clause-graph
returns-clause-graph g c = λ aborted there prep h.
    subst (λ t. IsDependencyGraph t aborted) (sym (c.in_default.ensures.ok ∙ ap (λ t. after_change t c.args.tx.id.0 (with_dependency c.args.on)) c.in_ok-add_dependent.ensures.ok))
    (kept_noted c.args.table.now aborted c.args.tx.id c.args.on there prep (sym c.if-depends_on.ensures) (sym c.if-has_dependent.ensures) h)

pub returns-clause-depends : goal.returns-clause-depends
returns-clause-depends g c = λ aborted there prep h.
    subst (λ t. is_id_among c.args.on (data_of t c.args.tx.id).on ≡ true) (sym (c.in_default.ensures.ok ∙ ap (λ t. after_change t c.args.tx.id.0 (with_dependency c.args.on)) c.in_ok-add_dependent.ensures.ok))
    (among_noted c.args.table.now c.args.tx.id c.args.on there prep)
