use Rattle.std.proofs.Common.{◌≡◌, sym, ap, ◌∙◌}
use Rattle.mvo_txn.specs.Txns.{table_after_write}
use Rattle.mvo_deps.proofs.Changes.{write_same, on_err}
use Rattle.mvo_deps.proofs.registration.add_dependency.Goals as goal

pub returns-in-Some-clause-err : goal.returns-in-Some-clause-err
returns-in-Some-clause-err g c =
    on_err (c.add.new.self ≡ c.in-Some.node.now.dependencies)
    (table_after_write c.args.table.now c.args.tx.id.0 (record { dependencies = c.add.new.self; own = c.in-Some.node.now.own }) ≡ c.args.table.now)
    c.add.result c.add.ensures.err (λ same.
    ap (λ d. table_after_write c.args.table.now c.args.tx.id.0 (record { dependencies = d; own = c.in-Some.node.now.own })) same
    ∙ write_same c.args.table.now c.args.tx.id.0 c.in-Some.node.now (sym c.in-Some.ensures.value))
