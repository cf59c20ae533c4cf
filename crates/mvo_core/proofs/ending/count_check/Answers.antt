use Rattle.std.proofs.Common.{◌≡◌, ℕ, Option, Some, sym, ap, ◌∙◌, subst}
use Rattle.std.specs.Option.{option_map}
use Rattle.mvo_txn.specs.Txns.{table_after_write}
use Rattle.mvo_core.specs.Data.{own_of}
use Rattle.mvo_core.specs.declared.kept_transaction.KeptTransaction.{KeptTransaction}
use Rattle.mvo_core.specs.Own.{done_in, own_check, is_last_check, checked_as}
use Rattle.mvo_core.specs.Keeping.{IsWritten, IsCounted}
use Rattle.mvo_core.specs.Checking.{entries_to_check}
use Rattle.mvo_core.proofs.Written.{written}
use Rattle.mvo_core.proofs.ending.count_check.Goals as goal

pub returns-clause-counted : goal.returns-clause-counted
returns-clause-counted c =
    let t = c.args.tx.id.0 in
    let table = c.args.table.now in
    let there : Some c.in-Some.node.now.own ≡ own_of table t = ap (option_map (λ n. n.own)) c.in-Some.ensures.value in
    let count = c.entries_to_check-count.ensures ∙ ap (entries_to_check (done_in c.args.works.now t)) there in
    subst (λ (n : ℕ). IsWritten table (table_after_write table t (record c.in-Some.node.now { own = c.count_check.new.self })) t (IsCounted n)) count
    (written table t c.in-Some.node.now c.count_check.new.self (IsCounted c.entries_to_check-count.result) c.in-Some.ensures.value c.count_check.ensures.counted)

pub returns-clause-answer : goal.returns-clause-answer
returns-clause-answer c =
    let t = c.args.tx.id.0 in
    let own = c.in-Some.node.now.own in
    let there : Some own ≡ own_of c.args.table.now t = ap (option_map (λ n. n.own)) c.in-Some.ensures.value in
    c.count_check.ensures.answer
    ∙ ap (λ (n : ℕ). checked_as (is_last_check n own)) c.entries_to_check-count.ensures
    ∙ ap (λ (o : Option KeptTransaction). own_check (entries_to_check (done_in c.args.works.now t) o) o) there
