use Rattle.mvo_engine.proofs.Transacting.{begun_so, not_worked, gave_up, not_committed}
use Rattle.mvo_engine.proofs.session.Session.attempt.Goals as goal

pub returns-in-Err-run : goal.returns-in-Err-run
returns-in-Err-run g c =
    let b = c.in-Ok.ensures in
    let begins = begun_so c.args.self.now c.begin_tx.new.self c.in-Ok.field-0 c.requires b.begun b.told b.above b.forgets b.rest in
    not_worked _ c.args.self.now c.begin_tx.new.self c.run.new.session c.refused.new.self c.in-Err-run.refusal c.refused.result begins c.in-Err-run.ensures.comes c.in-Err-run.ensures.receipts c.refused.ensures.gone c.refused.ensures.same c.refused.ensures.session

pub returns-in-GiveUp : goal.returns-in-GiveUp
returns-in-GiveUp g c =
    let b = c.in-Ok.ensures in
    let begins = begun_so c.args.self.now c.begin_tx.new.self c.in-Ok.field-0 c.requires b.begun b.told b.above b.forgets b.rest in
    let u = c.given_up in
    gave_up _ c.args.self.now c.begin_tx.new.self c.run.new.session u.new.self c.in-GiveUp.told c.in-Ok-run.outcome u.result c.in-GiveUp.is begins c.in-Ok-run.ensures.comes c.in-Ok-run.ensures.receipts u.ensures.told u.ensures.end u.ensures.gone u.ensures.session

pub returns-in-Err-commit_tx : goal.returns-in-Err-commit_tx
returns-in-Err-commit_tx g c =
    let b = c.in-Ok.ensures in
    let begins = begun_so c.args.self.now c.begin_tx.new.self c.in-Ok.field-0 c.requires b.begun b.told b.above b.forgets b.rest in
    let u = c.refused-in-Err-commit_tx in
    not_committed _ c.args.self.now c.begin_tx.new.self c.run.new.session c.commit_tx.new.self u.new.self c.in-Commit.told c.in-Ok-run.outcome c.in-Err-commit_tx.refusal u.result c.in-Commit.is begins c.in-Ok-run.ensures.comes c.in-Ok-run.ensures.receipts c.in-Err-commit_tx.ensures.err c.in-Err-commit_tx.ensures.committed u.ensures.same u.ensures.session
