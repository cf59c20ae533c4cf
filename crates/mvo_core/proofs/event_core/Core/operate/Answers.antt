use Rattle.mvo_core.proofs.event_core.Core.operate.Goals as goal

pub returns-in-Read-clause-step : goal.returns-in-Read-clause-step
returns-in-Read-clause-step c = rw c.in-Read.is c.read.ensures.step

pub returns-in-Scan-clause-step : goal.returns-in-Scan-clause-step
returns-in-Scan-clause-step c = rw c.in-Scan.is c.scan.ensures.step

pub returns-in-Insert-clause-step : goal.returns-in-Insert-clause-step
returns-in-Insert-clause-step c = rw c.in-Insert.is c.insert.ensures.step

pub returns-in-Update-clause-step : goal.returns-in-Update-clause-step
returns-in-Update-clause-step c = rw c.in-Update.is c.update.ensures.step

pub returns-in-Delete-clause-step : goal.returns-in-Delete-clause-step
returns-in-Delete-clause-step c = rw c.in-Delete.is c.delete.ensures.step

pub returns-in-Read-clause-whole : goal.returns-in-Read-clause-whole
returns-in-Read-clause-whole c = rw c.in-Read.is c.read.ensures.whole

pub returns-in-Scan-clause-whole : goal.returns-in-Scan-clause-whole
returns-in-Scan-clause-whole c = rw c.in-Scan.is c.scan.ensures.whole

pub returns-in-Insert-clause-whole : goal.returns-in-Insert-clause-whole
returns-in-Insert-clause-whole c = rw c.in-Insert.is c.insert.ensures.whole

pub returns-in-Update-clause-whole : goal.returns-in-Update-clause-whole
returns-in-Update-clause-whole c = rw c.in-Update.is c.update.ensures.whole

pub returns-in-Delete-clause-whole : goal.returns-in-Delete-clause-whole
returns-in-Delete-clause-whole c = rw c.in-Delete.is c.delete.ensures.whole
