use Rattle.mvo_store.proofs.jobs.step_files.write_install.Goals as goal

pub returns-in-Close : goal.returns-in-Close
returns-in-Close g c = rw c.in-Close.is c.close_other.ensures

pub returns-in-Body : goal.returns-in-Body
returns-in-Body g c = rw c.in-Body.is c.write_other.ensures

pub returns-in-Open : goal.returns-in-Open
returns-in-Open g c = rw c.in-Open.is c.open_other.ensures
