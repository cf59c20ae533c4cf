use Rattle.std.proofs.Common.{inl, subst}
use Rattle.mvo_recovery.specs.image.Opens.{Image}
use Rattle.mvo_load.proofs.Unchanged.{same_image, moments}
use Rattle.mvo_store.specs.Old.{KnowsOld}
use Rattle.mvo_store.proofs.opening.load_marked.Goals as goal

pub returns-in-Ok-find_old-clause-says : goal.returns-in-Ok-find_old-clause-says
returns-in-Ok-find_old-clause-says g c = λ honest. c.in-Ok.ensures.says (c.in-Ok-find_old.ensures.read.any_moment.later.honest honest)

pub returns-in-Ok-find_old-clause-marks : goal.returns-in-Ok-find_old-clause-marks
returns-in-Ok-find_old-clause-marks g c = λ honest.
    let same = same_image g.D.Disk c.args.disk.now c.load.new.disk c.in-Ok.ensures.rest.content in
    subst (λ (image : Image). KnowsOld image c.in-Ok.loaded.manifest 1024 c.in-Ok-find_old.marks.items) same (c.in-Ok-find_old.ensures.knows honest)

pub returns-in-Ok-find_old-clause-any_moment : goal.returns-in-Ok-find_old-clause-any_moment
returns-in-Ok-find_old-clause-any_moment g c =
    moments g.D.Disk c.args.disk.now c.load.new.disk c.find_old.new.disk c.in-Ok.ensures.rest c.in-Ok.ensures.any_moment c.in-Ok-find_old.ensures.read.any_moment

pub returns-in-Err-find_old-clause-says : goal.returns-in-Err-find_old-clause-says
returns-in-Err-find_old-clause-says g c = λ honest. inl c.in-Err-find_old.ensures.stopped

pub returns-in-Err-find_old-clause-any_moment : goal.returns-in-Err-find_old-clause-any_moment
returns-in-Err-find_old-clause-any_moment g c =
    moments g.D.Disk c.args.disk.now c.load.new.disk c.find_old.new.disk c.in-Ok.ensures.rest c.in-Ok.ensures.any_moment c.in-Err-find_old.ensures.read.any_moment
