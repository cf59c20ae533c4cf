use Rattle.std.proofs.Common.{refl, List, ℕ, length, ap, arith, Bool, IsTrue, subst}
use Rattle.mvo_store.specs.declared.install.install_step.InstallStep.TheVariants.{Body}
use Rattle.mvo_store.proofs.Written.{has_install, body_step}
use Rattle.mvo_store.proofs.jobs.step_files.write_other.Goals as goal

pub write_slot-requires-clause-some : goal.write_slot-requires-clause-some
write_slot-requires-clause-some g c = λ honest.
    let s = c.requires.stands honest in
    let shut = has_install g.D.Disk c.args.disk.now c.args.disk.now c.args.next.now _ refl s.0 s.1 Body s.2 s.3.0 s.3.1 in
    omega (arith, ap (λ (l : List ℕ). length l) shut.whole)

pub returns : goal.returns
returns g c = let e = c.write_slot.ensures in body_step g.D.Disk c.args.disk.now c.write_slot.new.disk c.args.next.now _ refl (λ h. subst (λ (b : Bool). IsTrue b) e.honest h) e.rest c.write_slot.result e.count e.refused e.left e.any_moment e.staged e.durable
