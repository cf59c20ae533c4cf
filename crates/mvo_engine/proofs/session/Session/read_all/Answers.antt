use Rattle.std.proofs.Common.{◌<◌, ◌≤◌, length, arith, refl, sym, ap, subst}
use Rattle.mvo_engine.specs.Reads.{AreReadUpTo}
use Rattle.mvo_engine.specs.States.{SessionState}
use Rattle.mvo_engine.specs.declared.session.reading_all.TheConstants.{READ_AT_ONCE}
use Rattle.mvo_engine.proofs.ReadingMany.{many_so, gone_so, read_so, cut_so}
use Rattle.mvo_engine.proofs.session.Session.read_all.Goals as goal

pub returns-then-keys-gt-READ_AT_ONCE-clause-err : goal.returns-then-keys-gt-READ_AT_ONCE-clause-err
returns-then-keys-gt-READ_AT_ONCE-clause-err g c =
    let many : READ_AT_ONCE < length c.args.keys.now = grind arith in
    many_so c.args.keys.now c.args.self.now c.in-Some.tx c.self.inside.tx c.in-Some.is (sym (ap (λ (s : SessionState). s.tx) c.self.view_is)) many

pub returns-in_default-read_each-clause-err : goal.returns-in_default-read_each-clause-err
returns-in_default-read_each-clause-err g c =
    let few : length c.args.keys.now ≤ READ_AT_ONCE = grind arith in
    gone_so c.args.keys.now c.args.self.now c.leave.new.self c.in-Some.tx c.self.inside.tx _ c.in-Some.is (sym (ap (λ (s : SessionState). s.tx) c.self.view_is)) few c.leave.ensures.gone c.leave.ensures.session

pub returns-in_default-keep_each-clause-err : goal.returns-in_default-keep_each-clause-err
returns-in_default-keep_each-clause-err g c =
    let few : length c.args.keys.now ≤ READ_AT_ONCE = grind arith in
    let left = c.leave-in_default-keep_each in
    rw (← c.self.view_is)
    (gone_so c.args.keys.now _ left.new.self c.in-Some.tx c.self.inside.tx _ c.in-Some.is refl few left.ensures.gone left.ensures.session)

pub returns-in-Some-stop-clause-err : goal.returns-in-Some-stop-clause-err
returns-in-Some-stop-clause-err g c =
    let few : length c.args.keys.now ≤ READ_AT_ONCE = grind arith in
    let reads = c.read_each.new.reads.items in
    let refused = subst (AreReadUpTo g.L.Run.opening c.in-Some.tx.0 c.args.keys.now reads) c.in-Some-stop.is c.in-Ok.ensures.upto in
    rw (← c.self.view_is)
    (cut_so c.args.keys.now _ c.end_by.new.self c.in-Some.tx c.self.inside.tx reads c.in-Some-stop.refusal _ c.in-Some.is refl few c.read_each.ensures.answered refused c.in-Ok-keep_each.ensures.told c.end_by.ensures.session c.end_by.ensures.left)

pub returns-in-None-clause-ok : goal.returns-in-None-clause-ok
returns-in-None-clause-ok g c =
    let few : length c.args.keys.now ≤ READ_AT_ONCE = grind arith in
    let reads = c.read_each.new.reads.items in
    let all = subst (AreReadUpTo g.L.Run.opening c.in-Some.tx.0 c.args.keys.now reads) c.in-None.is c.in-Ok.ensures.upto in
    rw (← c.self.view_is)
    (read_so c.args.keys.now _ _ c.in-Some.tx c.self.inside.tx reads _ _ c.in-Some.is refl few c.read_each.ensures.answered c.read_each.ensures.finding all c.in-Ok-keep_each.ensures.rows c.in-Ok-keep_each.ensures.told refl)
