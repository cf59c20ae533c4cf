use Rattle.std.proofs.Common.{◌≡◌, ap, subst, ◌∙◌}
use Rattle.mvo_disk.specs.Disk.{AllOf, IsHonest}
use Rattle.mvo_store.specs.Seen.{disk_of, mark_of}
use Rattle.mvo_engine.specs.Opening.{WasFormatted}
use Rattle.mvo_engine.specs.Sound.{GivesReceived, LeavesReceived}
use Rattle.mvo_engine.specs.States.{StoreState}
use Rattle.mvo_engine.proofs.engine.shut_down.Goals as goal

pub returns : goal.returns
returns g c =
    let d = g.D.Disk in
    let o = g.L.Run.opening in
    let disk = c.into_disk.result in
    let e = c.into_disk.ensures in
    let same = c.audit.ensures.store in
    let is : disk ≡ disk_of c.args.store.store = e.disk ∙ ap (λ (s : StoreState g.row.D.Denot). disk_of s.store) same in
    let leaves : LeavesReceived d o c.args.store.received c.args.store.store = subst (λ (s : StoreState g.row.D.Denot). LeavesReceived d o s.received s.store) same e.images in
    record {
      legal = c.clock.ensures.legal;
      audited = c.audit.ensures.audited;
      disk_is = is;
      gives = subst (λ (s : StoreState g.row.D.Denot). IsHonest (d.moment disk) → WasFormatted o → GivesReceived o s.received (mark_of s.store) (d.content disk)) same e.gives;
      images = λ now slots image of. leaves.images (subst (λ x. IsHonest (d.moment x)) is now) slots image (subst (λ x. AllOf (d.may_leave x) image) is of);
    }
