use Rattle.std.proofs.Common.{subst}
use Rattle.mvo_disk.specs.Disk.{AllOf, IsHonest}
use Rattle.mvo_store.specs.Seen.{disk_of, mark_of}
use Rattle.mvo_engine_tests.proofs.Ends.{has_all}
use Rattle.mvo_engine_tests.proofs.tests.ending.ended.Goals as goal

pub returns : goal.returns
returns g c = λ now slots.
    let d = g.D.Disk in
    let is = c.into_disk.ensures in
    let image = d.content c.into_disk.result in
    let honest = subst (λ x. IsHonest (d.moment x)) is.end.disk_is now in
    let of : AllOf (d.may_leave (disk_of is.store.store)) image = subst (λ x. AllOf (d.may_leave x) image) is.end.disk_is (λ n. g.met.D.Disk.content_may_stay c.into_disk.result n) in
    let sent = is.end.audited.images honest slots image of in
    has_all g.L.Run.opening is.core (mark_of is.store.store) image is.end.legal sent.gives c.args.seen.items is.covers
