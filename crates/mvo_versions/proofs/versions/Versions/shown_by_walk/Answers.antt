use Rattle.std.proofs.Common.{◌≡◌, subst}
use Rattle.mvo_txn.specs.Txns.{state_of}
use Rattle.mvo_visible.specs.Versions.{versions_at, versions_by}
use Rattle.mvo_visible.specs.Shown.{AreVersionsInOrder, shown_to}
use Rattle.mvo_versions.specs.Data.{VersionsData}
use Rattle.mvo_versions.proofs.Past.{shown_past}
use Rattle.mvo_versions.proofs.versions.Versions.shown_by_walk.Goals as goal

pub returns : goal.returns
returns g c =
    let states = state_of c.args.table.now in
    let r = c.args.reader.0 in
    let walk = c.walk_past-walk.result in
    let now = c.self.inside.indexed in
    subst (λ (v : VersionsData). AreVersionsInOrder states r r (versions_at v.slots v.lists c.args.key) → c.shown_on.result ≡ shown_to states r r (versions_at v.slots v.lists c.args.key)) c.self.view_is
    (shown_past states r now.slots now.lists c.args.key walk c.shown_on.result c.walk_past-walk.ensures
    (subst (λ ss. AreVersionsInOrder states r r (versions_by ss walk) → c.shown_on.result ≡ shown_to states r r (versions_by ss walk)) c.chains.ensures c.shown_on.ensures))
