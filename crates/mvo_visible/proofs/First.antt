-- What the first version tells by its words alone.
use Rattle.std.proofs.Common.{◌≡◌, ℕ, List, [], ◌∷◌, None, Some, ap, sym, ◌∙◌, subst}
use Rattle.mvo_types.specs.declared.ids.Stamp.{Stamp}
use Rattle.mvo_chain.specs.declared.version.Version.{Version}
use Rattle.mvo_chain.specs.declared.version.VersionNo.{VersionNo}
use Rattle.mvo_chain.specs.Slots.{Slots, version_at}
use Rattle.mvo_hash.specs.Lists.{foremost}
use Rattle.mvo_visible.specs.declared.walked.Walked.{Walked}
use Rattle.mvo_visible.specs.Words.{States}
use Rattle.mvo_visible.specs.Versions.{NumberedVersion, versions_by, and_version}
use Rattle.mvo_visible.specs.Shown.{own_or, shown_to, AreVersionsInOrder, IsShownToAll}
use Rattle.mvo_visible.specs.Walked.{walked_over, settled_put}
use Rattle.mvo_visible.proofs.Walks.{walked_more, walked_stop, falling_at, own_first}
use Rattle.mvo_visible.proofs.Settled.{last_settled, walked_settled}

-- it is shown, whatever stands behind it
first_of_all : (states : States) (b r : ℕ) (n : VersionNo) (v : Version) (s : Stamp) (rest : List NumberedVersion) → settled_put b v ≡ Some s → AreVersionsInOrder states b r ((n, v) ∷ rest) → record { version = Some n; depends_on = None } ≡ shown_to states b r ((n, v) ∷ rest)
first_of_all states b r n v s rest put order =
    ap (λ (k : Walked). own_or k.own k.newest k.change)
    (sym (walked_settled states b r (walked_over states b r []) n v s put)
    ∙ sym (walked_more states b r [] (n, v))
    ∙ walked_stop states b r [] (n, v) rest (last_settled states b v s put) (falling_at states [] (n, v) rest order.falling) (own_first states b r [] (n, v) rest order.own))

pub shown_first : (b : ℕ) (slots : Slots) (ns : List VersionNo) (n : VersionNo) (v : Version) (s : Stamp) → foremost ns ≡ Some n → Some v ≡ version_at slots n → settled_put b v ≡ Some s → IsShownToAll b slots ns (record { version = Some n; depends_on = None })
shown_first b slots [] n v s first there put = cc
shown_first b slots (m ∷ ms) n v s first there put = λ states r order.
    let same : m ≡ n = cc in
    let split : versions_by slots (m ∷ ms) ≡ (n, v) ∷ versions_by slots ms =
    ap (λ k. and_version k (version_at slots k) (versions_by slots ms)) same ∙ ap (λ o. and_version n o (versions_by slots ms)) (sym there) in
    first_of_all states b r n v s (versions_by slots ms) put (subst (AreVersionsInOrder states b r) split order)
    ∙ ap (shown_to states b r) (sym split)
