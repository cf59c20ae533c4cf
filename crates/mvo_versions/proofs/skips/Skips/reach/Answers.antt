use Rattle.std.proofs.Common.{[], ◌∷◌, ◌++◌, sym, subst}
use Rattle.mvo_versions.specs.Skips.{HasNoMore}
use Rattle.mvo_versions.proofs.Posts.{grown, still_no_more}
use Rattle.mvo_versions.proofs.skips.Skips.reach.Goals as goal

pub loop-self-preserved : goal.loop-self-preserved
loop-self-preserved c =
    let old = c.self.inside.posts in
    let posts = c.loop-self.self-inside.posts in
    subst (HasNoMore old) (sym c.in_ok-push.ensures.ok) (still_no_more old posts (posts ++ c.empty.result ∷ []) c.loop-self.invariant (grown posts c.empty.result c.empty.ensures))
