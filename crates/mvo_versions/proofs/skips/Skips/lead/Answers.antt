use Rattle.std.proofs.Common.{◌≡◌, ◌<◌, ◌/◌, Some, length, refl, sym, ap, ◌∙◌, subst}
use Rattle.std.specs.Prelude.{slice_set}
use Rattle.mvo_versions.specs.Skips.{post_at, IsNoted}
use Rattle.mvo_versions.proofs.Posts.{said, said_there, agreed_to, post_within}
use Rattle.mvo_versions.proofs.skips.Skips.lead.Goals as goal

pub returns-in_default-post : goal.returns-in_default-post
returns-in_default-post c =
    let ps = c.args.self.now in
    let n = c.args.number.0 in
    let there = sym c.post.ensures ∙ c.in-Some.is in
    subst (λ new. IsNoted ps new n c.args.skip) (sym (c.set.ensures ∙ ap (λ i. slice_set ps i (record { least = c.args.skip.least; to = c.args.skip.to; from = c.in-Some.first.from })) c.place_of.ensures))
    (said ps n c.in-Some.first c.args.skip there (post_within ps n c.in-Some.first there))

pub set-requires-2 : goal.set-requires-2
set-requires-2 c =
    subst (λ i. i < length c.set.new.self) (sym c.place_of-2.ensures) (post_within c.set.new.self c.args.skip.to.0 c.in-Some-post.last (sym c.post-2.ensures ∙ c.in-Some-post.is))

pub returns : goal.returns
returns c =
    let ps = c.args.self.now in
    let n = c.args.number.0 in
    let first = c.in-Some.first in
    let last = c.in-Some-post.last in
    let mid = c.set.new.self in
    let there = sym c.post.ensures ∙ c.in-Some.is in
    let within = post_within ps n first there in
    let is_mid : mid ≡ slice_set ps (n / 128) (record { least = c.args.skip.least; to = c.args.skip.to; from = first.from }) = c.set.ensures ∙ ap (λ i. slice_set ps i (record { least = c.args.skip.least; to = c.args.skip.to; from = first.from })) c.place_of.ensures in
    let there-2 = sym c.post-2.ensures ∙ c.in-Some-post.is in
    subst (λ new. IsNoted ps new n c.args.skip) (sym (c.set-2.ensures ∙ ap (λ i. slice_set mid i (record { least = last.least; to = last.to; from = c.args.number })) c.place_of-2.ensures))
    (agreed_to mid n last c.args.skip c.args.number there-2 (post_within mid c.args.skip.to.0 last there-2) refl
    (λ q e. said_there ps n first c.args.skip within q (subst (λ xs. post_at xs n ≡ Some q) is_mid e))
    ps (subst (λ new. IsNoted ps new n c.args.skip) (sym is_mid) (said ps n first c.args.skip there within)))
