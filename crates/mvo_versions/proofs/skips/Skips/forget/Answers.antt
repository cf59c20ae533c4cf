use Rattle.std.proofs.Common.{◌<◌, ◌/◌, length, sym, ap, ◌∙◌, subst}
use Rattle.std.specs.Prelude.{slice_set}
use Rattle.mvo_versions.specs.Skips.{IsForgotten}
use Rattle.mvo_versions.proofs.Posts.{emptied}
use Rattle.mvo_versions.proofs.skips.Skips.forget.Goals as goal

pub returns : goal.returns
returns c =
    let ps = c.args.self.now in
    let inside : c.place_of-at.result < length c.self.inside.posts = subst (λ l. c.place_of-at.result < l) c.len.ensures c.if-at-len.false in
    let within : c.args.number.0 / 128 < length ps = subst (λ xs. c.args.number.0 / 128 < length xs) c.self.view_is (subst (λ i. i < length c.self.inside.posts) c.place_of-at.ensures inside) in
    subst (λ new. IsForgotten ps new c.args.number.0) (sym (c.set.ensures ∙ ap (λ i. slice_set ps i c.empty.result) c.place_of-at.ensures)) (emptied ps c.args.number.0 c.empty.result c.empty.ensures within)
