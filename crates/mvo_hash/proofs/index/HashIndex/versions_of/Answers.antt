use Rattle.std.proofs.Common.{◌≡◌, ℕ, List, length, map, IfOk, sym, ap, ◌∙◌, subst}
use Rattle.mvo_chain.specs.declared.version.VersionNo.{VersionNo}
use Rattle.mvo_hash.specs.Lists.{Index, numbers_of}
use Rattle.mvo_hash.specs.Links.{number_or_none, walk, numbers}
use Rattle.mvo_hash.proofs.Views.{numbers_shown}
use Rattle.mvo_hash.proofs.index.HashIndex.versions_of.Goals as goal

pub returns : goal.returns
returns c =
    let heads = c.self.inside.heads.numbers in
    let ls = c.self.inside.links in
    subst (λ (ns : List ℕ). IfOk c.listed.result (λ versions. map (λ (v : VersionNo). v.0) versions.items ≡ ns))
    (ap (walk ls (length ls)) (c.or_none-newest.ensures ∙ ap number_or_none c.get.ensures)
    ∙ sym (numbers_shown heads ls (numbers heads ls) c.self.invariant c.args.key)
    ∙ ap (λ m. numbers_of m c.args.key) (ap (λ (i : Index). i.versions) c.self.view_is))
    c.listed.ensures
