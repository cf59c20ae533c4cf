use Rattle.std.proofs.Common.{sym, ap, ◌∙◌}
use Rattle.mvo_hash.specs.Lists.{Index, newest_of, numbers_of}
use Rattle.mvo_hash.proofs.Views.{shown_newest}
use Rattle.mvo_hash.proofs.index.HashIndex.newest.Goals as goal

pub returns-in-Some : goal.returns-in-Some
returns-in-Some c =
    sym c.in-Some.is ∙ c.get.ensures ∙ shown_newest c.self.inside.heads.numbers c.self.inside.links c.self.invariant c.args.key
    ∙ ap (λ m. newest_of (numbers_of m c.args.key)) (ap (λ (i : Index). i.versions) c.self.view_is)

pub returns-in-None : goal.returns-in-None
returns-in-None c =
    sym c.in-None.is ∙ c.get.ensures ∙ shown_newest c.self.inside.heads.numbers c.self.inside.links c.self.invariant c.args.key
    ∙ ap (λ m. newest_of (numbers_of m c.args.key)) (ap (λ (i : Index). i.versions) c.self.view_is)
