use Rattle.std.proofs.Common.{length, map, sym, ap, ◌∙◌, subst}
use Rattle.mvo_hash.specs.Lists.{Index, number, numbers_of}
use Rattle.mvo_hash.specs.Links.{number_or_none, walk, numbers, IsWalk}
use Rattle.mvo_hash.proofs.Views.{numbers_shown}
use Rattle.mvo_hash.proofs.Walking.{index_walk}
use Rattle.mvo_hash.proofs.index.HashIndex.walk.Goals as goal

pub from-requires : goal.from-requires
from-requires c =
    let heads = c.self.inside.heads.numbers in
    let ls = c.self.inside.links in
    subst (λ n. IsWalk ls n) (sym (c.or_none.ensures ∙ ap number_or_none c.get.ensures)) (index_walk heads ls c.self.invariant c.args.key)

pub returns : goal.returns
returns c =
    let heads = c.self.inside.heads.numbers in
    let ls = c.self.inside.links in
    c.from.ensures
    ∙ ap (λ n. map number (walk ls (length ls) n)) (c.or_none.ensures ∙ ap number_or_none c.get.ensures)
    ∙ ap (map number) (sym (numbers_shown heads ls (numbers heads ls) c.self.invariant c.args.key))
    ∙ ap (λ m. map number (numbers_of m c.args.key)) (ap (λ (i : Index). i.versions) c.self.view_is)
