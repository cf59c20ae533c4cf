use Rattle.std.proofs.Common.{◌≡◌, map, List, length, drop, refl, sym, ap, ◌∙◌, subst}
use Rattle.std.specs.Option.{option_map}
use Rattle.std.specs.Iterator.{YieldsFirst}
use Rattle.mvo_chain.specs.declared.version.VersionNo.{VersionNo}
use Rattle.mvo_hash.specs.declared.link.Link.{Link}
use Rattle.mvo_hash.specs.Lists.{number}
use Rattle.mvo_hash.specs.Links.{link, walk, some_unless_none, to_come, IsWalk}
use Rattle.mvo_hash.proofs.Views.{link_read}
use Rattle.mvo_hash.proofs.Walking.{steps, first_shown, behind_last, goes_first}
use Rattle.mvo_hash.proofs.version_walk.VersionWalkIterator.next.Goals as goal

read : (c : goal.After-shown-2) → c.index.result.now ≡ link c.self.inside.links.now c.self.inside.at
read c =
    let ls = c.self.inside.links.now in
    let s = steps ls c.self.inside.at c.self.invariant c.if-self.false in
    link_read ls c.self.inside.at c.self.inside.at c.index.result.now refl s.within c.index.ensures

older : (c : goal.After-shown-2) → IsWalk c.self.inside.links.now c.index.result.now.older
older c =
    let ls = c.self.inside.links.now in
    let s = steps ls c.self.inside.at c.self.invariant c.if-self.false in
    subst (λ (l : Link). IsWalk ls l.older) (sym (read c)) s.next

pub invariant_of-self-2 : goal.invariant_of-self-2
invariant_of-self-2 c = older c

pub returns-clause-steps : goal.returns-clause-steps
returns-clause-steps c =
    let ls = c.self.inside.links.now in
    let next = c.index.result.now.older in
    let came : c.args.self.now ≡ map number (walk ls (length ls) next) =
    sym c.self.view_is ∙ ap (λ b. map number (to_come ls c.self.inside.at b)) c.if-not-self.false
    ∙ ap (map number) (behind_last ls c.self.inside.at c.self.invariant c.if-self.false ∙ ap (λ (l : Link). walk ls (length ls) l.older) (sym (read c))) in
    let first : YieldsFirst (λ (rest : List VersionNo). rest) c.args.self.now (option_map number (some_unless_none next)) (map number (drop 1 (walk ls (length ls) next))) =
    subst (λ (w : List VersionNo). YieldsFirst (λ (rest : List VersionNo). rest) w (option_map number (some_unless_none next)) (map number (drop 1 (walk ls (length ls) next)))) (sym came) (first_shown ls next (older c)) in
    let shown : YieldsFirst (λ (rest : List VersionNo). rest) c.args.self.now c.shown-2.result (map number (drop 1 (walk ls (length ls) next))) =
    subst (λ r. YieldsFirst (λ (rest : List VersionNo). rest) c.args.self.now r (map number (drop 1 (walk ls (length ls) next)))) (sym c.shown-2.ensures) first in
    subst (λ b. YieldsFirst (λ (rest : List VersionNo). rest) c.args.self.now c.shown-2.result (map number (to_come ls next b))) (sym c.if-not-self.false) shown

pub returns-clause-goes : goal.returns-clause-goes
returns-clause-goes c = goes_first _ (λ _. tt) _ _ _ (returns-clause-steps c)
