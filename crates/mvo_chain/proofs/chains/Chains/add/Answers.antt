use Rattle.std.proofs.Common.{◌≡◌, ◌∙◌, sym, ap, arith, Some, ◌++◌, ◌∷◌, []}
use Rattle.std.proofs.lemmas.Bool.{eqb-true}
use Rattle.std.specs.Vec.{vec_len}
use Rattle.mvo_chain.specs.declared.version.Version.{Version}
use Rattle.mvo_chain.specs.Slots.{Slots, hole_count}
use Rattle.mvo_chain.proofs.Holes.{pushed}
use Rattle.mvo_chain.proofs.chains.Chains.add.Goals as goal

pub returns-clause-ok : goal.returns-clause-ok
returns-clause-ok c =
    let none : vec_len c.self.inside.holes ≡ 0 = eqb-true (vec_len c.self.inside.holes) 0 (sym c.is_empty.ensures ∙ c.if-not-is_empty.false) in
    let full : hole_count c.args.self.now ≡ 0 = sym (ap (λ (s : Slots). hole_count s) c.self.view_is) ∙ omega (arith, none, c.self.invariant.counted, c.self.inside.holes.ok.0) in
    pushed c.self.inside.slots c.push.new.self c.args.self.now c.len-count.result _ c.self.view_is full
    (omega (arith, c.len-count.ensures))
    (c.in_ok-push.ensures.ok ∙ ap (λ (v : Version). c.self.inside.slots ++ Some v ∷ []) c.added.ensures)
