use Rattle.std.proofs.Common.{◌≡◌, ◌<◌, ◌++◌, ◌∷◌, [], sym, ap, ◌∙◌, ℕ, Bool, true, cond, Option, None, length, get_or, arith}
use Rattle.std.specs.Prelude.{slice_set, is_some}
use Rattle.std.specs.Vec.{vec_capacity, vec_len}
use Rattle.mvo_chain.specs.declared.version.Version.{Version}
use Rattle.mvo_chain.specs.Slots.{Slots, hole_count}
use Rattle.mvo_chain.proofs.Holes.{emptied, live_count}
use Rattle.mvo_chain.proofs.chains.Chains.take_out.Goals as goal

pub invariant_of-self : goal.invariant_of-self
invariant_of-self c =
    let live : is_some (get_or c.self.inside.slots c.args.number.0 None) ≡ true = ap (λ (s : Slots). is_some (get_or s c.args.number.0 None)) c.self.view_is ∙ c.requires in
    let fewer : hole_count c.self.inside.slots < length c.self.inside.slots = live_count c.self.inside.slots c.args.number.0 live in
    let spare : vec_len c.self.inside.holes < vec_capacity c.self.inside.holes = omega (arith, fewer, c.self.invariant.counted, c.self.invariant.roomy, c.self.inside.holes.ok.0) in
    let pushed = c.push.ensures.succeeds spare in
    emptied c.self.inside.slots _ c.self.inside.holes.items _ c.args.number (vec_capacity c.self.inside.holes) _
    c.push.ensures.capacity
    live
    (ap (λ (i : ℕ). slice_set c.self.inside.slots i None) (sym c.index.ensures) ∙ ap (λ (slot : Option Version). slice_set c.self.inside.slots c.index.result slot) (sym c.take.ensures.after))
    (sym (c.push.ensures.items ∙ ap (λ (b : Bool). cond b (c.self.inside.holes.items ++ c.args.number ∷ []) c.self.inside.holes.items) pushed))
    c.self.invariant
