use Rattle.std.proofs.Common.{◌≡◌, ℕ, ◌-◌, List, Some, length, sym, ap, ◌∙◌, subst, arith}
use Rattle.std.specs.Prelude.{is_some, slice_set}
use Rattle.std.proofs.Math.ListN.{length-set}
use Rattle.mvo_tale.specs.declared.tale_place.TalePlace.{TalePlace}
use Rattle.mvo_tale.specs.declared.tale_place.TalePlace.TheVariants.{Settled}
use Rattle.mvo_tale.specs.Slots.{AreRising, ends, pending_end_at}
use Rattle.mvo_tale.specs.Forgetting.{behind_gone}
use Rattle.mvo_tale.proofs.Rising.{ends_settled}
use Rattle.mvo_tale.proofs.Gone.{pending_after, pending_moved, pending_there, set_gone}
use Rattle.mvo_tale.proofs.tale.Tale.settle.Goals as goal

is_pending : (xs ys : List TalePlace) (p e : ℕ) → xs ≡ ys → pending_end_at ys p ≡ Some e → pending_end_at xs p ≡ Some e
is_pending xs ys p e i h = ap (λ (zs : List TalePlace). pending_end_at zs p) i ∙ h

pub overflow_sub-place : goal.overflow_sub-place
overflow_sub-place c =
    let g = c.self.inside.gone in
    let xs = c.self.inside.slots.items in
    pending_after g c.args.place xs (ap is_some (is_pending (behind_gone g xs) c.args.self.now c.args.place c.args.entry.end c.self.view_is c.requires))

pub set-requires : goal.set-requires
set-requires c =
    let g = c.self.inside.gone in
    let xs = c.self.inside.slots.items in
    let lt = pending_there g c.args.place xs (ap is_some (is_pending (behind_gone g xs) c.args.self.now c.args.place c.args.entry.end c.self.view_is c.requires)) in
    omega arith

pub invariant_of-self : goal.invariant_of-self
invariant_of-self c =
    let g = c.self.inside.gone in
    let xs = c.self.inside.slots.items in
    let h = is_pending (behind_gone g xs) c.args.self.now c.args.place c.args.entry.end c.self.view_is c.requires in
    let le = pending_after g c.args.place xs (ap is_some h) in
    let there = sym (pending_moved g c.args.place xs le) ∙ h in
    let items = ap (λ q. q.items) c.set.ensures in
    let len : length c.set.new.self.items ≡ length xs = ap length items ∙ length-set xs (c.args.place - g) (Settled c.args.entry) in
    let below = c.self.invariant.1 in
    (subst AreRising (sym (ap ends items ∙ ends_settled xs (c.args.place - g) c.args.entry there)) c.self.invariant.0, omega arith)

pub returns : goal.returns
returns c =
    let g = c.self.inside.gone in
    let xs = c.self.inside.slots.items in
    let h = is_pending (behind_gone g xs) c.args.self.now c.args.place c.args.entry.end c.self.view_is c.requires in
    let le = pending_after g c.args.place xs (ap is_some h) in
    ap (λ q. behind_gone g q.items) c.set.ensures
    ∙ set_gone g c.args.place (Settled c.args.entry) xs le
    ∙ ap (λ (zs : List TalePlace). slice_set zs c.args.place (Settled c.args.entry)) c.self.view_is
