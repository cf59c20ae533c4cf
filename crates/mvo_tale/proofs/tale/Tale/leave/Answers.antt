use Rattle.std.proofs.Common.{◌≡◌, ℕ, ◌-◌, List, length, sym, ap, ◌∙◌, subst, arith}
use Rattle.std.specs.Prelude.{slice_set, IsSome}
use Rattle.std.proofs.Math.ListN.{length-set}
use Rattle.mvo_tale.specs.declared.tale_place.TalePlace.{TalePlace}
use Rattle.mvo_tale.specs.declared.tale_place.TalePlace.TheVariants.{Empty}
use Rattle.mvo_tale.specs.Slots.{AreRising, ends, pending_end_at, closed_up}
use Rattle.mvo_tale.specs.Forgetting.{behind_gone}
use Rattle.mvo_tale.proofs.Rising.{rising_emptied}
use Rattle.mvo_tale.proofs.Gone.{pending_after, pending_there, set_gone, gone_more, closed_gone, ends_gone, ends_closed}
use Rattle.mvo_tale.proofs.tale.Tale.leave.Goals as goal

is_pending : (xs ys : List TalePlace) (p : ℕ) → xs ≡ ys → IsSome (pending_end_at ys p) → IsSome (pending_end_at xs p)
is_pending xs ys p i h = subst (λ (zs : List TalePlace). IsSome (pending_end_at zs p)) (sym i) h

pub overflow_sub-place : goal.overflow_sub-place
overflow_sub-place c =
    let g = c.self.inside.gone in
    let xs = c.self.inside.slots.items in
    pending_after g c.args.place xs (is_pending (behind_gone g xs) c.args.self.now c.args.place c.self.view_is c.requires)

pub set-requires : goal.set-requires
set-requires c =
    let g = c.self.inside.gone in
    let xs = c.self.inside.slots.items in
    let lt = pending_there g c.args.place xs (is_pending (behind_gone g xs) c.args.self.now c.args.place c.self.view_is c.requires) in
    omega arith

pub invariant_of-self : goal.invariant_of-self
invariant_of-self c =
    let g = c.self.inside.gone in
    let xs = c.self.inside.slots.items in
    let k = c.drop_back-gone.result in
    let ys = c.drop_back-gone.new.slots.items in
    let emptied = slice_set xs (c.args.place - g) Empty in
    let items = ap (λ q. q.items) c.set.ensures in
    let same = sym (ends_gone k ys) ∙ ap ends c.drop_back-gone.ensures.same ∙ ap (λ (zs : List TalePlace). ends (closed_up zs)) items ∙ ends_closed emptied in
    let few = c.drop_back-gone.ensures.few in
    let len : length c.set.new.self.items ≡ length xs = ap length items ∙ length-set xs (c.args.place - g) Empty in
    let below = c.self.invariant.1 in
    (subst AreRising (sym same) (rising_emptied xs (c.args.place - g) c.self.invariant.0), omega arith)

pub returns : goal.returns
returns c =
    let g = c.self.inside.gone in
    let xs = c.self.inside.slots.items in
    let k = c.drop_back-gone.result in
    let ys = c.drop_back-gone.new.slots.items in
    let emptied = slice_set xs (c.args.place - g) Empty in
    let le = pending_after g c.args.place xs (is_pending (behind_gone g xs) c.args.self.now c.args.place c.self.view_is c.requires) in
    sym (gone_more g k ys)
    ∙ ap (behind_gone g) (c.drop_back-gone.ensures.same ∙ ap (λ q. closed_up q.items) c.set.ensures)
    ∙ closed_gone g emptied
    ∙ ap closed_up (set_gone g c.args.place Empty xs le
    ∙ ap (λ (zs : List TalePlace). slice_set zs c.args.place Empty) c.self.view_is)
