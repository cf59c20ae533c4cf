use Rattle.std.proofs.Common.{◌≡◌, ◌≤◌, ◌<◌, ℕ, sym, ap, ◌∙◌, subst, refl, arith, rules}
use mathlib.Core.Option.{none}
use Rattle.atomic_table.specs.Table.{step}
use Rattle.mvo_marks.proofs.Kept.{splits, takes_in, confirms}
use Rattle.mvo_marks.proofs.marks.Marks.confirm.Goals as goal

pub split_seat-note-requires : goal.split_seat-note-requires
split_seat-note-requires c = (ap (λ p. p.marks) c.seat.view_is ∙ (c.requires.seat ∙ sym c.self.view_is), omega (arith, c.self.invariant), splits _ _)

pub join_seat-requires : goal.join_seat-requires
join_seat-requires c =
    let note = c.split_seat-note.ensures in
    let here = ap (λ p. p.marks) c.seat.view_is ∙ (c.requires.seat ∙ sym c.self.view_is) in
    (ap (λ p. p.marks) c.publisher.view_is ∙ (c.requires.publisher ∙ sym c.self.view_is), note.3 ∙ here, ap (λ m. m.1) note.4, omega (arith, c.self.invariant), takes_in _ _ _ _ c.publisher.invariant.1 (ap (λ m. m.0.publishes) note.4))

pub load-requires : goal.load-requires
load-requires c =
    let joined = c.join_seat.ensures in
    let me = joined.2 in
    (joined.0 ∙ (ap (λ p. p.marks) c.publisher.view_is ∙ (c.requires.publisher ∙ sym c.self.view_is)), omega (arith, c.self.invariant), confirms _ _ _ (step 0 0 0 0 none) (ap (λ m. m.0.publishes) me ∙ c.publisher.invariant.1))
