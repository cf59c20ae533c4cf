use Rattle.std.proofs.Common.{drop, slice_get, sym, ap, ◌∙◌, refl}
use Rattle.mvo_collect.specs.Collecting.{from_dead, from_due, due_number}
use Rattle.mvo_collect.specs.Collecting.HasGiven.{FromDead, FromEnded}
use Rattle.mvo_collect.proofs.Fronts.{first_is_dead, dead_garbage, due_is_ended, ended_garbage, there, nothing_first}
use Rattle.mvo_collect.proofs.collect.collect_one.Goals as goal

pub take_out-requires : goal.take_out-requires
take_out-requires c =
    let slots = c.args.versions.now.slots in
    let n = c.in-Some.number in
    let first = ap (λ w. slice_get w.dead 0) (sym c.in-Some.ensures.passed) ∙ sym c.in-Some.ensures.first in
    let g = dead_garbage c.args.start.0 slots n (first_is_dead slots c.args.waiting.now.dead n first) in
    there slots n g.0 g.1

pub returns-in-Some : goal.returns-in-Some
returns-in-Some c =
    let slots = c.args.versions.now.slots in
    let n = c.in-Some.number in
    let passed = c.in-Some.ensures.passed in
    let first = ap (λ w. slice_get w.dead 0) (sym passed) ∙ sym c.in-Some.ensures.first in
    let g = dead_garbage c.args.start.0 slots n (first_is_dead slots c.args.waiting.now.dead n first) in
    let left = c.drop_dead.ensures in (
      n,
      record { version = g.0; at = g.1; garbage = g.2; gone = c.take_out.ensures.gone; indexed = c.take_out.ensures.indexed },
      FromDead first (ap (λ w. w.dead) left ∙ ap (λ w. drop 1 w.dead) passed) (ap (λ w. w.ended) left ∙ ap (λ w. w.ended) passed) (ap (λ w. w.owed) left ∙ ap (λ w. w.owed) passed),
    )

pub take_out-requires-in-Some-next_due : goal.take_out-requires-in-Some-next_due
take_out-requires-in-Some-next_due c =
    let h = c.args.start.0 in
    let slots = c.args.versions.now.slots in
    let n = c.in-Some-next_due.number in
    let passed = c.in-Some-next_due.ensures.passed in
    let first = ap (λ w. due_number h w.ended) (sym passed) ∙ sym c.in-Some-next_due.ensures.first in
    let g = ended_garbage h slots n (due_is_ended h slots c.next_dead.new.waiting.ended n first) in
    there slots n g.0 g.1

pub returns-in-Some-next_due : goal.returns-in-Some-next_due
returns-in-Some-next_due c =
    let h = c.args.start.0 in
    let slots = c.args.versions.now.slots in
    let n = c.in-Some-next_due.number in
    let before = c.in_default.ensures.passed in
    let passed = c.in-Some-next_due.ensures.passed in
    let first = ap (λ w. due_number h w.ended) (sym passed) ∙ sym c.in-Some-next_due.ensures.first in
    let g = ended_garbage h slots n (due_is_ended h slots c.next_dead.new.waiting.ended n first) in
    let left = c.drop_ended.ensures in
    let same = ap (λ w. w.ended) before in (
      n,
      record { version = g.0; at = g.1; garbage = g.2; gone = c.take_out-in-Some-next_due.ensures.gone; indexed = c.take_out-in-Some-next_due.ensures.indexed },
      FromEnded (ap (λ xs. due_number h (from_due h slots xs)) (sym same) ∙ first)
          (ap (λ w. w.dead) left ∙ ap (λ w. w.dead) passed ∙ ap (λ w. w.dead) before)
          (ap (λ w. w.ended) left ∙ ap (λ w. drop 1 w.ended) passed ∙ ap (λ xs. drop 1 (from_due h slots xs)) same)
          (ap (λ w. w.owed) left ∙ ap (λ w. w.owed) passed ∙ ap (λ w. w.owed) before),
    )

pub returns : goal.returns
returns c =
    let h = c.args.start.0 in
    let slots = c.args.versions.now.slots in
    let before = c.in_default.ensures.passed in
    let passed = c.in_default-next_due.ensures.passed in
    let same = ap (λ w. w.ended) before in (
      refl,
      record {
        none_dead = nothing_first (from_dead slots c.args.waiting.now.dead) (ap (λ w. slice_get w.dead 0) (sym before) ∙ sym c.in_default.ensures.first);
        none_due = ap (λ xs. due_number h (from_due h slots xs)) (sym same) ∙ ap (λ w. due_number h w.ended) (sym passed) ∙ sym c.in_default-next_due.ensures.first;
        dead = ap (λ w. w.dead) passed ∙ ap (λ w. w.dead) before;
        ended = ap (λ w. w.ended) passed ∙ ap (λ xs. from_due h slots xs) same;
        owed = ap (λ w. w.owed) passed ∙ ap (λ w. w.owed) before;
      },
    )
