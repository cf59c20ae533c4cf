use Rattle.std.proofs.Common.{ℕ, List, length, ap, arith}
use Rattle.mvo_group.specs.Data.{group_of}
use Rattle.mvo_group.proofs.Sizes.{length-body_of}
use Rattle.mvo_group.proofs.Bodies.{found_is, no_other, none_reads}
use Rattle.mvo_group.proofs.group.Group.decode.Goals as goal

pub returns-then-body-gt-MAX_BODY_LEN-clause-only : goal.returns-then-body-gt-MAX_BODY_LEN-clause-only
returns-then-body-gt-MAX_BODY_LEN-clause-only c g is e = absurd (omega (arith, is.is.rules.size, length-body_of g, ap (λ (l : List ℕ). length l) e))

pub returns-in_default-clause-only : goal.returns-in_default-clause-only
returns-in_default-clause-only c = λ g is. none_reads c.args.body.now (rw c.in_default.is at c.in_ok-prev.ensures) g is.is

pub returns-clause-found : goal.returns-clause-found
returns-clause-found c =
    found_is c.args.format c.of_parts.result c.args.body.now (group_of c.in-Some.prev.0 c.in-Some.mark.0 c.in-Some.records.items) (λ i. omega (arith, c.type_inv.body i)) (rw c.in-Some.is at c.in_ok-prev.ensures) c.of_parts.ensures

pub returns-clause-only : goal.returns-clause-only
returns-clause-only c =
    no_other c.args.format c.of_parts.result c.args.body.now (group_of c.in-Some.prev.0 c.in-Some.mark.0 c.in-Some.records.items) (rw c.in-Some.is at c.in_ok-prev.ensures) c.of_parts.ensures
