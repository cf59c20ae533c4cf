use Rattle.std.proofs.Common.{inr, sym, ◌∙◌, arith}
use Rattle.mvo_pair.proofs.Next.{next_is, next_breaks, next_lacks}
use Rattle.mvo_pair.proofs.reading.next_record.Goals as goal

pub returns-in_default : goal.returns-in_default
returns-in_default c = next_lacks c.args.format c.args.pair.lo.0 c.args.pair.hi.0 c.args.last c.args.bytes.now (λ i. omega (arith, c.type_inv.bytes i)) (sym c.in_default.ensures.found)

pub returns-then-not-is_kept : goal.returns-then-not-is_kept
returns-then-not-is_kept c =
    inr (next_breaks c.args.format c.args.pair.lo.0 c.args.pair.hi.0 c.args.last c.args.bytes.now c.in-Some.len (sym c.in-Some.ensures.found) c.in_ok-entry.entry c.in_ok-entry.ensures (sym c.is_kept.ensures ∙ c.if-not-is_kept.true))

pub returns : goal.returns
returns c = (
  c.in-Some.ensures.whole,
  next_is c.args.format c.args.pair.lo.0 c.args.pair.hi.0 c.args.last c.args.bytes.now c.in-Some.len (sym c.in-Some.ensures.found) c.in_ok-entry.entry c.in_ok-entry.ensures (sym c.is_kept.ensures ∙ c.if-not-is_kept.false),
)
