use Rattle.std.proofs.Common.{arith, ap, List, ℕ, length, length-append}
use Rattle.mvo_group.specs.Data.{group_of}
use Rattle.mvo_group.proofs.Sizes.{length-body_of}
use Rattle.mvo_group.proofs.encode.append_body.Goals as goal

pub append_records-requires-clause-room : goal.append_records-requires-clause-room
append_records-requires-clause-room c =
    omega (
      arith,
      c.requires.room,
      c.append.ensures.room,
      simp length-append at (ap (λ (l : List ℕ). length l) c.append.ensures.items),
      simp length-append at (ap (λ (l : List ℕ). length l) c.group_header.ensures),
      simp length-append at (length-body_of (group_of c.args.prev.0 c.args.mark.0 c.args.records.now)),
    )
