use Rattle.std.proofs.Common.{◌≡◌, vec_len}
use Rattle.std.specs.Prelude.{map}
use Rattle.mvo_group.specs.Data.{write_data}
use Rattle.mvo_ckpt.specs.Writes.{stamped}
use Rattle.mvo_ckpt.specs.Walk.{walk_writes, walk_of}
use Rattle.mvo_ckpt.proofs.newest.take_writes.Given as goal

-- what is left, behind what was taken, comes to the whole
abbrev pub invariant-loop-write : goal.invariant-loop-write
invariant-loop-write l =
    walk_writes l.places.at (stamped l.end.0 (map write_data l.writes.items)) (walk_of l.newest)
    ≡ walk_writes l.places.at (stamped l.end.0 (map write_data l.fn.writes.items)) (walk_of l.fn.newest)

abbrev pub decreases-loop-write : goal.decreases-loop-write
decreases-loop-write l = vec_len l.writes
