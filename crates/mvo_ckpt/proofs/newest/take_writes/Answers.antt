use Rattle.std.proofs.Common.{◌≡◌, List, [], ◌∷◌, ◌++◌, ap, sym, ◌∙◌}
use Rattle.std.specs.Prelude.{map}
use Rattle.std.proofs.lemmas.List.{map-append}
use Rattle.mvo_types.specs.Write.{Write}
use Rattle.mvo_group.specs.Data.{write_data}
use Rattle.mvo_ckpt.specs.Writes.{stamped}
use Rattle.mvo_ckpt.specs.Walk.{walk_writes, walk_of}
use Rattle.mvo_ckpt.proofs.Walked.{walk_last}
use Rattle.mvo_ckpt.proofs.newest.take_writes.Goals as goal

pub loop-write-preserved : goal.loop-write-preserved
loop-write-preserved c =
    let at = c.args.places.now.at in
    let end = c.args.end.0 in
    let rest = map write_data c.pop.new.self.items in
    let w = write_data c.in-Some.write in
    let s = walk_of c.loop-write.newest in
    let all : map write_data c.loop-write.writes.items ≡ rest ++ w ∷ [] = ap (map write_data) c.in-Some.ensures.items ∙ map-append write_data c.pop.new.self.items (c.in-Some.write ∷ []) in
    ap (walk_writes at (stamped end rest)) c.in_ok-take_write.ensures
    ∙ sym (walk_last at end rest w s)
    ∙ sym (ap (λ (l : List Write). walk_writes at (stamped end l) s) all)
    ∙ c.loop-write.invariant
