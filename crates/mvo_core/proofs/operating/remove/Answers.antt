use Rattle.std.proofs.Common.{◌∷◌, [], subst}
use Rattle.std.specs.Option.{option_to_list}
use Rattle.mvo_work.specs.declared.word_place.WordPlace.TheVariants.{End}
use Rattle.mvo_core.specs.Keeping.{HasWrittenMore, IsWritten}
use Rattle.mvo_core.proofs.Recorded.{unfinished_roomy, there_then, room_then}
use Rattle.mvo_core.proofs.operating.remove.Goals as goal

pub depend-requires : goal.depend-requires
depend-requires c = unfinished_roomy c.args.table.now c.make_room.new.table c.args.tx.id c.in_ok-make_room.ensures.ok

pub write-requires-clause-there : goal.write-requires-clause-there
write-requires-clause-there c =
    there_then c.args.table.now c.make_room.new.table c.args.tx.id c.in_ok-make_room.ensures.ok (option_to_list c.args.on) c.depend.new.table c.in_ok-depend.ensures.ok

pub write-requires-clause-room : goal.write-requires-clause-room
write-requires-clause-room c =
    room_then c.args.table.now c.make_room.new.table c.args.tx.id c.in_ok-make_room.ensures.ok (option_to_list c.args.on) c.depend.new.table c.in_ok-depend.ensures.ok

pub returns-clause-ok : goal.returns-clause-ok
returns-clause-ok c = record {
  ended = c.end.ensures;
  recorded = record {
    roomy = c.make_room.new.table;
    room = c.in_ok-make_room.ensures.ok;
    done = subst (λ table. IsWritten table c.write.new.table c.args.tx.id.0 (HasWrittenMore (End c.args.number ∷ []))) c.in_ok-depend.ensures.ok c.write.ensures;
  };
}
