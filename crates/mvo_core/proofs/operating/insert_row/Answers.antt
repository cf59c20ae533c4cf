use Rattle.std.proofs.Common.{◌∷◌, [], subst}
use Rattle.std.specs.Option.{option_to_list}
use Rattle.mvo_work.specs.declared.word_place.WordPlace.TheVariants.{Begin}
use Rattle.mvo_core.specs.Keeping.{HasWrittenMore, IsWritten}
use Rattle.mvo_core.proofs.Recorded.{unfinished_roomy, there_then, room_then}
use Rattle.mvo_core.proofs.operating.insert_row.Goals as goal

pub put-requires-clause-there : goal.put-requires-clause-there
put-requires-clause-there c = unfinished_roomy c.args.table.now c.make_room.new.table c.args.tx.id c.in_ok-make_room.ensures.ok

pub write-requires-clause-there : goal.write-requires-clause-there
write-requires-clause-there c =
    there_then c.args.table.now c.make_room.new.table c.args.tx.id c.in_ok-make_room.ensures.ok (option_to_list c.args.on) c.put.new.table c.in_ok-number.ensures.depends

pub write-requires-clause-room : goal.write-requires-clause-room
write-requires-clause-room c =
    room_then c.args.table.now c.make_room.new.table c.args.tx.id c.in_ok-make_room.ensures.ok (option_to_list c.args.on) c.put.new.table c.in_ok-number.ensures.depends

pub returns-clause-ok : goal.returns-clause-ok
returns-clause-ok c = record {
  number = c.in_ok-number.number;
  put = c.in_ok-number.ensures.ok;
  recorded = record {
    roomy = c.make_room.new.table;
    room = c.in_ok-make_room.ensures.ok;
    done = subst (λ table. IsWritten table c.write.new.table c.args.tx.id.0 (HasWrittenMore (Begin c.in_ok-number.number ∷ []))) c.in_ok-number.ensures.depends c.write.ensures;
  };
}
