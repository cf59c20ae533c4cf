use Rattle.std.proofs.Common.{List, Ok, Err}
use Rattle.mvo_disk.specs.Disk.{IsHonest}
use Rattle.mvo_load.specs.Gathered.{Filed, AreGathered, AreMade, filed_in}
use Rattle.mvo_load.proofs.Unchanged.{was_read, gives_any}
use Rattle.mvo_load.proofs.Paired.{then_pairs}
use Rattle.mvo_load.proofs.Gathering.{rows_made, places_made, leads_made}
use Rattle.mvo_load.proofs.pairs.load_beside.Goals as goal

pub returns-in-Some-2 : goal.returns-in-Some-2
returns-in-Some-2 g c =
    let upto = c.args.upto in
    let image = g.D.Disk.content c.args.disk.now in
    let m = c.args.manifest.now in
    let all : List Filed = filed_in c.in-Some.all.items in
    let gathered : IsHonest (g.D.Disk.moment c.gather.new.disk) → AreGathered upto image m all = rw c.in-Some.is at c.in-Ok.ensures.gathered in
    let made : AreMade all c.in-Some-2.made.0 c.in-Some-2.made.1.at = rw c.in-Some-2.is at c.in_ok-made.ensures in
    record {
      live = λ honest. rows_made upto image m all (gathered honest) c.in-Some-2.made.0 c.in-Some-2.made.1.at made;
      places = λ honest. places_made upto image m all (gathered honest) c.in-Some-2.made.0 c.in-Some-2.made.1.at made;
      leads = λ honest. leads_made upto image m all (gathered honest) c.in-Some-2.made.0 c.in-Some-2.made.1.at made;
      read = gives_any g.D.Disk _ c.args.disk.now c.gather.new.disk c.in-Some-2.made (was_read g.D.Disk c.args.disk.now c.gather.new.disk c.in-Ok.gathered c.in-Ok.ensures.read);
    }

pub returns-in-Ok-load_in_turn : goal.returns-in-Ok-load_in_turn
returns-in-Ok-load_in_turn g c =
    then_pairs g.D.Disk c.args.upto c.args.manifest.now c.args.disk.now c.gather.new.disk c.load_in_turn.new.disk (Ok c.in-Ok-load_in_turn.found)
    (was_read g.D.Disk c.args.disk.now c.gather.new.disk c.in-Ok.gathered c.in-Ok.ensures.read) c.in-Ok-load_in_turn.ensures

pub returns-in-Err-load_in_turn : goal.returns-in-Err-load_in_turn
returns-in-Err-load_in_turn g c =
    then_pairs g.D.Disk c.args.upto c.args.manifest.now c.args.disk.now c.gather.new.disk c.load_in_turn.new.disk (Err c.in-Err-load_in_turn.e)
    (was_read g.D.Disk c.args.disk.now c.gather.new.disk c.in-Ok.gathered c.in-Ok.ensures.read) c.in-Err-load_in_turn.ensures
