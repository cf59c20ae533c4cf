use Rattle.mvo_ckpt.proofs.Slicing.{gained_records, gained_gone, gained_deltas, gained_known, gained_few}
use Rattle.mvo_ckpt.proofs.gaining.gained.Goals as goal

pub returns : goal.returns
returns c at ps gs is done =
    let g = c.args.gaining in
    record {
      records = gained_records at ps gs g is c.reverse.new.self.items c.reverse.ensures.items;
      gone = gained_gone at ps gs g is c.reverse-2.new.self.items c.reverse-2.ensures.items;
      deltas = gained_deltas at ps gs g is done;
      known = gained_known at ps gs g is done;
      few = gained_few at ps gs g is done;
    }
