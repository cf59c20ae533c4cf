use Rattle.std.proofs.Common.{sym, ◌∙◌}
use Rattle.mvo_places.proofs.Upto.{none_taken, all_taken}
use Rattle.mvo_places.proofs.places.Places.take_over.Goals as goal

pub returns : goal.returns
returns c = c.take_over_upto.ensures.taken c.args.self.now.at (sym (none_taken c.args.data_file c.args.records.now c.args.gone.now c.args.self.now.at)) ∙ all_taken c.args.data_file c.args.records.now c.args.gone.now c.args.self.now.at
