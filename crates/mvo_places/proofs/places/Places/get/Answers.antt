use Rattle.std.proofs.Common.{ap, ◌∙◌}
use Rattle.std.specs.Option.{option_map}
use Rattle.mvo_places.specs.Places.{place_numbered}
use Rattle.mvo_places.proofs.Placing.{place_back}
use Rattle.mvo_places.proofs.places.Places.get.Goals as goal

pub returns-in-Some-clause-place : goal.returns-in-Some-clause-place
returns-in-Some-clause-place c =
    ap (option_map place_numbered) c.in-Some.ensures.number
    ∙ place_back c.args.self.now.at c.args.key c.in-Some.ensures.small

pub returns-in-Some-clause-small : goal.returns-in-Some-clause-small
returns-in-Some-clause-small c = c.in-Some.ensures.small

pub returns-in-None-clause-place : goal.returns-in-None-clause-place
returns-in-None-clause-place c =
    ap (option_map place_numbered) c.in-None.ensures.number
    ∙ place_back c.args.self.now.at c.args.key c.in-None.ensures.small

pub returns-in-None-clause-small : goal.returns-in-None-clause-small
returns-in-None-clause-small c = c.in-None.ensures.small
