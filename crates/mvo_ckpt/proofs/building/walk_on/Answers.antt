use Rattle.mvo_ckpt.proofs.Slicing.{all_walked}
use Rattle.mvo_ckpt.proofs.building.walk_on.Goals as goal

pub returns-clause-built : goal.returns-clause-built
returns-clause-built c ps gs is =
    let walks = c.in-Ok.ensures.walks gs is in
    c.no_gains.ensures.gains c.args.places.now.at ps gs (all_walked c.args.places.now.at gs c.take_slice.new.walking walks (c.in-Ok.ensures.all c.if-more.false)) walks.small
