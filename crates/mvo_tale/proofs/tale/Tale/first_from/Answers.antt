use Rattle.std.proofs.Common.{List, subst}
use Rattle.mvo_tale.specs.declared.tale_place.TalePlace.{TalePlace}
use Rattle.mvo_tale.specs.Next.{AreGroupedTo}
use Rattle.mvo_tale.proofs.Gone.{grouped_front}
use Rattle.mvo_tale.proofs.tale.Tale.first_from.Goals as goal

pub returns-then-from-self : goal.returns-then-from-self
returns-then-from-self c =
    subst (λ (xs : List TalePlace). AreGroupedTo xs c.self.inside.gone c.args.prev.0) c.self.view_is
    (grouped_front c.self.inside.gone c.args.prev.0 c.self.inside.slots.items)
