use Rattle.std.proofs.Common.{ℕ, Option, sym, subst}
use Rattle.mvo_places.specs.Fixed.{Numbers}
use Rattle.mvo_places.specs.Falling.{Falls}
use Rattle.mvo_places.proofs.Falls.{falls_none}
use Rattle.mvo_places.proofs.fixed_keys.FixedKeys.with_room.Goals as goal

pub invariant_of-result : goal.invariant_of-result
invariant_of-result c = subst (λ (xs : Numbers). Falls xs) (sym c.in_ok-with_capacity.ensures.items) (falls_none (Option ℕ))
