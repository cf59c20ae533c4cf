use Rattle.std.proofs.Common.{rules}
use Rattle.mvo_store.proofs.formatting.shut_slot.Goals as goal

pub returns-clause-durable : goal.returns-clause-durable
returns-clause-durable g c = c.in_ok-close_slot.ensures.durable (search rules)
