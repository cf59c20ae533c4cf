-- Which queue a new one is.
use Rattle.std.specs.Prelude.{◌≡◌}
use Rattle.atomic_table.specs.Seated.{TableId}
use Rattle.crossbeam_channel.specs.Ends.{sends_on}
use Rattle.mvo_front.specs.Tickets.{Keys}
use Rattle.mvo_front.specs.declared.new_queue.NewQueue.{NewQueue}

abbrev pub IsQueueNamedBy : TableId → Keys → NewQueue → Type 0
IsQueueNamedBy table keys q =
    ((sends_on q.sender).stamps.shared.table_id ≡ table)
    × ((sends_on q.sender).stamps.shared.key ≡ keys)
