-- Which queue a pass is of.
use Rattle.std.specs.Prelude.{◌≡◌, []}
use Rattle.atomic_table.specs.Seated.{TableId}
use Rattle.atomic_table.specs.declared.badge.Badge.{Badge}
use Rattle.crossbeam_channel.specs.Claims.{Pass, no_key}
use Rattle.crossbeam_channel.specs.declared.flavors.array.Key.{Key}
use Rattle.mvo_front.specs.Job.{JobData}
use Rattle.mvo_front.specs.declared.rule.Hand.{Hand}

abbrev pub Keys : Type 0
Keys = Badge (Key JobData)

abbrev pub no_queue_keys : Keys
no_queue_keys = no_key

abbrev pub no_queue_table : TableId
no_queue_table = no_queue_keys.table_id

-- the pass is one of the queue with this table and these keys, and has no job in hand
abbrev pub IsPassOf : TableId → Keys → Pass JobData Hand → Type 0
IsPassOf table keys p = (p.table_id ≡ table) × (p.me.0.of ≡ keys) × (p.me.1 ≡ [])
