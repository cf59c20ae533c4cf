-- The two ends of the ring of closed groups.
use Rattle.std.specs.Prelude.{◌≡◌, List, ◌++◌, length, drop}
use Rattle.mvo_group.specs.Data.{GroupData}
use Rattle.rtrb.specs.declared.producer.Producer.{Producer}
use Rattle.rtrb.specs.declared.consumer.Consumer.{Consumer}
use Rattle.rtrb.specs.Ring.{sent, received, producer_capacity, IsPair}
use Rattle.mvo_types.specs.declared.limits.TheConstants.{RING_GROUPS}

module _ {A P : Type 0} where
  -- what was sent and not received
  abbrev pub in_ring : Producer GroupData A P → Consumer GroupData A P → List GroupData
  in_ring p c = drop (length (received c)) (sent p)

  pub record AreEnds (p : Producer GroupData A P) (c : Consumer GroupData A P) : Type 0 where
    pub pair : IsPair p c
    pub order : received c ++ in_ring p c ≡ sent p
    pub room : producer_capacity p ≡ RING_GROUPS
