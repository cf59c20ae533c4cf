-- What contracts see of a world.
use Rattle.mvo_world.specs.declared.world.World.TheInside.{Inside}
use Rattle.mvo_world.specs.WorldData.{WorldData}

abbrev pub world_data : {D : Type 0} → Inside D → WorldData D
world_data w = record { core = w.core; ring = w.ring; store = w.store }
