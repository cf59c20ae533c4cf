-- The places of the others, where some are those of read-only transactions.
use Rattle.std.specs.Prelude.{◌==◌, Bool, if◌then◌else◌, List, map}
use Rattle.mvo_tale.specs.declared.tale_place.TalePlace.{TalePlace}
use Rattle.mvo_tale.specs.declared.tale_place.TalePlace.TheVariants.{Open, Reading, Settled, Empty}
use Rattle.mvo_tale.specs.Stored.{StoredCommit}

-- a stored commit that ends where it began is that of a read-only transaction
abbrev pub ends_at_begin : StoredCommit → Bool
ends_at_begin c = c.id == c.end

-- the place as the others have it: one of a read-only transaction is empty
abbrev pub others_place : TalePlace → TalePlace
others_place (Open e) = Open e
others_place (Reading b) = Empty
others_place (Settled c) = if ends_at_begin c then Empty else Settled c
others_place Empty = Empty

abbrev pub others_places : List TalePlace → List TalePlace
others_places slots = map others_place slots
