-- Which ring it is, and names that stand for none.
use Rattle.std.specs.Prelude.{ℕ, []}
use Rattle.atomic_table.specs.Seated.{TableId}
use Rattle.rtrb.specs.declared.producer.Producer.{Producer}
use Rattle.rtrb.specs.declared.consumer.Consumer.{Consumer}
use denote.RawPtr.{Ptr, null_ptr}

-- which ring it is
pub record RingName : Type 0 where
  pub words : Ptr
  pub slots : Ptr
  pub names : ℕ × (ℕ × ℕ)

module _ {T A P : Type 0} where
  -- the ring that an end is of
  abbrev pub ring_of : Producer T A P → RingName
  ring_of p = record { words = p.end.words; slots = p.end.slots; names = p.end.names }

  abbrev pub ring_from : Consumer T A P → RingName
  ring_from c = record { words = c.end.words; slots = c.end.slots; names = c.end.names }

abbrev pub no_ring : RingName
no_ring = record { words = null_ptr; slots = null_ptr; names = (0, (0, 0)) }

abbrev pub no_marks : TableId
no_marks = record {
  words = 0;
  slots = 0;
  views_name = 0;
  atom = 0;
  block = 0;
  offset = 0;
  slot_names = [];
}
