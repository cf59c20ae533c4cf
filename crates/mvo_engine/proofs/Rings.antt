-- A ring keeps its name.
use Rattle.std.proofs.Common.{◌≡◌, ℕ}
use Rattle.rtrb.specs.declared.producer.Producer.{Producer}
use Rattle.rtrb.specs.declared.consumer.Consumer.{Consumer}
use Rattle.rtrb.specs.Ring.{SameProducer, SameConsumer}
use Rattle.mvo_engine.specs.run.Rings.{RingName, ring_of, ring_from}
use denote.RawPtr.{Ptr}

named : {w w' s s' : Ptr} {n n' : ℕ × (ℕ × ℕ)} → w' ≡ w → s' ≡ s → n' ≡ n → ◌≡◌ {A = RingName} (record { words = w'; slots = s'; names = n' }) (record { words = w; slots = s; names = n })
named a b c = cc

module _ {T A P : Type 0} where
  pub same_of : (p p' : Producer T A P) → SameProducer p p' → ring_of p' ≡ ring_of p
  same_of p p' h = named h.0.0 h.0.1 h.0.2

  pub same_from : (c c' : Consumer T A P) → SameConsumer c c' → ring_from c' ≡ ring_from c
  same_from c c' h = named h.0.0 h.0.1 h.0.2
