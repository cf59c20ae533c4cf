-- What a taking that sees no job tells.
use Rattle.std.proofs.Common.{◌≡◌, List, [], ◌∷◌, length, refl, subst, arith}
use Rattle.crossbeam_channel.specs.Fifo.{Held}
use Rattle.mvo_front.specs.Job.{JobData}
use Rattle.mvo_front.specs.declared.rule.Hand.{Hand}
use Rattle.mvo_front.specs.Queue.{AreAllTaken, IsServed, Settled}

empty : (xs : List JobData) → length xs ≡ 0 → xs ≡ []
empty [] e = refl
empty (x ∷ xs) e = absurd (omega (arith, e))

pub none_waits : (v : Hand) → Held 0 (Settled v) → AreAllTaken v
none_waits v h may whole = subst (IsServed v.put v.taken) (empty h.0 h.1) (h.2 may whole)
