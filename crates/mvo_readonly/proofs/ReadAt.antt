-- The heart: what a read-only transaction saw is right at its begin once all it depends on is committed.
use Rattle.std.proofs.Common.{◌≡◌, ℕ, ◌<◌, false, cond, List, [], ◌∷◌, ◌++◌, refl, ap, subst}
use Rattle.std.specs.Prelude.{◌&&◌, nat_lt}
use Rattle.std.specs.List.{AllByRecursion}
use Rattle.mvo_types.specs.declared.op.Op.{Op}
use Rattle.mvo_types.specs.Keys.{Map}
use Rattle.mvo_types.specs.AnswerData.{AnswerData}
use Rattle.mvo_model.specs.History.{History, after_history, AreSerial}
use Rattle.mvo_theory.specs.Entries.{entry_of}
use Rattle.mvo_theory.specs.Ranges.{Row, AgreeOn, AllAgreeOn}
use Rattle.mvo_theory.specs.State.{StampedTx, seen_by}
use Rattle.mvo_theory.specs.Sound.{IsDecidedOn, IsApart, LeavesAlone, IsClear, IsConsistent, IsPreparing, IsPlaced}
use Rattle.mvo_theory.proofs.Each.{each_weaker}
use Rattle.mvo_theory.proofs.Looks.{serial_agrees}
use Rattle.mvo_theory.proofs.Between.{at_begin, settled_below}
use Rattle.mvo_theory.proofs.Apart.{IsFreeToSettle, IsEarlier, below_alone, each_under, each_swap, each_in}
use Rattle.mvo_readonly.specs.ReadAt.{settled_before}

-- the histories below b, as the lemmas of the theory say them
pub before_is : (b : ℕ) (xs : List StampedTx) → settled_below b xs ≡ settled_before b xs
before_is b [] = refl
before_is b (x ∷ xs) = ap (λ ts. cond (x.settled && nat_lt x.end b) x.history [] ++ ts) (before_is b xs)

-- on each entry the rows that it saw are those that the settled ones below its begin leave
agrees : (base : Map) (stamped : List StampedTx) (b : ℕ) (ts : History) (rs : List Row) (ds : List ℕ) → IsConsistent base stamped b ts rs ds → IsFreeToSettle stamped ds → IsClear stamped → AllAgreeOn ts (seen_by base stamped b) (after_history (settled_before b stamped) base)
agrees base stamped b ts rs ds h n c = each_weaker (λ o. IsDecidedOn (entry_of o.0) b ds base stamped) (λ o. AgreeOn (entry_of o.0) (seen_by base stamped b) (after_history (settled_before b stamped) base)) (λ o d. subst (λ (us : History). AgreeOn (entry_of o.0) (seen_by base stamped b) (after_history us base)) (before_is b stamped) (at_begin (entry_of o.0) b ds base stamped d c n)) ts h.decided

-- so its answers are right at its begin: no entry has to be checked
pub right_at_begin : (base : Map) (stamped : List StampedTx) (b : ℕ) (ts : History) (rs : List Row) (ds : List ℕ) → IsConsistent base stamped b ts rs ds → IsFreeToSettle stamped ds → IsClear stamped → AreSerial ts (after_history (settled_before b stamped) base)
right_at_begin base stamped b ts rs ds h n c = serial_agrees ts (seen_by base stamped b) (after_history (settled_before b stamped) base) (agrees base stamped b ts rs ds h n c) h.serial

-- and who isn't settled and ends below its begin has written nothing that it looked at
pub apart_at_begin : (base : Map) (stamped : List StampedTx) (clock b : ℕ) (ts : History) (rs : List Row) (ds : List ℕ) → IsConsistent base stamped b ts rs ds → IsFreeToSettle stamped ds → IsClear stamped →
    AllByRecursion (IsPlaced stamped clock) stamped → AllByRecursion (λ y. y.settled ≡ false → IsPreparing base stamped y) stamped → AllByRecursion (λ x. x.settled ≡ false → x.end < b → IsApart x ts) stamped
apart_at_begin base stamped clock b ts rs ds h n c pl pr =
    each_weaker (λ x. AllByRecursion (λ o. IsEarlier x b (entry_of o.0)) ts) (λ x. x.settled ≡ false → x.end < b → IsApart x ts) (λ x q. each_under (λ o. LeavesAlone x (entry_of o.0)) ts q) stamped
    (each_swap (λ (o : Op × AnswerData) (x : StampedTx). IsEarlier x b (entry_of o.0)) ts stamped
    (each_weaker (λ o. IsDecidedOn (entry_of o.0) b ds base stamped) (λ o. AllByRecursion (λ x. IsEarlier x b (entry_of o.0)) stamped)
    (λ o d. each_in (λ x. IsEarlier x b (entry_of o.0)) stamped (λ x m s l. below_alone (entry_of o.0) b ds base stamped clock x m d c n pl pr s l)) ts h.decided))
