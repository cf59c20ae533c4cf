-- Without any trace, a settled transaction claims what stands for it and what it writes.
use Rattle.std.proofs.Common.{◌≡◌, true, subst}
use Rattle.std.specs.List.{AllByRecursion}
use Rattle.mvo_types.specs.declared.row.RowKey.{RowKey}
use Rattle.mvo_types.specs.Keys.{Map}
use Rattle.mvo_model.specs.History.{AreSerial}
use Rattle.mvo_theory.specs.State.{State, timeline}
use Rattle.mvo_theory.specs.Sound.{IsLegal}
use Rattle.mvo_theory.specs.Origins.{settled_origin, settled_rows, HaveOrigins}
use Rattle.mvo_theory.specs.StandingClaims.{ClaimsIfStanding}
use Rattle.mvo_theory.proofs.Each.{each_both, each_append}
use Rattle.mvo_theory.proofs.AfterTrace.{rising_all}
use Rattle.mvo_theory.proofs.StandingClaims.{ended_first, all_serial, claim_of}
use Rattle.mvo_theory.proofs.Tales.{legal_append}
use Rattle.mvo_shared.specs.Standing.{AreComplete, IsStanding}

pub claims_standing : (opening : Map) (s : State) (k : RowKey) → IsStanding opening s → AllByRecursion (ClaimsIfStanding opening s k) (timeline s)
claims_standing opening s k h =
    each_both (λ x. AreComplete x.history x.claims) (λ x. (x.settled ≡ true → AreSerial x.history (settled_rows opening s x.end)) × (x.settled ≡ true → HaveOrigins (settled_origin s x.end) x.claims)) (ClaimsIfStanding opening s k)
    (λ x c q o w there. claim_of (settled_origin s x.end) k x.claims (q.1 o) (c k (ended_first k x.history (settled_rows opening s x.end) (q.0 o) there w))) (timeline s)
    (each_append (λ x. AreComplete x.history x.claims) s.past s.stamped h.complete.past h.complete.stamped)
    (each_both (λ x. x.settled ≡ true → AreSerial x.history (settled_rows opening s x.end)) (λ x. x.settled ≡ true → HaveOrigins (settled_origin s x.end) x.claims) _ (λ x a b. (a, b)) (timeline s)
    (all_serial opening (timeline s) (rising_all s h.sound h.started) (legal_append opening s.past s.stamped h.legal (subst (λ (m : Map). IsLegal m s.stamped) h.base h.sound.legal))) h.origins.settled)
