-- What doesn't stop a turn of a flush.
use Rattle.std.proofs.Common.{◌≡◌, ◌≢◌, true, Result, Ok, Err, refl}
use Rattle.mvo_types.specs.declared.refusal.Refusal.{Refusal}
use Rattle.mvo_types.specs.declared.refusal.Refusal.TheVariants.{Busy}
use Rattle.mvo_store.specs.Flushing.{lets_go_on}

pub goes_of : {A : Type 0} (r : Result A Refusal) → ((e : Refusal) → r ≡ Err e → e ≢ Busy → ⊥) → lets_go_on r ≡ true
goes_of (Ok a) never = refl
goes_of (Err Busy) never = refl
goes_of (Err e) never = absurd (never e refl (λ is. cc))
