-- The first cause of a list that stands, and where a transaction stands.
use Rattle.std.proofs.Common.{◌≡◌, ℕ, Bool, true, false, List, [], ◌∷◌, Option, None, Some, refl, sym, ap, ◌∙◌, ◌⊎◌, inl, inr}
use Rattle.std.specs.List.{AllByRecursion}
use Rattle.std.proofs.lemmas.Bool.{true≢false, false≢true}
use Rattle.mvo_types.specs.declared.cause.Cause.{Cause}
use Rattle.mvo_types.specs.declared.refusal.Refusal.{Refusal}
use Rattle.mvo_types.specs.declared.refusal.Refusal.TheVariants.{WriteConflict, ValidationFailed, DependencyAborted}
use Rattle.mvo_model.specs.Trace.{Phase}
use Rattle.mvo_model.specs.Trace.Phase.{Absent, Active, Preparing, Committed as Commits, Aborted as Aborts}
use Rattle.mvo_theory.specs.State.{StampedTx, ActiveTx, EndedTx, Outcome}
use Rattle.mvo_theory.specs.State.Outcome.{Committed, Aborted}
use Rattle.mvo_theory.specs.Phases.{ended_as, phase_by, is_absent, is_active, is_preparing, is_ended}
use Rattle.mvo_types.specs.Causes.{when, or_next, first_cause}
use Rattle.mvo_theory.specs.Causes.{flagged, conflicts, differs}

pub none_refusal : (r : Refusal) → ◌≡◌ {A = Option Refusal} None (Some r) → ⊥
none_refusal r e = cc

pub some_refusal : (v r : Refusal) → ◌≡◌ {A = Option Refusal} (Some v) (Some r) → r ≡ v
some_refusal v r e = cc

pub some_not_none : (r : Refusal) → ◌≡◌ {A = Option Refusal} (Some r) None → ⊥
some_not_none r e = cc

-- r is the first of these that stands
abbrev pub FirstOf : List (Option Refusal) → Refusal → Type 0
FirstOf [] r = ⊥
FirstOf (c ∷ cs) r = (c ≡ Some r) ⊎ ((c ≡ None) × FirstOf cs r)

pub record IsFirst (cs : List (Option Refusal)) (r : Refusal) : Type 0 where
  pub is : FirstOf cs r

first_of : (cs : List (Option Refusal)) (r : Refusal) → first_cause cs ≡ Some r → FirstOf cs r
first_of [] r e = absurd (none_refusal r e)
first_of (c ∷ cs) r e = go c refl e (λ q. first_of cs r q)
  where
    go : (w : Option Refusal) → c ≡ w → or_next w (first_cause cs) ≡ Some r → (first_cause cs ≡ Some r → FirstOf cs r) → (c ≡ Some r) ⊎ ((c ≡ None) × FirstOf cs r)
    go None f g k = inr (f, k g)
    go (Some v) f g k = inl (f ∙ g)

pub first_is : (cs : List (Option Refusal)) (r : Refusal) → first_cause cs ≡ Some r → IsFirst cs r
first_is cs r e = record { is = first_of cs r e }

pub none_is : (cs : List (Option Refusal)) → first_cause cs ≡ None → AllByRecursion (λ c. c ≡ None) cs
none_is [] e = tt
none_is (c ∷ cs) e = go c refl e (λ q. none_is cs q)
  where
    go : (w : Option Refusal) → c ≡ w → or_next w (first_cause cs) ≡ None → (first_cause cs ≡ None → AllByRecursion (λ d. d ≡ None) cs) → (c ≡ None) × AllByRecursion (λ d. d ≡ None) cs
    go None f g k = (f, k g)
    go (Some v) f g k = absurd (some_not_none v g)

-- ---- what one of them says
pub when_none : (b : Bool) (r : Refusal) → when b r ≡ None → b ≡ false
when_none true r e = absurd (some_not_none r e)
when_none false r e = refl

pub when_some : (b : Bool) (v r : Refusal) → when b v ≡ Some r → (b ≡ true) × (r ≡ v)
when_some true v r e = (refl, some_refusal v r e)
when_some false v r e = absurd (none_refusal r e)

pub flagged_some : (d : Option ℕ) (r : Refusal) → flagged d ≡ Some r → (x : ℕ) × (d ≡ Some x) × (r ≡ DependencyAborted (record { 0 = x }))
flagged_some None r e = absurd (none_refusal r e)
flagged_some (Some x) r e = (x, refl, some_refusal (DependencyAborted (record { 0 = x })) r e)

pub conflicts_none : (w : Option Cause) → conflicts w ≡ None → w ≡ None
conflicts_none None e = refl
conflicts_none (Some c) e = absurd (some_not_none (WriteConflict c) e)

pub conflicts_some : (w : Option Cause) (r : Refusal) → conflicts w ≡ Some r → (c : Cause) × (w ≡ Some c) × (r ≡ WriteConflict c)
conflicts_some None r e = absurd (none_refusal r e)
conflicts_some (Some c) r e = (c, refl, some_refusal (WriteConflict c) r e)

pub differs_none : (w : Option ℕ) → differs w ≡ None → w ≡ None
differs_none None e = refl
differs_none (Some n) e = absurd (some_not_none (ValidationFailed (record { 0 = n })) e)

pub differs_some : (w : Option ℕ) (r : Refusal) → differs w ≡ Some r → (n : ℕ) × (w ≡ Some n) × (r ≡ ValidationFailed (record { 0 = n }))
differs_some None r e = absurd (none_refusal r e)
differs_some (Some n) r e = (n, refl, some_refusal (ValidationFailed (record { 0 = n })) r e)

-- ---- where a transaction stands
pub absent_is : (p : Phase) → is_absent p ≡ true → p ≡ Absent
absent_is Absent e = refl
absent_is Active e = absurd (false≢true e)
absent_is (Preparing n) e = absurd (false≢true e)
absent_is (Commits n) e = absurd (false≢true e)
absent_is Aborts e = absurd (false≢true e)

pub active_is : (p : Phase) → is_active p ≡ true → p ≡ Active
active_is Absent e = absurd (false≢true e)
active_is Active e = refl
active_is (Preparing n) e = absurd (false≢true e)
active_is (Commits n) e = absurd (false≢true e)
active_is Aborts e = absurd (false≢true e)

ends_so : (o : Outcome) → is_ended (ended_as o) ≡ false → ⊥
ends_so (Committed n) e = true≢false e
ends_so Aborted e = true≢false e

-- it isn't absent, ended or Preparing: it is Active
pub runs : (r : Option ActiveTx) (w : Option StampedTx) (u : Option EndedTx) → is_absent (phase_by r w u) ≡ false → is_ended (phase_by r w u) ≡ false → is_preparing (phase_by r w u) ≡ false → (x : ActiveTx) × (r ≡ Some x)
runs (Some x) w u a b c = (x, refl)
runs None (Some x) u a b c = absurd (true≢false c)
runs None None (Some u) a b c = absurd (ends_so u.outcome b)
runs None None None a b c = absurd (true≢false a)

-- it isn't absent, ended or Active: it is Preparing
pub prepares : (r : Option ActiveTx) (w : Option StampedTx) (u : Option EndedTx) → is_absent (phase_by r w u) ≡ false → is_ended (phase_by r w u) ≡ false → is_active (phase_by r w u) ≡ false → (x : StampedTx) × (w ≡ Some x) × (phase_by r w u ≡ Preparing x.end)
prepares (Some x) w u a b c = absurd (true≢false c)
prepares None (Some x) u a b c = (x, refl, refl)
prepares None None (Some u) a b c = absurd (ends_so u.outcome b)
prepares None None None a b c = absurd (true≢false a)

not_active : (p : Phase) → is_active p ≡ false → p ≡ Active → ⊥
not_active p e f = true≢false (sym (ap is_active f) ∙ e)

-- who is Active
pub active_found : (r : Option ActiveTx) (w : Option StampedTx) (u : Option EndedTx) → phase_by r w u ≡ Active → (x : ActiveTx) × (r ≡ Some x)
active_found (Some x) w u e = (x, refl)
active_found None (Some x) u e = absurd (not_active (Preparing x.end) refl e)
active_found None None (Some u) e = absurd (not_active (ended_as u.outcome) (not_so u.outcome) e)
  where
    not_so : (o : Outcome) → is_active (ended_as o) ≡ false
    not_so (Committed n) = refl
    not_so Aborted = refl
active_found None None None e = absurd (not_active Absent refl e)
