-- A begin under the lock of the core, by what the session answers of it.
use Rattle.std.proofs.Common.{◌≡◌, ◌<◌, inl, inr, ℕ, Option, None, Some, Result, Ok, Err, ap}
use Rattle.mvo_types.specs.declared.refusal.Refusal.{Refusal}
use Rattle.mvo_types.specs.declared.refusal.Refusal.TheVariants.{Busy}
use Rattle.mvo_engine.specs.run.Opening.{Opening}
use Rattle.mvo_engine.specs.Sound.{IsSoundCore}
use Rattle.mvo_engine.specs.States.{CoreState}
use Rattle.mvo_engine.specs.Calls.{IsBeginning, IsReadOnlyBeginning}
use Rattle.mvo_engine.specs.Asked.{WasBegun, WasBegunReadOnly, IsCoreBegin, IsCoreReadOnlyBegin}

not_refused : {A : Type 0} (a : A) (e : Refusal) → ◌≡◌ {A = Result A Refusal} (Ok a) (Err e) → ⊥
not_refused a e p = cc

refused_with : {A : Type 0} (e r : Refusal) → ◌≡◌ {A = Result A Refusal} (Err e) (Err r) → e ≡ r
refused_with e r p = cc

-- ---- one that may write
pub begun_so : {A B : Type 0} (o : Opening) (old new : CoreState) (last : ℕ) (a : A) (b : B) → IsSoundCore o old.core old.sends.sent → IsBeginning {A = A} old last (Ok a) new → WasBegun {A = B} o (Ok b)
begun_so o old new last a b sound (inl s) = record { old = old; new = new; last = last; sound = sound; step = inl (s.0, record { step = s.1.step; sends = s.1.sends; made = s.1.made }) }
begun_so o old new last a b sound (inr s) = absurd (not_refused a Busy s.1)

pub not_begun_so : {A B : Type 0} (o : Opening) (old new : CoreState) (last : ℕ) (e : Refusal) → IsSoundCore o old.core old.sends.sent → IsBeginning {A = A} old last (Err e) new → WasBegun {A = B} o (Err e)
not_begun_so o old new last e sound (inl s) = record { old = old; new = new; last = last; sound = sound; step = inl (s.0, record { step = s.1.step; sends = s.1.sends; made = s.1.made }) }
not_begun_so o old new last e sound (inr s) = record { old = old; new = new; last = last; sound = sound; step = inr (s.0, ap Err (refused_with e Busy s.1), s.2) }

-- as a session passes it on
pub began : {A B : Type 0} (o : Opening) (t : Option ℕ) (a : A) (b : B) → WasBegun {A = A} o (Ok a) → IsCoreBegin {A = B} o t (Ok b)
began o None a b w = begun_so o w.old w.new w.last a b w.sound w.step
began o (Some t) a b w = tt

pub not_begun : {A : Type 0} (B : Type 0) (o : Opening) (t : Option ℕ) (e : Refusal) → WasBegun {A = A} o (Err e) → IsCoreBegin {A = B} o t (Err e)
not_begun B o None e w = not_begun_so o w.old w.new w.last e w.sound w.step
not_begun B o (Some t) e w = tt

-- ---- a read-only one
pub reading_so : {A B : Type 0} (o : Opening) (old new : CoreState) (last : ℕ) (a : A) (b : B) → IsSoundCore o old.core old.sends.sent → IsReadOnlyBeginning {A = A} old last (Ok a) new → WasBegunReadOnly {A = B} o (Ok b)
reading_so o old new last a b sound (inl s) = record { old = old; new = new; last = last; sound = sound; step = inl (s.0, record { step = s.1.step; sends = s.1.sends; made = s.1.made }) }
reading_so o old new last a b sound (inr s) = absurd (not_refused a Busy s.1)

pub not_reading_so : {A B : Type 0} (o : Opening) (old new : CoreState) (last : ℕ) (e : Refusal) → IsSoundCore o old.core old.sends.sent → IsReadOnlyBeginning {A = A} old last (Err e) new → WasBegunReadOnly {A = B} o (Err e)
not_reading_so o old new last e sound (inl s) = record { old = old; new = new; last = last; sound = sound; step = inl (s.0, record { step = s.1.step; sends = s.1.sends; made = s.1.made }) }
not_reading_so o old new last e sound (inr s) = record { old = old; new = new; last = last; sound = sound; step = inr (s.0, ap Err (refused_with e Busy s.1), s.2) }

pub began_reading : {A B : Type 0} (o : Opening) (t : Option ℕ) (a : A) (b : B) → WasBegunReadOnly {A = A} o (Ok a) → IsCoreReadOnlyBegin {A = B} o t (Ok b)
began_reading o None a b w = reading_so o w.old w.new w.last a b w.sound w.step
began_reading o (Some t) a b w = tt

pub not_begun_reading : {A : Type 0} (B : Type 0) (o : Opening) (t : Option ℕ) (e : Refusal) → WasBegunReadOnly {A = A} o (Err e) → IsCoreReadOnlyBegin {A = B} o t (Err e)
not_begun_reading B o None e w = not_reading_so o w.old w.new w.last e w.sound w.step
not_begun_reading B o (Some t) e w = tt
