-- Which calls keep a store's mark and the group that it took.
use Rattle.std.proofs.Common.{rules, arith, refl, ◌≡◌, ◌≢◌, ◌⊎◌, inl, inr, ⊎_elim, ap, Option, Some, None, Result, Ok, Err, subst}
use Rattle.std.specs.Prelude.{⊤}
use Rattle.mvo_types.specs.declared.refusal.Refusal.{Refusal}
use Rattle.mvo_types.specs.declared.refusal.Refusal.TheVariants.{DiskFault, OutOfMemory, Corrupt, BadVersion}
use Rattle.mvo_types.specs.Keys.{Map}
use Rattle.mvo_disk.specs.declared.disk.Disk.{Ghosts}
use Rattle.mvo_disk.specs.Disk.{IsHonest}
use Rattle.mvo_load.specs.Read.{IsMisread}
use Rattle.mvo_store.specs.StoreData.{StoreData}
use Rattle.mvo_store.specs.Standing.{KeepsRows, KeepsAllRows}
use Rattle.mvo_store.specs.Calls.{StoreStep, Makes, IsFault, LeftByMemory, LeftByRefusal, ComesTo, IsStoreStep, IsRefused, why_not_store, rows_behind}
use Rattle.mvo_store.specs.Calls.StoreStep.{Take, Call}
use Rattle.mvo_store.specs.declared.call.StoreCall.TheVariants.{AppendOpen, CheckpointRead, Step}
use Rattle.mvo_store.specs.declared.jobs.due.Due.TheVariants.{MergeDelta, Install}
use Rattle.mvo_store.specs.declared.install.install_step.InstallStep.TheVariants.{Open}

pub record KeepsTaken {D : Type 0} (old new : StoreData D) : Type 0 where
  pub mark : new.mark ≡ old.mark
  pub pending : new.pending ≡ old.pending

-- ---- a refused call
misread_or : (e : Refusal) → IsMisread e ⊎ (IsMisread e → ⊥)
misread_or (Corrupt file) = inl tt
misread_or BadVersion = inl tt
misread_or e = inr (λ never. never)

left_other : {D : Type 0} (d : Ghosts D) (call : StoreStep) (e : Refusal) (old new : StoreData D) → (e ≡ DiskFault → IsFault d old new) → (e ≡ OutOfMemory → LeftByMemory d call old new) → (e ≢ DiskFault → e ≢ OutOfMemory → new ≡ old) → KeepsTaken old new
left_other d (Call CheckpointRead) e old new fault memory other = grind arith
left_other d (Call (Step MergeDelta)) e old new fault memory other = grind arith
left_other d call e old new fault memory other = grind arith

pub left_taken : {D : Type 0} (d : Ghosts D) (call : StoreStep) (e : Refusal) (old new : StoreData D) → LeftByRefusal d call e old new → KeepsTaken old new
left_taken {D} d call e old new h =
    ⊎_elim (λ is. let after = (h.misread is).after in record { mark = ap (λ (s : StoreData D). s.mark) after; pending = ap (λ (s : StoreData D). s.pending) after })
    (λ never. left_other d call e old new h.fault h.memory (λ f m. h.other f m never)) (misread_or e)

-- ---- an accepted one

-- it takes no group, and makes none durable
abbrev pub IsQuiet : StoreStep → Type 0
IsQuiet (Take g) = ⊥
IsQuiet (Call AppendOpen) = ⊥
IsQuiet call = ⊤

made_taken : {D : Type 0} (d : Ghosts D) (call : StoreStep) (old new : StoreData D) → IsQuiet call → Makes d call old new → KeepsTaken old new
made_taken d (Take g) old new quiet h = absurd quiet
made_taken d (Call (Step MergeDelta)) old new quiet h = grind arith
made_taken d (Call (Step (Install Open))) old new quiet h = grind arith
made_taken d call old new quiet h = grind arith

pub quiet_taken : {D A : Type 0} (d : Ghosts D) (old : StoreData D) (call : StoreStep) (result : Result A Refusal) (new : StoreData D) → IsQuiet call → ComesTo d old call result new → KeepsTaken old new
quiet_taken d old call (Ok a) new quiet h = made_taken d call old new quiet h.made.makes
quiet_taken d old call (Err e) new quiet h = left_taken d call e old new h.left

-- ---- the rows behind it
-- a quiet call keeps the rows
pub quiet_rows : {D A : Type 0} (d : Ghosts D) (old : StoreData D) (call : StoreStep) (result : Result A Refusal) (new : StoreData D) → IsQuiet call → IsStoreStep d old call result new → IsHonest (d.moment new.disk) → KeepsAllRows d old new
quiet_rows d old (Take g) result new quiet h = absurd quiet
quiet_rows d old (Call AppendOpen) result new quiet h = absurd quiet
quiet_rows d old call result new quiet h = h.keeps

-- so does a refused one
pub refused_rows : {D : Type 0} (A : Type 0) (d : Ghosts D) (old : StoreData D) (call : StoreStep) (e : Refusal) (new : StoreData D) → IsStoreStep {A = A} d old call (Err e) new → IsHonest (d.moment new.disk) → KeepsAllRows d old new
refused_rows A d old (Call AppendOpen) e new h = h.keeps
refused_rows A d old call e new h = h.keeps

-- ---- whatever it answers

pub refused_as : {D : Type 0} (A B : Type 0) (d : Ghosts D) (old : StoreData D) (call : StoreStep) (e : Refusal) (new : StoreData D) → ComesTo {A = A} d old call (Err e) new → ComesTo {A = B} d old call (Err e) new
refused_as A B d old call e new h =
    let refused : IsRefused {A = B} call (why_not_store old call) (Err e) = grind (arith, h.refused) in search rules

same_refused : {D : Type 0} (A B : Type 0) (s : StoreData D) (call : StoreStep) (e : Refusal) (rows : Map) → rows_behind {A = A} s call (Err e) rows ≡ rows_behind {A = B} s call (Err e) rows
same_refused A B s (Call AppendOpen) e rows = refl
same_refused A B s call e rows = refl

pub refused_so : {D : Type 0} (A B : Type 0) (d : Ghosts D) (old : StoreData D) (call : StoreStep) (e : Refusal) (new : StoreData D) → IsStoreStep {A = A} d old call (Err e) new → IsStoreStep {A = B} d old call (Err e) new
refused_so A B d old call e new h =
    record {
      comes = refused_as A B d old call e new h.comes;
      honest = h.honest;
      keeps = λ honest. let k = h.keeps honest in record { any_moment = k.any_moment; keeps = λ rows kept. subst (KeepsRows d new) (same_refused A B old call e rows) (k.keeps rows kept) };
      others = h.others;
    }

-- whatever the opening of a gate answers
accepted_as : (A B : Type 0) (call : StoreStep) (why : Option Refusal) (a : A) (b : B) → IsRefused {A = A} call why (Ok a) → IsRefused {A = B} call why (Ok b)
accepted_as A B call None a b h = tt
accepted_as A B call (Some cause) a b h = absurd (cc h)

pub opened_so : {D : Type 0} (A B : Type 0) (d : Ghosts D) (old : StoreData D) (a : A) (b : B) (new : StoreData D) → IsStoreStep {A = A} d old (Call (Step (Install Open))) (Ok a) new → IsStoreStep {A = B} d old (Call (Step (Install Open))) (Ok b) new
opened_so A B d old a b new h =
    record {
      comes = record { refused = accepted_as A B (Call (Step (Install Open))) (why_not_store old (Call (Step (Install Open)))) a b h.comes.refused; made = h.comes.made; left = h.comes.left };
      honest = h.honest;
      keeps = h.keeps;
      others = h.others;
    }
