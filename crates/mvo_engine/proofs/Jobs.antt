-- A whole job ends with an install.
use Rattle.std.proofs.Common.{◌≡◌, ℕ, true, Option, List, [], ◌∷◌, inl, inr, Result, Ok, Err, refl, sym, subst}
use Rattle.std.specs.Prelude.{IfOk}
use Rattle.mvo_types.specs.declared.refusal.Refusal.{Refusal}
use Rattle.mvo_disk.specs.declared.disk.Disk.{Ghosts}
use Rattle.mvo_store.specs.declared.install.install_step.InstallStep.TheVariants.{Open}
use Rattle.mvo_store.specs.declared.jobs.due.Due.TheVariants.{Install}
use Rattle.mvo_store.specs.declared.call.StoreCall.{StoreCall}
use Rattle.mvo_store.specs.declared.call.StoreCall.TheVariants.{Step}
use Rattle.mvo_store.specs.declared.done.Done.{Done}
use Rattle.mvo_store.specs.declared.done.Done.TheVariants.{Installed}
use Rattle.mvo_store.specs.Wholes.{AreToRefusal, IsCheckpoint, install, rotation, merge}
use Rattle.mvo_store.proofs.Taken.{IsQuiet}
use Rattle.mvo_engine.specs.declared.slice.Slice.{Slice}
use Rattle.mvo_engine.specs.declared.slice.Slice.TheVariants.{Checkpoint, Merge, Places, MergeBegin, MergeRead, MergeForget, CheckpointBegin, CheckpointRead, CheckpointForget, Shorten}
use Rattle.mvo_engine.specs.declared.sliced.Sliced.{Sliced}
use Rattle.mvo_engine.specs.Calls.{asked_by}
use Rattle.mvo_engine.specs.Jobs.{IsAloneWith, IsCallAlone, IsOneCallAlone, slices_of, opens_a_manifest, IsInstallAnswer}

-- what is known of the call's slices says how it is made
pub alone_with : {D : Type 0} (d : Ghosts D) (call : StoreCall) (r : Result Done Refusal) {slices : Option Sliced} → slices_of call ≡ slices → IsAloneWith d slices call r → IsCallAlone d tt call r tt
alone_with d call r {slices} is h = subst (λ (x : Option Sliced). IsAloneWith d x call r) (sym is) h

-- the call that installs a manifest is the last step of an install
pub opens_alone : {D : Type 0} (d : Ghosts D) (call : StoreCall) (r : Result Done Refusal) → opens_a_manifest call ≡ true → IsOneCallAlone d (Step (Install Open)) r → IsOneCallAlone d call r
opens_alone d (Step (Install Open)) r is h = h
opens_alone d call r is h = absurd (cc is)

refused_so : (P : Done → Type 0) (r : Result Done Refusal) (e : Refusal) → r ≡ Err e → IfOk r P
refused_so P r e is = subst (λ (x : Result Done Refusal). IfOk x P) (sym is) tt

abbrev IsLast : StoreCall → List StoreCall → Type 0
IsLast last [] = ⊥
IsLast last (call ∷ []) = call ≡ last
IsLast last (call ∷ next ∷ rest) = IsLast last (next ∷ rest)

module _ {D : Type 0} (d : Ghosts D) where
  last_so : (r : Result Done Refusal) → IsCallAlone d tt (Step (Install Open)) r tt → IfOk r IsInstallAnswer
  last_so (Err e) h = tt
  last_so (Ok (Installed generation)) h = (generation, refl)
  last_so (Ok a) h = absurd h.2.answers

  -- so it is with calls of which the opening of a manifest's gate is the last
  calls_so : (calls : List StoreCall) (r : Result Done Refusal) → IsLast (Step (Install Open)) calls → AreToRefusal (IsCallAlone d) calls tt r tt → IfOk r IsInstallAnswer
  calls_so [] r last h = absurd h
  calls_so (call ∷ []) r last h = last_so r (subst (λ (x : StoreCall). IsCallAlone d tt x r tt) last h)
  calls_so (call ∷ next ∷ rest) r last (inl h) = refused_so IsInstallAnswer r h.0 h.1
  calls_so (call ∷ next ∷ rest) r last (inr h) = calls_so (next ∷ rest) r last h.3

  pub rotation_so : (r : Result Done Refusal) → AreToRefusal (IsCallAlone d) rotation tt r tt → IfOk r IsInstallAnswer
  rotation_so r h = calls_so rotation r refl h

  pub merge_so : (place : ℕ) (r : Result Done Refusal) → AreToRefusal (IsCallAlone d) (merge place) tt r tt → IfOk r IsInstallAnswer
  merge_so place r h = calls_so (merge place) r refl h

  pub checkpoint_so : (r : Result Done Refusal) → IsCheckpoint (IsCallAlone d) tt r tt → IfOk r IsInstallAnswer
  checkpoint_so r (inl read) = refused_so IsInstallAnswer r read.0 read.1
  checkpoint_so r (inr (_, _, _, inl data_file)) = refused_so IsInstallAnswer r data_file.0 data_file.1
  checkpoint_so r (inr (_, _, _, inr (_, _, _, inl deltas))) = refused_so IsInstallAnswer r deltas.0 deltas.1
  checkpoint_so r (inr (_, _, _, inr (_, _, _, inr (_, _, _, rest)))) = calls_so install r refl rest

-- a slice takes no group, and makes none durable
pub quiet_slice : (slice : Slice) → IsQuiet (asked_by slice)
quiet_slice Checkpoint = tt
quiet_slice Merge = tt
quiet_slice Places = tt
quiet_slice (MergeBegin place) = tt
quiet_slice MergeRead = tt
quiet_slice MergeForget = tt
quiet_slice CheckpointBegin = tt
quiet_slice CheckpointRead = tt
quiet_slice CheckpointForget = tt
quiet_slice Shorten = tt
