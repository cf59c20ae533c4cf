-- Whole jobs: which calls of a store they make, one after another, up to the first that is refused.
use Rattle.std.specs.Prelude.{◌≡◌, ◌⊎◌, ℕ, zero, suc, List, [], ◌∷◌, Result, Ok, Err}
use Rattle.mvo_types.specs.declared.refusal.Refusal.{Refusal}
use Rattle.mvo_store.specs.declared.install.install_step.InstallStep.TheVariants.{Close, Body, Open}
use Rattle.mvo_store.specs.declared.jobs.due.Due.TheVariants.{Data, Delta, MergeData, MergeDelta, Install}
use Rattle.mvo_store.specs.declared.jobs.progress.Progress.TheVariants.{More}
use Rattle.mvo_store.specs.declared.call.StoreCall.{StoreCall}
use Rattle.mvo_store.specs.declared.call.StoreCall.TheVariants.{RotateWrite, CheckpointRead}
use Rattle.mvo_store.specs.declared.call.StoreCall.TheVariants.{MergeRead, Step}
use Rattle.mvo_store.specs.declared.done.Done.{Done}
use Rattle.mvo_store.specs.declared.done.Done.TheVariants.{Progress as Progressed}

-- the steps of an install, in their order
abbrev pub install : List StoreCall
install = Step (Install Close) ∷ Step (Install Body) ∷ Step (Install Open) ∷ []

-- those of a rotation of the log
abbrev pub rotation : List StoreCall
rotation = RotateWrite ∷ install

-- those of a merge of the pair at a place and the one behind it
abbrev pub merge : ℕ → List StoreCall
merge place = MergeRead place ∷ Step MergeData ∷ Step MergeDelta ∷ install

-- what a part of a job comes to: before it, its result, and after it
abbrev pub Part : Type 0 → Type 1
Part C = C → Result Done Refusal → C → Type 0

-- one part, and where it isn't refused the rest
abbrev pub IsThen : {C : Type 0} → Part C → Part C → Part C
IsThen {C} First Rest c r c' =
    ((e : Refusal) × (r ≡ Err e) × First c (Err e) c')
    ⊎ ((done : Done) × (m : C) × First c (Ok done) m × Rest m r c')

-- ---- by what the calls of a caller come to
module _ {C : Type 0} (ComesTo : C → StoreCall → Result Done Refusal → C → Type 0) where
  -- One call after another, up to the first that is refused. The result is that of the last one.
  abbrev pub AreToRefusal : List StoreCall → Part C
  AreToRefusal [] c r c' = ⊥
  AreToRefusal (call ∷ []) c r c' = ComesTo c call r c'
  AreToRefusal (call ∷ next ∷ rest) c r c' =
      IsThen (λ c r c'. ComesTo c call r c') (AreToRefusal (next ∷ rest)) c r c'

  -- so many delta files, each answered that more are left
  abbrev pub AreMore : ℕ → C → C → Type 0
  AreMore zero c c' = c' ≡ c
  AreMore (suc n) c c' =
      (m : C) × AreMore n c m × ComesTo m (Step Delta) (Ok (Progressed More)) c'

  -- delta files while more are left, and what comes of the last
  pub record AreDeltas (c : C) (r : Result Done Refusal) (c' : C) : Type 0 where
    pub count : ℕ
    pub before : C
    pub more : AreMore count c before
    pub last : ComesTo before (Step Delta) r c' ⊎ ((r ≡ Ok (Progressed More)) × (c' ≡ before))

  -- The segment is read, its pair's data file is written and then each delta file, and the pair is
  -- installed.
  abbrev pub IsCheckpoint : Part C
  IsCheckpoint =
      IsThen (λ c r c'. ComesTo c CheckpointRead r c') (
      IsThen (λ c r c'. ComesTo c (Step Data) r c') (
      IsThen AreDeltas (AreToRefusal install)))
