-- The steps of the jobs, by their numbers.
use Rattle.std.proofs.Common.{◌≡◌, ℕ, eqb, true, [], ◌∷◌, get_or, refl, sym, ap, ◌∙◌}
use Rattle.std.proofs.lemmas.Bool.{eqb-true}
use Rattle.mvo_store.specs.declared.jobs.due.Due.{Due}
use Rattle.mvo_store.specs.declared.jobs.due.Due.TheVariants.{Data, Delta, MergeData, MergeDelta, Install}
use Rattle.mvo_store.specs.declared.install.install_step.InstallStep.TheVariants.{Close, Body, Open}
use Rattle.mvo_store.specs.Jobs.{step_number}

numbered : ℕ → Due
numbered n = get_or (Data ∷ Delta ∷ MergeData ∷ MergeDelta ∷ Install Close ∷ Install Body ∷ []) n (Install Open)

numbered_back : (a : Due) → numbered (step_number a) ≡ a
unfolding numbered
numbered_back (Install Close) = refl
numbered_back step = refl

-- no two have one number
pub same_due : (a b : Due) → eqb (step_number a) (step_number b) ≡ true → a ≡ b
same_due a b e = sym (numbered_back a) ∙ ap numbered (eqb-true (step_number a) (step_number b) e) ∙ numbered_back b
