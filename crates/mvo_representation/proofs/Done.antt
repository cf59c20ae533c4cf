-- What holds of the version of each number holds of each version.
use Rattle.std.proofs.Common.{◌≡◌, ℕ, suc, zero, [], ◌∷◌, None, Some, refl}
use Rattle.std.specs.Prelude.{slice_index_or}
use Rattle.std.specs.List.{AllByRecursion}
use Rattle.mvo_chain.specs.declared.version.Version.{Version}
use Rattle.mvo_chain.specs.Slots.{Slots}
use Rattle.mvo_representation.specs.Indexes.{all_versions}

pub each_live : (P : Version → Type 0) (slots : Slots) → ((n : ℕ) (v : Version) → slice_index_or slots n None ≡ Some v → P v) → AllByRecursion P (all_versions slots)
each_live P [] h = tt
each_live P (None ∷ xs) h = each_live P xs (λ n v e. h (suc n) v e)
each_live P (Some v ∷ xs) h = (h zero v refl, each_live P xs (λ n w e. h (suc n) w e))
