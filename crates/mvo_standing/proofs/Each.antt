-- What holds of each of a list and of each of its shadows.
use Rattle.std.proofs.Common.{◌≡◌, ℕ, ◌+◌, Bool, cond, List, [], ◌∷◌, map, refl, ap, ◌∙◌}
use Rattle.std.specs.List.{AllByRecursion}
use Rattle.mvo_theory.specs.Sound.{how_many}
use Rattle.mvo_theory.specs.Phases.{phase_in}
use Rattle.mvo_theory.specs.State.{State}
use Rattle.mvo_shared.specs.Shadow.{shadow}
use Rattle.mvo_shadow.proofs.Finds.{phase_alike}

pub each_unmap : {X Y : Type 0} (f : X → Y) (P : X → Type 0) (Q : Y → Type 0) → ((x : X) → Q (f x) → P x) → (xs : List X) → AllByRecursion Q (map f xs) → AllByRecursion P xs
each_unmap f P Q g [] h = tt
each_unmap f P Q g (x ∷ xs) h = (g x h.0, each_unmap f P Q g xs h.1)

pub count_map : {X Y : Type 0} (f : X → Y) (p : X → Bool) (q : Y → Bool) → ((x : X) → q (f x) ≡ p x) → (xs : List X) → how_many q (map f xs) ≡ how_many p xs
count_map f p q g [] = refl
count_map f p q g (x ∷ xs) = ap (λ (b : Bool). cond b 1 0 + how_many q (map f xs)) (g x) ∙ ap (λ (n : ℕ). cond (p x) 1 0 + n) (count_map f p q g xs)

-- each transaction stands in both alike
pub phases_alike : (s : State) → phase_in (shadow s) ≡ phase_in s
phases_alike s = λ i t. phase_alike s t i
