-- What is committed up to a mark, the low-water and the oldest begin.
use Rattle.std.specs.Prelude.{ℕ, ◌≡◌, ◌<◌, ◌≤◌, ◌-◌, nat_le, false, ◌&&◌, if◌then◌else◌, List, [], ◌∷◌, ◌++◌, map, Option, None, Some}
use Rattle.std.specs.List.{AllByRecursion}
use Rattle.mvo_model.specs.History.{History}
use Rattle.mvo_theory.specs.State.{State, StampedTx, timeline}

-- a commit: its end timestamp, and its history
abbrev pub Commit : Type 0
Commit = ℕ × History

-- the commits with an end at most m, by end timestamp
abbrev pub settled_to : ℕ → List StampedTx → List Commit
settled_to m [] = []
settled_to m (x ∷ xs) =
    if x.settled && nat_le x.end m then (x.end, x.history) ∷ settled_to m xs else settled_to m xs

-- no transaction that isn't settled ends at or below m, nor will one
pub record IsClosedAt (m : ℕ) (s : State) : Type 0 where
  pub drawn : m ≤ s.clock
  pub above : AllByRecursion (λ x. x.settled ≡ false → m < x.end) s.stamped

-- what is committed up to such a mark stays
abbrev pub StaysBelow : State → State → Type 0
StaysBelow s s' = (m : ℕ) → IsClosedAt m s
    → IsClosedAt m s' × (settled_to m (timeline s') ≡ settled_to m (timeline s))

-- the least end of those that are Preparing
abbrev pub least_open : List StampedTx → Option ℕ
least_open [] = None
least_open (x ∷ xs) = if x.settled then least_open xs else Some x.end

abbrev pub below_open : ℕ → Option ℕ → ℕ
below_open clock None = clock
below_open clock (Some e) = e - 1

-- the low-water: the last draw, or just below the least end of those that are Preparing
abbrev pub low_water : State → ℕ
low_water s = below_open s.clock (least_open s.stamped)

-- the begins of those that are Preparing
abbrev pub open_begins : List StampedTx → List ℕ
open_begins [] = []
open_begins (x ∷ xs) = if x.settled then open_begins xs else x.id ∷ open_begins xs

-- the least of these, if it is below n
abbrev pub least : ℕ → List ℕ → ℕ
least n [] = n
least n (x ∷ xs) = least (if nat_le n x then n else x) xs

-- the oldest begin: the least begin of the unfinished ones, or the last draw if there is none
abbrev pub oldest_begin : State → ℕ
oldest_begin s =
    least s.clock (map (λ r. r.id) s.active ++ (open_begins s.stamped ++ map (λ u. u.id) s.ended))
