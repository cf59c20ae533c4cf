-- Nobody starves: of files, stored commits and versions each is served that always has something to
-- do.
use Rattle.std.specs.Prelude.{◌≡◌, ◌≢◌, ℕ, ◌+◌, ◌<◌, ◌≤◌, Bool, true, false, List, [], ◌∷◌, length, Option, Some, None}
use Rattle.mvo_keep.specs.declared.policy.Policy.{Policy}
use Rattle.mvo_keep.specs.declared.standing.Standing.{Standing}
use Rattle.mvo_keep.specs.declared.chore.Chore.{Chore}
use Rattle.mvo_keep.specs.declared.chore.Chore.TheVariants.{Flush, Trim, Collect}
use Rattle.mvo_keep.specs.declared.served.Served.{Served}
use Rattle.mvo_keep.specs.declared.served.TheConstants.{MOST_TIMES}
use Rattle.mvo_keep.specs.Due.{of_files, trimming, collecting, next_served}
use Rattle.mvo_keep.specs.Keeping.{served_after}

-- how a store stood, and the chore that was done then, which was no flush
abbrev pub Turn : Type 0
Turn = Standing × Chore

-- In each turn that chore was due, by who was served last. How the store stood says nothing of the
-- turn before.
abbrev pub ComeInTurn : Policy → List Turn → Served → Type 0
ComeInTurn p [] last = Unit {0}
ComeInTurn p (t ∷ turns) last = (t.0.served ≡ last) × (next_served p t.0 t.0.served ≡ Some t.1)
    × ComeInTurn p turns (served_after t.1 last)

-- In each turn something was due of its own, and it wasn't served.
abbrev pub IsLeftOut : (Standing → Option Chore) → (Chore → Bool) → List Turn → Type 0
IsLeftOut own is_own [] = Unit {0}
IsLeftOut own is_own (t ∷ turns) =
    (own t.0 ≢ None) × (is_own t.1 ≡ false) × IsLeftOut own is_own turns

-- what serves the stored commits, the versions and the files
abbrev pub is_of_commits : Chore → Bool
is_of_commits (Trim upto) = true
is_of_commits chore = false

abbrev pub is_of_versions : Chore → Bool
is_of_versions (Collect most) = true
is_of_versions chore = false

abbrev pub is_of_files : Chore → Bool
is_of_files Flush = false
is_of_files (Trim upto) = false
is_of_files (Collect most) = false
is_of_files chore = true

-- None of the three is passed over in more turns than so many collections in a row, and one.
abbrev pub NobodyStarves : Type 0
NobodyStarves = (p : Policy) → 0 < p.in_a_row → p.in_a_row ≤ MOST_TIMES → (turns : List Turn) →
    (last : Served) → ComeInTurn p turns last →
    (IsLeftOut (of_files p) is_of_files turns → length turns ≤ p.in_a_row + 1)
    × (IsLeftOut trimming is_of_commits turns → length turns ≤ p.in_a_row + 1)
    × (IsLeftOut (collecting p) is_of_versions turns → length turns ≤ p.in_a_row + 1)
