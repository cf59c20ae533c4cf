-- What a committed read-only transaction stands for, among those with an end timestamp.
use Rattle.std.specs.Prelude.{ℕ, ◌≡◌, ◌≢◌, ◌<◌, nat_lt, false, ◌&&◌, if◌then◌else◌, List, [], ◌∷◌, ◌++◌, None}
use Rattle.std.specs.List.{AllByRecursion}
use Rattle.mvo_types.specs.Keys.{Map}
use Rattle.mvo_model.specs.History.{History, AreSerial, write_of, after_history}
use Rattle.mvo_theory.specs.State.{StampedTx}
use Rattle.mvo_theory.specs.Sound.{IsApart}

-- no operation of the history has a writing answer
abbrev pub WritesNothing : History → Type 0
WritesNothing ts = AllByRecursion (λ o. write_of o.0 o.1 ≡ None) ts

-- the histories of the settled ones with an end below b, one after another
abbrev pub settled_before : ℕ → List StampedTx → History
settled_before b [] = []
settled_before b (x ∷ xs) =
    (if x.settled && nat_lt x.end b then x.history else []) ++ settled_before b xs

-- The history is one that looked at b alone, and wrote nothing: its answers are those on the rows
-- that the settled ones below b leave, it has looked at nothing that an unsettled one below b
-- wrote, and none of the line ends at b.
pub record IsReadAt (opening : Map) (line : List StampedTx) (b : ℕ) (history : History) :
    Type 0 where
  pub serial : AreSerial history (after_history (settled_before b line) opening)
  pub apart : AllByRecursion (λ x. x.settled ≡ false → x.end < b → IsApart x history) line
  pub others : AllByRecursion (λ x. x.end ≢ b) line
  pub idle : WritesNothing history
