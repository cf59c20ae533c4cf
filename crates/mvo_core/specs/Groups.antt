-- Which commits closed groups hold.
use Rattle.std.specs.Prelude.{◌≡◌, ℕ, List, [], ◌∷◌, filter}
use Rattle.mvo_group.specs.Data.{GroupData}
use Rattle.mvo_group.specs.Rules.{KeepsRules}
use Rattle.mvo_theory.specs.State.{State, timeline}
use Rattle.mvo_theory.specs.Marks.{IsClosedAt, settled_to}
use Rattle.mvo_theory.specs.Groups.{is_due}
use Rattle.mvo_tale.specs.Records.{AreRecordsOf}

-- The group has the records of the commits that wrote with an end above its prev and at most its
-- mark; no other will end there.
pub record HasRecordsOf (s : State) (g : GroupData) : Type 0 where
  pub closed : IsClosedAt g.mark s
  pub records : AreRecordsOf (filter (is_due g.prev) (settled_to g.mark (timeline s))) g.records
  pub rules : KeepsRules g

-- one after another from a mark on
abbrev pub HaveRecordsOf : State → ℕ → List GroupData → Type 0
HaveRecordsOf s mark [] = Unit {0}
HaveRecordsOf s mark (g ∷ gs) = (g.prev ≡ mark) × HasRecordsOf s g × HaveRecordsOf s g.mark gs
