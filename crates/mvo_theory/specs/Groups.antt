-- The chain of groups: which commits the next group takes.
use Rattle.std.specs.Prelude.{ℕ, ◌≡◌, ◌==◌, nat_lt, Bool, true, false, not, ◌&&◌, List, [], ◌∷◌, ◌++◌, filter, drop, length, ⊤}
use Rattle.mvo_theory.specs.Entries.{written_keys}
use Rattle.mvo_theory.specs.State.{State, timeline}
use Rattle.mvo_theory.specs.Marks.{Commit, IsClosedAt, settled_to, low_water}

-- a group: the commits with a net write and an end above prev, up to its mark
pub record Group : Type 0 where
  pub prev : ℕ
  pub mark : ℕ
  pub commits : List Commit

-- whether it has a net write
abbrev pub is_writing : Commit → Bool
is_writing c = not (length (written_keys c.1) == 0)

abbrev pub is_due : ℕ → Commit → Bool
is_due prev c = nat_lt prev c.0 && is_writing c

-- the commits that the next group may take: with a net write, above the closed mark and at most
-- the low-water, by end timestamp
abbrev pub due : State → List Commit
due s = filter (is_due s.marks.closed) (settled_to (low_water s) (timeline s))

-- whether a group may have these commits: no more records and bytes than the limits
abbrev pub Limits : Type 0
Limits = List Commit → Bool

-- behind these the next one doesn't fit
abbrev pub IsFull : Limits → List Commit → List Commit → Type 0
IsFull fits taken [] = ⊤
IsFull fits taken (c ∷ cs) = fits (taken ++ c ∷ []) ≡ false

-- the longest beginning of the commits that fits
pub record IsLongest (fits : Limits) (commits taken : List Commit) : Type 0 where
  pub beginning : taken ++ drop (length taken) commits ≡ commits
  pub within : fits taken ≡ true
  pub full : IsFull fits taken (drop (length taken) commits)

abbrev pub last_of : ℕ → List Commit → ℕ
last_of e [] = e
last_of e (c ∷ cs) = last_of c.0 cs

-- the low-water if all are taken, and else the end of the last one that is
abbrev pub mark_by : ℕ → ℕ → List Commit → List Commit → ℕ
mark_by low prev taken [] = low
mark_by low prev taken (c ∷ cs) = last_of prev taken

-- the next group
pub record IsNextGroup (fits : Limits) (s : State) (g : Group) : Type 0 where
  pub prev : g.prev ≡ s.marks.closed
  pub longest : IsLongest fits (due s) g.commits
  pub mark : g.mark
      ≡ mark_by (low_water s) s.marks.closed g.commits (drop (length g.commits) (due s))

-- the group is closed for good: it has the commits with a net write above its prev and at most its
-- mark, and no other will end there
pub record IsGroupOf (s : State) (g : Group) : Type 0 where
  pub closed : IsClosedAt g.mark s
  pub commits : g.commits ≡ filter (is_due g.prev) (settled_to g.mark (timeline s))

-- groups one after another from a mark on, up to the closed mark
abbrev pub AreGroupsOf : State → ℕ → List Group → Type 0
AreGroupsOf s mark [] = mark ≡ s.marks.closed
AreGroupsOf s mark (g ∷ gs) = (g.prev ≡ mark) × IsGroupOf s g × AreGroupsOf s g.mark gs
