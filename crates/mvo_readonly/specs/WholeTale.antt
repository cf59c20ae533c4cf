-- The stored commits with the read-only ones, and the groups of them.
use Rattle.std.specs.Prelude.{ℕ, nat_lt, nat_le, ◌&&◌, Bool, List, ◌++◌, filter, if◌then◌else◌}
use Rattle.mvo_model.specs.History.{History}
use Rattle.mvo_model.specs.Order.{in_order}
use Rattle.mvo_model.specs.Trace.{Step, end_cmp, history_of}
use Rattle.mvo_theory.specs.AfterTrace.{pairs}
use Rattle.mvo_theory.specs.Groups.{is_due}
use Rattle.mvo_readonly.specs.Whole.{CommittedReader, WholeState}
use Rattle.mvo_readonly.specs.WholeKept.{reader_commits}

-- the committed read-only ones that end above the start
abbrev pub stored_readers : ℕ → List CommittedReader → List CommittedReader
stored_readers start ys = filter (λ y. nat_lt start y.id) ys

-- the stored commits, by end timestamp: a read-only one stands at its begin
abbrev pub whole_tale : WholeState → List (ℕ × ℕ)
whole_tale w =
    in_order end_cmp
    (reader_commits (stored_readers w.core.start w.committed_readers) ++ pairs w.core.stamped)

-- what the one that a commit is of was told
abbrev pub told_in : List Step → ℕ × ℕ → History
told_in steps c = history_of c.1 steps

-- whether a group above prev and up to m takes the commit
abbrev pub is_in_group : List Step → ℕ → ℕ → ℕ × ℕ → Bool
is_in_group steps prev m c = nat_le c.0 m && is_due prev (c.0, told_in steps c)

-- what a commit weighs that ends above the start; one up to it weighs nothing
abbrev pub weight_above : ℕ → (ℕ × ℕ → ℕ) → ℕ × ℕ → ℕ
weight_above start weight c = if nat_lt start c.0 then weight c else 0
