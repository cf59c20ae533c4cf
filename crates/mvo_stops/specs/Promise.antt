-- What was promised of the rows and the mark that a stop or a fault leaves.
use Rattle.std.specs.Prelude.{◌≡◌, ◌≤◌, ℕ, nat_le, List, [], ◌∷◌, map, filter}
use Rattle.std.specs.FinMap as fin
use Rattle.mvo_types.specs.declared.op.Op.{Op}
use Rattle.mvo_types.specs.Keys.{Map}
use Rattle.mvo_types.specs.RowData.{RowData, content_of}
use Rattle.mvo_types.specs.RowLists.{rows_by_key}
use Rattle.mvo_model.specs.Answers.{rows_after_transactions}
use Rattle.mvo_stops.specs.declared.commit.Commit.{Commit}

-- a map with these rows put into it, one after another
abbrev pub with_rows : List RowData → Map → Map
with_rows [] m = m
with_rows (r ∷ rs) m = with_rows rs (fin.insert m r.key (content_of r))

-- the operations of the commits up to a mark
abbrev pub up_to : ℕ → List Commit → List (List Op)
up_to mark commits = map (λ c. c.ops.items) (filter (λ c. nat_le c.end.0 mark) commits)

-- the rows after the commits up to a mark, from the rows at the start
abbrev pub rows_of_commits : ℕ → List Commit → List RowData → Map
rows_of_commits mark commits start =
    rows_after_transactions (up_to mark commits) (with_rows start fin.empty)

-- All that was acknowledged is there, nothing is there that can't have been drawn, and the rows are
-- those after the commits up to the mark.
pub record IsPromised (least most : ℕ) (commits : List Commit) (start : List RowData) (held : Map)
    (mark : ℕ) : Type 0 where
  pub acknowledged : least ≤ mark
  pub drawn : mark ≤ most
  pub rows : rows_by_key held ≡ rows_by_key (rows_of_commits mark commits start)
