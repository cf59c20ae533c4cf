-- The works of transactions, by id.
use Rattle.std.specs.Prelude.{◌≡◌, ◌<◌, ℕ, false, nat_eq, List, Option, None, Some}
use Rattle.std.specs.List.{AllByRecursion}
use Rattle.std.specs.Map.{lookup}
use Rattle.mvo_types.specs.declared.op.Op.{Op}
use Rattle.mvo_types.specs.RowData.{RowData}
use Rattle.mvo_types.specs.AnswerData.{AnswerData}
use Rattle.mvo_theory.specs.Causes.{is_entry_too_many}
use Rattle.mvo_theory.specs.Entries.{entry_of}
use Rattle.mvo_shared.specs.Kept.{WorkContent, with_looked, answer_kept}
use Rattle.mvo_shared.specs.Shared.{WorksById, with_work}
use Rattle.mvo_shared.specs.Held.{empty_work}
use Rattle.mvo_work.specs.Limits.{MayFollow}
use Rattle.mvo_content.specs.Shown.{AreRowsOf}
use Rattle.mvo_content.specs.Done.{DoneData, work_in}
use Rattle.mvo_content.specs.Next.{NextData, IsPreparedFor}

-- what lies in memory, each with its id
abbrev pub WorksData : Type 0
WorksData = List (ℕ × DoneData)

abbrev pub done_at : WorksData → ℕ → Option DoneData
done_at ws t = lookup (nat_eq t) ws

abbrev pub work_if_there : Option DoneData → WorkContent
work_if_there None = empty_work
work_if_there (Some d) = work_in d

-- the work of each id: nothing done, where none lies there
abbrev pub works_in : WorksData → WorksById
works_in ws t = work_if_there (done_at ws t)

-- nothing is done in any of these
abbrev pub AreIdle : List DoneData → Type 0
AreIdle ds = AllByRecursion (λ d. work_in d ≡ empty_work) ds

-- what each has done stays
abbrev pub HaveSameWorks : WorksData → WorksData → Type 0
HaveSameWorks old new = (u : ℕ) → works_in new u ≡ works_in old u

-- the one has done this, and the others' works stay
abbrev pub HasWorkFor : WorksData → WorksData → ℕ → WorkContent → Type 0
HasWorkFor old new t w = (u : ℕ) → works_in new u ≡ with_work (works_in old) t w u

-- the operation is prepared for the work that lies there, in which there is room for it
pub record IsPreparedAt (ws : WorksData) (t : ℕ) (op : Op) (rows : List RowData)
    (n : NextData) : Type 0 where
  pub done : DoneData
  pub at : done_at ws t ≡ Some done
  pub room : 0 < done.room
  pub next : IsPreparedFor done op rows n

-- it may be told so
pub record MayBeTold (ws : WorksData) (t : ℕ) (n : NextData) : Type 0 where
  pub done : DoneData
  pub at : done_at ws t ≡ Some done
  pub room : 0 < done.room
  pub limits : MayFollow done.history n.op n.answer
  pub few : is_entry_too_many done.history (entry_of n.op) ≡ false
  pub answer :
      n.answer ≡ answer_kept (with_looked done.looked (entry_of n.op) n.rows) done.history n.op

-- what the operation is answered behind what was done, where others show these rows in its entry
abbrev pub answer_of_work : WorkContent → Op → List RowData → AnswerData
answer_of_work w op rows = answer_kept (with_looked w.looked (entry_of op) rows) w.history op

-- it may be done there and then, where others show these rows in its entry
pub record MayBeKept (ws : WorksData) (t : ℕ) (op : Op) (rows : List RowData) : Type 0 where
  pub shown : AreRowsOf (entry_of op) rows
  pub limits : (a : AnswerData) → MayFollow (works_in ws t).history op a
  pub few : is_entry_too_many (works_in ws t).history (entry_of op) ≡ false
