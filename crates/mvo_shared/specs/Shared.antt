-- What a core keeps without knowing the works: of an Active transaction what it wrote, and of one
-- with an end timestamp also what precommit took out of its work.
use Rattle.std.specs.Prelude.{ℕ, ◌≡◌, ◌==◌, ◌≢◌, not, ◌&&◌, Bool, true, false, ◌||◌, cond, if◌then◌else◌, is_some, List, [], ◌∷◌, map, take, Option, None, Some, ⊤}
use Rattle.std.specs.List.{AllByRecursion}
use Rattle.mvo_types.specs.declared.row.RowKey.{RowKey}
use Rattle.mvo_types.specs.declared.op.Op.{Op}
use Rattle.mvo_types.specs.Keys.{Map}
use Rattle.mvo_model.specs.History.{History, write_of, net_write, after_history, AreSerial}
use Rattle.mvo_theory.specs.State.{State, ActiveTx, StampedTx, seen_by}
use Rattle.mvo_types.specs.Entries.{has_entry}
use Rattle.mvo_theory.specs.Entries.{entry_of}
use Rattle.mvo_theory.specs.Dependencies.{dependencies, last_writer, has_end, keys_for, unwritten}
use Rattle.mvo_theory.specs.Sound.{IsDecidedOn, IsUnchanged, IsApart, IsSound}
use Rattle.mvo_types.specs.RowData.{RowData}
use Rattle.mvo_shared.specs.Kept.{Looked, WorkContent, IsWork, AreShown, rows_shown, rows_kept, entries_in}

-- ---- what precommit took out of a work
pub record TakenWork : Type 0 where
  pub work : WorkContent
  pub checked : ℕ  -- how many of its entries are checked

abbrev pub looked_of : TakenWork → List Looked
looked_of w = w.work.looked

abbrev pub taken_history : TakenWork → History
taken_history w = w.work.history

-- by the end timestamp
abbrev pub AllTaken : Type 0
AllTaken = ℕ → TakenWork

-- with this one at the end e
abbrev pub with_taken : AllTaken → ℕ → TakenWork → AllTaken
with_taken all e w = λ n. if n == e then w else all n

-- ---- what holds of them
-- the operations that the core saw are those that wrote
abbrev pub OnlyWrites : History → Type 0
OnlyWrites ts = AllByRecursion (λ o. is_some (write_of o.0 o.1) ≡ true) ts

-- the two write the same: what stands at each key after the one stands there after the other
abbrev pub WriteTheSame : History → History → Type 0
WriteTheSame ts us = (k : RowKey) → net_write k ts ≡ net_write k us

-- a work whose writes are those that the core saw
pub record IsTakenWork (x : StampedTx) (w : TakenWork) : Type 0 where
  pub work : IsWork w.work
  pub writes : WriteTheSame x.history (taken_history w)

-- others show what these entries keep to who begins here, and who decides them is settled or
-- depended on
pub record AreSeen (base : Map) (stamped : List StampedTx) (id : ℕ) (ds : List ℕ)
    (looked : List Looked) : Type 0 where
  pub shown : AreShown (seen_by base stamped id) looked
  pub decided : AllByRecursion (λ l. IsDecidedOn l.entry id ds base stamped) looked

-- no other has changed these entries between the begin and the end
abbrev pub AreUnchanged : List StampedTx → ℕ → ℕ → List Looked → Type 0
AreUnchanged stamped begin end' looked =
    AllByRecursion (λ l. IsUnchanged stamped begin end' l.entry) looked

-- a Preparing one: what a check has found of these entries
pub record AreFound (base : Map) (stamped : List StampedTx) (x : StampedTx)
    (looked : List Looked) : Type 0 where
  pub seen : x.aborted_dependency ≡ None → AreSeen base stamped x.id x.depends_on looked
  pub still : AreUnchanged stamped x.id x.end looked

pub record IsChecking (base : Map) (stamped : List StampedTx) (x : StampedTx)
    (w : TakenWork) : Type 0 where
  pub found : AreFound base stamped x (take w.checked (looked_of w))
  pub all : x.valid ≡ true → AreFound base stamped x (looked_of w)

-- the settled ones, one after another: what each was told is what the serial steps answer
abbrev pub AreToldSerially : AllTaken → Map → List StampedTx → Type 0
AreToldSerially all m [] = ⊤
AreToldSerially all m (x ∷ xs) =
    (x.settled ≡ true → AreSerial (taken_history (all x.end)) m)
    × AreToldSerially all (after_history (cond x.settled x.history []) m) xs

-- no settled one was told of what an earlier one wrote that isn't settled
abbrev pub AreToldApart : AllTaken → List StampedTx → Type 0
AreToldApart all [] = ⊤
AreToldApart all (x ∷ xs) =
    (x.settled ≡ false
    → AllByRecursion (λ u. u.settled ≡ true → IsApart x (taken_history (all u.end))) xs)
    × AreToldApart all xs

-- what a core keeps, whatever works it is given
pub record IsShared (s : State) (all : AllTaken) : Type 0 where
  pub sound : IsSound s
  pub active : AllByRecursion (λ r. OnlyWrites r.history) s.active
  pub stamped : AllByRecursion (λ x. OnlyWrites x.history) s.stamped
  pub taken : AllByRecursion (λ x. IsTakenWork x (all x.end)) s.stamped
  pub serial : AreToldSerially all s.base s.stamped
  pub apart : AreToldApart all s.stamped
  pub checking :
      AllByRecursion (λ x. x.settled ≡ false → IsChecking s.base s.stamped x (all x.end)) s.stamped
  pub uncounted : AllByRecursion (λ x. x.settled ≡ false → x.checked ≡ 0) s.stamped

-- the histories that the settled ones were told, by end timestamp
abbrev pub told_tale : AllTaken → List StampedTx → List History
told_tale all [] = []
told_tale all (x ∷ xs) =
    cond x.settled (taken_history (all x.end) ∷ told_tale all xs) (told_tale all xs)

-- ---- the steps that differ from those of the theory
-- the Active transaction t depends on who decides where the operation looks; nothing else changes
abbrev pub with_dependencies : State → ℕ → Op → ActiveTx → ActiveTx
with_dependencies s t op r = record r {
  depends_on = if r.id == t then dependencies s op r else r.depends_on;
}

abbrev pub after_registering : State → ℕ → Op → State
after_registering s t op = record s { active = map (with_dependencies s t op) s.active }

-- all entries of the one with the end e are checked
abbrev pub with_valid : ℕ → StampedTx → StampedTx
with_valid e x = record x { valid = x.valid || (x.end == e) }

abbrev pub after_valid : State → ℕ → State
after_valid s e = record s { stamped = map (with_valid e) s.stamped }

-- ---- works that were made on this core
-- the works of the Active transactions, by id
abbrev pub WorksById : Type 0
WorksById = ℕ → WorkContent

-- the work of an Active transaction was made here: what it says to have written is what the core
-- saw it write; and unless the transaction is flagged, others still show what its entries keep, and
-- who decides them is settled or depended on
pub record IsOwnWork (base : Map) (stamped : List StampedTx) (r : ActiveTx)
    (w : WorkContent) : Type 0 where
  pub work : IsWork w
  pub writes : WriteTheSame r.history w.history
  pub seen : r.aborted_dependency ≡ None → AreSeen base stamped r.id r.depends_on w.looked

-- each work was made here, and so were those that precommit took in
pub record AreOwnWorks (s : State) (all : AllTaken) (works : WorksById) : Type 0 where
  pub active : AllByRecursion (λ r. IsOwnWork s.base s.stamped r (works r.id)) s.active
  pub preparing :
      AllByRecursion
      (λ x. x.settled ≡ false → x.aborted_dependency ≡ None
      → AreSeen s.base s.stamped x.id x.depends_on (looked_of (all x.end))) s.stamped

abbrev pub with_work : WorksById → ℕ → WorkContent → WorksById
with_work works t w = λ n. if n == t then w else works n

-- the rows that others show to the begin of a transaction
abbrev pub rows_for : State → ActiveTx → Op → List RowData
rows_for s r op = rows_shown (entry_of op) (seen_by s.base s.stamped r.id)

-- ---- the causes that are new
-- an operation: its entry is kept, and its rows aren't those that others show now
abbrev pub IsLookMismatch : State → ActiveTx → WorkContent → Op → Type 0
IsLookMismatch s r w op =
    (has_entry (entries_in w.looked) (entry_of op) ≡ true)
    × (rows_kept w.looked (entry_of op) ≢ rows_for s r op)

-- precommit: the net writes of the work aren't those that the core saw
abbrev pub IsWriteMismatch : ActiveTx → WorkContent → Type 0
IsWriteMismatch r w = WriteTheSame r.history w.history → ⊥

-- validate_one: the rows of the entry aren't those that others show to the begin, or who decides a
-- key that counts for it is neither settled nor depended on
abbrev pub IsEntryMismatch : Map → List StampedTx → StampedTx → Looked → Type 0
IsEntryMismatch base stamped x l = AreSeen base stamped x.id x.depends_on (l ∷ []) → ⊥

-- ---- when a look needs the exclusive side
abbrev pub is_known : List ℕ → Option StampedTx → Bool
is_known ds None = true
is_known ds (Some x) = x.settled || has_end ds x.end

-- the last writers of these keys are settled or depended on
abbrev pub are_known : List ℕ → List RowKey → ℕ → List StampedTx → Bool
are_known ds [] b stamped = true
are_known ds (k ∷ ks) b stamped = is_known ds (last_writer k b stamped) && are_known ds ks b stamped

-- the look is of a flagged transaction, or has to register a dependency
abbrev pub needs_exclusive : State → ActiveTx → Op → Bool
needs_exclusive s r op =
    is_some r.aborted_dependency
    || not (are_known r.depends_on
    (unwritten r.history (keys_for (entry_of op) r.id s.base s.stamped)) r.id s.stamped)
