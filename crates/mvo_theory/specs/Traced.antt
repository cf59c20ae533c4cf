-- What a transaction depends on, read off the trace.
use Rattle.std.specs.Prelude.{ℕ, ◌≡◌, ◌<◌, ◌==◌, Bool, true, false, ◌||◌, is_some, List, ◌∷◌, ◌++◌, Option, None, Some}
use Rattle.std.specs.List.{AllByRecursion, list_any}
use Rattle.std.specs.FinMap as fin
use Rattle.mvo_types.specs.declared.row.RowKey.{RowKey}
use Rattle.mvo_types.specs.declared.op.Op.{Op}
use Rattle.mvo_types.specs.Keys.{Map}
use Rattle.mvo_types.specs.AnswerData.{AnswerData}
use Rattle.mvo_model.specs.History.{write_of, net_write}
use Rattle.mvo_model.specs.Trace.{Step, history_of, committed, phase_of}
use Rattle.mvo_model.specs.Trace.Step.{Begins, Answers, Prepares, Checks, Commits, Aborts, Terminates}
use Rattle.mvo_model.specs.Trace.Phase.{Preparing}
use Rattle.mvo_types.specs.declared.entry.Entry.{Entry}
use Rattle.mvo_theory.specs.Entries.{entry_of}
use Rattle.mvo_theory.specs.Ranges.{Row, shows, pass, put_by, is_row_of}
use Rattle.mvo_theory.specs.State.{State, StampedTx}
use Rattle.mvo_types.specs.declared.entry.Entry.TheVariants.{Key, Range}

-- x is Preparing with the end e, below the begin b, and is the last writer of the key: none that is
-- Preparing or Committed with an end between has a writing answer on it
pub record IsLastWriter (steps : List Step) (k : RowKey) (b x e : ℕ) : Type 0 where
  pub preparing : phase_of x steps ≡ Preparing e
  pub below : e < b
  pub writes : is_some (net_write k (history_of x steps)) ≡ true
  pub no_preparing : (z n : ℕ) → phase_of z steps ≡ Preparing n → e < n → n < b
      → net_write k (history_of z steps) ≡ None
  pub no_committed :
      AllByRecursion (λ c. e < c.0 → c.0 < b → net_write k (history_of c.1 steps) ≡ None)
      (committed steps)

-- whether the step puts a row of the key that passes
abbrev pub puts_row : (Row → Bool) → RowKey → Step → Bool
puts_row p q (Answers u op s) = list_any (is_row_of p q) (put_by (write_of op s))
puts_row p q (Begins u) = false
puts_row p q (Prepares u e) = false
puts_row p q (Checks u) = false
puts_row p q (Commits u e) = false
puts_row p q (Aborts u) = false
puts_row p q (Terminates u) = false

-- the key is the one named, or it has had a row in the range, in the opening rows or since
abbrev pub IsLookedAt : Map → List Step → Entry → RowKey → Type 0
IsLookedAt opening steps (Key k) q = q ≡ k
IsLookedAt opening steps (Range table lo hi) q =
    (is_some (pass (shows (Range table lo hi)) q (fin.get opening q))
    || list_any (puts_row (shows (Range table lo hi)) q) steps) ≡ true

-- t depends on x: at an operation of t, x was Preparing and the last writer of a key that t hadn't
-- written, and that was looked at
pub record DependsOn (opening : Map) (steps : List Step) (t x e : ℕ) : Type 0 where
  pub before : List Step
  pub op : Op
  pub answer : AnswerData
  pub after : List Step
  pub then' : steps ≡ before ++ (Answers t op answer ∷ after)
  pub key : RowKey
  pub looked : IsLookedAt opening before (entry_of op) key
  pub unwritten : is_some (net_write key (history_of t before)) ≡ false
  pub writer : IsLastWriter before key t x e

-- whether the step aborts the transaction
abbrev pub is_abort_of : ℕ → Step → Bool
is_abort_of u (Aborts v) = v == u
is_abort_of u (Begins v) = false
is_abort_of u (Answers v op s) = false
is_abort_of u (Prepares v e) = false
is_abort_of u (Checks v) = false
is_abort_of u (Commits v e) = false
is_abort_of u (Terminates v) = false

-- the transaction u was aborted, on which t depended
pub record HasAbortedDependency (opening : Map) (steps : List Step) (t u : ℕ) : Type 0 where
  pub end' : ℕ
  pub depends : DependsOn opening steps t u end'
  pub aborted : list_any (is_abort_of u) steps ≡ true

-- t depends on the transaction with this end, and no other has or had it
pub record IsDependency (opening : Map) (steps : List Step) (stamped : List StampedTx)
    (t d : ℕ) : Type 0 where
  pub id : ℕ
  pub depends : DependsOn opening steps t id d
  pub one : AllByRecursion (λ y. y.end ≡ d → y.id ≡ id) stamped

-- what the state keeps of a transaction's dependencies is what the trace says
pub record IsTraced (opening : Map) (steps : List Step) (stamped : List StampedTx) (t : ℕ)
    (depends_on : List ℕ) (aborted_dependency : Option ℕ) : Type 0 where
  pub depends : AllByRecursion (IsDependency opening steps stamped t) depends_on
  pub flagged : (u : ℕ) → aborted_dependency ≡ Some u → HasAbortedDependency opening steps t u

pub record AreTraced (opening : Map) (steps : List Step) (s : State) : Type 0 where
  pub active :
      AllByRecursion
      (λ r. IsTraced opening steps s.stamped r.id r.depends_on r.aborted_dependency) s.active
  pub preparing :
      AllByRecursion
      (λ x. x.settled ≡ false
      → IsTraced opening steps s.stamped x.id x.depends_on x.aborted_dependency) s.stamped
