-- On whom a transaction rests, read off what happened.
use Rattle.std.specs.Prelude.{ℕ, ◌≡◌, ◌≤◌, nat_lt, Bool, true, false, ◌||◌, ◌&&◌, is_some, List, ◌∷◌, ◌++◌, length}
use Rattle.std.specs.List.{list_any}
use Rattle.std.specs.FinMap as fin
use Rattle.mvo_types.specs.declared.row.RowKey.{RowKey}
use Rattle.mvo_types.specs.declared.op.Op.{Op}
use Rattle.mvo_types.specs.declared.entry.Entry.{Entry}
use Rattle.mvo_types.specs.declared.entry.Entry.TheVariants.{Key, Range}
use Rattle.mvo_types.specs.Keys.{Map}
use Rattle.mvo_types.specs.AnswerData.{AnswerData}
use Rattle.mvo_model.specs.History.{net_write}
use Rattle.mvo_model.specs.Trace.{Step, history_of, phase_of, rows_up_to}
use Rattle.mvo_model.specs.Trace.Step.{Answers, Aborts}
use Rattle.mvo_model.specs.Trace.Phase.{Preparing}
use Rattle.mvo_theory.specs.Entries.{entry_of}
use Rattle.mvo_theory.specs.Ranges.{Row, shows, pass, puts, is_row_of}
use Rattle.mvo_theory.specs.Snapshots.{ended_in, is_aborted}
use Rattle.mvo_theory.specs.Traced.{IsLastWriter}
use Rattle.mvo_theory.specs.rests.Course.{Course, start_behind}

-- whether one that is Preparing or Committed with an end above m and below b put a row of the key
-- that passes
abbrev pub is_put_between : (Row → Bool) → RowKey → ℕ → ℕ → List Step → Bool
is_put_between p q m b steps =
    list_any
    (λ c. (nat_lt m c.0 && nat_lt c.0 b) && list_any (is_row_of p q) (puts (history_of c.1 steps)))
    (ended_in steps)

-- One with the begin b looks at the key: it is the one named; or the range has a row of it, where
-- the history starts, at m, or put since by one that ends below b.
abbrev pub LooksAt : Map → List Step → ℕ → ℕ → Entry → RowKey → Type 0
LooksAt rows steps m b (Key k) q = q ≡ k
LooksAt rows steps m b (Range table lo hi) q =
    (is_some (pass (shows (Range table lo hi)) q (fin.get (rows_up_to m rows steps) q))
    || is_put_between (shows (Range table lo hi)) q m b steps) ≡ true

-- An operation of t that comes now depends on x: x is Preparing with the end e, and the last writer
-- of a key that t looks at and hasn't written.
pub record DependsNow (rows : Map) (steps : List Step) (m t : ℕ) (op : Op) (x e : ℕ) :
    Type 0 where
  pub key : RowKey
  pub looked : LooksAt rows steps m t (entry_of op) key
  pub unwritten : is_some (net_write key (history_of t steps)) ≡ false
  pub writer : IsLastWriter steps key t x e

-- t rests on x, which got the end e: an operation of t depended on it
pub record RestsOn (c : Course) (t x e : ℕ) : Type 0 where
  pub before : List Step
  pub op : Op
  pub answer : AnswerData
  pub after : List Step
  pub then' : c.steps ≡ before ++ (Answers t op answer ∷ after)
  pub depends : DependsNow c.rows before (start_behind c.mark c.trims (length before)) t op x e

-- t rests on none that was aborted
abbrev pub RestsOnNoAborted : Course → ℕ → Type 0
RestsOnNoAborted c t = (x e : ℕ) → RestsOn c t x e → is_aborted x c.steps ≡ false

-- of those that were aborted and on whom t rests, x is the first
pub record IsFirstAborted (c : Course) (t x : ℕ) : Type 0 where
  pub end' : ℕ
  pub rests : RestsOn c t x end'
  pub before : List Step
  pub after : List Step
  pub then' : c.steps ≡ before ++ (Aborts x ∷ after)
  pub first : (y e : ℕ) → RestsOn c t y e → is_aborted y before ≡ false

-- t rests on x, which is Preparing with the end e
pub record Awaits (c : Course) (t x e : ℕ) : Type 0 where
  pub rests : RestsOn c t x e
  pub preparing : phase_of x c.steps ≡ Preparing e

-- of those that are Preparing and on whom t rests, x has the least end
pub record IsFirstAwaited (c : Course) (t x : ℕ) : Type 0 where
  pub end' : ℕ
  pub awaits : Awaits c t x end'
  pub least : (y e : ℕ) → Awaits c t y e → end' ≤ e

-- t rests on none that is Preparing
abbrev pub AwaitsNone : Course → ℕ → Type 0
AwaitsNone c t = (x e : ℕ) → Awaits c t x e → ⊥
