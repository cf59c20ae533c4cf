-- By whom an entry differs, by the trace.
use Rattle.std.specs.Prelude.{ℕ, ◌≡◌, ◌<◌, ◌≤◌, true, is_some, List, Option, Some, slice_get}
use Rattle.std.specs.List.{list_any}
use Rattle.mvo_types.specs.Keys.{Map}
use Rattle.mvo_model.specs.History.{net_write}
use Rattle.mvo_model.specs.Trace.{Step, history_of, phase_of}
use Rattle.mvo_model.specs.Trace.Phase.{Preparing}
use Rattle.mvo_types.specs.declared.entry.Entry.{Entry}
use Rattle.mvo_theory.specs.Entries.{entries}
use Rattle.mvo_types.specs.declared.entry.Entry.TheVariants.{Key, Range}
use Rattle.mvo_theory.specs.Ranges.{shows}
use Rattle.mvo_theory.specs.Snapshots.{footprint_in}
use Rattle.mvo_theory.specs.Counts.{checks_in}
use Rattle.mvo_theory.specs.Ends.{EndsAt}

-- u has a writing answer on the key, or one that put or ended a row in the range
abbrev pub HasChanged : Map → List Step → Entry → ℕ → Type 0
HasChanged opening steps (Key k) u = is_some (net_write k (history_of u steps)) ≡ true
HasChanged opening steps (Range table lo hi) u =
    list_any (shows (Range table lo hi)) (footprint_in opening steps u) ≡ true

-- the entry differs by one with the end n, for a transaction with the begin b and the end e: it is
-- Preparing or Committed, ends between them, and has changed the entry
pub record DiffersBy (opening : Map) (steps : List Step) (entry : Entry) (b e n : ℕ) : Type 0 where
  pub writer : ℕ
  pub ends : EndsAt steps writer n
  pub above : b < n
  pub below : n < e
  pub changed : HasChanged opening steps entry writer

-- the entry that the next check of t looks at: the first behind those that passed
abbrev pub next_entry : ℕ → List Step → Option Entry
next_entry t steps = slice_get (entries (history_of t steps)) (checks_in t steps)

-- the next entry of t, which is Preparing, differs by one with the end n
pub record NextDiffers (opening : Map) (steps : List Step) (t n : ℕ) : Type 0 where
  pub end' : ℕ
  pub preparing : phase_of t steps ≡ Preparing end'
  pub entry : Entry
  pub next : next_entry t steps ≡ Some entry
  pub differs : DiffersBy opening steps entry t end' n

-- and n is the greatest such end
pub record NextDiffersLast (opening : Map) (steps : List Step) (t n : ℕ) : Type 0 where
  pub differs : NextDiffers opening steps t n
  pub greatest : (m : ℕ) → NextDiffers opening steps t m → m ≤ n
