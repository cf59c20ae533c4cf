-- What finishing does with the words of a transaction.
use Rattle.std.specs.Prelude.{ℕ, ◌≡◌, ◌≤◌, if◌then◌else◌, List, [], ◌∷◌, slice_get, Option, None, Some, ⊤}
use Rattle.mvo_types.specs.declared.refusal.Refusal.{Refusal}
use Rattle.mvo_types.specs.declared.refusal.Refusal.TheVariants.{NoSuchTransaction, NotEnded}
use Rattle.mvo_word.specs.declared.held.Held.{Held}
use Rattle.mvo_word.specs.declared.held.Held.TheVariants.{At, Infinity}
use Rattle.mvo_chain.specs.Slots.{Slots}
use Rattle.mvo_txn.specs.declared.state.TxState.{TxState}
use Rattle.mvo_txn.specs.declared.state.TxState.TheVariants.{Active, Preparing, Committed, Aborted}
use Rattle.mvo_txn.specs.Txns.{Txns}
use Rattle.mvo_deps.specs.declared.node.Node.{Node}
use Rattle.mvo_work.specs.declared.word_place.WordPlace.{WordPlace}
use Rattle.mvo_representation.specs.WordLists.{number_at_word, names_at, with_word}
use Rattle.mvo_versions.specs.Data.{VersionsData}
use Rattle.mvo_versions.specs.Changes.{IsReworded}
use Rattle.mvo_core.specs.declared.kept_transaction.KeptTransaction.{KeptTransaction}
use Rattle.mvo_core.specs.Keeping.{IsWritten, HasDropped}
use Rattle.mvo_core.specs.Standing.{words_in}

-- ---- who may be finished, and what its words say then
abbrev pub why_not_finished : Option TxState → Option Refusal
why_not_finished None = Some NoSuchTransaction
why_not_finished (Some Active) = Some NotEnded
why_not_finished (Some (Preparing e)) = Some NotEnded
why_not_finished (Some (Committed e)) = None
why_not_finished (Some Aborted) = None

-- the end of one that committed, infinity of one that was aborted
abbrev pub IsFinalWord : Option TxState → Held → Type 0
IsFinalWord None w = ⊥
IsFinalWord (Some Active) w = ⊥
IsFinalWord (Some (Preparing e)) w = ⊥
IsFinalWord (Some (Committed e)) w = w ≡ At e
IsFinalWord (Some Aborted) w = w ≡ Infinity

-- the end of one that committed was drawn
abbrev pub HasDrawnEnd : ℕ → Option TxState → Type 0
HasDrawnEnd clock None = ⊤
HasDrawnEnd clock (Some Active) = ⊤
HasDrawnEnd clock (Some (Preparing e)) = ⊤
HasDrawnEnd clock (Some (Committed e)) = e.0 ≤ clock
HasDrawnEnd clock (Some Aborted) = ⊤

-- ---- the list of words
-- from the first word on that still names the transaction
abbrev pub from_own : Slots → ℕ → List WordPlace → List WordPlace
from_own slots t [] = []
from_own slots t (p ∷ ps) = if names_at slots t p then p ∷ ps else from_own slots t ps

-- the words in front that others took over are taken off
pub record HasPassed (slots : Slots) (t : ℕ) (old new : KeptTransaction) : Type 0 where
  pub words : new.writes.words ≡ from_own slots t old.writes.words
  pub place : new.place ≡ old.place
  pub checked : new.checked ≡ old.checked
  pub valid : new.valid ≡ old.valid
  pub kind : new.kind ≡ old.kind

-- the first word is replaced and taken off, if there is one
abbrev pub IsFirstReplaced : VersionsData → VersionsData → Txns (Node KeptTransaction)
    → Txns (Node KeptTransaction) → ℕ → Held → Option WordPlace → Type 0
IsFirstReplaced old new table table' t w None = (new ≡ old) × (table' ≡ table)
IsFirstReplaced old new table table' t w (Some p) =
    IsReworded old new (number_at_word p) (with_word p w) × IsWritten table table' t HasDropped

-- the words in front that others took over are taken off, and then the first one is replaced
pub record IsNextReplaced (old new : VersionsData) (table table' : Txns (Node KeptTransaction))
    (t : ℕ) (w : Held) : Type 0 where
  pub between : Txns (Node KeptTransaction)
  pub passed : IsWritten table between t (HasPassed old.slots t)
  pub first : IsFirstReplaced old new between table' t w (slice_get (words_in between t) 0)

-- so it is, and those behind it that others took over are taken off
pub record IsOneReplaced (old new : VersionsData) (table table' : Txns (Node KeptTransaction))
    (t : ℕ) (w : Held) : Type 0 where
  pub between : Txns (Node KeptTransaction)
  pub next : IsNextReplaced old new table between t w
  pub passed : IsWritten between table' t (HasPassed new.slots t)

-- the word at the place is replaced, if there is a place
abbrev pub IsRewordedAt : VersionsData → VersionsData → Option WordPlace → Held → Type 0
IsRewordedAt old new None w = new ≡ old
IsRewordedAt old new (Some p) w = IsReworded old new (number_at_word p) (with_word p w)
