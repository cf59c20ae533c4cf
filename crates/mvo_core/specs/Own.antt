-- What is told of what is kept of a transaction, if something is.
use Rattle.std.specs.Prelude.{ℕ, ◌+◌, ◌==◌, not, nat_le, length, Bool, false, if◌then◌else◌, slice_get, [], Option, None, Some}
use Rattle.mvo_model.specs.History.{History}
use Rattle.mvo_types.specs.declared.entry.Entry.{Entry}
use Rattle.mvo_theory.specs.Entries.{entries, written_keys}
use Rattle.mvo_content.specs.Works.{WorksData, works_in}
use Rattle.mvo_core.specs.declared.kept_transaction.KeptTransaction.{KeptTransaction}
use Rattle.mvo_core.specs.declared.answers.Validation.{Validation}
use Rattle.mvo_core.specs.declared.answers.Validation.TheVariants.{More, Valid}

-- whether all of its entries are checked
abbrev pub is_own_valid : Option KeptTransaction → Bool
is_own_valid None = false
is_own_valid (Some own) = own.valid

-- its place in the tale
abbrev pub own_place : Option KeptTransaction → ℕ
own_place None = 0
own_place (Some own) = own.place

-- the operations with their answers that precommit took out of its work
abbrev pub own_history : Option KeptTransaction → History
own_history None = []
own_history (Some own) = own.taken.history

-- whether one that did this has written
abbrev pub has_writes : History → Bool
has_writes ts = not (length (written_keys ts) == 0)

-- its next entry to check
abbrev pub own_entry : Option KeptTransaction → Option Entry
own_entry None = None
own_entry (Some own) = slice_get (entries own.taken.history) own.checked

-- ---- checks
-- of so many entries none is left behind the next one
abbrev pub is_last_check : ℕ → KeptTransaction → Bool
is_last_check count own = nat_le count (own.checked + 1)

abbrev pub checked_as : Bool → Validation
checked_as last = if last then Valid else More

abbrev pub own_check : ℕ → Option KeptTransaction → Validation
own_check count None = Valid
own_check count (Some own) = checked_as (is_last_check count own)

-- what one has done, as its work has it
abbrev pub done_in : WorksData → ℕ → History
done_in works t = (works_in works t).history
