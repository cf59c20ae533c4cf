-- The order of the causes: that of a call's refusal is the first of its list that stands.
use Rattle.std.specs.Prelude.{ℕ}
use Rattle.mvo_types.specs.declared.refusal.Refusal.{Refusal}
use Rattle.mvo_types.specs.declared.refusal.Refusal.TheVariants.{NoSuchTransaction, Ended, NotActive, NotPreparing, NotValidated, NotEnded, WriteConflict, ValidationFailed, DependencyAborted, TableFull, TooManyWrites, TooManyReads, DataTooLong, BadTable, ClockSpent, ReadOnly}

-- Where it stands in the list of its call: one order for the lists of all calls, none of which has
-- two at one place.
abbrev pub cause_place : Refusal → ℕ
cause_place NoSuchTransaction = 0
cause_place Ended = 1
cause_place NotActive = 2
cause_place NotPreparing = 2
cause_place NotEnded = 2
cause_place (DependencyAborted by) = 3
cause_place ReadOnly = 4
cause_place BadTable = 4
cause_place NotValidated = 4
cause_place (ValidationFailed stamp) = 4
cause_place TableFull = 4
cause_place DataTooLong = 5
cause_place ClockSpent = 5
cause_place TooManyReads = 6
cause_place TooManyWrites = 7
cause_place (WriteConflict cause) = 8
cause_place r = 9
