-- How many timestamps were drawn, transactions are unfinished and checks passed, by the trace.
use Rattle.std.specs.Prelude.{ℕ, ◌-◌, ◌==◌, nat_lt, nat_le, Bool, true, false, not, ◌&&◌, List, length}
use Rattle.mvo_model.specs.Trace.{Step, history_of}
use Rattle.mvo_model.specs.Trace.Step.{Begins, Answers, Prepares, Checks, Commits, Aborts, Terminates}
use Rattle.mvo_theory.specs.Entries.{entries}
use Rattle.mvo_theory.specs.Sound.{how_many}

-- a begin draws a timestamp, and so does a precommit, unless the end is the begin: one that is
-- read-only gets no other
abbrev pub is_draw : Step → Bool
is_draw (Begins t) = true
is_draw (Prepares t e) = not (e == t)
is_draw (Answers t op s) = false
is_draw (Checks t) = false
is_draw (Commits t e) = false
is_draw (Aborts t) = false
is_draw (Terminates t) = false

abbrev pub draws : List Step → ℕ
draws steps = how_many is_draw steps

abbrev pub is_begin : Step → Bool
is_begin (Begins t) = true
is_begin (Prepares t e) = false
is_begin (Answers t op s) = false
is_begin (Checks t) = false
is_begin (Commits t e) = false
is_begin (Aborts t) = false
is_begin (Terminates t) = false

abbrev pub is_finish : Step → Bool
is_finish (Terminates t) = true
is_finish (Begins t) = false
is_finish (Prepares t e) = false
is_finish (Answers t op s) = false
is_finish (Checks t) = false
is_finish (Commits t e) = false
is_finish (Aborts t) = false

-- how many transactions are unfinished: those that began, but for those that were finished
abbrev pub unfinished_in : List Step → ℕ
unfinished_in steps = how_many is_begin steps - how_many is_finish steps

abbrev pub is_check_of : ℕ → Step → Bool
is_check_of t (Checks u) = u == t
is_check_of t (Begins u) = false
is_check_of t (Prepares u e) = false
is_check_of t (Answers u op s) = false
is_check_of t (Commits u e) = false
is_check_of t (Aborts u) = false
is_check_of t (Terminates u) = false

-- how many checks of the transaction passed
abbrev pub checks_in : ℕ → List Step → ℕ
checks_in t steps = how_many (is_check_of t) steps

-- whether one of them was answered Valid: no entry was left behind it
abbrev pub is_validated : ℕ → List Step → Bool
is_validated t steps =
    nat_lt 0 (checks_in t steps)
    && nat_le (length (entries (history_of t steps))) (checks_in t steps)
