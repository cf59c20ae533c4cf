-- What a world remembers of its past.
use Rattle.std.specs.Prelude.{ℕ, ◌+◌, ◌==◌, not, true, List, [], ◌∷◌, ◌++◌, length, map, filter}
use Rattle.mvo_model.specs.Trace.{Step, IsSerial}
use Rattle.mvo_model.specs.Trace.Step.{Begins, Answers, Prepares, Checks, Commits, Aborts, Terminates}
use Rattle.mvo_types.specs.Keys.{Map}
use Rattle.mvo_types.specs.AnswerData.{answer_data}
use Rattle.mvo_theory.specs.Steps.{steps_of_refusal}
use Rattle.mvo_theory.specs.rests.Course.{Course}
use Rattle.mvo_core.specs.declared.answers.Settlement.TheVariants.{Committed}
use Rattle.mvo_core.specs.declared.answers.Finishing.TheVariants.{More, Done}
use Rattle.mvo_core.specs.Collection.TheVariants as collection
use Rattle.mvo_store.specs.declared.call.StoreCall.TheVariants.{AppendOpen}
use Rattle.mvo_world.specs.declared.event.Event.{Event}
use Rattle.mvo_world.specs.declared.event.Event.TheVariants.{Begin, BeginReadOnly, Do, Precommit, Validate, Settle, Rollback, Finish, Collect, Trim, CloseGroup, TakeGroup, Store, Poll}
use Rattle.mvo_world.specs.declared.reply.Reply.{Reply}
use Rattle.mvo_world.specs.declared.reply.Reply.TheVariants.{Began, Answered, Prepared, Validated, Settled, RolledBack, Finished, Collected, Trimmed, Closed, Taken, Durable, Polled, Refused}

pub record Past : Type 0 where
  -- the rows and the mark that it was opened with
  pub rows : Map
  pub mark : ℕ
  -- the steps of the transactions since
  pub steps : List Step
  -- each trim: how many steps were before it, and where the history starts from then on
  pub trims : List (ℕ × ℕ)
  -- the opening mark, the marks that were answered durable, and the timestamps polled with yes
  pub acknowledged : List ℕ
  -- the marks of the groups that were closed, and how many of them the store took
  pub closed : List ℕ
  pub taken : ℕ
  -- of the transactions that are being finished, whose each More was
  pub mores : List ℕ
  -- how many versions were collected
  pub collected : ℕ
  -- the transactions that began read-only
  pub read_only : List ℕ

-- just opened over these rows at this mark
abbrev pub opened_over : Map → ℕ → Past
opened_over rows mark = record {
  rows = rows;
  mark = mark;
  steps = [];
  trims = [];
  acknowledged = mark ∷ [];
  closed = [];
  taken = 0;
  mores = [];
  collected = 0;
  read_only = [];
}

-- what happened to its transactions, and the trims
abbrev pub course_of : Past → Course
course_of p = record { rows = p.rows; mark = p.mark; steps = p.steps; trims = p.trims }

-- the committed transactions were told what they are told one after another
abbrev pub IsSerialPast : Past → Type 0
IsSerialPast p = IsSerial p.rows p.steps

-- ---- an event with its reply

-- What it is in the trace. A refusal that is a failure aborts its transaction.
abbrev pub happened : Event → Reply → List Step
happened Begin (Began t) = Begins t.0 ∷ []
happened BeginReadOnly (Began t) = Begins t.0 ∷ []
happened (Do t op) (Answered a) = Answers t.0 op (answer_data a) ∷ []
happened (Do t op) (Refused r) = steps_of_refusal t.0 r
happened (Precommit t) (Prepared e) = Prepares t.0 e.0 ∷ []
happened (Precommit t) (Refused r) = steps_of_refusal t.0 r
happened (Validate t) (Validated v) = Checks t.0 ∷ []
happened (Validate t) (Refused r) = steps_of_refusal t.0 r
happened (Settle t) (Settled (Committed e)) = Commits t.0 e.0 ∷ []
happened (Settle t) (Refused r) = steps_of_refusal t.0 r
happened (Rollback t) RolledBack = Aborts t.0 ∷ []
happened (Finish t) (Finished Done) = Terminates t.0 ∷ []
happened e r = []

-- up to where the history was trimmed
abbrev pub trimmed_by : Event → Reply → List ℕ
trimmed_by (Trim upto) (Trimmed stamp) = upto.0 ∷ []
trimmed_by e r = []

-- an answered durable mark, or a timestamp whose poll answered yes
abbrev pub acknowledged_by : Event → Reply → List ℕ
acknowledged_by (Store AppendOpen) (Durable mark) = mark.0 ∷ []
acknowledged_by (Poll stamp) (Polled true) = stamp.0 ∷ []
acknowledged_by e r = []

-- the mark of a group that was closed
abbrev pub closed_by : Event → Reply → List ℕ
closed_by CloseGroup (Closed c) = c.mark.0 ∷ []
closed_by e r = []

-- how many groups the store took
abbrev pub taken_by : Event → Reply → ℕ
taken_by TakeGroup Taken = 1
taken_by e r = 0

-- with the More that was answered; where it was Done, with none of that transaction
abbrev pub mores_after : Event → Reply → List ℕ → List ℕ
mores_after (Finish t) (Finished More) mores = mores ++ t.0 ∷ []
mores_after (Finish t) (Finished Done) mores = filter (λ u. not (u == t.0)) mores
mores_after e r mores = mores

-- how many versions were collected
abbrev pub collected_by : Event → Reply → ℕ
collected_by Collect (Collected collection.Collected) = 1
collected_by e r = 0

-- the transaction that began read-only
abbrev pub read_only_by : Event → Reply → List ℕ
read_only_by BeginReadOnly (Began t) = t.0 ∷ []
read_only_by e r = []

abbrev pub with_event : Past → Event → Reply → Past
with_event p e r = record {
  rows = p.rows;
  mark = p.mark;
  steps = p.steps ++ happened e r;
  trims = p.trims ++ map (λ m. (length p.steps, m)) (trimmed_by e r);
  acknowledged = p.acknowledged ++ acknowledged_by e r;
  closed = p.closed ++ closed_by e r;
  taken = p.taken + taken_by e r;
  mores = mores_after e r p.mores;
  collected = p.collected + collected_by e r;
  read_only = p.read_only ++ read_only_by e r;
}

-- one event with its reply after another
abbrev pub with_events : Past → List Event → List Reply → Past
with_events p [] rs = p
with_events p (e ∷ es) [] = p
with_events p (e ∷ es) (r ∷ rs) = with_events (with_event p e r) es rs
