-- What is known with both locks.
use Rattle.std.specs.Prelude.{◌≡◌, ◌≤◌, ℕ, nat_lt, List, [], ◌∷◌, ◌++◌}
use Rattle.std.specs.List.{filter}
use Rattle.mvo_types.specs.Keys.{Map}
use Rattle.mvo_model.specs.History.{after_history}
use Rattle.mvo_model.specs.Trace.{Step, IsSerial}
use Rattle.mvo_disk.specs.declared.disk.Disk.{Ghosts}
use Rattle.mvo_disk.specs.Disk.{Image, AllOf, IsHonest}
use Rattle.mvo_group.specs.Data.{GroupData}
use Rattle.mvo_theory.specs.State.{State, timeline, after_settled}
use Rattle.mvo_theory.specs.Marks.{Commit, settled_to}
use Rattle.mvo_readonly.specs.Whole.{WholeState}
use Rattle.mvo_core.specs.WholeStanding.{StandsWhole}
use Rattle.mvo_core.specs.Groups.{HaveRecordsOf}
use Rattle.mvo_store.specs.Rows.{after_groups}
use Rattle.mvo_store.specs.Seen.{disk_of, mark_of}
use Rattle.mvo_engine.specs.run.Opening.{Opening}
use Rattle.mvo_engine.specs.Opening.{GaveWhenOpened, WasFormatted}
use Rattle.mvo_engine.specs.Sound.{last_mark, GivesReceived}
use Rattle.mvo_engine.specs.States.{CoreState, StoreState}

-- the rows after what these commits wrote
abbrev pub after_commits : List Commit → Map → Map
after_commits [] m = m
after_commits (c ∷ cs) m = after_commits cs (after_history c.1 m)

-- the commits that are in no group yet
abbrev pub not_sent : State → List GroupData → List Commit
not_sent s sent = filter (λ c. nat_lt (last_mark sent) c.0) (settled_to s.clock (timeline s))

-- The opening rows followed by the sent groups, and then by the commits that are in no group yet,
-- are the rows after the whole history.
abbrev pub AgreesWithHistory : Map → State → List GroupData → Type 0
AgreesWithHistory opening s sent =
    after_commits (not_sent s sent) (after_groups opening sent) ≡ after_settled s.stamped s.base

-- the tale's rows up to a mark: those at its start, after the stored commits that end there at most
abbrev pub tale_rows : ℕ → State → Map
tale_rows mark s = after_commits (settled_to mark s.stamped) s.base

-- An image gives the opening rows, which are these, followed by a beginning of the groups that were
-- sent, up to a mark at least this one. Where its mark isn't below the start of the tale, its rows
-- are the tale's up to it.
pub record GivesSent (o : Opening) (rows : Map) (s : State) (sent : List GroupData) (least : ℕ)
    (image : Image) : Type 0 where
  pub gives : GivesReceived o sent least image
  pub rows_are : gives.rows ≡ rows
  pub tale : s.start ≤ last_mark gives.front →
      after_groups gives.rows gives.front ≡ tale_rows (last_mark gives.front) s

-- The groups that were received are a beginning of those that were sent. These hold the commits of
-- the whole state for which the core stands, up to the mark of the last one, and agree with its
-- history, which is serial, read-only transactions among the others. Each image that a stop now may
-- leave of a disk that was formatted, and has answered as written, gives a beginning of the sent
-- ones, up to a mark at least the store's.
pub record IsAudited {D : Type 0} (d : Ghosts D) (o : Opening) (c : CoreState)
    (s : StoreState D) : Type 0 where
  pub behind : List GroupData
  pub begins : s.received ++ behind ≡ c.sends.sent
  pub rows : Map
  pub mark : ℕ
  pub gives : GaveWhenOpened rows mark o
  pub steps : List Step
  pub own : List Step
  pub whole : WholeState
  pub stands : StandsWhole rows steps own whole c.core
  pub serial : IsSerial rows steps
  pub groups : HaveRecordsOf whole.core 0 c.sends.sent
  pub agrees : AgreesWithHistory rows whole.core c.sends.sent
  pub images : IsHonest (d.moment (disk_of s.store)) → WasFormatted o → (image : Image) →
      AllOf (d.may_leave (disk_of s.store)) image →
      GivesSent o rows whole.core c.sends.sent (mark_of s.store) image
