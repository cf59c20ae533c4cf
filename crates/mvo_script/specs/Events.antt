-- Which step of the world a line asks for, and of which transaction.
use Rattle.std.specs.Prelude.{ℕ, List, Option, Some, None}
use Rattle.mvo_types.specs.declared.ids.TxId.{TxId}
use Rattle.mvo_types.specs.declared.op.Op.TheVariants as op
use Rattle.mvo_world.specs.declared.event.Event.{Event}
use Rattle.mvo_world.specs.declared.event.Event.TheVariants as event
use Rattle.mvo_script.specs.declared.line.line.Line.{Line}
use Rattle.mvo_script.specs.declared.line.line.Line.TheVariants as line

-- the name of the transaction that a line asks something of
abbrev pub name_in : Line → Option (List ℕ)
name_in (line.Read name key) = Some name.now
name_in (line.Scan name range) = Some name.now
name_in (line.Insert name row) = Some name.now
name_in (line.Update name row) = Some name.now
name_in (line.Delete name key) = Some name.now
name_in (line.Precommit name) = Some name.now
name_in (line.Validate name) = Some name.now
name_in (line.Settle name) = Some name.now
name_in (line.Rollback name) = Some name.now
name_in (line.Finish name) = Some name.now
name_in (line.Commit name) = Some name.now
name_in (line.Poll name) = Some name.now
name_in _ = None

-- the step that a line of a transaction asks for, where it is one alone and has no data
abbrev pub event_by : Line → TxId → Option Event
event_by (line.Read name key) tx = Some (event.Do tx (op.Read key))
event_by (line.Scan name range) tx = Some (event.Do tx (op.Scan range.table range.lo range.hi))
event_by (line.Delete name key) tx = Some (event.Do tx (op.Delete key))
event_by (line.Precommit name) tx = Some (event.Precommit tx)
event_by (line.Validate name) tx = Some (event.Validate tx)
event_by (line.Rollback name) tx = Some (event.Rollback tx)
event_by (line.Finish name) tx = Some (event.Finish tx)
event_by _ tx = None

-- the step that a line of no transaction asks for, where it is one alone
abbrev pub event_of_line : Line → Option Event
event_of_line line.Collect = Some event.Collect
event_of_line (line.Trim upto) = Some (event.Trim upto)
event_of_line line.Group = Some event.CloseGroup
event_of_line line.Take = Some event.TakeGroup
event_of_line (line.Store call) = Some (event.Store call)
event_of_line _ = None
