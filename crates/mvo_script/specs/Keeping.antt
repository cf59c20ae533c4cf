-- What a turn of who keeps a driver's world comes to.
use Rattle.std.specs.Prelude.{◌≡◌, ◌≤◌, ℕ, List, Option, None, Some, Result, Ok, Err}
use Rattle.mvo_types.specs.declared.refusal.Refusal.{Refusal}
use Rattle.mvo_types.specs.declared.refusal.Refusal.TheVariants.{OutOfMemory}
use Rattle.mvo_disk.specs.declared.disk.Disk.{Ghosts}
use Rattle.mvo_core.specs.Collection.TheVariants.{Collected as WasTaken, Nothing}
use Rattle.mvo_store.specs.declared.call.StoreCall.TheVariants as calls
use Rattle.mvo_store.specs.declared.reclaimed.Reclaimed.TheVariants.{Done as AllDone}
use Rattle.mvo_keep.specs.declared.chore.Chore.{Chore}
use Rattle.mvo_keep.specs.declared.chore.Chore.TheVariants.{Flush, Step, Reclaim, Merge, Checkpoint, Rotate, Trim, Collect}
use Rattle.mvo_keep.specs.declared.keeper.Keeper.{Keeper}
use Rattle.mvo_keep.specs.declared.policy.Policy.{Policy}
use Rattle.mvo_keep.specs.declared.remains.Remains.{Remains}
use Rattle.mvo_keep.specs.declared.remains.Remains.TheVariants.{More, NoFile, NoGarbage}
use Rattle.mvo_keep.specs.declared.sight.Sight.{Sight}
use Rattle.mvo_keep.specs.Keeping.{keeper_after, keeper_after_look, new_keeper}
use Rattle.mvo_world.specs.WorldData.{WorldData}
use Rattle.mvo_world.specs.Keeping.{IsDueOf}
use Rattle.mvo_world.specs.Replies.{IsReplyTo}
use Rattle.mvo_world.specs.declared.event.Event.{Event}
use Rattle.mvo_world.specs.declared.event.Event.TheVariants as event
use Rattle.mvo_world.specs.declared.reply.Reply.{Reply}
use Rattle.mvo_world.specs.declared.reply.Reply.TheVariants.{Collected, Reclaimed, Refused}
use Rattle.mvo_script.specs.Answers.{IsAnswerTo, AreStepsOf}
use Rattle.mvo_script.specs.declared.driver.Driver.{Driver}
use Rattle.mvo_script.specs.declared.line.line.Line.{Line}
use Rattle.mvo_script.specs.declared.line.line.Line.TheVariants as line
use Rattle.mvo_script.specs.declared.reply.LineReply.{LineReply}
use Rattle.mvo_script.specs.declared.reply.LineReply.TheVariants.{BadLine, Answered}
use Rattle.mvo_script.specs.declared.upkeep.Upkeep.{Upkeep}
use Rattle.mvo_script.specs.line.Forms.{HasForm}
use Rattle.mvo_script.specs.line.Written.{text_of}

-- what remains of its kind behind a chore that was answered so
abbrev pub remains_behind : Reply → Result Remains Refusal
remains_behind (Reclaimed AllDone) = Ok NoFile
remains_behind (Collected Nothing) = Ok NoGarbage
remains_behind (Refused e) = Err e
remains_behind r = Ok More

-- ---- by the steps of the world that the driver makes
module _ {D : Type 0} (IsStep : WorldData D → Event → Reply → WorldData D → Type 0) where
  -- so many collections at most, up to the first that finds no garbage, and the reply to the last;
  -- where that took a version too, they are all that may be
  pub record AreCollections (most : ℕ) (d : Driver D) (r : Reply) (d' : Driver D) : Type 0 where
    pub steps : AreStepsOf IsStep (Collected WasTaken) d event.Collect r d'
    pub few : steps.count ≤ most
    pub whole : r ≡ Collected WasTaken → steps.count ≡ most

  -- the chore is done as a line of a script would do it
  abbrev pub IsChoreBy : Chore → Driver D → Reply → Driver D → Type 0
  IsChoreBy Flush d r d' = IsAnswerTo IsStep d line.Flush r d'
  IsChoreBy (Step call) d r d' = IsAnswerTo IsStep d (line.Store call) r d'
  IsChoreBy Reclaim d r d' = IsAnswerTo IsStep d (line.Store calls.Reclaim) r d'
  IsChoreBy (Merge place) d r d' = IsAnswerTo IsStep d (line.Store (calls.MergeRead place)) r d'
  IsChoreBy Checkpoint d r d' = IsAnswerTo IsStep d (line.Store calls.CheckpointRead) r d'
  IsChoreBy Rotate d r d' = IsAnswerTo IsStep d (line.Store calls.RotateWrite) r d'
  IsChoreBy (Trim upto) d r d' = IsAnswerTo IsStep d (line.Trim upto) r d'
  IsChoreBy (Collect most) d r d' = AreCollections most d r d'

-- Memory for the look was refused, and nothing changes. Or nothing was due of the world, which
-- stays as it is. Or a chore was, which was done; what that was answered is remembered, and not
-- told.
pub data HasKeptTurn {D : Type 0} (d : Ghosts D) (p : Policy) (old : Driver D) (k : Keeper)
    (r : Result (Option Chore) Refusal) (k' : Keeper) (new : Driver D) : Type 0 where
  WithoutMemory : r ≡ Err OutOfMemory → k' ≡ k → new ≡ old → HasKeptTurn d p old k r k' new
  AtRest : (s : Sight) → IsDueOf p k old.world s None → r ≡ Ok None
      → k' ≡ keeper_after_look s k → new ≡ old → HasKeptTurn d p old k r k' new
  WithChore : (s : Sight) (chore : Chore) → IsDueOf p k old.world s (Some chore)
      → (reply : Reply) → IsChoreBy (IsReplyTo d) chore old reply new → r ≡ Ok (Some chore)
      → k' ≡ keeper_after s chore (remains_behind reply) k → HasKeptTurn d p old k r k' new

-- ---- behind a line
-- by the policy, where there is one, with nothing seen yet
abbrev pub upkeep_by : Option Policy → Upkeep
upkeep_by policy = record { policy = policy; keeper = new_keeper }

-- Where nobody keeps the world, all stays. Else a turn is made, and what the keeper remembers is
-- kept for the next one.
abbrev pub HasTurnBehind : {D : Type 0} → Ghosts D → Option Policy → Driver D → Keeper → Keeper
    → Driver D → Type 0
HasTurnBehind d None old k k' new = (k' ≡ k) × (new ≡ old)
HasTurnBehind d (Some p) old k k' new =
    (came : Result (Option Chore) Refusal) × HasKeptTurn d p old k came k' new

-- A line is answered, as without a keeper, over the driver as it stands then; a bad line changes
-- nothing. Behind that comes the turn.
pub record IsAnsweredAndKept {D : Type 0} (d : Ghosts D) (bytes : List ℕ) (old : Driver D)
    (u : Upkeep) (r : LineReply) (u' : Upkeep) (new : Driver D) : Type 0 where
  pub then_on : Driver D
  pub bad : r ≡ BadLine → then_on ≡ old
  pub answered : (reply : Reply) → r ≡ Answered reply → (line : Line) × HasForm line
      × (text_of line ≡ bytes) × IsAnswerTo (IsReplyTo d) old line reply then_on
  pub turn : HasTurnBehind d u.policy then_on u.keeper u'.keeper new
  pub policy : u'.policy ≡ u.policy
