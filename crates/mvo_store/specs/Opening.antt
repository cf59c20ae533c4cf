-- What opening a store answers.
use Rattle.std.specs.Prelude.{◌≡◌, ◌⊎◌, ℕ, ◌≤◌, ◌<◌, List, false, None, Err}
use Rattle.mvo_types.specs.declared.refusal.Refusal.{Refusal}
use Rattle.mvo_types.specs.declared.refusal.Refusal.TheVariants.{ClockSpent}
use Rattle.mvo_disk.specs.declared.disk.Disk.{Ghosts}
use Rattle.mvo_disk.specs.Disk.{Image, Only, AllOf, LeavesOnly, IsHonest}
use Rattle.mvo_pair.specs.Answers.{IsOnly}
use Rattle.mvo_pair.specs.Writing.{IsStop, CountsFaults}
use Rattle.mvo_recovery.specs.image.Opens.{OpeningOutcome}
use Rattle.mvo_recovery.specs.image.Files.{OpensAs}
use Rattle.mvo_store.specs.declared.limits.TheConstants.{MAX_FAULTS}
use Rattle.mvo_store.specs.Jobs.{no_jobs}
use Rattle.mvo_store.specs.StoreData.{StoreData}

-- all files read as before
abbrev pub KeepsContent : {D : Type 0} → Ghosts D → D → D → Type 0
KeepsContent d old new = (n : ℕ) → d.content new n ≡ d.content old n

-- a stop at any moment leaves what it might have left before
abbrev pub LeavesAsBefore : {D : Type 0} → Ghosts D → D → D → Type 0
LeavesAsBefore d old new = LeavesOnly d.moment d.left_since old new (AllOf (d.may_leave old))

-- Of the files below a number those that are used are durable. Nothing else has changed, and no
-- file gained an image.
pub record HasSynced {D : Type 0} (d : Ghosts D) (used : ℕ → Type 0) (below : ℕ) (old new : D) :
    Type 0 where
  pub durable : (n : ℕ) → n < below → used n → Only (d.content new n) (d.may_leave new n)
  pub content : KeepsContent d old new
  pub images : (n : ℕ) (c : List ℕ) → d.may_leave new n c → d.may_leave old n c
  pub any_moment : LeavesAsBefore d old new
  pub count : d.fault_count new ≡ d.fault_count old

-- this is the one answer of opening what a disk holds
abbrev pub IsAnswer : Image → OpeningOutcome → Type 0
IsAnswer content out = IsOnly (OpensAs content) out

-- nothing happened since the opening at this mark
pub record HasBegun {D : Type 0} (d : Ghosts D) (old : D) (s : StoreData D) (mark : ℕ) : Type 0
  where
    pub mark_is : s.mark ≡ mark
    pub pending : s.pending ≡ None
    pub written : s.written ≡ false
    pub jobs : s.jobs ≡ no_jobs
    pub down : s.down ≡ false
    pub few : d.fault_count old < MAX_FAULTS
    pub count : d.fault_count s.disk ≡ d.fault_count old

-- The counter isn't spent. Opening answers this refusal, where the disk has answered as written; or
-- memory or a call of the device was refused, which is counted.
pub record IsRefused {D : Type 0} (d : Ghosts D) (old : D) (e : Refusal) (new : D) : Type 0 where
  pub few : d.fault_count old < MAX_FAULTS
  pub why : IsHonest (d.moment new) → IsStop e ⊎ IsAnswer (d.content old) (Err e)
  pub count : CountsFaults {X = Unit {0}} (d.fault_count old) (d.fault_count new) (Err e)

-- the counter is spent, and nothing was looked at
pub record IsSpent {D : Type 0} (d : Ghosts D) (old : D) (e : Refusal) (new : D) : Type 0 where
  pub refusal : e ≡ ClockSpent
  pub many : MAX_FAULTS ≤ d.fault_count old
  pub count : d.fault_count new ≡ d.fault_count old

abbrev pub IsNotOpened : {D : Type 0} → Ghosts D → D → Refusal → D → Type 0
IsNotOpened d old e new = IsSpent d old e new ⊎ IsRefused d old e new

-- a refusal to open that says nothing of the files
abbrev pub IsNotOfFiles : Refusal → Type 0
IsNotOfFiles e = (e ≡ ClockSpent) ⊎ IsStop e
