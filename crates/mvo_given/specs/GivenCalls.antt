-- What a call leaves of a core that is given works, with its read-only transactions.
use Rattle.std.specs.Prelude.{ℕ, ◌+◌, nat_le, if◌then◌else◌, List, [], ◌∷◌, ◌++◌, length, Option, None, Some}
use Rattle.mvo_theory.specs.State.{StampedTx}
use Rattle.mvo_theory.specs.Calls.{Call, Run}
use Rattle.mvo_theory.specs.Calls.Call.{Begin, Precommit, Validate, Settle}
use Rattle.mvo_theory.specs.Calls.Result.{Accepted, Refused}
use Rattle.mvo_shared.specs.Kept.{WorkContent}
use Rattle.mvo_shared.specs.Shared.{WorksById, with_work}
use Rattle.mvo_shared.specs.Given.{GivenState, GivenResult, after_given}
use Rattle.mvo_shared.specs.Given.GivenRefusal.{Because, WorkMismatch}
use Rattle.mvo_shared.specs.Given.GivenResult.{Took, Denied}
use Rattle.mvo_shared.specs.Held.{empty_work, work_for, works_after}
use Rattle.mvo_shadow.specs.Shadowed.{shadow_result}
use Rattle.mvo_readonly.specs.Whole.{ReaderStage, UnfinishedReader, CommittedReader, id_named, stage_named}
use Rattle.mvo_readonly.specs.Whole.ReaderStage.{Reading, Preparing, Committed, Aborted}
use Rattle.mvo_readonly.specs.WholeCauses.{WholeCall, awaited_by_reader}
use Rattle.mvo_readonly.specs.WholeCauses.WholeCall.{CoreCall, BeginReadOnly}
use Rattle.mvo_readonly.specs.WholeCalls.{core_calls, with_stage, readers_at_stage, readers_after}
use Rattle.mvo_given.specs.GivenWhole.{GivenWhole, others_given}

-- ---- of the core of the others
-- its calls, none or one: those that it is called with where there are no works. A mismatch
-- changes nothing
abbrev pub others_calls : GivenWhole → WholeCall → GivenResult → Run
others_calls g c Took = core_calls g.whole c Accepted
others_calls g c (Denied (Because r)) = core_calls g.whole c (Refused r)
others_calls g c (Denied WorkMismatch) = []

-- it is given the same work with each
abbrev pub after_given_calls : GivenState → WorkContent → Run → GivenState
after_given_calls g w [] = g
after_given_calls g w (c ∷ cs) =
    after_given_calls (after_given g w c.0 (shadow_result c.1)) w cs

-- ---- of the read-only ones
-- one look more was checked
abbrev pub looked_more : WorkContent → ReaderStage → ReaderStage
looked_more w (Preparing n v) =
    if v then Preparing n v
    else Preparing (n + 1) (nat_le (length w.looked) (n + 1))
looked_more w Reading = Reading
looked_more w Committed = Committed
looked_more w Aborted = Aborted

abbrev pub readers_took : GivenWhole → Call → Option ReaderStage → List UnfinishedReader
readers_took g (Validate t) (Some p) = with_stage t (looked_more (g.reads t) p) g.whole.readers
readers_took g c p = readers_at_stage g.whole.core c Accepted p g.whole.readers

-- the unfinished ones after a call
abbrev pub readers_given : GivenWhole → WholeCall → GivenResult → List UnfinishedReader
readers_given g BeginReadOnly Took = readers_after g.whole BeginReadOnly Accepted
readers_given g (CoreCall c) Took =
    readers_took g c (stage_named g.whole.readers (id_named c))
readers_given g c (Denied (Because r)) = readers_after g.whole c (Refused r)
readers_given g c (Denied WorkMismatch) = g.whole.readers

-- one that is settled, unless it waits, was told what precommit took out of its work
abbrev pub told_unless :
    WorkContent → ℕ → List CommittedReader → Option StampedTx → List CommittedReader
told_unless w t ys (Some x) = ys
told_unless w t ys None = ys ++ (record { id = t; history = w.history }) ∷ []

abbrev pub committed_took : GivenWhole → Call → Option ReaderStage → List CommittedReader
committed_took g (Settle t) (Some p) =
    told_unless (g.reads t) t g.whole.committed_readers (awaited_by_reader g.whole.core t)
committed_took g c p = g.whole.committed_readers

-- the committed ones after a call
abbrev pub committed_given : GivenWhole → WholeCall → GivenResult → List CommittedReader
committed_given g (CoreCall c) Took =
    committed_took g c (stage_named g.whole.readers (id_named c))
committed_given g c r = g.whole.committed_readers

-- precommit takes the work of a read-only one in
abbrev pub reads_took : GivenWhole → WorkContent → Call → Option ReaderStage → WorksById
reads_took g w (Precommit t) (Some p) = with_work g.reads t w
reads_took g w c p = g.reads

abbrev pub reads_given : GivenWhole → WorkContent → WholeCall → GivenResult → WorksById
reads_given g w (CoreCall c) Took =
    reads_took g w c (stage_named g.whole.readers (id_named c))
reads_given g w c r = g.reads

-- ---- of all
abbrev pub after_given_whole : GivenWhole → WorkContent → WholeCall → GivenResult → GivenWhole
after_given_whole g w c r =
    let core = after_given_calls (others_given g) w (others_calls g c r) in record {
      whole = record {
        core = core.state;
        readers = readers_given g c r;
        committed_readers = committed_given g c r;
      };
      taken = core.taken;
      reads = reads_given g w c r;
    }

-- ---- works that are all made on this core
abbrev pub work_for_whole : WorksById → WholeCall → WorkContent
work_for_whole works BeginReadOnly = empty_work
work_for_whole works (CoreCall c) = work_for works c

-- the works after a call: those of read-only ones too begin empty, and go with their operations
abbrev pub works_after_whole : GivenWhole → WorksById → WholeCall → GivenResult → WorksById
works_after_whole g works BeginReadOnly r = works_after (others_given g) works Begin r
works_after_whole g works (CoreCall c) r = works_after (others_given g) works c r
