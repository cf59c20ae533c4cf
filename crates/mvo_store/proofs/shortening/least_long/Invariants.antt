use Rattle.std.proofs.Common.{◌-◌, ◌≡◌, ◌<◌, ◌≤◌, ℕ}
use Rattle.mvo_disk.specs.Disk.{AllOf, AllStay, LeavesOnly, IsHonest}
use Rattle.mvo_store.specs.Reclaiming.{IsNoLonger}
use Rattle.mvo_store.proofs.shortening.least_long.Given as goal

abbrev pub invariant-loop-file : goal.invariant-loop-file
invariant-loop-file g l =
    let d = g.D.Disk in
    let old = l.fn.disk in
    record {
      first : 2 ≤ l.file;
      last : l.file ≤ 1024;
      rest : AllStay (d.content old) (d.content l.disk) (d.may_leave old) (d.may_leave l.disk);
      any_moment : LeavesOnly d.moment d.left_since old l.disk (AllOf (d.may_leave old));
      count : d.fault_count l.disk ≡ d.fault_count old;
      none : IsHonest (d.moment l.disk) → (k : ℕ) → k < l.file → IsNoLonger (d.content old) l.fn.manifest l.fn.jobs k;
    }

abbrev pub decreases-loop-file : goal.decreases-loop-file
decreases-loop-file g l = 1024 - l.file
