-- How much was looked at.
use Rattle.std.specs.Prelude.{◌≡◌, ◌≤◌, ◌+◌, ◌-◌, ◌^◌, ℕ, Option, Some, None, min}
use Rattle.mvo_stops.specs.declared.check.Found.{Found}
use Rattle.mvo_stops.specs.declared.failed.Failed.{Failed}
use Rattle.mvo_stops.specs.declared.report.Report.{Report}
use Rattle.mvo_stops.specs.declared.wrong.Wrong.{Wrong}

-- Where nothing is wrong, so many calls were looked at. Else the one at which something is wrong is
-- the last that was.
abbrev pub IsLast : ℕ → ℕ → Option Failed → Type 0
IsLast calls done None = done ≡ calls
IsLast calls done (Some f) = (f.call ≡ done) × (done ≤ calls)

-- the report of a script that makes so many calls
abbrev pub IsReportOf : ℕ → Report → Type 0
IsReportOf calls r = IsLast calls r.counts.calls r.failed

-- the call of this number is the first at which something is wrong, if something is
abbrev pub IsFirst : ℕ → Option Wrong → Option Failed → Type 0
IsFirst number None failed = failed ≡ None
IsFirst number (Some w) failed = failed ≡ Some (record { call = number; wrong = w })

-- the report with one call more, if nothing was wrong before
abbrev pub IsWith : Report → Found → Option Failed → Report → Type 0
IsWith old found None new =
    (new.counts.calls ≡ old.counts.calls + 1) × IsFirst new.counts.calls found.wrong new.failed
IsWith old found (Some f) new = new ≡ old

abbrev pub IsReportWith : Report → Found → Report → Type 0
IsReportWith old found new = IsWith old found old.failed new

-- one more, up to the greatest number that a count has room for
abbrev pub counted_on : ℕ → ℕ
counted_on n = min (n + 1) (2 ^ 64 - 1)
