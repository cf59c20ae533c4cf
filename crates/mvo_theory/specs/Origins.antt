-- Of which version a claim is: of the one that stands for its transaction.
use Rattle.std.specs.Prelude.{ℕ, ◌≡◌, ◌<◌, true, false, is_some, List, None}
use Rattle.std.specs.List.{AllByRecursion, filter}
use Rattle.mvo_types.specs.declared.row.RowKey.{RowKey}
use Rattle.mvo_types.specs.Keys.{Map}
use Rattle.mvo_model.specs.History.{History, net_write}
use Rattle.mvo_theory.specs.State.{State, StampedTx, Claim, timeline, seen_by}
use Rattle.mvo_theory.specs.Dependencies.{last_writer}
use Rattle.mvo_theory.specs.Claims.{end_or, origin}

-- the settled ones, by end timestamp
abbrev pub settled_ones : List StampedTx → List StampedTx
settled_ones xs = filter (λ x. x.settled) xs

-- the origin of a key in the serial order below e: the end of its last settled writer, or the
-- opening mark without one
abbrev pub settled_origin : State → ℕ → RowKey → ℕ
settled_origin s e k = end_or s.marks.opening (last_writer k e (settled_ones (timeline s)))

-- the rows in the serial order below e: those that the settled ones with a lower end leave
abbrev pub settled_rows : Map → State → ℕ → Map
settled_rows opening s e = seen_by opening (settled_ones (timeline s)) e

-- each claim has the origin of its key
abbrev pub HaveOrigins : (RowKey → ℕ) → List Claim → Type 0
HaveOrigins origins cs = AllByRecursion (λ c. c.origin ≡ origins c.key) cs

-- an unfinished transaction that isn't flagged claims what stands below its begin, and a settled
-- one what stands in the serial order below its end. All that is past ended before a Preparing one
-- began
pub record HasOrigins (s : State) : Type 0 where
  pub active :
      AllByRecursion
      (λ r. r.aborted_dependency ≡ None → HaveOrigins (origin s r.id) r.claims) s.active
  pub preparing :
      AllByRecursion
      (λ x. x.settled ≡ false → x.aborted_dependency ≡ None
      → HaveOrigins (origin s x.id) x.claims) s.stamped
  pub settled :
      AllByRecursion
      (λ x. x.settled ≡ true → HaveOrigins (settled_origin s x.end) x.claims) (timeline s)
  pub behind :
      AllByRecursion
      (λ x. x.settled ≡ false → AllByRecursion (λ z. z.end < x.id) s.past) s.stamped

-- what is claimed was written
abbrev pub AreWritten : History → List Claim → Type 0
AreWritten ts cs = AllByRecursion (λ c. is_some (net_write c.key ts) ≡ true) cs

pub record HaveWrittenClaims (s : State) : Type 0 where
  pub active : AllByRecursion (λ r. AreWritten r.history r.claims) s.active
  pub stamped : AllByRecursion (λ x. AreWritten x.history x.claims) s.stamped
  pub past : AllByRecursion (λ x. AreWritten x.history x.claims) s.past
