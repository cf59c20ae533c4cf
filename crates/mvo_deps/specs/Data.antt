-- What is kept of a transaction's dependencies.
use Rattle.std.specs.Prelude.{ℕ, ◌≡◌, ◌+◌, ◌-◌, ◌<◌, ◌≤◌, Bool, false, eqb, length, take, List, [], ◌∷◌, ◌++◌, Option, None, Some}
use Rattle.std.specs.List.{list_any}
use Rattle.mvo_types.specs.declared.ids.TxId.{TxId}
use Rattle.mvo_deps.specs.declared.outcome.Outcome.{Outcome}
use Rattle.mvo_deps.specs.declared.outcome.Outcome.TheVariants.{Committed, Aborted}

-- how many of those it depends on aren't settled, the first of them that was aborted, on whom it
-- depends, and who depends on it
pub record DependencyData : Type 0 where
  pub unsettled : ℕ
  pub aborted : Option TxId
  pub on : List TxId
  pub dependents : List TxId

abbrev pub no_dependencies : DependencyData
no_dependencies = record { unsettled = 0; aborted = None; on = []; dependents = [] }

-- whether the transaction is one of these
abbrev pub is_id_among : TxId → List TxId → Bool
is_id_among id ids = list_any (λ other. eqb other.0 id.0) ids

-- no transaction stands twice
abbrev pub AreDistinctIds : List TxId → Type 0
AreDistinctIds [] = Unit {0}
AreDistinctIds (id ∷ ids) = (is_id_among id ids ≡ false) × AreDistinctIds ids

-- it depends on one more, which isn't settled
abbrev pub with_dependency : TxId → DependencyData → DependencyData
with_dependency on d = record d { unsettled = d.unsettled + 1; on = d.on ++ on ∷ [] }

-- one more depends on it
abbrev pub with_dependent : TxId → DependencyData → DependencyData
with_dependent id d = record d { dependents = d.dependents ++ id ∷ [] }

-- the one that it came to depend on last is taken back
abbrev pub without_last_dependency : DependencyData → DependencyData
without_last_dependency d =
    record d { unsettled = d.unsettled - 1; on = take (length d.on - 1) d.on }

abbrev pub without_last_dependent : DependencyData → DependencyData
without_last_dependent d = record d { dependents = take (length d.dependents - 1) d.dependents }

abbrev pub without_dependents : DependencyData → DependencyData
without_dependents d = record d { dependents = [] }

-- one that it depends on is committed
abbrev pub after_dependency_commit : DependencyData → DependencyData
after_dependency_commit d = record d { unsettled = d.unsettled - 1 }

abbrev pub first_of : Option TxId → TxId → TxId
first_of None by = by
first_of (Some first) by = first

-- one that it depends on is aborted: it is flagged, unless it was
abbrev pub after_dependency_abort : TxId → DependencyData → DependencyData
after_dependency_abort by d =
    record d { unsettled = d.unsettled - 1; aborted = Some (first_of d.aborted by) }

abbrev pub dependency_noted : Outcome → DependencyData → DependencyData
dependency_noted Committed d = after_dependency_commit d
dependency_noted (Aborted by) d = after_dependency_abort by d

-- it is the last of these, which are more than so many
pub record IsLastBeyond (count : ℕ) (ids : List TxId) (id : TxId) : Type 0 where
  pub more : count < length ids
  pub front : List TxId
  pub is : ids ≡ front ++ id ∷ []

-- the counter counts some of those it depends on, and each dependent stands there once
pub record IsDependencySound (unsettled : ℕ) (on dependents : List TxId) : Type 0 where
  pub counted : unsettled ≤ length on
  pub apart : AreDistinctIds dependents
