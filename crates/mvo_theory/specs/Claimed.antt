-- What a transaction claims, read off the trace.
use Rattle.std.specs.Prelude.{ℕ, ◌≡◌, ◌<◌, ◌⊎◌, ◌==◌, ◌&&◌, Bool, true, false, if◌then◌else◌, is_some, List, [], ◌∷◌, ◌++◌, None, Some}
use Rattle.std.specs.List.{AllByRecursion, list_any}
use Rattle.std.specs.Ordering.{eq_by_cmp}
use Rattle.mvo_types.specs.declared.row.RowKey.{RowKey}
use Rattle.mvo_types.specs.declared.op.Op.{Op}
use Rattle.mvo_types.specs.Keys.{key_cmp}
use Rattle.mvo_types.specs.AnswerData.{AnswerData}
use Rattle.mvo_model.specs.History.{History, write_of, write_at, net_write}
use Rattle.mvo_model.specs.Trace.{Step, history_of, committed, phase_of}
use Rattle.mvo_model.specs.Trace.Step.{Answers}
use Rattle.mvo_model.specs.Trace.Phase.{Preparing}
use Rattle.mvo_theory.specs.State.{State, Claim}
use Rattle.mvo_theory.specs.Claims.{ended_key}

-- a transaction that is Preparing or Committed with the end n, above the opening mark and below
-- the begin, has a writing answer on the key
pub record IsWrittenAt (mark : ℕ) (steps : List Step) (k : RowKey) (b n : ℕ) : Type 0 where
  pub writer : ℕ
  pub above : mark < n
  pub ends : (phase_of writer steps ≡ Preparing n)
      ⊎ (list_any (λ c. (c.0 == n) && (c.1 == writer)) (committed steps) ≡ true)
  pub below : n < b
  pub writes : is_some (net_write k (history_of writer steps)) ≡ true

-- the origin of the key for the transaction with the begin b: the end of its last writer, or the
-- opening mark without one
pub record IsOrigin (mark : ℕ) (steps : List Step) (k : RowKey) (b n : ℕ) : Type 0 where
  pub source : (n ≡ mark) ⊎ IsWrittenAt mark steps k b n
  pub no_preparing : (z e : ℕ) → phase_of z steps ≡ Preparing e → n < e → e < b
      → net_write k (history_of z steps) ≡ None
  pub no_committed :
      AllByRecursion (λ c. n < c.0 → c.0 < b → net_write k (history_of c.1 steps) ≡ None)
      (committed steps)

-- the first writing answer of u on the key was Updated or Deleted, and the key's origin for it was
-- this then
pub record IsClaimed (mark : ℕ) (steps : List Step) (u : ℕ) (c : Claim) : Type 0 where
  pub before : List Step
  pub op : Op
  pub answer : AnswerData
  pub after : List Step
  pub then' : steps ≡ before ++ (Answers u op answer ∷ after)
  pub answered : ended_key op answer ≡ Some c.key
  pub first : is_some (net_write c.key (history_of u before)) ≡ false
  pub origin : IsOrigin mark before c.key u c.origin

-- whether the first writing answer on the key was Updated or Deleted
abbrev pub is_ended_first : RowKey → History → Bool
is_ended_first k [] = false
is_ended_first k (t ∷ ts) =
    if is_some (write_at k (write_of t.0 t.1))
    then is_some (ended_key t.0 t.1)
    else is_ended_first k ts

-- each claim is one of the trace, and each key that was ended first is claimed
pub record HasClaims (mark : ℕ) (steps : List Step) (u : ℕ) (history : History)
    (claims : List Claim) : Type 0 where
  pub sound : AllByRecursion (IsClaimed mark steps u) claims
  pub written : AllByRecursion (λ c. is_some (net_write c.key history) ≡ true) claims
  pub complete : (k : RowKey) → is_ended_first k history ≡ true
      → list_any (λ c. eq_by_cmp key_cmp k c.key) claims ≡ true

pub record AreClaimed (steps : List Step) (s : State) : Type 0 where
  pub active :
      AllByRecursion (λ r. HasClaims s.marks.opening steps r.id r.history r.claims) s.active
  pub stamped :
      AllByRecursion (λ x. HasClaims s.marks.opening steps x.id x.history x.claims) s.stamped
  pub past : AllByRecursion (λ x. HasClaims s.marks.opening steps x.id x.history x.claims) s.past
