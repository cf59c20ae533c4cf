-- Claims on versions: who was the first to end one.
use Rattle.std.specs.Prelude.{ℕ, ◌==◌, Bool, ◌&&◌, if◌then◌else◌, is_some, List, [], ◌∷◌, ◌++◌, Option, None, Some}
use Rattle.std.specs.List.{list_any}
use Rattle.std.specs.Ordering.{eq_by_cmp}
use Rattle.mvo_types.specs.declared.row.RowKey.{RowKey}
use Rattle.mvo_types.specs.declared.op.Op.{Op}
use Rattle.mvo_types.specs.declared.op.Op.TheVariants.{Update, Delete}
use Rattle.mvo_types.specs.Keys.{key_cmp}
use Rattle.mvo_types.specs.AnswerData.{AnswerData}
use Rattle.mvo_types.specs.AnswerData.AnswerData.{Updated, Deleted}
use Rattle.mvo_model.specs.History.{History, net_write}
use Rattle.mvo_theory.specs.State.{State, StampedTx, ActiveTx, Claim, timeline, history_of_active}
use Rattle.mvo_theory.specs.Dependencies.{last_writer}

abbrev pub end_or : ℕ → Option StampedTx → ℕ
end_or start None = start
end_or start (Some x) = x.end

-- the origin of a key that stands for the transaction with the begin b: the end of its last
-- writer, or the opening mark without one
abbrev pub origin : State → ℕ → RowKey → ℕ
origin s b k = end_or s.marks.opening (last_writer k b (timeline s))

-- the key whose row the answer ends
abbrev pub ended_key : Op → AnswerData → Option RowKey
ended_key (Update r) Updated = Some r.key
ended_key (Delete k) Deleted = Some k
ended_key op a = None

-- the claims after an answer that ends the row of this key: one more, if it is the first writing
-- answer on the key
abbrev pub claims_with : State → ActiveTx → Option RowKey → List Claim
claims_with s r None = r.claims
claims_with s r (Some k) =
    if is_some (net_write k r.history)
    then r.claims
    else r.claims ++ (record { key = k; origin = origin s r.id k }) ∷ []

-- the claim that such an answer adds for a transaction with this begin and this history
abbrev pub claim_with : State → ℕ → History → Option RowKey → Option Claim
claim_with s b ts None = None
claim_with s b ts (Some k) =
    if is_some (net_write k ts) then None else Some (record { key = k; origin = origin s b k })

-- the claim that an answer to the Active transaction t adds
abbrev pub new_claim : State → ℕ → Op → AnswerData → Option Claim
new_claim s t op a = claim_with s t (history_of_active t s.active) (ended_key op a)

abbrev pub has_claim : List Claim → RowKey → ℕ → Bool
has_claim cs k n = list_any (λ c. eq_by_cmp key_cmp k c.key && (c.origin == n)) cs
