-- The words that name an ended transaction: finishing replaces one a call.
use Rattle.std.specs.Prelude.{ℕ, ◌+◌, ◌≤◌, ◌==◌, nat_le, Bool, false, not, ◌&&◌, if◌then◌else◌, is_some, List, [], ◌∷◌, ◌++◌, filter, drop, length, Option, None, Some}
use Rattle.std.specs.List.{AllByRecursion}
use Rattle.std.specs.Ordering.{eq_by_cmp}
use Rattle.mvo_types.specs.declared.row.RowKey.{RowKey}
use Rattle.mvo_types.specs.declared.op.Op.{Op}
use Rattle.mvo_types.specs.declared.op.Op.TheVariants.{Insert, Update, Delete}
use Rattle.mvo_types.specs.Keys.{key_cmp}
use Rattle.mvo_types.specs.AnswerData.{AnswerData}
use Rattle.mvo_types.specs.AnswerData.AnswerData.{Inserted, Updated, Deleted}
use Rattle.mvo_model.specs.History.{History, net_write}
use Rattle.mvo_model.specs.Trace.{Step, history_of}
use Rattle.mvo_theory.specs.State.{State, ActiveTx, StampedTx, EndedTx, Claim, Word, Outcome, active_of, preparing_of, ended_of}
use Rattle.mvo_theory.specs.State.Word.{Own, Ended}
use Rattle.mvo_theory.specs.State.Outcome.{Committed, Aborted}

-- the End of the version of the key that an answer ended behind these operations: of its own
-- version where it had written the key, and else of the one that it claimed
abbrev pub end_on : RowKey → List Claim → Word
end_on k [] = Own
end_on k (c ∷ cs) = if eq_by_cmp key_cmp k c.key then Ended c else end_on k cs

abbrev pub end_word : History → List Claim → RowKey → Word
end_word before claims k = if is_some (net_write k before) then Own else end_on k claims

-- the words that an answer behind these operations writes: an insert the Begin of its version,
-- an update the End of a version and the Begin of its own, a delete the End of a version
abbrev pub words_by : History → List Claim → Op → AnswerData → List Word
words_by before claims (Insert r) Inserted = Own ∷ []
words_by before claims (Update r) Updated = end_word before claims r.key ∷ Own ∷ []
words_by before claims (Delete k) Deleted = end_word before claims k ∷ []
words_by before claims op a = []

abbrev pub words_behind : History → List Claim → History → List Word
words_behind before claims [] = []
words_behind before claims (t ∷ ts) =
    words_by before claims t.0 t.1 ++ words_behind (before ++ t ∷ []) claims ts

-- the words that a transaction with this history and these claims wrote, in order
abbrev pub words_of : History → List Claim → List Word
words_of ts claims = words_behind [] claims ts

-- how many they are: one for each Inserted or Deleted, two for each Updated
abbrev pub word_count_of : Op → AnswerData → ℕ
word_count_of (Insert r) Inserted = 1
word_count_of (Update r) Updated = 2
word_count_of (Delete k) Deleted = 1
word_count_of op a = 0

abbrev pub word_count : History → ℕ
word_count [] = 0
word_count (t ∷ ts) = word_count_of t.0 t.1 + word_count ts

-- those of the Active or Preparing transaction t
abbrev pub words_held : Option ActiveTx → Option StampedTx → List Word
words_held (Some r) w = words_of r.history r.claims
words_held None (Some x) = words_of x.history x.claims
words_held None None = []

abbrev pub words_now : State → ℕ → List Word
words_now s t = words_held (active_of t s.active) (preparing_of t s.stamped)

-- ---- an End that another takes over
abbrev pub is_end_of : Claim → Word → Bool
is_end_of c Own = false
is_end_of c (Ended d) = eq_by_cmp key_cmp c.key d.key && (c.origin == d.origin)

-- without the End of the version that is claimed anew, if it was aborted
abbrev pub words_without : Claim → Outcome → List Word → List Word
words_without c (Committed e) ws = ws
words_without c Aborted ws = filter (λ w. not (is_end_of c w)) ws

-- ---- finishing
-- whether finishing answers Done: at most one word is left
abbrev pub is_last_word : Option EndedTx → Bool
is_last_word None = false
is_last_word (Some u) = nat_le (length u.words) 1

abbrev pub is_done : State → ℕ → Bool
is_done s t = is_last_word (ended_of t s.ended)

-- the words of one after a call of finishing of t
abbrev pub words_left : ℕ → EndedTx → List Word
words_left t u = if u.id == t then drop 1 u.words else u.words

-- no ended one has more words left than its operations wrote
abbrev pub HaveFewWords : List Step → State → Type 0
HaveFewWords steps s =
    AllByRecursion (λ u. length u.words ≤ word_count (history_of u.id steps)) s.ended
