-- What each call does with the versions.
use Rattle.std.specs.Prelude.{ℕ, ◌≡◌, true, false, List, ◌∷◌, ◌++◌, None}
use Rattle.std.specs.List.{AllByRecursion}
use Rattle.mvo_types.specs.RowData.{RowData}
use Rattle.mvo_types.specs.declared.op.Op.{Op}
use Rattle.mvo_types.specs.declared.op.Op.TheVariants.{Insert, Update, Delete}
use Rattle.mvo_types.specs.AnswerData.{AnswerData}
use Rattle.mvo_types.specs.AnswerData.AnswerData.{Inserted, Updated, Deleted}
use Rattle.mvo_model.specs.History.{net_write}
use Rattle.mvo_theory.specs.State.{State, history_of_active}
use Rattle.mvo_theory.specs.Words.{is_done}
use Rattle.mvo_theory.specs.Calls.{Call, Result, answer_in}
use Rattle.mvo_theory.specs.Calls.Call.{Do, Finish}
use Rattle.mvo_theory.specs.Calls.Result.{Accepted}
use Rattle.mvo_word.specs.declared.held.Held.TheVariants.{By}
use Rattle.mvo_chain.specs.declared.version.Version.{Version}
use Rattle.mvo_chain.specs.Slots.{added}
use Rattle.mvo_visible.specs.Words.{names}
use Rattle.mvo_representation.specs.Words.{Phases, ends_of, cause_at_end, IsShownAt}

-- ---- one version
-- there is one more, anywhere among them: their order is of no matter
pub record IsOneMore (v : Version) (old new : List Version) : Type 0 where
  pub before : List Version
  pub after : List Version
  pub without : before ++ after ≡ old
  pub with' : before ++ v ∷ after ≡ new

-- one changes, at its place
pub record IsOneChanged (v w : Version) (old new : List Version) : Type 0 where
  pub before : List Version
  pub after : List Version
  pub was : before ++ v ∷ after ≡ old
  pub is : before ++ w ∷ after ≡ new

-- the version that t puts
abbrev pub fresh : ℕ → RowData → Version
fresh t r = added r (By (record { 0 = t }))

-- the version after t has ended it
abbrev pub ended_by : ℕ → Version → Version
ended_by t v = record { row = v.row; begin = v.begin; end = By (record { 0 = t }) }

-- no word of a version names t
abbrev pub IsUnnamed : ℕ → List Version → Type 0
IsUnnamed t vs = AllByRecursion (λ v. (names t v.begin ≡ false) × (names t v.end ≡ false)) vs

-- ---- which version t may end
-- its own newest one
pub record IsOwnNewest (t : ℕ) (v : Version) : Type 0 where
  pub mine : names t v.begin ≡ true
  pub kept : names t v.end ≡ false

-- another's: t has not written the key, is shown this version, and nobody stands in the way
pub record IsFreeToEnd (s : State) (table : Phases) (t : ℕ) (vs : List Version)
    (v : Version) : Type 0 where
  pub unwritten : net_write v.row.key (history_of_active t s.active) ≡ None
  pub stamp : ℕ
  pub shown : IsShownAt (ends_of table) t v.row.key vs v stamp
  pub free : cause_at_end table v.end ≡ None

pub data MayEnd (s : State) (table : Phases) (t : ℕ) (vs : List Version)
    (v : Version) : Type 0 where
  Own : IsOwnNewest t v → MayEnd s table t vs v
  Other : IsFreeToEnd s table t vs v → MayEnd s table t vs v

-- ---- an operation
-- t ends a version of the row's key, and puts the row
pub record IsVersionReplaced (s : State) (table : Phases) (t : ℕ) (r : RowData)
    (old new : List Version) : Type 0 where
  pub version : Version
  pub key : r.key ≡ version.row.key
  pub may : MayEnd s table t old version
  pub between : List Version
  pub ended : IsOneChanged version (ended_by t version) old between
  pub put : IsOneMore (fresh t r) between new

-- t ends a version of the key
pub record IsVersionRemoved (s : State) (table : Phases) (t : ℕ) (version : Version)
    (old new : List Version) : Type 0 where
  pub may : MayEnd s table t old version
  pub ended : IsOneChanged version (ended_by t version) old new

-- only a writing answer changes them
abbrev pub IsAfterAnswer : State → Phases → ℕ → Op → AnswerData
    → List Version → List Version → Type 0
IsAfterAnswer s table t (Insert r) Inserted old new = IsOneMore (fresh t r) old new
IsAfterAnswer s table t (Update r) Updated old new = IsVersionReplaced s table t r old new
IsAfterAnswer s table t (Delete k) Deleted old new =
    (v : Version) × (v.row.key ≡ k) × IsVersionRemoved s table t v old new
IsAfterAnswer s table t op a old new = new ≡ old

-- ---- a call
-- only operations change them. One that is finished is named by none any more
abbrev pub IsAfterCall : State → Phases → Call → Result → List Version → List Version → Type 0
IsAfterCall s table (Do t op) Accepted old new =
    IsAfterAnswer s table t op (answer_in s t op) old new
IsAfterCall s table (Finish t) Accepted old new =
    (new ≡ old) × (is_done s t ≡ true → IsUnnamed t old)
IsAfterCall s table c r old new = new ≡ old
