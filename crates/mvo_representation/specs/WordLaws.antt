-- What keeps the lists of words, and what they say.
use Rattle.std.specs.Prelude.{ℕ, ◌≡◌, ◌<◌, ◌+◌, nat_le, true, false, length, List, [], ◌∷◌, ◌++◌, map, None, Some}
use Rattle.std.specs.FinMap as fin
use Rattle.mvo_types.specs.declared.op.Op.{Op}
use Rattle.mvo_types.specs.declared.op.Op.TheVariants.{Insert, Update, Delete}
use Rattle.mvo_types.specs.AnswerData.{AnswerData}
use Rattle.mvo_types.specs.AnswerData.AnswerData.{Inserted, Updated, Deleted}
use Rattle.mvo_types.specs.RowData.{RowData}
use Rattle.mvo_types.specs.Keys.{Map}
use Rattle.mvo_model.specs.History.{write_of}
use Rattle.mvo_theory.specs.State.{State, ActiveTx, StampedTx, EndedTx, opened, active_of, preparing_of, ended_of, snapshot}
use Rattle.mvo_theory.specs.Words.{is_done}
use Rattle.mvo_theory.specs.Causes.{why_not_trim}
use Rattle.mvo_theory.specs.Changes.{after_begin, after_answer, after_prepare, after_commit, after_finish, after_trim, after_close}
use Rattle.mvo_theory.specs.Steps.{after_validate, after_abort}
use Rattle.mvo_chain.specs.declared.version.Version.{Version}
use Rattle.mvo_chain.specs.declared.version.VersionNo.{VersionNo}
use Rattle.mvo_chain.specs.Slots.{Slots, version_at}
use Rattle.mvo_hash.specs.Lists.{Lists, number}
use Rattle.mvo_range.specs.Place.{PlaceNumbers as Places}
use Rattle.mvo_visible.specs.Words.{States, names}
use Rattle.mvo_visible.specs.Laws.{SlotsDifferAt}
use Rattle.mvo_work.specs.declared.word_place.WordPlace.{WordPlace}
use Rattle.mvo_work.specs.declared.word_place.WordPlace.TheVariants.{Begin, End}
use Rattle.mvo_representation.specs.Words.{ends_of, stamp_in, has_stamp}
use Rattle.mvo_representation.specs.Versions.{AreVersionsOf}
use Rattle.mvo_representation.specs.Indexes.{all_versions}
use Rattle.mvo_representation.specs.Steps.{MayEnd, IsUnnamed, fresh, ended_by}
use Rattle.mvo_representation.specs.Table.{phases_of}
use Rattle.mvo_representation.specs.Laws.{VersionsStandFor}
use Rattle.mvo_representation.specs.Order.{AreWrittenBy, IsSeenAlike, MayAbort}
use Rattle.mvo_representation.specs.OrderLaws.{HaveNow}
use Rattle.mvo_representation.specs.WordLists.{WordLists, HasWordLists, HaveListNow, places_naming, names_at, number_at_word, finished}

-- ---- an opening, and a begin
-- A core that was just opened has no list.
abbrev pub OpeningHasLists : Type 0
OpeningHasLists = (rows : Map) (mark : ℕ) (states : States) (slots : Slots)
    → AreVersionsOf (opened rows mark) (phases_of states) (all_versions slots)
    → HasWordLists (opened rows mark) slots (λ t. [])

-- Who begins has an empty one.
abbrev pub BeginKeepsLists : Type 0
BeginKeepsLists = (opening : Map) (s : State) (states : States)
    (slots : Slots) (lists : Lists) (places : Places) (words : WordLists)
    → VersionsStandFor opening s states slots lists places → HasWordLists s slots words
    → HasWordLists (after_begin s (s.clock + 1)) slots words

-- ---- an operation
-- An insert that is told inserted adds the Begin of its version.
abbrev pub InsertKeepsLists : Type 0
InsertKeepsLists = (opening : Map) (s : State) (states : States)
    (slots slots' : Slots) (lists : Lists) (places : Places) (words words' : WordLists)
    (r : ActiveTx) (row : RowData) (n : ℕ)
    → VersionsStandFor opening s states slots lists places → active_of r.id s.active ≡ Some r
    → fin.get (snapshot s r.id) row.key ≡ None → version_at slots (number n) ≡ None
    → HaveNow slots slots' n (fresh r.id row)
    → HaveListNow words words' r.id (words r.id ++ Begin (number n) ∷ [])
    → HasWordLists s slots words
    → HasWordLists (after_answer s r.id (Insert row) Inserted) slots' words'

-- A delete adds the End of the version that it ends.
abbrev pub DeleteKeepsLists : Type 0
DeleteKeepsLists = (opening : Map) (s : State) (states : States)
    (slots slots' : Slots) (lists : Lists) (places : Places) (words words' : WordLists)
    (r : ActiveTx) (v : Version) (n : ℕ)
    → VersionsStandFor opening s states slots lists places → active_of r.id s.active ≡ Some r
    → version_at slots (number n) ≡ Some v
    → MayEnd s (phases_of states) r.id (all_versions slots) v
    → HaveNow slots slots' n (ended_by r.id v)
    → HaveListNow words words' r.id (words r.id ++ End (number n) ∷ [])
    → HasWordLists s slots words
    → HasWordLists (after_answer s r.id (Delete v.row.key) Deleted) slots' words'

-- An update adds the End of the version that it ends, and then the Begin of its own.
abbrev pub UpdateKeepsLists : Type 0
UpdateKeepsLists = (opening : Map) (s : State) (states : States)
    (slots between slots' : Slots) (lists : Lists) (places : Places) (words words' : WordLists)
    (r : ActiveTx) (v : Version) (row : RowData) (n m : ℕ)
    → VersionsStandFor opening s states slots lists places → active_of r.id s.active ≡ Some r
    → version_at slots (number n) ≡ Some v → row.key ≡ v.row.key
    → MayEnd s (phases_of states) r.id (all_versions slots) v
    → HaveNow slots between n (ended_by r.id v)
    → version_at between (number m) ≡ None → HaveNow between slots' m (fresh r.id row)
    → HaveListNow words words' r.id
    ((words r.id ++ End (number n) ∷ []) ++ Begin (number m) ∷ [])
    → HasWordLists s slots words
    → HasWordLists (after_answer s r.id (Update row) Updated) slots' words'

-- An answer that writes nothing leaves the lists.
abbrev pub AnswerKeepsLists : Type 0
AnswerKeepsLists = (opening : Map) (s : State) (states : States)
    (slots : Slots) (lists : Lists) (places : Places) (words : WordLists) (r : ActiveTx) (op : Op)
    (a : AnswerData)
    → VersionsStandFor opening s states slots lists places → active_of r.id s.active ≡ Some r
    → write_of op a ≡ None → HasWordLists s slots words
    → HasWordLists (after_answer s r.id op a) slots words

-- ---- precommit, a check, a commit and an abort
abbrev pub PrecommitKeepsLists : Type 0
PrecommitKeepsLists = (opening : Map) (s : State) (states : States)
    (slots : Slots) (lists : Lists) (places : Places) (words : WordLists) (r : ActiveTx)
    → VersionsStandFor opening s states slots lists places → active_of r.id s.active ≡ Some r
    → HasWordLists s slots words → HasWordLists (after_prepare s r (s.clock + 1)) slots words

abbrev pub CheckKeepsLists : Type 0
CheckKeepsLists = (s : State) (slots : Slots) (words : WordLists) (t : ℕ)
    → HasWordLists s slots words → HasWordLists (after_validate s t) slots words

abbrev pub CommitKeepsLists : Type 0
CommitKeepsLists = (opening : Map) (s : State) (states : States)
    (slots : Slots) (lists : Lists) (places : Places) (words : WordLists) (t : ℕ) (x : StampedTx)
    → VersionsStandFor opening s states slots lists places → preparing_of t s.stamped ≡ Some x
    → HasWordLists s slots words → HasWordLists (after_commit s t x.end) slots words

abbrev pub AbortKeepsLists : Type 0
AbortKeepsLists = (opening : Map) (s : State) (states : States)
    (slots : Slots) (lists : Lists) (places : Places) (words : WordLists) (t : ℕ)
    → VersionsStandFor opening s states slots lists places → MayAbort (phases_of states) t
    → HasWordLists s slots words → HasWordLists (after_abort s t) slots words

-- ---- finishing
-- A first place that doesn't name its ended transaction is passed over.
abbrev pub PassingKeepsLists : Type 0
PassingKeepsLists = (opening : Map) (s : State) (states : States)
    (slots : Slots) (lists : Lists) (places : Places) (words words' : WordLists) (u : EndedTx)
    (p : WordPlace) (ps : List WordPlace)
    → VersionsStandFor opening s states slots lists places → ended_of u.id s.ended ≡ Some u
    → words u.id ≡ p ∷ ps → names_at slots u.id p ≡ false → HaveListNow words words' u.id ps
    → HasWordLists s slots words → HasWordLists s slots words'

-- Whether the next call answers Done: at most one place on the list names the transaction.
abbrev pub DoneIsSeen : Type 0
DoneIsSeen = (s : State) (slots : Slots) (words : WordLists) (u : EndedTx)
    → ended_of u.id s.ended ≡ Some u → HasWordLists s slots words
    → is_done s u.id ≡ nat_le (length (places_naming slots u.id (words u.id))) 1

-- The first place names it, and others do: its word is finished, and the place goes.
abbrev pub FinishKeepsLists : Type 0
FinishKeepsLists = (opening : Map) (s : State) (states : States)
    (slots slots' : Slots) (lists : Lists) (places : Places) (words words' : WordLists)
    (u : EndedTx) (p : WordPlace) (ps : List WordPlace) (v : Version)
    → VersionsStandFor opening s states slots lists places → ended_of u.id s.ended ≡ Some u
    → words u.id ≡ p ∷ ps → version_at slots (number_at_word p) ≡ Some v
    → names_at slots u.id p ≡ true → is_done s u.id ≡ false
    → HaveNow slots slots' (number_at_word p).0 (finished (ends_of (phases_of states)) u.id p v)
    → HaveListNow words words' u.id ps → HasWordLists s slots words
    → HasWordLists (after_finish s u.id) slots' words'

-- It is the last one: no word names the transaction then.
abbrev pub LastIsUnnamed : Type 0
LastIsUnnamed = (s : State) (states : States) (slots slots' : Slots) (words : WordLists)
    (u : EndedTx) (p : WordPlace) (ps : List WordPlace) (v : Version)
    → ended_of u.id s.ended ≡ Some u → words u.id ≡ p ∷ ps
    → version_at slots (number_at_word p) ≡ Some v → names_at slots u.id p ≡ true
    → is_done s u.id ≡ true
    → HaveNow slots slots' (number_at_word p).0 (finished (ends_of (phases_of states)) u.id p v)
    → HasWordLists s slots words → IsUnnamed u.id (all_versions slots')

abbrev pub LastKeepsLists : Type 0
LastKeepsLists = (opening : Map) (s : State) (states : States)
    (slots slots' : Slots) (lists : Lists) (places : Places) (words words' : WordLists)
    (u : EndedTx) (p : WordPlace) (ps : List WordPlace) (v : Version)
    → VersionsStandFor opening s states slots lists places → ended_of u.id s.ended ≡ Some u
    → words u.id ≡ p ∷ ps → version_at slots (number_at_word p) ≡ Some v
    → names_at slots u.id p ≡ true → is_done s u.id ≡ true
    → HaveNow slots slots' (number_at_word p).0 (finished (ends_of (phases_of states)) u.id p v)
    → HaveListNow words words' u.id [] → HasWordLists s slots words
    → HasWordLists (after_finish s u.id) slots' words'

-- No place is left: no word names it, and it is done.
abbrev pub NoneIsUnnamed : Type 0
NoneIsUnnamed = (s : State) (slots : Slots) (words : WordLists) (t : ℕ)
    → places_naming slots t (words t) ≡ [] → HasWordLists s slots words
    → IsUnnamed t (all_versions slots)

abbrev pub LeavingKeepsLists : Type 0
LeavingKeepsLists = (opening : Map) (s : State) (states : States)
    (slots : Slots) (lists : Lists) (places : Places) (words words' : WordLists) (u : EndedTx)
    → VersionsStandFor opening s states slots lists places → ended_of u.id s.ended ≡ Some u
    → places_naming slots u.id (words u.id) ≡ [] → HaveListNow words words' u.id []
    → HasWordLists s slots words → HasWordLists (after_finish s u.id) slots words'

-- Once a word is finished, others see the same, and what the core has stands for the same state.
abbrev pub FinishedIsAlike : Type 0
FinishedIsAlike = (opening : Map) (s : State) (states : States)
    (slots : Slots) (lists : Lists) (places : Places) (u : EndedTx) (p : WordPlace) (v : Version)
    → VersionsStandFor opening s states slots lists places → ended_of u.id s.ended ≡ Some u
    → version_at slots (number_at_word p) ≡ Some v → names_at slots u.id p ≡ true
    → IsSeenAlike states states v (finished (ends_of (phases_of states)) u.id p v)

abbrev pub FinishedStands : Type 0
FinishedStands = (opening : Map) (s : State) (states : States)
    (slots slots' : Slots) (lists : Lists) (places : Places) (u : EndedTx) (p : WordPlace)
    (v : Version)
    → VersionsStandFor opening s states slots lists places → ended_of u.id s.ended ≡ Some u
    → version_at slots (number_at_word p) ≡ Some v → names_at slots u.id p ≡ true
    → HaveNow slots slots' (number_at_word p).0 (finished (ends_of (phases_of states)) u.id p v)
    → VersionsStandFor opening s states slots' lists places

-- ---- the tale is trimmed, a group is closed, and a version goes
abbrev pub TrimKeepsLists : Type 0
TrimKeepsLists = (opening : Map) (s : State) (states : States)
    (slots : Slots) (lists : Lists) (places : Places) (words : WordLists) (m : ℕ)
    → VersionsStandFor opening s states slots lists places → why_not_trim s m ≡ None
    → HasWordLists s slots words → HasWordLists (after_trim s m) slots words

abbrev pub CloseKeepsLists : Type 0
CloseKeepsLists = (s : State) (slots : Slots) (words : WordLists) (mark : ℕ)
    → HasWordLists s slots words → HasWordLists (after_close s mark) slots words

-- A version goes whose words name nobody.
abbrev pub RemovalKeepsLists : Type 0
RemovalKeepsLists = (s : State) (slots slots' : Slots) (words : WordLists) (v : Version) (n : ℕ)
    → version_at slots (number n) ≡ Some v
    → ((t : ℕ) → (names t v.begin ≡ false) × (names t v.end ≡ false))
    → SlotsDifferAt n slots slots' → version_at slots' (number n) ≡ None
    → HasWordLists s slots words → HasWordLists s slots' words

-- Slots that have the same at each number, as where there is room for more, have the same lists.
abbrev pub RoomKeepsLists : Type 0
RoomKeepsLists = (s : State) (slots slots' : Slots) (words : WordLists)
    → ((number : VersionNo) → version_at slots' number ≡ version_at slots number)
    → HasWordLists s slots words → HasWordLists s slots' words

-- ---- what the lists say
-- As an Active or Preparing one draws its end or is aborted, its list has the numbers of the
-- versions that it wrote.
abbrev pub ListsAreWritten : Type 0
ListsAreWritten = (opening : Map) (s : State) (states : States)
    (slots : Slots) (lists : Lists) (places : Places) (words : WordLists) (t : ℕ)
    → VersionsStandFor opening s states slots lists places → MayAbort (phases_of states) t
    → HasWordLists s slots words
    → AreWrittenBy t slots (map (λ p. (number_at_word p).0) (words t))

-- Of two versions of a key whose puts have one stamp, one is removed with it, where it is above
-- the start; and one is removed in any case.
abbrev pub OnePutIsLeft : Type 0
OnePutIsLeft = (s : State) (states : States) (slots : Slots) (v w : Version) (n m a : ℕ)
    → AreVersionsOf s (phases_of states) (all_versions slots)
    → version_at slots (number n) ≡ Some v → version_at slots (number m) ≡ Some w
    → v.row.key ≡ w.row.key
    → stamp_in (ends_of (phases_of states)) v.begin ≡ Some a
    → stamp_in (ends_of (phases_of states)) w.begin ≡ Some a
    → s.start < a
    → has_stamp (ends_of (phases_of states)) a v.end ≡ false
    → has_stamp (ends_of (phases_of states)) a w.end ≡ false → n ≡ m

abbrev pub OnePutStands : Type 0
OnePutStands = (s : State) (states : States) (slots : Slots) (v w : Version) (n m a : ℕ)
    → AreVersionsOf s (phases_of states) (all_versions slots)
    → version_at slots (number n) ≡ Some v → version_at slots (number m) ≡ Some w
    → v.row.key ≡ w.row.key
    → stamp_in (ends_of (phases_of states)) v.begin ≡ Some a
    → stamp_in (ends_of (phases_of states)) w.begin ≡ Some a
    → stamp_in (ends_of (phases_of states)) v.end ≡ None
    → stamp_in (ends_of (phases_of states)) w.end ≡ None → n ≡ m
