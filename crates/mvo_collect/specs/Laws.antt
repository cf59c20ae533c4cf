-- The laws of collecting.
use Rattle.std.specs.Prelude.{ℕ, suc, ◌≡◌, ◌+◌, ◌-◌, ◌<◌, ◌≤◌, Bool, true, cond, List, [], ◌∷◌, ◌++◌, map, None, Some}
use Rattle.std.specs.List.{AllByRecursion}
use Rattle.std.specs.FinMap as fin
use Rattle.mvo_types.specs.declared.row.RowKey.{RowKey}
use Rattle.mvo_types.specs.declared.ids.Stamp.{Stamp}
use Rattle.mvo_types.specs.RowData.{RowData}
use Rattle.mvo_types.specs.Keys.{Map}
use Rattle.mvo_theory.specs.State.{State, ActiveTx, active_of, opened}
use Rattle.mvo_theory.specs.Ranges.{shows, is_row_of}
use Rattle.mvo_theory.specs.Sound.{IsLegal}
use Rattle.mvo_theory.specs.Causes.{why_not_trim}
use Rattle.mvo_theory.specs.Changes.{after_trim}
use Rattle.mvo_theory.specs.Calls.{Call, Result, MayCome, after_call}
use Rattle.mvo_shared.specs.Standing.{IsStanding}
use Rattle.mvo_chain.specs.declared.version.Version.{Version}
use Rattle.mvo_chain.specs.declared.version.VersionNo.{VersionNo}
use Rattle.mvo_chain.specs.Slots.{Slots, version_at}
use Rattle.mvo_hash.specs.Lists.{number}
use Rattle.mvo_txn.specs.declared.state.TxState.TheVariants.{Active, Preparing}
use Rattle.mvo_visible.specs.Words.{States, names}
use Rattle.mvo_visible.specs.Fronts.{DifferAt}
use Rattle.mvo_visible.specs.Versions.{versions_at}
use Rattle.mvo_visible.specs.Changes.{changes_of}
use Rattle.mvo_visible.specs.Shown.{shown_to}
use Rattle.mvo_visible.specs.declared.outcome.Shown.{Shown}
use Rattle.mvo_types.specs.declared.entry.Entry.{Entry}
use Rattle.mvo_types.specs.declared.entry.Entry.TheVariants.{Range}
use Rattle.mvo_validate.specs.Between.{stamp_between}
use Rattle.mvo_validate.specs.Entries.{versions_in}
use Rattle.mvo_word.specs.declared.held.Held.TheVariants.{At, Infinity}
use Rattle.mvo_work.specs.declared.word_place.WordPlace.{WordPlace}
use Rattle.mvo_work.specs.declared.word_place.WordPlace.TheVariants.{Begin, End}
use Rattle.mvo_representation.specs.Words.{Phases, ends_of, has_stamp, net_effect, change_below, standing, row_in, with_open, is_met}
use Rattle.mvo_representation.specs.Words.NetEffect.{Untouched}
use Rattle.mvo_representation.specs.Versions.{AreVersionsOf}
use Rattle.mvo_representation.specs.Indexes.{all_versions}
use Rattle.mvo_representation.specs.Steps.{IsOneMore, IsOneChanged, fresh, ended_by}
use Rattle.mvo_representation.specs.Table.{phases_of, content_shown, end_awaited}
use Rattle.mvo_representation.specs.Laws.{VersionsStandFor}
use Rattle.mvo_representation.specs.Order.{AllStandInOrder}
use Rattle.mvo_representation.specs.OrderLaws.{HaveNow}
use Rattle.mvo_representation.specs.WordLists.{WordLists, HasWordLists, names_at, number_at_word, finished}
use Rattle.mvo_versions.specs.Data.{VersionsData}
use Rattle.mvo_collect.specs.declared.collection.Collection.{Collection}
use Rattle.mvo_collect.specs.declared.collection.Collection.TheVariants.{Collected, Nothing}
use Rattle.mvo_collect.specs.declared.ended.Ended.{Ended}
use Rattle.mvo_collect.specs.Begun.{AreOver}
use Rattle.mvo_collect.specs.Garbage.{horizon, garbage_count, is_dead}
use Rattle.mvo_collect.specs.Waiting.{WaitingData, AreWaiting, IsNothing, is_by, is_buried}
use Rattle.mvo_collect.specs.Collecting.{IsCollected, IsCollection, from_dead, from_due, due_number}

-- ---- collecting
-- what a core keeps of its versions, beside the table and the tale
pub record VersionsStand (opening : Map) (s : State) (states : States)
    (v : VersionsData) (words : WordLists) (w : WaitingData) : Type 0 where
  pub versions : VersionsStandFor opening s states v.slots v.lists v.places
  pub over : AreOver s
  pub order : AllStandInOrder s.start states v.slots v.lists
  pub lists : HasWordLists s v.slots words
  pub waiting : AreWaiting s.clock states v.slots w

-- The horizon is the start of the tale.
abbrev pub HorizonIsStart : Type 0
HorizonIsStart = (opening : Map) (s : State) (states : States)
    (v : VersionsData) (words : WordLists) (w : WaitingData)
    → VersionsStand opening s states v words w → horizon s ≡ s.start

-- A garbage version is taken out: what is left stands for the same state, and one is fewer.
abbrev pub CollectKeeps : Type 0
CollectKeeps = (opening : Map) (s : State) (states : States)
    (old new : VersionsData) (words : WordLists) (w : WaitingData) (n : VersionNo)
    → VersionsStand opening s states old words w → IsCollected s.start old new n
    → VersionsStand opening s states new words w

abbrev pub CollectTakesOne : Type 0
CollectTakesOne = (h : ℕ) (old new : VersionsData) (n : VersionNo) → IsCollected h old new n
    → garbage_count h new.slots + 1 ≡ garbage_count h old.slots

-- Whatever isn't dead any more is passed over.
abbrev pub DeadArePassed : Type 0
DeadArePassed = (clock : ℕ) (states : States) (slots : Slots) (w : WaitingData)
    → AreWaiting clock states slots w
    → AreWaiting clock states slots (record w { dead = from_dead slots w.dead })

abbrev pub DueArePassed : Type 0
DueArePassed = (opening : Map) (s : State) (states : States)
    (v : VersionsData) (words : WordLists) (w : WaitingData)
    → VersionsStand opening s states v words w
    → VersionsStand opening s states v words
    (record w { ended = from_due s.start v.slots w.ended })

-- Where nothing is left behind them, there is no garbage.
abbrev pub NothingIsLeft : Type 0
NothingIsLeft = (opening : Map) (s : State) (states : States)
    (v : VersionsData) (words : WordLists) (w : WaitingData)
    → VersionsStand opening s states v words w
    → from_dead v.slots w.dead ≡ []
    → due_number s.start (from_due s.start v.slots w.ended) ≡ None
    → garbage_count (horizon s) v.slots ≡ 0

-- What a call that collects leaves stands for the same state.
abbrev pub CollectionStands : Type 0
CollectionStands = (opening : Map) (s : State) (states : States)
    (old new : VersionsData) (words : WordLists) (w w' : WaitingData) (c : Collection)
    → VersionsStand opening s states old words w → IsCollection s.start old w c new w'
    → VersionsStand opening s states new words w'

-- One garbage version is fewer, or there is none.
abbrev pub IsCountedSo : ℕ → Slots → Slots → Collection → Type 0
IsCountedSo h old new Collected = garbage_count h new + 1 ≡ garbage_count h old
IsCountedSo h old new Nothing = (garbage_count h old ≡ 0) × (new ≡ old)

abbrev pub CollectionCounts : Type 0
CollectionCounts = (opening : Map) (s : State) (states : States)
    (old new : VersionsData) (words : WordLists) (w w' : WaitingData) (c : Collection)
    → VersionsStand opening s states old words w → IsCollection s.start old w c new w'
    → IsCountedSo (horizon s) old.slots new.slots c

-- ---- the other calls
-- Transactions change so that no word gets a stamp.
abbrev pub TableKeepsWaiting : Type 0
TableKeepsWaiting = (clock clock' : ℕ) (states states' : States) (slots : Slots) (w : WaitingData)
    → clock ≤ clock'
    → ((t e : ℕ) → ends_of (phases_of states') t ≡ Some e → ends_of (phases_of states) t ≡ Some e)
    → AreWaiting clock states slots w → AreWaiting clock' states' slots w

-- A transaction draws its end: the versions that it ended wait with it.
abbrev pub waiting_drawn : Stamp → List VersionNo → List Ended
waiting_drawn e ns = map (λ n. record { end = e; number = n }) ns

-- whether the number is among these
abbrev pub IsAmongBuried : ℕ → List VersionNo → Type 0
IsAmongBuried n ns = is_buried n ns ≡ true

abbrev pub DrawKeepsWaiting : Type 0
DrawKeepsWaiting = (opening : Map) (s : State) (states states' : States)
    (v : VersionsData) (words : WordLists) (w : WaitingData) (t : ℕ) (end' : Stamp)
    (ns : List VersionNo)
    → VersionsStand opening s states v words w → states t ≡ Some Active
    → DifferAt t states states' → states' t ≡ Some (Preparing end') → end'.0 ≡ s.clock + 1
    → ((n : ℕ) (x : Version) → version_at v.slots (number n) ≡ Some x → names t x.end ≡ true
    → IsAmongBuried n ns)
    → AreWaiting (s.clock + 1) states' v.slots
    (record w { ended = w.ended ++ waiting_drawn end' ns })

-- with this many owed, and any room
abbrev pub with_owed : WaitingData → ℕ → ℕ → WaitingData
with_owed w owed room = record w { owed = owed; room = room }

-- A version is put: its Begin may come to be dead.
abbrev pub PutKeepsWaiting : Type 0
PutKeepsWaiting = (clock : ℕ) (states : States) (slots slots' : Slots) (w : WaitingData)
    (t n room : ℕ) (row : RowData)
    → version_at slots (number n) ≡ None → HaveNow slots slots' n (fresh t row)
    → IsOneMore (fresh t row) (all_versions slots) (all_versions slots')
    → AreWaiting clock states slots w
    → AreWaiting clock states slots' (with_owed w (w.owed + 1) room)

-- An Active transaction ends a version: one word more names one, unless it takes over another's.
abbrev pub EndKeepsWaiting : Type 0
EndKeepsWaiting = (clock : ℕ) (states : States) (slots slots' : Slots) (w : WaitingData)
    (t n room : ℕ) (v : Version)
    → states t ≡ Some Active
    → version_at slots (number n) ≡ Some v → HaveNow slots slots' n (ended_by t v)
    → IsOneChanged v (ended_by t v) (all_versions slots) (all_versions slots')
    → AreWaiting clock states slots w
    → AreWaiting clock states slots' (with_owed w (w.owed + cond (is_by v.end) 0 1) room)

-- the version with the number waits among the dead, where it is dead now
abbrev pub and_dead : Bool → ℕ → WaitingData → WaitingData
and_dead dead n w = cond dead (record w { dead = w.dead ++ number n ∷ [] }) w

-- A word of one that is Committed or Aborted is replaced.
abbrev pub FinishKeepsWaiting : Type 0
FinishKeepsWaiting = (clock : ℕ) (states : States) (slots slots' : Slots) (w : WaitingData)
    (t room : ℕ) (p : WordPlace) (v : Version)
    → version_at slots (number_at_word p) ≡ Some v → names_at slots t p ≡ true
    → HaveNow slots slots' (number_at_word p).0 (finished (ends_of (phases_of states)) t p v)
    → IsOneChanged v (finished (ends_of (phases_of states)) t p v)
    (all_versions slots) (all_versions slots')
    → AreWaiting clock states slots w
    → AreWaiting clock states slots'
    (and_dead (is_dead (finished (ends_of (phases_of states)) t p v)) (number_at_word p).0
    (with_owed w (w.owed - 1) room))

-- Slots that have the same at each number have the same waiting.
abbrev pub RoomKeepsWaiting : Type 0
RoomKeepsWaiting = (clock : ℕ) (states : States) (slots slots' : Slots) (w : WaitingData)
    → ((n : ℕ) → version_at slots' (number n) ≡ version_at slots (number n))
    → all_versions slots' ≡ all_versions slots
    → AreWaiting clock states slots w → AreWaiting clock states slots' w

-- ---- what is shown
-- a begin from the start on that no change has as its stamp
pub record IsFreeBegin (s : State) (states : States) (slots : Slots) (b : ℕ) : Type 0 where
  pub from : s.start ≤ b
  pub free : s.start ≡ b → (k : RowKey)
      → net_effect (has_stamp (ends_of (phases_of states)) b) k (all_versions slots) ≡ Untouched

-- A begin above the horizon, or at it where no change has that stamp, is shown the same: the put
-- that stands below it, with its stamp, is the same.
abbrev pub CollectShowsSame : Type 0
CollectShowsSame = (opening : Map) (s : State) (states : States)
    (old new : VersionsData) (words : WordLists) (w : WaitingData) (n : VersionNo)
    (b : ℕ) (k : RowKey)
    → VersionsStand opening s states old words w → IsCollected s.start old new n
    → IsFreeBegin s states old.slots b
    → standing (change_below (ends_of (phases_of states)) b k (all_versions new.slots))
    ≡ standing (change_below (ends_of (phases_of states)) b k (all_versions old.slots))

-- what the rules show the transaction at a key
abbrev pub shown_at_key : States → ℕ → VersionsData → RowKey → Shown
shown_at_key states t v k = shown_to states t t (versions_at v.slots v.lists k)

-- What the rules answer of an Active transaction is the same too: what it is shown at a key, on
-- whom it comes to depend there, what the check of an entry names, and what a scan meets.
pub record AnswersSame (s : State) (states : States) (old new : VersionsData) (r : ActiveTx)
    : Type 0 where
  pub shown : (k : RowKey)
      → content_shown new.slots (shown_at_key states r.id new k).version
      ≡ content_shown old.slots (shown_at_key states r.id old k).version
  pub depends : (k : RowKey)
      → with_open r.depends_on (end_awaited states (shown_at_key states r.id new k).depends_on)
      ≡ with_open r.depends_on (end_awaited states (shown_at_key states r.id old k).depends_on)
  pub checked : (begin end' : ℕ) (entry : Entry) → s.start ≤ begin → begin < end'
      → stamp_between begin end'
      (changes_of states (versions_in new.slots new.lists new.places entry))
      ≡ stamp_between begin end'
      (changes_of states (versions_in old.slots old.lists old.places entry))
  pub met : (table lo hi : ℕ) (q : RowKey)
      → is_met (ends_of (phases_of states)) s.start r.id
      (is_row_of (shows (Range table lo hi)) q) (all_versions new.slots)
      ≡ is_met (ends_of (phases_of states)) s.start r.id
      (is_row_of (shows (Range table lo hi)) q) (all_versions old.slots)

abbrev pub CollectAnswersSame : Type 0
CollectAnswersSame = (opening : Map) (s : State) (states : States)
    (old new : VersionsData) (words : WordLists) (w w' : WaitingData) (c : Collection)
    (r : ActiveTx)
    → VersionsStand opening s states old words w → IsCollection s.start old w c new w'
    → active_of r.id s.active ≡ Some r → AnswersSame s states old new r

-- ---- the tale
-- The stored commits above the start are legal from the rows that the versions show to a begin just
-- above it.
pub record HasTaleAbove (s : State) (states : States) (slots : Slots) : Type 0 where
  pub shown : (k : RowKey)
      → row_in (change_below (ends_of (phases_of states)) (suc s.start) k (all_versions slots))
      ≡ fin.get s.base k
  pub legal : IsLegal s.base s.stamped

abbrev pub TaleIsLegal : Type 0
TaleIsLegal = (opening : Map) (s : State) (states : States)
    (v : VersionsData) (words : WordLists) (w : WaitingData)
    → VersionsStand opening s states v words w → HasTaleAbove s states v.slots

-- A trim keeps what stands.
abbrev pub TrimStands : Type 0
TrimStands = (opening : Map) (s : State) (states : States)
    (v : VersionsData) (words : WordLists) (w : WaitingData) (m : ℕ)
    → VersionsStand opening s states v words w → why_not_trim s m ≡ None
    → VersionsStand opening (after_trim s m) states v words w

-- ---- what the calls need
-- Nothing waits when a core opens: its versions begin at the mark, and nobody has ended them.
abbrev pub OpeningWaits : Type 0
OpeningWaits = (clock mark : ℕ) (states : States) (slots : Slots) (w : WaitingData)
    → AllByRecursion (λ v. (v.begin ≡ At (record { 0 = mark })) × (v.end ≡ Infinity))
    (all_versions slots)
    → IsNothing w → AreWaiting clock states slots w

-- the versions whose Ends a list of words has
abbrev pub end_numbers : List WordPlace → List VersionNo
end_numbers [] = []
end_numbers (Begin n ∷ ps) = end_numbers ps
end_numbers (End n ∷ ps) = n ∷ end_numbers ps

-- The list of a transaction has each version that it ended.
abbrev pub EndsAreListed : Type 0
EndsAreListed = (s : State) (slots : Slots) (words : WordLists) (t n : ℕ) (v : Version)
    → HasWordLists s slots words → version_at slots (number n) ≡ Some v → names t v.end ≡ true
    → IsAmongBuried n (end_numbers (words t))

-- Where a word names a transaction, room is kept for its version.
abbrev pub OpenIsOwed : Type 0
OpenIsOwed = (clock : ℕ) (states : States) (slots : Slots) (w : WaitingData) (t : ℕ)
    (p : WordPlace) → AreWaiting clock states slots w → names_at slots t p ≡ true → 0 < w.owed

-- ---- who is over
-- Each call, whatever it comes to, keeps what a state keeps of those that are Committed or Aborted
-- and unfinished; and so it is where a core opens.
abbrev pub EachCallKeepsOver : Type 0
EachCallKeepsOver = (opening : Map) (s : State) (table : Phases)
    (vs : List Version) (c : Call) (r : Result) → IsStanding opening s → MayCome s c r
    → AreVersionsOf s table vs → AreOver s → AreOver (after_call s c r)

abbrev pub OpensOver : Type 0
OpensOver = (rows : Map) (mark : ℕ) → AreOver (opened rows mark)
