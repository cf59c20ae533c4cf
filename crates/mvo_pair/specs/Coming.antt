-- A data file that is read in slices: what comes of the bytes behind those that are read.
use Rattle.std.specs.Prelude.{◌≡◌, ◌⊎◌, ℕ, zero, suc, ◌+◌, ◌-◌, ◌≤◌, Bool, true, false, List, [], ◌∷◌, ◌++◌, length, take, drop, slice_index_or, Option, Some, None, Result, Ok, Err, ◌&&◌, if◌then◌else◌}
use Rattle.std.specs.Ordering.{nat_cmp, ordering_then, is_lt}
use Rattle.mvo_types.specs.declared.refusal.Refusal.{Refusal}
use Rattle.mvo_types.specs.declared.row.RowKey.{RowKey}
use Rattle.mvo_types.specs.declared.ids.Stamp.{Stamp}
use Rattle.mvo_types.specs.Keys.{key_cmp}
use Rattle.mvo_format.specs.declared.format.Format.{Format}
use Rattle.mvo_pair.specs.declared.pair.Pair.{Pair}
use Rattle.mvo_pair.specs.declared.reading.ReadSoFar.{ReadSoFar}
use Rattle.mvo_pair.specs.declared.reading.TheConstants.{MOST_RECORD}
use Rattle.mvo_pair.specs.declared.unread.Unread.{Unread}
use Rattle.mvo_pair.specs.declared.unread.Unread.TheVariants.{Memory, Broken}
use Rattle.mvo_pair.specs.Answers.{FoundOrUnread, IsOnly}
use Rattle.mvo_pair.specs.Data.{EntryData, Numbered}
use Rattle.mvo_pair.specs.Flags.{live_one}
use Rattle.mvo_pair.specs.Loading.{LoadsAs}
use Rattle.mvo_pair.specs.Reading.{read_then, of_file, entry_at, keeps, live_found, pair_found, IsBytes}

-- ---- the records that come

-- where a record stands in the order of its file
abbrev pub LastRead : Type 0
LastRead = Option (Stamp × RowKey)

abbrev pub read_last : EntryData → LastRead
read_last e = Some (record { 0 = e.begin }, e.row.key)

-- it stands behind the last one that was read
unfoldable pub is_behind : LastRead → EntryData → Bool
is_behind None e = true
is_behind (Some l) e =
    is_lt (ordering_then (nat_cmp l.0.0 e.begin) (key_cmp l.1 e.row.key))

abbrev pub record_kept : Format → ℕ → ℕ → LastRead → Option (EntryData × List ℕ)
    → FoundOrUnread (EntryData × List ℕ)
record_kept f lo hi last None = Err Broken
record_kept f lo hi last (Some x) =
    if keeps f lo hi x.0 && is_behind last x.0 then Ok x else Err Broken

-- the record at the front, which keeps its rules behind the last one, and what stands behind it
unfoldable pub record_found : Format → ℕ → ℕ → LastRead → List ℕ
    → FoundOrUnread (EntryData × List ℕ)
record_found f lo hi last body = record_kept f lo hi last (entry_at body)

-- so many records, one behind another
abbrev pub entries_behind : Format → ℕ → ℕ → LastRead → ℕ → List ℕ
    → FoundOrUnread (List EntryData)
entries_behind f lo hi last zero body = Ok []
entries_behind f lo hi last (suc n) body =
    read_then (record_found f lo hi last body) (λ x.
    read_then (entries_behind f lo hi (read_last x.0) n x.1) (λ es. Ok (x.0 ∷ es)))

-- What the front of some bytes gives as a record, and how many bytes that takes: so it is found,
-- whatever stands behind it. None where it isn't whole. An error where it breaks a rule.
abbrev pub IsNextRecord : Format → ℕ → ℕ → LastRead → List ℕ
    → Result (Option (EntryData × ℕ)) Unread → Type 0
IsNextRecord f lo hi last bytes (Ok (Some x)) = (x.1 ≤ length bytes)
    × ((rest : List ℕ) → record_found f lo hi last (take x.1 bytes ++ rest) ≡ Ok (x.0, rest))
IsNextRecord f lo hi last bytes (Ok None) = (n : ℕ) (body : List ℕ) → MOST_RECORD ≤ n →
    bytes ≡ take n body → record_found f lo hi last body ≡ Err Broken
IsNextRecord f lo hi last bytes (Err e) = (e ≡ Memory) ⊎ ((n : ℕ) (body : List ℕ) →
    bytes ≡ take n body → record_found f lo hi last body ≡ Err e)

-- ---- the live ones of them

-- of these records, which are numbered from here on, those that aren't flagged
abbrev pub unflagged : List Bool → ℕ → List EntryData → List Numbered
unflagged flags n [] = []
unflagged flags n (e ∷ es) =
    live_one (slice_index_or flags n false) n e ++ unflagged flags (n + 1) es

-- A pair whose data file is read in slices: by its format and its delta file, which names these or
-- is refused.
pub record PairReadingData : Type 0 where
  pub pair : Pair
  pub format : Format
  pub named : List Bool
  pub refused : Option Refusal

-- they come where the delta file isn't refused
abbrev pub unless_refused : Option Refusal → List Numbered → Result (List Numbered) Refusal
unless_refused None live = Ok live
unless_refused (Some e) live = Err e

-- Of as many records as the pair counts the delta file leaves those that aren't flagged, or it is
-- refused.
abbrev pub AreNamed : Format → Pair → List ℕ → List Bool → Option Refusal → Type 0
AreNamed f p delta_file_bytes flags refused = (es : List EntryData) → length es ≡ p.records →
    live_found f p delta_file_bytes es ≡ unless_refused refused (unflagged flags 0 es)

-- What the pair gives behind the records that are read, where these bytes are the rest of its data
-- file: the live ones of the records that come, or the first broken rule.
unfoldable pub still_found : PairReadingData → ReadSoFar → List ℕ → Result (List Numbered) Refusal
still_found r so_far rest = read_then
    (of_file r.pair.data_file (entries_behind r.format r.pair.lo.0 r.pair.hi.0 so_far.last
    (r.pair.records - so_far.count) rest))
    (λ es. unless_refused r.refused (unflagged r.named so_far.count es))

-- these, and then what comes
abbrev pub in_front : List Numbered → Result (List Numbered) Refusal
    → Result (List Numbered) Refusal
in_front live (Ok more) = Ok (live ++ more)
in_front live (Err e) = Err e

-- ---- calls

-- behind one more record, which takes so many bytes
abbrev pub behind_record : ReadSoFar → EntryData → ℕ → ReadSoFar
behind_record s e len = record { count = s.count + 1; place = s.place + len; last = read_last e }

-- before the first record
abbrev pub at_start : ReadSoFar
at_start = record { count = 0; place = 8; last = None }

-- What is found of the pair, whatever stands in its data file, where that begins as these bytes do,
-- is what comes behind the header.
abbrev pub IsReadingBegun : ℕ → Pair → List ℕ → List ℕ → PairReadingData → Type 0
IsReadingBegun upto p front delta r = (data_file_bytes : List ℕ) →
    take 8 data_file_bytes ≡ take 8 front →
    pair_found upto p data_file_bytes delta ≡ still_found r at_start (drop 8 data_file_bytes)

-- It is this refusal, whatever stands in a data file of no more bytes than so many.
abbrev pub IsNoReading : ℕ → Pair → ℕ → List ℕ → List ℕ → Refusal → Type 0
IsNoReading upto p len front delta e = (data_file_bytes : List ℕ) →
    take 8 data_file_bytes ≡ take 8 front → length data_file_bytes ≤ len →
    pair_found upto p data_file_bytes delta ≡ Err e

-- What is found of a pair is the one answer that its files give; and live records that they give
-- are found of it, whatever stands behind them.
pub record FoundIsLoaded (upto : ℕ) (p : Pair) : Type 0 where
  pub only : (data_file_bytes delta : List ℕ) → IsBytes data_file_bytes → IsBytes delta →
      IsOnly (LoadsAs upto p data_file_bytes delta) (pair_found upto p data_file_bytes delta)
  pub live : (data_file_bytes delta : List ℕ) (live : List Numbered) →
      LoadsAs upto p data_file_bytes delta (Ok live) →
      pair_found upto p data_file_bytes delta ≡ Ok live

-- The first ones of these bytes are read, up to another place, and these live records are what
-- comes of them: then comes what comes behind them.
pub record IsReadOn (r : PairReadingData) (from : ReadSoFar) (bytes : List ℕ)
    (live : List Numbered) (to : ReadSoFar) : Type 0 where
  pub place : ℕ
  pub place_is : to.place ≡ from.place + place
  pub within : place ≤ length bytes
  pub comes : (rest : List ℕ) →
      still_found r from (take place bytes ++ rest) ≡ in_front live (still_found r to rest)

-- Where these are the next bytes of a file, the whole rest of it or as many as a record may take,
-- this refusal comes.
abbrev pub IsBroken : PairReadingData → ReadSoFar → List ℕ → Refusal → Type 0
IsBroken r from bytes e = (n : ℕ) (rest : List ℕ) → MOST_RECORD ≤ n → bytes ≡ take n rest →
    still_found r from rest ≡ Err e

-- nothing more comes, or this refusal
abbrev pub nothing_more : {X : Type 0} → Result X Refusal → Result (List Numbered) Refusal
nothing_more (Ok x) = Ok []
nothing_more (Err e) = Err e
