-- Whether bytes are of an older version, by their header.
use Rattle.std.proofs.Common.{◌≡◌, inl, inr, ℕ, ◌<◌, ◌^◌, Bool, true, false, eqb, List, ◌++◌, Some, take, refl, sym, ap, ◌∙◌, arith, eq-eqb, append_assoc}
use Rattle.mvo_bytes.specs.Fields.{field}
use Rattle.mvo_bytes.proofs.Fields.{number_again}
use Rattle.mvo_group.specs.Data.{GroupData}
use Rattle.mvo_format.specs.declared.format.TheConstants.{FIRST_FORMAT, LAST_FORMAT}
use Rattle.mvo_format.specs.declared.header.TheConstants.{HEADER_LEN}
use Rattle.mvo_format.specs.Formats.{IsVersion}
use Rattle.mvo_format.specs.Found.{header, header_at}
use Rattle.mvo_format.proofs.Versions.{has_version, known_word}
use Rattle.mvo_format.proofs.Fronts.{front_taken, length-header}
use Rattle.std.specs.List.{flat_map}
use Rattle.mvo_format.specs.declared.format.Format.{Format}
use Rattle.mvo_pair.specs.declared.data.TheConstants.{DATA_MAGIC}
use Rattle.mvo_pair.specs.declared.delta.TheConstants.{DELTA_MAGIC}
use Rattle.mvo_pair.specs.Data.{EntryData}
use Rattle.mvo_pair.specs.Files.{HasEntries, HasDeadNumbers, file_header, data_magic, delta_magic, entry_bytes}
use Rattle.mvo_pair.proofs.Said.{magic_is, delta_magic_is}
use Rattle.mvo_frame.specs.declared.kind.Kind.{Kind}
use Rattle.mvo_frame.specs.declared.magic.TheConstants.{MAGIC}
use Rattle.mvo_frame.specs.Frames.{IsSegment, HasFrames}
use Rattle.mvo_recovery.proofs.Counted.{format_once}
use Rattle.mvo_recovery.proofs.Later.{last_known}
use Rattle.mvo_load.specs.Old.{is_of_first, is_old}

-- what the header says is what is said of the whole
pub by_header : (old : Bool) (front bytes : List ℕ) → front ≡ take HEADER_LEN bytes → old ≡ is_of_first (header_at front) → old ≡ is_old bytes
unfolding is_old
by_header old front bytes is said = said ∙ ap (λ (l : List ℕ). is_of_first (header_at l)) is

header_again : (magic version : ℕ) (rest : List ℕ) → magic < 2 ^ 32 → version < 2 ^ 32 → header_at (header magic version ++ rest) ≡ Some ((magic, version), rest)
unfolding header_at
header_again magic version rest lm lv =
    ap header_at (append_assoc (field 4 magic) (field 4 version) rest) ∙ rw (number_again 4 magic (field 4 version ++ rest) (omega (arith, lm)), number_again 4 version rest (omega (arith, lv))) refl

-- bytes behind a header are old where its version is the first
pub old_behind : (magic version : ℕ) (bytes rest : List ℕ) → magic < 2 ^ 32 → version < 2 ^ 32 → bytes ≡ header magic version ++ rest → is_old bytes ≡ eqb version FIRST_FORMAT.version
unfolding is_old
old_behind magic version bytes rest lm lv is =
    ap (λ (l : List ℕ). is_of_first (header_at l)) (front_taken HEADER_LEN bytes (header magic version) rest (omega (arith, length-header magic version)) is)
    ∙ ap is_of_first (header_again magic version _ lm lv)

-- so it is of a data file and of a delta file
pub old_data : (f : Format) (lo hi count : ℕ) (es : List EntryData) (bytes : List ℕ) → f.version < 2 ^ 32 → HasEntries f lo hi count es bytes → is_old bytes ≡ eqb f.version FIRST_FORMAT.version
old_data f lo hi count es bytes few has =
    let body = flat_map entry_bytes es ++ has.rest in
    old_behind DATA_MAGIC f.version bytes body (omega arith) few
    (has.whole ∙ append_assoc (file_header data_magic f.version) (flat_map entry_bytes es) has.rest ∙ ap (λ (l : List ℕ). file_header l f.version ++ body) (sym magic_is))

pub old_delta : (version below count : ℕ) (ns bytes : List ℕ) → version < 2 ^ 32 → HasDeadNumbers version below count ns bytes → is_old bytes ≡ eqb version FIRST_FORMAT.version
old_delta version below count ns bytes few has =
    let body = flat_map (field 4) ns ++ has.rest in
    old_behind DELTA_MAGIC version bytes body (omega arith) few
    (has.whole ∙ append_assoc (file_header delta_magic version) (flat_map (field 4) ns) has.rest ∙ ap (λ (l : List ℕ). file_header l version ++ body) (sym delta_magic_is))

-- and of a segment
pub old_segment : (version mark : ℕ) (gs : List GroupData) (bytes : List ℕ) → version < 2 ^ 32 → HasFrames version mark gs bytes → is_old bytes ≡ eqb version FIRST_FORMAT.version
old_segment version mark gs bytes few has = old_behind MAGIC version bytes has.rest (omega arith) few has.whole

-- A SEGMENT THAT ISN'T OLD is of the last version.
pub last_segment : (upto mark : ℕ) (kind : Kind) (gs : List GroupData) (bytes : List ℕ) → (s : IsSegment upto mark kind gs bytes) → is_old bytes ≡ false → s.format ≡ LAST_FORMAT
last_segment upto mark kind gs bytes s new = by (has_version upto s.format s.known)
  where
    told : is_old bytes ≡ eqb s.format.version FIRST_FORMAT.version
    told = old_segment s.format.version mark gs bytes (known_word upto s.format s.known) s.has

    by : IsVersion s.format.version → s.format ≡ LAST_FORMAT
    by (inl first) = let old : true ≡ false = sym (eq-eqb s.format.version FIRST_FORMAT.version first) ∙ sym told ∙ new in absurd cc
    by (inr last) = format_once upto LAST_FORMAT.version s.format LAST_FORMAT s.known last_known last
