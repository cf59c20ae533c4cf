-- What the first bytes of a slot say is what the slot says, as many as the longest slot has.
use Rattle.std.proofs.Common.{◌≡◌, inl, inr, ℕ, ◌+◌, ◌-◌, ◌≤◌, List, [], ◌∷◌, ◌++◌, length, take, drop, Option, Some, None, sym, ap, ◌∙◌, append_assoc, length-append, arith}
use Rattle.mvo_bytes.specs.Fields.{field}
use Rattle.mvo_bytes.proofs.Fields.{length-field}
use Rattle.mvo_format.specs.declared.header.TheConstants.{OPEN}
use Rattle.mvo_format.specs.Found.{Found, header, IsOtherVersion}
use Rattle.mvo_format.proofs.Fronts.{front_taken, front_back, says_alike, other_in_front}
use Rattle.mvo_manifest.specs.declared.constants.TheConstants.{MAGIC, MAX_SLOT_LEN}
use Rattle.mvo_manifest.specs.Data.{ManifestData}
use Rattle.mvo_manifest.specs.Rules.{IsManifest}
use Rattle.mvo_manifest.specs.Body.{manifest_body, sized_body}
use Rattle.mvo_manifest.specs.Slots.{IsShut, IsClosed, IsOpen, SlotHas, IsOtherSlot, SlotSays}
use Rattle.mvo_manifest.proofs.Spelled.{length-body}

length-sized_body : (m : ManifestData) → IsManifest m → length (OPEN ∷ sized_body m) ≤ MAX_SLOT_LEN
unfolding sized_body
length-sized_body m is =
    let body = manifest_body m in
    let pairs = is.rules.pairs in
    let segments = is.rules.segments in
    omega (arith, length-append (field 4 (length body)) body, length-field 4 (length body), length-body m, pairs, segments)

-- as many bytes as the longest slot has
abbrev pub slot_front : List ℕ → List ℕ
slot_front bytes = take MAX_SLOT_LEN bytes

module _ (bytes : List ℕ) where
  shut_in_front : IsShut bytes → IsShut (slot_front bytes)
  shut_in_front s = record {
    gate = s.gate;
    rest = take (MAX_SLOT_LEN - 1) s.rest;
    whole = front_taken MAX_SLOT_LEN bytes (s.gate ∷ []) s.rest (omega arith) s.whole;
    closed = s.closed;
  }

  shut_of_front : IsShut (slot_front bytes) → IsShut bytes
  shut_of_front s = record {
    gate = s.gate;
    rest = s.rest ++ drop MAX_SLOT_LEN bytes;
    whole = front_back MAX_SLOT_LEN bytes (s.gate ∷ []) s.rest s.whole;
    closed = s.closed;
  }

no_bytes : (bytes : List ℕ) → slot_front bytes ≡ [] → bytes ≡ []
no_bytes [] is = is
no_bytes (b ∷ bytes) is = absurd (omega (arith, ap (λ (l : List ℕ). length l) is))

closed_in_front : (bytes : List ℕ) → IsClosed bytes → IsClosed (slot_front bytes)
closed_in_front bytes (inl none) = inl (ap slot_front none)
closed_in_front bytes (inr shut) = inr (shut_in_front bytes shut)

closed_of_front : (bytes : List ℕ) → IsClosed (slot_front bytes) → IsClosed bytes
closed_of_front bytes (inl none) = inl (no_bytes bytes none)
closed_of_front bytes (inr shut) = inr (shut_of_front bytes shut)

module _ (upto slot : ℕ) (bytes : List ℕ) where
  open_in_front : (m : ManifestData) → IsOpen slot m bytes → IsOpen slot m (slot_front bytes)
  open_in_front m o =
      let front : List ℕ = OPEN ∷ sized_body m in
      record {
        rest = take (MAX_SLOT_LEN - length front) o.rest;
        whole = front_taken MAX_SLOT_LEN bytes front o.rest (length-sized_body m o.is) o.whole;
        is = o.is;
        own = o.own;
      }

  open_of_front : (m : ManifestData) → IsOpen slot m (slot_front bytes) → IsOpen slot m bytes
  open_of_front m o = record {
    rest = o.rest ++ drop MAX_SLOT_LEN bytes;
    whole = front_back MAX_SLOT_LEN bytes (OPEN ∷ sized_body m) o.rest o.whole;
    is = o.is;
    own = o.own;
  }

  has_in_front : (found : Option ManifestData) → SlotHas upto slot bytes found → SlotHas upto slot (slot_front bytes) found
  has_in_front None has = closed_in_front bytes has
  has_in_front (Some m) has = (open_in_front m has.0, has.1)

  has_of_front : (found : Option ManifestData) → SlotHas upto slot (slot_front bytes) found → SlotHas upto slot bytes found
  has_of_front None has = closed_of_front bytes has
  has_of_front (Some m) has = (open_of_front m has.0, has.1)

  other_slot_in_front : IsOtherSlot upto bytes → IsOtherSlot upto (slot_front bytes)
  other_slot_in_front o =
      let front : List ℕ = OPEN ∷ o.len in
      let k = MAX_SLOT_LEN - length front in
      let four = o.four in
      record {
        len = o.len;
        four = o.four;
        tail = take k o.tail;
        whole = front_taken MAX_SLOT_LEN bytes front o.tail (omega (arith, four)) o.whole;
        other = other_in_front k MAGIC upto o.tail (omega (arith, four)) o.other;
      }

  other_slot_of_front : IsOtherSlot upto (slot_front bytes) → IsOtherSlot upto bytes
  other_slot_of_front o = record {
    len = o.len;
    four = o.four;
    tail = o.tail ++ drop MAX_SLOT_LEN bytes;
    whole = front_back MAX_SLOT_LEN bytes (OPEN ∷ o.len) o.tail o.whole;
    other = grown o.tail o.other;
  }
    where
      grown : (tail : List ℕ) → IsOtherVersion MAGIC upto tail → IsOtherVersion MAGIC upto (tail ++ drop MAX_SLOT_LEN bytes)
      grown tail v = record {
        number = v.number;
        rest = v.rest ++ drop MAX_SLOT_LEN bytes;
        whole = ap (λ (l : List ℕ). l ++ drop MAX_SLOT_LEN bytes) v.whole ∙ append_assoc (header MAGIC v.number) v.rest (drop MAX_SLOT_LEN bytes);
        fits = v.fits;
        other = v.other;
      }

  pub slot_of_front : (found : Found (Option ManifestData)) → SlotSays upto slot (slot_front bytes) found → SlotSays upto slot bytes found
  slot_of_front = says_alike slot (IsOtherSlot upto (slot_front bytes)) (IsOtherSlot upto bytes) (SlotHas upto slot (slot_front bytes)) (SlotHas upto slot bytes) other_slot_of_front other_slot_in_front has_of_front has_in_front

  pub slot_in_front : (found : Found (Option ManifestData)) → SlotSays upto slot bytes found → SlotSays upto slot (slot_front bytes) found
  slot_in_front = says_alike slot (IsOtherSlot upto bytes) (IsOtherSlot upto (slot_front bytes)) (SlotHas upto slot bytes) (SlotHas upto slot (slot_front bytes)) other_slot_in_front other_slot_of_front has_in_front has_of_front
