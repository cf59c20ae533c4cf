-- A segment that is read in slices is read as a whole.
use Rattle.std.proofs.Common.{◌≡◌, ◌≢◌, ◌⊎◌, inl, inr, ℕ, suc, ◌+◌, ◌-◌, ◌<◌, ◌≤◌, List, [], ◌∷◌, ◌++◌, length, get_or, take, drop, Some, None, Ok, Err, refl, sym, ap, subst, ◌∙◌, ⊎_elim, append_assoc, length-append, length-drop, take-append-drop, arith}
use Rattle.std.specs.List.{flat_map, AllByRecursion}
use Rattle.std.proofs.lemmas.List.{append-nil, flat_map_more, take_all, length-take}
use Rattle.std.proofs.lemmas.List.Concat.{flat_map-cons}
use Rattle.std.proofs.lemmas.List.Elements.{All-from_recursion, recursion_from_All, All-push}
use Rattle.std.proofs.Math.Seq.{take-append_seam, drop-append_seam}
use Rattle.mvo_types.specs.declared.limits.TheConstants.{MAX_SEGMENT_LEN}
use Rattle.mvo_types.specs.declared.refusal.Refusal.{Refusal}
use Rattle.mvo_types.specs.declared.refusal.Refusal.TheVariants.{Corrupt, BadVersion, OutOfMemory}
use Rattle.mvo_group.specs.Data.{GroupData}
use Rattle.mvo_group.specs.Rules.{IsGroup}
use Rattle.mvo_group.specs.Allowed.{IsAllowedGroup}
use Rattle.mvo_group.specs.Body.{body_of}
use Rattle.mvo_group.proofs.Sizes.{length-body_of}
use Rattle.mvo_bytes.proofs.Fields.{IsBytes}
use Rattle.mvo_format.specs.declared.header.TheConstants.{OPEN, HEADER_LEN}
use Rattle.mvo_format.specs.declared.format.Format.{Format}
use Rattle.mvo_format.specs.Formats.{IsFormatUpTo}
use Rattle.mvo_format.specs.Found.{Found, IsOtherVersion, header, header_found}
use Rattle.mvo_format.proofs.Fronts.{front_taken, front_back, length-header, other_in_front, other_of_front}
use Rattle.mvo_format.proofs.Headers.{IsBehind, IsHead, head_is, head_again, head_other, one_head}
use Rattle.mvo_frame.specs.declared.magic.TheConstants.{MAGIC}
use Rattle.mvo_frame.specs.declared.lengths.TheConstants.{MAX_FRAME_LEN}
use Rattle.mvo_frame.specs.declared.contents.Contents.{Contents}
use Rattle.mvo_frame.specs.declared.kind.Kind.{Kind}
use Rattle.mvo_frame.specs.declared.reached.Reached.{Reached}
use Rattle.mvo_frame.specs.declared.reached.Reached.TheVariants.{More, End}
use Rattle.mvo_frame.specs.Frames.{frame, sized, front, mark_after, IsNextFrame, Frames, IsEnough, IsSegment}
use Rattle.mvo_frame.specs.Reading.{next_found, step_found, segment_found}
use Rattle.mvo_frame.specs.Standing.{gate_of, IsAllRead}
use Rattle.mvo_frame.specs.Slices.{ReaderData, FramesFollow, IsReadTo, IsWindow, HasClosedGateAt, SegmentHas, IsToldOf, group_next, IsGroupRead}
use Rattle.mvo_frame.proofs.Walk.{length-sized, next_takes, next_again, head_same, segment_again, segment_other, segment_alone}
use Rattle.mvo_frame.proofs.Loop.{mark_after-push, gate_of-push}
use Rattle.mvo_frame.proofs.Stepwise.{Broken, step_takes, step_ends, step_fails}

-- ---- one frame

-- the frames of groups with one more in front
frames_more : (g : GroupData) (gs : List GroupData) (rest : List ℕ) → flat_map frame (g ∷ gs) ++ rest ≡ OPEN ∷ (sized (body_of g) ++ (flat_map frame gs ++ rest))
frames_more g gs rest = ap (λ (l : List ℕ). l ++ rest) (flat_map-cons frame g gs) ∙ append_assoc (frame g) (flat_map frame gs) rest

-- a frame is no longer than the lengths
frame_few : (g : GroupData) → IsGroup g → 1 + length (sized (body_of g)) ≤ MAX_FRAME_LEN
frame_few g is = omega (arith, length-sized (body_of g), length-body_of g, is.rules.size)

module _ (f : Format) (file gate mark : ℕ) (bytes : List ℕ) (g : GroupData) (later : List ℕ) (fits : IsBytes bytes) (found : step_found f file gate mark bytes ≡ Ok (Some (g, later))) where
  -- what a step takes
  taken : (after : List ℕ) × (bytes ≡ OPEN ∷ after) × IsNextFrame gate mark g after later × IsAllowedGroup f g × IsBytes later
  taken =
      let s = step_takes f file gate mark bytes (g, later) found in
      let t = next_takes f gate mark s.0 (g, later) (λ i. subst (λ (l : List ℕ). get_or l (suc i) 0 < 256) s.1 (fits (suc i))) s.2 in
      (s.0, s.1, t.0, t.2, t.1)

  size_is : length bytes ≡ 1 + length (sized (body_of g)) + length later
  size_is = let t = taken in omega (arith, ap (λ (l : List ℕ). length l) t.1, ap (λ (l : List ℕ). length l) t.2.whole, length-append (sized (body_of g)) later)

  pub step_shorter : length later ≤ length bytes
  step_shorter = omega (arith, size_is)

  place_is : gate + (length bytes - length later) ≡ gate + 1 + length (sized (body_of g))
  place_is = omega (arith, size_is)

  pub step_few : gate + (length bytes - length later) < MAX_SEGMENT_LEN
  step_few = omega (arith, place_is, taken.2.few)

  -- some bytes are taken, and no more than the lengths frame has
  pub step_some : length later < length bytes
  step_some = omega (arith, size_is)

  pub step_most : length bytes ≤ length later + MAX_FRAME_LEN
  step_most = omega (arith, size_is, frame_few g taken.2.is)

-- ---- groups that stand in front

follow_push : (place mark : ℕ) (gs : List GroupData) (g : GroupData) → FramesFollow place mark gs → IsGroup g → g.prev ≡ mark_after mark gs → place + length (flat_map frame gs) + 1 + length (sized (body_of g)) < MAX_SEGMENT_LEN → FramesFollow place mark (gs ++ g ∷ [])
follow_push place mark [] g fo is prev few = (is, prev, omega (arith, few), tt)
follow_push place mark (h ∷ hs) g fo is prev few =
    (fo.0, fo.1, fo.2, follow_push (place + 1 + length (sized (body_of h))) h.mark hs g fo.3 is prev (omega (arith, few, ap (λ (l : List ℕ). length l) (flat_map-cons frame h hs), length-append (frame h) (flat_map frame hs))))

-- frames of groups that follow one another, and a closed gate
frames_of : (gs : List GroupData) (place mark : ℕ) (rest : List ℕ) → FramesFollow place mark gs → (gate : ℕ) × (after : List ℕ) × (rest ≡ gate ∷ after) × (gate ≢ OPEN) → Frames place mark gs (flat_map frame gs ++ rest)
frames_of [] place mark rest fo closed = closed
frames_of (g ∷ gs) place mark rest fo closed =
    let more = flat_map frame gs ++ rest in
    (sized (body_of g) ++ more, more, frames_more g gs rest, record { whole = refl; prev = fo.1; is = fo.0; few = fo.2 }, frames_of gs (place + 1 + length (sized (body_of g))) g.mark rest fo.3 closed)

-- the groups of all frames begin with those that stand in front
frames_behind : (f : Format) (gs : List GroupData) (place mark : ℕ) (rest : List ℕ) (hs : List GroupData) → FramesFollow place mark gs → AllByRecursion (IsAllowedGroup f) gs → Frames place mark hs (flat_map frame gs ++ rest) → AllByRecursion (IsAllowedGroup f) hs
    → (tl : List GroupData) × (hs ≡ gs ++ tl) × Frames (place + length (flat_map frame gs)) (mark_after mark gs) tl rest × AllByRecursion (IsAllowedGroup f) tl
frames_behind f [] place mark rest hs fo all fr each =
    let same : place ≡ place + length (flat_map frame []) = omega arith in
    (hs, refl, subst (λ n. Frames n mark hs rest) same fr, each)
frames_behind f (g ∷ gs) place mark rest [] fo all fr each =
    let same = head_same OPEN fr.0 (sized (body_of g) ++ (flat_map frame gs ++ rest)) fr.1 (sym (frames_more g gs rest) ∙ fr.2) in
    absurd (fr.3 (sym same.0))
frames_behind f (g ∷ gs) place mark rest (h ∷ hs) fo all fr each =
    let more = flat_map frame gs ++ rest in
    let same = head_same OPEN OPEN (sized (body_of g) ++ more) fr.0 (sym (frames_more g gs rest) ∙ fr.2) in
    let one : next_found f place mark (sized (body_of g) ++ more) ≡ Some (g, more) = next_again f place mark g (sized (body_of g) ++ more) more (record { whole = refl; prev = fo.1; is = fo.0; few = fo.2 }) all.0 in
    let two : next_found f place mark fr.0 ≡ Some (h, fr.1) = next_again f place mark h fr.0 fr.1 fr.3 each.0 in
    let both : Some (h, fr.1) ≡ Some (g, more) = sym two ∙ ap (next_found f place mark) (sym same.1) ∙ one in
    let pair : (h, fr.1) ≡ (g, more) = cc both in
    let on = subst (λ (x : GroupData × List ℕ). Frames (place + 1 + length (sized (body_of x.0))) x.0.mark hs x.1) pair fr.4 in
    let rec = frames_behind f gs (place + 1 + length (sized (body_of g))) g.mark rest hs fo.3 all.1 on each.1 in
    let far : place + 1 + length (sized (body_of g)) + length (flat_map frame gs) ≡ place + length (flat_map frame (g ∷ gs)) = omega (arith, ap (λ (l : List ℕ). length l) (flat_map-cons frame g gs), length-append (frame g) (flat_map frame gs)) in
    (rec.0, ap (λ (x : GroupData). x ∷ hs) (ap (λ (x : GroupData × List ℕ). x.0) pair) ∙ ap (λ (l : List GroupData). g ∷ l) rec.1, subst (λ n. Frames n (mark_after g.mark gs) rec.0 rest) far rec.2, rec.3)

-- ---- how far a segment is read

-- the groups that were read stand in front of these bytes
pub record IsReadWith (upto start : ℕ) (bytes rest : List ℕ) (r : ReaderData) : Type 0 where
  pub known : IsFormatUpTo upto r.format
  pub whole : bytes ≡ front r.format.version r.groups ++ rest
  pub follow : FramesFollow HEADER_LEN start r.groups
  pub allowed : AllByRecursion (IsAllowedGroup r.format) r.groups
  pub place : r.gate ≡ gate_of r.groups
  pub mark_is : r.mark ≡ mark_after start r.groups

length-front : (version : ℕ) (gs : List GroupData) → length (front version gs) ≡ gate_of gs
length-front version gs = omega (arith, length-append (header MAGIC version) (flat_map frame gs), length-header MAGIC version)

module _ (upto start : ℕ) (bytes : List ℕ) where
  pub read_with : (r : ReaderData) → IsReadTo upto start bytes r → IsReadWith upto start bytes (drop r.gate bytes) r
  read_with r is = record {
    known = is.known;
    whole = sym (take-append-drop r.gate bytes) ∙ ap (λ (l : List ℕ). l ++ drop r.gate bytes) is.whole;
    follow = is.follow;
    allowed = recursion_from_All (IsAllowedGroup r.format) r.groups is.allowed;
    place = is.place;
    mark_is = is.mark_is;
  }

  module _ (rest : List ℕ) (r : ReaderData) (is : IsReadWith upto start bytes rest r) where
    in_front : r.gate ≡ length (front r.format.version r.groups)
    in_front = is.place ∙ sym (length-front r.format.version r.groups)

    pub with_rest : drop r.gate bytes ≡ rest
    with_rest =
        let text = front r.format.version r.groups in
        ap (drop r.gate) is.whole ∙ ap (λ n. drop n (text ++ rest)) in_front ∙ drop-append_seam text rest

    pub with_read : IsReadTo upto start bytes r
    with_read =
        let text = front r.format.version r.groups in
        record {
          known = is.known;
          whole = ap (take r.gate) is.whole ∙ ap (λ n. take n (text ++ rest)) in_front ∙ take-append_seam text rest;
          follow = is.follow;
          allowed = All-from_recursion (IsAllowedGroup r.format) r.groups is.allowed;
          place = is.place;
          mark_is = is.mark_is;
        }

    -- the groups of a segment begin with those that were read
    tail_of : (kind : Kind) (hs : List GroupData) → IsSegment upto start kind hs bytes → (tl : List GroupData) × (hs ≡ r.groups ++ tl) × Frames r.gate r.mark tl rest × AllByRecursion (IsAllowedGroup r.format) tl
    tail_of kind hs s =
        let frames = flat_map frame r.groups in
        let one = one_head 0 MAGIC upto (omega arith) bytes r.format s.format (frames ++ rest) s.has.rest is.known s.known (is.whole ∙ append_assoc (header MAGIC r.format.version) frames rest) s.has.whole in
        let each = subst (λ (x : Format). AllByRecursion (IsAllowedGroup x) hs) (sym one.0) (recursion_from_All (IsAllowedGroup s.format) hs s.allowed) in
        let b = frames_behind r.format r.groups HEADER_LEN start rest hs is.follow is.allowed (subst (λ (l : List ℕ). Frames HEADER_LEN start hs l) (sym one.1) s.has.frames) each in
        (b.0, b.1, subst (λ m. Frames r.gate m b.0 rest) (sym is.mark_is) (subst (λ n. Frames n (mark_after start r.groups) b.0 rest) (sym is.place) b.2), b.3)

    no_other : IsOtherVersion MAGIC upto bytes → ⊥
    no_other o =
        let frames = flat_map frame r.groups in
        let one = head_again 0 MAGIC upto (omega arith) bytes r.format (frames ++ rest) is.known (is.whole ∙ append_assoc (header MAGIC r.format.version) frames rest) in
        let two = head_other 0 MAGIC upto (omega arith) bytes o in
        absurd (cc (one, two))

    -- ---- the end

    module _ (closed : (gate : ℕ) × (after : List ℕ) × (rest ≡ gate ∷ after) × (gate ≢ OPEN)) where
      pub with_end : (kind : Kind) → IsEnough kind r.groups → IsSegment upto start kind r.groups bytes
      with_end kind some = record {
        format = r.format;
        known = is.known;
        has = record {
          rest = flat_map frame r.groups ++ rest;
          whole = is.whole ∙ append_assoc (header MAGIC r.format.version) (flat_map frame r.groups) rest;
          frames = frames_of r.groups HEADER_LEN start rest is.follow closed;
        };
        allowed = All-from_recursion (IsAllowedGroup r.format) r.groups is.allowed;
        some = some;
      }

      no_more : (tl : List GroupData) → Frames r.gate r.mark tl rest → tl ≡ []
      no_more [] fr = refl
      no_more (h ∷ tl) fr = absurd (closed.3 (head_same closed.0 OPEN closed.1 fr.0 (sym closed.2 ∙ fr.2)).0)

      pub with_too_few : (file : ℕ) (kind : Kind) → (IsEnough kind r.groups → ⊥) → SegmentHas upto file start kind bytes (Err (Corrupt file))
      with_too_few file kind few = inr (
        refl,
        record {
          version = no_other;
          value = λ hs s.
              let t = tail_of kind hs s in
              let same : hs ≡ r.groups = t.1 ∙ ap (λ (l : List GroupData). r.groups ++ l) (no_more t.0 t.2) ∙ append-nil r.groups in
              few (subst (IsEnough kind) same s.some);
        },
      )

    -- ---- a refusal

    module _ (n : ℕ) (window : List ℕ) (ample : MAX_FRAME_LEN ≤ n) (part : window ≡ take n rest) where
      broken : Broken r.format r.file r.gate r.mark window → (tl : List GroupData) → Frames r.gate r.mark tl rest → AllByRecursion (IsAllowedGroup r.format) tl → ⊥
      broken b [] fr each =
          let is : window ≡ fr.0 ∷ take (n - 1) fr.1 = part ∙ front_taken n rest (fr.0 ∷ []) fr.1 (omega (arith, ample)) fr.2 in
          ⊎_elim (λ nil. absurd (omega (arith, ap (λ (l : List ℕ). length l) (sym nil ∙ is))))
          (λ gap. fr.3 (sym (head_same OPEN fr.0 gap.0 (take (n - 1) fr.1) (sym gap.1 ∙ is)).0)) b
      broken b (h ∷ tl) fr each =
          let k = n - 1 in
          let text = sized (body_of h) in
          let is : window ≡ OPEN ∷ take k fr.0 = part ∙ front_taken n rest (OPEN ∷ []) fr.0 (omega (arith, ample)) fr.2 in
          let few = frame_few h fr.3.is in
          let on : take k fr.0 ≡ text ++ take (k - length text) fr.1 = front_taken k fr.0 text fr.1 (omega (arith, ample, few)) fr.3.whole in
          let found = next_again r.format r.gate r.mark h (take k fr.0) (take (k - length text) fr.1) (record { whole = on; prev = fr.3.prev; is = fr.3.is; few = fr.3.few }) each.0 in
          ⊎_elim (λ nil. absurd (omega (arith, ap (λ (l : List ℕ). length l) (sym nil ∙ is))))
          (λ gap.
          let same = (head_same OPEN OPEN gap.0 (take k fr.0) (sym gap.1 ∙ is)).1 in
          let none = ap (next_found r.format r.gate r.mark) (sym same) ∙ gap.2 in
          absurd (cc (found, none))) b

      pub with_refusal : (e : Refusal) → group_next r window ≡ Err e → (kind : Kind) → SegmentHas upto r.file start kind bytes (Err e)
      with_refusal e found kind =
          let s = step_fails r.format r.file r.gate r.mark window e found in
          inr (
            s.0,
            record {
              version = no_other;
              value = λ hs h. let t = tail_of kind hs h in broken s.1 t.0 t.2 t.3;
            },
          )

  -- ---- a step

  module _ (window more : List ℕ) (r new : ReaderData) (is : IsReadWith upto start bytes (window ++ more) r) (fits : IsBytes window) (g : GroupData) (later : List ℕ) (found : group_next r window ≡ Ok (Some (g, later))) where
    pub with_step : new ≡ record r { gate = r.gate + (length window - length later); mark = g.mark; groups = r.groups ++ g ∷ [] } → IsReadWith upto start bytes (later ++ more) new
    with_step new_is =
        let t = taken r.format r.file r.gate r.mark window g later fits found in
        let head = header MAGIC r.format.version in
        let frames = flat_map frame r.groups in
        let place = place_is r.format r.file r.gate r.mark window g later fits found in
        let behind : window ++ more ≡ frame g ++ (later ++ more) = ap (λ (l : List ℕ). l ++ more) (t.1 ∙ ap (λ (l : List ℕ). OPEN ∷ l) t.2.whole) ∙ append_assoc (frame g) later more in
        let pushed : frames ++ frame g ≡ flat_map frame (r.groups ++ g ∷ []) = flat_map_more frame [] r.groups g in
        subst (λ (x : ReaderData). IsReadWith upto start bytes (later ++ more) x) (sym new_is) (record {
          known = is.known;
          whole =
              is.whole ∙ ap (λ (l : List ℕ). (head ++ frames) ++ l) behind ∙ sym (append_assoc (head ++ frames) (frame g) (later ++ more))
              ∙ ap (λ (l : List ℕ). l ++ (later ++ more)) (append_assoc head frames (frame g) ∙ ap (λ (l : List ℕ). head ++ l) pushed);
          follow = follow_push HEADER_LEN start r.groups g is.follow t.2.is (t.2.prev ∙ is.mark_is) (omega (arith, t.2.few, is.place));
          allowed = recursion_from_All (IsAllowedGroup r.format) (r.groups ++ g ∷ []) (All-push (IsAllowedGroup r.format) r.groups g (All-from_recursion (IsAllowedGroup r.format) r.groups is.allowed) t.3);
          place = omega (arith, place, is.place, gate_of-push r.groups g);
          mark_is = sym (mark_after-push start r.groups g);
        })

-- ---- one frame after another

-- Groups are read from the front of some bytes, while fewer than so many of them are taken.
pub record IsReadOn (old : ReaderData) (most : ℕ) (bytes rest : List ℕ) (r : ReaderData) : Type 0 where
  pub fits : IsBytes rest
  pub reads : (upto start : ℕ) (all more : List ℕ) → IsReadTo upto start all old → drop old.gate all ≡ bytes ++ more → IsReadWith upto start all (rest ++ more) r
  pub file_is : r.file ≡ old.file
  pub fewer : length rest ≤ length bytes
  pub gate_is : r.gate ≡ old.gate + (length bytes - length rest)
  pub few : length bytes - length rest ≤ most + MAX_FRAME_LEN
  pub unmoved : length rest ≡ length bytes → r ≡ old

pub on_none : (old : ReaderData) (most : ℕ) (bytes : List ℕ) → IsBytes bytes → IsReadOn old most bytes bytes old
on_none old most bytes fits = record {
  fits = fits;
  reads = λ upto start all more is at. subst (λ (l : List ℕ). IsReadWith upto start all l old) at (read_with upto start all old is);
  file_is = refl;
  fewer = omega arith;
  gate_is = omega arith;
  few = omega arith;
  unmoved = λ same. refl;
}

module _ (old : ReaderData) (most : ℕ) (bytes rest : List ℕ) (r : ReaderData) (o : IsReadOn old most bytes rest r) where
  pub on_unmoved : r.gate ≡ old.gate → r ≡ old
  on_unmoved same = o.unmoved (omega (arith, same, o.gate_is, o.fewer))

  pub on_shorter : (later : List ℕ) (new : ReaderData) → IsGroupRead r rest (Some later) new → length later < length rest
  on_shorter later new s = step_some r.format r.file r.gate r.mark rest s.0 later o.fits s.1

  pub on_more : (later : List ℕ) (new : ReaderData) → length bytes - length rest < most → IsGroupRead r rest (Some later) new → IsReadOn old most bytes later new
  on_more later new lt s =
      let short = on_shorter later new s in
      let long = step_most r.format r.file r.gate r.mark rest s.0 later o.fits s.1 in
      record {
        fits = (taken r.format r.file r.gate r.mark rest s.0 later o.fits s.1).4;
        reads = λ upto start all more is at. with_step upto start all rest more r new (o.reads upto start all more is at) o.fits s.0 later s.1 s.2;
        file_is = ap (λ (x : ReaderData). x.file) s.2 ∙ o.file_is;
        fewer = omega (arith, short, o.fewer);
        gate_is = ap (λ (x : ReaderData). x.gate) s.2 ∙ omega (arith, o.gate_is, o.fewer, short);
        few = omega (arith, o.fewer, short, lt, long);
        unmoved = λ same. absurd (omega (arith, same, o.fewer, short));
      }

  module _ (upto start : ℕ) (all more : List ℕ) (is : IsReadTo upto start all old) (at : drop old.gate all ≡ bytes ++ more) where
    pub on_read : IsReadTo upto start all r
    on_read = with_read upto start all (rest ++ more) r (o.reads upto start all more is at)

    pub on_rest : drop r.gate all ≡ rest ++ more
    on_rest = with_rest upto start all (rest ++ more) r (o.reads upto start all more is at)

    pub on_end : (new : ReaderData) → IsGroupRead r rest None new → HasClosedGateAt new.gate all
    on_end new s =
        let e = step_ends r.format r.file r.gate r.mark rest s.0 in
        subst (λ (x : ReaderData). HasClosedGateAt x.gate all) (sym s.1) (e.0, e.1 ++ more, on_rest ∙ ap (λ (l : List ℕ). l ++ more) e.2, e.3)

-- the first group of a slice
module _ (old : ReaderData) (window rest : List ℕ) (mid : ReaderData) (fits : IsBytes window) (s : IsGroupRead old window (Some rest) mid) where
  first_on : IsReadOn old 1 window rest mid
  first_on = on_more old 1 window window old (on_none old 1 window fits) rest mid (omega arith) s

  pub first_shorter : length rest < length window
  first_shorter = step_some old.format old.file old.gate old.mark window s.0 rest fits s.1

  pub first_most : length window ≤ length rest + MAX_FRAME_LEN
  first_most = step_most old.format old.file old.gate old.mark window s.0 rest fits s.1

  pub first_gate : mid.gate ≡ old.gate + (length window - length rest)
  first_gate = first_on.gate_is

  pub first_file : mid.file ≡ old.file
  first_file = first_on.file_is

  module _ (upto start : ℕ) (bytes : List ℕ) (is : IsReadTo upto start bytes old) (w : IsWindow old.gate bytes window) where
    window_more : drop old.gate bytes ≡ window ++ drop w.reach (drop old.gate bytes)
    window_more = sym (take-append-drop w.reach (drop old.gate bytes)) ∙ ap (λ (l : List ℕ). l ++ drop w.reach (drop old.gate bytes)) (sym w.part)

    pub first_read : IsReadTo upto start bytes mid
    first_read = on_read old 1 window rest mid first_on upto start bytes (drop w.reach (drop old.gate bytes)) is window_more

    pub first_rest : drop mid.gate bytes ≡ rest ++ drop w.reach (drop old.gate bytes)
    first_rest = on_rest old 1 window rest mid first_on upto start bytes (drop w.reach (drop old.gate bytes)) is window_more

-- a closed gate in front of a slice
pub none_first : (old : ReaderData) (window : List ℕ) (new : ReaderData) → IsBytes window → IsGroupRead old window None new → (upto start : ℕ) (bytes : List ℕ) → IsReadTo upto start bytes old → IsWindow old.gate bytes window → HasClosedGateAt new.gate bytes
none_first old window new fits s upto start bytes is w =
    let more = drop w.reach (drop old.gate bytes) in
    let whole : drop old.gate bytes ≡ window ++ more = sym (take-append-drop w.reach (drop old.gate bytes)) ∙ ap (λ (l : List ℕ). l ++ more) (sym w.part) in
    on_end old 1 window window old (on_none old 1 window fits) upto start bytes more is whole new s

-- ---- the parts of a slice

pub next_refused : (r : ReaderData) (bytes : List ℕ) (e : Refusal) → (e ≡ OutOfMemory) ⊎ (group_next r bytes ≡ Err e) → (e ≡ OutOfMemory) ⊎ (e ≡ Corrupt r.file)
next_refused r bytes e told = ⊎_elim (λ m. inl m) (λ found. inr (step_fails r.format r.file r.gate r.mark bytes e found).0) told

pub window_refused : (upto start : ℕ) (bytes window : List ℕ) (r : ReaderData) → IsReadTo upto start bytes r → IsWindow r.gate bytes window → (e : Refusal) → (e ≡ OutOfMemory) ⊎ (group_next r window ≡ Err e) → IsToldOf upto r.file start bytes e
window_refused upto start bytes window r is w e told =
    ⊎_elim (λ m. inl m) (λ found. inr (λ kind. with_refusal upto start bytes (drop r.gate bytes) r (read_with upto start bytes r is) w.reach window w.ample w.part e found kind)) told

-- all that there is of the bytes from a place on
pub all_window : (at n : ℕ) (bytes : List ℕ) → length bytes ≤ at + n → IsWindow at bytes (take n (drop at bytes))
all_window at n bytes long = record {
  reach = n + MAX_FRAME_LEN;
  ample = omega arith;
  part =
      let l = drop at bytes in
      take_all n l (omega (arith, long, length-drop at bytes)) ∙ sym (take_all (n + MAX_FRAME_LEN) l (omega (arith, long, length-drop at bytes)));
}

pub all_front : (bytes : List ℕ) → bytes ≡ take (length bytes + HEADER_LEN) bytes
all_front bytes = sym (take_all (length bytes + HEADER_LEN) bytes (omega arith))

-- the gate stands among the bytes or behind them
pub gate_within : (upto start : ℕ) (bytes : List ℕ) (r : ReaderData) → IsReadTo upto start bytes r → r.gate ≤ length bytes
gate_within upto start bytes r is = omega (arith, is.place, ap (λ (l : List ℕ). length l) is.whole, length-front r.format.version r.groups, length-take r.gate bytes)

-- the closed gate
module _ (upto start : ℕ) (bytes : List ℕ) (r : ReaderData) (is : IsReadTo upto start bytes r) where
  pub all_read : r.gate < MAX_SEGMENT_LEN → (s : Contents) → s.groups.items ≡ r.groups → s.gate ≡ r.gate → s.mark.0 ≡ r.mark → IsAllRead start s
  all_read few s groups gate mark = record {
    place = gate ∙ is.place ∙ ap gate_of (sym groups);
    mark = mark ∙ is.mark_is ∙ ap (mark_after start) (sym groups);
    few = omega (arith, few, gate);
  }

  module _ (closed : HasClosedGateAt r.gate bytes) where
    pub end_enough : (file : ℕ) (kind : Kind) → IsEnough kind r.groups → SegmentHas upto file start kind bytes (Ok r.groups)
    end_enough file kind some = with_end upto start bytes (drop r.gate bytes) r (read_with upto start bytes r is) closed kind some

    pub end_too_few : (file : ℕ) (kind : Kind) → (IsEnough kind r.groups → ⊥) → SegmentHas upto file start kind bytes (Err (Corrupt file))
    end_too_few file kind few = with_too_few upto start bytes (drop r.gate bytes) r (read_with upto start bytes r is) closed file kind few

-- ---- the beginning

module _ (upto file start n : ℕ) (bytes head : List ℕ) (fits : IsBytes head) (ample : HEADER_LEN ≤ n) (part : head ≡ take n bytes) where
  pub begun : (f : Format) (rest : List ℕ) → header_found file MAGIC upto head ≡ Ok (f, rest) → IsReadTo upto start bytes (record { format = f; file = file; gate = HEADER_LEN; mark = start; groups = [] })
  begun f rest found =
      let h : IsBehind file MAGIC upto head f rest = subst (IsHead file MAGIC upto head) found (head_is file MAGIC upto head fits) in
      let text = header MAGIC f.version in
      let front_is : bytes ≡ text ++ (rest ++ drop n bytes) = front_back n bytes text rest (sym part ∙ h.takes.parts) in
      with_read upto start bytes (rest ++ drop n bytes) (record { format = f; file = file; gate = HEADER_LEN; mark = start; groups = [] }) (record {
        known = h.known;
        whole = front_is ∙ ap (λ (l : List ℕ). l ++ (rest ++ drop n bytes)) (sym (append-nil text));
        follow = tt;
        allowed = tt;
        place = refl;
        mark_is = refl;
      })

  pub not_begun : (e : Refusal) → header_found file MAGIC upto head ≡ Err e → (kind : Kind) → SegmentHas upto file start kind bytes (Err e)
  not_begun e found kind = ⊎_elim
      (λ other. inl (other.0, other_of_front n MAGIC upto bytes (subst (IsOtherVersion MAGIC upto) part other.1)))
      (λ bad. inr (
        bad,
        record {
          version = λ o.
              let one = head_other file MAGIC upto (omega arith) head (subst (IsOtherVersion MAGIC upto) (sym part) (other_in_front n MAGIC upto bytes ample o)) in
              absurd (cc (one, found, bad));
          value = λ hs s.
              let text = header MAGIC s.format.version in
              let one = head_again file MAGIC upto (omega arith) head s.format (take (n - length text) s.has.rest) s.known (part ∙ front_taken n bytes text s.has.rest (omega (arith, ample, length-header MAGIC s.format.version)) s.has.whole) in
              absurd (cc (one, found));
        },
      )) (subst (IsHead file MAGIC upto head) found (head_is file MAGIC upto head fits))

-- ---- one slice after another

-- one, while there is more
abbrev pub is_more : Reached → ℕ
is_more More = 1
is_more End = 0

-- less is left behind a slice
pub less_left : (reached : Reached) (len old new : ℕ) → new ≤ len → old ≤ new → (reached ≡ More → old < new) → is_more reached + (len - new) < 1 + (len - old)
less_left More len old new within grows some = let lt = some refl in omega (arith, within, lt)
less_left End len old new within grows some = omega (arith, within, grows)

pub not_more : (reached : Reached) → (reached ≡ More → ⊥) → reached ≡ End
not_more More ne = absurd (ne refl)
not_more End ne = refl

-- ---- what is told of the bytes is what is found in them

module _ (upto file start : ℕ) (kind : Kind) (bytes : List ℕ) (fits : IsBytes bytes) where
  pub found_ok : (gs : List GroupData) → SegmentHas upto file start kind bytes (Ok gs) → segment_found upto file start kind bytes ≡ Ok gs
  found_ok gs is = segment_alone upto file start kind bytes fits (Ok gs) is

  pub found_err : (e : Refusal) → SegmentHas upto file start kind bytes (Err e) → segment_found upto file start kind bytes ≡ Err e
  found_err e is = segment_alone upto file start kind bytes fits (Err e) is

  pub found_told : (e : Refusal) → IsToldOf upto file start bytes e → (e ≡ OutOfMemory) ⊎ (segment_found upto file start kind bytes ≡ Err e)
  found_told e told = ⊎_elim (λ m. inl m) (λ says. inr (found_err e (says kind))) told

-- what is told of the bytes is one

module _ (upto file start : ℕ) (kind : Kind) (bytes : List ℕ) where
  found_other : IsOtherVersion MAGIC upto bytes → segment_found upto file start kind bytes ≡ Err BadVersion
  found_other = segment_other upto file start kind bytes

  found_again : (gs : List GroupData) → IsSegment upto start kind gs bytes → segment_found upto file start kind bytes ≡ Ok gs
  found_again = segment_again upto file start kind bytes

  pub has_only : (a b : Found (List GroupData)) → SegmentHas upto file start kind bytes a → SegmentHas upto file start kind bytes b → b ≡ a
  has_only (Ok gs) (Ok hs) one two = sym (found_again hs two) ∙ found_again gs one
  has_only (Ok gs) (Err e) one two =
      ⊎_elim (λ other. let x = found_again gs one in let y = found_other other.1 in absurd (cc (x, y))) (λ bad. absurd (bad.1.value gs one)) two
  has_only (Err e) (Ok hs) one two =
      ⊎_elim (λ other. let x = found_again hs two in let y = found_other other.1 in absurd (cc (x, y))) (λ bad. absurd (bad.1.value hs two)) one
  has_only (Err e) (Err d) one two =
      ⊎_elim
      (λ other. ⊎_elim (λ same. ap Err (same.0 ∙ sym other.0)) (λ bad. absurd (bad.1.version other.1)) two)
      (λ bad. ⊎_elim (λ other. absurd (bad.1.version other.1)) (λ same. ap Err (same.0 ∙ sym bad.0)) two) one
