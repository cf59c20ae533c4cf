-- A segment that is read in slices: what one more slice makes of it.
use Rattle.std.proofs.Common.{◌≡◌, ◌⊎◌, inl, inr, ⊎_elim, ℕ, ◌+◌, ◌≤◌, List, [], ◌++◌, length, take, drop, Err, sym, ap, ◌∙◌, take-append-drop, arith}
use Rattle.std.proofs.lemmas.List.{append-nil, length-take, take_all, take_at, drop_at}
use Rattle.mvo_types.specs.declared.refusal.Refusal.{Refusal}
use Rattle.mvo_format.specs.declared.header.TheConstants.{HEADER_LEN}
use Rattle.mvo_frame.specs.declared.kind.Kind.{Kind}
use Rattle.mvo_frame.specs.declared.kind.Kind.TheVariants.{Sealed}
use Rattle.mvo_frame.specs.declared.lengths.TheConstants.{MAX_FRAME_LEN}
use Rattle.mvo_frame.specs.Slices.{ReaderData, IsReadTo, IsWindow, HasClosedGateAt, SegmentHas, IsToldOf}
use Rattle.mvo_frame.proofs.Slices.{all_front, gate_within, has_only}
use Rattle.mvo_pair.specs.Answers.{IsOnly}
use Rattle.mvo_pair.specs.Writing.{IsStop}
use Rattle.mvo_recovery.specs.image.Files.{SegmentIs}
use Rattle.mvo_load.specs.Framed.{IsFramedTo, IsAllFramed}
use Rattle.mvo_load.specs.Read.{IsMisread}
use Rattle.mvo_load.proofs.Misread.{segment_misread}

-- what is told of a segment is the one answer
pub told_only : (upto file mark : ℕ) (bytes : List ℕ) (e : Refusal) → ((kind : Kind) → SegmentHas upto file mark kind bytes (Err e)) → (kind : Kind) → IsOnly (SegmentIs upto file mark kind bytes) (Err e)
told_only upto file mark bytes e says kind = (says kind, λ z is. has_only upto file mark kind bytes (Err e) z (says kind) is)

-- ---- the beginning

module _ (upto file mark : ℕ) (honest : Type 0) (bytes head : List ℕ) (of : honest → head ≡ take HEADER_LEN bytes) where
  pub begins : (r : ReaderData) → ((n : ℕ) (all : List ℕ) → HEADER_LEN ≤ n → head ≡ take n all → IsReadTo upto mark all r) → IsFramedTo upto mark honest bytes r
  begins r begun = record {
    some = (head, begun (length head + HEADER_LEN) head (omega arith) (all_front head));
    of_file = λ now. begun HEADER_LEN bytes (omega arith) (of now);
  }

  module _ (e : Refusal) (refused : (n : ℕ) (all : List ℕ) → HEADER_LEN ≤ n → head ≡ take n all → (kind : Kind) → SegmentHas upto file mark kind all (Err e)) where
    pub begins_misread : IsMisread e
    begins_misread = segment_misread upto file mark Sealed head e (refused (length head + HEADER_LEN) head (omega arith) (all_front head) Sealed)

    pub begins_only : honest → (kind : Kind) → IsOnly (SegmentIs upto file mark kind bytes) (Err e)
    begins_only now = told_only upto file mark bytes e (refused HEADER_LEN bytes (omega arith) (of now))

-- ---- one more slice

module _ (upto mark : ℕ) (r : ReaderData) (bytes window : List ℕ) (is : IsReadTo upto mark bytes r) where
  front_len : length (take r.gate bytes) ≡ r.gate
  front_len = omega (arith, length-take r.gate bytes, gate_within upto mark bytes r is)

  -- other bytes may stand behind what is read
  with_others : IsReadTo upto mark (take r.gate bytes ++ window) r
  with_others = record {
    known = is.known;
    whole = take_at (take r.gate bytes) window r.gate front_len ∙ is.whole;
    follow = is.follow;
    allowed = is.allowed;
    place = is.place;
    mark_is = is.mark_is;
  }

  as_window : IsWindow r.gate (take r.gate bytes ++ window) window
  as_window = record {
    reach = length window + MAX_FRAME_LEN;
    ample = omega arith;
    part = sym (ap (take (length window + MAX_FRAME_LEN)) (drop_at (take r.gate bytes) window r.gate front_len) ∙ take_all (length window + MAX_FRAME_LEN) window (omega arith));
  }

module _ (upto mark : ℕ) (honest later : Type 0) (bytes window : List ℕ) (old : ReaderData) (h : IsFramedTo upto mark honest bytes old) (before : later → honest) (of : later → window ≡ take MAX_FRAME_LEN (drop old.gate bytes)) where
  of_window : later → IsWindow old.gate bytes window
  of_window now = record { reach = MAX_FRAME_LEN; ample = omega arith; part = of now }

  module _ (new : ReaderData) (read : (all : List ℕ) → IsReadTo upto mark all old → IsWindow old.gate all window → IsReadTo upto mark all new) where
    pub reads_on : IsFramedTo upto mark later bytes new
    reads_on = record {
      some = (take old.gate h.some.0 ++ window, read (take old.gate h.some.0 ++ window) (with_others upto mark old h.some.0 window h.some.1) (as_window upto mark old h.some.0 window h.some.1));
      of_file = λ now. read bytes (h.of_file (before now)) (of_window now);
    }

    pub reads_all : ((all : List ℕ) → IsReadTo upto mark all old → IsWindow old.gate all window → HasClosedGateAt new.gate all) → IsAllFramed upto mark later bytes new
    reads_all end = record {
      some = (
        take old.gate h.some.0 ++ window,
        read (take old.gate h.some.0 ++ window) (with_others upto mark old h.some.0 window h.some.1) (as_window upto mark old h.some.0 window h.some.1),
        end (take old.gate h.some.0 ++ window) (with_others upto mark old h.some.0 window h.some.1) (as_window upto mark old h.some.0 window h.some.1),
      );
      of_file = λ now. end bytes (h.of_file (before now)) (of_window now);
    }

  pub reads_only : (file : ℕ) (e : Refusal) → ((all : List ℕ) → IsReadTo upto mark all old → IsWindow old.gate all window → IsToldOf upto file mark all e) → later → IsStop e ⊎ ((kind : Kind) → IsOnly (SegmentIs upto file mark kind bytes) (Err e))
  reads_only file e told now = ⊎_elim (λ m. inl (inl m)) (λ says. inr (told_only upto file mark bytes e says)) (told bytes (h.of_file (before now)) (of_window now))

-- ---- one more slice of few bytes

module _ (upto mark n : ℕ) (honest later : Type 0) (bytes window : List ℕ) (old : ReaderData) (h : IsFramedTo upto mark honest bytes old) (before : later → honest) (of : later → window ≡ take n (drop old.gate bytes)) (new : ReaderData) (read : (all more : List ℕ) → IsReadTo upto mark all old → drop old.gate all ≡ window ++ more → IsReadTo upto mark all new) where
  abbrev some_bytes : List ℕ
  some_bytes = take old.gate h.some.0 ++ window

  some_at : drop old.gate some_bytes ≡ window ++ []
  some_at = drop_at (take old.gate h.some.0) window old.gate (front_len upto mark old h.some.0 window h.some.1) ∙ sym (append-nil window)

  file_at : later → drop old.gate bytes ≡ window ++ drop n (drop old.gate bytes)
  file_at now = sym (take-append-drop n (drop old.gate bytes)) ∙ ap (λ (l : List ℕ). l ++ drop n (drop old.gate bytes)) (sym (of now))

  some_read : IsReadTo upto mark some_bytes new
  some_read = read some_bytes [] (with_others upto mark old h.some.0 window h.some.1) some_at

  pub near_on : IsFramedTo upto mark later bytes new
  near_on = record {
    some = (some_bytes, some_read);
    of_file = λ now. read bytes (drop n (drop old.gate bytes)) (h.of_file (before now)) (file_at now);
  }

  pub near_all : ((all more : List ℕ) → IsReadTo upto mark all old → drop old.gate all ≡ window ++ more → HasClosedGateAt new.gate all) → IsAllFramed upto mark later bytes new
  near_all end = record {
    some = (some_bytes, some_read, end some_bytes [] (with_others upto mark old h.some.0 window h.some.1) some_at);
    of_file = λ now. end bytes (drop n (drop old.gate bytes)) (h.of_file (before now)) (file_at now);
  }
