-- Opening an image has one answer, where each slot and each segment has one.
use Rattle.std.proofs.Common.{◌≡◌, inl, inr, ⊎_elim, ℕ, Bool, true, false, List, [], ◌∷◌, ◌++◌, Option, Some, None, Result, Ok, Err, refl, subst}
use Rattle.std.specs.Prelude.{nat_lt, if◌then◌else◌}
use Rattle.std.specs.List.{AllByRecursion}
use Rattle.std.specs.Ordering.{eq_by_cmp}
use Rattle.mvo_types.specs.Keys.{Map, key_cmp}
use Rattle.mvo_types.specs.declared.refusal.Refusal.{Refusal}
use Rattle.mvo_types.specs.declared.refusal.Refusal.TheVariants.{Corrupt, NotFormatted}
use Rattle.mvo_group.specs.Data.{GroupData}
use Rattle.mvo_pair.specs.Data.{Numbered, AreApart, keys_of}
use Rattle.mvo_pair.specs.Answers.{IsOnly}
use Rattle.mvo_pair.specs.Loading.{LoadsAs}
use Rattle.mvo_pair.specs.declared.pair.Pair.{Pair}
use Rattle.mvo_manifest.specs.Data.{ManifestData}
use Rattle.mvo_manifest.specs.Slots.{newest}
use Rattle.mvo_frame.specs.Frames.{mark_after}
use Rattle.mvo_places.specs.Rows.{rows_of, after_groups}
use Rattle.mvo_recovery.specs.image.Opens.{Image, OpeningOutcome, SlotReading, SegmentReading, OpeningGoes, OpeningAfter, Beside, Pairs, is_empty_list, Segments, OpensWith, Opens}
use Rattle.mvo_recovery.proofs.image.Apart.{distinct_or_not}

-- there is one answer, and no other
abbrev pub HasOne : {Y : Type 0} → (Y → Type 0) → Type 0
HasOne {Y} says = (y : Y) × IsOnly says y

module _ {X : Type 0} (says : Result X Refusal → Type 0) (next : X → OpeningOutcome → Type 0) where
  after_only : (found : Result X Refusal) → IsOnly says found → (out : OpeningOutcome) → IsOnly (OpeningGoes next found) out → IsOnly (OpeningAfter says next) out
  after_only found only out here = ((found, only.0, here.0), λ z h. here.1 z (subst (λ (r : Result X Refusal). OpeningGoes next r z) (only.1 h.0 h.1) h.2))

  pub after_one : HasOne says → ((x : X) → says (Ok x) → HasOne (next x)) → HasOne (OpeningAfter says next)
  after_one one rest = go one.0 one.1
    where
      go : (found : Result X Refusal) → IsOnly says found → HasOne (OpeningAfter says next)
      go (Ok x) only = let n = rest x only.0 in (n.0, after_only (Ok x) only n.0 n.1)
      go (Err e) only = (Err e, after_only (Err e) only (Err e) (refl, λ z h. h))

beside_one : (file : ℕ) (lives : List (List Numbered)) (next : List (List Numbered) → OpeningOutcome → Type 0) → HasOne (next lives) → HasOne (Beside file lives next)
beside_one file lives next n = ⊎_elim
    (λ (apart : AreApart lives). (n.0, (inl (apart, n.1.0), λ z h. ⊎_elim (λ (y : AreApart lives × next lives z). n.1.1 z y.1) (λ (y : (AreApart lives → ⊥) × (z ≡ Err (Corrupt file))). absurd (y.0 apart)) h)))
    (λ (two : AreApart lives → ⊥). (Err (Corrupt file), (inr (two, refl), λ z h. ⊎_elim (λ (y : AreApart lives × next lives z). absurd (two y.0)) (λ (y : (AreApart lives → ⊥) × (z ≡ Err (Corrupt file))). y.1) h)))
    (distinct_or_not (eq_by_cmp key_cmp) (keys_of lives))

module _ (upto : ℕ) (image : Image) (next : List (List Numbered) → OpeningOutcome → Type 0) (rest : (lives : List (List Numbered)) → HasOne (next lives)) where
  pub pairs_one : (ps : List Pair) (lives : List (List Numbered)) → AllByRecursion (λ p. HasOne (LoadsAs upto p (image p.data_file) (image p.delta_file))) ps → HasOne (Pairs upto image next ps lives)
  pairs_one [] lives one = rest lives
  pairs_one (p ∷ ps) lives one =
      after_one (LoadsAs upto p (image p.data_file) (image p.delta_file)) (λ live. Beside p.data_file (lives ++ live ∷ []) (Pairs upto image next ps)) one.0
      (λ live _. beside_one p.data_file (lives ++ live ∷ []) (Pairs upto image next ps) (pairs_one ps (lives ++ live ∷ []) one.1))

segments_one : (reads : SegmentReading) (image : Image) → ((n mark : ℕ) (last : Bool) → HasOne (reads n mark last (image n))) → (rows : Map) (ns : List ℕ) (mark : ℕ) (before : List GroupData) → HasOne (Segments reads image rows ns mark before)
segments_one reads image one rows [] mark before = (Ok (after_groups rows before, mark), (refl, λ z h. h))
segments_one reads image one rows (n ∷ ns) mark before =
    after_one (reads n mark (is_empty_list ns) (image n)) (λ gs. Segments reads image rows ns (mark_after mark gs) (before ++ gs)) (one n mark (is_empty_list ns)) (λ gs _. segments_one reads image one rows ns (mark_after mark gs) (before ++ gs))

module _ (slots : SlotReading) (reads : ℕ → SegmentReading) (image : Image) where
  -- what the answer of each part is needed for
  pub record EachHasOne : Type 0 where
    pub slot : (n : ℕ) → HasOne (slots n (image n))
    pub pair : (n : ℕ) (m : ManifestData) → slots n (image n) (Ok (Some m)) → AllByRecursion (λ p. HasOne (LoadsAs m.version p (image p.data_file) (image p.delta_file))) m.pairs
    pub segment : (version n mark : ℕ) (last : Bool) → HasOne (reads version n mark last (image n))

  module _ (each : EachHasOne) where
    with_one : (m : ManifestData) → AllByRecursion (λ p. HasOne (LoadsAs m.version p (image p.data_file) (image p.delta_file))) m.pairs → HasOne (OpensWith reads image (Some m))
    with_one m pairs =
        pairs_one m.version image (λ lives. Segments (reads m.version) image (rows_of lives) m.segments m.checkpoint_mark []) (λ lives. segments_one (reads m.version) image (each.segment m.version) (rows_of lives) m.segments m.checkpoint_mark []) m.pairs [] pairs

    newer_one : (a b : ManifestData) → slots 0 (image 0) (Ok (Some a)) → slots 1 (image 1) (Ok (Some b)) → (t : Bool) → HasOne (OpensWith reads image (if t then Some b else Some a))
    newer_one a b sa sb true = with_one b (each.pair 1 b sb)
    newer_one a b sa sb false = with_one a (each.pair 0 a sa)

    newest_one : (a b : Option ManifestData) → slots 0 (image 0) (Ok a) → slots 1 (image 1) (Ok b) → HasOne (OpensWith reads image (newest a b))
    newest_one None None sa sb = (Err NotFormatted, (refl, λ z h. h))
    newest_one None (Some b) sa sb = with_one b (each.pair 1 b sb)
    newest_one (Some a) None sa sb = with_one a (each.pair 0 a sa)
    newest_one (Some a) (Some b) sa sb = newer_one a b sa sb (nat_lt a.generation b.generation)

    pub opens_one : HasOne (Opens slots reads image)
    opens_one =
        after_one (slots 0 (image 0)) (λ a. OpeningAfter (slots 1 (image 1)) (λ b. OpensWith reads image (newest a b))) (each.slot 0)
        (λ a sa. after_one (slots 1 (image 1)) (λ b. OpensWith reads image (newest a b)) (each.slot 1) (λ b sb. newest_one a b sa sb))
