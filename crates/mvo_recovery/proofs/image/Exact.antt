-- An image opens with rows and a mark exactly where it is well formed and gives them.
use Rattle.std.proofs.Common.{◌≡◌, inl, ⊎_elim, ℕ, List, [], ◌∷◌, ◌++◌, Option, Some, None, Result, Ok, Err, refl, sym, ap, subst, ◌∙◌, append_assoc}
use Rattle.std.specs.List.{IsDistinct}
use Rattle.std.proofs.lemmas.List.{append-nil}
use Rattle.mvo_types.specs.Keys.{Map}
use Rattle.mvo_types.specs.declared.refusal.Refusal.{Refusal}
use Rattle.mvo_types.specs.declared.refusal.Refusal.TheVariants.{Corrupt}
use Rattle.mvo_group.specs.Data.{GroupData}
use Rattle.mvo_pair.specs.Data.{Numbered, AreApart}
use Rattle.mvo_pair.specs.Loading.{LoadsAs}
use Rattle.mvo_pair.specs.declared.pair.Pair.{Pair}
use Rattle.mvo_manifest.specs.Data.{ManifestData}
use Rattle.mvo_manifest.specs.Slots.{newest}
use Rattle.mvo_frame.specs.Frames.{mark_after}
use Rattle.mvo_places.specs.Rows.{rows_of, after_groups}
use Rattle.mvo_recovery.specs.image.Opens.{Image, OpeningOutcome, SlotReading, SegmentReading, OpeningGoes, OpeningAfter, Beside, Pairs, is_empty_list, Segments, OpensWith, Opens}
use Rattle.mvo_recovery.specs.image.Gives.{IsInstalledIn, HaveLive, HaveGroups, ImageGives}
use Rattle.mvo_recovery.proofs.image.Apart.{apart_front}

-- where the whole is answered, each part is
after_ok : {X : Type 0} (says : Result X Refusal → Type 0) (next : X → OpeningOutcome → Type 0) (r : Map × ℕ) → OpeningAfter says next (Ok r) → (x : X) × says (Ok x) × next x (Ok r)
after_ok {X} says next r h = go h.0 h.1 h.2
  where
    go : (found : Result X Refusal) → says found → OpeningGoes next found (Ok r) → (x : X) × says (Ok x) × next x (Ok r)
    go (Ok x) s n = (x, s, n)
    go (Err e) s n = absurd cc

module _ (upto : ℕ) (image : Image) (next : List (List Numbered) → OpeningOutcome → Type 0) (r : Map × ℕ) where
  pub pairs_open : (ps : List Pair) (ls before : List (List Numbered)) → HaveLive upto image ps ls → AreApart (before ++ ls) → next (before ++ ls) (Ok r) → Pairs upto image next ps before (Ok r)
  pairs_open [] [] before have apart n = subst (λ lives. next lives (Ok r)) (append-nil before) n
  pairs_open [] (l ∷ ls) before have apart n = absurd have
  pairs_open (p ∷ ps) [] before have apart n = absurd have
  pairs_open (p ∷ ps) (l ∷ ls) before have apart n =
      let same : before ++ l ∷ ls ≡ (before ++ l ∷ []) ++ ls = sym (append_assoc before (l ∷ []) ls) in
      let all : AreApart ((before ++ l ∷ []) ++ ls) = subst AreApart same apart in
      (Ok l, have.0, inl (apart_front (before ++ l ∷ []) ls all, pairs_open ps ls (before ++ l ∷ []) have.1 all (subst (λ lives. next lives (Ok r)) same n)))

  pub open_pairs : (ps : List Pair) (before : List (List Numbered)) → AreApart before → Pairs upto image next ps before (Ok r) → (ls : List (List Numbered)) × HaveLive upto image ps ls × AreApart (before ++ ls) × next (before ++ ls) (Ok r)
  open_pairs [] before apart n = ([], tt, subst AreApart (sym (append-nil before)) apart, subst (λ lives. next lives (Ok r)) (sym (append-nil before)) n)
  open_pairs (p ∷ ps) before apart h =
      let a = after_ok (LoadsAs upto p (image p.data_file) (image p.delta_file)) (λ live. Beside p.data_file (before ++ live ∷ []) (Pairs upto image next ps)) r h in
      let l = a.0 in
      let b : AreApart (before ++ l ∷ []) × Pairs upto image next ps (before ++ l ∷ []) (Ok r) = ⊎_elim (λ (y : AreApart (before ++ l ∷ []) × Pairs upto image next ps (before ++ l ∷ []) (Ok r)). y) (λ (y : (AreApart (before ++ l ∷ []) → ⊥) × (Ok r ≡ Err (Corrupt p.data_file))). absurd (let e = y.1 in cc)) a.2 in
      let more = open_pairs ps (before ++ l ∷ []) b.0 b.1 in
      let same : (before ++ l ∷ []) ++ more.0 ≡ before ++ l ∷ more.0 = append_assoc before (l ∷ []) more.0 in
      (l ∷ more.0, (a.1, more.1), subst AreApart same more.2, subst (λ lives. next lives (Ok r)) same more.3)

abbrev answer : Map → ℕ → OpeningOutcome
answer rows mark = Ok (rows, mark)

answer_is : (a b : Map) (m n : ℕ) → a ≡ b → m ≡ n → answer a m ≡ answer b n
answer_is a b m n e h = ap (λ x. answer x m) e ∙ ap (λ k. answer b k) h

module _ (reads : SegmentReading) (image : Image) (rows : Map) where
  groups_open : (ns : List ℕ) (mark : ℕ) (before gs : List GroupData) (upto : ℕ) → HaveGroups reads image ns mark gs upto → Segments reads image rows ns mark before (Ok (after_groups rows (before ++ gs), upto))
  groups_open [] mark before gs upto have =
      let same : before ++ gs ≡ before = ap (λ (l : List GroupData). before ++ l) have.0 ∙ append-nil before in
      answer_is (after_groups rows (before ++ gs)) (after_groups rows before) upto mark (ap (after_groups rows) same) have.1
  groups_open (n ∷ ns) mark before gs upto have =
      let same : before ++ gs ≡ (before ++ have.0) ++ have.1 = ap (λ l. before ++ l) have.2 ∙ sym (append_assoc before have.0 have.1) in
      (Ok have.0, have.3, subst (λ l. Segments reads image rows ns (mark_after mark have.0) (before ++ have.0) (Ok (after_groups rows l, upto))) (sym same) (groups_open ns (mark_after mark have.0) (before ++ have.0) have.1 upto have.4))

  open_groups : (ns : List ℕ) (mark : ℕ) (before : List GroupData) (r : Map × ℕ) → Segments reads image rows ns mark before (Ok r) → (gs : List GroupData) × HaveGroups reads image ns mark gs r.1 × (r.0 ≡ after_groups rows (before ++ gs))
  open_groups [] mark before r h =
      let e : r ≡ (after_groups rows before, mark) = cc in
      ([], (refl, ap (λ (p : Map × ℕ). p.1) e), ap (λ (p : Map × ℕ). p.0) e ∙ ap (after_groups rows) (sym (append-nil before)))
  open_groups (n ∷ ns) mark before r h =
      let a = after_ok (reads n mark (is_empty_list ns) (image n)) (λ gs. Segments reads image rows ns (mark_after mark gs) (before ++ gs)) r h in
      let more = open_groups ns (mark_after mark a.0) (before ++ a.0) r a.2 in
      (a.0 ++ more.0, (a.0, more.0, refl, a.1, more.1), more.2 ∙ ap (after_groups rows) (append_assoc before a.0 more.0))

none : AreApart []
unfolding IsDistinct
none = tt

module _ (slots : SlotReading) (reads : ℕ → SegmentReading) (image : Image) (rows : Map) (mark : ℕ) where
  with_rows : (m : ManifestData) (lives : List (List Numbered)) (gs : List GroupData) → HaveLive m.version image m.pairs lives → AreApart lives → HaveGroups (reads m.version) image m.segments m.checkpoint_mark gs mark → rows ≡ after_groups (rows_of lives) gs → OpensWith reads image (Some m) (Ok (rows, mark))
  with_rows m lives gs live apart have are =
      let segments : Segments (reads m.version) image (rows_of lives) m.segments m.checkpoint_mark [] (answer (after_groups (rows_of lives) gs) mark) = groups_open (reads m.version) image (rows_of lives) m.segments m.checkpoint_mark [] gs mark have in
      let same : answer (after_groups (rows_of lives) gs) mark ≡ answer rows mark = ap (λ x. answer x mark) (sym are) in
      pairs_open m.version image (λ ls. Segments (reads m.version) image (rows_of ls) m.segments m.checkpoint_mark []) (rows, mark) m.pairs lives [] live apart (subst (λ out. Segments (reads m.version) image (rows_of lives) m.segments m.checkpoint_mark [] out) same segments)

  pub gives_opens : ImageGives slots reads image rows mark → Opens slots reads image (Ok (rows, mark))
  gives_opens g =
      let m = g.manifest in
      let i = g.installed in
      let open_with = with_rows m g.lives g.groups g.live g.distinct g.have g.rows_are in
      (Ok i.first, i.first_has, (Ok i.second, i.second_has, subst (λ o. OpensWith reads image o (Ok (rows, mark))) (sym i.is) open_with))

  rows_with : (m : ManifestData) → IsInstalledIn slots image m → OpensWith reads image (Some m) (Ok (rows, mark)) → ImageGives slots reads image rows mark
  rows_with m installed h =
      let p = open_pairs m.version image (λ ls. Segments (reads m.version) image (rows_of ls) m.segments m.checkpoint_mark []) (rows, mark) m.pairs [] none h in
      let g = open_groups (reads m.version) image (rows_of p.0) m.segments m.checkpoint_mark [] (rows, mark) p.3 in
      record { manifest = m; installed = installed; lives = p.0; live = p.1; distinct = p.2; groups = g.0; have = g.1; rows_are = g.2 }

  pub opens_gives : Opens slots reads image (Ok (rows, mark)) → ImageGives slots reads image rows mark
  opens_gives h =
      let a = after_ok (slots 0 (image 0)) (λ a. OpeningAfter (slots 1 (image 1)) (λ b. OpensWith reads image (newest a b))) (rows, mark) h in
      let b = after_ok (slots 1 (image 1)) (λ b. OpensWith reads image (newest a.0 b)) (rows, mark) a.2 in
      go a.0 b.0 a.1 b.1 (newest a.0 b.0) refl b.2
    where
      go : (a b : Option ManifestData) → slots 0 (image 0) (Ok a) → slots 1 (image 1) (Ok b) → (o : Option ManifestData) → newest a b ≡ o → OpensWith reads image o (Ok (rows, mark)) → ImageGives slots reads image rows mark
      go a b sa sb None is n = absurd cc
      go a b sa sb (Some m) is n = rows_with m (record { first = a; second = b; first_has = sa; second_has = sb; is = is }) n
