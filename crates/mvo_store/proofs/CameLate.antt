-- The last file of a merge: the numbers that came late to its two pairs, and the manifest that has one pair in their place.
use Rattle.std.proofs.Common.{◌≡◌, ◌≢◌, ◌⊎◌, inl, inr, ℕ, ◌+◌, ◌<◌, ◌≤◌, ◌^◌, List, [], ◌∷◌, ◌++◌, length, take, drop, Option, Some, None, Result, Ok, Err, refl, sym, ap, subst, ◌∙◌, arith, append_assoc, length-append}
use Rattle.std.specs.Prelude.{⊤, All, AllPairs}
use Rattle.std.specs.List.{Contains}
use Rattle.std.proofs.lemmas.List.{take_at, drop_at, append-nil, length-take, length-drop}
use Rattle.mvo_types.specs.declared.refusal.Refusal.{Refusal}
use Rattle.mvo_types.specs.declared.refusal.Refusal.TheVariants.{DiskFault}
use Rattle.mvo_disk.specs.declared.disk.Disk.{Ghosts}
use Rattle.mvo_disk.specs.Disk.{Image, Only, AllStay, OthersStay, AllOf, Touched, LeavesOnly, IsHonest}
use Rattle.mvo_disk.specs.Moments.{started, weaker, runs_on}
use Rattle.mvo_format.specs.declared.format.TheConstants.{LAST_FORMAT}
use Rattle.mvo_pair.specs.declared.pair.Pair.{Pair}
use Rattle.mvo_pair.specs.Data.{EntryData}
use Rattle.mvo_pair.specs.Files.{AreNumbers, delta_bytes}
use Rattle.mvo_pair.specs.Late.{AreThoseFrom}
use Rattle.mvo_pair.specs.Writing.{IsStop, CountsFaults, place_behind}
use Rattle.mvo_pair.proofs.Appends.{length-delta}
use Rattle.mvo_manifest.specs.Data.{ManifestData, manifest_of, named}
use Rattle.mvo_manifest.specs.Rules.{IsManifest, IsFile, PairsRise}
use Rattle.mvo_load.specs.Read.{IsMisread, HasRead}
use Rattle.mvo_merge.specs.Merged.{merged as records_of, RenumberingData, renumbering_of, renumbered}
use Rattle.mvo_merge.proofs.Late.{gives_numbers}
use Rattle.mvo_recovery.specs.Parts.{Parts}
use Rattle.mvo_recovery.specs.Settled.{IsSettled}
use Rattle.mvo_recovery.specs.Merging.{MergeData, merged_manifest}
use Rattle.mvo_recovery.proofs.Merged.{named_merged, manifest_merged, rise_merged}
use Rattle.mvo_recovery.proofs.Pairs.{few_records, delta_named}
use Rattle.mvo_recovery.proofs.Gained.{HasCounted, counted_of}
use Rattle.mvo_recovery.specs.beside.Seen.{SeenData, grown, WasSeen, pairs_now, NumbersNow}
use Rattle.mvo_recovery.proofs.beside.Seen.{left_now, right_now, in_left, in_right}
use Rattle.mvo_recovery.proofs.beside.Two.{few_one, has_first, has_second}
use Rattle.mvo_recovery.proofs.beside.Ready.{are_left, are_right, few_late}
use Rattle.mvo_store.specs.declared.install.install_step.InstallStep.TheVariants.{Close}
use Rattle.mvo_store.specs.declared.merge.stage.MergeStage.{MergeStage}
use Rattle.mvo_store.specs.declared.merge.stage.MergeStage.TheVariants.{Delta as MergeAtDelta}
use Rattle.mvo_store.specs.declared.merge.merging.Merging.{Merging}
use Rattle.mvo_store.specs.declared.merge.seen_pairs.SeenPairs.{SeenPairs}
use Rattle.mvo_store.specs.Merging.{first_two, neighbours_at, merged_at, with_late, pair_with, late_of, StandStill, MayBecome, seen_with, IsMerging, IsMergeWritten, AreLateNow, IsMergeReady}
use Rattle.mvo_store.specs.Jobs.{merge_due_of, step_due}
use Rattle.mvo_store.specs.Jobs.Job.{Merge, MergeInstall}
use Rattle.mvo_store.specs.Standing.{HasWork}
use Rattle.mvo_store.specs.Writing.{IsFileDue, IsMergeFileAt, WritesFor, HasMadeStep, TakesMemory, AreLateEntries, IsWrittenEnd, IsEndOf}
use Rattle.mvo_store.proofs.Keeping.{OnlyNow}
use Rattle.mvo_store.proofs.Checkpoints.{stop_or_misread}
use Rattle.mvo_store.proofs.Logged.{unnamed}
use Rattle.mvo_store.proofs.Working.{IsNew, IsMergedOf, IsNamedBefore, RestsOn, merge_new}
use Rattle.mvo_store.proofs.Written.{fill_writes, fill_makes}
use Rattle.mvo_store.proofs.Neighbours.{two_stand}

-- ---- the two among the pairs

module _ (content : Image) (m : ManifestData) (saw : SeenData) (seen : WasSeen content m saw) where
  abbrev first_now : Pair
  first_now = left_now content m saw seen

  abbrev second_now : Pair
  second_now = right_now content m saw seen

  -- they stand in their place
  seen_there : neighbours_at saw.place m.pairs ≡ Some (first_now, second_now)
  seen_there = ap (neighbours_at saw.place) seen.pairs ∙ ap first_two (drop_at seen.before (first_now ∷ second_now ∷ seen.behind) saw.place seen.at)

  -- so does the one pair
  pub merged_there : (p : Pair) → merged_at m saw.place p ≡ merged_manifest m (pairs_now seen p)
  merged_there p =
      let two : List Pair = first_now ∷ second_now ∷ [] in
      let front : take saw.place m.pairs ≡ seen.before = ap (λ (ps : List Pair). take saw.place ps) seen.pairs ∙ take_at seen.before (two ++ seen.behind) saw.place seen.at in
      let whole : m.pairs ≡ (seen.before ++ two) ++ seen.behind = seen.pairs ∙ sym (append_assoc seen.before two seen.behind) in
      let long : length (seen.before ++ two) ≡ saw.place + 2 = omega (arith, seen.at, length-append seen.before two) in
      let back : drop (saw.place + 2) m.pairs ≡ seen.behind = ap (λ (ps : List Pair). drop (saw.place + 2) ps) whole ∙ drop_at (seen.before ++ two) seen.behind (saw.place + 2) long in
      ap (λ (ps : List Pair). manifest_of LAST_FORMAT.version (m.generation + 1) m.checkpoint_mark (ps ++ p ∷ drop (saw.place + 2) m.pairs) m.segments) front
      ∙ ap (λ (ps : List Pair). manifest_of LAST_FORMAT.version (m.generation + 1) m.checkpoint_mark (seen.before ++ p ∷ ps) m.segments) back

-- the delta file of a pair has room for the numbers that count
pub counted_start : (content : Image) (may : ℕ → List ℕ → Type 0) (m : ManifestData) (x : Parts) → IsSettled content may m x → (p : Pair) → Contains m.pairs p → place_behind p.entries ≤ length (content p.delta_file)
counted_start content may m x settled p in_pairs =
    let has : HasCounted m.version content p = counted_of content may m x settled p in_pairs x.lives m.pairs settled.installed.parts.live in_pairs in
    omega (arith, ap (λ (l : List ℕ). length l) has.3.whole, length-append (delta_bytes has.0.version has.2) has.3.rest, length-delta has.0.version has.2 p.entries has.3.counted)

-- the neighbours at a place are among the pairs
module _ (m : ManifestData) (place : ℕ) (p q : Pair) (two : neighbours_at place m.pairs ≡ Some (p, q)) where
  pub first_there : Contains m.pairs p
  first_there = subst (λ (ps : List Pair). Contains ps p) (sym (two_stand m.pairs place p q two)) (has_first (take place m.pairs) (drop (place + 2) m.pairs) p q)

  pub second_there : Contains m.pairs q
  second_there = subst (λ (ps : List Pair). Contains ps q) (sym (two_stand m.pairs place p q two)) (has_second (take place m.pairs) (drop (place + 2) m.pairs) p q)

-- they stand as they stood, and more of their numbers may count
module _ (m : ManifestData) (s : SeenPairs) (still : StandStill m s) (p q : Pair) (two : neighbours_at s.place m.pairs ≡ Some (p, q)) where
  still_two : ◌≡◌ {A = Pair × Pair} (p, q) (grown still.more_left s.left, grown still.more_right s.right)
  still_two = let e : ◌≡◌ {A = Option (Pair × Pair)} (Some (p, q)) (Some (grown still.more_left s.left, grown still.more_right s.right)) = sym two ∙ still.two in cc

  pub left_counts : s.left.entries ≤ p.entries
  left_counts = omega (arith, ap (λ (t : Pair × Pair). t.0.entries) still_two)

  pub right_counts : s.right.entries ≤ q.entries
  right_counts = omega (arith, ap (λ (t : Pair × Pair). t.1.entries) still_two)

-- they are there
pub some_there : (m : ManifestData) (s : SeenPairs) → StandStill m s → neighbours_at s.place m.pairs ≢ None
some_there m s still e = absurd (cc (sym still.two ∙ e))

-- ---- the numbers that came late

module _ (content : Image) (may : ℕ → List ℕ → Type 0) (m : ManifestData) (x : Parts) (settled : IsSettled content may m x) (s : SeenPairs) (has : IsMerging content m s) where
  abbrev saw : SeenData
  saw = seen_with s has.live_left has.live_right

  is_manifest : IsManifest m
  is_manifest = settled.installed.own.is

  -- those that count now
  numbers_now : NumbersNow content m saw has.seen
  numbers_now =
      let counted : (p : Pair) → Contains m.pairs p → HasCounted m.version content p =
      λ p in_pairs. counted_of content may m x settled p in_pairs x.lives m.pairs settled.installed.parts.live in_pairs in
      let left = counted (left_now content m saw has.seen) (in_left content m saw has.seen) in
      let right = counted (right_now content m saw has.seen) (in_right content m saw has.seen) in
      record { left = left.2; right = right.2; left_own = left.0; right_own = right.0; left_known = left.1; right_known = right.1; left_has = left.3; right_has = right.3 }

  abbrev late_left : List ℕ
  late_left = drop s.left.entries numbers_now.left

  abbrev late_right : List ℕ
  late_right = drop s.right.entries numbers_now.right

  module _ (left right : List ℕ) (are : AreLateNow content m s left right) where
    two_same : ◌≡◌ {A = Pair × Pair} (are.first, are.second) (first_now content m saw has.seen, second_now content m saw has.seen)
    two_same = let e : ◌≡◌ {A = Option (Pair × Pair)} (Some (are.first, are.second)) (Some (first_now content m saw has.seen, second_now content m saw has.seen)) = sym are.two ∙ seen_there content m saw has.seen in cc

    left_is : left ≡ late_left
    left_is =
        let p = first_now content m saw has.seen in
        let here : AreThoseFrom s.left.entries p.entries (content p.delta_file) left = subst (λ (t : Pair × Pair). AreThoseFrom s.left.entries t.0.entries (content t.0.delta_file) left) two_same are.left_are in
        here numbers_now.left_own.version s.left.records numbers_now.left (omega (arith, few_records m is_manifest p (in_left content m saw has.seen))) numbers_now.left_has

    right_is : right ≡ late_right
    right_is =
        let q = second_now content m saw has.seen in
        let here : AreThoseFrom s.right.entries q.entries (content q.delta_file) right = subst (λ (t : Pair × Pair). AreThoseFrom s.right.entries t.1.entries (content t.1.delta_file) right) two_same are.right_are in
        here numbers_now.right_own.version s.right.records numbers_now.right (omega (arith, few_records m is_manifest q (in_right content m saw has.seen))) numbers_now.right_has

    late_now : late_of s left right ≡ late_of s late_left late_right
    late_now = ap (λ (l : List ℕ). late_of s l right) left_is ∙ ap (λ (r : List ℕ). late_of s late_left r) right_is

    abbrev renumbering : RenumberingData
    renumbering = renumbering_of has.live_left has.live_right

    late_same : late_of s left right ≡ renumbered renumbering late_left late_right
    late_same = late_now ∙ ap (λ (r : RenumberingData). renumbered r late_left late_right) has.renumbering

    -- THEY ARE FEW, and are numbers of the merge's records.
    pub late_few : length (late_of s left right) < 2 ^ 32
    late_few = subst (λ (l : List ℕ). length l < 2 ^ 32) (sym late_same) (few_late content m x.lives saw is_manifest settled.installed.parts.live has.seen numbers_now)

    late_are : AreNumbers s.pair.records (late_of s left right)
    late_are =
        let count : length (records_of has.live_left has.live_right) ≡ s.pair.records = sym (has.may_merge.counted ∙ ap (λ (es : List EntryData). length es) has.records) in
        let from_left = are_left content m x.lives saw is_manifest settled.installed.parts.live has.seen numbers_now in
        let from_right = are_right content m x.lives saw is_manifest settled.installed.parts.live has.seen numbers_now in
        subst (λ (l : List ℕ). AreNumbers s.pair.records l) (sym late_same) (subst (λ k. AreNumbers k (renumbered renumbering late_left late_right)) count (gives_numbers has.live_left has.live_right late_left late_right from_left from_right))

-- they are the same where the manifest's files stay
late_stay : (old new : Image) (m : ManifestData) (s : SeenPairs) (left right : List ℕ) → IsManifest m → ((n : ℕ) → Contains (named m) n → new n ≡ old n) → AreLateNow old m s left right → AreLateNow new m s left right
late_stay old new m s left right is same are = record {
  first = are.first;
  second = are.second;
  two = are.two;
  left_are = subst (λ (b : List ℕ). AreThoseFrom s.left.entries are.first.entries b left) (sym (same are.first.delta_file (delta_named m is are.first (first_there m s.place are.first are.second are.two)))) are.left_are;
  right_are = subst (λ (b : List ℕ). AreThoseFrom s.right.entries are.second.entries b right) (sym (same are.second.delta_file (delta_named m is are.second (second_there m s.place are.first are.second are.two)))) are.right_are;
}

-- ---- its delta file

module _ {D : Type 0} (d : Ghosts D) (old new : D) (m : ManifestData) (g : Merging) (at : g.stage ≡ MergeAtDelta) where
  abbrev delta : ℕ
  delta = g.seen.pair.delta_file

  delta_due : IsFileDue m (Merge g) delta
  delta_due = subst (λ (k : MergeStage). IsMergeFileAt g.seen.pair k delta) (sym at) refl

  takes : TakesMemory (step_due (Merge g))
  takes = subst (λ (k : MergeStage). TakesMemory (merge_due_of k)) (sym at) tt

  delta_new : (x : Parts) → HasWork (d.content old) (d.may_leave old) m x (Merge g) → IsNew m delta × (RestsOn m (Merge g) delta → ⊥)
  delta_new x w = (is, never)
    where
      is : IsNew m delta
      is = (merge_new m _ g.seen.pair _ _ w.merge.may_merge).1

      never : IsMergedOf g.seen.pair g.stage delta ⊎ IsNamedBefore m delta → ⊥
      never (inl on) = w.merge.may_merge.two_files (sym (subst (λ (k : MergeStage). IsMergedOf g.seen.pair k delta) at on))
      never (inr before) = is.unnamed before.0

  module _ (rest : OthersStay delta (d.content old) (d.content new) (d.may_leave old) (d.may_leave new)) where
    end_writes : LeavesOnly d.moment d.left_since old new (Touched delta (d.may_leave old) (λ _. ⊤)) → WritesFor d old new m (Merge g)
    end_writes touched = fill_writes d old new m (Merge g) (Merge g) delta (Unit {0}) (record { due = delta_due; takes = takes; is = delta_new; goes_on = λ x _ w _. record { work = w; install = tt } }) rest touched

    module _ (left right : List ℕ) (are : AreLateNow (d.content old) m g.seen left right) (next : ManifestData) (next_is : next ≡ merged_at m g.seen.place (pair_with g.seen (late_of g.seen left right)))
        (bytes : d.content new delta ≡ delta_bytes LAST_FORMAT.version (late_of g.seen left right)) (durable : Only (d.content new delta) (d.may_leave new delta)) where
      abbrev late : List ℕ
      late = late_of g.seen left right

      -- its manifest may be installed
      ready_end : (x : Parts) → IsSettled (d.content new) (d.may_leave new) m x → HasWork (d.content new) (d.may_leave new) m x (Merge g) → IsMergeReady (d.content new) (d.may_leave new) m g.seen next
      ready_end x settled w =
          let merge = w.merge in
          let is = settled.installed.own.is in
          let same : (n : ℕ) → Contains (named m) n → d.content new n ≡ d.content old n = λ n has. rest.content n (λ e. merge.may_merge.delta_unnamed (subst (Contains (named m)) e has)) in
          let are_here = late_stay (d.content old) (d.content new) m g.seen left right is same are in
          record {
            merge = merge;
            now = numbers_now (d.content new) (d.may_leave new) m x settled g.seen merge;
            late = late;
            late_is = late_now (d.content new) (d.may_leave new) m x settled g.seen merge left right are_here;
            next_is = next_is ∙ merged_there (d.content new) m (seen_with g.seen merge.live_left merge.live_right) merge.seen (pair_with g.seen late);
            entries = subst (λ (k : MergeStage). IsMergeWritten (d.content new) (d.may_leave new) g.seen k) at w.written;
            has = record {
              has = record {
                rest = [];
                whole = bytes ∙ sym (append-nil (delta_bytes LAST_FORMAT.version late));
                counted = refl;
                are = late_are (d.content new) (d.may_leave new) m x settled g.seen merge left right are_here;
              };
              durable = durable;
            };
          }

      -- THE MERGE IS READY.
      end_makes : HasMadeStep d old new m (Merge g) (MergeInstall g.seen 0 (record { next = next; step = Close }))
      end_makes = fill_makes d old new m (Merge g) (MergeInstall g.seen 0 (record { next = next; step = Close })) delta (Unit {0}) (record { due = delta_due; takes = takes; is = delta_new; goes_on = λ x settled w _. record { work = ready_end x settled w; install = tt } }) rest tt

-- ---- a look at the disk, and then a write

-- no file is touched
none_touched : (file : ℕ) (old new : Image) (may_old may_new : ℕ → List ℕ → Type 0) → AllStay old new may_old may_new → OthersStay file old new may_old may_new
none_touched file old new may_old may_new stay = record { content = λ n _. stay.content n; images = λ n c _. stay.images n c; keeps = λ n c _. stay.keeps n c }

module _ {D : Type 0} (d : Ghosts D) (old mid new : D) (file : ℕ) where
  touches_none : LeavesOnly d.moment d.left_since old mid (AllOf (d.may_leave old)) → LeavesOnly d.moment d.left_since old mid (Touched file (d.may_leave old) (λ _. ⊤))
  touches_none = weaker d.moment d.left_since old mid (AllOf (d.may_leave old)) (Touched file (d.may_leave old) (λ _. ⊤)) (λ image all. record { here = tt; others = λ n ne. all n })

  module _ (looks : AllStay (d.content old) (d.content mid) (d.may_leave old) (d.may_leave mid)) where
    others_behind : OthersStay file (d.content mid) (d.content new) (d.may_leave mid) (d.may_leave new) → OthersStay file (d.content old) (d.content new) (d.may_leave old) (d.may_leave new)
    others_behind rest = record {
      content = λ n ne. rest.content n ne ∙ looks.content n;
      images = λ n c ne left. looks.images n c (rest.images n c ne left);
      keeps = λ n c ne left. rest.keeps n c ne (looks.keeps n c left);
    }

    touches_behind : LeavesOnly d.moment d.left_since old mid (AllOf (d.may_leave old)) → LeavesOnly d.moment d.left_since mid new (Touched file (d.may_leave mid) (λ _. ⊤)) → LeavesOnly d.moment d.left_since old new (Touched file (d.may_leave old) (λ _. ⊤))
    touches_behind first second = runs_on d.moment d.left_since old mid new (Touched file (d.may_leave old) (λ _. ⊤)) (Touched file (d.may_leave mid) (λ _. ⊤)) (touches_none first) second
        (λ image t. record { here = tt; others = λ n ne. looks.images n (image n) (t.others n ne) })

-- one look after another
pub looks_twice : {D X : Type 0} (d : Ghosts D) (old mid new : D) → AllStay (d.content old) (d.content mid) (d.may_leave old) (d.may_leave mid) → LeavesOnly d.moment d.left_since old mid (AllOf (d.may_leave old)) → d.fault_count mid ≡ d.fault_count old
    → AllStay (d.content mid) (d.content new) (d.may_leave mid) (d.may_leave new) → LeavesOnly d.moment d.left_since mid new (AllOf (d.may_leave mid)) → (result : Result X Refusal) → CountsFaults (d.fault_count mid) (d.fault_count new) result → HasRead d old new result
looks_twice {X = X} d old mid new looks first same more second result count = record {
  rest = record {
    content = λ n. more.content n ∙ looks.content n;
    images = λ n c left. looks.images n c (more.images n c left);
    keeps = λ n c left. more.keeps n c (looks.keeps n c left);
  };
  any_moment = runs_on d.moment d.left_since old mid new (AllOf (d.may_leave old)) (AllOf (d.may_leave mid)) first second (λ image all n. looks.images n (image n) (all n));
  count = subst (λ n. CountsFaults {X = X} n (d.fault_count new) result) same count;
}

-- ---- what it comes to

-- the numbers weren't read
pub end_unread : {D X : Type 0} (d : Ghosts D) (old new : D) (m : ManifestData) (g : Merging) → g.stage ≡ MergeAtDelta → (e : Refusal) → IsStop e → HasRead {X = X} d old new (Err e) → IsEndOf d old new m g (Err e)
end_unread d old new m g at e stop read =
    let file = g.seen.pair.delta_file in
    let rest = none_touched file (d.content old) (d.content new) (d.may_leave old) (d.may_leave new) read.rest in
    record {
      honest = read.any_moment.later.honest;
      file = record { file = file; is = refl; rest = rest };
      writes = λ _. end_writes d old new m g at rest (touches_none d old new new file read.any_moment);
      ended = tt;
      count = read.count;
      why = inl stop;
      lied = λ broken. absurd (stop_or_misread e stop broken);
      memory = λ _. read.rest;
    }

module _ {D : Type 0} (d : Ghosts D) (old mid new : D) (m : ManifestData) (g : Merging) (at : g.stage ≡ MergeAtDelta) (late : List ℕ) (are : AreLateEntries (IsHonest (d.moment mid)) (d.content old) m g.seen late) (few : IsHonest (d.moment mid) → length late < 2 ^ 32)
    (looks : AllStay (d.content old) (d.content mid) (d.may_leave old) (d.may_leave mid)) (looked : LeavesOnly d.moment d.left_since old mid (AllOf (d.may_leave old))) (count : d.fault_count mid ≡ d.fault_count old) where
  abbrev file : ℕ
  file = g.seen.pair.delta_file

  -- they were read, and then the file and the manifest were made
  pub end_behind : (result : Result ManifestData Refusal) → IsWrittenEnd d mid new m g late result → IsEndOf d old new m g result
  end_behind (Ok next) w =
      let rest = others_behind d old mid new file looks w.rest in
      record {
        honest = λ h. looked.later.honest (w.any_moment.later.honest h);
        file = record { file = file; is = refl; rest = rest };
        writes = λ _. end_writes d old new m g at rest (touches_behind d old mid new file looks looked w.any_moment);
        ended = record {
          late = late;
          are = record { left = are.left; right = are.right; are = λ h. are.are (w.any_moment.later.honest h); is = are.is };
          next_is = w.next;
          bytes = w.bytes;
          makes = λ h. end_makes d old new m g at rest are.left are.right (are.are (w.any_moment.later.honest h)) next (subst (λ (l : List ℕ). next ≡ merged_at m g.seen.place (pair_with g.seen l)) are.is w.next)
              (subst (λ (l : List ℕ). d.content new file ≡ delta_bytes LAST_FORMAT.version l) are.is w.bytes) w.durable;
        };
        count = w.count ∙ count;
        why = tt;
        lied = tt;
        memory = tt;
      }
  end_behind (Err e) w =
      let rest = others_behind d old mid new file looks w.rest in
      record {
        honest = λ h. looked.later.honest (w.any_moment.later.honest h);
        file = record { file = file; is = refl; rest = rest };
        writes = λ _. end_writes d old new m g at rest (touches_behind d old mid new file looks looked w.any_moment);
        ended = tt;
        count = subst (λ n. CountsFaults {X = ManifestData} n (d.fault_count new) (Err e)) count w.count;
        why = w.refused;
        lied = λ broken h. absurd (omega (arith, w.many broken, few (w.any_moment.later.honest h)));
        memory = λ is.
            let same : new ≡ mid = w.unchanged (λ f. absurd (cc (sym is ∙ f))) in
            subst (λ (k : D). AllStay (d.content old) (d.content k) (d.may_leave old) (d.may_leave k)) (sym same) looks;
      }

-- ---- the manifest

module _ (m : ManifestData) (is : IsManifest m) (s : SeenPairs) (still : StandStill m s) (may : MayBecome m s) where
  abbrev two_are : MergeData
  two_are = record {
    before = take s.place m.pairs;
    left = grown still.more_left s.left;
    right = grown still.more_right s.right;
    behind = drop (s.place + 2) m.pairs;
    pair = with_late 0 s.pair;
  }

  pairs_are : m.pairs ≡ take s.place m.pairs ++ two_are.left ∷ two_are.right ∷ drop (s.place + 2) m.pairs
  pairs_are = two_stand m.pairs s.place two_are.left two_are.right still.two

  pub place_there : s.place + 2 ≤ length m.pairs
  place_there =
      let front = take s.place m.pairs in
      let back = drop (s.place + 2) m.pairs in
      omega (arith, ap (λ (ps : List Pair). length ps) pairs_are, length-append front (two_are.left ∷ two_are.right ∷ back), length-take s.place m.pairs, length-drop (s.place + 2) m.pairs)

  without_late : IsManifest (merged_manifest m two_are)
  without_late = manifest_merged m two_are pairs_are s.made.records (record {
    generation = omega (arith, may.generation);
    lo = may.lo;
    hi = may.hi;
    counted = may.counted;
    few = may.few;
    none = refl;
    data_file = may.data_file;
    delta_file = may.delta_file;
    data_unnamed = unnamed m s.pair.data_file may.data_unnamed;
    delta_unnamed = unnamed m s.pair.delta_file may.delta_unnamed;
    two_files = may.two_files;
  }) is

  -- THE MANIFEST KEEPS THE RULES, with so many late numbers as a count can say.
  pub manifest_end : (late : ℕ) → late < 2 ^ 32 → IsManifest (merged_at m s.place (with_late late s.pair))
  manifest_end late few =
      let c : MergeData = record two_are { pair = with_late late s.pair } in
      let rules = without_late.rules in
      let same_named : named (merged_manifest m two_are) ≡ named (merged_manifest m c) = named_merged m two_are pairs_are ∙ sym (named_merged m c pairs_are) in
      record {
        rules = record {
          version = rules.version;
          pairs = omega (arith, length-append c.before (c.pair ∷ c.behind), length-append c.before (two_are.pair ∷ c.behind), rules.pairs);
          some = rules.some;
          segments = rules.segments;
          rise = rise_merged 0 m.checkpoint_mark c.before c.behind c.left c.right c.pair may.lo may.hi may.few (subst (λ (ps : List Pair). PairsRise 0 ps m.checkpoint_mark) pairs_are is.rules.rise);
          files = subst (λ (ns : List ℕ). All IsFile ns) same_named rules.files;
          different = subst (λ (ns : List ℕ). AllPairs (λ x y. x ≢ y) ns) same_named rules.different;
        };
        generation = omega (arith, may.generation);
        entries = few_one c.before c.behind c.left c.right c.pair few (subst (λ (ps : List Pair). All (λ r. r.entries < 2 ^ 32) ps) pairs_are is.entries);
      }

-- ---- the write

still_counts : (X : Type 0) (n : ℕ) (e : Refusal) → e ≢ DiskFault → CountsFaults {X = X} n n (Err e)
still_counts X n DiskFault ne = absurd (ne refl)
still_counts X n e ne = refl

module _ {D : Type 0} (d : Ghosts D) (m : ManifestData) (g : Merging) (late : List ℕ) where
  -- nothing is written
  pub none_written : OnlyNow d → (disk : D) (e : Refusal) → e ≢ DiskFault → IsStop e ⊎ IsMisread e → (IsMisread e → 2 ^ 32 ≤ length late) → IsWrittenEnd d disk disk m g late (Err e)
  none_written only_now disk e ne why many = record {
    honest = refl;
    next = tt;
    bytes = tt;
    durable = tt;
    rest = record { content = λ n _. refl; images = λ n c _ left. left; keeps = λ n c _ left. left };
    any_moment = started d.moment d.left_since disk (Touched g.seen.pair.delta_file (d.may_leave disk) (λ _. ⊤)) (λ image left. record { here = tt; others = λ n _. only_now disk image left n });
    count = still_counts ManifestData (d.fault_count disk) e ne;
    refused = why;
    many = many;
    unchanged = λ _. refl;
  }
