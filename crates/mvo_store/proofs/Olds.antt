-- Which files are old: a job's step leaves it, and of those that its manifest names it is known once that is installed.
use Rattle.std.proofs.Common.{◌≡◌, ◌≢◌, ◌⊎◌, inl, inr, ℕ, zero, suc, ◌+◌, ◌<◌, ◌≤◌, ◌&&◌, ◌||◌, Bool, true, false, eqb, cond, List, [], ◌∷◌, length, refl, sym, ap, subst, ◌∙◌, arith, eq-eqb, length-append}
use Rattle.std.specs.Prelude.{not, filter}
use Rattle.std.specs.List.{Contains, flat_map}
use Rattle.std.proofs.lemmas.List.Elements.{All-contains, filter-append}
use Rattle.std.proofs.Math.Bool.{and-true, and-false}
use Rattle.std.proofs.lemmas.Bool.{cases_eq, ne_eqb}
use Rattle.mvo_format.specs.declared.format.TheConstants.{LAST_FORMAT}
use Rattle.mvo_format.proofs.Versions.{known_word}
use Rattle.mvo_pair.specs.declared.pair.Pair.{Pair}
use Rattle.mvo_manifest.specs.Data.{ManifestData, named, pair_files}
use Rattle.mvo_manifest.specs.Rules.{IsManifest, IsFile}
use Rattle.mvo_recovery.specs.image.Opens.{Image}
use Rattle.mvo_recovery.specs.Parts.{Parts}
use Rattle.mvo_recovery.specs.Settled.{IsSettled, other_slot}
use Rattle.mvo_recovery.specs.beside.Seen.{CountsStay, pairs_now}
use Rattle.mvo_recovery.proofs.Named.{named_is_no_slot, slot_below, contains_here, contains_there}
use Rattle.mvo_recovery.proofs.Gained.{counted_of}
use Rattle.mvo_recovery.proofs.Rotated.{rotated_names}
use Rattle.mvo_recovery.proofs.Checkpointed.{named_cases as checkpoint_names}
use Rattle.mvo_recovery.proofs.Merged.{named_cases as merge_names}
use Rattle.mvo_load.specs.Old.{is_old}
use Rattle.mvo_load.proofs.Olds.{old_segment, old_data, old_delta}
use Rattle.mvo_store.specs.declared.install.install.Install.{Install as InstallData}
use Rattle.mvo_store.specs.declared.checkpoint.stage.CheckpointStage.{CheckpointStage}
use Rattle.mvo_store.specs.declared.checkpoint.stage.CheckpointStage.TheVariants.{Data as AtData, Delta as AtDelta, Install as AtInstall}
use Rattle.mvo_store.specs.declared.merge.stage.MergeStage.{MergeStage}
use Rattle.mvo_store.specs.declared.merge.stage.MergeStage.TheVariants.{Data as MergeAtData, Delta as MergeAtDelta}
use Rattle.mvo_store.specs.Checkpoint.{made_of}
use Rattle.mvo_store.specs.Merging.{pair_with}
use Rattle.mvo_store.specs.Jobs.{Job, job_takes_file}
use Rattle.mvo_store.specs.Jobs.Job.{Rotation, Checkpoint, Merge, MergeInstall}
use Rattle.mvo_store.specs.Old.{is_marked, KnowsOld, AreUnmarked, old_file_count}
use Rattle.mvo_store.specs.Standing.{HasWork}
use Rattle.mvo_store.specs.Steps.{manifest_after}
use Rattle.mvo_store.specs.Writing.{IsFileDue, IsFileAt, IsMergeFileAt}
use Rattle.mvo_store.proofs.Marks.{HeadersStay, named_has}
use Rattle.mvo_store.proofs.Logged.{named_is}
use Rattle.mvo_store.proofs.Working.{IsOfPair, IsNew, Installing, checkpoint_new, merge_new, new_of_pair}
use Rattle.mvo_store.proofs.Working.Installing.{OfRotation, OfCheckpoint, OfMerge}
use Rattle.mvo_store.proofs.Looks.{of_pair}

module _ (old new : Image) (may : ℕ → List ℕ → Type 0) (m : ManifestData) (x : Parts) (settled : IsSettled old may m x) (counts : CountsStay m.version old new m.pairs) where
  -- a delta file that gains numbers has the header that it had
  delta_stays : (p : Pair) → Contains m.pairs p → is_old (new p.delta_file) ≡ is_old (old p.delta_file)
  delta_stays p has =
      let c = counted_of old may m x settled p has x.lives m.pairs settled.installed.parts.live has in
      let few = known_word m.version c.0 c.1 in
      old_delta c.0.version p.records p.entries c.2 (new p.delta_file) few ((counts p has).1 c.0 c.1 c.2 c.3)
      ∙ sym (old_delta c.0.version p.records p.entries c.2 (old p.delta_file) few c.3)

  no_slot : (file : ℕ) → file ≡ other_slot m → Contains (named m) file → ⊥
  no_slot file at inside = named_is_no_slot m file settled.installed.own.is inside (subst (λ k. k < 2) (sym at) (slot_below (m.generation + 1)))

  -- a named file that a job's step writes is such a one
  due_stays : (j : Job) → HasWork old may m x j → (file : ℕ) → IsFileDue m j file → Contains (named m) file → is_old (new file) ≡ is_old (old file)
  due_stays (Rotation fresh i) has file due inside = absurd (no_slot file due inside)
  due_stays (Checkpoint c) has file due inside = at c.stage due
    where
      unnamed : IsOfPair c.pair file → ⊥
      unnamed of = (new_of_pair m c.pair (checkpoint_new m (made_of c.pair c.made has.into.segment) has.into.may_checkpoint) file of).unnamed inside

      at : (stage : CheckpointStage) → IsFileAt m c stage file → is_old (new file) ≡ is_old (old file)
      at (AtData written) e = absurd (unnamed (inl e))
      at (AtDelta zero) e = absurd (unnamed (inr e))
      at (AtDelta (suc k)) gains = subst (λ n. is_old (new n) ≡ is_old (old n)) (sym gains.file) (delta_stays gains.pair gains.among)
      at (AtInstall step) e = absurd (no_slot file e inside)
  due_stays (Merge g) has file due inside = absurd ((new_of_pair m g.seen.pair (merge_new m _ g.seen.pair _ _ has.merge.may_merge) file (of g.stage due)).unnamed inside)
    where
      of : (stage : MergeStage) → IsMergeFileAt g.seen.pair stage file → IsOfPair g.seen.pair file
      of (MergeAtData written) e = inl e
      of MergeAtDelta e = inr e
  due_stays (MergeInstall g placed i) has file due inside = absurd (no_slot file due inside)

  -- A STEP OF A JOB LEAVES WHICH FILES ARE OLD.
  pub step_stays : (j : Job) → HasWork old may m x j → (file : ℕ) → IsFileDue m j file → ((n : ℕ) → n ≢ file → new n ≡ old n) → HeadersStay old new m
  step_stays j has file due rest n inside = elim (cases_eq n file) [
    | inl e ↦ subst (λ k. is_old (new k) ≡ is_old (old k)) (sym e) (due_stays j has file due (subst (Contains (named m)) e inside))
    | inr ne ↦ ap is_old (rest n ne)
  ]

-- ---- what the next manifest names

-- a named file isn't of a pair of new files
untaken : (m : ManifestData) (p : Pair) → IsNew m p.data_file × IsNew m p.delta_file → (n : ℕ) → Contains (named m) n → (eqb p.data_file n || eqb p.delta_file n) ≡ false
untaken m p both n inside =
    let no_data = ne_eqb p.data_file n (λ e. both.0.unnamed (subst (Contains (named m)) (sym e) inside)) in
    let no_delta = ne_eqb p.delta_file n (λ e. both.1.unnamed (subst (Contains (named m)) (sym e) inside)) in
    ap (λ t. t || eqb p.delta_file n) no_data ∙ no_delta

module _ (content : Image) (may : ℕ → List ℕ → Type 0) (m : ManifestData) (x : Parts) (settled : IsSettled content may m x) where
  -- it was named, and the job hasn't taken it; or the job has, and it is of the last version
  abbrev WasOrTaken : Job → ℕ → Type 0
  WasOrTaken j n = (Contains (named m) n × (job_takes_file j n ≡ false)) ⊎ ((job_takes_file j n ≡ true) × (is_old (content n) ≡ false))

  next_names : {j : Job} {i : InstallData} → Installing j i → HasWork content may m x j → (n : ℕ) → Contains (named (manifest_after j m)) n → WasOrTaken j n
  next_names (OfRotation fresh i) has n inside = elim (rotated_names has.replaces m settled.installed.parts.sealed_files settled.installed.parts.last_file fresh.file settled.installed.parts.segments n (subst (λ (k : ManifestData). Contains (named k) n) has.next_is inside)) [
    | inl was ↦ inl (was, ne_eqb fresh.file n (λ e. has.may_rotate.unnamed (subst (Contains (named m)) (sym e) was)))
    | inr here ↦ inr (eq-eqb fresh.file n here, ap (λ k. is_old (content k)) (sym here) ∙ old_segment LAST_FORMAT.version 0 [] (content fresh.file) (omega arith) (has.is_fresh.frames 0))
  ]
  next_names (OfCheckpoint pair made next step placed) has n inside =
      let c = made_of pair made has.into.segment in
      let job = Checkpoint (record { pair = pair; made = made; next = next; stage = AtInstall step; placed = placed }) in
      checkpoint_names m c n has.into.log.first (subst (λ (k : ManifestData). Contains (named k) n) has.into.next_is inside) (WasOrTaken job)
      (λ was. inl (was, untaken m pair (checkpoint_new m c has.into.may_checkpoint) n was))
      (inr (of_pair pair pair.data_file (inl refl), old_data LAST_FORMAT pair.lo.0 pair.hi.0 _ _ (content pair.data_file) (omega arith) has.written.entries.has))
      (inr (of_pair pair pair.delta_file (inr refl), old_delta LAST_FORMAT.version pair.records 0 [] (content pair.delta_file) (omega arith) has.written.delta.has))
  next_names (OfMerge g placed i) has n inside =
      merge_names m (pairs_now has.merge.seen (pair_with g has.late)) has.merge.seen.pairs n (subst (λ (k : ManifestData). Contains (named k) n) has.next_is inside) (WasOrTaken (MergeInstall g placed i))
      (λ was. inl (was, untaken m g.pair (merge_new m _ g.pair _ _ has.merge.may_merge) n was))
      (inr (of_pair g.pair g.pair.data_file (inl refl), old_data LAST_FORMAT g.pair.lo.0 g.pair.hi.0 _ _ (content g.pair.data_file) (omega arith) has.entries.has))
      (inr (of_pair g.pair g.pair.delta_file (inr refl), old_delta LAST_FORMAT.version g.pair.records _ has.late (content g.pair.delta_file) (omega arith) has.has.has))

  -- IT IS KNOWN WHICH OF ITS FILES ARE OLD, where the marks of those that the job took are taken away.
  pub known_next : {j : Job} {i : InstallData} → Installing j i → HasWork content may m x j → (new : Image) → ((n : ℕ) → Contains (named (manifest_after j m)) n → new n ≡ content n)
      → (marks left : List Bool) → KnowsOld content m 1024 marks → AreUnmarked (job_takes_file j) marks left → KnowsOld new (manifest_after j m) 1024 left
  known_next {j} view has new same marks left knows un = record {
    long = un.long ∙ knows.long;
    are = λ n lt is. let inside = named_has (manifest_after j m) n is in un.are n ∙ told n lt (next_names view has n inside) ∙ ap is_old (sym (same n inside));
  }
    where
      told : (n : ℕ) → n < 1024 → WasOrTaken j n → (is_marked marks n && not (job_takes_file j n)) ≡ is_old (content n)
      told n lt (inl was) = ap (λ t. is_marked marks n && not t) was.1 ∙ and-true (is_marked marks n) ∙ knows.are n lt (named_is m n was.0)
      told n lt (inr taken) = ap (λ t. is_marked marks n && not t) taken.0 ∙ and-false (is_marked marks n) ∙ sym taken.1

-- ---- how many of them are old

same_filter : (p q : ℕ → Bool) (xs : List ℕ) → ((n : ℕ) → Contains xs n → p n ≡ q n) → filter p xs ≡ filter q xs
same_filter p q [] same = refl
same_filter p q (x ∷ xs) same = go (p x) (q x) (same x (contains_here x xs)) (same_filter p q xs (λ n inside. same n (contains_there x n xs inside)))
  where
    go : (s t : Bool) → s ≡ t → filter p xs ≡ filter q xs → cond s (x ∷ filter p xs) (filter p xs) ≡ cond t (x ∷ filter q xs) (filter q xs)
    go s t e rest = ap (λ b. cond b (x ∷ filter p xs) (filter p xs)) e ∙ ap (λ (l : List ℕ). cond t (x ∷ l) l) rest

-- as many as are marked
pub marked_are : (content : Image) (m : ManifestData) (marks : List Bool) → IsManifest m → KnowsOld content m 1024 marks
    → length (filter (is_marked marks) (flat_map pair_files m.pairs)) + length (filter (is_marked marks) m.segments) ≡ old_file_count content m
marked_are content m marks is knows =
    let pairs = flat_map pair_files m.pairs in
    let each : (n : ℕ) → Contains (named m) n → is_marked marks n ≡ is_old (content n) = λ n inside.
    let file : IsFile n = All-contains IsFile (named m) n is.rules.files inside in
    knows.are n (omega (arith, file.1)) (named_is m n inside) in
    sym (length-append (filter (is_marked marks) pairs) (filter (is_marked marks) m.segments)) ∙ ap (λ (l : List ℕ). length l) (sym (filter-append (is_marked marks) pairs m.segments))
    ∙ ap (λ (l : List ℕ). length l) (same_filter (is_marked marks) (λ n. is_old (content n)) (named m) each)

-- two files at most are marked of a pair
pub of_two : (marks : List Bool) (first second : ℕ) → length (filter (is_marked marks) (first ∷ second ∷ [])) ≤ 2
of_two marks first second = go (is_marked marks first) (is_marked marks second)
  where
    go : (s t : Bool) → length (cond s (first ∷ cond t (second ∷ []) []) (cond t (second ∷ []) [])) ≤ 2
    go true true = omega arith
    go true false = omega arith
    go false true = omega arith
    go false false = omega arith
