-- A merge whose files aren't all written, once a checkpoint beside it is installed: that its manifest may still be made rests on no byte.
use Rattle.std.proofs.Common.{◌≡◌, inl, inr, ℕ, zero, suc, ◌+◌, ◌||◌, Bool, true, false, eqb, List, [], ◌∷◌, ◌++◌, length, drop, Some, refl, sym, ap, ◌∙◌, arith}
use Rattle.std.specs.Prelude.{map}
use Rattle.std.specs.List.{list_any, flat_map}
use Rattle.std.proofs.lemmas.Bool.{or_parts}
use Rattle.std.proofs.lemmas.Grind.{flat_map-append}
use Rattle.std.proofs.lemmas.List.Folds.{list_any-append}
use Rattle.mvo_pair.specs.declared.pair.Pair.{Pair}
use Rattle.mvo_manifest.specs.Data.{ManifestData, pair_files}
use Rattle.mvo_recovery.specs.Checkpoint.{NewNumbers, raise}
use Rattle.mvo_recovery.specs.beside.Seen.{grown}
use Rattle.mvo_store.specs.declared.checkpoint.checkpointing.Checkpointing.{Checkpointing}
use Rattle.mvo_store.specs.declared.merge.merging.Merging.{Merging}
use Rattle.mvo_store.specs.declared.merge.reading.MergeReading.{MergeReading}
use Rattle.mvo_store.specs.Checkpoint.{gained, next_of}
use Rattle.mvo_store.specs.Files.{is_named}
use Rattle.mvo_store.specs.Jobs.{job_takes_file}
use Rattle.mvo_store.specs.Jobs.Job.{Checkpoint, Merge}
use Rattle.mvo_store.specs.Merging.{first_two, neighbours_at, AreStill}
use Rattle.mvo_store.specs.PairsRead.{IsSafeRead}
use Rattle.mvo_store.specs.Safe.{IsSafeCheckpoint, IsSafeMerge}
use Rattle.mvo_store.specs.Standing.{ShareNoFile}
use Rattle.mvo_store.proofs.Working.{IsOfPair}
use Rattle.mvo_store.proofs.Beside.{merge_takes}

-- the first two of raised pairs, with others behind them
first_raised : (new : NewNumbers) (ps more : List Pair) (p q : Pair) → first_two ps ≡ Some (p, q) → first_two (map (raise new) ps ++ more) ≡ Some (raise new p, raise new q)
first_raised new [] more p q e = absurd (cc e)
first_raised new (a ∷ []) more p q e = absurd (cc e)
first_raised new (a ∷ (b ∷ ps)) more p q e = let both : ◌≡◌ {A = Pair × Pair} (a, b) (p, q) = cc e in ap (λ (t : Pair × Pair). Some (raise new t.0, raise new t.1)) both

-- so at each place
neighbours_raised : (new : NewNumbers) (ps more : List Pair) (place : ℕ) (p q : Pair) → neighbours_at place ps ≡ Some (p, q) → neighbours_at place (map (raise new) ps ++ more) ≡ Some (raise new p, raise new q)
neighbours_raised new ps more zero p q e = first_raised new ps more p q e
neighbours_raised new [] more (suc place) p q e = absurd (cc e)
neighbours_raised new (a ∷ ps) more (suc place) p q e = neighbours_raised new ps more place p q e

raised_grown : (new : NewNumbers) (n : ℕ) (p : Pair) → raise new (grown n p) ≡ grown (n + length (new (grown n p))) p
raised_grown new n p = let same : p.entries + n + length (new (grown n p)) ≡ p.entries + (n + length (new (grown n p))) = omega arith in ap (λ k. record p { entries = k }) same

-- the two stand still
still_after : (m : ManifestData) (c : Checkpointing) (place : ℕ) (left right : Pair) → c.next ≡ next_of m c.pair c.made.deltas → AreStill m place left right → AreStill c.next place left right
still_after m c place left right is still =
    let new = gained c.made.deltas in
    record {
      more_left = still.more_left + length (new (grown still.more_left left));
      more_right = still.more_right + length (new (grown still.more_right right));
      two = ap (λ (k : ManifestData). neighbours_at place k.pairs) is
          ∙ neighbours_raised new m.pairs (c.pair ∷ []) place (grown still.more_left left) (grown still.more_right right) still.two
          ∙ ap (λ (p : Pair). Some (p, raise new (grown still.more_right right))) (raised_grown new still.more_left left)
          ∙ ap (λ (q : Pair). Some (grown (still.more_left + length (new (grown still.more_left left))) left, q)) (raised_grown new still.more_right right);
    }

-- ---- the files stay free

both_false : (a b : Bool) → a ≡ false → b ≡ false → (a || b) ≡ false
both_false true b e f = absurd (cc e)
both_false false b e f = f

any_drop : (q : ℕ → Bool) (ns : List ℕ) → list_any q ns ≡ false → list_any q (drop 1 ns) ≡ false
any_drop q [] e = refl
any_drop q (n ∷ ns) e = (or_parts (q n) (list_any q ns) e).1

raised_files : (new : NewNumbers) (ps : List Pair) → flat_map pair_files (map (raise new) ps) ≡ flat_map pair_files ps
raised_files new [] = refl
raised_files new (p ∷ ps) = ap (λ (ns : List ℕ). pair_files p ++ ns) (raised_files new ps)

unnamed_next : (m : ManifestData) (c : Checkpointing) (n : ℕ) → is_named m n ≡ false → job_takes_file (Checkpoint c) n ≡ false → is_named (next_of m c.pair c.made.deltas) n ≡ false
unnamed_next m c n unnamed free =
    let q = λ (k : ℕ). eqb k n in
    let raised = map (raise (gained c.made.deltas)) m.pairs in
    let parts = or_parts (list_any q (flat_map pair_files m.pairs)) (list_any q m.segments) (sym (list_any-append q (flat_map pair_files m.pairs) m.segments) ∙ unnamed) in
    let front : list_any q (flat_map pair_files raised) ≡ false = ap (list_any q) (raised_files (gained c.made.deltas) m.pairs) ∙ parts.0 in
    let own = or_parts (eqb c.pair.data_file n) (eqb c.pair.delta_file n) free in
    let pair : list_any q (pair_files c.pair ++ []) ≡ false = both_false (eqb c.pair.data_file n) (eqb c.pair.delta_file n || false) own.0 (both_false (eqb c.pair.delta_file n) false own.1 refl) in
    let pairs : list_any q (flat_map pair_files (raised ++ c.pair ∷ [])) ≡ false =
    ap (list_any q) (flat_map-append pair_files raised (c.pair ∷ [])) ∙ list_any-append q (flat_map pair_files raised) (pair_files c.pair ++ []) ∙ both_false (list_any q (flat_map pair_files raised)) (list_any q (pair_files c.pair ++ [])) front pair in
    list_any-append q (flat_map pair_files (raised ++ c.pair ∷ [])) (drop 1 m.segments)
    ∙ both_false (list_any q (flat_map pair_files (raised ++ c.pair ∷ []))) (list_any q (drop 1 m.segments)) pairs (any_drop q m.segments parts.1)

-- a file that the merge takes isn't the checkpoint's
not_checkpoints : (c : Checkpointing) (g : Merging) → ShareNoFile (Checkpoint c) (Merge g) → (n : ℕ) → job_takes_file (Merge g) n ≡ true → job_takes_file (Checkpoint c) n ≡ false
not_checkpoints c g apart n takes = go (job_takes_file (Checkpoint c) n) refl
  where
    go : (b : Bool) → job_takes_file (Checkpoint c) n ≡ b → job_takes_file (Checkpoint c) n ≡ false
    go true is = absurd (cc (sym takes ∙ apart n is))
    go false is = is

-- THE MERGE IS SAFE with the checkpoint's manifest.
pub merge_safe_after : (m : ManifestData) (c : Checkpointing) (g : Merging) → ShareNoFile (Checkpoint c) (Merge g) → IsSafeCheckpoint m c → IsSafeMerge m g → IsSafeMerge c.next g
merge_safe_after m c g apart first second =
    let may = second.may_become in
    let free : (n : ℕ) → IsOfPair g.seen.pair n → is_named m n ≡ false → is_named c.next n ≡ false = λ n of_pair unnamed.
    ap (λ (k : ManifestData). is_named k n) first.next_is ∙ unnamed_next m c n unnamed (not_checkpoints c g apart n (merge_takes g n of_pair)) in
    let generation : c.next.generation ≡ m.generation + 1 = ap (λ (k : ManifestData). k.generation) first.next_is in
    record {
      pair = second.pair;
      among = second.among;
      still = still_after m c g.seen.place g.seen.left g.seen.right first.next_is second.still;
      may_become = record {
        generation = omega (arith, generation, first.generation);
        lo = may.lo;
        hi = may.hi;
        counted = may.counted;
        few = may.few;
        data_file = may.data_file;
        delta_file = may.delta_file;
        data_unnamed = free g.seen.pair.data_file (inl refl) may.data_unnamed;
        delta_unnamed = free g.seen.pair.delta_file (inr refl) may.delta_unnamed;
        two_files = may.two_files;
      };
    }

-- so is one whose pairs are read
pub reading_safe_after : (m : ManifestData) (c : Checkpointing) (g : MergeReading) → IsSafeCheckpoint m c → IsSafeRead m g → IsSafeRead c.next g
reading_safe_after m c g first second =
    let generation : c.next.generation ≡ m.generation + 1 = ap (λ (k : ManifestData). k.generation) first.next_is in
    record {
      generation = omega (arith, generation, first.generation);
      left_files = second.left_files;
      right_files = second.right_files;
      fits = second.fits;
      still = still_after m c g.place g.left g.right first.next_is second.still;
      read = second.read;
    }
