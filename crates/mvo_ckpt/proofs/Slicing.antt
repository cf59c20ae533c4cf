-- A checkpoint that is built in slices is built as a whole.
use Rattle.std.proofs.Common.{◌≡◌, ◌⊎◌, inl, inr, ℕ, ◌+◌, ◌-◌, ◌<◌, ◌≤◌, List, [], ◌++◌, length, Some, None, sym, ap, subst, ◌∙◌, append_assoc, arith}
use Rattle.std.specs.Prelude.{reverse}
use Rattle.std.specs.List.{filter_map}
use Rattle.std.proofs.lemmas.List.{reverse-reverse, take_all}
use Rattle.mvo_types.specs.declared.row.RowKey.{RowKey}
use Rattle.mvo_group.specs.Data.{GroupData}
use Rattle.mvo_pair.specs.Data.{EntryData, Numbered}
use Rattle.mvo_pair.specs.declared.pair.Pair.{Pair}
use Rattle.mvo_places.specs.Places.{PlaceMap, ArePlaces}
use Rattle.mvo_ckpt.specs.declared.gaining.Gaining.{Gaining}
use Rattle.mvo_ckpt.specs.declared.walking.Walking.{Walking}
use Rattle.mvo_ckpt.specs.Building.{writes_left, walk_size, walked, IsWalking, IsWalkStep, IsGainingOf}
use Rattle.mvo_ckpt.specs.Checkpoint.{DeltaData}
use Rattle.mvo_ckpt.specs.Ended.{deltas_of, AreOfPairs}
use Rattle.mvo_ckpt.specs.Walk.{none_met, walk_of, walk_writes, deltas_by}
use Rattle.mvo_ckpt.specs.Writes.{Stamped, writes_of, last_writes, record_of, gone_at, records_of, gone_of}
use Rattle.mvo_ckpt.proofs.AllMet.{all_met}
use Rattle.mvo_ckpt.proofs.Known.{are_of_pairs, are_few}
use Rattle.mvo_ckpt.proofs.Parts.{deltas_are, sorted_written}
use Rattle.mvo_ckpt.proofs.Walked.{walk-append}

-- ---- a slice of the writes

-- Writes are taken, while fewer than so many of them are.
pub record IsSliced (at : PlaceMap) (most : ℕ) (old : Walking) (room : ℕ) (w : Walking) : Type 0 where
  pub walks : (gs : List GroupData) → IsWalking at gs old → IsWalking at gs w
  pub some : (1 ≤ room) ⊎ (walk_size w < walk_size old)
  pub fewer : walk_size w ≤ walk_size old
  pub roomy : room ≤ most + 1
  pub few : walk_size old ≤ walk_size w + (most + 1 - room)

pub sliced_none : (at : PlaceMap) (most : ℕ) (old : Walking) (room : ℕ) → 1 ≤ room → room ≤ most + 1 → IsSliced at most old room old
sliced_none at most old room some roomy = record {
  walks = λ gs is. is;
  some = inl some;
  fewer = omega arith;
  roomy = roomy;
  few = omega arith;
}

module _ (at : PlaceMap) (most : ℕ) (old : Walking) (room : ℕ) (w : Walking) (s : IsSliced at most old room w) where
  pub sliced_more : (n : ℕ) (new : Walking) (left : ℕ) → 0 < room → IsWalkStep at w (Some n) new → left ≡ room - n → IsSliced at most old left new
  sliced_more n new left lt step is =
      let ws = step.0 in
      let smaller : walk_size new + 1 ≡ walk_size w = step.3 in
      let some : 1 ≤ n = step.4 in
      record {
        walks = λ gs before.
            let b = s.walks gs before in
            record {
              taken = ws ++ b.taken;
              whole = b.whole ∙ ap (λ (l : List Stamped). l ++ b.taken) step.1 ∙ append_assoc (writes_left new) ws b.taken;
              met = step.2 ∙ ap (walk_writes at ws) b.met ∙ sym (walk-append at ws b.taken none_met);
              small = b.small;
            };
        some = inr (omega (arith, smaller, s.fewer));
        fewer = omega (arith, smaller, s.fewer);
        roomy = omega (arith, s.roomy, is);
        few = omega (arith, smaller, s.few, s.roomy, lt, is, some);
      }

  pub sliced_end : (new : Walking) → IsWalkStep at w None new → (gs : List GroupData) → IsWalking at gs old → IsWalking at gs new
  sliced_end new step gs before =
      let b = s.walks gs before in
      record {
        taken = b.taken;
        whole = b.whole ∙ ap (λ (l : List Stamped). l ++ b.taken) (step.0 ∙ sym step.1);
        met = step.2 ∙ b.met;
        small = b.small;
      }

-- all writes are taken
pub all_walked : (at : PlaceMap) (gs : List GroupData) (w : Walking) → IsWalking at gs w → writes_left w ≡ [] → walk_of w.newest ≡ walked at gs
all_walked at gs w is none =
    let all : writes_of gs ≡ is.taken = is.whole ∙ ap (λ (l : List Stamped). l ++ is.taken) none in
    is.met ∙ ap (λ (l : List Stamped). walk_writes at l none_met) (sym all)

-- ---- the end

module _ (at : PlaceMap) (ps : List Pair) (gs : List GroupData) (g : Gaining) (is : IsGainingOf at ps gs g) where
  abbrev ws : List Stamped
  ws = writes_of gs

  pub gained_records : (left : List EntryData) → left ≡ reverse g.records.items → left ≡ records_of gs
  gained_records left turned = turned ∙ ap (λ (l : List EntryData). reverse l) (is.records ∙ (all_met at ws).records) ∙ reverse-reverse (filter_map record_of (last_writes ws))

  pub gained_gone : (left : List RowKey) → left ≡ reverse g.gone.items → left ≡ gone_of gs
  gained_gone left turned = turned ∙ ap (λ (l : List RowKey). reverse l) (is.gone ∙ (all_met at ws).gone) ∙ reverse-reverse (filter_map gone_at (last_writes ws))

  module _ (done : g.done ≡ length ps) where
    all_deltas : g.deltas.items ≡ deltas_by ps g.ended.items
    all_deltas = is.deltas ∙ ap (λ (l : List Pair). deltas_by l g.ended.items) (take_all g.done ps (omega (arith, done)))

    pub gained_deltas : (lives : List (List Numbered)) → ArePlaces ps lives at → g.deltas.items ≡ deltas_of gs ps lives
    gained_deltas lives are =
        let written = sorted_written ws ps lives at are is.small (walked at gs).places g.ended.items (all_met at ws).places is.moved is.sorted in
        all_deltas ∙ deltas_are gs ps lives at are is.small g.ended.items written

    pub gained_known : AreOfPairs ps g.deltas.items
    gained_known = subst (λ (ds : List DeltaData). AreOfPairs ps ds) (sym all_deltas) (are_of_pairs ps g.ended.items)

    pub gained_few : length g.deltas.items ≤ length ps
    gained_few = subst (λ (ds : List DeltaData). length ds ≤ length ps) (sym all_deltas) (are_few ps g.ended.items)
