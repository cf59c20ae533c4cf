-- What is stored above the start of the tale is the whole tale, with the read-only transactions' commits.
use Rattle.std.proofs.Common.{◌≡◌, ◌∙◌, ℕ, suc, Bool, true, false, cond, List, [], ◌∷◌, ◌++◌, map, refl, sym, ap, subst, arith}
use Rattle.std.specs.Prelude.{nat_lt}
use Rattle.std.specs.FinMap as fin
use Rattle.std.specs.List.Sorted.{IsPermutation}
use Rattle.std.proofs.lemmas.Bool.{false≢true, eqb-true}
use Rattle.std.proofs.lemmas.List.Sorted.{IsPermutation-refl, IsPermutation-trans, IsPermutation-cons, IsPermutation-middle, IsPermutation-map, IsPermutation-append_left}
use Rattle.mvo_types.specs.Keys.{Map}
use Rattle.mvo_model.specs.History.{History, Legal}
use Rattle.mvo_model.specs.Trace.{Step}
use Rattle.mvo_readonly.specs.Whole.{WholeState}
use Rattle.mvo_readonly.specs.WholeTale.{stored_readers}
use Rattle.mvo_tale.specs.declared.tale_place.TalePlace.{TalePlace}
use Rattle.mvo_tale.specs.declared.tale_place.TalePlace.TheVariants.{Open, Reading, Settled, Empty}
use Rattle.mvo_tale.specs.Stored.{StoredCommit}
use Rattle.mvo_tale.specs.Slots.{ends, AreRising}
use Rattle.mvo_tale.specs.Others.{ends_at_begin, others_places}
use Rattle.mvo_tale.specs.WholePlaces.{reader_of, readers_at, stored_after}
use Rattle.mvo_tale.proofs.StoredWhole.{stored_is_whole}
use Rattle.mvo_txn.specs.Txns.{state_of}
use Rattle.mvo_representation.specs.Indexes.{all_versions}
use Rattle.mvo_representation.specs.Table.{phases_of}
use Rattle.mvo_representation.specs.Words.{ends_of, change_below}
use Rattle.mvo_representation.specs.Versions.{origin_at_start}
use Rattle.mvo_representation.proofs.Shown.{row_of_standing}
use Rattle.mvo_core.specs.Data.{CoreData}
use Rattle.mvo_core.specs.Receipts.{Receipt, receipt, stored_commits}
use Rattle.mvo_core.specs.Trimming.{stored_above}
use Rattle.mvo_core.specs.WholeStanding.{StandsWhole}
use Rattle.mvo_core.specs.WholeTales.{receipt_of_reader, stored_receipts, IsWholeTaleOf}
use Rattle.mvo_core.proofs.KeptTale.{stored_is}

-- ---- the receipts of what is stored
abbrev receipt_at : StoredCommit → Receipt
receipt_at c = receipt c.id c.end c.history

above_is : (start : ℕ) (slots : List TalePlace) → stored_above start slots ≡ map receipt_at (stored_after start slots)
above_is start [] = refl
above_is start (Open e ∷ slots) = above_is start slots
above_is start (Reading b ∷ slots) = above_is start slots
above_is start (Settled c ∷ slots) = go (nat_lt start c.end) (above_is start slots)
  where
    go : (b : Bool) → stored_above start slots ≡ map receipt_at (stored_after start slots) → cond b (receipt_at c ∷ stored_above start slots) (stored_above start slots) ≡ map receipt_at (cond b (c ∷ stored_after start slots) (stored_after start slots))
    go true k = ap (λ (rs : List Receipt). receipt_at c ∷ rs) k
    go false k = k
above_is start (Empty ∷ slots) = above_is start slots

pairs_as : (cs : List StoredCommit) → map {B = ℕ × ℕ} (λ (r : Receipt). (r.end, r.id)) (map receipt_at cs) ≡ map {B = ℕ × ℕ} (λ (c : StoredCommit). (c.end, c.id)) cs
pairs_as [] = refl
pairs_as (c ∷ cs) = ap (λ (xs : List (ℕ × ℕ)). (c.end, c.id) ∷ xs) (pairs_as cs)

histories_as : (cs : List StoredCommit) → map (λ (r : Receipt). r.history) (map receipt_at cs) ≡ map (λ (c : StoredCommit). c.history) cs
histories_as [] = refl
histories_as (c ∷ cs) = ap (λ (xs : List History). c.history ∷ xs) (histories_as cs)

-- ---- those of the read-only ones, and those of the others
abbrev readers_in : ℕ → List TalePlace → List Receipt
readers_in start slots = map receipt_of_reader (stored_readers start (readers_at slots))

receipts_parted : (start : ℕ) (slots : List TalePlace) → IsPermutation (readers_in start slots ++ stored_above start (others_places slots)) (stored_above start slots)
receipts_parted start [] = IsPermutation-refl []
receipts_parted start (Open e ∷ slots) = receipts_parted start slots
receipts_parted start (Reading b ∷ slots) = receipts_parted start slots
receipts_parted start (Settled c ∷ slots) = go (ends_at_begin c) refl (receipts_parted start slots)
  where
    read : (v z : Bool) → v ≡ z → c.id ≡ c.end → IsPermutation (readers_in start slots ++ stored_above start (others_places slots)) (stored_above start slots)
        → IsPermutation (map receipt_of_reader (cond v (reader_of c ∷ stored_readers start (readers_at slots)) (stored_readers start (readers_at slots))) ++ stored_above start (others_places slots)) (cond z (receipt_at c ∷ stored_above start slots) (stored_above start slots))
    read true true i same p =
        subst (λ (e : ℕ). IsPermutation (receipt c.id c.id c.history ∷ (readers_in start slots ++ stored_above start (others_places slots))) (receipt c.id e c.history ∷ stored_above start slots)) same
        (IsPermutation-cons (receipt c.id c.id c.history) (readers_in start slots ++ stored_above start (others_places slots)) (stored_above start slots) p)
    read true false i same p = absurd (false≢true (sym i))
    read false true i same p = absurd (false≢true i)
    read false false i same p = p

    other : (v : Bool) → IsPermutation (readers_in start slots ++ stored_above start (others_places slots)) (stored_above start slots)
        → IsPermutation (readers_in start slots ++ cond v (receipt_at c ∷ stored_above start (others_places slots)) (stored_above start (others_places slots))) (cond v (receipt_at c ∷ stored_above start slots) (stored_above start slots))
    other true p =
        let rs = readers_in start slots in
        let os = stored_above start (others_places slots) in
        IsPermutation-trans (rs ++ receipt_at c ∷ os) (receipt_at c ∷ (rs ++ os)) (receipt_at c ∷ stored_above start slots) (IsPermutation-middle rs (receipt_at c) os) (IsPermutation-cons (receipt_at c) (rs ++ os) (stored_above start slots) p)
    other false p = p

    go : (b : Bool) → ends_at_begin c ≡ b → IsPermutation (readers_in start slots ++ stored_above start (others_places slots)) (stored_above start slots)
        → IsPermutation (map receipt_of_reader (stored_readers start (cond b (reader_of c ∷ readers_at slots) (readers_at slots))) ++ stored_above start (cond b Empty (Settled c) ∷ others_places slots)) (cond (nat_lt start c.end) (receipt_at c ∷ stored_above start slots) (stored_above start slots))
    go true i p = read (nat_lt start c.id) (nat_lt start c.end) (ap (nat_lt start) (eqb-true c.id c.end i)) (eqb-true c.id c.end i) p
    go false i p = other (nat_lt start c.end) p
receipts_parted start (Empty ∷ slots) = receipts_parted start slots

-- ---- its tale is the one of the whole state
pub whole_tale_is : (opening : Map) (steps own : List Step) (w : WholeState) (c : CoreData) → StandsWhole opening steps own w c → AreRising (ends c.tale) → IsWholeTaleOf w (state_of c.table) c.versions.slots c.tale
whole_tale_is opening steps own w c h rising =
    let start = w.core.start in
    let k = stored_is_whole opening steps own w c.tale h.kept rising (record { others = h.core.tale; readers = h.core.places.readers }) in
    let ys = stored_readers start w.committed_readers in
    let zs = stored_readers start (readers_at c.tale) in
    let others : stored_above start (others_places c.tale) ≡ stored_commits w.core = stored_is w.core (others_places c.tale) h.core.versions.kept.started h.core.versions.kept.sound.rising h.core.tale in
    record {
      stored = ap (map {B = ℕ × ℕ} (λ (r : Receipt). (r.end, r.id))) (above_is start c.tale) ∙ pairs_as (stored_after start c.tale) ∙ k.stored;
      told = IsPermutation-trans (stored_receipts w) (map receipt_of_reader zs ++ stored_commits w.core) (stored_above start c.tale)
          (IsPermutation-append_left (stored_commits w.core) (map receipt_of_reader ys) (map receipt_of_reader zs) (IsPermutation-map receipt_of_reader ys zs (h.core.places.readers.stored start (omega arith))))
          (subst (λ (l : List Receipt). IsPermutation (map receipt_of_reader zs ++ l) (stored_above start c.tale)) others (receipts_parted start c.tale));
      legal = subst (Legal w.core.base) (sym (ap (map (λ (r : Receipt). r.history)) (above_is start c.tale) ∙ histories_as (stored_after start c.tale))) k.legal;
      shown = λ k. row_of_standing (change_below (ends_of (phases_of (state_of c.table))) (suc start) k (all_versions c.versions.slots)) (origin_at_start w.core k) (fin.get w.core.base k) (h.core.versions.versions.opened k);
    }
