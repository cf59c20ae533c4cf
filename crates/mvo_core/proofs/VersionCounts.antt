-- How many versions there are behind each change of them.
use Rattle.std.proofs.Common.{◌≡◌, ℕ, ◌+◌, ◌-◌, length, zero, suc, List, [], ◌∷◌, Option, None, Some, cond, refl, sym, ap, ◌∙◌, arith}
use Rattle.std.specs.Prelude.{slice_get, slice_index_or, slice_set, Result, Ok, Err, IsErrAnd}
use Rattle.std.specs.Option.{is_none, option_map}
use Rattle.std.proofs.lemmas.List.Recursion.{is_count_by}
use Rattle.std.specs.FinMap as fin
use Rattle.mvo_types.specs.declared.answer.Answer.{Answer}
use Rattle.mvo_types.specs.declared.refusal.Refusal.{Refusal}
use Rattle.mvo_types.specs.declared.refusal.Refusal.TheVariants.{OutOfMemory}
use Rattle.mvo_types.specs.RowData.{RowData}
use Rattle.mvo_types.specs.Keys.{Map}
use Rattle.mvo_types.specs.declared.ids.TxId.{TxId}
use Rattle.mvo_theory.specs.Ranges.{Row}
use Rattle.mvo_word.specs.declared.held.Held.{Held}
use Rattle.mvo_chain.specs.declared.version.Version.{Version}
use Rattle.mvo_chain.specs.declared.version.VersionNo.{VersionNo}
use Rattle.mvo_chain.specs.Slots.{Slots, hole_count, with_room, with_slot}
use Rattle.mvo_txn.specs.Txns.{Txns}
use Rattle.mvo_deps.specs.declared.node.Node.{Node}
use Rattle.mvo_work.specs.declared.word_place.WordPlace.{WordPlace}
use Rattle.mvo_versions.specs.Data.{VersionsData}
use Rattle.mvo_versions.specs.Changes.{AreLoaded, IsPut, IsReworded}
use Rattle.mvo_versions.proofs.Indexing.{room_versions}
use Rattle.mvo_representation.specs.Indexes.{all_versions}
use Rattle.mvo_representation.specs.Versions.{loaded_from}
use Rattle.mvo_representation.specs.WordLists.{with_word, number_at_word}
use Rattle.mvo_representation.specs.Steps.{fresh}
use Rattle.mvo_collect.specs.declared.collection.Collection.{Collection}
use Rattle.mvo_collect.specs.declared.collection.Collection.TheVariants.{Collected, Nothing}
use Rattle.mvo_core.specs.declared.kept_transaction.KeptTransaction.{KeptTransaction}
use Rattle.mvo_core.specs.Collecting.{IsTaken}
use Rattle.mvo_core.specs.Counting.{version_count, HasTakenOne, HasOneEach, HasPutMore}
use Rattle.mvo_core.specs.Data.{CoreData}
use Rattle.mvo_core.specs.Ending.{IsRemoved, IsReplaced}
use Rattle.mvo_core.specs.Finishing.{IsFirstReplaced, IsOneReplaced}
use Rattle.mvo_core.specs.Inserting.{IsInserted}
use Rattle.mvo_core.specs.Looking.{HasSameVersions}
use Rattle.mvo_core.specs.Standing.{words_in}
use Rattle.mvo_core.proofs.SameVersions.{same_all}

-- ---- slots
abbrev empties : Slots → ℕ
empties [] = 0
empties (None ∷ ss) = 1 + empties ss
empties (Some v ∷ ss) = empties ss

-- each has a version, or is empty
filled_or_empty : (slots : Slots) → length slots ≡ length (all_versions slots) + empties slots
filled_or_empty [] = omega arith
filled_or_empty (None ∷ ss) = let h = filled_or_empty ss in omega arith
filled_or_empty (Some v ∷ ss) = let h = filled_or_empty ss in omega arith

empties_are_holes : (slots : Slots) → empties slots ≡ hole_count slots
empties_are_holes = is_count_by empties is_none refl one
  where
    one : (s : Option Version) (ss : Slots) → empties (s ∷ ss) ≡ cond (is_none s) (1 + empties ss) (empties ss)
    one None ss = refl
    one (Some v) ss = refl

pub versions_there : (slots : Slots) → length slots - hole_count slots ≡ length (all_versions slots)
versions_there slots =
    let h = filled_or_empty slots in
    let same = empties_are_holes slots in
    omega arith

-- a version changes at its place, if there is one
changed_counts : (slots : Slots) (n : ℕ) (f : Version → Version) → length (all_versions (slice_set slots n (option_map f (slice_index_or slots n None)))) ≡ length (all_versions slots)
changed_counts [] zero f = refl
changed_counts [] (suc n) f = refl
changed_counts (None ∷ ss) zero f = refl
changed_counts (Some v ∷ ss) zero f = refl
changed_counts (None ∷ ss) (suc n) f = changed_counts ss n f
changed_counts (Some v ∷ ss) (suc n) f = ap suc (changed_counts ss n f)

no_hole : (v : Version) → ◌≡◌ {A = Option (Option Version)} (Some (Some v)) (Some None) → ⊥
no_hole v q = cc

no_slot : ◌≡◌ {A = Option (Option Version)} None (Some None) → ⊥
no_slot q = cc

none_there : (v : Version) → ◌≡◌ {A = Option Version} None (Some v) → ⊥
none_there v q = cc

-- one comes into an empty slot
filled_counts : (slots : Slots) (n : ℕ) (v : Version) → slice_get slots n ≡ Some None → length (all_versions (slice_set slots n (Some v))) ≡ length (all_versions slots) + 1
filled_counts [] zero v e = absurd (no_slot e)
filled_counts [] (suc n) v e = absurd (no_slot e)
filled_counts (None ∷ ss) zero v e = omega arith
filled_counts (Some w ∷ ss) zero v e = absurd (no_hole w e)
filled_counts (None ∷ ss) (suc n) v e = filled_counts ss n v e
filled_counts (Some w ∷ ss) (suc n) v e = let l = filled_counts ss n v e in omega (arith, l)

-- one goes
emptied_counts : (slots : Slots) (n : ℕ) (v : Version) → slice_index_or slots n None ≡ Some v → length (all_versions (slice_set slots n None)) + 1 ≡ length (all_versions slots)
emptied_counts [] zero v e = absurd (none_there v e)
emptied_counts [] (suc n) v e = absurd (none_there v e)
emptied_counts (None ∷ ss) zero v e = absurd (none_there v e)
emptied_counts (Some w ∷ ss) zero v e = omega arith
emptied_counts (None ∷ ss) (suc n) v e = emptied_counts ss n v e
emptied_counts (Some w ∷ ss) (suc n) v e = let l = emptied_counts ss n v e in omega (arith, l)

-- ---- versions
put_counts : (old new : VersionsData) (row : RowData) (t : ℕ) (n : VersionNo) → IsPut old new row t n → length (all_versions new.slots) ≡ length (all_versions old.slots) + 1
put_counts old new row t n p =
    ap (λ (ss : Slots). length (all_versions ss)) p.slots ∙ filled_counts (with_room old.slots) n.0 (fresh t row) p.hole
    ∙ ap (λ (vs : List Version). length vs + 1) (room_versions old.slots)

reworded_counts : (old new : VersionsData) (n : VersionNo) (f : Version → Version) → IsReworded old new n f → length (all_versions new.slots) ≡ length (all_versions old.slots)
reworded_counts old new n f w = ap (λ (ss : Slots). length (all_versions ss)) w.slots ∙ changed_counts old.slots n.0 f

pub same_counts : (old new : VersionsData) → HasSameVersions old new → length (all_versions new.slots) ≡ length (all_versions old.slots)
same_counts old new w = ap (λ (vs : List Version). length vs) (same_all old new w)

-- ---- what the calls do with them
module _ (old new : VersionsData) (table after : Txns (Node KeptTransaction)) (t : TxId) (ids : List TxId) where
  pub inserted_counts : (row : RowData) → IsInserted old new table after t ids row → length (all_versions new.slots) ≡ length (all_versions old.slots) + 1
  inserted_counts row w = put_counts old new row t.0 w.number w.put

  pub removed_counts : (n : VersionNo) → IsRemoved old new table after t ids n → length (all_versions new.slots) ≡ length (all_versions old.slots)
  removed_counts n w = reworded_counts old new n _ w.ended

  pub replaced_counts : (n : VersionNo) (row : RowData) → IsReplaced old new table after t ids n row → length (all_versions new.slots) ≡ length (all_versions old.slots) + 1
  replaced_counts n row w = reworded_counts w.between new n _ w.ended ∙ put_counts old w.between row t.0 w.place w.put

pub one_replaced_counts : (old new : VersionsData) (table after : Txns (Node KeptTransaction)) (t : ℕ) (f : Held) → IsOneReplaced old new table after t f → length (all_versions new.slots) ≡ length (all_versions old.slots)
one_replaced_counts old new table after t f w = go (slice_get (words_in w.next.between t) 0) w.next.first
  where
    go : (o : Option WordPlace) → IsFirstReplaced old new w.next.between w.between t f o → length (all_versions new.slots) ≡ length (all_versions old.slots)
    go None q = ap (λ (v : VersionsData). length (all_versions v.slots)) q.0
    go (Some p) q = reworded_counts old new (number_at_word p) (with_word p f) q.0

-- ---- a collection
pub taken_counts : (start : ℕ) (c : CoreData) (r : Collection) (new : VersionsData) → IsTaken start c.versions r new → HasTakenOne c r (record c { versions = new })
taken_counts start c Collected new q =
    let gone = q.1 in
    let l = emptied_counts c.versions.slots q.0.0 gone.version gone.at in
    let is : length (all_versions new.slots) ≡ length (all_versions (with_slot c.versions.slots q.0 None)) = ap (λ (ss : Slots). length (all_versions ss)) gone.gone.slots in
    omega (arith, l, is)
taken_counts start c Nothing new q = ap (λ (v : VersionsData). length (all_versions v.slots)) q

-- ---- just opened
loaded_count : (mark : ℕ) (es : List Row) → length (loaded_from mark es) ≡ length es
loaded_count mark [] = refl
loaded_count mark (e ∷ es) = ap suc (loaded_count mark es)

pub opened_counts : (rows : Map) (mark : ℕ) (c : CoreData) → AreLoaded rows mark c.versions → HasOneEach rows c
opened_counts rows mark c is = ap (λ (vs : List Version). length vs) is ∙ loaded_count mark (fin.entries rows) ∙ sym (fin.len-entries rows)

-- ---- what an operation came to
pub put_more : (c : CoreData) (now : CoreData) (n k : ℕ) → c ≡ now → n ≡ version_count c + k → n ≡ version_count now + k
put_more c now n k is l = l ∙ ap (λ (x : CoreData). version_count x + k) is

pub put_none : (c : CoreData) (now : CoreData) (n : ℕ) → c ≡ now → n ≡ version_count c → n ≡ version_count now + 0
put_none c now n is l = let same = ap version_count is in omega (arith, l, same)

-- one that is refused memory
pub refused_more : (c now new : CoreData) (r : Result Answer Refusal) → IsErrAnd r (λ e. e ≡ OutOfMemory) → c ≡ now → version_count new ≡ version_count c → HasPutMore now r new
refused_more c now new (Ok a) e is l = absurd e
refused_more c now new (Err a) e is l = l ∙ ap version_count is
