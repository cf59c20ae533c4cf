-- THE MERGE LAW: what is live in a merged pair.
use Rattle.std.proofs.Common.{◌≡◌, ℕ, ◌+◌, ◌<◌, List, [], ◌∷◌, ◌++◌, length, refl, ap, ◌∙◌, arith}
use Rattle.std.specs.Prelude.{map, filter, not, ◌==◌, ◌||◌}
use Rattle.std.specs.List.{enumerate_from}
use Rattle.std.proofs.lemmas.List.{length-map}
use Rattle.std.proofs.lemmas.List.Elements.{filter-append}
use Rattle.std.proofs.lemmas.List.Folds.{list_any-append}
use Rattle.std.proofs.Math.Bool.{or-false}
use Rattle.mvo_pair.specs.Data.{Numbered}
use Rattle.mvo_places.specs.Places.{Rise}
use Rattle.mvo_places.proofs.Members.{Among, among_map, among_mapped, all_among, Rises, rises_from}
use Rattle.mvo_places.proofs.Rising.{same_filter}
use Rattle.mvo_merge.specs.Merged.{live_numbers, entries_alone, merged, rank, RenumberingData, renumbering_of, of_left, of_right, renumbered, without, live_after, under}
use Rattle.mvo_merge.specs.Laws.{AreLate, LiveInOne}
use Rattle.mvo_merge.proofs.Ranks.{rank_within, rank_once, rank_first, rank_past, rank_behind}
use Rattle.mvo_merge.proofs.Lists.{names, same_map, filter-map, enumerate_from-append, among_of, not_named, named_again}

-- ---- all records, numbered anew

-- live records, counted from a number on
numbered : (k : ℕ) (live : List Numbered) → Rises (live_numbers live) → enumerate_from k (entries_alone live) ≡ map (under (λ n. k + rank (live_numbers live) n)) live
numbered k [] up = refl
numbered k (l ∷ live) up =
    let ns = live_numbers live in
    let first : k ≡ k + rank (l.0 ∷ ns) l.0 = omega (arith, rank_past l.0 l.0 ns (omega arith), rank_first ns l.0 up.0) in
    let later : map (under (λ n. k + 1 + rank ns n)) live ≡ map (under (λ n. k + rank (l.0 ∷ ns) n)) live =
    same_map (under (λ n. k + 1 + rank ns n)) (under (λ n. k + rank (l.0 ∷ ns) n)) live (λ x a.
    let above : l.0 < x.0 = all_among (λ n. l.0 < n) ns x.0 up.0 (among_map (λ (y : Numbered). y.0) live x a) in
    let same : k + 1 + rank ns x.0 ≡ k + rank (l.0 ∷ ns) x.0 = omega (arith, rank_behind l.0 x.0 ns above) in
    ap (λ n. (n, x.1)) same) in
    ap (λ (ls : List Numbered). (k, l.1) ∷ ls) (numbered (k + 1) live up.1 ∙ later)
    ∙ ap (λ n. (n, l.1) ∷ map (under (λ m. k + rank (l.0 ∷ ns) m)) live) first

module _ (left right : List Numbered) (up_left : Rise left) (up_right : Rise right) where
  abbrev new : RenumberingData
  new = renumbering_of left right

  pub merged_numbered : enumerate_from 0 (merged left right) ≡ map (under (of_left new)) left ++ map (under (of_right new)) right
  merged_numbered =
      let long : 0 + length (entries_alone left) ≡ length (live_numbers left) = omega (arith, length-map left (λ (l : Numbered). l.1), length-map left (λ (l : Numbered). l.0)) in
      enumerate_from-append 0 (entries_alone left) (entries_alone right)
      ∙ ap (λ (ls : List Numbered). ls ++ enumerate_from (0 + length (entries_alone left)) (entries_alone right))
      (numbered 0 left (rises_from (live_numbers left) up_left)
      ∙ same_map (under (λ n. 0 + rank (live_numbers left) n)) (under (of_left new)) left (λ x a. let same : 0 + rank (live_numbers left) x.0 ≡ rank (live_numbers left) x.0 = omega arith in ap (λ n. (n, x.1)) same))
      ∙ ap (λ (ls : List Numbered). map (under (of_left new)) left ++ ls)
      (ap (λ k. enumerate_from k (entries_alone right)) long ∙ numbered (length (live_numbers left)) right (rises_from (live_numbers right) up_right))

-- ---- those that are live

module _ (left right : List Numbered) (late_left late_right : List ℕ) (are_left : AreLate left late_left) (are_right : AreLate right late_right) where
  abbrev pub moves : RenumberingData
  moves = renumbering_of left right

  abbrev pub late : List ℕ
  late = renumbered moves late_left late_right

  pub left_within : (n : ℕ) → Among (live_numbers left) n → of_left moves n < length (live_numbers left)
  left_within n a = rank_within (live_numbers left) n a

  pub left_late : (n : ℕ) → Among late_left n → Among (live_numbers left) n
  left_late n a = among_of (live_numbers left) late_left n are_left.among a

  pub right_late : (n : ℕ) → Among late_right n → Among (live_numbers right) n
  right_late n a = among_of (live_numbers right) late_right n are_right.among a

  -- the left pair's
  pub named_left : (n : ℕ) → Among (live_numbers left) n → names late (of_left moves n) ≡ names late_left n
  named_left n a =
      list_any-append (λ m. m == of_left moves n) (map (of_left moves) late_left) (map (of_right moves) late_right)
      ∙ ap (λ b. names (map (of_left moves) late_left) (of_left moves n) || b) (not_named (map (of_right moves) late_right) (of_left moves n) (λ m b same.
      let from = among_mapped (of_right moves) late_right m b in
      omega (arith, same, from.2, left_within n a)))
      ∙ or-false (names (map (of_left moves) late_left) (of_left moves n))
      ∙ named_again (of_left moves) late_left n (λ m b same. rank_once (live_numbers left) m n (left_late m b) a same)

  -- the right pair's
  pub named_right : (n : ℕ) → Among (live_numbers right) n → names late (of_right moves n) ≡ names late_right n
  named_right n a =
      list_any-append (λ m. m == of_right moves n) (map (of_left moves) late_left) (map (of_right moves) late_right)
      ∙ ap (λ b. b || names (map (of_right moves) late_right) (of_right moves n)) (not_named (map (of_left moves) late_left) (of_right moves n) (λ m b same.
      let from = among_mapped (of_left moves) late_left m b in
      omega (arith, same, from.2, left_within from.0 (left_late from.0 from.1))))
      ∙ named_again (of_right moves) late_right n (λ m b same. rank_once (live_numbers right) m n (right_late m b) a (omega (arith, same)))

  kept : (f : ℕ → ℕ) (live : List Numbered) (gone : List ℕ) → ((n : ℕ) → Among (live_numbers live) n → names late (f n) ≡ names gone n) → filter (λ (e : Numbered). not (names late e.0)) (map (under f) live) ≡ map (under f) (without gone live)
  kept f live gone same =
      filter-map (λ (e : Numbered). not (names late e.0)) (under f) live
      ∙ ap (λ (ls : List Numbered). map (under f) ls) (same_filter (λ (l : Numbered). not (names late (f l.0))) (λ (l : Numbered). not (names gone l.0)) live (λ l a. ap not (same l.0 (among_map (λ (y : Numbered). y.0) live l a))))

  pub live_is : live_after left right late_left late_right ≡ map (under (of_left moves)) (without late_left left) ++ map (under (of_right moves)) (without late_right right)
  live_is =
      ap (λ (ls : List Numbered). filter (λ (e : Numbered). not (names late e.0)) ls) (merged_numbered left right are_left.rise are_right.rise)
      ∙ filter-append (λ (e : Numbered). not (names late e.0)) (map (under (of_left moves)) left) (map (under (of_right moves)) right)
      ∙ ap (λ (ls : List Numbered). ls ++ filter (λ (e : Numbered). not (names late e.0)) (map (under (of_right moves)) right)) (kept (of_left moves) left late_left named_left)
      ∙ ap (λ (ls : List Numbered). map (under (of_left moves)) (without late_left left) ++ ls) (kept (of_right moves) right late_right named_right)

pub live_in_one : LiveInOne
live_in_one left right late_left late_right are_left are_right = live_is left right late_left late_right are_left are_right
