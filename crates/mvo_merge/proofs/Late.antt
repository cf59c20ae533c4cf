-- Numbers that come late.
use Rattle.std.proofs.Common.{◌≡◌, inl, inr, ℕ, ◌+◌, ◌<◌, false, List, [], ◌∷◌, ◌++◌, length, refl, sym, ◌∙◌, arith, length-append}
use Rattle.std.specs.Prelude.{map, nat_eq}
use Rattle.std.specs.List.{Contains, IsDistinct, enumerate_from}
use Rattle.std.proofs.lemmas.Bool.{eqb-false, ne_eqb}
use Rattle.std.proofs.lemmas.List.{length-map}
use Rattle.std.proofs.lemmas.List.Elements.{All-append, All-contains, All-from_recursion}
use Rattle.mvo_pair.specs.Data.{Numbered, live_of}
use Rattle.mvo_places.proofs.Members.{Among, among_mapped, among_right, all_among, all_from, contains_from, increasing_from}
use Rattle.mvo_places.proofs.Distinct.{distinct_append}
use Rattle.mvo_places.proofs.Rising.{live_rises}
use Rattle.mvo_merge.specs.Merged.{live_numbers, entries_alone, merged, of_left, of_right, renumbering_of}
use Rattle.mvo_merge.specs.Laws.{GainedAreLate, NoneIsLate, AllAreLive, GivesNumbers}
use Rattle.mvo_merge.proofs.Ranks.{rank_within, rank_once}
use Rattle.mvo_merge.proofs.Lists.{differs_right, differs_across}
use Rattle.mvo_merge.proofs.Live.{left_late, right_late}
use Rattle.mvo_merge.proofs.Loaded.{all_left, live_has}

pub gained_late : GainedAreLate
gained_late below ns late es counted are = record {
  rise = increasing_from (live_numbers (live_of ns es)) (live_rises ns es);
  among = All-from_recursion (Contains (live_numbers (live_of ns es))) late (all_from (Contains (live_numbers (live_of ns es))) late (λ n a.
      let low : n < below = All-contains (λ m. m < below) (ns ++ late) n are.each (contains_from (ns ++ late) n (among_right ns late n a)) in
      contains_from (live_numbers (live_of ns es)) n (live_has ns es n (omega (arith, low, counted)) (λ m b same. eqb-false m n (differs_across nat_eq ns late m n are.distinct b a) same))));
  distinct = differs_right nat_eq ns late are.distinct;
}

pub none_late : NoneIsLate
unfolding IsDistinct
none_late live up = (record { rise = up; among = Rattle.std.proofs.lemmas.List.Elements.All-nil (Contains (live_numbers live)); distinct = tt }, all_left live)

pub all_live : AllAreLive
all_live left right = all_left (enumerate_from 0 (merged left right))

-- numbers that stay different
differ_again : (f : ℕ → ℕ) (ns : List ℕ) → ((m n : ℕ) → Among ns m → Among ns n → f m ≡ f n → m ≡ n) → IsDistinct nat_eq ns → IsDistinct nat_eq (map f ns)
unfolding IsDistinct
differ_again f [] once differ = tt
differ_again f (n ∷ ns) once differ = (
  all_from (λ y. nat_eq (f n) y ≡ false) (map f ns) (λ y a.
      let from = among_mapped f ns y a in
      ne_eqb (f n) y (λ same. eqb-false n from.0 (all_among (λ z. nat_eq n z ≡ false) ns from.0 differ.0 from.1) (once n from.0 (inl refl) (inr from.1) (same ∙ sym from.2)))),
  differ_again f ns (λ m k a b. once m k (inr a) (inr b)) differ.1,
)

pub gives_numbers : GivesNumbers
gives_numbers left right late_left late_right are_left are_right =
    let new = renumbering_of left right in
    let here : length (entries_alone left) ≡ length (live_numbers left) = length-map left (λ (l : Numbered). l.1) ∙ sym (length-map left (λ (l : Numbered). l.0)) in
    let there : length (entries_alone right) ≡ length (live_numbers right) = length-map right (λ (l : Numbered). l.1) ∙ sym (length-map right (λ (l : Numbered). l.0)) in
    let long : length (merged left right) ≡ length (live_numbers left) + length (live_numbers right) = omega (arith, here, there, length-append (entries_alone left) (entries_alone right)) in
    let from_left = left_late left right late_left late_right are_left are_right in
    let from_right = right_late left right late_left late_right are_left are_right in
    record {
      each = All-append (λ n. n < length (merged left right)) (map (of_left new) late_left) (map (of_right new) late_right)
          (All-from_recursion (λ n. n < length (merged left right)) (map (of_left new) late_left) (all_from (λ n. n < length (merged left right)) (map (of_left new) late_left) (λ n a.
          let m = among_mapped (of_left new) late_left n a in omega (arith, m.2, long, rank_within (live_numbers left) m.0 (from_left m.0 m.1)))))
          (All-from_recursion (λ n. n < length (merged left right)) (map (of_right new) late_right) (all_from (λ n. n < length (merged left right)) (map (of_right new) late_right) (λ n a.
          let m = among_mapped (of_right new) late_right n a in omega (arith, m.2, long, rank_within (live_numbers right) m.0 (from_right m.0 m.1)))));
      distinct = distinct_append nat_eq (map (of_left new) late_left) (map (of_right new) late_right)
          (differ_again (of_left new) late_left (λ m n a b same. rank_once (live_numbers left) m n (from_left m a) (from_left n b) same) are_left.distinct)
          (differ_again (of_right new) late_right (λ m n a b same. rank_once (live_numbers right) m n (from_right m a) (from_right n b) (omega (arith, same))) are_right.distinct)
          (λ x y a b.
          let m = among_mapped (of_left new) late_left x a in
          let n = among_mapped (of_right new) late_right y b in
          ne_eqb x y (λ same. omega (arith, same, m.2, n.2, rank_within (live_numbers left) m.0 (from_left m.0 m.1))));
    }
