-- A merge whose records came in slices.
use Rattle.std.proofs.Common.{◌≡◌, List, [], ◌++◌, ℕ, refl, sym, ap, ◌∙◌, append_assoc}
use Rattle.std.proofs.lemmas.List.{append-nil, map-append}
use Rattle.mvo_pair.specs.Data.{EntryData, Numbered}
use Rattle.mvo_merge.specs.Merged.{entries_alone, live_numbers}
use Rattle.mvo_merge.specs.SoFar.{merged_of, nothing_merged, with_left, with_right, merged_whole}

-- nothing is what is made of none
pub none_merged : nothing_merged ≡ merged_whole [] []
none_merged = refl

-- more of the left pair, where none of the right one came
pub left_more : (left more : List Numbered) → with_left more (merged_whole left []) ≡ merged_whole (left ++ more) []
left_more left more =
    ap (λ (es : List EntryData). merged_of (es ++ entries_alone more) (live_numbers left ++ live_numbers more) []) (append-nil (entries_alone left))
    ∙ ap (λ (es : List EntryData). merged_of es (live_numbers left ++ live_numbers more) []) (sym (map-append (λ l. l.1) left more) ∙ sym (append-nil (entries_alone (left ++ more))))
    ∙ ap (λ (ns : List ℕ). merged_of (entries_alone (left ++ more) ++ []) ns []) (sym (map-append (λ l. l.0) left more))

-- more of the right pair
pub right_more : (left right more : List Numbered) → with_right more (merged_whole left right) ≡ merged_whole left (right ++ more)
right_more left right more =
    ap (λ (es : List EntryData). merged_of es (live_numbers left) (live_numbers right ++ live_numbers more))
    (append_assoc (entries_alone left) (entries_alone right) (entries_alone more) ∙ ap (λ (es : List EntryData). entries_alone left ++ es) (sym (map-append (λ l. l.1) right more)))
    ∙ ap (λ (ns : List ℕ). merged_of (entries_alone left ++ entries_alone (right ++ more)) (live_numbers left) ns) (sym (map-append (λ l. l.0) right more))
