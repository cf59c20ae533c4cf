-- A merge keeps rows and keys.
use Rattle.std.proofs.Common.{◌≡◌, ⊎_elim, ℕ, List, [], ◌∷◌, ◌++◌, refl, sym, ap, subst, ◌∙◌, append_assoc}
use Rattle.std.specs.Prelude.{map}
use Rattle.std.specs.List.{Contains, flat_map, IsDistinct}
use Rattle.std.specs.FinMap.{from_entries}
use Rattle.std.proofs.lemmas.List.{map-append, append-nil}
use Rattle.std.proofs.lemmas.List.Concat.{flat_map-append, flat_map-cons}
use Rattle.std.proofs.lemmas.List.Elements.{Contains-append_cases, Contains-append_left, Contains-append_right}
use Rattle.mvo_types.specs.declared.row.RowKey.{RowKey}
use Rattle.mvo_types.specs.RowData.{ContentData}
use Rattle.mvo_types.specs.Keys.{key_cmp}
use Rattle.mvo_pair.specs.Data.{EntryData, Numbered, key_of, keys_of}
use Rattle.mvo_places.specs.Rows.{live_row_of, live_rows_in}
use Rattle.mvo_places.proofs.Keys.{eq}
use Rattle.mvo_merge.specs.Merged.{entries_alone, merged, of_left, of_right, without, live_after, under}
use Rattle.mvo_merge.specs.Laws.{AreLate, LiveInEither, MergeKeepsRows, MergeStaysApart, OwnKeys}
use Rattle.mvo_merge.proofs.Moves.{entry_key}
use Rattle.mvo_merge.proofs.Live.{moves, live_is}

-- what doesn't look at the number
pub map-under : {X : Type 0} (h : Numbered → X) (f : ℕ → ℕ) (live : List Numbered) → ((l : Numbered) → h (under f l) ≡ h l) → map h (map (under f) live) ≡ map h live
map-under h f [] same = refl
map-under h f (l ∷ live) same = ap (λ x. x ∷ map h (map (under f) live)) (same l) ∙ ap (λ (xs : List _). h l ∷ xs) (map-under h f live same)

-- one list of live records is two, under new numbers
pub flat_joined : {X : Type 0} (h : Numbered → X) (f g : ℕ → ℕ) (before behind : List (List Numbered)) (live left right : List Numbered) → ((new : ℕ → ℕ) (l : Numbered) → h (under new l) ≡ h l) → live ≡ map (under f) left ++ map (under g) right → flat_map (λ ls. map h ls) (before ++ live ∷ behind) ≡ flat_map (λ ls. map h ls) (before ++ left ∷ right ∷ behind)
flat_joined {X} h f g before behind live left right same is =
    let all : List (List Numbered) → List X = λ lives. flat_map (λ ls. map h ls) lives in
    let one : map h live ≡ map h left ++ map h right =
    ap (λ (ls : List Numbered). map h ls) is
    ∙ map-append h (map (under f) left) (map (under g) right)
    ∙ ap (λ (xs : List X). xs ++ map h (map (under g) right)) (map-under h f left (same f))
    ∙ ap (λ (xs : List X). map h left ++ xs) (map-under h g right (same g)) in
    flat_map-append (λ ls. map h ls) before (live ∷ behind)
    ∙ ap (λ (xs : List X). all before ++ xs)
    (flat_map-cons (λ ls. map h ls) live behind
    ∙ ap (λ (xs : List X). xs ++ all behind) one
    ∙ append_assoc (map h left) (map h right) (all behind)
    ∙ ap (λ (xs : List X). map h left ++ xs) (sym (flat_map-cons (λ ls. map h ls) right behind))
    ∙ sym (flat_map-cons (λ ls. map h ls) left (right ∷ behind)))
    ∙ sym (flat_map-append (λ ls. map h ls) before (left ∷ right ∷ behind))

module _ (left right : List Numbered) (late_left late_right : List ℕ) (before behind : List (List Numbered)) (are_left : AreLate left late_left) (are_right : AreLate right late_right) where
  pub keys_same : keys_of (before ++ live_after left right late_left late_right ∷ behind) ≡ keys_of (before ++ without late_left left ∷ without late_right right ∷ behind)
  keys_same = flat_joined key_of (of_left (moves left right late_left late_right are_left are_right)) (of_right (moves left right late_left late_right are_left are_right)) before behind (live_after left right late_left late_right) (without late_left left) (without late_right right) (λ f l. refl) (live_is left right late_left late_right are_left are_right)

  kept_same : live_rows_in (before ++ live_after left right late_left late_right ∷ behind) ≡ live_rows_in (before ++ without late_left left ∷ without late_right right ∷ behind)
  kept_same = flat_joined live_row_of (of_left (moves left right late_left late_right are_left are_right)) (of_right (moves left right late_left late_right are_left are_right)) before behind (live_after left right late_left late_right) (without late_left left) (without late_right right) (λ f l. refl) (live_is left right late_left late_right are_left are_right)

pub keeps_rows : MergeKeepsRows
keeps_rows left right late_left late_right before behind are_left are_right = ap (λ (es : List (RowKey × ContentData)). from_entries {R = key_cmp} es) (kept_same left right late_left late_right before behind are_left are_right)

pub stays_apart : MergeStaysApart
stays_apart left right late_left late_right before behind are_left are_right apart = subst (λ (ks : List RowKey). IsDistinct eq ks) (sym (keys_same left right late_left late_right before behind are_left are_right)) apart

-- ---- keys of the records

pub entry_keys : (live : List Numbered) → map entry_key (entries_alone live) ≡ map key_of live
entry_keys [] = refl
entry_keys (l ∷ live) = ap (λ (ks : List RowKey). key_of l ∷ ks) (entry_keys live)

pub merged_keys : (left right : List Numbered) → map entry_key (merged left right) ≡ map key_of left ++ map key_of right
merged_keys left right =
    map-append entry_key (entries_alone left) (entries_alone right)
    ∙ ap (λ (ks : List RowKey). ks ++ map entry_key (entries_alone right)) (entry_keys left)
    ∙ ap (λ (ks : List RowKey). map key_of left ++ ks) (entry_keys right)

pub keys_of_two : (left right : List Numbered) → keys_of (left ∷ right ∷ []) ≡ map key_of left ++ map key_of right
keys_of_two left right =
    flat_map-cons (λ ls. map key_of ls) left (right ∷ [])
    ∙ ap (λ (ks : List RowKey). map key_of left ++ ks) (flat_map-cons (λ ls. map key_of ls) right [] ∙ append-nil (map key_of right))

pub own_keys : OwnKeys
own_keys left right apart = subst (λ (ks : List RowKey). IsDistinct eq ks) (keys_of_two left right ∙ sym (merged_keys left right)) apart

-- those of the merged pair
pub live_keys : (left right : List Numbered) (late_left late_right : List ℕ) → AreLate left late_left → AreLate right late_right → map key_of (live_after left right late_left late_right) ≡ map key_of (without late_left left) ++ map key_of (without late_right right)
live_keys left right late_left late_right are_left are_right =
    let new = moves left right late_left late_right are_left are_right in
    ap (λ (ls : List Numbered). map key_of ls) (live_is left right late_left late_right are_left are_right)
    ∙ map-append key_of (map (under (of_left new)) (without late_left left)) (map (under (of_right new)) (without late_right right))
    ∙ ap (λ (ks : List RowKey). ks ++ map key_of (map (under (of_right new)) (without late_right right))) (map-under key_of (of_left new) (without late_left left) (λ l. refl))
    ∙ ap (λ (ks : List RowKey). map key_of (without late_left left) ++ ks) (map-under key_of (of_right new) (without late_right right) (λ l. refl))

-- ---- records

pub live_entries : (left right : List Numbered) (late_left late_right : List ℕ) → AreLate left late_left → AreLate right late_right → entries_alone (live_after left right late_left late_right) ≡ entries_alone (without late_left left) ++ entries_alone (without late_right right)
live_entries left right late_left late_right are_left are_right =
    let new = moves left right late_left late_right are_left are_right in
    ap (λ (ls : List Numbered). entries_alone ls) (live_is left right late_left late_right are_left are_right)
    ∙ map-append (λ (l : Numbered). l.1) (map (under (of_left new)) (without late_left left)) (map (under (of_right new)) (without late_right right))
    ∙ ap (λ (es : List EntryData). es ++ entries_alone (map (under (of_right new)) (without late_right right))) (map-under (λ (l : Numbered). l.1) (of_left new) (without late_left left) (λ l. refl))
    ∙ ap (λ (es : List EntryData). entries_alone (without late_left left) ++ es) (map-under (λ (l : Numbered). l.1) (of_right new) (without late_right right) (λ l. refl))

pub live_in_either : LiveInEither
live_in_either left right late_left late_right e are_left are_right =
    let here = entries_alone (without late_left left) in
    let there = entries_alone (without late_right right) in
    let all = live_entries left right late_left late_right are_left are_right in (
      λ c. Contains-append_cases here there e (subst (λ (es : List EntryData). Contains es e) all c),
      λ either. subst (λ (es : List EntryData). Contains es e) (sym all) (⊎_elim (λ (c : Contains here e). Contains-append_left here there e c) (λ (c : Contains there e). Contains-append_right here there e c) either),
    )
