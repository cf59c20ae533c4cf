-- What a walk of all writes has met.
use Rattle.std.proofs.Common.{◌≡◌, ℕ, Bool, true, false, cond, List, [], ◌∷◌, ◌++◌, Option, None, Some, refl, sym, ap, ◌∙◌}
use Rattle.std.specs.Prelude.{reverse, ◌||◌}
use Rattle.std.specs.List.{filter_map, cons_option}
use Rattle.std.specs.Option.{option_map, option_to_list, is_some}
use Rattle.std.specs.FinMap as map
use Rattle.std.proofs.lemmas.List.{reverse-append, append-nil}
use Rattle.mvo_types.specs.declared.row.RowKey.{RowKey}
use Rattle.mvo_types.specs.Keys.{key_cmp}
use Rattle.mvo_types.proofs.Maps.{keys_total}
use Rattle.mvo_ckpt.specs.Writes.{Stamped, is_write_at, is_written, last_writes, record_of, gone_at}
use Rattle.mvo_places.specs.Places.{PlaceMap, number_of}
use Rattle.mvo_ckpt.specs.Walk.{Walk, none_met, meet, walk_writes}
use Rattle.mvo_ckpt.proofs.Lasts.{key_at}

-- the place of a write's key, as one number
abbrev pub number_at : PlaceMap → Stamped → Option ℕ
number_at at w = option_map number_of (map.get at (key_at w))

pub record IsMet (at : PlaceMap) (ws : List Stamped) (s : Walk) : Type 0 where
  pub seen : (k : RowKey) → map.contains_key s.seen k ≡ is_written ws k
  pub records : s.records ≡ reverse (filter_map record_of (last_writes ws))
  pub gone : s.gone ≡ reverse (filter_map gone_at (last_writes ws))
  pub places : s.places ≡ reverse (filter_map (number_at at) (last_writes ws))

-- one more in front, behind all others
pub reverse_more : {X : Type 0} (o : Option X) (xs : List X) → reverse (cons_option o xs) ≡ reverse xs ++ option_to_list o
reverse_more None xs = sym (append-nil (reverse xs))
reverse_more (Some x) xs = reverse-append (x ∷ []) xs

pushed : {X : Type 0} (old : List X) (o : Option X) (xs : List X) → old ≡ reverse xs → old ++ option_to_list o ≡ reverse (cons_option o xs)
pushed old o xs is = ap (λ (l : List _). l ++ option_to_list o) is ∙ sym (reverse_more o xs)

some_or : (b : Bool) (o : Option ℕ) → is_some (cond b (Some 0) o) ≡ (b || is_some o)
some_or true o = refl
some_or false o = refl

seen_more : (m : map.FinMap key_cmp ℕ) (k q : RowKey) (w : Stamped) (ws : List Stamped) → key_at w ≡ k → map.contains_key m q ≡ is_written ws q → map.contains_key (map.insert m k 0) q ≡ is_written (w ∷ ws) q
seen_more m k q w ws same is =
    ap is_some (map.get-insert keys_total m k 0 q)
    ∙ some_or _ (map.get m q)
    ∙ ap (λ b. b || map.contains_key m q) (ap (λ x. is_write_at q (w.0, (x, w.1.1))) (sym same))
    ∙ ap (λ b. is_write_at q w || b) is

one_more_met : (at : PlaceMap) (w : Stamped) (ws : List Stamped) → IsMet at ws (walk_writes at ws none_met) → IsMet at (w ∷ ws) (walk_writes at (w ∷ ws) none_met)
one_more_met at w ws before = go (is_written ws (key_at w)) refl
  where
    passed : is_written ws (key_at w) ≡ true → last_writes (w ∷ ws) ≡ last_writes ws
    passed is = ap (λ b. cond b (last_writes ws) (w ∷ last_writes ws)) is

    kept : is_written ws (key_at w) ≡ false → last_writes (w ∷ ws) ≡ w ∷ last_writes ws
    kept is = ap (λ b. cond b (last_writes ws) (w ∷ last_writes ws)) is

    step_is : (b : Bool) → is_written ws (key_at w) ≡ b → walk_writes at (w ∷ ws) none_met ≡ meet at b w (walk_writes at ws none_met)
    step_is b is = ap (λ t. meet at t w (walk_writes at ws none_met)) (before.seen (key_at w) ∙ is)

    seen_is : (k : RowKey) → map.contains_key (map.insert (walk_writes at ws none_met).seen (key_at w) 0) k ≡ is_written (w ∷ ws) k
    seen_is k = seen_more (walk_writes at ws none_met).seen (key_at w) k w ws refl (before.seen k)

    go : (b : Bool) → is_written ws (key_at w) ≡ b → IsMet at (w ∷ ws) (walk_writes at (w ∷ ws) none_met)
    go true is = record {
      seen = λ k. ap (λ (s : Walk). map.contains_key s.seen k) (step_is true is) ∙ seen_is k;
      records = ap (λ (s : Walk). s.records) (step_is true is) ∙ before.records ∙ ap (λ (l : List Stamped). reverse (filter_map record_of l)) (sym (passed is));
      gone = ap (λ (s : Walk). s.gone) (step_is true is) ∙ before.gone ∙ ap (λ (l : List Stamped). reverse (filter_map gone_at l)) (sym (passed is));
      places = ap (λ (s : Walk). s.places) (step_is true is) ∙ before.places ∙ ap (λ (l : List Stamped). reverse (filter_map (number_at at) l)) (sym (passed is));
    }
    go false is = record {
      seen = λ k. ap (λ (s : Walk). map.contains_key s.seen k) (step_is false is) ∙ seen_is k;
      records = ap (λ (s : Walk). s.records) (step_is false is) ∙ pushed (walk_writes at ws none_met).records (record_of w) (filter_map record_of (last_writes ws)) before.records ∙ ap (λ (l : List Stamped). reverse (filter_map record_of l)) (sym (kept is));
      gone = ap (λ (s : Walk). s.gone) (step_is false is) ∙ pushed (walk_writes at ws none_met).gone (gone_at w) (filter_map gone_at (last_writes ws)) before.gone ∙ ap (λ (l : List Stamped). reverse (filter_map gone_at l)) (sym (kept is));
      places = ap (λ (s : Walk). s.places) (step_is false is) ∙ pushed (walk_writes at ws none_met).places (number_at at w) (filter_map (number_at at) (last_writes ws)) before.places ∙ ap (λ (l : List Stamped). reverse (filter_map (number_at at) l)) (sym (kept is));
    }

pub all_met : (at : PlaceMap) (ws : List Stamped) → IsMet at ws (walk_writes at ws none_met)
all_met at [] = record { seen = λ k. ap is_some (map.get-empty key_cmp k); records = refl; gone = refl; places = refl }
all_met at (w ∷ ws) = one_more_met at w ws (all_met at ws)
