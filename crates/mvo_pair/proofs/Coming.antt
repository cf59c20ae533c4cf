-- What comes of the bytes of a data file, record by record.
use Rattle.std.proofs.Common.{◌≡◌, ℕ, zero, suc, Bool, true, false, cond, List, [], ◌∷◌, Option, Some, None, Ok, Err, refl, sym, ap, ◌∙◌}
use Rattle.std.specs.Prelude.{◌&&◌}
use Rattle.mvo_bytes.specs.Reading.{◌>>=◌, times}
use Rattle.mvo_format.specs.declared.format.Format.{Format}
use Rattle.mvo_pair.specs.declared.unread.Unread.TheVariants.{Broken}
use Rattle.mvo_pair.specs.Answers.{FoundOrUnread}
use Rattle.mvo_pair.specs.Data.{EntryData}
use Rattle.mvo_pair.specs.Reading.{read_then, entry_at, keeps, all_keep, rise, is_entry_below, entries_kept, entries_found}
use Rattle.mvo_pair.specs.Coming.{LastRead, read_last, is_behind, record_kept, record_found, entries_behind}

-- ---- one by one is all of them

-- they rise behind the last one
abbrev rise_behind : LastRead → List EntryData → Bool
rise_behind last [] = true
rise_behind last (e ∷ es) = is_behind last e && rise_behind (read_last e) es

rises_on : (a : EntryData) (es : List EntryData) → rise_behind (read_last a) es ≡ rise (a ∷ es)
unfolding is_behind is_entry_below
rises_on a [] = refl
rises_on a (b ∷ es) = ap (λ t. is_entry_below a b && t) (rises_on b es)

rises_at_start : (es : List EntryData) → rise_behind None es ≡ rise es
unfolding is_behind
rises_at_start [] = refl
rises_at_start (e ∷ es) = rises_on e es

module _ (f : Format) (lo hi : ℕ) where
  abbrev kept_behind : LastRead → Option (List EntryData × List ℕ) → FoundOrUnread (List EntryData)
  kept_behind last None = Err Broken
  kept_behind last (Some x) = cond (all_keep f lo hi x.0 && rise_behind last x.0) (Ok x.0) (Err Broken)

  abbrev then_rest : EntryData → FoundOrUnread (List EntryData) → FoundOrUnread (List EntryData)
  then_rest e more = read_then more (λ es. Ok (e ∷ es))

  by_test : (t : Bool) (m : LastRead → List ℕ → FoundOrUnread (List EntryData)) (x : EntryData × List ℕ) → read_then (cond t (Ok x) (Err Broken)) (λ y. then_rest y.0 (m (read_last y.0) y.1)) ≡ cond t (then_rest x.0 (m (read_last x.0) x.1)) (Err Broken)
  by_test true m x = refl
  by_test false m x = refl

  -- the four tests, in either order
  tests : (k b ks bs : Bool) (e : EntryData) (es : List EntryData) → cond (k && b) (then_rest e (cond (ks && bs) (Ok es) (Err Broken))) (Err Broken) ≡ cond ((k && ks) && (b && bs)) (Ok (e ∷ es)) (Err Broken)
  tests true true true true e es = refl
  tests true true true false e es = refl
  tests true true false bs e es = refl
  tests true false true bs e es = refl
  tests true false false bs e es = refl
  tests false b ks bs e es = refl

  none_left : (t : Bool) (e : EntryData) → cond t (then_rest e (Err Broken)) (Err Broken) ≡ Err Broken
  none_left true e = refl
  none_left false e = refl

  all_behind : (n : ℕ) (last : LastRead) (body : List ℕ) → entries_behind f lo hi last n body ≡ kept_behind last (times entry_at n body)
  unfolding times record_found
  all_behind zero last body = refl
  all_behind (suc n) last body = go (entry_at body) (λ l b. all_behind n l b)
    where
      inner : (e : EntryData) (o : Option (List EntryData × List ℕ)) → cond (keeps f lo hi e && is_behind last e) (then_rest e (kept_behind (read_last e) o)) (Err Broken) ≡ kept_behind last (o >>= λ others. Some (e ∷ others.0, others.1))
      inner e None = none_left (keeps f lo hi e && is_behind last e) e
      inner e (Some x) = tests (keeps f lo hi e) (is_behind last e) (all_keep f lo hi x.0) (rise_behind (read_last e) x.0) e x.0

      go : (o : Option (EntryData × List ℕ)) → ((l : LastRead) (b : List ℕ) → entries_behind f lo hi l n b ≡ kept_behind l (times entry_at n b)) → read_then (record_kept f lo hi last o) (λ x. then_rest x.0 (entries_behind f lo hi (read_last x.0) n x.1)) ≡ kept_behind last (o >>= λ first. times entry_at n first.1 >>= λ others. Some (first.0 ∷ others.0, others.1))
      go None more = refl
      go (Some x) more =
          by_test (keeps f lo hi x.0 && is_behind last x.0) (λ l b. entries_behind f lo hi l n b) x
          ∙ ap (λ m. cond (keeps f lo hi x.0 && is_behind last x.0) (then_rest x.0 m) (Err Broken)) (more (read_last x.0) x.1)
          ∙ inner x.0 (times entry_at n x.1)

  -- What is found of all records is what is found of one behind another.
  pub one_by_one : (n : ℕ) (body : List ℕ) → entries_found f lo hi n body ≡ entries_behind f lo hi None n body
  unfolding entries_found
  one_by_one n body = go (times entry_at n body) ∙ sym (all_behind n None body)
    where
      go : (o : Option (List EntryData × List ℕ)) → entries_kept f lo hi o ≡ kept_behind None o
      go None = refl
      go (Some x) = ap (λ t. cond (all_keep f lo hi x.0 && t) (Ok x.0) (Err Broken)) (sym (rises_at_start x.0))
