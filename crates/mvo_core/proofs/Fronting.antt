-- Versions come to the front of their keys, one after another.
use Rattle.std.proofs.Common.{◌≡◌, ℕ, zero, suc, ◌+◌, Bool, true, false, cond, List, [], ◌∷◌, ◌++◌, take, length, Option, None, Some, refl, sym, ap, ◌∙◌, subst, add-one}
use Rattle.std.specs.Prelude.{slice_get, IsSome}
use Rattle.std.proofs.lemmas.Bool.{false≢true}
use Rattle.mvo_chain.specs.declared.version.Version.{Version}
use Rattle.mvo_chain.specs.declared.version.VersionNo.{VersionNo}
use Rattle.mvo_chain.specs.Slots.{Slots, version_at}
use Rattle.mvo_hash.specs.Lists.{Lists, number}
use Rattle.mvo_visible.specs.Fronts.{with_front}
use Rattle.mvo_work.specs.declared.word_place.WordPlace.{WordPlace}
use Rattle.mvo_representation.specs.Order.{with_front_if, with_fronts}
use Rattle.mvo_representation.specs.WordLists.{number_at_word}
use Rattle.mvo_versions.specs.Data.{VersionsData}
use Rattle.mvo_versions.specs.Changes.{IsInFront}
use Rattle.mvo_core.specs.Fronts.{version_passes, numbers_in, IsInFrontIf, AreInFront}

-- ---- one
version_none : (v : Version) → ◌≡◌ {A = Option Version} None (Some v) → ⊥
version_none v q = cc

pub passed_there : (test : Version → Bool) (o : Option Version) → version_passes test o ≡ true → IsSome o
passed_there test None h = h
passed_there test (Some v) h = refl

front_true : (test : Version → Bool) (lists : Lists) (n : ℕ) (o : Option Version) → version_passes test o ≡ true → (after : Lists) → ((v : Version) → o ≡ Some v → after ≡ with_front lists v.row.key n) → after ≡ with_front_if test lists n o
front_true test lists n None h after f = absurd (false≢true h)
front_true test lists n (Some v) h after f = f v refl ∙ sym (ap (λ (b : Bool). cond b (with_front lists v.row.key n) lists) h)

front_false : (test : Version → Bool) (lists : Lists) (n : ℕ) (o : Option Version) → version_passes test o ≡ false → lists ≡ with_front_if test lists n o
front_false test lists n None h = refl
front_false test lists n (Some v) h = sym (ap (λ (b : Bool). cond b (with_front lists v.row.key n) lists) h)

-- it passes, and comes to the front
pub brought : (test : Version → Bool) (old new : VersionsData) (n : VersionNo) → version_passes test (version_at old.slots n) ≡ true → IsInFront old new n → IsInFrontIf test old new n
brought test old new n h f = record {
  slots = f.slots;
  lists = front_true test old.lists n.0 (version_at old.slots n) h new.lists f.lists;
  places = f.places;
}

-- it doesn't
pub left_there : (test : Version → Bool) (old : VersionsData) (n : VersionNo) → version_passes test (version_at old.slots n) ≡ false → IsInFrontIf test old old n
left_there test old n h = record { slots = refl; lists = front_false test old.lists n.0 (version_at old.slots n) h; places = record { at = λ p. refl } }

-- ---- one after another
fronts_more : (test : Version → Bool) (slots : Slots) (lists : Lists) (ns : List ℕ) (n : ℕ) → with_fronts test slots lists (ns ++ n ∷ []) ≡ with_front_if test (with_fronts test slots lists ns) n (version_at slots (number n))
fronts_more test slots lists [] n = refl
fronts_more test slots lists (m ∷ ns) n = fronts_more test slots (with_front_if test lists m (version_at slots (number m))) ns n

numbers_more : (ws : List WordPlace) (w : WordPlace) → numbers_in (ws ++ w ∷ []) ≡ numbers_in ws ++ (number_at_word w).0 ∷ []
numbers_more [] w = refl
numbers_more (v ∷ ws) w = ap (λ ns. (number_at_word v).0 ∷ ns) (numbers_more ws w)

none_word : (w : WordPlace) → ◌≡◌ {A = Option WordPlace} None (Some w) → ⊥
none_word w q = cc

some_word : (v w : WordPlace) → ◌≡◌ {A = Option WordPlace} (Some v) (Some w) → v ≡ w
some_word v w q = cc

pub taken_suc : (ws : List WordPlace) (k : ℕ) (w : WordPlace) → slice_get ws k ≡ Some w → take (suc k) ws ≡ take k ws ++ w ∷ []
taken_suc [] k w h = absurd (none_word w h)
taken_suc (v ∷ ws) zero w h = ap (λ x. x ∷ []) (some_word v w h)
taken_suc (v ∷ ws) (suc k) w h = ap (λ xs. v ∷ xs) (taken_suc ws k w h)

pub taken_same : (ws : List WordPlace) (k : ℕ) → slice_get ws k ≡ None → take (suc k) ws ≡ take k ws
taken_same [] zero h = refl
taken_same [] (suc k) h = refl
taken_same (v ∷ ws) zero h = absurd (none_word v (sym h))
taken_same (v ∷ ws) (suc k) h = ap (λ xs. v ∷ xs) (taken_same ws k h)

pub taken_all : (ws : List WordPlace) → take (length ws) ws ≡ ws
taken_all [] = refl
taken_all (w ∷ ws) = ap (λ xs. w ∷ xs) (taken_all ws)

-- none has come to the front yet
pub front_first : (test : Version → Bool) (old : VersionsData) → AreInFront test old old []
front_first test old = record { slots = refl; lists = refl; places = record { at = λ p. refl } }

front_push : (test : Version → Bool) (old mid new : VersionsData) (ws : List WordPlace) (w : WordPlace) → AreInFront test old mid ws → IsInFrontIf test mid new (number_at_word w) → AreInFront test old new (ws ++ w ∷ [])
front_push test old mid new ws w h f = record {
  slots = f.slots ∙ h.slots;
  lists = f.lists
      ∙ ap (λ ls. with_front_if test ls (number_at_word w).0 (version_at mid.slots (number_at_word w))) h.lists
      ∙ ap (λ ss. with_front_if test (with_fronts test old.slots old.lists (numbers_in ws)) (number_at_word w).0 (version_at ss (number_at_word w))) h.slots
      ∙ sym (fronts_more test old.slots old.lists (numbers_in ws) (number_at_word w).0)
      ∙ ap (with_fronts test old.slots old.lists) (sym (numbers_more ws w));
  places = record { at = λ p. f.places.at p ∙ h.places.at p };
}

-- one more has, where there is one more word
pub front_more : (test : Version → Bool) (old mid new : VersionsData) (words : List WordPlace) (k : ℕ) (w : WordPlace) → AreInFront test old mid (take k words) → slice_get words k ≡ Some w → IsInFrontIf test mid new (number_at_word w) → AreInFront test old new (take (k + 1) words)
front_more test old mid new words k w h at f = subst (AreInFront test old new) (sym (ap (λ (n : ℕ). take n words) (add-one k) ∙ taken_suc words k w at)) (front_push test old mid new (take k words) w h f)

pub front_same : (test : Version → Bool) (old mid : VersionsData) (words : List WordPlace) (k : ℕ) → AreInFront test old mid (take k words) → slice_get words k ≡ None → AreInFront test old mid (take (k + 1) words)
front_same test old mid words k h at = subst (AreInFront test old mid) (sym (ap (λ (n : ℕ). take n words) (add-one k) ∙ taken_same words k at)) h

-- all have
pub front_all : (test : Version → Bool) (old new : VersionsData) (words : List WordPlace) (k : ℕ) → k ≡ length words → AreInFront test old new (take k words) → AreInFront test old new words
front_all test old new words k e h = subst (AreInFront test old new) (ap (λ (n : ℕ). take n words) e ∙ taken_all words) h
