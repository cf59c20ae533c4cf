-- Which of the named files are old: what tells so stays where their headers do, and what is taken away.
use Rattle.std.proofs.Common.{◌≡◌, ℕ, ◌&&◌, ◌||◌, Bool, true, false, eqb, List, refl, sym, ap, ◌∙◌}
use Rattle.std.proofs.lemmas.Bool.{eqb-true}
use Rattle.std.specs.Prelude.{not}
use Rattle.std.specs.List.{Contains}
use Rattle.std.proofs.lemmas.Map.Views.{Contains-from_any}
use Rattle.mvo_manifest.specs.Data.{ManifestData, named}
use Rattle.mvo_recovery.specs.image.Opens.{Image}
use Rattle.mvo_load.specs.Old.{is_old}
use Rattle.mvo_store.specs.Files.{is_named}
use Rattle.mvo_store.specs.Old.{is_marked, KnowsOld, AreUnmarked}

-- what the test finds is named
pub named_has : (m : ManifestData) (n : ℕ) → is_named m n ≡ true → Contains (named m) n
named_has m n is = Contains-from_any {eq = λ q k. eqb k q} (λ x y e. sym (eqb-true y x e)) n (named m) is

-- the headers of the named files stay
abbrev pub HeadersStay : Image → Image → ManifestData → Type 0
HeadersStay old new m = (n : ℕ) → Contains (named m) n → is_old (new n) ≡ is_old (old n)

-- then the marks still tell which are old
pub known_stays : (old new : Image) (m : ManifestData) (count : ℕ) (marks : List Bool) → HeadersStay old new m → KnowsOld old m count marks → KnowsOld new m count marks
known_stays old new m count marks same has = record { long = has.long; are = λ n lt is. has.are n lt is ∙ sym (same n (named_has m n is)) }

-- ---- marks that are taken away

none_taken : (b : Bool) → b ≡ (b && not false)
none_taken true = refl
none_taken false = refl

-- none of them
pub unmarked_none : (marks : List Bool) → AreUnmarked (λ n. false) marks marks
unmarked_none marks = record { long = refl; are = λ n. none_taken (is_marked marks n) }

one_by_one : (b s t : Bool) → ((b && not s) && not t) ≡ (b && not (s || t))
one_by_one true true t = refl
one_by_one true false t = refl
one_by_one false s t = refl

-- one behind another
pub unmarked_both : (first second : ℕ → Bool) (a b c : List Bool) → AreUnmarked first a b → AreUnmarked second b c → AreUnmarked (λ n. first n || second n) a c
unmarked_both first second a b c one two = record {
  long = two.long ∙ one.long;
  are = λ n. two.are n ∙ ap (λ t. t && not (second n)) (one.are n) ∙ one_by_one (is_marked a n) (first n) (second n);
}
