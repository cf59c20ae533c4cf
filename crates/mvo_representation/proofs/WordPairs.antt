-- Words of the state and the places where they stand, pair by pair.
use Rattle.std.proofs.Common.{◌≡◌, ℕ, ◌≤◌, suc, Bool, true, false, cond, List, [], ◌∷◌, ◌++◌, length, Some, refl, sym, ap, ◌∙◌, subst, arith, inl, inr}
use Rattle.std.specs.Prelude.{drop}
use Rattle.std.specs.List.{AllByRecursion, filter}
use Rattle.mvo_theory.specs.State.{State, Claim, Word}
use Rattle.mvo_theory.specs.State.Word.{Own, Ended}
use Rattle.mvo_theory.specs.Phases.{phase_in}
use Rattle.mvo_chain.specs.declared.version.Version.{Version}
use Rattle.mvo_chain.specs.declared.version.VersionNo.{VersionNo}
use Rattle.mvo_chain.specs.Slots.{Slots, version_at}
use Rattle.mvo_visible.specs.Words.{names}
use Rattle.mvo_work.specs.declared.word_place.WordPlace.{WordPlace}
use Rattle.mvo_work.specs.declared.word_place.WordPlace.TheVariants.{Begin, End}
use Rattle.mvo_representation.specs.Words.{Ends, ends_of, stamp_in}
use Rattle.mvo_representation.specs.WordLists.{names_at, places_naming, IsGone, IsWordOf, IsWordAt, StandAt}
use Rattle.mvo_representation.proofs.WordPlaces.{names_here, filter_all}

abbrev pub ends_in : State → Ends
ends_in s = ends_of (phase_in s)

-- ---- pairs that stay
pub stand_weaker : (s s' : State) (slots slots' : Slots) (t : ℕ) → ((w : Word) (p : WordPlace) → IsWordAt s slots t w p → IsWordAt s' slots' t w p) → (ws : List Word) (ps : List WordPlace) → StandAt s slots t ws ps → StandAt s' slots' t ws ps
stand_weaker s s' slots slots' t f [] [] h = tt
stand_weaker s s' slots slots' t f (w ∷ ws) (p ∷ ps) h = (f w p h.0, stand_weaker s s' slots slots' t f ws ps h.1)
stand_weaker s s' slots slots' t f [] (p ∷ ps) h = absurd h
stand_weaker s s' slots slots' t f (w ∷ ws) [] h = absurd h

pub stand_push : (s : State) (slots : Slots) (t : ℕ) (ws vs : List Word) (ps qs : List WordPlace) → StandAt s slots t ws ps → StandAt s slots t vs qs → StandAt s slots t (ws ++ vs) (ps ++ qs)
stand_push s slots t [] vs [] qs h k = k
stand_push s slots t (w ∷ ws) vs (p ∷ ps) qs h k = (h.0, stand_push s slots t ws vs ps qs h.1 k)
stand_push s slots t [] vs (p ∷ ps) qs h k = absurd h
stand_push s slots t (w ∷ ws) vs [] qs h k = absurd h

pub stand_named : (s : State) (slots : Slots) (t : ℕ) (ws : List Word) (ps : List WordPlace) → StandAt s slots t ws ps → AllByRecursion (λ p. names_at slots t p ≡ true) ps
stand_named s slots t [] [] h = tt
stand_named s slots t (w ∷ ws) (p ∷ ps) h = (names_here slots t p h.0.version h.0.at ∙ h.0.named, stand_named s slots t ws ps h.1)
stand_named s slots t [] (p ∷ ps) h = absurd h
stand_named s slots t (w ∷ ws) [] h = absurd h

pub stand_all : (s : State) (slots : Slots) (t : ℕ) (ws : List Word) (ps : List WordPlace) → StandAt s slots t ws ps → StandAt s slots t ws (places_naming slots t ps)
stand_all s slots t ws ps h = subst (StandAt s slots t ws) (sym (filter_all (names_at slots t) ps (stand_named s slots t ws ps h))) h

pub stand_length : (s : State) (slots : Slots) (t : ℕ) (ws : List Word) (ps : List WordPlace) → StandAt s slots t ws ps → length ws ≡ length ps
stand_length s slots t [] [] h = refl
stand_length s slots t (w ∷ ws) (p ∷ ps) h = ap suc (stand_length s slots t ws ps h.1)
stand_length s slots t [] (p ∷ ps) h = absurd h
stand_length s slots t (w ∷ ws) [] h = absurd h

pub stand_rest : (s : State) (slots : Slots) (t : ℕ) (ws : List Word) (p : WordPlace) (ps : List WordPlace) → StandAt s slots t ws (p ∷ ps) → StandAt s slots t (drop 1 ws) ps
stand_rest s slots t [] p ps h = absurd h
stand_rest s slots t (w ∷ ws) p ps h = h.1

-- some words go, and with them their places
pub stand_less : (s : State) (slots : Slots) (t : ℕ) (f : Word → Bool) (g : WordPlace → Bool) → ((w : Word) (p : WordPlace) → IsWordAt s slots t w p → g p ≡ f w) → (ws : List Word) (ps : List WordPlace) → StandAt s slots t ws ps → StandAt s slots t (filter f ws) (filter g ps)
stand_less s slots t f g same [] [] h = tt
stand_less s slots t f g same (w ∷ ws) (p ∷ ps) h = subst (λ (b : Bool). StandAt s slots t (filter f (w ∷ ws)) (cond b (p ∷ filter g ps) (filter g ps))) (sym (same w p h.0)) (go (f w) (stand_less s slots t f g same ws ps h.1))
  where
    go : (b : Bool) → StandAt s slots t (filter f ws) (filter g ps) → StandAt s slots t (cond b (w ∷ filter f ws) (filter f ws)) (cond b (p ∷ filter g ps) (filter g ps))
    go true r = (h.0, r)
    go false r = r
stand_less s slots t f g same [] (p ∷ ps) h = absurd h
stand_less s slots t f g same (w ∷ ws) [] h = absurd h

-- only places that name t count
pub stand_kept : (s s' : State) (slots slots' : Slots) (t : ℕ) → ((w : Word) (p : WordPlace) → names_at slots' t p ≡ true → IsWordAt s slots t w p → IsWordAt s' slots' t w p) → (ws : List Word) (ps : List WordPlace) → AllByRecursion (λ p. names_at slots' t p ≡ true) ps → StandAt s slots t ws ps → StandAt s' slots' t ws ps
stand_kept s s' slots slots' t f [] [] n h = tt
stand_kept s s' slots slots' t f (w ∷ ws) (p ∷ ps) n h = (f w p n.0 h.0, stand_kept s s' slots slots' t f ws ps n.1 h.1)
stand_kept s s' slots slots' t f [] (p ∷ ps) n h = absurd h
stand_kept s s' slots slots' t f (w ∷ ws) [] n h = absurd h

-- ---- steps after which words have the stamps that they had
-- each put that has a stamp now had it
pub record IsLike (s s' : State) (slots slots' : Slots) (t : ℕ) : Type 0 where
  pub clock : s.clock ≤ s'.clock
  pub own : (a : ℕ) → ends_in s t ≡ Some a → ends_in s' t ≡ Some a
  pub puts : (number : VersionNo) (v : Version) (a : ℕ) → version_at slots' number ≡ Some v → stamp_in (ends_in s') v.begin ≡ Some a → (m : VersionNo) × (w : Version) × (version_at slots m ≡ Some w) × (w.row.key ≡ v.row.key) × (stamp_in (ends_in s) w.begin ≡ Some a)

pub record IsLikeVersion (s s' : State) (t : ℕ) (v v' : Version) : Type 0 where
  pub key : v'.row.key ≡ v.row.key
  pub stamp : stamp_in (ends_in s') v'.begin ≡ stamp_in (ends_in s) v.begin
  pub begin : names t v.begin ≡ false → names t v'.begin ≡ false

pub gone_like : (s s' : State) (slots slots' : Slots) (t : ℕ) (c : Claim) → IsLike s s' slots slots' t → IsGone (ends_in s) slots c → IsGone (ends_in s') slots' c
gone_like s s' slots slots' t c l g number v at key e = let w = l.puts number v c.origin at e in g w.0 w.1 w.2 (w.3 ∙ key) w.4

pub word_like : (s s' : State) (slots slots' : Slots) (t : ℕ) (w : Word) (p : WordPlace) (v v' : Version) → IsLike s s' slots slots' t → IsLikeVersion s s' t v v' → IsWordOf s slots t w p v → IsWordOf s' slots' t w p v'
word_like s s' slots slots' t Own (Begin n) v v' l o h = tt
word_like s s' slots slots' t Own (End n) v v' l o h = λ a e. l.own a (h a (sym o.stamp ∙ e))
word_like s s' slots slots' t (Ended c) (Begin n) v v' l o h = absurd h
word_like s s' slots slots' t (Ended c) (End n) v v' l o h = record {
  key = o.key ∙ h.key;
  others = o.begin h.others;
  put = elim h.put [
    | inl e ↦ inl (o.stamp ∙ e)
    | inr e ↦ inr (o.stamp ∙ e.0, gone_like s s' slots slots' t c l e.1)
  ];
  drawn = let d = h.drawn in let c = l.clock in omega (arith, d, c);
}

-- where nothing changes but the state
pub like_self : (s s' : State) (slots : Slots) (t : ℕ) → s.clock ≤ s'.clock → ends_in s' ≡ ends_in s → IsLike s s' slots slots t
like_self s s' slots t le same = record {
  clock = le;
  own = λ a e. ap (λ (x : Ends). x t) same ∙ e;
  puts = λ number v a at e. (number, v, at, refl, sym (ap (λ (x : Ends). stamp_in x v.begin) same) ∙ e);
}

pub version_like_self : (s s' : State) (t : ℕ) (v : Version) → ends_in s' ≡ ends_in s → IsLikeVersion s s' t v v
version_like_self s s' t v same = record { key = refl; stamp = ap (λ (x : Ends). stamp_in x v.begin) same; begin = λ e. e }

pub word_at_self : (s s' : State) (slots : Slots) (t : ℕ) → s.clock ≤ s'.clock → ends_in s' ≡ ends_in s → (w : Word) (p : WordPlace) → IsWordAt s slots t w p → IsWordAt s' slots t w p
word_at_self s s' slots t le same w p h = record {
  version = h.version;
  at = h.at;
  named = h.named;
  is = word_like s s' slots slots t w p h.version h.version (like_self s s' slots t le same) (version_like_self s s' t h.version same) h.is;
}

pub stand_self : (s s' : State) (slots : Slots) (t : ℕ) → s.clock ≤ s'.clock → ends_in s' ≡ ends_in s → (ws : List Word) (ps : List WordPlace) → StandAt s slots t ws ps → StandAt s' slots t ws ps
stand_self s s' slots t le same ws ps h = stand_weaker s s' slots slots t (word_at_self s s' slots t le same) ws ps h
