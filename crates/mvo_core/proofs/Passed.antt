-- The words that others took over are passed over: the lists stay those of the state.
use Rattle.std.proofs.Common.{◌≡◌, ℕ, ◌+◌, ◌≤◌, Bool, true, false, cond, List, [], ◌∷◌, length, Option, None, Some, refl, sym, ap, ◌∙◌, subst, arith, ⊎_elim}
use Rattle.std.specs.Prelude.{◌==◌, nat_le, slice_get}
use Rattle.std.proofs.lemmas.Bool.{cases_eq, eq-eqb, ne_eqb, true≢false, lt-leb}
use Rattle.mvo_types.specs.Keys.{Map}
use Rattle.mvo_model.specs.Trace.{Step}
use Rattle.mvo_theory.specs.State.{State, EndedTx, ended_of}
use Rattle.mvo_theory.specs.Words.{is_done}
use Rattle.mvo_theory.specs.Sound.{how_many}
use Rattle.mvo_theory.proofs.Each.{each_weaker}
use Rattle.mvo_theory.proofs.EndSteps.{filter_same}
use Rattle.mvo_chain.specs.declared.version.Version.{Version}
use Rattle.mvo_chain.specs.Slots.{Slots, version_at}
use Rattle.mvo_hash.specs.Lists.{Lists}
use Rattle.mvo_range.specs.Place.{PlaceNumbers as Places}
use Rattle.mvo_visible.specs.Words.{States}
use Rattle.mvo_work.specs.declared.word_place.WordPlace.{WordPlace}
use Rattle.mvo_representation.specs.Laws as representation
use Rattle.mvo_representation.specs.Words.{Ends}
use Rattle.mvo_representation.specs.OrderLaws.{HaveNow}
use Rattle.mvo_representation.specs.WordLists.{WordLists, HasWordLists, HaveListNow, number_at_word, names_at, is_place, places_naming, finished}
use Rattle.mvo_representation.proofs.WordPlaces.{place_same, place_apart, counted_none}
use Rattle.mvo_representation.proofs.WordsFinished.{names_beside, named_before}
use Rattle.mvo_core.specs.Finishing.{from_own}
use Rattle.mvo_core.proofs.FinishLaws.{passing_in_lists, done_seen}

-- ---- the list from the first own word on
none_place : (p : WordPlace) (ps : List WordPlace) → ◌≡◌ {A = List WordPlace} [] (p ∷ ps) → ⊥
none_place p ps q = cc

first_place : (p q : WordPlace) → ◌≡◌ {A = Option WordPlace} (Some p) (Some q) → p ≡ q
first_place p q e = cc

no_first : (p : WordPlace) → ◌≡◌ {A = Option WordPlace} (Some p) None → ⊥
no_first p e = cc

module _ (slots : Slots) (t : ℕ) where
  -- it is the list itself, where the first word is an own one, or there is none
  pub own_stays : (ps : List WordPlace) (p : WordPlace) → Some p ≡ slice_get ps 0 → true ≡ names_at slots t p → from_own slots t ps ≡ ps
  own_stays [] p first own = absurd (no_first p first)
  own_stays (q ∷ qs) p first own = ap (λ (b : Bool). cond b (q ∷ qs) (from_own slots t qs)) (ap (names_at slots t) (sym (first_place p q first)) ∙ sym own)

  pub none_stays : (ps : List WordPlace) → None ≡ slice_get ps 0 → from_own slots t ps ≡ ps
  none_stays [] none = refl
  none_stays (q ∷ qs) none = absurd (no_first q (sym none))

  -- it begins with one that names the transaction
  pub first_named : (ps : List WordPlace) (q : WordPlace) (qs : List WordPlace) → from_own slots t ps ≡ q ∷ qs → names_at slots t q ≡ true
  first_named [] q qs e = absurd (none_place q qs e)
  first_named (p ∷ ps) q qs e = go (names_at slots t p) refl e (first_named ps q qs)
    where
      go : (b : Bool) → names_at slots t p ≡ b → cond b (p ∷ ps) (from_own slots t ps) ≡ q ∷ qs → (from_own slots t ps ≡ q ∷ qs → names_at slots t q ≡ true) → names_at slots t q ≡ true
      go true n f k = let same : p ≡ q = cc in sym (ap (names_at slots t) same) ∙ n
      go false n f k = k f

  -- where it is empty, none names it
  pub none_named : (ps : List WordPlace) → from_own slots t ps ≡ [] → places_naming slots t ps ≡ []
  none_named [] e = refl
  none_named (p ∷ ps) e = go (names_at slots t p) e (none_named ps)
    where
      go : (b : Bool) → cond b (p ∷ ps) (from_own slots t ps) ≡ [] → (from_own slots t ps ≡ [] → places_naming slots t ps ≡ []) → cond b (p ∷ places_naming slots t ps) (places_naming slots t ps) ≡ []
      go true f k = absurd (none_place p ps (sym f))
      go false f k = k f

  -- where it isn't, one does, and did where more were named
  pub some_named : (before : Slots) → ((q : WordPlace) → names_at slots t q ≡ true → names_at before t q ≡ true) → (ps : List WordPlace) (q : WordPlace) (qs : List WordPlace)
      → from_own slots t ps ≡ q ∷ qs → 1 ≤ length (places_naming before t ps)
  some_named before was [] q qs e = absurd (none_place q qs e)
  some_named before was (p ∷ ps) q qs e = go (names_at slots t p) refl (names_at before t p) refl e (some_named before was ps q qs)
    where
      go : (b : Bool) → names_at slots t p ≡ b → (a : Bool) → names_at before t p ≡ a → cond b (p ∷ ps) (from_own slots t ps) ≡ q ∷ qs
          → (from_own slots t ps ≡ q ∷ qs → 1 ≤ length (places_naming before t ps)) → 1 ≤ length (cond a (p ∷ places_naming before t ps) (places_naming before t ps))
      go b n true m f k = omega arith
      go true n false m f k = absurd (true≢false (sym (was p n) ∙ m))
      go false n false m f k = k f

-- ---- lists that differ at one transaction
abbrev with_list : WordLists → ℕ → List WordPlace → WordLists
with_list words t ps = λ u. cond (u == t) ps (words u)

have_list : (words : WordLists) (t : ℕ) (ps : List WordPlace) → HaveListNow words (with_list words t ps) t ps
have_list words t ps = record {
  others = λ u ne. ap (λ (b : Bool). cond b ps (words u)) (ne_eqb u t ne);
  here = ap (λ (b : Bool). cond b ps (words t)) (eq-eqb t t refl);
}

-- the same list leaves all
same_lists : (words words' : WordLists) (t : ℕ) (ps : List WordPlace) → words t ≡ ps → HaveListNow words words' t ps → words ≡ words'
same_lists words words' t ps is now = λ i u. at u i
  where
    at : (u : ℕ) → words u ≡ words' u
    at u = ⊎_elim (λ e. ap words e ∙ is ∙ sym now.here ∙ sym (ap words' e)) (λ ne. sym (now.others u ne)) (cases_eq u t)

now_after : (words words1 words' : WordLists) (t : ℕ) (ps qs : List WordPlace) → HaveListNow words words1 t ps → HaveListNow words words' t qs → HaveListNow words1 words' t qs
now_after words words1 words' t ps qs one both = record { others = λ u ne. both.others u ne ∙ sym (one.others u ne); here = both.here }

module _ (opening : Map) (steps : List Step) (s : State) (states : States) (slots : Slots) (lists : Lists) (places : Places) (u : EndedTx) (h : representation.VersionsStandFor opening s states slots lists places) (e : ended_of u.id s.ended ≡ Some u) where
  pub passes : (ps : List WordPlace) (words words' : WordLists) → words u.id ≡ ps → HaveListNow words words' u.id (from_own slots u.id ps) → HasWordLists s slots words → HasWordLists s slots words'
  passes [] words words' is now l = subst (HasWordLists s slots) (same_lists words words' u.id [] is now) l
  passes (p ∷ ps) words words' is now l = go (names_at slots u.id p) refl now (passes ps (with_list words u.id ps) words' (have_list words u.id ps).here)
    where
      go : (b : Bool) → names_at slots u.id p ≡ b → HaveListNow words words' u.id (cond b (p ∷ ps) (from_own slots u.id ps))
          → (HaveListNow (with_list words u.id ps) words' u.id (from_own slots u.id ps) → HasWordLists s slots (with_list words u.id ps) → HasWordLists s slots words')
          → HasWordLists s slots words'
      go true n m k = subst (HasWordLists s slots) (same_lists words words' u.id (p ∷ ps) is m) l
      go false n m k = k (now_after words (with_list words u.id ps) words' u.id ps (from_own slots u.id ps) (have_list words u.id ps) m)
          (passing_in_lists opening s states slots lists places words (with_list words u.id ps) u p ps h e is n (have_list words u.id ps) l)

-- ---- whether it is done, once the first word is finished
module _ (s : State) (slots slots' : Slots) (words : WordLists) (u : EndedTx) (e : ended_of u.id s.ended ≡ Some u) (l : HasWordLists s slots words) (p : WordPlace) (ps : List WordPlace) (is : words u.id ≡ p ∷ ps) (name : names_at slots u.id p ≡ true)
    (ends : Ends) (v : Version) (at : version_at slots (number_at_word p) ≡ Some v) (now : HaveNow slots slots' (number_at_word p).0 (finished ends u.id p v)) where
  done_is : is_done s u.id ≡ nat_le (length (p ∷ places_naming slots u.id ps)) 1
  done_is = done_seen s slots words u e l ∙ ap (λ qs. nat_le (length (places_naming slots u.id qs)) 1) is ∙ ap (λ (b : Bool). nat_le (length (cond b (p ∷ places_naming slots u.id ps) (places_naming slots u.id ps))) 1) name

  pub not_done : (q : WordPlace) (qs : List WordPlace) → from_own slots' u.id ps ≡ q ∷ qs → is_done s u.id ≡ false
  not_done q qs f =
      let le = some_named slots' u.id slots (λ r n. named_before slots slots' ends u.id p v at now u.id r n) ps q qs f in
      done_is ∙ lt-leb (length (p ∷ places_naming slots u.id ps)) 1 (omega (arith, le))

  once_first : how_many (is_place p) ps ≡ 0
  once_first =
      let o : cond {A = ℕ} (is_place p p) 1 0 + how_many (is_place p) ps ≡ 1 = ap (how_many (is_place p)) (sym is) ∙ l.once u.id p name in
      let z : cond {A = ℕ} (is_place p p) 1 0 ≡ 1 = ap (λ (b : Bool). cond b 1 0) (place_same p) in
      omega (arith, o, z)

  others_same : places_naming slots u.id ps ≡ places_naming slots' u.id ps
  others_same = filter_same (names_at slots u.id) (names_at slots' u.id) ps
      (each_weaker (λ q. is_place p q ≡ false) (λ q. names_at slots u.id q ≡ names_at slots' u.id q)
      (λ q d. sym (names_beside slots slots' ends u.id p v at now u.id q (λ i. place_apart p q d (sym i)))) ps (counted_none p ps once_first))

  pub done_now : from_own slots' u.id ps ≡ [] → is_done s u.id ≡ true
  done_now f = done_is ∙ ap (λ qs. nat_le (length (p ∷ qs)) 1) (others_same ∙ none_named slots' u.id ps f)

-- no place is left
pub done_none : (s : State) (slots : Slots) (words : WordLists) (u : EndedTx) → ended_of u.id s.ended ≡ Some u → HasWordLists s slots words → places_naming slots u.id (words u.id) ≡ [] → is_done s u.id ≡ true
done_none s slots words u e l none = done_seen s slots words u e l ∙ ap (λ qs. nat_le (length qs) 1) none
