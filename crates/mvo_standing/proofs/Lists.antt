-- The words that each unfinished transaction of a state still has to replace are those in its shadow.
use Rattle.std.proofs.Common.{◌≡◌, ◌≤◌, ◌⊎◌, ℕ, false, List, [], ◌∷◌, Some, None, refl, sym, ap, ◌∙◌, subst}
use Rattle.mvo_theory.specs.State.{State, Word, Claim}
use Rattle.mvo_theory.specs.State.Word.{Own, Ended}
use Rattle.mvo_theory.specs.Phases.{phase_in}
use Rattle.mvo_theory.specs.Words.{words_of}
use Rattle.mvo_theory.proofs.Each.{each_map, each_weaker}
use Rattle.mvo_shared.specs.Shadow.{writing_operations, active_shadow, stamped_shadow, shadow}
use Rattle.mvo_shared.proofs.Shadow.{words_shadow}
use Rattle.mvo_chain.specs.declared.version.Version.{Version}
use Rattle.mvo_chain.specs.Slots.{Slots}
use Rattle.mvo_work.specs.declared.word_place.WordPlace.{WordPlace}
use Rattle.mvo_work.specs.declared.word_place.WordPlace.TheVariants.{Begin, End}
use Rattle.mvo_shadow.proofs.Finds.{phase_alike}
use Rattle.mvo_representation.specs.Words.{Ends, ends_of, stamp_in}
use Rattle.mvo_representation.specs.WordLists.{WordLists, places_naming, IsGone, IsOfClaim, IsOwnPut, IsWordOf, StandAt, HasOwnWords, HasWordLists}
use Rattle.mvo_standing.proofs.Each.{each_unmap, phases_alike}

-- ---- what a word says goes by how the transactions stand, and by the clock
module _ (s q : State) (slots : Slots) (alike : phase_in q ≡ phase_in s) (clock : q.clock ≡ s.clock) where
  ends_alike : ends_of (phase_in q) ≡ ends_of (phase_in s)
  ends_alike = ap ends_of alike

  put_by : (t : ℕ) (v : Version) → IsOwnPut s t v → IsOwnPut q t v
  put_by t v h = subst (λ (ends : Ends). (a : ℕ) → stamp_in ends v.begin ≡ Some a → ends t ≡ Some a) (sym ends_alike) h

  claim_by : (t : ℕ) (c : Claim) (v : Version) → IsOfClaim s slots t c v → IsOfClaim q slots t c v
  claim_by t c v h = record {
    key = h.key;
    others = h.others;
    put = subst (λ (ends : Ends). (stamp_in ends v.begin ≡ Some c.origin) ⊎ ((stamp_in ends v.begin ≡ None) × IsGone ends slots c)) (sym ends_alike) h.put;
    drawn = subst (λ (n : ℕ). c.origin ≤ n) (sym clock) h.drawn;
  }

  word_by : (t : ℕ) (w : Word) (p : WordPlace) (v : Version) → IsWordOf s slots t w p v → IsWordOf q slots t w p v
  word_by t Own (Begin n) v h = h
  word_by t Own (End n) v h = put_by t v h
  word_by t (Ended c) (Begin n) v h = h
  word_by t (Ended c) (End n) v h = claim_by t c v h

  stand_by : (t : ℕ) (ws : List Word) (ps : List WordPlace) → StandAt s slots t ws ps → StandAt q slots t ws ps
  stand_by t [] [] h = h
  stand_by t [] (p ∷ ps) h = h
  stand_by t (w ∷ ws) [] h = h
  stand_by t (w ∷ ws) (p ∷ ps) h =
      (record { version = h.0.version; at = h.0.at; named = h.0.named; is = word_by t w p h.0.version h.0.is }, stand_by t ws ps h.1)

  own_by : (t : ℕ) (ws us : List Word) (ps : List WordPlace) → us ≡ ws → HasOwnWords s slots t ws ps → HasOwnWords q slots t us ps
  own_by t ws us ps e h = record { stand = subst (λ (vs : List Word). StandAt q slots t vs ps) (sym e) (stand_by t ws ps h.stand); written = h.written }

module _ (s : State) (slots : Slots) (lists : WordLists) where
  pub lists_there : HasWordLists s slots lists → HasWordLists (shadow s) slots lists
  lists_there h = record {
    once = h.once;
    active = each_map active_shadow (λ r. HasOwnWords s slots r.id (words_of r.history r.claims) (lists r.id)) (λ r. HasOwnWords (shadow s) slots r.id (words_of r.history r.claims) (lists r.id))
        (λ r p. own_by s (shadow s) slots (phases_alike s) refl r.id (words_of r.history r.claims) (words_of (writing_operations r.history) r.claims) (lists r.id) (words_shadow r.history r.claims) p) s.active h.active;
    preparing = each_map stamped_shadow (λ x. x.settled ≡ false → HasOwnWords s slots x.id (words_of x.history x.claims) (lists x.id)) (λ x. x.settled ≡ false → HasOwnWords (shadow s) slots x.id (words_of x.history x.claims) (lists x.id))
        (λ x p o. own_by s (shadow s) slots (phases_alike s) refl x.id (words_of x.history x.claims) (words_of (writing_operations x.history) x.claims) (lists x.id) (words_shadow x.history x.claims) (p o)) s.stamped h.preparing;
    ended = each_weaker (λ u. StandAt s slots u.id u.words (places_naming slots u.id (lists u.id))) (λ u. StandAt (shadow s) slots u.id u.words (places_naming slots u.id (lists u.id)))
        (λ u p. stand_by s (shadow s) slots (phases_alike s) refl u.id u.words (places_naming slots u.id (lists u.id)) p) s.ended h.ended;
    absent = λ t none. h.absent t (sym (phase_alike s t) ∙ none);
  }

  pub lists_back : HasWordLists (shadow s) slots lists → HasWordLists s slots lists
  lists_back h = record {
    once = h.once;
    active = each_unmap active_shadow (λ r. HasOwnWords s slots r.id (words_of r.history r.claims) (lists r.id)) (λ r. HasOwnWords (shadow s) slots r.id (words_of r.history r.claims) (lists r.id))
        (λ r p. own_by (shadow s) s slots (sym (phases_alike s)) refl r.id (words_of (writing_operations r.history) r.claims) (words_of r.history r.claims) (lists r.id) (sym (words_shadow r.history r.claims)) p) s.active h.active;
    preparing = each_unmap stamped_shadow (λ x. x.settled ≡ false → HasOwnWords s slots x.id (words_of x.history x.claims) (lists x.id)) (λ x. x.settled ≡ false → HasOwnWords (shadow s) slots x.id (words_of x.history x.claims) (lists x.id))
        (λ x p o. own_by (shadow s) s slots (sym (phases_alike s)) refl x.id (words_of (writing_operations x.history) x.claims) (words_of x.history x.claims) (lists x.id) (sym (words_shadow x.history x.claims)) (p o)) s.stamped h.preparing;
    ended = each_weaker (λ u. StandAt (shadow s) slots u.id u.words (places_naming slots u.id (lists u.id))) (λ u. StandAt s slots u.id u.words (places_naming slots u.id (lists u.id)))
        (λ u p. stand_by (shadow s) s slots (sym (phases_alike s)) refl u.id u.words (places_naming slots u.id (lists u.id)) p) s.ended h.ended;
    absent = λ t none. h.absent t (phase_alike s t ∙ none);
  }
