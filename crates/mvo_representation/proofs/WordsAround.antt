-- The lists of all around a transaction that writes, as it puts a version and as it ends one.
use Rattle.std.proofs.Common.{◌≡◌, ◌≢◌, ℕ, ◌≤◌, Bool, true, false, cond, eqb, not, ◌||◌, List, [], ◌∷◌, ◌++◌, map, Option, None, Some, refl, sym, ap, ◌∙◌, subst, arith, ◌⊎◌, inl, inr}
use Rattle.std.specs.List.{AllByRecursion, filter}
use Rattle.std.specs.Ordering.{eq_by_cmp}
use Rattle.std.specs.Cmp.{eq_by_cmp_equiv}
use Rattle.std.proofs.lemmas.Bool.{cases_eq, eq-eqb, eqb-true, ne_eqb, true≢false, false≢true, and_parts, and_from}
use Rattle.mvo_types.proofs.Maps.{keys_total}
use Rattle.mvo_types.specs.declared.row.RowKey.{RowKey}
use Rattle.mvo_types.specs.RowData.{RowData}
use Rattle.mvo_types.specs.Keys.{key_cmp}
use Rattle.mvo_theory.specs.State.{State, ActiveTx, EndedTx, Claim, Word, active_of, is_active_as, is_preparing_as, is_ended_as}
use Rattle.mvo_theory.specs.State.Word.{Own, Ended}
use Rattle.mvo_theory.specs.Words.{words_of, is_end_of}
use Rattle.mvo_theory.specs.Sound.{IsSingle, how_many}
use Rattle.mvo_theory.proofs.Each.{each_weaker, each_both}
use Rattle.mvo_theory.proofs.Finds.{count_some}
use Rattle.mvo_theory.proofs.Footprints.{key_same}
use Rattle.mvo_theory.proofs.Single.{active_found}
use Rattle.mvo_chain.specs.declared.version.Version.{Version}
use Rattle.mvo_chain.specs.declared.version.VersionNo.{VersionNo}
use Rattle.mvo_chain.specs.Slots.{Slots, version_at}
use Rattle.mvo_hash.specs.Lists.{number}
use Rattle.mvo_visible.specs.Words.{names}
use Rattle.mvo_work.specs.declared.word_place.WordPlace.{WordPlace}
use Rattle.mvo_work.specs.declared.word_place.WordPlace.TheVariants.{Begin, End}
use Rattle.mvo_representation.specs.Words.{Ends, stamp_in}
use Rattle.mvo_representation.specs.Steps.{fresh, ended_by}
use Rattle.mvo_representation.specs.Order.{own_words}
use Rattle.mvo_representation.specs.OrderLaws.{HaveNow}
use Rattle.mvo_representation.specs.WordLists.{WordLists, HaveListNow, number_at_word, word_at, is_place, names_at, places_naming, IsGone, IsOfClaim, IsWordOf, IsWordAt, StandAt, HasOwnWords}
use Rattle.mvo_representation.proofs.Ending.{named_end}
use Rattle.mvo_representation.proofs.OrderLists.{no_version}
use Rattle.mvo_representation.proofs.OrderWritten.{others_keep_written}
use Rattle.mvo_representation.proofs.WordPlaces.{AreOnce, IsNewOrOld, own_name, names_here, names_none, names_like, place_apart, place_cases, filter_always, filter_narrow, each_passes, not_counted, once_pushed}
use Rattle.mvo_representation.proofs.WordPairs.{ends_in, IsLike, word_like, version_like_self, stand_weaker, stand_kept, stand_push, stand_named, stand_less}
use Rattle.mvo_representation.proofs.WordsKept.{IsActiveListed, IsPreparingListed, IsEndedListed}
use Rattle.mvo_representation.proofs.WordsSaid.{none_pass, not_the_one, not_preparing_one}
use Rattle.mvo_representation.proofs.Slots.{some_version}

-- ---- all around t, the words of which are these
pub record IsListedAround (s s' : State) (slots : Slots) (lists : WordLists) (t : ℕ) (ws : List Word) (us : List EndedTx) : Type 0 where
  pub once : AreOnce slots lists
  pub active : AllByRecursion (λ q. q.id ≢ t → IsActiveListed s' slots lists q) s.active
  pub preparing : AllByRecursion (IsPreparingListed s' slots lists) s.stamped
  pub ended : AllByRecursion (IsEndedListed s' slots lists) us
  pub mine : StandAt s' slots t ws (lists t)
  pub apart : AllByRecursion (λ x. x.settled ≡ false → x.id ≢ t) s.stamped
  pub apart_ended : AllByRecursion (λ u. u.id ≢ t) us

active_once : (s : State) (t : ℕ) (r : ActiveTx) → active_of t s.active ≡ Some r → 1 ≤ how_many (is_active_as t) s.active
active_once s t r f = count_some (is_active_as t) s.active r (sym (active_found t s.active) ∙ f)

pub active_not_preparing : (s : State) (t : ℕ) (r : ActiveTx) → IsSingle s → active_of t s.active ≡ Some r → AllByRecursion (λ x. x.settled ≡ false → x.id ≢ t) s.stamped
active_not_preparing s t r h f = each_weaker (λ x. is_preparing_as t x ≡ false) (λ x. x.settled ≡ false → x.id ≢ t) (λ x n o. not_preparing_one x t n o) s.stamped (none_pass (is_preparing_as t) s.stamped (let l = active_once s t r f in let o = h.once t in omega arith))

pub active_not_ended : (s : State) (t : ℕ) (r : ActiveTx) → IsSingle s → active_of t s.active ≡ Some r → AllByRecursion (λ u. u.id ≢ t) s.ended
active_not_ended s t r h f = each_weaker (λ u. is_ended_as t u ≡ false) (λ u. u.id ≢ t) (λ u n. not_the_one u.id t n) s.ended (none_pass (is_ended_as t) s.ended (let l = active_once s t r f in let o = h.once t in omega arith))

-- ---- t puts a version
module _ (s s' : State) (slots slots' : Slots) (lists lists' : WordLists) (t : ℕ) (row : RowData) (n : ℕ) (hole : version_at slots (number n) ≡ None) (now : HaveNow slots slots' n (fresh t row)) (unstamped : ends_in s' t ≡ None) (list : HaveListNow lists lists' t (lists t ++ Begin (number n) ∷ [])) where
  put_here : (q : WordPlace) → (number_at_word q).0 ≡ n → version_at slots' (number_at_word q) ≡ Some (fresh t row)
  put_here q i = ap (λ (j : ℕ). version_at slots' (number j)) i ∙ now.here

  was_hole : (q : WordPlace) → (number_at_word q).0 ≡ n → version_at slots (number_at_word q) ≡ None
  was_hole q i = ap (λ (j : ℕ). version_at slots (number j)) i ∙ hole

  put_names : (u : ℕ) → u ≢ t → (q : WordPlace) → names_at slots' u q ≡ names_at slots u q
  put_names u d q = elim (cases_eq (number_at_word q).0 n) [
    | inl i ↦ names_here slots' u q (fresh t row) (put_here q i) ∙ silent q ∙ sym (names_none slots u q (was_hole q i))
    | inr m ↦ names_like slots slots' u q (now.others (number_at_word q) m)
  ]
    where
      silent : (q : WordPlace) → names u (word_at q (fresh t row)) ≡ false
      silent (Begin m) = ne_eqb t u (λ e. d (sym e))
      silent (End m) = refl

  put_once : AreOnce slots lists → how_many (is_place (Begin (number n))) (lists t) ≡ 0 → AreOnce slots' lists'
  put_once once zero = once_pushed slots slots' lists lists' t (Begin (number n)) list zero old once
    where
      fresh_named : (u : ℕ) (q : WordPlace) → (number_at_word q).0 ≡ n → names u (word_at q (fresh t row)) ≡ true → (q ≡ Begin (number n)) × (u ≡ t)
      fresh_named u (Begin m) i e = (ap (λ (j : ℕ). Begin (record { 0 = j })) i, sym (eqb-true t u e))
      fresh_named u (End m) i e = absurd (false≢true e)

      old : (u : ℕ) (q : WordPlace) → names_at slots' u q ≡ true → IsNewOrOld slots t (Begin (number n)) u q
      old u q e = elim (cases_eq (number_at_word q).0 n) [
        | inl i ↦ inr (fresh_named u q i (sym (names_here slots' u q (fresh t row) (put_here q i)) ∙ e))
        | inr m ↦ inl (elim (place_cases q (Begin (number n))) [
          | inl is ↦ absurd (m (ap (λ (x : WordPlace). (number_at_word x).0) is))
          | inr o ↦ (o, sym (names_like slots slots' u q (now.others (number_at_word q) m)) ∙ e)
        ])
      ]

  put_like : (u : ℕ) → IsLike s' s' slots slots' u
  put_like u = record {
    clock = omega arith;
    own = λ a e. e;
    puts = λ m w a at e. elim (cases_eq m.0 n) [
      | inl i ↦ absurd (none_end a (sym unstamped ∙ ap (λ (x : Version). stamp_in (ends_in s') x.begin) (some_version (fresh t row) w (sym now.here ∙ ap (λ (j : ℕ). version_at slots' (number j)) (sym i) ∙ at)) ∙ e))
      | inr d ↦ (m, w, sym (now.others m d) ∙ at, refl, e)
    ];
  }
    where
      none_end : (e : ℕ) → ◌≡◌ {A = Option ℕ} None (Some e) → ⊥
      none_end e q = cc

  put_at : (u : ℕ) (w : Word) (q : WordPlace) → IsWordAt s' slots u w q → IsWordAt s' slots' u w q
  put_at u w q o = record {
    version = o.version;
    at = now.others (number_at_word q) (λ i. no_version o.version (sym (was_hole q i) ∙ o.at)) ∙ o.at;
    named = o.named;
    is = word_like s' s' slots slots' u w q o.version o.version (put_like u) (version_like_self s' s' u o.version refl) o.is;
  }

  put_written : (u : ℕ) → u ≢ t → (m : ℕ) → own_words u (version_at slots' (number m)) ≡ own_words u (version_at slots (number m))
  put_written u d m = elim (cases_eq m n) [
    | inl i ↦ ap (λ (j : ℕ). own_words u (version_at slots' (number j))) i ∙ ap (own_words u) now.here ∙ ap (λ (b : Bool). cond {A = Option (RowKey × Bool × Bool)} (b || false) (Some (row.key, b, false)) None) (ne_eqb t u (λ e. d (sym e))) ∙ sym (ap (λ (j : ℕ). own_words u (version_at slots (number j))) i ∙ ap (own_words u) hole)
    | inr o ↦ ap (own_words u) (now.others (number m) o)
  ]

  put_own : (u : ℕ) → u ≢ t → (ws : List Word) → HasOwnWords s' slots u ws (lists u) → HasOwnWords s' slots' u ws (lists' u)
  put_own u d ws o = subst (HasOwnWords s' slots' u ws) (sym (list.others u d)) (record { stand = stand_weaker s' s' slots slots' u (put_at u) ws (lists u) o.stand; written = others_keep_written u slots slots' (map (λ q. (number_at_word q).0) (lists u)) (put_written u d) o.written })

  put_ended : (u : EndedTx) → u.id ≢ t → IsEndedListed s' slots lists u → IsEndedListed s' slots' lists' u
  put_ended u d o =
      subst (λ qs. StandAt s' slots' u.id u.words (places_naming slots' u.id qs)) (sym (list.others u.id d))
      (subst (StandAt s' slots' u.id u.words) (filter_always (names_at slots u.id) (names_at slots' u.id) (lists u.id) (λ q. sym (put_names u.id d q))) (stand_weaker s' s' slots slots' u.id (put_at u.id) u.words (places_naming slots u.id (lists u.id)) o))

  pub put_around : (ws : List Word) (us : List EndedTx) → IsListedAround s s' slots lists t ws us → IsListedAround s s' slots' lists' t (ws ++ Own ∷ []) us
  put_around ws us h = record {
    once = put_once h.once (not_counted (names_at slots t) (Begin (number n)) (lists t) (names_none slots t (Begin (number n)) hole) (stand_named s' slots t ws (lists t) h.mine));
    active = each_weaker (λ q. q.id ≢ t → IsActiveListed s' slots lists q) (λ q. q.id ≢ t → IsActiveListed s' slots' lists' q) (λ q o d. put_own q.id d (words_of q.history q.claims) (o d)) s.active h.active;
    preparing = each_both (λ x. x.settled ≡ false → x.id ≢ t) (IsPreparingListed s' slots lists) (IsPreparingListed s' slots' lists') (λ x d o q. put_own x.id (d q) (words_of x.history x.claims) (o q)) s.stamped h.apart h.preparing;
    ended = each_both (λ u. u.id ≢ t) (IsEndedListed s' slots lists) (IsEndedListed s' slots' lists') (λ u d o. put_ended u d o) us h.apart_ended h.ended;
    mine = subst (StandAt s' slots' t (ws ++ Own ∷ [])) (sym list.here) (stand_push s' slots' t ws (Own ∷ []) (lists t) (Begin (number n) ∷ []) (stand_weaker s' s' slots slots' t (put_at t) ws (lists t) h.mine) (record { version = fresh t row; at = now.here; named = own_name t; is = tt }, tt));
    apart = h.apart;
    apart_ended = h.apart_ended;
  }

-- ---- t ends a version
module _ (s s' : State) (slots slots' : Slots) (lists lists' : WordLists) (t : ℕ) (v : Version) (n : ℕ) (le : s.clock ≤ s'.clock) (path : ends_in s' ≡ ends_in s) (at : version_at slots (number n) ≡ Some v) (now : HaveNow slots slots' n (ended_by t v)) (list : HaveListNow lists lists' t (lists t ++ End (number n) ∷ [])) (kept : names t v.end ≡ false) where
  end_here : (q : WordPlace) → (number_at_word q).0 ≡ n → version_at slots' (number_at_word q) ≡ Some (ended_by t v)
  end_here q i = ap (λ (j : ℕ). version_at slots' (number j)) i ∙ now.here

  end_was : (q : WordPlace) → (number_at_word q).0 ≡ n → version_at slots (number_at_word q) ≡ Some v
  end_was q i = ap (λ (j : ℕ). version_at slots (number j)) i ∙ at

  -- but for its End, the version names whom it named
  pub end_beside : (u : ℕ) (q : WordPlace) → (q ≡ End (number n) → ⊥) → names_at slots' u q ≡ names_at slots u q
  end_beside u q d = elim (cases_eq (number_at_word q).0 n) [
    | inl i ↦ names_here slots' u q (ended_by t v) (end_here q i) ∙ go q d i ∙ sym (names_here slots u q v (end_was q i))
    | inr m ↦ names_like slots slots' u q (now.others (number_at_word q) m)
  ]
    where
      go : (q : WordPlace) → (q ≡ End (number n) → ⊥) → (number_at_word q).0 ≡ n → names u (word_at q (ended_by t v)) ≡ names u (word_at q v)
      go (Begin m) d i = refl
      go (End m) d i = absurd (d (ap (λ (j : ℕ). End (record { 0 = j })) i))

  pub end_gone : (u : ℕ) → u ≢ t → names_at slots' u (End (number n)) ≡ false
  end_gone u d = names_here slots' u (End (number n)) (ended_by t v) now.here ∙ ne_eqb t u (λ e. d (sym e))

  -- who isn't named by it
  end_names : (u : ℕ) → u ≢ t → names u v.end ≡ false → (q : WordPlace) → names_at slots' u q ≡ names_at slots u q
  end_names u d free q = elim (place_cases q (End (number n))) [
    | inl i ↦ ap (names_at slots' u) i ∙ end_gone u d ∙ sym (ap (names_at slots u) i ∙ names_here slots u (End (number n)) v at ∙ free)
    | inr o ↦ end_beside u q (place_apart q (End (number n)) o)
  ]

  end_once : AreOnce slots lists → how_many (is_place (End (number n))) (lists t) ≡ 0 → AreOnce slots' lists'
  end_once once zero = once_pushed slots slots' lists lists' t (End (number n)) list zero old once
    where
      old : (u : ℕ) (q : WordPlace) → names_at slots' u q ≡ true → IsNewOrOld slots t (End (number n)) u q
      old u q e = elim (place_cases q (End (number n))) [
        | inl i ↦ inr (i, sym (eqb-true t u (sym (names_here slots' u (End (number n)) (ended_by t v) now.here) ∙ sym (ap (names_at slots' u) i) ∙ e)))
        | inr o ↦ inl (o, sym (end_beside u q (place_apart q (End (number n)) o)) ∙ e)
      ]

  end_like : (u : ℕ) → IsLike s s' slots slots' u
  end_like u = record {
    clock = le;
    own = λ a e. ap (λ (x : Ends). x u) path ∙ e;
    puts = λ m w a there e. elim (cases_eq m.0 n) [
      | inl i ↦
          let is : ended_by t v ≡ w = some_version (ended_by t v) w (sym now.here ∙ ap (λ (j : ℕ). version_at slots' (number j)) (sym i) ∙ there) in
          (number n, v, at, ap (λ (x : Version). x.row.key) is, sym (ap (λ (x : Ends). stamp_in x v.begin) path) ∙ ap (λ (x : Version). stamp_in (ends_in s') x.begin) is ∙ e)
      | inr d ↦ (m, w, sym (now.others m d) ∙ there, refl, sym (ap (λ (x : Ends). stamp_in x w.begin) path) ∙ e)
    ];
  }

  pub end_at : (u : ℕ) (w : Word) (q : WordPlace) → names_at slots' u q ≡ true → IsWordAt s slots u w q → IsWordAt s' slots' u w q
  end_at u w q e o = elim (cases_eq (number_at_word q).0 n) [
    | inl i ↦ record {
      version = ended_by t v;
      at = end_here q i;
      named = sym (names_here slots' u q (ended_by t v) (end_here q i)) ∙ e;
      is = word_like s s' slots slots' u w q v (ended_by t v) (end_like u) (record { key = refl; stamp = ap (λ (x : Ends). stamp_in x v.begin) path; begin = λ x. x }) (subst (λ (y : Version). IsWordOf s slots u w q y) (some_version o.version v (sym o.at ∙ end_was q i)) o.is);
    }
    | inr d ↦ record {
      version = o.version;
      at = now.others (number_at_word q) d ∙ o.at;
      named = o.named;
      is = word_like s s' slots slots' u w q o.version o.version (end_like u) (version_like_self s s' u o.version path) o.is;
    }
  ]

  end_stand : (u : ℕ) → ((q : WordPlace) → names_at slots u q ≡ true → names_at slots' u q ≡ true) → (ws : List Word) (qs : List WordPlace) → StandAt s slots u ws qs → StandAt s' slots' u ws qs
  end_stand u f ws qs o = stand_weaker s s' slots slots' u (λ w q x. end_at u w q (f q (names_here slots u q x.version x.at ∙ x.named)) x) ws qs o

  end_written : (u : ℕ) → u ≢ t → names u v.end ≡ false → (m : ℕ) → own_words u (version_at slots' (number m)) ≡ own_words u (version_at slots (number m))
  end_written u d free m = elim (cases_eq m n) [
    | inl i ↦ ap (λ (j : ℕ). own_words u (version_at slots' (number j))) i ∙ ap (own_words u) now.here ∙ ap (λ (b : Bool). cond {A = Option (RowKey × Bool × Bool)} (names u v.begin || b) (Some (v.row.key, names u v.begin, b)) None) (ne_eqb t u (λ e. d (sym e)) ∙ sym free) ∙ sym (ap (λ (j : ℕ). own_words u (version_at slots (number j))) i ∙ ap (own_words u) at)
    | inr o ↦ ap (own_words u) (now.others (number m) o)
  ]

  end_own : (u : ℕ) → u ≢ t → names u v.end ≡ false → (ws : List Word) → HasOwnWords s slots u ws (lists u) → HasOwnWords s' slots' u ws (lists' u)
  end_own u d free ws o = subst (HasOwnWords s' slots' u ws) (sym (list.others u d)) (record { stand = end_stand u (λ q e. end_names u d free q ∙ e) ws (lists u) o.stand; written = others_keep_written u slots slots' (map (λ q. (number_at_word q).0) (lists u)) (end_written u d free) o.written })

  pub end_ended : (u : EndedTx) → u.id ≢ t → names u.id v.end ≡ false → IsEndedListed s slots lists u → StandAt s' slots' u.id u.words (places_naming slots' u.id (lists' u.id))
  end_ended u d free o =
      subst (λ qs. StandAt s' slots' u.id u.words (places_naming slots' u.id qs)) (sym (list.others u.id d))
      (subst (StandAt s' slots' u.id u.words) (filter_always (names_at slots u.id) (names_at slots' u.id) (lists u.id) (λ q. sym (end_names u.id d free q))) (end_stand u.id (λ q e. end_names u.id d free q ∙ e) u.words (places_naming slots u.id (lists u.id)) o))

  pub end_around : (ws : List Word) (w : Word) (us us' : List EndedTx) → AllByRecursion (λ q. names q.id v.end ≡ false) s.active → AllByRecursion (λ x. x.settled ≡ false → names x.id v.end ≡ false) s.stamped → AllByRecursion (λ u. u.id ≢ t) us' → AllByRecursion (IsEndedListed s' slots' lists') us' → IsWordAt s' slots' t w (End (number n)) → IsListedAround s s slots lists t ws us → IsListedAround s s' slots' lists' t (ws ++ w ∷ []) us'
  end_around ws w us us' free free' apart ended mine h = record {
    once = end_once h.once (not_counted (names_at slots t) (End (number n)) (lists t) (names_here slots t (End (number n)) v at ∙ kept) (stand_named s slots t ws (lists t) h.mine));
    active = each_both (λ q. names q.id v.end ≡ false) (λ q. q.id ≢ t → IsActiveListed s slots lists q) (λ q. q.id ≢ t → IsActiveListed s' slots' lists' q) (λ q e o d. end_own q.id d e (words_of q.history q.claims) (o d)) s.active free h.active;
    preparing = each_both (λ x. x.settled ≡ false → (x.id ≢ t) × (names x.id v.end ≡ false)) (IsPreparingListed s slots lists) (IsPreparingListed s' slots' lists') (λ x d o q. end_own x.id (d q).0 (d q).1 (words_of x.history x.claims) (o q)) s.stamped (each_both (λ x. x.settled ≡ false → x.id ≢ t) (λ x. x.settled ≡ false → names x.id v.end ≡ false) (λ x. x.settled ≡ false → (x.id ≢ t) × (names x.id v.end ≡ false)) (λ x d e q. (d q, e q)) s.stamped h.apart free') h.preparing;
    ended = ended;
    mine = subst (StandAt s' slots' t (ws ++ w ∷ [])) (sym list.here) (stand_push s' slots' t ws (w ∷ []) (lists t) (End (number n) ∷ []) (end_stand t still ws (lists t) h.mine) (mine, tt));
    apart = h.apart;
    apart_ended = apart;
  }
    where
      still : (q : WordPlace) → names_at slots t q ≡ true → names_at slots' t q ≡ true
      still q e = elim (place_cases q (End (number n))) [
        | inl i ↦ absurd (true≢false (sym e ∙ ap (names_at slots t) i ∙ names_here slots t (End (number n)) v at ∙ kept))
        | inr o ↦ end_beside t q (place_apart q (End (number n)) o) ∙ e
      ]

  -- ---- it was claimed before, by one that was aborted
  module _ (c : Claim) (key : c.key ≡ v.row.key) (put : stamp_in (ends_in s) v.begin ≡ Some c.origin) (once : (m : VersionNo) (w : Version) → version_at slots m ≡ Some w → w.row.key ≡ v.row.key → stamp_in (ends_in s) w.begin ≡ Some c.origin → stamp_in (ends_in s) w.end ≡ None → m.0 ≡ n) where
    none_end : (e : ℕ) → ◌≡◌ {A = Option ℕ} None (Some e) → ⊥
    none_end e q = cc

    some_end : (a b : ℕ) → ◌≡◌ {A = Option ℕ} (Some a) (Some b) → a ≡ b
    some_end a b q = cc

    -- another's End stays
    other_end : (u : ℕ) (d : Claim) (m : VersionNo) (w : Version) → ends_in s u ≡ None → version_at slots m ≡ Some w → names u w.end ≡ true → IsOfClaim s slots u d w → (m.0 ≡ n → ⊥) → is_end_of c (Ended d) ≡ false
    other_end u d m w out there name o far = go (is_end_of c (Ended d)) refl
      where
        by : (eq_by_cmp key_cmp c.key d.key ≡ true) × (eqb c.origin d.origin ≡ true) → ⊥
        by p =
            let k : c.key ≡ d.key = sym (key_same c.key d.key p.0) in
            let i : c.origin ≡ d.origin = eqb-true c.origin d.origin p.1 in
            elim o.put [
              | inl q ↦ far (once m w there (o.key ∙ sym k ∙ key) (q ∙ ap (λ (z : ℕ). Some z) (sym i)) (named_end (ends_in s) u w.end name ∙ out))
              | inr q ↦ q.1 (number n) v at (sym key ∙ k) (put ∙ ap (λ (z : ℕ). Some z) i)
            ]

        go : (b : Bool) → is_end_of c (Ended d) ≡ b → is_end_of c (Ended d) ≡ false
        go true e = absurd (by (and_parts (eq_by_cmp key_cmp c.key d.key) (eqb c.origin d.origin) e))
        go false e = e

    -- its End is the one that is taken over
    this_end : (u : ℕ) (d : Claim) → IsOfClaim s slots u d v → is_end_of c (Ended d) ≡ true
    this_end u d o = and_from (eq_by_cmp key_cmp c.key d.key) (eqb c.origin d.origin) (subst (λ (k : RowKey). eq_by_cmp key_cmp c.key k ≡ true) (key ∙ o.key) ((eq_by_cmp_equiv keys_total).refl c.key)) (eq-eqb c.origin d.origin (same o.put))
      where
        same : (stamp_in (ends_in s) v.begin ≡ Some d.origin) ⊎ ((stamp_in (ends_in s) v.begin ≡ None) × IsGone (ends_in s) slots d) → c.origin ≡ d.origin
        same (inl q) = some_end c.origin d.origin (sym put ∙ q)
        same (inr q) = absurd (none_end c.origin (sym q.0 ∙ put))

    taken_pair : (u : ℕ) → u ≢ t → ends_in s u ≡ None → (w : Word) (q : WordPlace) → IsWordAt s slots u w q → names_at slots' u q ≡ not (is_end_of c w)
    taken_pair u d out w q o = go w q o.version o.at o.named o.is
      where
        stays : (q : WordPlace) (x : Version) → version_at slots (number_at_word q) ≡ Some x → names u (word_at q x) ≡ true → (q ≡ End (number n) → ⊥) → names_at slots' u q ≡ true
        stays q x there name far = end_beside u q far ∙ names_here slots u q x there ∙ name

        begin_far : (m : VersionNo) → Begin m ≡ End (number n) → ⊥
        begin_far m i = false≢true (ap (is_place (Begin m)) (sym i) ∙ eq-eqb m.0 m.0 refl)

        far_of : (m : VersionNo) → (m.0 ≡ n → ⊥) → End m ≡ End (number n) → ⊥
        far_of m f i = f (ap (λ (x : WordPlace). (number_at_word x).0) i)

        gone : (m : VersionNo) → m.0 ≡ n → names_at slots' u (End m) ≡ false
        gone m i = ap (λ (j : ℕ). names_at slots' u (End (record { 0 = j }))) i ∙ end_gone u d

        go : (w : Word) (q : WordPlace) (x : Version) → version_at slots (number_at_word q) ≡ Some x → names u (word_at q x) ≡ true → IsWordOf s slots u w q x → names_at slots' u q ≡ not (is_end_of c w)
        go Own (Begin m) x there name is = stays (Begin m) x there name (begin_far m)
        go Own (End m) x there name is = elim (cases_eq m.0 n) [
          | inl i ↦ absurd (none_end c.origin (sym out ∙ is c.origin (ap (λ (y : Version). stamp_in (ends_in s) y.begin) (some_version x v (sym there ∙ ap (λ (j : ℕ). version_at slots (number j)) i ∙ at)) ∙ put)))
          | inr f ↦ stays (End m) x there name (far_of m f)
        ]
        go (Ended e) (Begin m) x there name is = absurd is
        go (Ended e) (End m) x there name is = elim (cases_eq m.0 n) [
          | inl i ↦ gone m i ∙ sym (ap not (this_end u e (subst (IsOfClaim s slots u e) (some_version x v (sym there ∙ ap (λ (j : ℕ). version_at slots (number j)) i ∙ at)) is)))
          | inr f ↦ stays (End m) x there name (far_of m f) ∙ sym (ap not (other_end u e m x out there name is f))
        ]

    narrower : (u : ℕ) → u ≢ t → (q : WordPlace) → names_at slots' u q ≡ true → names_at slots u q ≡ true
    narrower u d q e = elim (place_cases q (End (number n))) [
      | inl i ↦ absurd (true≢false (sym e ∙ ap (names_at slots' u) i ∙ end_gone u d))
      | inr o ↦ sym (end_beside u q (place_apart q (End (number n)) o)) ∙ e
    ]

    pub taken_ended : (u : EndedTx) → u.id ≢ t → ends_in s u.id ≡ None → IsEndedListed s slots lists u → StandAt s' slots' u.id (filter (λ w. not (is_end_of c w)) u.words) (places_naming slots' u.id (lists' u.id))
    taken_ended u d out o =
        subst (λ qs. StandAt s' slots' u.id (filter (λ w. not (is_end_of c w)) u.words) (places_naming slots' u.id qs)) (sym (list.others u.id d))
        (subst (StandAt s' slots' u.id (filter (λ w. not (is_end_of c w)) u.words)) (sym (filter_narrow (names_at slots' u.id) (names_at slots u.id) (lists u.id) (narrower u.id d)))
        (stand_kept s s' slots slots' u.id (λ w q e x. end_at u.id w q e x) (filter (λ w. not (is_end_of c w)) u.words) (filter (names_at slots' u.id) (places_naming slots u.id (lists u.id))) (each_passes (names_at slots' u.id) (places_naming slots u.id (lists u.id)))
        (stand_less s slots u.id (λ w. not (is_end_of c w)) (names_at slots' u.id) (taken_pair u.id d out) u.words (places_naming slots u.id (lists u.id)) o)))
