-- Finishing a word, one of several or the last, keeps the lists.
use Rattle.std.proofs.Common.{◌≡◌, ◌≢◌, ℕ, ◌+◌, ◌≤◌, suc, Bool, true, false, cond, ◌||◌, List, [], ◌∷◌, length, map, Option, None, Some, refl, sym, ap, ◌∙◌, subst, arith, ◌⊎◌, inl, inr}
use Rattle.std.specs.Prelude.{◌==◌, nat_le, drop}
use Rattle.std.specs.List.{AllByRecursion, list_any}
use Rattle.std.proofs.lemmas.Bool.{cases_eq, eq-eqb, ne_eqb, true≢false, false≢true, leb-true}
use Rattle.mvo_types.specs.declared.row.RowKey.{RowKey}
use Rattle.mvo_model.specs.Trace.Phase.{Absent}
use Rattle.mvo_model.specs.Trace.Step.{Terminates}
use Rattle.mvo_theory.specs.State.{State, EndedTx, Word, ended_of, is_ended_as}
use Rattle.mvo_theory.specs.Words.{words_of, words_left}
use Rattle.mvo_theory.specs.Changes.{with_words, without_ended, after_termination}
use Rattle.mvo_theory.specs.Phases.{phase_in}
use Rattle.mvo_theory.specs.Sound.{IsSingle, how_many}
use Rattle.mvo_theory.proofs.Each.{each_weaker, each_both, each_map}
use Rattle.mvo_theory.proofs.Phases.{Leads, leads_after_termination}
use Rattle.mvo_theory.proofs.Single.{each_without}
use Rattle.mvo_theory.proofs.EndSteps.{filter_same}
use Rattle.mvo_word.specs.declared.held.Held.TheVariants.{Infinity}
use Rattle.mvo_chain.specs.declared.version.Version.{Version}
use Rattle.mvo_chain.specs.declared.version.VersionNo.{VersionNo}
use Rattle.mvo_chain.specs.Slots.{Slots, version_at}
use Rattle.mvo_hash.specs.Lists.{number}
use Rattle.mvo_visible.specs.Words.{States, names}
use Rattle.mvo_work.specs.declared.word_place.WordPlace.{WordPlace}
use Rattle.mvo_work.specs.declared.word_place.WordPlace.TheVariants.{Begin, End}
use Rattle.mvo_representation.specs.Words.{Ends, ends_of, end_in, stamp_in}
use Rattle.mvo_representation.specs.Versions.{AreVersionsOf}
use Rattle.mvo_representation.specs.Indexes.{all_versions}
use Rattle.mvo_representation.specs.Steps.{IsUnnamed}
use Rattle.mvo_representation.specs.Table.{phases_of}
use Rattle.mvo_representation.specs.Order.{own_words, word_of_stamp}
use Rattle.mvo_representation.specs.OrderLaws.{HaveNow}
use Rattle.mvo_representation.specs.WordLists.{WordLists, HaveListNow, number_at_word, word_at, is_place, names_at, places_naming, finished, IsWordOf, IsWordAt, StandAt, HasOwnWords, HasWordLists}
use Rattle.mvo_representation.specs.WordLaws.{FinishKeepsLists, LastIsUnnamed, LastKeepsLists, LeavingKeepsLists}
use Rattle.mvo_representation.proofs.Ending.{named_end}
use Rattle.mvo_representation.proofs.OrderSteps.{live}
use Rattle.mvo_representation.proofs.OrderWritten.{others_keep_written}
use Rattle.mvo_representation.proofs.Quiet.{with_end, ends_turn, stamp_other}
use Rattle.mvo_representation.proofs.Reworded.{phase_with_words}
use Rattle.mvo_representation.proofs.WordPlaces.{not_other, names_here, names_like, place_same, place_apart, place_cases, filter_always, each_passes, counted_none, counted_passes}
use Rattle.mvo_representation.proofs.WordPairs.{ends_in, IsLike, IsLikeVersion, word_like, version_like_self, stand_weaker, stand_kept, stand_rest, stand_self}
use Rattle.mvo_representation.proofs.WordsKept.{IsActiveListed, IsPreparingListed, IsEndedListed, own_self, unnamed_at}
use Rattle.mvo_representation.proofs.WordsSaid.{not_the_one, ended_not_active, ended_not_preparing, ended_there, active_beside, preparing_beside, unnamed_where_none, none_is_unnamed, done_is_seen, none_pass}
use Rattle.mvo_representation.proofs.Slots.{some_version}

-- ---- a version with a finished word
-- a word that names nobody
pub nobody : (t : ℕ) (o : Option ℕ) → names t (word_of_stamp o) ≡ false
nobody t None = refl
nobody t (Some e) = refl

pub its_stamp : (ends : Ends) (o : Option ℕ) → stamp_in ends (word_of_stamp o) ≡ o
its_stamp ends None = refl
its_stamp ends (Some e) = refl

module _ (ends : Ends) (t : ℕ) where
  pub row_stays : (p : WordPlace) (v : Version) → (finished ends t p v).row ≡ v.row
  row_stays (Begin n) v = refl
  row_stays (End n) v = refl

  pub word_goes : (u : ℕ) (p : WordPlace) (v : Version) → names u (word_at p (finished ends t p v)) ≡ false
  word_goes u (Begin n) v = nobody u (ends t)
  word_goes u (End n) v = nobody u (ends t)

  pub begin_alike : (p : WordPlace) (v : Version) → names t (word_at p v) ≡ true → stamp_in ends (finished ends t p v).begin ≡ stamp_in ends v.begin
  begin_alike (Begin n) v e = its_stamp ends (ends t) ∙ sym (named_end ends t v.begin e)
  begin_alike (End n) v e = refl

  pub end_alike : (p : WordPlace) (v : Version) → names t (word_at p v) ≡ true → stamp_in ends (finished ends t p v).end ≡ stamp_in ends v.end
  end_alike (Begin n) v e = refl
  end_alike (End n) v e = its_stamp ends (ends t) ∙ sym (named_end ends t v.end e)

  pub begin_unnamed : (u : ℕ) (p : WordPlace) (v : Version) → names u v.begin ≡ false → names u (finished ends t p v).begin ≡ false
  begin_unnamed u (Begin n) v e = nobody u (ends t)
  begin_unnamed u (End n) v e = e

  pub begin_names : (u : ℕ) (p : WordPlace) (v : Version) → names t (word_at p v) ≡ true → u ≢ t → names u (finished ends t p v).begin ≡ names u v.begin
  begin_names u (Begin n) v e d = nobody u (ends t) ∙ sym (not_other t u v.begin e d)
  begin_names u (End n) v e d = refl

  pub end_names : (u : ℕ) (p : WordPlace) (v : Version) → names t (word_at p v) ≡ true → u ≢ t → names u (finished ends t p v).end ≡ names u v.end
  end_names u (Begin n) v e d = refl
  end_names u (End n) v e d = nobody u (ends t) ∙ sym (not_other t u v.end e d)

  pub end_stays : (p : WordPlace) (v : Version) → names t (word_at p v) ≡ true → v.end ≡ Infinity → (finished ends t p v).end ≡ Infinity
  end_stays (Begin n) v e i = i
  end_stays (End n) v e i = absurd (false≢true (sym (ap (names t) i) ∙ e))

  pub same_own : (u : ℕ) (p : WordPlace) (v : Version) → names t (word_at p v) ≡ true → u ≢ t → own_words u (Some (finished ends t p v)) ≡ own_words u (Some v)
  same_own u p v e d =
      ap (λ (k : RowKey). cond {A = Option (RowKey × Bool × Bool)} (names u (finished ends t p v).begin || names u (finished ends t p v).end) (Some (k, names u (finished ends t p v).begin, names u (finished ends t p v).end)) None) (ap (λ r. r.key) (row_stays p v))
      ∙ ap (λ (b : Bool). cond {A = Option (RowKey × Bool × Bool)} (b || names u (finished ends t p v).end) (Some (v.row.key, b, names u (finished ends t p v).end)) None) (begin_names u p v e d)
      ∙ ap (λ (b : Bool). cond {A = Option (RowKey × Bool × Bool)} (names u v.begin || b) (Some (v.row.key, names u v.begin, b)) None) (end_names u p v e d)

-- ---- the places, once one is finished
module _ (slots slots' : Slots) (ends : Ends) (t : ℕ) (p : WordPlace) (v : Version) (at : version_at slots (number_at_word p) ≡ Some v) (now : HaveNow slots slots' (number_at_word p).0 (finished ends t p v)) where
  pub names_gone : (u : ℕ) → names_at slots' u p ≡ false
  names_gone u = names_here slots' u p (finished ends t p v) now.here ∙ word_goes ends t u p v

  at_same : (q : WordPlace) → (number_at_word q).0 ≡ (number_at_word p).0 → (version_at slots (number_at_word q) ≡ Some v) × (version_at slots' (number_at_word q) ≡ Some (finished ends t p v))
  at_same q i = (ap (λ (j : ℕ). version_at slots (number j)) i ∙ at, ap (λ (j : ℕ). version_at slots' (number j)) i ∙ now.here)

  -- another place names whom it named
  pub names_beside : (u : ℕ) (q : WordPlace) → (q ≡ p → ⊥) → names_at slots' u q ≡ names_at slots u q
  names_beside u q d = elim (cases_eq (number_at_word q).0 (number_at_word p).0) [
    | inl i ↦ let e = at_same q i in names_here slots' u q (finished ends t p v) e.1 ∙ go p q d i ∙ sym (names_here slots u q v e.0)
    | inr n ↦ names_like slots slots' u q (now.others (number_at_word q) n)
  ]
    where
      go : (p q : WordPlace) → (q ≡ p → ⊥) → (number_at_word q).0 ≡ (number_at_word p).0 → names u (word_at q (finished ends t p v)) ≡ names u (word_at q v)
      go (Begin n) (Begin m) d i = absurd (d (ap (λ (j : ℕ). Begin (record { 0 = j })) i))
      go (Begin n) (End m) d i = refl
      go (End n) (Begin m) d i = refl
      go (End n) (End m) d i = absurd (d (ap (λ (j : ℕ). End (record { 0 = j })) i))

  pub not_it : (u : ℕ) (q : WordPlace) → names_at slots' u q ≡ true → q ≡ p → ⊥
  not_it u q e i = true≢false (sym e ∙ ap (names_at slots' u) i ∙ names_gone u)

  pub named_before : (u : ℕ) (q : WordPlace) → names_at slots' u q ≡ true → names_at slots u q ≡ true
  named_before u q e = sym (names_beside u q (not_it u q e)) ∙ e

-- ---- it is the last one
counted_behind : (p q : WordPlace) (ps : List WordPlace) → (q ≡ p → ⊥) → how_many (is_place q) (p ∷ ps) ≡ 1 → how_many (is_place q) ps ≡ 1
counted_behind p q ps d o = elim (place_cases q p) [
  | inl i ↦ absurd (d i)
  | inr n ↦ let z : cond {A = ℕ} (is_place q p) 1 0 ≡ 0 = ap (λ (b : Bool). cond b 1 0) n in omega (arith, o, z)
]

counted_first : (p : WordPlace) (ps : List WordPlace) → how_many (is_place p) (p ∷ ps) ≡ 1 → is_place p p ≡ true → how_many (is_place p) ps ≡ 0
counted_first p ps o e = let z : cond {A = ℕ} (is_place p p) 1 0 ≡ 1 = ap (λ (b : Bool). cond b 1 0) e in omega (arith, o, z)

none_long : (ps : List WordPlace) → suc (length ps) ≤ 1 → ps ≡ []
none_long [] le = refl
none_long (p ∷ ps) le = absurd (omega (arith, le))

pub last_is_unnamed : LastIsUnnamed
last_is_unnamed s states slots slots' words u p ps v e is at name fin' now l = unnamed_where_none slots' u.id (λ q n.
    let d = not_it slots slots' (ends_of (phases_of states)) u.id p v at now u.id q n in
    let b = named_before slots slots' (ends_of (phases_of states)) u.id p v at now u.id q n in
    let o = counted_behind p q ps d (ap (how_many (is_place q)) (sym is) ∙ l.once u.id q b) in
    let z = counted_passes (names_at slots u.id) q ps b none in
    absurd (omega (arith, o, z)))
  where
    front : places_naming slots u.id (words u.id) ≡ p ∷ places_naming slots u.id ps
    front = ap (places_naming slots u.id) is ∙ ap (λ (b : Bool). cond b (p ∷ places_naming slots u.id ps) (places_naming slots u.id ps)) name

    none : places_naming slots u.id ps ≡ []
    none = none_long (places_naming slots u.id ps) (leb-true (length (p ∷ places_naming slots u.id ps)) 1 (ap (λ qs. nat_le (length qs) 1) (sym front) ∙ sym (done_is_seen s slots words u e l) ∙ fin'))

-- ---- the others
pub record AreOthersListed (s : State) (slots : Slots) (lists : WordLists) (t : ℕ) : Type 0 where
  pub once : (u : ℕ) (q : WordPlace) → u ≢ t → names_at slots u q ≡ true → how_many (is_place q) (lists u) ≡ 1
  pub active : AllByRecursion (IsActiveListed s slots lists) s.active
  pub preparing : AllByRecursion (IsPreparingListed s slots lists) s.stamped
  pub ended : AllByRecursion (λ x. x.id ≢ t → IsEndedListed s slots lists x) s.ended

-- so they are where all are
others_of : (s : State) (slots : Slots) (lists : WordLists) (t : ℕ) → HasWordLists s slots lists → AreOthersListed s slots lists t
others_of s slots lists t l = record {
  once = λ u q _ e. l.once u q e;
  active = l.active;
  preparing = l.preparing;
  ended = each_weaker (IsEndedListed s slots lists) (λ x. x.id ≢ t → IsEndedListed s slots lists x) (λ x o _. o) s.ended l.ended;
}

module _ (s : State) (slots slots' : Slots) (lists : WordLists) (u : EndedTx) (p : WordPlace) (v : Version) (single : IsSingle s) (e : ended_of u.id s.ended ≡ Some u) (at : version_at slots (number_at_word p) ≡ Some v) (name : names u.id (word_at p v) ≡ true) (now : HaveNow slots slots' (number_at_word p).0 (finished (ends_in s) u.id p v)) where
  like : (s' : State) (t : ℕ) → s.clock ≤ s'.clock → ends_in s' ≡ ends_in s → IsLike s s' slots slots' t
  like s' t le same = record {
    clock = le;
    own = λ a q. ap (λ (x : Ends). x t) same ∙ q;
    puts = λ m w a there q. elim (cases_eq m.0 (number_at_word p).0) [
      | inl i ↦
          let is : finished (ends_in s) u.id p v ≡ w = some_version (finished (ends_in s) u.id p v) w (sym now.here ∙ ap (λ (j : ℕ). version_at slots' (number j)) (sym i) ∙ there) in
          (number_at_word p, v, at, sym (ap (λ r. r.key) (row_stays (ends_in s) u.id p v)) ∙ ap (λ (x : Version). x.row.key) is, sym (begin_alike (ends_in s) u.id p v name) ∙ ap (λ (x : Version). stamp_in (ends_in s) x.begin) is ∙ sym (ap (λ (x : Ends). stamp_in x w.begin) same) ∙ q)
      | inr d ↦ (m, w, sym (now.others m d) ∙ there, refl, sym (ap (λ (x : Ends). stamp_in x w.begin) same) ∙ q)
    ];
  }

  version_like : (s' : State) (t : ℕ) → ends_in s' ≡ ends_in s → IsLikeVersion s s' t v (finished (ends_in s) u.id p v)
  version_like s' t same = record {
    key = ap (λ r. r.key) (row_stays (ends_in s) u.id p v);
    stamp = ap (λ (x : Ends). stamp_in x (finished (ends_in s) u.id p v).begin) same ∙ begin_alike (ends_in s) u.id p v name;
    begin = λ n. begin_unnamed (ends_in s) u.id t p v n;
  }

  pub at_finished : (s' : State) (t : ℕ) → s.clock ≤ s'.clock → ends_in s' ≡ ends_in s → (w : Word) (q : WordPlace) → names_at slots' t q ≡ true → IsWordAt s slots t w q → IsWordAt s' slots' t w q
  at_finished s' t le same w q n o = elim (cases_eq (number_at_word q).0 (number_at_word p).0) [
    | inl i ↦
        let x = at_same slots slots' (ends_in s) u.id p v at now q i in
        let is : o.version ≡ v = some_version o.version v (sym o.at ∙ x.0) in
        record {
          version = finished (ends_in s) u.id p v;
          at = x.1;
          named = sym (names_here slots' t q (finished (ends_in s) u.id p v) x.1) ∙ n;
          is = word_like s s' slots slots' t w q v (finished (ends_in s) u.id p v) (like s' t le same) (version_like s' t same) (subst (λ (y : Version). IsWordOf s slots t w q y) is o.is);
        }
    | inr d ↦ record {
      version = o.version;
      at = now.others (number_at_word q) d ∙ o.at;
      named = o.named;
      is = word_like s s' slots slots' t w q o.version o.version (like s' t le same) (version_like_self s s' t o.version same) o.is;
    }
  ]

  -- no other transaction had the word
  pub names_same : (t : ℕ) → t ≢ u.id → (q : WordPlace) → names_at slots' t q ≡ names_at slots t q
  names_same t d q = elim (place_cases q p) [
    | inl i ↦ ap (names_at slots' t) i ∙ names_gone slots slots' (ends_in s) u.id p v at now t ∙ sym (ap (names_at slots t) i ∙ names_here slots t p v at ∙ not_other u.id t (word_at p v) name d)
    | inr n ↦ names_beside slots slots' (ends_in s) u.id p v at now t q (place_apart q p n)
  ]

  stand_beside : (s' : State) (t : ℕ) → s.clock ≤ s'.clock → ends_in s' ≡ ends_in s → t ≢ u.id → (ws : List Word) (qs : List WordPlace) → StandAt s slots t ws qs → StandAt s' slots' t ws qs
  stand_beside s' t le same d ws qs o = stand_weaker s s' slots slots' t (λ w q x. at_finished s' t le same w q (names_same t d q ∙ names_here slots t q x.version x.at ∙ x.named) x) ws qs o

  own_beside : (s' : State) (t : ℕ) → s.clock ≤ s'.clock → ends_in s' ≡ ends_in s → t ≢ u.id → (ws : List Word) (qs : List WordPlace) → HasOwnWords s slots t ws qs → HasOwnWords s' slots' t ws qs
  own_beside s' t le same d ws qs o = record {
    stand = stand_beside s' t le same d ws qs o.stand;
    written = others_keep_written t slots slots' (map (λ q. (number_at_word q).0) qs) (λ m. elim (cases_eq m (number_at_word p).0) [
      | inl i ↦ ap (λ (j : ℕ). own_words t (version_at slots' (number j))) i ∙ ap (own_words t) now.here ∙ same_own (ends_in s) u.id t p v name d ∙ sym (ap (λ (j : ℕ). own_words t (version_at slots (number j))) i ∙ ap (own_words t) at)
      | inr n ↦ ap (own_words t) (now.others (number m) n)
    ]) o.written;
  }

  pub others_finished : HasWordLists s slots lists → AreOthersListed s slots' lists u.id
  others_finished l = record {
    once = λ t q d n. l.once t q (sym (names_same t d q) ∙ n);
    active = each_both (λ r. r.id ≢ u.id) (IsActiveListed s slots lists) (IsActiveListed s slots' lists) (λ r d o. own_beside s r.id (omega arith) refl d (words_of r.history r.claims) (lists r.id) o) s.active (ended_not_active s u.id u single e) l.active;
    preparing = each_both (λ x. x.settled ≡ false → x.id ≢ u.id) (IsPreparingListed s slots lists) (IsPreparingListed s slots' lists) (λ x d o n. own_beside s x.id (omega arith) refl (d n) (words_of x.history x.claims) (lists x.id) (o n)) s.stamped (ended_not_preparing s u.id u single e) l.preparing;
    ended = each_weaker (IsEndedListed s slots lists) (λ x. x.id ≢ u.id → IsEndedListed s slots' lists x) (λ x o d. subst (StandAt s slots' x.id x.words) (filter_always (names_at slots x.id) (names_at slots' x.id) (lists x.id) (λ q. sym (names_same x.id d q))) (stand_beside s x.id (omega arith) refl d x.words (places_naming slots x.id (lists x.id)) o)) s.ended l.ended;
  }

-- ---- one of several
module _ (s : State) (slots slots' : Slots) (lists lists' : WordLists) (u : EndedTx) (p : WordPlace) (ps : List WordPlace) (v : Version) (single : IsSingle s) (e : ended_of u.id s.ended ≡ Some u) (is : lists u.id ≡ p ∷ ps) (at : version_at slots (number_at_word p) ≡ Some v) (name : names_at slots u.id p ≡ true) (now : HaveNow slots slots' (number_at_word p).0 (finished (ends_in s) u.id p v)) (list : HaveListNow lists lists' u.id ps) (l : HasWordLists s slots lists) where
  word_name : names u.id (word_at p v) ≡ true
  word_name = sym (names_here slots u.id p v at) ∙ name

  path_worded : ends_in (with_words (words_left u.id) s) ≡ ends_in s
  path_worded = λ i t. end_in (phase_with_words (words_left u.id) s t i)

  others : AreOthersListed s slots' lists u.id
  others = others_finished s slots slots' lists u p v single e at word_name now l

  -- the places behind the first name it as before
  rest_same : places_naming slots' u.id ps ≡ places_naming slots u.id ps
  rest_same = filter_same (names_at slots' u.id) (names_at slots u.id) ps
      (each_weaker (λ q. is_place p q ≡ false) (λ q. names_at slots' u.id q ≡ names_at slots u.id q) (λ q d. names_beside slots slots' (ends_in s) u.id p v at now u.id q (λ i. place_apart p q d (sym i))) ps
      (counted_none p ps (counted_first p ps (ap (how_many (is_place p)) (sym is) ∙ l.once u.id p name) (place_same p))))

  left_own : (x : EndedTx) → IsEndedListed s slots lists x → (x.id ≡ u.id) → StandAt (with_words (words_left u.id) s) slots' x.id (drop 1 x.words) (places_naming slots' x.id (lists' x.id))
  left_own x o i =
      subst (λ (j : ℕ). StandAt (with_words (words_left u.id) s) slots' j (drop 1 x.words) (places_naming slots' j (lists' j))) (sym i)
      (subst (λ qs. StandAt (with_words (words_left u.id) s) slots' u.id (drop 1 x.words) (places_naming slots' u.id qs)) (sym list.here)
      (stand_kept s (with_words (words_left u.id) s) slots slots' u.id (λ w q n y. at_finished s slots slots' lists u p v single e at word_name now (with_words (words_left u.id) s) u.id (omega arith) path_worded w q n y) (drop 1 x.words) (places_naming slots' u.id ps) (each_passes (names_at slots' u.id) ps)
      (subst (StandAt s slots u.id (drop 1 x.words)) (sym rest_same)
      (stand_rest s slots u.id x.words p (places_naming slots u.id ps)
      (subst (StandAt s slots u.id x.words) (ap (places_naming slots u.id) is ∙ ap (λ (b : Bool). cond b (p ∷ places_naming slots u.id ps) (places_naming slots u.id ps)) name)
      (subst (λ (j : ℕ). StandAt s slots j x.words (places_naming slots j (lists j))) i o))))))

  left_other : (x : EndedTx) → (x.id ≢ u.id → IsEndedListed s slots' lists x) → x.id ≢ u.id → StandAt (with_words (words_left u.id) s) slots' x.id x.words (places_naming slots' x.id (lists' x.id))
  left_other x o d = subst (λ qs. StandAt (with_words (words_left u.id) s) slots' x.id x.words (places_naming slots' x.id qs)) (sym (list.others x.id d)) (stand_self s (with_words (words_left u.id) s) slots' x.id (omega arith) path_worded x.words (places_naming slots' x.id (lists x.id)) (o d))

  left_of : (x : EndedTx) → IsEndedListed s slots lists x → (x.id ≢ u.id → IsEndedListed s slots' lists x) → (x.id ≡ u.id) ⊎ (x.id ≡ u.id → ⊥) → StandAt (with_words (words_left u.id) s) slots' x.id (words_left u.id x) (places_naming slots' x.id (lists' x.id))
  left_of x o n (inl i) = subst (λ (b : Bool). StandAt (with_words (words_left u.id) s) slots' x.id (cond b (drop 1 x.words) x.words) (places_naming slots' x.id (lists' x.id))) (sym (eq-eqb x.id u.id i)) (left_own x o i)
  left_of x o n (inr d) = subst (λ (b : Bool). StandAt (with_words (words_left u.id) s) slots' x.id (cond b (drop 1 x.words) x.words) (places_naming slots' x.id (lists' x.id))) (sym (ne_eqb x.id u.id d)) (left_other x n d)

  pub worded_lists : HasWordLists (with_words (words_left u.id) s) slots' lists'
  worded_lists = record {
    once = λ t q n. once t q n (cases_eq t u.id);
    active = each_weaker (IsActiveListed s slots' lists') (IsActiveListed (with_words (words_left u.id) s) slots' lists') (λ r o. own_self s (with_words (words_left u.id) s) slots' r.id (omega arith) path_worded (words_of r.history r.claims) (lists' r.id) o) s.active (active_beside s slots' lists lists' u.id ps list (ended_not_active s u.id u single e) others.active);
    preparing = each_weaker (IsPreparingListed s slots' lists') (IsPreparingListed (with_words (words_left u.id) s) slots' lists') (λ x o n. own_self s (with_words (words_left u.id) s) slots' x.id (omega arith) path_worded (words_of x.history x.claims) (lists' x.id) (o n)) s.stamped (preparing_beside s slots' lists lists' u.id ps list (ended_not_preparing s u.id u single e) others.preparing);
    ended = each_map {X = EndedTx} {Y = EndedTx} (λ x. record x { words = words_left u.id x }) (λ x. IsEndedListed s slots lists x × (x.id ≢ u.id → IsEndedListed s slots' lists x)) (IsEndedListed (with_words (words_left u.id) s) slots' lists') (λ x o. left_of x o.0 o.1 (cases_eq x.id u.id)) s.ended
        (each_both (IsEndedListed s slots lists) (λ x. x.id ≢ u.id → IsEndedListed s slots' lists x) (λ x. IsEndedListed s slots lists x × (x.id ≢ u.id → IsEndedListed s slots' lists x)) (λ x a b. (a, b)) s.ended l.ended others.ended);
    absent = λ t q. absent t (sym (phase_with_words (words_left u.id) s t) ∙ q) (cases_eq t u.id);
  }
    where
      once : (t : ℕ) (q : WordPlace) → names_at slots' t q ≡ true → (t ≡ u.id) ⊎ (t ≡ u.id → ⊥) → how_many (is_place q) (lists' t) ≡ 1
      once t q n (inr d) = ap (how_many (is_place q)) (list.others t d) ∙ others.once t q d n
      once t q n (inl i) =
          let m = ap (λ (j : ℕ). names_at slots' j q) (sym i) ∙ n in
          ap (how_many (is_place q)) (ap lists' i ∙ list.here)
          ∙ counted_behind p q ps (not_it slots slots' (ends_in s) u.id p v at now u.id q m) (ap (how_many (is_place q)) (sym is) ∙ l.once u.id q (named_before slots slots' (ends_in s) u.id p v at now u.id q m))

      absent : (t : ℕ) → phase_in s t ≡ Absent → (t ≡ u.id) ⊎ (t ≡ u.id → ⊥) → lists' t ≡ []
      absent t q (inl i) = absurd (ended_there s u.id u e (ap (phase_in s) (sym i) ∙ q))
      absent t q (inr d) = list.others t d ∙ l.absent t q

same_ends : (s : State) (states : States) (vs : List Version) → AreVersionsOf s (phases_of states) vs → ends_of (phases_of states) ≡ ends_in s
same_ends s states vs h = λ i t. end_in (h.phases t i)

-- what is finished by the table is finished by the state
finished_in : (s : State) (states : States) (vs : List Version) (slots slots' : Slots) (t : ℕ) (p : WordPlace) (v : Version) → AreVersionsOf s (phases_of states) vs → HaveNow slots slots' (number_at_word p).0 (finished (ends_of (phases_of states)) t p v) → HaveNow slots slots' (number_at_word p).0 (finished (ends_in s) t p v)
finished_in s states vs slots slots' t p v h now = subst (λ (x : Ends). HaveNow slots slots' (number_at_word p).0 (finished x t p v)) (same_ends s states vs h) now

pub finish_keeps_lists : FinishKeepsLists
finish_keeps_lists opening s states slots slots' lists places words words' u p ps v h e is at name more now list l =
    subst (λ (b : Bool). HasWordLists (cond b (after_termination s u.id) (with_words (words_left u.id) s)) slots' words') (sym more)
    (worded_lists s slots slots' words words' u p ps v h.kept.single e is at name (finished_in s states (all_versions slots) slots slots' u.id p v h.versions now) list l)

-- ---- who is named no more leaves
left_others : (t : ℕ) (us : List EndedTx) → how_many (is_ended_as t) us ≤ 1 → AllByRecursion (λ x. x.id ≢ t) (without_ended t us)
left_others t [] le = tt
left_others t (x ∷ us) le = go (x.id == t) refl le (left_others t us)
  where
    go : (b : Bool) → (x.id == t) ≡ b → cond b 1 0 + how_many (is_ended_as t) us ≤ 1 → (how_many (is_ended_as t) us ≤ 1 → AllByRecursion (λ x. x.id ≢ t) (without_ended t us)) → AllByRecursion (λ x. x.id ≢ t) (cond b us (x ∷ without_ended t us))
    go true q l k = each_weaker (λ y. is_ended_as t y ≡ false) (λ y. y.id ≢ t) (λ y n. not_the_one y.id t n) us (none_pass (is_ended_as t) us (omega (arith, l)))
    go false q l k = (not_the_one x.id t q, k (omega (arith, l)))

found_ended : (t : ℕ) (us : List EndedTx) (u : EndedTx) → ended_of t us ≡ Some u → list_any (is_ended_as t) us ≡ true
found_ended t [] u e = absurd (none u e)
  where
    none : (u : EndedTx) → ◌≡◌ {A = Option EndedTx} None (Some u) → ⊥
    none u q = cc
found_ended t (w ∷ ws) u e = go (w.id == t) e (found_ended t ws u)
  where
    go : (b : Bool) → cond b (Some w) (ended_of t ws) ≡ Some u → (ended_of t ws ≡ Some u → list_any (is_ended_as t) ws ≡ true) → (b || list_any (is_ended_as t) ws) ≡ true
    go true q k = refl
    go false q k = k q

module _ (s : State) (slots : Slots) (lists lists' : WordLists) (u : EndedTx) (single : IsSingle s) (e : ended_of u.id s.ended ≡ Some u) (unnamed : IsUnnamed u.id (all_versions slots)) (list : HaveListNow lists lists' u.id []) (absent : (t : ℕ) → phase_in s t ≡ Absent → lists t ≡ []) (l : AreOthersListed s slots lists u.id) where
  leads_left : Leads (Terminates u.id) s (after_termination s u.id)
  leads_left = leads_after_termination s u.id (found_ended u.id s.ended u e) single

  path_left : ends_in (after_termination s u.id) ≡ with_end u.id None (ends_in s)
  path_left = ends_turn s (after_termination s u.id) (Terminates u.id) u.id None (phase_in s) (phase_in (after_termination s u.id)) (λ _. refl) (λ _. refl) leads_left refl refl

  stamp_left : (n : VersionNo) (v : Version) → version_at slots n ≡ Some v → stamp_in (ends_in (after_termination s u.id)) v.begin ≡ stamp_in (ends_in s) v.begin
  stamp_left n v at = ap (λ (x : Ends). stamp_in x v.begin) path_left ∙ stamp_other (ends_in s) u.id None v.begin (live slots (λ x. (names u.id x.begin ≡ false) × (names u.id x.end ≡ false)) unnamed n.0 v at).0

  at_left : (t : ℕ) → t ≢ u.id → (w : Word) (q : WordPlace) → IsWordAt s slots t w q → IsWordAt (after_termination s u.id) slots t w q
  at_left t d w q o = record {
    version = o.version;
    at = o.at;
    named = o.named;
    is = word_like s (after_termination s u.id) slots slots t w q o.version o.version
        (record {
          clock = omega arith;
          own = λ a i. ap (λ (x : Ends). x t) path_left ∙ ap (λ (b : Bool). cond b None (ends_in s t)) (ne_eqb t u.id d) ∙ i;
          puts = λ m v a there i. (m, v, there, refl, sym (stamp_left m v there) ∙ i);
        })
        (record { key = refl; stamp = stamp_left (number_at_word q) o.version o.at; begin = λ n. n }) o.is;
  }

  own_left : (t : ℕ) → t ≢ u.id → (ws : List Word) (qs : List WordPlace) → HasOwnWords s slots t ws qs → HasOwnWords (after_termination s u.id) slots t ws qs
  own_left t d ws qs o = record { stand = stand_weaker s (after_termination s u.id) slots slots t (at_left t d) ws qs o.stand; written = o.written }

  pub left_lists : HasWordLists (after_termination s u.id) slots lists'
  left_lists = record {
    once = λ t q n. once t q n (cases_eq t u.id);
    active = each_both (λ r. r.id ≢ u.id) (IsActiveListed s slots lists') (IsActiveListed (after_termination s u.id) slots lists') (λ r d o. own_left r.id d (words_of r.history r.claims) (lists' r.id) o) s.active (ended_not_active s u.id u single e) (active_beside s slots lists lists' u.id [] list (ended_not_active s u.id u single e) l.active);
    preparing = each_both (λ x. x.settled ≡ false → x.id ≢ u.id) (IsPreparingListed s slots lists') (IsPreparingListed (after_termination s u.id) slots lists') (λ x d o n. own_left x.id (d n) (words_of x.history x.claims) (lists' x.id) (o n)) s.stamped (ended_not_preparing s u.id u single e) (preparing_beside s slots lists lists' u.id [] list (ended_not_preparing s u.id u single e) l.preparing);
    ended = each_both (λ x. x.id ≢ u.id) (λ x. x.id ≢ u.id → IsEndedListed s slots lists x) (IsEndedListed (after_termination s u.id) slots lists') (λ x d o. subst (λ qs. StandAt (after_termination s u.id) slots x.id x.words (places_naming slots x.id qs)) (sym (list.others x.id d)) (stand_weaker s (after_termination s u.id) slots slots x.id (at_left x.id d) x.words (places_naming slots x.id (lists x.id)) (o d))) (without_ended u.id s.ended) (left_others u.id s.ended (let o = single.once u.id in omega (arith, o))) (each_without (λ x. x.id ≢ u.id → IsEndedListed s slots lists x) u.id s.ended l.ended);
    absent = λ t q. gone t q (cases_eq t u.id);
  }
    where
      once : (t : ℕ) (q : WordPlace) → names_at slots t q ≡ true → (t ≡ u.id) ⊎ (t ≡ u.id → ⊥) → how_many (is_place q) (lists' t) ≡ 1
      once t q n (inr d) = ap (how_many (is_place q)) (list.others t d) ∙ l.once t q d n
      once t q n (inl i) = absurd (unnamed_at slots u.id q unnamed (ap (λ (j : ℕ). names_at slots j q) (sym i) ∙ n))

      gone : (t : ℕ) → phase_in (after_termination s u.id) t ≡ Absent → (t ≡ u.id) ⊎ (t ≡ u.id → ⊥) → lists' t ≡ []
      gone t q (inl i) = ap lists' i ∙ list.here
      gone t q (inr d) = list.others t d ∙ absent t (sym (leads_left.others t (λ i. d (sym i))) ∙ q)

pub last_keeps_lists : LastKeepsLists
last_keeps_lists opening s states slots slots' lists places words words' u p ps v h e is at name done now list l =
    subst (λ (b : Bool). HasWordLists (cond b (after_termination s u.id) (with_words (words_left u.id) s)) slots' words') (sym done)
    (left_lists s slots' words words' u h.kept.single e (last_is_unnamed s states slots slots' words u p ps v e is at name done now l) list l.absent
    (others_finished s slots slots' words u p v h.kept.single e at (sym (names_here slots u.id p v at) ∙ name) (finished_in s states (all_versions slots) slots slots' u.id p v h.versions now) l))

pub leaving_keeps_lists : LeavingKeepsLists
leaving_keeps_lists opening s states slots lists places words words' u h e none list l =
    subst (λ (b : Bool). HasWordLists (cond b (after_termination s u.id) (with_words (words_left u.id) s)) slots words') (sym (done_is_seen s slots words u e l ∙ ap (λ qs. nat_le (length qs) 1) none))
    (left_lists s slots words words' u h.kept.single e (none_is_unnamed s slots words u.id none l) list l.absent (others_of s slots words u.id l))
