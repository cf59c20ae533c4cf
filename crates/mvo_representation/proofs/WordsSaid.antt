-- What the lists say, places that are passed over, and versions that go.
use Rattle.std.proofs.Common.{◌≡◌, ◌≢◌, ℕ, ◌+◌, ◌≤◌, Bool, true, false, cond, not, List, [], ◌∷◌, map, Option, None, Some, refl, sym, ap, ◌∙◌, subst, arith, ◌⊎◌, inl, inr}
use Rattle.std.specs.Prelude.{◌==◌, ◌||◌, ◌&&◌, nat_le}
use Rattle.std.specs.List.{AllByRecursion}
use Rattle.std.proofs.lemmas.Bool.{cases_eq, eq-eqb, true≢false}
use Rattle.mvo_types.specs.declared.row.RowKey.{RowKey}
use Rattle.mvo_model.specs.Trace.Phase.{Absent, Active, Preparing}
use Rattle.mvo_theory.specs.State.{State, ActiveTx, StampedTx, EndedTx, Outcome, Word, active_of, preparing_of, ended_of, is_active_as, is_preparing_as, is_ended_as}
use Rattle.mvo_theory.specs.State.Outcome.{Committed as Commits, Aborted as Aborts}
use Rattle.mvo_theory.specs.Words.{words_of, is_last_word}
use Rattle.mvo_theory.specs.Phases.{phase_in, phase_by, ended_as}
use Rattle.mvo_theory.specs.Sound.{IsSingle, how_many}
use Rattle.mvo_theory.proofs.Each.{each_weaker, each_both}
use Rattle.mvo_theory.proofs.Finds.{find_holds, count_some}
use Rattle.mvo_theory.proofs.Phases.{IsUnended}
use Rattle.mvo_theory.proofs.Who.{active_holds}
use Rattle.mvo_chain.specs.declared.version.Version.{Version}
use Rattle.mvo_chain.specs.Slots.{Slots, version_at}
use Rattle.mvo_hash.specs.Lists.{number}
use Rattle.mvo_visible.specs.Words.{names}
use Rattle.mvo_work.specs.declared.word_place.WordPlace.{WordPlace}
use Rattle.mvo_work.specs.declared.word_place.WordPlace.TheVariants.{Begin, End}
use Rattle.mvo_representation.specs.Words.{Phases}
use Rattle.mvo_representation.specs.Indexes.{all_versions}
use Rattle.mvo_representation.specs.Steps.{IsUnnamed}
use Rattle.mvo_representation.specs.Table.{phases_of}
use Rattle.mvo_representation.specs.Order.{own_words, AreWrittenBy, MayAbort}
use Rattle.mvo_representation.specs.WordLists.{WordLists, HaveListNow, number_at_word, word_at, is_place, names_at, places_naming, IsWordAt, StandAt, HasOwnWords}
use Rattle.mvo_representation.specs.WordLaws.{PassingKeepsLists, DoneIsSeen, NoneIsUnnamed, RemovalKeepsLists, RoomKeepsLists, ListsAreWritten}
use Rattle.mvo_representation.proofs.Done.{each_live}
use Rattle.mvo_representation.proofs.Facts.{found_holds, preparing_is}
use Rattle.mvo_representation.proofs.OrderWritten.{others_keep_written}
use Rattle.mvo_representation.proofs.WordPlaces.{names_here, names_none, names_like, place_cases, filter_always, counted_passes}
use Rattle.mvo_representation.proofs.WordPairs.{IsLike, word_like, stand_weaker, stand_length}
use Rattle.mvo_representation.proofs.WordsKept.{IsActiveListed, IsPreparingListed, IsEndedListed}

-- ---- who is at one place is at no other
pub none_pass : {X : Type 0} (p : X → Bool) (xs : List X) → how_many p xs ≤ 0 → AllByRecursion (λ x. p x ≡ false) xs
none_pass p [] le = tt
none_pass p (x ∷ xs) le = go (p x) refl le (none_pass p xs)
  where
    go : (b : Bool) → p x ≡ b → cond b 1 0 + how_many p xs ≤ 0 → (how_many p xs ≤ 0 → AllByRecursion (λ y. p y ≡ false) xs) → (p x ≡ false) × AllByRecursion (λ y. p y ≡ false) xs
    go true e l k = absurd (omega (arith, l))
    go false e l k = (e, k (omega (arith, l)))

pub not_the_one : (i t : ℕ) → (i == t) ≡ false → i ≢ t
not_the_one i t e q = true≢false (sym (eq-eqb i t q) ∙ e)

pub not_preparing_one : (x : StampedTx) (t : ℕ) → is_preparing_as t x ≡ false → x.settled ≡ false → x.id ≢ t
not_preparing_one x t e n q = true≢false (sym (ap (λ (b : Bool). b && not x.settled) (eq-eqb x.id t q) ∙ ap not n) ∙ e)

-- an ended one is neither Active nor Preparing
pub ended_not_active : (s : State) (t : ℕ) (u : EndedTx) → IsSingle s → ended_of t s.ended ≡ Some u → AllByRecursion (λ r. r.id ≢ t) s.active
ended_not_active s t u h e = each_weaker (λ r. is_active_as t r ≡ false) (λ r. r.id ≢ t) (λ r n. not_the_one r.id t n) s.active (none_pass (is_active_as t) s.active (let l = count_some (is_ended_as t) s.ended u e in let o = h.once t in omega arith))

pub ended_not_preparing : (s : State) (t : ℕ) (u : EndedTx) → IsSingle s → ended_of t s.ended ≡ Some u → AllByRecursion (λ x. x.settled ≡ false → x.id ≢ t) s.stamped
ended_not_preparing s t u h e = each_weaker (λ x. is_preparing_as t x ≡ false) (λ x. x.settled ≡ false → x.id ≢ t) (λ x n o. not_preparing_one x t n o) s.stamped (none_pass (is_preparing_as t) s.stamped (let l = count_some (is_ended_as t) s.ended u e in let o = h.once t in omega arith))

pub ended_there : (s : State) (t : ℕ) (u : EndedTx) → ended_of t s.ended ≡ Some u → phase_in s t ≡ Absent → ⊥
ended_there s t u e = go (active_of t s.active) (preparing_of t s.stamped) (ended_of t s.ended) e
  where
    none_some : ◌≡◌ {A = Option EndedTx} None (Some u) → ⊥
    none_some q = cc

    by : (o : Outcome) → ended_as o ≡ Absent → ⊥
    by (Commits n) q = cc
    by Aborts q = cc

    active : Active ≡ Absent → ⊥
    active q = cc

    preparing : (n : ℕ) → Preparing n ≡ Absent → ⊥
    preparing n q = cc

    go : (a : Option ActiveTx) (b : Option StampedTx) (c : Option EndedTx) → c ≡ Some u → phase_by a b c ≡ Absent → ⊥
    go (Some r) b c f q = active q
    go None (Some x) c f q = preparing x.end q
    go None None (Some v) f q = by v.outcome q
    go None None None f q = none_some f

pub active_there : (s : State) (t : ℕ) → phase_in s t ≡ Active → (r : ActiveTx) × (active_of t s.active ≡ Some r)
active_there s t = go (active_of t s.active) (preparing_of t s.stamped) (ended_of t s.ended)
  where
    by : (o : Outcome) → ended_as o ≡ Active → ⊥
    by (Commits n) q = cc
    by Aborts q = cc

    absent : Absent ≡ Active → ⊥
    absent q = cc

    preparing : (n : ℕ) → Preparing n ≡ Active → ⊥
    preparing n q = cc

    go : (a : Option ActiveTx) (b : Option StampedTx) (c : Option EndedTx) → phase_by a b c ≡ Active → (r : ActiveTx) × (a ≡ Some r)
    go (Some r) b c q = (r, refl)
    go None (Some x) c q = absurd (preparing x.end q)
    go None None (Some v) q = absurd (by v.outcome q)
    go None None None q = absurd (absent q)

none_stamped : (x : StampedTx) → ◌≡◌ {A = Option StampedTx} None (Some x) → ⊥
none_stamped x q = cc

-- one that may be aborted is Active, unless it is Preparing
pub unended : (s : State) (t : ℕ) → MayAbort (phase_in s) t → IsUnended s t
unended s t (inl a) e = active_there s t a
unended s t (inr p) e = let x = preparing_is s t p.0 p.1 in absurd (none_stamped x.0 (sym e ∙ x.1))

pub may_abort : (s : State) (table : Phases) (t : ℕ) → table t ≡ phase_in s t → MayAbort table t → MayAbort (phase_in s) t
may_abort s table t same (inl a) = inl (sym same ∙ a)
may_abort s table t same (inr p) = inr (p.0, sym same ∙ p.1)

-- ---- as one draws its end or is aborted
pub lists_are_written : ListsAreWritten
lists_are_written opening s states slots lists places words t h m l = go (may_abort s (phases_of states) t (h.versions.phases t) m)
  where
    go : MayAbort (phase_in s) t → AreWrittenBy t slots (map (λ p. (number_at_word p).0) (words t))
    go (inl a) =
        let r = active_there s t a in
        let w = active_holds (IsActiveListed s slots words) t s.active r.0 r.1 l.active in
        subst (λ (u : ℕ). AreWrittenBy u slots (map (λ p. (number_at_word p).0) (words u))) w.1 w.0.written
    go (inr p) =
        let x = preparing_is s t p.0 p.1 in
        let w = found_holds (IsPreparingListed s slots words) t s.stamped x.0 x.1 l.preparing in
        subst (λ (u : ℕ). AreWrittenBy u slots (map (λ p. (number_at_word p).0) (words u))) w.1 (w.0 w.2).written

-- ---- whether it is done
pub done_is_seen : DoneIsSeen
done_is_seen s slots words u e l =
    ap is_last_word e
    ∙ ap (λ n. nat_le n 1) (stand_length s slots u.id u.words (places_naming slots u.id (words u.id)) (find_holds (IsEndedListed s slots words) (is_ended_as u.id) s.ended u e l.ended).0)

-- no place names it
pub unnamed_where_none : (slots : Slots) (t : ℕ) → ((p : WordPlace) → names_at slots t p ≡ true → ⊥) → IsUnnamed t (all_versions slots)
unnamed_where_none slots t f = each_live (λ v. (names t v.begin ≡ false) × (names t v.end ≡ false)) slots (λ n v e. (
  go (Begin (number n)) v e (names t v.begin) refl,
  go (End (number n)) v e (names t v.end) refl,
))
  where
    go : (p : WordPlace) (v : Version) → version_at slots (number_at_word p) ≡ Some v → (b : Bool) → names t (word_at p v) ≡ b → names t (word_at p v) ≡ false
    go p v e true q = absurd (f p (names_here slots t p v e ∙ q))
    go p v e false q = q

pub none_is_unnamed : NoneIsUnnamed
none_is_unnamed s slots words t none l = unnamed_where_none slots t (λ p e. let o = l.once t p e in let z = counted_passes (names_at slots t) p (words t) e none in absurd (omega (arith, o, z)))

-- ---- a place that is passed over
-- the lists of the others
pub active_beside : (s : State) (slots : Slots) (lists lists' : WordLists) (t : ℕ) (ps : List WordPlace) → HaveListNow lists lists' t ps → AllByRecursion (λ r. r.id ≢ t) s.active → AllByRecursion (IsActiveListed s slots lists) s.active → AllByRecursion (IsActiveListed s slots lists') s.active
active_beside s slots lists lists' t ps now n h = each_both (λ r. r.id ≢ t) (IsActiveListed s slots lists) (IsActiveListed s slots lists') (λ r d o. subst (HasOwnWords s slots r.id (words_of r.history r.claims)) (sym (now.others r.id d)) o) s.active n h

pub preparing_beside : (s : State) (slots : Slots) (lists lists' : WordLists) (t : ℕ) (ps : List WordPlace) → HaveListNow lists lists' t ps → AllByRecursion (λ x. x.settled ≡ false → x.id ≢ t) s.stamped → AllByRecursion (IsPreparingListed s slots lists) s.stamped → AllByRecursion (IsPreparingListed s slots lists') s.stamped
preparing_beside s slots lists lists' t ps now n h = each_both (λ x. x.settled ≡ false → x.id ≢ t) (IsPreparingListed s slots lists) (IsPreparingListed s slots lists') (λ x d o q. subst (HasOwnWords s slots x.id (words_of x.history x.claims)) (sym (now.others x.id (d q))) (o q)) s.stamped n h

pub passing_keeps_lists : PassingKeepsLists
passing_keeps_lists opening s states slots lists places words words' u p ps h e is silent now l = record {
  once = λ t q n. once t q n (cases_eq t u.id);
  active = active_beside s slots words words' u.id ps now (ended_not_active s u.id u h.kept.single e) l.active;
  preparing = preparing_beside s slots words words' u.id ps now (ended_not_preparing s u.id u h.kept.single e) l.preparing;
  ended = each_weaker (IsEndedListed s slots words) (IsEndedListed s slots words') (λ w o. passed w o (cases_eq w.id u.id)) s.ended l.ended;
  absent = λ t q. absent t q (cases_eq t u.id);
}
  where
    once : (t : ℕ) (q : WordPlace) → names_at slots t q ≡ true → (t ≡ u.id) ⊎ (t ≡ u.id → ⊥) → how_many (is_place q) (words' t) ≡ 1
    once t q n (inr d) = ap (how_many (is_place q)) (now.others t d) ∙ l.once t q n
    once t q n (inl i) = ap (how_many (is_place q)) (ap words' i ∙ now.here) ∙ left
      where
        other : is_place q p ≡ false
        other = elim (place_cases q p) [
          | inl same ↦ absurd (true≢false (sym (ap (λ (x : ℕ). names_at slots x q) (sym i) ∙ n) ∙ ap (names_at slots u.id) same ∙ silent))
          | inr d ↦ d
        ]

        left : how_many (is_place q) ps ≡ 1
        left =
            let o : cond {A = ℕ} (is_place q p) 1 0 + how_many (is_place q) ps ≡ 1 = ap (how_many (is_place q)) (sym (ap words i ∙ is)) ∙ l.once t q n in
            let z : cond {A = ℕ} (is_place q p) 1 0 ≡ 0 = ap (λ (b : Bool). cond b 1 0) other in
            omega (arith, o, z)

    passed : (w : EndedTx) → IsEndedListed s slots words w → (w.id ≡ u.id) ⊎ (w.id ≡ u.id → ⊥) → IsEndedListed s slots words' w
    passed w o (inr d) = subst (λ qs. StandAt s slots w.id w.words (places_naming slots w.id qs)) (sym (now.others w.id d)) o
    passed w o (inl i) = subst (λ qs. StandAt s slots w.id w.words qs) same o
      where
        same : places_naming slots w.id (words w.id) ≡ places_naming slots w.id (words' w.id)
        same =
            ap (λ (x : ℕ). places_naming slots x (words x)) i ∙ ap (places_naming slots u.id) is
            ∙ ap (λ (b : Bool). cond b (p ∷ places_naming slots u.id ps) (places_naming slots u.id ps)) silent
            ∙ sym (ap (λ (x : ℕ). places_naming slots x (words' x)) i ∙ ap (places_naming slots u.id) now.here)

    absent : (t : ℕ) → phase_in s t ≡ Absent → (t ≡ u.id) ⊎ (t ≡ u.id → ⊥) → words' t ≡ []
    absent t q (inl i) = absurd (ended_there s u.id u e (ap (phase_in s) (sym i) ∙ q))
    absent t q (inr d) = now.others t d ∙ l.absent t q

-- ---- a version goes
pub removal_keeps_lists : RemovalKeepsLists
removal_keeps_lists s slots slots' words v n at free others gone l = record {
  once = λ t p e. l.once t p (sym (same t p) ∙ e);
  active = each_weaker (IsActiveListed s slots words) (IsActiveListed s slots' words) (λ r o. own r.id (words_of r.history r.claims) (words r.id) o) s.active l.active;
  preparing = each_weaker (IsPreparingListed s slots words) (IsPreparingListed s slots' words) (λ x o q. own x.id (words_of x.history x.claims) (words x.id) (o q)) s.stamped l.preparing;
  ended = each_weaker (IsEndedListed s slots words) (IsEndedListed s slots' words) (λ u o. subst (StandAt s slots' u.id u.words) (filter_always (names_at slots u.id) (names_at slots' u.id) (words u.id) (λ p. sym (same u.id p))) (stand u.id u.words (places_naming slots u.id (words u.id)) o)) s.ended l.ended;
  absent = l.absent;
}
  where
    unnamed_there : (t : ℕ) (p : WordPlace) → (number_at_word p).0 ≡ n → names_at slots t p ≡ false
    unnamed_there t (Begin m) e = names_here slots t (Begin m) v (ap (λ (i : ℕ). version_at slots (number i)) e ∙ at) ∙ (free t).0
    unnamed_there t (End m) e = names_here slots t (End m) v (ap (λ (i : ℕ). version_at slots (number i)) e ∙ at) ∙ (free t).1

    same : (t : ℕ) (p : WordPlace) → names_at slots' t p ≡ names_at slots t p
    same t p = elim (cases_eq (number_at_word p).0 n) [
      | inl e ↦ names_none slots' t p (ap (λ (i : ℕ). version_at slots' (number i)) e ∙ gone) ∙ sym (unnamed_there t p e)
      | inr d ↦ names_like slots slots' t p (others (number_at_word p) d)
    ]

    none_version : (w : Version) → ◌≡◌ {A = Option Version} None (Some w) → ⊥
    none_version w q = cc

    like : (t : ℕ) → IsLike s s slots slots' t
    like t = record {
      clock = omega arith;
      own = λ a e. e;
      puts = λ m w a e q. elim (cases_eq m.0 n) [
        | inl i ↦ absurd (none_version w (sym (ap (λ (i : ℕ). version_at slots' (number i)) i ∙ gone) ∙ e))
        | inr d ↦ (m, w, sym (others m d) ∙ e, refl, q)
      ];
    }

    word : (t : ℕ) (w : Word) (p : WordPlace) → IsWordAt s slots t w p → IsWordAt s slots' t w p
    word t w p o = elim (cases_eq (number_at_word p).0 n) [
      | inl i ↦ absurd (true≢false (sym (names_here slots t p o.version o.at ∙ o.named) ∙ unnamed_there t p i))
      | inr d ↦ record { version = o.version; at = others (number_at_word p) d ∙ o.at; named = o.named; is = word_like s s slots slots' t w p o.version o.version (like t) (record { key = refl; stamp = refl; begin = λ e. e }) o.is }
    ]

    stand : (t : ℕ) (ws : List Word) (ps : List WordPlace) → StandAt s slots t ws ps → StandAt s slots' t ws ps
    stand t ws ps o = stand_weaker s s slots slots' t (word t) ws ps o

    none_written : (t : ℕ) → own_words t (Some v) ≡ None
    none_written t = ap (λ (b : Bool). cond {A = Option (RowKey × Bool × Bool)} b (Some (v.row.key, names t v.begin, names t v.end)) None) (ap (λ (b : Bool). b || names t v.end) (free t).0 ∙ (free t).1)

    written : (t m : ℕ) → own_words t (version_at slots' (number m)) ≡ own_words t (version_at slots (number m))
    written t m = elim (cases_eq m n) [
      | inl i ↦ ap (λ (i : ℕ). own_words t (version_at slots' (number i))) i ∙ ap (own_words t) gone ∙ sym (none_written t) ∙ sym (ap (λ (i : ℕ). own_words t (version_at slots (number i))) i ∙ ap (own_words t) at)
      | inr d ↦ ap (own_words t) (others (number m) d)
    ]

    own : (t : ℕ) (ws : List Word) (ps : List WordPlace) → HasOwnWords s slots t ws ps → HasOwnWords s slots' t ws ps
    own t ws ps o = record { stand = stand t ws ps o.stand; written = others_keep_written t slots slots' (map (λ p. (number_at_word p).0) ps) (written t) o.written }

-- ---- slots with more room
pub room_keeps_lists : RoomKeepsLists
room_keeps_lists s slots slots' words same l = record {
  once = λ t p e. l.once t p (sym (names_like slots slots' t p (same (number_at_word p))) ∙ e);
  active = each_weaker (IsActiveListed s slots words) (IsActiveListed s slots' words) (λ r o. own r.id (words_of r.history r.claims) (words r.id) o) s.active l.active;
  preparing = each_weaker (IsPreparingListed s slots words) (IsPreparingListed s slots' words) (λ x o q. own x.id (words_of x.history x.claims) (words x.id) (o q)) s.stamped l.preparing;
  ended = each_weaker (IsEndedListed s slots words) (IsEndedListed s slots' words) (λ u o. subst (StandAt s slots' u.id u.words) (filter_always (names_at slots u.id) (names_at slots' u.id) (words u.id) (λ p. sym (names_like slots slots' u.id p (same (number_at_word p))))) (stand_weaker s s slots slots' u.id (word u.id) u.words (places_naming slots u.id (words u.id)) o)) s.ended l.ended;
  absent = l.absent;
}
  where
    like : (t : ℕ) → IsLike s s slots slots' t
    like t = record { clock = omega arith; own = λ a e. e; puts = λ m w a e q. (m, w, sym (same m) ∙ e, refl, q) }

    word : (t : ℕ) (w : Word) (p : WordPlace) → IsWordAt s slots t w p → IsWordAt s slots' t w p
    word t w p o = record { version = o.version; at = same (number_at_word p) ∙ o.at; named = o.named; is = word_like s s slots slots' t w p o.version o.version (like t) (record { key = refl; stamp = refl; begin = λ e. e }) o.is }

    own : (t : ℕ) (ws : List Word) (ps : List WordPlace) → HasOwnWords s slots t ws ps → HasOwnWords s slots' t ws ps
    own t ws ps o = record { stand = stand_weaker s s slots slots' t (word t) ws ps o.stand; written = others_keep_written t slots slots' (map (λ p. (number_at_word p).0) ps) (λ m. ap (own_words t) (same (number m))) o.written }
