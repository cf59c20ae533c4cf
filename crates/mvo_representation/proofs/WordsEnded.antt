-- A precommit and an abort keep the lists.
use Rattle.std.proofs.Common.{◌≡◌, ◌≢◌, ℕ, ◌+◌, ◌≤◌, Bool, true, false, cond, eqb, not, List, [], ◌∷◌, Option, None, Some, refl, sym, ap, ◌∙◌, subst, arith, ◌⊎◌, inl, inr}
use Rattle.std.specs.Prelude.{◌==◌}
use Rattle.std.specs.List.{AllByRecursion, filter}
use Rattle.std.proofs.lemmas.Bool.{cases_eq, eq-eqb, ne_eqb, true≢false, false≢true}
use Rattle.mvo_types.specs.Keys.{Map}
use Rattle.mvo_model.specs.Trace.{Step, Phase}
use Rattle.mvo_model.specs.Trace.Phase.{Absent, Active, Preparing, Committed, Aborted}
use Rattle.mvo_model.specs.Trace.Step.{Prepares, Aborts}
use Rattle.mvo_theory.specs.State.{State, ActiveTx, StampedTx, Word, active_of, preparing_of}
use Rattle.mvo_theory.specs.State.Word.{Own, Ended}
use Rattle.mvo_theory.specs.Words.{words_of, words_now, words_held}
use Rattle.mvo_theory.specs.Changes.{after_prepare, to_stamped, with_flag, active_with_flag, not_at, after_abort_of_active, after_abort_of_preparing, aborted_tx}
use Rattle.mvo_theory.specs.Steps.{after_abort_of}
use Rattle.mvo_theory.specs.Phases.{phase_in}
use Rattle.mvo_shared.specs.Standing.{IsStanding}
use Rattle.mvo_theory.proofs.Each.{each_weaker, each_append, each_map, each_filter}
use Rattle.mvo_theory.proofs.Phases.{Leads, leads_after_prepare, leads_after_abort_of_active, leads_after_abort_of_preparing, alone_in}
use Rattle.mvo_theory.proofs.Who.{active_holds, id_of}
use Rattle.mvo_word.specs.declared.held.Held.{Held}
use Rattle.mvo_word.specs.declared.held.Held.TheVariants.{At, By, Infinity}
use Rattle.mvo_chain.specs.declared.version.Version.{Version}
use Rattle.mvo_chain.specs.declared.version.VersionNo.{VersionNo}
use Rattle.mvo_chain.specs.Slots.{Slots, version_at}
use Rattle.mvo_visible.specs.Words.{names}
use Rattle.mvo_work.specs.declared.word_place.WordPlace.{WordPlace}
use Rattle.mvo_work.specs.declared.word_place.WordPlace.TheVariants.{Begin, End}
use Rattle.mvo_representation.specs.Words.{Ends, end_in, stamp_in}
use Rattle.mvo_representation.specs.Versions.{IsKnown, IsInside, AreVersionsOf}
use Rattle.mvo_representation.specs.Indexes.{all_versions}
use Rattle.mvo_representation.specs.Table.{phases_of}
use Rattle.mvo_representation.specs.WordLists.{WordLists, number_at_word, word_at, places_naming, IsGone, IsWordOf, IsWordAt, StandAt, HasOwnWords, HasWordLists}
use Rattle.mvo_representation.specs.WordLaws.{PrecommitKeepsLists, AbortKeepsLists}
use Rattle.mvo_representation.proofs.Ending.{own_word, named_end}
use Rattle.mvo_representation.proofs.Facts.{found_holds, preparing_is, phase_active, phase_preparing}
use Rattle.mvo_representation.proofs.OrderSteps.{live}
use Rattle.mvo_representation.proofs.Quiet.{with_end, ends_turn, ends_stay, stamp_other}
use Rattle.mvo_representation.proofs.WordPlaces.{one_name}
use Rattle.mvo_representation.proofs.WordPairs.{ends_in, stand_weaker, stand_all, stand_self}
use Rattle.mvo_representation.proofs.WordsKept.{IsActiveListed, IsPreparingListed, IsEndedListed, active_self, preparing_self, ended_self, absent_before, here_versions, words_preparing}
use Rattle.mvo_representation.proofs.WordsSaid.{may_abort, unended}
use Rattle.mvo_representation.proofs.Decided.{none_end, some_end}

-- ---- a precommit
module _ (opening : Map) (s : State) (slots : Slots) (r : ActiveTx) (k : IsStanding opening s) (h : AreVersionsOf s (phase_in s) (all_versions slots)) (f : active_of r.id s.active ≡ Some r) where
  abbrev end' : ℕ
  end' = s.clock + 1

  abbrev prepared : State
  prepared = after_prepare s r (s.clock + 1)

  leads_prepared : Leads (Prepares r.id (s.clock + 1)) s (after_prepare s r (s.clock + 1))
  leads_prepared = leads_after_prepare s r.id r (s.clock + 1) f refl k.single

  path_prepared : ends_in (after_prepare s r (s.clock + 1)) ≡ with_end r.id (Some (s.clock + 1)) (ends_in s)
  path_prepared = ends_turn s (after_prepare s r (s.clock + 1)) (Prepares r.id (s.clock + 1)) r.id (Some (s.clock + 1)) (phase_in s) (phase_in (after_prepare s r (s.clock + 1))) (λ _. refl) (λ _. refl) leads_prepared refl refl

  no_end_before : ends_in s r.id ≡ None
  no_end_before = ap end_in (phase_active s r.id r f)

  -- who has ended a version that r put is r
  only_own : (t : ℕ) (n : VersionNo) (v : Version) → version_at slots n ≡ Some v → names t v.end ≡ true → names r.id v.begin ≡ true → t ≡ r.id
  only_own t n v at e b = go ((active_holds (IsInside v) r.id s.active r f (live slots (λ x. AllByRecursion (IsInside x) s.active) h.inside n.0 v at)).0 b)
    where
      go : (v.end ≡ Infinity) ⊎ (names r.id v.end ≡ true) → t ≡ r.id
      go (inl i) = absurd (false≢true (sym (ap (names t) i) ∙ e))
      go (inr o) = one_name t r.id v.end e o

  stamp_now : (w : Held) → names r.id w ≡ false → stamp_in (ends_in (after_prepare s r (s.clock + 1))) w ≡ stamp_in (ends_in s) w
  stamp_now w n = ap (λ (x : Ends). stamp_in x w) path_prepared ∙ stamp_other (ends_in s) r.id (Some (s.clock + 1)) w n

  stamp_own : (w : Held) → names r.id w ≡ true → stamp_in (ends_in (after_prepare s r (s.clock + 1))) w ≡ Some (s.clock + 1)
  stamp_own w n = ap (λ (x : Ends). stamp_in x w) path_prepared ∙ own_word (ends_in s) r.id (Some (s.clock + 1)) w n

  end_now : (t a : ℕ) → ends_in s t ≡ Some a → ends_in (after_prepare s r (s.clock + 1)) t ≡ Some a
  end_now t a e = ap (λ (x : Ends). x t) path_prepared ∙ go (cases_eq t r.id)
    where
      go : (t ≡ r.id) ⊎ (t ≡ r.id → ⊥) → cond (eqb t r.id) (Some (s.clock + 1)) (ends_in s t) ≡ Some a
      go (inl i) = absurd (none_end a (sym (ap (ends_in s) i ∙ no_end_before) ∙ e))
      go (inr n) = ap (λ (b : Bool). cond b (Some (s.clock + 1)) (ends_in s t)) (ne_eqb t r.id n) ∙ e

  end_own : (t : ℕ) → t ≡ r.id → ends_in (after_prepare s r (s.clock + 1)) t ≡ Some (s.clock + 1)
  end_own t i = ap (λ (x : Ends). x t) path_prepared ∙ ap (λ (b : Bool). cond b (Some (s.clock + 1)) (ends_in s t)) (eq-eqb t r.id i)

  word_prepared : (t : ℕ) (w : Word) (p : WordPlace) (v : Version) → version_at slots (number_at_word p) ≡ Some v → names t (word_at p v) ≡ true → IsWordOf s slots t w p v → IsWordOf (after_prepare s r (s.clock + 1)) slots t w p v
  word_prepared t Own (Begin n) v at e o = tt
  word_prepared t Own (End n) v at e o = λ a q. go a q (names r.id v.begin) refl
    where
      go : (a : ℕ) → stamp_in (ends_in (after_prepare s r (s.clock + 1))) v.begin ≡ Some a → (b : Bool) → names r.id v.begin ≡ b → ends_in (after_prepare s r (s.clock + 1)) t ≡ Some a
      go a q true g = end_own t (only_own t n v at e g) ∙ sym (stamp_own v.begin g) ∙ q
      go a q false g = end_now t a (o a (sym (stamp_now v.begin g) ∙ q))
  word_prepared t (Ended c) (Begin n) v at e o = absurd o
  word_prepared t (Ended c) (End n) v at e o = record {
    key = o.key;
    others = o.others;
    put = elim o.put [
      | inl q ↦ inl (stamp_now v.begin other ∙ q)
      | inr q ↦ inr (stamp_now v.begin other ∙ q.0, gone q.1)
    ];
    drawn = let d = o.drawn in omega (arith, d);
  }
    where
      other : names r.id v.begin ≡ false
      other = go (names r.id v.begin) refl
        where
          go : (b : Bool) → names r.id v.begin ≡ b → names r.id v.begin ≡ false
          go true g = absurd (true≢false (sym (ap (λ (i : ℕ). names i v.begin) (only_own t n v at e g) ∙ g) ∙ o.others))
          go false g = g

      gone : IsGone (ends_in s) slots c → IsGone (ends_in (after_prepare s r (s.clock + 1))) slots c
      gone g m x there key q = go (names r.id x.begin) refl
        where
          go : (b : Bool) → names r.id x.begin ≡ b → ⊥
          go true i = let d = o.drawn in let z = some_end (s.clock + 1) c.origin (sym (stamp_own x.begin i) ∙ q) in absurd (omega (arith, d, z))
          go false i = g m x there key (sym (stamp_now x.begin i) ∙ q)

  at_prepared : (t : ℕ) (w : Word) (p : WordPlace) → IsWordAt s slots t w p → IsWordAt (after_prepare s r (s.clock + 1)) slots t w p
  at_prepared t w p o = record { version = o.version; at = o.at; named = o.named; is = word_prepared t w p o.version o.at o.named o.is }

  own_prepared : (t : ℕ) (ws : List Word) (ps : List WordPlace) → HasOwnWords s slots t ws ps → HasOwnWords (after_prepare s r (s.clock + 1)) slots t ws ps
  own_prepared t ws ps o = record { stand = stand_weaker s (after_prepare s r (s.clock + 1)) slots slots t (at_prepared t) ws ps o.stand; written = o.written }

  pub prepared_lists : (words : WordLists) → HasWordLists s slots words → HasWordLists (after_prepare s r (s.clock + 1)) slots words
  prepared_lists words l = record {
    once = l.once;
    active = each_filter (λ q. not (q.id == r.id)) (IsActiveListed s slots words) (IsActiveListed (after_prepare s r (s.clock + 1)) slots words) (λ q _ o. own_prepared q.id (words_of q.history q.claims) (words q.id) o) s.active l.active;
    preparing = each_append (IsPreparingListed (after_prepare s r (s.clock + 1)) slots words) s.stamped (to_stamped (s.clock + 1) r ∷ []) (each_weaker (IsPreparingListed s slots words) (IsPreparingListed (after_prepare s r (s.clock + 1)) slots words) (λ x o n. own_prepared x.id (words_of x.history x.claims) (words x.id) (o n)) s.stamped l.preparing) ((λ _. own_prepared r.id (words_of r.history r.claims) (words r.id) (active_holds (IsActiveListed s slots words) r.id s.active r f l.active).0), tt);
    ended = each_weaker (IsEndedListed s slots words) (IsEndedListed (after_prepare s r (s.clock + 1)) slots words) (λ u o. stand_weaker s (after_prepare s r (s.clock + 1)) slots slots u.id (at_prepared u.id) u.words (places_naming slots u.id (words u.id)) o) s.ended l.ended;
    absent = λ u q. l.absent u (absent_before s (after_prepare s r (s.clock + 1)) (Prepares r.id (s.clock + 1)) leads_prepared (λ q. away (sym leads_prepared.own ∙ q)) u q);
  }
    where
      away : Preparing (s.clock + 1) ≡ Absent → ⊥
      away q = cc

pub precommit_keeps_lists : PrecommitKeepsLists
precommit_keeps_lists opening s states slots lists places words r h f l = prepared_lists opening s slots r h.kept (here_versions s (phases_of states) (all_versions slots) h.versions) f words l

-- ---- an abort of an Active one
aborted_active : (opening : Map) (s : State) (slots : Slots) (words : WordLists) (t : ℕ) (r : ActiveTx) → IsStanding opening s → active_of t s.active ≡ Some r → HasWordLists s slots words → HasWordLists (after_abort_of_active s t) slots words
aborted_active opening s slots words t r k f l = record {
  once = l.once;
  active = each_filter (λ q. not (q.id == t)) (IsActiveListed s' slots words) (IsActiveListed s' slots words) (λ q _ o. o) s.active (active_self s s' slots words le path s.active l.active);
  preparing = preparing_self s s' slots words le path s.stamped l.preparing;
  ended = each_append (IsEndedListed s' slots words) s.ended (aborted_tx t (words_now s t) ∷ []) (ended_self s s' slots words le path s.ended l.ended) (stand_all s' slots t (words_now s t) (words t) mine, tt);
  absent = λ u q. l.absent u (absent_before s s' (Aborts t) leads (λ q. away (sym leads.own ∙ q)) u q);
}
  where
    s' : State
    s' = after_abort_of_active s t

    leads : Leads (Aborts t) s s'
    leads = leads_after_abort_of_active s t r f (id_of t s.active r f) k.single

    path : ends_in s' ≡ ends_in s
    path = ends_stay s s' (Aborts t) (phase_in s) (phase_in s') (λ _. refl) (λ _. refl) leads (sym (ap end_in (phase_active s t r f)))

    le : s.clock ≤ s'.clock
    le = omega arith

    away : Aborted ≡ Absent → ⊥
    away q = cc

    mine : StandAt s' slots t (words_now s t) (words t)
    mine =
        let w = active_holds (IsActiveListed s slots words) t s.active r f l.active in
        stand_self s s' slots t le path (words_now s t) (words t)
        (subst (λ ws. StandAt s slots t ws (words t)) (sym (ap (λ (o : Option ActiveTx). words_held o (preparing_of t s.stamped)) f))
        (subst (λ (u : ℕ). StandAt s slots u (words_of r.history r.claims) (words u)) w.1 w.0.stand))

-- ---- an abort of a Preparing one
module _ (opening : Map) (s : State) (slots : Slots) (t : ℕ) (x : StampedTx) (k : IsStanding opening s) (h : AreVersionsOf s (phase_in s) (all_versions slots)) (f : preparing_of t s.stamped ≡ Some x) where
  leads_aborted : Leads (Aborts t) s (after_abort_of_preparing s t x.end)
  leads_aborted = leads_after_abort_of_preparing s t x f k.sound k.single

  path_aborted : ends_in (after_abort_of_preparing s t x.end) ≡ with_end t None (ends_in s)
  path_aborted = ends_turn s (after_abort_of_preparing s t x.end) (Aborts t) t None (phase_in s) (phase_in (after_abort_of_preparing s t x.end)) (λ _. refl) (λ _. refl) leads_aborted refl refl

  its_end : ends_in s t ≡ Some x.end
  its_end = ap end_in (phase_preparing s t x k.single f)

  -- no other has its end
  others_end : (u : ℕ) (p : Phase) → (u ≡ t → ⊥) → phase_in s u ≡ p → end_in p ≡ Some x.end → ⊥
  others_end u Absent n q g = none_end x.end g
  others_end u Active n q g = none_end x.end g
  others_end u Aborted n q g = none_end x.end g
  others_end u (Committed m) n q g =
      let w = found_holds (λ y. y.settled ≡ false → y.end ≢ m) t s.stamped x f (h.committed u m q).settled in
      w.0 w.2 (sym (some_end m x.end g))
  others_end u (Preparing m) n q g =
      let y = preparing_is s u m q in
      let w = found_holds (λ z. z.end ≡ x.end → z.id ≡ t) u s.stamped y.0 y.1 (alone_in s t x f k.sound) in
      n (sym w.1 ∙ w.0 (y.2 ∙ some_end m x.end g))

  unstamped : (w : Held) → IsKnown s (phase_in s) w → stamp_in (with_end t None (ends_in s)) w ≡ Some x.end → ⊥
  unstamped (At n) i q = let w = found_holds (λ y. y.settled ≡ false → y.end ≢ n.0) t s.stamped x f i.settled in w.0 w.2 (sym (some_end n.0 x.end q))
  unstamped (By u) i q = by (eqb u.0 t) refl q
    where
      by : (b : Bool) → eqb u.0 t ≡ b → cond b None (ends_in s u.0) ≡ Some x.end → ⊥
      by true e g = none_end x.end g
      by false e g = others_end u.0 (phase_in s u.0) (λ i. true≢false (sym (eq-eqb u.0 t i) ∙ e)) refl g
  unstamped Infinity i q = none_end x.end q

  stamp_was : (w : Held) (a : ℕ) → stamp_in (ends_in (after_abort_of_preparing s t x.end)) w ≡ Some a → (names t w ≡ false) × (stamp_in (ends_in s) w ≡ Some a)
  stamp_was w a q = go (names t w) refl
    where
      now : stamp_in (with_end t None (ends_in s)) w ≡ Some a
      now = sym (ap (λ (y : Ends). stamp_in y w) path_aborted) ∙ q

      go : (b : Bool) → names t w ≡ b → (names t w ≡ false) × (stamp_in (ends_in s) w ≡ Some a)
      go true g = absurd (none_end a (sym (own_word (ends_in s) t None w g) ∙ now))
      go false g = (g, sym (stamp_other (ends_in s) t None w g) ∙ now)

  stamp_stays : (w : Held) → names t w ≡ false → stamp_in (ends_in (after_abort_of_preparing s t x.end)) w ≡ stamp_in (ends_in s) w
  stamp_stays w n = ap (λ (y : Ends). stamp_in y w) path_aborted ∙ stamp_other (ends_in s) t None w n

  stamp_goes : (w : Held) → names t w ≡ true → stamp_in (ends_in (after_abort_of_preparing s t x.end)) w ≡ None
  stamp_goes w n = ap (λ (y : Ends). stamp_in y w) path_aborted ∙ own_word (ends_in s) t None w n

  known_begin : (n : VersionNo) (v : Version) → version_at slots n ≡ Some v → IsKnown s (phase_in s) v.begin
  known_begin n v at = (live slots (λ y. IsKnown s (phase_in s) y.begin × IsKnown s (phase_in s) y.end) h.known n.0 v at).0

  -- no put has its end as its stamp any more
  no_put : (n : VersionNo) (v : Version) → version_at slots n ≡ Some v → stamp_in (ends_in (after_abort_of_preparing s t x.end)) v.begin ≡ Some x.end → ⊥
  no_put n v at q = unstamped v.begin (known_begin n v at) (sym (ap (λ (y : Ends). stamp_in y v.begin) path_aborted) ∙ q)

  word_aborted : (u : ℕ) (w : Word) (p : WordPlace) (v : Version) → version_at slots (number_at_word p) ≡ Some v → IsWordOf s slots u w p v → IsWordOf (after_abort_of_preparing s t x.end) slots u w p v
  word_aborted u Own (Begin n) v at o = tt
  word_aborted u Own (End n) v at o = λ a q. go a q (cases_eq u t)
    where
      go : (a : ℕ) → stamp_in (ends_in (after_abort_of_preparing s t x.end)) v.begin ≡ Some a → (u ≡ t) ⊎ (u ≡ t → ⊥) → ends_in (after_abort_of_preparing s t x.end) u ≡ Some a
      go a q (inl i) =
          let z = some_end x.end a (sym its_end ∙ ap (ends_in s) (sym i) ∙ o a (stamp_was v.begin a q).1) in
          absurd (no_put n v at (q ∙ ap (λ (y : ℕ). Some y) (sym z)))
      go a q (inr d) = ap (λ (y : Ends). y u) path_aborted ∙ ap (λ (b : Bool). cond b None (ends_in s u)) (ne_eqb u t d) ∙ o a (stamp_was v.begin a q).1
  word_aborted u (Ended c) (Begin n) v at o = absurd o
  word_aborted u (Ended c) (End n) v at o = record {
    key = o.key;
    others = o.others;
    put = go (names t v.begin) refl o.put;
    drawn = let d = o.drawn in omega (arith, d);
  }
    where
      gone : IsGone (ends_in s) slots c → IsGone (ends_in (after_abort_of_preparing s t x.end)) slots c
      gone g m y there key q = g m y there key (stamp_was y.begin c.origin q).1

      lost : c.origin ≡ x.end → IsGone (ends_in (after_abort_of_preparing s t x.end)) slots c
      lost e m y there key q = no_put m y there (q ∙ ap (λ (z : ℕ). Some z) e)

      go : (b : Bool) → names t v.begin ≡ b → (stamp_in (ends_in s) v.begin ≡ Some c.origin) ⊎ ((stamp_in (ends_in s) v.begin ≡ None) × IsGone (ends_in s) slots c) → (stamp_in (ends_in (after_abort_of_preparing s t x.end)) v.begin ≡ Some c.origin) ⊎ ((stamp_in (ends_in (after_abort_of_preparing s t x.end)) v.begin ≡ None) × IsGone (ends_in (after_abort_of_preparing s t x.end)) slots c)
      go true g (inl q) = inr (stamp_goes v.begin g, lost (some_end c.origin x.end (sym q ∙ named_end (ends_in s) t v.begin g ∙ its_end)))
      go true g (inr q) = inr (stamp_goes v.begin g, gone q.1)
      go false g (inl q) = inl (stamp_stays v.begin g ∙ q)
      go false g (inr q) = inr (stamp_stays v.begin g ∙ q.0, gone q.1)

  at_aborted : (u : ℕ) (w : Word) (p : WordPlace) → IsWordAt s slots u w p → IsWordAt (after_abort_of_preparing s t x.end) slots u w p
  at_aborted u w p o = record { version = o.version; at = o.at; named = o.named; is = word_aborted u w p o.version o.at o.is }

  own_aborted : (u : ℕ) (ws : List Word) (ps : List WordPlace) → HasOwnWords s slots u ws ps → HasOwnWords (after_abort_of_preparing s t x.end) slots u ws ps
  own_aborted u ws ps o = record { stand = stand_weaker s (after_abort_of_preparing s t x.end) slots slots u (at_aborted u) ws ps o.stand; written = o.written }

  pub aborted_lists : (words : WordLists) → HasWordLists s slots words → HasWordLists (after_abort_of_preparing s t x.end) slots words
  aborted_lists words l = record {
    once = l.once;
    active = each_map (active_with_flag t x.end) (IsActiveListed s slots words) (IsActiveListed (after_abort_of_preparing s t x.end) slots words) (λ q o. own_aborted q.id (words_of q.history q.claims) (words q.id) o) s.active l.active;
    preparing = each_map (with_flag t x.end) (IsPreparingListed s slots words) (IsPreparingListed (after_abort_of_preparing s t x.end) slots words) (λ y o n. own_aborted y.id (words_of y.history y.claims) (words y.id) (o n)) (filter (not_at x.end) s.stamped) (each_filter (not_at x.end) (IsPreparingListed s slots words) (IsPreparingListed s slots words) (λ y _ o. o) s.stamped l.preparing);
    ended = each_append (IsEndedListed (after_abort_of_preparing s t x.end) slots words) s.ended (aborted_tx t (words_now s t) ∷ []) (each_weaker (IsEndedListed s slots words) (IsEndedListed (after_abort_of_preparing s t x.end) slots words) (λ u o. stand_weaker s (after_abort_of_preparing s t x.end) slots slots u.id (at_aborted u.id) u.words (places_naming slots u.id (words u.id)) o) s.ended l.ended) (stand_all (after_abort_of_preparing s t x.end) slots t (words_now s t) (words t) mine, tt);
    absent = λ u q. l.absent u (absent_before s (after_abort_of_preparing s t x.end) (Aborts t) leads_aborted (λ q. away (sym leads_aborted.own ∙ q)) u q);
  }
    where
      away : Aborted ≡ Absent → ⊥
      away q = cc

      mine : StandAt (after_abort_of_preparing s t x.end) slots t (words_now s t) (words t)
      mine =
          let w = found_holds (IsPreparingListed s slots words) t s.stamped x f l.preparing in
          stand_weaker s (after_abort_of_preparing s t x.end) slots slots t (at_aborted t) (words_now s t) (words t)
          (subst (λ ws. StandAt s slots t ws (words t)) (sym (words_preparing opening s t x k f))
          (subst (λ (u : ℕ). StandAt s slots u (words_of x.history x.claims) (words u)) w.1 (w.0 w.2).stand))

pub abort_keeps_lists : AbortKeepsLists
abort_keeps_lists opening s states slots lists places words t h m l = go (preparing_of t s.stamped) refl
  where
    go : (o : Option StampedTx) → preparing_of t s.stamped ≡ o → HasWordLists (after_abort_of s t o) slots words
    go None e = let r = unended s t (may_abort s (phases_of states) t (h.versions.phases t) m) e in aborted_active opening s slots words t r.0 h.kept r.1 l
    go (Some x) e = aborted_lists opening s slots t x h.kept (here_versions s (phases_of states) (all_versions slots) h.versions) e words l
