-- Steps that leave all words as they were keep the lists; and what the lists say.
use Rattle.std.proofs.Common.{◌≡◌, ℕ, ◌+◌, ◌≤◌, Bool, true, false, cond, not, List, [], ◌∷◌, Option, None, Some, refl, sym, ap, ◌∙◌, subst, arith, ◌⊎◌, inl, inr}
use Rattle.std.specs.Prelude.{◌==◌}
use Rattle.std.specs.List.{AllByRecursion}
use Rattle.std.proofs.lemmas.Bool.{cases_eq, true≢false, or_parts}
use Rattle.mvo_types.specs.Keys.{Map}
use Rattle.mvo_model.specs.Trace.Phase.{Absent, Active, Committed}
use Rattle.mvo_model.specs.Trace.{Step, owner_of}
use Rattle.mvo_model.specs.Trace.Step.{Begins, Answers, Commits}
use Rattle.mvo_theory.specs.State.{State, ActiveTx, StampedTx, EndedTx, Claim, Word, history_of_active, preparing_of, opened, is_active_as}
use Rattle.mvo_theory.specs.Words.{words_of, words_now, words_held}
use Rattle.mvo_theory.specs.Claims.{claim_with}
use Rattle.mvo_theory.specs.Changes.{new_active, after_begin, after_operation, taken_over, with_answer, after_check, with_check, after_commit, committed_tx, with_settled, after_trim, is_to, after_close}
use Rattle.mvo_theory.specs.Steps.{after_validate, after_validate_of}
use Rattle.mvo_theory.specs.Phases.{phase_in}
use Rattle.mvo_shared.specs.Standing.{IsStanding}
use Rattle.mvo_theory.proofs.Each.{each_weaker, each_append, each_map, each_filter}
use Rattle.mvo_theory.proofs.Finds.{find_none}
use Rattle.mvo_theory.proofs.Trimmed.{may_trim}
use Rattle.mvo_shared.proofs.Standing.{phases_trimmed}
use Rattle.mvo_theory.proofs.Phases.{Leads, leads_after_begin, leads_after_operation, leads_after_check, leads_after_commit}
use Rattle.mvo_theory.proofs.Single.{active_found, preparing_alone}
use Rattle.mvo_chain.specs.declared.version.Version.{Version}
use Rattle.mvo_chain.specs.Slots.{Slots}
use Rattle.mvo_visible.specs.Words.{names}
use Rattle.mvo_work.specs.declared.word_place.WordPlace.{WordPlace}
use Rattle.mvo_work.specs.declared.word_place.WordPlace.TheVariants.{Begin, End}
use Rattle.mvo_representation.specs.Words.{Phases, end_in}
use Rattle.mvo_representation.specs.Versions.{IsKnown, AreVersionsOf}
use Rattle.mvo_representation.specs.Indexes.{all_versions}
use Rattle.mvo_representation.specs.Steps.{IsUnnamed}
use Rattle.mvo_representation.specs.Table.{phases_of}
use Rattle.mvo_representation.specs.WordLists.{WordLists, number_at_word, word_at, names_at, places_naming, StandAt, HasOwnWords, HasWordLists}
use Rattle.mvo_representation.specs.WordLaws.{OpeningHasLists, BeginKeepsLists, AnswerKeepsLists, CheckKeepsLists, CommitKeepsLists, TrimKeepsLists, CloseKeepsLists}
use Rattle.mvo_representation.proofs.Facts.{found_holds, phase_absent, phase_preparing}
use Rattle.mvo_representation.proofs.OrderSteps.{live}
use Rattle.mvo_representation.proofs.OrderWritten.{nothing_is_written}
use Rattle.mvo_representation.proofs.Quiet.{ends_stay, unnamed}
use Rattle.mvo_representation.proofs.Steps.{retabled}
use Rattle.mvo_representation.proofs.WordPlaces.{names_there}
use Rattle.mvo_representation.proofs.WordPairs.{ends_in, stand_self, stand_all}
use Rattle.mvo_representation.proofs.WordsOf.{told_nothing, no_end}

pub own_self : (s s' : State) (slots : Slots) (t : ℕ) → s.clock ≤ s'.clock → ends_in s' ≡ ends_in s → (ws : List Word) (ps : List WordPlace) → HasOwnWords s slots t ws ps → HasOwnWords s' slots t ws ps
own_self s s' slots t le same ws ps h = record { stand = stand_self s s' slots t le same ws ps h.stand; written = h.written }

abbrev pub IsActiveListed : State → Slots → WordLists → ActiveTx → Type 0
IsActiveListed s slots lists r = HasOwnWords s slots r.id (words_of r.history r.claims) (lists r.id)

abbrev pub IsPreparingListed : State → Slots → WordLists → StampedTx → Type 0
IsPreparingListed s slots lists x = x.settled ≡ false → HasOwnWords s slots x.id (words_of x.history x.claims) (lists x.id)

abbrev pub IsEndedListed : State → Slots → WordLists → EndedTx → Type 0
IsEndedListed s slots lists u = StandAt s slots u.id u.words (places_naming slots u.id (lists u.id))

module _ (s s' : State) (slots : Slots) (lists : WordLists) (le : s.clock ≤ s'.clock) (same : ends_in s' ≡ ends_in s) where
  pub active_self : (rs : List ActiveTx) → AllByRecursion (IsActiveListed s slots lists) rs → AllByRecursion (IsActiveListed s' slots lists) rs
  active_self rs h = each_weaker (IsActiveListed s slots lists) (IsActiveListed s' slots lists) (λ r o. own_self s s' slots r.id le same (words_of r.history r.claims) (lists r.id) o) rs h

  pub preparing_self : (xs : List StampedTx) → AllByRecursion (IsPreparingListed s slots lists) xs → AllByRecursion (IsPreparingListed s' slots lists) xs
  preparing_self xs h = each_weaker (IsPreparingListed s slots lists) (IsPreparingListed s' slots lists) (λ x o n. own_self s s' slots x.id le same (words_of x.history x.claims) (lists x.id) (o n)) xs h

  pub ended_self : (us : List EndedTx) → AllByRecursion (IsEndedListed s slots lists) us → AllByRecursion (IsEndedListed s' slots lists) us
  ended_self us h = each_weaker (IsEndedListed s slots lists) (IsEndedListed s' slots lists) (λ u o. stand_self s s' slots u.id le same u.words (places_naming slots u.id (lists u.id)) o) us h

-- who is absent after a step was absent before
pub absent_before : (s s' : State) (x : Step) → Leads x s s' → (phase_in s' (owner_of x) ≡ Absent → ⊥) → (u : ℕ) → phase_in s' u ≡ Absent → phase_in s u ≡ Absent
absent_before s s' x l away u e = go (cases_eq (owner_of x) u)
  where
    go : (owner_of x ≡ u) ⊎ (owner_of x ≡ u → ⊥) → phase_in s u ≡ Absent
    go (inl i) = absurd (away (ap (phase_in s') i ∙ e))
    go (inr n) = sym (l.others u n) ∙ e

pub here_versions : (s : State) (table : Phases) (vs : List Version) → AreVersionsOf s table vs → AreVersionsOf s (phase_in s) vs
here_versions s table vs h = retabled s table (phase_in s) vs (λ _. refl) h

-- who isn't in the table is named by no word
pub absent_unnamed : (s : State) (slots : Slots) (t : ℕ) → AreVersionsOf s (phase_in s) (all_versions slots) → phase_in s t ≡ Absent → IsUnnamed t (all_versions slots)
absent_unnamed s slots t h e = each_weaker (λ v. IsKnown s (phase_in s) v.begin × IsKnown s (phase_in s) v.end) (λ v. (names t v.begin ≡ false) × (names t v.end ≡ false)) (λ v k. (unnamed s (phase_in s) t e v.begin k.0, unnamed s (phase_in s) t e v.end k.1)) (all_versions slots) h.known

pub unnamed_at : (slots : Slots) (t : ℕ) (p : WordPlace) → IsUnnamed t (all_versions slots) → names_at slots t p ≡ true → ⊥
unnamed_at slots t p h e =
    let n = names_there slots t p e in
    let k = live slots (λ v. (names t v.begin ≡ false) × (names t v.end ≡ false)) h (number_at_word p).0 n.version n.at in
    true≢false (sym n.named ∙ go p n.version k)
  where
    go : (q : WordPlace) (v : Version) → (names t v.begin ≡ false) × (names t v.end ≡ false) → names t (word_at q v) ≡ false
    go (Begin n) v k = k.0
    go (End n) v k = k.1

-- ---- an opening, and a begin
pub opening_has_lists : OpeningHasLists
opening_has_lists rows mark states slots h = record {
  once = λ t p e. absurd (unnamed_at slots t p (absent_unnamed (opened rows mark) slots t (here_versions (opened rows mark) (phases_of states) (all_versions slots) h) refl) e);
  active = tt;
  preparing = tt;
  ended = tt;
  absent = λ t _. refl;
}

pub begin_keeps_lists : BeginKeepsLists
begin_keeps_lists opening s states slots lists places words h l = record {
  once = l.once;
  active = each_append (IsActiveListed s' slots words) s.active (new_active t ∷ []) (active_self s s' slots words le path s.active l.active) (subst (HasOwnWords s' slots t []) (sym (l.absent t absent)) (record { stand = tt; written = nothing_is_written t slots (absent_unnamed s slots t (here_versions s (phases_of states) (all_versions slots) h.versions) absent) }), tt);
  preparing = preparing_self s s' slots words le path s.stamped l.preparing;
  ended = ended_self s s' slots words le path s.ended l.ended;
  absent = λ u e. l.absent u (absent_before s s' (Begins t) leads (λ q. gone (sym leads.own ∙ q)) u e);
}
  where
    t : ℕ
    t = s.clock + 1

    s' : State
    s' = after_begin s t

    leads : Leads (Begins t) s s'
    leads = leads_after_begin s t (omega arith) h.kept.sound h.kept.single

    absent : phase_in s t ≡ Absent
    absent = phase_absent s t (omega arith) h.kept.sound h.kept.single

    path : ends_in s' ≡ ends_in s
    path = ends_stay s s' (Begins t) (phase_in s) (phase_in s') (λ _. refl) (λ _. refl) leads (sym (ap end_in absent))

    le : s.clock ≤ s'.clock
    le = omega arith

    gone : Active ≡ Absent → ⊥
    gone q = cc

-- ---- an answer that writes nothing
pub answer_keeps_lists : AnswerKeepsLists
answer_keeps_lists opening s states slots lists places words r op a h f e l = subst (λ (x : State). HasWordLists x slots words) (sym (ap (λ (c : Option Claim). taken_over c s') (ap (claim_with s r.id (history_of_active r.id s.active)) (no_end op a e)))) (record {
  once = l.once;
  active = each_map (with_answer s r.id op a) (IsActiveListed s slots words) (IsActiveListed s' slots words) (λ q o. subst (λ ws. HasOwnWords s' slots q.id ws (words q.id)) (sym (told_nothing s r.id op a q e (cases_eq q.id r.id))) (own_self s s' slots q.id le path (words_of q.history q.claims) (words q.id) o)) s.active l.active;
  preparing = preparing_self s s' slots words le path s.stamped l.preparing;
  ended = ended_self s s' slots words le path s.ended l.ended;
  absent = λ u q. l.absent u (sym (same u (cases_eq r.id u)) ∙ q);
})
  where
    s' : State
    s' = after_operation s r.id op a

    leads : Leads (Answers r.id op a) s s'
    leads = leads_after_operation s r.id op a

    same : (u : ℕ) → (r.id ≡ u) ⊎ (r.id ≡ u → ⊥) → phase_in s' u ≡ phase_in s u
    same u (inl i) = subst (λ (n : ℕ). phase_in s' n ≡ phase_in s n) i leads.own
    same u (inr n) = leads.others u n

    path : ends_in s' ≡ ends_in s
    path = λ i u. end_in (same u (cases_eq r.id u) i)

    le : s.clock ≤ s'.clock
    le = omega arith

-- ---- a check
checked : (s : State) (slots : Slots) (words : WordLists) (e : ℕ) (v : Bool) → ((u : ℕ) → phase_in (after_check s e v) u ≡ phase_in s u) → HasWordLists s slots words → HasWordLists (after_check s e v) slots words
checked s slots words e v same l = record {
  once = l.once;
  active = active_self s s' slots words le path s.active l.active;
  preparing = each_map (with_check e v) (IsPreparingListed s slots words) (IsPreparingListed s' slots words) (λ x o n. own_self s s' slots x.id le path (words_of x.history x.claims) (words x.id) (o n)) s.stamped l.preparing;
  ended = ended_self s s' slots words le path s.ended l.ended;
  absent = λ u q. l.absent u (sym (same u) ∙ q);
}
  where
    s' : State
    s' = after_check s e v

    path : ends_in s' ≡ ends_in s
    path = λ i u. end_in (same u i)

    le : s.clock ≤ s'.clock
    le = omega arith

pub check_keeps_lists : CheckKeepsLists
check_keeps_lists s slots words t l = go (preparing_of t s.stamped) (λ u. same u (cases_eq t u))
  where
    same : (u : ℕ) → (t ≡ u) ⊎ (t ≡ u → ⊥) → phase_in (after_validate s t) u ≡ phase_in s u
    same u (inl e) = subst (λ (n : ℕ). phase_in (after_validate s t) n ≡ phase_in s n) e (leads_after_check s t).own
    same u (inr n) = (leads_after_check s t).others u n

    by : (x : StampedTx) (v b : Bool) → ((u : ℕ) → phase_in (cond b s (after_check s x.end v)) u ≡ phase_in s u) → HasWordLists (cond b s (after_check s x.end v)) slots words
    by x v true q = l
    by x v false q = checked s slots words x.end v q l

    go : (w : Option StampedTx) → ((u : ℕ) → phase_in (after_validate_of s w) u ≡ phase_in s u) → HasWordLists (after_validate_of s w) slots words
    go None q = l
    go (Some x) q = by x _ x.valid q

-- ---- a commit
pub words_preparing : (opening : Map) (s : State) (t : ℕ) (x : StampedTx) → IsStanding opening s → preparing_of t s.stamped ≡ Some x → words_now s t ≡ words_of x.history x.claims
words_preparing opening s t x k f =
    ap (λ (w : Option ActiveTx). words_held w (preparing_of t s.stamped)) (active_found t s.active ∙ find_none (is_active_as t) s.active (let l = preparing_alone s t x f k.single in omega arith))
    ∙ ap (words_held None) f

pub commit_keeps_lists : CommitKeepsLists
commit_keeps_lists opening s states slots lists places words t x h f l = record {
  once = l.once;
  active = active_self s s' slots words le path s.active l.active;
  preparing = each_map (with_settled x.end) (IsPreparingListed s slots words) (IsPreparingListed s' slots words) (λ y o n. own_self s s' slots y.id le path (words_of y.history y.claims) (words y.id) (o (or_parts y.settled (y.end == x.end) n).0)) s.stamped l.preparing;
  ended = each_append (IsEndedListed s' slots words) s.ended (committed_tx t x.end (words_now s t) ∷ []) (ended_self s s' slots words le path s.ended l.ended) (stand_all s' slots t (words_now s t) (words t) mine, tt);
  absent = λ u q. l.absent u (absent_before s s' (Commits t x.end) leads (λ q. gone (sym leads.own ∙ q)) u q);
}
  where
    s' : State
    s' = after_commit s t x.end

    leads : Leads (Commits t x.end) s s'
    leads = leads_after_commit s t x f h.kept.sound h.kept.single

    path : ends_in s' ≡ ends_in s
    path = ends_stay s s' (Commits t x.end) (phase_in s) (phase_in s') (λ _. refl) (λ _. refl) leads (sym (ap end_in (phase_preparing s t x h.kept.single f)))

    le : s.clock ≤ s'.clock
    le = omega arith

    gone : Committed x.end ≡ Absent → ⊥
    gone q = cc

    mine : StandAt s' slots t (words_now s t) (words t)
    mine =
        let w = found_holds (IsPreparingListed s slots words) t s.stamped x f l.preparing in
        stand_self s s' slots t le path (words_now s t) (words t)
        (subst (λ ws. StandAt s slots t ws (words t)) (sym (words_preparing opening s t x h.kept f))
        (subst (λ (u : ℕ). StandAt s slots u (words_of x.history x.claims) (words u)) w.1 (w.0 w.2).stand))

-- ---- the tale is trimmed, and a group is closed
pub trim_keeps_lists : TrimKeepsLists
trim_keeps_lists opening s states slots lists places words m h w l = record {
  once = l.once;
  active = active_self s s' slots words le path s.active l.active;
  preparing = each_filter (λ x. not (is_to m x)) (IsPreparingListed s' slots words) (IsPreparingListed s' slots words) (λ x _ o. o) s.stamped (preparing_self s s' slots words le path s.stamped l.preparing);
  ended = ended_self s s' slots words le path s.ended l.ended;
  absent = λ u q. l.absent u (sym (same u) ∙ q);
}
  where
    s' : State
    s' = after_trim s m

    same : (u : ℕ) → phase_in s' u ≡ phase_in s u
    same = phases_trimmed s m (may_trim s m w h.kept.sound)

    path : ends_in s' ≡ ends_in s
    path = λ i u. end_in (same u i)

    le : s.clock ≤ s'.clock
    le = omega arith

pub close_keeps_lists : CloseKeepsLists
close_keeps_lists s slots words mark l = record {
  once = l.once;
  active = active_self s s' slots words le refl s.active l.active;
  preparing = preparing_self s s' slots words le refl s.stamped l.preparing;
  ended = ended_self s s' slots words le refl s.ended l.ended;
  absent = l.absent;
}
  where
    s' : State
    s' = after_close s mark

    le : s.clock ≤ s'.clock
    le = omega arith
