-- First writer wins: the End of the version that is shown tells who claims it.
use Rattle.std.proofs.Common.{◌≡◌, ◌≢◌, ℕ, ◌<◌, ◌≤◌, Bool, true, false, cond, not, eqb, List, [], ◌∷◌, ◌++◌, Option, None, Some, refl, sym, ap, ◌∙◌, subst, arith, ◌⊎◌, inl, inr}
use Rattle.std.specs.Prelude.{◌==◌, ◌&&◌}
use Rattle.std.specs.List.{AllByRecursion}
use Rattle.std.specs.Cmp.{eq_by_cmp_equiv}
use Rattle.std.proofs.lemmas.Bool.{eq-eqb, ne_eqb, true≢false, cases_order, cases_eq}
use Rattle.mvo_types.proofs.Maps.{keys_total}
use Rattle.mvo_types.specs.declared.row.RowKey.{RowKey}
use Rattle.mvo_types.specs.declared.cause.Cause.TheVariants as cause
use Rattle.mvo_types.specs.RowData.{content_of}
use Rattle.mvo_model.specs.History.{net_write}
use Rattle.mvo_model.specs.Trace.{Phase}
use Rattle.mvo_model.specs.Trace.Phase.{Absent, Active, Preparing, Committed, Aborted}
use Rattle.mvo_theory.specs.State.{EndedTx, Outcome, State, StampedTx, ActiveTx, active_of, preparing_of, ended_of}
use Rattle.mvo_theory.specs.Claims.{has_claim}
use Rattle.mvo_theory.specs.Causes.{active_claim, stamped_claim, or_cause, claimed_by}
use Rattle.mvo_theory.specs.Phases.{phase_by, phase_in, ended_as}
use Rattle.mvo_theory.specs.Sound.{IsSound, IsStarted}
use Rattle.mvo_theory.proofs.Each.{each_back, each_always}
use Rattle.mvo_theory.proofs.Who.{active_holds}
use Rattle.mvo_word.specs.declared.held.Held.{Held}
use Rattle.mvo_word.specs.declared.held.Held.TheVariants.{At, By, Infinity}
use Rattle.mvo_chain.specs.declared.version.Version.{Version}
use Rattle.mvo_representation.specs.Words.{Phases, Ends, end_in, ends_of, stamp_in, is_stamp, has_stamp, cause_of_phase, cause_at_end, NetEffect, with_effect, effect_by, as_net_effect, net_effect, IsShownAt}
use Rattle.mvo_visible.specs.Words.{names}
use Rattle.mvo_representation.specs.Words.NetEffect.{Untouched, Removed, Puts, Clash}
use Rattle.mvo_representation.specs.Versions.{history_at, Say, IsKnown, EndIsClaimed, EndHasClaims, HasItsClaims, IsForward, AreVersionsOf}
use Rattle.mvo_representation.proofs.Effects.{net_effect-at}
use Rattle.mvo_representation.proofs.Facts.{stamp_drawn}
use Rattle.mvo_representation.proofs.Shown.{IsBegin, active_begins, behind_is}
use Rattle.mvo_representation.proofs.Version.{last_change_is_one, IsShownRow, version_shown}
use Rattle.mvo_theory.specs.State.Outcome.{Committed as WasCommitted, Aborted as WasAborted}

-- ---- claims of those with an end
abbrev EndsAt : RowKey → ℕ → Ends → Held → StampedTx → Type 0
EndsAt k a ends w x = EndIsClaimed k a (has_stamp ends x.end) x.claims w

-- a word with no stamp: none of them claims
stamped_nobody : (k : RowKey) (a : ℕ) (ends : Ends) (w : Held) (xs : List StampedTx) → stamp_in ends w ≡ None → AllByRecursion (EndsAt k a ends w) xs → stamped_claim k a xs ≡ None
stamped_nobody k a ends w [] e h = refl
stamped_nobody k a ends w (x ∷ xs) e h =
    ap (λ b. cond b (Some (cause.Stamped (record { 0 = x.end }))) (stamped_claim k a xs)) (sym h.0 ∙ ap (is_stamp x.end) e)
    ∙ stamped_nobody k a ends w xs e h.1

-- a word with a stamp: the one with that end claims
stamped_one : (k : RowKey) (a : ℕ) (ends : Ends) (w : Held) (xs : List StampedTx) (e : ℕ) → stamp_in ends w ≡ Some e → (history_at e xs ≡ [] → ⊥) → AllByRecursion (EndsAt k a ends w) xs → stamped_claim k a xs ≡ Some (cause.Stamped (record { 0 = e }))
stamped_one k a ends w [] e q n h = absurd (n refl)
stamped_one k a ends w (x ∷ xs) e q n h = go (cases_eq x.end e) (λ m. stamped_one k a ends w xs e q m h.1)
  where
    claims : has_claim x.claims k a ≡ eqb e x.end
    claims = sym h.0 ∙ ap (is_stamp x.end) q

    go : (x.end ≡ e) ⊎ (x.end ≡ e → ⊥) → ((history_at e xs ≡ [] → ⊥) → stamped_claim k a xs ≡ Some (cause.Stamped (record { 0 = e }))) → cond (has_claim x.claims k a) (Some (cause.Stamped (record { 0 = x.end }))) (stamped_claim k a xs) ≡ Some (cause.Stamped (record { 0 = e }))
    go (inl is) again =
        ap (λ b. cond b (Some (cause.Stamped (record { 0 = x.end }))) (stamped_claim k a xs)) (claims ∙ eq-eqb e x.end (sym is))
        ∙ ap (λ n. Some (cause.Stamped (record { 0 = n }))) is
    go (inr ne) again =
        ap (λ b. cond b (Some (cause.Stamped (record { 0 = x.end }))) (stamped_claim k a xs)) (claims ∙ ne_eqb e x.end (λ p. ne (sym p)))
        ∙ again (λ p. n (ap (λ b. cond b x.history (history_at e xs)) (ne_eqb x.end e ne) ∙ p))

-- ---- claims of the Active ones
abbrev NamesIt : RowKey → ℕ → Held → ActiveTx → Type 0
NamesIt k a w r = EndIsClaimed k a (names r.id) r.claims w

active_nobody : (t : ℕ) (k : RowKey) (a : ℕ) (w : Held) (rs : List ActiveTx) → AllByRecursion (λ r. names r.id w ≡ false) rs → AllByRecursion (NamesIt k a w) rs → active_claim t k a rs ≡ None
active_nobody t k a w [] n h = refl
active_nobody t k a w (r ∷ rs) n h =
    ap (λ b. cond (not (r.id == t) && b) (Some (cause.Active (record { 0 = r.id }))) (active_claim t k a rs)) (sym h.0 ∙ n.0)
    ∙ no (not (r.id == t))
    ∙ active_nobody t k a w rs n.1 h.1
  where
    no : (b : Bool) → cond (b && false) (Some (cause.Active (record { 0 = r.id }))) (active_claim t k a rs) ≡ active_claim t k a rs
    no true = refl
    no false = refl

active_one : (t u : ℕ) (k : RowKey) (a : ℕ) (rs : List ActiveTx) (q : ActiveTx) → (u ≡ t → ⊥) → active_of u rs ≡ Some q → AllByRecursion (NamesIt k a (By (record { 0 = u }))) rs → active_claim t k a rs ≡ Some (cause.Active (record { 0 = u }))
active_one t u k a [] q n f h = absurd (none_active q f)
  where
    none_active : (q : ActiveTx) → ◌≡◌ {A = Option ActiveTx} None (Some q) → ⊥
    none_active q g = cc
active_one t u k a (r ∷ rs) q n f h = go (cases_eq r.id u) (λ g. active_one t u k a rs q n g h.1)
  where
    step : (b c : Bool) → not (r.id == t) ≡ b → has_claim r.claims k a ≡ c → active_claim t k a (r ∷ rs) ≡ cond (b && c) (Some (cause.Active (record { 0 = r.id }))) (active_claim t k a rs)
    step b c e g = ap (λ x. cond (x && has_claim r.claims k a) (Some (cause.Active (record { 0 = r.id }))) (active_claim t k a rs)) e ∙ ap (λ x. cond (b && x) (Some (cause.Active (record { 0 = r.id }))) (active_claim t k a rs)) g

    skip : (b : Bool) → cond (b && false) (Some (cause.Active (record { 0 = r.id }))) (active_claim t k a rs) ≡ active_claim t k a rs
    skip true = refl
    skip false = refl

    go : (r.id ≡ u) ⊎ (r.id ≡ u → ⊥) → (active_of u rs ≡ Some q → active_claim t k a rs ≡ Some (cause.Active (record { 0 = u }))) → active_claim t k a (r ∷ rs) ≡ Some (cause.Active (record { 0 = u }))
    go (inl e) again =
        step true true (ap not (ne_eqb r.id t (λ p. n (sym e ∙ p)))) (sym h.0 ∙ eq-eqb u r.id (sym e))
        ∙ ap (λ n. Some (cause.Active (record { 0 = n }))) e
    go (inr ne) again =
        step (not (r.id == t)) false refl (sym h.0 ∙ ne_eqb u r.id (λ p. ne (sym p)))
        ∙ skip (not (r.id == t))
        ∙ again (sym (ap (λ b. cond b (Some r) (active_of u rs)) (ne_eqb r.id u ne)) ∙ f)

-- ---- who is Active
active_found : (s : State) (u : ℕ) → phase_in s u ≡ Active → (q : ActiveTx) × (active_of u s.active ≡ Some q)
active_found s u = go (active_of u s.active) (preparing_of u s.stamped) (ended_of u s.ended)
  where
    ended : (o : Outcome) → ended_as o ≡ Active → ⊥
    ended (WasCommitted e) q = cc
    ended WasAborted q = cc

    preparing : (e : ℕ) → Preparing e ≡ Active → ⊥
    preparing e q = cc

    absent : Absent ≡ Active → ⊥
    absent q = cc

    go : (a : Option ActiveTx) (b : Option StampedTx) (c : Option EndedTx) → phase_by a b c ≡ Active → (q : ActiveTx) × (a ≡ Some q)
    go (Some r) b c e = (r, refl)
    go None (Some x) c e = absurd (preparing x.end e)
    go None None (Some u) e = absurd (ended u.outcome e)
    go None None None e = absurd (absent e)

-- one that isn't Active has no id among theirs
pub not_active : (s : State) (u : ℕ) → (phase_in s u ≡ Active → ⊥) → AllByRecursion (λ r. (u == r.id) ≡ false) s.active
not_active s u n = none s.active (absent (active_of u s.active) refl)
  where
    absent : (w : Option ActiveTx) → active_of u s.active ≡ w → active_of u s.active ≡ None
    absent None e = e
    absent (Some r) e = absurd (n (ap (λ w. phase_by w (preparing_of u s.stamped) (ended_of u s.ended)) e))

    some_none : (r : ActiveTx) → ◌≡◌ {A = Option ActiveTx} (Some r) None → ⊥
    some_none r q = cc

    none : (rs : List ActiveTx) → active_of u rs ≡ None → AllByRecursion (λ r. (u == r.id) ≡ false) rs
    none [] e = tt
    none (r ∷ rs) e = elim (cases_eq r.id u) [
      | inl is ↦ absurd (some_none r (sym (ap (λ b. cond b (Some r) (active_of u rs)) (eq-eqb r.id u is)) ∙ e))
      | inr ne ↦ (ne_eqb u r.id (λ q. ne (sym q)), none rs (sym (ap (λ b. cond b (Some r) (active_of u rs)) (ne_eqb r.id u ne)) ∙ e))
    ]

other : (p : Phase) → (p ≡ Active → ⊥) → p ≡ Active → ⊥
other p n e = n e

-- ---- who claims the version that is shown
removed_some : (d : NetEffect) → with_effect Removed d ≡ Untouched → ⊥
removed_some Untouched q = cc
removed_some Removed q = cc
removed_some (Puts h) q = cc
removed_some Clash q = cc

-- who is named in the End has done something at the key
pub end_has_effect : (n : Held → Bool) (xs : List Version) (v : Version) (ys : List Version) → n v.end ≡ true → net_effect n v.row.key (xs ++ v ∷ ys) ≡ Untouched → ⊥
end_has_effect n xs v ys e q = removed_or (n v.begin) (effect_of_is refl)
  where
    effect_of_is : net_effect n v.row.key (xs ++ v ∷ ys) ≡ net_effect n v.row.key (xs ++ v ∷ ys) → with_effect (effect_by (n v.begin) true (content_of v.row)) (net_effect n v.row.key (xs ++ ys)) ≡ Untouched
    effect_of_is _ =
        ap (λ b. with_effect (effect_by (n v.begin) b (content_of v.row)) (net_effect n v.row.key (xs ++ ys))) (sym e)
        ∙ ap (λ b. with_effect (cond b (effect_by (n v.begin) (n v.end) (content_of v.row)) Untouched) (net_effect n v.row.key (xs ++ ys))) (sym ((eq_by_cmp_equiv keys_total).refl v.row.key))
        ∙ sym (net_effect-at n v.row.key xs v ys) ∙ q

    removed_or : (b : Bool) → with_effect (effect_by b true (content_of v.row)) (net_effect n v.row.key (xs ++ ys)) ≡ Untouched → ⊥
    removed_or true g = removed_some (net_effect n v.row.key (xs ++ ys)) g
    removed_or false g = removed_some (net_effect n v.row.key (xs ++ ys)) g

-- the End of a shown version has no stamp, or one behind the begin, whose owner is stamped
end_behind : (s : State) (table : Phases) (xs : List Version) (v : Version) (ys : List Version) (t : ℕ) (r : ActiveTx) (a e : ℕ) → IsSound s → AreVersionsOf s table (xs ++ v ∷ ys) → active_of t s.active ≡ Some r → IsShownAt (ends_of table) t v.row.key (xs ++ v ∷ ys) v a → stamp_in (ends_of table) v.end ≡ Some e → history_at e s.stamped ≡ [] → ⊥
end_behind s table xs v ys t r a e sd h f is q n = go (cases_order e t)
  where
    at : IsBegin s table (xs ++ v ∷ ys) t
    at = active_begins s table (xs ++ v ∷ ys) t r sd h f

    has_end : has_stamp (ends_of table) e v.end ≡ true
    has_end = ap (is_stamp e) q ∙ eq-eqb e e refl

    forward : a ≤ e
    forward = (each_back (IsForward (ends_of table)) xs (v ∷ ys) h.forward).0 a e is.put q

    differs : a ≡ e → ⊥
    differs p = true≢false (sym (eq-eqb e a (sym p)) ∙ sym (ap (is_stamp a) q) ∙ is.stays)

    apart : e ≡ t → ⊥
    apart p =
        let d = stamp_drawn s table (xs ++ v ∷ ys) sd h v.end (each_back (λ w. IsKnown s table w.begin × IsKnown s table w.end) xs (v ∷ ys) h.known).0.1 e q in
        let w = active_holds (λ (x : ActiveTx). x.id ≢ e) t s.active r f d.apart in
        w.0 (w.1 ∙ sym p)

    go : (e ≡ t) ⊎ ((e < t) ⊎ (t < e)) → ⊥
    go (inl p) = apart p
    go (inr (inr gt)) = end_has_effect (has_stamp (ends_of table) e) xs v ys has_end ((h.stamped e (let le = at.from in omega (arith, le, gt))).writes v.row.key ∙ ap (λ ts. as_net_effect (net_write v.row.key ts)) n)
    go (inr (inl lt)) = between (cases_order a e)
      where
        between : (a ≡ e) ⊎ ((a < e) ⊎ (e < a)) → ⊥
        between (inl p) = differs p
        between (inr (inl l)) = end_has_effect (has_stamp (ends_of table) e) xs v ys has_end ((last_change_is_one (λ m. net_effect (has_stamp (ends_of table) m) v.row.key (xs ++ v ∷ ys)) t (a, is.last.0) is.last.1).last e l lt)
        between (inr (inr g)) = omega (arith, g, forward)

-- who claims the version that is shown, where the transaction hasn't written the key: its End tells
pub cause_right : (s : State) (table : Phases) (xs : List Version) (v : Version) (ys : List Version) (t : ℕ) (r : ActiveTx) (a : ℕ) → IsSound s → IsStarted s → AreVersionsOf s table (xs ++ v ∷ ys) → active_of t s.active ≡ Some r → net_write v.row.key r.history ≡ None → IsShownAt (ends_of table) t v.row.key (xs ++ v ∷ ys) v a → claimed_by s t v.row.key ≡ cause_at_end table v.end
cause_right s table xs v ys t r a sd st h f unwritten is =
    ap (λ n. or_cause (active_claim t v.row.key n s.active) (stamped_claim v.row.key n s.stamped)) (sym row.origin)
    ∙ go v.end refl
  where
    row : IsShownRow s t v.row.key v a
    row = version_shown s table xs v ys t v.row.key a sd st h (active_begins s table (xs ++ v ∷ ys) t r sd h f) (behind_is s table (xs ++ v ∷ ys) t r h f) is

    claims : EndHasClaims s (ends_of table) v a
    claims = (each_back (HasItsClaims s (ends_of table)) xs (v ∷ ys) h.claims).0 a is.put is.stays

    named : (w : Held) → v.end ≡ w → AllByRecursion (NamesIt v.row.key a w) s.active
    named w e = subst (λ (x : Held). AllByRecursion (NamesIt v.row.key a x) s.active) e claims.active

    ended : (w : Held) → v.end ≡ w → AllByRecursion (EndsAt v.row.key a (ends_of table) w) s.stamped
    ended w e = subst (λ (x : Held). AllByRecursion (EndsAt v.row.key a (ends_of table) x) s.stamped) e claims.stamped

    behind : (w : Held) → v.end ≡ w → (e : ℕ) → stamp_in (ends_of table) w ≡ Some e → stamped_claim v.row.key a s.stamped ≡ Some (cause.Stamped (record { 0 = e }))
    behind w i e q = stamped_one v.row.key a (ends_of table) w s.stamped e q (end_behind s table xs v ys t r a e sd h f is (ap (stamp_in (ends_of table)) i ∙ q)) (ended w i)

    none : (w : Held) → v.end ≡ w → AllByRecursion (λ x. names x.id w ≡ false) s.active → active_claim t v.row.key a s.active ≡ None
    none w i n = active_nobody t v.row.key a w s.active n (named w i)

    unnamed : (s : State) (w : Held) → ((x : ActiveTx) → names x.id w ≡ false) → AllByRecursion (λ (x : ActiveTx). names x.id w ≡ false) s.active
    unnamed s w n = each_always (λ (x : ActiveTx). names x.id w ≡ false) n s.active

    mine : (u : ℕ) → v.end ≡ By (record { 0 = u }) → u ≡ t → ⊥
    mine u i e =
        let o = active_holds (λ (x : ActiveTx). Say (names x.id) x.history x.footprint (xs ++ v ∷ ys)) t s.active r f h.active in
        end_has_effect (names r.id) xs v ys (ap (names r.id) i ∙ eq-eqb u r.id (e ∙ sym o.1)) (o.0.writes v.row.key ∙ ap as_net_effect unwritten)

    by : (u : ℕ) (p : Phase) → v.end ≡ By (record { 0 = u }) → table u ≡ p → or_cause (active_claim t v.row.key a s.active) (stamped_claim v.row.key a s.stamped) ≡ cause_of_phase u p
    by u Active i q =
        let w = active_found s u (sym (h.phases u) ∙ q) in
        ap (λ c. or_cause c (stamped_claim v.row.key a s.stamped)) (active_one t u v.row.key a s.active w.0 (mine u i) w.1 (named (By (record { 0 = u })) i))
    by u Absent i q =
        ap (λ c. or_cause c (stamped_claim v.row.key a s.stamped)) (none (By (record { 0 = u })) i (not_active s u (λ e. other Absent (λ g. cc) (sym (sym (h.phases u) ∙ q) ∙ e))))
        ∙ stamped_nobody v.row.key a (ends_of table) (By (record { 0 = u })) s.stamped (ap end_in q) (ended (By (record { 0 = u })) i)
    by u Aborted i q =
        ap (λ c. or_cause c (stamped_claim v.row.key a s.stamped)) (none (By (record { 0 = u })) i (not_active s u (λ e. other Aborted (λ g. cc) (sym (sym (h.phases u) ∙ q) ∙ e))))
        ∙ stamped_nobody v.row.key a (ends_of table) (By (record { 0 = u })) s.stamped (ap end_in q) (ended (By (record { 0 = u })) i)
    by u (Preparing e) i q =
        ap (λ c. or_cause c (stamped_claim v.row.key a s.stamped)) (none (By (record { 0 = u })) i (not_active s u (λ g. other (Preparing e) (λ g. cc) (sym (sym (h.phases u) ∙ q) ∙ g))))
        ∙ behind (By (record { 0 = u })) i e (ap end_in q)
    by u (Committed e) i q =
        ap (λ c. or_cause c (stamped_claim v.row.key a s.stamped)) (none (By (record { 0 = u })) i (not_active s u (λ g. other (Committed e) (λ g. cc) (sym (sym (h.phases u) ∙ q) ∙ g))))
        ∙ behind (By (record { 0 = u })) i e (ap end_in q)

    go : (w : Held) → v.end ≡ w → or_cause (active_claim t v.row.key a s.active) (stamped_claim v.row.key a s.stamped) ≡ cause_at_end table w
    go Infinity i =
        ap (λ c. or_cause c (stamped_claim v.row.key a s.stamped)) (none Infinity i (unnamed s Infinity (λ x. refl)))
        ∙ stamped_nobody v.row.key a (ends_of table) Infinity s.stamped refl (ended Infinity i)
    go (At e) i =
        ap (λ c. or_cause c (stamped_claim v.row.key a s.stamped)) (none (At e) i (unnamed s (At e) (λ x. refl)))
        ∙ behind (At e) i e.0 refl
    go (By u) i = by u.0 (table u.0) i refl
