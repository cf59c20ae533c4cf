-- The steps after which an end appears or goes: a precommit, and the abort of a Preparing one.
use Rattle.std.proofs.Common.{◌≡◌, ◌≢◌, ℕ, ◌<◌, ◌≤◌, suc, Bool, true, false, cond, not, ◌||◌, eqb, List, [], ◌∷◌, ◌++◌, map, Option, None, Some, refl, sym, ap, ◌∙◌, subst, arith, ◌⊎◌, inl, inr}
use Rattle.std.specs.Prelude.{⊤, ◌==◌, ◌&&◌}
use Rattle.std.specs.List.{AllByRecursion, filter, list_any}
use Rattle.std.specs.Ordering.{eq_by_cmp}
use Rattle.std.proofs.lemmas.Bool.{eq-eqb, eqb-true, ne_eqb, le-ltb, false≢true, true≢false, cases_eq}
use Rattle.mvo_types.specs.declared.row.RowKey.{RowKey}
use Rattle.mvo_types.specs.Keys.{key_cmp}
use Rattle.mvo_model.specs.History.{History, net_write}
use Rattle.mvo_model.specs.Trace.{Phase}
use Rattle.mvo_model.specs.Trace.Step.{Aborts, Prepares}
use Rattle.mvo_model.specs.Trace.Phase.{Absent, Active, Preparing, Committed, Aborted}
use Rattle.mvo_theory.specs.Ranges.{Row}
use Rattle.mvo_theory.specs.State.{State, StampedTx, ActiveTx, Claim, preparing_of, active_of}
use Rattle.mvo_theory.specs.Claims.{has_claim}
use Rattle.mvo_theory.specs.Changes.{after_prepare, to_stamped, without_id, after_abort_of_preparing, with_flag, active_with_flag, not_at}
use Rattle.mvo_theory.specs.Phases.{phase_in}
use Rattle.mvo_theory.specs.Sound.{IsSound, IsSingle, IsStarted, IsPlaced}
use Rattle.mvo_theory.proofs.Each.{each_weaker, each_both, each_always, each_map, each_filter, each_append}
use Rattle.mvo_theory.proofs.Phases.{Leads, leads_after_prepare, leads_after_abort_of_preparing, alone_in}
use Rattle.mvo_theory.proofs.Who.{active_holds}
use Rattle.mvo_word.specs.declared.held.Held.{Held}
use Rattle.mvo_word.specs.declared.held.Held.TheVariants.{At, By, Infinity}
use Rattle.mvo_chain.specs.declared.version.Version.{Version}
use Rattle.mvo_representation.specs.Words.{Phases, Ends, is_up_to, end_in, ends_of, stamp_in, is_stamp, has_stamp, net_effect, Touch, is_touched, as_net_effect, standing, standing_effect}
use Rattle.mvo_visible.specs.Words.{names}
use Rattle.mvo_representation.specs.Versions.{history_at, rows_at, rows_by, Say, IsKnownStamp, IsKnown, EndIsClaimed, EndHasClaims, HasItsClaims, IsForward, IsInside, AreDrawn, AreVersionsOf}
use Rattle.mvo_representation.proofs.Effects.{net_effect_same, is_touched_same}
use Rattle.mvo_representation.proofs.LastChanges.{last_change_same, history_at-none, rows_at-none}
use Rattle.mvo_representation.proofs.Facts.{found_holds, preparing_is, phase_preparing, phase_active, end_drawn, stamp_drawn, say_nothing, is_at-none}
use Rattle.mvo_representation.proofs.Kept.{IsVersion, each_version, standing_effect_same}
use Rattle.mvo_representation.proofs.Quiet.{with_end, ends_turn, other_stays, own_led, still_there, known_next, stamp_other, history_at-map, rows_at-map}
use Rattle.mvo_representation.proofs.Decided.{none_end, some_end}

-- ---- another end: words at other stamps
other_by : (b : Bool) (o e : Option ℕ) (s : ℕ) → is_stamp s e ≡ false → (b ≡ true → is_stamp s o ≡ false) → is_stamp s (cond b e o) ≡ is_stamp s o
other_by true o e s n m = n ∙ sym (m refl)
other_by false o e s n m = refl

other_word : (ends : Ends) (t : ℕ) (e : Option ℕ) (s : ℕ) → is_stamp s e ≡ false → is_stamp s (ends t) ≡ false → (w : Held) → has_stamp (with_end t e ends) s w ≡ has_stamp ends s w
other_word ends t e s n m (At x) = refl
other_word ends t e s n m (By u) = other_by (eqb u.0 t) (ends u.0) e s n (λ same. ap (λ v. is_stamp s (ends v)) (eqb-true u.0 t same) ∙ m)
other_word ends t e s n m Infinity = refl

each_top : (vs : List Version) → AllByRecursion (λ (v : Version). ⊤ × ⊤) vs
each_top vs = each_always (λ v. ⊤ × ⊤) (λ v. (tt, tt)) vs

other_net_effect : (ends : Ends) (t : ℕ) (e : Option ℕ) (s : ℕ) (k : RowKey) (vs : List Version) → is_stamp s e ≡ false → is_stamp s (ends t) ≡ false → net_effect (has_stamp (with_end t e ends) s) k vs ≡ net_effect (has_stamp ends s) k vs
other_net_effect ends t e s k vs n m = net_effect_same (λ _. ⊤) (has_stamp (with_end t e ends) s) (has_stamp ends s) k (λ w _. other_word ends t e s n m w) vs (each_top vs)

other_marked : (g : Touch) (ends : Ends) (t : ℕ) (e : Option ℕ) (s : ℕ) (p : Row → Bool) (vs : List Version) → is_stamp s e ≡ false → is_stamp s (ends t) ≡ false → is_touched g (has_stamp (with_end t e ends) s) p vs ≡ is_touched g (has_stamp ends s) p vs
other_marked g ends t e s p vs n m = is_touched_same g (λ _. ⊤) (has_stamp (with_end t e ends) s) (has_stamp ends s) p (λ w _. other_word ends t e s n m w) vs (each_top vs)

low_by : (b : Bool) (start : ℕ) (e o : Option ℕ) → is_up_to start e ≡ false → (b ≡ true → is_up_to start o ≡ false) → is_up_to start o ≡ is_up_to start (cond b e o)
low_by true start e o n m = m refl ∙ sym n
low_by false start e o n m = refl

low_word : (ends : Ends) (t start : ℕ) (e : Option ℕ) → is_up_to start e ≡ false → is_up_to start (ends t) ≡ false → (w : Held) → is_up_to start (stamp_in ends w) ≡ is_up_to start (stamp_in (with_end t e ends) w)
low_word ends t start e n m (At s) = refl
low_word ends t start e n m (By u) = low_by (eqb u.0 t) start e (ends u.0) n (λ is. ap (λ v. is_up_to start (ends v)) (eqb-true u.0 t is) ∙ m)
low_word ends t start e n m Infinity = refl

high : (start e : ℕ) → start < e → is_up_to start (Some e) ≡ false
high start e lt = le-ltb e (suc start) (omega arith)

-- a word that names it has its end
pub own_word : (ends : Ends) (t : ℕ) (o : Option ℕ) (w : Held) → names t w ≡ true → stamp_in (with_end t o ends) w ≡ o
own_word ends t o (At n) q = absurd (false≢true q)
own_word ends t o (By u) q = ap (λ b. cond b o (ends u.0)) q
own_word ends t o Infinity q = absurd (false≢true q)

pub named_end : (ends : Ends) (t : ℕ) (w : Held) → names t w ≡ true → stamp_in ends w ≡ ends t
named_end ends t (At n) q = absurd (false≢true q)
named_end ends t (By u) q = ap ends (eqb-true u.0 t q)
named_end ends t Infinity q = absurd (false≢true q)

-- ---- the history at an end, with one more at the end
pub history_at-last : (e : ℕ) (xs : List StampedTx) (y : StampedTx) → AllByRecursion (λ x. x.end ≢ e) xs → y.end ≡ e → history_at e (xs ++ y ∷ []) ≡ y.history
history_at-last e [] y h i = ap (λ b. cond b y.history []) (eq-eqb y.end e i)
history_at-last e (x ∷ xs) y h i = ap (λ b. cond b x.history (history_at e (xs ++ y ∷ []))) (ne_eqb x.end e h.0) ∙ history_at-last e xs y h.1 i

pub rows_at-last : (e : ℕ) (xs : List StampedTx) (y : StampedTx) → AllByRecursion (λ x. x.end ≢ e) xs → y.end ≡ e → rows_at e (xs ++ y ∷ []) ≡ y.footprint
rows_at-last e [] y h i = ap (λ b. cond b y.footprint []) (eq-eqb y.end e i)
rows_at-last e (x ∷ xs) y h i = ap (λ b. cond b x.footprint (rows_at e (xs ++ y ∷ []))) (ne_eqb x.end e h.0) ∙ rows_at-last e xs y h.1 i

pub history_at-else : (e : ℕ) (xs : List StampedTx) (y : StampedTx) → (y.end ≡ e → ⊥) → history_at e (xs ++ y ∷ []) ≡ history_at e xs
history_at-else e [] y n = ap (λ b. cond b y.history []) (ne_eqb y.end e n)
history_at-else e (x ∷ xs) y n = ap (cond (x.end == e) x.history) (history_at-else e xs y n)

pub rows_at-else : (e : ℕ) (xs : List StampedTx) (y : StampedTx) → (y.end ≡ e → ⊥) → rows_at e (xs ++ y ∷ []) ≡ rows_at e xs
rows_at-else e [] y n = ap (λ b. cond b y.footprint []) (ne_eqb y.end e n)
rows_at-else e (x ∷ xs) y n = ap (cond (x.end == e) x.footprint) (rows_at-else e xs y n)

-- claims are of what begins up to the clock
undrawn : (c e : ℕ) (k : RowKey) (cs : List Claim) → c < e → AreDrawn c cs → has_claim cs k e ≡ false
undrawn c e k [] lt h = refl
undrawn c e k (d ∷ ds) lt h =
    ap (λ b. (eq_by_cmp key_cmp k d.key && b) || has_claim ds k e) (ne_eqb d.origin e (λ q. absurd (omega (arith, q, lt, h.0))))
    ∙ ap (λ b. b || has_claim ds k e) (no (eq_by_cmp key_cmp k d.key))
    ∙ undrawn c e k ds lt h.1
  where
    no : (b : Bool) → (b && false) ≡ false
    no true = refl
    no false = refl

-- ---- precommit: an Active one gets its end
pub kept_after_prepare : (s : State) (table table' : Phases) (vs : List Version) (r : ActiveTx) (e : ℕ) → s.clock < e → IsSound s → IsSingle s → IsStarted s → AreVersionsOf s table vs → active_of r.id s.active ≡ Some r → ((u : ℕ) → table' u ≡ phase_in (after_prepare s r e) u) → AreVersionsOf (after_prepare s r e) table' vs
kept_after_prepare s table table' vs r e lt sd sg st h f ph = record {
  phases = ph;
  stamped = λ m gt. subst (λ (x : Ends). Say (has_stamp x m) (history_at m (s.stamped ++ to_stamped e r ∷ [])) (rows_at m (s.stamped ++ to_stamped e r ∷ [])) vs) (sym path) (ended m gt (cases_eq e m));
  active = each_filter (λ q. not (q.id == r.id)) (λ q. Say (names q.id) q.history q.footprint vs) (λ q. Say (names q.id) q.history q.footprint vs) (λ q _ g. g) s.active h.active;
  opened = λ k. ap standing (last_change_same (λ m. net_effect (has_stamp (ends_of table') m) k vs) (λ m. net_effect (has_stamp (ends_of table) m) k vs) (suc s.start) (λ m l. ap (λ x. net_effect (has_stamp x m) k vs) path ∙ other_net_effect (ends_of table) r.id (Some e) m k vs (ne_eqb e m (λ q. before m l q)) (ap (is_stamp m) no_end))) ∙ h.opened k;
  stood = λ k. ap (λ x. standing_effect x s.start k vs) path ∙ sym (standing_effect_same (λ _. ⊤) (ends_of table) (with_end r.id (Some e) (ends_of table)) s.start k (λ w _. low_word (ends_of table) r.id s.start (Some e) (high s.start e start_lt) (ap (is_up_to s.start) no_end) w) vs (each_top vs)) ∙ h.stood k;
  known = each_weaker (λ v. IsKnown s table v.begin × IsKnown s table v.end) (λ v. IsKnown (after_prepare s r e) table' v.begin × IsKnown (after_prepare s r e) table' v.end) (λ v i. (known v.begin i.0, known v.end i.1)) vs h.known;
  claims = subst (λ (x : Ends). AllByRecursion (HasItsClaims (after_prepare s r e) x) vs) (sym path) (each_weaker (IsVersion s table) (HasItsClaims (after_prepare s r e) (with_end r.id (Some e) (ends_of table))) claims vs (each_version s table vs h));
  forward = subst (λ (x : Ends). AllByRecursion (IsForward x) vs) (sym path) (each_weaker (IsVersion s table) (IsForward (with_end r.id (Some e) (ends_of table))) forward vs (each_version s table vs h));
  inside = each_weaker (λ v. AllByRecursion (IsInside v) s.active) (λ v. AllByRecursion (IsInside v) (without_id r.id s.active)) (λ v i. each_filter (λ q. not (q.id == r.id)) (IsInside v) (IsInside v) (λ q _ g. g) s.active i) vs h.inside;
  begun = each_filter (λ q. not (q.id == r.id)) (λ q. s.start ≤ q.id) (λ q. s.start ≤ q.id) (λ q _ g. g) s.active h.begun;
  behind = each_filter (λ q. not (q.id == r.id)) (λ q. AllByRecursion (λ x. x.end < q.id) s.past) (λ q. AllByRecursion (λ x. x.end < q.id) s.past) (λ q _ g. g) s.active h.behind;
  begun_stamped = each_append (λ x. x.settled ≡ false → s.start ≤ x.id) s.stamped (to_stamped e r ∷ []) h.begun_stamped ((λ _. (active_holds (λ q. s.start ≤ q.id) r.id s.active r f h.begun).0), tt);
  committed = λ u m q. committed u m q (cases_eq r.id u);
  drawn = each_filter (λ q. not (q.id == r.id)) (λ q. AreDrawn s.clock q.claims) (λ q. AreDrawn e q.claims) (λ q _ g. wider q.claims g) s.active h.drawn;
  drawn_stamped = each_append (λ x. AreDrawn e x.claims) s.stamped (to_stamped e r ∷ []) (each_weaker (λ x. AreDrawn s.clock x.claims) (λ x. AreDrawn e x.claims) (λ x g. wider x.claims g) s.stamped h.drawn_stamped) (wider r.claims mine_drawn, tt);
}
  where
    leads : Leads (Prepares r.id e) s (after_prepare s r e)
    leads = leads_after_prepare s r.id r e f refl sg

    path : ends_of table' ≡ with_end r.id (Some e) (ends_of table)
    path = ends_turn s (after_prepare s r e) (Prepares r.id e) r.id (Some e) table table' h.phases ph leads refl refl

    no_end : ends_of table r.id ≡ None
    no_end = ap end_in (h.phases r.id ∙ phase_active s r.id r f)

    start_lt : s.start < e
    start_lt = let d = st.drawn in omega (arith, d, lt)

    before : (m : ℕ) → m < suc s.start → e ≡ m → ⊥
    before m l q = absurd (omega (arith, l, q, start_lt))

    mine : Say (names r.id) r.history r.footprint vs
    mine = (active_holds (λ q. Say (names q.id) q.history q.footprint vs) r.id s.active r f h.active).0

    mine_drawn : AreDrawn s.clock r.claims
    mine_drawn = (active_holds (λ q. AreDrawn s.clock q.claims) r.id s.active r f h.drawn).0

    wider : (cs : List Claim) → AreDrawn s.clock cs → AreDrawn e cs
    wider cs g = each_weaker (λ c. c.origin ≤ s.clock) (λ c. c.origin ≤ e) (λ c le. omega (arith, le, lt)) cs g

    end_by : (b : Bool) (o : Option ℕ) → ((x : ℕ) → o ≡ Some x → x ≢ e) → is_stamp e (cond b (Some e) o) ≡ b
    end_by true o n = eq-eqb e e refl
    end_by false None n = refl
    end_by false (Some x) n = ne_eqb x e (n x refl)

    below_ne : (n : ℕ) → n ≤ s.clock → n ≡ e → ⊥
    below_ne n le q = absurd (omega (arith, le, lt, q))

    here : (w : Held) → IsKnown s table w → has_stamp (with_end r.id (Some e) (ends_of table)) e w ≡ names r.id w
    here (At n) k = ne_eqb n.0 e (below_ne n.0 k.drawn)
    here (By u) k = end_by (eqb u.0 r.id) (ends_of table u.0) (λ x q. below_ne x (end_drawn s table vs sd h u.0 x q).drawn)
    here Infinity k = refl

    apart : AllByRecursion (λ x. x.end ≢ e) s.stamped
    apart = each_weaker (IsPlaced s.stamped s.clock) (λ x. x.end ≢ e) (λ x p. below_ne x.end p.drawn) s.stamped sd.placed

    ended : (m : ℕ) → s.start < m → (e ≡ m) ⊎ (e ≡ m → ⊥) → Say (has_stamp (with_end r.id (Some e) (ends_of table)) m) (history_at m (s.stamped ++ to_stamped e r ∷ [])) (rows_at m (s.stamped ++ to_stamped e r ∷ [])) vs
    ended m gt (inl q) = subst (λ (n : ℕ). Say (has_stamp (with_end r.id (Some e) (ends_of table)) n) (history_at n (s.stamped ++ to_stamped e r ∷ [])) (rows_at n (s.stamped ++ to_stamped e r ∷ [])) vs) q (record {
      writes = λ k. net_effect_same (IsKnown s table) (has_stamp (with_end r.id (Some e) (ends_of table)) e) (names r.id) k here vs h.known ∙ mine.writes k ∙ ap (λ ts. as_net_effect (net_write k ts)) (sym (history_at-last e s.stamped (to_stamped e r) apart refl));
      touches = λ g p. is_touched_same g (IsKnown s table) (has_stamp (with_end r.id (Some e) (ends_of table)) e) (names r.id) p here vs h.known ∙ mine.touches g p ∙ ap (λ ts. list_any p (rows_by g ts r.footprint)) (sym (history_at-last e s.stamped (to_stamped e r) apart refl)) ∙ ap (λ rs. list_any p (rows_by g (history_at e (s.stamped ++ to_stamped e r ∷ [])) rs)) (sym (rows_at-last e s.stamped (to_stamped e r) apart refl));
    })
    ended m gt (inr n) = let w = h.stamped m gt in record {
      writes = λ k. other_net_effect (ends_of table) r.id (Some e) m k vs (ne_eqb e m n) (ap (is_stamp m) no_end) ∙ w.writes k ∙ ap (λ ts. as_net_effect (net_write k ts)) (sym (history_at-else m s.stamped (to_stamped e r) n));
      touches = λ g p. other_marked g (ends_of table) r.id (Some e) m p vs (ne_eqb e m n) (ap (is_stamp m) no_end) ∙ w.touches g p ∙ ap (λ ts. list_any p (rows_by g ts (rows_at m s.stamped))) (sym (history_at-else m s.stamped (to_stamped e r) n)) ∙ ap (λ rs. list_any p (rows_by g (history_at m (s.stamped ++ to_stamped e r ∷ [])) rs)) (sym (rows_at-else m s.stamped (to_stamped e r) n));
    }

    stamp : (n : ℕ) → IsKnownStamp s n → IsKnownStamp (after_prepare s r e) n
    stamp n g = record {
      drawn = let d : n ≤ s.clock = g.drawn in omega (arith, d, lt);
      apart = each_filter (λ q. not (q.id == r.id)) (λ q. q.id ≢ n) (λ q. q.id ≢ n) (λ q _ i. i) s.active g.apart;
      settled = each_append (λ x. x.settled ≡ false → x.end ≢ n) s.stamped (to_stamped e r ∷ []) g.settled ((λ _ q. below_ne n g.drawn (sym q)), tt);
    }

    gone : Preparing e ≡ Absent → ⊥
    gone q = cc

    other : (m : ℕ) → Preparing e ≡ Committed m → ⊥
    other m q = cc

    known : (w : Held) → IsKnown s table w → IsKnown (after_prepare s r e) table' w
    known w k = known_next s (after_prepare s r e) table table' stamp (still_there s (after_prepare s r e) (Prepares r.id e) table table' h.phases ph leads (λ q. gone q)) w k

    committed : (u m : ℕ) → table' u ≡ Committed m → (r.id ≡ u) ⊎ (r.id ≡ u → ⊥) → IsKnownStamp (after_prepare s r e) m
    committed u m q (inl i) = absurd (other m (sym (own_led s (after_prepare s r e) (Prepares r.id e) table table' h.phases ph leads) ∙ ap table' i ∙ q))
    committed u m q (inr n) = stamp m (h.committed u m (sym (other_stays s (after_prepare s r e) (Prepares r.id e) table table' h.phases ph leads u n) ∙ q))

    -- its own version, not ended: nobody claims it
    fresh_claims : (v : Version) → v.end ≡ Infinity → EndHasClaims (after_prepare s r e) (with_end r.id (Some e) (ends_of table)) v e
    fresh_claims v i = record {
      active = each_filter (λ q. not (q.id == r.id)) (λ q. AreDrawn s.clock q.claims) (λ q. EndIsClaimed v.row.key e (names q.id) q.claims v.end) (λ q _ d. ap (names q.id) i ∙ sym (undrawn s.clock e v.row.key q.claims lt d)) s.active h.drawn;
      stamped = each_append (λ x. EndIsClaimed v.row.key e (has_stamp (with_end r.id (Some e) (ends_of table)) x.end) x.claims v.end) s.stamped (to_stamped e r ∷ [])
          (each_weaker (λ x. AreDrawn s.clock x.claims) (λ x. EndIsClaimed v.row.key e (has_stamp (with_end r.id (Some e) (ends_of table)) x.end) x.claims v.end) (λ x d. ap (has_stamp (with_end r.id (Some e) (ends_of table)) x.end) i ∙ sym (undrawn s.clock e v.row.key x.claims lt d)) s.stamped h.drawn_stamped)
          (ap (has_stamp (with_end r.id (Some e) (ends_of table)) e) i ∙ sym (undrawn s.clock e v.row.key r.claims lt mine_drawn), tt);
    }

    -- one that had its stamp
    old_claims : (v : Version) (a : ℕ) → IsKnown s table v.end → EndHasClaims s (ends_of table) v a → EndHasClaims (after_prepare s r e) (with_end r.id (Some e) (ends_of table)) v a
    old_claims v a k g = record {
      active = each_filter (λ q. not (q.id == r.id)) (λ q. EndIsClaimed v.row.key a (names q.id) q.claims v.end) (λ q. EndIsClaimed v.row.key a (names q.id) q.claims v.end) (λ q _ i. i) s.active g.active;
      stamped = each_append (λ x. EndIsClaimed v.row.key a (has_stamp (with_end r.id (Some e) (ends_of table)) x.end) x.claims v.end) s.stamped (to_stamped e r ∷ [])
          (each_both (λ x. x.end ≢ e) (λ x. EndIsClaimed v.row.key a (has_stamp (ends_of table) x.end) x.claims v.end) (λ x. EndIsClaimed v.row.key a (has_stamp (with_end r.id (Some e) (ends_of table)) x.end) x.claims v.end) (λ x n i. other_word (ends_of table) r.id (Some e) x.end (ne_eqb e x.end (λ q. n (sym q))) (ap (is_stamp x.end) no_end) v.end ∙ i) s.stamped apart g.stamped)
          (here v.end k ∙ (active_holds (λ q. EndIsClaimed v.row.key a (names q.id) q.claims v.end) r.id s.active r f g.active).0, tt);
    }

    claims : (v : Version) → IsVersion s table v → HasItsClaims (after_prepare s r e) (with_end r.id (Some e) (ends_of table)) v
    claims v i a put stays = go (names r.id v.begin) refl
      where
        from_inside : names r.id v.begin ≡ true → (v.end ≡ Infinity) ⊎ (names r.id v.end ≡ true) → EndHasClaims (after_prepare s r e) (with_end r.id (Some e) (ends_of table)) v a
        from_inside b (inl inf) = subst (λ (n : ℕ). EndHasClaims (after_prepare s r e) (with_end r.id (Some e) (ends_of table)) v n) (some_end e a (sym (own_word (ends_of table) r.id (Some e) v.begin b) ∙ put)) (fresh_claims v inf)
        from_inside b (inr own) =
            let at : e ≡ a = some_end e a (sym (own_word (ends_of table) r.id (Some e) v.begin b) ∙ put) in
            absurd (true≢false (sym (ap (is_stamp a) (own_word (ends_of table) r.id (Some e) v.end own) ∙ eq-eqb e a at) ∙ stays))

        not_with : (c : Bool) → names r.id v.end ≡ c → is_stamp a (stamp_in (ends_of table) v.end) ≡ false
        not_with true q = ap (is_stamp a) (named_end (ends_of table) r.id v.end q ∙ no_end)
        not_with false q = ap (is_stamp a) (sym (stamp_other (ends_of table) r.id (Some e) v.end q)) ∙ stays

        go : (b : Bool) → names r.id v.begin ≡ b → EndHasClaims (after_prepare s r e) (with_end r.id (Some e) (ends_of table)) v a
        go true q = from_inside q ((active_holds (IsInside v) r.id s.active r f i.inside).0 q)
        go false q = old_claims v a i.known.1 (i.claims a (sym (stamp_other (ends_of table) r.id (Some e) v.begin q) ∙ put) (not_with (names r.id v.end) refl))

    forward : (v : Version) → IsVersion s table v → IsForward (with_end r.id (Some e) (ends_of table)) v
    forward v i a b put is = go (names r.id v.begin) refl (names r.id v.end) refl
      where
        low_begin : names r.id v.begin ≡ false → a ≤ s.clock
        low_begin q = (stamp_drawn s table vs sd h v.begin i.known.0 a (sym (stamp_other (ends_of table) r.id (Some e) v.begin q) ∙ put)).drawn

        own_begin : names r.id v.begin ≡ true → names r.id v.end ≡ false → (v.end ≡ Infinity) ⊎ (names r.id v.end ≡ true) → a ≤ b
        own_begin q n (inl inf) = absurd (none_end b (sym (ap (stamp_in (with_end r.id (Some e) (ends_of table))) inf) ∙ is))
        own_begin q n (inr own) = absurd (true≢false (sym own ∙ n))

        go : (c : Bool) → names r.id v.begin ≡ c → (d : Bool) → names r.id v.end ≡ d → a ≤ b
        go true q true g = let x : e ≡ a = some_end e a (sym (own_word (ends_of table) r.id (Some e) v.begin q) ∙ put) in let y : e ≡ b = some_end e b (sym (own_word (ends_of table) r.id (Some e) v.end g) ∙ is) in omega (arith, x, y)
        go true q false g = own_begin q g ((active_holds (IsInside v) r.id s.active r f i.inside).0 q)
        go false q true g = let y : e ≡ b = some_end e b (sym (own_word (ends_of table) r.id (Some e) v.end g) ∙ is) in let l = low_begin q in omega (arith, l, lt, y)
        go false q false g = i.forward a b (sym (stamp_other (ends_of table) r.id (Some e) v.begin q) ∙ put) (sym (stamp_other (ends_of table) r.id (Some e) v.end g) ∙ is)

-- ---- a Preparing one goes
history_at-filter : (e m : ℕ) (xs : List StampedTx) → (e ≡ m → ⊥) → history_at m (filter (not_at e) xs) ≡ history_at m xs
history_at-filter e m [] n = refl
history_at-filter e m (x ∷ xs) n = go (x.end == e) refl (history_at-filter e m xs n)
  where
    go : (b : Bool) → (x.end == e) ≡ b → history_at m (filter (not_at e) xs) ≡ history_at m xs → history_at m (cond (not b) (x ∷ filter (not_at e) xs) (filter (not_at e) xs)) ≡ cond (x.end == m) x.history (history_at m xs)
    go true q i = i ∙ sym (ap (λ c. cond c x.history (history_at m xs)) (ne_eqb x.end m (λ g. n (sym (eqb-true x.end e q) ∙ g))))
    go false q i = ap (cond (x.end == m) x.history) i

rows_at-filter : (e m : ℕ) (xs : List StampedTx) → (e ≡ m → ⊥) → rows_at m (filter (not_at e) xs) ≡ rows_at m xs
rows_at-filter e m [] n = refl
rows_at-filter e m (x ∷ xs) n = go (x.end == e) refl (rows_at-filter e m xs n)
  where
    go : (b : Bool) → (x.end == e) ≡ b → rows_at m (filter (not_at e) xs) ≡ rows_at m xs → rows_at m (cond (not b) (x ∷ filter (not_at e) xs) (filter (not_at e) xs)) ≡ cond (x.end == m) x.footprint (rows_at m xs)
    go true q i = i ∙ sym (ap (λ c. cond c x.footprint (rows_at m xs)) (ne_eqb x.end m (λ g. n (sym (eqb-true x.end e q) ∙ g))))
    go false q i = ap (cond (x.end == m) x.footprint) i

filtered_apart : (e : ℕ) (xs : List StampedTx) → AllByRecursion (λ x. x.end ≢ e) (filter (not_at e) xs)
filtered_apart e xs = each_filter (not_at e) (λ _. ⊤) (λ x. x.end ≢ e) (λ x n _ q. false≢true (sym (ap not (eq-eqb x.end e q)) ∙ n)) xs (each_always (λ _. ⊤) (λ _. tt) xs)

-- rollback, and a refusal that aborts, of a Preparing one: its words fall silent
pub kept_after_abort_of_preparing : (s : State) (table table' : Phases) (vs : List Version) (t : ℕ) (x : StampedTx) → IsSound s → IsSingle s → IsStarted s → AreVersionsOf s table vs → preparing_of t s.stamped ≡ Some x → ((u : ℕ) → table' u ≡ phase_in (after_abort_of_preparing s t x.end) u) → AreVersionsOf (after_abort_of_preparing s t x.end) table' vs
kept_after_abort_of_preparing s table table' vs t x sd sg st h f ph = record {
  phases = ph;
  stamped = λ m gt. subst (λ (n : Ends). Say (has_stamp n m) (history_at m (map (with_flag t x.end) (filter (not_at x.end) s.stamped))) (rows_at m (map (with_flag t x.end) (filter (not_at x.end) s.stamped))) vs) (sym path) (ended m gt (cases_eq x.end m));
  active = each_map (active_with_flag t x.end) (λ q. Say (names q.id) q.history q.footprint vs) (λ q. Say (names q.id) q.history q.footprint vs) (λ q g. g) s.active h.active;
  opened = λ k. ap standing (last_change_same (λ m. net_effect (has_stamp (ends_of table') m) k vs) (λ m. net_effect (has_stamp (ends_of table) m) k vs) (suc s.start) (λ m l. ap (λ n. net_effect (has_stamp n m) k vs) path ∙ other_net_effect (ends_of table) t None m k vs refl (ap (is_stamp m) its_end ∙ ne_eqb x.end m (λ q. before m l q)))) ∙ h.opened k;
  stood = λ k. ap (λ n. standing_effect n s.start k vs) path ∙ sym (standing_effect_same (λ _. ⊤) (ends_of table) (with_end t None (ends_of table)) s.start k (λ w _. low_word (ends_of table) t s.start None refl (ap (is_up_to s.start) its_end ∙ high s.start x.end start_lt) w) vs (each_top vs)) ∙ h.stood k;
  known = each_weaker (λ v. IsKnown s table v.begin × IsKnown s table v.end) (λ v. IsKnown (after_abort_of_preparing s t x.end) table' v.begin × IsKnown (after_abort_of_preparing s t x.end) table' v.end) (λ v i. (known v.begin i.0, known v.end i.1)) vs h.known;
  claims = subst (λ (n : Ends). AllByRecursion (HasItsClaims (after_abort_of_preparing s t x.end) n) vs) (sym path) (each_weaker (IsVersion s table) (HasItsClaims (after_abort_of_preparing s t x.end) (with_end t None (ends_of table))) claims vs (each_version s table vs h));
  forward = subst (λ (n : Ends). AllByRecursion (IsForward n) vs) (sym path) (each_weaker (IsVersion s table) (IsForward (with_end t None (ends_of table))) (λ v i a b put is. i.forward a b (had v.begin a put).1 (had v.end b is).1) vs (each_version s table vs h));
  inside = each_weaker (λ v. AllByRecursion (IsInside v) s.active) (λ v. AllByRecursion (IsInside v) (map (active_with_flag t x.end) s.active)) (λ v i. each_map (active_with_flag t x.end) (IsInside v) (IsInside v) (λ q g. g) s.active i) vs h.inside;
  begun = each_map (active_with_flag t x.end) (λ q. s.start ≤ q.id) (λ q. s.start ≤ q.id) (λ q g. g) s.active h.begun;
  behind = each_map (active_with_flag t x.end) (λ q. AllByRecursion (λ y. y.end < q.id) s.past) (λ q. AllByRecursion (λ y. y.end < q.id) s.past) (λ q g. g) s.active h.behind;
  begun_stamped = each_map (with_flag t x.end) (λ y. y.settled ≡ false → s.start ≤ y.id) (λ y. y.settled ≡ false → s.start ≤ y.id) (λ y g. g) (filter (not_at x.end) s.stamped) (each_filter (not_at x.end) (λ y. y.settled ≡ false → s.start ≤ y.id) (λ y. y.settled ≡ false → s.start ≤ y.id) (λ y _ g. g) s.stamped h.begun_stamped);
  committed = λ u m q. committed u m q (cases_eq t u);
  drawn = each_map (active_with_flag t x.end) (λ q. AreDrawn s.clock q.claims) (λ q. AreDrawn s.clock q.claims) (λ q g. g) s.active h.drawn;
  drawn_stamped = each_map (with_flag t x.end) (λ y. AreDrawn s.clock y.claims) (λ y. AreDrawn s.clock y.claims) (λ y g. g) (filter (not_at x.end) s.stamped) (each_filter (not_at x.end) (λ y. AreDrawn s.clock y.claims) (λ y. AreDrawn s.clock y.claims) (λ y _ g. g) s.stamped h.drawn_stamped);
}
  where
    leads : Leads (Aborts t) s (after_abort_of_preparing s t x.end)
    leads = leads_after_abort_of_preparing s t x f sd sg

    path : ends_of table' ≡ with_end t None (ends_of table)
    path = ends_turn s (after_abort_of_preparing s t x.end) (Aborts t) t None table table' h.phases ph leads refl refl

    its_end : ends_of table t ≡ Some x.end
    its_end = ap end_in (h.phases t ∙ phase_preparing s t x sg f)

    start_lt : s.start < x.end
    start_lt = (found_holds (λ y. s.start < y.end) t s.stamped x f st.later).0

    before : (m : ℕ) → m < suc s.start → x.end ≡ m → ⊥
    before m l q = absurd (omega (arith, l, q, start_lt))

    -- a word that had its end named it
    others_end : (u : ℕ) (p : Phase) → (u ≡ t → ⊥) → table u ≡ p → end_in p ≡ Some x.end → ⊥
    others_end u Absent n q g = none_end x.end g
    others_end u Active n q g = none_end x.end g
    others_end u Aborted n q g = none_end x.end g
    others_end u (Committed m) n q g =
        let w = found_holds (λ y. y.settled ≡ false → y.end ≢ m) t s.stamped x f (h.committed u m q).settled in
        w.0 w.2 (sym (some_end m x.end g))
    others_end u (Preparing m) n q g =
        let y = preparing_is s u m (sym (h.phases u) ∙ q) in
        let w = found_holds (λ z. z.end ≡ x.end → z.id ≡ t) u s.stamped y.0 y.1 (alone_in s t x f sd) in
        n (sym w.1 ∙ w.0 (y.2 ∙ some_end m x.end g))

    here : (w : Held) → IsKnown s table w → has_stamp (with_end t None (ends_of table)) x.end w ≡ false
    here (At n) k = ne_eqb n.0 x.end (λ q. let w = found_holds (λ y. y.settled ≡ false → y.end ≢ n.0) t s.stamped x f k.settled in w.0 w.2 (sym q))
    here (By u) k = by (eqb u.0 t) refl
      where
        by : (b : Bool) → eqb u.0 t ≡ b → is_stamp x.end (cond b None (ends_of table u.0)) ≡ false
        by true q = refl
        by false q = is_at-none x.end (ends_of table u.0) (others_end u.0 (table u.0) (λ i. true≢false (sym (eq-eqb u.0 t i) ∙ q)) refl)
    here Infinity k = refl

    -- one that has a stamp after had it before, and doesn't name it
    had : (w : Held) (a : ℕ) → stamp_in (with_end t None (ends_of table)) w ≡ Some a → (names t w ≡ false) × (stamp_in (ends_of table) w ≡ Some a)
    had w a q = go (names t w) refl
      where
        go : (b : Bool) → names t w ≡ b → (names t w ≡ false) × (stamp_in (ends_of table) w ≡ Some a)
        go true g = absurd (none_end a (sym (own_word (ends_of table) t None w g) ∙ q))
        go false g = (g, sym (stamp_other (ends_of table) t None w g) ∙ q)

    ended : (m : ℕ) → s.start < m → (x.end ≡ m) ⊎ (x.end ≡ m → ⊥) → Say (has_stamp (with_end t None (ends_of table)) m) (history_at m (map (with_flag t x.end) (filter (not_at x.end) s.stamped))) (rows_at m (map (with_flag t x.end) (filter (not_at x.end) s.stamped))) vs
    ended m gt (inl q) =
        subst (λ (n : ℕ). Say (has_stamp (with_end t None (ends_of table)) n) (history_at n (map (with_flag t x.end) (filter (not_at x.end) s.stamped))) (rows_at n (map (with_flag t x.end) (filter (not_at x.end) s.stamped))) vs) q
        (subst (λ (ts : History). Say (has_stamp (with_end t None (ends_of table)) x.end) ts (rows_at x.end (map (with_flag t x.end) (filter (not_at x.end) s.stamped))) vs)
        (sym (history_at-map (with_flag t x.end) x.end (λ y. (refl, refl)) (filter (not_at x.end) s.stamped) ∙ history_at-none x.end (filter (not_at x.end) s.stamped) (filtered_apart x.end s.stamped)))
        (subst (λ (rs : List Row). Say (has_stamp (with_end t None (ends_of table)) x.end) [] rs vs)
        (sym (rows_at-map (with_flag t x.end) x.end (λ y. (refl, refl)) (filter (not_at x.end) s.stamped) ∙ rows_at-none x.end (filter (not_at x.end) s.stamped) (filtered_apart x.end s.stamped)))
        (say_nothing (IsKnown s table) (has_stamp (with_end t None (ends_of table)) x.end) here vs h.known)))
    ended m gt (inr n) = let w = h.stamped m gt in record {
      writes = λ k. other_net_effect (ends_of table) t None m k vs refl (ap (is_stamp m) its_end ∙ ne_eqb x.end m n) ∙ w.writes k ∙ ap (λ ts. as_net_effect (net_write k ts)) (sym (history_at-map (with_flag t x.end) m (λ y. (refl, refl)) (filter (not_at x.end) s.stamped) ∙ history_at-filter x.end m s.stamped n));
      touches = λ g p. other_marked g (ends_of table) t None m p vs refl (ap (is_stamp m) its_end ∙ ne_eqb x.end m n) ∙ w.touches g p ∙ ap (λ ts. list_any p (rows_by g ts (rows_at m s.stamped))) (sym (history_at-map (with_flag t x.end) m (λ y. (refl, refl)) (filter (not_at x.end) s.stamped) ∙ history_at-filter x.end m s.stamped n)) ∙ ap (λ rs. list_any p (rows_by g (history_at m (map (with_flag t x.end) (filter (not_at x.end) s.stamped))) rs)) (sym (rows_at-map (with_flag t x.end) m (λ y. (refl, refl)) (filter (not_at x.end) s.stamped) ∙ rows_at-filter x.end m s.stamped n));
    }

    stamp : (n : ℕ) → IsKnownStamp s n → IsKnownStamp (after_abort_of_preparing s t x.end) n
    stamp n g = record {
      drawn = g.drawn;
      apart = each_map (active_with_flag t x.end) (λ q. q.id ≢ n) (λ q. q.id ≢ n) (λ q i. i) s.active g.apart;
      settled = each_map (with_flag t x.end) (λ y. y.settled ≡ false → y.end ≢ n) (λ y. y.settled ≡ false → y.end ≢ n) (λ y i. i) (filter (not_at x.end) s.stamped) (each_filter (not_at x.end) (λ y. y.settled ≡ false → y.end ≢ n) (λ y. y.settled ≡ false → y.end ≢ n) (λ y _ i. i) s.stamped g.settled);
    }

    gone : Aborted ≡ Absent → ⊥
    gone q = cc

    other : (m : ℕ) → Aborted ≡ Committed m → ⊥
    other m q = cc

    known : (w : Held) → IsKnown s table w → IsKnown (after_abort_of_preparing s t x.end) table' w
    known w k = known_next s (after_abort_of_preparing s t x.end) table table' stamp (still_there s (after_abort_of_preparing s t x.end) (Aborts t) table table' h.phases ph leads (λ q. gone q)) w k

    committed : (u m : ℕ) → table' u ≡ Committed m → (t ≡ u) ⊎ (t ≡ u → ⊥) → IsKnownStamp (after_abort_of_preparing s t x.end) m
    committed u m q (inl i) = absurd (other m (sym (own_led s (after_abort_of_preparing s t x.end) (Aborts t) table table' h.phases ph leads) ∙ ap table' i ∙ q))
    committed u m q (inr n) = stamp m (h.committed u m (sym (other_stays s (after_abort_of_preparing s t x.end) (Aborts t) table table' h.phases ph leads u n) ∙ q))

    claims : (v : Version) → IsVersion s table v → HasItsClaims (after_abort_of_preparing s t x.end) (with_end t None (ends_of table)) v
    claims v i a put stays =
        let b = had v.begin a put in
        let g = i.claims a b.1 (not_with (names t v.end) refl) in
        record {
          active = each_map (active_with_flag t x.end) (λ q. EndIsClaimed v.row.key a (names q.id) q.claims v.end) (λ q. EndIsClaimed v.row.key a (names q.id) q.claims v.end) (λ q j. j) s.active g.active;
          stamped = each_map (with_flag t x.end) (λ y. EndIsClaimed v.row.key a (has_stamp (with_end t None (ends_of table)) y.end) y.claims v.end) (λ y. EndIsClaimed v.row.key a (has_stamp (with_end t None (ends_of table)) y.end) y.claims v.end) (λ y j. j) (filter (not_at x.end) s.stamped)
              (each_filter (not_at x.end) (λ y. EndIsClaimed v.row.key a (has_stamp (ends_of table) y.end) y.claims v.end) (λ y. EndIsClaimed v.row.key a (has_stamp (with_end t None (ends_of table)) y.end) y.claims v.end)
              (λ y n j. other_word (ends_of table) t None y.end refl (ap (is_stamp y.end) its_end ∙ ne_eqb x.end y.end (λ q. false≢true (sym (ap not (eq-eqb y.end x.end (sym q))) ∙ n))) v.end ∙ j) s.stamped g.stamped);
        }
      where
        not_its : x.end ≡ a → ⊥
        not_its q = true≢false (sym (ap (is_stamp x.end) put ∙ eq-eqb a x.end (sym q)) ∙ here v.begin i.known.0)

        not_with : (c : Bool) → names t v.end ≡ c → is_stamp a (stamp_in (ends_of table) v.end) ≡ false
        not_with true q = ap (is_stamp a) (named_end (ends_of table) t v.end q ∙ its_end) ∙ ne_eqb x.end a not_its
        not_with false q = ap (is_stamp a) (sym (stamp_other (ends_of table) t None v.end q)) ∙ stays
