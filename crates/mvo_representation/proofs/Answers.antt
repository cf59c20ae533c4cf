-- An operation of an Active transaction: what it has to keep, and what the claims say then.
use Rattle.std.proofs.Common.{◌≡◌, ◌≢◌, ℕ, ◌<◌, ◌≤◌, Bool, true, false, cond, ◌||◌, List, [], ◌∷◌, ◌++◌, map, Option, None, Some, refl, sym, ap, ◌∙◌, subst, ◌⊎◌, inl, inr}
use Rattle.std.specs.Prelude.{◌==◌, ◌&&◌}
use Rattle.std.specs.List.{AllByRecursion, list_any}
use Rattle.std.specs.Ordering.{eq_by_cmp}
use Rattle.std.proofs.lemmas.Bool.{eq-eqb, eqb-true, ne_eqb, true≢false, cases_eq}
use Rattle.std.proofs.lemmas.List.Folds.{list_any-append}
use Rattle.mvo_types.specs.declared.row.RowKey.{RowKey}
use Rattle.mvo_types.specs.declared.op.Op.{Op}
use Rattle.mvo_types.specs.AnswerData.{AnswerData}
use Rattle.mvo_types.specs.Keys.{key_cmp}
use Rattle.mvo_model.specs.History.{History, later, net_write, write_of, write_at, after_history}
use Rattle.mvo_types.specs.Write.{Effect, Write}
use Rattle.mvo_model.proofs.Serials.{net_write-append}
use Rattle.mvo_theory.specs.Ranges.{Row, changed_by, put_by, puts}
use Rattle.mvo_theory.specs.State.{State, ActiveTx, Claim, seen_by, active_of}
use Rattle.mvo_theory.specs.Claims.{has_claim, claims_with, ended_key}
use Rattle.mvo_theory.specs.Changes.{with_answer, after_operation}
use Rattle.mvo_theory.specs.Phases.{phase_in}
use Rattle.mvo_theory.proofs.Who.{active_holds}
use Rattle.mvo_theory.specs.Sound.{IsNumbered, AreDistinct}
use Rattle.mvo_theory.proofs.Each.{each_weaker, each_both, each_always, each_map, each_append}
use Rattle.mvo_theory.proofs.Phases.{leads_after_operation}
use Rattle.mvo_word.specs.declared.held.Held.{Held}
use Rattle.mvo_chain.specs.declared.version.Version.{Version}
use Rattle.mvo_representation.specs.Words.{Phases, ends_of, stamp_in, is_stamp, net_effect, Touch, is_touched, as_net_effect}
use Rattle.mvo_visible.specs.Words.{names}
use Rattle.mvo_representation.specs.Words.Touch.{OnlyPut, PutOrEnded}
use Rattle.mvo_theory.proofs.Counts.{puts-append}
use Rattle.mvo_representation.specs.Versions.{rows_by, Say, IsKnownStamp, IsKnown, EndIsClaimed, IsInside, AreDrawn, AreVersionsOf}
use Rattle.mvo_representation.proofs.Kept.{IsSame, IsVersion, each_version, kept_alike}
use Rattle.mvo_representation.proofs.Quiet.{known_next, same_self}

-- ---- only one stands with the id
abbrev pub IsOnly : ℕ → ActiveTx → List ActiveTx → Type 0
IsOnly t mine rs = AllByRecursion (λ r. r.id ≡ t → r ≡ mine) rs

some_active : (p q : ActiveTx) → ◌≡◌ {A = Option ActiveTx} (Some p) (Some q) → p ≡ q
some_active p q e = cc

none_active : (q : ActiveTx) → ◌≡◌ {A = Option ActiveTx} None (Some q) → ⊥
none_active q e = cc

pub only_mine : (t : ℕ) (mine : ActiveTx) (rs : List ActiveTx) → AreDistinct rs → active_of t rs ≡ Some mine → IsOnly t mine rs
only_mine t mine [] d f = tt
only_mine t mine (r ∷ rs) d f = go (r.id == t) refl f (λ g. only_mine t mine rs d.1 g)
  where
    go : (b : Bool) → (r.id == t) ≡ b → cond b (Some r) (active_of t rs) ≡ Some mine → (active_of t rs ≡ Some mine → IsOnly t mine rs) → (r.id ≡ t → r ≡ mine) × IsOnly t mine rs
    go true q g again = ((λ _. some_active r mine g), each_weaker (λ x. x.id ≢ r.id) (λ x. x.id ≡ t → x ≡ mine) (λ x n i. absurd (n (i ∙ sym (eqb-true r.id t q)))) rs d.0)
    go false q g again = ((λ i. absurd (true≢false (sym (eq-eqb r.id t i) ∙ q))), again g)

-- the rows that a write puts, or ends too
abbrev pub rows_more : Touch → Option Write → List Row → List Row
rows_more OnlyPut write rows = put_by write
rows_more PutOrEnded write rows = rows

rows_told : (g : Touch) (p : Row → Bool) (ts : History) (op : Op) (a : AnswerData) (rows more : List Row) → (list_any p (rows_by g ts rows) || list_any p (rows_more g (write_of op a) more)) ≡ list_any p (rows_by g (ts ++ (op, a) ∷ []) (rows ++ more))
rows_told OnlyPut p ts op a rows more = sym (ap (list_any p) (puts-append ts ((op, a) ∷ [])) ∙ list_any-append p (puts ts) (put_by (write_of op a) ++ []) ∙ ap (λ rs. list_any p (puts ts) || list_any p rs) (append_nil (put_by (write_of op a))))
  where
    append_nil : (xs : List Row) → xs ++ [] ≡ xs
    append_nil [] = refl
    append_nil (x ∷ xs) = ap (λ ys. x ∷ ys) (append_nil xs)
rows_told PutOrEnded p ts op a rows more = sym (list_any-append p rows more)

-- ---- what the owner says after it, and what the others say
pub record Wrote (t : ℕ) (write : Option Write) (rows : List Row) (vs vs' : List Version) : Type 0 where
  pub writes : (k : RowKey) (w : Option Effect) → net_effect (names t) k vs ≡ as_net_effect w → net_effect (names t) k vs' ≡ as_net_effect (later (write_at k write) w)
  pub touches : (g : Touch) (p : Row → Bool) → is_touched g (names t) p vs' ≡ (is_touched g (names t) p vs || list_any p (rows_more g write rows))

pub record IsApartFrom (u : ℕ) (vs vs' : List Version) : Type 0 where
  pub net_effect : (k : RowKey) → net_effect (names u) k vs' ≡ net_effect (names u) k vs
  pub touches : (g : Touch) (p : Row → Bool) → is_touched g (names u) p vs' ≡ is_touched g (names u) p vs

-- the rows that the operation of this one puts and ends
abbrev pub rows_of : State → ActiveTx → Op → AnswerData → List Row
rows_of s r op a = changed_by (write_of op a) (after_history r.history (seen_by s.base s.stamped r.id))

say_told : (s : State) (t : ℕ) (op : Op) (a : AnswerData) (mine : ActiveTx) (vs vs' : List Version) (r : ActiveTx) → Wrote t (write_of op a) (rows_of s mine op a) vs vs' → (r.id ≡ t → r ≡ mine) → ((r.id ≡ t → ⊥) → IsApartFrom r.id vs vs') → Say (names r.id) r.history r.footprint vs → (r.id ≡ t) ⊎ (r.id ≡ t → ⊥) → Say (names r.id) (with_answer s t op a r).history (with_answer s t op a r).footprint vs'
say_told s t op a mine vs vs' r w only n h (inl e) = record {
  writes = λ k.
      ap (λ i. net_effect (names i) k vs') e
      ∙ w.writes k (net_write k r.history) (ap (λ i. net_effect (names i) k vs) (sym e) ∙ h.writes k)
      ∙ ap as_net_effect (sym (ap (λ b. net_write k (cond b (r.history ++ (op, a) ∷ []) r.history)) (eq-eqb r.id t e) ∙ net_write-append k r.history ((op, a) ∷ [])));
  touches = λ g p.
      ap (λ i. is_touched g (names i) p vs') e
      ∙ w.touches g p
      ∙ ap (λ b. b || list_any p (rows_more g (write_of op a) (rows_of s mine op a))) (ap (λ i. is_touched g (names i) p vs) (sym e) ∙ h.touches g p)
      ∙ ap (λ q. list_any p (rows_by g r.history r.footprint) || list_any p (rows_more g (write_of op a) (rows_of s q op a))) (sym (only e))
      ∙ rows_told g p r.history op a r.footprint (rows_of s r op a)
      ∙ ap (λ b. list_any p (rows_by g (cond b (r.history ++ (op, a) ∷ []) r.history) (cond b (r.footprint ++ rows_of s r op a) r.footprint))) (sym (eq-eqb r.id t e));
}
say_told s t op a mine vs vs' r w only n h (inr d) = record {
  writes = λ k. (n d).net_effect k ∙ h.writes k ∙ ap as_net_effect (sym (ap (λ b. net_write k (cond b (r.history ++ (op, a) ∷ []) r.history)) (ne_eqb r.id t d)));
  touches = λ g p. (n d).touches g p ∙ h.touches g p ∙ sym (ap (λ b. list_any p (rows_by g (cond b (r.history ++ (op, a) ∷ []) r.history) (cond b (r.footprint ++ rows_of s r op a) r.footprint))) (ne_eqb r.id t d));
}

-- ---- claims
-- what it claims more
pub record ClaimsMore (s : State) (t : ℕ) (op : Op) (a : AnswerData) (mine : ActiveTx) (more : List Claim) : Type 0 where
  pub only : IsOnly t mine s.active
  pub is : claims_with s mine (ended_key op a) ≡ mine.claims ++ more
  pub drawn : AreDrawn s.clock more

claims_of : (s : State) (t : ℕ) (op : Op) (a : AnswerData) (mine : ActiveTx) (more : List Claim) (r : ActiveTx) → ClaimsMore s t op a mine more → (r.id ≡ t → r ≡ mine) → (r.id ≡ t) ⊎ (r.id ≡ t → ⊥) → (P : List Claim → Type 0) → (r.id ≡ t → P (mine.claims ++ more)) → ((r.id ≡ t → ⊥) → P r.claims) → P (with_answer s t op a r).claims
claims_of s t op a mine more r c only (inl e) P own other = subst P (sym (ap (λ b. cond b (claims_with s r (ended_key op a)) r.claims) (eq-eqb r.id t e) ∙ ap (λ q. claims_with s q (ended_key op a)) (only e) ∙ c.is)) (own e)
claims_of s t op a mine more r c only (inr n) P own other = subst P (sym (ap (λ b. cond b (claims_with s r (ended_key op a)) r.claims) (ne_eqb r.id t n))) (other n)

-- of one version: its End names who claims it
pub claims_answered : (s : State) (t : ℕ) (op : Op) (a : AnswerData) (mine : ActiveTx) (more : List Claim) (k : RowKey) (o : ℕ) (w : Held) → ClaimsMore s t op a mine more → names t w ≡ has_claim (mine.claims ++ more) k o → AllByRecursion (λ r. (r.id ≡ t → ⊥) → EndIsClaimed k o (names r.id) r.claims w) s.active → AllByRecursion (λ r. EndIsClaimed k o (names r.id) r.claims w) (map (with_answer s t op a) s.active)
claims_answered s t op a mine more k o w c own others =
    each_map (with_answer s t op a) (λ r. (r.id ≡ t → r ≡ mine) × ((r.id ≡ t → ⊥) → EndIsClaimed k o (names r.id) r.claims w)) (λ r. EndIsClaimed k o (names r.id) r.claims w)
    (λ r x. claims_of s t op a mine more r c x.0 (cases_eq r.id t) (λ cs. names r.id w ≡ has_claim cs k o) (λ e. ap (λ i. names i w) e ∙ own) x.1) s.active
    (each_both (λ r. r.id ≡ t → r ≡ mine) (λ r. (r.id ≡ t → ⊥) → EndIsClaimed k o (names r.id) r.claims w) (λ r. (r.id ≡ t → r ≡ mine) × ((r.id ≡ t → ⊥) → EndIsClaimed k o (names r.id) r.claims w)) (λ r x y. (x, y)) s.active c.only others)

stamp_answered : (s : State) (t : ℕ) (op : Op) (a : AnswerData) (n : ℕ) → IsKnownStamp s n → IsKnownStamp (after_operation s t op a) n
stamp_answered s t op a n g = record { drawn = g.drawn; apart = each_map (with_answer s t op a) (λ q. q.id ≢ n) (λ q. q.id ≢ n) (λ q i. i) s.active g.apart; settled = g.settled }

pub known_answered : (s : State) (table : Phases) (t : ℕ) (op : Op) (a : AnswerData) (w : Held) → IsKnown s table w → IsKnown (after_operation s t op a) table w
known_answered s table t op a w k = known_next s (after_operation s t op a) table table (stamp_answered s t op a) (λ u n. n) w k

pub inside_answered : (s : State) (t : ℕ) (op : Op) (a : AnswerData) (v : Version) → AllByRecursion (IsInside v) s.active → AllByRecursion (IsInside v) (after_operation s t op a).active
inside_answered s t op a v h = each_map (with_answer s t op a) (IsInside v) (IsInside v) (λ r g. g) s.active h

-- a version that stays, of which it claims nothing more
pub version_answered : (s : State) (table : Phases) (t : ℕ) (op : Op) (a : AnswerData) (mine : ActiveTx) (more : List Claim) (v : Version) → ClaimsMore s t op a mine more → active_of t s.active ≡ Some mine → ((o : ℕ) → stamp_in (ends_of table) v.begin ≡ Some o → is_stamp o (stamp_in (ends_of table) v.end) ≡ false → has_claim more v.row.key o ≡ false) → IsVersion s table v → IsVersion (after_operation s t op a) table v
version_answered s table t op a mine more v c f free h = record {
  known = (known_answered s table t op a v.begin h.known.0, known_answered s table t op a v.end h.known.1);
  claims = λ o put stays. let g = h.claims o put stays in record {
    active = claims_answered s t op a mine more v.row.key o v.end c
        (let w = active_holds (λ r. EndIsClaimed v.row.key o (names r.id) r.claims v.end) t s.active mine f g.active in
        ap (λ i. names i v.end) (sym w.1) ∙ w.0 ∙ sym (or_false (has_claim mine.claims v.row.key o) (has_claim more v.row.key o) (free o put stays)) ∙ sym (list_any-append (λ d. eq_by_cmp key_cmp v.row.key d.key && (d.origin == o)) mine.claims more))
        (each_weaker (λ r. EndIsClaimed v.row.key o (names r.id) r.claims v.end) (λ r. (r.id ≡ t → ⊥) → EndIsClaimed v.row.key o (names r.id) r.claims v.end) (λ r i _. i) s.active g.active);
    stamped = g.stamped;
  };
  forward = h.forward;
  inside = inside_answered s t op a v h.inside;
}
  where
    or_false : (b c : Bool) → c ≡ false → (b || c) ≡ b
    or_false true c e = refl
    or_false false c e = e

-- ---- the whole step
pub kept_after_operation : (s : State) (table : Phases) (t : ℕ) (op : Op) (a : AnswerData) (mine : ActiveTx) (more : List Claim) (vs vs' : List Version) → AreVersionsOf s table vs → ClaimsMore s t op a mine more → IsSame s.start (ends_of table) vs (ends_of table) vs' → Wrote t (write_of op a) (rows_of s mine op a) vs vs' → AllByRecursion (λ r. (r.id ≡ t → ⊥) → IsApartFrom r.id vs vs') s.active → AllByRecursion (IsVersion (after_operation s t op a) table) vs' → AreVersionsOf (after_operation s t op a) table vs'
kept_after_operation s table t op a mine more vs vs' h c same w n each =
    kept_alike s s.clock (map (with_answer s t op a) s.active) s.stamped s.ended table table vs vs' h
    (λ u. h.phases u ∙ sym (phase u (cases_eq t u)))
    same (λ e. refl) (λ e. refl)
    (each_map (with_answer s t op a) (λ r. (r.id ≡ t → r ≡ mine) × (((r.id ≡ t → ⊥) → IsApartFrom r.id vs vs') × Say (names r.id) r.history r.footprint vs)) (λ r. Say (names r.id) r.history r.footprint vs') (λ r x. say_told s t op a mine vs vs' r w x.0 x.1.0 x.1.1 (cases_eq r.id t)) s.active
    (each_both (λ r. r.id ≡ t → r ≡ mine) (λ r. ((r.id ≡ t → ⊥) → IsApartFrom r.id vs vs') × Say (names r.id) r.history r.footprint vs) (λ r. (r.id ≡ t → r ≡ mine) × (((r.id ≡ t → ⊥) → IsApartFrom r.id vs vs') × Say (names r.id) r.history r.footprint vs)) (λ r x y. (x, y)) s.active c.only
    (each_both (λ r. (r.id ≡ t → ⊥) → IsApartFrom r.id vs vs') (λ r. Say (names r.id) r.history r.footprint vs) (λ r. ((r.id ≡ t → ⊥) → IsApartFrom r.id vs vs') × Say (names r.id) r.history r.footprint vs) (λ r x y. (x, y)) s.active n h.active)))
    each
    (record {
      begun = each_map (with_answer s t op a) (λ r. s.start ≤ r.id) (λ r. s.start ≤ r.id) (λ r g. g) s.active h.begun;
      behind = each_map (with_answer s t op a) (λ r. AllByRecursion (λ x. x.end < r.id) s.past) (λ r. AllByRecursion (λ x. x.end < r.id) s.past) (λ r g. g) s.active h.behind;
      begun_stamped = h.begun_stamped;
      committed = λ u e q. stamp_answered s t op a e (h.committed u e q);
      drawn = each_map (with_answer s t op a) (λ r. (r.id ≡ t → r ≡ mine) × AreDrawn s.clock r.claims) (λ r. AreDrawn s.clock r.claims) (λ r x. claims_of s t op a mine more r c x.0 (cases_eq r.id t) (AreDrawn s.clock) (λ e. each_append (λ d. d.origin ≤ s.clock) mine.claims more (subst (λ (q : ActiveTx). AreDrawn s.clock q.claims) (x.0 e) x.1) c.drawn) (λ _. x.1)) s.active
          (each_both (λ r. r.id ≡ t → r ≡ mine) (λ r. AreDrawn s.clock r.claims) (λ r. (r.id ≡ t → r ≡ mine) × AreDrawn s.clock r.claims) (λ r x y. (x, y)) s.active c.only h.drawn);
      drawn_stamped = h.drawn_stamped;
    })
  where
    phase : (u : ℕ) → (t ≡ u) ⊎ (t ≡ u → ⊥) → phase_in (after_operation s t op a) u ≡ phase_in s u
    phase u (inl e) = subst (λ (n : ℕ). phase_in (after_operation s t op a) n ≡ phase_in s n) e (leads_after_operation s t op a).own
    phase u (inr d) = (leads_after_operation s t op a).others u d

-- an operation that writes nothing: a read, a scan, and the answers Exists and Absent
pub kept_unwritten : (s : State) (table : Phases) (t : ℕ) (op : Op) (a : AnswerData) (mine : ActiveTx) (vs : List Version) → IsNumbered s → AreVersionsOf s table vs → active_of t s.active ≡ Some mine → write_of op a ≡ None → ended_key op a ≡ None → AreVersionsOf (after_operation s t op a) table vs
kept_unwritten s table t op a mine vs num h f w e =
    kept_after_operation s table t op a mine [] vs vs h c (same_self s.start (ends_of table) vs)
    (record {
      writes = λ k x q. q ∙ sym (ap (λ y. as_net_effect (later (write_at k y) x)) w);
      touches = λ g p. sym (ap (λ y. is_touched g (names t) p vs || list_any p (rows_more g y (changed_by y (after_history mine.history (seen_by s.base s.stamped mine.id))))) w ∙ nothing g p);
    })
    (each_always (λ r. (r.id ≡ t → ⊥) → IsApartFrom r.id vs vs) (λ r _. record { net_effect = λ k. refl; touches = λ g p. refl }) s.active)
    (each_weaker (IsVersion s table) (IsVersion (after_operation s t op a) table) (λ v i. version_answered s table t op a mine [] v c f (λ o _ _. refl) i) vs (each_version s table vs h))
  where
    or_nothing : (b : Bool) → (b || false) ≡ b
    or_nothing true = refl
    or_nothing false = refl

    nothing : (g : Touch) (p : Row → Bool) → (is_touched g (names t) p vs || list_any p (rows_more g None (changed_by None (after_history mine.history (seen_by s.base s.stamped mine.id))))) ≡ is_touched g (names t) p vs
    nothing OnlyPut p = or_nothing (is_touched OnlyPut (names t) p vs)
    nothing PutOrEnded p = or_nothing (is_touched PutOrEnded (names t) p vs)

    empty : (cs : List Claim) → cs ≡ cs ++ []
    empty [] = refl
    empty (d ∷ ds) = ap (λ x. d ∷ x) (empty ds)

    c : ClaimsMore s t op a mine []
    c = record { only = only_mine t mine s.active num.distinct f; is = ap (claims_with s mine) e ∙ empty mine.claims; drawn = tt }
