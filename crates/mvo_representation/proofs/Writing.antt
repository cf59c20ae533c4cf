-- Each writing operation keeps what ties the versions to the state.
use Rattle.std.proofs.Common.{◌≡◌, ℕ, ◌≤◌, Bool, true, false, cond, ◌||◌, eqb, List, [], ◌∷◌, ◌++◌, Option, None, Some, refl, sym, ap, ◌∙◌, subst, ◌⊎◌, inl, inr}
use Rattle.std.specs.Prelude.{◌==◌, ◌&&◌, is_some}
use Rattle.std.specs.List.{AllByRecursion}
use Rattle.mvo_types.specs.Write.{Effect, content_after_last, Write}
use Rattle.std.specs.FinMap as fin
use Rattle.std.specs.Ordering.{eq_by_cmp}
use Rattle.std.specs.Cmp.{eq_by_cmp_equiv}
use Rattle.std.proofs.lemmas.Bool.{eq-eqb, eqb-true, ne_eqb, false≢true, true≢false}
use Rattle.std.proofs.lemmas.List.Folds.{list_any-append}
use Rattle.std.proofs.lemmas.Map.Views.{tells_apart}
use Rattle.mvo_types.proofs.Maps.{exact_keys, keys_total}
use Rattle.mvo_types.specs.declared.row.RowKey.{RowKey}
use Rattle.mvo_types.specs.declared.cause.Cause.TheVariants as cause
use Rattle.mvo_types.specs.declared.op.Op.{Op}
use Rattle.mvo_types.specs.AnswerData.{AnswerData}
use Rattle.mvo_types.specs.Keys.{key_cmp}
use Rattle.mvo_types.specs.RowData.{RowData, ContentData, content_of}
use Rattle.mvo_model.specs.History.{net_write, write_of, after_history}
use Rattle.mvo_model.specs.Trace.{Phase}
use Rattle.mvo_model.specs.Trace.Phase.{Absent, Active, Preparing, Committed, Aborted}
use Rattle.mvo_model.proofs.Serials.{get-after_history}
use Rattle.mvo_theory.specs.Ranges.{row_of, changed_by}
use Rattle.mvo_theory.specs.State.{State, ActiveTx, Claim, seen_by, active_of}
use Rattle.mvo_theory.specs.Claims.{has_claim, claims_with, origin, ended_key}
use Rattle.mvo_theory.specs.Changes.{after_operation}
use Rattle.mvo_theory.specs.Sound.{IsSound, IsStarted, IsNumbered}
use Rattle.mvo_theory.proofs.Each.{each_weaker, each_both, each_always, each_append}
use Rattle.mvo_theory.proofs.Who.{active_holds, id_of}
use Rattle.mvo_theory.proofs.Claims.{none_cause}
use Rattle.mvo_word.specs.declared.held.Held.{Held}
use Rattle.mvo_word.specs.declared.held.Held.TheVariants.{At, By, Infinity}
use Rattle.mvo_chain.specs.declared.version.Version.{Version}
use Rattle.mvo_representation.specs.Words.{Phases, Ends, end_in, ends_of, stamp_in, is_stamp, has_stamp, cause_of_phase, cause_at_end, NetEffect, with_effect, effect_by, effect_of, net_effect, as_net_effect, standing, IsShownAt, is_clash}
use Rattle.mvo_visible.specs.Words.{names}
use Rattle.mvo_representation.specs.Words.NetEffect.{Untouched, Removed, Puts, Clash}
use Rattle.mvo_representation.specs.Versions.{Say, IsKnown, EndIsClaimed, EndHasClaims, IsInside, AreVersionsOf}
use Rattle.mvo_representation.proofs.Effects.{net_effect-at}
use Rattle.mvo_representation.proofs.Facts.{phase_active, stamp_drawn}
use Rattle.mvo_representation.proofs.Shown.{active_begins, behind_is, stands_below}
use Rattle.mvo_representation.proofs.Version.{IsShownRow, version_shown, put_there, last_change_is_one, clash_in, no_clash}
use Rattle.mvo_representation.proofs.Conflict.{not_active}
use Rattle.mvo_representation.proofs.Kept.{IsSame, same_trans, IsVersion, each_version, each_at, each_changed}
use Rattle.mvo_representation.proofs.Answers.{IsOnly, only_mine, Wrote, IsApartFrom, ClaimsMore, claims_answered, known_answered, inside_answered, version_answered, kept_after_operation}
use Rattle.mvo_representation.specs.Steps.{IsOwnNewest, fresh, ended_by}
use Rattle.mvo_representation.proofs.Own.{IsFree, own_id, not_absent, same_effect, wrote_fresh, wrote_end_other, wrote_end_own, wrote_both, same_fresh, same_end, apart_fresh, apart_end, apart_both, version_fresh, free_after}
use Rattle.mvo_representation.proofs.Collect.{each_drop}
use Rattle.mvo_representation.proofs.Decided.{none_end, some_end}
use Rattle.mvo_types.specs.Write.Effect.{Put, Delete as Gone}

-- ---- the one that writes
pub record IsWriter (s : State) (table : Phases) (t : ℕ) (mine : ActiveTx) (vs : List Version) : Type 0 where
  pub only : IsOnly t mine s.active
  pub active : table t ≡ Active
  pub id : mine.id ≡ t
  pub net_effect : (k : RowKey) → net_effect (names t) k vs ≡ as_net_effect (net_write k mine.history)

pub writer : (s : State) (table : Phases) (t : ℕ) (mine : ActiveTx) (vs : List Version) → IsNumbered s → AreVersionsOf s table vs → active_of t s.active ≡ Some mine → IsWriter s table t mine vs
writer s table t mine vs num h f = record {
  only = only_mine t mine s.active num.distinct f;
  active = h.phases t ∙ phase_active s t mine f;
  id = id_of t s.active mine f;
  net_effect = let w = active_holds (λ q. Say (names q.id) q.history q.footprint vs) t s.active mine f h.active in λ k. ap (λ i. net_effect (names i) k vs) (sym w.1) ∙ w.0.writes k;
}

empty_more : (cs : List Claim) → cs ≡ cs ++ []
empty_more [] = refl
empty_more (d ∷ ds) = ap (λ x. d ∷ x) (empty_more ds)

no_more : (s : State) (t : ℕ) (op : Op) (a : AnswerData) (mine : ActiveTx) → IsOnly t mine s.active → claims_with s mine (ended_key op a) ≡ mine.claims → ClaimsMore s t op a mine []
no_more s t op a mine only e = record { only = only; is = e ∙ empty_more mine.claims; drawn = tt }

-- ---- insert, where nothing is shown
free_key : (w : Option Effect) (m : Option ContentData) → content_after_last w m ≡ None → content_after_last w None ≡ None
free_key None m e = refl
free_key (Some x) m e = e

pub kept_insert : (s : State) (table : Phases) (t : ℕ) (op : Op) (a : AnswerData) (mine : ActiveTx) (vs : List Version) (r : RowData) → IsNumbered s → AreVersionsOf s table vs → active_of t s.active ≡ Some mine → fin.get (after_history mine.history (seen_by s.base s.stamped mine.id)) r.key ≡ None → write_of op a ≡ Some (r.key, Put (content_of r)) → ended_key op a ≡ None → AreVersionsOf (after_operation s t op a) table (vs ++ fresh t r ∷ [])
kept_insert s table t op a mine vs r num h f gone w e =
    kept_after_operation s table t op a mine [] vs (vs ++ fresh t r ∷ []) h c
    (same_fresh s.start (ends_of table) t r vs (ap end_in me.active))
    (subst (λ (x : Option Write). Wrote t x (changed_by x (after_history mine.history (seen_by s.base s.stamped mine.id))) vs (vs ++ fresh t r ∷ [])) (sym w)
    (subst (λ (o : Option ContentData). Wrote t (Some (r.key, Put (content_of r))) (row_of r.key o ++ (r.key, content_of r) ∷ []) vs (vs ++ fresh t r ∷ [])) (sym gone) (wrote_fresh t r vs free)))
    (each_always (λ q. (q.id ≡ t → ⊥) → IsApartFrom q.id vs (vs ++ fresh t r ∷ [])) (λ q n. apart_fresh t q.id r vs n) s.active)
    (each_append (IsVersion (after_operation s t op a) table) vs (fresh t r ∷ [])
    (each_weaker (IsVersion s table) (IsVersion (after_operation s t op a) table) (λ v i. version_answered s table t op a mine [] v c f (λ o _ _. refl) i) vs (each_version s table vs h))
    (version_fresh s table t op a r me.active, tt))
  where
    me : IsWriter s table t mine vs
    me = writer s table t mine vs num h f

    c : ClaimsMore s t op a mine []
    c = no_more s t op a mine me.only (ap (claims_with s mine) e)

    free : IsFree t r.key vs
    free x q = same_effect x (net_write r.key mine.history) (sym q ∙ me.net_effect r.key) ∙ free_key (net_write r.key mine.history) (fin.get (seen_by s.base s.stamped mine.id) r.key) (sym (get-after_history r.key mine.history (seen_by s.base s.stamped mine.id)) ∙ gone)

-- ---- the End may be claimed
pub record IsClaimable (s : State) (ends : Ends) (w : Held) : Type 0 where
  pub unseen : stamp_in ends w ≡ None
  pub unnamed : AllByRecursion (λ r. names r.id w ≡ false) s.active

pub claimable : (s : State) (table : Phases) (vs : List Version) (w : Held) → AreVersionsOf s table vs → IsKnown s table w → cause_at_end table w ≡ None → IsClaimable s (ends_of table) w
claimable s table vs (At n) h k c = absurd (none_cause (cause.Stamped n) c)
claimable s table vs Infinity h k c = record { unseen = refl; unnamed = each_always (λ r. names r.id Infinity ≡ false) (λ r. refl) s.active }
claimable s table vs (By u) h k c = go (table u.0) refl c
  where
    aborted : Aborted ≡ Active → ⊥
    aborted q = cc

    go : (p : Phase) → table u.0 ≡ p → cause_of_phase u.0 p ≡ None → IsClaimable s (ends_of table) (By u)
    go Absent q g = absurd (k q)
    go Active q g = absurd (none_cause (cause.Active (record { 0 = u.0 })) g)
    go (Preparing e) q g = absurd (none_cause (cause.Stamped (record { 0 = e })) g)
    go (Committed e) q g = absurd (none_cause (cause.Stamped (record { 0 = e })) g)
    go Aborted q g = record { unseen = ap end_in q; unnamed = not_active s u.0 (λ i. aborted (sym (sym (h.phases u.0) ∙ q) ∙ i)) }

-- a word with a stamp names no Active one
pub stamped_unnamed : (s : State) (table : Phases) (vs : List Version) (w : Held) (e : ℕ) → AreVersionsOf s table vs → stamp_in (ends_of table) w ≡ Some e → AllByRecursion (λ r. names r.id w ≡ false) s.active
stamped_unnamed s table vs (At n) e h q = each_always (λ r. names r.id (At n) ≡ false) (λ r. refl) s.active
stamped_unnamed s table vs Infinity e h q = absurd (none_end e q)
stamped_unnamed s table vs (By u) e h q = not_active s u.0 (λ i. none_end e (sym (ap end_in (h.phases u.0 ∙ i)) ∙ q))

-- ---- lists with one apart
each_insert : {X : Type 0} (P : X → Type 0) (xs : List X) (w : X) (ys : List X) → P w → AllByRecursion P (xs ++ ys) → AllByRecursion P (xs ++ w ∷ ys)
each_insert P [] w ys p h = (p, h)
each_insert P (x ∷ xs) w ys p h = (h.0, each_insert P xs w ys p h.1)

-- ---- a put that stands is alone at its stamp
abbrev puts : NetEffect → Bool
puts Untouched = false
puts Removed = false
puts (Puts h) = true
puts Clash = true

none_first : (d e : NetEffect) → puts (with_effect d e) ≡ false → puts d ≡ false
none_first Untouched e h = refl
none_first Removed e h = refl
none_first (Puts g) Untouched h = h
none_first (Puts g) Removed h = h
none_first (Puts g) (Puts k) h = h
none_first (Puts g) Clash h = h
none_first Clash e h = h

none_rest : (d e : NetEffect) → puts (with_effect d e) ≡ false → puts e ≡ false
none_rest Untouched e h = h
none_rest Removed Untouched h = refl
none_rest Removed Removed h = refl
none_rest Removed (Puts g) h = h
none_rest Removed Clash h = h
none_rest (Puts g) Untouched h = refl
none_rest (Puts g) Removed h = refl
none_rest (Puts g) (Puts k) h = h
none_rest (Puts g) Clash h = h
none_rest Clash e h = absurd (true≢false h)

each_none : (n : Held → Bool) (k : RowKey) (vs : List Version) → puts (net_effect n k vs) ≡ false → AllByRecursion (λ w. puts (effect_of n k w) ≡ false) vs
each_none n k [] h = tt
each_none n k (v ∷ vs) h = (none_first (effect_of n k v) (net_effect n k vs) h, each_none n k vs (none_rest (effect_of n k v) (net_effect n k vs) h))

others_none : (h : ContentData) (e : NetEffect) → is_clash (with_effect (Puts h) e) ≡ false → puts e ≡ false
others_none h Untouched f = refl
others_none h Removed f = refl
others_none h (Puts g) f = f
others_none h Clash f = f

clash_standing : (o : ℕ) (d : NetEffect) → clash_in (standing (Some (o, d))) ≡ is_clash d
clash_standing o Untouched = refl
clash_standing o Removed = refl
clash_standing o (Puts h) = refl
clash_standing o Clash = refl

-- ---- what an update or a delete needs of the version that it ends
-- another's: it is shown, nobody stands in the way, and the key wasn't written
pub record EndsOther (s : State) (table : Phases) (t : ℕ) (mine : ActiveTx) (vs : List Version) (v : Version) (o : ℕ) : Type 0 where
  pub shown : IsShownAt (ends_of table) t v.row.key vs v o
  pub unwritten : net_write v.row.key mine.history ≡ None
  pub free : cause_at_end table v.end ≡ None

pub record IsEnded (s : State) (table : Phases) (t : ℕ) (op : Op) (a : AnswerData) (mine : ActiveTx) (more : List Claim) (xs : List Version) (v : Version) (ys : List Version) : Type 0 where
  pub claimed : ClaimsMore s t op a mine more
  pub same : IsSame s.start (ends_of table) (xs ++ v ∷ ys) (ends_of table) (xs ++ ended_by t v ∷ ys)
  pub wrote : Wrote t (Some (v.row.key, Gone)) ((v.row.key, content_of v.row) ∷ []) (xs ++ v ∷ ys) (xs ++ ended_by t v ∷ ys)
  pub apart : AllByRecursion (λ q. (q.id ≡ t → ⊥) → IsApartFrom q.id (xs ++ v ∷ ys) (xs ++ ended_by t v ∷ ys)) s.active
  pub versions : AllByRecursion (IsVersion (after_operation s t op a) table) (xs ++ ended_by t v ∷ ys)
  pub row : fin.get (after_history mine.history (seen_by s.base s.stamped mine.id)) v.row.key ≡ Some (content_of v.row)

-- ---- another's version
abbrev pub claim_of : State → ActiveTx → Version → Claim
claim_of s mine v = record { key = v.row.key; origin = origin s mine.id v.row.key }

pub ends_other : (s : State) (table : Phases) (t : ℕ) (op : Op) (a : AnswerData) (mine : ActiveTx) (xs : List Version) (v : Version) (ys : List Version) (o : ℕ) → IsSound s → IsStarted s → IsNumbered s → AreVersionsOf s table (xs ++ v ∷ ys) → active_of t s.active ≡ Some mine → EndsOther s table t mine (xs ++ v ∷ ys) v o → ended_key op a ≡ Some v.row.key → IsEnded s table t op a mine (claim_of s mine v ∷ []) xs v ys
ends_other s table t op a mine xs v ys o sd st num h f x e = record {
  claimed = more;
  same = same_end s.start (ends_of table) t xs v ys (ap end_in me.active) free.unseen;
  wrote = wrote_end_other t xs v ys (mine_of v.begin (stamped_unnamed s table (xs ++ v ∷ ys) v.begin o h x.shown.put)) (mine_of v.end free.unnamed) (λ w q. same_effect w (net_write v.row.key mine.history) (sym q ∙ me.net_effect v.row.key) ∙ ap (λ y. content_after_last y None) x.unwritten);
  apart = each_weaker (λ q. names q.id v.end ≡ false) (λ q. (q.id ≡ t → ⊥) → IsApartFrom q.id (xs ++ v ∷ ys) (xs ++ ended_by t v ∷ ys)) (λ q n d. apart_end t q.id xs v ys d n) s.active free.unnamed;
  versions = each_insert (IsVersion (after_operation s t op a) table) xs (ended_by t v) ys here
      (each_both (λ w. puts (effect_of (has_stamp (ends_of table) o) v.row.key w) ≡ false) (IsVersion s table) (IsVersion (after_operation s t op a) table)
      (λ w n i. version_answered s table t op a mine (claim_of s mine v ∷ []) w more f (λ b put stays. unclaimed w b n put stays) i) (xs ++ ys)
      alone (each_drop (IsVersion s table) xs v ys (each_version s table (xs ++ v ∷ ys) h)));
  row = get-after_history v.row.key mine.history (seen_by s.base s.stamped mine.id) ∙ ap (λ y. content_after_last y (fin.get (seen_by s.base s.stamped mine.id) v.row.key)) x.unwritten ∙ ap (λ i. fin.get (seen_by s.base s.stamped i) v.row.key) me.id ∙ shown.row;
}
  where
    me : IsWriter s table t mine (xs ++ v ∷ ys)
    me = writer s table t mine (xs ++ v ∷ ys) num h f

    was : IsVersion s table v
    was = each_at (IsVersion s table) xs v ys (each_version s table (xs ++ v ∷ ys) h)

    free : IsClaimable s (ends_of table) v.end
    free = claimable s table (xs ++ v ∷ ys) v.end h was.known.1 x.free

    shown : IsShownRow s t v.row.key v o
    shown = version_shown s table xs v ys t v.row.key o sd st h (active_begins s table (xs ++ v ∷ ys) t mine sd h f) (behind_is s table (xs ++ v ∷ ys) t mine h f) x.shown

    is_origin : origin s mine.id v.row.key ≡ o
    is_origin = ap (λ i. origin s i v.row.key) me.id ∙ sym shown.origin

    mine_of : (w : Held) → AllByRecursion (λ r. names r.id w ≡ false) s.active → names t w ≡ false
    mine_of w n = let y = active_holds (λ (r : ActiveTx). names r.id w ≡ false) t s.active mine f n in ap (λ i. names i w) (sym y.1) ∙ y.0

    more : ClaimsMore s t op a mine (claim_of s mine v ∷ [])
    more = record {
      only = me.only;
      is = ap (claims_with s mine) e ∙ ap (λ y. cond (is_some y) mine.claims (mine.claims ++ claim_of s mine v ∷ [])) x.unwritten;
      drawn = (subst (λ (n : ℕ). n ≤ s.clock) (sym is_origin) (stamp_drawn s table (xs ++ v ∷ ys) sd h v.begin was.known.0 o x.shown.put).drawn, tt);
    }

    clear : is_clash (net_effect (has_stamp (ends_of table) o) v.row.key (xs ++ v ∷ ys)) ≡ false
    clear =
        let t' = last_change_is_one (λ m. net_effect (has_stamp (ends_of table) m) v.row.key (xs ++ v ∷ ys)) t (o, x.shown.last.0) x.shown.last.1 in
        ap is_clash t'.is
        ∙ sym (clash_standing o x.shown.last.0)
        ∙ ap (λ c. clash_in (standing c)) (sym x.shown.last.1)
        ∙ ap clash_in (stands_below s table (xs ++ v ∷ ys) t v.row.key sd st h (active_begins s table (xs ++ v ∷ ys) t mine sd h f) (behind_is s table (xs ++ v ∷ ys) t mine h f))
        ∙ no_clash (origin s t v.row.key) (fin.get (seen_by s.base s.stamped t) v.row.key)

    alone : AllByRecursion (λ w. puts (effect_of (has_stamp (ends_of table) o) v.row.key w) ≡ false) (xs ++ ys)
    alone =
        each_none (has_stamp (ends_of table) o) v.row.key (xs ++ ys)
        (others_none (content_of v.row) (net_effect (has_stamp (ends_of table) o) v.row.key (xs ++ ys))
        (ap (λ d. is_clash (with_effect d (net_effect (has_stamp (ends_of table) o) v.row.key (xs ++ ys)))) (sym (put_there (ends_of table) v.row.key v o refl x.shown.put x.shown.stays))
        ∙ ap is_clash (sym (net_effect-at (has_stamp (ends_of table) o) v.row.key xs v ys)) ∙ clear))

    unclaimed : (w : Version) (b : ℕ) → puts (effect_of (has_stamp (ends_of table) o) v.row.key w) ≡ false → stamp_in (ends_of table) w.begin ≡ Some b → is_stamp b (stamp_in (ends_of table) w.end) ≡ false → has_claim (claim_of s mine v ∷ []) w.row.key b ≡ false
    unclaimed w b n put stays = go (eq_by_cmp key_cmp w.row.key v.row.key) refl (eqb (origin s mine.id v.row.key) b) refl
      where
        go : (c : Bool) → eq_by_cmp key_cmp w.row.key v.row.key ≡ c → (d : Bool) → eqb (origin s mine.id v.row.key) b ≡ d → ((c && d) || false) ≡ false
        go false q d g = refl
        go true q false g = refl
        go true q true g =
            let at : o ≡ b = sym is_origin ∙ eqb-true (origin s mine.id v.row.key) b g in
            absurd (true≢false (sym (ap puts (put_there (ends_of table) v.row.key w o (tells_apart exact_keys w.row.key v.row.key q) (put ∙ ap (λ m. Some m) (sym at)) (subst (λ (m : ℕ). is_stamp m (stamp_in (ends_of table) w.end) ≡ false) (sym at) stays))) ∙ n))

    here : IsVersion (after_operation s t op a) table (ended_by t v)
    here = record {
      known = (known_answered s table t op a v.begin was.known.0, not_absent table t me.active);
      claims = λ b put _.
          let at : o ≡ b = some_end o b (sym x.shown.put ∙ put) in
          let g = was.claims o x.shown.put x.shown.stays in
          subst (λ (m : ℕ). EndHasClaims (after_operation s t op a) (ends_of table) (ended_by t v) m) at (record {
            active = claims_answered s t op a mine (claim_of s mine v ∷ []) v.row.key o (By (record { 0 = t })) more
                (own_id t ∙ sym (list_any-append (λ d. eq_by_cmp key_cmp v.row.key d.key && (d.origin == o)) mine.claims (claim_of s mine v ∷ []) ∙ last_true (has_claim mine.claims v.row.key o) (eq_by_cmp key_cmp v.row.key v.row.key) (eqb (origin s mine.id v.row.key) o) ((eq_by_cmp_equiv keys_total).refl v.row.key) (eq-eqb (origin s mine.id v.row.key) o is_origin)))
                (each_both (λ q. names q.id v.end ≡ false) (λ q. EndIsClaimed v.row.key o (names q.id) q.claims v.end) (λ q. (q.id ≡ t → ⊥) → EndIsClaimed v.row.key o (names q.id) q.claims (By (record { 0 = t }))) (λ q n i d. ne_eqb t q.id (λ p. d (sym p)) ∙ sym n ∙ i) s.active free.unnamed g.active);
            stamped = each_weaker (λ y. EndIsClaimed v.row.key o (has_stamp (ends_of table) y.end) y.claims v.end) (λ y. EndIsClaimed v.row.key o (has_stamp (ends_of table) y.end) y.claims (By (record { 0 = t }))) (λ y i. ap (is_stamp y.end) (ap end_in me.active ∙ sym free.unseen) ∙ i) s.stamped g.stamped;
          });
      forward = λ b m _ is. absurd (none_end m (sym (ap end_in me.active) ∙ is));
      inside = inside_answered s t op a (ended_by t v) (each_weaker (λ q. names q.id v.begin ≡ false) (IsInside (ended_by t v)) (λ q n is. absurd (true≢false (sym is ∙ n))) s.active (stamped_unnamed s table (xs ++ v ∷ ys) v.begin o h x.shown.put));
    }
      where
        last_true : (b c d : Bool) → c ≡ true → d ≡ true → (b || ((c && d) || false)) ≡ true
        last_true true c d p q = refl
        last_true false c d p q = ap (λ y. (y && d) || false) p ∙ ap (λ y. y || false) q

-- ---- its own newest version
pub ends_own : (s : State) (table : Phases) (t : ℕ) (op : Op) (a : AnswerData) (mine : ActiveTx) (xs : List Version) (v : Version) (ys : List Version) → IsNumbered s → AreVersionsOf s table (xs ++ v ∷ ys) → active_of t s.active ≡ Some mine → IsOwnNewest t v → ended_key op a ≡ Some v.row.key → IsEnded s table t op a mine [] xs v ys
ends_own s table t op a mine xs v ys num h f x e = record {
  claimed = more;
  same = same_end s.start (ends_of table) t xs v ys (ap end_in me.active) (ap (stamp_in (ends_of table)) never);
  wrote = wrote_end_own t xs v ys x.mine x.kept;
  apart = each_always (λ q. (q.id ≡ t → ⊥) → IsApartFrom q.id (xs ++ v ∷ ys) (xs ++ ended_by t v ∷ ys)) (λ q d. apart_end t q.id xs v ys d (ap (names q.id) never)) s.active;
  versions = each_changed (IsVersion s table) (IsVersion (after_operation s t op a) table) (λ w i. version_answered s table t op a mine [] w more f (λ b _ _. refl) i) xs v (ended_by t v) ys here (each_version s table (xs ++ v ∷ ys) h);
  row = get-after_history v.row.key mine.history (seen_by s.base s.stamped mine.id) ∙ ap (λ y. content_after_last y (fin.get (seen_by s.base s.stamped mine.id) v.row.key)) own_write;
}
  where
    me : IsWriter s table t mine (xs ++ v ∷ ys)
    me = writer s table t mine (xs ++ v ∷ ys) num h f

    was : IsVersion s table v
    was = each_at (IsVersion s table) xs v ys (each_version s table (xs ++ v ∷ ys) h)

    never_by : (v.end ≡ Infinity) ⊎ (names mine.id v.end ≡ true) → v.end ≡ Infinity
    never_by (inl i) = i
    never_by (inr i) = absurd (true≢false (sym i ∙ ap (λ n. names n v.end) me.id ∙ x.kept))

    never : v.end ≡ Infinity
    never = never_by ((active_holds (IsInside v) t s.active mine f was.inside).0 (ap (λ n. names n v.begin) me.id ∙ x.mine))

    puts_own : (h : ContentData) (rest : NetEffect) (w : Option Effect) → with_effect (Puts h) rest ≡ as_net_effect w → w ≡ Some (Put h)
    puts_own h rest w q = go rest w q
      where
        held : NetEffect → ContentData
        held Untouched = h
        held Removed = h
        held (Puts g) = g
        held Clash = h

        tag : NetEffect → ℕ
        tag Untouched = 0
        tag Removed = 1
        tag (Puts g) = 2
        tag Clash = 3

        plain : (w : Option Effect) → Puts h ≡ as_net_effect w → w ≡ Some (Put h)
        plain None g = absurd (differ g)
          where
            differ : Puts h ≡ Untouched → ⊥
            differ q = cc
        plain (Some Gone) g = absurd (differ g)
          where
            differ : Puts h ≡ Removed → ⊥
            differ q = cc
        plain (Some (Put g)) q = same g q
          where
            same : (g : ContentData) → Puts h ≡ Puts g → ◌≡◌ {A = Option Effect} (Some (Put g)) (Some (Put h))
            same g q = let i : h ≡ g = cc in ap (λ y. Some (Put y)) (sym i)

        clashes : (w : Option Effect) → Clash ≡ as_net_effect w → w ≡ Some (Put h)
        clashes None g = absurd (differ g)
          where
            differ : Clash ≡ Untouched → ⊥
            differ q = cc
        clashes (Some Gone) g = absurd (differ g)
          where
            differ : Clash ≡ Removed → ⊥
            differ q = cc
        clashes (Some (Put g)) q = absurd (differ g q)
          where
            differ : (g : ContentData) → Clash ≡ Puts g → ⊥
            differ g q = cc

        go : (rest : NetEffect) (w : Option Effect) → with_effect (Puts h) rest ≡ as_net_effect w → w ≡ Some (Put h)
        go Untouched w g = plain w g
        go Removed w g = plain w g
        go (Puts i) w g = clashes w g
        go Clash w g = clashes w g

    own_did : effect_of (names t) v.row.key v ≡ Puts (content_of v.row)
    own_did =
        ap (λ b. cond b (effect_by (names t v.begin) (names t v.end) (content_of v.row)) Untouched) ((eq_by_cmp_equiv keys_total).refl v.row.key)
        ∙ ap (λ b. effect_by b (names t v.end) (content_of v.row)) x.mine
        ∙ ap (λ b. effect_by true b (content_of v.row)) x.kept

    own_write : net_write v.row.key mine.history ≡ Some (Put (content_of v.row))
    own_write = puts_own (content_of v.row) (net_effect (names t) v.row.key (xs ++ ys)) (net_write v.row.key mine.history)
        (ap (λ d. with_effect d (net_effect (names t) v.row.key (xs ++ ys))) (sym own_did) ∙ sym (net_effect-at (names t) v.row.key xs v ys) ∙ me.net_effect v.row.key)

    more : ClaimsMore s t op a mine []
    more = no_more s t op a mine me.only (ap (claims_with s mine) e ∙ ap (λ y. cond (is_some y) mine.claims (mine.claims ++ claim_of s mine v ∷ [])) own_write)

    named_none : (w : Held) → names t w ≡ true → stamp_in (ends_of table) w ≡ None
    named_none (At n) q = absurd (false≢true q)
    named_none (By u) q = ap (ends_of table) (eqb-true u.0 t q) ∙ ap end_in me.active
    named_none Infinity q = absurd (false≢true q)

    named_same : (w : Held) (i : ℕ) → names t w ≡ true → names i w ≡ true → t ≡ i
    named_same (At n) i q g = absurd (false≢true q)
    named_same (By u) i q g = sym (eqb-true u.0 t q) ∙ eqb-true u.0 i g
    named_same Infinity i q g = absurd (false≢true q)

    here : IsVersion (after_operation s t op a) table (ended_by t v)
    here = record {
      known = (known_answered s table t op a v.begin was.known.0, not_absent table t me.active);
      claims = λ b put _. absurd (none_end b (sym (named_none v.begin x.mine) ∙ put));
      forward = λ b m _ is. absurd (none_end m (sym (ap end_in me.active) ∙ is));
      inside = inside_answered s t op a (ended_by t v) (each_always (IsInside (ended_by t v)) (λ q is. inr (eq-eqb t q.id (named_same v.begin q.id x.mine is))) s.active);
    }

-- ---- delete, and update
pub kept_delete : (s : State) (table : Phases) (t : ℕ) (op : Op) (a : AnswerData) (mine : ActiveTx) (more : List Claim) (xs : List Version) (v : Version) (ys : List Version) → AreVersionsOf s table (xs ++ v ∷ ys) → IsEnded s table t op a mine more xs v ys → write_of op a ≡ Some (v.row.key, Gone) → AreVersionsOf (after_operation s t op a) table (xs ++ ended_by t v ∷ ys)
kept_delete s table t op a mine more xs v ys h d w =
    kept_after_operation s table t op a mine more (xs ++ v ∷ ys) (xs ++ ended_by t v ∷ ys) h d.claimed d.same
    (subst (λ (x : Option Write). Wrote t x (changed_by x (after_history mine.history (seen_by s.base s.stamped mine.id))) (xs ++ v ∷ ys) (xs ++ ended_by t v ∷ ys)) (sym w)
    (subst (λ (o : Option ContentData). Wrote t (Some (v.row.key, Gone)) (row_of v.row.key o ++ []) (xs ++ v ∷ ys) (xs ++ ended_by t v ∷ ys)) (sym d.row) d.wrote))
    d.apart d.versions

pub kept_update : (s : State) (table : Phases) (t : ℕ) (op : Op) (a : AnswerData) (mine : ActiveTx) (more : List Claim) (xs : List Version) (v : Version) (ys : List Version) (r : RowData) → IsNumbered s → AreVersionsOf s table (xs ++ v ∷ ys) → active_of t s.active ≡ Some mine → IsEnded s table t op a mine more xs v ys → r.key ≡ v.row.key → write_of op a ≡ Some (r.key, Put (content_of r)) → AreVersionsOf (after_operation s t op a) table ((xs ++ ended_by t v ∷ ys) ++ fresh t r ∷ [])
kept_update s table t op a mine more xs v ys r num h f d same w =
    kept_after_operation s table t op a mine more (xs ++ v ∷ ys) ((xs ++ ended_by t v ∷ ys) ++ fresh t r ∷ []) h d.claimed
    (same_trans s.start (ends_of table) (xs ++ v ∷ ys) (xs ++ ended_by t v ∷ ys) ((xs ++ ended_by t v ∷ ys) ++ fresh t r ∷ []) d.same (same_fresh s.start (ends_of table) t r (xs ++ ended_by t v ∷ ys) (ap end_in me.active)))
    (subst (λ (x : Option Write). Wrote t x (changed_by x (after_history mine.history (seen_by s.base s.stamped mine.id))) (xs ++ v ∷ ys) ((xs ++ ended_by t v ∷ ys) ++ fresh t r ∷ [])) (sym w)
    (subst (λ (k : RowKey). Wrote t (Some (k, Put (content_of r))) (row_of k (fin.get (after_history mine.history (seen_by s.base s.stamped mine.id)) k) ++ (k, content_of r) ∷ []) (xs ++ v ∷ ys) ((xs ++ ended_by t v ∷ ys) ++ fresh t r ∷ [])) (sym same)
    (subst (λ (o : Option ContentData). Wrote t (Some (v.row.key, Put (content_of r))) (row_of v.row.key o ++ (v.row.key, content_of r) ∷ []) (xs ++ v ∷ ys) ((xs ++ ended_by t v ∷ ys) ++ fresh t r ∷ [])) (sym d.row)
    (wrote_both t v.row.key (content_of r) (v.row.key, content_of v.row) (v.row.key, content_of r) (xs ++ v ∷ ys) (xs ++ ended_by t v ∷ ys) ((xs ++ ended_by t v ∷ ys) ++ fresh t r ∷ []) d.wrote put))))
    (each_weaker (λ q. (q.id ≡ t → ⊥) → IsApartFrom q.id (xs ++ v ∷ ys) (xs ++ ended_by t v ∷ ys)) (λ q. (q.id ≡ t → ⊥) → IsApartFrom q.id (xs ++ v ∷ ys) ((xs ++ ended_by t v ∷ ys) ++ fresh t r ∷ [])) (λ q g n. apart_both q.id (xs ++ v ∷ ys) (xs ++ ended_by t v ∷ ys) ((xs ++ ended_by t v ∷ ys) ++ fresh t r ∷ []) (g n) (apart_fresh t q.id r (xs ++ ended_by t v ∷ ys) n)) s.active d.apart)
    (each_append (IsVersion (after_operation s t op a) table) (xs ++ ended_by t v ∷ ys) (fresh t r ∷ []) d.versions (version_fresh s table t op a r me.active, tt))
  where
    me : IsWriter s table t mine (xs ++ v ∷ ys)
    me = writer s table t mine (xs ++ v ∷ ys) num h f

    put : Wrote t (Some (v.row.key, Put (content_of r))) ((v.row.key, content_of r) ∷ []) (xs ++ ended_by t v ∷ ys) ((xs ++ ended_by t v ∷ ys) ++ fresh t r ∷ [])
    put = subst (λ (k : RowKey). Wrote t (Some (k, Put (content_of r))) ((k, content_of r) ∷ []) (xs ++ ended_by t v ∷ ys) ((xs ++ ended_by t v ∷ ys) ++ fresh t r ∷ [])) same
        (wrote_fresh t r (xs ++ ended_by t v ∷ ys) (subst (λ (k : RowKey). IsFree t k (xs ++ ended_by t v ∷ ys)) (sym same) (free_after t v.row.key ((v.row.key, content_of v.row) ∷ []) (xs ++ v ∷ ys) (xs ++ ended_by t v ∷ ys) (net_write v.row.key mine.history) (me.net_effect v.row.key) d.wrote)))
