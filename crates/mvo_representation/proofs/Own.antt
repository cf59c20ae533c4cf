-- Insert, update and delete.
use Rattle.std.proofs.Common.{◌≡◌, ℕ, Bool, true, false, cond, ◌||◌, eqb, List, [], ◌∷◌, ◌++◌, Option, None, Some, refl, sym, ap, ◌∙◌, inl}
use Rattle.std.specs.Prelude.{◌&&◌}
use Rattle.std.specs.List.{list_any}
use Rattle.mvo_types.specs.Write.{Effect, content_after_last}
use Rattle.std.specs.Ordering.{eq_by_cmp}
use Rattle.std.specs.Cmp.{eq_by_cmp_equiv}
use Rattle.std.proofs.lemmas.Bool.{eq-eqb, ne_eqb, true≢false}
use Rattle.std.proofs.lemmas.List.Folds.{list_any-append}
use Rattle.std.proofs.lemmas.Map.Views.{tells_apart}
use Rattle.mvo_types.proofs.Maps.{exact_keys, keys_total}
use Rattle.mvo_types.specs.declared.row.RowKey.{RowKey}
use Rattle.mvo_types.specs.declared.op.Op.{Op}
use Rattle.mvo_types.specs.AnswerData.{AnswerData}
use Rattle.mvo_types.specs.Keys.{key_cmp}
use Rattle.mvo_types.specs.RowData.{RowData, ContentData, content_of}
use Rattle.mvo_model.specs.History.{later, write_at}
use Rattle.mvo_model.specs.Trace.Phase.{Absent, Active}
use Rattle.mvo_theory.specs.Ranges.{Row, put_by}
use Rattle.mvo_theory.specs.State.{State}
use Rattle.mvo_theory.specs.Changes.{after_operation}
use Rattle.mvo_theory.proofs.Each.{each_always}
use Rattle.mvo_theory.proofs.Numbers.{or_false}
use Rattle.mvo_word.specs.declared.held.Held.{Held}
use Rattle.mvo_word.specs.declared.held.Held.TheVariants.{By}
use Rattle.mvo_chain.specs.declared.version.Version.{Version}
use Rattle.mvo_representation.specs.Words.{Phases, Ends, end_in, stamp_in, is_stamp, has_stamp, NetEffect, with_effect, effect_by, effect_of, net_effect, Touch, is_touch, touches, is_touched, as_net_effect, standing_effect, standing_effect_of, is_up_to, is_clash}
use Rattle.mvo_visible.specs.Words.{names}
use Rattle.mvo_representation.specs.Words.NetEffect.{Untouched, Removed, Puts, Clash}
use Rattle.mvo_representation.specs.Words.Touch.{OnlyPut, PutOrEnded}
use Rattle.mvo_representation.specs.Steps.{fresh, ended_by}
use Rattle.mvo_representation.specs.Versions.{IsInside}
use Rattle.mvo_representation.proofs.Effects.{with_nothing, with_comm, net_effect-append, net_effect-at, net_effect_without, effect_of_nothing, is_touched-at, part_none}
use Rattle.mvo_representation.proofs.Kept.{IsSame, IsVersion, same_at, net_effect_like, is_touched_like}
use Rattle.mvo_representation.proofs.Answers.{rows_more, Wrote, IsApartFrom}
use Rattle.mvo_representation.proofs.Decided.{none_end}
use Rattle.mvo_types.specs.Write.Effect.{Put, Delete as Gone}

-- nothing of t's own stands at the key
abbrev pub IsFree : ℕ → RowKey → List Version → Type 0
IsFree t q vs = (w : Option Effect) → net_effect (names t) q vs ≡ as_net_effect w → content_after_last w None ≡ None

some≢none : {X : Type 0} (x : X) → ◌≡◌ {A = Option X} (Some x) None → ⊥
some≢none x e = cc

pub own_id : (t : ℕ) → names t (By (record { 0 = t })) ≡ true
own_id t = eq-eqb t t refl

-- ---- a version more
put_more : (b : Bool) (h : ContentData) (w : Option Effect) → (b ≡ true → content_after_last w None ≡ None) → with_effect (cond b (Puts h) Untouched) (as_net_effect w) ≡ as_net_effect (later (cond b (Some (Put h)) None) w)
put_more false h w f = refl
put_more true h None f = refl
put_more true h (Some Gone) f = refl
put_more true h (Some (Put g)) f = absurd (some≢none g (f refl))

net_effect-last : (n : Held → Bool) (k : RowKey) (vs : List Version) (v : Version) → net_effect n k (vs ++ v ∷ []) ≡ with_effect (effect_of n k v) (net_effect n k vs)
net_effect-last n k vs v = net_effect-append n k vs (v ∷ []) ∙ ap (with_effect (net_effect n k vs)) (with_nothing (effect_of n k v)) ∙ with_comm (net_effect n k vs) (effect_of n k v)

effect_of-fresh : (t : ℕ) (r : RowData) (k : RowKey) → effect_of (names t) k (fresh t r) ≡ cond (eq_by_cmp key_cmp k r.key) (Puts (content_of r)) Untouched
effect_of-fresh t r k = ap (λ b. cond (eq_by_cmp key_cmp k r.key) (effect_by b false (content_of r)) Untouched) (own_id t)

or_swap : (b c : Bool) → (b || (c || false)) ≡ (b || (c || false))
or_swap b c = refl

pub wrote_fresh : (t : ℕ) (r : RowData) (vs : List Version) → IsFree t r.key vs → Wrote t (Some (r.key, Put (content_of r))) ((r.key, content_of r) ∷ []) vs (vs ++ fresh t r ∷ [])
wrote_fresh t r vs free = record {
  writes = λ k w e.
      net_effect-last (names t) k vs (fresh t r)
      ∙ ap (λ d. with_effect d (net_effect (names t) k vs)) (effect_of-fresh t r k)
      ∙ ap (with_effect (cond (eq_by_cmp key_cmp k r.key) (Puts (content_of r)) Untouched)) e
      ∙ put_more (eq_by_cmp key_cmp k r.key) (content_of r) w (λ same. free w (ap (λ q. net_effect (names t) q vs) (sym (tells_apart exact_keys k r.key same)) ∙ e));
  touches = λ g p. list_any-append (touches g (names t) p) vs (fresh t r ∷ []) ∙ ap (λ b. is_touched g (names t) p vs || ((is_touch g b false && p (r.key, content_of r)) || false)) (own_id t) ∙ one g p;
}
  where
    one : (g : Touch) (p : Row → Bool) → (is_touched g (names t) p vs || ((is_touch g true false && p (r.key, content_of r)) || false)) ≡ (is_touched g (names t) p vs || list_any p (rows_more g (Some (r.key, Put (content_of r))) ((r.key, content_of r) ∷ [])))
    one OnlyPut p = refl
    one PutOrEnded p = refl

-- a version of which no word passes
pub unmarked_last : (g : Touch) (n : Held → Bool) (p : Row → Bool) (vs : List Version) (v : Version) → n v.begin ≡ false → n v.end ≡ false → is_touched g n p (vs ++ v ∷ []) ≡ is_touched g n p vs
unmarked_last g n p vs v o c =
    list_any-append (touches g n p) vs (v ∷ [])
    ∙ ap (λ b. is_touched g n p vs || ((is_touch g b (n v.end) && p (v.row.key, content_of v.row)) || false)) o
    ∙ ap (λ b. is_touched g n p vs || ((is_touch g false b && p (v.row.key, content_of v.row)) || false)) c
    ∙ ap (λ b. is_touched g n p vs || ((b && p (v.row.key, content_of v.row)) || false)) (part_none g)
    ∙ or_false (is_touched g n p vs)

pub unsaid_last : (n : Held → Bool) (k : RowKey) (vs : List Version) (v : Version) → n v.begin ≡ false → n v.end ≡ false → net_effect n k (vs ++ v ∷ []) ≡ net_effect n k vs
unsaid_last n k vs v o c = net_effect-last n k vs v ∙ ap (λ d. with_effect d (net_effect n k vs)) (effect_of_nothing n k v o c)

cond_and : (b : Bool) (h : ContentData) → cond (b && false) (Puts h) Untouched ≡ Untouched
cond_and true h = refl
cond_and false h = refl

standing_effect-end : (ends : Ends) (start : ℕ) (k : RowKey) (vs : List Version) (v : Version) → standing_effect_of ends start k v ≡ Untouched → standing_effect ends start k (vs ++ v ∷ []) ≡ standing_effect ends start k vs
standing_effect-end ends start k [] v e = ap (λ d. with_effect d Untouched) e
standing_effect-end ends start k (x ∷ xs) v e = ap (with_effect (standing_effect_of ends start k x)) (standing_effect-end ends start k xs v e)

pub same_fresh : (start : ℕ) (ends : Ends) (t : ℕ) (r : RowData) (vs : List Version) → ends t ≡ None → IsSame start ends vs ends (vs ++ fresh t r ∷ [])
same_fresh start ends t r vs e = record {
  net_effect = λ k m. unsaid_last (has_stamp ends m) k vs (fresh t r) (ap (is_stamp m) e) refl;
  touches = λ g p m. unmarked_last g (has_stamp ends m) p vs (fresh t r) (ap (is_stamp m) e) refl;
  standing_effect = λ k. standing_effect-end ends start k vs (fresh t r) (ap (λ o. cond (eq_by_cmp key_cmp k r.key && (is_up_to start o && true)) (Puts (content_of r)) Untouched) e ∙ cond_and (eq_by_cmp key_cmp k r.key) (content_of r));
}

pub apart_fresh : (t u : ℕ) (r : RowData) (vs : List Version) → (u ≡ t → ⊥) → IsApartFrom u vs (vs ++ fresh t r ∷ [])
apart_fresh t u r vs n = record {
  net_effect = λ k. unsaid_last (names u) k vs (fresh t r) (ne_eqb t u (λ e. n (sym e))) refl;
  touches = λ g p. unmarked_last g (names u) p vs (fresh t r) (ne_eqb t u (λ e. n (sym e))) refl;
}

pub not_absent : (table : Phases) (t : ℕ) → table t ≡ Active → table t ≡ Absent → ⊥
not_absent table t e q = differ (sym e ∙ q)
  where
    differ : Active ≡ Absent → ⊥
    differ q = cc

pub version_fresh : (s : State) (table : Phases) (t : ℕ) (op : Op) (a : AnswerData) (r : RowData) → table t ≡ Active → IsVersion (after_operation s t op a) table (fresh t r)
version_fresh s table t op a r act = record {
  known = (not_absent table t act, tt);
  claims = λ o put _. absurd (none_end o (sym (ap end_in act) ∙ put));
  forward = λ o e put _. absurd (none_end o (sym (ap end_in act) ∙ put));
  inside = each_always (IsInside (fresh t r)) (λ q _. inl refl) (after_operation s t op a).active;
}

-- ---- a version that is ended
gone_more : (b : Bool) (w : Option Effect) → (b ≡ true → content_after_last w None ≡ None) → with_effect (cond b Removed Untouched) (as_net_effect w) ≡ as_net_effect (later (cond b (Some Gone) None) w)
gone_more false w f = refl
gone_more true None f = refl
gone_more true (Some Gone) f = refl
gone_more true (Some (Put g)) f = absurd (some≢none g (f refl))

pub not_clash : (w : Option Effect) → is_clash (as_net_effect w) ≡ false
not_clash None = refl
not_clash (Some Gone) = refl
not_clash (Some (Put h)) = refl

-- its own put is ended: nothing else of its own stands there
own_gone : (h : ContentData) (rest : NetEffect) → is_clash (with_effect (Puts h) rest) ≡ false → with_effect Removed rest ≡ Removed
own_gone h Untouched f = refl
own_gone h Removed f = refl
own_gone h (Puts g) f = absurd (true≢false f)
own_gone h Clash f = absurd (true≢false f)

own_more : (b : Bool) (h : ContentData) (rest : NetEffect) (w : Option Effect) → with_effect (cond b (Puts h) Untouched) rest ≡ as_net_effect w → with_effect (cond b Removed Untouched) rest ≡ as_net_effect (later (cond b (Some Gone) None) w)
own_more false h rest w e = e
own_more true h rest w e = own_gone h rest (ap is_clash e ∙ not_clash w)

effect_of-ended : (t : ℕ) (v : Version) (b : Bool) (k : RowKey) → names t v.begin ≡ b → effect_of (names t) k (ended_by t v) ≡ cond (eq_by_cmp key_cmp k v.row.key) Removed Untouched
effect_of-ended t v true k e = ap (λ a. cond (eq_by_cmp key_cmp k v.row.key) (effect_by a (eqb t t) (content_of v.row)) Untouched) e ∙ ap (λ a. cond (eq_by_cmp key_cmp k v.row.key) (effect_by true a (content_of v.row)) Untouched) (own_id t)
effect_of-ended t v false k e = ap (λ a. cond (eq_by_cmp key_cmp k v.row.key) (effect_by a (eqb t t) (content_of v.row)) Untouched) e ∙ ap (λ a. cond (eq_by_cmp key_cmp k v.row.key) (effect_by false a (content_of v.row)) Untouched) (own_id t)

effect_of-own : (t : ℕ) (v : Version) (k : RowKey) → names t v.begin ≡ true → names t v.end ≡ false → effect_of (names t) k v ≡ cond (eq_by_cmp key_cmp k v.row.key) (Puts (content_of v.row)) Untouched
effect_of-own t v k o c =
    ap (λ b. cond (eq_by_cmp key_cmp k v.row.key) (effect_by b (names t v.end) (content_of v.row)) Untouched) o
    ∙ ap (λ b. cond (eq_by_cmp key_cmp k v.row.key) (effect_by true b (content_of v.row)) Untouched) c

mark_more : (b c q rest : Bool) → (((b || true) && q) || rest) ≡ ((((b || c) && q) || rest) || (q || false))
mark_more true true true true = refl
mark_more true true true false = refl
mark_more true true false true = refl
mark_more true true false false = refl
mark_more true false true true = refl
mark_more true false true false = refl
mark_more true false false true = refl
mark_more true false false false = refl
mark_more false true true true = refl
mark_more false true true false = refl
mark_more false true false true = refl
mark_more false true false false = refl
mark_more false false true true = refl
mark_more false false true false = refl
mark_more false false false true = refl
mark_more false false false false = refl

is_touched_ended : (g : Touch) (t : ℕ) (p : Row → Bool) (xs : List Version) (v : Version) (ys : List Version) → is_touched g (names t) p (xs ++ ended_by t v ∷ ys) ≡ (is_touched g (names t) p (xs ++ v ∷ ys) || list_any p (rows_more g (Some (v.row.key, Gone)) ((v.row.key, content_of v.row) ∷ [])))
is_touched_ended OnlyPut t p xs v ys =
    is_touched-at OnlyPut (names t) p xs (ended_by t v) ys
    ∙ sym (is_touched-at OnlyPut (names t) p xs v ys)
    ∙ sym (or_false (is_touched OnlyPut (names t) p (xs ++ v ∷ ys)))
is_touched_ended PutOrEnded t p xs v ys =
    is_touched-at PutOrEnded (names t) p xs (ended_by t v) ys
    ∙ ap (λ b. ((names t v.begin || b) && p (v.row.key, content_of v.row)) || is_touched PutOrEnded (names t) p (xs ++ ys)) (own_id t)
    ∙ mark_more (names t v.begin) (names t v.end) (p (v.row.key, content_of v.row)) (is_touched PutOrEnded (names t) p (xs ++ ys))
    ∙ ap (λ b. b || list_any p ((v.row.key, content_of v.row) ∷ [])) (sym (is_touched-at PutOrEnded (names t) p xs v ys))

-- of another's version, where t wrote nothing that stands
pub wrote_end_other : (t : ℕ) (xs : List Version) (v : Version) (ys : List Version) → names t v.begin ≡ false → names t v.end ≡ false → IsFree t v.row.key (xs ++ v ∷ ys) → Wrote t (Some (v.row.key, Gone)) ((v.row.key, content_of v.row) ∷ []) (xs ++ v ∷ ys) (xs ++ ended_by t v ∷ ys)
wrote_end_other t xs v ys o c free = record {
  writes = λ k w e.
      net_effect-at (names t) k xs (ended_by t v) ys
      ∙ ap (λ d. with_effect d (net_effect (names t) k (xs ++ ys))) (effect_of-ended t v false k o)
      ∙ ap (with_effect (cond (eq_by_cmp key_cmp k v.row.key) Removed Untouched)) (sym (net_effect_without (names t) k xs v ys (effect_of_nothing (names t) k v o c)) ∙ e)
      ∙ gone_more (eq_by_cmp key_cmp k v.row.key) w (λ same. free w (ap (λ q. net_effect (names t) q (xs ++ v ∷ ys)) (sym (tells_apart exact_keys k v.row.key same)) ∙ e));
  touches = λ g p. is_touched_ended g t p xs v ys;
}

-- of t's own one
pub wrote_end_own : (t : ℕ) (xs : List Version) (v : Version) (ys : List Version) → names t v.begin ≡ true → names t v.end ≡ false → Wrote t (Some (v.row.key, Gone)) ((v.row.key, content_of v.row) ∷ []) (xs ++ v ∷ ys) (xs ++ ended_by t v ∷ ys)
wrote_end_own t xs v ys o c = record {
  writes = λ k w e.
      net_effect-at (names t) k xs (ended_by t v) ys
      ∙ ap (λ d. with_effect d (net_effect (names t) k (xs ++ ys))) (effect_of-ended t v true k o)
      ∙ own_more (eq_by_cmp key_cmp k v.row.key) (content_of v.row) (net_effect (names t) k (xs ++ ys)) w
      (ap (λ d. with_effect d (net_effect (names t) k (xs ++ ys))) (sym (effect_of-own t v k o c)) ∙ sym (net_effect-at (names t) k xs v ys) ∙ e);
  touches = λ g p. is_touched_ended g t p xs v ys;
}

pub same_end : (start : ℕ) (ends : Ends) (t : ℕ) (xs : List Version) (v : Version) (ys : List Version) → ends t ≡ None → stamp_in ends v.end ≡ None → IsSame start ends (xs ++ v ∷ ys) ends (xs ++ ended_by t v ∷ ys)
same_end start ends t xs v ys e c = same_at start ends xs v (ended_by t v) ys refl refl (c ∙ sym e)

pub apart_end : (t u : ℕ) (xs : List Version) (v : Version) (ys : List Version) → (u ≡ t → ⊥) → names u v.end ≡ false → IsApartFrom u (xs ++ v ∷ ys) (xs ++ ended_by t v ∷ ys)
apart_end t u xs v ys n c = record {
  net_effect = λ k. net_effect_like (names u) k xs v (ended_by t v) ys refl refl (c ∙ sym (ne_eqb t u (λ e. n (sym e))));
  touches = λ g p. is_touched_like g (names u) p xs v (ended_by t v) ys refl refl (c ∙ sym (ne_eqb t u (λ e. n (sym e))));
}

-- ---- an end and then a put, as an update makes them
later_twice : (b : Bool) (h : ContentData) (w : Option Effect) → later (cond b (Some (Put h)) None) (later (cond b (Some Gone) None) w) ≡ later (cond b (Some (Put h)) None) w
later_twice true h w = refl
later_twice false h w = refl

or_assoc : (a b c : Bool) → ((a || (b || false)) || (c || false)) ≡ (a || (b || (c || false)))
or_assoc true b c = refl
or_assoc false true c = refl
or_assoc false false c = refl

pub wrote_both : (t : ℕ) (q : RowKey) (h : ContentData) (x y : Row) (us vs ws : List Version) → Wrote t (Some (q, Gone)) (x ∷ []) us vs → Wrote t (Some (q, Put h)) (y ∷ []) vs ws → Wrote t (Some (q, Put h)) (x ∷ y ∷ []) us ws
wrote_both t q h x y us vs ws a b = record {
  writes = λ k w e. b.writes k (later (write_at k (Some (q, Gone))) w) (a.writes k w e) ∙ ap as_net_effect (later_twice (eq_by_cmp key_cmp k q) h w);
  touches = both;
}
  where
    both : (g : Touch) (p : Row → Bool) → is_touched g (names t) p ws ≡ (is_touched g (names t) p us || list_any p (rows_more g (Some (q, Put h)) (x ∷ y ∷ [])))
    both OnlyPut p = b.touches OnlyPut p ∙ ap (λ c. c || list_any p (put_by (Some (q, Put h)))) (a.touches OnlyPut p ∙ or_false (is_touched OnlyPut (names t) p us))
    both PutOrEnded p = b.touches PutOrEnded p ∙ ap (λ c. c || (p y || false)) (a.touches PutOrEnded p) ∙ or_assoc (is_touched PutOrEnded (names t) p us) (p x) (p y)

pub apart_both : (u : ℕ) (us vs ws : List Version) → IsApartFrom u us vs → IsApartFrom u vs ws → IsApartFrom u us ws
apart_both u us vs ws a b = record { net_effect = λ k. b.net_effect k ∙ a.net_effect k; touches = λ g p. b.touches g p ∙ a.touches g p }

pub same_effect : (w x : Option Effect) → as_net_effect w ≡ as_net_effect x → content_after_last w None ≡ content_after_last x None
same_effect w x e = sym (row w) ∙ ap leave e ∙ row x
  where
    leave : NetEffect → Option ContentData
    leave Untouched = None
    leave Removed = None
    leave (Puts h) = Some h
    leave Clash = None

    row : (w : Option Effect) → leave (as_net_effect w) ≡ content_after_last w None
    row None = refl
    row (Some Gone) = refl
    row (Some (Put h)) = refl

-- after an end nothing of its own stands at the key
pub free_after : (t : ℕ) (q : RowKey) (rows : List Row) (us vs : List Version) (w : Option Effect) → net_effect (names t) q us ≡ as_net_effect w → Wrote t (Some (q, Gone)) rows us vs → IsFree t q vs
free_after t q rows us vs w e a x f =
    same_effect x (later (write_at q (Some (q, Gone))) w) (sym f ∙ a.writes q w e)
    ∙ ap (λ b. content_after_last (later (cond b (Some Gone) None) w) None) ((eq_by_cmp_equiv keys_total).refl q)
