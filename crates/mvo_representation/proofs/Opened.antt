-- A core that was just opened, the order of versions, and garbage that nobody names.
use Rattle.std.proofs.Common.{◌≡◌, ℕ, ◌<◌, suc, zero, Bool, true, false, cond, ◌||◌, List, [], ◌∷◌, ◌++◌, T, Option, None, Some, refl, sym, ap, ◌∙◌, subst, arith}
use Rattle.std.specs.Prelude.{◌&&◌}
use Rattle.std.specs.List.{AllByRecursion}
use Rattle.std.specs.Option.{option_map}
use Rattle.std.specs.Ordering.{eq_by_cmp}
use Rattle.std.specs.FinMap as fin
use Rattle.std.specs.FinMap.Entries.{below_all}
use Rattle.std.proofs.lemmas.Bool.{eq-eqb, ne_eqb, lt-ltb}
use Rattle.std.proofs.lemmas.Map.Views.{tells_apart}
use Rattle.mvo_types.proofs.Maps.{exact_keys}
use Rattle.mvo_types.proofs.Ranges.{first, second}
use Rattle.mvo_types.specs.declared.row.RowKey.{RowKey}
use Rattle.mvo_types.specs.RowData.{ContentData, content_of, row_with}
use Rattle.mvo_types.specs.Keys.{Map, key_cmp}
use Rattle.mvo_model.specs.Trace.Phase.{Absent, Committed}
use Rattle.mvo_theory.specs.Ranges.{Row}
use Rattle.mvo_theory.specs.State.{State, opened}
use Rattle.mvo_theory.proofs.Each.{each_weaker, each_always}
use Rattle.mvo_theory.proofs.Scans.{find_below}
use Rattle.mvo_word.specs.declared.held.Held.{Held}
use Rattle.mvo_word.specs.declared.held.Held.TheVariants.{At, Infinity}
use Rattle.mvo_chain.specs.declared.version.Version.{Version}
use Rattle.mvo_chain.specs.Slots.{added}
use Rattle.mvo_representation.specs.Words.{Phases, Ends, ends_of, stamp_in, has_stamp, NetEffect, with_effect, effect_by, effect_of, net_effect, Touch, touches, is_touched, as_net_effect, last_change, or_change_at, standing, is_up_to, standing_effect_of, standing_effect}
use Rattle.mvo_visible.specs.Words.{names}
use Rattle.mvo_representation.specs.Words.NetEffect.{Untouched, Puts}
use Rattle.mvo_representation.specs.Versions.{Say, IsKnown, HasItsClaims, IsForward, IsInside, AreVersionsOf, loaded_from, loaded}
use Rattle.mvo_representation.proofs.Effects.{with_nothing, with_comm, net_effect-append, net_effect-at, is_touched-at, net_effect_without, effect_of_nothing}
use Rattle.mvo_representation.proofs.Facts.{net_effect_nothing, say_nothing}
use Rattle.mvo_representation.proofs.Kept.{IsVersion, each_version, kept_alike, beside, standing_effect-at}
use Rattle.mvo_representation.proofs.Own.{unmarked_last}
use Rattle.mvo_representation.proofs.Collect.{each_drop}
use Rattle.mvo_types.specs.Write.Effect.{Put}

-- ---- the loaded rows
abbrev pub nobody : Phases
nobody t = Absent

abbrev at_mark : ℕ → Version → Type 0
at_mark mark v = (v.begin ≡ At (record { 0 = mark })) × (v.end ≡ Infinity)

each_loaded : (mark : ℕ) (es : List Row) → AllByRecursion (at_mark mark) (loaded_from mark es)
each_loaded mark [] = tt
each_loaded mark (e ∷ es) = ((refl, refl), each_loaded mark es)

-- sums in which each row counts alone
abbrev sum_of : (Version → NetEffect) → List Version → NetEffect
sum_of f [] = Untouched
sum_of f (v ∷ vs) = with_effect (f v) (sum_of f vs)

loaded_sum : (mark : ℕ) (k : RowKey) (f : Version → NetEffect) → ((e : Row) → f (added (row_with e.0 e.1) (At (record { 0 = mark }))) ≡ cond (eq_by_cmp key_cmp k e.0) (Puts e.1) Untouched) → (es : List Row) → T (fin.is_sorted key_cmp es) → sum_of f (loaded_from mark es) ≡ as_net_effect (option_map (λ h. Put h) (fin.find key_cmp k es))
loaded_sum mark k f g [] s = refl
loaded_sum mark k f g (e ∷ es) s =
    ap (λ d. with_effect d (sum_of f (loaded_from mark es))) (g e)
    ∙ ap (with_effect (cond (eq_by_cmp key_cmp k e.0) (Puts e.1) Untouched)) (loaded_sum mark k f g es (second _ _ s))
    ∙ go (eq_by_cmp key_cmp k e.0) refl
  where
    go : (b : Bool) → eq_by_cmp key_cmp k e.0 ≡ b → with_effect (cond b (Puts e.1) Untouched) (as_net_effect (option_map (λ h. Put h) (fin.find key_cmp k es))) ≡ as_net_effect (option_map (λ h. Put h) (cond b (Some e.1) (fin.find key_cmp k es)))
    go true q = ap (λ o. with_effect (Puts e.1) (as_net_effect (option_map (λ h. Put h) o))) (find_below k es (subst (λ j. T (below_all key_cmp j es)) (sym (tells_apart exact_keys k e.0 q)) (first _ _ s)))
    go false q = refl

net_effect_sum : (n : Held → Bool) (k : RowKey) (vs : List Version) → net_effect n k vs ≡ sum_of (effect_of n k) vs
net_effect_sum n k [] = refl
net_effect_sum n k (v ∷ vs) = ap (with_effect (effect_of n k v)) (net_effect_sum n k vs)

standing_effect_sum : (ends : Ends) (start : ℕ) (k : RowKey) (vs : List Version) → standing_effect ends start k vs ≡ sum_of (standing_effect_of ends start k) vs
standing_effect_sum ends start k [] = refl
standing_effect_sum ends start k (v ∷ vs) = ap (with_effect (standing_effect_of ends start k v)) (standing_effect_sum ends start k vs)

no_last_change : (f : ℕ → NetEffect) (b : ℕ) → ((s : ℕ) → s < b → f s ≡ Untouched) → last_change f b ≡ None
no_last_change f zero h = refl
no_last_change f (suc b) h = ap (λ d. or_change_at b d (last_change f b)) (h b (omega arith)) ∙ no_last_change f b (λ s lt. h s (omega arith))

standing_loaded : (mark : ℕ) (o : Option ContentData) → standing (or_change_at mark (as_net_effect (option_map (λ h. Put h) o)) None) ≡ option_map (λ h. (mark, Puts h)) o
standing_loaded mark None = refl
standing_loaded mark (Some h) = refl

-- open: what ties versions to a state is met
pub versions_opened : (rows : Map) (mark : ℕ) → AreVersionsOf (opened rows mark) nobody (loaded rows mark)
versions_opened rows mark = record {
  phases = λ t. refl;
  stamped = λ e gt. say_nothing (λ w. has_stamp (ends_of nobody) e w ≡ false) (has_stamp (ends_of nobody) e) (λ w q. q) (loaded rows mark) (each_weaker (at_mark mark) (λ v. (has_stamp (ends_of nobody) e v.begin ≡ false) × (has_stamp (ends_of nobody) e v.end ≡ false)) (λ v i. (ap (has_stamp (ends_of nobody) e) i.0 ∙ ne_eqb mark e (λ q. absurd (omega (arith, gt, q))), ap (has_stamp (ends_of nobody) e) i.1)) (loaded rows mark) each);
  active = tt;
  opened = λ k.
      ap (λ c. standing (or_change_at mark (net_effect (has_stamp (ends_of nobody) mark) k (loaded rows mark)) c)) (no_last_change (λ e. net_effect (has_stamp (ends_of nobody) e) k (loaded rows mark)) mark (λ e lt. net_effect_nothing (λ w. has_stamp (ends_of nobody) e w ≡ false) (has_stamp (ends_of nobody) e) k (λ w q. q) (loaded rows mark) (each_weaker (at_mark mark) (λ v. (has_stamp (ends_of nobody) e v.begin ≡ false) × (has_stamp (ends_of nobody) e v.end ≡ false)) (λ v i. (ap (has_stamp (ends_of nobody) e) i.0 ∙ ne_eqb mark e (λ q. absurd (omega (arith, lt, q))), ap (has_stamp (ends_of nobody) e) i.1)) (loaded rows mark) each)))
      ∙ ap (λ d. standing (or_change_at mark d None)) (net_effect_sum (has_stamp (ends_of nobody) mark) k (loaded rows mark) ∙ loaded_sum mark k (effect_of (has_stamp (ends_of nobody) mark) k) (λ e. ap (λ b. cond (eq_by_cmp key_cmp k e.0) (effect_by b false e.1) Untouched) (eq-eqb mark mark refl)) (fin.entries rows) (fin.entries_sorted rows) ∙ ap (λ o. as_net_effect (option_map (λ h. Put h) o)) (sym (fin.get-entries rows k)))
      ∙ standing_loaded mark (fin.get rows k);
  stood = λ k. standing_effect_sum (ends_of nobody) mark k (loaded rows mark) ∙ loaded_sum mark k (standing_effect_of (ends_of nobody) mark k) (λ e. ap (λ b. cond (eq_by_cmp key_cmp k e.0 && (b && true)) (Puts e.1) Untouched) (lt-ltb mark (suc mark) (omega arith)) ∙ ap (λ b. cond b (Puts e.1) Untouched) (and_true (eq_by_cmp key_cmp k e.0))) (fin.entries rows) (fin.entries_sorted rows) ∙ ap (λ o. as_net_effect (option_map (λ h. Put h) o)) (sym (fin.get-entries rows k));
  known = each_weaker (at_mark mark) (λ v. IsKnown (opened rows mark) nobody v.begin × IsKnown (opened rows mark) nobody v.end) (λ v i. (subst (IsKnown (opened rows mark) nobody) (sym i.0) (record { drawn = omega arith; apart = tt; settled = tt }), subst (IsKnown (opened rows mark) nobody) (sym i.1) tt)) (loaded rows mark) each;
  claims = each_always (HasItsClaims (opened rows mark) (ends_of nobody)) (λ v a _ _. record { active = tt; stamped = tt }) (loaded rows mark);
  forward = each_weaker (at_mark mark) (IsForward (ends_of nobody)) (λ v i a e _ q. absurd (none_end e (sym (ap (stamp_in (ends_of nobody)) i.1) ∙ q))) (loaded rows mark) each;
  inside = each_always (λ v. AllByRecursion (IsInside v) (opened rows mark).active) (λ v. tt) (loaded rows mark);
  begun = tt;
  behind = tt;
  begun_stamped = tt;
  committed = λ t e q. absurd (absent e q);
  drawn = tt;
  drawn_stamped = tt;
}
  where
    each : AllByRecursion (at_mark mark) (loaded rows mark)
    each = each_loaded mark (fin.entries rows)

    none_end : (e : ℕ) → ◌≡◌ {A = Option ℕ} None (Some e) → ⊥
    none_end e q = cc

    absent : (e : ℕ) → Absent ≡ Committed e → ⊥
    absent e q = cc

    and_true : (b : Bool) → (b && true) ≡ b
    and_true true = refl
    and_true false = refl

-- ---- the order of versions doesn't matter: one that is added may fill any hole
each_moved : (P : Version → Type 0) (xs : List Version) (v : Version) (ys : List Version) → AllByRecursion P ((xs ++ ys) ++ v ∷ []) → AllByRecursion P (xs ++ v ∷ ys)
each_moved P [] v ys h = take_last ys h
  where
    take_last : (ys : List Version) → AllByRecursion P (ys ++ v ∷ []) → P v × AllByRecursion P ys
    take_last [] k = (k.0, tt)
    take_last (y ∷ ys) k = let w = take_last ys k.1 in (w.0, (k.0, w.1))
each_moved P (x ∷ xs) v ys h = (h.0, each_moved P xs v ys h.1)

net_effect_moved : (n : Held → Bool) (k : RowKey) (xs : List Version) (v : Version) (ys : List Version) → net_effect n k (xs ++ v ∷ ys) ≡ net_effect n k ((xs ++ ys) ++ v ∷ [])
net_effect_moved n k xs v ys = net_effect-at n k xs v ys ∙ sym (net_effect-append n k (xs ++ ys) (v ∷ []) ∙ ap (with_effect (net_effect n k (xs ++ ys))) (with_nothing (effect_of n k v)) ∙ with_comm (net_effect n k (xs ++ ys)) (effect_of n k v))

append_nil : (xs : List Version) → xs ++ [] ≡ xs
append_nil [] = refl
append_nil (x ∷ xs) = ap (λ ys. x ∷ ys) (append_nil xs)

is_touched_moved : (g : Touch) (n : Held → Bool) (p : Row → Bool) (xs : List Version) (v : Version) (ys : List Version) → is_touched g n p (xs ++ v ∷ ys) ≡ is_touched g n p ((xs ++ ys) ++ v ∷ [])
is_touched_moved g n p xs v ys = is_touched-at g n p xs v ys ∙ sym (is_touched-at g n p (xs ++ ys) v [] ∙ ap (λ zs. touches g n p v || is_touched g n p zs) (append_nil (xs ++ ys)))

standing_effect_moved : (ends : Ends) (start : ℕ) (k : RowKey) (xs : List Version) (v : Version) (ys : List Version) → standing_effect ends start k (xs ++ v ∷ ys) ≡ standing_effect ends start k ((xs ++ ys) ++ v ∷ [])
standing_effect_moved ends start k xs v ys = standing_effect-at ends start k xs v ys ∙ sym (standing_effect-at ends start k (xs ++ ys) v [] ∙ ap (λ zs. with_effect (standing_effect_of ends start k v) (standing_effect ends start k zs)) (append_nil (xs ++ ys)))

pub kept_moved : (s : State) (table : Phases) (xs : List Version) (v : Version) (ys : List Version) → AreVersionsOf s table ((xs ++ ys) ++ v ∷ []) → AreVersionsOf s table (xs ++ v ∷ ys)
kept_moved s table xs v ys h =
    kept_alike s s.clock s.active s.stamped s.ended table table ((xs ++ ys) ++ v ∷ []) (xs ++ v ∷ ys) h h.phases
    (record { net_effect = λ k e. net_effect_moved (has_stamp (ends_of table) e) k xs v ys; touches = λ g p e. is_touched_moved g (has_stamp (ends_of table) e) p xs v ys; standing_effect = λ k. standing_effect_moved (ends_of table) s.start k xs v ys })
    (λ e. refl) (λ e. refl)
    (each_weaker (λ r. Say (names r.id) r.history r.footprint ((xs ++ ys) ++ v ∷ [])) (λ r. Say (names r.id) r.history r.footprint (xs ++ v ∷ ys)) (λ r g. record { writes = λ k. net_effect_moved (names r.id) k xs v ys ∙ g.writes k; touches = λ i p. is_touched_moved i (names r.id) p xs v ys ∙ g.touches i p }) s.active h.active)
    (each_moved (IsVersion s table) xs v ys (each_version s table ((xs ++ ys) ++ v ∷ []) h))
    (beside s table ((xs ++ ys) ++ v ∷ []) h)

-- ---- collect: a version whose words are both infinity
pub kept_taken : (s : State) (table : Phases) (xs : List Version) (v : Version) (ys : List Version) → AreVersionsOf s table (xs ++ v ∷ ys) → v.begin ≡ Infinity → v.end ≡ Infinity → AreVersionsOf s table (xs ++ ys)
kept_taken s table xs v ys h o c =
    kept_alike s s.clock s.active s.stamped s.ended table table (xs ++ v ∷ ys) (xs ++ ys) h h.phases
    (record { net_effect = λ k e. gone (has_stamp (ends_of table) e) k refl; touches = λ g p e. unmarked g (has_stamp (ends_of table) e) p refl; standing_effect = λ k. sym (standing_effect-at (ends_of table) s.start k xs v ys ∙ ap (λ d. with_effect d (standing_effect (ends_of table) s.start k (xs ++ ys))) (silent k)) })
    (λ e. refl) (λ e. refl)
    (each_weaker (λ r. Say (names r.id) r.history r.footprint (xs ++ v ∷ ys)) (λ r. Say (names r.id) r.history r.footprint (xs ++ ys)) (λ r g. record { writes = λ k. gone (names r.id) k refl ∙ g.writes k; touches = λ i p. unmarked i (names r.id) p refl ∙ g.touches i p }) s.active h.active)
    (each_drop (IsVersion s table) xs v ys (each_version s table (xs ++ v ∷ ys) h))
    (beside s table (xs ++ v ∷ ys) h)
  where
    gone : (n : Held → Bool) (k : RowKey) → n Infinity ≡ false → net_effect n k (xs ++ ys) ≡ net_effect n k (xs ++ v ∷ ys)
    gone n k q = sym (net_effect_without n k xs v ys (effect_of_nothing n k v (ap n o ∙ q) (ap n c ∙ q)))

    unmarked : (g : Touch) (n : Held → Bool) (p : Row → Bool) → n Infinity ≡ false → is_touched g n p (xs ++ ys) ≡ is_touched g n p (xs ++ v ∷ ys)
    unmarked g n p q = is_touched_append ∙ sym (is_touched_moved g n p xs v ys)
      where
        is_touched_append : is_touched g n p (xs ++ ys) ≡ is_touched g n p ((xs ++ ys) ++ v ∷ [])
        is_touched_append = sym (unmarked_last g n p (xs ++ ys) v (ap n o ∙ q) (ap n c ∙ q))

    silent : (k : RowKey) → standing_effect_of (ends_of table) s.start k v ≡ Untouched
    silent k = ap (λ w. cond (eq_by_cmp key_cmp k v.row.key && (is_up_to s.start (stamp_in (ends_of table) w) && cond (is_up_to s.start (stamp_in (ends_of table) v.end)) false true)) (Puts (content_of v.row)) Untouched) o ∙ no (eq_by_cmp key_cmp k v.row.key)
      where
        no : (b : Bool) → cond (b && false) (Puts (content_of v.row)) Untouched ≡ Untouched
        no true = refl
        no false = refl
