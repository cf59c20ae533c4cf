-- One garbage version is taken out.
use Rattle.std.proofs.Common.{◌≡◌, ℕ, ◌<◌, ◌≤◌, suc, zero, Bool, true, false, cond, List, [], ◌∷◌, ◌++◌, Option, None, Some, refl, sym, ap, ◌∙◌, subst, arith, ◌⊎◌, inl, inr}
use Rattle.std.specs.Prelude.{◌&&◌, ◌||◌}
use Rattle.std.specs.List.{AllByRecursion}
use Rattle.std.specs.Option.{option_map}
use Rattle.std.specs.Ordering.{eq_by_cmp}
use Rattle.std.specs.FinMap as fin
use Rattle.std.proofs.lemmas.Bool.{eq-eqb, eqb-true, ne_eqb, lt-ltb, ltb-true, false≢true, true≢false, cases_order}
use Rattle.std.proofs.lemmas.Map.Views.{tells_apart}
use Rattle.mvo_types.proofs.Maps.{exact_keys}
use Rattle.mvo_types.specs.declared.row.RowKey.{RowKey}
use Rattle.mvo_types.specs.RowData.{ContentData, content_of}
use Rattle.mvo_types.specs.Keys.{key_cmp}
use Rattle.mvo_theory.specs.Ranges.{Row}
use Rattle.mvo_theory.specs.State.{State, ActiveTx}
use Rattle.mvo_theory.proofs.Each.{each_weaker, each_both}
use Rattle.mvo_word.specs.declared.held.Held.{Held}
use Rattle.mvo_word.specs.declared.held.Held.TheVariants.{At, Infinity}
use Rattle.mvo_chain.specs.declared.version.Version.{Version}
use Rattle.mvo_representation.specs.Words.{Phases, Ends, ends_of, stamp_in, is_stamp, has_stamp, NetEffect, with_effect, effect_by, effect_of, net_effect, Touch, is_touch, is_touched, as_net_effect, last_change, or_change_at, standing, is_up_to, standing_effect_of, standing_effect}
use Rattle.mvo_visible.specs.Words.{names}
use Rattle.mvo_representation.specs.Words.NetEffect.{Untouched, Removed, Puts, Clash}
use Rattle.mvo_representation.specs.Versions.{Say, origin_at_start, IsInside, HasItsClaims, IsForward, IsKnown, AreVersionsOf}
use Rattle.mvo_representation.proofs.Effects.{net_effect-at, net_effect_without, effect_of_nothing, is_touched-at, part_none}
use Rattle.mvo_representation.proofs.Version.{IsLastChange, last_change_is_one, no_change}
use Rattle.mvo_representation.proofs.Conflict.{end_has_effect}
use Rattle.mvo_representation.proofs.Kept.{standing_effect-at, each_at, IsVersion, each_version}
use Rattle.mvo_types.specs.Write.Effect.{Put}

pub each_drop : {X : Type 0} (P : X → Type 0) (xs : List X) (v : X) (ys : List X) → AllByRecursion P (xs ++ v ∷ ys) → AllByRecursion P (xs ++ ys)
each_drop P [] v ys h = h.1
each_drop P (x ∷ xs) v ys h = (h.0, each_drop P xs v ys h.1)

-- ---- the last change, by what it is
pub last_known : (f : ℕ → NetEffect) (b : ℕ) (p : ℕ × NetEffect) → (p.1 ≡ Untouched → ⊥) → IsLastChange f b p → last_change f b ≡ Some p
last_known f zero p n t = absurd (let l = t.within in omega (arith, l))
last_known f (suc b) p n t = go (cases_order p.0 b) (λ u. last_known f b p n u)
  where
    some_last_change : (d : NetEffect) → (d ≡ Untouched → ⊥) → or_change_at b d (last_change f b) ≡ Some (b, d)
    some_last_change Untouched m = absurd (m refl)
    some_last_change Removed m = refl
    some_last_change (Puts h) m = refl
    some_last_change Clash m = refl

    go : (p.0 ≡ b) ⊎ ((p.0 < b) ⊎ (b < p.0)) → (IsLastChange f b p → last_change f b ≡ Some p) → or_change_at b (f b) (last_change f b) ≡ Some p
    go (inl e) again =
        let d : f b ≡ p.1 = ap f (sym e) ∙ t.is in
        some_last_change (f b) (λ q. n (sym d ∙ q)) ∙ ap (λ m. Some (m, f b)) (sym e) ∙ ap (λ m. Some (p.0, m)) d
    go (inr (inl l)) again = ap (λ d. or_change_at b d (last_change f b)) (t.last b l (omega arith)) ∙ again (record { within = l; is = t.is; last = λ x lo hi. t.last x lo (omega (arith, hi)) })
    go (inr (inr g)) again = absurd (let l = t.within in omega (arith, l, g))

-- ---- effects apart
pub nothing_rest : (d e : NetEffect) → with_effect d e ≡ Untouched → e ≡ Untouched
nothing_rest Untouched e q = q
nothing_rest Removed Untouched q = refl
nothing_rest Removed Removed q = q
nothing_rest Removed (Puts h) q = q
nothing_rest Removed Clash q = q
nothing_rest (Puts g) Untouched q = refl
nothing_rest (Puts g) Removed q = absurd (differ q)
  where
    differ : Puts g ≡ Untouched → ⊥
    differ q = cc
nothing_rest (Puts g) (Puts h) q = absurd (differ q)
  where
    differ : Clash ≡ Untouched → ⊥
    differ q = cc
nothing_rest (Puts g) Clash q = q
nothing_rest Clash e q = absurd (differ q)
  where
    differ : Clash ≡ Untouched → ⊥
    differ q = cc

removed_rest : (e : NetEffect) (h : ContentData) → with_effect Removed e ≡ Puts h → e ≡ Puts h
removed_rest Untouched h q = absurd (differ q)
  where
    differ : Removed ≡ Puts h → ⊥
    differ q = cc
removed_rest Removed h q = q
removed_rest (Puts g) h q = q
removed_rest Clash h q = q

-- an effect that leaves a row has a version that puts it
abbrev pub leaves_row : NetEffect → Bool
leaves_row Untouched = false
leaves_row Removed = false
leaves_row (Puts h) = true
leaves_row Clash = true

leaves_or : (d e : NetEffect) → leaves_row (with_effect d e) ≡ true → (leaves_row d ≡ true) ⊎ (leaves_row e ≡ true)
leaves_or Untouched e q = inr q
leaves_or Removed Untouched q = inl q
leaves_or Removed Removed q = inl q
leaves_or Removed (Puts h) q = inr refl
leaves_or Removed Clash q = inr refl
leaves_or (Puts g) e q = inl refl
leaves_or Clash e q = inl refl

leaves_with : (d e : NetEffect) → leaves_row e ≡ true → leaves_row (with_effect d e) ≡ true
leaves_with Untouched e q = q
leaves_with Removed Untouched q = q
leaves_with Removed Removed q = q
leaves_with Removed (Puts h) q = q
leaves_with Removed Clash q = q
leaves_with (Puts g) Untouched q = refl
leaves_with (Puts g) Removed q = refl
leaves_with (Puts g) (Puts h) q = refl
leaves_with (Puts g) Clash q = refl
leaves_with Clash e q = refl

pub leaves_put : (g : ContentData) (e : NetEffect) → leaves_row (with_effect (Puts g) e) ≡ true
leaves_put g Untouched = refl
leaves_put g Removed = refl
leaves_put g (Puts h) = refl
leaves_put g Clash = refl

-- of one that leaves a row, some version is put there and not ended there
pub record PutAt (ends : Ends) (a : ℕ) (k : RowKey) (vs : List Version) : Type 0 where
  pub before : List Version
  pub version : Version
  pub after : List Version
  pub is : vs ≡ before ++ version ∷ after
  pub key : eq_by_cmp key_cmp k version.row.key ≡ true
  pub put : stamp_in ends version.begin ≡ Some a
  pub stays : is_stamp a (stamp_in ends version.end) ≡ false

pub stamp_is : (o : Option ℕ) (m : ℕ) → is_stamp m o ≡ true → o ≡ Some m
stamp_is None m g = absurd (false≢true g)
stamp_is (Some n) m g = ap (λ x. Some x) (eqb-true n m g)

pub put_at_stamp : (ends : Ends) (a : ℕ) (k : RowKey) (vs : List Version) → leaves_row (net_effect (has_stamp ends a) k vs) ≡ true → PutAt ends a k vs
put_at_stamp ends a k [] e = absurd (false≢true e)
put_at_stamp ends a k (v ∷ vs) e = go (leaves_or (effect_of (has_stamp ends a) k v) (net_effect (has_stamp ends a) k vs) e) (λ g. put_at_stamp ends a k vs g)
  where
    here : (q o c : Bool) → eq_by_cmp key_cmp k v.row.key ≡ q → has_stamp ends a v.begin ≡ o → has_stamp ends a v.end ≡ c → leaves_row (cond q (effect_by o c (content_of v.row)) Untouched) ≡ true → PutAt ends a k (v ∷ vs)
    here true true false i j l g = record { before = []; version = v; after = vs; is = refl; key = i; put = stamp_is (stamp_in ends v.begin) a j; stays = l }
    here true true true i j l g = absurd (false≢true g)
    here true false true i j l g = absurd (false≢true g)
    here true false false i j l g = absurd (false≢true g)
    here false o c i j l g = absurd (false≢true g)

    go : (leaves_row (effect_of (has_stamp ends a) k v) ≡ true) ⊎ (leaves_row (net_effect (has_stamp ends a) k vs) ≡ true) → (leaves_row (net_effect (has_stamp ends a) k vs) ≡ true → PutAt ends a k vs) → PutAt ends a k (v ∷ vs)
    go (inl g) again = here (eq_by_cmp key_cmp k v.row.key) (has_stamp ends a v.begin) (has_stamp ends a v.end) refl refl refl g
    go (inr g) again = let w = again g in record { before = v ∷ w.before; version = w.version; after = w.after; is = ap (λ ws. v ∷ ws) w.is; key = w.key; put = w.put; stays = w.stays }

-- ---- collect: a version whose End is a timestamp up to the start
pub kept_collected : (s : State) (table : Phases) (xs : List Version) (v : Version) (ys : List Version) (e : ℕ) → AreVersionsOf s table (xs ++ v ∷ ys) → v.end ≡ At (record { 0 = e }) → e ≤ s.start → AreVersionsOf s table (xs ++ ys)
kept_collected s table xs v ys e h is le = record {
  phases = h.phases;
  stamped = λ m gt. let w = h.stamped m gt in record {
    writes = λ k. sym (net_effect_without (has_stamp E m) k xs v ys (effect_of_nothing (has_stamp E m) k v (not_begun m gt) (not_ended m gt))) ∙ w.writes k;
    touches = λ g p. sym (is_touched_without g (has_stamp E m) p (not_begun m gt) (not_ended m gt)) ∙ w.touches g p;
  };
  active = each_both (λ r. names r.id v.begin ≡ false) (λ r. Say (names r.id) r.history r.footprint (xs ++ v ∷ ys)) (λ r. Say (names r.id) r.history r.footprint (xs ++ ys)) (λ r n w. record {
    writes = λ k. sym (net_effect_without (names r.id) k xs v ys (effect_of_nothing (names r.id) k v n (ap (names r.id) is))) ∙ w.writes k;
    touches = λ g p. sym (is_touched_without g (names r.id) p n (ap (names r.id) is)) ∙ w.touches g p;
  }) s.active unnamed h.active;
  opened = λ k. opened k (fin.get s.base k) refl;
  stood = λ k. sym (standing_effect-at E s.start k xs v ys ∙ ap (λ d. with_effect d (standing_effect E s.start k (xs ++ ys))) (not_standing k)) ∙ h.stood k;
  known = each_drop (λ w. IsKnown s table w.begin × IsKnown s table w.end) xs v ys h.known;
  claims = each_drop (HasItsClaims s E) xs v ys h.claims;
  forward = each_drop (IsForward E) xs v ys h.forward;
  inside = each_drop (λ w. AllByRecursion (IsInside w) s.active) xs v ys h.inside;
  begun = h.begun;
  behind = h.behind;
  begun_stamped = h.begun_stamped;
  committed = h.committed;
  drawn = h.drawn;
  drawn_stamped = h.drawn_stamped;
}
  where
    E : Ends
    E = ends_of table

    was : IsVersion s table v
    was = each_at (IsVersion s table) xs v ys (each_version s table (xs ++ v ∷ ys) h)

    end_is : stamp_in E v.end ≡ Some e
    end_is = ap (stamp_in E) is

    not_ended : (m : ℕ) → s.start < m → has_stamp E m v.end ≡ false
    not_ended m gt = ap (is_stamp m) end_is ∙ ne_eqb e m (λ q. absurd (omega (arith, gt, le, q)))

    not_begun : (m : ℕ) → s.start < m → has_stamp E m v.begin ≡ false
    not_begun m gt = by (stamp_in E v.begin) refl
      where
        by : (o : Option ℕ) → stamp_in E v.begin ≡ o → is_stamp m o ≡ false
        by None q = refl
        by (Some b) q = let f : b ≤ e = was.forward b e q end_is in ne_eqb b m (λ i. absurd (omega (arith, gt, le, f, i)))

    is_touched_without : (g : Touch) (n : Held → Bool) (p : Row → Bool) → n v.begin ≡ false → n v.end ≡ false → is_touched g n p (xs ++ v ∷ ys) ≡ is_touched g n p (xs ++ ys)
    is_touched_without g n p o c =
        is_touched-at g n p xs v ys
        ∙ ap (λ b. (is_touch g b (n v.end) && p (v.row.key, content_of v.row)) || is_touched g n p (xs ++ ys)) o
        ∙ ap (λ b. (is_touch g false b && p (v.row.key, content_of v.row)) || is_touched g n p (xs ++ ys)) c
        ∙ ap (λ b. (b && p (v.row.key, content_of v.row)) || is_touched g n p (xs ++ ys)) (part_none g)

    unnamed : AllByRecursion (λ r. names r.id v.begin ≡ false) s.active
    unnamed = each_weaker (IsInside v) (λ r. names r.id v.begin ≡ false) (λ r i. by r i (names r.id v.begin) refl) s.active was.inside
      where
        infinite : v.end ≡ Infinity → ⊥
        infinite q = differ (sym is ∙ q)
          where
            differ : At (record { 0 = e }) ≡ Infinity → ⊥
            differ q = cc

        named : (r : ActiveTx) → (v.end ≡ Infinity) ⊎ (names r.id v.end ≡ true) → names r.id v.begin ≡ false
        named r (inl q) = absurd (infinite q)
        named r (inr q) = absurd (false≢true (sym (ap (names r.id) is) ∙ q))

        by : (r : ActiveTx) → IsInside v r → (b : Bool) → names r.id v.begin ≡ b → names r.id v.begin ≡ false
        by r i true q = named r (i q)
        by r i false q = q

    low_end : is_up_to s.start (stamp_in E v.end) ≡ true
    low_end = ap (is_up_to s.start) end_is ∙ lt-ltb e (suc s.start) (omega (arith, le))

    no_stand : (c b : Bool) → cond (c && (b && false)) (Puts (content_of v.row)) Untouched ≡ Untouched
    no_stand true true = refl
    no_stand true false = refl
    no_stand false b = refl

    not_standing : (k : RowKey) → standing_effect_of E s.start k v ≡ Untouched
    not_standing k = ap (λ b. cond (eq_by_cmp key_cmp k v.row.key && (is_up_to s.start (stamp_in E v.begin) && cond b false true)) (Puts (content_of v.row)) Untouched) low_end ∙ no_stand (eq_by_cmp key_cmp k v.row.key) (is_up_to s.start (stamp_in E v.begin))

    f : RowKey → ℕ → NetEffect
    f k a = net_effect (has_stamp E a) k (xs ++ v ∷ ys)

    f' : RowKey → ℕ → NetEffect
    f' k a = net_effect (has_stamp E a) k (xs ++ ys)

    split : (k : RowKey) (a : ℕ) → net_effect (has_stamp E a) k (xs ++ v ∷ ys) ≡ with_effect (effect_of (has_stamp E a) k v) (net_effect (has_stamp E a) k (xs ++ ys))
    split k a = net_effect-at (has_stamp E a) k xs v ys

    -- it isn't the last put
    not_put : (k : RowKey) (a : ℕ) (h : ContentData) (d : NetEffect) → effect_of (has_stamp E a) k v ≡ d → IsLastChange (λ m. net_effect (has_stamp E m) k (xs ++ v ∷ ys)) (suc s.start) (a, Puts h) → with_effect d (net_effect (has_stamp E a) k (xs ++ ys)) ≡ Puts h → net_effect (has_stamp E a) k (xs ++ ys) ≡ Puts h
    not_put k a h Untouched i t q = q
    not_put k a h Removed i t q = removed_rest (net_effect (has_stamp E a) k (xs ++ ys)) h q
    not_put k a h Clash i t q = absurd (clash (eq_by_cmp key_cmp k v.row.key) (has_stamp E a v.begin) (has_stamp E a v.end) i)
      where
        differ : (d : NetEffect) → (d ≡ Clash → ⊥) → d ≡ Clash → ⊥
        differ d n q = n q

        clash : (c o z : Bool) → cond c (effect_by o z (content_of v.row)) Untouched ≡ Clash → ⊥
        clash true true true q = cc
        clash true true false q = cc
        clash true false true q = cc
        clash true false false q = cc
        clash false o z q = cc
    not_put k a h (Puts g) i t q = absurd (puts (eq_by_cmp key_cmp k v.row.key) refl (has_stamp E a v.begin) refl (has_stamp E a v.end) refl i)
      where
        -- it is put at a and ended behind it: a change behind the last
        behind : eq_by_cmp key_cmp k v.row.key ≡ true → stamp_in E v.begin ≡ Some a → is_stamp a (stamp_in E v.end) ≡ false → ⊥
        behind c o z =
            let j : a ≤ e = was.forward a e o end_is in
            let n : a ≡ e → ⊥ = (λ y. true≢false (sym (ap (is_stamp a) end_is ∙ eq-eqb e a (sym y)) ∙ z)) in
            later j n (cases_order a e)
          where
            later : a ≤ e → (a ≡ e → ⊥) → (a ≡ e) ⊎ ((a < e) ⊎ (e < a)) → ⊥
            later j n (inl y) = n y
            later j n (inr (inr y)) = omega (arith, j, y)
            later j n (inr (inl y)) =
                end_has_effect (has_stamp E e) xs v ys (ap (is_stamp e) end_is ∙ eq-eqb e e refl)
                (ap (λ m. net_effect (has_stamp E e) m (xs ++ v ∷ ys)) (sym (tells_apart exact_keys k v.row.key c)) ∙ t.last e y (omega (arith, le)))

        puts : (c : Bool) → eq_by_cmp key_cmp k v.row.key ≡ c → (o : Bool) → has_stamp E a v.begin ≡ o → (z : Bool) → has_stamp E a v.end ≡ z → cond c (effect_by o z (content_of v.row)) Untouched ≡ Puts g → ⊥
        puts true c true o false z q = behind c (stamp_is (stamp_in E v.begin) a o) z
        puts true c true o true z q = cc
        puts true c false o true z q = cc
        puts true c false o false z q = cc
        puts false c o' o z' z q = cc

    -- a put of another up to the start, which isn't the last, stood there
    nobody : (k : RowKey) (a : ℕ) → fin.get s.base k ≡ None → IsLastChange (λ m. net_effect (has_stamp E m) k (xs ++ ys)) (suc s.start) (a, net_effect (has_stamp E a) k (xs ++ ys)) → leaves_row (net_effect (has_stamp E a) k (xs ++ ys)) ≡ true → ⊥
    nobody k a none t q = go (put_at_stamp E a k (xs ++ ys) q)
      where
        go : PutAt E a k (xs ++ ys) → ⊥
        go w = ended (stamp_in E w.version.end) refl
          where
            -- it stands, but nothing does
            stands : is_up_to s.start (stamp_in E w.version.end) ≡ false → ⊥
            stands low =
                let up : is_up_to s.start (stamp_in E w.version.begin) ≡ true = ap (is_up_to s.start) w.put ∙ lt-ltb a (suc s.start) t.within in
                let at : standing_effect_of E s.start k w.version ≡ Puts (content_of w.version.row) = ap (λ c. cond (c && (is_up_to s.start (stamp_in E w.version.begin) && cond (is_up_to s.start (stamp_in E w.version.end)) false true)) (Puts (content_of w.version.row)) Untouched) w.key ∙ ap (λ c. cond (c && cond (is_up_to s.start (stamp_in E w.version.end)) false true) (Puts (content_of w.version.row)) Untouched) up ∙ ap (λ c. cond (cond c false true) (Puts (content_of w.version.row)) Untouched) low in
                let all : standing_effect E s.start k (xs ++ ys) ≡ Untouched = sym (standing_effect-at E s.start k xs v ys ∙ ap (λ d. with_effect d (standing_effect E s.start k (xs ++ ys))) (not_standing k)) ∙ h.stood k ∙ ap (λ o. as_net_effect (option_map (λ x. Put x) o)) none in
                let one : standing_effect E s.start k (xs ++ ys) ≡ with_effect (Puts (content_of w.version.row)) (standing_effect E s.start k (w.before ++ w.after)) = ap (standing_effect E s.start k) w.is ∙ standing_effect-at E s.start k w.before w.version w.after ∙ ap (λ d. with_effect d (standing_effect E s.start k (w.before ++ w.after))) at in
                false≢true (sym (ap leaves_row (sym one ∙ all)) ∙ leaves_put (content_of w.version.row) (standing_effect E s.start k (w.before ++ w.after)))

            -- it is ended behind the last change
            behind : (c : ℕ) → stamp_in E w.version.end ≡ Some c → c < suc s.start → (a ≡ c) ⊎ ((a < c) ⊎ (c < a)) → ⊥
            behind c o lt (inl y) = true≢false (sym (ap (is_stamp a) o ∙ eq-eqb c a (sym y)) ∙ w.stays)
            behind c o lt (inr (inl y)) =
                end_has_effect (has_stamp E c) w.before w.version w.after (ap (is_stamp c) o ∙ eq-eqb c c refl)
                (ap (net_effect (has_stamp E c) w.version.row.key) (sym w.is) ∙ ap (λ j. net_effect (has_stamp E c) j (xs ++ ys)) (sym (tells_apart exact_keys k w.version.row.key w.key)) ∙ t.last c y lt)
            behind c o lt (inr (inr y)) =
                let f : a ≤ c = each_at (IsForward E) w.before w.version w.after (subst (AllByRecursion (IsForward E)) w.is (each_drop (IsForward E) xs v ys h.forward)) a c w.put o in
                omega (arith, f, y)

            ended : (o : Option ℕ) → stamp_in E w.version.end ≡ o → ⊥
            ended None o = stands (ap (is_up_to s.start) o)
            ended (Some c) o = by (is_up_to s.start (Some c)) refl
              where
                by : (b : Bool) → is_up_to s.start (Some c) ≡ b → ⊥
                by true q = behind c o (ltb-true c (suc s.start) q) (cases_order a c)
                by false q = stands (ap (is_up_to s.start) o ∙ q)

    same_last_change : (k : RowKey) (a : ℕ) (g : ContentData) → last_change (λ m. net_effect (has_stamp E m) k (xs ++ v ∷ ys)) (suc s.start) ≡ Some (a, Puts g) → last_change (λ m. net_effect (has_stamp E m) k (xs ++ ys)) (suc s.start) ≡ Some (a, Puts g)
    same_last_change k a g q =
        let t = last_change_is_one (λ m. net_effect (has_stamp E m) k (xs ++ v ∷ ys)) (suc s.start) (a, Puts g) q in
        last_known (λ m. net_effect (has_stamp E m) k (xs ++ ys)) (suc s.start) (a, Puts g) (λ z. true≢false (ap leaves_row z)) (record {
          within = t.within;
          is = not_put k a g (effect_of (has_stamp E a) k v) refl t (sym (split k a) ∙ t.is);
          last = λ x lo hi. nothing_rest (effect_of (has_stamp E x) k v) (net_effect (has_stamp E x) k (xs ++ ys)) (sym (split k x) ∙ t.last x lo hi);
        })

    opened : (k : RowKey) (m : Option ContentData) → fin.get s.base k ≡ m → standing (last_change (λ a. net_effect (has_stamp E a) k (xs ++ ys)) (suc s.start)) ≡ option_map (λ h. (origin_at_start s k, Puts h)) (fin.get s.base k)
    opened k None q = none (last_change (λ a. net_effect (has_stamp E a) k (xs ++ ys)) (suc s.start)) refl ∙ ap (option_map (λ h. (origin_at_start s k, Puts h))) (sym q)
      where
        leaves : (p : ℕ × NetEffect) → last_change (λ a. net_effect (has_stamp E a) k (xs ++ ys)) (suc s.start) ≡ Some p → leaves_row p.1 ≡ true → ⊥
        leaves p e l = let t = last_change_is_one (λ a. net_effect (has_stamp E a) k (xs ++ ys)) (suc s.start) p e in nobody k p.0 q (record { within = t.within; is = refl; last = t.last }) (ap leaves_row t.is ∙ l)

        none : (c : Option (ℕ × NetEffect)) → last_change (λ a. net_effect (has_stamp E a) k (xs ++ ys)) (suc s.start) ≡ c → standing (last_change (λ a. net_effect (has_stamp E a) k (xs ++ ys)) (suc s.start)) ≡ None
        none None e = ap standing e
        none (Some (a, Untouched)) e = ap standing e
        none (Some (a, Removed)) e = ap standing e
        none (Some (a, Puts g)) e = absurd (leaves (a, Puts g) e refl)
        none (Some (a, Clash)) e = absurd (leaves (a, Clash) e refl)
    opened k (Some g) q = some (last_change (λ a. net_effect (has_stamp E a) k (xs ++ v ∷ ys)) (suc s.start)) refl
      where
        before : standing (last_change (λ a. net_effect (has_stamp E a) k (xs ++ v ∷ ys)) (suc s.start)) ≡ Some (origin_at_start s k, Puts g)
        before = h.opened k ∙ ap (option_map (λ h. (origin_at_start s k, Puts h))) q

        gone : (c : Option (ℕ × NetEffect)) → last_change (λ a. net_effect (has_stamp E a) k (xs ++ v ∷ ys)) (suc s.start) ≡ c → standing c ≡ None → ⊥
        gone c e n = no_change (origin_at_start s k, Puts g) (sym (ap standing e ∙ n) ∙ before)

        clash_of : Option (ℕ × NetEffect) → Bool
        clash_of None = false
        clash_of (Some (a, Untouched)) = false
        clash_of (Some (a, Removed)) = false
        clash_of (Some (a, Puts h)) = false
        clash_of (Some (a, Clash)) = true

        some : (c : Option (ℕ × NetEffect)) → last_change (λ a. net_effect (has_stamp E a) k (xs ++ v ∷ ys)) (suc s.start) ≡ c → standing (last_change (λ a. net_effect (has_stamp E a) k (xs ++ ys)) (suc s.start)) ≡ option_map (λ h. (origin_at_start s k, Puts h)) (fin.get s.base k)
        some None e = absurd (gone None e refl)
        some (Some (a, Untouched)) e = absurd (gone (Some (a, Untouched)) e refl)
        some (Some (a, Removed)) e = absurd (gone (Some (a, Removed)) e refl)
        some (Some (a, Clash)) e = absurd (true≢false (sym (ap clash_of (ap standing e)) ∙ ap clash_of before))
        some (Some (a, Puts i)) e = ap standing (same_last_change k a i e ∙ sym e) ∙ h.opened k
