-- The keys that a scan meets in the versions are those that count for it.
use Rattle.std.proofs.Common.{◌≡◌, ◌≢◌, ℕ, ◌<◌, ◌≤◌, suc, Bool, true, false, cond, ◌||◌, List, [], ◌∷◌, ◌++◌, Option, None, Some, refl, sym, ap, ◌∙◌, subst, arith, ◌⊎◌, inl, inr}
use Rattle.std.specs.Prelude.{◌==◌, nat_lt, ◌&&◌, is_some}
use Rattle.std.specs.List.{AllByRecursion, list_any}
use Rattle.mvo_types.specs.Write.{Effect, content_after_last}
use Rattle.std.specs.Option.{option_map}
use Rattle.std.specs.FinMap as fin
use Rattle.std.specs.Ordering.{eq_by_cmp}
use Rattle.std.proofs.lemmas.Bool.{ne_eqb, eq-eqb, eqb-true, lt-ltb, le-ltb, ltb-true, false≢true, true≢false, cases_order, and_parts, and_from}
use Rattle.std.proofs.lemmas.Map.Views.{tells_apart}
use Rattle.mvo_types.proofs.Maps.{exact_keys}
use Rattle.mvo_types.specs.declared.row.RowKey.{RowKey}
use Rattle.mvo_types.specs.declared.op.Op.TheVariants.{Scan}
use Rattle.mvo_types.specs.RowData.{ContentData, content_of}
use Rattle.mvo_types.specs.Keys.{key_cmp}
use Rattle.mvo_model.specs.History.{net_write, after_history}
use Rattle.mvo_model.proofs.Serials.{get-after_history}
use Rattle.mvo_theory.specs.Ranges.{Row, shows, pass, puts, is_row_of}
use Rattle.mvo_types.specs.declared.entry.Entry.TheVariants.{Range}
use Rattle.mvo_theory.specs.State.{State, StampedTx, ActiveTx, seen_by, active_of}
use Rattle.mvo_theory.specs.Dependencies.{is_put_below, counts_for, last_writer, has_end, dependencies}
use Rattle.mvo_theory.specs.Sound.{IsSound, IsStarted, IsRising}
use Rattle.mvo_theory.proofs.Each.{each_both}
use Rattle.mvo_theory.proofs.Who.{active_holds}
use Rattle.mvo_theory.proofs.Counts.{seen_counts}
use Rattle.mvo_theory.proofs.Exact.{depends_only, depends_all, or_cases}
use Rattle.mvo_theory.proofs.Footprints.{or_right}
use Rattle.mvo_chain.specs.declared.version.Version.{Version}
use Rattle.mvo_representation.specs.Words.{Phases, Ends, ends_of, stamp_in, is_stamp, has_stamp, NetEffect, with_effect, as_net_effect, touches, is_up_to, is_standing, standing_effect_of, standing_effect, is_below, meets, is_met, content_put, is_clash}
use Rattle.mvo_representation.specs.Words.NetEffect.{Untouched, Removed, Puts, Clash}
use Rattle.mvo_representation.specs.Words.Touch.{OnlyPut}
use Rattle.mvo_representation.specs.Versions.{history_at, AreVersionsOf}
use Rattle.mvo_representation.proofs.Facts.{stamp_drawn}
use Rattle.mvo_representation.proofs.Kept.{IsVersion, each_version, each_at, standing_effect-at}
use Rattle.mvo_types.specs.Write.Effect.{Put}

-- ---- one of the versions
pub record OneOf (f : Version → Bool) (vs : List Version) : Type 0 where
  pub before : List Version
  pub version : Version
  pub after : List Version
  pub is : vs ≡ before ++ version ∷ after
  pub passes : f version ≡ true

pub one_of : (f : Version → Bool) (vs : List Version) → list_any f vs ≡ true → OneOf f vs
one_of f [] e = absurd (false≢true e)
one_of f (v ∷ vs) e = go (f v) refl e (λ g. one_of f vs g)
  where
    go : (b : Bool) → f v ≡ b → (b || list_any f vs) ≡ true → (list_any f vs ≡ true → OneOf f vs) → OneOf f (v ∷ vs)
    go true g h again = record { before = []; version = v; after = vs; is = refl; passes = g }
    go false g h again = let w = again h in record { before = v ∷ w.before; version = w.version; after = w.after; is = ap (λ ws. v ∷ ws) w.is; passes = w.passes }

pub any_at : (f : Version → Bool) (xs : List Version) (v : Version) (ys : List Version) → f v ≡ true → list_any f (xs ++ v ∷ ys) ≡ true
any_at f [] v ys e = ap (λ b. b || list_any f ys) e
any_at f (x ∷ xs) v ys e = go (f x) (any_at f xs v ys e)
  where
    go : (b : Bool) → list_any f (xs ++ v ∷ ys) ≡ true → (b || list_any f (xs ++ v ∷ ys)) ≡ true
    go true g = refl
    go false g = g

-- ---- what stands at the start
at_start : (m : Option ContentData) → content_put (as_net_effect (option_map (λ h. Put h) m)) ≡ m
at_start None = refl
at_start (Some h) = refl

clear_start : (m : Option ContentData) → is_clash (as_net_effect (option_map (λ h. Put h) m)) ≡ false
clear_start None = refl
clear_start (Some h) = refl

put_held : (h : ContentData) (rest : NetEffect) → is_clash (with_effect (Puts h) rest) ≡ false → content_put (with_effect (Puts h) rest) ≡ Some h
put_held h Untouched e = refl
put_held h Removed e = refl
put_held h (Puts g) e = absurd (true≢false e)
put_held h Clash e = absurd (true≢false e)

pub stands_base : (s : State) (table : Phases) (xs : List Version) (v : Version) (ys : List Version) (q : RowKey) → AreVersionsOf s table (xs ++ v ∷ ys) → standing_effect_of (ends_of table) s.start q v ≡ Puts (content_of v.row) → fin.get s.base q ≡ Some (content_of v.row)
stands_base s table xs v ys q h e =
    let at : with_effect (Puts (content_of v.row)) (standing_effect (ends_of table) s.start q (xs ++ ys)) ≡ as_net_effect (option_map (λ h. Put h) (fin.get s.base q)) =
    ap (λ d. with_effect d (standing_effect (ends_of table) s.start q (xs ++ ys))) (sym e) ∙ sym (standing_effect-at (ends_of table) s.start q xs v ys) ∙ h.stood q in
    sym (at_start (fin.get s.base q)) ∙ ap content_put (sym at) ∙ put_held (content_of v.row) (standing_effect (ends_of table) s.start q (xs ++ ys)) (ap is_clash at ∙ clear_start (fin.get s.base q))

-- a version that stands there
stands_with : Ends → ℕ → RowKey → Version → Bool
stands_with ends start q v = eq_by_cmp key_cmp q v.row.key && is_standing ends start v

pub none_held : (h : ContentData) → ◌≡◌ {A = Option ContentData} None (Some h) → ⊥
none_held h e = cc

abbrev test_of : Ends → ℕ → RowKey → ContentData → Version → Bool
test_of ends start q h v = eq_by_cmp key_cmp q v.row.key && is_standing ends start v

-- where a row stands, one of the versions is it
pub record StandsAs (ends : Ends) (start : ℕ) (q : RowKey) (h : ContentData) (vs : List Version) : Type 0 where
  pub before : List Version
  pub version : Version
  pub after : List Version
  pub is : vs ≡ before ++ version ∷ after
  pub passes : (eq_by_cmp key_cmp q version.row.key && is_standing ends start version) ≡ true
  pub row : content_of version.row ≡ h

puts_or : (d e : NetEffect) (h : ContentData) → with_effect d e ≡ Puts h → (d ≡ Puts h) ⊎ (e ≡ Puts h)
puts_or Untouched e h q = inr q
puts_or Removed Untouched h q = absurd (differ q)
  where
    differ : Removed ≡ Puts h → ⊥
    differ q = cc
puts_or Removed Removed h q = absurd (differ q)
  where
    differ : Removed ≡ Puts h → ⊥
    differ q = cc
puts_or Removed (Puts g) h q = inr q
puts_or Removed Clash h q = inr q
puts_or (Puts g) Untouched h q = inl q
puts_or (Puts g) Removed h q = inl q
puts_or (Puts g) (Puts k) h q = absurd (differ q)
  where
    differ : Clash ≡ Puts h → ⊥
    differ q = cc
puts_or (Puts g) Clash h q = absurd (differ q)
  where
    differ : Clash ≡ Puts h → ⊥
    differ q = cc
puts_or Clash e h q = inl q

pub some_held : (g h : ContentData) → ◌≡◌ {A = Option ContentData} (Some g) (Some h) → g ≡ h
some_held g h q = cc

nothing_puts : (h : ContentData) → Untouched ≡ Puts h → ⊥
nothing_puts h q = none_held h (ap content_put q)

pub stands_as : (ends : Ends) (start : ℕ) (q : RowKey) (h : ContentData) (vs : List Version) → standing_effect ends start q vs ≡ Puts h → StandsAs ends start q h vs
stands_as ends start q h [] e = absurd (nothing_puts h e)
stands_as ends start q h (v ∷ vs) e = go (puts_or (standing_effect_of ends start q v) (standing_effect ends start q vs) h e) (λ g. stands_as ends start q h vs g)
  where
    here : (b : Bool) → (eq_by_cmp key_cmp q v.row.key && is_standing ends start v) ≡ b → cond b (Puts (content_of v.row)) Untouched ≡ Puts h → StandsAs ends start q h (v ∷ vs)
    here true f g = record { before = []; version = v; after = vs; is = refl; passes = f; row = some_held (content_of v.row) h (ap content_put g) }
    here false f g = absurd (nothing_puts h g)

    go : (standing_effect_of ends start q v ≡ Puts h) ⊎ (standing_effect ends start q vs ≡ Puts h) → (standing_effect ends start q vs ≡ Puts h → StandsAs ends start q h vs) → StandsAs ends start q h (v ∷ vs)
    go (inl g) again = here (eq_by_cmp key_cmp q v.row.key && is_standing ends start v) refl g
    go (inr g) again = let w = again g in record { before = v ∷ w.before; version = w.version; after = w.after; is = ap (λ ws. v ∷ ws) w.is; passes = w.passes; row = w.row }

-- ---- what one with an end put
put_below : (p : Row → Bool) (m b : ℕ) (xs : List StampedTx) → m < b → list_any p (puts (history_at m xs)) ≡ true → list_any (λ x. nat_lt x.end b && list_any p (puts x.history)) xs ≡ true
put_below p m b [] lt e = absurd (false≢true e)
put_below p m b (x ∷ xs) lt e = go (x.end == m) refl e (λ g. put_below p m b xs lt g)
  where
    rest : (c : Bool) → list_any (λ x. nat_lt x.end b && list_any p (puts x.history)) xs ≡ true → (c || list_any (λ x. nat_lt x.end b && list_any p (puts x.history)) xs) ≡ true
    rest true g = refl
    rest false g = g

    go : (c : Bool) → (x.end == m) ≡ c → list_any p (puts (cond c x.history (history_at m xs))) ≡ true → (list_any p (puts (history_at m xs)) ≡ true → list_any (λ x. nat_lt x.end b && list_any p (puts x.history)) xs ≡ true) → ((nat_lt x.end b && list_any p (puts x.history)) || list_any (λ x. nat_lt x.end b && list_any p (puts x.history)) xs) ≡ true
    go true f g again = ap (λ c. c || list_any (λ x. nat_lt x.end b && list_any p (puts x.history)) xs) (and_from (nat_lt x.end b) (list_any p (puts x.history)) (lt-ltb x.end b (let q : x.end ≡ m = eqb-true x.end m f in omega (arith, q, lt))) g)
    go false f g again = rest (nat_lt x.end b && list_any p (puts x.history)) (again g)

pub history_in : (xs : List StampedTx) → IsRising xs → AllByRecursion (λ x. history_at x.end xs ≡ x.history) xs
history_in [] h = tt
history_in (x ∷ xs) h = (
  ap (λ b. cond b x.history (history_at x.end xs)) (eq-eqb x.end x.end refl),
  each_both (λ y. x.end < y.end) (λ y. history_at y.end xs ≡ y.history) (λ y. history_at y.end (x ∷ xs) ≡ y.history) (λ y lt e. ap (λ b. cond b x.history (history_at y.end xs)) (ne_eqb x.end y.end (λ q. absurd (omega (arith, lt, q)))) ∙ e) xs h.0 (history_in xs h.1),
)

-- one of those that end below b and put such a row
pub record Putter (p : Row → Bool) (b : ℕ) (xs : List StampedTx) (P : StampedTx → Type 0) : Type 0 where
  pub slot : StampedTx
  pub below : slot.end < b
  pub put : list_any p (puts slot.history) ≡ true
  pub holds : P slot

putter : (p : Row → Bool) (b : ℕ) (xs : List StampedTx) (P : StampedTx → Type 0) → AllByRecursion P xs → list_any (λ x. nat_lt x.end b && list_any p (puts x.history)) xs ≡ true → Putter p b xs P
putter p b [] P h e = absurd (false≢true e)
putter p b (x ∷ xs) P h e = go (nat_lt x.end b && list_any p (puts x.history)) refl e (λ g. putter p b xs P h.1 g)
  where
    go : (c : Bool) → (nat_lt x.end b && list_any p (puts x.history)) ≡ c → (c || list_any (λ x. nat_lt x.end b && list_any p (puts x.history)) xs) ≡ true → (list_any (λ x. nat_lt x.end b && list_any p (puts x.history)) xs ≡ true → Putter p b xs P) → Putter p b (x ∷ xs) P
    go true f g again = let w = and_parts (nat_lt x.end b) (list_any p (puts x.history)) f in record { slot = x; below = ltb-true x.end b w.0; put = w.1; holds = h.0 }
    go false f g again = let w = again g in record { slot = w.slot; below = w.below; put = w.put; holds = w.holds }

-- ---- the keys that are met count, and those that count are met
or_left : (a b : Bool) → a ≡ true → (a || b) ≡ true
or_left a b e = ap (λ c. c || b) e

flip : (b : Bool) → cond b false true ≡ true → b ≡ false
flip true e = absurd (false≢true e)
flip false e = refl

some_before : (b : ℕ) (o : Option ℕ) → is_below b o ≡ true → (m : ℕ) × (o ≡ Some m) × (m < b)
some_before b None e = absurd (false≢true e)
some_before b (Some m) e = (m, refl, ltb-true m b e)

pub met_counts : (s : State) (table : Phases) (vs : List Version) (b tab lo hi : ℕ) (q : RowKey) → AreVersionsOf s table vs → is_met (ends_of table) s.start b (is_row_of (shows (Range tab lo hi)) q) vs ≡ true → counts_for (Range tab lo hi) q b s.base s.stamped ≡ true
met_counts s table vs b tab lo hi q h e = go (one_of (meets (ends_of table) s.start b (is_row_of (shows (Range tab lo hi)) q)) vs e)
  where
    go : OneOf (meets (ends_of table) s.start b (is_row_of (shows (Range tab lo hi)) q)) vs → counts_for (Range tab lo hi) q b s.base s.stamped ≡ true
    go w = by (some_before b (stamp_in (ends_of table) v.begin) x.0)
      where
        v : Version
        v = w.version

        y : ((is_below b (stamp_in (ends_of table) v.begin) && cond (is_up_to s.start (stamp_in (ends_of table) v.end)) false true) ≡ true) × (is_row_of (shows (Range tab lo hi)) q (v.row.key, content_of v.row) ≡ true)
        y = and_parts (is_below b (stamp_in (ends_of table) v.begin) && cond (is_up_to s.start (stamp_in (ends_of table) v.end)) false true) (is_row_of (shows (Range tab lo hi)) q (v.row.key, content_of v.row)) w.passes

        x : (is_below b (stamp_in (ends_of table) v.begin) ≡ true) × (cond (is_up_to s.start (stamp_in (ends_of table) v.end)) false true ≡ true)
        x = and_parts (is_below b (stamp_in (ends_of table) v.begin)) (cond (is_up_to s.start (stamp_in (ends_of table) v.end)) false true) y.0

        z : (eq_by_cmp key_cmp q v.row.key ≡ true) × (shows (Range tab lo hi) (v.row.key, content_of v.row) ≡ true)
        z = and_parts (eq_by_cmp key_cmp q v.row.key) (shows (Range tab lo hi) (v.row.key, content_of v.row)) y.1

        same : q ≡ v.row.key
        same = tells_apart exact_keys q v.row.key z.0

        g : AreVersionsOf s table (w.before ++ v ∷ w.after)
        g = subst (AreVersionsOf s table) w.is h

        standing : (m : ℕ) → stamp_in (ends_of table) v.begin ≡ Some m → m ≤ s.start → counts_for (Range tab lo hi) q b s.base s.stamped ≡ true
        standing m o le =
            let up : is_up_to s.start (stamp_in (ends_of table) v.begin) ≡ true = ap (is_up_to s.start) o ∙ lt-ltb m (suc s.start) (omega (arith, le)) in
            let at : fin.get s.base q ≡ Some (content_of v.row) = stands_base s table w.before v w.after q g (ap (λ c. cond c (Puts (content_of v.row)) Untouched) (and_from (eq_by_cmp key_cmp q v.row.key) (is_standing (ends_of table) s.start v) z.0 (and_from (is_up_to s.start (stamp_in (ends_of table) v.begin)) (cond (is_up_to s.start (stamp_in (ends_of table) v.end)) false true) up x.1))) in
            or_left (is_some (pass (shows (Range tab lo hi)) q (fin.get s.base q))) (is_put_below (shows (Range tab lo hi)) q b s.stamped)
            (ap (λ o. is_some (pass (shows (Range tab lo hi)) q o)) at ∙ ap (λ c. is_some (cond c (Some (content_of v.row)) None)) (ap (λ k. shows (Range tab lo hi) (k, content_of v.row)) same ∙ z.1))

        low_or : (m : ℕ) → stamp_in (ends_of table) v.begin ≡ Some m → m < b → (m ≡ s.start) ⊎ ((m < s.start) ⊎ (s.start < m)) → counts_for (Range tab lo hi) q b s.base s.stamped ≡ true
        low_or m o lt (inr (inr gt)) =
            or_right (is_some (pass (shows (Range tab lo hi)) q (fin.get s.base q))) (is_put_below (shows (Range tab lo hi)) q b s.stamped)
            (put_below (is_row_of (shows (Range tab lo hi)) q) m b s.stamped lt
            (sym ((g.stamped m gt).touches OnlyPut (is_row_of (shows (Range tab lo hi)) q))
            ∙ any_at (touches OnlyPut (has_stamp (ends_of table) m) (is_row_of (shows (Range tab lo hi)) q)) w.before v w.after (and_from (has_stamp (ends_of table) m v.begin) (is_row_of (shows (Range tab lo hi)) q (v.row.key, content_of v.row)) (ap (is_stamp m) o ∙ eq-eqb m m refl) y.1)))
        low_or m o lt (inl i) = standing m o (omega (arith, i))
        low_or m o lt (inr (inl l)) = standing m o (omega (arith, l))

        by : (m : ℕ) × (stamp_in (ends_of table) v.begin ≡ Some m) × (m < b) → counts_for (Range tab lo hi) q b s.base s.stamped ≡ true
        by m = low_or m.0 m.1 m.2 (cases_order m.0 s.start)

pub counts_met : (s : State) (table : Phases) (vs : List Version) (t : ℕ) (r : ActiveTx) (tab lo hi : ℕ) (q : RowKey) → IsSound s → IsStarted s → AreVersionsOf s table vs → active_of t s.active ≡ Some r → counts_for (Range tab lo hi) q t s.base s.stamped ≡ true → is_met (ends_of table) s.start t (is_row_of (shows (Range tab lo hi)) q) vs ≡ true
counts_met s table vs t r tab lo hi q sd st h f e = go (or_cases (is_some (pass (shows (Range tab lo hi)) q (fin.get s.base q))) (is_put_below (shows (Range tab lo hi)) q t s.stamped) e)
  where
    -- a version that is put below t, and not ended up to the start
    met : (xs : List Version) (v : Version) (ys : List Version) (m : ℕ) → vs ≡ xs ++ v ∷ ys → stamp_in (ends_of table) v.begin ≡ Some m → m < t → is_up_to s.start (stamp_in (ends_of table) v.end) ≡ false → is_row_of (shows (Range tab lo hi)) q (v.row.key, content_of v.row) ≡ true → is_met (ends_of table) s.start t (is_row_of (shows (Range tab lo hi)) q) vs ≡ true
    met xs v ys m is o lt low row =
        subst (λ (ws : List Version). is_met (ends_of table) s.start t (is_row_of (shows (Range tab lo hi)) q) ws ≡ true) (sym is)
        (any_at (meets (ends_of table) s.start t (is_row_of (shows (Range tab lo hi)) q)) xs v ys
        (and_from (is_below t (stamp_in (ends_of table) v.begin) && cond (is_up_to s.start (stamp_in (ends_of table) v.end)) false true) (is_row_of (shows (Range tab lo hi)) q (v.row.key, content_of v.row))
        (and_from (is_below t (stamp_in (ends_of table) v.begin)) (cond (is_up_to s.start (stamp_in (ends_of table) v.end)) false true) (ap (is_below t) o ∙ lt-ltb m t lt) (ap (λ c. cond c false true) low)) row))

    version : (xs : List Version) (v : Version) (ys : List Version) → vs ≡ xs ++ v ∷ ys → IsVersion s table v
    version xs v ys is = each_at (IsVersion s table) xs v ys (subst (AllByRecursion (IsVersion s table)) is (each_version s table vs h))

    -- a stamp is nobody's begin
    below : (xs : List Version) (v : Version) (ys : List Version) (m : ℕ) → vs ≡ xs ++ v ∷ ys → stamp_in (ends_of table) v.begin ≡ Some m → m ≤ s.start → (m ≡ t) ⊎ ((m < t) ⊎ (t < m)) → m < t
    below xs v ys m is o le (inr (inl l)) = l
    below xs v ys m is o le (inl i) = absurd (let d = stamp_drawn s table vs sd h v.begin (version xs v ys is).known.0 m o in let w = active_holds (λ (x : ActiveTx). x.id ≢ m) t s.active r f d.apart in w.0 (w.1 ∙ sym i))
    below xs v ys m is o le (inr (inr g)) = absurd (let w = active_holds (λ (x : ActiveTx). s.start ≤ x.id) t s.active r f h.begun in let l = w.0 in let i = w.1 in omega (arith, le, g, l, i))

    low_some : (o : Option ℕ) → is_up_to s.start o ≡ true → (m : ℕ) × (o ≡ Some m) × (m ≤ s.start)
    low_some None g = absurd (false≢true g)
    low_some (Some m) g = (m, refl, let l : m < suc s.start = ltb-true m (suc s.start) g in omega (arith, l))

    by_base : (o : Option ContentData) → fin.get s.base q ≡ o → is_some (pass (shows (Range tab lo hi)) q o) ≡ true → is_met (ends_of table) s.start t (is_row_of (shows (Range tab lo hi)) q) vs ≡ true
    by_base None g i = absurd (false≢true i)
    by_base (Some held) g i = found (stands_as (ends_of table) s.start q held vs (h.stood q ∙ ap (λ o. as_net_effect (option_map (λ x. Put x) o)) g))
      where
        shown : (c : Bool) → shows (Range tab lo hi) (q, held) ≡ c → is_some (cond c (Some held) None) ≡ true → shows (Range tab lo hi) (q, held) ≡ true
        shown true k l = k
        shown false k l = absurd (false≢true l)

        found : StandsAs (ends_of table) s.start q held vs → is_met (ends_of table) s.start t (is_row_of (shows (Range tab lo hi)) q) vs ≡ true
        found w =
            let a = and_parts (eq_by_cmp key_cmp q w.version.row.key) (is_standing (ends_of table) s.start w.version) w.passes in
            let c = and_parts (is_up_to s.start (stamp_in (ends_of table) w.version.begin)) (cond (is_up_to s.start (stamp_in (ends_of table) w.version.end)) false true) a.1 in
            let m = low_some (stamp_in (ends_of table) w.version.begin) c.0 in
            met w.before w.version w.after m.0 w.is m.1 (below w.before w.version w.after m.0 w.is m.1 m.2 (cases_order m.0 t)) (flip (is_up_to s.start (stamp_in (ends_of table) w.version.end)) c.1)
            (and_from (eq_by_cmp key_cmp q w.version.row.key) (shows (Range tab lo hi) (w.version.row.key, content_of w.version.row)) a.0
            (ap (λ k. shows (Range tab lo hi) (k, content_of w.version.row)) (sym (tells_apart exact_keys q w.version.row.key a.0)) ∙ ap (λ x. shows (Range tab lo hi) (q, x)) w.row ∙ shown (shows (Range tab lo hi) (q, held)) refl i))

    stamp_is : (o : Option ℕ) (m : ℕ) → is_stamp m o ≡ true → o ≡ Some m
    stamp_is None m g = absurd (false≢true g)
    stamp_is (Some n) m g = ap (λ x. Some x) (eqb-true n m g)

    by_put : Putter (is_row_of (shows (Range tab lo hi)) q) t s.stamped (λ x. (s.start < x.end) × (history_at x.end s.stamped ≡ x.history)) → is_met (ends_of table) s.start t (is_row_of (shows (Range tab lo hi)) q) vs ≡ true
    by_put w = found (one_of (touches OnlyPut (has_stamp (ends_of table) w.slot.end) (is_row_of (shows (Range tab lo hi)) q)) vs
        ((h.stamped w.slot.end w.holds.0).touches OnlyPut (is_row_of (shows (Range tab lo hi)) q) ∙ ap (λ ts. list_any (is_row_of (shows (Range tab lo hi)) q) (puts ts)) w.holds.1 ∙ w.put))
      where
        not_low : (v : Version) → IsVersion s table v → stamp_in (ends_of table) v.begin ≡ Some w.slot.end → (o : Option ℕ) → stamp_in (ends_of table) v.end ≡ o → is_up_to s.start o ≡ false
        not_low v i b None g = refl
        not_low v i b (Some n) g = let le : w.slot.end ≤ n = i.forward w.slot.end n b g in let lt : s.start < w.slot.end = w.holds.0 in le-ltb n (suc s.start) (omega (arith, le, lt))

        found : OneOf (touches OnlyPut (has_stamp (ends_of table) w.slot.end) (is_row_of (shows (Range tab lo hi)) q)) vs → is_met (ends_of table) s.start t (is_row_of (shows (Range tab lo hi)) q) vs ≡ true
        found x =
            let a = and_parts (has_stamp (ends_of table) w.slot.end x.version.begin) (is_row_of (shows (Range tab lo hi)) q (x.version.row.key, content_of x.version.row)) x.passes in
            let b = stamp_is (stamp_in (ends_of table) x.version.begin) w.slot.end a.0 in
            met x.before x.version x.after w.slot.end x.is b w.below (not_low x.version (version x.before x.version x.after x.is) b (stamp_in (ends_of table) x.version.end) refl) a.1

    go : (is_some (pass (shows (Range tab lo hi)) q (fin.get s.base q)) ≡ true) ⊎ (is_put_below (shows (Range tab lo hi)) q t s.stamped ≡ true) → is_met (ends_of table) s.start t (is_row_of (shows (Range tab lo hi)) q) vs ≡ true
    go (inl g) = by_base (fin.get s.base q) refl g
    go (inr g) = by_put (putter (is_row_of (shows (Range tab lo hi)) q) t s.stamped (λ x. (s.start < x.end) × (history_at x.end s.stamped ≡ x.history)) (each_both (λ x. s.start < x.end) (λ x. history_at x.end s.stamped ≡ x.history) (λ x. (s.start < x.end) × (history_at x.end s.stamped ≡ x.history)) (λ x a b. (a, b)) s.stamped st.later (history_in s.stamped sd.rising)) g)

-- a row of the scan is of a key that t wrote, or that is met
pub scanned_met : (s : State) (table : Phases) (vs : List Version) (t : ℕ) (r : ActiveTx) (tab lo hi : ℕ) (q : RowKey) → IsSound s → IsStarted s → AreVersionsOf s table vs → active_of t s.active ≡ Some r → is_some (pass (shows (Range tab lo hi)) q (fin.get (after_history r.history (seen_by s.base s.stamped t)) q)) ≡ true → (is_some (net_write q r.history) ≡ true) ⊎ (is_met (ends_of table) s.start t (is_row_of (shows (Range tab lo hi)) q) vs ≡ true)
scanned_met s table vs t r tab lo hi q sd st h f e = go (net_write q r.history) refl
  where
    go : (w : Option Effect) → net_write q r.history ≡ w → (is_some w ≡ true) ⊎ (is_met (ends_of table) s.start t (is_row_of (shows (Range tab lo hi)) q) vs ≡ true)
    go (Some x) g = inl refl
    go None g = inr (counts_met s table vs t r tab lo hi q sd st h f
        (seen_counts (Range tab lo hi) q t s.base s.stamped (ap (λ o. is_some (pass (shows (Range tab lo hi)) q o)) (sym (get-after_history q r.history (seen_by s.base s.stamped t) ∙ ap (λ w. content_after_last w (fin.get (seen_by s.base s.stamped t) q)) g)) ∙ e)))

-- what a scan depends on: the Preparing last writers of the keys that are met and that t hasn't written
pub record IsMetOpen (s : State) (table : Phases) (vs : List Version) (tab lo hi : ℕ) (r : ActiveTx) (d : ℕ) : Type 0 where
  pub key : RowKey
  pub met : is_met (ends_of table) s.start r.id (is_row_of (shows (Range tab lo hi)) key) vs ≡ true
  pub unwritten : is_some (net_write key r.history) ≡ false
  pub writer : StampedTx
  pub last : last_writer key r.id s.stamped ≡ Some writer
  pub waits : writer.settled ≡ false
  pub ends : writer.end ≡ d

pub scan_depends_only : (s : State) (table : Phases) (vs : List Version) (tab lo hi : ℕ) (r : ActiveTx) (d : ℕ) → IsSound s → IsStarted s → AreVersionsOf s table vs → active_of r.id s.active ≡ Some r → has_end (dependencies s (Scan tab lo hi) r) d ≡ true → (has_end r.depends_on d ≡ true) ⊎ IsMetOpen s table vs tab lo hi r d
scan_depends_only s table vs tab lo hi r d sd st h f e = elim (depends_only s (Scan tab lo hi) r d e) [
  | inl a ↦ inl a
  | inr w ↦ inr (record { key = w.key; met = counts_met s table vs r.id r tab lo hi w.key sd st h f w.counts; unwritten = w.unwritten; writer = w.writer; last = w.last; waits = w.open'; ends = w.ends })
]

pub scan_depends_all : (s : State) (table : Phases) (vs : List Version) (tab lo hi : ℕ) (r : ActiveTx) (d : ℕ) → AreVersionsOf s table vs → IsMetOpen s table vs tab lo hi r d → has_end (dependencies s (Scan tab lo hi) r) d ≡ true
scan_depends_all s table vs tab lo hi r d h w =
    depends_all s (Scan tab lo hi) r d (record { key = w.key; counts = met_counts s table vs r.id tab lo hi w.key h w.met; unwritten = w.unwritten; writer = w.writer; last = w.last; open' = w.waits; ends = w.ends })
