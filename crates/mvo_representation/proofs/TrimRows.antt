-- As the start of the tale moves on, just the rows at the new start stand up to it.
use Rattle.std.proofs.Common.{◌≡◌, ℕ, ◌<◌, ◌≤◌, suc, zero, Bool, true, false, cond, List, [], ◌∷◌, ◌++◌, Option, None, Some, refl, sym, ap, ◌∙◌, subst, arith, inl, inr, append_assoc}
use Rattle.std.specs.Prelude.{is_some, ◌&&◌}
use Rattle.std.specs.List.{AllByRecursion}
use Rattle.std.specs.Option.{option_map}
use Rattle.std.specs.Ordering.{eq_by_cmp}
use Rattle.std.specs.FinMap as fin
use Rattle.std.proofs.lemmas.Bool.{false≢true, true≢false, and_parts, ltb-true, ltb-false, le-ltb, cases_lt, cases_order}
use Rattle.mvo_types.specs.declared.row.RowKey.{RowKey}
use Rattle.mvo_types.specs.RowData.{ContentData, content_of}
use Rattle.mvo_types.specs.Keys.{Map, key_cmp}
use Rattle.mvo_types.specs.Write.Effect.{Put}
use Rattle.mvo_model.specs.History.{net_write}
use Rattle.mvo_theory.specs.State.{State, StampedTx}
use Rattle.mvo_theory.specs.Changes.{after_trim}
use Rattle.mvo_theory.specs.Claims.{has_claim}
use Rattle.mvo_theory.specs.Causes.{why_not_trim}
use Rattle.mvo_shared.specs.Standing.{IsStanding}
use Rattle.mvo_theory.proofs.Apart.{IsIn}
use Rattle.mvo_theory.proofs.Each.{each_both, each_back}
use Rattle.mvo_theory.proofs.Footprints.{key_same}
use Rattle.mvo_theory.proofs.Trim.{IsTrim}
use Rattle.mvo_theory.proofs.Trimmed.{may_trim}
use Rattle.mvo_word.specs.declared.held.Held.{Held}
use Rattle.mvo_chain.specs.declared.version.Version.{Version}
use Rattle.mvo_representation.specs.Words.{Phases, Ends, ends_of, stamp_in, is_stamp, has_stamp, NetEffect, with_effect, net_effect, as_net_effect, last_change, or_change_at, change_below, standing, is_up_to, is_standing, standing_effect}
use Rattle.mvo_representation.specs.Words.NetEffect.{Untouched, Removed, Puts, Clash}
use Rattle.mvo_representation.specs.Versions.{EndIsClaimed, HasItsClaims, AreVersionsOf, HoldsRows, origin_at_start}
use Rattle.mvo_representation.proofs.Collect.{each_drop, leaves_row, leaves_put, PutAt, put_at_stamp}
use Rattle.mvo_representation.proofs.Kept.{standing_effect-at}
use Rattle.mvo_representation.proofs.TrimChanges.{opened_at_trim}
use Rattle.mvo_representation.proofs.Version.{IsLastChange, last_change_is_one, no_change, effect_in}
use Rattle.mvo_representation.proofs.OrderPairs.{is_the_stamp, has_the_stamp}
use Rattle.mvo_representation.proofs.OrderSteps.{stays_put}
use Rattle.mvo_representation.proofs.OrderClaims.{IsBase, none_wrote}
use Rattle.mvo_representation.proofs.OrderBases.{writer_at, first_alone, stands_here, standing_put, StandsAtStart, stands_at_start, base_at_start, base_of_settled}

-- ---- lists
-- what holds of each at its place
each_split : (P : Version → Type 0) (vs : List Version) → ((xs : List Version) (v : Version) (ys : List Version) → xs ++ v ∷ ys ≡ vs → P v) → AllByRecursion P vs
each_split P vs f = go [] vs refl
  where
    go : (xs ys : List Version) → xs ++ ys ≡ vs → AllByRecursion P ys
    go xs [] e = tt
    go xs (y ∷ ys) e = (f xs y ys e, go (xs ++ y ∷ []) ys (append_assoc xs (y ∷ []) ys ∙ e))

-- ---- changes
never_untouched : (d : NetEffect) → leaves_row d ≡ true → d ≡ Untouched → ⊥
never_untouched d l e = false≢true (sym (ap leaves_row e) ∙ l)

-- a change that was found says something
change_is_said : (f : ℕ → NetEffect) (b : ℕ) (p : ℕ × NetEffect) → last_change f b ≡ Some p → p.1 ≡ Untouched → ⊥
change_is_said f zero p e = absurd (no_change p e)
change_is_said f (suc b) p e = go (f b) e (λ g. change_is_said f b p g)
  where
    removed : Removed ≡ Untouched → ⊥
    removed q = cc

    puts : (h : ContentData) → Puts h ≡ Untouched → ⊥
    puts h q = cc

    clash : Clash ≡ Untouched → ⊥
    clash q = cc

    go : (d : NetEffect) → or_change_at b d (last_change f b) ≡ Some p → (last_change f b ≡ Some p → p.1 ≡ Untouched → ⊥) → p.1 ≡ Untouched → ⊥
    go Untouched g again = again g
    go Removed g again = λ q. removed (ap effect_in g ∙ q)
    go (Puts h) g again = λ q. puts h (ap effect_in g ∙ q)
    go Clash g again = λ q. clash (ap effect_in g ∙ q)

-- where none is found, none says anything
none_said : (f : ℕ → NetEffect) (b : ℕ) → last_change f b ≡ None → (x : ℕ) → x < b → f x ≡ Untouched
none_said f zero e x lt = absurd (omega (arith, lt))
none_said f (suc b) e x lt = go (f b) refl e (λ g. none_said f b g x)
  where
    some : (p : ℕ × NetEffect) → ◌≡◌ {A = Option (ℕ × NetEffect)} (Some p) None → ⊥
    some p q = cc

    here : f b ≡ Untouched → (x < b → f x ≡ Untouched) → f x ≡ Untouched
    here q again = elim (cases_lt x b) [
      | inl l ↦ again l
      | inr le ↦ let same : x ≡ b = omega (arith, lt, le) in ap f same ∙ q
    ]

    go : (d : NetEffect) → f b ≡ d → or_change_at b d (last_change f b) ≡ None → (last_change f b ≡ None → x < b → f x ≡ Untouched) → f x ≡ Untouched
    go Untouched q g again = here q (again g)
    go Removed q g again = absurd (some (b, Removed) g)
    go (Puts h) q g again = absurd (some (b, Puts h) g)
    go Clash q g again = absurd (some (b, Clash) g)

none_put : (n : Held → Bool) (k : RowKey) (zs : List Version) → leaves_row (net_effect n k zs) ≡ false → AllByRecursion (λ y. y.row.key ≡ k → n y.begin ≡ true → n y.end ≡ false → ⊥) zs
none_put n k zs e = each_split (λ y. y.row.key ≡ k → n y.begin ≡ true → n y.end ≡ false → ⊥) zs (λ xs y ys q key b c.
    true≢false (sym (leaves_put (content_of y.row) (net_effect n k (xs ++ ys))) ∙ ap leaves_row (sym (stays_put n k xs y ys key b c) ∙ ap (net_effect n k) q) ∙ e))

-- what is put, where one content stands
content_is : (h g : ContentData) (rest : NetEffect) → with_effect (Puts h) rest ≡ Puts g → h ≡ g
content_is h g Untouched e = cc
content_is h g Removed e = cc
content_is h g (Puts f) e = cc
content_is h g Clash e = cc

-- the change that puts a row
change_puts : (c : Option (ℕ × NetEffect)) (o : ℕ) (h : ContentData) → standing c ≡ Some (o, Puts h) → c ≡ Some (o, Puts h)
change_puts None o h e = absurd (no_change (o, Puts h) e)
change_puts (Some (c, Untouched)) o h e = absurd (no_change (o, Puts h) e)
change_puts (Some (c, Removed)) o h e = absurd (no_change (o, Puts h) e)
change_puts (Some (c, Puts g)) o h e = e
change_puts (Some (c, Clash)) o h e = e

-- one that leaves no row
change_leaves_none : (c : ℕ) (d : NetEffect) → standing (Some (c, d)) ≡ None → leaves_row d ≡ false
change_leaves_none c Untouched e = refl
change_leaves_none c Removed e = refl
change_leaves_none c (Puts h) e = absurd (some (c, Puts h) e)
  where
    some : (p : ℕ × NetEffect) → ◌≡◌ {A = Option (ℕ × NetEffect)} (Some p) None → ⊥
    some p q = cc
change_leaves_none c Clash e = absurd (some (c, Clash) e)
  where
    some : (p : ℕ × NetEffect) → ◌≡◌ {A = Option (ℕ × NetEffect)} (Some p) None → ⊥
    some p q = cc

-- where none stands, nothing does
none_stands : (ends : Ends) (m : ℕ) (k : RowKey) (zs : List Version) → AllByRecursion (λ y. y.row.key ≡ k → is_standing ends m y ≡ true → ⊥) zs → standing_effect ends m k zs ≡ Untouched
none_stands ends m k [] h = refl
none_stands ends m k (y ∷ ys) h = go (eq_by_cmp key_cmp k y.row.key) refl (is_standing ends m y) refl (none_stands ends m k ys h.1)
  where
    go : (a : Bool) → eq_by_cmp key_cmp k y.row.key ≡ a → (b : Bool) → is_standing ends m y ≡ b → standing_effect ends m k ys ≡ Untouched → with_effect (cond (a && b) (Puts (content_of y.row)) Untouched) (standing_effect ends m k ys) ≡ Untouched
    go true e true f r = absurd (h.0 (key_same k y.row.key e) f)
    go true e false f r = r
    go false e b f r = r

-- ---- what stands up to the new start
module _ (opening : Map) (s : State) (table : Phases) (vs : List Version) (m : ℕ) (h : IsStanding opening s) (versions : AreVersionsOf s table vs) (trim : IsTrim m s) (k : RowKey) where
  -- a version that stands has no End up to it
  begun_by : (y : Version) → is_standing (ends_of table) m y ≡ true → (a : ℕ) → stamp_in (ends_of table) y.begin ≡ Some a → a ≤ m
  begun_by y on a e =
      let p = (and_parts (is_up_to m (stamp_in (ends_of table) y.begin)) (cond (is_up_to m (stamp_in (ends_of table) y.end)) false true) on).0 in
      let l : a < suc m = ltb-true a (suc m) (ap (is_up_to m) (sym e) ∙ p) in omega (arith, l)

  begun_at : (y : Version) → is_standing (ends_of table) m y ≡ true → (a : ℕ) × (stamp_in (ends_of table) y.begin ≡ Some a)
  begun_at y on = go (stamp_in (ends_of table) y.begin) refl (and_parts (is_up_to m (stamp_in (ends_of table) y.begin)) (cond (is_up_to m (stamp_in (ends_of table) y.end)) false true) on).0
    where
      go : (o : Option ℕ) → stamp_in (ends_of table) y.begin ≡ o → is_up_to m o ≡ true → (a : ℕ) × (stamp_in (ends_of table) y.begin ≡ Some a)
      go None e q = absurd (false≢true q)
      go (Some a) e q = (a, e)

  ends_later : (y : Version) → is_standing (ends_of table) m y ≡ true → (x : ℕ) → stamp_in (ends_of table) y.end ≡ Some x → m < x
  ends_later y on x e = go (is_up_to m (stamp_in (ends_of table) y.end)) refl (and_parts (is_up_to m (stamp_in (ends_of table) y.begin)) (cond (is_up_to m (stamp_in (ends_of table) y.end)) false true) on).1
    where
      go : (b : Bool) → is_up_to m (stamp_in (ends_of table) y.end) ≡ b → cond b false true ≡ true → m < x
      go true q r = absurd (false≢true r)
      go false q r = let l : suc m ≤ x = ltb-false x (suc m) (ap (is_up_to m) (sym e) ∙ q) in omega (arith, l)

  -- its End isn't of the time of its Begin
  stays_on : (y : Version) → is_standing (ends_of table) m y ≡ true → (a : ℕ) → a ≤ m → is_stamp a (stamp_in (ends_of table) y.end) ≡ false
  stays_on y on a le = go (is_stamp a (stamp_in (ends_of table) y.end)) refl
    where
      go : (b : Bool) → is_stamp a (stamp_in (ends_of table) y.end) ≡ b → is_stamp a (stamp_in (ends_of table) y.end) ≡ false
      go true q = absurd (let l = ends_later y on a (is_the_stamp a (stamp_in (ends_of table) y.end) q) in omega (arith, l, le))
      go false q = q

  not_at_start : (y : Version) → is_standing (ends_of table) m y ≡ true → is_up_to s.start (stamp_in (ends_of table) y.end) ≡ false
  not_at_start y on = go (stamp_in (ends_of table) y.end) refl
    where
      go : (o : Option ℕ) → stamp_in (ends_of table) y.end ≡ o → is_up_to s.start o ≡ false
      go None e = refl
      go (Some x) e = le-ltb x (suc s.start) (let l = ends_later y on x e in let a = trim.above in omega (arith, l, a))

  -- it leaves a row at its Begin
  abbrev LeavesAtPut : Version → Type 0
  LeavesAtPut y = y.row.key ≡ k → is_standing (ends_of table) m y ≡ true → (a : ℕ) → stamp_in (ends_of table) y.begin ≡ Some a → leaves_row (net_effect (has_stamp (ends_of table) a) k vs) ≡ true

  leaves_at_put : AllByRecursion LeavesAtPut vs
  leaves_at_put = each_split LeavesAtPut vs (λ xs y ys e key on a put.
      ap (λ zs. leaves_row (net_effect (has_stamp (ends_of table) a) k zs)) (sym e) ∙ ap leaves_row (stays_put (has_stamp (ends_of table) a) k xs y ys key (has_the_stamp a (stamp_in (ends_of table) y.begin) put) (stays_on y on a (begun_by y on a put)))
      ∙ leaves_put (content_of y.row) (net_effect (has_stamp (ends_of table) a) k (xs ++ ys)))

  -- and none has changed the key since
  abbrev NoneAfter : Version → Type 0
  NoneAfter y = y.row.key ≡ k → is_standing (ends_of table) m y ≡ true → (a : ℕ) → stamp_in (ends_of table) y.begin ≡ Some a → (c : ℕ) → a < c → c ≤ m → (net_effect (has_stamp (ends_of table) c) k vs ≡ Untouched → ⊥) → ⊥

  none_after_one : (xs : List Version) (y : Version) (ys : List Version) → xs ++ y ∷ ys ≡ vs → y.row.key ≡ k → is_standing (ends_of table) m y ≡ true → (a : ℕ) → stamp_in (ends_of table) y.begin ≡ Some a → (c : ℕ) → a < c → c ≤ m → (net_effect (has_stamp (ends_of table) c) k vs ≡ Untouched → ⊥) → ⊥
  none_after_one xs y ys e key on a put c lt le said = elim (cases_lt s.start c) [
    | inr low ↦ said ((at_start (omega (arith, lt, low))).last c lt low)
    | inl high ↦ writer_at s table vs k c versions high said (λ z mz ez wz.
        let o = is_settled z mz ez z.settled refl in
        none_wrote opening s k a h (base z mz o wz (omega (arith, lt, ez))) (suc m) unclaimed z mz o wz (omega (arith, lt, ez)) (omega (arith, le, ez)))
  ]
    where
      here : AreVersionsOf s table (xs ++ y ∷ ys)
      here = subst (AreVersionsOf s table) (sym e) versions

      at_start : a ≤ s.start → StandsAtStart s table vs k a
      at_start l = subst (λ us. StandsAtStart s table us k a) e (stands_at_start s table xs y ys k a here key put l (not_at_start y on))

      base : (z : StampedTx) → IsIn z s.stamped → z.settled ≡ true → is_some (net_write k z.history) ≡ true → a < z.end → IsBase s k a
      base z mz o wz l = elim (cases_lt s.start a) [
        | inl high ↦ base_of_settled s table xs y ys k a h.sound h.started here key put (stays_on y on a (begun_by y on a put)) high z mz o wz l
        | inr low ↦ base_at_start s table vs k a h.started low (at_start low)
      ]

      is_settled : (z : StampedTx) → IsIn z s.stamped → z.end ≡ c → (b : Bool) → z.settled ≡ b → z.settled ≡ true
      is_settled z mz ez true o = o
      is_settled z mz ez false o = absurd (let l = mz (λ x. x.settled ≡ false → m < x.end) trim.settled o in omega (arith, l, ez, le))

      unclaimed : (z : StampedTx) → IsIn z s.stamped → z.end < suc m → has_claim z.claims k a ≡ true → ⊥
      unclaimed z mz l claim =
          let its : HasItsClaims s (ends_of table) y = (each_back (HasItsClaims s (ends_of table)) xs (y ∷ ys) here.claims).0 in
          let same = mz (λ u. EndIsClaimed y.row.key a (has_stamp (ends_of table) u.end) u.claims y.end) (its a put (stays_on y on a (begun_by y on a put))).stamped in
          let at = is_the_stamp z.end (stamp_in (ends_of table) y.end) (same ∙ ap (λ (j : RowKey). has_claim z.claims j a) key ∙ claim) in
          let late = ends_later y on z.end at in omega (arith, late, l)

  none_after : AllByRecursion NoneAfter vs
  none_after = each_split NoneAfter vs none_after_one

  held : (o : Option ContentData) → fin.get (after_trim s m).base k ≡ o → standing_effect (ends_of table) m k vs ≡ as_net_effect (option_map (λ h. Put h) o)
  held None e = none_stands (ends_of table) m k vs (each_both NoneAfter LeavesAtPut (λ y. y.row.key ≡ k → is_standing (ends_of table) m y ≡ true → ⊥)
      (λ y f g key on. let a = begun_at y on in never y (f key on) a.0 (begun_by y on a.0 a.1) a.1 (g key on a.0 a.1) (change_below (ends_of table) (suc m) k vs) refl) vs none_after leaves_at_put)
    where
      gone : standing (change_below (ends_of table) (suc m) k vs) ≡ None
      gone = opened_at_trim s m h.sound h.started trim table vs versions k ∙ ap (option_map (λ h. (origin_at_start (after_trim s m) k, Puts h))) e

      never : (y : Version) → ((a : ℕ) → stamp_in (ends_of table) y.begin ≡ Some a → (c : ℕ) → a < c → c ≤ m → (net_effect (has_stamp (ends_of table) c) k vs ≡ Untouched → ⊥) → ⊥) → (a : ℕ) → a ≤ m → stamp_in (ends_of table) y.begin ≡ Some a → leaves_row (net_effect (has_stamp (ends_of table) a) k vs) ≡ true → (c : Option (ℕ × NetEffect)) → change_below (ends_of table) (suc m) k vs ≡ c → ⊥
      never y f a le put leaves None q = never_untouched (net_effect (has_stamp (ends_of table) a) k vs) leaves (none_said (λ x. net_effect (has_stamp (ends_of table) x) k vs) (suc m) q a (omega (arith, le)))
      never y f a le put leaves (Some p) q =
          let last = last_change_is_one (λ x. net_effect (has_stamp (ends_of table) x) k vs) (suc m) p q in
          elim (cases_order a p.0) [
            | inl same ↦ true≢false (sym leaves ∙ ap (λ (n : ℕ). leaves_row (net_effect (has_stamp (ends_of table) n) k vs)) same ∙ ap leaves_row last.is ∙ change_leaves_none p.0 p.1 (ap standing (sym q) ∙ gone))
            | inr r ↦ elim r [
              | inl lt ↦ let w = last.within in f a put p.0 lt (omega (arith, w)) (λ u. change_is_said (λ x. net_effect (has_stamp (ends_of table) x) k vs) (suc m) p q (sym last.is ∙ u))
              | inr gt ↦ never_untouched (net_effect (has_stamp (ends_of table) a) k vs) leaves (last.last a gt (omega (arith, le)))
            ]
          ]
  held (Some g) e =
      ap (standing_effect (ends_of table) m k) u.is ∙ standing_effect-at (ends_of table) m k u.before u.version u.after
      ∙ ap (λ d. with_effect d (standing_effect (ends_of table) m k (u.before ++ u.after))) (stands_here (ends_of table) m k u.version key (standing_put (ends_of table) m k vs versions.forward o (Puts g) last u))
      ∙ ap (with_effect (Puts (content_of u.version.row))) (none_stands (ends_of table) m k (u.before ++ u.after) others)
      ∙ ap Puts (content_is (content_of u.version.row) g (net_effect (has_stamp (ends_of table) o) k (u.before ++ u.after)) (sym here ∙ last.is))
    where
      o : ℕ
      o = origin_at_start (after_trim s m) k

      found : change_below (ends_of table) (suc m) k vs ≡ Some (origin_at_start (after_trim s m) k, Puts g)
      found = change_puts (change_below (ends_of table) (suc m) k vs) (origin_at_start (after_trim s m) k) g (opened_at_trim s m h.sound h.started trim table vs versions k ∙ ap (option_map (λ h. (origin_at_start (after_trim s m) k, Puts h))) e)

      last : IsLastChange (λ x. net_effect (has_stamp (ends_of table) x) k vs) (suc m) (origin_at_start (after_trim s m) k, Puts g)
      last = last_change_is_one (λ x. net_effect (has_stamp (ends_of table) x) k vs) (suc m) (origin_at_start (after_trim s m) k, Puts g) found

      u : PutAt (ends_of table) (origin_at_start (after_trim s m) k) k vs
      u = put_at_stamp (ends_of table) (origin_at_start (after_trim s m) k) k vs (ap leaves_row last.is)

      key : u.version.row.key ≡ k
      key = key_same k u.version.row.key u.key

      here : net_effect (has_stamp (ends_of table) (origin_at_start (after_trim s m) k)) k vs ≡ with_effect (Puts (content_of u.version.row)) (net_effect (has_stamp (ends_of table) (origin_at_start (after_trim s m) k)) k (u.before ++ u.after))
      here = ap (net_effect (has_stamp (ends_of table) (origin_at_start (after_trim s m) k)) k) u.is ∙ stays_put (has_stamp (ends_of table) (origin_at_start (after_trim s m) k)) k u.before u.version u.after key (has_the_stamp (origin_at_start (after_trim s m) k) (stamp_in (ends_of table) u.version.begin) u.put) u.stays

      alone : AllByRecursion (λ y. y.row.key ≡ k → has_stamp (ends_of table) (origin_at_start (after_trim s m) k) y.begin ≡ true → has_stamp (ends_of table) (origin_at_start (after_trim s m) k) y.end ≡ false → ⊥) (u.before ++ u.after)
      alone = none_put (has_stamp (ends_of table) (origin_at_start (after_trim s m) k)) k (u.before ++ u.after) (first_alone (content_of u.version.row) g (net_effect (has_stamp (ends_of table) (origin_at_start (after_trim s m) k)) k (u.before ++ u.after)) (sym here ∙ last.is))

      puts_row : Puts g ≡ Untouched → ⊥
      puts_row q = cc

      others : AllByRecursion (λ y. y.row.key ≡ k → is_standing (ends_of table) m y ≡ true → ⊥) (u.before ++ u.after)
      others = each_both NoneAfter (λ y. LeavesAtPut y × (y.row.key ≡ k → has_stamp (ends_of table) (origin_at_start (after_trim s m) k) y.begin ≡ true → has_stamp (ends_of table) (origin_at_start (after_trim s m) k) y.end ≡ false → ⊥)) (λ y. y.row.key ≡ k → is_standing (ends_of table) m y ≡ true → ⊥)
          (λ y f q kk on. let a = begun_at y on in elim (cases_order a.0 (origin_at_start (after_trim s m) k)) [
            | inl same ↦ q.1 kk (has_the_stamp (origin_at_start (after_trim s m) k) (stamp_in (ends_of table) y.begin) (a.1 ∙ ap (λ (n : ℕ). Some n) same)) (ap (λ (n : ℕ). is_stamp n (stamp_in (ends_of table) y.end)) (sym same) ∙ stays_on y on a.0 (begun_by y on a.0 a.1))
            | inr r ↦ elim r [
              | inl lt ↦ let w = last.within in f kk on a.0 a.1 (origin_at_start (after_trim s m) k) lt (omega (arith, w)) (λ z. puts_row (sym last.is ∙ z))
              | inr gt ↦ never_untouched (net_effect (has_stamp (ends_of table) a.0) k vs) (q.0 kk on a.0 a.1) (last.last a.0 gt (let le = begun_by y on a.0 a.1 in omega (arith, le)))
            ]
          ]) (u.before ++ u.after) (each_drop NoneAfter u.before u.version u.after (subst (AllByRecursion NoneAfter) u.is none_after))
          (each_both LeavesAtPut (λ y. y.row.key ≡ k → has_stamp (ends_of table) (origin_at_start (after_trim s m) k) y.begin ≡ true → has_stamp (ends_of table) (origin_at_start (after_trim s m) k) y.end ≡ false → ⊥) _ (λ y a b. (a, b)) (u.before ++ u.after) (each_drop LeavesAtPut u.before u.version u.after (subst (AllByRecursion LeavesAtPut) u.is leaves_at_put)) alone)

  pub rows_held : standing_effect (ends_of table) m k vs ≡ as_net_effect (option_map (λ h. Put h) (fin.get (after_trim s m).base k))
  rows_held = held (fin.get (after_trim s m).base k) refl

pub trim_holds_rows : (opening : Map) (s : State) (table : Phases) (vs : List Version) (m : ℕ) → IsStanding opening s → AreVersionsOf s table vs → why_not_trim s m ≡ None → HoldsRows (ends_of table) m (after_trim s m).base vs
trim_holds_rows opening s table vs m h versions w k = rows_held opening s table vs m h versions (may_trim s m w h.sound) k
