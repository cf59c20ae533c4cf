-- A version that stands at the start, or that a settled one put, is the one that the next one claims.
use Rattle.std.proofs.Common.{◌≡◌, ◌≢◌, ℕ, ◌<◌, ◌≤◌, suc, Bool, true, false, cond, List, [], ◌∷◌, ◌++◌, Option, None, Some, refl, sym, ap, ◌∙◌, subst, arith, inl, inr}
use Rattle.std.specs.Prelude.{is_some, nat_lt, ◌==◌, ◌&&◌}
use Rattle.std.specs.List.{AllByRecursion}
use Rattle.std.specs.Option.{option_map}
use Rattle.std.specs.FinMap as fin
use Rattle.std.proofs.lemmas.Bool.{eq-eqb, eqb-true, ne_eqb, false≢true, true≢false, cases_lt, lt-ltb, le-ltb, and_from}
use Rattle.mvo_types.specs.declared.row.RowKey.{RowKey}
use Rattle.mvo_types.specs.RowData.{ContentData, content_of}
use Rattle.mvo_types.specs.Write.{Effect}
use Rattle.mvo_types.specs.Write.Effect.{Put, Delete as Gone}
use Rattle.mvo_model.specs.History.{net_write}
use Rattle.mvo_theory.specs.State.{State, StampedTx}
use Rattle.mvo_theory.specs.Dependencies.{is_writer, last_writer}
use Rattle.mvo_theory.specs.Sound.{IsSound, IsStarted, IsRising, IsApart}
use Rattle.mvo_theory.specs.Origins.{settled_ones}
use Rattle.mvo_theory.proofs.Apart.{IsIn, each_in}
use Rattle.mvo_theory.proofs.Between.{apart_writer}
use Rattle.mvo_theory.proofs.Each.{each_weaker, each_both, each_append, each_front, each_back}
use Rattle.mvo_theory.proofs.Footprints.{key_same, none_unless}
use Rattle.mvo_theory.proofs.LastWriter.{last_is, none_writes, after_last}
use Rattle.mvo_theory.proofs.OriginEnds.{clear_pairs}
use Rattle.mvo_theory.proofs.Stamped.{each_part, rising_filter}
use Rattle.mvo_chain.specs.declared.version.Version.{Version}
use Rattle.mvo_representation.specs.Words.{Phases, Ends, ends_of, stamp_in, is_stamp, has_stamp, NetEffect, with_effect, net_effect, as_net_effect, change_below, standing, is_up_to, is_standing, standing_effect_of, standing_effect}
use Rattle.mvo_representation.specs.Words.NetEffect.{Untouched, Removed, Puts, Clash}
use Rattle.mvo_representation.specs.Versions.{history_at, origin_at_start, IsForward, AreVersionsOf}
use Rattle.mvo_representation.proofs.Collect.{leaves_row, leaves_put, PutAt, put_at_stamp}
use Rattle.mvo_representation.proofs.Conflict.{end_has_effect}
use Rattle.mvo_representation.proofs.Kept.{standing_effect-at}
use Rattle.mvo_representation.proofs.Open.{stamp_of}
use Rattle.mvo_representation.proofs.Version.{IsLastChange, last_change_is_one, no_change}
use Rattle.mvo_representation.proofs.OrderPairs.{has_the_stamp, put_has_effect}
use Rattle.mvo_representation.proofs.OrderSteps.{stays_put, same_key}
use Rattle.mvo_representation.proofs.OrderClaims.{IsBase}

-- ---- who has an end that says something of the key
none_at : (k : RowKey) (e : ℕ) (xs : List StampedTx) → AllByRecursion (λ z. z.end ≡ e → is_some (net_write k z.history) ≡ true → ⊥) xs → net_write k (history_at e xs) ≡ None
none_at k e [] h = refl
none_at k e (x ∷ xs) h = go (x.end == e) refl (none_at k e xs h.1)
  where
    here : (b : Bool) → is_some (net_write k x.history) ≡ b → x.end ≡ e → net_write k x.history ≡ None
    here true f g = absurd (h.0 g f)
    here false f g = none_unless (net_write k x.history) f

    go : (b : Bool) → (x.end == e) ≡ b → net_write k (history_at e xs) ≡ None → net_write k (cond b x.history (history_at e xs)) ≡ None
    go true f r = here (is_some (net_write k x.history)) refl (eqb-true x.end e f)
    go false f r = r

-- some stamped one has the end, if it says something of the key
pub writer_at : (s : State) (table : Phases) (vs : List Version) (k : RowKey) (e : ℕ) → AreVersionsOf s table vs → s.start < e → (net_effect (has_stamp (ends_of table) e) k vs ≡ Untouched → ⊥) → ((z : StampedTx) → IsIn z s.stamped → z.end ≡ e → is_some (net_write k z.history) ≡ true → ⊥) → ⊥
writer_at s table vs k e h lt said f = said ((h.stamped e lt).writes k ∙ ap as_net_effect (none_at k e s.stamped (each_in (λ z. z.end ≡ e → is_some (net_write k z.history) ≡ true → ⊥) s.stamped f)))

history_at_each : (xs : List StampedTx) → IsRising xs → AllByRecursion (λ q. history_at q.end xs ≡ q.history) xs
history_at_each [] r = tt
history_at_each (x ∷ xs) r = (
  ap (λ (b : Bool). cond b x.history (history_at x.end xs)) (eq-eqb x.end x.end refl),
  each_both (λ y. x.end < y.end) (λ q. history_at q.end xs ≡ q.history) (λ q. history_at q.end (x ∷ xs) ≡ q.history) (λ q lt e. ap (λ (b : Bool). cond b x.history (history_at q.end xs)) (ne_eqb x.end q.end (λ i. omega (arith, i, lt))) ∙ e) xs r.0 (history_at_each xs r.1),
)

put_in : (w : Option Effect) → leaves_row (as_net_effect w) ≡ true → (h : ContentData) × (w ≡ Some (Put h))
put_in None e = absurd (false≢true e)
put_in (Some Gone) e = absurd (false≢true e)
put_in (Some (Put h)) e = (h, refl)

-- ---- what stands at the start
pub leaves_none : (a b : NetEffect) → leaves_row (with_effect a b) ≡ false → (leaves_row a ≡ false) × (leaves_row b ≡ false)
leaves_none Untouched b e = (refl, e)
leaves_none Removed Untouched e = (refl, refl)
leaves_none Removed Removed e = (refl, refl)
leaves_none Removed (Puts h) e = absurd (true≢false e)
leaves_none Removed Clash e = absurd (true≢false e)
leaves_none (Puts h) b e = absurd (true≢false (sym (leaves_put h b) ∙ e))
leaves_none Clash b e = absurd (true≢false e)

pub stands_here : (ends : Ends) (start : ℕ) (k : RowKey) (y : Version) → y.row.key ≡ k → is_standing ends start y ≡ true → standing_effect_of ends start k y ≡ Puts (content_of y.row)
stands_here ends start k y key on = ap (λ (b : Bool). cond (b && is_standing ends start y) (Puts (content_of y.row)) Untouched) (same_key k y key) ∙ ap (λ (b : Bool). cond b (Puts (content_of y.row)) Untouched) on

pub none_standing : (ends : Ends) (start : ℕ) (k : RowKey) (zs : List Version) → leaves_row (standing_effect ends start k zs) ≡ false → AllByRecursion (λ y. y.row.key ≡ k → is_standing ends start y ≡ true → ⊥) zs
none_standing ends start k [] e = tt
none_standing ends start k (y ∷ ys) e =
    let p = leaves_none (standing_effect_of ends start k y) (standing_effect ends start k ys) e in
    ((λ key on. true≢false (sym (ap leaves_row (stands_here ends start k y key on)) ∙ p.0)), none_standing ends start k ys p.1)

pub first_alone : (h g : ContentData) (rest : NetEffect) → with_effect (Puts h) rest ≡ Puts g → leaves_row rest ≡ false
first_alone h g Untouched e = refl
first_alone h g Removed e = refl
first_alone h g (Puts f) e = absurd (clash e)
  where
    clash : Clash ≡ Puts g → ⊥
    clash q = cc
first_alone h g Clash e = absurd (clash e)
  where
    clash : Clash ≡ Puts g → ⊥
    clash q = cc

never_nothing : (h : ContentData) (rest : NetEffect) → with_effect (Puts h) rest ≡ Untouched → ⊥
never_nothing h Untouched e = cc
never_nothing h Removed e = cc
never_nothing h (Puts g) e = cc
never_nothing h Clash e = cc

-- the change that leaves a row
pub stamp_standing : (c : Option (ℕ × NetEffect)) (o : ℕ) (h : ContentData) → standing c ≡ Some (o, Puts h) → (d : NetEffect) × (c ≡ Some (o, d)) × (leaves_row d ≡ true)
stamp_standing None o h e = absurd (no_change (o, Puts h) e)
stamp_standing (Some (c, Untouched)) o h e = absurd (no_change (o, Puts h) e)
stamp_standing (Some (c, Removed)) o h e = absurd (no_change (o, Puts h) e)
stamp_standing (Some (c, Puts g)) o h e = (Puts g, ap (λ (n : ℕ). Some (n, Puts g)) (ap stamp_of e), refl)
stamp_standing (Some (c, Clash)) o h e = (Clash, ap (λ (n : ℕ). Some (n, Clash)) (ap stamp_of e), refl)

pub record StandsAtStart (s : State) (table : Phases) (vs : List Version) (k : RowKey) (a : ℕ) : Type 0 where
  pub origin : origin_at_start s k ≡ a
  pub row : is_some (fin.get s.base k) ≡ true
  pub last : (c : ℕ) → a < c → c ≤ s.start → net_effect (has_stamp (ends_of table) c) k vs ≡ Untouched

-- the last change of a key leaves the version that it put standing
pub standing_put : (ends : Ends) (m : ℕ) (k : RowKey) (vs : List Version) → AllByRecursion (IsForward ends) vs → (o : ℕ) (d : NetEffect) → IsLastChange (λ e. net_effect (has_stamp ends e) k vs) (suc m) (o, d) → (u : PutAt ends o k vs) → is_standing ends m u.version ≡ true
standing_put ends m k vs all o d last u =
    ap (λ (w : Option ℕ). is_up_to m w && cond (is_up_to m (stamp_in ends u.version.end)) false true) u.put
    ∙ ap (λ (b : Bool). b && cond (is_up_to m (stamp_in ends u.version.end)) false true) (lt-ltb o (suc m) last.within)
    ∙ stays (stamp_in ends u.version.end) refl
  where
    forward : IsForward ends u.version
    forward = (each_back (IsForward ends) u.before (u.version ∷ u.after) (subst (AllByRecursion (IsForward ends)) u.is all)).0

    stays : (w : Option ℕ) → stamp_in ends u.version.end ≡ w → cond (is_up_to m w) false true ≡ true
    stays None e = refl
    stays (Some y) e = elim (cases_lt y (suc m)) [
      | inr le ↦ ap (λ (b : Bool). cond b false true) (le-ltb y (suc m) le)
      | inl lt ↦
          let le = forward o y u.put e in
          let ne : y ≢ o = λ same. false≢true (sym u.stays ∙ has_the_stamp o (stamp_in ends u.version.end) (e ∙ ap (λ (n : ℕ). Some n) same)) in
          absurd (end_has_effect (has_stamp ends y) u.before u.version u.after (has_the_stamp y (stamp_in ends u.version.end) e)
          (ap (λ ws. net_effect (has_stamp ends y) u.version.row.key ws) (sym u.is) ∙ ap (λ (j : RowKey). net_effect (has_stamp ends y) j vs) (key_same k u.version.row.key u.key) ∙ last.last y (omega (arith, le, ne)) lt))
    ]

pub stands_at_start : (s : State) (table : Phases) (xs : List Version) (v : Version) (ys : List Version) (k : RowKey) (a : ℕ) → AreVersionsOf s table (xs ++ v ∷ ys) → v.row.key ≡ k → stamp_in (ends_of table) v.begin ≡ Some a → a ≤ s.start → is_up_to s.start (stamp_in (ends_of table) v.end) ≡ false → StandsAtStart s table (xs ++ v ∷ ys) k a
stands_at_start s table xs v ys k a h key put below end = go (fin.get s.base k) refl
  where
    on : is_standing (ends_of table) s.start v ≡ true
    on =
        ap (λ (o : Option ℕ). is_up_to s.start o && cond (is_up_to s.start (stamp_in (ends_of table) v.end)) false true) put
        ∙ ap (λ (b : Bool). b && cond (is_up_to s.start (stamp_in (ends_of table) v.end)) false true) (lt-ltb a (suc s.start) (omega (arith, below)))
        ∙ ap (λ (b : Bool). cond b false true) end

    rows : with_effect (Puts (content_of v.row)) (standing_effect (ends_of table) s.start k (xs ++ ys)) ≡ as_net_effect (option_map (λ h. Put h) (fin.get s.base k))
    rows = ap (λ d. with_effect d (standing_effect (ends_of table) s.start k (xs ++ ys))) (sym (stands_here (ends_of table) s.start k v key on)) ∙ sym (standing_effect-at (ends_of table) s.start k xs v ys) ∙ h.stood k

    OnlyAt : Version → Type 0
    OnlyAt y = y.row.key ≡ k → is_standing (ends_of table) s.start y ≡ true → stamp_in (ends_of table) y.begin ≡ Some a

    only : leaves_row (standing_effect (ends_of table) s.start k (xs ++ ys)) ≡ false → AllByRecursion OnlyAt (xs ++ v ∷ ys)
    only e =
        let none = each_weaker (λ y. y.row.key ≡ k → is_standing (ends_of table) s.start y ≡ true → ⊥) OnlyAt (λ y f p q. absurd (f p q)) (xs ++ ys) (none_standing (ends_of table) s.start k (xs ++ ys) e) in
        each_append OnlyAt xs (v ∷ ys) (each_front OnlyAt xs ys none) ((λ _ _. put), each_back OnlyAt xs ys none)

    go : (m : Option ContentData) → fin.get s.base k ≡ m → StandsAtStart s table (xs ++ v ∷ ys) k a
    go None e = absurd (never_nothing (content_of v.row) (standing_effect (ends_of table) s.start k (xs ++ ys)) (rows ∙ ap (λ m. as_net_effect (option_map (λ h. Put h) m)) e))
    go (Some g) e =
        let w = stamp_standing (change_below (ends_of table) (suc s.start) k (xs ++ v ∷ ys)) (origin_at_start s k) g (h.opened k ∙ ap (option_map (λ h. (origin_at_start s k, Puts h))) e) in
        let last = last_change_is_one (λ c. net_effect (has_stamp (ends_of table) c) k (xs ++ v ∷ ys)) (suc s.start) (origin_at_start s k, w.0) w.1 in
        let u = put_at_stamp (ends_of table) (origin_at_start s k) k (xs ++ v ∷ ys) (ap leaves_row last.is ∙ w.2) in
        let all = only (first_alone (content_of v.row) g (standing_effect (ends_of table) s.start k (xs ++ ys)) (rows ∙ ap (λ m. as_net_effect (option_map (λ h. Put h) m)) e)) in
        let at = at_put u all last in
        let same : origin_at_start s k ≡ a = stamps (origin_at_start s k) a (sym u.put ∙ at) in
        record { origin = same; row = ap is_some e; last = λ c lt le. last.last c (omega (arith, lt, same)) (omega (arith, le)) }
      where
        stamps : (m n : ℕ) → ◌≡◌ {A = Option ℕ} (Some m) (Some n) → m ≡ n
        stamps m n q = cc

        at_put : {o : ℕ} {d : NetEffect} (u : PutAt (ends_of table) o k (xs ++ v ∷ ys)) → AllByRecursion OnlyAt (xs ++ v ∷ ys) → IsLastChange (λ e. net_effect (has_stamp (ends_of table) e) k (xs ++ v ∷ ys)) (suc s.start) (o, d) → stamp_in (ends_of table) u.version.begin ≡ Some a
        at_put {o = o} {d = d} u all last = (each_back OnlyAt u.before (u.version ∷ u.after) (subst (AllByRecursion OnlyAt) u.is all)).0 (key_same k u.version.row.key u.key) (standing_put (ends_of table) s.start k (xs ++ v ∷ ys) h.forward o d last u)

pub base_at_start : (s : State) (table : Phases) (vs : List Version) (k : RowKey) (a : ℕ) → IsStarted s → a ≤ s.start → StandsAtStart s table vs k a → IsBase s k a
base_at_start s table vs k a st below h = record {
  none = λ b lt e. (h.origin, h.row);
  put = λ b q e at. absurd (let l = later b q e in omega (arith, l, at, below));
  least = λ b q lt e. let l = later b q e in omega (arith, l, below);
}
  where
    later : (b : ℕ) (q : StampedTx) → last_writer k b (settled_ones s.stamped) ≡ Some q → s.start < q.end
    later b q e = last_is k b (settled_ones s.stamped) q e (λ x. s.start < x.end) (each_part (λ x. x.settled) (λ x. s.start < x.end) s.stamped st.later)

-- ---- what a settled one put
settled_part : (P : StampedTx → Type 0) (xs : List StampedTx) → AllByRecursion P (settled_ones xs) → AllByRecursion (λ x. x.settled ≡ true → P x) xs
settled_part P [] h = tt
settled_part P (x ∷ xs) h = go x.settled h (λ r. settled_part P xs r)
  where
    go : (b : Bool) → AllByRecursion P (cond b (x ∷ settled_ones xs) (settled_ones xs)) → (AllByRecursion P (settled_ones xs) → AllByRecursion (λ y. y.settled ≡ true → P y) xs) → (b ≡ true → P x) × AllByRecursion (λ y. y.settled ≡ true → P y) xs
    go true a r = ((λ _. a.0), r a.1)
    go false a r = ((λ e. absurd (false≢true e)), r a)

module _ (s : State) (table : Phases) (xs : List Version) (v : Version) (ys : List Version) (k : RowKey) (a : ℕ) (sound : IsSound s) (started : IsStarted s) (h : AreVersionsOf s table (xs ++ v ∷ ys)) (key : v.row.key ≡ k) (put : stamp_in (ends_of table) v.begin ≡ Some a) (stays : is_stamp a (stamp_in (ends_of table) v.end) ≡ false) (above : s.start < a) (z : StampedTx) (mz : IsIn z s.stamped) (settled : z.settled ≡ true) (writes : is_some (net_write k z.history) ≡ true) (later : a < z.end) where
  -- a settled one put it
  by_settled : ((p : StampedTx) → IsIn p s.stamped → p.settled ≡ true → p.end ≡ a → is_some (net_write k p.history) ≡ true → ⊥) → ⊥
  by_settled f = writer_at s table (xs ++ v ∷ ys) k a h above (put_has_effect (has_stamp (ends_of table) a) k xs v ys key (has_the_stamp a (stamp_in (ends_of table) v.begin) put)) (λ p m e w. f p m (is_settled p m e w p.settled refl) e w)
    where
      is_settled : (p : StampedTx) → IsIn p s.stamped → p.end ≡ a → is_some (net_write k p.history) ≡ true → (b : Bool) → p.settled ≡ b → p.settled ≡ true
      is_settled p m e w true o = o
      is_settled p m e w false o =
          let apart : IsApart p z.history = m (λ q. q.settled ≡ false → z.settled ≡ true → q.end < z.end → IsApart q z.history) (mz (λ y. AllByRecursion (λ q. q.settled ≡ false → y.settled ≡ true → q.end < y.end → IsApart q y.history) s.stamped) (clear_pairs s.stamped sound.rising sound.clear)) o settled (omega (arith, e, later)) in
          absurd (false≢true (sym (ap is_some (apart_writer k p z.history apart writes)) ∙ w))

  none_before : (b : ℕ) → a < b → last_writer k b (settled_ones s.stamped) ≡ None → ⊥
  none_before b lt e = by_settled (λ p m o at w. true≢false (sym (and_from (nat_lt p.end b) (is_some (net_write k p.history)) (lt-ltb p.end b (omega (arith, at, lt))) w) ∙ m (λ x. x.settled ≡ true → is_writer k b x ≡ false) (settled_part (λ x. is_writer k b x ≡ false) s.stamped (none_writes k b (settled_ones s.stamped) e)) o))

  put_row : (b : ℕ) (q : StampedTx) → last_writer k b (settled_ones s.stamped) ≡ Some q → q.end ≡ a → (r : ContentData) × (net_write k q.history ≡ Some (Put r))
  put_row b q e at = put_in (net_write k q.history) (
      ap (λ ts. leaves_row (as_net_effect (net_write k ts))) (sym (last_is k b (settled_ones s.stamped) q e (λ x. history_at x.end s.stamped ≡ x.history) (each_part (λ x. x.settled) (λ x. history_at x.end s.stamped ≡ x.history) s.stamped (history_at_each s.stamped sound.rising))))
      ∙ ap (λ (n : ℕ). leaves_row (as_net_effect (net_write k (history_at n s.stamped)))) at
      ∙ ap leaves_row (sym ((h.stamped a above).writes k)) ∙ ap leaves_row (stays_put (has_stamp (ends_of table) a) k xs v ys key (has_the_stamp a (stamp_in (ends_of table) v.begin) put) stays)
      ∙ leaves_put (content_of v.row) (net_effect (has_stamp (ends_of table) a) k (xs ++ ys))
      )

  pub base_of_settled : IsBase s k a
  base_of_settled = record {
    none = λ b lt e. absurd (none_before b lt e);
    put = put_row;
    least = λ b q lt e. elim (cases_lt q.end a) [
      | inr le ↦ le
      | inl under ↦ absurd (by_settled (λ p m o at w. false≢true (sym (ap is_some (m (λ x. x.settled ≡ true → q.end < x.end → x.end < b → net_write k x.history ≡ None)
          (settled_part (λ x. q.end < x.end → x.end < b → net_write k x.history ≡ None) s.stamped (after_last k b (settled_ones s.stamped) q (rising_filter (λ x. x.settled) s.stamped sound.rising) e)) o (omega (arith, at, under)) (omega (arith, at, lt)))) ∙ w)))
    ];
  }
