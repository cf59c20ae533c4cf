-- Versions that stand in order have falling stamps, and what an Active transaction wrote in front.
use Rattle.std.proofs.Common.{◌≡◌, ◌≢◌, ℕ, ◌<◌, ◌≤◌, suc, Bool, true, false, List, [], ◌∷◌, ◌++◌, Option, None, Some, refl, sym, ap, ◌∙◌, subst, arith, ◌⊎◌, inl, inr}
use Rattle.std.specs.Prelude.{⊤, is_some}
use Rattle.std.specs.List.{AllByRecursion}
use Rattle.std.specs.Option.{option_or}
use Rattle.std.proofs.lemmas.Bool.{ne_eqb, le-ltb, cases_lt, cases_eq}
use Rattle.mvo_types.specs.declared.row.RowKey.{RowKey}
use Rattle.mvo_types.specs.declared.ids.Stamp.{Stamp}
use Rattle.mvo_types.specs.Keys.{Map}
use Rattle.mvo_model.specs.History.{net_write}
use Rattle.mvo_model.specs.Trace.{Step, Phase}
use Rattle.mvo_model.specs.Trace.Phase.{Absent, Active, Preparing, Committed, Aborted}
use Rattle.mvo_theory.specs.State.{State, StampedTx}
use Rattle.mvo_theory.specs.Claims.{has_claim}
use Rattle.mvo_shared.specs.Standing.{IsStanding}
use Rattle.mvo_theory.proofs.Apart.{IsIn}
use Rattle.mvo_theory.proofs.Each.{each_weaker, each_back}
use Rattle.mvo_theory.proofs.Trim.{IsTrim}
use Rattle.mvo_theory.proofs.Trimmed.{may_trim}
use Rattle.mvo_word.specs.declared.held.Held.{Held}
use Rattle.mvo_word.specs.declared.held.Held.TheVariants.{At, By, Infinity}
use Rattle.mvo_chain.specs.declared.version.Version.{Version}
use Rattle.mvo_hash.specs.Lists.{numbers_of}
use Rattle.mvo_txn.specs.declared.state.TxState.{TxState}
use Rattle.mvo_txn.specs.declared.state.TxState.TheVariants as state
use Rattle.mvo_visible.specs.declared.seen.Seen.TheVariants.{Nothing, Settled, Speculative}
use Rattle.mvo_visible.specs.Words.{States, seen_in, seen_of}
use Rattle.mvo_visible.specs.Versions.{NumberedVersion}
use Rattle.mvo_visible.proofs.Behind.{Behind, IsUnder, to_falling, to_front}
use Rattle.mvo_visible.proofs.Moves.{versions}
use Rattle.mvo_representation.specs.Words.{Phases, end_in, ends_of, stamp_in, is_stamp, is_up_to, has_stamp, net_effect}
use Rattle.mvo_representation.specs.Words.NetEffect.{Untouched}
use Rattle.mvo_representation.specs.Versions.{EndIsClaimed, IsKnown, IsKnownStamp, HasItsClaims, AreVersionsOf}
use Rattle.mvo_representation.specs.Indexes.{all_versions}
use Rattle.mvo_representation.specs.Table.{phase_as, phases_of}
use Rattle.mvo_representation.specs.Order.{EachPair, IsUpTo, is_written_by, MayPrecede}
use Rattle.mvo_representation.specs.OrderLaws.{OrderFalls, OrderHasOwnInFront, TrimKeepsOrder}
use Rattle.mvo_representation.proofs.Conflict.{end_has_effect}
use Rattle.mvo_representation.proofs.Facts.{preparing_is, found_holds}
use Rattle.mvo_representation.proofs.OrderLists.{On, OnOne, pairs_weaker, pairs_from}
use Rattle.mvo_representation.proofs.OrderPairs.{is_the_stamp, has_the_stamp, put_has_effect, none_stamp, some_stamp}
use Rattle.mvo_representation.proofs.OrderSteps.{order_to, order_from, always, more_at, live, at_key}
use Rattle.mvo_representation.proofs.OrderAborts.{known_apart}
use Rattle.mvo_representation.proofs.OrderClaims.{IsBase, none_later}
use Rattle.mvo_representation.proofs.OrderBases.{writer_at, StandsAtStart, stands_at_start, base_at_start, base_of_settled}

-- ---- a removal of a version that stands behind a settled put
module _ (opening : Map) (s : State) (table : Phases) (vs : List Version) (h : IsStanding opening s) (versions' : AreVersionsOf s table vs) (k : RowKey) (w v : Version) (wb : List Version) (wa : List Version) (w_in : wb ++ w ∷ wa ≡ vs) (vb : List Version) (va : List Version) (v_in : vb ++ v ∷ va ≡ vs) (kw : w.row.key ≡ k) (kv : v.row.key ≡ k)
    (r : ℕ) (put : stamp_in (ends_of table) w.begin ≡ Some r) (settled : IsKnownStamp s r) (order : MayPrecede s.start table w v) where
  -- w's put and v's words say something of the key
  put_said : net_effect (has_stamp (ends_of table) r) k vs ≡ Untouched → ⊥
  put_said q = put_has_effect (has_stamp (ends_of table) r) k wb w wa kw (has_the_stamp r (stamp_in (ends_of table) w.begin) put) (ap (net_effect (has_stamp (ends_of table) r) k) w_in ∙ q)

  removal_said : (x : ℕ) → stamp_in (ends_of table) v.end ≡ Some x → net_effect (has_stamp (ends_of table) x) k vs ≡ Untouched → ⊥
  removal_said x e q = end_has_effect (has_stamp (ends_of table) x) vb v va (has_the_stamp x (stamp_in (ends_of table) v.end) e)
      (ap (λ (j : RowKey). net_effect (has_stamp (ends_of table) x) j (vb ++ v ∷ va)) kv ∙ ap (net_effect (has_stamp (ends_of table) x) k) v_in ∙ q)

  settled_one : (z : StampedTx) → IsIn z s.stamped → z.end ≡ r → z.settled ≡ true
  settled_one z m e = go z.settled refl
    where
      go : (b : Bool) → z.settled ≡ b → z.settled ≡ true
      go true o = o
      go false o = absurd (m (λ y. y.settled ≡ false → y.end ≢ r) settled.settled o e)

  -- v began at a, and was removed at x
  module _ (a x : ℕ) (begun : stamp_in (ends_of table) v.begin ≡ Some a) (removed : stamp_in (ends_of table) v.end ≡ Some x) (first : a < r) (above : r < x) (late : s.start < x) where
    stays : is_stamp a (stamp_in (ends_of table) v.end) ≡ false
    stays = ap (is_stamp a) removed ∙ ne_eqb x a (λ e. omega (arith, e, first, above))

    claimed : (y : StampedTx) → IsIn y s.stamped → y.end ≡ x → has_claim y.claims k a ≡ true
    claimed y m e =
        let its : HasItsClaims s (ends_of table) v = (each_back (HasItsClaims s (ends_of table)) vb (v ∷ va) (subst (AllByRecursion (HasItsClaims s (ends_of table))) (sym v_in) versions'.claims)).0 in
        let same = m (λ u. EndIsClaimed v.row.key a (has_stamp (ends_of table) u.end) u.claims v.end) (its a begun stays).stamped in
        sym (ap (λ (j : RowKey). has_claim y.claims j a) kv) ∙ sym same ∙ has_the_stamp y.end (stamp_in (ends_of table) v.end) (removed ∙ ap (λ (n : ℕ). Some n) (sym e))

    at_start : a ≤ s.start → StandsAtStart s table vs k a
    at_start le = subst (λ us. StandsAtStart s table us k a) v_in (stands_at_start s table vb v va k a (subst (AreVersionsOf s table) (sym v_in) versions') kv begun le (ap (is_up_to s.start) removed ∙ le-ltb x (suc s.start) (omega (arith, late))))

    base : (z : StampedTx) → IsIn z s.stamped → z.settled ≡ true → is_some (net_write k z.history) ≡ true → a < z.end → IsBase s k a
    base z m o wrote lt = elim (cases_lt s.start a) [
      | inl high ↦ base_of_settled s table vb v va k a h.sound h.started (subst (AreVersionsOf s table) (sym v_in) versions') kv begun stays high z m o wrote lt
      | inr low ↦ base_at_start s table vs k a h.started low (at_start low)
    ]

    never : ⊥
    never = elim (cases_lt s.start r) [
      | inr low ↦ put_said ((at_start (omega (arith, low, first))).last r first low)
      | inl high ↦ writer_at s table vs k r versions' high put_said (λ z mz ez wz.
          let o = settled_one z mz ez in
          let lt : a < z.end = omega (arith, first, ez) in
          writer_at s table vs k x versions' late (removal_said x removed) (λ y my ey wy.
          none_later opening s k a h (base z mz o wz lt) y my (claimed y my ey) z mz o wz lt (omega (arith, above, ez, ey))))
    ]

  pub removal_falls : (x : ℕ) → stamp_in (ends_of table) v.end ≡ Some x → x ≤ r
  removal_falls x removed = go (stamp_in (ends_of table) v.begin) refl
    where
      late : (a : ℕ) → stamp_in (ends_of table) v.begin ≡ Some a → a < r → r < x → x ≤ r
      late a begun first above = elim (cases_lt s.start x) [
        | inl lt ↦ absurd (never a x begun removed first above lt)
        | inr le ↦ order.removals r x put removed le
      ]

      same_owner : (a : ℕ) → stamp_in (ends_of table) v.begin ≡ Some a → a ≡ r → x ≡ r
      same_owner a begun e = some_stamp x r (sym removed ∙ is_the_stamp r (stamp_in (ends_of table) v.end) (order.stamped r (has_the_stamp r (stamp_in (ends_of table) w.begin) put) (has_the_stamp r (stamp_in (ends_of table) v.begin) (begun ∙ ap (λ (n : ℕ). Some n) e))))

      go : (b : Option ℕ) → stamp_in (ends_of table) v.begin ≡ b → x ≤ r
      go None e = subst (λ (o : Option ℕ). IsUpTo r o) (ap (λ o. option_or o (stamp_in (ends_of table) v.end)) e ∙ removed) (order.puts r put)
      go (Some a) e =
          let le : a ≤ r = subst (λ (o : Option ℕ). IsUpTo r (option_or o (stamp_in (ends_of table) v.end))) e (order.puts r put) in
          elim (cases_lt r x) [
            | inr l ↦ l
            | inl above ↦ elim (cases_eq a r) [
              | inl same ↦ let q = same_owner a e same in omega (arith, q)
              | inr other ↦ late a e (omega (arith, le, other)) above
            ]
          ]

  pub put_falls : (a : ℕ) → stamp_in (ends_of table) v.begin ≡ Some a → a ≤ r
  put_falls a e = subst (λ (o : Option ℕ). IsUpTo r (option_or o (stamp_in (ends_of table) v.end))) e (order.puts r put)

-- ---- what is seen in words
seen_stamp : (states : States) (w : Held) (r : Stamp) → seen_of states w ≡ Settled r → stamp_in (ends_of (phases_of states)) w ≡ Some r.0
seen_stamp states (At s) r e = ap (λ (x : Stamp). Some x.0) (settled_is s r e)
  where
    settled_is : (s r : Stamp) → Settled s ≡ Settled r → s ≡ r
    settled_is s r q = cc
seen_stamp states Infinity r e = absurd (nothing r e)
  where
    nothing : (r : Stamp) → Nothing ≡ Settled r → ⊥
    nothing r q = cc
seen_stamp states (By t) r e = go (states t.0) e
  where
    nothing : Nothing ≡ Settled r → ⊥
    nothing q = cc

    open' : (n : Stamp) → Speculative n t ≡ Settled r → ⊥
    open' n q = cc

    settled_is : (n : Stamp) → Settled n ≡ Settled r → n ≡ r
    settled_is n q = cc

    go : (o : Option TxState) → seen_in t o ≡ Settled r → end_in (phase_as o) ≡ Some r.0
    go None q = absurd (nothing q)
    go (Some state.Active) q = absurd (nothing q)
    go (Some state.Aborted) q = absurd (nothing q)
    go (Some (state.Preparing n)) q = absurd (open' n q)
    go (Some (state.Committed n)) q = ap (λ (x : Stamp). Some x.0) (settled_is n q)

seen_settled : (s : State) (states : States) (vs : List Version) (w : Held) (r : Stamp) → AreVersionsOf s (phases_of states) vs → IsKnown s (phases_of states) w → seen_of states w ≡ Settled r → IsKnownStamp s r.0
seen_settled s states vs (At n) r h k e = subst (IsKnownStamp s) (same n r e) k
  where
    same : (n r : Stamp) → Settled n ≡ Settled r → n.0 ≡ r.0
    same n r q = cc
seen_settled s states vs Infinity r h k e = absurd (nothing r e)
  where
    nothing : (r : Stamp) → Nothing ≡ Settled r → ⊥
    nothing r q = cc
seen_settled s states vs (By t) r h k e = go (states t.0) refl e
  where
    nothing : Nothing ≡ Settled r → ⊥
    nothing q = cc

    open' : (n : Stamp) → Speculative n t ≡ Settled r → ⊥
    open' n q = cc

    same : (n : Stamp) → Settled n ≡ Settled r → n.0 ≡ r.0
    same n q = cc

    go : (o : Option TxState) → states t.0 ≡ o → seen_in t o ≡ Settled r → IsKnownStamp s r.0
    go None f q = absurd (nothing q)
    go (Some state.Active) f q = absurd (nothing q)
    go (Some state.Aborted) f q = absurd (nothing q)
    go (Some (state.Preparing n)) f q = absurd (open' n q)
    go (Some (state.Committed n)) f q = subst (IsKnownStamp s) (same n q) (h.committed t.0 n.0 (ap phase_as f))

-- with a stamp up to r, and that of no Preparing one if it is r
under : (s : State) (states : States) (vs : List Version) (r : ℕ) (w : Held) → AreVersionsOf s (phases_of states) vs → IsKnownStamp s r → ((x : ℕ) → stamp_in (ends_of (phases_of states)) w ≡ Some x → x ≤ r) → IsUnder r (seen_of states w)
under s states vs r (At n) h k f = f n.0 refl
under s states vs r Infinity h k f = tt
under s states vs r (By t) h k f = go (states t.0) refl (λ x e. f x e)
  where
    go : (o : Option TxState) → states t.0 ≡ o → ((x : ℕ) → end_in (phase_as (states t.0)) ≡ Some x → x ≤ r) → IsUnder r (seen_in t o)
    go None q g = tt
    go (Some state.Active) q g = tt
    go (Some state.Aborted) q g = tt
    go (Some (state.Committed n)) q g = g n.0 (ap (λ o. end_in (phase_as o)) q)
    go (Some (state.Preparing n)) q g =
        let le = g n.0 (ap (λ o. end_in (phase_as o)) q) in
        let ne : n.0 ≢ r = λ same. known_apart s t.0 r (preparing_is s t.0 r (sym (h.phases t.0) ∙ ap phase_as q ∙ ap Preparing same)) k in
        omega (arith, le, ne)

-- ---- what follows
abbrev IsSettledBehindPut : States → Version → Version → Type 0
IsSettledBehindPut states w v = (r : Stamp) → seen_of states w.begin ≡ Settled r → IsUnder r.0 (seen_of states v.begin) × IsUnder r.0 (seen_of states v.end)

behind_by : (states : States) (Q : ℕ → Version → Type 0) (vs : List NumberedVersion) → EachPair (λ (w v : NumberedVersion). (r : Stamp) → seen_of states w.1.begin ≡ Settled r → Q r.0 v.1) vs → Behind states (λ r e. Q r e.1) vs
behind_by states Q [] h = tt
behind_by states Q (e ∷ es) h = ((λ r is. each_weaker (λ v. (r : Stamp) → seen_of states e.1.begin ≡ Settled r → Q r.0 v.1) (λ v. Q r.0 v.1) (λ v f. f r is) es h.0), behind_by states Q es h.1)

pub order_falls : OrderFalls
order_falls opening s states slots lists places h order key =
    to_falling states (versions slots (numbers_of lists key)) (behind_by states (λ r v. IsUnder r (seen_of states v.begin) × IsUnder r (seen_of states v.end)) (versions slots (numbers_of lists key))
    (pairs_from slots (IsSettledBehindPut states) (numbers_of lists key) (pairs_weaker (OnOne slots (λ x. x.row.key ≡ key)) (On slots (MayPrecede s.start (phases_of states))) (On slots (IsSettledBehindPut states)) pair (numbers_of lists key) (at_key slots lists key h.numbers) (order_to s.start (phases_of states) slots (numbers_of lists key) (order key)))))
  where
    pair : (a b : ℕ) → OnOne slots (λ x. x.row.key ≡ key) a → OnOne slots (λ x. x.row.key ≡ key) b → On slots (MayPrecede s.start (phases_of states)) a b → On slots (IsSettledBehindPut states) a b
    pair a b ka kb f w v p q r is =
        let x = more_at slots a w p in
        let y = more_at slots b v q in
        let known = live slots (λ z. IsKnown s (phases_of states) z.begin × IsKnown s (phases_of states) z.end) h.versions.known a w p in
        let put = seen_stamp states w.begin r is in
        let settled = seen_settled s states (all_versions slots) w.begin r h.versions known.0 is in (
          under s states (all_versions slots) r.0 v.begin h.versions settled (put_falls opening s (phases_of states) (all_versions slots) h.kept h.versions key w v x.before x.after x.with' y.before y.after y.with' (ka w p) (kb v q) r.0 put settled (f w v p q)),
          under s states (all_versions slots) r.0 v.end h.versions settled (removal_falls opening s (phases_of states) (all_versions slots) h.kept h.versions key w v x.before x.after x.with' y.before y.after y.with' (ka w p) (kb v q) r.0 put settled (f w v p q)),
        )

pub order_has_own_in_front : OrderHasOwnInFront
order_has_own_in_front start states slots lists t act order key =
    to_front states t t (versions slots (numbers_of lists key)) (behind_by states (λ r v. r < t → is_written_by t v ≡ false) (versions slots (numbers_of lists key))
    (pairs_from slots (λ w v. (r : Stamp) → seen_of states w.begin ≡ Settled r → r.0 < t → is_written_by t v ≡ false) (numbers_of lists key)
    (pairs_weaker (λ n. ⊤) (On slots (MayPrecede start (phases_of states))) (On slots (λ w v. (r : Stamp) → seen_of states w.begin ≡ Settled r → r.0 < t → is_written_by t v ≡ false))
    (λ a b _ _ f w v p q r is lt. (f w v p q).writes t (ap phase_as act) r.0 (seen_stamp states w.begin r is) lt) (numbers_of lists key) (always (numbers_of lists key)) (order_to start (phases_of states) slots (numbers_of lists key) (order key)))))

-- ---- a trim
-- a stamp is that of a settled one, or above the mark
settled_or_above : (s : State) (table : Phases) (vs : List Version) (m : ℕ) (w : Held) → AreVersionsOf s table vs → IsTrim m s → IsKnown s table w → (r : ℕ) → stamp_in (ends_of table) w ≡ Some r → IsKnownStamp s r ⊎ (m < r)
settled_or_above s table vs m (At n) h t k r e = inl (subst (IsKnownStamp s) (some_stamp n.0 r e) k)
settled_or_above s table vs m Infinity h t k r e = absurd (none_stamp r e)
settled_or_above s table vs m (By u) h t k r e = go (table u.0) refl e
  where
    go : (p : Phase) → table u.0 ≡ p → end_in p ≡ Some r → IsKnownStamp s r ⊎ (m < r)
    go Absent f q = absurd (none_stamp r q)
    go Active f q = absurd (none_stamp r q)
    go Aborted f q = absurd (none_stamp r q)
    go (Committed n) f q = inl (subst (IsKnownStamp s) (some_stamp n r q) (h.committed u.0 n f))
    go (Preparing n) f q =
        let x = preparing_is s u.0 n (sym (h.phases u.0) ∙ f) in
        let p = found_holds (λ y. y.settled ≡ false → m < y.end) u.0 s.stamped x.0 x.1 t.settled in
        let lt = p.0 p.2 in let at = x.2 in let same = some_stamp n r q in
        inr (omega (arith, lt, at, same))

pub trim_keeps_order : TrimKeepsOrder
trim_keeps_order opening s states slots lists places m h w order key =
    order_from m (phases_of states) slots (numbers_of lists key) (pairs_weaker (OnOne slots (λ x. x.row.key ≡ key)) (On slots (MayPrecede s.start (phases_of states))) (On slots (MayPrecede m (phases_of states))) pair (numbers_of lists key) (at_key slots lists key h.numbers)
    (order_to s.start (phases_of states) slots (numbers_of lists key) (order key)))
  where
    trim : IsTrim m s
    trim = may_trim s m w h.kept.sound

    pair : (a b : ℕ) → OnOne slots (λ x. x.row.key ≡ key) a → OnOne slots (λ x. x.row.key ≡ key) b → On slots (MayPrecede s.start (phases_of states)) a b → On slots (MayPrecede m (phases_of states)) a b
    pair a b ka kb f w' v p q =
        let x = more_at slots a w' p in
        let y = more_at slots b v q in
        let known = live slots (λ z. IsKnown s (phases_of states) z.begin × IsKnown s (phases_of states) z.end) h.versions.known a w' p in
        let old = f w' v p q in
        record {
          puts = old.puts;
          removals = λ r e put removed le. elim (settled_or_above s (phases_of states) (all_versions slots) m w'.begin h.versions trim known.0 r put) [
            | inl settled ↦ removal_falls opening s (phases_of states) (all_versions slots) h.kept h.versions key w' v x.before x.after x.with' y.before y.after y.with' (ka w' p) (kb v q) r put settled old e removed
            | inr above ↦ omega (arith, le, above)
          ];
          stamped = old.stamped;
          active = old.active;
          writes = old.writes;
        }
