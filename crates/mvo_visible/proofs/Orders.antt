-- What keeps the versions of a key in order, as transactions go on.
use Rattle.std.proofs.Common.{◌≡◌, ◌⊎◌, ℕ, ◌+◌, ◌<◌, ◌||◌, true, false, List, [], ◌∷◌, Some, refl, sym, ap, ◌∙◌, subst, inl, inr, arith}
use Rattle.std.proofs.lemmas.Bool.{cases_Bool, cases_lt, eqb-true, eqb-false, or_parts, false≢true, false_from_ne_true}
use Rattle.mvo_types.specs.declared.ids.Stamp.{Stamp}
use Rattle.mvo_types.specs.declared.ids.TxId.{TxId}
use Rattle.mvo_word.specs.declared.held.Held.{Held}
use Rattle.mvo_word.specs.declared.held.Held.TheVariants.{At, By, Infinity}
use Rattle.mvo_txn.specs.declared.state.TxState.TheVariants.{Active, Preparing, Committed}
use Rattle.mvo_visible.specs.declared.seen.Seen.TheVariants.{Nothing, Settled, Speculative}
use Rattle.mvo_visible.specs.Words.{States, seen_in, seen_of, names}
use Rattle.mvo_visible.specs.Versions.{NumberedVersion, versions_at}
use Rattle.mvo_visible.specs.Shown.{HasFallingStamps, HasOwnInFront, IsSettledBehind}
use Rattle.mvo_visible.specs.Fronts.{DifferAt, StandsInFront, IsLatestBehind, WroteNothingBehind}
use Rattle.mvo_visible.specs.Laws.{PrepareKeepsOrder, CommitKeepsOrder, AbortKeepsOrder, FewerKeepFront, CommitKeepsFront}
use Rattle.mvo_visible.proofs.Behind.{IsUnder, AreUnder, IsOthersBelow, behind_map, behind_zip, all_map, settled_behind, all_under, from_falling, to_falling, from_front, to_front}

-- ---- what is seen in a word, where one transaction stands otherwise
other_same : (t : ℕ) (states states' : States) → DifferAt t states states' → (w : Held) → names t w ≡ false → seen_of states' w ≡ seen_of states w
other_same t states states' d (At s) n = refl
other_same t states states' d (By u) n = ap (seen_in u) (d u.0 (eqb-false u.0 t n))
other_same t states states' d Infinity n = refl

own_is : (t : ℕ) (states : States) (w : Held) → names t w ≡ true → (u : TxId) × (seen_of states w ≡ seen_in u (states t))
own_is t states (At s) n = absurd (false≢true n)
own_is t states (By u) n = (u, ap (λ k. seen_in u (states k)) (eqb-true u.0 t n))
own_is t states Infinity n = absurd (false≢true n)

pub fewer_keep_front : FewerKeepFront
fewer_keep_front states states' b r [] puts h = tt
fewer_keep_front states states' b r (e ∷ es) puts h =
    (λ s is l. h.0 s (puts e.1.begin s l is) l, fewer_keep_front states states' b r es puts h.1)

module _ (t : ℕ) (states states' : States) (d : DifferAt t states states') (silent : (u : TxId) → seen_in u (states' t) ≡ Nothing) where
  silent_is : (w : Held) → (seen_of states' w ≡ seen_of states w) ⊎ (seen_of states' w ≡ Nothing)
  silent_is w = elim (cases_Bool (names t w)) [
    | inl n ↦ let own = own_is t states' w n in inr (own.1 ∙ silent own.0)
    | inr n ↦ inl (other_same t states states' d w n)
  ]

  still_settled : (w : Held) (s : Stamp) → seen_of states' w ≡ Settled s → seen_of states w ≡ Settled s
  still_settled w s e = elim (silent_is w) [
    | inl same ↦ sym same ∙ e
    | inr none ↦ absurd (let f : Nothing ≡ Settled s = sym none ∙ e in cc)
  ]

  still_under : (w : Held) (s : ℕ) → IsUnder s (seen_of states w) → IsUnder s (seen_of states' w)
  still_under w s u = elim (silent_is w) [
    | inl same ↦ subst (IsUnder s) (sym same) u
    | inr none ↦ subst (IsUnder s) (sym none) tt
  ]

  -- one whose words show nothing takes nothing out of order
  pub silent_keeps : (vs : List NumberedVersion) → HasFallingStamps states vs → HasFallingStamps states' vs
  silent_keeps vs h =
      to_falling states' vs (behind_map states states' (AreUnder states) (AreUnder states') vs
      (λ e s is. still_settled e.1.begin s is) (λ s e u. (still_under e.1.begin s u.0, still_under e.1.end s u.1))
      (from_falling states vs h))

  pub silent_front : (b r : ℕ) (vs : List NumberedVersion) → HasOwnInFront states b r vs → HasOwnInFront states' b r vs
  silent_front b r vs h = fewer_keep_front states states' b r vs (λ w s _ e. still_settled w s e) h

pub abort_keeps_order : AbortKeepsOrder
abort_keeps_order states states' t slots lists d is = record {
  falling = λ h key. silent_keeps t states states' d (λ u. ap (seen_in u) is) (versions_at slots lists key) (h key);
  own = λ b r h key. silent_front t states states' d (λ u. ap (seen_in u) is) b r (versions_at slots lists key) (h key);
}

-- ---- an Active transaction draws its end
module _ (t : ℕ) (states states' : States) (end' : Stamp) (d : DifferAt t states states') (was : states t ≡ Some Active) (is : states' t ≡ Some (Preparing end')) where
  -- its words show the end, and those of others what they did
  own_shows : (w : Held) → names t w ≡ true → (u : TxId) × (seen_of states' w ≡ Speculative end' u)
  own_shows w n = let own = own_is t states' w n in (own.0, own.1 ∙ ap (seen_in own.0) is)

  settled_before : (w : Held) (s : Stamp) → seen_of states' w ≡ Settled s → seen_of states w ≡ Settled s
  settled_before w s e = elim (cases_Bool (names t w)) [
    | inl n ↦ absurd (let own = own_shows w n in let f : Speculative end' own.0 ≡ Settled s = sym own.1 ∙ e in cc)
    | inr n ↦ sym (other_same t states states' d w n) ∙ e
  ]

  settled_after : (w : Held) (s : Stamp) → seen_of states w ≡ Settled s → seen_of states' w ≡ Settled s
  settled_after w s e = elim (cases_Bool (names t w)) [
    | inl n ↦ absurd (let own = own_is t states w n in let f : Nothing ≡ Settled s = sym (own.1 ∙ ap (seen_in own.0) was) ∙ e in cc)
    | inr n ↦ other_same t states states' d w n ∙ e
  ]

  under_others : (w : Held) (s : ℕ) → (s < end'.0 + 1 → names t w ≡ false) → IsUnder s (seen_of states w) → IsUnder s (seen_of states' w)
  under_others w s f u = elim (cases_Bool (names t w)) [
    | inl n ↦
        let own = own_shows w n in
        subst (IsUnder s) (sym own.1) (elim (cases_lt s (end'.0 + 1)) [
          | inl l ↦ absurd (false≢true (sym (f l) ∙ n))
          | inr g ↦ omega (arith, g)
        ])
    | inr n ↦ subst (IsUnder s) (sym (other_same t states states' d w n)) u
  ]

  not_named : (w : Held) (s : ℕ) → IsUnder s (seen_of states' w) → s < end'.0 + 1 → names t w ≡ false
  not_named w s u l = false_from_ne_true _ (λ n.
      let own = own_shows w n in
      let above : end'.0 < s = subst (IsUnder s) own.1 u in
      omega (arith, above, l))

  kept : (vs : List NumberedVersion) → HasFallingStamps states vs × StandsInFront states end'.0 t vs → HasFallingStamps states' vs
  kept vs h =
      to_falling states' vs (behind_map states states' (λ s e. AreUnder states s e × IsOthersBelow (end'.0 + 1) t s e) (AreUnder states') vs
      (λ e s q. settled_before e.1.begin s q)
      (λ s e u. (
        under_others e.1.begin s (λ l. (or_parts (names t e.1.begin) (names t e.1.end) (u.1 l)).0) u.0.0,
        under_others e.1.end s (λ l. (or_parts (names t e.1.begin) (names t e.1.end) (u.1 l)).1) u.0.1,
      ))
      (behind_zip states (AreUnder states) (IsOthersBelow (end'.0 + 1) t) vs (from_falling states vs h.0) (from_front states (end'.0 + 1) t vs h.1)))

  needed : (vs : List NumberedVersion) → HasFallingStamps states' vs → StandsInFront states end'.0 t vs
  needed vs h =
      to_front states (end'.0 + 1) t vs (behind_map states' states (AreUnder states') (IsOthersBelow (end'.0 + 1) t) vs
      (λ e s q. settled_after e.1.begin s q)
      (λ s e u l. ap (λ b. b || names t e.1.end) (not_named e.1.begin s u.0 l) ∙ not_named e.1.end s u.1 l)
      (from_falling states' vs h))

pub prepare_keeps_order : PrepareKeepsOrder
prepare_keeps_order states states' t end' vs d was is = (
  λ h. (
    silent_keeps t states' states (λ u o. sym (d u o)) (λ u. ap (seen_in u) was) vs h,
    needed t states states' end' d was is vs h,
  ),
  kept t states states' end' d was is vs,
)

-- ---- a Preparing transaction commits
module _ (t : ℕ) (states states' : States) (end' : Stamp) (d : DifferAt t states states') (was : states t ≡ Some (Preparing end')) (is : states' t ≡ Some (Committed end')) where
  now_settled : (w : Held) → names t w ≡ true → seen_of states' w ≡ Settled end'
  now_settled w n = let own = own_is t states' w n in own.1 ∙ ap (seen_in own.0) is

  under_committed : (w : Held) (s : ℕ) → IsUnder s (seen_of states w) → IsUnder s (seen_of states' w)
  under_committed w s u = elim (cases_Bool (names t w)) [
    | inl n ↦
        let own = own_is t states w n in
        let below : end'.0 < s = subst (IsUnder s) (own.1 ∙ ap (seen_in own.0) was) u in
        subst (IsUnder s) (sym (now_settled w n)) (omega (arith, below))
    | inr n ↦ subst (IsUnder s) (sym (other_same t states states' d w n)) u
  ]

  behind_committed : (s : ℕ) (es : List NumberedVersion) → IsSettledBehind states s es → IsSettledBehind states' s es
  behind_committed s es h =
      let f = settled_behind states' s es (all_map (AreUnder states s) (AreUnder states' s) es
      (λ e u. (under_committed e.1.begin s u.0, under_committed e.1.end s u.1)) (all_under states s es (h.below, h.settled))) in
      record { below = f.0; settled = f.1 }

  latest : (vs : List NumberedVersion) → HasFallingStamps states' vs → IsLatestBehind states' end'.0 t vs
  latest [] h = tt
  latest (e ∷ es) h = (λ n. h.0 end' (now_settled e.1.begin n), latest es h.1)

  committed : (vs : List NumberedVersion) → HasFallingStamps states vs → IsLatestBehind states' end'.0 t vs → HasFallingStamps states' vs
  committed [] h l = tt
  committed (e ∷ es) h l = (
    λ s q. elim (cases_Bool (names t e.1.begin)) [
      | inl n ↦ subst (λ k. IsSettledBehind states' k es) (stamp_is (sym (now_settled e.1.begin n) ∙ q)) (l.0 n)
      | inr n ↦ behind_committed s.0 es (h.0 s (sym (other_same t states states' d e.1.begin n) ∙ q))
    ],
    committed es h.1 l.1,
  )
    where
      stamp_is : {r s : Stamp} → Settled r ≡ Settled s → r.0 ≡ s.0
      stamp_is e = cc

pub commit_keeps_order : CommitKeepsOrder
commit_keeps_order states states' t end' vs d was is h =
    (latest t states states' end' d was is vs, committed t states states' end' d was is vs h)

module _ (t : ℕ) (states states' : States) (end' : Stamp) (d : DifferAt t states states') (was : states t ≡ Some (Preparing end')) (is : states' t ≡ Some (Committed end')) (b r : ℕ) (below : end'.0 < b) where
  wrote_nothing : (vs : List NumberedVersion) → HasOwnInFront states' b r vs → WroteNothingBehind t r vs
  wrote_nothing [] h = tt
  wrote_nothing (e ∷ es) h = (λ n. h.0 end' (now_settled t states states' end' d was is e.1.begin n) below, wrote_nothing es h.1)

  front_committed : (vs : List NumberedVersion) → HasOwnInFront states b r vs → WroteNothingBehind t r vs → HasOwnInFront states' b r vs
  front_committed [] h w = tt
  front_committed (e ∷ es) h w = (
    λ s q l. elim (cases_Bool (names t e.1.begin)) [
      | inl n ↦ w.0 n
      | inr n ↦ h.0 s (sym (other_same t states states' d e.1.begin n) ∙ q) l
    ],
    front_committed es h.1 w.1,
  )

pub commit_keeps_front : CommitKeepsFront
commit_keeps_front states states' t end' b r vs d was is below h =
    (wrote_nothing t states states' end' d was is b r below vs, front_committed t states states' end' d was is b r below vs h)
