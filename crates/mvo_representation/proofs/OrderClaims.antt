-- Nobody ends a version behind one that settled and wrote its key later.
use Rattle.std.proofs.Common.{◌≡◌, ◌≢◌, ℕ, ◌+◌, ◌<◌, ◌≤◌, suc, zero, Bool, true, false, cond, List, [], ◌∷◌, ◌++◌, Option, None, Some, refl, sym, ap, ◌∙◌, arith, inl, inr}
use Rattle.std.specs.Prelude.{is_some}
use Rattle.std.specs.List.{AllByRecursion}
use Rattle.std.specs.FinMap as fin
use Rattle.std.proofs.lemmas.Bool.{false≢true, cases_order}
use Rattle.mvo_types.specs.declared.row.RowKey.{RowKey}
use Rattle.mvo_types.specs.RowData.{ContentData}
use Rattle.mvo_types.specs.Keys.{Map}
use Rattle.mvo_types.specs.Write.{Effect, content_after_last}
use Rattle.mvo_types.specs.Write.Effect.{Put}
use Rattle.mvo_model.specs.History.{net_write}
use Rattle.mvo_model.proofs.Serials.{get-after_history}
use Rattle.mvo_theory.specs.State.{State, StampedTx, timeline, seen_by, history_below}
use Rattle.mvo_theory.specs.Dependencies.{or_later, last_writer}
use Rattle.mvo_theory.specs.Claims.{end_or, has_claim}
use Rattle.mvo_theory.specs.Sound.{IsStarted, IsPast, how_many}
use Rattle.mvo_theory.specs.Origins.{settled_ones, settled_origin, settled_rows}
use Rattle.mvo_theory.specs.StandingClaims.{ClaimsIfStanding}
use Rattle.mvo_shared.specs.Standing.{IsStanding}
use Rattle.mvo_theory.proofs.Apart.{IsIn}
use Rattle.mvo_theory.proofs.Depends.{below_last}
use Rattle.mvo_theory.proofs.Each.{each_weaker, each_both, each_back}
use Rattle.mvo_theory.proofs.LastWriter.{last_is, counted}
use Rattle.mvo_theory.proofs.Stamped.{each_part}
use Rattle.mvo_shared.proofs.StandingClaims.{claims_standing}
use Rattle.mvo_theory.proofs.Trim.{seen_front}
use Rattle.mvo_representation.specs.Versions.{origin_at_start}
use Rattle.mvo_representation.proofs.LastChanges.{write_by, last_writes, history_below_last}
use Rattle.mvo_representation.proofs.Shown.{last_writer-append, last_behind}

-- ---- the last settled writer
settled_split : (xs ys : List StampedTx) → settled_ones (xs ++ ys) ≡ settled_ones xs ++ settled_ones ys
settled_split [] ys = refl
settled_split (x ∷ xs) ys = go x.settled (settled_split xs ys)
  where
    go : (b : Bool) → settled_ones (xs ++ ys) ≡ settled_ones xs ++ settled_ones ys → cond b (x ∷ settled_ones (xs ++ ys)) (settled_ones (xs ++ ys)) ≡ cond b (x ∷ settled_ones xs) (settled_ones xs) ++ settled_ones ys
    go true e = ap (λ zs. x ∷ zs) e
    go false e = e

settled_all : (xs : List StampedTx) → AllByRecursion (λ x. x.settled ≡ true) xs → settled_ones xs ≡ xs
settled_all [] h = refl
settled_all (x ∷ xs) h = ap (λ (b : Bool). cond b (x ∷ settled_ones xs) (settled_ones xs)) h.0 ∙ ap (λ zs. x ∷ zs) (settled_all xs h.1)

past_settled : (s : State) → IsStarted s → AllByRecursion (λ x. x.settled ≡ true) s.past
past_settled s st = each_weaker (IsPast s.start) (λ x. x.settled ≡ true) (λ x p. p.settled) s.past st.past

pub last_settled : (s : State) (k : RowKey) (b : ℕ) → IsStarted s → s.start < b → last_writer k b (settled_ones (timeline s)) ≡ or_later (last_writer k (suc s.start) s.past) (last_writer k b (settled_ones s.stamped))
last_settled s k b st lt =
    ap (last_writer k b) (settled_split s.past s.stamped ∙ ap (λ xs. xs ++ settled_ones s.stamped) (settled_all s.past (past_settled s st)))
    ∙ last_writer-append k b s.past (settled_ones s.stamped)
    ∙ ap (λ w. or_later w (last_writer k b (settled_ones s.stamped))) (last_behind k b (suc s.start) s.past (each_weaker (IsPast s.start) (λ x. (x.end < b) × (x.end < suc s.start)) (λ x p. let le = p.until in (omega (arith, le, lt), omega (arith, le))) s.past st.past))

row_by_last : (opening : Map) (k : RowKey) (b : ℕ) (xs : List StampedTx) → fin.get (seen_by opening xs b) k ≡ content_after_last (write_by k (last_writer k b xs)) (fin.get opening k)
row_by_last opening k b xs = get-after_history k (history_below b xs) opening ∙ ap (λ w. content_after_last w (fin.get opening k)) (history_below_last k b xs)

-- ---- a stamp with which a row was put that stands for the next one to settle
pub record IsBase (s : State) (k : RowKey) (a : ℕ) : Type 0 where
  pub none : (b : ℕ) → a < b → last_writer k b (settled_ones s.stamped) ≡ None → (origin_at_start s k ≡ a) × (is_some (fin.get s.base k) ≡ true)
  pub put : (b : ℕ) (q : StampedTx) → last_writer k b (settled_ones s.stamped) ≡ Some q → q.end ≡ a → (h : ContentData) × (net_write k q.history ≡ Some (Put h))
  pub least : (b : ℕ) (q : StampedTx) → a < b → last_writer k b (settled_ones s.stamped) ≡ Some q → a ≤ q.end

abbrev StandsSo : Map → State → RowKey → ℕ → ℕ → Type 0
StandsSo opening s k a b = (settled_origin s b k ≡ a) × (is_some (fin.get (settled_rows opening s b) k) ≡ true)

stands_at_start : (opening : Map) (s : State) (k : RowKey) (a b : ℕ) → IsStanding opening s → s.start < b → last_writer k b (settled_ones s.stamped) ≡ None → (origin_at_start s k ≡ a) × (is_some (fin.get s.base k) ≡ true) → StandsSo opening s k a b
stands_at_start opening s k a b h lt e p = (
  ap (end_or s.marks.opening) last ∙ p.0,
  ap is_some (row_by_last opening k b (settled_ones (timeline s)) ∙ ap (λ w. content_after_last (write_by k w) (fin.get opening k)) last ∙ sym (row_by_last opening k (suc s.start) s.past)
      ∙ ap (λ m. fin.get m k) (seen_front (suc s.start) s.past opening (past_settled s h.started) (each_weaker (IsPast s.start) (λ x. x.end < suc s.start) (λ x q. let le = q.until in omega (arith, le)) s.past h.started.past) ∙ sym h.base)) ∙ p.1,
)
  where
    last : last_writer k b (settled_ones (timeline s)) ≡ last_writer k (suc s.start) s.past
    last = last_settled s k b h.started lt ∙ ap (or_later (last_writer k (suc s.start) s.past)) e

stands_by : (opening : Map) (s : State) (k : RowKey) (a b : ℕ) (q : StampedTx) → IsStanding opening s → s.start < b → last_writer k b (settled_ones s.stamped) ≡ Some q → q.end ≡ a → (h : ContentData) × (net_write k q.history ≡ Some (Put h)) → StandsSo opening s k a b
stands_by opening s k a b q h lt e at w = (
  ap (end_or s.marks.opening) last ∙ at,
  ap is_some (row_by_last opening k b (settled_ones (timeline s)) ∙ ap (λ v. content_after_last (write_by k v) (fin.get opening k)) last ∙ ap (λ (v : Option Effect). content_after_last v (fin.get opening k)) w.1),
)
  where
    last : last_writer k b (settled_ones (timeline s)) ≡ Some q
    last = last_settled s k b h.started lt ∙ ap (or_later (last_writer k (suc s.start) s.past)) e

-- ---- two that claim one version are one
two_pass : (p : StampedTx → Bool) (xs : List StampedTx) → how_many p xs ≤ 1 → AllByRecursion (λ y. AllByRecursion (λ z. p z ≡ true → p y ≡ true → z.end ≢ y.end → ⊥) xs) xs
two_pass p [] le = tt
two_pass p (x ∷ xs) le = (
  (λ a b d. d refl, each_weaker (λ z. p z ≡ true → 1 ≤ how_many p xs) (λ z. p z ≡ true → p x ≡ true → z.end ≢ x.end → ⊥) (λ z f a b d. both (p x) (f a) b le) xs (counted p xs)),
  each_both (λ y. p y ≡ true → 1 ≤ how_many p xs) (λ y. AllByRecursion (λ z. p z ≡ true → p y ≡ true → z.end ≢ y.end → ⊥) xs) (λ y. (p x ≡ true → p y ≡ true → x.end ≢ y.end → ⊥) × AllByRecursion (λ z. p z ≡ true → p y ≡ true → z.end ≢ y.end → ⊥) xs)
      (λ y f r. ((λ a b d. both (p x) (f b) a le), r)) xs (counted p xs) (two_pass p xs (omega (arith, le))),
)
  where
    both : (c : Bool) → 1 ≤ how_many p xs → c ≡ true → cond c 1 0 + how_many p xs ≤ 1 → ⊥
    both true one e l = omega (arith, one, l)
    both false one e l = false≢true e

-- ---- the next one that settled claims the version
-- where nobody with an end below the limit claims it, nobody that settled there wrote the key later
module _ (opening : Map) (s : State) (k : RowKey) (a : ℕ) (h : IsStanding opening s) (base : IsBase s k a) (limit : ℕ) (unclaimed : (z : StampedTx) → IsIn z s.stamped → z.end < limit → has_claim z.claims k a ≡ true → ⊥) where
  not_next : (z : StampedTx) → IsIn z s.stamped → z.settled ≡ true → is_some (net_write k z.history) ≡ true → z.end < limit → StandsSo opening s k a z.end → ⊥
  not_next z m o w lt st =
      let claim : has_claim z.claims k (settled_origin s z.end k) ≡ true = m (ClaimsIfStanding opening s k) (each_back (ClaimsIfStanding opening s k) s.past s.stamped (claims_standing opening s k h)) o w st.1 in
      unclaimed z m lt (sym (ap (λ (n : ℕ). has_claim z.claims k n) st.0) ∙ claim)

  in_stamped : (q : StampedTx) → IsIn q (settled_ones s.stamped) → IsIn q s.stamped
  in_stamped q m = λ P f. m P (each_part (λ x. x.settled) P s.stamped f)

  is_settled : (xs : List StampedTx) → AllByRecursion (λ x. x.settled ≡ true) (settled_ones xs)
  is_settled [] = tt
  is_settled (x ∷ xs) = go x.settled refl (is_settled xs)
    where
      go : (b : Bool) → x.settled ≡ b → AllByRecursion (λ v. v.settled ≡ true) (settled_ones xs) → AllByRecursion (λ v. v.settled ≡ true) (cond b (x ∷ settled_ones xs) (settled_ones xs))
      go true e r = (e, r)
      go false e r = r

  descend : (n : ℕ) (z : StampedTx) → IsIn z s.stamped → z.settled ≡ true → is_some (net_write k z.history) ≡ true → a < z.end → z.end < limit → z.end < n → ⊥
  descend zero z m o w above below le = omega (arith, le)
  descend (suc n) z m o w above below le = go (last_writer k z.end (settled_ones s.stamped)) refl (λ q i p. descend n q i p)
    where
      started : s.start < z.end
      started = m (λ x. s.start < x.end) h.started.later

      go : (v : Option StampedTx) → last_writer k z.end (settled_ones s.stamped) ≡ v → ((q : StampedTx) → IsIn q s.stamped → q.settled ≡ true → is_some (net_write k q.history) ≡ true → a < q.end → q.end < limit → q.end < n → ⊥) → ⊥
      go None e again = not_next z m o w below (stands_at_start opening s k a z.end h started e (base.none z.end above e))
      go (Some q) e again = elim (cases_order a q.end) [
        | inl same ↦ not_next z m o w below (stands_by opening s k a z.end q h started e (sym same) (base.put z.end q e (sym same)))
        | inr r ↦ elim r [
          | inl lt ↦ let under = below_last k z.end (settled_ones s.stamped) q e in
              let i = last_is k z.end (settled_ones s.stamped) q e in
              again q (in_stamped q i) (i (λ x. x.settled ≡ true) (is_settled s.stamped)) (last_writes k z.end (settled_ones s.stamped) q e) lt (omega (arith, under, below)) (omega (arith, under, le))
          | inr gt ↦ let l = base.least z.end q above e in omega (arith, gt, l)
        ]
      ]

  pub none_wrote : (z : StampedTx) → IsIn z s.stamped → z.settled ≡ true → is_some (net_write k z.history) ≡ true → a < z.end → z.end < limit → ⊥
  none_wrote z m o w above below = descend (suc z.end) z m o w above below (omega arith)

-- where one claims it, none that settled before that one wrote the key later
pub none_later : (opening : Map) (s : State) (k : RowKey) (a : ℕ) → IsStanding opening s → IsBase s k a → (y : StampedTx) → IsIn y s.stamped → has_claim y.claims k a ≡ true → (z : StampedTx) → IsIn z s.stamped → z.settled ≡ true → is_some (net_write k z.history) ≡ true → a < z.end → z.end < y.end → ⊥
none_later opening s k a h base y my claims = none_wrote opening s k a h base y.end (λ z m lt claim.
    let le = h.exclusive k a in
    m (λ x. has_claim x.claims k a ≡ true → has_claim y.claims k a ≡ true → x.end ≢ y.end → ⊥)
    (my (λ x. AllByRecursion (λ v. has_claim v.claims k a ≡ true → has_claim x.claims k a ≡ true → v.end ≢ x.end → ⊥) s.stamped) (two_pass (λ x. has_claim x.claims k a) s.stamped (omega (arith, le))))
    claim claims (λ e. omega (arith, lt, e)))
