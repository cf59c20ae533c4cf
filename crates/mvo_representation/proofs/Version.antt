-- The version that is shown: its row is the snapshot's, and its Begin is the key's origin.
use Rattle.std.proofs.Common.{◌≡◌, ℕ, ◌<◌, suc, zero, Bool, true, false, cond, List, ◌∷◌, ◌++◌, Option, None, Some, refl, sym, ap, ◌∙◌, arith, ◌⊎◌, inl, inr}
use Rattle.std.specs.List.{AllByRecursion}
use Rattle.std.specs.Option.{option_map}
use Rattle.std.specs.Ordering.{eq_by_cmp}
use Rattle.std.specs.Cmp.{eq_by_cmp_equiv}
use Rattle.std.specs.FinMap as fin
use Rattle.std.proofs.lemmas.Bool.{eq-eqb, true≢false, cases_order}
use Rattle.mvo_types.proofs.Maps.{keys_total}
use Rattle.mvo_types.specs.declared.row.RowKey.{RowKey}
use Rattle.mvo_types.specs.RowData.{ContentData, content_of}
use Rattle.mvo_types.specs.Keys.{key_cmp}
use Rattle.mvo_theory.specs.State.{State, seen_by}
use Rattle.mvo_theory.specs.Claims.{origin}
use Rattle.mvo_theory.specs.Sound.{IsSound, IsStarted}
use Rattle.mvo_chain.specs.declared.version.Version.{Version}
use Rattle.mvo_representation.specs.Words.{Phases, Ends, ends_of, stamp_in, is_stamp, has_stamp, NetEffect, with_effect, effect_by, effect_of, net_effect, last_change, or_change_at, standing, row_in, IsShownAt}
use Rattle.mvo_representation.specs.Words.NetEffect.{Untouched, Removed, Puts, Clash}
use Rattle.mvo_representation.specs.Versions.{AreVersionsOf}
use Rattle.mvo_representation.proofs.Effects.{net_effect-at}
use Rattle.mvo_representation.proofs.Shown.{IsBegin, stands_below}
use Rattle.mvo_representation.proofs.Open.{stamp_of}

-- ---- the greatest change
pub record IsLastChange (f : ℕ → NetEffect) (b : ℕ) (p : ℕ × NetEffect) : Type 0 where
  pub within : p.0 < b
  pub is : f p.0 ≡ p.1
  pub last : (x : ℕ) → p.0 < x → x < b → f x ≡ Untouched

pub no_change : (p : ℕ × NetEffect) → ◌≡◌ {A = Option (ℕ × NetEffect)} None (Some p) → ⊥
no_change p q = cc

abbrev pub effect_in : Option (ℕ × NetEffect) → NetEffect
effect_in None = Untouched
effect_in (Some p) = p.1

pub last_change_is_one : (f : ℕ → NetEffect) (b : ℕ) (p : ℕ × NetEffect) → last_change f b ≡ Some p → IsLastChange f b p
last_change_is_one f zero p e = absurd (no_change p e)
last_change_is_one f (suc b) p e = go (f b) refl e (λ g. last_change_is_one f b p g)
  where
    here : (d : NetEffect) → f b ≡ d → Some (b, d) ≡ Some p → IsLastChange f (suc b) p
    here d h g = let q : b ≡ p.0 = ap stamp_of g in record {
      within = omega (arith, q);
      is = ap f (sym q) ∙ h ∙ ap effect_in g;
      last = λ x l u. absurd (omega (arith, q, l, u));
    }

    more : f b ≡ Untouched → (x : ℕ) → IsLastChange f b p → p.0 < x → x < suc b → (x ≡ b) ⊎ ((x < b) ⊎ (b < x)) → f x ≡ Untouched
    more h x t l u (inl q) = ap f q ∙ h
    more h x t l u (inr (inl lt)) = t.last x l lt
    more h x t l u (inr (inr gt)) = absurd (omega (arith, gt, u))

    go : (d : NetEffect) → f b ≡ d → or_change_at b d (last_change f b) ≡ Some p → (last_change f b ≡ Some p → IsLastChange f b p) → IsLastChange f (suc b) p
    go Untouched h g again = let t = again g in record { within = let l = t.within in omega (arith, l); is = t.is; last = λ x l u. more h x t l u (cases_order x b) }
    go Removed h g again = here Removed h g
    go (Puts r) h g again = here (Puts r) h g
    go Clash h g again = here Clash h g

-- ---- the version that is put there
pub put_there : (ends : Ends) (k : RowKey) (v : Version) (a : ℕ) → v.row.key ≡ k → stamp_in ends v.begin ≡ Some a → is_stamp a (stamp_in ends v.end) ≡ false → effect_of (has_stamp ends a) k v ≡ Puts (content_of v.row)
put_there ends k v a s o c =
    ap (λ q. cond q (effect_by (has_stamp ends a v.begin) (has_stamp ends a v.end) (content_of v.row)) Untouched) (ap (λ j. eq_by_cmp key_cmp j v.row.key) (sym s) ∙ (eq_by_cmp_equiv keys_total).refl v.row.key)
    ∙ ap (λ x. effect_by (is_stamp a x) (has_stamp ends a v.end) (content_of v.row)) o
    ∙ ap (λ q. effect_by q (has_stamp ends a v.end) (content_of v.row)) (eq-eqb a a refl)
    ∙ ap (λ q. effect_by true q (content_of v.row)) c

abbrev pub clash_in : Option (ℕ × NetEffect) → Bool
clash_in None = false
clash_in (Some (a, Untouched)) = false
clash_in (Some (a, Removed)) = false
clash_in (Some (a, Puts h)) = false
clash_in (Some (a, Clash)) = true

pub no_clash : (o : ℕ) (m : Option ContentData) → clash_in (option_map (λ h. (o, Puts h)) m) ≡ false
no_clash o None = refl
no_clash o (Some h) = refl

-- the row that stands, and since when
put_stands : (a o : ℕ) (h : ContentData) (rest : NetEffect) (m : Option ContentData) → standing (Some (a, with_effect (Puts h) rest)) ≡ option_map (λ h. (o, Puts h)) m → (m ≡ Some h) × (a ≡ o)
put_stands a o h rest m e = go rest e
  where
    plain : (m : Option ContentData) → ◌≡◌ {A = Option (ℕ × NetEffect)} (Some (a, Puts h)) (option_map (λ h. (o, Puts h)) m) → (m ≡ Some h) × (a ≡ o)
    plain None q = absurd (no_change (a, Puts h) (sym q))
    plain (Some g) q = (sym (ap row_in q), ap stamp_of q)

    go : (r : NetEffect) → standing (Some (a, with_effect (Puts h) r)) ≡ option_map (λ h. (o, Puts h)) m → (m ≡ Some h) × (a ≡ o)
    go Untouched q = plain m q
    go Removed q = plain m q
    go (Puts g) q = absurd (true≢false (ap clash_in q ∙ no_clash o m))
    go Clash q = absurd (true≢false (ap clash_in q ∙ no_clash o m))

pub record IsShownRow (s : State) (b : ℕ) (k : RowKey) (v : Version) (a : ℕ) : Type 0 where
  pub row : fin.get (seen_by s.base s.stamped b) k ≡ Some (content_of v.row)
  pub origin : a ≡ origin s b k

-- the version that is found is the row that is seen, and it begins at the key's origin
pub version_shown : (s : State) (table : Phases) (xs : List Version) (v : Version) (ys : List Version) (b : ℕ) (k : RowKey) (a : ℕ) → IsSound s → IsStarted s → AreVersionsOf s table (xs ++ v ∷ ys) → IsBegin s table (xs ++ v ∷ ys) b → AllByRecursion (λ x. x.end < b) s.past → IsShownAt (ends_of table) b k (xs ++ v ∷ ys) v a → IsShownRow s b k v a
version_shown s table xs v ys b k a sd st h at below is =
    let t = last_change_is_one (λ e. net_effect (has_stamp (ends_of table) e) k (xs ++ v ∷ ys)) b (a, is.last.0) is.last.1 in
    let d : is.last.0 ≡ with_effect (Puts (content_of v.row)) (net_effect (has_stamp (ends_of table) a) k (xs ++ ys)) =
    sym t.is ∙ net_effect-at (has_stamp (ends_of table) a) k xs v ys ∙ ap (λ e. with_effect e (net_effect (has_stamp (ends_of table) a) k (xs ++ ys))) (put_there (ends_of table) k v a is.key is.put is.stays) in
    let w = put_stands a (origin s b k) (content_of v.row) (net_effect (has_stamp (ends_of table) a) k (xs ++ ys)) (fin.get (seen_by s.base s.stamped b) k)
    (sym (ap standing (is.last.1 ∙ ap (λ e. Some (a, e)) d)) ∙ stands_below s table (xs ++ v ∷ ys) b k sd st h at below) in
    record { row = w.0; origin = w.1 }
