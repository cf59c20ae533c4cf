-- One word is replaced: after a commit an id becomes the end timestamp, after an abort infinity.
use Rattle.std.proofs.Common.{◌≡◌, ℕ, true, List, ◌∷◌, ◌++◌, refl, sym, ap, ◌∙◌, ◌⊎◌, inl, inr}
use Rattle.std.specs.List.{AllByRecursion}
use Rattle.mvo_model.specs.Trace.Phase.{Active, Committed, Aborted}
use Rattle.mvo_theory.specs.State.{State, ActiveTx}
use Rattle.mvo_theory.specs.Claims.{has_claim}
use Rattle.mvo_theory.proofs.Each.{each_weaker, each_both, each_always}
use Rattle.mvo_word.specs.declared.held.Held.{Held}
use Rattle.mvo_word.specs.declared.held.Held.TheVariants.{At, By, Infinity}
use Rattle.mvo_chain.specs.declared.version.Version.{Version}
use Rattle.mvo_representation.specs.Words.{Phases, ends_of, end_in, stamp_in, is_stamp, has_stamp}
use Rattle.mvo_visible.specs.Words.{names}
use Rattle.mvo_representation.specs.Versions.{Say, IsKnown, EndIsClaimed, EndHasClaims, IsInside, AreVersionsOf}
use Rattle.mvo_representation.proofs.Conflict.{not_active}
use Rattle.mvo_representation.proofs.Kept.{IsVersion, each_version, kept_alike, beside, same_at, say_like, each_changed, each_at}

-- two words that nobody can tell apart
pub record IsAlike (s : State) (table : Phases) (w x : Held) : Type 0 where
  pub stamp : stamp_in (ends_of table) w ≡ stamp_in (ends_of table) x
  pub active : AllByRecursion (λ r. names r.id w ≡ names r.id x) s.active

pub alike_self : (s : State) (table : Phases) (w : Held) → IsAlike s table w w
alike_self s table w = record { stamp = refl; active = each_always (λ r. names r.id w ≡ names r.id w) (λ r. refl) s.active }

-- after a commit
pub alike_stamp : (s : State) (table : Phases) (vs : List Version) (t e : ℕ) → AreVersionsOf s table vs → table t ≡ Committed e → IsAlike s table (By (record { 0 = t })) (At (record { 0 = e }))
alike_stamp s table vs t e h is = record { stamp = ap end_in is; active = not_active s t (λ q. differ (sym (sym (h.phases t) ∙ is) ∙ q)) }
  where
    differ : Committed e ≡ Active → ⊥
    differ q = cc

-- after an abort
pub alike_never : (s : State) (table : Phases) (vs : List Version) (t : ℕ) → AreVersionsOf s table vs → table t ≡ Aborted → IsAlike s table (By (record { 0 = t })) Infinity
alike_never s table vs t h is = record { stamp = ap end_in is; active = not_active s t (λ q. differ (sym (sym (h.phases t) ∙ is) ∙ q)) }
  where
    differ : Aborted ≡ Active → ⊥
    differ q = cc

version_alike : (s : State) (table : Phases) (v w : Version) → v.row ≡ w.row → IsAlike s table v.begin w.begin → IsAlike s table v.end w.end → (v.end ≡ Infinity → w.end ≡ Infinity) → IsKnown s table w.begin → IsKnown s table w.end → IsVersion s table v → IsVersion s table w
version_alike s table v w r o c inf kb ke h = record {
  known = (kb, ke);
  claims = λ a put stays. claims a (h.claims a (o.stamp ∙ put) (ap (is_stamp a) c.stamp ∙ stays));
  forward = λ a e put is. h.forward a e (o.stamp ∙ put) (c.stamp ∙ is);
  inside = each_both (λ q. (names q.id v.begin ≡ names q.id w.begin) × (names q.id v.end ≡ names q.id w.end)) (IsInside v) (IsInside w) (λ q e i is. turned q e (i (e.0 ∙ is))) s.active
      (each_both (λ q. names q.id v.begin ≡ names q.id w.begin) (λ q. names q.id v.end ≡ names q.id w.end) (λ q. (names q.id v.begin ≡ names q.id w.begin) × (names q.id v.end ≡ names q.id w.end)) (λ q x y. (x, y)) s.active o.active c.active)
      h.inside;
}
  where
    turned : (q : ActiveTx) → (names q.id v.begin ≡ names q.id w.begin) × (names q.id v.end ≡ names q.id w.end) → (v.end ≡ Infinity) ⊎ (names q.id v.end ≡ true) → (w.end ≡ Infinity) ⊎ (names q.id w.end ≡ true)
    turned q e (inl i) = inl (inf i)
    turned q e (inr i) = inr (sym e.1 ∙ i)

    claims : (a : ℕ) → EndHasClaims s (ends_of table) v a → EndHasClaims s (ends_of table) w a
    claims a g = record {
      active = each_both (λ q. names q.id v.end ≡ names q.id w.end) (λ q. EndIsClaimed v.row.key a (names q.id) q.claims v.end) (λ q. EndIsClaimed w.row.key a (names q.id) q.claims w.end) (λ q e i. sym e ∙ i ∙ ap (λ x. has_claim q.claims x.key a) r) s.active c.active g.active;
      stamped = each_weaker (λ x. EndIsClaimed v.row.key a (has_stamp (ends_of table) x.end) x.claims v.end) (λ x. EndIsClaimed w.row.key a (has_stamp (ends_of table) x.end) x.claims w.end) (λ x i. ap (is_stamp x.end) (sym c.stamp) ∙ i ∙ ap (λ y. has_claim x.claims y.key a) r) s.stamped g.stamped;
    }

-- finish one word: the state stays
pub kept_word : (s : State) (table : Phases) (xs : List Version) (v w : Version) (ys : List Version) → AreVersionsOf s table (xs ++ v ∷ ys) → v.row ≡ w.row → IsAlike s table v.begin w.begin → IsAlike s table v.end w.end → (v.end ≡ Infinity → w.end ≡ Infinity) → IsKnown s table w.begin → IsKnown s table w.end → AreVersionsOf s table (xs ++ w ∷ ys)
kept_word s table xs v w ys h r o c inf kb ke =
    kept_alike s s.clock s.active s.stamped s.ended table table (xs ++ v ∷ ys) (xs ++ w ∷ ys) h h.phases
    (same_at s.start (ends_of table) xs v w ys r o.stamp c.stamp)
    (λ e. refl) (λ e. refl)
    (each_both (λ q. (names q.id v.begin ≡ names q.id w.begin) × (names q.id v.end ≡ names q.id w.end)) (λ q. Say (names q.id) q.history q.footprint (xs ++ v ∷ ys)) (λ q. Say (names q.id) q.history q.footprint (xs ++ w ∷ ys)) (λ q e g. say_like (names q.id) q.history q.footprint xs v w ys r e.0 e.1 g) s.active
    (each_both (λ q. names q.id v.begin ≡ names q.id w.begin) (λ q. names q.id v.end ≡ names q.id w.end) (λ q. (names q.id v.begin ≡ names q.id w.begin) × (names q.id v.end ≡ names q.id w.end)) (λ q x y. (x, y)) s.active o.active c.active)
    h.active)
    (each_changed (IsVersion s table) (IsVersion s table) (λ x i. i) xs v w ys (version_alike s table v w r o c inf kb ke (each_at (IsVersion s table) xs v ys (each_version s table (xs ++ v ∷ ys) h))) (each_version s table (xs ++ v ∷ ys) h))
    (beside s table (xs ++ v ∷ ys) h)
