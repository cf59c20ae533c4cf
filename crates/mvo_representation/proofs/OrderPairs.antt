-- Two versions of a key, one in front of the other, as words and transactions change.
use Rattle.std.proofs.Common.{◌≡◌, ℕ, ◌<◌, ◌≤◌, Bool, true, false, cond, ◌||◌, List, ◌∷◌, ◌++◌, Option, None, Some, refl, sym, ap, ◌∙◌, subst, arith, ◌⊎◌, inl, inr}
use Rattle.std.specs.Prelude.{◌==◌}
use Rattle.std.specs.List.{AllByRecursion}
use Rattle.std.specs.Option.{option_or}
use Rattle.std.specs.Ordering.{eq_by_cmp}
use Rattle.std.specs.Cmp.{eq_by_cmp_equiv}
use Rattle.std.proofs.lemmas.Bool.{eqb-true, eq-eqb, ne_eqb, false≢true, true≢false, or_parts, cases_order}
use Rattle.mvo_types.proofs.Maps.{keys_total}
use Rattle.mvo_types.specs.declared.row.RowKey.{RowKey}
use Rattle.mvo_types.specs.declared.cause.Cause.{Cause}
use Rattle.mvo_types.specs.RowData.{RowData, content_of}
use Rattle.mvo_types.specs.Keys.{key_cmp}
use Rattle.mvo_model.specs.Trace.{Phase}
use Rattle.mvo_model.specs.Trace.Phase.{Absent, Active, Preparing, Committed, Aborted}
use Rattle.mvo_theory.specs.State.{State, ActiveTx, StampedTx, EndedTx, Outcome, active_of, preparing_of, ended_of}
use Rattle.mvo_theory.specs.State.Outcome.{Committed as WasCommitted, Aborted as WasAborted}
use Rattle.mvo_theory.specs.Phases.{phase_by, phase_in, ended_as}
use Rattle.mvo_theory.proofs.Who.{active_holds}
use Rattle.mvo_word.specs.declared.held.Held.{Held}
use Rattle.mvo_word.specs.declared.held.Held.TheVariants.{At, By, Infinity}
use Rattle.mvo_chain.specs.declared.version.Version.{Version}
use Rattle.mvo_visible.specs.Words.{States, names}
use Rattle.mvo_representation.specs.Words.{Phases, end_in, ends_of, stamp_in, is_stamp, has_stamp, cause_of_phase, cause_at_end, NetEffect, with_effect, effect_by, net_effect, IsShownAt}
use Rattle.mvo_representation.specs.Words.NetEffect.{Untouched, Removed, Puts, Clash}
use Rattle.mvo_representation.specs.Versions.{IsInside}
use Rattle.mvo_representation.specs.Steps.{fresh, ended_by, MayEnd}
use Rattle.mvo_representation.specs.Steps.MayEnd.{Own, Other}
use Rattle.mvo_representation.specs.Table.{phases_of}
use Rattle.mvo_representation.specs.Order.{IsUpTo, is_written_by, MayPrecede, HasSameWords, IsSeenAlike}
use Rattle.mvo_representation.specs.Order.HasSameWords.{Same, Unnamed}
use Rattle.mvo_representation.proofs.Effects.{net_effect-at}
use Rattle.mvo_representation.proofs.Version.{IsLastChange, last_change_is_one}

-- ---- others see the same
alike_own : (states states' : States) (t : ℕ) (w v w' v' : Version) → HasSameWords states t w w' → HasSameWords states t v v' → (phases_of states t ≡ Active → names t w.begin ≡ true → names t v.begin ≡ true → names t v.end ≡ true) → names t w'.begin ≡ true → names t v'.begin ≡ true → names t v'.end ≡ true
alike_own states states' t w v w' v' (Unnamed a b) q h p r = absurd (false≢true (sym a ∙ p))
alike_own states states' t w v w' v' (Same act a b) (Unnamed c d) h p r = absurd (false≢true (sym c ∙ r))
alike_own states states' t w v w' v' (Same act a b) (Same act' c d) h p r = d ∙ h act (sym a ∙ p) (sym c ∙ r)

alike_writes : (states : States) (t : ℕ) (v v' : Version) → HasSameWords states t v v' → (phases_of states t ≡ Active → is_written_by t v ≡ false) → is_written_by t v' ≡ false
alike_writes states t v v' (Unnamed a b) h = ap (λ (c : Bool). c || names t v'.end) a ∙ b
alike_writes states t v v' (Same act a b) h = ap (λ (c : Bool). c || names t v'.end) a ∙ ap (λ (c : Bool). names t v.begin || c) b ∙ h act

pub alike_pair : (start : ℕ) (states states' : States) (w v w' v' : Version) → IsSeenAlike states states' w w' → IsSeenAlike states states' v v' → MayPrecede start (phases_of states) w v → MayPrecede start (phases_of states') w' v'
alike_pair start states states' w v w' v' a b h = record {
  puts = λ s e. subst (IsUpTo s) (ap (λ o. option_or o (stamp_in (ends_of (phases_of states)) v.end)) (sym b.begin) ∙ ap (option_or (stamp_in (ends_of (phases_of states')) v'.begin)) (sym b.end)) (h.puts s (sym a.begin ∙ e));
  removals = λ s x e f le. h.removals s x (sym a.begin ∙ e) (sym b.end ∙ f) le;
  stamped = λ e p q. ap (is_stamp e) b.end ∙ h.stamped e (sym (ap (is_stamp e) a.begin) ∙ p) (sym (ap (is_stamp e) b.begin) ∙ q);
  active = λ t act p q. alike_own states states' t w v w' v' (a.active t act) (b.active t act) (λ was. h.active t was) p q;
  writes = λ t act s e lt. alike_writes states t v v' (b.active t act) (λ was. h.writes t was s (sym a.begin ∙ e) lt);
}

-- ---- a new version in front
pub none_stamp : (s : ℕ) → ◌≡◌ {A = Option ℕ} None (Some s) → ⊥
none_stamp s q = cc

pub some_stamp : (a b : ℕ) → ◌≡◌ {A = Option ℕ} (Some a) (Some b) → a ≡ b
some_stamp a b q = cc

pub is_the_stamp : (e : ℕ) (o : Option ℕ) → is_stamp e o ≡ true → o ≡ Some e
is_the_stamp e None q = absurd (false≢true q)
is_the_stamp e (Some x) q = ap (λ (n : ℕ). Some n) (eqb-true x e q)

pub has_the_stamp : (e : ℕ) (o : Option ℕ) → o ≡ Some e → is_stamp e o ≡ true
has_the_stamp e o q = ap (is_stamp e) q ∙ eq-eqb e e refl

-- a version whose put has no stamp, and names no Active transaction but t
pub unstamped_pair : (start : ℕ) (table : Phases) (w v : Version) → stamp_in (ends_of table) w.begin ≡ None → ((t : ℕ) → table t ≡ Active → names t w.begin ≡ true → names t v.begin ≡ true → names t v.end ≡ true) → MayPrecede start table w v
unstamped_pair start table w v none own = record {
  puts = λ s e. absurd (none_stamp s (sym none ∙ e));
  removals = λ s x e f le. absurd (none_stamp s (sym none ∙ e));
  stamped = λ e p q. absurd (none_stamp e (sym none ∙ is_the_stamp e (stamp_in (ends_of table) w.begin) p));
  active = own;
  writes = λ t act s e lt. absurd (none_stamp s (sym none ∙ e));
}

pub fresh_pair : (start : ℕ) (table : Phases) (t : ℕ) (row : RowData) (v : Version) → table t ≡ Active → (names t v.begin ≡ true → names t v.end ≡ true) → MayPrecede start table (fresh t row) v
fresh_pair start table t row v act own = unstamped_pair start table (fresh t row) v (ap end_in act) (λ u is p q. let same = eqb-true t u p in subst (λ (n : ℕ). names n v.end ≡ true) same (own (subst (λ (n : ℕ). names n v.begin ≡ true) (sym same) q)))

-- ---- a version that t ends, which nobody else has ended
pub ended_pair : (start : ℕ) (table : Phases) (t : ℕ) (w v : Version) → table t ≡ Active → stamp_in (ends_of table) v.end ≡ None → ((u : ℕ) → table u ≡ Active → names u v.end ≡ false) → ((s : ℕ) → stamp_in (ends_of table) w.begin ≡ Some s → s < t → ⊥) → MayPrecede start table w v → MayPrecede start table w (ended_by t v)
ended_pair start table t w v act none free front h = record {
  puts = λ s e. subst (IsUpTo s) (ap (option_or (stamp_in (ends_of table) v.begin)) (none ∙ sym (ap end_in act))) (h.puts s e);
  removals = λ s x e f le. absurd (none_stamp x (sym (ap end_in act) ∙ f));
  stamped = λ e p q. absurd (none_stamp e (sym none ∙ is_the_stamp e (stamp_in (ends_of table) v.end) (h.stamped e p q)));
  active = λ u is p q. absurd (false≢true (sym (free u is) ∙ h.active u is p q));
  writes = λ u is s e lt. go u s e lt (t == u) refl (or_parts (names u v.begin) (names u v.end) (h.writes u is s e lt)).0;
}
  where
    go : (u s : ℕ) → stamp_in (ends_of table) w.begin ≡ Some s → s < u → (b : Bool) → (t == u) ≡ b → names u v.begin ≡ false → (names u v.begin || b) ≡ false
    go u s e lt true q f = absurd (let same = eqb-true t u q in front s e (omega (arith, lt, same)))
    go u s e lt false q f = ap (λ (c : Bool). c || false) f

-- ---- who is Active
pub active_is : (s : State) (t : ℕ) → phase_in s t ≡ Active → (r : ActiveTx) × (active_of t s.active ≡ Some r)
active_is s t e = go (active_of t s.active) (preparing_of t s.stamped) (ended_of t s.ended) e
  where
    preparing : (n : ℕ) → Preparing n ≡ Active → ⊥
    preparing n q = cc

    ended : (o : Outcome) → ended_as o ≡ Active → ⊥
    ended (WasCommitted n) q = cc
    ended WasAborted q = cc

    absent : Absent ≡ Active → ⊥
    absent q = cc

    go : (a : Option ActiveTx) (b : Option StampedTx) (c : Option EndedTx) → phase_by a b c ≡ Active → (r : ActiveTx) × (a ≡ Some r)
    go (Some r) b c q = (r, refl)
    go None (Some x) c q = absurd (preparing x.end q)
    go None None (Some u) q = absurd (ended u.outcome q)
    go None None None q = absurd (absent q)

-- what an Active transaction put nobody else has ended
pub inside_is : (s : State) (table : Phases) (v : Version) (t : ℕ) → ((u : ℕ) → table u ≡ phase_in s u) → AllByRecursion (IsInside v) s.active → table t ≡ Active → names t v.begin ≡ true → (v.end ≡ Infinity) ⊎ (names t v.end ≡ true)
inside_is s table v t phases h act p =
    let r = active_is s t (sym (phases t) ∙ act) in
    let a = active_holds (IsInside v) t s.active r.0 r.1 h in
    subst (λ (n : ℕ). names n v.begin ≡ true → (v.end ≡ Infinity) ⊎ (names n v.end ≡ true)) a.1 a.0 p

-- ---- a version that t may end has no End that counts
some_cause : (c : Cause) → ◌≡◌ {A = Option Cause} (Some c) None → ⊥
some_cause c q = cc

abbrev pub IsLoose : Phases → Held → Type 0
IsLoose table w = (stamp_in (ends_of table) w ≡ None) × ((u : ℕ) → table u ≡ Active → names u w ≡ false)

loose_by : (table : Phases) (w : Held) → cause_at_end table w ≡ None → IsLoose table w
loose_by table (At s) q = absurd (some_cause _ q)
loose_by table Infinity q = (refl, λ u act. refl)
loose_by table (By t) q = go (table t.0) refl q
  where
    other : (p : Phase) → table t.0 ≡ p → (p ≡ Active → ⊥) → (u : ℕ) → table u ≡ Active → (t.0 == u) ≡ false
    other p e differs u act = ne_eqb t.0 u (λ same. differs (sym e ∙ ap table same ∙ act))

    absent : Absent ≡ Active → ⊥
    absent r = cc

    aborted : Aborted ≡ Active → ⊥
    aborted r = cc

    go : (p : Phase) → table t.0 ≡ p → cause_of_phase t.0 p ≡ None → (end_in (table t.0) ≡ None) × ((u : ℕ) → table u ≡ Active → (t.0 == u) ≡ false)
    go Absent e r = (ap end_in e, other Absent e absent)
    go Aborted e r = (ap end_in e, other Aborted e aborted)
    go Active e r = absurd (some_cause _ r)
    go (Preparing n) e r = absurd (some_cause _ r)
    go (Committed n) e r = absurd (some_cause _ r)

pub loose_end : (s : State) (table : Phases) (t : ℕ) (vs : List Version) (v : Version) → ((u : ℕ) → table u ≡ phase_in s u) → AllByRecursion (IsInside v) s.active → table t ≡ Active → MayEnd s table t vs v → IsLoose table v.end
loose_end s table t vs v phases h act (Other f) = loose_by table v.end f.free
loose_end s table t vs v phases h act (Own o) = elim (inside_is s table v t phases h act o.mine) [
  | inl e ↦ (ap (stamp_in (ends_of table)) e, λ u is. ap (names u) e)
  | inr q ↦ absurd (true≢false (sym q ∙ o.kept))
]

-- ---- what stands in front of the version that is shown
-- who put a version has done something at the key
pub put_has_effect : (n : Held → Bool) (k : RowKey) (xs : List Version) (w : Version) (ys : List Version) → w.row.key ≡ k → n w.begin ≡ true → net_effect n k (xs ++ w ∷ ys) ≡ Untouched → ⊥
put_has_effect n k xs w ys key b q = go (n w.end) (net_effect n k (xs ++ ys)) (sym (ap (λ (c : Bool). with_effect (cond c (effect_by (n w.begin) (n w.end) (content_of w.row)) Untouched) (net_effect n k (xs ++ ys))) same ∙ ap (λ (c : Bool). with_effect (effect_by c (n w.end) (content_of w.row)) (net_effect n k (xs ++ ys))) b) ∙ sym (net_effect-at n k xs w ys) ∙ q)
  where
    same : eq_by_cmp key_cmp k w.row.key ≡ true
    same = subst (λ (j : RowKey). eq_by_cmp key_cmp j w.row.key ≡ true) key ((eq_by_cmp_equiv keys_total).refl w.row.key)

    go : (c : Bool) (rest : NetEffect) → with_effect (effect_by true c (content_of w.row)) rest ≡ Untouched → ⊥
    go true Untouched e = cc
    go true Removed e = cc
    go true (Puts h) e = cc
    go true Clash e = cc
    go false Untouched e = cc
    go false Removed e = cc
    go false (Puts h) e = cc
    go false Clash e = cc

pub none_before_shown : (start : ℕ) (table : Phases) (t : ℕ) (k : RowKey) (w v : Version) (a : ℕ) (xs ys : List Version) → w.row.key ≡ k → IsShownAt (ends_of table) t k (xs ++ w ∷ ys) v a → MayPrecede start table w v → (s : ℕ) → stamp_in (ends_of table) w.begin ≡ Some s → s < t → ⊥
none_before_shown start table t k w v a xs ys key shown h s e lt = elim (cases_order a s) [
  | inl same ↦ false≢true (sym shown.stays ∙ h.stamped a (has_the_stamp a (stamp_in (ends_of table) w.begin) (e ∙ ap (λ (n : ℕ). Some n) (sym same))) (has_the_stamp a (stamp_in (ends_of table) v.begin) shown.put))
  | inr q ↦ elim q [
    | inl above ↦ put_has_effect (has_stamp (ends_of table) s) k xs w ys key (has_the_stamp s (stamp_in (ends_of table) w.begin) e) (last.last s above lt)
    | inr below ↦ let le : a ≤ s = subst (λ (o : Option ℕ). IsUpTo s (option_or o (stamp_in (ends_of table) v.end))) shown.put (h.puts s e) in omega (arith, le, below)
  ]
]
  where
    last : IsLastChange (λ x. net_effect (has_stamp (ends_of table) x) k (xs ++ w ∷ ys)) t (a, shown.last.0)
    last = last_change_is_one (λ x. net_effect (has_stamp (ends_of table) x) k (xs ++ w ∷ ys)) t (a, shown.last.0) shown.last.1
