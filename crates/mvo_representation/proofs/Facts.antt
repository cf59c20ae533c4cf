-- What the table says of ends, and what a word's stamp is.
use Rattle.std.proofs.Common.{◌≡◌, ◌≢◌, ℕ, ◌<◌, ◌≤◌, Bool, false, List, [], ◌∷◌, Option, None, Some, refl, sym, ap, ◌∙◌, subst, arith}
use Rattle.std.specs.Prelude.{◌||◌, ◌&&◌}
use Rattle.std.specs.List.{AllByRecursion, list_any}
use Rattle.std.proofs.lemmas.Bool.{ne_eqb}
use Rattle.mvo_types.specs.declared.row.RowKey.{RowKey}
use Rattle.mvo_model.specs.Trace.{Phase}
use Rattle.mvo_model.specs.Trace.Phase.{Absent, Active, Preparing, Committed, Aborted}
use Rattle.mvo_theory.specs.State.{Outcome, EndedTx, State, StampedTx, ActiveTx, active_of, preparing_of, ended_of, is_active_as, is_preparing_as, is_ended_as}
use Rattle.mvo_theory.specs.Phases.{phase_by, phase_in, ended_as}
use Rattle.mvo_theory.specs.Sound.{IsSound, IsSingle, IsPlaced, IsActive, how_many}
use Rattle.mvo_theory.specs.Ranges.{Row}
use Rattle.mvo_theory.proofs.Single.{active_found, preparing_found, preparing_alone, fresh_alone}
use Rattle.mvo_theory.proofs.Finds.{find_none}
use Rattle.mvo_types.specs.RowData.{content_of}
use Rattle.mvo_theory.proofs.Each.{each_weaker, each_back}
use Rattle.mvo_theory.proofs.Commits.{split_at}
use Rattle.mvo_word.specs.declared.held.Held.{Held}
use Rattle.mvo_word.specs.declared.held.Held.TheVariants.{At, By, Infinity}
use Rattle.mvo_chain.specs.declared.version.Version.{Version}
use Rattle.mvo_representation.specs.Words.{Phases, end_in, ends_of, stamp_in, is_stamp, has_stamp, with_effect, net_effect, Touch, is_touch, is_touched}
use Rattle.mvo_representation.specs.Words.Touch.{OnlyPut, PutOrEnded}
use Rattle.mvo_representation.specs.Words.NetEffect.{Untouched}
use Rattle.mvo_representation.specs.Versions.{rows_by, Say, IsKnown, AreVersionsOf}
use Rattle.mvo_representation.proofs.Effects.{effect_of_nothing, part_none}
use Rattle.mvo_representation.proofs.Decided.{none_end, some_end}
use Rattle.mvo_theory.specs.State.Outcome.{Committed as WasCommitted, Aborted as WasAborted}

-- ---- phases
apart_phases : (e : ℕ) → Active ≡ Preparing e → ⊥
apart_phases e q = cc

-- one that is Preparing is stamped and unsettled, with its end
pub preparing_is : (s : State) (t e : ℕ) → phase_in s t ≡ Preparing e → (x : StampedTx) × (preparing_of t s.stamped ≡ Some x) × (x.end ≡ e)
preparing_is s t e = go (active_of t s.active) (preparing_of t s.stamped) (ended_of t s.ended)
  where
    same : (a b : ℕ) → Preparing a ≡ Preparing b → a ≡ b
    same a b q = cc

    ended : (o : Outcome) → ended_as o ≡ Preparing e → ⊥
    ended (WasCommitted n) q = cc
    ended WasAborted q = cc

    absent : Absent ≡ Preparing e → ⊥
    absent q = cc

    go : (a : Option ActiveTx) (b : Option StampedTx) (c : Option EndedTx) → phase_by a b c ≡ Preparing e → (x : StampedTx) × (b ≡ Some x) × (x.end ≡ e)
    go (Some r) b c q = absurd (apart_phases e q)
    go None (Some x) c q = (x, refl, same x.end e q)
    go None None (Some u) q = absurd (ended u.outcome q)
    go None None None q = absurd (absent q)

-- what holds of each that is stamped holds of one that is found there
pub found_holds : (P : StampedTx → Type 0) (t : ℕ) (xs : List StampedTx) (x : StampedTx) → preparing_of t xs ≡ Some x → AllByRecursion P xs → P x × (x.id ≡ t) × (x.settled ≡ false)
found_holds P t xs x e h = let w = split_at t xs x e in ((each_back P w.0 (x ∷ w.1) (subst (AllByRecursion P) w.2 h)).0, w.3, w.4)

-- ---- an end of the table was drawn, and is nobody's begin who is Active
pub record IsDrawn (s : State) (e : ℕ) : Type 0 where
  pub drawn : e ≤ s.clock
  pub apart : AllByRecursion (λ r. r.id ≢ e) s.active

each_active : (s : State) (x : StampedTx) → AllByRecursion (λ r. AllByRecursion (λ y. y.end ≢ r.id) s.stamped) s.active → preparing_of x.id s.stamped ≡ Some x → AllByRecursion (λ r. r.id ≢ x.end) s.active
each_active s x h f = each_weaker (λ r. AllByRecursion (λ y. y.end ≢ r.id) s.stamped) (λ r. r.id ≢ x.end) (λ r g e. (found_holds (λ y. y.end ≢ r.id) x.id s.stamped x f g).0 (sym e)) s.active h

pub end_drawn : (s : State) (table : Phases) (vs : List Version) → IsSound s → AreVersionsOf s table vs → (t e : ℕ) → ends_of table t ≡ Some e → IsDrawn s e
end_drawn s table vs k h t e = go (table t) refl
  where
    go : (p : Phase) → table t ≡ p → end_in p ≡ Some e → IsDrawn s e
    go Absent f q = absurd (none_end e q)
    go Active f q = absurd (none_end e q)
    go Aborted f q = absurd (none_end e q)
    go (Committed n) f q = let is = h.committed t n f in record { drawn = subst (λ (m : ℕ). m ≤ s.clock) (some_end n e q) is.drawn; apart = subst (λ (m : ℕ). AllByRecursion (λ r. r.id ≢ m) s.active) (some_end n e q) is.apart }
    go (Preparing n) f q =
        let w = preparing_is s t n (sym (h.phases t) ∙ f) in
        let placed = found_holds (IsPlaced s.stamped s.clock) t s.stamped w.0 w.1 k.placed in
        let at = w.2 ∙ some_end n e q in
        record {
          drawn = subst (λ (m : ℕ). m ≤ s.clock) at placed.0.drawn;
          apart = subst (λ (m : ℕ). AllByRecursion (λ r. r.id ≢ m) s.active) at
              (each_active s w.0 (each_weaker (IsActive s.base s.stamped s.clock) (λ r. AllByRecursion (λ y. y.end ≢ r.id) s.stamped) (λ r a. a.others) s.active k.active) (subst (λ (u : ℕ). preparing_of u s.stamped ≡ Some w.0) (sym placed.1) w.1));
        }

pub stamp_drawn : (s : State) (table : Phases) (vs : List Version) → IsSound s → AreVersionsOf s table vs → (w : Held) → IsKnown s table w → (e : ℕ) → stamp_in (ends_of table) w ≡ Some e → IsDrawn s e
stamp_drawn s table vs k h (At n) is e q = record { drawn = subst (λ (m : ℕ). m ≤ s.clock) (some_end n.0 e q) is.drawn; apart = subst (λ (m : ℕ). AllByRecursion (λ r. r.id ≢ m) s.active) (some_end n.0 e q) is.apart }
stamp_drawn s table vs k h (By t) is e q = end_drawn s table vs k h t.0 e q
stamp_drawn s table vs k h Infinity is e q = absurd (none_end e q)

-- ---- words that don't pass say nothing
pub net_effect_nothing : (P : Held → Type 0) (n : Held → Bool) (k : RowKey) → ((w : Held) → P w → n w ≡ false) → (vs : List Version) → AllByRecursion (λ v. P v.begin × P v.end) vs → net_effect n k vs ≡ Untouched
net_effect_nothing P n k f [] h = refl
net_effect_nothing P n k f (v ∷ vs) h = ap (λ d. with_effect d (net_effect n k vs)) (effect_of_nothing n k v (f v.begin h.0.0) (f v.end h.0.1)) ∙ net_effect_nothing P n k f vs h.1

pub is_at-none : (s : ℕ) (o : Option ℕ) → (o ≡ Some s → ⊥) → is_stamp s o ≡ false
is_at-none s None n = refl
is_at-none s (Some x) n = ne_eqb x s (λ e. n (ap (λ y. Some y) e))

-- no word has a stamp above the clock, or that of an Active one's begin
pub unstamped : (s : State) (table : Phases) (vs : List Version) (e : ℕ) (k : RowKey) → IsSound s → AreVersionsOf s table vs → (IsDrawn s e → ⊥) → net_effect (has_stamp (ends_of table) e) k vs ≡ Untouched
unstamped s table vs e k sd h n = net_effect_nothing (IsKnown s table) (has_stamp (ends_of table) e) k (λ w is. is_at-none e (stamp_in (ends_of table) w) (λ q. n (stamp_drawn s table vs sd h w is e q))) vs h.known

-- ---- where one stands
pub phase_active : (s : State) (t : ℕ) (r : ActiveTx) → active_of t s.active ≡ Some r → phase_in s t ≡ Active
phase_active s t r f = ap (λ w. phase_by w (preparing_of t s.stamped) (ended_of t s.ended)) f

no_running : (s : State) (t : ℕ) → how_many (is_active_as t) s.active ≤ 0 → active_of t s.active ≡ None
no_running s t le = active_found t s.active ∙ find_none (is_active_as t) s.active le

pub phase_preparing : (s : State) (t : ℕ) (x : StampedTx) → IsSingle s → preparing_of t s.stamped ≡ Some x → phase_in s t ≡ Preparing x.end
phase_preparing s t x sg f =
    let l = preparing_alone s t x f sg in
    ap (λ w. phase_by w (preparing_of t s.stamped) (ended_of t s.ended)) (no_running s t (omega arith))
    ∙ ap (λ w. phase_by None w (ended_of t s.ended)) f

pub phase_absent : (s : State) (t : ℕ) → s.clock < t → IsSound s → IsSingle s → phase_in s t ≡ Absent
phase_absent s t lt sd sg =
    let l = fresh_alone s t lt sd sg in
    ap (λ w. phase_by w (preparing_of t s.stamped) (ended_of t s.ended)) (no_running s t l.0)
    ∙ ap (λ w. phase_by None w (ended_of t s.ended)) (preparing_found t s.stamped ∙ find_none (is_preparing_as t) s.stamped l.1)
    ∙ ap (λ w. phase_by None None w) (find_none (is_ended_as t) s.ended l.2)

-- ---- words that don't pass mark nothing
is_touched_nothing : (g : Touch) (P : Held → Type 0) (n : Held → Bool) (p : Row → Bool) → ((w : Held) → P w → n w ≡ false) → (vs : List Version) → AllByRecursion (λ v. P v.begin × P v.end) vs → is_touched g n p vs ≡ false
is_touched_nothing g P n p f [] h = refl
is_touched_nothing g P n p f (v ∷ vs) h =
    ap (λ b. (is_touch g b (n v.end) && p (v.row.key, content_of v.row)) || is_touched g n p vs) (f v.begin h.0.0)
    ∙ ap (λ b. (is_touch g false b && p (v.row.key, content_of v.row)) || is_touched g n p vs) (f v.end h.0.1)
    ∙ ap (λ b. (b && p (v.row.key, content_of v.row)) || is_touched g n p vs) (part_none g)
    ∙ is_touched_nothing g P n p f vs h.1

pub say_nothing : (P : Held → Type 0) (n : Held → Bool) → ((w : Held) → P w → n w ≡ false) → (vs : List Version) → AllByRecursion (λ v. P v.begin × P v.end) vs → Say n [] [] vs
say_nothing P n f vs h = record { writes = λ k. net_effect_nothing P n k f vs h; touches = λ g p. is_touched_nothing g P n p f vs h ∙ nothing g p }
  where
    nothing : (g : Touch) (p : Row → Bool) → false ≡ list_any p (rows_by g [] [])
    nothing OnlyPut p = refl
    nothing PutOrEnded p = refl
