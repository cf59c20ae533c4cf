-- The row that the words show is the snapshot's, and stands since the key's origin.
use Rattle.std.proofs.Common.{◌≡◌, ◌≢◌, ℕ, ◌<◌, ◌≤◌, suc, Bool, true, false, cond, List, [], ◌∷◌, ◌++◌, Option, None, Some, refl, sym, ap, ◌∙◌, subst, arith, ◌⊎◌, inl, inr}
use Rattle.std.specs.Prelude.{◌==◌, is_some, ◌&&◌}
use Rattle.std.specs.List.{AllByRecursion}
use Rattle.mvo_types.specs.Write.{Effect, content_after_last}
use Rattle.std.specs.Option.{option_map}
use Rattle.std.specs.FinMap as fin
use Rattle.std.proofs.lemmas.Bool.{lt-ltb, cases_order, false≢true}
use Rattle.mvo_types.specs.declared.row.RowKey.{RowKey}
use Rattle.mvo_types.specs.RowData.{ContentData}
use Rattle.mvo_model.specs.History.{net_write, after_history}
use Rattle.mvo_model.proofs.Serials.{get-after_history}
use Rattle.mvo_theory.specs.State.{State, StampedTx, ActiveTx, history_below, seen_by, history_of_active, snapshot, active_of}
use Rattle.mvo_theory.specs.Dependencies.{is_writer, or_later, last_writer}
use Rattle.mvo_theory.specs.Claims.{origin, end_or}
use Rattle.mvo_theory.proofs.Who.{active_holds}
use Rattle.mvo_theory.specs.Sound.{IsSound, IsStarted, IsPast}
use Rattle.mvo_theory.proofs.Each.{each_weaker, each_both}
use Rattle.mvo_chain.specs.declared.version.Version.{Version}
use Rattle.mvo_representation.specs.Words.{Phases, ends_of, has_stamp, NetEffect, net_effect, as_net_effect, or_change_at, last_change, change_below, standing, row_in, shown_over, shown_row}
use Rattle.mvo_visible.specs.Words.{names}
use Rattle.mvo_representation.specs.Words.NetEffect.{Untouched, Removed, Puts, Clash}
use Rattle.mvo_representation.specs.Versions.{Say, origin_at_start, AreVersionsOf}
use Rattle.mvo_representation.proofs.LastChanges.{change_by, change_of_last, first_of, last_change_last, history_below_last, write_by, last_writes, last_none_above}
use Rattle.mvo_representation.proofs.Facts.{unstamped}
use Rattle.mvo_types.specs.Write.Effect.{Put, Delete as Gone}

-- ---- a begin from the start on: no change has it as its stamp
pub record IsBegin (s : State) (table : Phases) (vs : List Version) (b : ℕ) : Type 0 where
  pub from : s.start ≤ b
  pub free : s.start ≡ b → (k : RowKey) → net_effect (has_stamp (ends_of table) b) k vs ≡ Untouched

pub active_begins : (s : State) (table : Phases) (vs : List Version) (t : ℕ) (r : ActiveTx) → IsSound s → AreVersionsOf s table vs → active_of t s.active ≡ Some r → IsBegin s table vs t
active_begins s table vs t r sd h f = record {
  from = let w = active_holds (λ q. s.start ≤ q.id) t s.active r f h.begun in subst (λ (n : ℕ). s.start ≤ n) w.1 w.0;
  free = λ e k. unstamped s table vs t k sd h (λ d. let w = active_holds (λ q. q.id ≢ t) t s.active r f d.apart in w.0 w.1);
}

pub behind_is : (s : State) (table : Phases) (vs : List Version) (t : ℕ) (r : ActiveTx) → AreVersionsOf s table vs → active_of t s.active ≡ Some r → AllByRecursion (λ x. x.end < t) s.past
behind_is s table vs t r h f = let w = active_holds (λ q. AllByRecursion (λ x. x.end < q.id) s.past) t s.active r f h.behind in subst (λ (n : ℕ). AllByRecursion (λ x. x.end < n) s.past) w.1 w.0

-- the change below b: that of the last writer, or else of those up to the start
pub deciding : (s : State) (table : Phases) (vs : List Version) (b : ℕ) (k : RowKey) → IsSound s → IsStarted s → AreVersionsOf s table vs → IsBegin s table vs b → change_below (ends_of table) b k vs ≡ first_of (change_of_last k b s.stamped) (last_change (λ e. net_effect (has_stamp (ends_of table) e) k vs) (suc s.start))
deciding s table vs b k sd st h at = go (cases_order s.start b)
  where
    f : ℕ → NetEffect
    f e = net_effect (has_stamp (ends_of table) e) k vs

    last_change_suc : (d : NetEffect) → d ≡ Untouched → or_change_at s.start d (last_change f s.start) ≡ last_change f s.start
    last_change_suc d e = ap (λ x. or_change_at s.start x (last_change f s.start)) e

    go : (s.start ≡ b) ⊎ ((s.start < b) ⊎ (b < s.start)) → last_change (λ e. net_effect (has_stamp (ends_of table) e) k vs) b ≡ first_of (change_of_last k b s.stamped) (last_change (λ e. net_effect (has_stamp (ends_of table) e) k vs) (suc s.start))
    go (inl e) =
        subst (λ (n : ℕ). last_change (λ e. net_effect (has_stamp (ends_of table) e) k vs) n ≡ first_of (change_of_last k n s.stamped) (last_change (λ e. net_effect (has_stamp (ends_of table) e) k vs) (suc s.start))) e
        (sym (ap (λ d. or_change_at s.start d (last_change (λ e. net_effect (has_stamp (ends_of table) e) k vs) s.start)) (ap (λ n. net_effect (has_stamp (ends_of table) n) k vs) e ∙ at.free e k))
        ∙ sym (ap (λ w. first_of (option_map (change_by k) w) (last_change (λ e. net_effect (has_stamp (ends_of table) e) k vs) (suc s.start))) (last_none_above k s.start s.stamped (each_weaker (λ x. s.start < x.end) (λ x. s.start ≤ x.end) (λ x lt. omega (arith, lt)) s.stamped st.later))))
    go (inr (inl lt)) = last_change_last (λ e. net_effect (has_stamp (ends_of table) e) k vs) k s.stamped s.start b (λ e gt. (h.stamped e gt).writes k) sd.rising st.later lt
    go (inr (inr gt)) = absurd (omega (arith, gt, at.from))

-- ---- the origin
pub last_writer-append : (k : RowKey) (b : ℕ) (xs ys : List StampedTx) → last_writer k b (xs ++ ys) ≡ or_later (last_writer k b xs) (last_writer k b ys)
last_writer-append k b [] ys = go (last_writer k b ys)
  where
    go : (w : Option StampedTx) → w ≡ or_later None w
    go None = refl
    go (Some y) = refl
last_writer-append k b (x ∷ xs) ys = ap (or_later (cond (is_writer k b x) (Some x) None)) (last_writer-append k b xs ys) ∙ go (last_writer k b ys) (cond (is_writer k b x) (Some x) None) (last_writer k b xs)
  where
    go : (w c v : Option StampedTx) → or_later c (or_later v w) ≡ or_later (or_later c v) w
    go None c v = refl
    go (Some y) c v = refl

-- begins behind all of them are one
pub last_behind : (k : RowKey) (a b : ℕ) (xs : List StampedTx) → AllByRecursion (λ x. (x.end < a) × (x.end < b)) xs → last_writer k a xs ≡ last_writer k b xs
last_behind k a b [] h = refl
last_behind k a b (x ∷ xs) h =
    ap (λ (c : Bool). or_later (cond (c && is_some (net_write k x.history)) (Some x) None) (last_writer k a xs)) (lt-ltb x.end a h.0.0 ∙ sym (lt-ltb x.end b h.0.1))
    ∙ ap (or_later (cond (is_writer k b x) (Some x) None)) (last_behind k a b xs h.1)

-- up to the start all are settled, so that their ends are below a begin
pub origin_is : (s : State) (b : ℕ) (k : RowKey) → AllByRecursion (λ x. x.end < b) s.past → IsStarted s → origin s b k ≡ end_or s.marks.opening (or_later (last_writer k (suc s.start) s.past) (last_writer k b s.stamped))
origin_is s b k below st =
    ap (end_or s.marks.opening) (last_writer-append k b s.past s.stamped
    ∙ ap (λ w. or_later w (last_writer k b s.stamped)) (last_behind k b (suc s.start) s.past (each_both (λ x. x.end < b) (IsPast s.start) (λ x. (x.end < b) × (x.end < suc s.start)) (λ x lt p. (lt, let le = p.until in omega (arith, le))) s.past below st.past)))

-- ---- what stands below a begin
pub stands_below : (s : State) (table : Phases) (vs : List Version) (b : ℕ) (k : RowKey) → IsSound s → IsStarted s → AreVersionsOf s table vs → IsBegin s table vs b → AllByRecursion (λ x. x.end < b) s.past → standing (change_below (ends_of table) b k vs) ≡ option_map (λ h. (origin s b k, Puts h)) (fin.get (seen_by s.base s.stamped b) k)
stands_below s table vs b k sd st h at below =
    ap standing (deciding s table vs b k sd st h at)
    ∙ go (last_writer k b s.stamped) refl
    ∙ sym (ap (λ o. option_map (λ h. (o, Puts h)) (fin.get (seen_by s.base s.stamped b) k)) (origin_is s b k below st))
  where
    from_start : Option (ℕ × NetEffect)
    from_start = last_change (λ e. net_effect (has_stamp (ends_of table) e) k vs) (suc s.start)

    seen : (w : Option StampedTx) → last_writer k b s.stamped ≡ w → fin.get (seen_by s.base s.stamped b) k ≡ content_after_last (write_by k w) (fin.get s.base k)
    seen w e = get-after_history k (history_below b s.stamped) s.base ∙ ap (λ x. content_after_last x (fin.get s.base k)) (history_below_last k b s.stamped ∙ ap (write_by k) e)

    by_write : (e : ℕ) (w : Option Effect) (m : Option ContentData) → is_some w ≡ true → standing (Some (e, as_net_effect w)) ≡ option_map (λ h. (e, Puts h)) (content_after_last w m)
    by_write e None m q = absurd (false≢true q)
    by_write e (Some Gone) m q = refl
    by_write e (Some (Put h)) m q = refl

    go : (w : Option StampedTx) → last_writer k b s.stamped ≡ w → standing (first_of (change_of_last k b s.stamped) (last_change (λ e. net_effect (has_stamp (ends_of table) e) k vs) (suc s.start))) ≡ option_map (λ h. (end_or s.marks.opening (or_later (last_writer k (suc s.start) s.past) (last_writer k b s.stamped)), Puts h)) (fin.get (seen_by s.base s.stamped b) k)
    go None e =
        ap (λ w. standing (first_of (option_map (change_by k) w) (last_change (λ e. net_effect (has_stamp (ends_of table) e) k vs) (suc s.start)))) e
        ∙ h.opened k
        ∙ ap (option_map (λ h. (origin_at_start s k, Puts h))) (sym (seen None e))
        ∙ ap (λ w. option_map (λ h. (end_or s.marks.opening (or_later (last_writer k (suc s.start) s.past) w), Puts h)) (fin.get (seen_by s.base s.stamped b) k)) (sym e)
    go (Some x) e =
        ap (λ w. standing (first_of (option_map (change_by k) w) (last_change (λ e. net_effect (has_stamp (ends_of table) e) k vs) (suc s.start)))) e
        ∙ by_write x.end (net_write k x.history) (fin.get s.base k) (last_writes k b s.stamped x e)
        ∙ ap (option_map (λ h. (x.end, Puts h))) (sym (seen (Some x) e))
        ∙ ap (λ w. option_map (λ h. (end_or s.marks.opening (or_later (last_writer k (suc s.start) s.past) w), Puts h)) (fin.get (seen_by s.base s.stamped b) k)) (sym e)

-- ---- the row that is shown
row_standing : (c : Option (ℕ × NetEffect)) → row_in (standing c) ≡ row_in c
row_standing None = refl
row_standing (Some (a, Untouched)) = refl
row_standing (Some (a, Removed)) = refl
row_standing (Some (a, Puts g)) = refl
row_standing (Some (a, Clash)) = refl

pub row_put : (o : ℕ) (m : Option ContentData) → row_in (option_map (λ h. (o, Puts h)) m) ≡ m
row_put o None = refl
row_put o (Some h) = refl

pub row_of_standing : (c : Option (ℕ × NetEffect)) (o : ℕ) (m : Option ContentData) → standing c ≡ option_map (λ h. (o, Puts h)) m → row_in c ≡ m
row_of_standing c o m e = sym (row_standing c) ∙ ap row_in e ∙ row_put o m

history_found : (t : ℕ) (rs : List ActiveTx) (r : ActiveTx) → active_of t rs ≡ Some r → history_of_active t rs ≡ r.history
history_found t [] r e = absurd (none_active r e)
  where
    none_active : (q : ActiveTx) → ◌≡◌ {A = Option ActiveTx} None (Some q) → ⊥
    none_active q g = cc
history_found t (q ∷ qs) r e = go (q.id == t) e (λ f. history_found t qs r f)
  where
    some_active : (p q : ActiveTx) → ◌≡◌ {A = Option ActiveTx} (Some p) (Some q) → p ≡ q
    some_active p q g = cc

    go : (b : Bool) → cond b (Some q) (active_of t qs) ≡ Some r → (active_of t qs ≡ Some r → history_of_active t qs ≡ r.history) → cond b q.history (history_of_active t qs) ≡ r.history
    go true g k = ap (λ (p : ActiveTx). p.history) (some_active q r g)
    go false g k = k g

shown_did : (w : Option Effect) (c : Option (ℕ × NetEffect)) → shown_over (as_net_effect w) c ≡ content_after_last w (row_in c)
shown_did None c = refl
shown_did (Some Gone) c = refl
shown_did (Some (Put h)) c = refl

-- what an Active one is shown at a key is the row of its snapshot
pub shown_right : (s : State) (table : Phases) (vs : List Version) (t : ℕ) (r : ActiveTx) (k : RowKey) → IsSound s → IsStarted s → AreVersionsOf s table vs → active_of t s.active ≡ Some r → shown_row (ends_of table) t k vs ≡ fin.get (snapshot s t) k
shown_right s table vs t r k sd st h f =
    ap (λ d. shown_over d (change_below (ends_of table) t k vs)) own
    ∙ shown_did (net_write k r.history) (change_below (ends_of table) t k vs)
    ∙ ap (content_after_last (net_write k r.history)) (row_of_standing (change_below (ends_of table) t k vs) (origin s t k) (fin.get (seen_by s.base s.stamped t) k) (stands_below s table vs t k sd st h (active_begins s table vs t r sd h f) (behind_is s table vs t r h f)))
    ∙ sym (get-after_history k r.history (seen_by s.base s.stamped t))
    ∙ ap (λ ts. fin.get (after_history ts (seen_by s.base s.stamped t)) k) (sym (history_found t s.active r f))
  where
    own : net_effect (names t) k vs ≡ as_net_effect (net_write k r.history)
    own = let w = active_holds (λ q. Say (names q.id) q.history q.footprint vs) t s.active r f h.active in subst (λ (n : ℕ). net_effect (names n) k vs ≡ as_net_effect (net_write k r.history)) w.1 (w.0.writes k)
