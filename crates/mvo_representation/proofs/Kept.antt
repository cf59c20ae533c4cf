-- A step that others don't see keeps what ties the versions to the state.
use Rattle.std.proofs.Common.{◌≡◌, ℕ, ◌<◌, ◌≤◌, suc, Bool, true, false, cond, ◌||◌, List, [], ◌∷◌, ◌++◌, refl, sym, ap, ◌∙◌}
use Rattle.std.specs.Prelude.{◌&&◌}
use Rattle.std.specs.List.{AllByRecursion, list_any}
use Rattle.std.specs.Ordering.{eq_by_cmp}
use Rattle.mvo_types.specs.declared.row.RowKey.{RowKey}
use Rattle.mvo_types.specs.RowData.{RowData, content_of}
use Rattle.mvo_types.specs.Keys.{key_cmp}
use Rattle.mvo_model.specs.History.{History, net_write}
use Rattle.mvo_model.specs.Trace.Phase.{Committed}
use Rattle.mvo_theory.specs.State.{EndedTx, State, StampedTx, ActiveTx}
use Rattle.mvo_theory.specs.Ranges.{Row}
use Rattle.mvo_theory.specs.Phases.{phase_in}
use Rattle.mvo_theory.proofs.Each.{each_weaker, each_back}
use Rattle.mvo_word.specs.declared.held.Held.{Held}
use Rattle.mvo_chain.specs.declared.version.Version.{Version}
use Rattle.mvo_representation.specs.Words.{Phases, Ends, ends_of, stamp_in, is_stamp, has_stamp, with_effect, effect_by, effect_of, net_effect, Touch, is_touch, touches, is_touched, as_net_effect, standing, is_up_to, is_standing, standing_effect_of, standing_effect}
use Rattle.mvo_visible.specs.Words.{names}
use Rattle.mvo_representation.specs.Words.NetEffect.{Untouched, Puts}
use Rattle.mvo_representation.specs.Versions.{history_at, rows_at, rows_by, Say, IsKnownStamp, IsKnown, AreKnown, HasItsClaims, IsForward, IsInside, AreDrawn, AreVersionsOf}
use Rattle.mvo_representation.proofs.Effects.{with_assoc, with_comm, net_effect-at, is_touched-at}
use Rattle.mvo_representation.proofs.LastChanges.{last_change_same}

-- ---- others see the same
pub record IsSame (start : ℕ) (ends : Ends) (vs : List Version) (ends' : Ends) (vs' : List Version) : Type 0 where
  pub net_effect : (k : RowKey) (e : ℕ) → net_effect (has_stamp ends' e) k vs' ≡ net_effect (has_stamp ends e) k vs
  pub touches : (g : Touch) (p : Row → Bool) (e : ℕ) → is_touched g (has_stamp ends' e) p vs' ≡ is_touched g (has_stamp ends e) p vs
  pub standing_effect : (k : RowKey) → standing_effect ends' start k vs' ≡ standing_effect ends start k vs

pub same_trans : (start : ℕ) (ends : Ends) (us vs ws : List Version) → IsSame start ends us ends vs → IsSame start ends vs ends ws → IsSame start ends us ends ws
same_trans start ends us vs ws a b = record {
  net_effect = λ k e. b.net_effect k e ∙ a.net_effect k e;
  touches = λ g p e. b.touches g p e ∙ a.touches g p e;
  standing_effect = λ k. b.standing_effect k ∙ a.standing_effect k;
}

-- the state after a step that leaves the start, the base and what is past
abbrev pub now_with : State → ℕ → List ActiveTx → List StampedTx → List EndedTx → State
now_with s clock active stamped ended = record s { clock = clock; active = active; stamped = stamped; ended = ended }

-- what the state keeps beside
pub record IsBeside (s : State) (table : Phases) : Type 0 where
  pub begun : AllByRecursion (λ r. s.start ≤ r.id) s.active
  pub behind : AllByRecursion (λ r. AllByRecursion (λ x. x.end < r.id) s.past) s.active
  pub begun_stamped : AllByRecursion (λ x. x.settled ≡ false → s.start ≤ x.id) s.stamped
  pub committed : (t e : ℕ) → table t ≡ Committed e → IsKnownStamp s e
  pub drawn : AllByRecursion (λ r. AreDrawn s.clock r.claims) s.active
  pub drawn_stamped : AllByRecursion (λ x. AreDrawn s.clock x.claims) s.stamped

-- what holds of each version
pub record IsVersion (s : State) (table : Phases) (v : Version) : Type 0 where
  pub known : IsKnown s table v.begin × IsKnown s table v.end
  pub claims : HasItsClaims s (ends_of table) v
  pub forward : IsForward (ends_of table) v
  pub inside : AllByRecursion (IsInside v) s.active

pub each_version : (s : State) (table : Phases) (vs : List Version) → AreVersionsOf s table vs → AllByRecursion (IsVersion s table) vs
each_version s table vs h = go vs h.known h.claims h.forward h.inside
  where
    go : (ws : List Version) → AreKnown s table ws → AllByRecursion (HasItsClaims s (ends_of table)) ws → AllByRecursion (IsForward (ends_of table)) ws → AllByRecursion (λ v. AllByRecursion (IsInside v) s.active) ws → AllByRecursion (IsVersion s table) ws
    go [] a b c d = tt
    go (w ∷ ws) a b c d = (record { known = a.0; claims = b.0; forward = c.0; inside = d.0 }, go ws a.1 b.1 c.1 d.1)

-- a step that others don't see
pub kept_alike : (s : State) (clock : ℕ) (active : List ActiveTx) (stamped : List StampedTx) (ended : List EndedTx) (table table' : Phases) (vs vs' : List Version) → AreVersionsOf s table vs →
    ((t : ℕ) → table' t ≡ phase_in (now_with s clock active stamped ended) t) →
    IsSame s.start (ends_of table) vs (ends_of table') vs' →
    ((e : ℕ) → history_at e stamped ≡ history_at e s.stamped) →
    ((e : ℕ) → rows_at e stamped ≡ rows_at e s.stamped) →
    AllByRecursion (λ r. Say (names r.id) r.history r.footprint vs') active →
    AllByRecursion (IsVersion (now_with s clock active stamped ended) table') vs' →
    IsBeside (now_with s clock active stamped ended) table' →
    AreVersionsOf (now_with s clock active stamped ended) table' vs'
kept_alike s clock active stamped ended table table' vs vs' h ph same ts rs act each b = record {
  phases = ph;
  stamped = λ e lt. let w = h.stamped e lt in record {
    writes = λ k. same.net_effect k e ∙ w.writes k ∙ ap (λ x. as_net_effect (net_write k x)) (sym (ts e));
    touches = λ g p. same.touches g p e ∙ w.touches g p ∙ ap (λ x. list_any p (rows_by g x (rows_at e s.stamped))) (sym (ts e)) ∙ ap (λ x. list_any p (rows_by g (history_at e stamped) x)) (sym (rs e));
  };
  active = act;
  opened = λ k. ap standing (last_change_same (λ e. net_effect (has_stamp (ends_of table') e) k vs') (λ e. net_effect (has_stamp (ends_of table) e) k vs) (suc s.start) (λ e _. same.net_effect k e)) ∙ h.opened k;
  stood = λ k. same.standing_effect k ∙ h.stood k;
  known = each_weaker (IsVersion (now_with s clock active stamped ended) table') (λ v. IsKnown (now_with s clock active stamped ended) table' v.begin × IsKnown (now_with s clock active stamped ended) table' v.end) (λ v i. i.known) vs' each;
  claims = each_weaker (IsVersion (now_with s clock active stamped ended) table') (HasItsClaims (now_with s clock active stamped ended) (ends_of table')) (λ v i. i.claims) vs' each;
  forward = each_weaker (IsVersion (now_with s clock active stamped ended) table') (IsForward (ends_of table')) (λ v i. i.forward) vs' each;
  inside = each_weaker (IsVersion (now_with s clock active stamped ended) table') (λ v. AllByRecursion (IsInside v) active) (λ v i. i.inside) vs' each;
  begun = b.begun;
  behind = b.behind;
  begun_stamped = b.begun_stamped;
  committed = b.committed;
  drawn = b.drawn;
  drawn_stamped = b.drawn_stamped;
}

pub beside : (s : State) (table : Phases) (vs : List Version) → AreVersionsOf s table vs → IsBeside s table
beside s table vs h = record { begun = h.begun; behind = h.behind; begun_stamped = h.begun_stamped; committed = h.committed; drawn = h.drawn; drawn_stamped = h.drawn_stamped }

-- ---- one version changes
abbrev pub is_here : RowKey → Version → Bool
is_here k v = eq_by_cmp key_cmp k v.row.key

pub standing_effect-at : (ends : Ends) (start : ℕ) (k : RowKey) (xs : List Version) (v : Version) (ys : List Version) → standing_effect ends start k (xs ++ v ∷ ys) ≡ with_effect (standing_effect_of ends start k v) (standing_effect ends start k (xs ++ ys))
standing_effect-at ends start k [] v ys = refl
standing_effect-at ends start k (x ∷ xs) v ys =
    ap (with_effect (standing_effect_of ends start k x)) (standing_effect-at ends start k xs v ys)
    ∙ sym (with_assoc (standing_effect_of ends start k x) (standing_effect_of ends start k v) (standing_effect ends start k (xs ++ ys)))
    ∙ ap (λ d. with_effect d (standing_effect ends start k (xs ++ ys))) (with_comm (standing_effect_of ends start k x) (standing_effect_of ends start k v))
    ∙ with_assoc (standing_effect_of ends start k v) (standing_effect_of ends start k x) (standing_effect ends start k (xs ++ ys))

pub stands_same : (ends ends' : Ends) (start : ℕ) (k : RowKey) (v w : Version) → v.row ≡ w.row → is_up_to start (stamp_in ends v.begin) ≡ is_up_to start (stamp_in ends' w.begin) → is_up_to start (stamp_in ends v.end) ≡ is_up_to start (stamp_in ends' w.end) → standing_effect_of ends start k v ≡ standing_effect_of ends' start k w
stands_same ends ends' start k v w r o c =
    ap (λ (x : RowData). cond (eq_by_cmp key_cmp k x.key && is_standing ends start v) (Puts (content_of x)) Untouched) r
    ∙ ap (λ q. cond (eq_by_cmp key_cmp k w.row.key && (q && cond (is_up_to start (stamp_in ends v.end)) false true)) (Puts (content_of w.row)) Untouched) o
    ∙ ap (λ q. cond (eq_by_cmp key_cmp k w.row.key && (is_up_to start (stamp_in ends' w.begin) && cond q false true)) (Puts (content_of w.row)) Untouched) c

-- a version that is changed so that a test on its words gives the same
pub effect_of_like : (n m : Held → Bool) (k : RowKey) (v w : Version) → v.row ≡ w.row → n v.begin ≡ m w.begin → n v.end ≡ m w.end → effect_of n k v ≡ effect_of m k w
effect_of_like n m k v w r o c =
    ap (λ (x : RowData). cond (eq_by_cmp key_cmp k x.key) (effect_by (n v.begin) (n v.end) (content_of x)) Untouched) r
    ∙ ap (λ q. cond (eq_by_cmp key_cmp k w.row.key) (effect_by q (n v.end) (content_of w.row)) Untouched) o
    ∙ ap (λ q. cond (eq_by_cmp key_cmp k w.row.key) (effect_by (m w.begin) q (content_of w.row)) Untouched) c

pub touches_like : (g : Touch) (n m : Held → Bool) (p : Row → Bool) (v w : Version) → v.row ≡ w.row → n v.begin ≡ m w.begin → n v.end ≡ m w.end → touches g n p v ≡ touches g m p w
touches_like g n m p v w r o c =
    ap (λ (x : RowData). is_touch g (n v.begin) (n v.end) && p (x.key, content_of x)) r
    ∙ ap (λ q. is_touch g q (n v.end) && p (w.row.key, content_of w.row)) o
    ∙ ap (λ q. is_touch g (m w.begin) q && p (w.row.key, content_of w.row)) c

pub net_effect_like : (n : Held → Bool) (k : RowKey) (xs : List Version) (v w : Version) (ys : List Version) → v.row ≡ w.row → n v.begin ≡ n w.begin → n v.end ≡ n w.end → net_effect n k (xs ++ w ∷ ys) ≡ net_effect n k (xs ++ v ∷ ys)
net_effect_like n k xs v w ys r o c = net_effect-at n k xs w ys ∙ ap (λ d. with_effect d (net_effect n k (xs ++ ys))) (sym (effect_of_like n n k v w r o c)) ∙ sym (net_effect-at n k xs v ys)

pub is_touched_like : (g : Touch) (n : Held → Bool) (p : Row → Bool) (xs : List Version) (v w : Version) (ys : List Version) → v.row ≡ w.row → n v.begin ≡ n w.begin → n v.end ≡ n w.end → is_touched g n p (xs ++ w ∷ ys) ≡ is_touched g n p (xs ++ v ∷ ys)
is_touched_like g n p xs v w ys r o c = is_touched-at g n p xs w ys ∙ ap (λ b. b || is_touched g n p (xs ++ ys)) (sym (touches_like g n n p v w r o c)) ∙ sym (is_touched-at g n p xs v ys)

pub say_like : (n : Held → Bool) (ts : History) (rows : List Row) (xs : List Version) (v w : Version) (ys : List Version) → v.row ≡ w.row → n v.begin ≡ n w.begin → n v.end ≡ n w.end → Say n ts rows (xs ++ v ∷ ys) → Say n ts rows (xs ++ w ∷ ys)
say_like n ts rows xs v w ys r o c h = record {
  writes = λ k. net_effect_like n k xs v w ys r o c ∙ h.writes k;
  touches = λ g p. is_touched_like g n p xs v w ys r o c ∙ h.touches g p;
}

-- others see the same where its stamps stay
pub same_at : (start : ℕ) (ends : Ends) (xs : List Version) (v w : Version) (ys : List Version) → v.row ≡ w.row → stamp_in ends v.begin ≡ stamp_in ends w.begin → stamp_in ends v.end ≡ stamp_in ends w.end → IsSame start ends (xs ++ v ∷ ys) ends (xs ++ w ∷ ys)
same_at start ends xs v w ys r o c = record {
  net_effect = λ k e. net_effect_like (has_stamp ends e) k xs v w ys r (ap (is_stamp e) o) (ap (is_stamp e) c);
  touches = λ g p e. is_touched_like g (has_stamp ends e) p xs v w ys r (ap (is_stamp e) o) (ap (is_stamp e) c);
  standing_effect = λ k. standing_effect-at ends start k xs w ys ∙ ap (λ d. with_effect d (standing_effect ends start k (xs ++ ys))) (sym (stands_same ends ends start k v w r (ap (is_up_to start) o) (ap (is_up_to start) c))) ∙ sym (standing_effect-at ends start k xs v ys);
}

pub each_changed : {X : Type 0} (P Q : X → Type 0) → ((x : X) → P x → Q x) → (xs : List X) (v w : X) (ys : List X) → Q w → AllByRecursion P (xs ++ v ∷ ys) → AllByRecursion Q (xs ++ w ∷ ys)
each_changed P Q f [] v w ys q h = (q, each_weaker P Q f ys h.1)
each_changed P Q f (x ∷ xs) v w ys q h = (f x h.0, each_changed P Q f xs v w ys q h.1)

pub each_at : {X : Type 0} (P : X → Type 0) (xs : List X) (v : X) (ys : List X) → AllByRecursion P (xs ++ v ∷ ys) → P v
each_at P xs v ys h = (each_back P xs (v ∷ ys) h).0

pub standing_effect_same : (P : Held → Type 0) (ends ends' : Ends) (start : ℕ) (k : RowKey) → ((w : Held) → P w → is_up_to start (stamp_in ends w) ≡ is_up_to start (stamp_in ends' w)) → (vs : List Version) → AllByRecursion (λ v. P v.begin × P v.end) vs → standing_effect ends start k vs ≡ standing_effect ends' start k vs
standing_effect_same P ends ends' start k f [] h = refl
standing_effect_same P ends ends' start k f (v ∷ vs) h =
    ap (λ d. with_effect d (standing_effect ends start k vs)) (stands_same ends ends' start k v v refl (f v.begin h.0.0) (f v.end h.0.1))
    ∙ ap (with_effect (standing_effect_of ends' start k v)) (standing_effect_same P ends ends' start k f vs h.1)
