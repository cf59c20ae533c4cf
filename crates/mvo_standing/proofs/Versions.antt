-- The versions of a state are those of its shadow.
use Rattle.std.proofs.Common.{◌≡◌, ◌≢◌, ℕ, ◌<◌, ◌≤◌, Bool, true, false, cond, suc, List, [], ◌∷◌, Option, None, Some, map, refl, sym, ap, ◌∙◌, subst}
use Rattle.std.specs.Prelude.{◌&&◌, ◌==◌, nat_lt, is_some}
use Rattle.std.specs.List.{AllByRecursion, list_any}
use Rattle.std.specs.Option.{option_map}
use Rattle.std.specs.FinMap as fin
use Rattle.mvo_types.specs.declared.row.RowKey.{RowKey}
use Rattle.mvo_types.specs.RowData.{ContentData}
use Rattle.mvo_types.specs.Write.{Effect}
use Rattle.mvo_model.specs.History.{History}
use Rattle.mvo_theory.specs.Ranges.{Row}
use Rattle.mvo_theory.specs.State.{State, StampedTx}
use Rattle.mvo_theory.specs.Claims.{end_or}
use Rattle.mvo_theory.specs.Dependencies.{is_writer, or_later, last_writer}
use Rattle.mvo_theory.proofs.Each.{each_map, each_weaker}
use Rattle.mvo_shared.specs.Shadow.{writing_operations, active_shadow, stamped_shadow, shadow}
use Rattle.mvo_shared.proofs.Shadow.{net_writes, puts_in}
use Rattle.mvo_shadow.proofs.Finds.{phase_alike}
use Rattle.mvo_word.specs.declared.held.Held.{Held}
use Rattle.mvo_word.specs.declared.held.Held.TheVariants.{At, By, Infinity}
use Rattle.mvo_chain.specs.declared.version.Version.{Version}
use Rattle.mvo_visible.specs.Words.{names}
use Rattle.mvo_representation.specs.Words.{Phases, Ends, NetEffect, ends_of, has_stamp, Touch, as_net_effect}
use Rattle.mvo_representation.specs.Words.NetEffect.{Puts}
use Rattle.mvo_representation.specs.Words.Touch.{OnlyPut, PutOrEnded}
use Rattle.mvo_representation.specs.Versions.{history_at, rows_at, rows_by, Say, IsKnownStamp, IsKnown, EndIsClaimed, HasItsClaims, IsInside, AreDrawn, origin_at_start, AreVersionsOf}
use Rattle.mvo_standing.proofs.Each.{each_unmap}

-- ---- what the words say is what was written
history_alike : (e : ℕ) (xs : List StampedTx) → history_at e (map stamped_shadow xs) ≡ writing_operations (history_at e xs)
history_alike e [] = refl
history_alike e (x ∷ xs) = go (x.end == e) (history_alike e xs)
  where
    go : (b : Bool) → history_at e (map stamped_shadow xs) ≡ writing_operations (history_at e xs) → cond b (writing_operations x.history) (history_at e (map stamped_shadow xs)) ≡ writing_operations (cond b x.history (history_at e xs))
    go true h = refl
    go false h = h

rows_alike : (e : ℕ) (xs : List StampedTx) → rows_at e (map stamped_shadow xs) ≡ rows_at e xs
rows_alike e [] = refl
rows_alike e (x ∷ xs) = ap (cond (x.end == e) x.footprint) (rows_alike e xs)

rows_written : (g : Touch) (ts : History) (rows : List Row) → rows_by g (writing_operations ts) rows ≡ rows_by g ts rows
rows_written OnlyPut ts rows = puts_in ts
rows_written PutOrEnded ts rows = refl

say_written : (n : Held → Bool) (ts : History) (rows : List Row) (vs : List Version) → Say n ts rows vs → Say n (writing_operations ts) rows vs
say_written n ts rows vs h = record {
  writes = λ k. h.writes k ∙ ap as_net_effect (sym (net_writes k ts));
  touches = λ g p. h.touches g p ∙ ap (list_any p) (sym (rows_written g ts rows));
}

say_all : (n : Held → Bool) (ts : History) (rows : List Row) (vs : List Version) → Say n (writing_operations ts) rows vs → Say n ts rows vs
say_all n ts rows vs h = record {
  writes = λ k. h.writes k ∙ ap as_net_effect (net_writes k ts);
  touches = λ g p. h.touches g p ∙ ap (list_any p) (rows_written g ts rows);
}

-- ---- the stamp with which a row at the start was put
writer_alike : (k : RowKey) (b : ℕ) (x : StampedTx) → is_writer k b (stamped_shadow x) ≡ is_writer k b x
writer_alike k b x = ap (λ (w : Option Effect). nat_lt x.end b && is_some w) (net_writes k x.history)

later_alike : (n : ℕ) (v : Option StampedTx) (w w' : Option StampedTx) → ((m : ℕ) → end_or m w' ≡ end_or m w) → (v' : Option StampedTx) → ((m : ℕ) → end_or m v' ≡ end_or m v) → end_or n (or_later v' w') ≡ end_or n (or_later v w)
later_alike n v w w' g v' f = by_end v' w' ∙ f' ∙ sym (by_end v w)
  where
    by_end : (u x : Option StampedTx) → end_or n (or_later u x) ≡ end_or (end_or n u) x
    by_end u None = refl
    by_end u (Some y) = refl

    f' : end_or (end_or n v') w' ≡ end_or (end_or n v) w
    f' = g (end_or n v') ∙ ap (λ (m : ℕ). end_or m w) (f n)

last_alike : (n : ℕ) (k : RowKey) (b : ℕ) (xs : List StampedTx) → end_or n (last_writer k b (map stamped_shadow xs)) ≡ end_or n (last_writer k b xs)
last_alike n k b [] = refl
last_alike n k b (x ∷ xs) =
    later_alike n (cond (is_writer k b x) (Some x) None) (last_writer k b xs) (last_writer k b (map stamped_shadow xs)) (λ m. last_alike m k b xs)
    (cond (is_writer k b (stamped_shadow x)) (Some (stamped_shadow x)) None)
    (λ m. ap (λ (c : Bool). end_or m (cond c (Some (stamped_shadow x)) None)) (writer_alike k b x) ∙ one m (is_writer k b x))
  where
    one : (m : ℕ) (c : Bool) → end_or m (cond c (Some (stamped_shadow x)) None) ≡ end_or m (cond c (Some x) None)
    one m true = refl
    one m false = refl

origin_alike : (s : State) (k : RowKey) → origin_at_start (shadow s) k ≡ origin_at_start s k
origin_alike s k = last_alike s.marks.opening k (suc s.start) s.past

opened_alike : (s : State) (k : RowKey) → option_map {U = ℕ × NetEffect} (λ (h : ContentData). (origin_at_start (shadow s) k, Puts h)) (fin.get s.base k) ≡ option_map {U = ℕ × NetEffect} (λ (h : ContentData). (origin_at_start s k, Puts h)) (fin.get s.base k)
opened_alike s k = ap (λ (n : ℕ). option_map {U = ℕ × NetEffect} (λ (h : ContentData). (n, Puts h)) (fin.get s.base k)) (origin_alike s k)

-- ---- timestamps that are known
known_there : (s : State) (e : ℕ) → IsKnownStamp s e → IsKnownStamp (shadow s) e
known_there s e h = record {
  drawn = h.drawn;
  apart = each_map active_shadow (λ r. r.id ≢ e) (λ r. r.id ≢ e) (λ r p. p) s.active h.apart;
  settled = each_map stamped_shadow (λ x. x.settled ≡ false → x.end ≢ e) (λ x. x.settled ≡ false → x.end ≢ e) (λ x p. p) s.stamped h.settled;
}

known_back : (s : State) (e : ℕ) → IsKnownStamp (shadow s) e → IsKnownStamp s e
known_back s e h = record {
  drawn = h.drawn;
  apart = each_unmap active_shadow (λ r. r.id ≢ e) (λ r. r.id ≢ e) (λ r p. p) s.active h.apart;
  settled = each_unmap stamped_shadow (λ x. x.settled ≡ false → x.end ≢ e) (λ x. x.settled ≡ false → x.end ≢ e) (λ x p. p) s.stamped h.settled;
}

word_there : (s : State) (table : Phases) (w : Held) → IsKnown s table w → IsKnown (shadow s) table w
word_there s table (At e) h = known_there s e.0 h
word_there s table (By t) h = h
word_there s table Infinity h = h

word_back : (s : State) (table : Phases) (w : Held) → IsKnown (shadow s) table w → IsKnown s table w
word_back s table (At e) h = known_back s e.0 h
word_back s table (By t) h = h
word_back s table Infinity h = h

-- ---- claims
claims_there : (s : State) (ends : Ends) (v : Version) → HasItsClaims s ends v → HasItsClaims (shadow s) ends v
claims_there s ends v h = λ a put stays. let c = h a put stays in record {
  active = each_map active_shadow (λ r. EndIsClaimed v.row.key a (names r.id) r.claims v.end) (λ r. EndIsClaimed v.row.key a (names r.id) r.claims v.end) (λ r p. p) s.active c.active;
  stamped = each_map stamped_shadow (λ x. EndIsClaimed v.row.key a (has_stamp ends x.end) x.claims v.end) (λ x. EndIsClaimed v.row.key a (has_stamp ends x.end) x.claims v.end) (λ x p. p) s.stamped c.stamped;
}

claims_back : (s : State) (ends : Ends) (v : Version) → HasItsClaims (shadow s) ends v → HasItsClaims s ends v
claims_back s ends v h = λ a put stays. let c = h a put stays in record {
  active = each_unmap active_shadow (λ r. EndIsClaimed v.row.key a (names r.id) r.claims v.end) (λ r. EndIsClaimed v.row.key a (names r.id) r.claims v.end) (λ r p. p) s.active c.active;
  stamped = each_unmap stamped_shadow (λ x. EndIsClaimed v.row.key a (has_stamp ends x.end) x.claims v.end) (λ x. EndIsClaimed v.row.key a (has_stamp ends x.end) x.claims v.end) (λ x p. p) s.stamped c.stamped;
}

-- ---- so the versions are alike
module _ (s : State) (table : Phases) (vs : List Version) where
  -- with a stamp
  abbrev SaysOf : List StampedTx → ℕ → Type 0
  SaysOf xs e = Say (has_stamp (ends_of table) e) (history_at e xs) (rows_at e xs) vs

  says_there : (e : ℕ) → SaysOf s.stamped e → SaysOf (map stamped_shadow s.stamped) e
  says_there e h =
      subst (λ (ts : History). Say (has_stamp (ends_of table) e) ts (rows_at e (map stamped_shadow s.stamped)) vs) (sym (history_alike e s.stamped))
      (subst (λ (rows : List Row). Say (has_stamp (ends_of table) e) (writing_operations (history_at e s.stamped)) rows vs) (sym (rows_alike e s.stamped))
      (say_written (has_stamp (ends_of table) e) (history_at e s.stamped) (rows_at e s.stamped) vs h))

  says_back : (e : ℕ) → SaysOf (map stamped_shadow s.stamped) e → SaysOf s.stamped e
  says_back e h =
      say_all (has_stamp (ends_of table) e) (history_at e s.stamped) (rows_at e s.stamped) vs
      (subst (λ (rows : List Row). Say (has_stamp (ends_of table) e) (writing_operations (history_at e s.stamped)) rows vs) (rows_alike e s.stamped)
      (subst (λ (ts : History). Say (has_stamp (ends_of table) e) ts (rows_at e (map stamped_shadow s.stamped)) vs) (history_alike e s.stamped) h))

  pub versions_there : AreVersionsOf s table vs → AreVersionsOf (shadow s) table vs
  versions_there h = record {
    phases = λ t. h.phases t ∙ sym (phase_alike s t);
    stamped = λ e above. says_there e (h.stamped e above);
    active = each_map active_shadow (λ r. Say (names r.id) r.history r.footprint vs) (λ r. Say (names r.id) r.history r.footprint vs) (λ r p. say_written (names r.id) r.history r.footprint vs p) s.active h.active;
    opened = λ k. h.opened k ∙ sym (opened_alike s k);
    stood = h.stood;
    known = each_weaker (λ v. IsKnown s table v.begin × IsKnown s table v.end) (λ v. IsKnown (shadow s) table v.begin × IsKnown (shadow s) table v.end) (λ v p. (word_there s table v.begin p.0, word_there s table v.end p.1)) vs h.known;
    claims = each_weaker (HasItsClaims s (ends_of table)) (HasItsClaims (shadow s) (ends_of table)) (claims_there s (ends_of table)) vs h.claims;
    forward = h.forward;
    inside = each_weaker (λ v. AllByRecursion (IsInside v) s.active) (λ v. AllByRecursion (IsInside v) (map active_shadow s.active)) (λ v p. each_map active_shadow (IsInside v) (IsInside v) (λ r q. q) s.active p) vs h.inside;
    begun = each_map active_shadow (λ r. s.start ≤ r.id) (λ r. s.start ≤ r.id) (λ r p. p) s.active h.begun;
    behind = each_map active_shadow (λ r. AllByRecursion (λ x. x.end < r.id) s.past) (λ r. AllByRecursion (λ x. x.end < r.id) (map stamped_shadow s.past)) (λ r p. each_map stamped_shadow (λ x. x.end < r.id) (λ x. x.end < r.id) (λ x q. q) s.past p) s.active h.behind;
    begun_stamped = each_map stamped_shadow (λ x. x.settled ≡ false → s.start ≤ x.id) (λ x. x.settled ≡ false → s.start ≤ x.id) (λ x p. p) s.stamped h.begun_stamped;
    committed = λ t e is. known_there s e (h.committed t e is);
    drawn = each_map active_shadow (λ r. AreDrawn s.clock r.claims) (λ r. AreDrawn s.clock r.claims) (λ r p. p) s.active h.drawn;
    drawn_stamped = each_map stamped_shadow (λ x. AreDrawn s.clock x.claims) (λ x. AreDrawn s.clock x.claims) (λ x p. p) s.stamped h.drawn_stamped;
  }

  pub versions_back : AreVersionsOf (shadow s) table vs → AreVersionsOf s table vs
  versions_back h = record {
    phases = λ t. h.phases t ∙ phase_alike s t;
    stamped = λ e above. says_back e (h.stamped e above);
    active = each_unmap active_shadow (λ r. Say (names r.id) r.history r.footprint vs) (λ r. Say (names r.id) r.history r.footprint vs) (λ r p. say_all (names r.id) r.history r.footprint vs p) s.active h.active;
    opened = λ k. h.opened k ∙ opened_alike s k;
    stood = h.stood;
    known = each_weaker (λ v. IsKnown (shadow s) table v.begin × IsKnown (shadow s) table v.end) (λ v. IsKnown s table v.begin × IsKnown s table v.end) (λ v p. (word_back s table v.begin p.0, word_back s table v.end p.1)) vs h.known;
    claims = each_weaker (HasItsClaims (shadow s) (ends_of table)) (HasItsClaims s (ends_of table)) (claims_back s (ends_of table)) vs h.claims;
    forward = h.forward;
    inside = each_weaker (λ v. AllByRecursion (IsInside v) (map active_shadow s.active)) (λ v. AllByRecursion (IsInside v) s.active) (λ v p. each_unmap active_shadow (IsInside v) (IsInside v) (λ r q. q) s.active p) vs h.inside;
    begun = each_unmap active_shadow (λ r. s.start ≤ r.id) (λ r. s.start ≤ r.id) (λ r p. p) s.active h.begun;
    behind = each_unmap active_shadow (λ r. AllByRecursion (λ x. x.end < r.id) s.past) (λ r. AllByRecursion (λ x. x.end < r.id) (map stamped_shadow s.past)) (λ r p. each_unmap stamped_shadow (λ x. x.end < r.id) (λ x. x.end < r.id) (λ x q. q) s.past p) s.active h.behind;
    begun_stamped = each_unmap stamped_shadow (λ x. x.settled ≡ false → s.start ≤ x.id) (λ x. x.settled ≡ false → s.start ≤ x.id) (λ x p. p) s.stamped h.begun_stamped;
    committed = λ t e is. known_back s e (h.committed t e is);
    drawn = each_unmap active_shadow (λ r. AreDrawn s.clock r.claims) (λ r. AreDrawn s.clock r.claims) (λ r p. p) s.active h.drawn;
    drawn_stamped = each_unmap stamped_shadow (λ x. AreDrawn s.clock x.claims) (λ x. AreDrawn s.clock x.claims) (λ x p. p) s.stamped h.drawn_stamped;
  }
