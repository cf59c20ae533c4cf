-- A settled transaction claims what stands for it and what it writes.
use Rattle.std.proofs.Common.{◌≡◌, ℕ, ◌<◌, Bool, true, false, cond, ◌||◌, List, [], ◌∷◌, ◌++◌, Option, None, Some, refl, sym, ap, ◌∙◌, subst, arith}
use Rattle.std.specs.Prelude.{◌==◌, ◌&&◌, is_some}
use Rattle.std.specs.List.{AllByRecursion, list_any}
use Rattle.std.specs.Ordering.{eq_by_cmp}
use Rattle.std.specs.FinMap as fin
use Rattle.std.proofs.lemmas.Bool.{false≢true, lt-ltb, eq-eqb, le-ltb}
use Rattle.mvo_types.specs.declared.row.RowKey.{RowKey}
use Rattle.mvo_types.specs.declared.op.Op.{Op}
use Rattle.mvo_types.specs.declared.op.Op.TheVariants.{Read, Scan, Insert, Update, Delete}
use Rattle.mvo_types.specs.Keys.{Map, key_cmp}
use Rattle.mvo_types.specs.RowData.{content_of}
use Rattle.mvo_types.specs.Write.{Effect, content_after_last}
use Rattle.mvo_types.specs.Write.Effect.{Put}
use Rattle.mvo_types.specs.AnswerData.{AnswerData}
use Rattle.mvo_types.specs.AnswerData.AnswerData.{Inserted, Exists, Updated, Deleted, Absent}
use Rattle.mvo_model.specs.Serial.{answer_to}
use Rattle.mvo_model.specs.History.{History, write_of, write_at, later, net_write, AreSerial, after_write, after_history}
use Rattle.mvo_model.proofs.Serials.{get-after_write, after_history-append, rows_after-told}
use Rattle.mvo_theory.specs.State.{StampedTx, Claim, timeline, history_below, seen_by}
use Rattle.mvo_theory.specs.Claims.{ended_key, has_claim}
use Rattle.mvo_theory.specs.Claimed.{HasClaims, is_ended_first}
use Rattle.mvo_theory.specs.Sound.{IsRising, IsLegal}
use Rattle.mvo_theory.specs.Origins.{settled_ones, settled_origin, settled_rows, HaveOrigins}
use Rattle.mvo_theory.specs.StandingClaims.{ClaimsIfStanding, SettledClaim}
use Rattle.mvo_theory.proofs.Each.{each_both, each_append}
use Rattle.mvo_theory.proofs.AfterTrace.{rising_all}
use Rattle.mvo_theory.proofs.Footprints.{key_same, none_unless}
use Rattle.mvo_theory.proofs.Tales.{legal_append}

-- ---- the first answer that writes a row that stands ends it
at_key : (k j : RowKey) (h : Effect) → is_some (write_at k (Some (j, h))) ≡ true → k ≡ j
at_key k j h e = go (eq_by_cmp key_cmp k j) refl e
  where
    go : (b : Bool) → eq_by_cmp key_cmp k j ≡ b → is_some (cond b (Some h) None) ≡ true → k ≡ j
    go true q f = sym (key_same k j q)
    go false q f = absurd (false≢true f)

ends_it : (op : Op) (a : AnswerData) (m : Map) (k : RowKey) → a ≡ answer_to op m → fin.contains_key m k ≡ true → is_some (write_at k (write_of op a)) ≡ true → is_some (ended_key op a) ≡ true
ends_it (Read j) a m k e c w = absurd (false≢true w)
ends_it (Scan t lo hi) a m k e c w = absurd (false≢true w)
ends_it (Insert r) a m k e c w = go (fin.contains_key m r.key) refl e
  where
    go : (b : Bool) → fin.contains_key m r.key ≡ b → a ≡ cond b Exists Inserted → is_some (ended_key (Insert r) a) ≡ true
    go true q f = absurd (false≢true (subst (λ (v : AnswerData). is_some (write_at k (write_of (Insert r) v)) ≡ true) f w))
    go false q f = absurd (false≢true (sym q ∙ sym (ap (fin.contains_key m) (at_key k r.key (Put (content_of r)) (subst (λ (v : AnswerData). is_some (write_at k (write_of (Insert r) v)) ≡ true) f w))) ∙ c))
ends_it (Update r) a m k e c w = go (fin.contains_key m r.key) e
  where
    go : (b : Bool) → a ≡ cond b Updated Absent → is_some (ended_key (Update r) a) ≡ true
    go true f = ap (λ (v : AnswerData). is_some (ended_key (Update r) v)) f
    go false f = absurd (false≢true (subst (λ (v : AnswerData). is_some (write_at k (write_of (Update r) v)) ≡ true) f w))
ends_it (Delete j) a m k e c w = go (fin.contains_key m j) e
  where
    go : (b : Bool) → a ≡ cond b Deleted Absent → is_some (ended_key (Delete j) a) ≡ true
    go true f = ap (λ (v : AnswerData). is_some (ended_key (Delete j) v)) f
    go false f = absurd (false≢true (subst (λ (v : AnswerData). is_some (write_at k (write_of (Delete j) v)) ≡ true) f w))

pub ended_first : (k : RowKey) (ts : History) (m : Map) → AreSerial ts m → is_some (fin.get m k) ≡ true → is_some (net_write k ts) ≡ true → is_ended_first k ts ≡ true
ended_first k [] m s c w = absurd (false≢true w)
ended_first k (t ∷ ts) m s c w = go (is_some (write_at k (write_of t.0 t.1))) refl (λ n d v. ended_first k ts n d v)
  where
    left : (a b : Option Effect) → is_some b ≡ false → is_some (later a b) ≡ true → is_some a ≡ true
    left None b q f = absurd (false≢true (sym q ∙ f))
    left (Some h) b q f = refl

    go : (b : Bool) → is_some (write_at k (write_of t.0 t.1)) ≡ b → ((n : Map) → AreSerial ts n → is_some (fin.get n k) ≡ true → is_some (net_write k ts) ≡ true → is_ended_first k ts ≡ true) → cond b (is_some (ended_key t.0 t.1)) (is_ended_first k ts) ≡ true
    go true q r = ends_it t.0 t.1 m k s.0 c q
    go false q r =
        let same = none_unless (write_at k (write_of t.0 t.1)) q in
        r (after_write (write_of t.0 t.1) m) (subst (AreSerial ts) (rows_after-told t.0 t.1 m s.0) s.1)
        (ap is_some (get-after_write k (write_of t.0 t.1) m ∙ ap (λ (v : Option Effect). content_after_last v (fin.get m k)) same) ∙ c)
        (left (net_write k ts) (write_at k (write_of t.0 t.1)) q w)

-- ---- the rows on which each is serial
none_below : (b : ℕ) (xs : List StampedTx) → AllByRecursion (λ x. b < x.end) xs → history_below b (settled_ones xs) ≡ []
none_below b [] h = refl
none_below b (x ∷ xs) h = go x.settled (none_below b xs h.1)
  where
    go : (c : Bool) → history_below b (settled_ones xs) ≡ [] → history_below b (cond c (x ∷ settled_ones xs) (settled_ones xs)) ≡ []
    go true r = ap (λ (d : Bool). cond d x.history [] ++ history_below b (settled_ones xs)) (le-ltb x.end b (let l = h.0 in omega arith)) ∙ r
    go false r = r

-- this one and those behind it, from the rows before
rows_first : (x : StampedTx) (xs : List StampedTx) (m : Map) → AllByRecursion (λ y. x.end < y.end) xs → seen_by m (settled_ones (x ∷ xs)) x.end ≡ m
rows_first x xs m above = go x.settled
  where
    go : (c : Bool) → after_history (history_below x.end (cond c (x ∷ settled_ones xs) (settled_ones xs))) m ≡ m
    go true = ap (λ (d : Bool). after_history (cond d x.history [] ++ history_below x.end (settled_ones xs)) m) (le-ltb x.end x.end (omega arith)) ∙ ap (λ ts. after_history ts m) (none_below x.end xs above)
    go false = ap (λ ts. after_history ts m) (none_below x.end xs above)

rows_next : (x y : StampedTx) (xs : List StampedTx) (m : Map) → x.end < y.end → seen_by m (settled_ones (x ∷ xs)) y.end ≡ seen_by (after_history (cond x.settled x.history []) m) (settled_ones xs) y.end
rows_next x y xs m lt = go x.settled
  where
    go : (c : Bool) → after_history (history_below y.end (cond c (x ∷ settled_ones xs) (settled_ones xs))) m ≡ after_history (history_below y.end (settled_ones xs)) (after_history (cond c x.history []) m)
    go true = ap (λ (d : Bool). after_history (cond d x.history [] ++ history_below y.end (settled_ones xs)) m) (lt-ltb x.end y.end lt) ∙ after_history-append x.history (history_below y.end (settled_ones xs)) m
    go false = refl

pub all_serial : (m : Map) (xs : List StampedTx) → IsRising xs → IsLegal m xs → AllByRecursion (λ x. x.settled ≡ true → AreSerial x.history (seen_by m (settled_ones xs) x.end)) xs
all_serial m [] r h = tt
all_serial m (x ∷ xs) r h = (
  λ o. subst (AreSerial x.history) (sym (rows_first x xs m r.0)) (h.0 o).0,
  each_both (λ y. x.end < y.end) (λ y. y.settled ≡ true → AreSerial y.history (seen_by (after_history (cond x.settled x.history []) m) (settled_ones xs) y.end)) (λ y. y.settled ≡ true → AreSerial y.history (seen_by m (settled_ones (x ∷ xs)) y.end))
      (λ y lt q o. subst (AreSerial y.history) (sym (rows_next x y xs m lt)) (q o)) xs r.0 (all_serial (after_history (cond x.settled x.history []) m) xs r.1 h.1),
)

-- ---- the claim
pub claim_of : (f : RowKey → ℕ) (k : RowKey) (cs : List Claim) → HaveOrigins f cs → list_any (λ c. eq_by_cmp key_cmp k c.key) cs ≡ true → has_claim cs k (f k) ≡ true
claim_of f k [] h e = absurd (false≢true e)
claim_of f k (c ∷ cs) h e = go (eq_by_cmp key_cmp k c.key) refl e (claim_of f k cs h.1)
  where
    over : (a b : Bool) → b ≡ true → (a || b) ≡ true
    over true b q = refl
    over false b q = q

    left : (a b : Bool) → a ≡ true → (a || b) ≡ true
    left true b q = refl
    left false b q = absurd (false≢true q)

    go : (b : Bool) → eq_by_cmp key_cmp k c.key ≡ b → (b || list_any (λ d. eq_by_cmp key_cmp k d.key) cs) ≡ true → (list_any (λ d. eq_by_cmp key_cmp k d.key) cs ≡ true → has_claim cs k (f k) ≡ true) →
        ((b && (c.origin == f k)) || has_claim cs k (f k)) ≡ true
    go true q g r = left (c.origin == f k) (has_claim cs k (f k)) (eq-eqb c.origin (f k) (h.0 ∙ ap f (key_same k c.key q)))
    go false q g r = r g

pub settled_claim : SettledClaim
settled_claim opening steps s k h =
    each_both (λ x. HasClaims s.marks.opening steps x.id x.history x.claims) (λ x. (x.settled ≡ true → AreSerial x.history (settled_rows opening s x.end)) × (x.settled ≡ true → HaveOrigins (settled_origin s x.end) x.claims)) (ClaimsIfStanding opening s k)
    (λ x c q o w there. claim_of (settled_origin s x.end) k x.claims (q.1 o) (c.complete k (ended_first k x.history (settled_rows opening s x.end) (q.0 o) there w))) (timeline s)
    (each_append (λ x. HasClaims s.marks.opening steps x.id x.history x.claims) s.past s.stamped h.claimed.past h.claimed.stamped)
    (each_both (λ x. x.settled ≡ true → AreSerial x.history (settled_rows opening s x.end)) (λ x. x.settled ≡ true → HaveOrigins (settled_origin s x.end) x.claims) _ (λ x a b. (a, b)) (timeline s)
    (all_serial opening (timeline s) (rising_all s h.sound h.started) (legal_append opening s.past s.stamped h.after_trace.legal (subst (λ (m : Map). IsLegal m s.stamped) h.after_trace.base h.sound.legal))) h.origins.settled)
