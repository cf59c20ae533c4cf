-- Claims are of the versions that stand for their transactions: a commit, and an abort of a Preparing one, keep that.
use Rattle.std.proofs.Common.{◌≡◌, ◌≢◌, ℕ, ◌<◌, Bool, true, false, not, ◌||◌, List, [], ◌∷◌, ◌++◌, Option, None, map, refl, sym, ap, ◌∙◌, inl, inr, arith}
use Rattle.std.specs.Prelude.{nat_lt, ◌==◌, ◌&&◌, is_some}
use Rattle.std.specs.List.{AllByRecursion, filter}
use Rattle.std.proofs.lemmas.Bool.{false≢true, true≢false, eqb-true, le-ltb, cases_lt, lt-ltb, ltb-true}
use Rattle.mvo_types.specs.declared.row.RowKey.{RowKey}
use Rattle.mvo_model.specs.History.{History, net_write}
use Rattle.mvo_model.specs.Trace.{Step}
use Rattle.mvo_theory.specs.Entries.{entry_of}
use Rattle.mvo_types.specs.declared.entry.Entry.TheVariants.{Key}
use Rattle.mvo_theory.specs.State.{State, StampedTx, Claim}
use Rattle.mvo_theory.specs.Dependencies.{is_writer, last_writer, has_end}
use Rattle.mvo_theory.specs.Claims.{end_or, origin}
use Rattle.mvo_theory.specs.Causes.{last_end, or_first}
use Rattle.mvo_theory.specs.Changes.{after_commit, with_settled, with_flag, active_with_flag, not_at, after_abort_of_preparing}
use Rattle.mvo_theory.specs.Sound.{IsActive, IsPreparing, IsPlaced, IsPast, IsStarted, IsSound, IsRising, IsClear, IsApart, IsUnchanged, IsDecidedOn, changes}
use Rattle.mvo_theory.specs.Origins.{settled_origin, HaveOrigins, HasOrigins, AreWritten, HaveWrittenClaims}
use Rattle.mvo_theory.proofs.Each.{each_weaker, each_both, each_append, each_front, each_back, each_map}
use Rattle.mvo_theory.proofs.Stamped.{IsOut, each_part}
use Rattle.mvo_theory.proofs.Apart.{IsIn, IsFreeToSettle, each_in, each_entry}
use Rattle.mvo_theory.proofs.Depends.{written_decided}
use Rattle.mvo_theory.proofs.Between.{apart_writer, free_key, written_at}
use Rattle.mvo_theory.proofs.Settle.{rising_before, rising_after}
use Rattle.mvo_theory.proofs.Ends.{spared, out_here}
use Rattle.mvo_theory.proofs.Origins.{last_same, last_filter, last_map, last_kept, settles, same_origin, same_settled, settled_is, origin_is, or_mark}
use Rattle.mvo_theory.proofs.OriginSteps.{Of, OfPreparing, OfSettled, IsBehind, moved}

-- ---- an abort of a Preparing one
-- who doesn't depend on the one with the end e has the same origins without it
origins_without : (s : State) (t e id : ℕ) (ts : History) (ds : List ℕ) (cs : List Claim) → AllByRecursion (λ x. x.end ≡ e → x.settled ≡ false) s.stamped → has_end ds e ≡ false → AllByRecursion (λ o. IsDecidedOn (entry_of o.0) id ds s.base s.stamped) ts → AreWritten ts cs → HaveOrigins (origin s id) cs →
    HaveOrigins (λ k. end_or s.marks.opening (last_writer k id (s.past ++ map (with_flag t e) (filter (not_at e) s.stamped)))) cs
origins_without s t e id ts ds cs alone n decided written h = each_both (λ c. is_some (net_write c.key ts) ≡ true) (λ c. c.origin ≡ origin s id c.key) _ (λ c w q. q ∙ same_origin s.marks.opening s.past s.stamped (map (with_flag t e) (filter (not_at e) s.stamped)) c.key id (still c.key w)) cs written h
  where
    still : (k : RowKey) → is_some (net_write k ts) ≡ true → last_end (is_writer k id) (map (with_flag t e) (filter (not_at e) s.stamped)) ≡ last_end (is_writer k id) s.stamped
    still k w =
        last_map (is_writer k id) (is_writer k id) (with_flag t e) (λ x. refl) (filter (not_at e) s.stamped) (each_in (λ x. is_writer k id (with_flag t e x) ≡ is_writer k id x) (filter (not_at e) s.stamped) (λ x m. refl))
        ∙ last_kept (not_at e) k id ds s.stamped (each_weaker (λ x. x.end ≡ e → x.settled ≡ false) (IsOut (not_at e) ds) (out_here e ds n) s.stamped alone) (written_decided k id ds s.base s.stamped ts w decided)

pub origins_after_abort_of_preparing : (xs : List Step) (s : State) (t e : ℕ) → AllByRecursion (λ x. x.end ≡ e → x.settled ≡ false) s.stamped → IsSound s → HaveWrittenClaims s → HasOrigins s → HasOrigins (after_abort_of_preparing s t e)
origins_after_abort_of_preparing xs s t e alone sound claimed h = record {
  active = each_map (active_with_flag t e) (λ r. IsActive s.base s.stamped s.clock r × (AreWritten r.history r.claims × Of s r)) (Of now) (λ r q n.
      let f = spared t e r.depends_on r.aborted_dependency n in
      origins_without s t e r.id r.history r.depends_on r.claims alone f.1 (q.0.consistent f.0).decided q.1.0 (q.1.1 f.0)) s.active
      (each_both (IsActive s.base s.stamped s.clock) (λ r. AreWritten r.history r.claims × Of s r) _ (λ r a b. (a, b)) s.active sound.active (each_both (λ r. AreWritten r.history r.claims) (Of s) (λ r. AreWritten r.history r.claims × Of s r) (λ r a b. (a, b)) s.active claimed.active h.active));
  preparing = each_map (with_flag t e) (λ x. (x.settled ≡ false → IsPreparing s.base s.stamped x) × (AreWritten x.history x.claims × OfPreparing s x)) (OfPreparing now) (λ x q o n.
      let f = spared t e x.depends_on x.aborted_dependency n in
      origins_without s t e x.id x.history x.depends_on x.claims alone f.1 ((q.0 o).consistent f.0).decided q.1.0 (q.1.1 o f.0)) (filter (not_at e) s.stamped) (each_part (not_at e) _ s.stamped
      (each_both (λ x. x.settled ≡ false → IsPreparing s.base s.stamped x) (λ x. AreWritten x.history x.claims × OfPreparing s x) _ (λ x a b. (a, b)) s.stamped sound.preparing (each_both (λ x. AreWritten x.history x.claims) (OfPreparing s) (λ x. AreWritten x.history x.claims × OfPreparing s x) (λ x a b. (a, b)) s.stamped claimed.stamped h.preparing)));
  settled = each_append (OfSettled now) s.past (map (with_flag t e) (filter (not_at e) s.stamped))
      (each_weaker (OfSettled s) (OfSettled now) keep s.past (each_front (OfSettled s) s.past s.stamped h.settled))
      (each_map (with_flag t e) (OfSettled s) (OfSettled now) keep (filter (not_at e) s.stamped) (each_part (not_at e) (OfSettled s) s.stamped (each_back (OfSettled s) s.past s.stamped h.settled)));
  behind = each_map (with_flag t e) (IsBehind s.past) (IsBehind s.past) (λ x q. q) (filter (not_at e) s.stamped) (each_part (not_at e) (IsBehind s.past) s.stamped h.behind);
}
  where
    now : State
    now = after_abort_of_preparing s t e

    not_false : (b : Bool) → not b ≡ false → b ≡ true
    not_false true q = refl
    not_false false q = absurd (true≢false q)

    out : (k : RowKey) (b : ℕ) (x : StampedTx) → (x.end ≡ e → x.settled ≡ false) → (not_at e x && settles k b x) ≡ settles k b x
    out k b x f = go (not_at e x) refl
      where
        go : (c : Bool) → not_at e x ≡ c → (c && settles k b x) ≡ settles k b x
        go true q = refl
        go false q = sym (ap (λ (a : Bool). a && is_writer k b x) (f (eqb-true x.end e (not_false (x.end == e) q))))

    still : (k : RowKey) (b : ℕ) → last_end (settles k b) (map (with_flag t e) (filter (not_at e) s.stamped)) ≡ last_end (settles k b) s.stamped
    still k b =
        last_map (settles k b) (settles k b) (with_flag t e) (λ x. refl) (filter (not_at e) s.stamped) (each_in (λ x. settles k b (with_flag t e x) ≡ settles k b x) (filter (not_at e) s.stamped) (λ x m. refl))
        ∙ last_filter (settles k b) (not_at e) s.stamped ∙ last_same (λ x. not_at e x && settles k b x) (settles k b) s.stamped (each_weaker (λ x. x.end ≡ e → x.settled ≡ false) (λ x. (not_at e x && settles k b x) ≡ settles k b x) (out k b) s.stamped alone)

    keep : (x : StampedTx) → OfSettled s x → OfSettled (after_abort_of_preparing s t e) x
    keep x q o = moved (settled_origin s x.end) (settled_origin (after_abort_of_preparing s t e) x.end) x.claims (λ k. same_settled s.marks.opening s.past s.stamped (map (with_flag t e) (filter (not_at e) s.stamped)) k x.end (still k x.end)) (q o)

-- ---- a commit
-- of two of these, an earlier one that isn't settled leaves alone where a later one that is looked
pub clear_pairs : (xs : List StampedTx) → IsRising xs → IsClear xs → AllByRecursion (λ y. AllByRecursion (λ z. z.settled ≡ false → y.settled ≡ true → z.end < y.end → IsApart z y.history) xs) xs
clear_pairs [] r c = tt
clear_pairs (x ∷ xs) r c = (
  (λ o q lt. absurd (omega arith), each_weaker (λ z. x.end < z.end) (λ z. z.settled ≡ false → x.settled ≡ true → z.end < x.end → IsApart z x.history) (λ z above o q lt. absurd (omega arith)) xs r.0),
  each_in (λ y. (x.settled ≡ false → y.settled ≡ true → x.end < y.end → IsApart x y.history) × AllByRecursion (λ z. z.settled ≡ false → y.settled ≡ true → z.end < y.end → IsApart z y.history) xs) xs
      (λ y m. ((λ o q lt. m (λ u. u.settled ≡ true → IsApart x u.history) (c.0 o) q), m (λ v. AllByRecursion (λ z. z.settled ≡ false → v.settled ≡ true → z.end < v.end → IsApart z v.history) xs) (clear_pairs xs r.1 c.1))),
)

-- who has the end of x is x
pub alone_at : (before after : List StampedTx) (x : StampedTx) → IsRising (before ++ x ∷ after) → (P : StampedTx → Type 0) → P x → AllByRecursion (λ y. y.end ≡ x.end → P y) (before ++ x ∷ after)
alone_at before after x r P h = each_append (λ y. y.end ≡ x.end → P y) before (x ∷ after)
    (each_weaker (λ y. y.end < x.end) (λ y. y.end ≡ x.end → P y) (λ y lt e. absurd (omega arith)) before (rising_before before after x r))
    (λ _. h, each_weaker (λ y. x.end < y.end) (λ y. y.end ≡ x.end → P y) (λ y lt e. absurd (omega arith)) after (rising_after before after x r))

and_none : (a b : Bool) → (a && (b && false)) ≡ false
and_none true true = refl
and_none true false = refl
and_none false b = refl

pub or_true : (b : Bool) → (b || true) ≡ true
or_true true = refl
or_true false = refl

-- a writer of the key counts for the one that settles just if it ended before that began
counts_same : (k : RowKey) (b e : ℕ) (y : StampedTx) → b < e → y.end ≢ b → (y.settled ≡ false → y.end < b → net_write k y.history ≡ None) → (b < y.end → y.end < e → changes (Key k) y ≡ false) → ((y.settled || (y.end == e)) && (nat_lt y.end e && is_some (net_write k y.history))) ≡ (nat_lt y.end b && is_some (net_write k y.history))
counts_same k b e y lt ne free same = go (is_some (net_write k y.history)) refl
  where
    settled : y.end < b → (c : Bool) → y.settled ≡ c → is_some (net_write k y.history) ≡ true → c ≡ true
    settled l true o w = refl
    settled l false o w = absurd (false≢true (sym (ap is_some (free o l)) ∙ w))

    before : y.end < b → is_some (net_write k y.history) ≡ true → ((y.settled || (y.end == e)) && (nat_lt y.end e && true)) ≡ (nat_lt y.end b && true)
    before l w = ap (λ (c : Bool). (c || (y.end == e)) && (nat_lt y.end e && true)) (settled l y.settled refl w) ∙ ap (λ (c : Bool). c && true) (lt-ltb y.end e (omega arith) ∙ sym (lt-ltb y.end b l))

    behind : b < y.end → is_some (net_write k y.history) ≡ true → ((y.settled || (y.end == e)) && (nat_lt y.end e && true)) ≡ (nat_lt y.end b && true)
    behind l w = elim (cases_lt y.end e) [
      | inl under ↦ absurd (false≢true (sym (same l under) ∙ w))
      | inr above ↦ ap (λ (c : Bool). (y.settled || (y.end == e)) && (c && true)) (le-ltb y.end e above) ∙ and_none (y.settled || (y.end == e)) false ∙ sym (ap (λ (c : Bool). c && true) (le-ltb y.end b (omega arith)))
    ]

    go : (w : Bool) → is_some (net_write k y.history) ≡ w → ((y.settled || (y.end == e)) && (nat_lt y.end e && w)) ≡ (nat_lt y.end b && w)
    go false q = and_none (y.settled || (y.end == e)) (nat_lt y.end e) ∙ sym (and_last (nat_lt y.end b))
      where
        and_last : (c : Bool) → (c && false) ≡ false
        and_last true = refl
        and_last false = refl
    go true q = elim (cases_lt y.end b) [ inl l ↦ before l q | inr l ↦ behind (omega arith) q ]

-- another that was settled: who settles now wrote nothing where it looked
others_same : (k : RowKey) (b e : ℕ) (z : StampedTx) → (z.settled ≡ false → z.end < b → is_some (net_write k z.history) ≡ false) → ((z.settled || (z.end == e)) && (nat_lt z.end b && is_some (net_write k z.history))) ≡ (z.settled && (nat_lt z.end b && is_some (net_write k z.history)))
others_same k b e z f = go z.settled refl
  where
    none : (c : Bool) → nat_lt z.end b ≡ c → z.settled ≡ false → (c && is_some (net_write k z.history)) ≡ false
    none true l o = f o (ltb-true z.end b l)
    none false l o = refl

    over : (a b : Bool) → b ≡ false → (a && b) ≡ false
    over true b q = q
    over false b q = refl

    go : (c : Bool) → z.settled ≡ c → ((c || (z.end == e)) && (nat_lt z.end b && is_some (net_write k z.history))) ≡ (c && (nat_lt z.end b && is_some (net_write k z.history)))
    go true o = refl
    go false o = over (z.end == e) (nat_lt z.end b && is_some (net_write k z.history)) (none (nat_lt z.end b) refl o)

-- what the one that settles claimed, among the settled ones
origins_of_settling : (xs : List Step) (s : State) (t : ℕ) (x : StampedTx) → IsIn x s.stamped → x.settled ≡ false → x.valid ≡ true → x.aborted_dependency ≡ None → IsFreeToSettle s.stamped x.depends_on → IsSound s → IsStarted s → HaveWrittenClaims s → HasOrigins s →
    HaveOrigins (settled_origin (after_commit s t x.end) x.end) x.claims
origins_of_settling xs s t x m o v n free sound p claimed h = each_both (λ c. is_some (net_write c.key x.history) ≡ true) (λ c. c.origin ≡ origin s x.id c.key) (λ c. c.origin ≡ settled_origin (after_commit s t x.end) x.end c.key) (λ c w q. q ∙ same c.key w) x.claims
    (m (λ y. AreWritten y.history y.claims) claimed.stamped) (m (OfPreparing s) h.preparing o n)
  where
    placed : IsPlaced s.stamped s.clock x
    placed = m (IsPlaced s.stamped s.clock) sound.placed

    mine : IsPreparing s.base s.stamped x
    mine = m (λ y. y.settled ≡ false → IsPreparing s.base s.stamped y) sound.preparing o

    in_past : (k : RowKey) → AllByRecursion (λ z. is_writer k x.id z ≡ settles k x.end z) s.past
    in_past k = each_both (IsPast s.start) (λ z. z.end < x.id) (λ z. is_writer k x.id z ≡ settles k x.end z)
        (λ z u lt. ap (λ (c : Bool). c && is_some (net_write k z.history)) (lt-ltb z.end x.id lt ∙ sym (lt-ltb z.end x.end (let b = placed.begun in omega arith))) ∙ sym (ap (λ (c : Bool). c && is_writer k x.end z) u.settled)) s.past p.past (m (IsBehind s.past) h.behind o)

    in_stamped : (k : RowKey) → is_some (net_write k x.history) ≡ true → AllByRecursion (λ y. settles k x.end (with_settled x.end y) ≡ is_writer k x.id y) s.stamped
    in_stamped k w = each_both (λ y. y.end ≢ x.id) (λ y. (y.settled ≡ false → y.end < x.id → net_write k y.history ≡ None) × (x.id < y.end → y.end < x.end → changes (Key k) y ≡ false)) (λ y. settles k x.end (with_settled x.end y) ≡ is_writer k x.id y)
        (λ y ne q. counts_same k x.id x.end y placed.begun ne q.0 q.1) s.stamped placed.others
        (each_both (λ y. y.settled ≡ false → y.end < x.id → net_write k y.history ≡ None) (λ y. x.id < y.end → y.end < x.end → changes (Key k) y ≡ false) _ (λ y a b. (a, b)) s.stamped
        (free_key k x.id x.depends_on s.stamped (written_decided k x.id x.depends_on s.base s.stamped x.history w (mine.consistent n).decided) sound.clear free)
        (written_at (IsUnchanged s.stamped x.id x.end) k x.history (each_entry (IsUnchanged s.stamped x.id x.end) x.history (mine.valid v)) w))

    same : (k : RowKey) → is_some (net_write k x.history) ≡ true → origin s x.id k ≡ settled_origin (after_commit s t x.end) x.end k
    same k w =
        origin_is s.marks.opening s.past s.stamped k x.id
        ∙ ap (λ (u : Option ℕ). or_mark s.marks.opening (or_first u (last_end (is_writer k x.id) s.stamped))) (last_same (is_writer k x.id) (settles k x.end) s.past (in_past k))
        ∙ ap (λ (u : Option ℕ). or_mark s.marks.opening (or_first (last_end (settles k x.end) s.past) u)) (sym (last_map (settles k x.end) (is_writer k x.id) (with_settled x.end) (λ y. refl) s.stamped (in_stamped k w)))
        ∙ sym (settled_is s.marks.opening s.past (map (with_settled x.end) s.stamped) k x.end)

-- another that was settled has the same origins
origins_of_settled : (xs : List Step) (s : State) (t e : ℕ) (mark : ℕ) (y : StampedTx) → AreWritten y.history y.claims → AllByRecursion (λ z. z.settled ≡ false → z.end < y.end → IsApart z y.history) s.stamped → HaveOrigins (settled_origin s y.end) y.claims →
    HaveOrigins (settled_origin (after_commit s t e) y.end) y.claims
origins_of_settled xs s t e mark y claimed apart h = each_both (λ c. is_some (net_write c.key y.history) ≡ true) (λ c. c.origin ≡ settled_origin s y.end c.key) (λ c. c.origin ≡ settled_origin (after_commit s t e) y.end c.key) (λ c w q. q ∙ same c.key w) y.claims claimed h
  where
    same : (k : RowKey) → is_some (net_write k y.history) ≡ true → settled_origin s y.end k ≡ settled_origin (after_commit s t e) y.end k
    same k w = same_settled s.marks.opening s.past s.stamped (map (with_settled e) s.stamped) k y.end
        (last_map (settles k y.end) (settles k y.end) (with_settled e) (λ z. refl) s.stamped (each_weaker (λ z. z.settled ≡ false → z.end < y.end → IsApart z y.history) (λ z. settles k y.end (with_settled e z) ≡ settles k y.end z)
        (λ z q. others_same k y.end e z (λ o lt. ap is_some (apart_writer k z y.history (q o lt) w))) s.stamped apart))

pub origins_after_commit : (xs : List Step) (s : State) (t : ℕ) (x : StampedTx) → IsIn x s.stamped → ((P : StampedTx → Type 0) → P x → AllByRecursion (λ y. y.end ≡ x.end → P y) s.stamped) → x.settled ≡ false → x.valid ≡ true → x.aborted_dependency ≡ None → IsFreeToSettle s.stamped x.depends_on → IsSound s → IsStarted s → HaveWrittenClaims s → HasOrigins s →
    HasOrigins (after_commit s t x.end)
origins_after_commit xs s t x m alone o v n free sound p claimed h = record {
  active = each_weaker (Of s) (Of now) (λ r q f. moved (origin s r.id) (origin now r.id) r.claims (λ k. still k r.id) (q f)) s.active h.active;
  preparing = each_map (with_settled x.end) (OfPreparing s) (OfPreparing now) (λ y q a f. moved (origin s y.id) (origin now y.id) y.claims (λ k. still k y.id) (q (open_of y.settled (y.end == x.end) a) f)) s.stamped h.preparing;
  settled = each_append (OfSettled now) s.past (map (with_settled x.end) s.stamped)
      (each_both (IsPast s.start) (λ y. AreWritten y.history y.claims × OfSettled s y) (OfSettled now) (λ y u q a. origins_of_settled xs s t x.end s.marks.opening y q.0 (each_weaker (λ z. s.start < z.end) (λ z. z.settled ≡ false → z.end < y.end → IsApart z y.history) (λ z l _ lt. absurd (let b = u.until in omega arith)) s.stamped p.later) (q.1 a)) s.past p.past
      (each_both (λ y. AreWritten y.history y.claims) (OfSettled s) _ (λ y a b. (a, b)) s.past claimed.past (each_front (OfSettled s) s.past s.stamped h.settled)))
      (each_map (with_settled x.end) (λ y. (y.end ≡ x.end → OfNow y) × (AreWritten y.history y.claims × (AllByRecursion (λ z. z.settled ≡ false → y.settled ≡ true → z.end < y.end → IsApart z y.history) s.stamped × OfSettled s y))) (OfSettled now) (λ y q a. settling y q.0 q.1.0 q.1.1.0 q.1.1.1 y.settled refl (y.end == x.end) refl a) s.stamped
      (each_both (λ y. y.end ≡ x.end → OfNow y) (λ y. AreWritten y.history y.claims × (AllByRecursion (λ z. z.settled ≡ false → y.settled ≡ true → z.end < y.end → IsApart z y.history) s.stamped × OfSettled s y)) _ (λ y a b. (a, b)) s.stamped
      (alone OfNow (origins_of_settling xs s t x m o v n free sound p claimed h))
      (each_both (λ y. AreWritten y.history y.claims) (λ y. AllByRecursion (λ z. z.settled ≡ false → y.settled ≡ true → z.end < y.end → IsApart z y.history) s.stamped × OfSettled s y) _ (λ y a b. (a, b)) s.stamped claimed.stamped
      (each_both (λ y. AllByRecursion (λ z. z.settled ≡ false → y.settled ≡ true → z.end < y.end → IsApart z y.history) s.stamped) (OfSettled s) _ (λ y a b. (a, b)) s.stamped (clear_pairs s.stamped sound.rising sound.clear) (each_back (OfSettled s) s.past s.stamped h.settled)))));
  behind = each_map (with_settled x.end) (IsBehind s.past) (IsBehind s.past) (λ y q a. q (open_of y.settled (y.end == x.end) a)) s.stamped h.behind;
}
  where
    now : State
    now = after_commit s t x.end

    OfNow : StampedTx → Type 0
    OfNow y = HaveOrigins (settled_origin (after_commit s t x.end) y.end) y.claims

    open_of : (a b : Bool) → (a || b) ≡ false → a ≡ false
    open_of true b q = absurd (true≢false q)
    open_of false b q = refl

    still : (k : RowKey) (b : ℕ) → origin s b k ≡ origin (after_commit s t x.end) b k
    still k b = same_origin s.marks.opening s.past s.stamped (map (with_settled x.end) s.stamped) k b (last_map (is_writer k b) (is_writer k b) (with_settled x.end) (λ y. refl) s.stamped (each_in (λ y. is_writer k b (with_settled x.end y) ≡ is_writer k b y) s.stamped (λ y i. refl)))

    settling : (y : StampedTx) → (y.end ≡ x.end → HaveOrigins (settled_origin (after_commit s t x.end) y.end) y.claims) → AreWritten y.history y.claims → AllByRecursion (λ z. z.settled ≡ false → y.settled ≡ true → z.end < y.end → IsApart z y.history) s.stamped → OfSettled s y →
        (a : Bool) → y.settled ≡ a → (b : Bool) → (y.end == x.end) ≡ b → (a || b) ≡ true → HaveOrigins (settled_origin (after_commit s t x.end) y.end) y.claims
    settling y f c apart q true a b e g = origins_of_settled xs s t x.end s.marks.opening y c (each_weaker (λ z. z.settled ≡ false → y.settled ≡ true → z.end < y.end → IsApart z y.history) (λ z. z.settled ≡ false → z.end < y.end → IsApart z y.history) (λ z w u. w u a) s.stamped apart) (q a)
    settling y f c apart q false a true e g = f (eqb-true y.end x.end e)
    settling y f c apart q false a false e g = absurd (false≢true g)
