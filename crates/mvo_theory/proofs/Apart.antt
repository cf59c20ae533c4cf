-- At a settlement: who is before and isn't settled leaves alone where the settling one looked.
use Rattle.std.proofs.Common.{◌≡◌, ◌≢◌, ℕ, ◌<◌, Bool, true, false, cond, ◌||◌, List, [], ◌∷◌, ◌++◌, None, refl, sym, ap, ◌∙◌, subst, ◌⊎◌, inl, inr, arith}
use Rattle.std.specs.Prelude.{nat_lt, ◌==◌, ◌&&◌, is_some}
use Rattle.std.specs.FinMap as fin
use Rattle.std.specs.List.{AllByRecursion, list_any}
use Rattle.std.proofs.lemmas.Bool.{lt-ltb, false≢true, and_from, and_parts, eqb-true, cases_lt}
use Rattle.mvo_types.specs.declared.row.RowKey.{RowKey}
use Rattle.mvo_types.specs.declared.op.Op.{Op}
use Rattle.mvo_types.specs.Keys.{Map}
use Rattle.mvo_types.specs.AnswerData.{AnswerData}
use Rattle.mvo_model.specs.History.{History, net_write}
use Rattle.mvo_types.specs.declared.entry.Entry.{Entry}
use Rattle.mvo_types.specs.Entries.{is_same, has_entry, with_entry}
use Rattle.mvo_theory.specs.Entries.{entry_of, entries_from, entries}
use Rattle.mvo_theory.specs.Ranges.{Row, shows, pass, footprint_of, puts, is_row_of}
use Rattle.mvo_theory.specs.State.{StampedTx, seen_by}
use Rattle.mvo_theory.specs.Dependencies.{has_end, is_put_below, counts_for}
use Rattle.mvo_theory.specs.Sound.{IsDecidedOn, changes, IsUnchanged, LeavesAlone, IsApart, IsClear, IsConsistent, IsPreparing, IsPlaced}
use Rattle.mvo_theory.proofs.Each.{each_weaker, each_both, each_front, each_back}
use Rattle.mvo_theory.proofs.Looks.{key_is}
use Rattle.mvo_theory.proofs.Footprints.{none_unless, or_left, or_right, any_none, footprint_source}
use Rattle.mvo_theory.proofs.Counts.{seen_counts, counts_later}
use Rattle.mvo_theory.proofs.Between.{free_key}
use Rattle.mvo_types.specs.declared.entry.Entry.TheVariants.{Key, Range}

-- ---- what holds of each entry holds at each operation
pub same_entry : (e d : Entry) → is_same e d ≡ true → e ≡ d
same_entry (Key k) (Key j) h =
    let p = and_parts (k.table == j.table) (k.key == j.key) h in
    ap (λ n. Key (record { table = n; key = k.key })) (eqb-true k.table j.table p.0) ∙ ap (λ n. Key (record { table = j.table; key = n })) (eqb-true k.key j.key p.1)
same_entry (Key k) (Range t lo hi) h = absurd (false≢true h)
same_entry (Range t lo hi) (Key k) h = absurd (false≢true h)
same_entry (Range t lo hi) (Range u a b) h =
    let p = and_parts (t == u) ((lo == a) && (hi == b)) h in
    let q = and_parts (lo == a) (hi == b) p.1 in
    ap (λ n. Range n lo hi) (eqb-true t u p.0) ∙ ap (λ n. Range u n hi) (eqb-true lo a q.0) ∙ ap (λ n. Range u a n) (eqb-true hi b q.1)

pub any_exact : (P : Entry → Type 0) (e : Entry) (es : List Entry) → AllByRecursion P es → has_entry es e ≡ true → P e
any_exact P e [] h f = absurd (false≢true f)
any_exact P e (d ∷ ds) h f = go (is_same e d) refl f (any_exact P e ds h.1)
  where
    go : (b : Bool) → is_same e d ≡ b → (b || has_entry ds e) ≡ true → (has_entry ds e ≡ true → P e) → P e
    go true g i r = subst P (sym (same_entry e d g)) h.0
    go false g i r = r i

with_keeps : (P : Entry → Type 0) (es : List Entry) (e : Entry) (b : Bool) → AllByRecursion P (cond b es (es ++ e ∷ [])) → AllByRecursion P es
with_keeps P es e true h = h
with_keeps P es e false h = each_front P es (e ∷ []) h

with_has : (P : Entry → Type 0) (es : List Entry) (e : Entry) (b : Bool) → has_entry es e ≡ b → AllByRecursion P (cond b es (es ++ e ∷ [])) → P e
with_has P es e true f h = any_exact P e es h f
with_has P es e false f h = (each_back P es (e ∷ []) h).0

entries_keep : (P : Entry → Type 0) (es : List Entry) (ts : History) → AllByRecursion P (entries_from es ts) → AllByRecursion P es
entries_keep P es [] h = h
entries_keep P es (t ∷ ts) h = with_keeps P es (entry_of t.0) (has_entry es (entry_of t.0)) (entries_keep P (with_entry es (entry_of t.0)) ts h)

each_from : (P : Entry → Type 0) (es : List Entry) (ts : History) → AllByRecursion P (entries_from es ts) → AllByRecursion (λ x. P (entry_of x.0)) ts
each_from P es [] h = tt
each_from P es (t ∷ ts) h = (
  with_has P es (entry_of t.0) (has_entry es (entry_of t.0)) refl (entries_keep P (with_entry es (entry_of t.0)) ts h),
  each_from P (with_entry es (entry_of t.0)) ts h,
)

pub each_entry : (P : Entry → Type 0) (ts : History) → AllByRecursion P (entries ts) → AllByRecursion (λ x. P (entry_of x.0)) ts
each_entry P ts h = each_from P [] ts h

-- ---- one of a list
-- what holds of each holds of it
abbrev pub IsIn : {X : Type 0} → X → List X → Type 1
IsIn {X} x xs = (P : X → Type 0) → AllByRecursion P xs → P x

pub each_in : {X : Type 0} (Q : X → Type 0) (xs : List X) → ((x : X) → IsIn x xs → Q x) → AllByRecursion Q xs
each_in Q [] f = tt
each_in Q (x ∷ xs) f = (f x (λ P h. h.0), each_in Q xs (λ y m. f y (λ P h. m P h.1)))

any_in : {X : Type 0} (test : X → Bool) (xs : List X) → AllByRecursion (λ x. test x ≡ true → list_any test xs ≡ true) xs
any_in test [] = tt
any_in test (x ∷ xs) = (or_left (test x) (list_any test xs), each_weaker (λ y. test y ≡ true → list_any test xs ≡ true) (λ y. test y ≡ true → (test x || list_any test xs) ≡ true) (λ y f e. or_right (test x) (list_any test xs) (f e)) xs (any_in test xs))

-- ---- an earlier one that isn't settled, and ends below the begin
range_alone : (t lo hi b : ℕ) (ds : List ℕ) (base : Map) (stamped : List StampedTx) (x : StampedTx) → IsIn x stamped → IsDecidedOn (Range t lo hi) b ds base stamped → IsClear stamped → AllByRecursion (λ y. y.settled ≡ false → has_end ds y.end ≡ false) stamped →
    x.settled ≡ false → x.id < x.end → x.end < b → footprint_of x.history (seen_by base stamped x.id) ≡ x.footprint → list_any (shows (Range t lo hi)) x.footprint ≡ false
range_alone t lo hi b ds base stamped x m d c n s begun lt f =
    ap (list_any p) (sym f)
    ∙ any_none p (footprint_of x.history seen) (each_weaker _ (λ r. p r ≡ false) (λ r src. go r (p r) refl src) (footprint_of x.history seen) (footprint_source p x.history seen))
  where
    p : Row → Bool
    p = shows (Range t lo hi)

    seen : Map
    seen = seen_by base stamped x.id

    put : RowKey → StampedTx → Bool
    put q y = nat_lt y.end b && list_any (is_row_of p q) (puts y.history)

    go : (r : Row) (w : Bool) → p r ≡ w → (p r ≡ true → (is_some (net_write r.0 x.history) ≡ true) × ((list_any (is_row_of p r.0) (puts x.history) ≡ true) ⊎ (is_some (pass p r.0 (fin.get seen r.0)) ≡ true))) → p r ≡ false
    go r false e src = e
    go r true e src =
        let q = src e in
        let had : counts_for (Range t lo hi) r.0 b base stamped ≡ true = elim q.1 [
          | inl a ↦ or_right (is_some (pass p r.0 (fin.get base r.0))) (is_put_below p r.0 b stamped)
              (m (λ y. put r.0 y ≡ true → list_any (put r.0) stamped ≡ true) (any_in (put r.0) stamped) (and_from (nat_lt x.end b) (list_any (is_row_of p r.0) (puts x.history)) (lt-ltb x.end b lt) a))
          | inr a ↦ counts_later (Range t lo hi) r.0 x.id b base stamped (omega arith) (seen_counts (Range t lo hi) r.0 x.id base stamped a)
        ] in
        absurd (false≢true (sym (ap is_some (m (λ y. y.settled ≡ false → y.end < b → net_write r.0 y.history ≡ None) (free_key r.0 b ds stamped (d r.0 had) c n) s lt)) ∙ q.0))

-- ---- all that is known at a settlement
-- none that it depends on is Preparing
abbrev pub IsFreeToSettle : List StampedTx → List ℕ → Type 0
IsFreeToSettle stamped ds = AllByRecursion (λ x. x.settled ≡ false → has_end ds x.end ≡ false) stamped

abbrev pub IsEarlier : StampedTx → ℕ → Entry → Type 0
IsEarlier x e d = x.settled ≡ false → x.end < e → LeavesAlone x d

still_alone : (x : StampedTx) (e : Entry) → changes e x ≡ false → LeavesAlone x e
still_alone x (Key k) h = none_unless (net_write k x.history) h
still_alone x (Range t lo hi) h = λ _. h

pub below_alone : (e : Entry) (b : ℕ) (ds : List ℕ) (base : Map) (stamped : List StampedTx) (clock : ℕ) (x : StampedTx) → IsIn x stamped → IsDecidedOn e b ds base stamped → IsClear stamped → IsFreeToSettle stamped ds →
    AllByRecursion (IsPlaced stamped clock) stamped → AllByRecursion (λ y. y.settled ≡ false → IsPreparing base stamped y) stamped → x.settled ≡ false → x.end < b → LeavesAlone x e
below_alone (Key k) b ds base stamped clock x m d c n pl pr s lt = m (λ y. y.settled ≡ false → y.end < b → net_write k y.history ≡ None) (free_key k b ds stamped (d k (key_is k)) c n) s lt
below_alone (Range t lo hi) b ds base stamped clock x m d c n pl pr s lt = λ o.
    range_alone t lo hi b ds base stamped x m d c n s (m (IsPlaced stamped clock) pl).begun lt ((m (λ y. y.settled ≡ false → IsPreparing base stamped y) pr s).consistent o).prints

pub entry_alone : (e : Entry) (b e' : ℕ) (ds : List ℕ) (base : Map) (stamped : List StampedTx) (clock : ℕ) → IsDecidedOn e b ds base stamped → IsUnchanged stamped b e' e → IsClear stamped → IsFreeToSettle stamped ds → AllByRecursion (λ y. y.end ≢ b) stamped →
    AllByRecursion (IsPlaced stamped clock) stamped → AllByRecursion (λ y. y.settled ≡ false → IsPreparing base stamped y) stamped → AllByRecursion (λ x. IsEarlier x e' e) stamped
entry_alone e b e' ds base stamped clock d u c n o pl pr = each_in (λ x. IsEarlier x e' e) stamped one
  where
    one : (x : StampedTx) → IsIn x stamped → IsEarlier x e' e
    one x m s l = elim (cases_lt b x.end) [
      | inl above ↦ still_alone x e (m (λ y. b < y.end → y.end < e' → changes e y ≡ false) u above l)
      | inr below ↦ below_alone e b ds base stamped clock x m d c n pl pr s (let ne = m (λ y. y.end ≢ b) o in omega arith)
    ]

-- each of these, and each of those
pub each_swap : {X Y : Type 0} (P : Y → X → Type 0) (ys : List Y) (xs : List X) → AllByRecursion (λ y. AllByRecursion (P y) xs) ys → AllByRecursion (λ x. AllByRecursion (λ y. P y x) ys) xs
each_swap P ys [] h = tt
each_swap P ys (x ∷ xs) h = (
  each_weaker (λ y. P y x × AllByRecursion (P y) xs) (λ y. P y x) (λ y p. p.0) ys h,
  each_swap P ys xs (each_weaker (λ y. P y x × AllByRecursion (P y) xs) (λ y. AllByRecursion (P y) xs) (λ y p. p.1) ys h),
)

pub each_under : {A B X : Type 0} (P : X → Type 0) (xs : List X) → AllByRecursion (λ x. A → B → P x) xs → A → B → AllByRecursion P xs
each_under P [] h a b = tt
each_under P (x ∷ xs) h a b = (h.0 a b, each_under P xs h.1 a b)

pub apart_all : (base : Map) (stamped : List StampedTx) (clock : ℕ) (t : StampedTx) → IsConsistent base stamped t.id t.history t.footprint t.depends_on → AllByRecursion (IsUnchanged stamped t.id t.end) (entries t.history) → IsFreeToSettle stamped t.depends_on → IsClear stamped → IsPlaced stamped clock t →
    AllByRecursion (IsPlaced stamped clock) stamped → AllByRecursion (λ y. y.settled ≡ false → IsPreparing base stamped y) stamped → AllByRecursion (λ x. x.settled ≡ false → x.end < t.end → IsApart x t.history) stamped
apart_all base stamped clock t h v n c p pl pr =
    each_weaker (λ x. AllByRecursion (λ o. IsEarlier x t.end (entry_of o.0)) t.history) (λ x. x.settled ≡ false → x.end < t.end → IsApart x t.history) (λ x q. each_under (λ o. LeavesAlone x (entry_of o.0)) t.history q) stamped
    (each_swap (λ (o : Op × AnswerData) (x : StampedTx). IsEarlier x t.end (entry_of o.0)) t.history stamped
    (each_both (λ o. IsDecidedOn (entry_of o.0) t.id t.depends_on base stamped) (λ o. IsUnchanged stamped t.id t.end (entry_of o.0)) (λ o. AllByRecursion (λ x. IsEarlier x t.end (entry_of o.0)) stamped)
    (λ o a b. entry_alone (entry_of o.0) t.id t.end t.depends_on base stamped clock a b c n p.others pl pr) t.history h.decided (each_entry (IsUnchanged stamped t.id t.end) t.history v)))
