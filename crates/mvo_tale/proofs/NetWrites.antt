-- The record of a commit: its keys rise, and at each key it has the net write.
use Rattle.std.proofs.Common.{◌≡◌, ℕ, ◌+◌, ◌<◌, ◌≤◌, Bool, true, false, cond, ◌||◌, List, [], ◌∷◌, ◌++◌, Option, None, Some, map, take, length, get_or, refl, sym, ap, ◌∙◌, subst, arith}
use Rattle.std.specs.Prelude.{is_some, IfSome, not, ◌==◌}
use Rattle.std.specs.Option.{option_map}
use Rattle.std.specs.List.{All, AllByRecursion, IsDistinct, sum_by}
use Rattle.std.specs.List.Sorted.{IsPermutation, IsSorted, IsStrictlySortedBy}
use Rattle.std.specs.Ordering.{eq_by_cmp, is_eq, is_lt, ordering_reverse}
use Rattle.std.specs.declared.cmp.Ordering.{Ordering}
use Rattle.std.specs.declared.cmp.Ordering.TheVariants.{Less, Equal, Greater}
use Rattle.std.proofs.lemmas.Bool.{true≢false, false≢true}
use Rattle.std.proofs.lemmas.List.{take_more}
use Rattle.std.proofs.lemmas.List.Elements.{All-from_recursion}
use Rattle.std.proofs.lemmas.List.Sorted.{list_any-IsPermutation, length_permutation, sum_by-IsPermutation}
use Rattle.std.proofs.lemmas.List.Sums.{sum_by-cons}
use Rattle.std.proofs.lemmas.Map.Keys.{IsDistinct-push, IsDistinct-IsPermutation, apart_from_distinct, sorted_from_all_adjacent}
use Rattle.mvo_types.specs.declared.row.RowKey.{RowKey}
use Rattle.mvo_types.specs.declared.op.Op.{Op}
use Rattle.mvo_types.specs.declared.op.Op.TheVariants.{Read, Scan, Insert, Update, Delete as DeleteAt}
use Rattle.mvo_types.specs.RowData.{content_of}
use Rattle.mvo_types.specs.Keys.{key_cmp}
use Rattle.mvo_types.specs.AnswerData.{AnswerData}
use Rattle.mvo_types.specs.AnswerData.AnswerData.{Found, Rows, Inserted, Exists, Updated, Deleted, Absent}
use Rattle.mvo_types.proofs.Maps.{keys_total, exact_keys}
use Rattle.mvo_types.specs.Write.{Write, Effect}
use Rattle.mvo_types.specs.Write.Effect.{Put, Delete}
use Rattle.mvo_model.specs.History.{History, write_of, write_at, later, net_write}
use Rattle.mvo_group.specs.Data.{RecordData}
use Rattle.mvo_group.specs.Rules.{KeepsLimits, IsRecord, effect_len, write_len, record_len}
use Rattle.mvo_theory.specs.Entries.{is_noted, noted, noted_key, written_from, written_keys}
use Rattle.mvo_theory.specs.Limits.{IsInLimits, AreLimited}
use Rattle.mvo_theory.proofs.Written.{keys_equal, noted_written}
use Rattle.mvo_tale.specs.Records.{write_in, IsRecordOf, and_write, net_writes, commit_len}

-- ---- the keys that are written are apart
noted_apart : (ks : List RowKey) (k : RowKey) → IsDistinct (eq_by_cmp key_cmp) ks → IsDistinct (eq_by_cmp key_cmp) (noted ks k)
noted_apart ks k h = go (is_noted ks k) refl
  where
    go : (b : Bool) → is_noted ks k ≡ b → IsDistinct (eq_by_cmp key_cmp) (cond b ks (ks ++ k ∷ []))
    go true e = h
    go false e = IsDistinct-push keys_equal ks k h e

noted_key_apart : (ks : List RowKey) (w : Option RowKey) → IsDistinct (eq_by_cmp key_cmp) ks → IsDistinct (eq_by_cmp key_cmp) (noted_key ks w)
noted_key_apart ks None h = h
noted_key_apart ks (Some k) h = noted_apart ks k h

from_apart : (ks : List RowKey) (ts : History) → IsDistinct (eq_by_cmp key_cmp) ks → IsDistinct (eq_by_cmp key_cmp) (written_from ks ts)
from_apart ks [] h = h
from_apart ks (t ∷ ts) h = from_apart (noted_key ks (option_map (λ w. w.0) (write_of t.0 t.1))) ts (noted_key_apart ks (option_map (λ w. w.0) (write_of t.0 t.1)) h)

none_apart : IsDistinct (eq_by_cmp key_cmp) []
unfolding IsDistinct
none_apart = tt

pub written_apart : (ts : History) → IsDistinct (eq_by_cmp key_cmp) (written_keys ts)
written_apart ts = from_apart [] ts none_apart

-- ---- sorted keys that are apart rise strictly
less_of : (o : Ordering) → is_eq o ≡ false → is_lt (ordering_reverse o) ≡ false → o ≡ Less
less_of Less e f = refl
less_of Equal e f = absurd (true≢false e)
less_of Greater e f = absurd (true≢false f)

pub rise_strictly : (ks : List RowKey) → IsSorted key_cmp ks → IsDistinct (eq_by_cmp key_cmp) ks → IsStrictlySortedBy key_cmp ks
rise_strictly ks s h =
    let d : RowKey = record { table = 0; key = 0 } in
    sorted_from_all_adjacent keys_total ks d (λ k lt.
    let a = get_or ks k d in
    let b = get_or ks (k + 1) d in
    less_of (key_cmp a b) (apart_from_distinct (eq_by_cmp key_cmp) ks k (k + 1) d h (omega arith) lt) (ap is_lt (sym (keys_total.antisymm b a)) ∙ s k d (omega arith) lt))

pub sorted_apart : (ks js : List RowKey) → IsPermutation ks js → IsDistinct (eq_by_cmp key_cmp) ks → IsDistinct (eq_by_cmp key_cmp) js
sorted_apart ks js p h = IsDistinct-IsPermutation (eq_by_cmp key_cmp) keys_equal.symm ks js p h

-- ---- what the writes have at a key
none_cond : {X : Type 0} (b : Bool) (w : Option X) → w ≡ None → cond b w None ≡ w
none_cond true w e = refl
none_cond false w e = sym e

in_net_writes : (ts : History) (ks : List RowKey) (k : RowKey) → write_in k (net_writes ts ks) ≡ cond (is_noted ks k) (net_write k ts) None
in_net_writes ts [] k = refl
in_net_writes ts (j ∷ js) k = go (key_cmp k j) refl (net_write j ts) refl (in_net_writes ts js k)
  where
    go : (o : Ordering) → key_cmp k j ≡ o → (w : Option Effect) → net_write j ts ≡ w → write_in k (net_writes ts js) ≡ cond (is_noted js k) (net_write k ts) None → write_in k (and_write j w (net_writes ts js)) ≡ cond (is_eq o || is_noted js k) (net_write k ts) None
    go Less e None f r = r
    go Less e (Some h) f r = ap (λ p. cond (is_eq p) (Some h) (write_in k (net_writes ts js))) e ∙ r
    go Equal e None f r = r ∙ none_cond (is_noted js k) (net_write k ts) (ap (λ i. net_write i ts) (exact_keys k j e) ∙ f)
    go Equal e (Some h) f r = ap (λ p. cond (is_eq p) (Some h) (write_in k (net_writes ts js))) e ∙ sym (ap (λ i. net_write i ts) (exact_keys k j e) ∙ f)
    go Greater e None f r = r
    go Greater e (Some h) f r = ap (λ p. cond (is_eq p) (Some h) (write_in k (net_writes ts js))) e ∙ r

some_cond : {X : Type 0} (w : Option X) → cond (is_some w) w None ≡ w
some_cond None = refl
some_cond (Some x) = refl

-- the writes at the keys that are written, in another order
pub writes_of_keys : (ts : History) (ks : List RowKey) (k : RowKey) → IsPermutation (written_keys ts) ks → write_in k (net_writes ts ks) ≡ net_write k ts
writes_of_keys ts ks k p =
    in_net_writes ts ks k
    ∙ ap (λ b. cond b (net_write k ts) None) (sym (list_any-IsPermutation (eq_by_cmp key_cmp k) (written_keys ts) ks p) ∙ noted_written ts k)
    ∙ some_cond (net_write k ts)

-- ---- the keys of the writes rise as the keys do
above : (ts : History) (j : RowKey) (ks : List RowKey) → AllByRecursion (λ k. key_cmp j k ≡ Less) ks → AllByRecursion (λ k. key_cmp j k ≡ Less) (map (λ w. w.0) (net_writes ts ks))
above ts j [] h = tt
above ts j (k ∷ ks) h = go (net_write k ts) (above ts j ks h.1)
  where
    go : (w : Option Effect) → AllByRecursion (λ i. key_cmp j i ≡ Less) (map (λ v. v.0) (net_writes ts ks)) → AllByRecursion (λ i. key_cmp j i ≡ Less) (map (λ v. v.0) (and_write k w (net_writes ts ks)))
    go None r = r
    go (Some x) r = (h.0, r)

pub writes_rise : (ts : History) (ks : List RowKey) → IsStrictlySortedBy key_cmp ks → IsStrictlySortedBy key_cmp (map (λ w. w.0) (net_writes ts ks))
unfolding IsStrictlySortedBy
writes_rise ts [] h = tt
writes_rise ts (k ∷ ks) h = go (net_write k ts) (writes_rise ts ks h.1)
  where
    go : (w : Option Effect) → IsStrictlySortedBy key_cmp (map (λ v. v.0) (net_writes ts ks)) → IsStrictlySortedBy key_cmp (map (λ v. v.0) (and_write k w (net_writes ts ks)))
    go None r = r
    go (Some x) r = (above ts k ks h.0, r)

-- ---- limits
abbrev KeepsAt : RowKey → Option Effect → Type 0
KeepsAt k w = IfSome w (λ h. KeepsLimits (k, h))

at_key : (k j : RowKey) (h : Effect) → KeepsLimits (j, h) → KeepsAt k (write_at k (Some (j, h)))
at_key k j h l = go (key_cmp k j) refl
  where
    go : (o : Ordering) → key_cmp k j ≡ o → KeepsAt k (cond (is_eq o) (Some h) None)
    go Less e = tt
    go Equal e = subst (λ (i : RowKey). KeepsLimits (i, h)) (sym (exact_keys k j e)) l
    go Greater e = tt

limits_of : (op : Op) (a : AnswerData) (k : RowKey) → IsInLimits op → KeepsAt k (write_at k (write_of op a))
limits_of (Read j) a k h = tt
limits_of (Scan table lo hi) a k h = tt
limits_of (Insert r) (Found x) k h = tt
limits_of (Insert r) (Rows x) k h = tt
limits_of (Insert r) Inserted k h = at_key k r.key (Put (content_of r)) (record { table = h.table; size = h.size })
limits_of (Insert r) Exists k h = tt
limits_of (Insert r) Updated k h = tt
limits_of (Insert r) Deleted k h = tt
limits_of (Insert r) Absent k h = tt
limits_of (Update r) (Found x) k h = tt
limits_of (Update r) (Rows x) k h = tt
limits_of (Update r) Inserted k h = tt
limits_of (Update r) Exists k h = tt
limits_of (Update r) Updated k h = at_key k r.key (Put (content_of r)) (record { table = h.table; size = h.size })
limits_of (Update r) Deleted k h = tt
limits_of (Update r) Absent k h = tt
limits_of (DeleteAt j) (Found x) k h = tt
limits_of (DeleteAt j) (Rows x) k h = tt
limits_of (DeleteAt j) Inserted k h = tt
limits_of (DeleteAt j) Exists k h = tt
limits_of (DeleteAt j) Updated k h = tt
limits_of (DeleteAt j) Deleted k h = at_key k j Delete (record { table = h; size = omega arith })
limits_of (DeleteAt j) Absent k h = tt

later_limits : (k : RowKey) (a b : Option Effect) → KeepsAt k a → KeepsAt k b → KeepsAt k (later a b)
later_limits k None b p q = q
later_limits k (Some h) b p q = p

net_limits : (ts : History) (k : RowKey) → AllByRecursion (λ t. IsInLimits t.0) ts → KeepsAt k (net_write k ts)
net_limits [] k h = tt
net_limits (t ∷ ts) k h = later_limits k (net_write k ts) (write_at k (write_of t.0 t.1)) (net_limits ts k h.1) (limits_of t.0 t.1 k h.0)

each_limited : (ts : History) (ks : List RowKey) → AllByRecursion (λ t. IsInLimits t.0) ts → AllByRecursion KeepsLimits (net_writes ts ks)
each_limited ts [] h = tt
each_limited ts (k ∷ ks) h = go (net_write k ts) (net_limits ts k h) (each_limited ts ks h)
  where
    go : (w : Option Effect) → KeepsAt k w → AllByRecursion KeepsLimits (net_writes ts ks) → AllByRecursion KeepsLimits (and_write k w (net_writes ts ks))
    go None p r = r
    go (Some x) p r = (p, r)

-- ---- how many writes
few_writes : (ts : History) (ks : List RowKey) → length (net_writes ts ks) ≤ length ks
few_writes ts [] = omega arith
few_writes ts (k ∷ ks) = go (net_write k ts) (few_writes ts ks)
  where
    go : (w : Option Effect) → length (net_writes ts ks) ≤ length ks → length (and_write k w (net_writes ts ks)) ≤ length (k ∷ ks)
    go None le = omega arith
    go (Some x) le = omega arith

some_there : (ws : List Write) (k : RowKey) → is_some (write_in k ws) ≡ true → 1 ≤ length ws
some_there [] k e = absurd (false≢true e)
some_there (w ∷ ws) k e = omega arith

some_writes : (ts : History) (ks : List RowKey) → IsPermutation (written_keys ts) ks → not (length (written_keys ts) == 0) ≡ true → 1 ≤ length (net_writes ts ks)
some_writes ts ks p = go (written_keys ts) refl
  where
    go : (js : List RowKey) → written_keys ts ≡ js → not (length js == 0) ≡ true → 1 ≤ length (net_writes ts ks)
    go [] e h = absurd (false≢true h)
    go (j ∷ js) e h =
        let noted : is_noted (written_keys ts) j ≡ true = ap (λ (is : List RowKey). is_noted is j) e ∙ ap (λ b. b || is_noted js j) (keys_equal.refl j) in
        some_there (net_writes ts ks) j (ap is_some (writes_of_keys ts ks j p) ∙ sym (noted_written ts j) ∙ noted)

-- ---- the record of a commit
pub record_is : (end : ℕ) (ts : History) (ks : List RowKey) (r : RecordData) → r.end ≡ end → r.writes ≡ net_writes ts ks → IsPermutation (written_keys ts) ks → IsStrictlySortedBy key_cmp ks → IsRecordOf (end, ts) r
record_is end ts ks r e f p h = record {
  end' = e;
  rise = subst (λ (ws : List Write). IsStrictlySortedBy key_cmp (map (λ w. w.0) ws)) (sym f) (writes_rise ts ks h);
  writes = λ k. ap (write_in k) f ∙ writes_of_keys ts ks k p;
}

pub record_keeps : (ts : History) (ks : List RowKey) (r : RecordData) → r.writes ≡ net_writes ts ks → IsPermutation (written_keys ts) ks → IsStrictlySortedBy key_cmp ks → AreLimited ts → not (length (written_keys ts) == 0) ≡ true → IsRecord r
record_keeps ts ks r f p h limits there =
    let many = some_writes ts ks p there in
    let few = few_writes ts ks in
    let same = length_permutation (written_keys ts) ks p in
    let most = limits.few in
    let len : length r.writes ≡ length (net_writes ts ks) = ap (λ (ws : List Write). length ws) f in
    record {
      some = omega arith;
      few = omega arith;
      rise = subst (λ (ws : List Write). IsStrictlySortedBy key_cmp (map (λ w. w.0) ws)) (sym f) (writes_rise ts ks h);
      each = subst (λ (ws : List Write). All KeepsLimits ws) (sym f) (All-from_recursion KeepsLimits (net_writes ts ks) (each_limited ts ks limits.each));
    }

-- ---- its length, which the order of the keys doesn't change
len_of : Option Effect → ℕ
len_of None = 0
len_of (Some e) = effect_len e

writes_len : (ts : History) (ks : List RowKey) → sum_by write_len (net_writes ts ks) ≡ sum_by (λ k. len_of (net_write k ts)) ks
unfolding len_of
writes_len ts [] = refl
writes_len ts (k ∷ ks) = go (net_write k ts) (writes_len ts ks) ∙ sym (sum_by-cons (λ j. len_of (net_write j ts)) k ks)
  where
    go : (w : Option Effect) → sum_by write_len (net_writes ts ks) ≡ sum_by (λ j. len_of (net_write j ts)) ks → sum_by write_len (and_write k w (net_writes ts ks)) ≡ len_of w + sum_by (λ j. len_of (net_write j ts)) ks
    go None r = omega (arith, r)
    go (Some e) r = sum_by-cons write_len (k, e) (net_writes ts ks) ∙ ap (λ n. effect_len e + n) r

pub record_len_is : (end : ℕ) (ts : History) (ks : List RowKey) (r : RecordData) → r.writes ≡ net_writes ts ks → IsPermutation (written_keys ts) ks → record_len r ≡ commit_len (end, ts)
record_len_is end ts ks r f p =
    ap (λ (ws : List Write). 10 + sum_by write_len ws) f
    ∙ ap (λ (n : ℕ). 10 + n) (writes_len ts ks ∙ sum_by-IsPermutation (λ k. len_of (net_write k ts)) (written_keys ts) ks p ∙ sym (writes_len ts (written_keys ts)))

-- ---- as a loop goes over the keys
net_writes-append : (ts : History) (ks js : List RowKey) → net_writes ts (ks ++ js) ≡ net_writes ts ks ++ net_writes ts js
net_writes-append ts [] js = refl
net_writes-append ts (k ∷ ks) js = go (net_write k ts) (net_writes-append ts ks js)
  where
    go : (w : Option Effect) → net_writes ts (ks ++ js) ≡ net_writes ts ks ++ net_writes ts js → and_write k w (net_writes ts (ks ++ js)) ≡ and_write k w (net_writes ts ks) ++ net_writes ts js
    go None e = e
    go (Some x) e = ap (λ ws. (k, x) ∷ ws) e

-- with the write at one key more
pub writes_more : (ts : History) (ks : List RowKey) (i : ℕ) (d : RowKey) (w : Option Effect) → i < length ks → net_write (get_or ks i d) ts ≡ w → net_writes ts (take (i + 1) ks) ≡ net_writes ts (take i ks) ++ and_write (get_or ks i d) w []
writes_more ts ks i d w lt e =
    ap (net_writes ts) (take_more ks i d lt)
    ∙ net_writes-append ts (take i ks) (get_or ks i d ∷ [])
    ∙ ap (λ v. net_writes ts (take i ks) ++ and_write (get_or ks i d) v []) e

-- a key without a write
pub writes_same : (ts : History) (ks : List RowKey) (i : ℕ) (d : RowKey) → i < length ks → net_write (get_or ks i d) ts ≡ None → net_writes ts (take i ks) ≡ net_writes ts (take (i + 1) ks)
writes_same ts ks i d lt e = sym (writes_more ts ks i d None lt e ∙ none_more (net_writes ts (take i ks)))
  where
    none_more : {X : Type 0} (xs : List X) → xs ++ [] ≡ xs
    none_more [] = refl
    none_more (x ∷ xs) = ap (λ ys. x ∷ ys) (none_more xs)
