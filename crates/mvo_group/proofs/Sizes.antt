-- Lengths: of a body from those of its parts, and how large they may be.
use Rattle.std.proofs.Common.{◌≡◌, ℕ, ◌+◌, ◌*◌, ◌≤◌, ◌<◌, List, [], ◌∷◌, length, map, take, get_or, refl, ap, subst, ◌∙◌, arith}
use Rattle.std.specs.List.{flat_map, sum_by, All, AllByRecursion}
use Rattle.std.proofs.lemmas.List.{length-append, length-map, take-map, take_more, map_push, get_or-map}
use Rattle.std.proofs.lemmas.List.Folds.{length-flat_map-take}
use Rattle.std.proofs.lemmas.List.Concat.{length-flat_map}
use Rattle.std.proofs.lemmas.List.Sums.{sum_by-cons, sum_by_push, sum_by_more_le}
use Rattle.std.proofs.lemmas.List.Elements.{recursion_from_All}
use Rattle.mvo_types.specs.declared.row.RowKey.{RowKey}
use Rattle.mvo_types.specs.Write.{Write, Effect}
use Rattle.mvo_types.specs.Write.Effect.{Put, Delete}
use Rattle.mvo_group.specs.declared.write.Write.{Write as RustWrite}
use Rattle.mvo_group.specs.Data.{RecordData, GroupData, write_data}
use Rattle.mvo_group.specs.Rules.{put_bytes, effect_len, write_len, record_len, body_len, KeepsLimits, IsRecord}
use Rattle.mvo_group.specs.Body.{effect_bytes, write_bytes, record_bytes, body_of}
use Rattle.mvo_bytes.proofs.Fields.{length-field}

sum_same : {X : Type 0} (f g : X → ℕ) → ((x : X) → f x ≡ g x) → (xs : List X) → sum_by f xs ≡ sum_by g xs
sum_same f g same [] = refl
sum_same f g same (x ∷ xs) = let e = same x in let r = sum_same f g same xs in simp sum_by-cons (omega (arith, e, r))

length-bytes_at : (k : RowKey) (effect : Effect) → length (effect_bytes k effect) ≡ effect_len effect
length-bytes_at k Delete = omega (arith, length-field 8 k.key)
length-bytes_at k (Put h) = simp length-append (omega (arith, length-field 8 k.key, length-field 8 h.sort, length-field 2 (length h.bytes)))

pub length-write_bytes : (w : Write) → length (write_bytes w) ≡ write_len w
length-write_bytes w = length-bytes_at w.0 w.1

pub length-record_bytes : (r : RecordData) → length (record_bytes r) ≡ record_len r
length-record_bytes r =
    let writes : length (flat_map write_bytes r.writes) ≡ sum_by write_len r.writes = length-flat_map write_bytes r.writes ∙ sum_same (λ w. length (write_bytes w)) write_len length-write_bytes r.writes in
    simp length-append (omega (arith, length-field 8 r.end, length-field 2 (length r.writes), writes))

pub length-body_of : (g : GroupData) → length (body_of g) ≡ body_len g
length-body_of g =
    let records : length (flat_map record_bytes g.records) ≡ sum_by record_len g.records = length-flat_map record_bytes g.records ∙ sum_same (λ r. length (record_bytes r)) record_len length-record_bytes g.records in
    simp length-append (omega (arith, length-field 8 g.prev, length-field 8 g.mark, length-field 2 (length g.records), records))

-- ---- a record of 256 writes of 4,116 bytes, and 1,024 of them

effect_small : (effect : Effect) → length (put_bytes effect) ≤ 4096 → effect_len effect ≤ 4116
effect_small Delete h = omega arith
effect_small (Put x) h = omega arith

writes_small : (ws : List Write) → AllByRecursion KeepsLimits ws → sum_by write_len ws ≤ 4116 * length ws
writes_small [] all = omega arith
writes_small (w ∷ ws) all = let a = effect_small w.1 all.0.size in let b = writes_small ws all.1 in simp sum_by-cons (omega (arith, a, b))

pub record_small : (r : RecordData) → IsRecord r → record_len r ≤ 1053706
record_small r is = omega (arith, writes_small r.writes (recursion_from_All KeepsLimits r.writes is.each), is.few)

records_small : (rs : List RecordData) → AllByRecursion IsRecord rs → sum_by record_len rs ≤ 1053706 * length rs
records_small [] all = omega arith
records_small (r ∷ rs) all = let a = record_small r all.0 in let b = records_small rs all.1 in simp sum_by-cons (omega (arith, a, b))

pub body_small : (rs : List RecordData) → length rs ≤ 1024 → All IsRecord rs → 18 + sum_by record_len rs ≤ 1078994962
body_small rs few all = omega (arith, records_small rs (recursion_from_All IsRecord rs all), few)

-- ---- parts of what a loop goes through

pub writes_more : (ws : List RustWrite) (i : ℕ) (d : RustWrite) → i < length ws → sum_by write_len (map write_data (take (i + 1) ws)) ≡ sum_by write_len (map write_data (take i ws)) + write_len (write_data (get_or ws i d))
writes_more ws i d lt =
    ap (λ (l : List RustWrite). sum_by write_len (map write_data l)) (take_more ws i d lt) ∙ ap (sum_by write_len) (map_push write_data (take i ws) (get_or ws i d)) ∙ sum_by_push write_len (map write_data (take i ws)) (write_data (get_or ws i d))

pub writes_part : (ws : List RustWrite) (i : ℕ) (d : RustWrite) → i < length ws → sum_by write_len (map write_data (take i ws)) + write_len (write_data (get_or ws i d)) ≤ sum_by write_len (map write_data ws)
writes_part ws i d lt =
    let inside : i < length (map write_data ws) = simp length-map lt in
    let h = sum_by_more_le write_len (map write_data ws) i (write_data d) inside in
    omega (arith, h, ap (sum_by write_len) (take-map write_data i ws), ap write_len (get_or-map write_data ws i d (write_data d) lt))

pub writes_room : (ws : List RustWrite) (i : ℕ) (d : RustWrite) → i < length ws → length (flat_map write_bytes (map write_data (take i ws))) + length (write_bytes (write_data (get_or ws i d))) ≤ length (flat_map write_bytes (map write_data ws))
writes_room ws i d lt =
    let inside : i < length (map write_data ws) = simp length-map lt in
    let h = length-flat_map-take write_bytes (map write_data ws) i (write_data d) inside in
    omega (arith, h, ap (λ (l : List Write). length (flat_map write_bytes l)) (take-map write_data i ws), ap (λ (w : Write). length (write_bytes w)) (get_or-map write_data ws i d (write_data d) lt))

pub limits_at : (ws : List RustWrite) (i : ℕ) (d : RustWrite) → i < length ws → All KeepsLimits (map write_data ws) → KeepsLimits (write_data (get_or ws i d))
limits_at ws i d lt all = subst KeepsLimits (get_or-map write_data ws i d (write_data d) lt) (all i (write_data d) (simp length-map lt))
