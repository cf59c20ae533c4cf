-- What is read is spelled so, and what is spelled so is read.
use Rattle.std.proofs.Common.{◌≡◌, ℕ, ◌<◌, ◌≤◌, ◌^◌, ◌%◌, Bool, true, false, cond, ltb, eqb, List, [], ◌∷◌, ◌++◌, length, take, drop, Option, Some, None, refl, sym, ap, subst, ◌∙◌, append_assoc, arith}
use Rattle.std.specs.List.{flat_map, All, AllByRecursion}
use Rattle.std.specs.Option.{SomeIff, IfSome}
use Rattle.std.proofs.lemmas.Bool.{eqb-true, ltb-false, le-ltb}
use Rattle.std.proofs.lemmas.List.{append-nil, nil_from_length, take_at, drop_at, take-append-drop, length-append, length-take}
use Rattle.std.proofs.lemmas.List.Elements.{All-from_recursion, recursion_from_All}
use Rattle.mvo_types.specs.RowData.{ContentData}
use Rattle.mvo_types.specs.Write.{Write, Effect}
use Rattle.mvo_types.specs.Write.Effect.{Put, Delete}
use Rattle.mvo_format.specs.declared.format.Format.{Format}
use Rattle.mvo_group.specs.Data.{RecordData, GroupData}
use Rattle.mvo_group.specs.Rules.{sort_of, put_bytes, KeepsLimits, IsRecord, KeepsRules, HasWords, IsGroup}
use Rattle.mvo_group.specs.Allowed.{IsAllowedGroup, IsGroupWithin}
use Rattle.mvo_bytes.specs.Fields.{field}
use Rattle.mvo_group.specs.Body.{effect_bytes, write_bytes, record_bytes, body_of}
use Rattle.mvo_bytes.specs.Reading.{◌>>=◌, number_at, data_at, times}
use Rattle.mvo_group.specs.Reading.{put_at, effect_at, keyed_write_at, record_at, group_at}
use Rattle.mvo_bytes.proofs.Fields.{IsBytes, IsBytes-drop, bind_some, guard_some, some_is, Takes, Takes-then, number_takes, number_again}
use Rattle.mvo_bytes.proofs.Loop.{times_take, times_again}

data_takes : (n : ℕ) (bytes : List ℕ) (x : List ℕ × List ℕ) → IsBytes bytes → data_at n bytes ≡ Some x → Takes bytes x.0 x.1 × (length x.0 ≡ n)
unfolding data_at
data_takes n bytes x fits e =
    let b = guard_some (ltb (length bytes) n) (Some (take n bytes, drop n bytes)) x e in
    let long : n ≤ length bytes = ltb-false _ _ b.0 in
    subst (λ (y : List ℕ × List ℕ). Takes bytes y.0 y.1 × (length y.0 ≡ n)) (some_is (take n bytes, drop n bytes) x b.1) (record { parts = sym (take-append-drop n bytes); rest_fits = IsBytes-drop n bytes fits }, omega (arith, length-take n bytes))

pub data_again : (text rest : List ℕ) → data_at (length text) (text ++ rest) ≡ Some (text, rest)
unfolding data_at
data_again text rest =
    let b : ltb (length (text ++ rest)) (length text) ≡ false = le-ltb _ _ (omega (arith, length-append text rest)) in
    rw (b, take_at text rest (length text) refl, drop_at text rest (length text) refl) refl

abbrev put_text : ContentData → List ℕ
put_text h = field 8 h.sort ++ (field 2 (length h.bytes) ++ h.bytes)

abbrev effect_text : Effect → List ℕ
effect_text Delete = []
effect_text (Put h) = put_text h

abbrev tag_of : Effect → ℕ
tag_of Delete = 2
tag_of (Put h) = 1

put_takes : (bytes : List ℕ) (x : ContentData × List ℕ) → IsBytes bytes → put_at bytes ≡ Some x → Takes bytes (put_text x.0) x.1 × (x.0.sort < 2 ^ 64)
unfolding put_at
put_takes bytes x fits e =
    let a = bind_some (number_at 8 bytes) (λ sort. number_at 2 sort.1 >>= λ len. data_at len.0 len.1 >>= λ text. Some (record { sort = sort.0; bytes = text.0 }, text.1)) x e in
    let b = bind_some (number_at 2 a.0.1) (λ len. data_at len.0 len.1 >>= λ text. Some (record { sort = a.0.0; bytes = text.0 }, text.1)) x a.2 in
    let c = bind_some (data_at b.0.0 b.0.1) (λ text. Some (record { sort = a.0.0; bytes = text.0 }, text.1)) x b.2 in
    let t0 = number_takes 8 bytes a.0 fits a.1 in
    let t1 = number_takes 2 a.0.1 b.0 t0.0.rest_fits b.1 in
    let t2 = data_takes b.0.0 b.0.1 c.0 t1.0.rest_fits c.1 in
    let e12 = Takes-then a.0.1 (field 2 b.0.0) b.0.1 c.0.0 c.0.1 t1.0 t2.0 in
    let e02 = Takes-then bytes (field 8 a.0.0) a.0.1 (field 2 b.0.0 ++ c.0.0) c.0.1 t0.0 e12 in
    let sized : Takes bytes (field 8 a.0.0 ++ (field 2 (length c.0.0) ++ c.0.0)) c.0.1 = subst (λ k. Takes bytes (field 8 a.0.0 ++ (field 2 k ++ c.0.0)) c.0.1) (sym t2.1) e02 in
    let made : ContentData × List ℕ = (record { sort = a.0.0; bytes = c.0.0 }, c.0.1) in
    subst (λ (y : ContentData × List ℕ). Takes bytes (put_text y.0) y.1 × (y.0.sort < 2 ^ 64)) (some_is made x c.2) (sized, omega (arith, t0.1))

put_again : (h : ContentData) (rest : List ℕ) → h.sort < 2 ^ 64 → length h.bytes < 2 ^ 16 → put_at (put_text h ++ rest) ≡ Some (h, rest)
unfolding put_at
put_again h rest word few =
    let regrouped : put_text h ++ rest ≡ field 8 h.sort ++ (field 2 (length h.bytes) ++ (h.bytes ++ rest)) = append_assoc (field 8 h.sort) (field 2 (length h.bytes) ++ h.bytes) rest ∙ ap (λ (l : List ℕ). field 8 h.sort ++ l) (append_assoc (field 2 (length h.bytes)) h.bytes rest) in
    ap put_at regrouped ∙ rw (number_again 8 h.sort (field 2 (length h.bytes) ++ (h.bytes ++ rest)) word, number_again 2 (length h.bytes) (h.bytes ++ rest) few, data_again h.bytes rest) refl

effect_takes : (tag : ℕ) (bytes : List ℕ) (x : Effect × List ℕ) → IsBytes bytes → effect_at tag bytes ≡ Some x → (tag ≡ tag_of x.0) × Takes bytes (effect_text x.0) x.1 × (sort_of x.0 < 2 ^ 64)
unfolding effect_at
effect_takes tag bytes x fits e = two (eqb tag 2) refl e
  where
    one : (b : Bool) → eqb tag 1 ≡ b → cond b (put_at bytes >>= λ h. Some (Put h.0, h.1)) None ≡ Some x → (tag ≡ tag_of x.0) × Takes bytes (effect_text x.0) x.1 × (sort_of x.0 < 2 ^ 64)
    one true is f =
        let a = bind_some (put_at bytes) (λ h. Some (Put h.0, h.1)) x f in
        let t = put_takes bytes a.0 fits a.1 in
        let made : Effect × List ℕ = (Put a.0.0, a.0.1) in
        subst (λ (y : Effect × List ℕ). (tag ≡ tag_of y.0) × Takes bytes (effect_text y.0) y.1 × (sort_of y.0 < 2 ^ 64)) (some_is made x a.2) (eqb-true _ _ is, t.0, t.1)
    one false is f = absurd cc

    two : (b : Bool) → eqb tag 2 ≡ b → cond b (Some (Delete, bytes)) (cond (eqb tag 1) (put_at bytes >>= λ h. Some (Put h.0, h.1)) None) ≡ Some x → (tag ≡ tag_of x.0) × Takes bytes (effect_text x.0) x.1 × (sort_of x.0 < 2 ^ 64)
    two true is f =
        let made : Effect × List ℕ = (Delete, bytes) in
        subst (λ (y : Effect × List ℕ). (tag ≡ tag_of y.0) × Takes bytes (effect_text y.0) y.1 × (sort_of y.0 < 2 ^ 64)) (some_is made x f) (eqb-true _ _ is, record { parts = refl; rest_fits = fits }, omega arith)
    two false is f = one (eqb tag 1) refl f

effect_again : (effect : Effect) (rest : List ℕ) → sort_of effect < 2 ^ 64 → length (put_bytes effect) < 2 ^ 16 → effect_at (tag_of effect) (effect_text effect ++ rest) ≡ Some (effect, rest)
unfolding effect_at
effect_again Delete rest word few = refl
effect_again (Put h) rest word few = rw (put_again h rest word few) refl

-- a write by its parts
write_text : (w : Write) → write_bytes w ≡ tag_of w.1 ∷ w.0.table ∷ (field 8 w.0.key ++ effect_text w.1)
write_text w = by_effect w.1
  where
    by_effect : (effect : Effect) → effect_bytes w.0 effect ≡ tag_of effect ∷ w.0.table ∷ (field 8 w.0.key ++ effect_text effect)
    by_effect Delete = ap (λ (l : List ℕ). 2 ∷ w.0.table ∷ l) (sym (append-nil (field 8 w.0.key)))
    by_effect (Put h) = ap (λ (l : List ℕ). 1 ∷ w.0.table ∷ l) (append_assoc (field 8 w.0.key ++ field 8 h.sort) (field 2 (length h.bytes)) h.bytes ∙ append_assoc (field 8 w.0.key) (field 8 h.sort) (field 2 (length h.bytes) ++ h.bytes))

byte_is : (x : ℕ) → x < 256 → field 1 x ≡ x ∷ []
unfolding field
byte_is x lt = let same : x % 256 ≡ x = omega arith in ap (λ y. y ∷ []) same

pub write_takes : (bytes : List ℕ) (x : Write × List ℕ) → IsBytes bytes → keyed_write_at bytes ≡ Some x → Takes bytes (write_bytes x.0) x.1 × HasWords x.0
unfolding keyed_write_at
write_takes bytes x fits e =
    let a = bind_some (number_at 1 bytes) (λ tag. number_at 1 tag.1 >>= λ table. number_at 8 table.1 >>= λ key. effect_at tag.0 key.1 >>= λ effect. Some ((record { table = table.0; key = key.0 }, effect.0), effect.1)) x e in
    let b = bind_some (number_at 1 a.0.1) (λ table. number_at 8 table.1 >>= λ key. effect_at a.0.0 key.1 >>= λ effect. Some ((record { table = table.0; key = key.0 }, effect.0), effect.1)) x a.2 in
    let c = bind_some (number_at 8 b.0.1) (λ key. effect_at a.0.0 key.1 >>= λ effect. Some ((record { table = b.0.0; key = key.0 }, effect.0), effect.1)) x b.2 in
    let d = bind_some (effect_at a.0.0 c.0.1) (λ effect. Some ((record { table = b.0.0; key = c.0.0 }, effect.0), effect.1)) x c.2 in
    let made : Write × List ℕ = ((record { table = b.0.0; key = c.0.0 }, d.0.0), d.0.1) in
    let t0 = number_takes 1 bytes a.0 fits a.1 in
    let t1 = number_takes 1 a.0.1 b.0 t0.0.rest_fits b.1 in
    let t2 = number_takes 8 b.0.1 c.0 t1.0.rest_fits c.1 in
    let t3 = effect_takes a.0.0 c.0.1 d.0 t2.0.rest_fits d.1 in
    let e23 = Takes-then b.0.1 (field 8 c.0.0) c.0.1 (effect_text d.0.0) d.0.1 t2.0 t3.1 in
    let e13 = Takes-then a.0.1 (field 1 b.0.0) b.0.1 (field 8 c.0.0 ++ effect_text d.0.0) d.0.1 t1.0 e23 in
    let e03 = Takes-then bytes (field 1 a.0.0) a.0.1 (field 1 b.0.0 ++ (field 8 c.0.0 ++ effect_text d.0.0)) d.0.1 t0.0 e13 in
    let tidy : field 1 a.0.0 ++ (field 1 b.0.0 ++ (field 8 c.0.0 ++ effect_text d.0.0)) ≡ write_bytes made.0 =
    ap (λ (l : List ℕ). l ++ (field 1 b.0.0 ++ (field 8 c.0.0 ++ effect_text d.0.0))) (byte_is a.0.0 t0.1 ∙ ap (λ y. y ∷ []) t3.0)
    ∙ ap (λ (l : List ℕ). tag_of d.0.0 ∷ (l ++ (field 8 c.0.0 ++ effect_text d.0.0))) (byte_is b.0.0 t1.1) ∙ sym (write_text made.0) in
    subst (λ (y : Write × List ℕ). Takes bytes (write_bytes y.0) y.1 × HasWords y.0) (some_is made x d.2) (subst (λ (l : List ℕ). Takes bytes l d.0.1) tidy e03, record { key = t2.1; sort = t3.2 })

-- what a write of a group is
pub record IsWrite (w : Write) : Type 0 where
  pub limits : KeepsLimits w
  pub words : HasWords w

pub write_again : (w : Write) (rest : List ℕ) → IsWrite w → keyed_write_at (write_bytes w ++ rest) ≡ Some (w, rest)
unfolding keyed_write_at
write_again w rest is =
    let table : w.0.table < 256 = omega (arith, is.limits.table) in
    let size : length (put_bytes w.1) < 2 ^ 16 = omega (arith, is.limits.size) in
    let one : field 1 (tag_of w.1) ≡ tag_of w.1 ∷ [] = byte_is (tag_of w.1) (tag_small w.1) in
    let two : field 1 w.0.table ≡ w.0.table ∷ [] = byte_is w.0.table table in
    let tail = field 8 w.0.key ++ (effect_text w.1 ++ rest) in
    let regrouped : write_bytes w ++ rest ≡ field 1 (tag_of w.1) ++ (field 1 w.0.table ++ tail) =
    ap (λ (l : List ℕ). l ++ rest) (write_text w) ∙ ap (λ (l : List ℕ). tag_of w.1 ∷ w.0.table ∷ l) (append_assoc (field 8 w.0.key) (effect_text w.1) rest)
    ∙ sym (ap (λ (l : List ℕ). l ++ (field 1 w.0.table ++ tail)) one ∙ ap (λ (l : List ℕ). tag_of w.1 ∷ (l ++ tail)) two) in
    ap keyed_write_at regrouped ∙ rw (number_again 1 (tag_of w.1) (field 1 w.0.table ++ tail) (tag_small w.1), number_again 1 w.0.table tail table, number_again 8 w.0.key (effect_text w.1 ++ rest) is.words.key, effect_again w.1 rest is.words.sort size) refl
  where
    tag_small : (effect : Effect) → tag_of effect < 256
    tag_small Delete = omega arith
    tag_small (Put h) = omega arith

-- ---- records and groups

abbrev pub HasRecordWords : RecordData → Type 0
HasRecordWords r = AllByRecursion HasWords r.writes

pub record_takes : (bytes : List ℕ) (x : RecordData × List ℕ) → IsBytes bytes → record_at bytes ≡ Some x → Takes bytes (record_bytes x.0) x.1 × HasRecordWords x.0
unfolding record_at
record_takes bytes x fits e =
    let a = bind_some (number_at 8 bytes) (λ end. number_at 2 end.1 >>= λ n. times keyed_write_at n.0 n.1 >>= λ writes. Some (record { end = end.0; writes = writes.0 }, writes.1)) x e in
    let b = bind_some (number_at 2 a.0.1) (λ n. times keyed_write_at n.0 n.1 >>= λ writes. Some (record { end = a.0.0; writes = writes.0 }, writes.1)) x a.2 in
    let c = bind_some (times keyed_write_at b.0.0 b.0.1) (λ writes. Some (record { end = a.0.0; writes = writes.0 }, writes.1)) x b.2 in
    let made : RecordData × List ℕ = (record { end = a.0.0; writes = c.0.0 }, c.0.1) in
    let t0 = number_takes 8 bytes a.0 fits a.1 in
    let t1 = number_takes 2 a.0.1 b.0 t0.0.rest_fits b.1 in
    let t2 = times_take keyed_write_at write_bytes HasWords write_takes b.0.0 b.0.1 c.0 t1.0.rest_fits c.1 in
    let e01 = Takes-then bytes (field 8 a.0.0) a.0.1 (field 2 b.0.0) b.0.1 t0.0 t1.0 in
    let e02 = Takes-then bytes (field 8 a.0.0 ++ field 2 b.0.0) b.0.1 (flat_map write_bytes c.0.0) c.0.1 e01 t2.0 in
    let sized : Takes bytes (record_bytes made.0) c.0.1 = subst (λ k. Takes bytes (field 8 a.0.0 ++ field 2 k ++ flat_map write_bytes c.0.0) c.0.1) (sym t2.1) e02 in
    subst (λ (y : RecordData × List ℕ). Takes bytes (record_bytes y.0) y.1 × HasRecordWords y.0) (some_is made x c.2) (sized, t2.2)

-- what a record of a group is
pub record IsSpelled (r : RecordData) : Type 0 where
  pub end : r.end < 2 ^ 64
  pub few : length r.writes < 2 ^ 16
  pub each : AllByRecursion IsWrite r.writes

pub record_again : (r : RecordData) (rest : List ℕ) → IsSpelled r → record_at (record_bytes r ++ rest) ≡ Some (r, rest)
unfolding record_at
record_again r rest is =
    let count = field 2 (length r.writes) in
    let text = flat_map write_bytes r.writes in
    let regrouped : record_bytes r ++ rest ≡ field 8 r.end ++ (count ++ (text ++ rest)) = append_assoc (field 8 r.end ++ count) text rest ∙ append_assoc (field 8 r.end) count (text ++ rest) in
    ap record_at regrouped ∙ rw (number_again 8 r.end (count ++ (text ++ rest)) is.end, number_again 2 (length r.writes) (text ++ rest) is.few, times_again keyed_write_at write_bytes IsWrite write_again r.writes rest is.each) refl

guard_ended : {A : Type 0} (c : Bool) (x y : A) → cond c (Some x) None ≡ Some y → (c ≡ true) × (x ≡ y)
guard_ended true x y e = (refl, cc)
guard_ended false x y e = absurd cc

pub group_takes : (bytes : List ℕ) (g : GroupData) → IsBytes bytes → group_at bytes ≡ Some g → (bytes ≡ body_of g) × AllByRecursion HasRecordWords g.records
unfolding group_at
group_takes bytes g fits e =
    let a = bind_some (number_at 8 bytes) (λ prev. number_at 8 prev.1 >>= λ mark. number_at 2 mark.1 >>= λ n. times record_at n.0 n.1 >>= λ records. cond (eqb (length records.1) 0) (Some (record { prev = prev.0; mark = mark.0; records = records.0 })) None) g e in
    let b = bind_some (number_at 8 a.0.1) (λ mark. number_at 2 mark.1 >>= λ n. times record_at n.0 n.1 >>= λ records. cond (eqb (length records.1) 0) (Some (record { prev = a.0.0; mark = mark.0; records = records.0 })) None) g a.2 in
    let c = bind_some (number_at 2 b.0.1) (λ n. times record_at n.0 n.1 >>= λ records. cond (eqb (length records.1) 0) (Some (record { prev = a.0.0; mark = b.0.0; records = records.0 })) None) g b.2 in
    let d = bind_some (times record_at c.0.0 c.0.1) (λ records. cond (eqb (length records.1) 0) (Some (record { prev = a.0.0; mark = b.0.0; records = records.0 })) None) g c.2 in
    let made : GroupData = record { prev = a.0.0; mark = b.0.0; records = d.0.0 } in
    let h = guard_ended (eqb (length d.0.1) 0) made g d.2 in
    let t0 = number_takes 8 bytes a.0 fits a.1 in
    let t1 = number_takes 8 a.0.1 b.0 t0.0.rest_fits b.1 in
    let t2 = number_takes 2 b.0.1 c.0 t1.0.rest_fits c.1 in
    let t3 = times_take record_at record_bytes HasRecordWords record_takes c.0.0 c.0.1 d.0 t2.0.rest_fits d.1 in
    let e01 = Takes-then bytes (field 8 a.0.0) a.0.1 (field 8 b.0.0) b.0.1 t0.0 t1.0 in
    let e02 = Takes-then bytes (field 8 a.0.0 ++ field 8 b.0.0) b.0.1 (field 2 c.0.0) c.0.1 e01 t2.0 in
    let e03 = Takes-then bytes (field 8 a.0.0 ++ field 8 b.0.0 ++ field 2 c.0.0) c.0.1 (flat_map record_bytes d.0.0) d.0.1 e02 t3.0 in
    let sized : Takes bytes (body_of made) d.0.1 = subst (λ k. Takes bytes (field 8 a.0.0 ++ field 8 b.0.0 ++ field 2 k ++ flat_map record_bytes d.0.0) d.0.1) (sym t3.1) e03 in
    let nothing : d.0.1 ≡ [] = nil_from_length d.0.1 (eqb-true _ _ h.0) in
    let whole : bytes ≡ body_of made = sized.parts ∙ ap (λ (r : List ℕ). body_of made ++ r) nothing ∙ append-nil (body_of made) in
    subst (λ (y : GroupData). (bytes ≡ body_of y) × AllByRecursion HasRecordWords y.records) h.1 (whole, t3.2)

each_spelled : (hi : ℕ) → hi ≤ 2 ^ 62 → (rs : List RecordData) → AllByRecursion (λ r. r.end ≤ hi) rs → AllByRecursion IsRecord rs → AllByRecursion (λ r. All HasWords r.writes) rs → AllByRecursion IsSpelled rs
each_spelled hi top [] ends rules words = tt
each_spelled hi top (r ∷ rs) ends rules words = (
  record {
    end = omega (arith, ends.0);
    few = omega (arith, rules.0.few);
    each = joined r.writes (recursion_from_All KeepsLimits r.writes rules.0.each) (recursion_from_All HasWords r.writes words.0);
  },
  each_spelled hi top rs ends.1 rules.1 words.1,
)
  where
    joined : (ws : List Write) → AllByRecursion KeepsLimits ws → AllByRecursion HasWords ws → AllByRecursion IsWrite ws
    joined [] p q = tt
    joined (w ∷ ws) p q = (record { limits = p.0; words = q.0 }, joined ws p.1 q.1)

pub group_again : (g : GroupData) → IsGroup g → group_at (body_of g) ≡ Some g
unfolding group_at
group_again g is =
    let prev = field 8 g.prev in
    let mark = field 8 g.mark in
    let count = field 2 (length g.records) in
    let text = flat_map record_bytes g.records in
    let regrouped : body_of g ≡ prev ++ (mark ++ (count ++ (text ++ []))) =
    append_assoc (prev ++ mark) count text ∙ append_assoc prev mark (count ++ text) ∙ ap (λ (l : List ℕ). prev ++ (mark ++ (count ++ l))) (sym (append-nil text)) in
    let spelled = each_spelled g.mark is.rules.mark g.records (recursion_from_All (λ r. r.end ≤ g.mark) g.records (λ k d h. (is.rules.within k d h).1)) (recursion_from_All IsRecord g.records is.rules.each) (recursion_from_All (λ r. All HasWords r.writes) g.records is.words) in
    ap group_at regrouped ∙ rw (number_again 8 g.prev (mark ++ (count ++ (text ++ []))) (omega (arith, is.rules.above, is.rules.mark)), number_again 8 g.mark (count ++ (text ++ [])) (omega (arith, is.rules.mark)), number_again 2 (length g.records) (text ++ []) (omega (arith, is.rules.few)), times_again record_at record_bytes IsSpelled record_again g.records [] spelled) refl

-- groups with one body are one group
pub body_of-injective : (g h : GroupData) → IsGroup g → IsGroup h → body_of g ≡ body_of h → g ≡ h
body_of-injective g h p q e = some_is g h (sym (group_again g p) ∙ ap group_at e ∙ group_again h q)

-- ---- what `decode` answers, where reading gave d, which is a group exactly where it keeps the rules

pub words_of : (rs : List RecordData) → AllByRecursion HasRecordWords rs → AllByRecursion (λ r. All HasWords r.writes) rs
words_of [] all = tt
words_of (r ∷ rs) all = (All-from_recursion HasWords r.writes all.0, words_of rs all.1)

module _ (f : Format) where
  pub found_is : (found : Option GroupData) (bytes : List ℕ) (d : GroupData) → IsBytes bytes → group_at bytes ≡ Some d → SomeIff found (KeepsRules d × IsAllowedGroup f d) d → IfSome found (λ g. IsGroupWithin f g × (bytes ≡ body_of g))
  found_is None bytes d fits read iff = tt
  found_is (Some g) bytes d fits read iff =
      let took = group_takes bytes d fits read in
      let is : IsGroup d = record { rules = iff.0.0; words = All-from_recursion (λ r. All HasWords r.writes) d.records (words_of d.records took.1) } in
      subst (λ h. IsGroupWithin f h × (bytes ≡ body_of h)) (sym iff.1) (record { is = is; allowed = iff.0.1 }, took.0)

  pub no_other : (found : Option GroupData) (bytes : List ℕ) (d : GroupData) → group_at bytes ≡ Some d → SomeIff found (KeepsRules d × IsAllowedGroup f d) d → (g : GroupData) → IsGroupWithin f g → bytes ≡ body_of g → found ≡ Some g
  no_other None bytes d read iff g is e =
      let same : d ≡ g = some_is d g (sym read ∙ ap group_at e ∙ group_again g is.is) in
      absurd (iff (subst (λ (x : GroupData). KeepsRules x × IsAllowedGroup f x) (sym same) (is.is.rules, is.allowed)))
  no_other (Some h) bytes d read iff g is e =
      let same : d ≡ g = some_is d g (sym read ∙ ap group_at e ∙ group_again g is.is) in
      ap (λ (x : GroupData). Some x) (iff.1 ∙ same)

pub none_reads : (bytes : List ℕ) → group_at bytes ≡ None → (g : GroupData) → IsGroup g → bytes ≡ body_of g → None ≡ Some g
none_reads bytes none g is e = sym none ∙ ap group_at e ∙ group_again g is
