-- The records of a segment's groups, in their order.
use Rattle.std.proofs.Common.{◌≡◌, ◌⊎◌, inl, inr, ⊎_elim, ℕ, ◌+◌, ◌<◌, ◌≤◌, Bool, true, false, cond, List, [], ◌∷◌, ◌++◌, length, Option, None, Some, refl, sym, ap, subst, ◌∙◌, arith}
use Rattle.std.specs.Prelude.{map, All}
use Rattle.std.specs.List.{filter_map, cons_option, AllByRecursion}
use Rattle.std.specs.List.Sorted.{IsStrictlySortedBy}
use Rattle.std.specs.Ordering.{nat_cmp, ordering_then}
use Rattle.std.specs.declared.cmp.Ordering.TheVariants.{Less, Equal}
use Rattle.std.proofs.lemmas.Bool.Decides.{nat_tests}
use Rattle.std.proofs.lemmas.List.Concat.{flat_map-cons}
use Rattle.std.proofs.lemmas.List.Elements.{All-from_recursion, recursion_from_All}
use Rattle.mvo_types.specs.declared.row.RowKey.{RowKey}
use Rattle.mvo_types.specs.Keys.{key_cmp}
use Rattle.mvo_types.specs.Write.{Write, Effect}
use Rattle.mvo_types.specs.Write.Effect.{Put, Delete}
use Rattle.mvo_group.specs.Data.{RecordData, GroupData}
use Rattle.mvo_group.specs.Rules.{IsRecord, IsGroup}
use Rattle.mvo_format.specs.declared.format.Format.{Format}
use Rattle.mvo_format.specs.Formats.{AllowsNoMore}
use Rattle.mvo_format.proofs.Versions.{later_allows}
use Rattle.mvo_group.specs.Allowed.{IsAllowed}
use Rattle.mvo_frame.specs.Frames.{Frames, mark_after, sized}
use Rattle.mvo_group.specs.Body.{body_of}
use Rattle.mvo_format.specs.declared.header.TheConstants.{HEADER_LEN}
use Rattle.mvo_pair.specs.Data.{EntryData, entry_cmp}
use Rattle.mvo_pair.specs.Files.{IsEntry}
use Rattle.mvo_ckpt.specs.Writes.{Stamped, stamped, writes_in, writes_of, is_written, last_writes, record_of, records_of}
use Rattle.mvo_ckpt.specs.Laws.{GivesEntries}
use Rattle.mvo_places.proofs.Members.{Among, among_append, among_map, among_mapped, among_filter_mapped, all_among, all_from, Rises, rises_from}
use Rattle.mvo_ckpt.proofs.Lasts.{key_at}

-- ---- writes in order

abbrev Before : Stamped → Stamped → Type 0
Before v w = (v.0 < w.0) ⊎ ((v.0 ≡ w.0) × (key_cmp (key_at v) (key_at w) ≡ Less))

abbrev InOrder : List Stamped → Type 0
InOrder [] = Unit {0}
InOrder (w ∷ ws) = AllByRecursion (Before w) ws × InOrder ws

in_order_append : (vs ws : List Stamped) → InOrder vs → InOrder ws → ((v w : Stamped) → Among vs v → Among ws w → Before v w) → InOrder (vs ++ ws)
in_order_append [] ws first second across = second
in_order_append (v ∷ vs) ws first second across = (
  all_from (Before v) (vs ++ ws) (λ w a. ⊎_elim (λ (l : Among vs w). all_among (Before v) vs w first.0 l) (λ (r : Among ws w). across v w (inl refl) r) (among_append vs ws w a)),
  in_order_append vs ws first.1 second (λ x y a b. across x y (inr a) b),
)

-- ---- the writes of one transaction

abbrev write_key : Write → RowKey
write_key w = w.0

keys_in_order : (end : ℕ) (ws : List Write) → IsStrictlySortedBy key_cmp (map write_key ws) → InOrder (stamped end ws)
unfolding IsStrictlySortedBy
keys_in_order end [] rise = tt
keys_in_order end (w ∷ ws) rise = (
  all_from (Before (end, w)) (stamped end ws) (λ v a.
      let m = among_mapped (λ (x : Write). (end, x)) ws v a in
      let less : key_cmp w.0 m.0.0 ≡ Less = all_among (λ k. key_cmp w.0 k ≡ Less) (map write_key ws) m.0.0 rise.0 (among_map write_key ws m.0 m.1) in
      subst (Before (end, w)) m.2 (inr (refl, less))),
  keys_in_order end ws rise.1,
)

stamped_end : (end : ℕ) (ws : List Write) (v : Stamped) → Among (stamped end ws) v → end ≡ v.0
stamped_end end ws v a = ap (λ (x : Stamped). x.0) (among_mapped (λ (x : Write). (end, x)) ws v a).2

-- ---- the writes of the transactions of a group

pub in_cons : (r : RecordData) (rs : List RecordData) → writes_in (r ∷ rs) ≡ stamped r.end r.writes ++ writes_in rs
in_cons r rs = flat_map-cons (λ x. stamped x.end x.writes) r rs

among_in : (rs : List RecordData) (v : Stamped) → Among (writes_in rs) v → (r : RecordData) × Among rs r × Among (stamped r.end r.writes) v
among_in [] v a = absurd a
among_in (r ∷ rs) v a = go (among_append (stamped r.end r.writes) (writes_in rs) v (subst (λ (l : List Stamped). Among l v) (in_cons r rs) a)) (among_in rs v)
  where
    go : Among (stamped r.end r.writes) v ⊎ Among (writes_in rs) v → (Among (writes_in rs) v → (x : RecordData) × Among rs x × Among (stamped x.end x.writes) v) → (x : RecordData) × Among (r ∷ rs) x × Among (stamped x.end x.writes) v
    go (inl here) later = (r, inl refl, here)
    go (inr there) later = let m = later there in (m.0, inr m.1, m.2)

abbrev end_of : RecordData → ℕ
end_of r = r.end

records_in_order : (rs : List RecordData) → Rises (map end_of rs) → AllByRecursion IsRecord rs → InOrder (writes_in rs)
records_in_order [] up each = tt
records_in_order (r ∷ rs) up each =
    subst InOrder (sym (in_cons r rs)) (in_order_append (stamped r.end r.writes) (writes_in rs)
    (keys_in_order r.end r.writes each.0.rise) (records_in_order rs up.1 each.1)
    (λ v w a b.
    let m = among_in rs w b in
    let above : r.end < m.0.end = all_among (λ n. r.end < n) (map end_of rs) m.0.end up.0 (among_map end_of rs m.0 m.1) in
    let first : r.end ≡ v.0 = stamped_end r.end r.writes v a in
    let second : m.0.end ≡ w.0 = stamped_end m.0.end m.0.writes w m.2 in
    inl (omega (arith, above, first, second))))

-- ---- the writes of the groups of a segment

abbrev Chained : ℕ → List GroupData → Type 0
Chained mark [] = Unit {0}
Chained mark (g ∷ gs) = (g.prev ≡ mark) × IsGroup g × Chained g.mark gs

pub frames_chained : (gs : List GroupData) (place mark : ℕ) (bytes : List ℕ) → Frames place mark gs bytes → Chained mark gs
frames_chained [] place mark bytes frames = tt
frames_chained (g ∷ gs) place mark bytes frames = (frames.3.prev, frames.3.is, frames_chained gs (place + 1 + length (sized (body_of g))) g.mark frames.1 frames.4)

abbrev Within : ℕ → ℕ → Stamped → Type 0
Within lo hi w = (lo < w.0) × (w.0 ≤ hi)

pub of_cons : (g : GroupData) (gs : List GroupData) → writes_of (g ∷ gs) ≡ writes_in g.records ++ writes_of gs
of_cons g gs = flat_map-cons (λ x. writes_in x.records) g gs

group_within : (g : GroupData) → IsGroup g → (w : Stamped) → Among (writes_in g.records) w → Within g.prev g.mark w
group_within g is w a =
    let m = among_in g.records w a in
    let end : m.0.end ≡ w.0 = stamped_end m.0.end m.0.writes w m.2 in
    let within : (g.prev < m.0.end) × (m.0.end ≤ g.mark) = all_among (λ r. (g.prev < r.end) × (r.end ≤ g.mark)) g.records m.0 (recursion_from_All (λ r. (g.prev < r.end) × (r.end ≤ g.mark)) g.records is.rules.within) m.1 in
    (omega (arith, within.0, end), omega (arith, within.1, end))

mark_rises : (mark : ℕ) (gs : List GroupData) → Chained mark gs → mark ≤ mark_after mark gs
mark_rises mark [] chained = omega arith
mark_rises mark (g ∷ gs) chained =
    let later : g.mark ≤ mark_after g.mark gs = mark_rises g.mark gs chained.2 in
    let above : g.prev < g.mark = chained.1.rules.above in
    omega (arith, later, above, chained.0)

chain_within : (mark : ℕ) (gs : List GroupData) → Chained mark gs → (w : Stamped) → Among (writes_of gs) w → Within mark (mark_after mark gs) w
chain_within mark [] chained w a = absurd a
chain_within mark (g ∷ gs) chained w a = go (among_append (writes_in g.records) (writes_of gs) w (subst (λ (l : List Stamped). Among l w) (of_cons g gs) a)) (chain_within g.mark gs chained.2 w)
  where
    go : Among (writes_in g.records) w ⊎ Among (writes_of gs) w → (Among (writes_of gs) w → Within g.mark (mark_after g.mark gs) w) → Within mark (mark_after g.mark gs) w
    go (inl here) later =
        let x = group_within g chained.1 w here in
        let up : g.mark ≤ mark_after g.mark gs = mark_rises g.mark gs chained.2 in
        (omega (arith, x.0, chained.0), omega (arith, x.1, up))
    go (inr there) later =
        let x = later there in
        let above : g.prev < g.mark = chained.1.rules.above in
        (omega (arith, x.0, above, chained.0), x.1)

chain_in_order : (mark : ℕ) (gs : List GroupData) → Chained mark gs → InOrder (writes_of gs)
chain_in_order mark [] chained = tt
chain_in_order mark (g ∷ gs) chained =
    subst InOrder (sym (of_cons g gs)) (in_order_append (writes_in g.records) (writes_of gs)
    (records_in_order g.records (rises_from (map end_of g.records) chained.1.rules.rise) (recursion_from_All IsRecord g.records chained.1.rules.each))
    (chain_in_order g.mark gs chained.2)
    (λ v w a b.
    let first = group_within g chained.1 v a in
    let second = chain_within g.mark gs chained.2 w b in
    inl (omega (arith, first.1, second.0))))

-- ---- the last writes, and the records

pub last_among : (ws : List Stamped) (w : Stamped) → Among (last_writes ws) w → Among ws w
last_among [] w a = a
last_among (v ∷ ws) w a = go (is_written ws (key_at v)) a (last_among ws w)
  where
    go : (b : Bool) → Among (cond b (last_writes ws) (v ∷ last_writes ws)) w → (Among (last_writes ws) w → Among ws w) → Among (v ∷ ws) w
    go true a later = inr (later a)
    go false (inl e) later = inl e
    go false (inr a) later = inr (later a)

last_in_order : (ws : List Stamped) → InOrder ws → InOrder (last_writes ws)
last_in_order [] up = tt
last_in_order (w ∷ ws) up = go (is_written ws (key_at w)) (last_in_order ws up.1)
  where
    go : (b : Bool) → InOrder (last_writes ws) → InOrder (cond b (last_writes ws) (w ∷ last_writes ws))
    go true later = later
    go false later = (all_from (Before w) (last_writes ws) (λ v a. all_among (Before w) ws v up.0 (last_among ws v a)), later)

-- what a record has of its write
pub record Tells (w : Stamped) (e : EntryData) : Type 0 where
  pub begin : e.begin ≡ w.0
  pub key : e.row.key ≡ key_at w

pub tells : (w : Stamped) (e : EntryData) → record_of w ≡ Some e → Tells w e
tells w e is = go w.1.1 is
  where
    go : (f : Effect) → record_of (w.0, (key_at w, f)) ≡ Some e → Tells w e
    go (Put h) is = let same : record { begin = w.0; row = record { key = key_at w; sort = h.sort; bytes = h.bytes } } ≡ e = cc in
        record { begin = sym (ap (λ (x : EntryData). x.begin) same); key = sym (ap (λ (x : EntryData). x.row.key) same) }
    go Delete is = absurd cc

less_by : (v w : Stamped) (d e : EntryData) → Before v w → Tells v d → Tells w e → entry_cmp d e ≡ Less
less_by v w d e (inl below) first second =
    let less : nat_cmp d.begin e.begin ≡ Less = lesser d.begin e.begin (omega (arith, below, first.begin, second.begin)) in
    ap (λ o. ordering_then o (key_cmp d.row.key e.row.key)) less
  where
    lesser : (a b : ℕ) → a < b → nat_cmp a b ≡ Less
    lesser a b below = grind (arith, nat_tests)
less_by v w d e (inr same) first second =
    let tie : nat_cmp d.begin e.begin ≡ Equal = equal d.begin e.begin (first.begin ∙ same.0 ∙ sym second.begin) in
    ap (λ o. ordering_then o (key_cmp d.row.key e.row.key)) tie
    ∙ ap (λ k. key_cmp k e.row.key) first.key ∙ ap (key_cmp (key_at v)) second.key ∙ same.1
  where
    equal : (a b : ℕ) → a ≡ b → nat_cmp a b ≡ Equal
    equal a b same = grind (arith, nat_tests)

records_sorted : (ws : List Stamped) → InOrder ws → IsStrictlySortedBy entry_cmp (filter_map record_of ws)
unfolding IsStrictlySortedBy
records_sorted [] up = tt
records_sorted (w ∷ ws) up = go (record_of w) refl (records_sorted ws up.1)
  where
    go : (o : Option EntryData) → record_of w ≡ o → IsStrictlySortedBy entry_cmp (filter_map record_of ws) → IsStrictlySortedBy entry_cmp (cons_option o (filter_map record_of ws))
    go None is later = later
    go (Some e) is later = (
      all_from (λ x. entry_cmp e x ≡ Less) (filter_map record_of ws) (λ x a.
          let m = among_filter_mapped record_of ws x a in
          less_by w m.0 e x (all_among (Before w) ws m.0 up.0 m.1) (tells w e is) (tells m.0 x m.2)),
      later,
    )

-- ---- the limits

abbrev Allowed : Format → Stamped → Type 0
Allowed f w = IsAllowed f w.1

record_allowed : (f : Format) (r : RecordData) → All (IsAllowed f) r.writes → (w : Stamped) → Among (stamped r.end r.writes) w → Allowed f w
record_allowed f r each w a =
    let m = among_mapped (λ (x : Write). (r.end, x)) r.writes w a in
    subst (Allowed f) m.2 (all_among (IsAllowed f) r.writes m.0 (recursion_from_All (IsAllowed f) r.writes each) m.1)

all_allowed : (f : Format) (gs : List GroupData) → AllByRecursion (λ g. All (λ r. All (IsAllowed f) r.writes) g.records) gs → (w : Stamped) → Among (writes_of gs) w → Allowed f w
all_allowed f [] each w a = absurd a
all_allowed f (g ∷ gs) each w a = go (among_append (writes_in g.records) (writes_of gs) w (subst (λ (l : List Stamped). Among l w) (of_cons g gs) a)) (all_allowed f gs each.1 w)
  where
    go : Among (writes_in g.records) w ⊎ Among (writes_of gs) w → (Among (writes_of gs) w → Allowed f w) → Allowed f w
    go (inl here) later =
        let m = among_in g.records w here in
        record_allowed f m.0 (all_among (λ r. All (IsAllowed f) r.writes) g.records m.0 (recursion_from_All (λ r. All (IsAllowed f) r.writes) g.records each.0) m.1) w m.2
    go (inr there) later = later there

is_entry : (f : Format) (lo hi : ℕ) (w : Stamped) (e : EntryData) → Within lo hi w → Allowed f w → record_of w ≡ Some e → IsEntry f lo hi e
is_entry f lo hi w e within allowed is = go w.1.1 allowed is
  where
    go : (x : Effect) → IsAllowed f (key_at w, x) → record_of (w.0, (key_at w, x)) ≡ Some e → IsEntry f lo hi e
    go (Put h) allowed is =
        let same : record { begin = w.0; row = record { key = key_at w; sort = h.sort; bytes = h.bytes } } ≡ e = cc in
        subst (IsEntry f lo hi) same (record { above = within.0; upto = within.1; table = allowed.table; size = allowed.size })
    go Delete allowed is = absurd cc

-- a version that allows more allows the write too
allowed_later : (g f : Format) → AllowsNoMore g f → (w : Stamped) → Allowed g w → Allowed f w
allowed_later g f more w a = record { table = omega (arith, a.table, more.table); size = omega (arith, a.size, more.size) }

pub gives_entries : GivesEntries
gives_entries upto f mark kind gs bytes known le segment =
    let ws = writes_of gs in
    let own = segment.format in
    let more : AllowsNoMore own f = later_allows upto f.version own f segment.known known (omega (arith, segment.known.within, le)) in
    let chained = frames_chained gs HEADER_LEN mark segment.has.rest segment.has.frames in
    record {
      each = All-from_recursion (IsEntry f mark (mark_after mark gs)) (records_of gs) (all_from (IsEntry f mark (mark_after mark gs)) (records_of gs) (λ e a.
          let m = among_filter_mapped record_of (last_writes ws) e a in
          let there : Among ws m.0 = last_among ws m.0 m.1 in
          is_entry f mark (mark_after mark gs) m.0 e (chain_within mark gs chained m.0 there)
          (allowed_later own f more m.0 (all_allowed own gs (recursion_from_All (λ g. All (λ r. All (IsAllowed own) r.writes) g.records) gs segment.allowed) m.0 there)) m.2));
      rise = records_sorted (last_writes ws) (last_in_order ws (chain_in_order mark gs chained));
    }
