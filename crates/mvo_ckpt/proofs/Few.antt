-- The records of a segment's groups are no more than a pair may have.
use Rattle.std.proofs.Common.{◌≡◌, ℕ, ◌+◌, ◌*◌, ◌<◌, ◌≤◌, Bool, true, false, cond, List, [], ◌∷◌, length, refl, sym, ap, ◌∙◌, arith, length-append}
use Rattle.std.specs.Prelude.{sum_by}
use Rattle.std.specs.List.{filter_map}
use Rattle.std.proofs.lemmas.List.Sums.{sum_by-append, sum_by-cons}
use Rattle.mvo_types.specs.declared.row.RowKey.{RowKey}
use Rattle.mvo_types.specs.declared.limits.TheConstants.{MAX_SEGMENT_LEN}
use Rattle.mvo_types.specs.Write.{Write, Effect}
use Rattle.mvo_types.specs.Write.Effect.{Put, Delete}
use Rattle.mvo_group.specs.Data.{RecordData, GroupData}
use Rattle.mvo_group.specs.Body.{body_of}
use Rattle.mvo_group.specs.Rules.{write_len, record_len}
use Rattle.mvo_group.proofs.Sizes.{length-body_of}
use Rattle.mvo_frame.specs.Frames.{Frames, sized}
use Rattle.mvo_format.specs.declared.header.TheConstants.{HEADER_LEN}
use Rattle.mvo_ckpt.specs.Writes.{Stamped, stamped, writes_in, writes_of, is_written, last_writes, record_of, records_of}
use Rattle.mvo_ckpt.specs.Laws.{IsFewEnough}
use Rattle.mvo_ckpt.proofs.Lasts.{key_at}
use Rattle.mvo_ckpt.proofs.InOrder.{in_cons, of_cons}

-- how many bytes the writes take
abbrev size_of : Stamped → ℕ
size_of w = write_len w.1

abbrev size : List Stamped → ℕ
size ws = sum_by size_of ws

size-cons : (w : Stamped) (ws : List Stamped) → size (w ∷ ws) ≡ size_of w + size ws
size-cons w ws = sum_by-cons size_of w ws

put_size : (end : ℕ) (k : RowKey) (e : Effect) (ws : List Stamped) → 20 * length (filter_map record_of ws) ≤ size ws → 20 * length (filter_map record_of ((end, (k, e)) ∷ ws)) ≤ write_len (k, e) + size ws
put_size end k (Put h) ws few = omega arith
put_size end k Delete ws few = omega arith

records_size : (ws : List Stamped) → 20 * length (filter_map record_of ws) ≤ size ws
records_size [] = omega arith
records_size (w ∷ ws) =
    let one : 20 * length (filter_map record_of (w ∷ ws)) ≤ size_of w + size ws = put_size w.0 (key_at w) w.1.1 ws (records_size ws) in
    omega (arith, one, size-cons w ws)

last_size : (ws : List Stamped) → size (last_writes ws) ≤ size ws
last_size [] = omega arith
last_size (w ∷ ws) = go (is_written ws (key_at w)) (last_size ws)
  where
    go : (b : Bool) → size (last_writes ws) ≤ size ws → size (cond b (last_writes ws) (w ∷ last_writes ws)) ≤ size (w ∷ ws)
    go true later = omega (arith, size-cons w ws)
    go false later =
        let kept : size (w ∷ last_writes ws) ≡ size_of w + size (last_writes ws) = size-cons w (last_writes ws) in
        let all : size (w ∷ ws) ≡ size_of w + size ws = size-cons w ws in
        omega (arith, kept, all)

stamped_size : (end : ℕ) (ws : List Write) → size (stamped end ws) ≡ sum_by write_len ws
stamped_size end [] = refl
stamped_size end (w ∷ ws) = size-cons (end, w) (stamped end ws) ∙ ap (λ n. write_len w + n) (stamped_size end ws) ∙ sym (sum_by-cons write_len w ws)

in_size : (rs : List RecordData) → size (writes_in rs) ≤ sum_by record_len rs
in_size [] = omega arith
in_size (r ∷ rs) =
    let both : size (writes_in (r ∷ rs)) ≡ size (stamped r.end r.writes) + size (writes_in rs) = ap (λ (l : List Stamped). size l) (in_cons r rs) ∙ sum_by-append size_of (stamped r.end r.writes) (writes_in rs) in
    let one : size (stamped r.end r.writes) ≡ sum_by write_len r.writes = stamped_size r.end r.writes in
    let rest : size (writes_in rs) ≤ sum_by record_len rs = in_size rs in
    let all : sum_by record_len (r ∷ rs) ≡ record_len r + sum_by record_len rs = sum_by-cons record_len r rs in
    omega (arith, both, one, rest, all)

group_size : (g : GroupData) → size (writes_in g.records) ≤ length (sized (body_of g))
unfolding sized
group_size g =
    let within : size (writes_in g.records) ≤ sum_by record_len g.records = in_size g.records in
    omega (arith, within, length-body_of g, length-append {A = ℕ})

frames_size : (gs : List GroupData) (place mark : ℕ) (bytes : List ℕ) → place < MAX_SEGMENT_LEN → Frames place mark gs bytes → place + size (writes_of gs) < MAX_SEGMENT_LEN
frames_size [] place mark bytes few frames = omega (arith, few)
frames_size (g ∷ gs) place mark bytes few frames =
    let both : size (writes_of (g ∷ gs)) ≡ size (writes_in g.records) + size (writes_of gs) = ap (λ (l : List Stamped). size l) (of_cons g gs) ∙ sum_by-append size_of (writes_in g.records) (writes_of gs) in
    let one : size (writes_in g.records) ≤ length (sized (body_of g)) = group_size g in
    let next : place + 1 + length (sized (body_of g)) < MAX_SEGMENT_LEN = frames.3.few in
    let rest : place + 1 + length (sized (body_of g)) + size (writes_of gs) < MAX_SEGMENT_LEN = frames_size gs (place + 1 + length (sized (body_of g))) g.mark frames.1 next frames.4 in
    omega (arith, both, one, rest)

pub few_enough : IsFewEnough
few_enough upto mark kind gs bytes segment =
    let puts : 20 * length (records_of gs) ≤ size (last_writes (writes_of gs)) = records_size (last_writes (writes_of gs)) in
    let lasts : size (last_writes (writes_of gs)) ≤ size (writes_of gs) = last_size (writes_of gs) in
    let all : HEADER_LEN + size (writes_of gs) < MAX_SEGMENT_LEN = frames_size gs HEADER_LEN mark segment.has.rest (omega arith) segment.has.frames in
    omega (arith, puts, lasts, all)
