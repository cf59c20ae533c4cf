-- The groups of a segment are put on the rows one at a time.
use Rattle.std.proofs.Common.{◌≡◌, ℕ, ◌+◌, ◌-◌, ◌<◌, ◌≤◌, Bool, true, false, cond, ltb, List, [], ◌∷◌, ◌++◌, map, length, Some, None, Result, Ok, Err, refl, sym, ap, subst, ◌∙◌, append_assoc, length-append, arith}
use Rattle.std.specs.Prelude.{fold, filter, not, ◌&&◌}
use Rattle.std.specs.List.{flat_map}
use Rattle.std.specs.Result.{IfErr, IsErrAnd}
use Rattle.std.specs.List.Sorted.{ties, IsStableByKey}
use Rattle.std.specs.Ordering.{is_lt, is_eq, eq_by_cmp, ordering_reverse}
use Rattle.std.specs.declared.cmp.Ordering.{Ordering}
use Rattle.std.specs.declared.cmp.Ordering.TheVariants.{Less, Equal, Greater}
use Rattle.std.specs.FinMap.{get, get-insert, get-remove, same_map}
use Rattle.std.proofs.lemmas.Bool.{ltb-true, ltb-false}
use Rattle.std.proofs.lemmas.List.Sums.{fold-append}
use Rattle.std.proofs.lemmas.List.Concat.{flat_map-cons, flat_map-append}
use Rattle.std.proofs.lemmas.List.{append-nil}
use Rattle.mvo_types.specs.declared.row.RowKey.{RowKey}
use Rattle.mvo_types.specs.declared.limits.TheConstants.{MAX_SEGMENT_LEN, MAX_STAMP}
use Rattle.mvo_types.specs.declared.refusal.Refusal.{Refusal}
use Rattle.mvo_types.specs.declared.refusal.Refusal.TheVariants.{Corrupt}
use Rattle.mvo_types.specs.Keys.{Map, key_cmp}
use Rattle.mvo_types.specs.Write.{Write, Effect, content_after}
use Rattle.mvo_types.specs.Write.Effect.{Put, Delete}
use Rattle.mvo_types.proofs.Maps.{keys_total, exact_keys}
use Rattle.mvo_model.specs.History.{after_effect}
use Rattle.mvo_group.specs.Data.{RecordData, GroupData, write_data}
use Rattle.mvo_group.specs.declared.write.Write.{Write as RustWrite}
use Rattle.mvo_group.specs.declared.write.Write.TheVariants as write
use Rattle.mvo_pair.specs.Reading.{IsBytes}
use Rattle.mvo_format.specs.declared.header.TheConstants.{HEADER_LEN}
use Rattle.mvo_format.specs.declared.format.Format.{Format}
use Rattle.mvo_format.specs.Found.{header_found}
use Rattle.mvo_format.proofs.Headers.{IsHead, head_is}
use Rattle.mvo_frame.specs.declared.magic.TheConstants.{MAGIC}
use Rattle.mvo_frame.specs.declared.kind.Kind.{Kind}
use Rattle.mvo_frame.specs.declared.kind.Kind.TheVariants.{Sealed}
use Rattle.mvo_frame.specs.Frames.{frame}
use Rattle.mvo_frame.specs.Reading.{step_found, enough_found, segment_found}
use Rattle.mvo_frame.specs.Standing.{gate_of}
use Rattle.mvo_frame.proofs.Fronts.{segment_front}
use Rattle.mvo_frame.proofs.Stepwise.{IsReadUpTo, read_begun, read_more, read_ended, read_failed, read_shorter}
use Rattle.mvo_pair.proofs.Loads.{tells_ok}
use Rattle.mvo_places.specs.Rows.{after_record, after_groups}
use Rattle.mvo_recovery.specs.image.Files.{SegmentIs}
use Rattle.mvo_recovery.proofs.image.Opening.{segment_exact}
use Rattle.mvo_load.specs.Parts.{IsReplayed}
use Rattle.mvo_load.specs.Replay.{all_writes, after_writes}
use Rattle.mvo_load.proofs.Fronts.{segment_on_disk}
use Rattle.mvo_load.proofs.Giving.{after_frames}
use Rattle.mvo_load.proofs.Groups.{after_push}

-- ---- writes

abbrev pub with_write : Map → Write → Map
with_write m w = after_effect w.0 w.1 m

abbrev writes_in : RecordData → List Write
writes_in r = r.writes

-- the rows after the writes of some transactions are those after the transactions
pub after_of_records : (m : Map) (rs : List RecordData) → after_writes m (all_writes rs) ≡ fold after_record m rs
after_of_records m [] = refl
after_of_records m (r ∷ rs) =
    ap (after_writes m) (flat_map-cons writes_in r rs) ∙ fold-append with_write m r.writes (all_writes rs)
    ∙ after_of_records (after_record m r) rs

-- the writes of one more transaction
pub writes_more : (ws : List Write) (rs : List RecordData) (r : RecordData) → (ws ++ all_writes rs) ++ r.writes ≡ ws ++ all_writes (rs ++ r ∷ [])
writes_more ws rs r =
    append_assoc ws (all_writes rs) r.writes
    ∙ ap (λ (l : List Write). ws ++ l) (ap (λ (l : List Write). all_writes rs ++ l) (sym (append-nil r.writes) ∙ sym (flat_map-cons writes_in r [])) ∙ sym (flat_map-append writes_in rs (r ∷ [])))

pub no_writes : (ws : List Write) → ws ≡ ws ++ all_writes []
no_writes ws = sym (append-nil ws)

pub after_both : (m : Map) (ws vs : List Write) → after_writes m (ws ++ vs) ≡ after_writes (after_writes m ws) vs
after_both m ws vs = fold-append with_write m ws vs

-- ---- writes by their keys

key_at : RustWrite → RowKey
key_at w = (write_data w).0

not_apart : (o : Ordering) → (not (is_lt o) && not (is_lt (ordering_reverse o))) ≡ is_eq o
not_apart Less = refl
not_apart Equal = refl
not_apart Greater = refl

-- keys of which none is less are one
tied : (a b : RowKey) → (not (is_lt (key_cmp a b)) && not (is_lt (key_cmp b a))) ≡ eq_by_cmp key_cmp a b
tied a b = ap (λ o. not (is_lt (key_cmp a b)) && not (is_lt o)) (keys_total.antisymm b a) ∙ not_apart (key_cmp a b)

got_effect : (m : Map) (key k : RowKey) (e : Effect) → get (after_effect key e m) k ≡ cond (eq_by_cmp key_cmp k key) (content_after e) (get m k)
got_effect m key k (Put h) = get-insert keys_total m key h k
got_effect m key k Delete = get-remove keys_total m key k

-- what stands at a key goes by the writes to it
only_own : (k : RowKey) (own : RustWrite → Bool) → ((w : RustWrite) → own w ≡ eq_by_cmp key_cmp k (write_data w).0) → (ws : List RustWrite) (m n : Map) → get m k ≡ get n k
    → get (after_writes m (map write_data ws)) k ≡ get (after_writes n (map write_data (filter own ws))) k
only_own k own is [] m n same = same
only_own k own is (w ∷ ws) m n same = go (own w) refl (λ a b. only_own k own is ws a b)
  where
    key : RowKey
    key = (write_data w).0

    left : Effect
    left = (write_data w).1

    at : (l : Map) (b : Bool) → own w ≡ b → get (after_effect key left l) k ≡ cond b (content_after left) (get l k)
    at l b h = got_effect l key k left ∙ ap (λ (t : Bool). cond t (content_after left) (get l k)) (sym (is w) ∙ h)

    go : (b : Bool) → own w ≡ b → ((a c : Map) → get a k ≡ get c k → get (after_writes a (map write_data ws)) k ≡ get (after_writes c (map write_data (filter own ws))) k)
        → get (after_writes m (map write_data (w ∷ ws))) k ≡ get (after_writes n (map write_data (cond b (w ∷ filter own ws) (filter own ws)))) k
    go true h again = again (after_effect key left m) (after_effect key left n) (at m true h ∙ sym (at n true h))
    go false h again = again (after_effect key left m) n (at m false h ∙ same)

-- a sort by keys that keeps the order of those with one key leaves the same rows
pub sorted_same : (m : Map) (ws vs : List RustWrite) → IsStableByKey (λ w. (write_data w).0) key_cmp ws vs → after_writes m (map write_data vs) ≡ after_writes m (map write_data ws)
sorted_same m ws vs stable = same_map keys_total exact_keys _ _ (λ k. at k)
  where
    own : RowKey → RustWrite → Bool
    own k = ties (λ x y. is_lt (key_cmp (write_data x).0 (write_data y).0)) (write.Delete k)

    at : (k : RowKey) → get (after_writes m (map write_data vs)) k ≡ get (after_writes m (map write_data ws)) k
    at k =
        only_own k (own k) (λ w. tied k (write_data w).0) vs m m refl
        ∙ ap (λ (l : List RustWrite). get (after_writes m (map write_data l)) k) (stable (write.Delete k))
        ∙ sym (only_own k (own k) (λ w. tied k (write_data w).0) ws m m refl)

-- ---- the header, and a refusal that is passed on

pub behind_fits : (upto : ℕ) (own : Format) (file : ℕ) (bytes rest : List ℕ) → IsBytes bytes → header_found file MAGIC upto bytes ≡ Ok (own, rest) → IsBytes rest
behind_fits upto own file bytes rest fits e = (subst (IsHead file MAGIC upto bytes) e (head_is file MAGIC upto bytes fits)).takes.rest_fits

pub passed : {X : Type 0} (r : Result X Refusal) (e : Refusal) (P : Refusal → Type 0) → IsErrAnd r (λ x. x ≡ e) → P e → IfErr r P
passed (Ok x) e P is p = absurd is
passed (Err x) e P is p = subst P (sym is) p

-- ---- enough groups

pub enough_is : (file gate : ℕ) (kind : Kind) (gs : List GroupData) → kind ≡ Sealed → gate ≡ gate_of gs → enough_found file kind gs ≡ cond (ltb HEADER_LEN gate) (Ok gs) (Err (Corrupt file))
enough_is file gate kind [] is place = ap (λ (k : Kind). enough_found file k []) is ∙ ap (λ (t : Bool). cond t (Ok []) (Err (Corrupt file))) (sym (low (ltb HEADER_LEN gate) refl))
  where
    low : (t : Bool) → ltb HEADER_LEN gate ≡ t → ltb HEADER_LEN gate ≡ false
    low true e = absurd (omega (arith, ltb-true _ _ e, place))
    low false e = e
enough_is file gate kind (g ∷ gs) is place = ap (λ (k : Kind). enough_found file k (g ∷ gs)) is ∙ ap (λ (t : Bool). cond t (Ok (g ∷ gs)) (Err (Corrupt file))) (sym (high (ltb HEADER_LEN gate) refl))
  where
    long : HEADER_LEN < gate
    long = omega (arith, place, ap (λ (l : List ℕ). length l) (flat_map-cons frame g gs), length-append (frame g) (flat_map frame gs))

    high : (t : Bool) → ltb HEADER_LEN gate ≡ t → ltb HEADER_LEN gate ≡ true
    high true e = e
    high false e = absurd (omega (arith, ltb-false _ _ e, long))

-- ---- one group after another

-- The groups that were read of a segment of its own format make these rows of the old ones, once these writes are put.
pub record IsReplaying (upto : ℕ) (own : Format) (file start : ℕ) (bytes rest : List ℕ) (old rows : Map) (writes : List Write) (gate mark : ℕ) : Type 0 where
  pub gs : List GroupData
  pub read : IsReadUpTo upto own file start bytes rest gs gate mark
  pub rows_are : after_writes rows writes ≡ after_groups old gs

module _ (upto : ℕ) (own : Format) (file start : ℕ) (bytes : List ℕ) (old : Map) where
  pub replay_begun : (rest : List ℕ) (ws : List RustWrite) → header_found file MAGIC upto bytes ≡ Ok (own, rest) → IsBytes rest → ws ≡ [] → IsReplaying upto own file start bytes rest old old (map write_data ws) HEADER_LEN start
  replay_begun rest ws head fits nil = record {
    gs = [];
    read = read_begun upto own file start bytes rest [] head fits refl;
    rows_are = ap (λ (l : List RustWrite). after_writes old (map write_data l)) nil;
  }

  module _ (rest : List ℕ) (rows : Map) (ws : List Write) (gate mark : ℕ) (r : IsReplaying upto own file start bytes rest old rows ws gate mark) where
    pub replay_more : (g : GroupData) (later : List ℕ) (next : ℕ) (vs left : List Write) (new : Map) → step_found own file gate mark rest ≡ Ok (Some (g, later)) → next ≡ gate + (length rest - length later)
        → vs ≡ ws ++ all_writes g.records → after_writes new left ≡ after_writes rows vs → IsReplaying upto own file start bytes later old new left next g.mark
    replay_more g later next vs left new found next_is all put = record {
      gs = r.gs ++ g ∷ [];
      read = read_more upto own file start bytes rest r.gs gate mark r.read g later next (r.gs ++ g ∷ []) found next_is refl;
      rows_are =
          put ∙ ap (after_writes rows) all ∙ after_both rows ws (all_writes g.records)
          ∙ ap (λ (m : Map). after_writes m (all_writes g.records)) r.rows_are
          ∙ after_of_records (after_groups old r.gs) g.records ∙ sym (after_push old r.gs g);
    }

    pub replay_shorter : (g : GroupData) (later : List ℕ) → step_found own file gate mark rest ≡ Ok (Some (g, later)) → length later < length rest
    replay_shorter g later found = read_shorter upto own file start bytes rest r.gs gate mark r.read g later found

    pub replay_next : (g : GroupData) (later : List ℕ) → step_found own file gate mark rest ≡ Ok (Some (g, later)) → gate + (length rest - length later) < MAX_SEGMENT_LEN
    replay_next g later found = (read_more upto own file start bytes rest r.gs gate mark r.read g later (gate + (length rest - length later)) (r.gs ++ g ∷ []) found refl refl).so_far.few

    pub replay_failed : (kind : Kind) (e : Refusal) → step_found own file gate mark rest ≡ Err e → segment_found upto file start kind bytes ≡ Err e
    replay_failed kind e found = read_failed upto own file start bytes rest r.gs gate mark r.read kind e found

    module _ (kind : Kind) (enough : Bool) (found : step_found own file gate mark rest ≡ Ok None) (by : (file : ℕ) (gs : List GroupData) → gate ≡ gate_of gs → enough_found file kind gs ≡ cond enough (Ok gs) (Err (Corrupt file))) where
      all_found : segment_found upto file start kind bytes ≡ cond enough (Ok r.gs) (Err (Corrupt file))
      all_found = read_ended upto own file start bytes rest r.gs gate mark r.read kind found ∙ by file r.gs r.read.so_far.place

      pub replay_short : enough ≡ false → segment_found upto file start kind bytes ≡ Err (Corrupt file)
      replay_short e = all_found ∙ ap (λ (t : Bool). cond t (Ok r.gs) (Err (Corrupt file))) e

      module _ (e : enough ≡ true) (fits : IsBytes bytes) where
        pub replay_ended : (new : Map) → new ≡ after_writes rows ws → IsReplayed upto file start kind bytes old new mark gate
        replay_ended new put = record {
          groups = r.gs;
          says = tells_ok (SegmentIs upto file start kind bytes) (segment_found upto file start kind bytes) r.gs (segment_exact upto file start kind bytes fits) (all_found ∙ ap (λ (t : Bool). cond t (Ok r.gs) (Err (Corrupt file))) e);
          rows = put ∙ r.rows_are;
          mark_is = r.read.so_far.mark_is;
          gate_is = r.read.so_far.place;
          few = r.read.so_far.few;
        }

-- the mark behind the groups is a stamp
pub replayed_fits : (upto : ℕ) (file start : ℕ) (kind : Kind) (bytes : List ℕ) (old new : Map) (mark gate : ℕ) → IsReplayed upto file start kind bytes old new mark gate → start ≤ MAX_STAMP → mark ≤ MAX_STAMP
replayed_fits upto file start kind bytes old new mark gate r le =
    subst (λ (n : ℕ). n ≤ MAX_STAMP) (sym r.mark_is) (after_frames HEADER_LEN start r.groups r.says.0.has.rest le r.says.0.has.frames)

-- what is put of the front of a file is what the file says
pub replayed_on_disk : (upto : ℕ) (file start : ℕ) (kind : Kind) (bytes : List ℕ) (old new : Map) (mark gate : ℕ) → IsReplayed upto file start kind (segment_front bytes) old new mark gate → IsReplayed upto file start kind bytes old new mark gate
replayed_on_disk upto file start kind bytes old new mark gate r = record {
  groups = r.groups;
  says = segment_on_disk upto file start kind bytes (Ok r.groups) r.says;
  rows = r.rows;
  mark_is = r.mark_is;
  gate_is = r.gate_is;
  few = r.few;
}
