-- The records are the puts that are the last writes of their keys.
use Rattle.std.proofs.Common.{◌≡◌, inl, inr, Bool, true, false, cond, List, [], ◌∷◌, Option, None, Some, refl, sym, ap, subst, ◌∙◌}
use Rattle.std.specs.Option.{is_some}
use Rattle.mvo_types.specs.RowData.{content_of}
use Rattle.mvo_types.specs.Write.{Effect}
use Rattle.mvo_types.specs.Write.Effect.{Put, Delete}
use Rattle.mvo_pair.specs.Data.{EntryData}
use Rattle.mvo_ckpt.specs.Writes.{Stamped, writes_of, is_write_at, is_written, last_writes, later_write, last_write, record_of, records_of}
use Rattle.mvo_ckpt.specs.Laws.{AreLastPuts}
use Rattle.mvo_places.proofs.Members.{Among, among_from, contains_from, among_filter_map, among_filter_mapped}
use Rattle.mvo_places.proofs.Keys.{key_same, eq_self}
use Rattle.mvo_ckpt.proofs.Lasts.{key_at}
use Rattle.mvo_ckpt.proofs.Rows.{last_some, none_some}

last_among : (ws : List Stamped) (w : Stamped) → Among (last_writes ws) w → last_write ws (key_at w) ≡ Some w
last_among [] w a = absurd a
last_among (v ∷ ws) w a = go (is_written ws (key_at v)) refl a (last_among ws w)
  where
    again : last_write ws (key_at w) ≡ Some w → last_write (v ∷ ws) (key_at w) ≡ Some w
    again later = ap (λ (o : Option Stamped). later_write o (cond (is_write_at (key_at w) v) (Some v) None)) later

    alone : is_written ws (key_at v) ≡ false → last_write (v ∷ ws) (key_at v) ≡ Some v
    alone none =
        ap (λ (o : Option Stamped). later_write o (cond (is_write_at (key_at v) v) (Some v) None)) (none_some (last_write ws (key_at v)) (last_some ws (key_at v) ∙ none))
        ∙ ap (λ b. cond b (Some v) None) (eq_self (key_at v))

    go : (b : Bool) → is_written ws (key_at v) ≡ b → Among (cond b (last_writes ws) (v ∷ last_writes ws)) w → (Among (last_writes ws) w → last_write ws (key_at w) ≡ Some w) → last_write (v ∷ ws) (key_at w) ≡ Some w
    go true is a later = again (later a)
    go false is (inl e) later = subst (λ (x : Stamped). last_write (v ∷ ws) (key_at x) ≡ Some x) e (alone is)
    go false is (inr a) later = again (later a)

among_last : (ws : List Stamped) (k : _) (w : Stamped) → last_write ws k ≡ Some w → Among (last_writes ws) w
among_last [] k w is = absurd cc
among_last (v ∷ ws) k w is = go (last_write ws k) refl is (among_last ws k w)
  where
    more : (b : Bool) → Among (last_writes ws) w → Among (cond b (last_writes ws) (v ∷ last_writes ws)) w
    more true later = later
    more false later = inr later

    first : (b : Bool) → is_write_at k v ≡ b → is_some (last_write ws k) ≡ false → cond b (Some v) None ≡ Some w → Among (last_writes (v ∷ ws)) w
    first true same none is =
        let alone : is_written ws (key_at v) ≡ false = ap (is_written ws) (sym (key_same k (key_at v) same)) ∙ sym (last_some ws k) ∙ none in
        let one : v ≡ w = cc in
        subst (λ (l : List Stamped). Among l w) (sym (ap (λ b. cond b (last_writes ws) (v ∷ last_writes ws)) alone)) (inl one)
    first false same none is = absurd cc

    go : (o : Option Stamped) → last_write ws k ≡ o → later_write o (cond (is_write_at k v) (Some v) None) ≡ Some w → (last_write ws k ≡ Some w → Among (last_writes ws) w) → Among (last_writes (v ∷ ws)) w
    go (Some u) last is later = more (is_written ws (key_at v)) (later (last ∙ is))
    go None last is later = first (is_write_at k v) refl (ap is_some last) is

-- a record's write
write_is : (w : Stamped) (e : EntryData) → record_of w ≡ Some e → w ≡ (e.begin, (e.row.key, Put (content_of e.row)))
write_is w e is = go w.1.1 is
  where
    go : (x : Effect) → record_of (w.0, (key_at w, x)) ≡ Some e → ◌≡◌ {A = Stamped} (w.0, (key_at w, x)) (e.begin, (e.row.key, Put (content_of e.row)))
    go (Put h) is =
        let same : record { begin = w.0; row = record { key = key_at w; sort = h.sort; bytes = h.bytes } } ≡ e = cc in
        ap (λ (x : EntryData). (x.begin, (x.row.key, Put (content_of x.row)))) same
    go Delete is = absurd cc

pub last_puts : AreLastPuts
last_puts gs e = (
  λ c.
      let m = among_filter_mapped record_of (last_writes (writes_of gs)) e (among_from (records_of gs) e c) in
      subst (λ (w : Stamped). last_write (writes_of gs) (key_at w) ≡ Some w) (write_is m.0 e m.2) (last_among (writes_of gs) m.0 m.1),
  λ is.
      let w : Stamped = (e.begin, (e.row.key, Put (content_of e.row))) in
      contains_from (records_of gs) e (among_filter_map record_of (last_writes (writes_of gs)) w e (among_last (writes_of gs) e.row.key w is) refl),
)
