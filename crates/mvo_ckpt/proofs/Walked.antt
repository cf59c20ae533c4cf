-- Walks of writes, one behind another.
use Rattle.std.proofs.Common.{◌≡◌, List, [], ◌∷◌, ◌++◌, refl, ap, ◌∙◌}
use Rattle.std.proofs.lemmas.List.{map-append, append-nil}
use Rattle.std.proofs.lemmas.List.Concat.{flat_map-append, flat_map-cons}
use Rattle.mvo_types.specs.Write.{Write}
use Rattle.mvo_group.specs.Data.{RecordData, GroupData}
use Rattle.mvo_ckpt.specs.Writes.{Stamped, stamped, writes_in, writes_of}
use Rattle.mvo_places.specs.Places.{PlaceMap}
use Rattle.mvo_ckpt.specs.Walk.{Walk, step, walk_writes}

pub walk-append : (at : PlaceMap) (vs ws : List Stamped) (s : Walk) → walk_writes at (vs ++ ws) s ≡ walk_writes at vs (walk_writes at ws s)
walk-append at [] ws s = refl
walk-append at (v ∷ vs) ws s = ap (step at v) (walk-append at vs ws s)

-- the last write first
pub walk_last : (at : PlaceMap) (end : _) (ws : List Write) (w : Write) (s : Walk) → walk_writes at (stamped end (ws ++ w ∷ [])) s ≡ walk_writes at (stamped end ws) (step at (end, w) s)
walk_last at end ws w s = ap (λ (l : List Stamped). walk_writes at l s) (map-append (λ x. (end, x)) ws (w ∷ [])) ∙ walk-append at (stamped end ws) ((end, w) ∷ []) s

-- the last transaction first
pub walk_last_record : (at : PlaceMap) (rs : List RecordData) (r : RecordData) (s : Walk) → walk_writes at (writes_in (rs ++ r ∷ [])) s ≡ walk_writes at (writes_in rs) (walk_writes at (stamped r.end r.writes) s)
walk_last_record at rs r s =
    ap (λ (l : List Stamped). walk_writes at l s) (flat_map-append (λ x. stamped x.end x.writes) rs (r ∷ []) ∙ ap (λ (l : List Stamped). writes_in rs ++ l) (flat_map-cons (λ x. stamped x.end x.writes) r [] ∙ append-nil (stamped r.end r.writes)))
    ∙ walk-append at (writes_in rs) (stamped r.end r.writes) s

-- the last group first
pub walk_last_group : (at : PlaceMap) (gs : List GroupData) (g : GroupData) (s : Walk) → walk_writes at (writes_of (gs ++ g ∷ [])) s ≡ walk_writes at (writes_of gs) (walk_writes at (writes_in g.records) s)
walk_last_group at gs g s =
    ap (λ (l : List Stamped). walk_writes at l s) (flat_map-append (λ x. writes_in x.records) gs (g ∷ []) ∙ ap (λ (l : List Stamped). writes_of gs ++ l) (flat_map-cons (λ x. writes_in x.records) g [] ∙ append-nil (writes_in g.records)))
    ∙ walk-append at (writes_of gs) (writes_in g.records) s
