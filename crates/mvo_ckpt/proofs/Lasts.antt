-- The last writes of the keys.
use Rattle.std.proofs.Common.{◌≡◌, Bool, true, false, cond, List, [], ◌∷◌, refl, ap, ◌∙◌}
use Rattle.std.specs.Prelude.{map, ◌||◌}
use Rattle.std.specs.List.{AllByRecursion, IsDistinct}
use Rattle.mvo_types.specs.declared.row.RowKey.{RowKey}
use Rattle.mvo_ckpt.specs.Writes.{Stamped, is_write_at, is_written, last_writes}
use Rattle.mvo_places.proofs.Keys.{eq, key_same}

abbrev pub key_at : Stamped → RowKey
key_at w = w.1.0

-- they are of the keys that are written
pub written_last : (ws : List Stamped) (k : RowKey) → is_written (last_writes ws) k ≡ is_written ws k
written_last [] k = refl
written_last (w ∷ ws) k = go (is_written ws (key_at w)) refl (written_last ws k)
  where
    over : (b : Bool) → is_written ws (key_at w) ≡ true → is_write_at k w ≡ b → is_written ws k ≡ (b || is_written ws k)
    over true is same = ap (is_written ws) (key_same k (key_at w) same) ∙ is
    over false is same = refl

    go : (b : Bool) → is_written ws (key_at w) ≡ b → is_written (last_writes ws) k ≡ is_written ws k → is_written (cond b (last_writes ws) (w ∷ last_writes ws)) k ≡ is_written (w ∷ ws) k
    go true is later = later ∙ over (is_write_at k w) is refl
    go false is later = ap (λ b. is_write_at k w || b) later

none_at : (k : RowKey) (ws : List Stamped) → is_written ws k ≡ false → AllByRecursion (λ y. eq k y ≡ false) (map key_at ws)
none_at k [] none = tt
none_at k (w ∷ ws) none = go (eq k (key_at w)) refl none (none_at k ws)
  where
    go : (b : Bool) → eq k (key_at w) ≡ b → (b || is_written ws k) ≡ false → (is_written ws k ≡ false → AllByRecursion (λ y. eq k y ≡ false) (map key_at ws)) → AllByRecursion (λ y. eq k y ≡ false) (map key_at (w ∷ ws))
    go true is none later = absurd cc
    go false is none later = (is, later none)

one_more_distinct : (b : Bool) (w : Stamped) (ws : List Stamped) → is_written ws (key_at w) ≡ b → IsDistinct eq (map key_at (last_writes ws)) → IsDistinct eq (map key_at (cond b (last_writes ws) (w ∷ last_writes ws)))
unfolding IsDistinct
one_more_distinct true w ws is later = later
one_more_distinct false w ws is later = (none_at (key_at w) (last_writes ws) (written_last ws (key_at w) ∙ is), later)

-- and of each once
pub last_distinct : (ws : List Stamped) → IsDistinct eq (map key_at (last_writes ws))
unfolding IsDistinct
last_distinct [] = tt
last_distinct (w ∷ ws) = one_more_distinct (is_written ws (key_at w)) w ws refl (last_distinct ws)
