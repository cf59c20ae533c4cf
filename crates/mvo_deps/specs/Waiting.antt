-- For whom a transaction waits.
use Rattle.std.specs.Prelude.{ℕ, ◌≡◌, ◌≤◌, true, List, [], ◌∷◌, ◌++◌, Option, None, Some}
use Rattle.mvo_types.specs.declared.ids.TxId.{TxId}
use Rattle.mvo_txn.specs.Txns.{Txns, state_of}
use Rattle.mvo_txn.specs.Queue.{open_end}
use Rattle.mvo_deps.specs.Data.{is_id_among}

-- one of these is Preparing, with this end
pub record IsOpenEnd {P : Type 0} (t : Txns P) (ids : List TxId) (id : TxId)
    (end : ℕ) : Type 0 where
  pub among : is_id_among id ids ≡ true
  pub open_end_is : open_end (state_of t id.0) ≡ Some end

-- of those among these that are Preparing, it has the least end
pub record IsLeastOpen {P : Type 0} (t : Txns P) (ids : List TxId) (id : TxId) : Type 0 where
  pub end : ℕ
  pub is_open : IsOpenEnd t ids id end
  pub least : (other : TxId) (later : ℕ) → IsOpenEnd t ids other later → end ≤ later

-- none of these is Preparing
pub record HasNoneOpen {P : Type 0} (t : Txns P) (ids : List TxId) : Type 0 where
  pub none : (id : TxId) (end : ℕ) → IsOpenEnd t ids id end → ⊥

-- who has the least end, if one of these is Preparing, and that end
pub data IsLeast {P : Type 0} (t : Txns P) (ids : List TxId) : Option TxId → ℕ → Type 0 where
  Nobody : (end : ℕ) → HasNoneOpen t ids → IsLeast t ids None end
  Somebody : (id : TxId) (end : ℕ) → IsOpenEnd t ids id end
      → ((other : TxId) (later : ℕ) → IsOpenEnd t ids other later → end ≤ later)
      → IsLeast t ids (Some id) end

-- who had the least end of some has given way to who has the least end of one more
pub record StaysLeast {P : Type 0} (t : Txns P) (id : TxId)
    (old : Option TxId) (old_end : ℕ) (new : Option TxId) (new_end : ℕ) : Type 0 where
  pub stays : (ids : List TxId) → IsLeast t ids old old_end → IsLeast t (ids ++ id ∷ []) new new_end
