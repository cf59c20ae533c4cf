-- What an unfinished transaction has done, and the room for more.
use Rattle.std.specs.Prelude.{◌≡◌, ℕ, List, min}
use Rattle.mvo_types.specs.declared.row.RowKey.{RowKey}
use Rattle.mvo_types.specs.declared.op.Op.{Op}
use Rattle.mvo_types.specs.declared.answer.Answer.{Answer}
use Rattle.mvo_theory.specs.Entries.{entries, written_keys}
use Rattle.mvo_types.specs.declared.entry.Entry.{Entry}
use Rattle.mvo_theory.specs.Told.{history_told}
use Rattle.mvo_theory.specs.Limits.{AreLimited}

-- an operation takes a place on each of three lists
abbrev pub room_of : ℕ → ℕ → ℕ → ℕ
room_of operations entries written = min operations (min entries written)

-- the entries and the written keys are those of the operations, which are in the limits
pub record IsWorkSound (told : List (Op × Answer)) (looked_at : List Entry)
    (keys : List RowKey) : Type 0 where
  pub entries : looked_at ≡ entries (history_told told)
  pub written : keys ≡ written_keys (history_told told)
  pub limits : AreLimited (history_told told)
