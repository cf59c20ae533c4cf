-- A stored commit, apart from where it lies in memory.
use Rattle.std.specs.Prelude.{ℕ, List, Option, map}
use Rattle.std.specs.Option.{option_map}
use Rattle.mvo_types.specs.declared.row.RowKey.{RowKey}
use Rattle.mvo_types.specs.RowData.{content_of}
use Rattle.mvo_types.specs.Write.{Write, Effect}
use Rattle.mvo_types.specs.Write.Effect.{Put, Delete}
use Rattle.mvo_model.specs.History.{History}
use Rattle.mvo_theory.specs.Marks.{Commit}
use Rattle.mvo_tale.specs.declared.effect.Effect.{Effect as EffectAt}
use Rattle.mvo_tale.specs.declared.effect.Effect.TheVariants as effect

-- a stored commit: its id, its end timestamp, and its operations with their answers
pub record StoredCommit : Type 0 where
  pub id : ℕ
  pub end : ℕ
  pub history : History

-- its end and its history
abbrev pub stored_commit_of : StoredCommit → Commit
stored_commit_of x = (x.end, x.history)

-- what a write leaves, apart from where it lies in memory
abbrev pub effect_data : EffectAt → Effect
effect_data (effect.Put row) = Put (content_of row.now)
effect_data effect.Delete = Delete

abbrev pub effects_data : List (Option EffectAt) → List (Option Effect)
effects_data es = map (option_map effect_data) es

abbrev pub write_as : RowKey × EffectAt → Write
write_as w = (w.0, effect_data w.1)
