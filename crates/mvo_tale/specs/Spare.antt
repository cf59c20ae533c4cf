-- The lists of operations that are kept for transactions that begin.
use Rattle.std.specs.Prelude.{◌≡◌, List, []}
use Rattle.std.specs.Global.{Vec}
use Rattle.std.specs.List.{AllByRecursion}
use Rattle.mvo_types.specs.declared.op.Op.{Op}
use Rattle.mvo_types.specs.declared.answer.Answer.{Answer}

-- no operation is in any of them
abbrev pub AreEmpty : List (Vec (Op × Answer)) → Type 0
AreEmpty lists = AllByRecursion (λ list. list.items ≡ []) lists
