use Rattle.std.proofs.Common.{◌≡◌, take}
use Rattle.mvo_theory.specs.Entries.{written_keys}
use Rattle.mvo_theory.specs.Told.{history_told}
use Rattle.mvo_rules_tests.proofs.tale.entries.keys_of.Given as goal

abbrev pub invariant-loop-told : goal.invariant-loop-told
invariant-loop-told l = l.keys.items ≡ written_keys (history_told (take l.told-index l.operations))
