use Rattle.std.proofs.Common.{◌≡◌, ◌+◌, take}
use Rattle.std.specs.List.{sum_by}
use Rattle.mvo_group.specs.Rules.{record_len}
use Rattle.mvo_group.proofs.rules.len_of_body.Given as goal

abbrev pub invariant-loop-commit : goal.invariant-loop-commit
invariant-loop-commit l = l.len ≡ 18 + sum_by record_len (take l.commit-index l.records)
