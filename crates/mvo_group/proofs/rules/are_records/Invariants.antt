use Rattle.std.proofs.Common.{take}
use Rattle.std.specs.List.{All}
use Rattle.mvo_group.specs.Rules.{HasWords}
use Rattle.mvo_group.specs.Allowed.{IsRecordWithin}
use Rattle.mvo_group.proofs.rules.are_records.Given as goal

abbrev pub invariant-loop-commit : goal.invariant-loop-commit
invariant-loop-commit l = record {
  rules : All (IsRecordWithin l.fn.format) (take l.commit-index l.records);
  words : All (λ r. All HasWords r.writes) (take l.commit-index l.records);
}
