use Rattle.std.proofs.Common.{◌≡◌, [], take}
use Rattle.mvo_tale.specs.Slots.{open_ends, tale_commits}
use Rattle.mvo_tale.specs.Next.{NoneIsDue}
use Rattle.mvo_rules_tests.proofs.tale.checked.are_grouped.Given as goal

abbrev pub invariant-loop-place : goal.invariant-loop-place
invariant-loop-place l = record {
  opens : open_ends (take l.place l.tale) ≡ [];
  due : NoneIsDue l.mark.0 (tale_commits (take l.place l.tale));
}
