use Rattle.std.proofs.Common.{refl, subst, List}
use Rattle.std.specs.List.{All}
use Rattle.std.proofs.lemmas.List.{take_all}
use Rattle.std.proofs.lemmas.List.Elements.{All-more}
use Rattle.mvo_group.specs.Data.{RecordData}
use Rattle.mvo_group.specs.Rules.{HasWords}
use Rattle.mvo_group.specs.Allowed.{IsRecordWithin}
use Rattle.mvo_group.proofs.rules.are_records.Goals as goal

abbrev Words : RecordData → Type 0
Words r = All HasWords r.writes

pub loop-commit-preserved : goal.loop-commit-preserved
loop-commit-preserved c = record {
  rules = All-more (IsRecordWithin c.args.format) c.args.records.now c.loop-commit.commit-index c.commit-item.result c.loop-commit-test.true c.loop-commit.invariant.rules (subst (IsRecordWithin c.args.format) c.commit-item.is (c.if-not-is_record.ensures.answer.0 refl));
  words = All-more Words c.args.records.now c.loop-commit.commit-index c.commit-item.result c.loop-commit-test.true c.loop-commit.invariant.words (subst Words c.commit-item.is (c.if-not-is_record.ensures.words refl));
}

pub returns-clause-answer : goal.returns-clause-answer
returns-clause-answer c =
    (λ _. subst (λ (rs : List RecordData). All (IsRecordWithin c.args.format) rs) (take_all c.loop-commit.commit-index c.args.records.now c.loop-commit-test.false) c.loop-commit.invariant.rules, λ _. refl)

pub returns-clause-words : goal.returns-clause-words
returns-clause-words c _ =
    subst (λ (rs : List RecordData). All Words rs) (take_all c.loop-commit.commit-index c.args.records.now c.loop-commit-test.false) c.loop-commit.invariant.words
