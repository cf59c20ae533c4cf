use Rattle.std.proofs.Common.{refl, sym, subst, List, map}
use Rattle.std.specs.List.{All}
use Rattle.std.proofs.lemmas.List.{take_all}
use Rattle.mvo_group.specs.declared.write.Write.{Write as RustWrite}
use Rattle.mvo_group.specs.Data.{write_data}
use Rattle.mvo_group.specs.Rules.{HasWords}
use Rattle.mvo_group.specs.Allowed.{IsWriteWithin}
use Rattle.mvo_group.proofs.Kept.{kept_more, kept_at}
use Rattle.mvo_group.proofs.rules.all_keep_limits.Goals as goal

pub loop-write-preserved : goal.loop-write-preserved
loop-write-preserved c =
    let at_item = λ (w : RustWrite). IsWriteWithin c.args.format (write_data w) in
    let words_at_item = λ (w : RustWrite). HasWords (write_data w) in
    record {
      limits = kept_more (IsWriteWithin c.args.format) c.args.writes.now c.loop-write.write-index c.write-item.result c.loop-write-test.true c.loop-write.invariant.limits (subst at_item c.write-item.is (c.if-not-keeps_limits.ensures.answer.0 refl));
      words = kept_more HasWords c.args.writes.now c.loop-write.write-index c.write-item.result c.loop-write-test.true c.loop-write.invariant.words (subst words_at_item c.write-item.is c.if-not-keeps_limits.ensures.words);
    }

pub returns-then-not-keeps_limits-clause-answer : goal.returns-then-not-keeps_limits-clause-answer
returns-then-not-keeps_limits-clause-answer c =
    (λ h. absurd cc, λ all. c.if-not-keeps_limits.ensures.answer.1 (subst (λ (w : RustWrite). IsWriteWithin c.args.format (write_data w)) (sym c.write-item.is) (kept_at (IsWriteWithin c.args.format) c.args.writes.now c.loop-write.write-index c.write-item.result c.loop-write-test.true all)))

pub returns-clause-answer : goal.returns-clause-answer
returns-clause-answer c =
    (λ _. subst (λ (ws : List RustWrite). All (IsWriteWithin c.args.format) (map write_data ws)) (take_all c.loop-write.write-index c.args.writes.now c.loop-write-test.false) c.loop-write.invariant.limits, λ _. refl)

pub returns-clause-words : goal.returns-clause-words
returns-clause-words c _ =
    subst (λ (ws : List RustWrite). All HasWords (map write_data ws)) (take_all c.loop-write.write-index c.args.writes.now c.loop-write-test.false) c.loop-write.invariant.words
