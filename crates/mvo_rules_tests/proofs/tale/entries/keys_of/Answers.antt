use Rattle.std.proofs.Common.{take, sym, ap, ◌∙◌}
use Rattle.mvo_theory.specs.Entries.{noted_key, written_keys}
use Rattle.mvo_theory.specs.Told.{history_told}
use Rattle.mvo_rules_tests.proofs.tale.Loops.{written_more}
use Rattle.mvo_rules_tests.proofs.tale.entries.keys_of.Goals as goal

pub loop-told-preserved : goal.loop-told-preserved
loop-told-preserved c =
    c.in_ok-note_write.ensures
    ∙ ap (λ ks. noted_key ks c.key_written.result) c.loop-told.invariant
    ∙ ap (noted_key (written_keys (history_told (take c.loop-told.told-index c.args.operations.now)))) c.key_written.ensures
    ∙ sym (written_more c.args.operations.now c.loop-told.told-index c.told-item.result c.loop-told-test.true c.told-item.is)
