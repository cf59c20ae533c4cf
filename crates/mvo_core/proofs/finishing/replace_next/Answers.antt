use Rattle.std.proofs.Common.{sym, ap, ◌∙◌}
use Rattle.std.specs.Prelude.{slice_get}
use Rattle.std.specs.Option.{option_map}
use Rattle.mvo_core.specs.Standing.{own_words_of}
use Rattle.mvo_core.specs.Finishing.{from_own}
use Rattle.mvo_core.proofs.Alone.{nothing_replaced, no_first, no_next}
use Rattle.mvo_core.proofs.Carried.{own_here}
use Rattle.mvo_core.proofs.OneReplaced.{one_replaced}
use Rattle.mvo_core.proofs.finishing.replace_next.Goals as goal

pub returns-then-not-has_words-clause-replaced : goal.returns-then-not-has_words-clause-replaced
returns-then-not-has_words-clause-replaced c =
    nothing_replaced c.args.versions.now c.args.table.now c.args.tx.id.0 (sym c.requires.words ∙ c.if-not-has_words.true) c.requires.there c.args.word

pub returns-then-not-has_words-clause-first : goal.returns-then-not-has_words-clause-first
returns-then-not-has_words-clause-first c =
    no_first c.args.versions.now c.args.table.now c.args.tx.id.0 (sym c.requires.words ∙ c.if-not-has_words.true) c.args.versions.now.slots

pub returns-then-not-has_words-clause-next : goal.returns-then-not-has_words-clause-next
returns-then-not-has_words-clause-next c =
    no_next c.args.versions.now c.args.table.now c.args.tx.id.0 (sym c.requires.words ∙ c.if-not-has_words.true)

pub returns-clause-replaced : goal.returns-clause-replaced
returns-clause-replaced c =
    one_replaced c.args.versions.now c.replace_first.new.versions c.args.table.now c.args.tx.id.0 c.args.word c.in-Some.node.now c.replace_first.new.writes c.replace_first.result.0
    c.in-Some.ensures.value c.replace_first.ensures.first c.replace_first.ensures.replaced c.replace_first.ensures.words

pub returns-clause-first : goal.returns-clause-first
returns-clause-first c =
    c.replace_first.ensures.first
    ∙ ap (λ o. slice_get (from_own c.args.versions.now.slots c.args.tx.id.0 (own_words_of (option_map (λ node. node.own) o))) 0) c.in-Some.ensures.value

pub returns-clause-next : goal.returns-clause-next
returns-clause-next c =
    let node = c.in-Some.node.now in
    c.replace_first.ensures.next
    ∙ ap (λ o. slice_get (own_words_of o) 0)
    (sym (own_here c.args.table.now c.args.tx.id.0 node (record node { own = record node.own { writes = c.replace_first.new.writes } }) (sym c.in-Some.ensures.value)))
