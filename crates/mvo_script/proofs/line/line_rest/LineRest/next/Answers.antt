use Rattle.std.proofs.Common.{None, Some, ap, sym, ◌∙◌}
use Rattle.mvo_script.specs.line.Split.{unread_words}
use Rattle.mvo_script.proofs.line.Splitting.{next_word}
use Rattle.mvo_script.proofs.line.line_rest.LineRest.next.Goals as goal

pub returns-in-None : goal.returns-in-None
returns-in-None c =
    sym c.self.view_is
    ∙ ap unread_words c.in-Some.is
    ∙ next_word c.in-Some.text.now None c.in-None.ensures.cases

pub returns-in-Some-split_once : goal.returns-in-Some-split_once
returns-in-Some-split_once c =
    sym c.self.view_is
    ∙ ap unread_words c.in-Some.is
    ∙ next_word c.in-Some.text.now (Some (c.in-Some-split_once.word, c.in-Some-split_once.rest)) c.in-Some-split_once.ensures.cases
