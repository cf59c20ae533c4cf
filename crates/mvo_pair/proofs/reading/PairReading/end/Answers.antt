use Rattle.std.proofs.Common.{ap, sym, ◌∙◌, []}
use Rattle.mvo_pair.specs.Coming.{PairReadingData, unless_refused}
use Rattle.mvo_pair.proofs.Comes.{comes_none}
use Rattle.mvo_pair.proofs.reading.PairReading.end.Goals as goal

pub returns-in-Some : goal.returns-in-Some
returns-in-Some c so_far rest le =
    comes_none c.args.self.now so_far rest le ∙ ap (λ (r : PairReadingData). unless_refused r.refused []) (sym c.self.view_is) ∙ ap (λ e. unless_refused e []) c.in-Some.is

pub returns-in-None : goal.returns-in-None
returns-in-None c so_far rest le =
    comes_none c.args.self.now so_far rest le ∙ ap (λ (r : PairReadingData). unless_refused r.refused []) (sym c.self.view_is) ∙ ap (λ e. unless_refused e []) c.in-None.is
