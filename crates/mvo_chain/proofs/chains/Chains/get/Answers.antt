use Rattle.std.proofs.Common.{◌≤◌, ◌∙◌, None, length, get_or, sym, ap}
use Rattle.std.proofs.lemmas.List.{get_or_past}
use Rattle.mvo_chain.proofs.Pieced.{past_from_none}
use Rattle.mvo_chain.specs.Slots.{Slots}
use Rattle.mvo_chain.proofs.chains.Chains.get.Goals as goal

pub returns-in-None : goal.returns-in-None
returns-in-None c =
    let past : length c.self.inside.slots ≤ c.index.result = past_from_none c.self.inside.slots c.index.result (sym c.in-None.ensures) in
    sym (get_or_past c.self.inside.slots c.index.result None past)
    ∙ ap (λ i. get_or c.self.inside.slots i None) c.index.ensures
    ∙ ap (λ (s : Slots). get_or s c.args.number.0 None) c.self.view_is
