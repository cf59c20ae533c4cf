use Rattle.std.proofs.Common.{ℕ, sym, ap, ◌∙◌}
use Rattle.std.specs.FinMap as map
use Rattle.std.proofs.lemmas.Bool.{eqb-true, eq-eqb}
use Rattle.mvo_range.specs.Place.{place_cmp}
use Rattle.mvo_range.proofs.index.RangeIndex.is_empty.Goals as goal

pub returns : goal.returns
returns c = (
  λ none. map.empty_of_len c.args.self.now (sym c.len.ensures ∙ eqb-true c.len.result 0 none),
  λ none. eq-eqb c.len.result 0 (c.len.ensures ∙ ap (λ m. map.len m) none ∙ map.len-empty place_cmp ℕ),
)
