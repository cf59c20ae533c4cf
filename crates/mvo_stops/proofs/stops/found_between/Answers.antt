use Rattle.std.proofs.Common.{◌-◌, ◌∙◌, ap, length}
use Rattle.rayon.specs.Numbers.{nat_range}
use Rattle.rayon.specs.NumberLaws.{run-length}
use Rattle.rayon.proofs.ListFacts.{IfOk-then}
use Rattle.std.proofs.lemmas.Slice.Zip.{AllZip-long}
use Rattle.mvo_stops.proofs.stops.found_between.Goals as goal

pub returns : goal.returns
returns g c =
    let ends = c.into_par_iter.ensures in
    let from = c.args.from in
    let to = c.args.to in
    IfOk-then c.collect.result _ _ c.collect.ensures (λ v h.
    let chain = rw (c.map.ensures.base, c.map.ensures.f, c.with_min_len.ensures.base) at h.1 in
    let places = chain.1 ∙ (λ i. nat_range (ends.0 i) (ends.1 i)) in
    ap length h.2 ∙ AllZip-long _ chain.0 h.0 chain.2 ∙ ap length places ∙ run-length from (to - from))
