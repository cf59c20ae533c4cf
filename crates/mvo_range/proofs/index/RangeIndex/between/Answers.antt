use Rattle.std.proofs.Common.{ℕ, List, sym, ap, ◌∙◌, not, arith}
use Rattle.std.specs.Prelude.{filter, ◌&&◌}
use Rattle.std.specs.Ordering.{is_le, is_lt}
use Rattle.std.specs.FinMap as map
use Rattle.std.specs.Range.{range_inclusive_end}
use Rattle.std.below.core.specs.declared.int.u64.TheConstants as u64
use Rattle.mvo_range.specs.declared.sort_place.SortPlace.{SortPlace}
use Rattle.mvo_range.specs.Place.{place_cmp, is_between}
use Rattle.mvo_range.proofs.Places.{entries_held}
use Rattle.mvo_range.proofs.Ranges.{none_between, all_between}
use Rattle.mvo_range.proofs.index.RangeIndex.between.Goals as goal

pub returns-then-hi-lo : goal.returns-then-hi-lo
returns-then-hi-lo c =
    let es = c.self.inside.held.entries in
    let keep = filter (is_between c.args.table c.args.lo c.args.hi) in
    c.over.ensures ∙ c.range.ensures.between tt
    ∙ none_between c.args.table c.args.lo c.args.hi _ es c.if-hi-lo.true c.self.invariant
    ∙ ap keep (sym (entries_held es c.range.ensures.ordered)) ∙ ap (λ m. keep (map.entries m)) c.self.view_is

pub returns : goal.returns
returns c =
    let es = c.self.inside.held.entries in
    let keep = filter (is_between c.args.table c.args.lo c.args.hi) in
    let within : SortPlace → SortPlace → List (SortPlace × ℕ) = λ a b. filter (λ e. is_le (place_cmp a e.0) && not (is_lt (place_cmp b e.0))) es in
    let first : SortPlace = record { table = c.args.table; sort = c.args.lo; key = 0 } in
    c.over-2.ensures ∙ c.range-2.ensures.between c.new.ensures.exhausted
    ∙ ap (λ a. within a (range_inclusive_end c.new.result)) c.new.ensures.start ∙ ap (within first) (c.new.ensures.end ∙ c.last_of.ensures)
    ∙ all_between c.args.table c.args.lo c.args.hi u64.MAX es (omega arith) c.self.invariant
    ∙ ap keep (sym (entries_held es c.range-2.ensures.ordered)) ∙ ap (λ m. keep (map.entries m)) c.self.view_is
