use Rattle.std.proofs.Common.{ℕ, List, sym, ap, ◌∙◌, not, arith}
use Rattle.std.specs.Prelude.{filter, ◌&&◌}
use Rattle.std.specs.Ordering.{is_lt}
use Rattle.std.specs.FinMap as map
use Rattle.std.below.core.specs.declared.int.u64.TheConstants as u64
use Rattle.mvo_range.specs.declared.sort_place.SortPlace.{SortPlace}
use Rattle.mvo_range.specs.Place.{place_cmp, is_between_after}
use Rattle.mvo_range.proofs.Places.{entries_held}
use Rattle.mvo_range.proofs.Ranges.{none_after, rows_after_all}
use Rattle.mvo_range.proofs.index.RangeIndex.after.Goals as goal

pub returns-then-hi-place : goal.returns-then-hi-place
returns-then-hi-place c =
    let es = c.self.inside.held.entries in
    let keep = filter (is_between_after c.args.place c.args.hi) in
    c.over.ensures ∙ c.range.ensures.between tt
    ∙ none_after c.args.place c.args.hi es c.if-hi-place.true c.self.invariant
    ∙ ap keep (sym (entries_held es c.range.ensures.ordered)) ∙ ap (λ m. keep (map.entries m)) c.self.view_is

pub returns : goal.returns
returns c =
    let es = c.self.inside.held.entries in
    let keep = filter (is_between_after c.args.place c.args.hi) in
    let upto : SortPlace → List (SortPlace × ℕ) = λ b. filter (λ e. is_lt (place_cmp c.args.place e.0) && not (is_lt (place_cmp b e.0))) es in
    c.over-2.ensures ∙ c.range-2.ensures.between tt ∙ ap upto c.last_of-last.ensures
    ∙ rows_after_all c.args.place c.args.hi u64.MAX es (omega arith) c.self.invariant
    ∙ ap keep (sym (entries_held es c.range-2.ensures.ordered)) ∙ ap (λ m. keep (map.entries m)) c.self.view_is
