use Rattle.std.proofs.Common.{◌++◌, append-nil, sym, ap, ◌∙◌}
use Rattle.std.specs.Map.Iter.{deref_pair}
use Rattle.std.proofs.lemmas.Map.Iter.{rest_all}
use Rattle.mvo_types.specs.RowLists.{places_of}
use Rattle.mvo_types.proofs.Ordered.{Entries, places_in, places_held}
use Rattle.mvo_types.proofs.rows.Rows.places.Goals as goal

pub returns : goal.returns
returns c =
    let of : Entries → _ = places_in c.args.table in
    let none = rest_all deref_pair c.loop-key.key-iterator c.next.new.self c.next.result c.in-None.is c.next.ensures.steps in
    sym (append-nil c.loop-key.found.items)
    ∙ ap (λ (es : Entries). c.loop-key.found.items ++ of es) (sym none)
    ∙ c.loop-key.invariant
    ∙ ap of (c.into_iter-key-iterator.ensures.into_iter_gives ∙ c.iter-key-items.ensures.rest)
    ∙ places_held c.args.table c.self.inside.held.entries c.iter-key-items.ensures.ordered
    ∙ ap (λ m. places_of m c.args.table) c.self.view_is
