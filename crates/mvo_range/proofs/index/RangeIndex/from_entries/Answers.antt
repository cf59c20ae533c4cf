use Rattle.std.proofs.Common.{rules, subst}
use Rattle.std.specs.List.{All}
use Rattle.std.specs.BTreeMap as tree
use Rattle.mvo_range.specs.Place.{place_cmp, HasKey}
use Rattle.mvo_range.proofs.Places.{built, HasKey-built}
use Rattle.mvo_range.proofs.index.RangeIndex.from_entries.Goals as goal

pub invariant_of-result : goal.invariant_of-result
invariant_of-result c =
    let h : tree.IsFromIterResult place_cmp c.args.entries.items c.in_ok-held.held = search rules in
    HasKey-built c.args.entries.items c.in_ok-held.held h (subst (All HasKey) (c.deref.ensures.value) c.read_keys.ensures)

pub returns : goal.returns
returns c =
    let h : tree.IsFromIterResult place_cmp c.args.entries.items c.in_ok-held.held = search rules in
    built c.args.entries.items c.in_ok-held.held.entries h.0
