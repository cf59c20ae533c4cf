use Rattle.std.proofs.Common.{List, ap, subst, sym}
use Rattle.std.specs.List.Sorted.{IsPermutation}
use Rattle.std.proofs.lemmas.List.Sorted.{length_permutation}
use Rattle.mvo_pair.specs.Data.{Numbered}
use Rattle.mvo_load.specs.Files.{PairBytes}
use Rattle.mvo_load.proofs.Ordered.{changed_whole}
use Rattle.mvo_load.proofs.parts.part_beside.Goals as goal

pub returns : goal.returns
returns g c =
    let live : List Numbered = c.in-Ok.live.items in
    let sorted : List Numbered = c.sort.new.live in
    let moved : IsPermutation live sorted = subst (λ (l : List Numbered). IsPermutation l sorted) c.as_mut_slice.ensures.value c.sort.ensures in
    let whole = changed_whole live sorted c.in-Ok.live.len c.in-Ok.live.ok.0 (length_permutation live sorted moved) in
    record {
      live = live;
      only = c.in-Ok.ensures;
      moved = subst (λ (l : List Numbered). IsPermutation live l) (sym whole) moved;
      file = ap (λ (b : PairBytes). b.pair.data_file) c.files.view_is;
    }
