use Rattle.std.proofs.Common.{◌≡◌, ◌<◌, ◌++◌, ◌∷◌, [], List, length, ap, subst, sym, ◌∙◌, arith}
use Rattle.std.specs.Prelude.{All}
use Rattle.std.specs.List.Sorted.{IsPermutation}
use Rattle.std.proofs.lemmas.List.Sorted.{length_permutation}
use Rattle.mvo_types.specs.Keys.{Map}
use Rattle.mvo_places.specs.Falling.{HaveDistinctKeys}
use Rattle.mvo_load.specs.declared.part.Part.{Part}
use Rattle.mvo_load.specs.Gathered.{Filed, MayLie, filed_in, keyed_place}
use Rattle.mvo_load.proofs.Ordered.{changed_whole}
use Rattle.mvo_load.proofs.Taken.{Placed, IsMerged, none_merged, one_merged, lie_taken, all_merged}
use Rattle.mvo_load.proofs.at_once.at_once.Goals as goal

pub loop-data_file-init : goal.loop-data_file-init
loop-data_file-init c = (none_merged (filed_in c.args.parts.items) c.new-rows.result c.in_ok-places.places c.new-rows.ensures c.in_ok-places.ensures, c.requires)

pub put-requires : goal.put-requires
put-requires c =
    let left : List Part = c.loop-data_file.left.items in
    let rest : List Part = c.take_greatest.new.parts in
    let one : Filed = (c.in-Some.data_file, c.in-Some.one) in
    let taken : IsPermutation (filed_in left) (one ∷ filed_in rest) = subst (λ (l : List Part). IsPermutation (filed_in l) (one ∷ filed_in rest)) c.as_mut_slice.ensures.value c.in-Some.ensures in
    (lie_taken (filed_in left) (filed_in rest) one taken c.loop-data_file.invariant.1).0

pub loop-data_file-smaller : goal.loop-data_file-smaller
loop-data_file-smaller c =
    let left : List Part = c.loop-data_file.left.items in
    let rest : List Part = c.take_greatest.new.parts in
    let one : Filed = (c.in-Some.data_file, c.in-Some.one) in
    let taken : IsPermutation (filed_in left) (one ∷ filed_in rest) = subst (λ (l : List Part). IsPermutation (filed_in l) (one ∷ filed_in rest)) c.as_mut_slice.ensures.value c.in-Some.ensures in
    let less : length (filed_in rest) < length (filed_in left) = omega (arith, length_permutation (filed_in left) (one ∷ filed_in rest) taken) in
    subst (λ (l : List Part). length (filed_in l) < length (filed_in left)) (sym (changed_whole left rest c.loop-data_file.left.len c.loop-data_file.left.ok.0 (c.take_greatest.auto.parts ∙ ap length c.as_mut_slice.ensures.value))) less

pub loop-data_file-preserved : goal.loop-data_file-preserved
loop-data_file-preserved c =
    let all : List Filed = filed_in c.args.parts.items in
    let left : List Part = c.loop-data_file.left.items in
    let rest : List Part = c.take_greatest.new.parts in
    let one : Filed = (c.in-Some.data_file, c.in-Some.one) in
    let rows : Map = c.put.new.rows in
    let places : Placed = c.put.new.places in
    let taken : IsPermutation (filed_in left) (one ∷ filed_in rest) = subst (λ (l : List Part). IsPermutation (filed_in l) (one ∷ filed_in rest)) c.as_mut_slice.ensures.value c.in-Some.ensures in
    let rows_are = c.in_ok-put.ensures.rows c.if-not-branch.false in
    let places_are : places ≡ c.loop-data_file.places ++ keyed_place one ∷ [] = c.in_ok-put.ensures.places c.if-not-branch.false in
    let merged = one_merged all (filed_in left) (filed_in rest) one c.loop-data_file.rows c.loop-data_file.places c.loop-data_file.invariant.0 taken (subst (λ (es : Placed). HaveDistinctKeys es) places_are c.put.ensures.apart) in
    let put : IsMerged all (filed_in rest) rows places =
    subst (λ (es : Placed). IsMerged all (filed_in rest) rows es) (sym places_are)
    (subst (λ (m : Map). IsMerged all (filed_in rest) m (c.loop-data_file.places ++ keyed_place one ∷ [])) (sym rows_are) merged) in
    subst (λ (l : List Part). IsMerged all (filed_in l) rows places × All MayLie (filed_in l))
    (sym (changed_whole left rest c.loop-data_file.left.len c.loop-data_file.left.ok.0 (c.take_greatest.auto.parts ∙ ap length c.as_mut_slice.ensures.value)))
    (put, (lie_taken (filed_in left) (filed_in rest) one taken c.loop-data_file.invariant.1).1)

pub returns : goal.returns
returns c =
    let all : List Filed = filed_in c.args.parts.items in
    let none = ap filed_in (sym c.as_mut_slice.ensures.value) ∙ c.in_default.ensures in
    all_merged all c.loop-data_file.rows c.loop-data_file.places c.of_falling.result.at
    (subst (λ (l : List Filed). IsMerged all l c.loop-data_file.rows c.loop-data_file.places) none c.loop-data_file.invariant.0) c.of_falling.ensures.at
