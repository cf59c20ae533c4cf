use Rattle.std.proofs.Common.{◌≡◌, ◌++◌, List, [], ap, subst, sym, ◌∙◌, take, length}
use Rattle.std.specs.Prelude.{map, All}
use Rattle.std.specs.List.{AllZip, AllByRecursion}
use Rattle.std.proofs.lemmas.List.Elements.{All-append, All-from_recursion}
use Rattle.std.proofs.lemmas.List.Concat.{flat_map-append}
use Rattle.mvo_disk.specs.Disk.{IsHonest}
use Rattle.mvo_load.proofs.Pairing.{HasFiles}
use Rattle.std.proofs.lemmas.List.{take-append-drop}
use Rattle.mvo_pair.specs.declared.pair.Pair.{Pair}
use Rattle.mvo_recovery.specs.image.Opens.{Image}
use Rattle.mvo_load.specs.declared.part.Part.{Part}
use Rattle.mvo_load.specs.Files.{PairBytes, bytes_of, IsPart}
use Rattle.mvo_load.specs.Gathered.{Filed, filed_of, filed_in, MayLie}
use Rattle.mvo_load.proofs.Slices.{is_none, none_left}
use Rattle.mvo_load.proofs.Unchanged.{same_image, unchanged_yet, then_unchanged}
use Rattle.mvo_load.proofs.Gathering.{GatheredSoFar, AreFiles, all_files, small_parts, none_gathered, more_gathered, all_gathered}
use Rattle.mvo_load.proofs.gather.gather.Goals as goal
use Rattle.mvo_manifest.proofs.Spelled.{all_parts}

none_in : (parts : List Part) → parts ≡ [] → [] ≡ filed_in parts
none_in parts is = sym (ap filed_in is)

-- what was gathered with more parts behind it
more_in : (before parts all : List Part) → all ≡ before ++ parts → filed_in before ++ filed_in parts ≡ filed_in all
more_in before parts all is = sym (ap filed_in is ∙ flat_map-append filed_of before parts)

pub loop-rest-init : goal.loop-rest-init
loop-rest-init g c =
    let upto = c.args.upto in
    let image = g.D.Disk.content c.args.disk.now in
    let m = c.args.manifest.now in
    let none = none_gathered upto image m c.pairs-rest.ensures.manifest in
    let pairs = subst (λ (ps : List Pair). GatheredSoFar upto image m ps []) (sym c.pairs-rest.ensures.value) none in
    let no_parts = none_in c.new-all.result.items c.new-all.ensures.items in (
      λ _. subst (λ (l : List Filed). GatheredSoFar upto image m c.pairs-rest.result.now l) no_parts pairs,
      unchanged_yet g.D.Disk g.met.D.Disk.only_now c.args.disk.now,
      subst (λ (ps : List Pair). AllByRecursion HasFiles ps) (sym c.pairs-rest.ensures.value) none.files,
      subst (λ (l : List Filed). All MayLie l) no_parts (All-from_recursion MayLie [] tt),
    )

pub loop-rest-preserved : goal.loop-rest-preserved
loop-rest-preserved g c =
    let upto = c.args.upto in
    let image = g.D.Disk.content c.args.disk.now in
    let m = c.args.manifest.now in
    let rest = c.loop-rest.rest.now in
    let ps = c.split_at.result.0.now in
    let qs = c.split_at.result.1.now in
    let before : List Part = c.loop-rest.all.items in
    let whole : ps ++ qs ≡ rest = ap (λ (l : List Pair). l ++ qs) c.split_at.ensures.front ∙ ap (λ (l : List Pair). take c.min.result rest ++ l) c.split_at.ensures.back ∙ take-append-drop c.min.result rest in
    let after = c.in-Ok.ensures.read.any_moment.later.honest in
    let here = λ (honest : IsHonest (g.D.Disk.moment c.read_files.new.disk)). subst (λ (l : List Pair). GatheredSoFar upto image m l (filed_in before)) (sym whole) (c.loop-rest.invariant.0 (after honest)) in
    let same = same_image g.D.Disk c.args.disk.now c.loop-rest.disk c.loop-rest.invariant.1.rest.content in
    let read = λ (honest : IsHonest (g.D.Disk.moment c.read_files.new.disk)). c.deref.ensures.value ∙ c.in-Ok.ensures.bytes honest ∙ ap (λ (i : Image). map (bytes_of upto i) ps) same in
    let found = rw c.in-Some.is at c.in-Ok-parts_of.ensures.parts in
    let parts : List Part = c.in-Some.parts.items in
    let are = λ (honest : IsHonest (g.D.Disk.moment c.read_files.new.disk)). subst (λ (bs : List PairBytes). AllZip (IsPart upto) bs parts) (read honest) found in
    let more = λ (honest : IsHonest (g.D.Disk.moment c.read_files.new.disk)). more_gathered upto image m c.pairs-rest.ensures.manifest ps qs parts (filed_in before) (here honest) (are honest) in
    let all_is = more_in before parts c.add_parts.new.all.items c.in_ok-add_parts.ensures in
    let fit = all_parts HasFiles ps qs (subst (λ (l : List Pair). AllByRecursion HasFiles l) (sym whole) c.loop-rest.invariant.2) in
    let pairs_are = ap (λ (bs : List PairBytes). map (λ b. b.pair) bs) c.deref.ensures.value ∙ c.in-Ok.ensures.pairs in
    let small = small_parts upto c.deref.result.now parts (subst (λ (l : List Pair). AllByRecursion HasFiles l) (sym pairs_are) fit.0) found in (
      λ honest. subst (λ (l : List Filed). GatheredSoFar upto image m qs l) all_is (more honest),
      then_unchanged g.D.Disk c.args.disk.now c.loop-rest.disk c.read_files.new.disk c.loop-rest.invariant.1
          (record { rest = c.in-Ok.ensures.read.rest; any_moment = c.in-Ok.ensures.read.any_moment; count = c.in-Ok.ensures.read.count }),
      fit.1,
      subst (λ (l : List Filed). All MayLie l) all_is (All-append MayLie (filed_in before) (filed_in parts) c.loop-rest.invariant.3 small),
    )

pub read_files-requires-clause-pairs : goal.read_files-requires-clause-pairs
read_files-requires-clause-pairs g c =
    let rest = c.loop-rest.rest.now in
    let ps = c.split_at.result.0.now in
    let qs = c.split_at.result.1.now in
    let whole : ps ++ qs ≡ rest = ap (λ (l : List Pair). l ++ qs) c.split_at.ensures.front ∙ ap (λ (l : List Pair). take c.min.result rest ++ l) c.split_at.ensures.back ∙ take-append-drop c.min.result rest in
    All-from_recursion AreFiles ps (all_files ps (all_parts HasFiles ps qs (subst (λ (l : List Pair). AllByRecursion HasFiles l) (sym whole) c.loop-rest.invariant.2)).0)

pub returns-clause-gathered : goal.returns-clause-gathered
returns-clause-gathered g c = λ honest.
    let upto = c.args.upto in
    let image = g.D.Disk.content c.args.disk.now in
    let m = c.args.manifest.now in
    let all : List Filed = filed_in c.loop-rest.all.items in
    all_gathered upto image m all (subst (λ (l : List Pair). GatheredSoFar upto image m l all) (none_left c.loop-rest.rest.now (is_none (length c.loop-rest.rest.now) (sym c.loop-rest-test.false ∙ c.is_empty.ensures))) (c.loop-rest.invariant.0 honest))
