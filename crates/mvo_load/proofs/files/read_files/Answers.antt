use Rattle.std.proofs.Common.{◌≡◌, ◌-◌, ◌++◌, List, [], ◌∷◌, ap, subst, sym, ◌∙◌, append_assoc, get_or, take, drop, length}
use Rattle.std.specs.Prelude.{map}
use Rattle.std.specs.List.{AllByRecursion}
use Rattle.std.proofs.lemmas.List.{append-nil, map-append}
use Rattle.std.proofs.lemmas.List.Elements.{recursion_from_All}
use Rattle.mvo_pair.specs.declared.pair.Pair.{Pair}
use Rattle.mvo_recovery.specs.image.Opens.{Image}
use Rattle.mvo_load.specs.Files.{PairBytes, bytes_of}
use Rattle.mvo_load.proofs.Slices.{first_and_rest, no_more, no_pair}
use Rattle.mvo_load.proofs.Unchanged.{same_image, unchanged_yet, then_unchanged, was_read, then_spent}
use Rattle.mvo_disk.specs.Disk.{IsHonest}
use Rattle.mvo_load.proofs.Gathering.{AreFiles}
use Rattle.mvo_load.proofs.files.read_files.Goals as goal

abbrev pair_in : PairBytes → Pair
pair_in b = b.pair

pub loop-rest-init : goal.loop-rest-init
loop-rest-init g c =
    let image = g.D.Disk.content c.args.disk.now in
    let none = ap (λ (l : List PairBytes). l ++ map (bytes_of c.args.upto image) c.args.pairs.now) (sym c.new-files.ensures.items) in (
      λ _. none,
      recursion_from_All AreFiles c.args.pairs.now c.requires.pairs,
      unchanged_yet g.D.Disk g.met.D.Disk.only_now c.args.disk.now,
      ap (λ (l : List PairBytes). map pair_in l ++ c.args.pairs.now) (sym c.new-files.ensures.items),
    )

pub files_of-requires-clause-data_file : goal.files_of-requires-clause-data_file
files_of-requires-clause-data_file g c =
    (subst (λ (l : List Pair). AllByRecursion AreFiles l) (first_and_rest c.loop-rest.rest.now no_pair c.in-len1-up.len_at_least) c.loop-rest.invariant.1).0.0

pub files_of-requires-clause-delta_file : goal.files_of-requires-clause-delta_file
files_of-requires-clause-delta_file g c =
    (subst (λ (l : List Pair). AllByRecursion AreFiles l) (first_and_rest c.loop-rest.rest.now no_pair c.in-len1-up.len_at_least) c.loop-rest.invariant.1).0.1

pub loop-rest-preserved : goal.loop-rest-preserved
loop-rest-preserved g c =
    let image = g.D.Disk.content c.args.disk.now in
    let rest = c.loop-rest.rest.now in
    let p = get_or rest 0 no_pair in
    let ps = take (length rest - 1) (drop 1 rest) in
    let files = c.loop-rest.files.items in
    let whole = first_and_rest rest no_pair c.in-len1-up.len_at_least in
    let same = same_image g.D.Disk c.args.disk.now c.loop-rest.disk c.loop-rest.invariant.2.rest.content in
    let one = λ (honest : IsHonest (g.D.Disk.moment c.files_of.new.disk)). c.in-Ok.ensures.bytes honest ∙ ap (λ (i : Image). bytes_of c.args.upto i p) same in
    let more = λ (honest : IsHonest (g.D.Disk.moment c.files_of.new.disk)). c.loop-rest.invariant.0 (c.in-Ok.ensures.read.any_moment.later.honest honest) ∙ ap (λ (l : List Pair). files ++ map (bytes_of c.args.upto image) l) whole ∙ sym (append_assoc files (bytes_of c.args.upto image p ∷ []) (map (bytes_of c.args.upto image) ps))
    ∙ ap (λ (b : PairBytes). (files ++ b ∷ []) ++ map (bytes_of c.args.upto image) ps) (sym (one honest)) ∙ ap (λ (l : List PairBytes). l ++ map (bytes_of c.args.upto image) ps) (sym c.in_ok-push.ensures.items) in
    let pairs_more : c.args.pairs.now ≡ map pair_in c.push.new.self.items ++ ps =
    c.loop-rest.invariant.3 ∙ ap (λ (l : List Pair). map pair_in files ++ l) whole ∙ sym (append_assoc (map pair_in files) (p ∷ []) ps)
    ∙ ap (λ (q : Pair). (map pair_in files ++ q ∷ []) ++ ps) (sym c.in-Ok.ensures.pair) ∙ ap (λ (l : List Pair). l ++ ps) (sym (map-append pair_in files (c.in-Ok.of_pair ∷ [])))
    ∙ ap (λ (l : List PairBytes). map pair_in l ++ ps) (sym c.in_ok-push.ensures.items) in (
      more,
      (subst (λ (l : List Pair). AllByRecursion AreFiles l) whole c.loop-rest.invariant.1).1,
      then_unchanged g.D.Disk c.args.disk.now c.loop-rest.disk c.files_of.new.disk c.loop-rest.invariant.2
          (record { rest = c.in-Ok.ensures.read.rest; any_moment = c.in-Ok.ensures.read.any_moment; count = c.in-Ok.ensures.read.count }),
      pairs_more,
    )

pub returns-clause-bytes : goal.returns-clause-bytes
returns-clause-bytes g c = λ honest.
    let image = g.D.Disk.content c.args.disk.now in
    sym (c.loop-rest.invariant.0 honest ∙ ap (λ (l : List Pair). c.loop-rest.files.items ++ map (bytes_of c.args.upto image) l) (no_more c.loop-rest.rest.now c.in_default.len_below) ∙ append-nil c.loop-rest.files.items)

pub returns-clause-pairs : goal.returns-clause-pairs
returns-clause-pairs g c =
    sym (c.loop-rest.invariant.3 ∙ ap (λ (l : List Pair). map pair_in c.loop-rest.files.items ++ l) (no_more c.loop-rest.rest.now c.in_default.len_below) ∙ append-nil (map pair_in c.loop-rest.files.items))

pub returns-in_err-push-clause-read : goal.returns-in_err-push-clause-read
returns-in_err-push-clause-read g c =
    let one = was_read g.D.Disk c.loop-rest.disk c.files_of.new.disk c.in-Ok.of_pair c.in-Ok.ensures.read in
    then_spent g.D.Disk c.args.disk.now c.files_of.new.disk c.from_residual.result c.from_residual.ensures.1 (then_unchanged g.D.Disk c.args.disk.now c.loop-rest.disk c.files_of.new.disk c.loop-rest.invariant.2 one)
