use Rattle.std.proofs.Common.{◌≡◌, ◌+◌, ◌<◌, ◌++◌, ◌∷◌, List, [], take, length, arith, subst, sym, ap, ◌∙◌, add-one}
use Rattle.std.specs.List.{AllZip}
use Rattle.std.proofs.Math.Seq.{take-suc}
use Rattle.std.proofs.lemmas.List.{take_all}
use Rattle.std.proofs.lemmas.Slice.Zip.{all_zipped_more}
use Rattle.mvo_load.specs.declared.part.Part.{Part}
use Rattle.mvo_load.specs.Files.{PairBytes, IsPart}
use Rattle.mvo_load.proofs.turns.parts_in_turn.Goals as goal

pub loop-one-init : goal.loop-one-init
loop-one-init c = subst (λ (parts : List Part). AllZip (IsPart c.args.upto) [] parts) (sym c.new-parts.ensures.items) tt

pub loop-one-preserved : goal.loop-one-preserved
loop-one-preserved c =
    let files : List PairBytes = c.args.files.now in
    let i = c.loop-one.one-index in
    let of : PairBytes = c.one-item.result in
    let before : List Part = c.loop-one.parts.items in
    let taken : take (i + 1) files ≡ take i files ++ of ∷ [] = rw (add-one, take-suc files i of c.loop-one-test.true, ← c.one-item.is) in
    let more : AllZip (IsPart c.args.upto) (take i files ++ of ∷ []) (before ++ c.in-Ok.part ∷ []) = all_zipped_more (IsPart c.args.upto) (take i files) before of c.in-Ok.part c.loop-one.invariant c.in-Ok.ensures in
    subst (λ (bs : List PairBytes). AllZip (IsPart c.args.upto) bs c.push.new.self.items) (sym taken)
    (subst (λ (parts : List Part). AllZip (IsPart c.args.upto) (take i files ++ of ∷ []) parts) (sym c.in_ok-push-in-Ok.ensures.items) more)

pub returns-clause-parts : goal.returns-clause-parts
returns-clause-parts c =
    let files : List PairBytes = c.args.files.now in
    subst (λ (bs : List PairBytes). AllZip (IsPart c.args.upto) bs c.loop-one.parts.items) (take_all c.loop-one.one-index files (let out = c.loop-one-test.false in omega (arith, out))) c.loop-one.invariant
