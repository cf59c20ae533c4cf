-- What delta files gain, whatever the places are: each delta is that of a pair, and they are no more than the pairs.
use Rattle.std.proofs.Common.{◌≡◌, ◌≤◌, ◌+◌, ℕ, true, List, [], ◌∷◌, ◌++◌, length, get_or, refl, sym, subst, arith, eqb, eq-eqb}
use Rattle.std.specs.List.{AllByRecursion, list_any}
use Rattle.std.proofs.lemmas.List.Concat.{flat_map-cons}
use Rattle.std.proofs.lemmas.List.Folds.{list_any_at}
use Rattle.std.proofs.lemmas.List.Elements.{recursion_from_All}
use Rattle.mvo_pair.specs.declared.pair.Pair.{Pair}
use Rattle.mvo_ckpt.specs.Checkpoint.{DeltaData}
use Rattle.mvo_ckpt.specs.Ended.{delta_by, AreOfPairs}
use Rattle.mvo_ckpt.specs.Walk.{part_of, deltas_by}

of_one : (P : ℕ → Type 0) (file : ℕ) (ns : List ℕ) (rest : List DeltaData) → P file → AllByRecursion (λ d. P d.data_file) rest → AllByRecursion (λ d. P d.data_file) (delta_by file ns ++ rest)
of_one P file [] rest here all = all
of_one P file (n ∷ ns) rest here all = (here, all)

of_each : (P : ℕ → Type 0) (ps : List Pair) (ns : List ℕ) → AllByRecursion (λ p. P p.data_file) ps → AllByRecursion (λ d. P d.data_file) (deltas_by ps ns)
of_each P [] ns all = tt
of_each P (p ∷ ps) ns all = subst (λ (ds : List DeltaData). AllByRecursion (λ d. P d.data_file) ds) (sym (flat_map-cons (λ (x : Pair). delta_by x.data_file (part_of x.data_file ns)) p ps))
    (of_one P p.data_file (part_of p.data_file ns) (deltas_by ps ns) all.0 (of_each P ps ns all.1))

pub are_of_pairs : (ps : List Pair) (ns : List ℕ) → AreOfPairs ps (deltas_by ps ns)
are_of_pairs ps ns =
    let known : ℕ → Type 0 = λ f. list_any (λ p. eqb p.data_file f) ps ≡ true in
    of_each known ps ns (recursion_from_All (λ p. known p.data_file) ps (λ k d lt. list_any_at (λ p. eqb p.data_file (get_or ps k d).data_file) ps k d lt (eq-eqb (get_or ps k d).data_file (get_or ps k d).data_file refl)))

few_one : (file : ℕ) (ns : List ℕ) (rest : List DeltaData) → length (delta_by file ns ++ rest) ≤ length rest + 1
few_one file [] rest = omega arith
few_one file (n ∷ ns) rest = omega arith

pub are_few : (ps : List Pair) (ns : List ℕ) → length (deltas_by ps ns) ≤ length ps
are_few [] ns = omega arith
are_few (p ∷ ps) ns = subst (λ (ds : List DeltaData). length ds ≤ length (p ∷ ps)) (sym (flat_map-cons (λ (x : Pair). delta_by x.data_file (part_of x.data_file ns)) p ps))
    (omega (arith, few_one p.data_file (part_of p.data_file ns) (deltas_by ps ns), are_few ps ns))
