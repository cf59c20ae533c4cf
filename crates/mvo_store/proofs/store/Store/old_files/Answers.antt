use Rattle.std.proofs.Common.{◌≡◌, ℕ, ◌+◌, ◌*◌, ◌≤◌, Bool, List, [], ◌∷◌, length, Fits, w64, refl, ap, ◌∙◌, arith, length-append}
use Rattle.std.specs.Prelude.{not, filter}
use Rattle.std.specs.List.{flat_map}
use Rattle.std.proofs.lemmas.List.Filters.{length-filter_both}
use Rattle.mvo_pair.specs.declared.pair.Pair.{Pair}
use Rattle.mvo_manifest.specs.Data.{ManifestData, pair_files}
use Rattle.mvo_manifest.specs.Rules.{IsManifest}
use Rattle.mvo_recovery.specs.image.Opens.{Image}
use Rattle.mvo_store.specs.Old.{is_marked, KnowsOld, old_file_count}
use Rattle.mvo_store.proofs.Olds.{marked_are}
use Rattle.mvo_store.proofs.store.Store.old_files.Goals as goal

-- no more are marked than there are
no_more : (p : ℕ → Bool) (xs : List ℕ) → length (filter p xs) ≤ length xs
no_more p xs = omega (arith, length-filter_both p (λ x. not (p x)) (λ x. refl) xs)

-- a pair has two files
two_each : (ps : List Pair) → length (flat_map pair_files ps) ≡ 2 * length ps
two_each [] = refl
two_each (p ∷ ps) = omega (arith, length-append (pair_files p) (flat_map pair_files ps), two_each ps)

-- those of the pairs, and of the segments
abbrev pairs_marked : List Bool → ManifestData → ℕ
pairs_marked marks m = length (filter (is_marked marks) (flat_map pair_files m.pairs))

abbrev segments_marked : List Bool → ManifestData → ℕ
segments_marked marks m = length (filter (is_marked marks) m.segments)

few : (marks : List Bool) (m : ManifestData) → IsManifest m → (a b : ℕ) → a ≡ pairs_marked marks m → b ≡ segments_marked marks m → Fits w64 (a + b)
few marks m is a b first second =
    omega (arith, first, second, no_more (is_marked marks) (flat_map pair_files m.pairs), no_more (is_marked marks) m.segments, two_each m.pairs, is.rules.pairs, is.rules.segments)

sum_is : (content : Image) (marks : List Bool) (m : ManifestData) → IsManifest m → KnowsOld content m 1024 marks → (a b : ℕ) → a ≡ pairs_marked marks m → b ≡ segments_marked marks m → a + b ≡ old_file_count content m
sum_is content marks m is knows a b first second = ap (λ k. k + b) first ∙ ap (λ k. pairs_marked marks m + k) second ∙ marked_are content m marks is knows

pub overflow_add-result : goal.overflow_add-result
overflow_add-result g c =
    let marks = c.self.inside.old_marks.items in
    let m = c.self.inside.manifest in
    few marks m c.pairs-pairs.ensures.manifest c.marked_pair_count.result c.marked_count.result
    (c.marked_pair_count.ensures ∙ ap (λ (ms : List Bool). length (filter (is_marked ms) (flat_map pair_files c.pairs-pairs.result.now))) c.deref.ensures.value ∙ ap (λ (ps : List Pair). length (filter (is_marked marks) (flat_map pair_files ps))) c.pairs-pairs.ensures.value)
    (c.marked_count.ensures ∙ ap (λ (ms : List Bool). length (filter (is_marked ms) c.segments-segments.result.now)) c.deref-2.ensures.value ∙ ap (λ (ns : List ℕ). length (filter (is_marked marks) ns)) c.segments-segments.ensures.value)

pub returns : goal.returns
returns g c =
    let marks = c.self.inside.old_marks.items in
    let m = c.self.inside.manifest in
    rw (← c.self.view_is) (λ up honest. sum_is (g.D.Disk.content c.self.inside.disk) marks m c.pairs-pairs.ensures.manifest ((c.self.invariant up).up honest).1.marks c.marked_pair_count.result c.marked_count.result
    (c.marked_pair_count.ensures ∙ ap (λ (ms : List Bool). length (filter (is_marked ms) (flat_map pair_files c.pairs-pairs.result.now))) c.deref.ensures.value ∙ ap (λ (ps : List Pair). length (filter (is_marked marks) (flat_map pair_files ps))) c.pairs-pairs.ensures.value)
    (c.marked_count.ensures ∙ ap (λ (ms : List Bool). length (filter (is_marked ms) c.segments-segments.result.now)) c.deref-2.ensures.value ∙ ap (λ (ns : List ℕ). length (filter (is_marked marks) ns)) c.segments-segments.ensures.value))
