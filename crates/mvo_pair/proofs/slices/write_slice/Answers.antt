use Rattle.std.proofs.Common.{◌≡◌, ◌⊎◌, ◌+◌, ◌-◌, ◌<◌, ◌≤◌, ◌^◌, ℕ, List, length, take, drop, ap, sym, subst, ◌∙◌, arith}
use Rattle.std.proofs.lemmas.List.{take_all, length-drop}
use Rattle.mvo_format.specs.declared.format.Format.{Format}
use Rattle.mvo_pair.specs.Data.{EntryData}
use Rattle.mvo_pair.specs.Files.{AreEntries}
use Rattle.mvo_pair.specs.Slices.{fitting, with_slice}
use Rattle.mvo_pair.specs.declared.slices.TheConstants.{SLICE_LEN}
use Rattle.mvo_pair.proofs.Ruled.{are_short}
use Rattle.mvo_pair.proofs.Sliced.{first_are, more_or_all, has_appended}
use Rattle.mvo_pair.proofs.slices.write_slice.Goals as goal

-- what was counted is what fits
counted : (es : List EntryData) (from n k : ℕ) → n ≡ fitting SLICE_LEN (take k (drop from es)) → k ≡ length es - from → from + n ≡ with_slice es from
counted es from n k is long = ap (λ i. from + i) (is ∙ ap (fitting SLICE_LEN) (take_all k (drop from es) (omega (arith, long, length-drop from es))))

further : (f : Format) (lo hi : ℕ) (es : List EntryData) (from n : ℕ) → f.max_data_len < 2 ^ 16 → AreEntries f lo hi es → from ≤ length es → n ≡ with_slice es from → (from < n) ⊎ (n ≡ length es)
further f lo hi es from n small are le is = subst (λ i. (from < i) ⊎ (i ≡ length es)) (sym is) (more_or_all es from (are_short f lo hi es small are) le)

pub write_data-requires-clause-are : goal.write_data-requires-clause-are
write_data-requires-clause-are g c = first_are c.args.format c.args.pair.lo.0 c.args.pair.hi.0 (c.args.from + c.slice_count.result) c.args.entries.now c.requires.are

pub returns-in-Ok-clause-more : goal.returns-in-Ok-clause-more
returns-in-Ok-clause-more g c = further c.args.format c.args.pair.lo.0 c.args.pair.hi.0 c.args.entries.now c.args.from (c.args.from + c.slice_count.result) (omega arith) c.requires.are c.requires.within (counted c.args.entries.now c.args.from c.slice_count.result _ c.slice_count.ensures.count (omega arith))

pub returns-in-Ok-append_records-clause-more : goal.returns-in-Ok-append_records-clause-more
returns-in-Ok-append_records-clause-more g c = further c.args.format c.args.pair.lo.0 c.args.pair.hi.0 c.args.entries.now c.args.from (c.args.from + c.slice_count.result) (omega arith) c.requires.are c.requires.within (counted c.args.entries.now c.args.from c.slice_count.result _ c.slice_count.ensures.count (omega arith))

pub returns-in-Ok-append_records-clause-has : goal.returns-in-Ok-append_records-clause-has
returns-in-Ok-append_records-clause-has g c honest =
    let old = g.D.Disk.content c.args.disk.now c.args.pair.data_file in
    let new = g.D.Disk.content c.append_records.new.disk c.args.pair.data_file in
    let some : 0 < c.args.from = omega (arith, c.if-from-eq0.false) in
    has_appended c.args.format c.args.entries.now c.args.from c.slice_count.result _ old new (c.requires.first some (c.append_records.ensures.honest honest)) (c.in-Ok-append_records.ensures.written honest) c.in-Ok-append_records.ensures.words (omega arith)
