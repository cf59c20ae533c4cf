use Rattle.std.proofs.Common.{◌≡◌, ℕ, ◌+◌, ◌-◌, ◌*◌, ◌/◌, ◌≤◌, List, length, take, drop, ap, ◌∙◌, arith}
use Rattle.std.proofs.lemmas.List.{take_at, length-take-le, length-drop}
use Rattle.mvo_pair.proofs.Decoded.{those_from, length-upto}
use Rattle.mvo_pair.proofs.late.late_numbers.Goals as goal

pub returns-in-Ok-clause-late : goal.returns-in-Ok-clause-late
returns-in-Ok-clause-late g c honest =
    let content = g.D.Disk.content c.args.disk.now c.args.pair.delta_file in
    let at = 8 + 4 * c.args.from in
    let k = length c.deref_mut.result.now in
    let counted = c.requires.counted (c.read_at.ensures.time.later.honest honest) in
    let long : k ≡ 4 * (c.args.pair.entries - c.args.from) = omega (arith, c.deref_mut.ensures.len, c.in_ok-bytes.ensures.len, c.requires.before) in
    let fits : k ≤ length (drop at content) = omega (arith, long, length-drop at content, counted, c.requires.before) in
    let into_is : c.read_at.new.into ≡ take k (drop at content) = c.in-Ok.ensures.bytes honest in
    let len_into : length c.read_at.new.into ≡ k = ap (λ (l : List ℕ). length l) into_is ∙ length-take-le k (drop at content) fits in
    let whole : length c.read_at.new.into ≡ c.in_ok-bytes.bytes.len = omega (arith, len_into, long, c.deref_mut.ensures.len, c.in_ok-bytes.ensures.len, c.requires.before) in
    let read : c.deref.result.now ≡ take k (drop at content) = c.deref.ensures.value ∙ take_at c.read_at.new.into (drop (length c.read_at.new.into) c.in_ok-bytes.bytes.items) c.in_ok-bytes.bytes.len whole ∙ into_is in
    those_from c.args.from c.args.pair.entries content c.deref.result.now c.in_ok-decode_numbers-in-Ok.field-0.items c.requires.before (read ∙ ap (λ j. take j (drop at content)) long) c.in_ok-decode_numbers-in-Ok.ensures

pub returns-in-Ok-clause-many : goal.returns-in-Ok-clause-many
returns-in-Ok-clause-many g c =
    let n = length c.deref.result.now / 4 in
    let is : length c.in_ok-decode_numbers-in-Ok.field-0.items ≡ n = ap (λ (l : List ℕ). length l) c.in_ok-decode_numbers-in-Ok.ensures ∙ length-upto n c.deref.result.now in
    omega (arith, is, c.deref.ensures.len, c.in_ok-bytes.ensures.len, c.requires.before)
