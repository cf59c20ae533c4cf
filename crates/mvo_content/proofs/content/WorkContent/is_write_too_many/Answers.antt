use Rattle.std.proofs.Common.{◌≡◌, ◌<◌, ◌≤◌, length, sym, ap, ◌∙◌, arith}
use Rattle.std.specs.Option.{option_copied}
use Rattle.mvo_types.specs.declared.limits.TheConstants.{MAX_WRITES}
use Rattle.mvo_theory.specs.Causes.{is_write_too_many}
use Rattle.mvo_theory.specs.Entries.{written_keys}
use Rattle.mvo_theory.specs.Told.{history_told}
use Rattle.mvo_content.specs.Done.{DoneData}
use Rattle.mvo_content.proofs.Leaving.{write_old, write_few, write_full, key_count}
use Rattle.mvo_content.proofs.content.WorkContent.is_write_too_many.Goals as goal

pub returns-then-len-lt-MAX_WRITES : goal.returns-then-len-lt-MAX_WRITES
returns-then-len-lt-MAX_WRITES c =
    let ts = history_told c.self.inside.operations.items in
    let many : c.len.result ≡ length (written_keys ts) = c.len.ensures.len ∙ key_count c.self.inside.left.entries ∙ ap length c.self.invariant.sound.written in
    let few : length (written_keys ts) < MAX_WRITES = omega (arith, many, c.if-len-lt-MAX_WRITES.true) in
    write_few ts c.args.key few
    ∙ ap (λ (d : DoneData). is_write_too_many d.history c.args.key) c.self.view_is

pub returns-in-Some : goal.returns-in-Some
returns-in-Some c =
    let ts = history_told c.self.inside.operations.items in
    let k = c.args.key in
    sym (write_old ts k _ (sym (c.self.invariant.left k) ∙ sym c.left_at.ensures ∙ ap option_copied c.in-Some.is))
    ∙ ap (λ (d : DoneData). is_write_too_many d.history k) c.self.view_is

pub returns-in-None : goal.returns-in-None
returns-in-None c =
    let ts = history_told c.self.inside.operations.items in
    let k = c.args.key in
    let many : c.len.result ≡ length (written_keys ts) = c.len.ensures.len ∙ key_count c.self.inside.left.entries ∙ ap length c.self.invariant.sound.written in
    let full : MAX_WRITES ≤ length (written_keys ts) = omega (arith, many, c.if-len-lt-MAX_WRITES.false) in
    write_full ts k (sym (c.self.invariant.left k) ∙ sym c.left_at.ensures ∙ ap option_copied c.in-None.is) full
    ∙ ap (λ (d : DoneData). is_write_too_many d.history k) c.self.view_is
