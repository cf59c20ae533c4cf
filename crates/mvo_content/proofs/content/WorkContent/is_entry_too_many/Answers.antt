use Rattle.std.proofs.Common.{◌≤◌, ap, ◌∙◌, length, not, arith}
use Rattle.mvo_types.specs.declared.limits.TheConstants.{MAX_ENTRIES}
use Rattle.mvo_theory.specs.Causes.{is_entry_too_many}
use Rattle.mvo_shared.specs.Kept.{entries_in}
use Rattle.mvo_work.proofs.OneMore.{full_of_entries}
use Rattle.mvo_content.specs.Done.{DoneData}
use Rattle.mvo_content.proofs.Keeping.{count}
use Rattle.mvo_content.proofs.content.WorkContent.is_entry_too_many.Goals as goal

pub returns-then-len-ge-MAX_ENTRIES : goal.returns-then-len-ge-MAX_ENTRIES
returns-then-len-ge-MAX_ENTRIES c =
    let looked = c.self.inside.looks.looked in
    let full : MAX_ENTRIES ≤ length (entries_in looked) = omega (arith, count looked, c.len.ensures, c.if-len-ge-MAX_ENTRIES.true) in
    ap not c.contains.ensures
    ∙ full_of_entries _ _ _ c.args.entry c.self.invariant.sound full
    ∙ ap (λ (d : DoneData). is_entry_too_many d.history c.args.entry) c.self.view_is
