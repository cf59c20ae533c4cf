use Rattle.std.proofs.Common.{ap, sym, ◌∙◌}
use Rattle.mvo_types.specs.Entries.{has_entry}
use Rattle.mvo_shared.specs.Kept.{entries_in}
use Rattle.mvo_content.specs.Looks.{LooksData}
use Rattle.mvo_content.proofs.Seeking.{none_behind}
use Rattle.mvo_content.proofs.looks.Looks.keep.Goals as goal

pub put_behind-requires-clause-fresh : goal.put_behind-requires-clause-fresh
put_behind-requires-clause-fresh c = none_behind c.self.inside.few.items c.self.inside.behind.entries c.args.entry (ap (λ (d : LooksData). has_entry (entries_in d.looked) c.args.entry) c.self.view_is ∙ sym c.contains.ensures ∙ c.if-contains.false)
