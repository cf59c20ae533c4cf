use Rattle.std.proofs.Common.{◌∙◌, sym}
use Rattle.mvo_validate.proofs.Keys.{not_among}
use Rattle.mvo_validate.proofs.entries.is_among_few.Goals as goal

pub returns-then-is_key_above : goal.returns-then-is_key_above
returns-then-is_key_above c =
    sym (not_among c.args.greatest c.args.few.now c.args.entry c.requires (sym c.is_key_above.ensures ∙ c.if-is_key_above.true))
