use Rattle.std.proofs.Common.{sym}
use Rattle.mvo_load.proofs.turns.live_of.Goals as goal

pub returns : goal.returns
returns c =
    let said = rw (c.deref.ensures.value, c.deref-2.ensures.value) at c.load_pair.ensures in
    rw (sym c.files.view_is) said
