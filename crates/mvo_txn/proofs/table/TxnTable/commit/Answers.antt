use Rattle.std.proofs.Common.{refl}
use Rattle.mvo_txn.specs.declared.state.TxState.TheVariants.{Preparing, Committed}
use Rattle.mvo_txn.specs.Seats.{with_state}
use Rattle.mvo_txn.proofs.Tables.{sound_closed, sound_kept}
use Rattle.mvo_txn.proofs.table.TxnTable.commit.Goals as goal

pub invariant_of-self-lent : goal.invariant_of-self-lent
invariant_of-self-lent g c = λ w.
    let end = c.commit.result.0 in
    let after = with_state c.self.inside.seats c.args.tx.id.0 (Committed end) in
    sound_kept c.self.inside.clock after c.self.inside.begins c.trim.new.self c.args.tx.id.0 w
    (sound_closed c.self.inside.clock c.self.inside.seats after c.self.inside.begins c.self.inside.open_ends c.trim.new.self c.args.tx.id.0
    (Preparing end) (Committed end) c.commit.ensures.end refl
    refl c.trim.ensures.form c.trim.ensures.kept c.self.invariant)
