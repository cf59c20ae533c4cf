use Rattle.std.proofs.Common.{sym, ap, ◌∙◌, eq-eqb}
use Rattle.std.specs.Option.{option_copied}
use Rattle.mvo_txn.specs.Directory.{is_of}
use Rattle.mvo_txn.proofs.Seated.{got}
use Rattle.mvo_txn.proofs.seats.Seats.get.Goals as goal

pub returns-in-Some : goal.returns-in-Some
returns-in-Some g c =
    let there = sym c.get.ensures ∙ ap option_copied c.in-Some.is in
    sym (got c.self.inside.directory c.self.inside.chairs c.args.self.now c.args.first c.args.id c.in-Some.chair.now c.self.invariant c.self.view_is there (ap (λ o. is_of o c.args.id) there ∙ eq-eqb c.in-Some.chair.now.id c.args.id c.if-chair-id.true))
