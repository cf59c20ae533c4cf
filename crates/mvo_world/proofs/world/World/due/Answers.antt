use Rattle.std.proofs.Common.{rules, subst, ◌≡◌}
use Rattle.mvo_store.specs.Seen.{installed_manifest}
use Rattle.mvo_keep.specs.Keeping.{IsStandingBy}
use Rattle.mvo_world.proofs.world.World.due.Goals as goal

pub returns-clause-ok : goal.returns-clause-ok
returns-clause-ok g c =
    let named : c.in-Ok.pairs.items ≡ (installed_manifest c.args.self.now.store).pairs = search rules in
    record {
      seen = c.sight-sight.ensures;
      standing = c.standing-standing.result;
      stands = subst (λ l. IsStandingBy c.args.keeper.now c.sight-sight.result l c.standing-standing.result) named c.standing-standing.ensures;
      due_is = c.due.ensures.first;
    }
