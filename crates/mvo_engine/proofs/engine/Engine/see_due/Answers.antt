use Rattle.std.proofs.Common.{List, subst}
use Rattle.mvo_pair.specs.declared.pair.Pair.{Pair}
use Rattle.mvo_keep.specs.Keeping.{IsStandingBy}
use Rattle.mvo_engine.specs.Keeping.{WasLookedAt}
use Rattle.mvo_engine.proofs.engine.Engine.see_due.Goals as goal

pub returns-clause-ok : goal.returns-clause-ok
returns-clause-ok g c =
    let seen : WasLookedAt g.D.Disk g.L.Run.opening c.in-Ok.seen.0 c.in-Ok.seen.1.items = c.in-Ok.ensures.ok in
    record {
      store = seen.store;
      core = c.deref.result.now;
      told = record { core = c.stats-core.result; store = c.in-Ok.seen.0 };
      stats = record {
        store_sound = seen.sound;
        store_stats = seen.stats;
        core_sound = c.stats-core.ensures.sound;
        core_stats = c.stats-core.ensures.stats;
      };
      seen = c.sight-sight.ensures;
      standing = c.standing-standing.result;
      stands = subst (λ (named : List Pair). IsStandingBy c.args.keeper c.sight-sight.result named c.standing-standing.result) seen.pairs_are c.standing-standing.ensures;
      due_is = c.due.ensures.first;
    }
