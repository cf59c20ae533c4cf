use Rattle.std.proofs.Common.{subst}
use Rattle.mvo_chain.specs.declared.version.Version.{Version}
use Rattle.mvo_versions.specs.Skips.{IsUnlessEnded}
use Rattle.mvo_versions.proofs.Kept.{led_has, reworded_has}
use Rattle.mvo_versions.proofs.versions.Versions.set_begin.Goals as goal

pub invariant_of-self : goal.invariant_of-self
invariant_of-self c =
    led_has c.set_begin.new.self c.chains-chains.result.now c.index-index.result.now.versions c.unless_ended.new.skips c.lead.new.skips
    c.chains-chains.ensures c.index-index.ensures c.lead.ensures
    (reworded_has c.self.inside.indexed c.set_begin.new.self c.args.number (λ (v : Version). record v { begin = c.args.begin }) c.self.inside.skips c.unless_ended.new.skips
    c.set_begin.ensures.reworded c.set_begin.ensures.indexed
    (subst (λ ss. IsUnlessEnded ss c.self.inside.skips c.unless_ended.new.skips c.args.number.0) c.chains.ensures c.unless_ended.ensures)
    c.self.invariant)
