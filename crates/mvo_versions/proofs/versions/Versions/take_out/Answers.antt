use Rattle.std.proofs.Common.{IsSome, sym, subst}
use Rattle.mvo_chain.specs.Slots.{version_at}
use Rattle.mvo_versions.specs.Data.{VersionsData}
use Rattle.mvo_versions.proofs.Kept.{gone_has}
use Rattle.mvo_versions.proofs.versions.Versions.take_out.Goals as goal

pub invariant_of-self : goal.invariant_of-self
invariant_of-self c =
    gone_has c.self.inside.indexed c.take_out.new.self c.args.number c.self.inside.skips c.forget.new.self
    (subst (λ (v : VersionsData). IsSome (version_at v.slots c.args.number)) (sym c.self.view_is) c.requires)
    c.take_out.ensures.gone c.take_out.ensures.indexed c.forget.ensures c.self.invariant
