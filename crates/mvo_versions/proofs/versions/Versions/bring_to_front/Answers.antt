use Rattle.std.proofs.Common.{None, IsSome, sym, subst}
use Rattle.mvo_chain.specs.Slots.{version_at}
use Rattle.mvo_hash.specs.Lists.{IsHeld, IsNewer}
use Rattle.mvo_versions.specs.Data.{VersionsData}
use Rattle.mvo_versions.specs.Changes.{IsInFront}
use Rattle.mvo_versions.specs.Skips.{IsUnlessEnded}
use Rattle.mvo_versions.proofs.Going.{is_held, stays_front}
use Rattle.mvo_versions.proofs.Kept.{front_has}
use Rattle.mvo_versions.proofs.versions.Versions.bring_to_front.Goals as goal

pub newer-requires : goal.newer-requires
newer-requires c =
    subst (λ ls. IsHeld ls c.args.number.0) (sym c.index.ensures)
    (is_held c.self.inside.indexed c.args.number (subst (λ (v : VersionsData). IsSome (version_at v.slots c.args.number)) (sym c.self.view_is) c.requires) c.self.invariant.numbers)

-- it is the newest already
pub returns-in_default : goal.returns-in_default
returns-in_default c =
    subst (λ (v : VersionsData). IsInFront v v c.args.number) c.self.view_is
    (stays_front c.self.inside.indexed c.args.number c.self.invariant.numbers
    (subst (λ ls. IsNewer ls c.args.number.0 None) c.index.ensures c.in_default.ensures))

pub invariant_of-self : goal.invariant_of-self
invariant_of-self c =
    front_has c.self.inside.indexed c.bring_to_front.new.self c.args.number c.self.inside.skips c.unless_ended.new.skips
    (subst (λ (v : VersionsData). IsSome (version_at v.slots c.args.number)) (sym c.self.view_is) c.requires)
    c.bring_to_front.ensures.front c.bring_to_front.ensures.indexed
    (subst (λ ss. IsUnlessEnded ss c.self.inside.skips c.unless_ended.new.skips c.args.number.0) c.chains.ensures c.unless_ended.ensures)
    c.self.invariant
