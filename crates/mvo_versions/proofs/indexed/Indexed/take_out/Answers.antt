use Rattle.std.proofs.Common.{IsSome, sym, ap, ◌∙◌, subst}
use Rattle.mvo_chain.specs.Slots.{version_at}
use Rattle.mvo_hash.specs.Lists.{numbers_of, is_among}
use Rattle.mvo_versions.specs.Data.{VersionsData}
use Rattle.mvo_versions.proofs.Counted.{indexed}
use Rattle.mvo_versions.proofs.Going.{is_held, live_among, went}
use Rattle.mvo_versions.proofs.indexed.Indexed.take_out.Goals as goal

pub newer-newer-requires : goal.newer-newer-requires
newer-newer-requires c = is_held (record { slots = c.self.inside.chains; lists = c.self.inside.index.versions; places = c.self.inside.order }) c.args.number (subst (λ (v : VersionsData). IsSome (version_at v.slots c.args.number)) (sym c.self.view_is) c.requires) c.self.invariant.numbers

pub older-older-requires : goal.older-older-requires
older-older-requires c = is_held (record { slots = c.self.inside.chains; lists = c.self.inside.index.versions; places = c.self.inside.order }) c.args.number (subst (λ (v : VersionsData). IsSome (version_at v.slots c.args.number)) (sym c.self.view_is) c.requires) c.self.invariant.numbers

pub remove-requires : goal.remove-requires
remove-requires c =
    ap (λ k. is_among c.args.number.0 (numbers_of c.self.inside.index.versions k)) c.row_key.ensures
    ∙ live_among (record { slots = c.self.inside.chains; lists = c.self.inside.index.versions; places = c.self.inside.order }) c.args.number c.place_of-place.result (subst (λ (v : VersionsData). IsSome (version_at v.slots c.args.number)) (sym c.self.view_is) c.requires) c.place_of-place.ensures c.self.invariant

pub invariant_of-self : goal.invariant_of-self
invariant_of-self c =
    went (record { slots = c.self.inside.chains; lists = c.self.inside.index.versions; places = c.self.inside.order }) c.args.number c.place_of-place.result c.row_key.result c.newer-newer.result c.older-older.result
    (subst (λ (v : VersionsData). IsSome (version_at v.slots c.args.number)) (sym c.self.view_is) c.requires) c.place_of-place.ensures c.row_key.ensures c.newer-newer.ensures c.older-older.ensures c.self.invariant
    c.take_out.new.self c.remove.new.self.versions c.leave.new.order c.take_out.ensures.emptied c.remove.ensures.gone c.leave.ensures

pub returns-clause-indexed : goal.returns-clause-indexed
returns-clause-indexed c = indexed _ (invariant_of-self c)
