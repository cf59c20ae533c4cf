use Rattle.std.proofs.Common.{Some, IsSome, refl, sym, ap, ◌∙◌, subst}
use Rattle.mvo_chain.specs.Slots.{version_at}
use Rattle.mvo_hash.specs.Lists.{numbers_of, is_among, IsNewer}
use Rattle.mvo_visible.specs.Fronts.{with_front}
use Rattle.mvo_versions.specs.Data.{VersionsData}
use Rattle.mvo_versions.specs.Changes.{IsInFront}
use Rattle.mvo_versions.proofs.Counted.{few_at, indexed}
use Rattle.mvo_versions.proofs.Going.{is_held, live_among, came_front, has_entry, same_places, key_there, made_anyway}
use Rattle.mvo_versions.proofs.indexed.Indexed.bring_to_front.Goals as goal

pub enter-requires : goal.enter-requires
enter-requires c = few_at (record { slots = c.self.inside.chains; lists = c.self.inside.index.versions; places = c.self.inside.order }) c.place_of-place.result c.self.invariant

pub older-older-requires : goal.older-older-requires
older-older-requires c = is_held (record { slots = c.self.inside.chains; lists = c.self.inside.index.versions; places = c.self.inside.order }) c.args.number (subst (λ (v : VersionsData). IsSome (version_at v.slots c.args.number)) (sym c.self.view_is) c.requires.live) c.self.invariant.numbers

pub bring_to_front-requires : goal.bring_to_front-requires
bring_to_front-requires c =
    ap (λ k. is_among c.args.number.0 (numbers_of c.self.inside.index.versions k)) c.row_key.ensures
    ∙ live_among (record { slots = c.self.inside.chains; lists = c.self.inside.index.versions; places = c.self.inside.order }) c.args.number c.place_of-place.result (subst (λ (v : VersionsData). IsSome (version_at v.slots c.args.number)) (sym c.self.view_is) c.requires.live) c.place_of-place.ensures c.self.invariant

pub invariant_of-self : goal.invariant_of-self
invariant_of-self c =
    let live : IsSome (version_at c.self.inside.chains c.args.number) = subst (λ (v : VersionsData). IsSome (version_at v.slots c.args.number)) (sym c.self.view_is) c.requires.live in
    let front : IsNewer c.self.inside.index.versions c.args.number.0 (Some c.args.newer.0) = subst (λ (v : VersionsData). IsNewer v.lists c.args.number.0 (Some c.args.newer.0)) (sym c.self.view_is) c.requires.newer in
    came_front (record { slots = c.self.inside.chains; lists = c.self.inside.index.versions; places = c.self.inside.order }) c.args.number c.place_of-place.result c.row_key.result (Some c.args.newer) c.older-older.result
    live c.place_of-place.ensures c.row_key.ensures front c.older-older.ensures c.self.invariant
    c.joins-joins.result c.bring_to_front.new.self.versions c.enter.new.order c.leave.new.order refl c.joins-joins.ensures c.bring_to_front.ensures.front
    (made_anyway c.enter.result c.enter.ensures.ok c.enter.ensures.absent (has_entry (record { slots = c.self.inside.chains; lists = c.self.inside.index.versions; places = c.self.inside.order }) c.args.number c.place_of-place.result c.row_key.result (Some c.args.newer) c.older-older.result live c.place_of-place.ensures c.row_key.ensures front c.older-older.ensures c.self.invariant))
    c.leave.ensures

pub returns-clause-front : goal.returns-clause-front
returns-clause-front c =
    subst (λ (v : VersionsData). IsInFront v (record { slots = c.self.inside.chains; lists = c.bring_to_front.new.self.versions; places = c.leave.new.order }) c.args.number) c.self.view_is (record {
      slots = refl;
      lists = λ w e. c.bring_to_front.ensures.front ∙ ap (λ k. with_front c.self.inside.index.versions k c.args.number.0) (key_there (record { slots = c.self.inside.chains; lists = c.self.inside.index.versions; places = c.self.inside.order }) c.args.number c.place_of-place.result c.row_key.result w c.place_of-place.ensures c.row_key.ensures e);
      places = same_places c.self.inside.chains c.self.inside.index.versions c.bring_to_front.new.self.versions c.self.inside.order c.leave.new.order c.self.invariant (invariant_of-self c);
    })

pub returns-clause-indexed : goal.returns-clause-indexed
returns-clause-indexed c = indexed _ (invariant_of-self c)
