use Rattle.std.proofs.Common.{◌≡◌, ◌<◌, length, ap, arith}
use Rattle.mvo_hash.specs.Lists.{Index}
use Rattle.mvo_hash.specs.Links.{link, IsUnlinked}
use Rattle.mvo_hash.proofs.Views.{link_read}
use Rattle.mvo_hash.proofs.Unlinks.{gone_within, gone_newer, gone_older, some_head, removed_index, removed_lists}
use Rattle.mvo_hash.proofs.index.HashIndex.remove.Goals as goal

pub index-gone-requires : goal.index-gone-requires
index-gone-requires c =
    let within = gone_within c.self.inside.heads.numbers c.self.inside.heads.numbers c.self.inside.links c.self.inside.links c.args.self.now.versions c.args.key c.args.version.0 c.self.invariant (ap (λ (i : Index). i.versions) c.self.view_is) c.requires in
    omega (arith, within, c.index.ensures)

pub behead-requires : goal.behead-requires
behead-requires c = some_head c.self.inside.heads.numbers c.self.inside.heads.numbers c.self.inside.links c.self.inside.links c.args.self.now.versions c.args.key c.args.version.0 c.self.invariant (ap (λ (i : Index). i.versions) c.self.view_is) c.requires

pub unlink-requires-clause-number : goal.unlink-requires-clause-number
unlink-requires-clause-number c =
    gone_within c.self.inside.heads.numbers c.self.inside.heads.numbers c.self.inside.links c.self.inside.links c.args.self.now.versions c.args.key c.args.version.0 c.self.invariant (ap (λ (i : Index). i.versions) c.self.view_is) c.requires

pub unlink-requires-clause-newer : goal.unlink-requires-clause-newer
unlink-requires-clause-newer c =
    gone_newer c.self.inside.heads.numbers c.self.inside.heads.numbers c.self.inside.links c.self.inside.links c.args.self.now.versions c.args.key c.args.version.0 c.self.invariant (ap (λ (i : Index). i.versions) c.self.view_is) c.requires

pub unlink-requires-clause-older : goal.unlink-requires-clause-older
unlink-requires-clause-older c =
    gone_older c.self.inside.heads.numbers c.self.inside.heads.numbers c.self.inside.links c.self.inside.links c.args.self.now.versions c.args.key c.args.version.0 c.self.invariant (ap (λ (i : Index). i.versions) c.self.view_is) c.requires

pub invariant_of-self : goal.invariant_of-self
invariant_of-self c =
    let old = c.self.inside.links in
    let n = c.args.version.0 in
    let u : IsUnlinked old c.unlink.new.links n = c.unlink.ensures in
    let within : n < length old = gone_within c.self.inside.heads.numbers c.behead.new.heads.numbers old c.unlink.new.links c.args.self.now.versions c.args.key n c.self.invariant (ap (λ (i : Index). i.versions) c.self.view_is) c.requires in
    let read : c.index-gone.result.now ≡ link old n = link_read old c.index.result n c.index-gone.result.now c.index.ensures within c.index-gone.ensures in
    removed_index c.self.inside.heads.numbers c.behead.new.heads.numbers old c.unlink.new.links c.args.self.now.versions c.args.key n c.self.invariant (ap (λ (i : Index). i.versions) c.self.view_is) c.requires u c.index-gone.result.now read c.behead.ensures.head

pub returns-clause-gone : goal.returns-clause-gone
returns-clause-gone c =
    let old = c.self.inside.links in
    let n = c.args.version.0 in
    let u : IsUnlinked old c.unlink.new.links n = c.unlink.ensures in
    let within : n < length old = gone_within c.self.inside.heads.numbers c.behead.new.heads.numbers old c.unlink.new.links c.args.self.now.versions c.args.key n c.self.invariant (ap (λ (i : Index). i.versions) c.self.view_is) c.requires in
    let read : c.index-gone.result.now ≡ link old n = link_read old c.index.result n c.index-gone.result.now c.index.ensures within c.index-gone.ensures in
    removed_lists c.self.inside.heads.numbers c.behead.new.heads.numbers old c.unlink.new.links c.args.self.now.versions c.args.key n c.self.invariant (ap (λ (i : Index). i.versions) c.self.view_is) c.requires u c.index-gone.result.now read c.behead.ensures.head
