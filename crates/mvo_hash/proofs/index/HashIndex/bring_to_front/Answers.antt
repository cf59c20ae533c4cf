use Rattle.std.proofs.Common.{◌≡◌, ◌≢◌, ◌<◌, length, true, sym, ap, ◌∙◌, arith}
use Rattle.std.specs.Prelude.{is_some}
use Rattle.std.specs.FinMap.{get, insert}
use Rattle.mvo_hash.specs.declared.link.Link.{Link}
use Rattle.mvo_hash.specs.Lists.{Index}
use Rattle.mvo_hash.specs.Links.{no_number, link, number_or_none, numbers, IsUnlinked, IsJoined}
use Rattle.mvo_hash.proofs.Views.{link_read}
use Rattle.mvo_hash.proofs.Unlinks.{gone_within, gone_newer, gone_older, some_head}
use Rattle.mvo_hash.proofs.Fronts.{among, within, behind_other, first_lists, front_index, front_lists, is_put}
use Rattle.mvo_hash.proofs.index.HashIndex.bring_to_front.Goals as goal

pub index-requires-2 : goal.index-requires-2
index-requires-2 c =
    let inside = gone_within c.self.inside.heads.numbers c.self.inside.heads.numbers c.self.inside.links c.self.inside.links c.args.self.now.versions c.args.key c.args.version.0 c.self.invariant (ap (λ (i : Index). i.versions) c.self.view_is) c.requires in
    omega (arith, inside, c.index.ensures)

pub returns-then-index-clause-front : goal.returns-then-index-clause-front
returns-then-index-clause-front c =
    let old = c.self.inside.links in
    let n = c.args.version.0 in
    let inside : n < length old = gone_within c.self.inside.heads.numbers c.self.inside.heads.numbers old old c.args.self.now.versions c.args.key n c.self.invariant (ap (λ (i : Index). i.versions) c.self.view_is) c.requires in
    let read : c.index-2.result.now ≡ link old n = link_read old c.index.result n c.index-2.result.now c.index.ensures inside c.index-2.ensures in
    first_lists c.self.inside.heads.numbers old c.args.self.now.versions c.args.key n c.self.invariant (ap (λ (i : Index). i.versions) c.self.view_is) c.requires
    (ap (λ (l : Link). l.newer) (sym read) ∙ c.if-index.true)

pub unlink-requires-clause-number : goal.unlink-requires-clause-number
unlink-requires-clause-number c =
    gone_within c.self.inside.heads.numbers c.self.inside.heads.numbers c.self.inside.links c.self.inside.links c.args.self.now.versions c.args.key c.args.version.0 c.self.invariant (ap (λ (i : Index). i.versions) c.self.view_is) c.requires

pub unlink-requires-clause-newer : goal.unlink-requires-clause-newer
unlink-requires-clause-newer c =
    gone_newer c.self.inside.heads.numbers c.self.inside.heads.numbers c.self.inside.links c.self.inside.links c.args.self.now.versions c.args.key c.args.version.0 c.self.invariant (ap (λ (i : Index). i.versions) c.self.view_is) c.requires

pub unlink-requires-clause-older : goal.unlink-requires-clause-older
unlink-requires-clause-older c =
    gone_older c.self.inside.heads.numbers c.self.inside.heads.numbers c.self.inside.links c.self.inside.links c.args.self.now.versions c.args.key c.args.version.0 c.self.invariant (ap (λ (i : Index). i.versions) c.self.view_is) c.requires

pub join-requires-clause-number : goal.join-requires-clause-number
join-requires-clause-number c =
    let heads = c.self.inside.heads.numbers in
    let old = c.self.inside.links in
    let lists = c.args.self.now.versions in
    let key = c.args.key in
    let n = c.args.version.0 in
    let shown = ap (λ (i : Index). i.versions) c.self.view_is in
    let mid = c.unlink.new.links in
    let u : IsUnlinked old mid n = c.unlink.ensures in
    let inside : n < length old = gone_within heads heads old old lists key n c.self.invariant shown c.requires in
    let read : c.index-2.result.now ≡ link old n = link_read old c.index.result n c.index-2.result.now c.index.ensures inside c.index-2.ensures in
    let led : (link old n).newer ≢ no_number = λ e. c.if-index.false (ap (λ (l : Link). l.newer) read ∙ e) in
    let here = among heads old lists key n c.self.invariant shown c.requires in
    within heads old mid (numbers heads old) c.self.invariant key n here led u

pub join-requires-clause-apart : goal.join-requires-clause-apart
join-requires-clause-apart c =
    let heads = c.self.inside.heads.numbers in
    let old = c.self.inside.links in
    let lists = c.args.self.now.versions in
    let key = c.args.key in
    let n = c.args.version.0 in
    let shown = ap (λ (i : Index). i.versions) c.self.view_is in
    let mid = c.unlink.new.links in
    let u : IsUnlinked old mid n = c.unlink.ensures in
    let inside : n < length old = gone_within heads heads old old lists key n c.self.invariant shown c.requires in
    let read : c.index-2.result.now ≡ link old n = link_read old c.index.result n c.index-2.result.now c.index.ensures inside c.index-2.ensures in
    let led : (link old n).newer ≢ no_number = λ e. c.if-index.false (ap (λ (l : Link). l.newer) read ∙ e) in
    let here = among heads old lists key n c.self.invariant shown c.requires in
    let is : c.or_none-newest.result ≡ number_or_none (get heads key) = c.or_none-newest.ensures ∙ ap number_or_none c.set.ensures.before in
    λ e. behind_other heads old mid (numbers heads old) c.self.invariant key n here led u (e ∙ is)

pub invariant_of-self : goal.invariant_of-self
invariant_of-self c =
    let heads = c.self.inside.heads.numbers in
    let old = c.self.inside.links in
    let lists = c.args.self.now.versions in
    let key = c.args.key in
    let n = c.args.version.0 in
    let shown = ap (λ (i : Index). i.versions) c.self.view_is in
    let mid = c.unlink.new.links in
    let u : IsUnlinked old mid n = c.unlink.ensures in
    let inside : n < length old = gone_within heads heads old old lists key n c.self.invariant shown c.requires in
    let read : c.index-2.result.now ≡ link old n = link_read old c.index.result n c.index-2.result.now c.index.ensures inside c.index-2.ensures in
    let led : (link old n).newer ≢ no_number = λ e. c.if-index.false (ap (λ (l : Link). l.newer) read ∙ e) in
    let here = among heads old lists key n c.self.invariant shown c.requires in
    let is : c.or_none-newest.result ≡ number_or_none (get heads key) = c.or_none-newest.ensures ∙ ap number_or_none c.set.ensures.before in
    let some : is_some c.set.result ≡ true = ap is_some c.set.ensures.before ∙ some_head heads heads old old lists key n c.self.invariant shown c.requires in
    let put : c.set.new.self.numbers ≡ insert heads key n = is_put c.set.result (c.set.new.self.numbers ≡ insert heads key n) some c.set.ensures.set in
    let new = c.join.new.links in
    let j : IsJoined mid new n c.or_none-newest.result = c.join.ensures in
    front_index heads old lists key n c.self.invariant shown c.requires c.set.new.self.numbers mid new led u put c.or_none-newest.result is j

pub returns-clause-front : goal.returns-clause-front
returns-clause-front c =
    let heads = c.self.inside.heads.numbers in
    let old = c.self.inside.links in
    let lists = c.args.self.now.versions in
    let key = c.args.key in
    let n = c.args.version.0 in
    let shown = ap (λ (i : Index). i.versions) c.self.view_is in
    let mid = c.unlink.new.links in
    let u : IsUnlinked old mid n = c.unlink.ensures in
    let inside : n < length old = gone_within heads heads old old lists key n c.self.invariant shown c.requires in
    let read : c.index-2.result.now ≡ link old n = link_read old c.index.result n c.index-2.result.now c.index.ensures inside c.index-2.ensures in
    let led : (link old n).newer ≢ no_number = λ e. c.if-index.false (ap (λ (l : Link). l.newer) read ∙ e) in
    let here = among heads old lists key n c.self.invariant shown c.requires in
    let is : c.or_none-newest.result ≡ number_or_none (get heads key) = c.or_none-newest.ensures ∙ ap number_or_none c.set.ensures.before in
    let some : is_some c.set.result ≡ true = ap is_some c.set.ensures.before ∙ some_head heads heads old old lists key n c.self.invariant shown c.requires in
    let put : c.set.new.self.numbers ≡ insert heads key n = is_put c.set.result (c.set.new.self.numbers ≡ insert heads key n) some c.set.ensures.set in
    let new = c.join.new.links in
    let j : IsJoined mid new n c.or_none-newest.result = c.join.ensures in
    front_lists heads old lists key n c.self.invariant shown c.requires c.set.new.self.numbers mid new led u put c.or_none-newest.result is j
