use Rattle.std.proofs.Common.{◌≡◌, ◌<◌, ◌++◌, ◌∷◌, [], suc, length, map, take, drop, vec_len, sym, ap, ◌∙◌, subst, arith}
use Rattle.std.proofs.lemmas.List.{get_or_read, map-append}
use Rattle.mvo_chain.specs.declared.version.VersionNo.{VersionNo}
use Rattle.mvo_hash.specs.declared.link.Link.{Link}
use Rattle.mvo_hash.specs.Links.{no_number, no_link, link, first_or_none, walk}
use Rattle.mvo_hash.proofs.Chains.{step_within, step_link, step_older, step_take, step_end}
use Rattle.mvo_hash.proofs.links.listed.Goals as goal

pub index-requires : goal.index-requires
index-requires c =
    let ls = c.args.links.now in
    let ns = walk ls (length ls) c.args.newest in
    let k = vec_len c.loop-at.versions in
    let below : k < length ns = step_within ls no_number ns k (λ e. c.loop-at-test.true (c.loop-at.invariant.1 ∙ e)) in
    subst (λ n. n < length ls) (sym c.loop-at.invariant.1) (step_link ls no_number ns k c.requires.chain below)

pub loop-at-preserved : goal.loop-at-preserved
loop-at-preserved c =
    let ls = c.args.links.now in
    let ns = walk ls (length ls) c.args.newest in
    let k = vec_len c.loop-at.versions in
    let at = c.loop-at.at in
    let below : k < length ns = step_within ls no_number ns k (λ e. c.loop-at-test.true (c.loop-at.invariant.1 ∙ e)) in
    let within : at < length ls = subst (λ n. n < length ls) (sym c.loop-at.invariant.1) (step_link ls no_number ns k c.requires.chain below) in
    let more : vec_len c.push.new.self ≡ suc k = omega (arith, c.in_ok-push.ensures.len) in (
      omega (arith, more, below),
      ap (λ (l : Link). l.older) (get_or_read ls at c.index.result.now within c.index.ensures no_link)
          ∙ ap (λ n. (link ls n).older) c.loop-at.invariant.1 ∙ step_older ls no_number ns k c.requires.chain below
          ∙ ap (λ j. first_or_none (drop j ns)) (sym more),
      ap (map (λ (v : VersionNo). v.0)) c.in_ok-push.ensures.items
          ∙ map-append (λ (v : VersionNo). v.0) c.loop-at.versions.items (record { 0 = at } ∷ [])
          ∙ ap (λ ms. ms ++ at ∷ []) c.loop-at.invariant.2
          ∙ ap (λ m. take k ns ++ m ∷ []) c.loop-at.invariant.1
          ∙ sym (step_take ns k below) ∙ ap (λ j. take j ns) (sym more),
    )

pub returns : goal.returns
returns c =
    let ls = c.args.links.now in
    let ns = walk ls (length ls) c.args.newest in
    let k = vec_len c.loop-at.versions in
    c.loop-at.invariant.2 ∙ step_end ns ls no_number k c.requires.numbered c.requires.chain (sym c.loop-at.invariant.1 ∙ c.loop-at-test.false)
