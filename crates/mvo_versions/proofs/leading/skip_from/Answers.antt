use Rattle.std.proofs.Common.{Option, sym, ◌∙◌, subst}
use Rattle.std.specs.Option.{option_map}
use Rattle.mvo_chain.specs.declared.version.VersionNo.{VersionNo}
use Rattle.mvo_hash.specs.Lists.{IsOlder}
use Rattle.mvo_versions.proofs.Older.{held_if_ended, reached_itself, reached_older, reached_skip}
use Rattle.mvo_versions.proofs.leading.skip_from.Goals as goal

pub loop-init : goal.loop-init
loop-init c = reached_itself c.args.chains.now c.args.index.now.versions c.args.number.0 c.args.begin c.requires.ended

pub older-requires : goal.older-requires
older-requires c = held_if_ended c.args.chains.now c.args.index.now.versions c.loop.to.0 c.loop.least.0 c.requires.numbers c.loop.invariant.ended

pub returns-then-is_post : goal.returns-then-is_post
returns-then-is_post c =
    reached_skip c.args.chains.now c.args.index.now.versions c.args.number.0 c.in_ok-to.to c.lesser-least.result
    (reached_older c.args.chains.now c.args.index.now.versions c.args.number.0 c.loop.to.0 c.loop.least.0 c.in_ok-to.to.0 c.in_ok-begin_of_ended.field-0 c.lesser-least.result.0 c.requires.numbers c.loop.invariant
    (subst (λ (o : Option VersionNo). IsOlder c.args.index.now.versions c.loop.to.0 (option_map (λ (v : VersionNo). v.0) o)) c.in_ok-to.was c.older.ensures)
    (sym c.begin_of_ended.ensures ∙ c.in_ok-begin_of_ended.was) c.lesser-least.ensures)

pub loop-preserved : goal.loop-preserved
loop-preserved c =
    reached_older c.args.chains.now c.args.index.now.versions c.args.number.0 c.loop.to.0 c.loop.least.0 c.in_ok-to.to.0 c.in_ok-begin_of_ended.field-0 c.lesser-least.result.0 c.requires.numbers c.loop.invariant
    (subst (λ (o : Option VersionNo). IsOlder c.args.index.now.versions c.loop.to.0 (option_map (λ (v : VersionNo). v.0) o)) c.in_ok-to.was c.older.ensures)
    (sym c.begin_of_ended.ensures ∙ c.in_ok-begin_of_ended.was) c.lesser-least.ensures
