use Rattle.std.proofs.Common.{sym, ap, ◌∙◌}
use Rattle.std.specs.Option.{option_map}
use Rattle.mvo_chain.specs.declared.version.VersionNo.{VersionNo}
use Rattle.mvo_hash.specs.Lists.{numbers_of}
use Rattle.mvo_hash.proofs.Walks.{newest_among}
use Rattle.bench_index.proofs.versions.remove_newest.Goals as goal

pub remove-requires : goal.remove-requires
remove-requires c =
    newest_among (numbers_of c.args.index.now.versions c.args.key) c.in-Some.version.0
    (sym c.newest.ensures ∙ ap (option_map (λ (v : VersionNo). v.0)) c.in-Some.is)
