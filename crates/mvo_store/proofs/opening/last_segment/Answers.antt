use Rattle.std.proofs.Common.{◌-◌, length, get_or, arith}
use Rattle.std.specs.List.{Contains}
use Rattle.std.proofs.lemmas.List.Elements.{All-contains, Contains-get_or}
use Rattle.mvo_manifest.specs.Data.{ManifestData, named}
use Rattle.mvo_manifest.specs.Rules.{IsManifest, IsFile}
use Rattle.mvo_recovery.proofs.Named.{segments_named}
use Rattle.mvo_store.proofs.opening.last_segment.Goals as goal

last_is : (m : ManifestData) → IsManifest m → IsFile (get_or m.segments (length m.segments - 1) 0)
last_is m is =
    let has : Contains m.segments (get_or m.segments (length m.segments - 1) 0) = Contains-get_or m.segments (length m.segments - 1) 0 (omega (arith, is.rules.some)) in
    All-contains IsFile (named m) (get_or m.segments (length m.segments - 1) 0) is.rules.files (segments_named m (get_or m.segments (length m.segments - 1) 0) has)

pub returns-clause-file : goal.returns-clause-file
returns-clause-file c = rw c.segments-segments.ensures.value (last_is c.args.manifest.now c.segments-segments.ensures.manifest)
