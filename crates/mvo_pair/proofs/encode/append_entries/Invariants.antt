use Rattle.std.proofs.Common.{◌≡◌, ◌++◌, take, All}
use Rattle.std.specs.List.{flat_map}
use Rattle.mvo_pair.specs.Files.{HasRowWords, entry_bytes}
use Rattle.mvo_pair.proofs.encode.append_entries.Given as goal

abbrev pub invariant-loop-entry : goal.invariant-loop-entry
invariant-loop-entry l = record {
  bytes : l.out.items ≡ l.initial.out.items ++ flat_map entry_bytes (take l.entry-index l.entries);
  words : All HasRowWords (take l.entry-index l.entries);
}
