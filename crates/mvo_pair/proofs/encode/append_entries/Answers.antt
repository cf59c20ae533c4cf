use Rattle.std.proofs.Common.{◌≡◌, ◌++◌, ◌<◌, ◌+◌, ◌∷◌, [], List, length, take, get_or, append_assoc, subst, ℕ, sym, ap, ◌∙◌}
use Rattle.std.specs.List.{flat_map}
use Rattle.std.proofs.lemmas.List.{append-nil, take_more}
use Rattle.std.proofs.lemmas.List.Elements.{All-more}
use Rattle.std.proofs.lemmas.List.Concat.{flat_map-cons}
use Rattle.std.proofs.lemmas.Grind.{flat_map-append}
use Rattle.mvo_pair.specs.Data.{EntryData}
use Rattle.mvo_pair.specs.Files.{HasRowWords, entry_bytes}
use Rattle.mvo_pair.proofs.encode.append_entries.Goals as goal

flat_map-more : (xs : List EntryData) (i : ℕ) (e : EntryData) → i < length xs → e ≡ get_or xs i e → flat_map entry_bytes (take (i + 1) xs) ≡ flat_map entry_bytes (take i xs) ++ entry_bytes e
flat_map-more xs i e lt is =
    let one : flat_map entry_bytes (e ∷ []) ≡ entry_bytes e = flat_map-cons entry_bytes e [] ∙ append-nil (entry_bytes e) in
    ap (λ (l : List EntryData). flat_map entry_bytes l) (take_more xs i e lt ∙ ap (λ y. take i xs ++ y ∷ []) (sym is))
    ∙ flat_map-append entry_bytes (take i xs) (e ∷ []) ∙ ap (λ (l : List ℕ). flat_map entry_bytes (take i xs) ++ l) one

pub loop-entry-preserved : goal.loop-entry-preserved
loop-entry-preserved c =
    let i = c.loop-entry.entry-index in
    let xs = c.args.entries.now in
    let e = c.entry-item.result in
    record {
      bytes =
          c.in_ok-append_entry.ensures.bytes ∙ ap (λ (l : List ℕ). l ++ entry_bytes e) c.loop-entry.invariant.bytes
          ∙ append_assoc c.args.out.now.items (flat_map entry_bytes (take i xs)) (entry_bytes e)
          ∙ ap (λ (l : List ℕ). c.args.out.now.items ++ l) (sym (flat_map-more xs i e c.loop-entry-test.true c.entry-item.is));
      words = All-more HasRowWords xs i e c.loop-entry-test.true c.loop-entry.invariant.words (subst HasRowWords c.entry-item.is c.in_ok-append_entry.ensures.words);
    }
