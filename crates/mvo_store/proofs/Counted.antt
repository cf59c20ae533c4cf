-- The numbers that count in the delta files of a manifest's pairs stay.
use Rattle.std.proofs.Common.{◌≡◌, ◌≢◌, inl, inr, ℕ, ◌+◌, List, ◌++◌, length, take, drop, sym, ap, subst, ◌∙◌, append_assoc}
use Rattle.std.specs.List.{Contains, flat_map}
use Rattle.std.proofs.lemmas.Bool.{cases_eq}
use Rattle.std.proofs.lemmas.List.{take_at}
use Rattle.mvo_disk.specs.Disk.{Holds}
use Rattle.mvo_format.specs.declared.format.Format.{Format}
use Rattle.mvo_format.specs.Formats.{IsFormatUpTo}
use Rattle.mvo_pair.specs.declared.pair.Pair.{Pair}
use Rattle.mvo_pair.specs.Files.{HasDeadNumbers, delta_bytes}
use Rattle.mvo_pair.specs.Writing.{place_behind}
use Rattle.mvo_pair.proofs.Appends.{length-delta}
use Rattle.mvo_manifest.specs.Data.{ManifestData, pair_files}
use Rattle.mvo_manifest.specs.Rules.{IsManifest}
use Rattle.mvo_recovery.specs.image.Opens.{Image}
use Rattle.mvo_recovery.proofs.Pairs.{pairs_apart, same_data, same_delta, data_no_delta, data_among, delta_among}
use Rattle.mvo_recovery.specs.beside.Seen.{CountsStay}

-- where bytes are written behind them
pub counted_before : (version below count : ℕ) (ns old new bytes : List ℕ) → Holds old (place_behind count) bytes new → HasDeadNumbers version below count ns old → HasDeadNumbers version below count ns new
counted_before version below count ns old new bytes holds has =
    let kept : take (place_behind count) old ≡ delta_bytes version ns = ap (λ (l : List ℕ). take (place_behind count) l) has.whole ∙ take_at (delta_bytes version ns) has.rest (place_behind count) (length-delta version ns count has.counted) in
    let later = bytes ++ drop (place_behind count + length bytes) old in
    record { rest = later; whole = holds ∙ append_assoc (take (place_behind count) old) bytes (drop (place_behind count + length bytes) old) ∙ ap (λ (l : List ℕ). l ++ later) kept; counted = has.counted; are = has.are }

module _ (old new : Image) (m : ManifestData) where
  -- where a file is written that no pair has
  pub counts_beside : (file : ℕ) → ((n : ℕ) → n ≢ file → new n ≡ old n) → (Contains (flat_map pair_files m.pairs) file → ⊥) → CountsStay m.version old new m.pairs
  counts_beside file others never p in_pairs =
      let data_is : new p.data_file ≡ old p.data_file = others p.data_file (λ e. never (subst (Contains (flat_map pair_files m.pairs)) e (data_among m.pairs p in_pairs))) in
      let delta_is : new p.delta_file ≡ old p.delta_file = others p.delta_file (λ e. never (subst (Contains (flat_map pair_files m.pairs)) e (delta_among m.pairs p in_pairs))) in
      (data_is, λ own known ns has. subst (λ (l : List ℕ). HasDeadNumbers own.version p.records p.entries ns l) (sym delta_is) has)

  -- where the delta file of a pair is, behind those that count
  pub counts_behind : IsManifest m → (r : Pair) → Contains m.pairs r → ((n : ℕ) → n ≢ r.delta_file → new n ≡ old n) → ((own : Format) → IsFormatUpTo m.version own → (ns : List ℕ) → HasDeadNumbers own.version r.records r.entries ns (old r.delta_file) → HasDeadNumbers own.version r.records r.entries ns (new r.delta_file)) → CountsStay m.version old new m.pairs
  counts_behind is r has others keeps p in_pairs =
      let apart = pairs_apart m is in
      let data_is : new p.data_file ≡ old p.data_file = others p.data_file (data_no_delta m.pairs apart r p has in_pairs) in
      elim (cases_eq p.data_file r.data_file) [
        | inl e ↦ (
            let it : r ≡ p = sym (same_data m.pairs apart r p has in_pairs e) in
            (data_is, subst (λ (k : Pair). (own : Format) → IsFormatUpTo m.version own → (ns : List ℕ) → HasDeadNumbers own.version k.records k.entries ns (old k.delta_file) → HasDeadNumbers own.version k.records k.entries ns (new k.delta_file)) it keeps))
        | inr ne ↦ (
            let delta_is : new p.delta_file ≡ old p.delta_file = others p.delta_file (λ e. ne (ap (λ (k : Pair). k.data_file) (same_delta m.pairs apart r p has in_pairs e))) in
            (data_is, λ own known ns h. subst (λ (l : List ℕ). HasDeadNumbers own.version p.records p.entries ns l) (sym delta_is) h))
      ]
