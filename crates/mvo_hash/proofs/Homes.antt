-- The home of a key by its hash.
use Rattle.std.proofs.Common.{◌≡◌, ℕ, List, length, ap, ◌∙◌, sym}
use Rattle.mvo_types.specs.declared.row.RowKey.{RowKey}
use Rattle.mvo_hash.specs.declared.seeds.Seeds.{Seeds}
use Rattle.mvo_hash.specs.declared.slot.Slot.{Slot}
use Rattle.mvo_hash.specs.Home.{home_of, home_in, hash_of}
use Rattle.mvo_hash.specs.Table.{Table, IsHash}

-- where a search by the hash begins is the home of the key, where each slot is a home
pub at_home : (seeds : Seeds) (t : Table) (ss : List Slot) (homes : ℕ) (key : RowKey) (hash from : ℕ) → seeds ≡ t.seeds → IsHash t key hash → homes ≡ length ss → from ≡ home_in homes hash → from ≡ home_of seeds.first seeds.second (length ss) key
unfolding home_of
at_home seeds t ss homes key hash from same is long at =
    at ∙ ap (λ n. home_in n hash) long ∙ ap (home_in (length ss)) (is ∙ ap (λ (s : Seeds). hash_of s.first s.second key) (sym same))
