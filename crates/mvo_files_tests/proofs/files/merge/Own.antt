-- When no two of a list of records have one key, by its first one.
use Rattle.std.proofs.Common.{◌≡◌, ◌-◌, ◌<◌, ◌≤◌, false, List, [], ◌∷◌, map, length, take, drop, get_or, subst, arith, take_all}
use Rattle.std.specs.List.{AllByRecursion, IsDistinct}
use Rattle.std.specs.Ordering.{eq_by_cmp}
use Rattle.mvo_types.specs.Keys.{key_cmp}
use Rattle.mvo_types.specs.declared.row.RowKey.{RowKey}
use Rattle.mvo_pair.specs.Data.{EntryData}
use Rattle.mvo_merge.specs.Moved.{HaveOwnKeys}

abbrev keys : List EntryData → List RowKey
keys es = map (λ e. e.row.key) es

abbrev pub IsNewIn : RowKey → List EntryData → Type 0
IsNewIn key es = AllByRecursion (λ k. eq_by_cmp key_cmp key k ≡ false) (keys es)

pub own_none : (es : List EntryData) → length es < 1 → HaveOwnKeys es
unfolding IsDistinct
own_none [] few = tt
own_none (e ∷ es) few = absurd (omega (arith, few))

own_cons : (e first : EntryData) (es : List EntryData) → e ≡ first → IsNewIn e.row.key es → HaveOwnKeys es → HaveOwnKeys (first ∷ es)
unfolding IsDistinct
own_cons e first es is fresh own = (subst (λ (x : EntryData). IsNewIn x.row.key es) is fresh, own)

pub own_more : (es : List EntryData) (e : EntryData) → e ≡ get_or es 0 e → 1 ≤ length es → IsNewIn e.row.key (take (length es - 1) (drop 1 es)) → HaveOwnKeys (take (length es - 1) (drop 1 es)) → HaveOwnKeys es
own_more [] e is some fresh own = absurd (omega (arith, some))
own_more (first ∷ es) e is some fresh own =
    let all : take (length (first ∷ es) - 1) es ≡ es = take_all (length (first ∷ es) - 1) es (omega arith) in
    own_cons e first es is (subst (IsNewIn e.row.key) all fresh) (subst HaveOwnKeys all own)
