-- The changes of a key by others, and the one that decides below a timestamp.
use Rattle.std.specs.Prelude.{ℕ, max, ◌==◌, nat_lt, Bool, false, cond, List, [], ◌∷◌, ◌++◌, Option, None, Some}
use Rattle.std.specs.List.{flat_map}
use Rattle.std.specs.Option.{option_map, option_or}
use Rattle.mvo_types.specs.declared.ids.TxId.{TxId}
use Rattle.mvo_types.specs.declared.ids.Stamp.{Stamp}
use Rattle.mvo_chain.specs.declared.version.VersionNo.{VersionNo}
use Rattle.mvo_visible.specs.declared.seen.Seen.{Seen}
use Rattle.mvo_visible.specs.declared.seen.Seen.TheVariants.{Nothing, Settled, Speculative}
use Rattle.mvo_visible.specs.declared.change.Change.{Change}
use Rattle.mvo_visible.specs.Words.{States, seen_of}
use Rattle.mvo_visible.specs.Versions.{NumberedVersion}

-- whether this is seen with the stamp s
abbrev pub is_at : ℕ → Seen → Bool
is_at s Nothing = false
is_at s (Settled e) = e.0 == s
is_at s (Speculative e t) = e.0 == s

-- the version that is put with a stamp, unless it is removed with the same
abbrev pub unless_removed : VersionNo → Stamp → Seen → Option VersionNo
unless_removed n s end' = cond (is_at s.0 end') None (Some n)

-- the put of a version is a change
abbrev pub put_of : VersionNo → Seen → Seen → List Change
put_of n Nothing end' = []
put_of n (Settled s) end' =
    record { stamp = s; version = unless_removed n s end'; owner = None } ∷ []
put_of n (Speculative s t) end' =
    record { stamp = s; version = unless_removed n s end'; owner = Some t } ∷ []

-- so is its removal
abbrev pub removal_of : Seen → List Change
removal_of Nothing = []
removal_of (Settled s) = record { stamp = s; version = None; owner = None } ∷ []
removal_of (Speculative s t) = record { stamp = s; version = None; owner = Some t } ∷ []

abbrev pub changes_by : States → NumberedVersion → List Change
changes_by states e =
    put_of e.0 (seen_of states e.1.begin) (seen_of states e.1.end)
    ++ removal_of (seen_of states e.1.end)

-- all changes that versions say
abbrev pub changes_of : States → List NumberedVersion → List Change
changes_of states vs = flat_map (changes_by states) vs

-- ---- the deciding one
abbrev pub greater : ℕ → Option ℕ → ℕ
greater s None = s
greater s (Some r) = max s r

-- the greater of two, if they are there
abbrev pub greatest : Option ℕ → Option ℕ → Option ℕ
greatest None y = y
greatest (Some s) y = Some (greater s y)

-- the greatest stamp below b
abbrev pub greatest_below : ℕ → List Change → Option ℕ
greatest_below b [] = None
greatest_below b (c ∷ cs) =
    cond (nat_lt c.stamp.0 b) (Some (greater c.stamp.0 (greatest_below b cs))) (greatest_below b cs)

-- what the first of the changes with the stamp tells, of those that tell something
abbrev pub first_with : {A : Type 0} → (Change → Option A) → ℕ → List Change → Option A
first_with f s [] = None
first_with f s (c ∷ cs) = option_or (cond (c.stamp.0 == s) (f c) None) (first_with f s cs)

-- the version that is put with the stamp
abbrev pub version_with : ℕ → List Change → Option VersionNo
version_with s cs = first_with (λ c. c.version) s cs

-- the Preparing transaction whose end the stamp is
abbrev pub owner_with : ℕ → List Change → Option TxId
owner_with s cs = first_with (λ c. c.owner) s cs

-- what was done with the stamp
abbrev pub done_with : List Change → ℕ → Change
done_with cs s =
    record { stamp = record { 0 = s }; version = version_with s cs; owner = owner_with s cs }

-- what was done with the greatest stamp below b
abbrev pub deciding : ℕ → List Change → Option Change
deciding b cs = option_map (done_with cs) (greatest_below b cs)

-- ---- as a walk finds it: the later of two, or both where they have one stamp
abbrev pub both : Change → Change → Change
both a c = record {
  stamp = a.stamp;
  version = option_or a.version c.version;
  owner = option_or a.owner c.owner;
}

abbrev pub later_of : Change → Change → Change
later_of a c =
    cond (a.stamp.0 == c.stamp.0) (both a c) (cond (nat_lt a.stamp.0 c.stamp.0) c a)

abbrev pub later_change : Option Change → Option Change → Option Change
later_change None c = c
later_change (Some a) None = Some a
later_change (Some a) (Some c) = Some (later_of a c)
