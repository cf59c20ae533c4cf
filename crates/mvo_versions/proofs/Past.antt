-- A walk over the versions of a key, past those in front that tell nothing below a begin.
use Rattle.std.proofs.Common.{◌≡◌, ℕ, ◌≤◌, true, eqb, ◌||◌, List, [], ◌∷◌, ◌++◌, map, Option, None, Some, sym, ap, ◌∙◌, subst, append_assoc, inl, inr}
use Rattle.std.specs.Option.{MatchOption}
use Rattle.std.proofs.lemmas.Bool.{cases_Bool, and_parts, eqb-true, true≢false}
use Rattle.mvo_types.specs.declared.row.RowKey.{RowKey}
use Rattle.mvo_chain.specs.declared.version.Version.{Version}
use Rattle.mvo_chain.specs.declared.version.VersionNo.{VersionNo}
use Rattle.mvo_chain.specs.Slots.{Slots, version_at}
use Rattle.mvo_hash.specs.Lists.{Lists, number, numbers_of, is_among, foremost, LeadsTo}
use Rattle.mvo_hash.proofs.Passing.{plain, plain_numbers, plain_split}
use Rattle.mvo_visible.specs.declared.outcome.Shown.{Shown}
use Rattle.mvo_visible.specs.Words.{States}
use Rattle.mvo_visible.specs.Versions.{NumberedVersion, and_version, versions_by, versions_at}
use Rattle.mvo_visible.specs.Shown.{AreVersionsInOrder, shown_to}
use Rattle.mvo_visible.specs.Walked.{AreLater}
use Rattle.mvo_visible.proofs.Passed.{shown_behind}
use Rattle.mvo_visible.proofs.Walks.{versions_by-append}
use Rattle.mvo_representation.specs.Indexes.{HasNumbers}
use Rattle.mvo_versions.specs.declared.skip.Skip.{Skip}
use Rattle.mvo_versions.specs.Skips.{begin_of_ended, is_ended_from, is_later_one, leads, from_on, IsSkip, IsRest}
use Rattle.mvo_versions.proofs.Words.{at_least_lower, ended_later}
use Rattle.mvo_versions.proofs.Older.{among_split, from_split, once}

-- ---- versions that tell nothing below b
one_later : (b : ℕ) (n : VersionNo) (o : Option Version) (vs : List NumberedVersion) → is_later_one b o ≡ true → AreLater b vs → AreLater b (and_version n o vs)
one_later b n None vs l ls = ls
one_later b n (Some v) vs l ls = (l, ls)

pub later_cons : (b : ℕ) (slots : Slots) (n : VersionNo) (ns : List VersionNo) → is_later_one b (version_at slots n) ≡ true → AreLater b (versions_by slots ns) → AreLater b (versions_by slots (n ∷ ns))
later_cons b slots n ns l ls = one_later b n (version_at slots n) (versions_by slots ns) l ls

later_both : (b : ℕ) (vs ws : List NumberedVersion) → AreLater b vs → AreLater b ws → AreLater b (vs ++ ws)
later_both b [] ws l k = k
later_both b (v ∷ vs) ws l k = (l.0, later_both b vs ws l.1 k)

pub later_append : (b : ℕ) (slots : Slots) (ms ns : List VersionNo) → AreLater b (versions_by slots ms) → AreLater b (versions_by slots ns) → AreLater b (versions_by slots (ms ++ ns))
later_append b slots ms ns l k = subst (AreLater b) (sym (versions_by-append slots ms ns)) (later_both b (versions_by slots ms) (versions_by slots ns) l k)

-- ---- the walk
pub past_none : (b : ℕ) (slots : Slots) (all walk : List VersionNo) → walk ≡ all → IsRest b slots all walk
past_none b slots all walk e = record { front = []; split = sym e; later = tt }

-- past one more
pub past_one : (b : ℕ) (slots : Slots) (all walk rest : List VersionNo) (n : VersionNo) → walk ≡ n ∷ rest → is_later_one b (version_at slots n) ≡ true → IsRest b slots all walk → IsRest b slots all rest
past_one b slots all walk rest n e l p = record {
  front = p.front ++ n ∷ [];
  split = p.split ∙ ap (λ ns. p.front ++ ns) e ∙ sym (append_assoc p.front (n ∷ []) rest);
  later = later_append b slots p.front (n ∷ []) p.later (later_cons b slots n [] l tt);
}

-- what a skip goes past
record GoesPast (b : ℕ) (slots : Slots) (to : ℕ) (ns : List VersionNo) : Type 0 where
  pub mid : List VersionNo
  pub rest : List VersionNo
  pub split : ns ≡ mid ++ number to ∷ rest
  pub later : AreLater b (versions_by slots mid)

goes_past : (b c to : ℕ) (slots : Slots) → b ≤ c → (ns : List VersionNo) → leads slots c to (plain ns) ≡ true → GoesPast b slots to ns
goes_past b c to slots le [] h = absurd (true≢false (sym h))
goes_past b c to slots le (n ∷ ns) h =
    let parts = and_parts (is_ended_from slots c n.0) (eqb n.0 to || leads slots c to (plain ns)) h in
    elim (cases_Bool (eqb n.0 to)) [
      | inl t ↦ record { mid = []; rest = ns; split = ap (λ m. number m ∷ ns) (eqb-true n.0 to t); later = tt }
      | inr f ↦
          let it = goes_past b c to slots le ns (sym (ap (λ x. x || leads slots c to (plain ns)) f) ∙ parts.1) in
          record {
            mid = n ∷ it.mid;
            rest = it.rest;
            split = ap (λ ms. n ∷ ms) it.split;
            later = later_cons b slots n it.mid (ended_later b (version_at slots n) (at_least_lower b c (begin_of_ended (version_at slots n)) le parts.0)) it.later;
          }
    ]

-- the skip that begins where the walk stands, as the walk has it
skip_ahead : (slots : Slots) (lists : Lists) (key : RowKey) (walk rest : List VersionNo) (n : VersionNo) (r : Skip) (b : ℕ) → HasNumbers slots lists → IsSkip slots lists n.0 r → walk ≡ n ∷ rest → IsRest b slots (map number (numbers_of lists key)) walk → leads slots r.least.0 r.to.0 (plain walk) ≡ true
skip_ahead slots lists key walk rest n r b h skip e p =
    let split : numbers_of lists key ≡ plain p.front ++ n.0 ∷ plain rest = sym (plain_numbers (numbers_of lists key)) ∙ ap plain (p.split ∙ ap (λ ns. p.front ++ ns) e) ∙ plain_split p.front n rest in
    ap (λ ns. leads slots r.least.0 r.to.0 (plain ns)) e
    ∙ ap (leads slots r.least.0 r.to.0) (sym (ap (from_on n.0) split ∙ from_split n.0 (plain p.front) (plain rest) (subst (λ ns. Rattle.mvo_theory.specs.Sound.how_many (λ i. Rattle.std.specs.Prelude.◌==◌ i n.0) ns ≤ 1) split (once slots lists h key n.0))))
    ∙ skip.at key (ap (is_among n.0) split ∙ among_split n.0 (plain p.front) (plain rest))

-- past a skip
pub record Passes (b : ℕ) (slots : Slots) (all walk : List VersionNo) (to : VersionNo) : Type 0 where
  pub rest : List VersionNo
  pub leads : LeadsTo walk to rest
  pub past : IsRest b slots all (to ∷ rest)

pub past_skip : (slots : Slots) (lists : Lists) (key : RowKey) (walk rest : List VersionNo) (n : VersionNo) (r : Skip) (b : ℕ) → HasNumbers slots lists → IsSkip slots lists n.0 r → walk ≡ n ∷ rest → b ≤ r.least.0 → IsRest b slots (map number (numbers_of lists key)) walk → Passes b slots (map number (numbers_of lists key)) walk r.to
past_skip slots lists key walk rest n r b h skip e le p =
    let it = goes_past b r.least.0 r.to.0 slots le walk (skip_ahead slots lists key walk rest n r b h skip e p) in
    record {
      rest = it.rest;
      leads = (it.mid, it.split);
      past = record {
        front = p.front ++ it.mid;
        split = p.split ∙ ap (λ ns. p.front ++ ns) it.split ∙ sym (append_assoc p.front it.mid (r.to ∷ it.rest));
        later = later_append b slots p.front it.mid p.later it.later;
      };
    }

-- what comes first is in front of the rest
pub first_and_rest : (walk : List VersionNo) (n : VersionNo) → foremost walk ≡ Some n → (rest : List VersionNo) × (walk ≡ n ∷ rest)
first_and_rest [] n e = cc
first_and_rest (m ∷ ms) n e = let q : m ≡ n = cc in (ms, ap (λ i. i ∷ ms) q)

-- and the next one asked for leaves the rest
pub next_is : (walk left : List VersionNo) (r : Option VersionNo) (n : VersionNo) (rest : List VersionNo) → walk ≡ n ∷ rest → MatchOption r ((walk ≡ []) × (left ≡ [])) (λ x. walk ≡ x ∷ left) → walk ≡ n ∷ left
next_is walk left None n rest e q = let none : walk ≡ [] = q.0 in cc
next_is walk left (Some x) n rest e q = cc

-- what is shown of the versions that are still to come is shown of all
pub shown_past : (states : States) (r : ℕ) (slots : Slots) (lists : Lists) (key : RowKey) (walk : List VersionNo) (shown : Shown) → IsRest r slots (map number (numbers_of lists key)) walk → (AreVersionsInOrder states r r (versions_by slots walk) → shown ≡ shown_to states r r (versions_by slots walk)) → AreVersionsInOrder states r r (versions_at slots lists key) → shown ≡ shown_to states r r (versions_at slots lists key)
shown_past states r slots lists key walk shown p is =
    subst (λ vs. AreVersionsInOrder states r r vs → shown ≡ shown_to states r r vs)
    (sym (ap (versions_by slots) p.split ∙ versions_by-append slots p.front walk))
    (shown_behind states r r (versions_by slots p.front) (versions_by slots walk) shown p.later is)
