-- Stamps between a begin and an end, over more versions, and where none is left.
use Rattle.std.proofs.Common.{◌≡◌, ℕ, ◌+◌, ◌≤◌, Bool, true, false, cond, ltb, List, [], ◌∷◌, ◌++◌, Option, None, Some, refl, sym, ap, ◌∙◌, append-nil, filter, arith}
use Rattle.std.proofs.lemmas.Bool.{cond-false, le-ltb, leb-true, ltb-true}
use Rattle.std.proofs.lemmas.List.Elements.{filter-append}
use Rattle.std.specs.List.{AllByRecursion}
use Rattle.mvo_types.specs.declared.ids.Stamp.{Stamp}
use Rattle.mvo_visible.specs.declared.change.Change.{Change}
use Rattle.mvo_visible.specs.declared.seen.Seen.{Seen}
use Rattle.mvo_visible.specs.declared.seen.Seen.TheVariants.{Nothing, Settled, Speculative}
use Rattle.mvo_visible.specs.Words.{States, seen_of}
use Rattle.mvo_visible.specs.Versions.{NumberedVersion}
use Rattle.mvo_visible.specs.Changes.{changes_by, changes_of, greater, greatest, greatest_below}
use Rattle.mvo_visible.proofs.Decides.{greatest_below-append}
use Rattle.mvo_visible.proofs.Walks.{changes_one, changes-append, IsFallingAt}
use Rattle.mvo_visible.proofs.Behind.{all_append}
use Rattle.mvo_validate.specs.Between.{is_above, stamp_between, is_before}

pub stamp_between-append : (b e : ℕ) (cs ds : List Change) → stamp_between b e (cs ++ ds) ≡ greatest (stamp_between b e cs) (stamp_between b e ds)
stamp_between-append b e cs ds = ap (greatest_below e) (filter-append (is_above b) cs ds) ∙ greatest_below-append e (filter (is_above b) cs) (filter (is_above b) ds)

pub greatest-none : (x : Option ℕ) → greatest x None ≡ x
greatest-none None = refl
greatest-none (Some s) = refl

-- the stamps that versions say
abbrev pub seen_between : States → ℕ → ℕ → List NumberedVersion → Option ℕ
seen_between states b e vs = stamp_between b e (changes_of states vs)

pub seen_between-append : (states : States) (b e : ℕ) (xs ys : List NumberedVersion) → seen_between states b e (xs ++ ys) ≡ greatest (seen_between states b e xs) (seen_between states b e ys)
seen_between-append states b e xs ys =
    ap (stamp_between b e) (changes-append states xs ys) ∙ stamp_between-append b e (changes_of states xs) (changes_of states ys)

-- one version more, if it passes
pub more : (states : States) (b e : ℕ) (p : NumberedVersion → Bool) (xs : List NumberedVersion) (v : NumberedVersion) → seen_between states b e (filter p (xs ++ v ∷ [])) ≡ cond (p v) (greatest (seen_between states b e (filter p xs)) (stamp_between b e (changes_by states v))) (seen_between states b e (filter p xs))
more states b e p xs v = ap (seen_between states b e) (filter-append p xs (v ∷ [])) ∙ go (p v)
  where
    go : (c : Bool) → seen_between states b e (filter p xs ++ cond c (v ∷ []) []) ≡ cond c (greatest (seen_between states b e (filter p xs)) (stamp_between b e (changes_by states v))) (seen_between states b e (filter p xs))
    go true =
        seen_between-append states b e (filter p xs) (v ∷ [])
        ∙ ap (λ cs. greatest (seen_between states b e (filter p xs)) (stamp_between b e cs)) (changes_one states v)
    go false = ap (seen_between states b e) (append-nil (filter p xs))

-- ---- stamps of at most the begin are none
all_first : (P : Change → Type 0) (cs ds : List Change) → AllByRecursion P (cs ++ ds) → AllByRecursion P cs
all_first P [] ds h = tt
all_first P (c ∷ cs) ds h = (h.0, all_first P cs ds h.1)

all_second : (P : Change → Type 0) (cs ds : List Change) → AllByRecursion P (cs ++ ds) → AllByRecursion P ds
all_second P [] ds h = h
all_second P (c ∷ cs) ds h = all_second P cs ds h.1

all_filtered : (P : Change → Type 0) (states : States) (p : NumberedVersion → Bool) (vs : List NumberedVersion) → AllByRecursion P (changes_of states vs) → AllByRecursion P (changes_of states (filter p vs))
all_filtered P states p [] h = tt
all_filtered P states p (v ∷ vs) h =
    let rest = all_filtered P states p vs (all_second P (changes_by states v) (changes_of states vs) h) in
    elim (p v) as (λ b. AllByRecursion P (changes_of states (cond b (v ∷ filter p vs) (filter p vs)))) [
      | true ↦ all_append P (changes_by states v) (changes_of states (filter p vs)) (all_first P (changes_by states v) (changes_of states vs) h) rest
      | false ↦ rest
    ]

none_above : (b s : ℕ) (cs : List Change) → s ≤ b → AllByRecursion (λ c. c.stamp.0 ≤ s) cs → filter (is_above b) cs ≡ []
none_above b s [] most h = refl
none_above b s (c ∷ cs) most h =
    let low : c.stamp.0 ≤ s = h.0 in
    cond-false (ltb b c.stamp.0) (c ∷ filter (is_above b) cs) (filter (is_above b) cs) (le-ltb b c.stamp.0 (omega (arith, low, most)))
    ∙ none_above b s cs most h.1

record IsSettledBefore (states : States) (b : ℕ) (e : NumberedVersion) : Type 0 where
  pub stamp : Stamp
  pub put : seen_of states e.1.begin ≡ Settled stamp
  pub most : stamp.0 ≤ b

-- behind a put that is settled with a stamp of at most the begin there are none
pub none_behind : (states : States) (b e : ℕ) (p : NumberedVersion → Bool) (v : NumberedVersion) (rest : List NumberedVersion) → is_before b (seen_of states v.1.begin) ≡ true → IsFallingAt states v rest → seen_between states b e (filter p rest) ≡ None
none_behind states b e p v rest h falling =
    let s = settled (seen_of states v.1.begin) refl h in
    ap (greatest_below e) (none_above b s.stamp.0 (changes_of states (filter p rest)) s.most (all_filtered (λ c. c.stamp.0 ≤ s.stamp.0) states p rest (falling s.stamp s.put).below))
  where
    settled : (put : Seen) → seen_of states v.1.begin ≡ put → is_before b put ≡ true → IsSettledBefore states b v
    settled Nothing is q = cc
    settled (Settled s) is q = record { stamp = s; put = is; most = leb-true s.0 b q }
    settled (Speculative s t) is q = cc

-- so what comes behind adds nothing
pub no_more : (states : States) (b e : ℕ) (p : NumberedVersion → Bool) (xs : List NumberedVersion) (v : NumberedVersion) (rest : List NumberedVersion) → is_before b (seen_of states v.1.begin) ≡ true → IsFallingAt states v rest → seen_between states b e (filter p (xs ++ v ∷ [])) ≡ seen_between states b e (filter p ((xs ++ v ∷ []) ++ rest))
no_more states b e p xs v rest h falling =
    sym (ap (seen_between states b e) (filter-append p (xs ++ v ∷ []) rest)
    ∙ seen_between-append states b e (filter p (xs ++ v ∷ [])) (filter p rest)
    ∙ ap (greatest (seen_between states b e (filter p (xs ++ v ∷ [])))) (none_behind states b e p v rest h falling)
    ∙ greatest-none (seen_between states b e (filter p (xs ++ v ∷ []))))

-- no stamp is above a begin and below the next
none_nearer : (b e : ℕ) (c : Change) (rest : List Change) → e ≤ b + 1 → greatest_below e rest ≡ None → (t : Bool) → ltb b c.stamp.0 ≡ t → greatest_below e (cond t (c ∷ rest) rest) ≡ None
none_nearer b e c rest h none true is =
    let above = ltb-true b c.stamp.0 is in
    cond-false (ltb c.stamp.0 e) (Some (greater c.stamp.0 (greatest_below e rest))) (greatest_below e rest) (le-ltb c.stamp.0 e (omega (arith, above, h)))
    ∙ none
none_nearer b e c rest h none false is = none

pub none_next : (b e : ℕ) (cs : List Change) → e ≤ b + 1 → stamp_between b e cs ≡ None
none_next b e [] h = refl
none_next b e (c ∷ cs) h = none_nearer b e c (filter (is_above b) cs) h (none_next b e cs h) (ltb b c.stamp.0) refl
