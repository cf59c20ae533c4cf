-- What holds behind each put that is settled, of each version there.
use Rattle.std.proofs.Common.{◌≡◌, ℕ, ◌<◌, ◌≤◌, ◌||◌, Bool, true, false, cond, eqb, List, [], ◌∷◌, ◌++◌, Option, None, Some, refl, sym, ap, ◌∙◌, inl, inr, arith}
use Rattle.std.specs.Prelude.{⊤}
use Rattle.std.proofs.lemmas.Bool.{cases_eq, cases_lt, ne_eqb, eq-eqb, or_parts}
use Rattle.std.specs.List.{AllByRecursion, list_any}
use Rattle.std.specs.Option.{option_or}
use Rattle.mvo_types.specs.declared.ids.Stamp.{Stamp}
use Rattle.mvo_types.specs.declared.ids.TxId.{TxId}
use Rattle.mvo_chain.specs.declared.version.VersionNo.{VersionNo}
use Rattle.mvo_visible.specs.declared.seen.Seen.{Seen}
use Rattle.mvo_visible.specs.declared.seen.Seen.TheVariants.{Nothing, Settled, Speculative}
use Rattle.mvo_visible.specs.declared.change.Change.{Change}
use Rattle.mvo_visible.specs.Words.{States, seen_of}
use Rattle.mvo_visible.specs.Versions.{NumberedVersion, is_own}
use Rattle.mvo_visible.specs.Changes.{changes_by, changes_of, owner_with, put_of, removal_of, unless_removed}
use Rattle.mvo_visible.specs.Shown.{HasFallingStamps, HasOwnInFront}
use Rattle.mvo_visible.proofs.Decides.{first_with-append}

-- behind each put that is settled with the stamp s, Q s holds of each version
abbrev pub Behind : States → (ℕ → NumberedVersion → Type 0) → List NumberedVersion → Type 0
Behind states Q [] = ⊤
Behind states Q (e ∷ es) =
    ((s : Stamp) → seen_of states e.1.begin ≡ Settled s → AllByRecursion (Q s.0) es) × Behind states Q es

pub all_map : (Q R : NumberedVersion → Type 0) (es : List NumberedVersion) → ((e : NumberedVersion) → Q e → R e) → AllByRecursion Q es → AllByRecursion R es
all_map Q R [] f a = tt
all_map Q R (e ∷ es) f a = (f e a.0, all_map Q R es f a.1)

pub all_zip : (Q R : NumberedVersion → Type 0) (es : List NumberedVersion) → AllByRecursion Q es → AllByRecursion R es → AllByRecursion (λ e. Q e × R e) es
all_zip Q R [] a b = tt
all_zip Q R (e ∷ es) a b = ((a.0, b.0), all_zip Q R es a.1 b.1)

-- where no more puts are settled, and more holds
pub behind_map : (states states' : States) (Q R : ℕ → NumberedVersion → Type 0) (vs : List NumberedVersion) → ((e : NumberedVersion) (s : Stamp) → seen_of states' e.1.begin ≡ Settled s → seen_of states e.1.begin ≡ Settled s) → ((s : ℕ) (e : NumberedVersion) → Q s e → R s e) → Behind states Q vs → Behind states' R vs
behind_map states states' Q R [] puts f a = tt
behind_map states states' Q R (e ∷ es) puts f a =
    (λ s is. all_map (Q s.0) (R s.0) es (f s.0) (a.0 s (puts e s is)), behind_map states states' Q R es puts f a.1)

pub behind_zip : (states : States) (Q R : ℕ → NumberedVersion → Type 0) (vs : List NumberedVersion) → Behind states Q vs → Behind states R vs → Behind states (λ s e. Q s e × R s e) vs
behind_zip states Q R [] a b = tt
behind_zip states Q R (e ∷ es) a b =
    (λ s is. all_zip (Q s.0) (R s.0) es (a.0 s is) (b.0 s is), behind_zip states Q R es a.1 b.1)

-- ---- falling stamps, by what is seen in each word
abbrev pub IsUnder : ℕ → Seen → Type 0
IsUnder s Nothing = ⊤
IsUnder s (Settled r) = r.0 ≤ s
IsUnder s (Speculative r t) = r.0 < s

-- the changes that a version says are at most s, and those of a Preparing one below
abbrev pub AreUnder : States → ℕ → NumberedVersion → Type 0
AreUnder states s e = IsUnder s (seen_of states e.1.begin) × IsUnder s (seen_of states e.1.end)

abbrev Fits : ℕ → List Change → Type 0
Fits s cs = AllByRecursion (λ c. c.stamp.0 ≤ s) cs × (owner_with s cs ≡ None)

pub all_append : (P : Change → Type 0) (cs ds : List Change) → AllByRecursion P cs → AllByRecursion P ds → AllByRecursion P (cs ++ ds)
all_append P [] ds a b = b
all_append P (c ∷ cs) ds a b = (a.0, all_append P cs ds a.1 b)

all_parts : (P : Change → Type 0) (cs ds : List Change) → AllByRecursion P (cs ++ ds) → AllByRecursion P cs × AllByRecursion P ds
all_parts P [] ds a = (tt, a)
all_parts P (c ∷ cs) ds a = let rest = all_parts P cs ds a.1 in ((a.0, rest.0), rest.1)

none_parts : (a b : Option TxId) → option_or a b ≡ None → (a ≡ None) × (b ≡ None)
none_parts None b h = (refl, h)
none_parts (Some t) b h = cc

fits_append : (s : ℕ) (cs ds : List Change) → Fits s cs → Fits s ds → Fits s (cs ++ ds)
fits_append s cs ds a b = (
  all_append (λ c. c.stamp.0 ≤ s) cs ds a.0 b.0,
  first_with-append (λ c. c.owner) s cs ds ∙ ap (λ o. option_or o (owner_with s ds)) a.1 ∙ b.1,
)

fits_parts : (s : ℕ) (cs ds : List Change) → Fits s (cs ++ ds) → Fits s cs × Fits s ds
fits_parts s cs ds a =
    let alls = all_parts (λ c. c.stamp.0 ≤ s) cs ds a.0 in
    let nones = none_parts (owner_with s cs) (owner_with s ds) (sym (first_with-append (λ c. c.owner) s cs ds) ∙ a.1) in
    ((alls.0, nones.0), (alls.1, nones.1))

none_either : (b : Bool) (n : Option TxId) → n ≡ None → option_or (cond b n None) None ≡ None
none_either true n e = ap (λ m. option_or m None) e
none_either false n e = refl

-- a change by nobody who is Preparing, and by one who is
settled_fits : (s : ℕ) (r : Stamp) (v : Option VersionNo) → r.0 ≤ s → Fits s (record { stamp = r; version = v; owner = None } ∷ [])
settled_fits s r v h = ((h, tt), none_either (eqb r.0 s) None refl)

preparing_fits : (s : ℕ) (r : Stamp) (t : TxId) (v : Option VersionNo) → r.0 < s → Fits s (record { stamp = r; version = v; owner = Some t } ∷ [])
preparing_fits s r t v h = (
  (omega (arith, h), tt),
  ap (λ b. option_or (cond b (Some t) None) None) (ne_eqb r.0 s (λ e. omega (arith, e, h))),
)

preparing_under : (s : ℕ) (r : Stamp) (t : TxId) (v : Option VersionNo) → Fits s (record { stamp = r; version = v; owner = Some t } ∷ []) → r.0 < s
preparing_under s r t v f =
    let most : r.0 ≤ s = f.0.0 in
    elim (cases_eq r.0 s) [
      | inl e ↦ absurd (told (sym (ap (λ b. option_or (cond b (Some t) None) None) (eq-eqb r.0 s e)) ∙ f.1))
      | inr o ↦ omega (arith, most, o)
    ]
  where
    told : option_or (Some t) None ≡ None → ⊥
    told e = cc

put_fits : (s : ℕ) (n : VersionNo) (p q : Seen) → IsUnder s p → Fits s (put_of n p q)
put_fits s n Nothing q u = (tt, refl)
put_fits s n (Settled r) q u = settled_fits s r (unless_removed n r q) u
put_fits s n (Speculative r t) q u = preparing_fits s r t (unless_removed n r q) u

put_under : (s : ℕ) (n : VersionNo) (p q : Seen) → Fits s (put_of n p q) → IsUnder s p
put_under s n Nothing q f = tt
put_under s n (Settled r) q f = f.0.0
put_under s n (Speculative r t) q f = preparing_under s r t (unless_removed n r q) f

removal_fits : (s : ℕ) (q : Seen) → IsUnder s q → Fits s (removal_of q)
removal_fits s Nothing u = (tt, refl)
removal_fits s (Settled r) u = settled_fits s r None u
removal_fits s (Speculative r t) u = preparing_fits s r t None u

removal_under : (s : ℕ) (q : Seen) → Fits s (removal_of q) → IsUnder s q
removal_under s Nothing f = tt
removal_under s (Settled r) f = f.0.0
removal_under s (Speculative r t) f = preparing_under s r t None f

pub settled_behind : (states : States) (s : ℕ) (es : List NumberedVersion) → AllByRecursion (AreUnder states s) es → Fits s (changes_of states es)
settled_behind states s [] a = (tt, refl)
settled_behind states s (e ∷ es) a =
    let p = seen_of states e.1.begin in
    let q = seen_of states e.1.end in
    fits_append s (changes_by states e) (changes_of states es)
    (fits_append s (put_of e.0 p q) (removal_of q) (put_fits s e.0 p q a.0.0) (removal_fits s q a.0.1))
    (settled_behind states s es a.1)

pub all_under : (states : States) (s : ℕ) (es : List NumberedVersion) → Fits s (changes_of states es) → AllByRecursion (AreUnder states s) es
all_under states s [] f = tt
all_under states s (e ∷ es) f =
    let p = seen_of states e.1.begin in
    let q = seen_of states e.1.end in
    let parts = fits_parts s (changes_by states e) (changes_of states es) f in
    let here = fits_parts s (put_of e.0 p q) (removal_of q) parts.0 in
    ((put_under s e.0 p q here.0, removal_under s q here.1), all_under states s es parts.1)

pub from_falling : (states : States) (vs : List NumberedVersion) → HasFallingStamps states vs → Behind states (AreUnder states) vs
from_falling states [] h = tt
from_falling states (e ∷ es) h =
    (λ s is. let b = h.0 s is in all_under states s.0 es (b.below, b.settled), from_falling states es h.1)

pub to_falling : (states : States) (vs : List NumberedVersion) → Behind states (AreUnder states) vs → HasFallingStamps states vs
to_falling states [] h = tt
to_falling states (e ∷ es) h = (
  λ s is. let f = settled_behind states s.0 es (h.0 s is) in record { below = f.0; settled = f.1 },
  to_falling states es h.1,
)

-- ---- where the reader wrote nothing
pub none_own : (r : ℕ) (es : List NumberedVersion) → list_any (is_own r) es ≡ false → AllByRecursion (λ e. is_own r e ≡ false) es
none_own r [] h = tt
none_own r (e ∷ es) h = let parts = or_parts (is_own r e) (list_any (is_own r) es) h in (parts.0, none_own r es parts.1)

pub own_none : (r : ℕ) (es : List NumberedVersion) → AllByRecursion (λ e. is_own r e ≡ false) es → list_any (is_own r) es ≡ false
own_none r [] a = refl
own_none r (e ∷ es) a = ap (λ b. b || list_any (is_own r) es) a.0 ∙ own_none r es a.1

-- it didn't write the version, if the stamp is below b
abbrev pub IsOthersBelow : ℕ → ℕ → ℕ → NumberedVersion → Type 0
IsOthersBelow b r s e = s < b → is_own r e ≡ false

pub from_front : (states : States) (b r : ℕ) (vs : List NumberedVersion) → HasOwnInFront states b r vs → Behind states (IsOthersBelow b r) vs
from_front states b r [] h = tt
from_front states b r (e ∷ es) h = (λ s is. others s.0 (h.0 s is), from_front states b r es h.1)
  where
    all_of : (Q : NumberedVersion → Type 0) (es : List NumberedVersion) → ((e : NumberedVersion) → Q e) → AllByRecursion Q es
    all_of Q [] f = tt
    all_of Q (e ∷ es) f = (f e, all_of Q es f)

    others : (s : ℕ) → (s < b → list_any (is_own r) es ≡ false) → AllByRecursion (IsOthersBelow b r s) es
    others s f = elim (cases_lt s b) [
      | inl l ↦ all_map (λ e. is_own r e ≡ false) (IsOthersBelow b r s) es (λ e g _. g) (none_own r es (f l))
      | inr g ↦ all_of (IsOthersBelow b r s) es (λ e l. absurd (omega (arith, g, l)))
    ]

pub to_front : (states : States) (b r : ℕ) (vs : List NumberedVersion) → Behind states (IsOthersBelow b r) vs → HasOwnInFront states b r vs
to_front states b r [] h = tt
to_front states b r (e ∷ es) h = (
  λ s is l. own_none r es (all_map (IsOthersBelow b r s.0) (λ e. is_own r e ≡ false) es (λ e f. f l) (h.0 s is)),
  to_front states b r es h.1,
)
