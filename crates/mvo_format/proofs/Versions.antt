-- What is known of versions.
use Rattle.std.proofs.Common.{◌≡◌, ◌⊎◌, inl, inr, ℕ, ◌<◌, ◌≤◌, ◌^◌, Bool, true, false, cond, eqb, leb, Option, Some, None, eq-eqb, refl, sym, ap, subst, ◌∙◌, arith}
use Rattle.std.specs.Prelude.{◌||◌}
use Rattle.std.proofs.lemmas.Bool.{eqb-true, leb-true, le-leb}
use Rattle.mvo_format.specs.declared.format.Format.{Format}
use Rattle.mvo_format.specs.declared.format.TheConstants.{FIRST_FORMAT, LAST_FORMAT}
use Rattle.mvo_format.specs.Formats.{format_of, format_up_to, IsFormatUpTo, IsVersion, is_version, AllowsNoMore, KnownLater, LaterAllows}

first_is : format_of FIRST_FORMAT.version ≡ Some FIRST_FORMAT
unfolding format_of
first_is = refl

last_is : format_of LAST_FORMAT.version ≡ Some LAST_FORMAT
unfolding format_of
last_is = refl

-- one of the two, by a value of each
by_format : (P : Format → Type 0) → P FIRST_FORMAT → P LAST_FORMAT → (version : ℕ) (f : Format) → format_of version ≡ Some f → P f
unfolding format_of
by_format P first last version f e = go (eqb version FIRST_FORMAT.version) e
  where
    last_or : (t : Bool) → cond t (Some LAST_FORMAT) None ≡ Some f → P f
    last_or true e = subst P (cc e) last
    last_or false e = absurd (cc e)

    go : (t : Bool) → cond t (Some FIRST_FORMAT) (cond (eqb version LAST_FORMAT.version) (Some LAST_FORMAT) None) ≡ Some f → P f
    go true e = subst P (cc e) first
    go false e = last_or (eqb version LAST_FORMAT.version) e

-- the format of a version has its number
version_of : (version : ℕ) (f : Format) → format_of version ≡ Some f → f.version ≡ version
unfolding format_of
version_of version f e = go (eqb version FIRST_FORMAT.version) refl e
  where
    last_or : (t : Bool) → eqb version LAST_FORMAT.version ≡ t → cond t (Some LAST_FORMAT) None ≡ Some f → f.version ≡ version
    last_or true is e = let same : LAST_FORMAT ≡ f = cc e in sym (ap (λ (g : Format). g.version) same) ∙ sym (eqb-true _ _ is)
    last_or false is e = absurd (cc e)

    go : (t : Bool) → eqb version FIRST_FORMAT.version ≡ t → cond t (Some FIRST_FORMAT) (cond (eqb version LAST_FORMAT.version) (Some LAST_FORMAT) None) ≡ Some f → f.version ≡ version
    go true is e = let same : FIRST_FORMAT ≡ f = cc e in sym (ap (λ (g : Format). g.version) same) ∙ sym (eqb-true _ _ is)
    go false is e = last_or (eqb version LAST_FORMAT.version) refl e

pub known_word : (upto : ℕ) (f : Format) → IsFormatUpTo upto f → f.version < 2 ^ 32
known_word upto f k = by_format (λ g. g.version < 2 ^ 32) (omega arith) (omega arith) f.version f k.is

-- what is found up to a version is known
pub found_known : (upto version : ℕ) (f : Format) → format_up_to upto version ≡ Some f → IsFormatUpTo upto f × (f.version ≡ version)
unfolding format_up_to
found_known upto version f e = go (leb version upto) refl e
  where
    go : (t : Bool) → leb version upto ≡ t → cond t (format_of version) None ≡ Some f → IsFormatUpTo upto f × (f.version ≡ version)
    go true is e =
        let same = version_of version f e in
        (record { is = ap format_of same ∙ e; within = omega (arith, same, leb-true version upto is) }, same)
    go false is e = absurd (cc e)

-- what is known is found
pub known_found : (upto : ℕ) (f : Format) → IsFormatUpTo upto f → format_up_to upto f.version ≡ Some f
unfolding format_up_to
known_found upto f k = ap (λ t. cond t (format_of f.version) None) (le-leb _ _ k.within) ∙ k.is

-- ---- versions

pub version_is : (version : ℕ) → is_version version ≡ true → IsVersion version
unfolding is_version
version_is version e = go (eqb version FIRST_FORMAT.version) refl e
  where
    go : (t : Bool) → eqb version FIRST_FORMAT.version ≡ t → (t || eqb version LAST_FORMAT.version) ≡ true → IsVersion version
    go true is f = inl (eqb-true _ _ is)
    go false is f = inr (eqb-true _ _ f)

pub version_passes : (version : ℕ) → IsVersion version → is_version version ≡ true
unfolding is_version
version_passes version (inl is) = ap (λ t. t || eqb version LAST_FORMAT.version) (eq-eqb _ _ is)
version_passes version (inr is) = go (eqb version FIRST_FORMAT.version)
  where
    go : (t : Bool) → (t || eqb version LAST_FORMAT.version) ≡ true
    go true = refl
    go false = eq-eqb _ _ is

-- a version that files may have is that of a format
pub format_found : (version : ℕ) → IsVersion version → (f : Format) × IsFormatUpTo version f × (f.version ≡ version)
format_found version (inl is) = (FIRST_FORMAT, record { is = first_is; within = omega (arith, is) }, sym is)
format_found version (inr is) = (LAST_FORMAT, record { is = last_is; within = omega (arith, is) }, sym is)

-- and the other way round
pub has_version : (upto : ℕ) (f : Format) → IsFormatUpTo upto f → IsVersion f.version
has_version upto f k = by_format (λ g. IsVersion g.version) (inl refl) (inr refl) f.version f k.is

-- the first format alone is known up to its version
pub only_first : (f : Format) → IsFormatUpTo FIRST_FORMAT.version f → f ≡ FIRST_FORMAT
only_first f k = by_format (λ g. g.version ≤ FIRST_FORMAT.version → g ≡ FIRST_FORMAT) (λ le. refl) (λ le. absurd (omega (arith, le))) f.version f k.is k.within

pub first_known : IsFormatUpTo FIRST_FORMAT.version FIRST_FORMAT
first_known = record { is = first_is; within = omega arith }

-- ---- the laws

pub known_later : KnownLater
known_later v w f le k = record { is = k.is; within = omega (arith, le, k.within) }

later_of_first : (w : ℕ) (g : Format) → IsFormatUpTo w g → AllowsNoMore FIRST_FORMAT g
later_of_first w g k = by_format (λ g. AllowsNoMore FIRST_FORMAT g) (record { table = omega arith; size = omega arith }) (record { table = omega arith; size = omega arith }) g.version g k.is

later_of_last : (w : ℕ) (g : Format) → IsFormatUpTo w g → 2 ≤ g.version → AllowsNoMore LAST_FORMAT g
later_of_last w g k le = by_format (λ g. 2 ≤ g.version → AllowsNoMore LAST_FORMAT g) (λ bad. absurd (omega (arith, bad))) (λ _. record { table = omega arith; size = omega arith }) g.version g k.is le

pub later_allows : LaterAllows
later_allows v w f g kf kg le = by_format (λ f. f.version ≤ g.version → AllowsNoMore f g) (λ _. later_of_first w g kg) (λ le. later_of_last w g kg (omega (arith, le))) f.version f kf.is le
