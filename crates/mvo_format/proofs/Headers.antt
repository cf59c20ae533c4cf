-- What is found of a header is what the bytes begin with.
use Rattle.std.proofs.Common.{◌≡◌, ◌≢◌, ◌⊎◌, inl, inr, ℕ, ◌<◌, ◌^◌, Bool, true, false, cond, eqb, List, ◌++◌, Option, Some, None, Result, Ok, Err, eq-eqb, refl, sym, ap, subst, ◌∙◌, append_assoc, arith}
use Rattle.std.proofs.lemmas.Bool.{eqb-true}
use Rattle.mvo_types.specs.declared.refusal.Refusal.TheVariants.{Corrupt, BadVersion}
use Rattle.mvo_bytes.specs.Fields.{field}
use Rattle.mvo_bytes.specs.Reading.{◌>>=◌, number_at}
use Rattle.mvo_bytes.proofs.Fields.{IsBytes, bind_some, some_is, Takes, Takes-then, number_takes, number_again}
use Rattle.mvo_format.specs.declared.format.Format.{Format}
use Rattle.mvo_format.specs.Formats.{format_up_to, IsFormatUpTo}
use Rattle.mvo_format.specs.Found.{Found, header, IsOtherVersion, header_at, format_kept, header_kept, header_found}
use Rattle.mvo_format.proofs.Versions.{known_word, found_known, known_found}

header_takes : (bytes : List ℕ) (x : (ℕ × ℕ) × List ℕ) → IsBytes bytes → header_at bytes ≡ Some x → Takes bytes (header x.0.0 x.0.1) x.1 × (x.0.1 < 2 ^ 32)
unfolding header_at
header_takes bytes x fits e =
    let a = bind_some (number_at 4 bytes) (λ magic. number_at 4 magic.1 >>= λ version. Some ((magic.0, version.0), version.1)) x e in
    let b = bind_some (number_at 4 a.0.1) (λ version. Some ((a.0.0, version.0), version.1)) x a.2 in
    let t0 = number_takes 4 bytes a.0 fits a.1 in
    let t1 = number_takes 4 a.0.1 b.0 t0.0.rest_fits b.1 in
    let both = Takes-then bytes (field 4 a.0.0) a.0.1 (field 4 b.0.0) b.0.1 t0.0 t1.0 in
    let made : (ℕ × ℕ) × List ℕ = ((a.0.0, b.0.0), b.0.1) in
    subst (λ (y : (ℕ × ℕ) × List ℕ). Takes bytes (header y.0.0 y.0.1) y.1 × (y.0.1 < 2 ^ 32)) (some_is made x b.2) (both, omega (arith, t1.1))

header_again : (magic version : ℕ) (rest : List ℕ) → magic < 2 ^ 32 → version < 2 ^ 32 → header_at (header magic version ++ rest) ≡ Some ((magic, version), rest)
unfolding header_at
header_again magic version rest lm lv =
    ap header_at (append_assoc (field 4 magic) (field 4 version) rest) ∙ rw (number_again 4 magic (field 4 version ++ rest) (omega (arith, lm)), number_again 4 version rest (omega (arith, lv))) refl

module _ (file magic upto : ℕ) where
  -- the format in front is known, and what is behind the header is this
  pub record IsBehind (bytes : List ℕ) (f : Format) (rest : List ℕ) : Type 0 where
    pub known : IsFormatUpTo upto f
    pub takes : Takes bytes (header magic f.version) rest

  abbrev pub IsHead : List ℕ → Found (Format × List ℕ) → Type 0
  IsHead bytes (Ok x) = IsBehind bytes x.0 x.1
  IsHead bytes (Err e) = ((e ≡ BadVersion) × IsOtherVersion magic upto bytes) ⊎ (e ≡ Corrupt file)

  pub head_is : (bytes : List ℕ) → IsBytes bytes → IsHead bytes (header_found file magic upto bytes)
  unfolding header_found
  head_is bytes fits = go (header_at bytes) refl
    where
      by_version : (x : (ℕ × ℕ) × List ℕ) → header_at bytes ≡ Some x → x.0.0 ≡ magic → (o : Option Format) → format_up_to upto x.0.1 ≡ o → IsHead bytes (format_kept x.1 o)
      by_version x e m None is =
          let t = header_takes bytes x fits e in
          inl (refl, record { number = x.0.1; rest = x.1; whole = t.0.parts ∙ ap (λ k. header k x.0.1 ++ x.1) m; fits = t.1; other = is })
      by_version x e m (Some f) is =
          let t = header_takes bytes x fits e in
          let k = found_known upto x.0.1 f is in
          record { known = k.0; takes = record { parts = t.0.parts ∙ ap (λ n. header n x.0.1 ++ x.1) m ∙ ap (λ n. header magic n ++ x.1) (sym k.1); rest_fits = t.0.rest_fits } }

      by_magic : (x : (ℕ × ℕ) × List ℕ) → header_at bytes ≡ Some x → (right : Bool) → eqb x.0.0 magic ≡ right → IsHead bytes (cond right (format_kept x.1 (format_up_to upto x.0.1)) (Err (Corrupt file)))
      by_magic x e false p = inr refl
      by_magic x e true p = by_version x e (eqb-true _ _ p) (format_up_to upto x.0.1) refl

      go : (o : Option ((ℕ × ℕ) × List ℕ)) → header_at bytes ≡ o → IsHead bytes (header_kept file magic upto o)
      go None e = inr refl
      go (Some x) e = by_magic x e (eqb x.0.0 magic) refl

  module _ (fits : magic < 2 ^ 32) where
    head_of : (k : ℕ) (bytes rest : List ℕ) → k < 2 ^ 32 → bytes ≡ header magic k ++ rest → header_found file magic upto bytes ≡ format_kept rest (format_up_to upto k)
    unfolding header_found
    head_of k bytes rest lk is =
        ap (header_kept file magic upto) (ap header_at is ∙ header_again magic k rest fits lk)
        ∙ ap (λ t. cond t (format_kept rest (format_up_to upto k)) (Err (Corrupt file))) (eq-eqb magic magic refl)

    pub head_again : (bytes : List ℕ) (f : Format) (rest : List ℕ) → IsFormatUpTo upto f → bytes ≡ header magic f.version ++ rest → header_found file magic upto bytes ≡ Ok (f, rest)
    head_again bytes f rest k is = head_of f.version bytes rest (known_word upto f k) is ∙ ap (format_kept rest) (known_found upto f k)

    pub head_other : (bytes : List ℕ) → IsOtherVersion magic upto bytes → header_found file magic upto bytes ≡ Err BadVersion
    head_other bytes o = head_of o.number bytes o.rest o.fits o.whole ∙ ap (format_kept o.rest) o.other

    -- bytes have one header
    pub one_head : (bytes : List ℕ) (f g : Format) (rest more : List ℕ) → IsFormatUpTo upto f → IsFormatUpTo upto g → bytes ≡ header magic f.version ++ rest → bytes ≡ header magic g.version ++ more → (f ≡ g) × (rest ≡ more)
    one_head bytes f g rest more kf kg is js =
        let same : Ok (f, rest) ≡ Ok (g, more) = sym (head_again bytes f rest kf is) ∙ head_again bytes g more kg js in
        let pair : (f, rest) ≡ (g, more) = cc same in
        (ap (λ (x : Format × List ℕ). x.0) pair, ap (λ (x : Format × List ℕ). x.1) pair)
