-- Versions whose words both are timestamps.
use Rattle.std.proofs.Common.{◌≡◌, ℕ, ◌≤◌, Bool, true, false, ◌&&◌, Option, None, Some, refl, sym, ap, ◌∙◌, arith, inl, inr}
use Rattle.std.specs.Prelude.{nat_le}
use Rattle.std.proofs.lemmas.Bool.{cases_Bool, cond-true, cond-false, leb-true, le-leb, true≢false}
use Rattle.mvo_types.specs.declared.ids.Stamp.{Stamp}
use Rattle.mvo_word.specs.declared.held.Held.{Held}
use Rattle.mvo_word.specs.declared.held.Held.TheVariants.{At, By, Infinity}
use Rattle.mvo_chain.specs.declared.version.Version.{Version}
use Rattle.mvo_chain.specs.Slots.{Slots, version_at}
use Rattle.mvo_hash.specs.Lists.{number}
use Rattle.mvo_visible.specs.Walked.{is_from}
use Rattle.mvo_versions.specs.Skips.{begin_of, begin_of_ended, is_at_least, is_ended_from, is_later_one}

both : (x y : Bool) → x ≡ true → y ≡ true → (x && y) ≡ true
both x y p q = ap (λ b. b && y) p ∙ q

-- such a version tells nothing below its begin
words_later : (b : ℕ) (begin end' : Held) → is_at_least b (begin_of begin end') ≡ true → (is_from b begin && is_from b end') ≡ true
words_later b (At s) (At e) h =
    elim (cases_Bool (nat_le s.0 e.0)) [
      | inl t ↦
          let low : nat_le b s.0 ≡ true = sym (ap (is_at_least b) (cond-true (nat_le s.0 e.0) (Some s) None t)) ∙ h in
          let p : b ≤ s.0 = leb-true b s.0 low in
          let q : s.0 ≤ e.0 = leb-true s.0 e.0 t in
          both (nat_le b s.0) (nat_le b e.0) low (le-leb b e.0 (omega (arith, p, q)))
      | inr f ↦ absurd (true≢false (sym h ∙ ap (is_at_least b) (cond-false (nat_le s.0 e.0) (Some s) None f)))
    ]
words_later b (At s) (By t) h = absurd (true≢false (sym h))
words_later b (At s) Infinity h = absurd (true≢false (sym h))
words_later b (By t) end' h = absurd (true≢false (sym h))
words_later b Infinity end' h = absurd (true≢false (sym h))

pub ended_later : (b : ℕ) (o : Option Version) → is_at_least b (begin_of_ended o) ≡ true → is_later_one b o ≡ true
ended_later b None h = absurd (true≢false (sym h))
ended_later b (Some v) h = words_later b v.begin v.end h

-- it began at each lesser stamp or later, too
pub at_least_lower : (b c : ℕ) (o : Option Stamp) → b ≤ c → is_at_least c o ≡ true → is_at_least b o ≡ true
at_least_lower b c None le h = h
at_least_lower b c (Some s) le h = let p : c ≤ s.0 = leb-true c s.0 h in le-leb b s.0 (omega (arith, le, p))

pub began_at : (b : ℕ) (s : Stamp) (o : Option Stamp) → o ≡ Some s → b ≤ s.0 → is_at_least b o ≡ true
began_at b s o e le = ap (is_at_least b) e ∙ le-leb b s.0 le

pub not_ended : (slots : Slots) (b n : ℕ) → begin_of_ended (version_at slots (number n)) ≡ None → is_ended_from slots b n ≡ false
not_ended slots b n e = ap (is_at_least b) e

-- what has begun is there
pub there_if_ended : (o : Option Version) (s : Stamp) → begin_of_ended o ≡ Some s → (v : Version) × (o ≡ Some v)
there_if_ended None s e = cc
there_if_ended (Some v) s e = (v, refl)
