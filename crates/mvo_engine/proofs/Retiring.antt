-- A session is given back, or not.
use Rattle.std.proofs.Common.{◌≡◌, ℕ, ◌+◌, ◌≤◌, ◌<◌, Bool, true, false, [], Option, None, Some, is_some, leb, refl, sym, ap, ◌∙◌, subst, arith}
use Rattle.std.specs.Prelude.{IsTrue}
use Rattle.std.proofs.lemmas.Bool.{leb-true, leb-false}
use Rattle.mvo_engine.specs.run.Opening.{Opening}
use Rattle.mvo_engine.specs.Forgetting.{above_start, HasForgottenAll}
use Rattle.mvo_engine.specs.Retiring.{HasRetired, IsNotRetired}
use Rattle.mvo_engine.specs.Retiring.IsNotRetired.{InTx, WithReceipts}
use Rattle.mvo_engine.specs.Sound.{IsSoundCore}
use Rattle.mvo_engine.specs.States.{CoreState, SessionState}

pub in_tx : {o : Opening} (s : SessionState) (x : Option ℕ) → s.tx ≡ x → is_some x ≡ true → IsNotRetired o s s
in_tx s None is some = absurd (apart some)
  where
    apart : false ≡ true → ⊥
    apart p = cc
in_tx s (Some t) is some = InTx t is refl

no_tx : (x : Option ℕ) → is_some x ≡ false → x ≡ None
no_tx None none = refl
no_tx (Some t) none = absurd (apart none)
  where
    apart : true ≡ false → ⊥
    apart p = cc

not_le : (a b : ℕ) → (a ≤ b → ⊥) → b < a
not_le a b f = go (leb a b) refl
  where
    go : (x : Bool) → leb a b ≡ x → b < a
    go true e = absurd (f (leb-true a b e))
    go false e = leb-false a b e

not_true : (b : Bool) → b ≡ false → IsTrue b → ⊥
not_true true wrong right = absurd cc
not_true false wrong right = absurd cc

pub with_receipts : {o : Opening} (s left : SessionState) (seen : CoreState) (start : ℕ) (taken : Bool) → IsSoundCore o seen.core seen.sends.sent → start ≡ seen.core.start → (n : ℕ) × HasForgottenAll start s n left → (left.receipts ≡ [] → left.forgotten ≤ start → IsTrue taken) → taken ≡ false → IsNotRetired o s left
with_receipts s left seen start taken sound is h would wrong =
    let last = ap (λ (x : SessionState). x.forgotten) h.1.session in
    WithReceipts start h.0 (record { core = seen; sound = sound; is = sym is }) h.1 (λ none. let above = not_le left.forgotten start (λ le. not_true taken wrong (would none le)) in omega (arith, above, last))

pub retired_so : {o : Opening} (s left : SessionState) (seen old new : CoreState) (start : ℕ) → is_some s.tx ≡ false → IsSoundCore o seen.core seen.sends.sent → start ≡ seen.core.start → seen ≡ old → (n : ℕ) × HasForgottenAll start s n left → left.receipts ≡ [] → new.made + 1 ≡ old.made → new ≡ record old { made = new.made } → HasRetired o s
retired_so {o} s left seen old new start out sound is same h none fewer rest =
    let gone : above_start start s.receipts ≡ [] = sym (ap (λ (x : SessionState). x.receipts) h.1.session) ∙ none in
    record {
      no_tx = no_tx s.tx out;
      old = old;
      new = new;
      sound = subst (λ (c : CoreState). IsSoundCore o c.core c.sends.sent) same sound;
      no_receipts = subst (λ (k : ℕ). above_start k s.receipts ≡ []) (is ∙ ap (λ (c : CoreState). c.core.start) same) gone;
      fewer = fewer;
      rest = rest;
    }
