-- For callers that go from the newest number of a key to ever older ones: each is among the key's.
use Rattle.std.proofs.Common.{◌≡◌, ℕ, eqb, inl, inr, List, [], ◌∷◌, true, Some, sym, ◌∙◌}
use Rattle.std.proofs.lemmas.Bool.{cond-true, cond-false, cases_Bool, eq-eqb, or_left, or_right}
use Rattle.mvo_hash.specs.Lists.{newest_of, older_of, is_among}

pub newest_among : (ns : List ℕ) (n : ℕ) → newest_of ns ≡ Some n → is_among n ns ≡ true
newest_among [] n e = cc
newest_among (m ∷ ns) n e = or_left (eqb n m) (is_among n ns) (eq-eqb n m (cc))

pub older_among : (m : ℕ) (ns : List ℕ) (n : ℕ) → older_of m ns ≡ Some n → is_among n ns ≡ true
older_among m [] n e = cc
older_among m (k ∷ ns) n e =
    elim (cases_Bool (eqb m k)) [
      | inl t ↦ or_right (eqb n k) (is_among n ns) (newest_among ns n (sym (cond-true (eqb m k) (newest_of ns) (older_of m ns) t) ∙ e))
      | inr f ↦ or_right (eqb n k) (is_among n ns) (older_among m ns n (sym (cond-false (eqb m k) (newest_of ns) (older_of m ns) f) ∙ e))
    ]
