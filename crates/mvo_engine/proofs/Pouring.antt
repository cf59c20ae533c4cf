-- Receipts are poured, those of the last session first, and what sessions have seen is confirmed.
use Rattle.std.proofs.Common.{◌≡◌, ℕ, ◌+◌, ◌<◌, ◌≤◌, length, List, [], ◌∷◌, ◌++◌, sym, ap, ◌∙◌, subst, append-nil, arith}
use Rattle.std.specs.Prelude.{reverse}
use Rattle.std.proofs.lemmas.List.{append_assoc, reverse-append}
use Rattle.std.specs.List.{flat_map}
use Rattle.std.proofs.lemmas.List.Concat.{flat_map-cons}
use Rattle.std.proofs.lemmas.List.Sums.{sum_by-append}
use Rattle.mvo_theory.proofs.Each.{each_append, each_front, each_back}
use Rattle.mvo_core.specs.Data.{CoreData}
use Rattle.mvo_core.specs.Receipts.{Receipt}
use Rattle.mvo_engine.specs.Ending.{AreSeenUpTo}
use Rattle.mvo_engine.specs.run.Watching.{Watched, count_of}
use Rattle.mvo_engine.specs.Booked.{IsBooked}
use Rattle.mvo_engine.specs.Gathering.{gathered_receipts, receipts_in, AreForgottenUpTo}
use Rattle.mvo_engine.specs.States.{SessionState}

-- those of the last session, and then those of the others
last_first : (left : List SessionState) (x : SessionState) → gathered_receipts (left ++ x ∷ []) ≡ x.receipts ++ gathered_receipts left
last_first left x = ap (flat_map (λ (s : SessionState). s.receipts)) (reverse-append left (x ∷ [])) ∙ flat_map-cons (λ (s : SessionState). s.receipts) x (reverse left)

pub poured : (all : List Receipt) (left : List SessionState) (x : SessionState) (whole : List Receipt) → all ++ gathered_receipts (left ++ x ∷ []) ≡ whole → (all ++ x.receipts) ++ gathered_receipts left ≡ whole
poured all left x whole e = append_assoc all x.receipts (gathered_receipts left) ∙ (ap (λ (rs : List Receipt). all ++ rs) (sym (last_first left x)) ∙ e)

pub all_poured : (all whole : List Receipt) → all ++ gathered_receipts [] ≡ whole → all ≡ whole
all_poured all whole e = sym (append-nil all) ∙ e

-- what the parts count, with one more
pub amount_poured : (w : Watched) (start amount more now forgotten : ℕ) (all list whole : List Receipt) → (start < w.end → amount ≡ count_of w all) → (forgotten < w.end → more ≡ count_of w list) → forgotten ≤ start → now ≡ amount + more → whole ≡ all ++ list → start < w.end → now ≡ count_of w whole
amount_poured w start amount more now forgotten all list whole was counts le is both low =
    let a = was low in
    let b = counts (omega (arith, le, low)) in
    let c = ap (count_of w) both ∙ sum_by-append w.weigh all list in
    omega (arith, a, b, c, is)

-- how many receipts they have but the last one
pub receipts_popped : (left : List SessionState) (x : SessionState) (all : List SessionState) → all ≡ left ++ x ∷ [] → receipts_in all ≡ receipts_in left + length x.receipts
receipts_popped left x all is = let h = ap receipts_in is ∙ sum_by-append (λ (s : SessionState). length s.receipts) left (x ∷ []) in omega (arith, h)

-- the sessions but the last one
pub forgotten_before : (start : ℕ) (left : List SessionState) (x : SessionState) (all : List SessionState) → all ≡ left ++ x ∷ [] → AreForgottenUpTo start all → AreForgottenUpTo start left × (x.forgotten ≤ start)
forgotten_before start left x all is h =
    let both = subst (AreForgottenUpTo start) is h in
    (each_front (λ (s : SessionState). s.forgotten ≤ start) left (x ∷ []) both, (each_back (λ (s : SessionState). s.forgotten ≤ start) left (x ∷ []) both).0)

-- what the parts of all sessions count is booked
pub booked_count : (w : Watched) (c : CoreData) (total n : ℕ) → IsBooked w c total → (c.start < w.end → total ≡ n) → IsBooked w c n
booked_count w c total n b same = record {
  rows = b.rows;
  steps = b.steps;
  own = b.own;
  whole = b.whole;
  stands = b.stands;
  counted = λ low. let is = b.stands.core.start in sym (same (omega (arith, is, low))) ∙ b.counted low;
}

-- one more is at most the mark
pub one_more : (mark : ℕ) (left : List ℕ) (n : ℕ) (all : List ℕ) → (AreSeenUpTo mark (left ++ n ∷ []) → AreSeenUpTo mark all) → n ≤ mark → AreSeenUpTo mark left → AreSeenUpTo mark all
one_more mark left n all h le k = h (each_append (λ (m : ℕ). m ≤ mark) left (n ∷ []) k (le, tt))
