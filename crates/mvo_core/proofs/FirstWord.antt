-- The first word of a transaction's list, once those in front were passed over.
use Rattle.std.proofs.Common.{◌≡◌, ℕ, List, [], ◌∷◌, Option, None, Some, refl, sym, ap, ◌∙◌, subst}
use Rattle.std.specs.Prelude.{IsSome, slice_get}
use Rattle.mvo_txn.specs.Txns.{Txns}
use Rattle.mvo_deps.specs.declared.node.Node.{Node}
use Rattle.mvo_chain.specs.Slots.{Slots, version_at}
use Rattle.mvo_work.specs.declared.word_place.WordPlace.{WordPlace}
use Rattle.mvo_representation.specs.WordLists.{number_at_word}
use Rattle.mvo_representation.proofs.WordPlaces.{names_there}
use Rattle.mvo_core.specs.declared.kept_transaction.KeptTransaction.{KeptTransaction}
use Rattle.mvo_core.specs.Standing.{words_in}
use Rattle.mvo_core.specs.Keeping.{IsWritten}
use Rattle.mvo_core.specs.Finishing.{HasPassed, from_own}
use Rattle.mvo_core.proofs.OwnChanged.{own_changed, words_here, words_before}
use Rattle.mvo_core.proofs.Passed.{first_named}

none_place : (p : WordPlace) → ◌≡◌ {A = Option WordPlace} None (Some p) → ⊥
none_place p e = cc

pub first_of : (ps : List WordPlace) → slice_get ps 0 ≡ None → ps ≡ []
first_of [] e = refl
first_of (p ∷ ps) e = absurd (none_place p (sym e))

pub record IsFirst (ps : List WordPlace) (p : WordPlace) : Type 0 where
  pub rest : List WordPlace
  pub is : ps ≡ p ∷ rest

pub first_is : (ps : List WordPlace) (p : WordPlace) → slice_get ps 0 ≡ Some p → IsFirst ps p
first_is [] p e = absurd (none_place p e)
first_is (q ∷ qs) p e = let same : q ≡ p = cc in record { rest = qs; is = ap (λ x. x ∷ qs) same }

-- it is a version's
pub first_there : (slots : Slots) (t : ℕ) (ps qs : List WordPlace) (p : WordPlace) → qs ≡ from_own slots t ps → Some p ≡ slice_get qs 0 → IsSome (version_at slots (number_at_word p))
first_there slots t ps qs p passed first =
    let here = first_is qs p (sym first) in
    let there = names_there slots t p (first_named slots t ps p here.rest (sym passed ∙ here.is)) in
    subst IsSome (sym there.at) refl

-- it is the first of the list that still names the transaction
pub first_passed : (slots : Slots) (table between : Txns (Node KeptTransaction)) (t : ℕ) → IsWritten table between t (HasPassed slots t) → slice_get (words_in between t) 0 ≡ slice_get (from_own slots t (words_in table t)) 0
first_passed slots table between t w =
    let changed = own_changed table between t (HasPassed slots t) w in
    ap (λ (qs : List WordPlace). slice_get qs 0)
    (words_here table between t (HasPassed slots t) changed ∙ changed.changed.words ∙ ap (from_own slots t) (sym (words_before table between t (HasPassed slots t) changed)))
