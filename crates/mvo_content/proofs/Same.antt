-- Entries and keys that are equal, as a map of them says it.
use Rattle.std.proofs.Common.{◌≡◌, Bool, true, false, refl, sym, ◌∙◌, subst}
use Rattle.std.specs.Ordering.{eq_by_cmp}
use Rattle.std.proofs.lemmas.Bool.{true≢false}
use Rattle.mvo_types.specs.declared.row.RowKey.{RowKey}
use Rattle.mvo_types.specs.Keys.{key_cmp}
use Rattle.mvo_types.specs.declared.entry.Entry.{Entry}
use Rattle.mvo_types.specs.declared.entry.Entry.TheVariants.{Key, Range}
use Rattle.mvo_types.specs.Entries.{is_same}
use Rattle.mvo_types.specs.contracts.entry.EntryPartialEq.TheImpl as by_eq
use Rattle.mvo_theory.proofs.Looks.{key_is}
use Rattle.mvo_theory.proofs.Footprints.{key_same}
use Rattle.mvo_theory.proofs.Apart.{same_entry}
use Rattle.mvo_shared.proofs.Works.{same_self}

pub same_eq : (e d : Entry) → (by_eq.ghosts).eq e d ≡ is_same e d
same_eq (Key k) (Key j) = refl
same_eq (Key k) (Range table lo hi) = refl
same_eq (Range table lo hi) (Key k) = refl
same_eq (Range table lo hi) (Range table' lo' hi') = refl

pub same_value : (e d : Entry) → (by_eq.eq-value).it e d ≡ is_same e d
same_value (Key k) (Key j) = refl
same_value (Key k) (Range table lo hi) = refl
same_value (Range table lo hi) (Key k) = refl
same_value (Range table lo hi) (Range table' lo' hi') = refl

one_key : (k j : RowKey) → ◌≡◌ {A = Entry} (Key k) (Key j) → k ≡ j
one_key k j e = cc

-- keys are equal where both numbers are
pub same_key : (k j : RowKey) → is_same (Key k) (Key j) ≡ eq_by_cmp key_cmp k j
same_key k j = go (is_same (Key k) (Key j)) (eq_by_cmp key_cmp k j) refl refl
  where
    go : (a b : Bool) → is_same (Key k) (Key j) ≡ a → eq_by_cmp key_cmp k j ≡ b → a ≡ b
    go true true e f = refl
    go false false e f = refl
    go true false e f = absurd (true≢false (sym (subst (λ (i : RowKey). eq_by_cmp key_cmp k i ≡ true) (one_key k j (same_entry (Key k) (Key j) e)) (key_is k)) ∙ f))
    go false true e f = absurd (true≢false (sym (subst (λ (i : RowKey). is_same (Key k) (Key i) ≡ true) (sym (key_same k j f)) (same_self (Key k))) ∙ e))
