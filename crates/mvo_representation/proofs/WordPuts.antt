-- Of two versions of a key whose puts have one stamp, one is removed.
use Rattle.std.proofs.Common.{◌≡◌, ◌≢◌, ℕ, ◌≤◌, suc, Bool, true, false, cond, ◌++◌, Option, None, Some, refl, sym, ap, ◌∙◌, arith, inl, inr}
use Rattle.std.specs.Prelude.{◌&&◌, slice_set}
use Rattle.std.proofs.lemmas.Bool.{eq-eqb, cases_eq, cases_lt, lt-ltb, true≢false}
use Rattle.std.proofs.lemmas.List.{get_or-set_other}
use Rattle.mvo_types.specs.declared.row.RowKey.{RowKey}
use Rattle.mvo_types.specs.RowData.{ContentData, content_of}
use Rattle.mvo_types.specs.Write.{Effect}
use Rattle.mvo_types.specs.Write.Effect.{Put, Delete}
use Rattle.mvo_model.specs.History.{net_write}
use Rattle.mvo_word.specs.declared.held.Held.{Held}
use Rattle.mvo_chain.specs.declared.version.Version.{Version}
use Rattle.mvo_chain.specs.Slots.{Slots, version_at}
use Rattle.mvo_hash.specs.Lists.{number}
use Rattle.mvo_representation.specs.Words.{Ends, ends_of, stamp_in, is_stamp, has_stamp, NetEffect, with_effect, net_effect, as_net_effect, is_clash, is_up_to, standing_effect, standing_effect_of}
use Rattle.mvo_representation.specs.Words.NetEffect.{Untouched, Removed, Puts, Clash}
use Rattle.mvo_representation.specs.Versions.{history_at}
use Rattle.mvo_representation.specs.Indexes.{all_versions}
use Rattle.mvo_representation.specs.Table.{phases_of}
use Rattle.mvo_representation.specs.WordLaws.{OnePutIsLeft, OnePutStands}
use Rattle.mvo_representation.proofs.Kept.{standing_effect-at}
use Rattle.mvo_representation.proofs.OrderSteps.{same_key, stays_put, more_at}

puts_clash : (h g : ContentData) (d : NetEffect) → is_clash (with_effect (Puts h) (with_effect (Puts g) d)) ≡ true
puts_clash h g Untouched = refl
puts_clash h g Removed = refl
puts_clash h g (Puts x) = refl
puts_clash h g Clash = refl

no_clash : (w : Option Effect) → is_clash (as_net_effect w) ≡ false
no_clash None = refl
no_clash (Some Delete) = refl
no_clash (Some (Put h)) = refl

-- one in the slots without the other
still_at : (slots : Slots) (n m : ℕ) (w : Version) → n ≢ m → version_at slots (number m) ≡ Some w → version_at (slice_set slots n None) (number m) ≡ Some w
still_at slots n m w d e = get_or-set_other slots n m None None (λ q. d (sym q)) ∙ e

two_puts : (f : Held → Bool) (k : RowKey) (slots : Slots) (n m : ℕ) (v w : Version) → n ≢ m → version_at slots (number n) ≡ Some v → version_at slots (number m) ≡ Some w → v.row.key ≡ k → w.row.key ≡ k → f v.begin ≡ true → f v.end ≡ false → f w.begin ≡ true → f w.end ≡ false → is_clash (net_effect f k (all_versions slots)) ≡ true
two_puts f k slots n m v w d p q kv kw vb ve wb we =
    let x = more_at slots n v p in
    let y = more_at (slice_set slots n None) m w (still_at slots n m w d q) in
    ap (λ vs. is_clash (net_effect f k vs)) (sym x.with')
    ∙ ap is_clash (stays_put f k x.before v x.after kv vb ve)
    ∙ ap (λ vs. is_clash (with_effect (Puts (content_of v.row)) (net_effect f k vs))) (x.without ∙ sym y.with')
    ∙ ap (λ e. is_clash (with_effect (Puts (content_of v.row)) e)) (stays_put f k y.before w y.after kw wb we)
    ∙ puts_clash (content_of v.row) (content_of w.row) (net_effect f k (y.before ++ y.after))

stamped : (ends : Ends) (a : ℕ) (w : Held) → stamp_in ends w ≡ Some a → has_stamp ends a w ≡ true
stamped ends a w e = ap (is_stamp a) e ∙ eq-eqb a a refl

pub one_put_is_left : OnePutIsLeft
one_put_is_left s states slots v w n m a h p q key pv pw lt ev ew = elim (cases_eq n m) [
  | inl e ↦ e
  | inr d ↦ absurd (true≢false (sym (two_puts (has_stamp (ends_of (phases_of states)) a) v.row.key slots n m v w d p q refl (sym key) (stamped (ends_of (phases_of states)) a v.begin pv) ev (stamped (ends_of (phases_of states)) a w.begin pw) ew)
      ∙ ap is_clash ((h.stamped a lt).writes v.row.key) ∙ no_clash (net_write v.row.key (history_at a s.stamped))))
]

-- ---- up to the start
standing_put : (ends : Ends) (start a : ℕ) (k : RowKey) (v : Version) → a ≤ start → v.row.key ≡ k → stamp_in ends v.begin ≡ Some a → stamp_in ends v.end ≡ None → standing_effect_of ends start k v ≡ Puts (content_of v.row)
standing_put ends start a k v le key b e =
    ap (λ (c : Bool). cond (c && (is_up_to start (stamp_in ends v.begin) && cond (is_up_to start (stamp_in ends v.end)) false true)) (Puts (content_of v.row)) Untouched) (same_key k v key)
    ∙ ap (λ (o : Option ℕ). cond (is_up_to start o && cond (is_up_to start (stamp_in ends v.end)) false true) (Puts (content_of v.row)) Untouched) b
    ∙ ap (λ (c : Bool). cond (c && cond (is_up_to start (stamp_in ends v.end)) false true) (Puts (content_of v.row)) Untouched) (lt-ltb a (suc start) (omega (arith, le)))
    ∙ ap (λ (o : Option ℕ). cond (cond (is_up_to start o) false true) (Puts (content_of v.row)) Untouched) e

two_stand : (ends : Ends) (start a : ℕ) (k : RowKey) (slots : Slots) (n m : ℕ) (v w : Version) → n ≢ m → a ≤ start → version_at slots (number n) ≡ Some v → version_at slots (number m) ≡ Some w → v.row.key ≡ k → w.row.key ≡ k → stamp_in ends v.begin ≡ Some a → stamp_in ends v.end ≡ None → stamp_in ends w.begin ≡ Some a → stamp_in ends w.end ≡ None → is_clash (standing_effect ends start k (all_versions slots)) ≡ true
two_stand ends start a k slots n m v w d le p q kv kw vb ve wb we =
    let x = more_at slots n v p in
    let y = more_at (slice_set slots n None) m w (still_at slots n m w d q) in
    ap (λ vs. is_clash (standing_effect ends start k vs)) (sym x.with')
    ∙ ap is_clash (standing_effect-at ends start k x.before v x.after)
    ∙ ap (λ e. is_clash (with_effect e (standing_effect ends start k (x.before ++ x.after)))) (standing_put ends start a k v le kv vb ve)
    ∙ ap (λ vs. is_clash (with_effect (Puts (content_of v.row)) (standing_effect ends start k vs))) (x.without ∙ sym y.with')
    ∙ ap (λ e. is_clash (with_effect (Puts (content_of v.row)) e)) (standing_effect-at ends start k y.before w y.after)
    ∙ ap (λ e. is_clash (with_effect (Puts (content_of v.row)) (with_effect e (standing_effect ends start k (y.before ++ y.after))))) (standing_put ends start a k w le kw wb we)
    ∙ puts_clash (content_of v.row) (content_of w.row) (standing_effect ends start k (y.before ++ y.after))

pub one_put_stands : OnePutStands
one_put_stands s states slots v w n m a h p q key pv pw ev ew = elim (cases_lt s.start a) [
  | inl lt ↦ one_put_is_left s states slots v w n m a h p q key pv pw lt (ap (is_stamp a) ev) (ap (is_stamp a) ew)
  | inr le ↦ elim (cases_eq n m) [
    | inl e ↦ e
    | inr d ↦ absurd (true≢false (sym (two_stand (ends_of (phases_of states)) s.start a v.row.key slots n m v w d le p q refl (sym key) pv ev pw ew) ∙ ap is_clash (h.stood v.row.key) ∙ no_clash _))
  ]
]
