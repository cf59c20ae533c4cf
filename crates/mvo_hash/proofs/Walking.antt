-- A walk along a chain, a number at a time.
use Rattle.std.proofs.Common.{◌≡◌, ◌≢◌, ℕ, ◌<◌, ◌≤◌, inl, inr, List, [], ◌∷◌, eqb, length, drop, map, Option, None, Some, refl, sym, ap, ◌∙◌, subst, arith}
use Rattle.std.proofs.lemmas.Bool.{cond-true, cond-false, cases_Bool, eqb-true, eqb-false}
use Rattle.std.specs.Option.{option_map}
use Rattle.mvo_hash.specs.declared.link.Link.{Link}
use Rattle.mvo_chain.specs.declared.version.VersionNo.{VersionNo}
use Rattle.mvo_hash.specs.Lists.{number}
use Rattle.mvo_hash.specs.Links.{no_number, unheld, link, first_or_none, some_unless_none, walk, IsChain, IsWalk}
use Rattle.std.specs.Iterator.{MakesProgress, YieldsFirst, item_count}
use Rattle.std.specs.FinMap.{get}
use Rattle.mvo_types.specs.declared.row.RowKey.{RowKey}
use Rattle.mvo_hash.specs.Table.{KeyNumbers}
use Rattle.mvo_hash.specs.Links.{number_or_none, numbers, IsIndex}
use Rattle.mvo_hash.proofs.Chains.{walk_chain, chain_short}
use Rattle.mvo_hash.proofs.Views.{walk_starts}

-- what a step of a walk does
pub record Steps (ls : List Link) (at : ℕ) : Type 0 where
  pub within : at < length ls
  pub first : walk ls (length ls) at ≡ at ∷ walk ls (length ls) (link ls at).older
  pub next : IsWalk ls (link ls at).older

go : (ls : List Link) (at newer : ℕ) (ns : List ℕ) → length ls ≤ unheld → at ≢ no_number → walk ls (length ls) at ≡ ns → at ≡ first_or_none ns → IsChain ls newer ns → length ns ≤ length ls → Steps ls at
go ls at newer [] small there is starts chained short = absurd (there starts)
go ls at newer (n ∷ ns) small there is starts chained short =
    let older : (link ls at).older ≡ first_or_none ns = ap (λ m. (link ls m).older) starts ∙ chained.2 in
    let within : n < length ls = chained.0 in
    let rest : walk ls (length ls) (link ls at).older ≡ ns =
    ap (walk ls (length ls)) older ∙ walk_chain ls n ns (length ls) small chained.3 (omega (arith, short)) in record {
      within = omega (arith, starts, within);
      first = is ∙ ap (λ m. m ∷ ns) (sym starts) ∙ ap (λ ms. at ∷ ms) (sym rest);
      next = record {
        newer = n;
        numbered = small;
        starts = older ∙ ap first_or_none (sym rest);
        chained = subst (λ (ms : List ℕ). IsChain ls n ms) (sym rest) chained.3;
        short = subst (λ (ms : List ℕ). length ms ≤ length ls) (sym rest) (omega (arith, short));
      };
    }

pub steps : (ls : List Link) (at : ℕ) → IsWalk ls at → at ≢ no_number → Steps ls at
steps ls at w there = go ls at w.newer (walk ls (length ls) at) w.numbered there refl w.starts w.chained w.short

done : (ls : List Link) (newer : ℕ) (ns : List ℕ) → length ls ≤ unheld → first_or_none ns ≡ no_number → IsChain ls newer ns → ns ≡ []
done ls newer [] small e chained = refl
done ls newer (n ∷ ns) small e chained = let within : n < length ls = chained.0 in absurd (omega (arith, within, small, e))

-- at no number the walk is at its end
pub walk_done : (ls : List Link) (at : ℕ) → IsWalk ls at → at ≡ no_number → walk ls (length ls) at ≡ []
walk_done ls at w e = done ls w.newer (walk ls (length ls) at) w.numbered (sym w.starts ∙ e) w.chained

-- a walk along a key's numbers
pub index_walk : (heads : KeyNumbers) (ls : List Link) → IsIndex heads ls → (key : RowKey) → IsWalk ls (number_or_none (get heads key))
index_walk heads ls t key = record {
  newer = no_number;
  numbered = t.numbered;
  starts = walk_starts heads ls t key;
  chained = t.chained key;
  short = chain_short ls no_number (numbers heads ls key) (t.chained key) (t.apart key);
}

-- a call gave the first item that was left, or none where none was
pub goes_first : {A : Type 0} (can : List A → Type 0) → ((l : List A) → can l) → (s t : List A) (r : Option A) → YieldsFirst (λ rest. rest) s r t → MakesProgress can (item_count (λ rest. rest)) s r t
goes_first can always s t None y = record { on = λ _. tt; keeps = tt; rests = λ _. tt }
goes_first can always s t (Some x) y = record {
  on = λ _. (always t, tt, subst (λ l. length t < length l) (sym y) (omega arith));
  keeps = always t;
  rests = λ _. tt;
}

-- a walk's number stands for the first of its numbers, if there is one
pub first_shown : (ls : List Link) (at : ℕ) → IsWalk ls at → YieldsFirst (λ (rest : List VersionNo). rest) (map number (walk ls (length ls) at)) (option_map number (some_unless_none at)) (map number (drop 1 (walk ls (length ls) at)))
first_shown ls at w =
    elim (cases_Bool (eqb at no_number)) [
      | inl t ↦
          let none : some_unless_none at ≡ None = cond-true (eqb at no_number) None (Some at) t in
          let done : walk ls (length ls) at ≡ [] = walk_done ls at w (eqb-true at no_number t) in
          subst (λ (o : Option ℕ). YieldsFirst (λ (rest : List VersionNo). rest) (map number (walk ls (length ls) at)) (option_map number o) (map number (drop 1 (walk ls (length ls) at))))
          (sym none) (ap (map number) done, ap (λ ns. map number (drop 1 ns)) done)
      | inr f ↦
          let some : some_unless_none at ≡ Some at = cond-false (eqb at no_number) None (Some at) f in
          let s = steps ls at w (eqb-false at no_number f) in
          subst (λ (o : Option ℕ). YieldsFirst (λ (rest : List VersionNo). rest) (map number (walk ls (length ls) at)) (option_map number o) (map number (drop 1 (walk ls (length ls) at))))
          (sym some) (ap (map number) s.first ∙ sym (ap (λ ns. number at ∷ map number (drop 1 ns)) s.first))
    ]

-- behind the number that came last a walk goes on from the next older one
pub behind_last : (ls : List Link) (at : ℕ) → IsWalk ls at → at ≢ no_number → drop 1 (walk ls (length ls) at) ≡ walk ls (length ls) (link ls at).older
behind_last ls at w there = ap (drop 1) (steps ls at w there).first
