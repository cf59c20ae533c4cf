-- A walk that goes on with a number that is still to come, past those in front of it.
use Rattle.std.proofs.Common.{◌≡◌, ◌≢◌, ℕ, inl, inr, Bool, true, false, List, [], ◌∷◌, ◌++◌, eqb, length, drop, map, Option, None, Some, refl, sym, ap, ◌∙◌, subst}
use Rattle.std.proofs.lemmas.Bool.{cond-true, cond-false, cases_Bool, eqb-true, eqb-false}
use Rattle.std.specs.Option.{option_map}
use Rattle.mvo_chain.specs.declared.version.VersionNo.{VersionNo}
use Rattle.mvo_hash.specs.declared.link.Link.{Link}
use Rattle.mvo_hash.specs.Lists.{number, foremost, LeadsTo}
use Rattle.mvo_hash.specs.Links.{no_number, link, some_unless_none, walk, to_come, IsWalk}
use Rattle.mvo_hash.proofs.Walking.{steps, walk_done, behind_last}

-- the walk may go on with a number, and what comes then
pub record GoesOn (ls : List Link) (n : ℕ) (rest : List ℕ) : Type 0 where
  pub walks : IsWalk ls n
  pub comes : walk ls (length ls) n ≡ n ∷ rest

head_is : (m n : ℕ) (ms ns : List ℕ) → m ∷ ms ≡ n ∷ ns → m ≡ n
head_is m n ms ns e = cc

tail_is : (m n : ℕ) (ms ns : List ℕ) → m ∷ ms ≡ n ∷ ns → ms ≡ ns
tail_is m n ms ns e = cc

-- a walk with something to come stands at a number
stands : (ls : List Link) (at m : ℕ) (ms : List ℕ) → IsWalk ls at → walk ls (length ls) at ≡ m ∷ ms → at ≢ no_number
stands ls at m ms w e = λ q. absurd (none (sym (walk_done ls at w q) ∙ e))
  where
    none : [] ≡ m ∷ ms → ⊥
    none p = cc

-- so it goes on with each number that is to come
pub goes_on : (ls : List Link) (at : ℕ) (front : List ℕ) (n : ℕ) (rest : List ℕ) → IsWalk ls at → walk ls (length ls) at ≡ front ++ n ∷ rest → GoesOn ls n rest
goes_on ls at [] n rest w e =
    let s = steps ls at w (stands ls at n rest w e) in
    let here : at ≡ n = head_is at n (walk ls (length ls) (link ls at).older) rest (sym s.first ∙ e) in
    record { walks = subst (IsWalk ls) here w; comes = ap (walk ls (length ls)) (sym here) ∙ e }
goes_on ls at (m ∷ front) n rest w e =
    let s = steps ls at w (stands ls at m (front ++ n ∷ rest) w e) in
    goes_on ls (link ls at).older front n rest s.next (tail_is at m (walk ls (length ls) (link ls at).older) (front ++ n ∷ rest) (sym s.first ∙ e))

-- also where the number at which it stands came last
pub goes_on_from : (ls : List Link) (at : ℕ) (began : Bool) (front : List ℕ) (n : ℕ) (rest : List ℕ) → IsWalk ls at → to_come ls at began ≡ front ++ n ∷ rest → GoesOn ls n rest
goes_on_from ls at false front n rest w e = goes_on ls at front n rest w e
goes_on_from ls at true front n rest w e =
    elim (cases_Bool (eqb at no_number)) [
      | inl t ↦ absurd (none front (sym (ap (drop 1) (walk_done ls at w (eqb-true at no_number t))) ∙ e))
      | inr f ↦
          let there = eqb-false at no_number f in
          goes_on ls (link ls at).older front n rest (steps ls at w there).next (sym (behind_last ls at w there) ∙ e)
    ]
  where
    none : (front : List ℕ) → [] ≡ front ++ n ∷ rest → ⊥
    none [] p = cc
    none (m ∷ ms) p = cc

-- ---- numbers and versions
abbrev pub plain : List VersionNo → List ℕ
plain ns = map (λ (v : VersionNo). v.0) ns

pub plain_numbers : (ns : List ℕ) → plain (map number ns) ≡ ns
plain_numbers [] = refl
plain_numbers (n ∷ ns) = ap (λ ms. n ∷ ms) (plain_numbers ns)

pub numbers_plain : (ns : List VersionNo) → map number (plain ns) ≡ ns
numbers_plain [] = refl
numbers_plain (n ∷ ns) = ap (λ ms. n ∷ ms) (numbers_plain ns)

pub plain_split : (front : List VersionNo) (n : VersionNo) (rest : List VersionNo) → plain (front ++ n ∷ rest) ≡ plain front ++ n.0 ∷ plain rest
plain_split [] n rest = refl
plain_split (m ∷ front) n rest = ap (λ ms. m.0 ∷ ms) (plain_split front n rest)

-- what is to come of the walk leads to the version
pub passed : (ls : List Link) (at : ℕ) (began : Bool) (n : VersionNo) (rest : List VersionNo) → IsWalk ls at → LeadsTo (map number (to_come ls at began)) n rest → GoesOn ls n.0 (plain rest)
passed ls at began n rest w l = goes_on_from ls at began (plain l.0) n.0 (plain rest) w (sym (plain_numbers (to_come ls at began)) ∙ ap plain l.1 ∙ plain_split l.0 n rest)

pub passed_to : (ls : List Link) (at : ℕ) (began : Bool) (n : VersionNo) (rest : List VersionNo) → IsWalk ls at → LeadsTo (map number (to_come ls at began)) n rest → map number (to_come ls n.0 false) ≡ n ∷ rest
passed_to ls at began n rest w l = ap (map number) (passed ls at began n rest w l).comes ∙ ap (λ ms. n ∷ ms) (numbers_plain rest)

-- ---- what comes next
pub first_comes : (ls : List Link) (at : ℕ) → IsWalk ls at → foremost (map number (walk ls (length ls) at)) ≡ option_map number (some_unless_none at)
first_comes ls at w =
    elim (cases_Bool (eqb at no_number)) [
      | inl t ↦
          ap (λ ns. foremost (map number ns)) (walk_done ls at w (eqb-true at no_number t))
          ∙ sym (ap (option_map number) (cond-true (eqb at no_number) None (Some at) t))
      | inr f ↦
          ap (λ ns. foremost (map number ns)) (steps ls at w (eqb-false at no_number f)).first
          ∙ sym (ap (option_map number) (cond-false (eqb at no_number) None (Some at) f))
    ]
