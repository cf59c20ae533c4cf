-- Empty places at the back go.
use Rattle.std.proofs.Common.{◌≡◌, ℕ, ◌+◌, ◌-◌, ◌<◌, Bool, true, false, cond, List, [], ◌∷◌, ◌++◌, length, take, get_or, None, Some, refl, sym, ap, ◌∙◌, arith}
use Rattle.std.specs.Prelude.{slice_get, MatchBool}
use Rattle.std.proofs.lemmas.List.{take_all, take_more}
use Rattle.std.proofs.lemmas.Option.{slice_get_within, slice_get-get_or, get_or_from_slice_get}
use Rattle.mvo_tale.specs.declared.tale_place.TalePlace.{TalePlace}
use Rattle.mvo_tale.specs.declared.tale_place.TalePlace.TheVariants.{Open, Reading, Settled, Empty}
use Rattle.mvo_tale.specs.Slots.{ends, is_empty, and_place, without_empty_back}

-- ---- the last one goes
pub without_push : (xs : List TalePlace) (x : TalePlace) → is_empty x ≡ true → without_empty_back (xs ++ x ∷ []) ≡ without_empty_back xs
without_push [] x e = ap (λ (b : Bool). cond b [] (x ∷ [])) e
without_push (y ∷ ys) x e = ap (and_place y) (without_push ys x e)

-- ---- none goes
and_kept : (y : TalePlace) (ys : List TalePlace) (x : TalePlace) → and_place y (ys ++ x ∷ []) ≡ y ∷ ys ++ x ∷ []
and_kept y [] x = refl
and_kept y (z ∷ zs) x = refl

without_kept : (xs : List TalePlace) (x : TalePlace) → is_empty x ≡ false → without_empty_back (xs ++ x ∷ []) ≡ xs ++ x ∷ []
without_kept [] x e = ap (λ (b : Bool). cond b [] (x ∷ [])) e
without_kept (y ∷ ys) x e = ap (and_place y) (without_kept ys x e) ∙ and_kept y ys x

-- ---- up to the last place
up_to_last : (xs : List TalePlace) (x : TalePlace) → slice_get xs (length xs - 1) ≡ Some x → xs ≡ take (length xs - 1) xs ++ x ∷ []
up_to_last xs x last =
    let lt : length xs - 1 < length xs = slice_get_within xs (length xs - 1) x last in
    let n : length xs ≡ length xs - 1 + 1 = omega arith in
    sym (take_all (length xs) xs (omega arith))
    ∙ ap (λ (m : ℕ). take m xs) n
    ∙ take_more xs (length xs - 1) x lt
    ∙ ap (λ (y : TalePlace). take (length xs - 1) xs ++ y ∷ []) (get_or_from_slice_get xs (length xs - 1) x x last)

pub one_less : (xs : List TalePlace) (x : TalePlace) → slice_get xs (length xs - 1) ≡ Some x → is_empty x ≡ true → without_empty_back (take (length xs - 1) xs) ≡ without_empty_back xs
one_less xs x last e = sym (ap without_empty_back (up_to_last xs x last) ∙ without_push (take (length xs - 1) xs) x e)

pub all_kept : (xs : List TalePlace) (x : TalePlace) → slice_get xs (length xs - 1) ≡ Some x → is_empty x ≡ false → xs ≡ without_empty_back xs
all_kept xs x last e =
    let parts : xs ≡ take (length xs - 1) xs ++ x ∷ [] = up_to_last xs x last in
    parts ∙ sym (ap without_empty_back parts ∙ without_kept (take (length xs - 1) xs) x e)

pub ends_in : (xs : List TalePlace) (x : TalePlace) (b : Bool) → slice_get xs (length xs - 1) ≡ Some x → b ≡ is_empty x → MatchBool b (without_empty_back (take (length xs - 1) xs) ≡ without_empty_back xs) (xs ≡ without_empty_back xs)
ends_in xs x true last is = one_less xs x last (sym is)
ends_in xs x false last is = all_kept xs x last (sym is)

pub last_there : (xs : List TalePlace) → 0 < length xs → slice_get xs (length xs - 1) ≡ None → ⊥
last_there [] some none = omega (arith, some)
last_there (x ∷ xs) some none =
    let there : slice_get (x ∷ xs) (length (x ∷ xs) - 1) ≡ Some (get_or (x ∷ xs) (length (x ∷ xs) - 1) x) = slice_get-get_or (x ∷ xs) (length (x ∷ xs) - 1) x (omega arith) in
    cc

-- ---- the ends stay
ends_and : (x : TalePlace) (ys : List TalePlace) → ends (and_place x ys) ≡ ends (x ∷ ys)
ends_and (Open e) [] = refl
ends_and (Reading b) [] = refl
ends_and (Settled c) [] = refl
ends_and Empty [] = refl
ends_and x (y ∷ ys) = refl

pub ends_without : (xs : List TalePlace) → ends (without_empty_back xs) ≡ ends xs
ends_without [] = refl
ends_without (x ∷ xs) = ends_and x (without_empty_back xs) ∙ more x (ends_without xs)
  where
    more : (y : TalePlace) → ends (without_empty_back xs) ≡ ends xs → ends (y ∷ without_empty_back xs) ≡ ends (y ∷ xs)
    more (Open e) h = ap (λ es. e.0 ∷ es) h
    more (Reading b) h = ap (λ es. b.0 ∷ es) h
    more (Settled c) h = ap (λ es. c.end ∷ es) h
    more Empty h = h
