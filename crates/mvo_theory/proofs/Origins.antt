-- Claims are of the versions that stand for their transactions: each step keeps that.
use Rattle.std.proofs.Common.{◌≡◌, ℕ, Bool, true, false, cond, List, [], ◌∷◌, ◌++◌, Option, None, Some, map, refl, sym, ap, ◌∙◌, subst, inl, inr}
use Rattle.std.specs.Prelude.{◌&&◌}
use Rattle.std.specs.List.{AllByRecursion, filter}
use Rattle.std.proofs.lemmas.Bool.{false≢true}
use Rattle.mvo_types.specs.declared.row.RowKey.{RowKey}
use Rattle.mvo_theory.specs.State.{StampedTx}
use Rattle.mvo_theory.specs.Dependencies.{is_writer, or_later, last_writer}
use Rattle.mvo_theory.specs.Claims.{end_or}
use Rattle.mvo_theory.specs.Causes.{or_first, last_end}
use Rattle.mvo_theory.specs.Origins.{settled_ones}
use Rattle.mvo_theory.specs.Sound.{IsDecided, IsKeyWritten}
use Rattle.mvo_theory.proofs.Stamped.{IsOut}

-- ---- the end of the last that passes
abbrev pub or_mark : ℕ → Option ℕ → ℕ
or_mark mark None = mark
or_mark mark (Some n) = n

pub end_of_last : (mark : ℕ) (k : RowKey) (b : ℕ) (xs : List StampedTx) → end_or mark (last_writer k b xs) ≡ or_mark mark (last_end (is_writer k b) xs)
end_of_last mark k b xs = of_option mark (last_writer k b xs) ∙ ap (or_mark mark) (ends xs)
  where
    end_in : Option StampedTx → Option ℕ
    end_in None = None
    end_in (Some x) = Some x.end

    of_option : (mark : ℕ) (w : Option StampedTx) → end_or mark w ≡ or_mark mark (end_in w)
    of_option mark None = refl
    of_option mark (Some x) = refl

    one : (c : Bool) (x : StampedTx) (w : Option StampedTx) → end_in (or_later (cond c (Some x) None) w) ≡ or_first (cond c (Some x.end) None) (end_in w)
    one c x (Some y) = refl
    one true x None = refl
    one false x None = refl

    ends : (xs : List StampedTx) → end_in (last_writer k b xs) ≡ last_end (is_writer k b) xs
    ends [] = refl
    ends (x ∷ xs) = one (is_writer k b x) x (last_writer k b xs) ∙ ap (or_first (cond (is_writer k b x) (Some x.end) None)) (ends xs)

pub last_same : (p q : StampedTx → Bool) (xs : List StampedTx) → AllByRecursion (λ x. p x ≡ q x) xs → last_end p xs ≡ last_end q xs
last_same p q [] h = refl
last_same p q (x ∷ xs) h = ap (λ (b : Bool). or_first (cond b (Some x.end) None) (last_end p xs)) h.0 ∙ ap (or_first (cond (q x) (Some x.end) None)) (last_same p q xs h.1)

none_first : (v : Option ℕ) → or_first None v ≡ v
none_first None = refl
none_first (Some n) = refl

pub last_filter : (p keep : StampedTx → Bool) (xs : List StampedTx) → last_end p (filter keep xs) ≡ last_end (λ x. keep x && p x) xs
last_filter p keep [] = refl
last_filter p keep (x ∷ xs) = go (keep x) (last_filter p keep xs)
  where
    go : (c : Bool) → last_end p (filter keep xs) ≡ last_end (λ y. keep y && p y) xs → last_end p (cond c (x ∷ filter keep xs) (filter keep xs)) ≡ or_first (cond (c && p x) (Some x.end) None) (last_end (λ y. keep y && p y) xs)
    go true r = ap (or_first (cond (p x) (Some x.end) None)) r
    go false r = r ∙ sym (none_first (last_end (λ y. keep y && p y) xs))

pub last_map : (p q : StampedTx → Bool) (f : StampedTx → StampedTx) → ((x : StampedTx) → (f x).end ≡ x.end) → (xs : List StampedTx) → AllByRecursion (λ x. p (f x) ≡ q x) xs → last_end p (map f xs) ≡ last_end q xs
last_map p q f e [] h = refl
last_map p q f e (x ∷ xs) h =
    ap (λ (b : Bool). or_first (cond b (Some (f x).end) None) (last_end p (map f xs))) h.0
    ∙ ap (λ (n : ℕ). or_first (cond (q x) (Some n) None) (last_end p (map f xs))) (e x)
    ∙ ap (or_first (cond (q x) (Some x.end) None)) (last_map p q f e xs h.1)

first_assoc : (a b c : Option ℕ) → or_first a (or_first b c) ≡ or_first (or_first a b) c
first_assoc a b (Some n) = refl
first_assoc a (Some n) None = refl
first_assoc a None None = refl

pub last_both : (p : StampedTx → Bool) (xs ys : List StampedTx) → last_end p (xs ++ ys) ≡ or_first (last_end p xs) (last_end p ys)
last_both p [] ys = sym (none_first (last_end p ys))
last_both p (x ∷ xs) ys = ap (or_first (cond (p x) (Some x.end) None)) (last_both p xs ys) ∙ first_assoc (cond (p x) (Some x.end) None) (last_end p xs) (last_end p ys)

-- one more that doesn't pass
pub last_push : (p : StampedTx → Bool) (xs : List StampedTx) (y : StampedTx) → p y ≡ false → last_end p (xs ++ y ∷ []) ≡ last_end p xs
last_push p xs y e = last_both p xs (y ∷ []) ∙ ap (λ (b : Bool). or_first (last_end p xs) (cond b (Some y.end) None)) e

written_end : (k : RowKey) (b : ℕ) (xs : List StampedTx) → IsKeyWritten k b xs → (n : ℕ) × (last_end (is_writer k b) xs ≡ Some n)
written_end k b [] h = absurd h
written_end k b (x ∷ xs) (inl w) = go (is_writer k b x) w (last_end (is_writer k b) xs)
  where
    go : (c : Bool) → c ≡ true → (v : Option ℕ) → (n : ℕ) × (or_first (cond c (Some x.end) None) v ≡ Some n)
    go c e (Some n) = (n, refl)
    go true e None = (x.end, refl)
    go false e None = absurd (false≢true e)
written_end k b (x ∷ xs) (inr q) = let r = written_end k b xs q in (r.0, ap (or_first (cond (is_writer k b x) (Some x.end) None)) r.1)

-- some are taken out on which the transaction doesn't depend
pub last_kept : (keep : StampedTx → Bool) (k : RowKey) (b : ℕ) (ds : List ℕ) (xs : List StampedTx) → AllByRecursion (IsOut keep ds) xs → IsDecided k b ds xs → last_end (is_writer k b) (filter keep xs) ≡ last_end (is_writer k b) xs
last_kept keep k b ds [] o d = refl
last_kept keep k b ds (x ∷ xs) o d = go (keep x) refl (last_kept keep k b ds xs o.1 d.1)
  where
    over : (v : Option ℕ) (n : ℕ) → v ≡ Some n → v ≡ or_first (cond true (Some x.end) None) v
    over v n e = subst (λ (w : Option ℕ). w ≡ or_first (Some x.end) w) (sym e) refl

    out : (c : Bool) → is_writer k b x ≡ c → keep x ≡ false → last_end (is_writer k b) xs ≡ or_first (cond c (Some x.end) None) (last_end (is_writer k b) xs)
    out true w e = elim (d.0 (o.0 e).0 w) [
      | inl q ↦ absurd (false≢true (sym (o.0 e).1 ∙ q))
      | inr q ↦ let r = written_end k b xs q in over (last_end (is_writer k b) xs) r.0 r.1
    ]
    out false w e = sym (none_first (last_end (is_writer k b) xs))

    go : (c : Bool) → keep x ≡ c → last_end (is_writer k b) (filter keep xs) ≡ last_end (is_writer k b) xs → last_end (is_writer k b) (cond c (x ∷ filter keep xs) (filter keep xs)) ≡ or_first (cond (is_writer k b x) (Some x.end) None) (last_end (is_writer k b) xs)
    go true e r = ap (or_first (cond (is_writer k b x) (Some x.end) None)) r
    go false e r = r ∙ out (is_writer k b x) refl e

-- ---- the two origins
abbrev pub settles : RowKey → ℕ → StampedTx → Bool
settles k b x = x.settled && is_writer k b x

pub origin_is : (mark : ℕ) (past stamped : List StampedTx) (k : RowKey) (b : ℕ) → end_or mark (last_writer k b (past ++ stamped)) ≡ or_mark mark (or_first (last_end (is_writer k b) past) (last_end (is_writer k b) stamped))
origin_is mark past stamped k b = end_of_last mark k b (past ++ stamped) ∙ ap (or_mark mark) (last_both (is_writer k b) past stamped)

pub settled_is : (mark : ℕ) (past stamped : List StampedTx) (k : RowKey) (b : ℕ) → end_or mark (last_writer k b (settled_ones (past ++ stamped))) ≡ or_mark mark (or_first (last_end (settles k b) past) (last_end (settles k b) stamped))
settled_is mark past stamped k b = end_of_last mark k b (settled_ones (past ++ stamped)) ∙ ap (or_mark mark) (last_filter (is_writer k b) (λ x. x.settled) (past ++ stamped) ∙ last_both (settles k b) past stamped)

-- where the last writers are the same, so is the origin
pub same_origin : (mark : ℕ) (past old new : List StampedTx) (k : RowKey) (b : ℕ) → last_end (is_writer k b) new ≡ last_end (is_writer k b) old → end_or mark (last_writer k b (past ++ old)) ≡ end_or mark (last_writer k b (past ++ new))
same_origin mark past old new k b e = origin_is mark past old k b ∙ ap (λ (v : Option ℕ). or_mark mark (or_first (last_end (is_writer k b) past) v)) (sym e) ∙ sym (origin_is mark past new k b)

pub same_settled : (mark : ℕ) (past old new : List StampedTx) (k : RowKey) (b : ℕ) → last_end (settles k b) new ≡ last_end (settles k b) old → end_or mark (last_writer k b (settled_ones (past ++ old))) ≡ end_or mark (last_writer k b (settled_ones (past ++ new)))
same_settled mark past old new k b e = settled_is mark past old k b ∙ ap (λ (v : Option ℕ). or_mark mark (or_first (last_end (settles k b) past) v)) (sym e) ∙ sym (settled_is mark past new k b)
