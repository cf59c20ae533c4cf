-- Receipts are let go of.
use Rattle.std.proofs.Common.{◌≡◌, ℕ, ◌+◌, ◌≤◌, ◌<◌, cond, length, drop, get_or, set, List, [], ◌∷◌, ◌++◌, Option, None, Some, refl, sym, ap, ◌∙◌, subst, arith}
use Rattle.std.specs.Prelude.{max, Bool, true}
use Rattle.std.proofs.lemmas.Bool.{lt-ltb, le-ltb}
use Rattle.std.proofs.lemmas.List.{append_assoc, length-append, drop-append-le, drop_more, drop-set-lt}
use Rattle.std.proofs.lemmas.List.Sums.{sum_by-cons, sum_by-append}
use Rattle.mvo_theory.proofs.Each.{each_append, each_weaker, each_back}
use Rattle.mvo_core.specs.Receipts.{Receipt}
use Rattle.mvo_engine.specs.run.Opening.{Opening}
use Rattle.mvo_engine.specs.run.Receiving.{AreUpTo, AreBelow, AreAbove, Rises, HasLetGo, HasLetGoFirst}
use Rattle.mvo_engine.specs.run.Watching.{Watched, count_of}
use Rattle.mvo_engine.proofs.run.Receiving.{rises_append}
use Rattle.mvo_engine.specs.Settling.{BeginsAbove}
use Rattle.mvo_engine.specs.States.{SessionState}
use Rattle.mvo_engine.specs.Forgetting.{above_start, HasForgottenAll, WasUpToStart, HasForgottenSome, HasForgottenAny}

-- ---- a list
pub rises_behind : (r : Receipt) (rs : List Receipt) → Rises (r ∷ rs) → Rises rs
rises_behind r rs up = up.1

-- where the first one ends above the stamp, all do
pub all_above : (start : ℕ) (r : Receipt) (rs : List Receipt) → start < r.end → Rises (r ∷ rs) → AreAbove start (r ∷ rs)
all_above start r rs low up = (low, each_weaker (λ (x : Receipt). r.end < x.end) (λ (x : Receipt). start < x.end) (λ x p. omega (arith, p, low)) rs up.0)

-- those behind the ones that were let go of, with one more
pub left_append : (g : ℕ) (xs all : List Receipt) (r : Receipt) → g ≤ length xs → all ≡ xs ++ r ∷ [] → drop g all ≡ drop g xs ++ r ∷ []
left_append g xs all r le is = ap (drop g) is ∙ drop-append-le g xs (r ∷ []) le

pub left_rises : (g : ℕ) (xs all : List Receipt) (r : Receipt) → g ≤ length xs → all ≡ xs ++ r ∷ [] → Rises (drop g xs) → AreBelow r.end (drop g xs) → Rises (drop g all)
left_rises g xs all r le is up below = subst Rises (sym (left_append g xs all r le is)) (rises_append (drop g xs) r up below)

-- the first of those that are left ends above the start, so all do
pub left_above_start : (start g : ℕ) (xs : List Receipt) (r : Receipt) → g < length xs → r ≡ get_or xs g r → start < r.end → Rises (drop g xs) → AreAbove start (drop g xs)
left_above_start start g xs r within is low up =
    let e : drop g xs ≡ r ∷ drop (g + 1) xs = drop_more xs g r within ∙ ap (λ (x : Receipt). x ∷ drop (g + 1) xs) (sym is) in
    subst (AreAbove start) (sym e) (all_above start r (drop (g + 1) xs) low (subst Rises e up))

-- or it ends up to there, and goes
pub first_gone : (start g : ℕ) (xs old new : List Receipt) (r y : Receipt) → g < length xs → r ≡ get_or xs g r → r.end ≤ start → old ≡ drop g xs → new ≡ drop (g + 1) (set xs g y) → HasLetGoFirst start old true new
first_gone start g xs old new r y within is le at left =
    let e : drop g xs ≡ r ∷ drop (g + 1) xs = drop_more xs g r within ∙ ap (λ (x : Receipt). x ∷ drop (g + 1) xs) (sym is) in
    let same : drop (g + 1) xs ≡ new = sym (left ∙ drop-set-lt (g + 1) xs g y (omega arith)) in
    (r, le, at ∙ e ∙ ap (λ (rs : List Receipt). r ∷ rs) same)

pub nothing_gone : (start : ℕ) (rs : List Receipt) → HasLetGo start 0 rs 0 rs
nothing_gone start rs = record { gone = []; front = refl; number = refl; upto = tt; at_most = omega arith; fewer = λ low. absurd (omega (arith, low)) }

pub one_more_gone : (start n m : ℕ) (old mid new : List Receipt) (r : Receipt) → HasLetGo start n old n mid → r.end ≤ start → mid ≡ r ∷ new → m ≡ n + 1 → HasLetGo start m old m new
one_more_gone start n m old mid new r h le is next = record {
  gone = h.gone ++ r ∷ [];
  front = h.front ∙ ap (λ (rs : List Receipt). h.gone ++ rs) is ∙ sym (append_assoc h.gone (r ∷ []) new);
  number = let l = length-append h.gone (r ∷ []) in let was = h.number in omega (arith, l, was, next);
  upto = each_append (λ (x : Receipt). x.end ≤ start) h.gone (r ∷ []) h.upto (le, tt);
  at_most = omega arith;
  fewer = λ low. absurd (omega (arith, low));
}

pub no_more_gone : (start n most : ℕ) (old mid new : List Receipt) → HasLetGo start n old n mid → n < most → new ≡ mid → AreAbove start mid → HasLetGo start most old n new
no_more_gone start n most old mid new h low same above = record {
  gone = h.gone;
  front = h.front ∙ ap (λ (rs : List Receipt). h.gone ++ rs) (sym same);
  number = h.number;
  upto = h.upto;
  at_most = omega (arith, low);
  fewer = λ p. subst (AreAbove start) (sym same) above;
}

-- ---- what is left of them
module _ {start most n : ℕ} {old new : List Receipt} (h : HasLetGo start most old n new) where
  pub up_to_left : (last : ℕ) → AreUpTo last old → AreUpTo last new
  up_to_left last up = each_back (λ (x : Receipt). x.end ≤ last) h.gone new (subst (AreUpTo last) h.front up)

  pub below_left : (t : ℕ) → AreBelow t old → AreBelow t new
  below_left t low = each_back (λ (x : Receipt). x.end < t) h.gone new (subst (AreBelow t) h.front low)

pub begins_left : {start most n : ℕ} {old new : List Receipt} → HasLetGo start most old n new → (tx : Option ℕ) → BeginsAbove tx old → BeginsAbove tx new
begins_left h None above = tt
begins_left h (Some t) above = below_left h t above

-- those that went count nothing, where they end below the watched one
gone_counts : (w : Watched) (start : ℕ) (gone : List Receipt) → AreUpTo start gone → start < w.end → count_of w gone ≡ 0
gone_counts w start [] up low = refl
gone_counts w start (r ∷ rs) up low =
    let le = up.0 in
    let none : w.weigh r ≡ 0 = w.at r (λ e. omega (arith, le, low, e)) in
    let rest = gone_counts w start rs up.1 low in
    let all = sum_by-cons w.weigh r rs in
    omega (arith, none, rest, all)

-- so what is left counts as much
pub left_counts : (w : Watched) (start most n : ℕ) (old new : List Receipt) (amount forgotten : ℕ) → HasLetGo start most old n new → (forgotten < w.end → amount ≡ count_of w old) → max forgotten start < w.end → amount ≡ count_of w new
left_counts w start most n old new amount forgotten h counts low =
    let was = counts (omega (arith, low)) in
    let none = gone_counts w start h.gone h.upto (omega (arith, low)) in
    let both = ap (count_of w) h.front ∙ sum_by-append w.weigh h.gone new in
    omega (arith, was, none, both)

-- ---- all of them
filter_gone : (start : ℕ) (gone new : List Receipt) → AreUpTo start gone → above_start start (gone ++ new) ≡ above_start start new
filter_gone start [] new up = refl
filter_gone start (r ∷ rs) new up =
    ap (λ (b : Bool). cond b (r ∷ above_start start (rs ++ new)) (above_start start (rs ++ new))) (le-ltb start r.end up.0) ∙ filter_gone start rs new up.1

filter_left : (start : ℕ) (new : List Receipt) → AreAbove start new → above_start start new ≡ new
filter_left start [] above = refl
filter_left start (r ∷ rs) above =
    ap (λ (b : Bool). cond b (r ∷ above_start start rs) (above_start start rs)) (lt-ltb start r.end above.0) ∙ ap (λ (xs : List Receipt). r ∷ xs) (filter_left start rs above.1)

left_above : (start n : ℕ) (old gone new : List Receipt) → old ≡ gone ++ new → length gone ≡ n → (n < length old → AreAbove start new) → AreAbove start new
left_above start n old gone [] is number fewer = tt
left_above start n old gone (x ∷ xs) is number fewer =
    let l = ap length is ∙ length-append gone (x ∷ xs) in
    fewer (omega (arith, l, number))

pub all_gone : (start n : ℕ) (old new : List Receipt) → HasLetGo start (length old) old n new → new ≡ above_start start old
all_gone start n old new h =
    sym (filter_left start new (left_above start n old h.gone new h.front h.number h.fewer)) ∙ sym (ap (above_start start) h.front ∙ filter_gone start h.gone new h.upto)

pub number_gone : {start most : ℕ} (n : ℕ) (old new : List Receipt) → HasLetGo start most old n new → n + length new ≡ length old
number_gone n old new h =
    let l = ap length h.front ∙ length-append h.gone new in
    let is = h.number in
    omega (arith, l, is)

pub forgotten_all : (start most n at : ℕ) (old now : SessionState) (list : List Receipt) (forgotten : ℕ) → old ≡ now → start ≡ at → HasLetGo start most old.receipts n list → most ≡ length old.receipts → forgotten ≡ max old.forgotten start → HasForgottenAll at now n (record old { receipts = list; forgotten = forgotten })
forgotten_all start most n at old now list forgotten same here h is later =
    let new : SessionState = record old { receipts = list; forgotten = forgotten } in
    let gone = all_gone start n old.receipts list (subst (λ (m : ℕ). HasLetGo start m old.receipts n list) is h) in
    let done : HasForgottenAll start old n new = record {
      session = λ k. record old { receipts = gone k; forgotten = later k };
      number = number_gone n old.receipts list h;
    } in
    subst (λ (s : SessionState). HasForgottenAll at s n new) same (subst (λ (k : ℕ). HasForgottenAll k old n new) here done)

-- ---- over several begins
module _ (o : Opening) where
  pub none_forgotten : (old new : List Receipt) → new ≡ old → HasForgottenAny o old new
  none_forgotten old new same = record { gone = []; front = sym same; each = tt }

  pub some_forgotten : {most : ℕ} (old new : SessionState) → HasForgottenSome o most old new → HasForgottenAny o old.receipts new.receipts
  some_forgotten old new h = record {
    gone = h.gone.gone;
    front = h.gone.front;
    each = each_weaker (λ (r : Receipt). r.end ≤ h.start) (λ (r : Receipt). WasUpToStart o r.end) (λ r le. (h.start, le, h.was)) h.gone.gone h.gone.upto;
  }

  pub more_forgotten : (old mid new : List Receipt) → HasForgottenAny o old mid → HasForgottenAny o mid new → HasForgottenAny o old new
  more_forgotten old mid new h k = record {
    gone = h.gone ++ k.gone;
    front = h.front ∙ ap (λ (rs : List Receipt). h.gone ++ rs) k.front ∙ sym (append_assoc h.gone k.gone new);
    each = each_append (λ (r : Receipt). WasUpToStart o r.end) h.gone k.gone h.each k.each;
  }
