-- Two neighbouring pairs among others, and their live records.
use Rattle.std.proofs.Common.{◌≡◌, ℕ, zero, suc, ◌+◌, ◌<◌, ◌^◌, List, [], ◌∷◌, ◌++◌, length, take, drop, refl, sym, ap, ◌∙◌, arith, append_assoc, length-append}
use Rattle.std.specs.Prelude.{All}
use Rattle.std.specs.List.{Contains}
use Rattle.std.proofs.lemmas.List.{take_at, drop_at}
use Rattle.std.proofs.lemmas.List.Elements.{Contains-append_right}
use Rattle.mvo_pair.specs.declared.pair.Pair.{Pair}
use Rattle.mvo_pair.specs.Data.{Numbered}
use Rattle.mvo_manifest.specs.Rules.{IsPair, PairsRise}
use Rattle.mvo_recovery.specs.image.Opens.{Image}
use Rattle.mvo_recovery.specs.image.Gives.{HaveLive}
use Rattle.mvo_recovery.specs.beside.Seen.{SeenData, Loads, lives_now}

-- these are the live records of the two, and of those before and behind them
pub record HaveTwo (upto : ℕ) (content : Image) (before : List Pair) (p q : Pair) (all : List (List Numbered)) : Type 0 where
  pub front : List (List Numbered)
  pub left : List Numbered
  pub right : List Numbered
  pub back : List (List Numbered)
  pub are : all ≡ front ++ left ∷ right ∷ back
  pub each : length before ≡ length front
  pub left_has : Loads upto content p left
  pub right_has : Loads upto content q right

pub have_two : (upto : ℕ) (content : Image) (before : List Pair) (p q : Pair) (behind : List Pair) (all : List (List Numbered)) → HaveLive upto content (before ++ p ∷ q ∷ behind) all → HaveTwo upto content before p q all
have_two upto content [] p q behind [] have = absurd have
have_two upto content [] p q behind (l ∷ []) have = absurd have.1
have_two upto content [] p q behind (l ∷ (r ∷ ls)) have = record { front = []; left = l; right = r; back = ls; are = refl; each = refl; left_has = have.0; right_has = have.1.0 }
have_two upto content (b ∷ before) p q behind [] have = absurd have
have_two upto content (b ∷ before) p q behind (l ∷ ls) have =
    let more = have_two upto content before p q behind ls have.1 in
    record {
      front = l ∷ more.front;
      left = more.left;
      right = more.right;
      back = more.back;
      are = ap (λ (k : List (List Numbered)). l ∷ k) more.are;
      each = ap suc more.each;
      left_has = more.left_has;
      right_has = more.right_has;
    }

-- with one pair in the place of the two
pub have_one : (upto : ℕ) (content : Image) (before behind : List Pair) (p q r : Pair) (front back : List (List Numbered)) (left right live : List Numbered) → length before ≡ length front → HaveLive upto content (before ++ p ∷ q ∷ behind) (front ++ left ∷ right ∷ back) → Loads upto content r live
    → HaveLive upto content (before ++ r ∷ behind) (front ++ live ∷ back)
have_one upto content [] behind p q r [] back left right live each have one = (one, have.1.1)
have_one upto content [] behind p q r (l ∷ front) back left right live each have one = absurd (omega (arith, each))
have_one upto content (b ∷ before) behind p q r [] back left right live each have one = absurd (omega (arith, each))
have_one upto content (b ∷ before) behind p q r (l ∷ front) back left right live each have one = (have.0, have_one upto content before behind p q r front back left right live (omega (arith, each)) have.1 one)

-- by their place among all
pub lives_at : (s : SeenData) (live : List Numbered) (all front back : List (List Numbered)) (left right : List Numbered) → all ≡ front ++ left ∷ right ∷ back → length front ≡ s.place → lives_now s live all ≡ front ++ live ∷ back
lives_at s live all front back left right are at =
    let first : take s.place all ≡ front = ap (λ (ls : List (List Numbered)). take s.place ls) are ∙ take_at front (left ∷ right ∷ back) s.place at in
    let whole : all ≡ (front ++ left ∷ right ∷ []) ++ back = are ∙ sym (append_assoc front (left ∷ right ∷ []) back) in
    let rest : drop (s.place + 2) all ≡ back = ap (λ (ls : List (List Numbered)). drop (s.place + 2) ls) whole ∙ drop_at (front ++ left ∷ right ∷ []) back (s.place + 2) (omega (arith, at, length-append front (left ∷ right ∷ []))) in
    ap (λ (ls : List (List Numbered)). ls ++ live ∷ drop (s.place + 2) all) first
    ∙ ap (λ (ls : List (List Numbered)). front ++ live ∷ ls) rest

-- ---- pairs

pub two_rules : (lo mark : ℕ) (before behind : List Pair) (p q : Pair) → PairsRise lo (before ++ p ∷ q ∷ behind) mark → IsPair p.lo.0 p × IsPair p.hi.0 q
two_rules lo mark [] behind p q rise = (record { begins = refl; above = rise.0.above; top = rise.0.top; records = rise.0.records }, rise.1.0)
two_rules lo mark (b ∷ before) behind p q rise = two_rules b.hi.0 mark before behind p q rise.1

pub few_one : (before behind : List Pair) (p q r : Pair) → r.entries < 2 ^ 32 → All (λ s. s.entries < 2 ^ 32) (before ++ p ∷ q ∷ behind) → All (λ s. s.entries < 2 ^ 32) (before ++ r ∷ behind)
few_one [] behind p q r small few zero d lt = small
few_one [] behind p q r small few (suc k) d lt = few (suc (suc k)) d (omega (arith, lt))
few_one (b ∷ before) behind p q r small few zero d lt = few 0 d (omega arith)
few_one (b ∷ before) behind p q r small few (suc k) d lt = few_one before behind p q r small (λ i e less. few (suc i) e (omega (arith, less))) k d (omega (arith, lt))

pub has_first : (before behind : List Pair) (p q : Pair) → Contains (before ++ p ∷ q ∷ behind) p
has_first before behind p q = Contains-append_right before (p ∷ q ∷ behind) p (0, omega arith, refl)

pub has_second : (before behind : List Pair) (p q : Pair) → Contains (before ++ p ∷ q ∷ behind) q
has_second before behind p q = Contains-append_right before (p ∷ q ∷ behind) q (1, omega arith, refl)
