-- Nobody starves: each chore that isn't one's own leaves fewer of them till one's own comes.
use Rattle.std.proofs.Common.{◌≡◌, ◌≢◌, ◌⊎◌, inl, inr, ℕ, zero, suc, ◌+◌, ◌-◌, ◌<◌, ◌≤◌, Bool, true, false, List, [], ◌∷◌, length, Option, Some, None, refl, sym, ap, subst, ◌∙◌, arith}
use Rattle.std.specs.Prelude.{nat_lt, if◌then◌else◌}
use Rattle.std.proofs.lemmas.Bool.{false≢true}
use Rattle.std.proofs.lemmas.Bool.Decides.{nat_tests}
use Rattle.mvo_store.specs.declared.call.StoreCall.{StoreCall}
use Rattle.mvo_keep.specs.declared.policy.Policy.{Policy}
use Rattle.mvo_keep.specs.declared.standing.Standing.{Standing}
use Rattle.mvo_keep.specs.declared.chore.Chore.{Chore}
use Rattle.mvo_keep.specs.declared.chore.Chore.TheVariants.{Flush, Step, Reclaim, Merge, Checkpoint, Rotate, Trim, Collect}
use Rattle.mvo_keep.specs.declared.choice.Choice.TheVariants.{LeastLive, LastSmall, MostDead}
use Rattle.mvo_keep.specs.declared.served.Served.{Served}
use Rattle.mvo_keep.specs.declared.served.Served.TheVariants.{Files, Memory}
use Rattle.mvo_keep.specs.declared.served.TheConstants.{MOST_TIMES}
use Rattle.mvo_keep.specs.Choosing.{chosen_place}
use Rattle.mvo_keep.specs.Due.{chore_when, step_chore, merge_chore, merge_if, or_next_chore, has_to_merge, may_checkpoint, has_to_rotate, may_trim, tidying, of_files, trimming, collecting, collection_first, files_first, next_served}
use Rattle.mvo_keep.specs.Keeping.{once_more, served_behind_collection, served_after}
use Rattle.mvo_keep.specs.Serving.{Turn, ComeInTurn, IsLeftOut, is_of_commits, is_of_versions, is_of_files, NobodyStarves}

-- ---- whose a chore is
abbrev IsOwn : (Chore → Bool) → Option Chore → Type 0
IsOwn is None = Unit {0}
IsOwn is (Some c) = is c ≡ true

own_when : (is : Chore → Bool) (b : Bool) (c : Chore) → is c ≡ true → IsOwn is (chore_when b c)
own_when is true c e = e
own_when is false c e = tt

own_or : (is : Chore → Bool) (a b : Option Chore) → IsOwn is a → IsOwn is b → IsOwn is (or_next_chore a b)
own_or is None b x y = y
own_or is (Some c) b x y = x

step_own : (o : Option StoreCall) → IsOwn is_of_files (step_chore o)
step_own None = tt
step_own (Some call) = refl

merge_own : (o : Option ℕ) → IsOwn is_of_files (merge_chore o)
merge_own None = tt
merge_own (Some place) = refl

if_own : (b : Bool) (o : Option Chore) → IsOwn is_of_files o → IsOwn is_of_files (merge_if b o)
if_own true o x = x
if_own false o x = tt

files_own : (p : Policy) (s : Standing) → IsOwn is_of_files (of_files p s)
files_own p s =
    let tidy = own_or is_of_files _ _ (merge_own (chosen_place p LastSmall s.pairs.items)) (own_or is_of_files _ _ (merge_own (chosen_place p MostDead s.pairs.items)) tt) in
    let rotate = own_or is_of_files _ _ (own_when is_of_files (has_to_rotate p s) Rotate refl) (own_or is_of_files _ _ tidy tt) in
    let checkpoint = own_or is_of_files _ _ (own_when is_of_files (may_checkpoint s) Checkpoint refl) rotate in
    let merge = own_or is_of_files _ _ (if_own (has_to_merge p s) _ (merge_own (chosen_place p LeastLive s.pairs.items))) checkpoint in
    let reclaim = own_or is_of_files _ _ (own_when is_of_files s.may_reclaim Reclaim refl) merge in
    own_or is_of_files _ _ (step_own s.step) reclaim

trim_own : (s : Standing) → IsOwn is_of_commits (trimming s)
trim_own s = own_when is_of_commits (may_trim s) (Trim s.earlier_mark) refl

collection_own : (p : Policy) (s : Standing) → IsOwn is_of_versions (collecting p s)
collection_own p s = own_when is_of_versions s.may_collect (Collect p.collected) refl

-- ---- which one is the first
some_is : (a b : Chore) → ◌≡◌ {A = Option Chore} (Some a) (Some b) → a ≡ b
some_is a b e = cc

none_first : (is : Chore → Bool) (x rest : Option Chore) (c : Chore) → x ≢ None → IsOwn is x → or_next_chore x rest ≡ Some c → is c ≡ false → ⊥
none_first is None rest c some own e isnt = some refl
none_first is (Some d) rest c some own e isnt = false≢true (sym isnt ∙ ap is (sym (some_is d c e)) ∙ own)

second : (is_a is : Chore → Bool) (a x rest : Option Chore) (c : Chore) → IsOwn is_a a → x ≢ None → IsOwn is x → or_next_chore a (or_next_chore x rest) ≡ Some c → is c ≡ false → is_a c ≡ true
second is_a is None x rest c before some own e isnt = absurd (none_first is x rest c some own e isnt)
second is_a is (Some d) x rest c before some own e isnt = ap is_a (sym (some_is d c e)) ∙ before

third : (is_a is_b is : Chore → Bool) (a b x rest : Option Chore) (c : Chore) → IsOwn is_a a → IsOwn is_b b → x ≢ None → IsOwn is x → or_next_chore a (or_next_chore b (or_next_chore x rest)) ≡ Some c → is c ≡ false → (is_a c ≡ true) ⊎ (is_b c ≡ true)
third is_a is_b is None b x rest c first before some own e isnt = inr (second is_b is b x rest c before some own e isnt)
third is_a is_b is (Some d) b x rest c first before some own e isnt = inl (ap is_a (sym (some_is d c e)) ∙ first)

-- ---- who was served last behind it
after_trim : (c : Chore) (last : Served) → is_of_commits c ≡ true → served_after c last ≡ Memory 0
after_trim (Trim upto) last e = refl
after_trim c last e = absurd (false≢true e)

after_collection : (c : Chore) (last : Served) → is_of_versions c ≡ true → served_after c last ≡ served_behind_collection last
after_collection (Collect most) last e = refl
after_collection c last e = absurd (false≢true e)

after_files : (c : Chore) (last : Served) → is_of_files c ≡ true → served_after c last ≡ Files
after_files Flush last e = absurd (false≢true e)
after_files (Trim upto) last e = absurd (false≢true e)
after_files (Collect most) last e = absurd (false≢true e)
after_files c last e = refl

more_once : (n times : ℕ) → n ≤ MOST_TIMES → nat_lt times n ≡ true → once_more times ≡ times + 1
more_once n times most lt = grind (arith, nat_tests)

-- ---- how many may come yet
-- till the files are served
abbrev files_in : ℕ → Served → ℕ
files_in n Files = n + 1
files_in n (Memory times) = n - times

-- till the stored commits are
abbrev trim_in : ℕ → Served → ℕ
trim_in n Files = 0
trim_in n (Memory times) = (n - times) + 1

-- till the versions are
abbrev collection_in : ℕ → Served → ℕ
collection_in n Files = 1
collection_in n (Memory times) = if nat_lt times n then 0 else 2

-- behind a chore that has come
module _ (room : Served → ℕ) (turns : List Turn) (c : Chore) (last : Served) where
  behind : (next : Served) → served_after c last ≡ next → length turns ≤ room (served_after c last) → length turns ≤ room next
  behind next e h = subst (λ (x : Served). length turns ≤ room x) e h

module _ (p : Policy) (most : p.in_a_row ≤ MOST_TIMES) where
  files_memory : (t : Turn) (turns : List Turn) (times : ℕ) (b : Bool) → nat_lt times p.in_a_row ≡ b → (if b then collection_first p t.0 else files_first p t.0) ≡ Some t.1 → of_files p t.0 ≢ None → is_of_files t.1 ≡ false → length turns ≤ files_in p.in_a_row (served_after t.1 (Memory times)) → length (t ∷ turns) ≤ files_in p.in_a_row (Memory times)
  files_memory t turns times true lt e some isnt ih =
      let is = second is_of_versions is_of_files (collecting p t.0) (of_files p t.0) _ t.1 (collection_own p t.0) some (files_own p t.0) e isnt in
      let one = more_once p.in_a_row times most lt in
      let next = after_collection t.1 (Memory times) is ∙ ap (λ (n : ℕ). Memory n) one in
      let left = behind (files_in p.in_a_row) turns t.1 (Memory times) (Memory (times + 1)) next ih in
      grind (arith, nat_tests, left, lt)
  files_memory t turns times false lt e some isnt ih = absurd (none_first is_of_files (of_files p t.0) _ t.1 some (files_own p t.0) e isnt)

  files_served : (turns : List Turn) (last : Served) → ComeInTurn p turns last → IsLeftOut (of_files p) is_of_files turns → length turns ≤ files_in p.in_a_row last
  files_served [] last are over = omega arith
  files_served (t ∷ turns) Files are over =
      let due = subst (λ (x : Served). next_served p t.0 x ≡ Some t.1) are.0 are.1 in
      let ih = files_served turns (served_after t.1 Files) are.2 over.2 in
      let whose = third is_of_commits is_of_versions is_of_files (trimming t.0) (collecting p t.0) (of_files p t.0) None t.1 (trim_own t.0) (collection_own p t.0) over.0 (files_own p t.0) due over.1 in
      elim whose [
        | inl is ↦ let left = behind (files_in p.in_a_row) turns t.1 Files (Memory 0) (after_trim t.1 Files is) ih in omega (arith, left)
        | inr is ↦ let left = behind (files_in p.in_a_row) turns t.1 Files (Memory 1) (after_collection t.1 Files is) ih in omega (arith, left)
      ]
  files_served (t ∷ turns) (Memory times) are over =
      let due = subst (λ (x : Served). next_served p t.0 x ≡ Some t.1) are.0 are.1 in
      let ih = files_served turns (served_after t.1 (Memory times)) are.2 over.2 in
      files_memory t turns times (nat_lt times p.in_a_row) refl due over.0 over.1 ih

  trim_memory : (t : Turn) (turns : List Turn) (times : ℕ) (b : Bool) → nat_lt times p.in_a_row ≡ b → (if b then collection_first p t.0 else files_first p t.0) ≡ Some t.1 → trimming t.0 ≢ None → is_of_commits t.1 ≡ false → length turns ≤ trim_in p.in_a_row (served_after t.1 (Memory times)) → length (t ∷ turns) ≤ trim_in p.in_a_row (Memory times)
  trim_memory t turns times true lt e some isnt ih = elim (third is_of_versions is_of_files is_of_commits (collecting p t.0) (of_files p t.0) (trimming t.0) None t.1 (collection_own p t.0) (files_own p t.0) some (trim_own t.0) e isnt) [
    | inl is ↦
        let one = more_once p.in_a_row times most lt in
        let next = after_collection t.1 (Memory times) is ∙ ap (λ (n : ℕ). Memory n) one in
        let left = behind (trim_in p.in_a_row) turns t.1 (Memory times) (Memory (times + 1)) next ih in
        grind (arith, nat_tests, left, lt)
    | inr is ↦ let left = behind (trim_in p.in_a_row) turns t.1 (Memory times) Files (after_files t.1 (Memory times) is) ih in omega (arith, left)
  ]
  trim_memory t turns times false lt e some isnt ih =
      let is = second is_of_files is_of_commits (of_files p t.0) (trimming t.0) _ t.1 (files_own p t.0) some (trim_own t.0) e isnt in
      let left = behind (trim_in p.in_a_row) turns t.1 (Memory times) Files (after_files t.1 (Memory times) is) ih in
      omega (arith, left)

  trim_served : (turns : List Turn) (last : Served) → ComeInTurn p turns last → IsLeftOut trimming is_of_commits turns → length turns ≤ trim_in p.in_a_row last
  trim_served [] last are over = omega arith
  trim_served (t ∷ turns) Files are over =
      let due = subst (λ (x : Served). next_served p t.0 x ≡ Some t.1) are.0 are.1 in
      absurd (none_first is_of_commits (trimming t.0) _ t.1 over.0 (trim_own t.0) due over.1)
  trim_served (t ∷ turns) (Memory times) are over =
      let due = subst (λ (x : Served). next_served p t.0 x ≡ Some t.1) are.0 are.1 in
      let ih = trim_served turns (served_after t.1 (Memory times)) are.2 over.2 in
      trim_memory t turns times (nat_lt times p.in_a_row) refl due over.0 over.1 ih

  -- the versions are served at once where nothing was collected in a row
  none_left : (turns : List Turn) → 0 < p.in_a_row → length turns ≤ collection_in p.in_a_row (Memory 0) → length turns ≡ 0
  none_left turns some h = grind (arith, nat_tests, some, h)

  two_left : (times : ℕ) → nat_lt times p.in_a_row ≡ false → collection_in p.in_a_row (Memory times) ≡ 2
  two_left times e = ap (λ (b : Bool). if b then 0 else 2) e

  collection_memory : 0 < p.in_a_row → (t : Turn) (turns : List Turn) (times : ℕ) (b : Bool) → nat_lt times p.in_a_row ≡ b → (if b then collection_first p t.0 else files_first p t.0) ≡ Some t.1 → collecting p t.0 ≢ None → is_of_versions t.1 ≡ false → length turns ≤ collection_in p.in_a_row (served_after t.1 (Memory times)) → length (t ∷ turns) ≤ collection_in p.in_a_row (Memory times)
  collection_memory row t turns times true lt e some isnt ih = absurd (none_first is_of_versions (collecting p t.0) _ t.1 some (collection_own p t.0) e isnt)
  collection_memory row t turns times false lt e some isnt ih =
      let two = two_left times lt in
      elim (third is_of_files is_of_commits is_of_versions (of_files p t.0) (trimming t.0) (collecting p t.0) None t.1 (files_own p t.0) (trim_own t.0) some (collection_own p t.0) e isnt) [
        | inl is ↦ let left = behind (collection_in p.in_a_row) turns t.1 (Memory times) Files (after_files t.1 (Memory times) is) ih in omega (arith, left, two)
        | inr is ↦ let left = none_left turns row (behind (collection_in p.in_a_row) turns t.1 (Memory times) (Memory 0) (after_trim t.1 (Memory times) is) ih) in omega (arith, left, two)
      ]

  collection_served : 0 < p.in_a_row → (turns : List Turn) (last : Served) → ComeInTurn p turns last → IsLeftOut (collecting p) is_of_versions turns → length turns ≤ collection_in p.in_a_row last
  collection_served row [] last are over = omega arith
  collection_served row (t ∷ turns) Files are over =
      let due = subst (λ (x : Served). next_served p t.0 x ≡ Some t.1) are.0 are.1 in
      let ih = collection_served row turns (served_after t.1 Files) are.2 over.2 in
      let is = second is_of_commits is_of_versions (trimming t.0) (collecting p t.0) _ t.1 (trim_own t.0) over.0 (collection_own p t.0) due over.1 in
      let left = none_left turns row (behind (collection_in p.in_a_row) turns t.1 Files (Memory 0) (after_trim t.1 Files is) ih) in
      omega (arith, left)
  collection_served row (t ∷ turns) (Memory times) are over =
      let due = subst (λ (x : Served). next_served p t.0 x ≡ Some t.1) are.0 are.1 in
      let ih = collection_served row turns (served_after t.1 (Memory times)) are.2 over.2 in
      collection_memory row t turns times (nat_lt times p.in_a_row) refl due over.0 over.1 ih

  few : (n : ℕ) (b : Bool) → 0 < p.in_a_row → n ≤ (if b then 0 else 2) → n ≤ p.in_a_row + 1
  few n true row h = omega (arith, row, h)
  few n false row h = omega (arith, row, h)

  within_files : (n : ℕ) (last : Served) → n ≤ files_in p.in_a_row last → n ≤ p.in_a_row + 1
  within_files n Files h = h
  within_files n (Memory times) h = omega (arith, h)

  within_trim : (n : ℕ) (last : Served) → n ≤ trim_in p.in_a_row last → n ≤ p.in_a_row + 1
  within_trim n Files h = omega (arith, h)
  within_trim n (Memory times) h = omega (arith, h)

  within_collection : 0 < p.in_a_row → (n : ℕ) (last : Served) → n ≤ collection_in p.in_a_row last → n ≤ p.in_a_row + 1
  within_collection row n Files h = omega (arith, row, h)
  within_collection row n (Memory times) h = few n (nat_lt times p.in_a_row) row h

pub nobody_starves : NobodyStarves
nobody_starves p row most turns last are =
    let n = length turns in (
      λ over. within_files p most n last (files_served p most turns last are over),
      λ over. within_trim p most n last (trim_served p most turns last are over),
      λ over. within_collection p most row n last (collection_served p most row turns last are over),
    )
