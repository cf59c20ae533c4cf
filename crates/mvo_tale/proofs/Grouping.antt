-- The next group, out of what a walk over the places gathered.
use Rattle.std.proofs.Common.{◌≡◌, ℕ, suc, ◌+◌, ◌-◌, ◌^◌, ◌<◌, ◌≤◌, Bool, true, false, cond, List, [], ◌∷◌, ◌++◌, length, map, take, drop, get_or, refl, inl, inr, sym, ap, ◌∙◌, subst, arith, append-nil, length-append}
use Rattle.std.specs.Prelude.{◌⊎◌, nat_lt, nat_le, ◌&&◌, filter, IsSome, Option, Some, slice_get, option_and_then, ⊤}
use Rattle.std.specs.List.{AllByRecursion, sum_by}
use Rattle.std.specs.List.Sorted.{IsStrictlyIncreasing, IsStrictlySortedBy}
use Rattle.std.specs.Ordering.{nat_cmp}
use Rattle.std.specs.declared.cmp.Ordering.TheVariants.{Less}
use Rattle.std.proofs.lemmas.Bool.{true≢false, lt-ltb, lt-leb, le-leb, ltb-true, leb-true, leb-false}
use Rattle.std.proofs.lemmas.List.{take_more}
use Rattle.std.proofs.lemmas.Option.{slice_get_read}
use Rattle.std.proofs.lemmas.List.Elements.{All-from_recursion}
use Rattle.std.proofs.lemmas.List.Sums.{sum_by_push}
use Rattle.std.proofs.lemmas.Map.Keys.{IsStrictlyIncreasing-from_sorted}
use Rattle.std.proofs.Math.Seq.{drop-append_seam, take-add}
use Rattle.mvo_theory.specs.Marks.{Commit}
use Rattle.mvo_theory.specs.Groups.{is_writing, is_due, IsFull, IsLongest, last_of, mark_by}
use Rattle.mvo_theory.proofs.Each.{each_filter, each_always, each_front}
use Rattle.mvo_theory.proofs.OriginSteps.{and_false}
use Rattle.mvo_group.specs.Data.{RecordData, group_of}
use Rattle.mvo_group.specs.Rules.{KeepsRules, record_len}
use Rattle.mvo_group.proofs.Orders.{lt_cmp}
use Rattle.mvo_tale.specs.declared.tale_place.TalePlace.{TalePlace}
use Rattle.mvo_tale.specs.declared.tale_place.TalePlace.TheVariants.{Settled}
use Rattle.mvo_tale.specs.declared.next_records.NextRecords.{NextRecords}
use Rattle.mvo_tale.specs.Stored.{StoredCommit, stored_commit_of}
use Rattle.mvo_tale.specs.Slots.{ends, open_ends, tale_commits, AreRising, stored_of}
use Rattle.mvo_tale.specs.Records.{IsRecordOf, AreRecordsOf, commit_len, fits}
use Rattle.mvo_tale.specs.Next.{due_in, NoneIsDue, IsBehindStored, AreGroupedTo, AreNextRecords}
use Rattle.mvo_tale.specs.Walk.{IsDueAt, AreFitting, HasOneRecordMore, IsTooMuch, end_behind}
use Rattle.mvo_tale.proofs.Rising.{RisingCommits, commits-append, open_ends-append, rising_filter, rising_taken}
use Rattle.mvo_tale.proofs.Moving.{stored_behind}
use Rattle.mvo_tale.proofs.DueCommits.{within_not_due, not_due_later, none_later, none_due, due_more, none_more, opens_more, left_from, due_parts, due_first, passed_within}

-- ---- what the walk has gathered before a place
pub record IsWalked (slots : List TalePlace) (prev low place next : ℕ) (rs : List RecordData) : Type 0 where
  pub records : AreRecordsOf (due_in prev low (take place slots)) rs
  pub len : sum_by record_len rs ≡ sum_by commit_len (due_in prev low (take place slots))
  pub passed : NoneIsDue low (tale_commits (take place slots))
  pub settled : open_ends (take place slots) ≡ []
  pub behind : IsBehindStored slots next
  pub below : next ≤ place

pub walked_first : (slots : List TalePlace) (prev low from : ℕ) → prev < low → AreGroupedTo slots from prev → IsWalked slots prev low from from []
walked_first slots prev low from lt h =
    let none = none_due prev low (tale_commits (take from slots)) h.grouped in
    record {
      records = subst (λ cs. AreRecordsOf cs []) (sym none) tt;
      len = ap (λ cs. sum_by commit_len cs) (sym none);
      passed = none_later prev low (tale_commits (take from slots)) (omega arith) h.grouped;
      settled = h.settled;
      behind = h.behind;
      below = omega arith;
    }

-- no commit is at the place
pub walked_over : (slots : List TalePlace) (prev low place next : ℕ) (rs : List RecordData) (x : TalePlace) → place < length slots → x ≡ get_or slots place x → due_in prev low (x ∷ []) ≡ [] → NoneIsDue low (tale_commits (x ∷ [])) → open_ends (x ∷ []) ≡ [] → (new : ℕ) → IsBehindStored slots new → new ≤ place + 1 → IsWalked slots prev low place next rs → IsWalked slots prev low (place + 1) new rs
walked_over slots prev low place next rs x lt is none not opens new b le h =
    let same : due_in prev low (take (place + 1) slots) ≡ due_in prev low (take place slots) = due_more prev low slots place x lt is ∙ ap (λ cs. due_in prev low (take place slots) ++ cs) none ∙ append-nil (due_in prev low (take place slots)) in
    record {
      records = subst (λ cs. AreRecordsOf cs rs) (sym same) h.records;
      len = h.len ∙ ap (λ cs. sum_by commit_len cs) (sym same);
      passed = none_more low slots place x lt is h.passed not;
      settled = opens_more slots place x lt is h.settled opens;
      behind = b;
      below = le;
    }

records_push : (cs : List Commit) (rs : List RecordData) (c : Commit) (r : RecordData) → AreRecordsOf cs rs → IsRecordOf c r → AreRecordsOf (cs ++ c ∷ []) (rs ++ r ∷ [])
records_push [] [] c r h is = (is, tt)
records_push [] (q ∷ rs) c r h is = absurd h
records_push (d ∷ cs) [] c r h is = absurd h
records_push (d ∷ cs) (q ∷ rs) c r h is = (h.0, records_push cs rs c r h.1 is)

-- the commit at the place is taken
pub walked_more : (slots : List TalePlace) (prev low place next : ℕ) (rs rs' : List RecordData) (x : TalePlace) (commit : StoredCommit) → place < length slots → x ≡ get_or slots place x → IsDueAt prev low x commit → HasOneRecordMore (stored_commit_of commit) rs rs' → IsBehindStored slots (place + 1) → IsWalked slots prev low place next rs → IsWalked slots prev low (place + 1) (place + 1) rs'
walked_more slots prev low place next rs rs' x commit lt is due one b h =
    let d = due_in prev low (take place slots) in
    let c = stored_commit_of commit in
    let more : due_in prev low (take (place + 1) slots) ≡ d ++ c ∷ [] = due_more prev low slots place x lt is ∙ ap (λ cs. d ++ cs) (due_first prev low x [] commit due) in
    record {
      records = subst (λ cs. AreRecordsOf cs rs') (sym more) (subst (λ qs. AreRecordsOf (d ++ c ∷ []) qs) (sym one.more) (records_push d rs c one.added h.records one.is));
      len = ap (λ qs. sum_by record_len qs) one.more ∙ sum_by_push record_len rs one.added
          ∙ omega (arith, h.len, one.len)
          ∙ sym (ap (λ cs. sum_by commit_len cs) more ∙ sum_by_push commit_len d c);
      passed = none_more low slots place x lt is h.passed (passed_within low x commit due.at due.within);
      settled = opens_more slots place x lt is h.settled (ap (λ y. open_ends (y ∷ [])) due.at);
      behind = b;
      below = omega arith;
    }

-- ---- the longest beginning
records_count : (cs : List Commit) (rs : List RecordData) → AreRecordsOf cs rs → length rs ≡ length cs
records_count [] [] h = refl
records_count [] (r ∷ rs) h = absurd h
records_count (c ∷ cs) [] h = absurd h
records_count (c ∷ cs) (r ∷ rs) h = ap suc (records_count cs rs h.1)

fits_is : (cs : List Commit) (rs : List RecordData) → AreRecordsOf cs rs → sum_by record_len rs ≡ sum_by commit_len cs → AreFitting rs → fits cs ≡ true
fits_is cs rs h e f =
    let n = records_count cs rs h in
    let few = f.few in
    let size = f.size in
    ap (λ (b : Bool). b && nat_le (18 + sum_by commit_len cs) 4194304) (le-leb (length cs) 1024 (omega arith))
    ∙ le-leb (18 + sum_by commit_len cs) 4194304 (omega arith)

too_many : (cs : List Commit) → 1024 < length cs → fits cs ≡ false
too_many cs lt = ap (λ (b : Bool). b && nat_le (18 + sum_by commit_len cs) 4194304) (lt-leb (length cs) 1024 lt)

too_long : (cs : List Commit) → 4194304 < 18 + sum_by commit_len cs → fits cs ≡ false
too_long cs lt = and_false (nat_le (length cs) 1024) (nat_le (18 + sum_by commit_len cs) 4194304) (lt-leb (18 + sum_by commit_len cs) 4194304 lt)

full_at : (cs : List Commit) (rs : List RecordData) (c : Commit) → AreRecordsOf cs rs → sum_by record_len rs ≡ sum_by commit_len cs → IsTooMuch c rs → fits (cs ++ c ∷ []) ≡ false
full_at cs rs c h e t = go t.over
  where
    go : (1024 ≤ length rs) ⊎ (4194304 < 18 + sum_by record_len rs + commit_len c) → fits (cs ++ c ∷ []) ≡ false
    go (inl le) = too_many (cs ++ c ∷ []) (omega (arith, records_count cs rs h, length-append cs (c ∷ [])))
    go (inr lt) = too_long (cs ++ c ∷ []) (omega (arith, lt, e, sum_by_push commit_len cs c))

rest_is : (cs taken rest : List Commit) → cs ≡ taken ++ rest → drop (length taken) cs ≡ rest
rest_is cs taken rest e = ap (drop (length taken)) e ∙ drop-append_seam taken rest

longest_is : (cs taken rest : List Commit) → cs ≡ taken ++ rest → fits taken ≡ true → IsFull fits taken rest → IsLongest fits cs taken
longest_is cs taken rest e f full = record {
  beginning = ap (λ ds. taken ++ ds) (rest_is cs taken rest e) ∙ sym e;
  within = f;
  full = subst (IsFull fits taken) (sym (rest_is cs taken rest e)) full;
}

-- ---- the mark behind the last one that is taken
last_is : (e : ℕ) (cs : List Commit) (rs : List RecordData) → AreRecordsOf cs rs → end_behind e rs ≡ last_of e cs
last_is e [] [] h = refl
last_is e [] (r ∷ rs) h = absurd h
last_is e (c ∷ cs) [] h = absurd h
last_is e (c ∷ cs) (r ∷ rs) h = ap (λ (k : ℕ). end_behind k rs) h.0.end' ∙ last_is c.0 cs rs h.1

record IsLast (e : ℕ) (cs : List Commit) : Type 0 where
  pub from : e ≤ last_of e cs
  pub over : 1 ≤ length cs → e < last_of e cs
  pub below : AllByRecursion (λ c. c.0 ≤ last_of e cs) cs

lasts : (e : ℕ) (cs : List Commit) → AllByRecursion (λ c. e < c.0) cs → RisingCommits cs → IsLast e cs
lasts e [] h r = record { from = omega arith; over = λ le. absurd (omega arith); below = tt }
lasts e (c ∷ cs) h r =
    let q = lasts c.0 cs r.0 r.1 in
    let f = q.from in
    let l = h.0 in
    record { from = omega arith; over = λ le. omega arith; below = (f, q.below) }

last_within : (n e : ℕ) (cs : List Commit) → e ≤ n → AllByRecursion (λ c. c.0 ≤ n) cs → last_of e cs ≤ n
last_within n e [] le h = le
last_within n e (c ∷ cs) le h = last_within n c.0 cs h.0 h.1

due_above : (prev : ℕ) (cs : List Commit) → AllByRecursion (λ c. prev < c.0) (filter (is_due prev) cs)
due_above prev cs = each_filter (is_due prev) (λ c. ⊤) (λ c. prev < c.0) (λ c e t. above c (nat_lt prev c.0) refl e) cs (each_always (λ c. ⊤) (λ c. tt) cs)
  where
    above : (c : Commit) (a : Bool) → nat_lt prev c.0 ≡ a → (a && is_writing c) ≡ true → prev < c.0
    above c true e h = ltb-true prev c.0 e
    above c false e h = absurd (true≢false (sym h))

due_within : (prev low : ℕ) (cs : List Commit) → AllByRecursion (λ c. c.0 ≤ low) (filter (is_due prev) (filter (λ c. nat_le c.0 low) cs))
due_within prev low cs =
    each_filter (is_due prev) (λ c. c.0 ≤ low) (λ c. c.0 ≤ low) (λ c e le. le) (filter (λ c. nat_le c.0 low) cs)
    (each_filter (λ c. nat_le c.0 low) (λ c. ⊤) (λ c. c.0 ≤ low) (λ c e t. leb-true c.0 low e) cs (each_always (λ c. ⊤) (λ c. tt) cs))

each_rest : (P : Commit → Type 0) (p : Commit → Bool) (a : Bool) (c : Commit) (cs : List Commit) → AllByRecursion P (filter p (cond a (c ∷ cs) cs)) → AllByRecursion P (filter p cs)
each_rest P p false c cs h = h
each_rest P p true c cs h = go (p c) h
  where
    go : (b : Bool) → AllByRecursion P (cond b (c ∷ filter p cs) (filter p cs)) → AllByRecursion P (filter p cs)
    go true k = k.1
    go false k = k

idle_above : (low mark : ℕ) (c : Commit) → low < c.0 → is_due low c ≡ false → is_due mark c ≡ false
idle_above low mark c lt h = and_false (nat_lt mark c.0) (is_writing c) (ap (λ (b : Bool). b && is_writing c) (sym (lt-ltb low c.0 lt)) ∙ h)

first_behind : (prev low mark : ℕ) (c : Commit) (cs : List Commit) → prev ≤ mark → is_due low c ≡ false → (a : Bool) → nat_le c.0 low ≡ a → (b : Bool) → is_due prev c ≡ b → AllByRecursion (λ d. d.0 ≤ mark) (filter (is_due prev) (cond a (c ∷ cs) cs)) → is_due mark c ≡ false
first_behind prev low mark c cs le h false e b f q = idle_above low mark c (leb-false c.0 low e) h
first_behind prev low mark c cs le h true e false f q = not_due_later prev mark c le f
first_behind prev low mark c cs le h true e true f q =
    let first = subst (λ (v : Bool). AllByRecursion (λ d. d.0 ≤ mark) (cond v (c ∷ filter (is_due prev) cs) (filter (is_due prev) cs))) f q in
    within_not_due mark c first.0

-- of those that were passed none is due after the mark, if those that were due end at most there
none_behind_mark : (prev low mark : ℕ) (cs : List Commit) → prev ≤ mark → NoneIsDue low cs → AllByRecursion (λ c. c.0 ≤ mark) (filter (is_due prev) (filter (λ c. nat_le c.0 low) cs)) → NoneIsDue mark cs
none_behind_mark prev low mark [] le h k = tt
none_behind_mark prev low mark (c ∷ cs) le h k =
    let rest = filter (λ d. nat_le d.0 low) cs in (
      first_behind prev low mark c rest le h.0 (nat_le c.0 low) refl (is_due prev c) refl k,
      none_behind_mark prev low mark cs le h.1 (each_rest (λ d. d.0 ≤ mark) (is_due prev) (nat_le c.0 low) c rest k),
    )

-- ---- the rules of a group
ends_of : (cs : List Commit) (rs : List RecordData) → AreRecordsOf cs rs → map (λ r. r.end) rs ≡ map (λ c. c.0) cs
ends_of [] [] h = refl
ends_of [] (r ∷ rs) h = absurd h
ends_of (c ∷ cs) [] h = absurd h
ends_of (c ∷ cs) (r ∷ rs) h = ap (λ (e : ℕ). e ∷ map (λ q. q.end) rs) h.0.end' ∙ ap (λ es. c.0 ∷ es) (ends_of cs rs h.1)

rising_ends : (cs : List Commit) → RisingCommits cs → IsStrictlySortedBy nat_cmp (map (λ c. c.0) cs)
unfolding IsStrictlySortedBy
rising_ends [] h = tt
rising_ends (c ∷ cs) h = (go cs h.0, rising_ends cs h.1)
  where
    go : (ds : List Commit) → AllByRecursion (λ d. c.0 < d.0) ds → AllByRecursion (λ (e : ℕ). nat_cmp c.0 e ≡ Less) (map (λ d. d.0) ds)
    go [] k = tt
    go (d ∷ ds) k = (lt_cmp c.0 d.0 k.0, go ds k.1)

ends_within : (prev mark : ℕ) (cs : List Commit) (rs : List RecordData) → AreRecordsOf cs rs → AllByRecursion (λ c. prev < c.0) cs → AllByRecursion (λ c. c.0 ≤ mark) cs → AllByRecursion (λ (r : RecordData). (prev < r.end) × (r.end ≤ mark)) rs
ends_within prev mark [] [] h a b = tt
ends_within prev mark [] (r ∷ rs) h a b = absurd h
ends_within prev mark (c ∷ cs) [] h a b = absurd h
ends_within prev mark (c ∷ cs) (r ∷ rs) h a b = ((let e = h.0.end' in let p = a.0 in omega arith, let e = h.0.end' in let p = b.0 in omega arith), ends_within prev mark cs rs h.1 a.1 b.1)

keeps_rules : (prev mark : ℕ) (cs : List Commit) (rs : List RecordData) → prev < mark → mark ≤ 2 ^ 62 → RisingCommits cs → AllByRecursion (λ c. prev < c.0) cs → AllByRecursion (λ c. c.0 ≤ mark) cs → AreRecordsOf cs rs → AreFitting rs → KeepsRules (group_of prev mark rs)
keeps_rules prev mark cs rs lt le rising above below h f = record {
  above = lt;
  mark = le;
  few = f.few;
  rise = subst IsStrictlyIncreasing (sym (ends_of cs rs h)) (IsStrictlyIncreasing-from_sorted (map (λ c. c.0) cs) (rising_ends cs rising));
  within = All-from_recursion (λ (r : RecordData). (prev < r.end) × (r.end ≤ mark)) rs (ends_within prev mark cs rs h above below);
  each = f.each;
  size = f.size;
}

-- ---- the next group
rising_due : (slots : List TalePlace) (prev low place : ℕ) → AreRising (ends slots) → RisingCommits (due_in prev low (take place slots))
rising_due slots prev low place r = rising_filter (is_due prev) (filter (λ c. nat_le c.0 low) (tale_commits (take place slots))) (rising_filter (λ c. nat_le c.0 low) (tale_commits (take place slots)) (rising_taken place slots r))

taken_parts : (p n : ℕ) (xs : List TalePlace) → n ≤ p → take p xs ≡ take n xs ++ take (p - n) (drop n xs)
taken_parts p n xs le = let both : n + (p - n) ≡ p = omega arith in ap (λ (m : ℕ). take m xs) (sym both) ∙ take-add n (p - n) xs

up_to_next : (slots : List TalePlace) (place next mark : ℕ) → next ≤ place → NoneIsDue mark (tale_commits (take place slots)) → NoneIsDue mark (tale_commits (take next slots))
up_to_next slots place next mark le h =
    each_front (λ c. is_due mark c ≡ false) (tale_commits (take next slots)) (tale_commits (take (place - next) (drop next slots)))
    (subst (NoneIsDue mark) (ap tale_commits (taken_parts place next slots le) ∙ commits-append (take next slots) (take (place - next) (drop next slots))) h)

opens_to_next : (slots : List TalePlace) (place next : ℕ) → next ≤ place → open_ends (take place slots) ≡ [] → open_ends (take next slots) ≡ []
opens_to_next slots place next le h = front (open_ends (take next slots)) (open_ends (take (place - next) (drop next slots))) (sym (ap open_ends (taken_parts place next slots le) ∙ open_ends-append (take next slots) (take (place - next) (drop next slots))) ∙ h)
  where
    none : (e : ℕ) (es : List ℕ) → ◌≡◌ {A = List ℕ} (e ∷ es) [] → ⊥
    none e es k = cc

    front : (es fs : List ℕ) → es ++ fs ≡ [] → es ≡ []
    front [] fs k = refl
    front (e ∷ es) fs k = absurd (none e (es ++ fs) k)

-- where all that are due fit
pub next_whole : (slots : List TalePlace) (prev low place next : ℕ) (rs : List RecordData) (n : NextRecords) → AreFitting rs → IsWalked slots prev low place next rs → due_in prev low (drop place slots) ≡ [] → n.records.items ≡ rs → n.mark.0 ≡ low → n.next ≡ next → AreNextRecords slots prev low n
next_whole slots prev low place next rs n f h none e m x =
    let d = due_in prev low (take place slots) in
    let parts = due_parts prev low slots place in
    let full : IsFull fits d (due_in prev low (drop place slots)) = subst (IsFull fits d) (sym none) tt in
    record {
      taken = d;
      longest = longest_is (due_in prev low slots) d (due_in prev low (drop place slots)) parts (fits_is d rs h.records h.len f) full;
      records = subst (AreRecordsOf d) (sym e) h.records;
      mark = m ∙ sym (ap (mark_by low prev d) (rest_is (due_in prev low slots) d (due_in prev low (drop place slots)) parts ∙ none));
      next = record {
        behind = subst (IsBehindStored slots) (sym x) h.behind;
        settled = subst (λ (i : ℕ). open_ends (take i slots) ≡ []) (sym x) (opens_to_next slots place next h.below h.settled);
        grouped = subst (λ (i : ℕ). NoneIsDue i (tale_commits (take n.next slots))) (sym m) (subst (λ (i : ℕ). NoneIsDue low (tale_commits (take i slots))) (sym x) (up_to_next slots place next low h.below h.passed));
      };
    }

pub rules_whole : (slots : List TalePlace) (prev low place next : ℕ) (rs : List RecordData) (n : NextRecords) → AreRising (ends slots) → prev < low → low ≤ 2 ^ 62 → AreFitting rs → IsWalked slots prev low place next rs → n.records.items ≡ rs → n.mark.0 ≡ low → KeepsRules (group_of prev n.mark.0 n.records.items)
rules_whole slots prev low place next rs n r lt le f h e m =
    subst (λ (i : ℕ). KeepsRules (group_of prev i n.records.items)) (sym m)
    (subst (λ qs. KeepsRules (group_of prev low qs)) (sym e)
    (keeps_rules prev low (due_in prev low (take place slots)) rs lt le (rising_due slots prev low place r) (due_above prev (filter (λ c. nat_le c.0 low) (tale_commits (take place slots)))) (due_within prev low (tale_commits (take place slots))) h.records f))

-- where the one at the place doesn't fit
pub next_cut : (slots : List TalePlace) (prev low place next : ℕ) (rs : List RecordData) (n : NextRecords) (x : TalePlace) (commit : StoredCommit) → place < length slots → x ≡ get_or slots place x → IsDueAt prev low x commit → IsTooMuch (stored_commit_of commit) rs → AreRising (ends slots) → AreFitting rs → IsWalked slots prev low place next rs → n.records.items ≡ rs → n.mark.0 ≡ end_behind prev rs → n.next ≡ next → AreNextRecords slots prev low n
next_cut slots prev low place next rs n x commit lt is due too rising f h e m y =
    let d = due_in prev low (take place slots) in
    let c = stored_commit_of commit in
    let ds = due_in prev low (drop (place + 1) slots) in
    let left : due_in prev low (drop place slots) ≡ c ∷ ds = ap (due_in prev low) (left_from slots place x lt is) ∙ due_first prev low x (drop (place + 1) slots) commit due in
    let parts : due_in prev low slots ≡ d ++ c ∷ ds = due_parts prev low slots place ∙ ap (λ cs. d ++ cs) left in
    let last = lasts prev d (due_above prev (filter (λ a. nat_le a.0 low) (tale_commits (take place slots)))) (rising_due slots prev low place rising) in
    let mark : n.mark.0 ≡ last_of prev d = m ∙ last_is prev d rs h.records in
    record {
      taken = d;
      longest = longest_is (due_in prev low slots) d (c ∷ ds) parts (fits_is d rs h.records h.len f) (full_at d rs c h.records h.len too);
      records = subst (AreRecordsOf d) (sym e) h.records;
      mark = mark ∙ sym (ap (mark_by low prev d) (rest_is (due_in prev low slots) d (c ∷ ds) parts));
      next = record {
        behind = subst (IsBehindStored slots) (sym y) h.behind;
        settled = subst (λ (i : ℕ). open_ends (take i slots) ≡ []) (sym y) (opens_to_next slots place next h.below h.settled);
        grouped = subst (λ (i : ℕ). NoneIsDue i (tale_commits (take n.next slots))) (sym mark) (subst (λ (i : ℕ). NoneIsDue (last_of prev d) (tale_commits (take i slots))) (sym y) (up_to_next slots place next (last_of prev d) h.below
            (none_behind_mark prev low (last_of prev d) (tale_commits (take place slots)) last.from h.passed last.below)));
      };
    }

pub rules_cut : (slots : List TalePlace) (prev low place next : ℕ) (rs : List RecordData) (n : NextRecords) (c : Commit) → AreRising (ends slots) → prev < low → low ≤ 2 ^ 62 → IsTooMuch c rs → AreFitting rs → IsWalked slots prev low place next rs → n.records.items ≡ rs → n.mark.0 ≡ end_behind prev rs → KeepsRules (group_of prev n.mark.0 n.records.items)
rules_cut slots prev low place next rs n c rising lt le too f h e m =
    let d = due_in prev low (take place slots) in
    let above = due_above prev (filter (λ a. nat_le a.0 low) (tale_commits (take place slots))) in
    let rise = rising_due slots prev low place rising in
    let last = lasts prev d above rise in
    let some = too.some in
    let under = last_within low prev d (omega arith) (due_within prev low (tale_commits (take place slots))) in
    subst (λ (i : ℕ). KeepsRules (group_of prev i n.records.items)) (sym (m ∙ last_is prev d rs h.records))
    (subst (λ qs. KeepsRules (group_of prev (last_of prev d) qs)) (sym e)
    (keeps_rules prev (last_of prev d) d rs (last.over (omega (arith, some, records_count d rs h.records))) (omega arith) rise above last.below h.records f))

-- ---- one record more, as a loop goes over them
pub end_behind_more : (e : ℕ) (rs : List RecordData) (i : ℕ) (r : RecordData) → i < length rs → r ≡ get_or rs i r → end_behind e (take (i + 1) rs) ≡ r.end
end_behind_more e rs i r lt is = ap (end_behind e) (take_more rs i r lt ∙ ap (λ q. take i rs ++ q ∷ []) (sym is)) ∙ push e (take i rs)
  where
    push : (d : ℕ) (qs : List RecordData) → end_behind d (qs ++ r ∷ []) ≡ r.end
    push d [] = refl
    push d (q ∷ qs) = push q.end qs

-- a record alone fits
pub some_records : (rs : List RecordData) → 3000000 < sum_by record_len rs → 1 ≤ length rs
some_records [] lt = absurd (omega arith)
some_records (r ∷ rs) lt = omega arith

-- ---- right behind a stored commit
pub behind_stored : (slots : List TalePlace) (place : ℕ) (x : TalePlace) (commit : StoredCommit) → place < length slots → x ≡ get_or slots place x → x ≡ Settled commit → IsBehindStored slots (place + 1)
behind_stored slots place x commit lt is at =
    let next : suc place ≡ place + 1 = omega arith in
    let found : slice_get slots place ≡ Some (Settled commit) = slice_get_read slots (length slots) place x refl lt is ∙ ap Some at in
    subst (IsBehindStored slots) next (stored_behind slots place (subst (λ (o : Option TalePlace). IsSome (option_and_then stored_of o)) (sym found) refl))
