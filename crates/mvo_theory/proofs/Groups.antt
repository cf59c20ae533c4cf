-- The next group has the commits above its prev and at most its mark, and it stays so.
use Rattle.std.proofs.Common.{◌≡◌, ℕ, ◌≤◌, ◌<◌, Bool, true, false, cond, None, Some, List, [], ◌∷◌, ◌++◌, length, refl, inl, inr, sym, ap, ◌∙◌, subst, arith, append-nil, append_assoc}
use Rattle.std.specs.Prelude.{⊤, ◌==◌, nat_lt, nat_le, ◌&&◌, drop, filter}
use Rattle.std.specs.List.{AllByRecursion}
use Rattle.std.proofs.lemmas.Bool.{and_parts, leb-true, leb-false, le-leb, lt-leb, ltb-true, true≢false, cases_lt, eq-eqb}
use Rattle.std.proofs.lemmas.List.Elements.{filter-append}
use Rattle.std.proofs.Math.Seq.{drop-append_seam}
use Rattle.mvo_types.specs.Keys.{Map}
use Rattle.mvo_model.specs.Trace.{Step}
use Rattle.mvo_theory.specs.State.{State, StampedTx, timeline}
use Rattle.mvo_types.specs.declared.refusal.Refusal.TheVariants.{NothingToDo, RingFull}
use Rattle.mvo_types.specs.Causes.{when, first_cause}
use Rattle.mvo_theory.specs.Causes.{why_not_close}
use Rattle.mvo_theory.specs.Marks.{Commit, IsClosedAt, settled_to, least_open, below_open, low_water}
use Rattle.mvo_theory.specs.Groups.{Group, Limits, is_writing, is_due, due, IsFull, IsLongest, last_of, mark_by, IsNextGroup, IsGroupOf}
use Rattle.mvo_theory.specs.Sound.{IsRising, IsPlaced}
use Rattle.mvo_theory.specs.Calls.{IsKept}
use Rattle.mvo_theory.proofs.Each.{each_weaker, each_front, each_filter, each_always}
use Rattle.mvo_theory.proofs.AfterTrace.{rising_all}
use Rattle.mvo_theory.proofs.Trimmed.{low_below}
use Rattle.mvo_theory.proofs.Cases.{none_refusal}

-- ---- the low-water
low_drawn : (clock : ℕ) (xs : List StampedTx) → AllByRecursion (λ x. x.end ≤ clock) xs → below_open clock (least_open xs) ≤ clock
low_drawn clock [] h = omega arith
low_drawn clock (x ∷ xs) h = go x.settled (low_drawn clock xs h.1)
  where
    go : (b : Bool) → below_open clock (least_open xs) ≤ clock → below_open clock (cond b (least_open xs) (Some x.end)) ≤ clock
    go true l = l
    go false l = let e = h.0 in omega arith

-- no transaction that isn't settled ends at or below the low-water
pub closed_at_low : (opening : Map) (xs : List Step) (s : State) → IsKept opening xs s → IsClosedAt (low_water s) s
closed_at_low opening xs s h = record {
  drawn = low_drawn s.clock s.stamped (each_weaker (IsPlaced s.stamped s.clock) (λ x. x.end ≤ s.clock) (λ x p. p.drawn) s.stamped h.sound.placed);
  above = low_below s.clock s.stamped h.sound.rising (each_weaker (IsPlaced s.stamped s.clock) (λ x. x.id < x.end) (λ x p. p.begun) s.stamped h.sound.placed);
}

low_above : (m clock : ℕ) (xs : List StampedTx) → m ≤ clock → AllByRecursion (λ x. x.settled ≡ false → m < x.end) xs → m ≤ below_open clock (least_open xs)
low_above m clock [] l h = l
low_above m clock (x ∷ xs) l h = go x.settled refl (low_above m clock xs l h.1)
  where
    go : (b : Bool) → x.settled ≡ b → m ≤ below_open clock (least_open xs) → m ≤ below_open clock (cond b (least_open xs) (Some x.end))
    go true e q = q
    go false e q = let f = h.0 e in omega arith

-- a mark at which all is settled is at most the low-water
pub closed_below_low : (m : ℕ) (s : State) → IsClosedAt m s → m ≤ low_water s
closed_below_low m s c = low_above m s.clock s.stamped c.drawn c.above

pub closed_less : (m n : ℕ) (s : State) → m ≤ n → IsClosedAt n s → IsClosedAt m s
closed_less m n s l c = record {
  drawn = let d = c.drawn in omega arith;
  above = each_weaker (λ x. x.settled ≡ false → n < x.end) (λ x. x.settled ≡ false → m < x.end) (λ x f e. let g = f e in omega arith) s.stamped c.above;
}

-- ---- commits by rising ends
abbrev AreRising : List Commit → Type 0
AreRising [] = ⊤
AreRising (c ∷ cs) = AllByRecursion (λ d. c.0 < d.0) cs × AreRising cs

each_settled_to : (P : ℕ → Type 0) (m : ℕ) (xs : List StampedTx) → AllByRecursion (λ x. P x.end) xs → AllByRecursion (λ (c : Commit). P c.0) (settled_to m xs)
each_settled_to P m [] h = tt
each_settled_to P m (x ∷ xs) h = go (x.settled && nat_le x.end m) (each_settled_to P m xs h.1)
  where
    go : (b : Bool) → AllByRecursion (λ (c : Commit). P c.0) (settled_to m xs) → AllByRecursion (λ (c : Commit). P c.0) (cond b ((x.end, x.history) ∷ settled_to m xs) (settled_to m xs))
    go true q = (h.0, q)
    go false q = q

rising_settled_to : (m : ℕ) (xs : List StampedTx) → IsRising xs → AreRising (settled_to m xs)
rising_settled_to m [] r = tt
rising_settled_to m (x ∷ xs) r = go (x.settled && nat_le x.end m) (rising_settled_to m xs r.1)
  where
    go : (b : Bool) → AreRising (settled_to m xs) → AreRising (cond b ((x.end, x.history) ∷ settled_to m xs) (settled_to m xs))
    go true q = (each_settled_to (λ n. x.end < n) m xs r.0, q)
    go false q = q

low_settled_to : (m : ℕ) (xs : List StampedTx) → AllByRecursion (λ (c : Commit). c.0 ≤ m) (settled_to m xs)
low_settled_to m [] = tt
low_settled_to m (x ∷ xs) = go (x.settled && nat_le x.end m) refl (low_settled_to m xs)
  where
    go : (b : Bool) → (x.settled && nat_le x.end m) ≡ b → AllByRecursion (λ (c : Commit). c.0 ≤ m) (settled_to m xs) → AllByRecursion (λ (c : Commit). c.0 ≤ m) (cond b ((x.end, x.history) ∷ settled_to m xs) (settled_to m xs))
    go true e q = (leb-true x.end m (and_parts x.settled (nat_le x.end m) e).1, q)
    go false e q = q

rising_filter : (p : Commit → Bool) (cs : List Commit) → AreRising cs → AreRising (filter p cs)
rising_filter p [] r = tt
rising_filter p (c ∷ cs) r = go (p c) (rising_filter p cs r.1)
  where
    go : (b : Bool) → AreRising (filter p cs) → AreRising (cond b (c ∷ filter p cs) (filter p cs))
    go true q = (each_filter p (λ d. c.0 < d.0) (λ d. c.0 < d.0) (λ d e l. l) cs r.0, q)
    go false q = q

-- those up to a lower mark
abbrev is_up_to : ℕ → Commit → Bool
is_up_to m c = nat_le c.0 m

settled_less : (m n : ℕ) (xs : List StampedTx) → m ≤ n → settled_to m xs ≡ filter (is_up_to m) (settled_to n xs)
settled_less m n [] l = refl
settled_less m n (x ∷ xs) l = go x.settled (nat_le x.end m) refl (nat_le x.end n) refl (settled_less m n xs l)
  where
    c : Commit
    c = (x.end, x.history)

    go : (s a : Bool) → nat_le x.end m ≡ a → (b : Bool) → nat_le x.end n ≡ b → settled_to m xs ≡ filter (is_up_to m) (settled_to n xs)
        → cond (s && a) (c ∷ settled_to m xs) (settled_to m xs) ≡ filter (is_up_to m) (cond (s && b) (c ∷ settled_to n xs) (settled_to n xs))
    go false a e b f q = q
    go true true e true f q = ap (λ (cs : List Commit). c ∷ cs) q ∙ sym (ap (λ (v : Bool). cond v (c ∷ filter (is_up_to m) (settled_to n xs)) (filter (is_up_to m) (settled_to n xs))) e)
    go true true e false f q = absurd (let u = leb-true x.end m e in let v = leb-false x.end n f in omega arith)
    go true false e true f q = q ∙ sym (ap (λ (v : Bool). cond v (c ∷ filter (is_up_to m) (settled_to n xs)) (filter (is_up_to m) (settled_to n xs))) e)
    go true false e false f q = q

filter_swap : (p q : Commit → Bool) (cs : List Commit) → filter p (filter q cs) ≡ filter q (filter p cs)
filter_swap p q [] = refl
filter_swap p q (c ∷ cs) = go (p c) refl (q c) refl (filter_swap p q cs)
  where
    go : (a : Bool) → p c ≡ a → (b : Bool) → q c ≡ b → filter p (filter q cs) ≡ filter q (filter p cs) → filter p (cond b (c ∷ filter q cs) (filter q cs)) ≡ filter q (cond a (c ∷ filter p cs) (filter p cs))
    go true e true f r = ap (λ (v : Bool). cond v (c ∷ filter p (filter q cs)) (filter p (filter q cs))) e ∙ ap (λ (xs : List Commit). c ∷ xs) r ∙ sym (ap (λ (v : Bool). cond v (c ∷ filter q (filter p cs)) (filter q (filter p cs))) f)
    go true e false f r = r ∙ sym (ap (λ (v : Bool). cond v (c ∷ filter q (filter p cs)) (filter q (filter p cs))) f)
    go false e true f r = ap (λ (v : Bool). cond v (c ∷ filter p (filter q cs)) (filter p (filter q cs))) e ∙ r
    go false e false f r = r

filter_all : (p : Commit → Bool) (cs : List Commit) → AllByRecursion (λ c. p c ≡ true) cs → filter p cs ≡ cs
filter_all p [] h = refl
filter_all p (c ∷ cs) h = ap (λ (b : Bool). cond b (c ∷ filter p cs) (filter p cs)) h.0 ∙ ap (λ (xs : List Commit). c ∷ xs) (filter_all p cs h.1)

filter_none : (p : Commit → Bool) (cs : List Commit) → AllByRecursion (λ c. p c ≡ false) cs → filter p cs ≡ []
filter_none p [] h = refl
filter_none p (c ∷ cs) h = ap (λ (b : Bool). cond b (c ∷ filter p cs) (filter p cs)) h.0 ∙ filter_none p cs h.1

-- ---- the last one that is taken tells the taken ones from the rest
pub record IsParted (e : ℕ) (taken rest : List Commit) : Type 0 where
  pub from : e ≤ last_of e taken
  pub below : AllByRecursion (λ (c : Commit). c.0 ≤ last_of e taken) taken
  pub above : AllByRecursion (λ (c : Commit). last_of e taken < c.0) rest

parted_at : (e : ℕ) (taken rest : List Commit) → AllByRecursion (λ (c : Commit). e < c.0) (taken ++ rest) → AreRising (taken ++ rest) → IsParted e taken rest
parted_at e [] rest h r = record { from = omega arith; below = tt; above = h }
parted_at e (c ∷ cs) rest h r =
    let q = parted_at c.0 cs rest r.0 r.1 in
    let f = q.from in
    let l = h.0 in
    record { from = omega arith; below = (f, q.below); above = q.above }

taken_are : (e : ℕ) (taken rest : List Commit) → AllByRecursion (λ (c : Commit). e < c.0) (taken ++ rest) → AreRising (taken ++ rest) → filter (is_up_to (last_of e taken)) (taken ++ rest) ≡ taken
taken_are e taken rest h r =
    let q = parted_at e taken rest h r in
    let m = last_of e taken in
    filter-append (is_up_to m) taken rest
    ∙ ap (λ (xs : List Commit). xs ++ filter (is_up_to m) rest) (filter_all (is_up_to m) taken (each_weaker (λ (c : Commit). c.0 ≤ m) (λ c. is_up_to m c ≡ true) (λ c l. le-leb c.0 m l) taken q.below))
    ∙ ap (λ (xs : List Commit). taken ++ xs) (filter_none (is_up_to m) rest (each_weaker (λ (c : Commit). m < c.0) (λ c. is_up_to m c ≡ false) (λ c l. lt-leb c.0 m l) rest q.above))
    ∙ append-nil taken

-- ---- the next group is closed for good
due_above : (s : State) → AllByRecursion (λ (c : Commit). s.marks.closed < c.0) (due s)
due_above s = each_filter (is_due s.marks.closed) (λ c. ⊤) (λ (c : Commit). s.marks.closed < c.0) (λ c e t. ltb-true s.marks.closed c.0 (and_parts (nat_lt s.marks.closed c.0) (is_writing c) e).0) (settled_to (low_water s) (timeline s)) (each_always (λ c. ⊤) (λ c. tt) (settled_to (low_water s) (timeline s)))

due_below : (s : State) → AllByRecursion (λ (c : Commit). c.0 ≤ low_water s) (due s)
due_below s = each_filter (is_due s.marks.closed) (λ (c : Commit). c.0 ≤ low_water s) (λ (c : Commit). c.0 ≤ low_water s) (λ c e l. l) (settled_to (low_water s) (timeline s)) (low_settled_to (low_water s) (timeline s))

last_below : (n e : ℕ) (taken : List Commit) → e ≤ n → AllByRecursion (λ (c : Commit). c.0 ≤ n) taken → last_of e taken ≤ n
last_below n e [] l h = l
last_below n e (c ∷ cs) l h = last_below n c.0 cs h.0 h.1

pub next_group_closes : (opening : Map) (xs : List Step) (s : State) (fits : Limits) (g : Group) → IsKept opening xs s → IsClosedAt s.marks.closed s → IsNextGroup fits s g → IsGroupOf s g
next_group_closes opening xs s fits g k c n = go (drop (length g.commits) (due s)) n.longest.beginning n.mark
  where
    low : ℕ
    low = low_water s

    at_low : IsClosedAt low s
    at_low = closed_at_low opening xs s k

    go : (rest : List Commit) → g.commits ++ rest ≡ due s → g.mark ≡ mark_by low s.marks.closed g.commits rest → IsGroupOf s g
    go [] e m = record {
      closed = subst (λ (i : ℕ). IsClosedAt i s) (sym m) at_low;
      commits = sym (append-nil g.commits) ∙ e ∙ ap (λ (i : ℕ). filter (is_due i) (settled_to low (timeline s))) (sym n.prev) ∙ ap (λ (i : ℕ). filter (is_due g.prev) (settled_to i (timeline s))) (sym m);
    }
    go (d ∷ ds) e m =
        let last = last_of s.marks.closed g.commits in
        let above = subst (AllByRecursion (λ (c : Commit). s.marks.closed < c.0)) (sym e) (due_above s) in
        let rising = subst AreRising (sym e) (rising_filter (is_due s.marks.closed) (settled_to low (timeline s)) (rising_settled_to low (timeline s) (rising_all s k.sound k.started))) in
        let under = last_below low s.marks.closed g.commits (closed_below_low s.marks.closed s c) (each_front (λ (c : Commit). c.0 ≤ low) g.commits (d ∷ ds) (subst (AllByRecursion (λ (c : Commit). c.0 ≤ low)) (sym e) (due_below s))) in
        record {
          closed = subst (λ (i : ℕ). IsClosedAt i s) (sym m) (closed_less last low s under at_low);
          commits = sym (taken_are s.marks.closed g.commits (d ∷ ds) above rising) ∙ ap (filter (is_up_to last)) e
              ∙ filter_swap (is_up_to last) (is_due s.marks.closed) (settled_to low (timeline s))
              ∙ ap (filter (is_due s.marks.closed)) (sym (settled_less last low (timeline s) under))
              ∙ ap (λ (i : ℕ). filter (is_due i) (settled_to last (timeline s))) (sym n.prev) ∙ ap (λ (i : ℕ). filter (is_due g.prev) (settled_to i (timeline s))) (sym m);
        }

-- ---- there is a next group, and no longer beginning fits
longest_is : (fits : Limits) (taken rest : List Commit) → fits taken ≡ true → (xs : List Commit) × IsLongest fits (taken ++ rest) xs
longest_is fits taken [] h = (taken, record { beginning = ap (λ (l : List Commit). taken ++ l) (drop-append_seam taken []); within = h; full = subst (IsFull fits taken) (sym (drop-append_seam taken [])) tt })
longest_is fits taken (c ∷ cs) h = go (fits (taken ++ c ∷ [])) refl (λ e. longest_is fits (taken ++ c ∷ []) cs e)
  where
    go : (b : Bool) → fits (taken ++ c ∷ []) ≡ b → (fits (taken ++ c ∷ []) ≡ true → (xs : List Commit) × IsLongest fits ((taken ++ c ∷ []) ++ cs) xs) → (xs : List Commit) × IsLongest fits (taken ++ c ∷ cs) xs
    go true e r = let q = r e in (q.0, subst (λ (l : List Commit). IsLongest fits l q.0) (append_assoc taken (c ∷ []) cs) q.1)
    go false e r = (taken, record { beginning = ap (λ (l : List Commit). taken ++ l) (drop-append_seam taken (c ∷ cs)); within = h; full = subst (IsFull fits taken) (sym (drop-append_seam taken (c ∷ cs))) e })

pub next_group_exists : (fits : Limits) (s : State) → fits [] ≡ true → (g : Group) × IsNextGroup fits s g
next_group_exists fits s h =
    let q = longest_is fits [] (due s) h in
    (record { prev = s.marks.closed; mark = mark_by (low_water s) s.marks.closed q.0 (drop (length q.0) (due s)); commits = q.0 }, record { prev = refl; longest = q.1; mark = refl })

-- limits that a beginning keeps where the whole does
abbrev pub AreLimits : Limits → Type 0
AreLimits fits = (xs ys : List Commit) → fits (xs ++ ys) ≡ true → fits xs ≡ true

same_first : (c d : Commit) (cs ds : List Commit) → ◌≡◌ {A = List Commit} (c ∷ cs) (d ∷ ds) → (c ≡ d) × (cs ≡ ds)
same_first c d cs ds e = (cc, cc)

no_first : (c : Commit) (cs : List Commit) → ◌≡◌ {A = List Commit} [] (c ∷ cs) → ⊥
no_first c cs e = cc

not_longer : (fits : Limits) (front taken rest ys zs : List Commit) → AreLimits fits → IsFull fits (front ++ taken) rest → taken ++ rest ≡ ys ++ zs → fits (front ++ ys) ≡ true → length ys ≤ length taken
not_longer fits front taken rest [] zs l f e h = omega arith
not_longer fits front [] [] (y ∷ ys) zs l f e h = absurd (no_first y (ys ++ zs) e)
not_longer fits front [] (c ∷ cs) (y ∷ ys) zs l f e h =
    let is = (same_first c y cs (ys ++ zs) e).0 in
    let fitting : fits (front ++ y ∷ []) ≡ true = l (front ++ y ∷ []) ys (ap fits (append_assoc front (y ∷ []) ys) ∙ h) in
    absurd (true≢false (sym fitting ∙ subst (λ (d : Commit). fits (front ++ d ∷ []) ≡ false) is (ap (λ (xs : List Commit). fits (xs ++ c ∷ [])) (sym (append-nil front)) ∙ f)))
not_longer fits front (c ∷ cs) rest (y ∷ ys) zs l f e h =
    let q = same_first c y (cs ++ rest) (ys ++ zs) e in
    let n = not_longer fits (front ++ c ∷ []) cs rest ys zs l (subst (λ (xs : List Commit). IsFull fits xs rest) (sym (append_assoc front (c ∷ []) cs)) f) q.1
    (ap fits (append_assoc front (c ∷ []) ys) ∙ subst (λ (d : Commit). fits (front ++ d ∷ ys) ≡ true) (sym q.0) h) in
    omega arith

pub longest_is_longest : (fits : Limits) (commits taken ys zs : List Commit) → AreLimits fits → IsLongest fits commits taken → commits ≡ ys ++ zs → fits ys ≡ true → length ys ≤ length taken
longest_is_longest fits commits taken ys zs l h e f = not_longer fits [] taken (drop (length taken) commits) ys zs l h.full (h.beginning ∙ e) f

-- ---- a group that is closed has a mark above its prev, where each record alone fits
last_above : (m e : ℕ) (cs : List Commit) → m < e → AllByRecursion (λ (c : Commit). m < c.0) cs → m < last_of e cs
last_above m e [] l h = l
last_above m e (c ∷ cs) l h = last_above m c.0 cs h.0 h.1

pub close_rises : (s : State) (fits : Limits) (g : Group) (full : Bool) → ((c : Commit) → fits (c ∷ []) ≡ true) → IsClosedAt s.marks.closed s → why_not_close s full ≡ None → IsNextGroup fits s g → g.prev < g.mark
close_rises s fits g full one c w n = go (drop (length g.commits) (due s)) n.longest.beginning n.longest.full n.mark
  where
    below : s.marks.closed ≤ low_water s
    below = closed_below_low s.marks.closed s c

    moved : (b : Bool) → (low_water s == s.marks.closed) ≡ b → first_cause (when b NothingToDo ∷ when full RingFull ∷ []) ≡ None → s.marks.closed < low_water s
    moved true e q = absurd (none_refusal NothingToDo q)
    moved false e q = elim (cases_lt s.marks.closed (low_water s)) [ inl l ↦ l | inr l ↦ absurd (true≢false (sym (eq-eqb (low_water s) s.marks.closed (let b = below in omega arith)) ∙ e)) ]

    above : (taken rest : List Commit) → taken ++ rest ≡ due s → IsFull fits taken rest → (m : ℕ) → m ≡ mark_by (low_water s) s.marks.closed taken rest → s.marks.closed < m
    above taken [] e f m q = subst (λ (i : ℕ). s.marks.closed < i) (sym q) (moved (low_water s == s.marks.closed) refl w)
    above [] (d ∷ ds) e f m q = absurd (true≢false (sym (one d) ∙ f))
    above (t ∷ ts) (d ∷ ds) e f m q =
        let each = subst (AllByRecursion (λ (x : Commit). s.marks.closed < x.0)) (sym e) (due_above s) in
        subst (λ (i : ℕ). s.marks.closed < i) (sym q) (last_above s.marks.closed t.0 ts each.0 (each_front (λ (x : Commit). s.marks.closed < x.0) ts (d ∷ ds) each.1))

    go : (rest : List Commit) → g.commits ++ rest ≡ due s → IsFull fits g.commits rest → g.mark ≡ mark_by (low_water s) s.marks.closed g.commits rest → g.prev < g.mark
    go rest e f m = subst (λ (i : ℕ). i < g.mark) (sym n.prev) (above g.commits rest e f g.mark m)
