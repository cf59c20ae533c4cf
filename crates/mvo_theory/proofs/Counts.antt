-- The keys that count for an entry, as the stamped ones change.
use Rattle.std.proofs.Common.{◌≡◌, ℕ, ◌≤◌, Bool, true, false, cond, ◌||◌, List, [], ◌∷◌, ◌++◌, Option, None, Some, map, refl, sym, ap, ◌∙◌, subst, arith, append_assoc}
use Rattle.std.specs.Prelude.{nat_lt, ◌&&◌, is_some}
use Rattle.std.specs.List.{filter, list_any}
use Rattle.std.specs.Ordering.{eq_by_cmp}
use Rattle.std.specs.FinMap as fin
use Rattle.std.proofs.lemmas.Bool.{false≢true, true≢false, ltb-true, lt-ltb, le-ltb, and_parts, and_from, and_left}
use Rattle.mvo_types.specs.declared.row.RowKey.{RowKey}
use Rattle.mvo_types.specs.RowData.{ContentData}
use Rattle.mvo_types.specs.Keys.{Map, key_cmp}
use Rattle.mvo_model.specs.History.{History, write_of, after_history}
use Rattle.mvo_types.specs.declared.entry.Entry.{Entry}
use Rattle.mvo_theory.specs.Entries.{is_noted}
use Rattle.mvo_theory.specs.Ranges.{Row, shows, pass, put_by, puts, is_row_of}
use Rattle.mvo_theory.specs.State.{StampedTx, history_below, seen_by}
use Rattle.mvo_theory.specs.Dependencies.{is_put_below, counts_for, keys_for}
use Rattle.mvo_theory.proofs.Each.{each_append}
use Rattle.mvo_theory.proofs.Looks.{key_is, pass_other}
use Rattle.mvo_theory.proofs.Footprints.{or_parts, or_left, or_right, any_left, any_right, key_same, NoneOf, no_put}
use Rattle.mvo_theory.proofs.Stamped.{IsLike}
use Rattle.mvo_types.specs.declared.entry.Entry.TheVariants.{Key, Range}

-- ---- a key that counts is among those that are asked for
found_row : (p : Row → Bool) (q : RowKey) (es : List Row) → is_some (pass p q (fin.find key_cmp q es)) ≡ true → list_any (is_row_of p q) es ≡ true
found_row p q [] h = absurd (false≢true h)
found_row p q (e ∷ es) h = go (eq_by_cmp key_cmp q e.0) refl h (found_row p q es)
  where
    own : (b : Bool) → p (q, e.1) ≡ b → is_some (cond b (Some e.1) None) ≡ true → p (q, e.1) ≡ true
    own true f g = f
    own false f g = absurd (false≢true g)

    go : (b : Bool) → eq_by_cmp key_cmp q e.0 ≡ b → is_some (pass p q (cond b (Some e.1) (fin.find key_cmp q es))) ≡ true → (is_some (pass p q (fin.find key_cmp q es)) ≡ true → list_any (is_row_of p q) es ≡ true) → (is_row_of p q e || list_any (is_row_of p q) es) ≡ true
    go true f g r = or_left (is_row_of p q e) (list_any (is_row_of p q) es) (and_from (eq_by_cmp key_cmp q e.0) (p e) f (subst (λ (k : RowKey). p (k, e.1) ≡ true) (sym (key_same q e.0 f)) (own (p (q, e.1)) refl g)))
    go false f g r = or_right (is_row_of p q e) (list_any (is_row_of p q) es) (r g)

rows_noted : (p : Row → Bool) (q : RowKey) (rs : List Row) → list_any (is_row_of p q) rs ≡ true → is_noted (map (λ (r : Row). r.0) (filter p rs)) q ≡ true
rows_noted p q [] h = absurd (false≢true h)
rows_noted p q (r ∷ rs) h = go (eq_by_cmp key_cmp q r.0) refl (p r) refl h (rows_noted p q rs)
  where
    go : (a : Bool) → eq_by_cmp key_cmp q r.0 ≡ a → (b : Bool) → p r ≡ b → ((a && b) || list_any (is_row_of p q) rs) ≡ true → (list_any (is_row_of p q) rs ≡ true → is_noted (map (λ (s : Row). s.0) (filter p rs)) q ≡ true) → is_noted (map (λ (s : Row). s.0) (cond b (r ∷ filter p rs) (filter p rs))) q ≡ true
    go true f true g i k = or_left (eq_by_cmp key_cmp q r.0) (is_noted (map (λ (s : Row). s.0) (filter p rs)) q) f
    go false f true g i k = or_right (eq_by_cmp key_cmp q r.0) (is_noted (map (λ (s : Row). s.0) (filter p rs)) q) (k i)
    go true f false g i k = k i
    go false f false g i k = k i

pub puts-append : (xs ys : History) → puts (xs ++ ys) ≡ puts xs ++ puts ys
puts-append [] ys = refl
puts-append (x ∷ xs) ys = ap (λ ss. put_by (write_of x.0 x.1) ++ ss) (puts-append xs ys) ∙ sym (append_assoc (put_by (write_of x.0 x.1)) (puts xs) (puts ys))

put_in_history : (p : Row → Bool) (q : RowKey) (b : ℕ) (stamped : List StampedTx) → is_put_below p q b stamped ≡ true → list_any (is_row_of p q) (puts (history_below b stamped)) ≡ true
put_in_history p q b [] h = absurd (false≢true h)
put_in_history p q b (x ∷ xs) h =
    ap (list_any (is_row_of p q)) (puts-append (cond (nat_lt x.end b) x.history []) (history_below b xs))
    ∙ go (nat_lt x.end b) (list_any (is_row_of p q) (puts x.history)) refl h (put_in_history p q b xs)
  where
    go : (c d : Bool) → list_any (is_row_of p q) (puts x.history) ≡ d → ((c && d) || is_put_below p q b xs) ≡ true → (is_put_below p q b xs ≡ true → list_any (is_row_of p q) (puts (history_below b xs)) ≡ true) → list_any (is_row_of p q) (puts (cond c x.history []) ++ puts (history_below b xs)) ≡ true
    go true true f g r = any_left (is_row_of p q) (puts x.history) (puts (history_below b xs)) f
    go true false f g r = any_right (is_row_of p q) (puts x.history) (puts (history_below b xs)) (r g)
    go false d f g r = r g

pub counted_noted : (e : Entry) (q : RowKey) (b : ℕ) (base : Map) (stamped : List StampedTx) → counts_for e q b base stamped ≡ true → is_noted (keys_for e b base stamped) q ≡ true
counted_noted (Key k) q b base stamped h = or_left (eq_by_cmp key_cmp q k) false h
counted_noted (Range t lo hi) q b base stamped h = rows_noted p q (fin.entries base ++ puts (history_below b stamped)) (go (is_some (pass p q (fin.get base q))) refl h)
  where
    p : Row → Bool
    p = shows (Range t lo hi)

    go : (c : Bool) → is_some (pass p q (fin.get base q)) ≡ c → (c || is_put_below p q b stamped) ≡ true → list_any (is_row_of p q) (fin.entries base ++ puts (history_below b stamped)) ≡ true
    go true f g = any_left (is_row_of p q) (fin.entries base) (puts (history_below b stamped)) (found_row p q (fin.entries base) (sym (ap (λ o. is_some (pass p q o)) (fin.get-entries base q)) ∙ f))
    go false f g = any_right (is_row_of p q) (fin.entries base) (puts (history_below b stamped)) (put_in_history p q b stamped g)

-- ---- at a key that doesn't count nothing shows
none_pass : (o : Option ContentData) → is_some o ≡ false → o ≡ None
none_pass None e = refl
none_pass (Some h) e = absurd (true≢false e)

and_false : (a b : Bool) → (a && b) ≡ false → a ≡ true → b ≡ false
and_false true b h e = h
and_false false b h e = absurd (false≢true e)

none_put : (p : Row → Bool) (q : RowKey) (rs : List Row) → list_any (is_row_of p q) rs ≡ false → NoneOf p q rs
none_put p q [] h = tt
none_put p q (s ∷ ss) h =
    let parts = or_parts (is_row_of p q s) (list_any (is_row_of p q) ss) h in
    (λ e. and_false (eq_by_cmp key_cmp q s.0) (p s) parts.0 (subst (λ (k : RowKey). eq_by_cmp key_cmp q k ≡ true) (sym e) (key_is q)), none_put p q ss parts.1)

-- the histories of some of those below the begin
abbrev pub history_by_some : (StampedTx → Bool) → List StampedTx → History
history_by_some some [] = []
history_by_some some (x ∷ xs) = cond (some x) x.history [] ++ history_by_some some xs

chosen_puts : (p : Row → Bool) (q : RowKey) (b : ℕ) (c : Bool) (x : StampedTx) (rest : History) → (c ≡ true → nat_lt x.end b ≡ true) → (nat_lt x.end b && list_any (is_row_of p q) (puts x.history)) ≡ false → NoneOf p q (puts rest) → NoneOf p q (puts (cond c x.history [] ++ rest))
chosen_puts p q b false x rest f h r = r
chosen_puts p q b true x rest f h r = subst (NoneOf p q) (sym (puts-append x.history rest)) (each_append (λ s. s.0 ≡ q → p s ≡ false) (puts x.history) (puts rest) (none_put p q (puts x.history) (and_false (nat_lt x.end b) (list_any (is_row_of p q) (puts x.history)) h (f refl))) r)

some_puts : (p : Row → Bool) (q : RowKey) (b : ℕ) (some : StampedTx → Bool) → ((x : StampedTx) → some x ≡ true → nat_lt x.end b ≡ true) → (xs : List StampedTx) → is_put_below p q b xs ≡ false → NoneOf p q (puts (history_by_some some xs))
some_puts p q b some f [] h = tt
some_puts p q b some f (x ∷ xs) h =
    let parts = or_parts (nat_lt x.end b && list_any (is_row_of p q) (puts x.history)) (is_put_below p q b xs) h in
    chosen_puts p q b (some x) x (history_by_some some xs) (f x) parts.0 (some_puts p q b some f xs parts.1)

pub uncounted_some : (e : Entry) (q : RowKey) (b : ℕ) (base : Map) (some : StampedTx → Bool) → ((x : StampedTx) → some x ≡ true → nat_lt x.end b ≡ true) → (xs : List StampedTx) → counts_for e q b base xs ≡ false → pass (shows e) q (fin.get (after_history (history_by_some some xs) base) q) ≡ None
uncounted_some (Key k) q b base some f xs h = pass_other q k (fin.get (after_history (history_by_some some xs) base) q) h
uncounted_some (Range t lo hi) q b base some f xs h =
    let p = shows (Range t lo hi) in
    let parts = or_parts (is_some (pass p q (fin.get base q))) (is_put_below p q b xs) h in
    no_put p q (history_by_some some xs) base (some_puts p q b some f xs parts.1) (none_pass (pass p q (fin.get base q)) parts.0)

below_some : (b : ℕ) (xs : List StampedTx) → history_by_some (λ x. nat_lt x.end b) xs ≡ history_below b xs
below_some b [] = refl
below_some b (x ∷ xs) = ap (λ ts. cond (nat_lt x.end b) x.history [] ++ ts) (below_some b xs)

pub uncounted_seen : (e : Entry) (q : RowKey) (b : ℕ) (base : Map) (xs : List StampedTx) → counts_for e q b base xs ≡ false → pass (shows e) q (fin.get (seen_by base xs b) q) ≡ None
uncounted_seen e q b base xs h = subst (λ (ts : History). pass (shows e) q (fin.get (after_history ts base) q) ≡ None) (below_some b xs) (uncounted_some e q b base (λ x. nat_lt x.end b) (λ x g. g) xs h)

-- what shows counts
pub seen_counts : (e : Entry) (q : RowKey) (b : ℕ) (base : Map) (xs : List StampedTx) → is_some (pass (shows e) q (fin.get (seen_by base xs b) q)) ≡ true → counts_for e q b base xs ≡ true
seen_counts e q b base xs h = go (counts_for e q b base xs) refl
  where
    go : (c : Bool) → counts_for e q b base xs ≡ c → counts_for e q b base xs ≡ true
    go true f = f
    go false f = absurd (false≢true (sym (ap is_some (uncounted_seen e q b base xs f)) ∙ h))

-- ---- fewer count, where fewer are put
counts_less : (e : Entry) (q : RowKey) (a b : ℕ) (base : Map) (xs ys : List StampedTx) → ((p : Row → Bool) → is_put_below p q a xs ≡ true → is_put_below p q b ys ≡ true) → counts_for e q a base xs ≡ true → counts_for e q b base ys ≡ true
counts_less (Key k) q a b base xs ys f h = h
counts_less (Range t lo hi) q a b base xs ys f h = go (is_some (pass p q (fin.get base q))) h
  where
    p : Row → Bool
    p = shows (Range t lo hi)

    go : (c : Bool) → (c || is_put_below p q a xs) ≡ true → (c || is_put_below p q b ys) ≡ true
    go true g = refl
    go false g = f p g

two : (a b c : Bool) → (b ≡ true → c ≡ true) → (a || b) ≡ true → (a || c) ≡ true
two true b c f e = refl
two false b c f e = f e

any_filter : {X : Type 0} (keep test : X → Bool) (xs : List X) → list_any test (filter keep xs) ≡ true → list_any test xs ≡ true
any_filter keep test [] h = h
any_filter keep test (x ∷ xs) h = go (keep x) (any_filter keep test xs) h
  where
    go : (c : Bool) → (list_any test (filter keep xs) ≡ true → list_any test xs ≡ true) → list_any test (cond c (x ∷ filter keep xs) (filter keep xs)) ≡ true → (test x || list_any test xs) ≡ true
    go false r g = or_right (test x) (list_any test xs) (r g)
    go true r g = two (test x) (list_any test (filter keep xs)) (list_any test xs) r g

pub counts_filter : (keep : StampedTx → Bool) (e : Entry) (q : RowKey) (b : ℕ) (base : Map) (xs : List StampedTx) → counts_for e q b base (filter keep xs) ≡ true → counts_for e q b base xs ≡ true
counts_filter keep e q b base xs h = counts_less e q b b base (filter keep xs) xs (λ p. any_filter keep (λ x. nat_lt x.end b && list_any (is_row_of p q) (puts x.history)) xs) h

put_like : (f : StampedTx → StampedTx) → IsLike f → (p : Row → Bool) (q : RowKey) (b : ℕ) (xs : List StampedTx) → is_put_below p q b (map f xs) ≡ is_put_below p q b xs
put_like f l p q b [] = refl
put_like f l p q b (x ∷ xs) =
    ap (λ (n : ℕ). (nat_lt n b && list_any (is_row_of p q) (puts (f x).history)) || is_put_below p q b (map f xs)) (l x).0
    ∙ ap (λ (ts : History). (nat_lt x.end b && list_any (is_row_of p q) (puts ts)) || is_put_below p q b (map f xs)) (l x).1
    ∙ ap (λ c. (nat_lt x.end b && list_any (is_row_of p q) (puts x.history)) || c) (put_like f l p q b xs)

pub counts_map : (f : StampedTx → StampedTx) → IsLike f → (e : Entry) (q : RowKey) (b : ℕ) (base : Map) (xs : List StampedTx) → counts_for e q b base (map f xs) ≡ true → counts_for e q b base xs ≡ true
counts_map f l e q b base xs h = counts_less e q b b base (map f xs) xs (λ p g. sym (put_like f l p q b xs) ∙ g) h

put_last : (p : Row → Bool) (q : RowKey) (b : ℕ) (xs : List StampedTx) (y : StampedTx) → b ≤ y.end → is_put_below p q b (xs ++ y ∷ []) ≡ true → is_put_below p q b xs ≡ true
put_last p q b [] y le h = absurd (false≢true (sym (ap (λ c. c || false) (and_left (nat_lt y.end b) (list_any (is_row_of p q) (puts y.history)) (le-ltb y.end b le))) ∙ h))
put_last p q b (x ∷ xs) y le h = two (nat_lt x.end b && list_any (is_row_of p q) (puts x.history)) (is_put_below p q b (xs ++ y ∷ [])) (is_put_below p q b xs) (put_last p q b xs y le) h

pub counts_last : (e : Entry) (q : RowKey) (b : ℕ) (base : Map) (xs : List StampedTx) (y : StampedTx) → b ≤ y.end → counts_for e q b base (xs ++ y ∷ []) ≡ true → counts_for e q b base xs ≡ true
counts_last e q b base xs y le h = counts_less e q b b base (xs ++ y ∷ []) xs (λ p. put_last p q b xs y le) h

any_weaker : {X : Type 0} (f g : X → Bool) → ((x : X) → f x ≡ true → g x ≡ true) → (xs : List X) → list_any f xs ≡ true → list_any g xs ≡ true
any_weaker f g w [] h = h
any_weaker f g w (x ∷ xs) h = go (f x) refl h (any_weaker f g w xs)
  where
    go : (b : Bool) → f x ≡ b → (b || list_any f xs) ≡ true → (list_any f xs ≡ true → list_any g xs ≡ true) → (g x || list_any g xs) ≡ true
    go true e k r = or_left (g x) (list_any g xs) (w x e)
    go false e k r = or_right (g x) (list_any g xs) (r k)

-- what counts for one that begins earlier counts for one that begins later
pub counts_later : (e : Entry) (q : RowKey) (a b : ℕ) (base : Map) (xs : List StampedTx) → a ≤ b → counts_for e q a base xs ≡ true → counts_for e q b base xs ≡ true
counts_later e q a b base xs le h = counts_less e q a b base xs xs (λ p. any_weaker (λ x. nat_lt x.end a && list_any (is_row_of p q) (puts x.history)) (λ x. nat_lt x.end b && list_any (is_row_of p q) (puts x.history)) (one p) xs) h
  where
    one : (p : Row → Bool) (x : StampedTx) → (nat_lt x.end a && list_any (is_row_of p q) (puts x.history)) ≡ true → (nat_lt x.end b && list_any (is_row_of p q) (puts x.history)) ≡ true
    one p x g = let r = and_parts (nat_lt x.end a) (list_any (is_row_of p q) (puts x.history)) g in and_from (nat_lt x.end b) (list_any (is_row_of p q) (puts x.history)) (lt-ltb x.end b (let l = ltb-true x.end a r.0 in omega arith)) r.1
