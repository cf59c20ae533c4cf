-- Who puts and ends no row that an entry shows leaves what it shows.
use Rattle.std.proofs.Common.{◌≡◌, Bool, true, false, cond, ◌||◌, List, [], ◌∷◌, ◌++◌, Option, None, Some, refl, sym, ap, ◌∙◌, subst, ◌⊎◌, inl, inr, append_assoc}
use Rattle.std.specs.Prelude.{is_some}
use Rattle.std.specs.List.{AllByRecursion, list_any}
use Rattle.std.specs.Ordering.{eq_by_cmp}
use Rattle.std.specs.FinMap as fin
use Rattle.std.proofs.lemmas.Bool.{false≢true, true≢false, and_from}
use Rattle.std.proofs.lemmas.Map.Views.{tells_apart}
use Rattle.mvo_types.proofs.Maps.{exact_keys}
use Rattle.mvo_types.specs.declared.row.RowKey.{RowKey}
use Rattle.mvo_types.specs.RowData.{ContentData}
use Rattle.mvo_types.specs.Keys.{Map, key_cmp}
use Rattle.mvo_types.specs.Write.Effect.{Put, Delete}
use Rattle.mvo_types.specs.Write.{Effect, Write, content_after, content_after_last}
use Rattle.mvo_model.specs.History.{History, write_of, write_at, after_write, after_history, later, net_write}
use Rattle.mvo_model.proofs.Serials.{get-after_effect, get-after_history}
use Rattle.mvo_types.specs.declared.entry.Entry.{Entry}
use Rattle.mvo_theory.specs.Ranges.{Row, shows, pass, AgreeOn, row_of, changed_by, footprint_of, put_by, puts, is_row_of}
use Rattle.mvo_theory.specs.State.{StampedTx}
use Rattle.mvo_theory.specs.Sound.{changes}
use Rattle.mvo_theory.proofs.Each.{each_weaker, each_append, each_front, each_back}
use Rattle.mvo_theory.proofs.Looks.{key_is}
use Rattle.mvo_types.specs.declared.entry.Entry.TheVariants.{Key, Range}

-- ---- tests on lists
pub or_parts : (a b : Bool) → (a || b) ≡ false → (a ≡ false) × (b ≡ false)
or_parts true b h = absurd (true≢false h)
or_parts false b h = (refl, h)

pub or_left : (a b : Bool) → a ≡ true → (a || b) ≡ true
or_left true b e = refl
or_left false b e = absurd (false≢true e)

pub or_right : (a b : Bool) → b ≡ true → (a || b) ≡ true
or_right true b e = refl
or_right false b e = e

pub none_any : {X : Type 0} (p : X → Bool) (xs : List X) → list_any p xs ≡ false → AllByRecursion (λ x. p x ≡ false) xs
none_any p [] h = tt
none_any p (x ∷ xs) h = let q = or_parts (p x) (list_any p xs) h in (q.0, none_any p xs q.1)

pub any_none : {X : Type 0} (p : X → Bool) (xs : List X) → AllByRecursion (λ x. p x ≡ false) xs → list_any p xs ≡ false
any_none p [] h = refl
any_none p (x ∷ xs) h = ap (λ b. b || list_any p xs) h.0 ∙ any_none p xs h.1

pub any_left : {X : Type 0} (p : X → Bool) (xs ys : List X) → list_any p xs ≡ true → list_any p (xs ++ ys) ≡ true
any_left p [] ys h = absurd (false≢true h)
any_left p (x ∷ xs) ys h = two (p x) (list_any p xs) (list_any p (xs ++ ys)) (any_left p xs ys) h
  where
    two : (a b c : Bool) → (b ≡ true → c ≡ true) → (a || b) ≡ true → (a || c) ≡ true
    two true b c f e = refl
    two false b c f e = f e

pub any_right : {X : Type 0} (p : X → Bool) (xs ys : List X) → list_any p ys ≡ true → list_any p (xs ++ ys) ≡ true
any_right p [] ys h = h
any_right p (x ∷ xs) ys h = or_right (p x) (list_any p (xs ++ ys)) (any_right p xs ys h)

-- ---- a row that doesn't pass
pub key_same : (q k : RowKey) → eq_by_cmp key_cmp q k ≡ true → k ≡ q
key_same q k e = sym (tells_apart exact_keys q k e)

abbrev pub NoneOf : (Row → Bool) → RowKey → List Row → Type 0
NoneOf p q rs = AllByRecursion (λ s. s.0 ≡ q → p s ≡ false) rs

passes_not : (p : Row → Bool) (q k : RowKey) (o : Option ContentData) → k ≡ q → NoneOf p q (row_of k o) → pass p q o ≡ None
passes_not p q k None e h = refl
passes_not p q k (Some v) e h = ap (λ (b : Bool). cond b (Some v) None) (subst (λ (j : RowKey). p (j, v) ≡ false) e (h.0 e))

untouched_one : (p : Row → Bool) (q : RowKey) (w : Option Write) (m : Map) → NoneOf p q (changed_by w m) → pass p q (fin.get (after_write w m) q) ≡ pass p q (fin.get m q)
untouched_one p q None m h = refl
untouched_one p q (Some w) m h = ap (pass p q) (get-after_effect q w.0 w.1 m) ∙ go (eq_by_cmp key_cmp q w.0) refl
  where
    go : (b : Bool) → eq_by_cmp key_cmp q w.0 ≡ b → pass p q (cond b (content_after w.1) (fin.get m q)) ≡ pass p q (fin.get m q)
    go false e = refl
    go true e =
        let is = tells_apart exact_keys q w.0 e in
        passes_not p q w.0 (content_after w.1) (sym is) (each_back (λ s. s.0 ≡ q → p s ≡ false) (row_of w.0 (fin.get m w.0)) (row_of w.0 (content_after w.1)) h)
        ∙ sym (subst (λ (j : RowKey). pass p q (fin.get m j) ≡ None) (sym is) (passes_not p q w.0 (fin.get m w.0) (sym is) (each_front (λ s. s.0 ≡ q → p s ≡ false) (row_of w.0 (fin.get m w.0)) (row_of w.0 (content_after w.1)) h)))

-- who put and ended no row of the key that passes leaves what passes of it
pub untouched : (p : Row → Bool) (q : RowKey) (ts : History) (m : Map) → NoneOf p q (footprint_of ts m) → pass p q (fin.get (after_history ts m) q) ≡ pass p q (fin.get m q)
untouched p q [] m h = refl
untouched p q (t ∷ ts) m h =
    let w = write_of t.0 t.1 in
    untouched p q ts (after_write w m) (each_back (λ s. s.0 ≡ q → p s ≡ false) (changed_by w m) (footprint_of ts (after_write w m)) h)
    ∙ untouched_one p q w m (each_front (λ s. s.0 ≡ q → p s ≡ false) (changed_by w m) (footprint_of ts (after_write w m)) h)

-- where none that passes is put, none passes
no_put_one : (p : Row → Bool) (q : RowKey) (w : Option Write) (m : Map) → NoneOf p q (put_by w) → pass p q (fin.get m q) ≡ None → pass p q (fin.get (after_write w m) q) ≡ None
no_put_one p q None m h n = n
no_put_one p q (Some w) m h n = ap (pass p q) (get-after_effect q w.0 w.1 m) ∙ go (eq_by_cmp key_cmp q w.0) refl
  where
    go : (b : Bool) → eq_by_cmp key_cmp q w.0 ≡ b → pass p q (cond b (content_after w.1) (fin.get m q)) ≡ None
    go false e = n
    go true e = passes_not p q w.0 (content_after w.1) (key_same q w.0 e) h

pub no_put : (p : Row → Bool) (q : RowKey) (ts : History) (m : Map) → NoneOf p q (puts ts) → pass p q (fin.get m q) ≡ None → pass p q (fin.get (after_history ts m) q) ≡ None
no_put p q [] m h n = n
no_put p q (t ∷ ts) m h n =
    no_put p q ts (after_write (write_of t.0 t.1) m) (each_back (λ s. s.0 ≡ q → p s ≡ false) (put_by (write_of t.0 t.1)) (puts ts) h)
    (no_put_one p q (write_of t.0 t.1) m (each_front (λ s. s.0 ≡ q → p s ≡ false) (put_by (write_of t.0 t.1)) (puts ts) h) n)

-- ---- who doesn't change the entry, and has this footprint on the rows, leaves the entry alone
pub none_unless : (w : Option Effect) → is_some w ≡ false → w ≡ None
none_unless None e = refl
none_unless (Some h) e = absurd (true≢false e)

pub unchanged_agree : (e : Entry) (x : StampedTx) (m : Map) → footprint_of x.history m ≡ x.footprint → changes e x ≡ false → AgreeOn e m (after_history x.history m)
unchanged_agree (Key k) x m f h = λ q. go q (eq_by_cmp key_cmp q k) refl
  where
    go : (q : RowKey) (b : Bool) → eq_by_cmp key_cmp q k ≡ b → pass (shows (Key k)) q (fin.get m q) ≡ pass (shows (Key k)) q (fin.get (after_history x.history m) q)
    go q true e =
        let is = key_same q k e in
        ap (pass (shows (Key k)) q) (sym (get-after_history q x.history m ∙ ap (λ w. content_after_last w (fin.get m q)) (subst (λ (j : RowKey). net_write j x.history ≡ None) is (none_unless (net_write k x.history) h))))
    go q false e = none (fin.get m q) ∙ sym (none (fin.get (after_history x.history m) q))
      where
        none : (o : Option ContentData) → pass (shows (Key k)) q o ≡ None
        none None = refl
        none (Some v) = ap (λ (b : Bool). cond b (Some v) None) e
unchanged_agree (Range t lo hi) x m f h = λ q. sym (untouched (shows (Range t lo hi)) q x.history m
    (each_weaker (λ s. shows (Range t lo hi) s ≡ false) (λ s. s.0 ≡ q → shows (Range t lo hi) s ≡ false) (λ s g _. g) (footprint_of x.history m) (subst (AllByRecursion (λ s. shows (Range t lo hi) s ≡ false)) (sym f) (none_any (shows (Range t lo hi)) x.footprint h))))

-- ---- one more operation
pub footprint_push : (ts us : History) (m : Map) → footprint_of (ts ++ us) m ≡ footprint_of ts m ++ footprint_of us (after_history ts m)
footprint_push [] us m = refl
footprint_push (t ∷ ts) us m =
    ap (λ rs. changed_by (write_of t.0 t.1) m ++ rs) (footprint_push ts us (after_write (write_of t.0 t.1) m))
    ∙ sym (append_assoc (changed_by (write_of t.0 t.1) m) (footprint_of ts (after_write (write_of t.0 t.1) m)) (footprint_of us (after_history ts (after_write (write_of t.0 t.1) m))))

-- ---- a row of the footprint that passes: its key is after_write, and it was put or stood before
abbrev IsSource : (Row → Bool) → History → Map → Row → Type 0
IsSource p ts m s = p s ≡ true → (is_some (net_write s.0 ts) ≡ true) × ((list_any (is_row_of p s.0) (puts ts) ≡ true) ⊎ (is_some (pass p s.0 (fin.get m s.0)) ≡ true))

abbrev IsStep : (Row → Bool) → History → Map → Option Write → Row → Type 0
IsStep p ts m w s = p s ≡ true → (is_some (later (net_write s.0 ts) (write_at s.0 w)) ≡ true) × ((list_any (is_row_of p s.0) (put_by w ++ puts ts) ≡ true) ⊎ (is_some (pass p s.0 (fin.get m s.0)) ≡ true))

later_left : (a b : Option Effect) → is_some a ≡ true → is_some (later a b) ≡ true
later_left None b e = absurd (false≢true e)
later_left (Some h) b e = refl

later_right : (a b : Option Effect) → is_some b ≡ true → is_some (later a b) ≡ true
later_right None b e = e
later_right (Some h) b e = refl

own_write : (k : RowKey) (h : Effect) (ts : History) → is_some (later (net_write k ts) (cond (eq_by_cmp key_cmp k k) (Some h) None)) ≡ true
own_write k h ts = later_right (net_write k ts) (cond (eq_by_cmp key_cmp k k) (Some h) None) (ap (λ (b : Bool). is_some (cond b (Some h) None)) (key_is k))

put_here : (p : Row → Bool) (q k : RowKey) (h : Option ContentData) → k ≡ q → is_some (pass p q h) ≡ true → list_any (is_row_of p q) (row_of k h) ≡ true
put_here p q k None e f = absurd (false≢true f)
put_here p q k (Some v) e f = go (p (q, v)) refl f
  where
    go : (b : Bool) → p (q, v) ≡ b → is_some (cond b (Some v) None) ≡ true → (is_row_of p q (k, v) || false) ≡ true
    go false g i = absurd (false≢true i)
    go true g i = or_left (is_row_of p q (k, v)) false (subst (λ (j : RowKey). is_row_of p q (j, v) ≡ true) (sym e) (and_from (eq_by_cmp key_cmp q q) (p (q, v)) (key_is q) g))

pub footprint_source : (p : Row → Bool) (ts : History) (m : Map) → AllByRecursion (IsSource p ts m) (footprint_of ts m)
footprint_source p [] m = tt
footprint_source p (t ∷ ts) m = go (write_of t.0 t.1) (λ n. footprint_source p ts n)
  where
    rest : (w : Option Write) (s : Row) → IsSource p ts (after_write w m) s → IsStep p ts m w s
    rest w s f e = let q = f e in (later_left (net_write s.0 ts) (write_at s.0 w) q.0, elim q.1 [ inl a ↦ inl (any_right (is_row_of p s.0) (put_by w) (puts ts) a) | inr a ↦ from w a ])
      where
        from : (v : Option Write) → is_some (pass p s.0 (fin.get (after_write v m) s.0)) ≡ true → (list_any (is_row_of p s.0) (put_by v ++ puts ts) ≡ true) ⊎ (is_some (pass p s.0 (fin.get m s.0)) ≡ true)
        from None a = inr a
        from (Some v) a = here (eq_by_cmp key_cmp s.0 v.0) refl (sym (ap (λ o. is_some (pass p s.0 o)) (get-after_effect s.0 v.0 v.1 m)) ∙ a)
          where
            here : (b : Bool) → eq_by_cmp key_cmp s.0 v.0 ≡ b → is_some (pass p s.0 (cond b (content_after v.1) (fin.get m s.0))) ≡ true → (list_any (is_row_of p s.0) (row_of v.0 (content_after v.1) ++ puts ts) ≡ true) ⊎ (is_some (pass p s.0 (fin.get m s.0)) ≡ true)
            here false g i = inr i
            here true g i = inl (any_left (is_row_of p s.0) (row_of v.0 (content_after v.1)) (puts ts) (put_here p s.0 v.0 (content_after v.1) (key_same s.0 v.0 g) i))

    seen : (k : RowKey) (h : Effect) (o : Option ContentData) → fin.get m k ≡ o → AllByRecursion (IsStep p ts m (Some (k, h))) (row_of k o)
    seen k h None e = tt
    seen k h (Some v) e = (λ f. (own_write k h ts, inr (ap (λ x. is_some (pass p k x)) e ∙ ap (λ (b : Bool). is_some (cond b (Some v) None)) f)), tt)

    put : (k : RowKey) (h : Effect) → AllByRecursion (IsStep p ts m (Some (k, h))) (row_of k (content_after h))
    put k Delete = tt
    put k (Put v) = (λ f. (own_write k (Put v) ts, inl (or_left (is_row_of p k (k, v)) (list_any (is_row_of p k) (puts ts)) (and_from (eq_by_cmp key_cmp k k) (p (k, v)) (key_is k) f))), tt)

    go : (w : Option Write) → ((n : Map) → AllByRecursion (IsSource p ts n) (footprint_of ts n)) → AllByRecursion (IsStep p ts m w) (changed_by w m ++ footprint_of ts (after_write w m))
    go None r = each_weaker (IsSource p ts m) (IsStep p ts m None) (rest None) (footprint_of ts m) (r m)
    go (Some w) r = each_append (IsStep p ts m (Some w)) (row_of w.0 (fin.get m w.0) ++ row_of w.0 (content_after w.1)) (footprint_of ts (after_write (Some w) m))
        (each_append (IsStep p ts m (Some w)) (row_of w.0 (fin.get m w.0)) (row_of w.0 (content_after w.1)) (seen w.0 w.1 (fin.get m w.0) refl) (put w.0 w.1))
        (each_weaker (IsSource p ts (after_write (Some w) m)) (IsStep p ts m (Some w)) (rest (Some w)) (footprint_of ts (after_write (Some w) m)) (r (after_write (Some w) m)))
