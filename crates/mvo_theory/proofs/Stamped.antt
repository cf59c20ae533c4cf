-- What a change of the stamped ones leaves as it was.
use Rattle.std.proofs.Common.{◌≡◌, ℕ, ◌<◌, ◌≤◌, Bool, true, false, cond, ◌||◌, List, [], ◌∷◌, ◌++◌, Option, None, Some, map, refl, sym, ap, ◌∙◌, subst, ◌⊎◌, inl, inr, arith, append_assoc}
use Rattle.std.specs.Prelude.{⊤, nat_lt, ◌==◌, ◌&&◌, is_some}
use Rattle.std.specs.List.{AllByRecursion, filter, list_any}
use Rattle.std.proofs.lemmas.Bool.{ltb-true, le-ltb, eq-eqb, false≢true, true≢false, and_parts}
use Rattle.mvo_types.specs.declared.row.RowKey.{RowKey}
use Rattle.mvo_types.specs.Keys.{Map}
use Rattle.mvo_types.specs.Write.{Effect}
use Rattle.mvo_model.specs.History.{History, after_history, later, net_write}
use Rattle.mvo_model.proofs.Serials.{net_write-append, later-none}
use Rattle.mvo_theory.proofs.Each.{each_weaker, each_append, each_map}
use Rattle.mvo_types.specs.declared.entry.Entry.{Entry}
use Rattle.mvo_theory.specs.Ranges.{Row, shows}
use Rattle.mvo_theory.specs.State.{StampedTx, history_below}
use Rattle.mvo_theory.specs.Dependencies.{is_writer, or_later, last_writer, has_end, with_end, depend_on}
use Rattle.mvo_theory.specs.Sound.{IsKeyWritten, IsDecided, IsUnchanged, IsClear, IsRising, IsLegal, changes}
use Rattle.mvo_theory.proofs.Footprints.{none_unless, or_right}
use Rattle.mvo_types.specs.declared.entry.Entry.TheVariants.{Key, Range}

-- ---- who decides a key, after a look
abbrev IsHeld : Option StampedTx → List ℕ → Type 0
IsHeld None ds = ⊤
IsHeld (Some y) ds = y.settled ≡ false → has_end ds y.end ≡ true

pub no_stamped : (z : StampedTx) → ◌≡◌ {A = Option StampedTx} None (Some z) → ⊥
no_stamped z q = cc

pub written_last : (k : RowKey) (b : ℕ) (stamped : List StampedTx) (y : StampedTx) → last_writer k b stamped ≡ Some y → IsKeyWritten k b stamped
written_last k b [] y e = absurd (no_stamped y e)
written_last k b (x ∷ xs) y e = go (is_writer k b x) refl (last_writer k b xs) refl (λ z g. written_last k b xs z g) e
  where
    go : (c : Bool) → is_writer k b x ≡ c → (w : Option StampedTx) → last_writer k b xs ≡ w → ((z : StampedTx) → last_writer k b xs ≡ Some z → IsKeyWritten k b xs) → or_later (cond c (Some x) None) w ≡ Some y → (is_writer k b x ≡ true) ⊎ IsKeyWritten k b xs
    go true f w g r h = inl f
    go false f None g r h = absurd (no_stamped y h)
    go false f (Some z) g r h = inr (r z g)

decided_held : (k : RowKey) (b : ℕ) (ds : List ℕ) (stamped : List StampedTx) → IsHeld (last_writer k b stamped) ds → IsDecided k b ds stamped
decided_held k b ds [] h = tt
decided_held k b ds (x ∷ xs) h = go (last_writer k b xs) refl (is_writer k b x) refl (λ e. decided_held k b ds xs e) h
  where
    go : (w : Option StampedTx) → last_writer k b xs ≡ w → (c : Bool) → is_writer k b x ≡ c → (IsHeld (last_writer k b xs) ds → IsDecided k b ds xs) → IsHeld (or_later (cond c (Some x) None) w) ds → (x.settled ≡ false → is_writer k b x ≡ true → (has_end ds x.end ≡ true) ⊎ IsKeyWritten k b xs) × IsDecided k b ds xs
    go (Some z) g c f r h' = (λ _ _. inr (written_last k b xs z g), r (subst (λ v. IsHeld v ds) (sym g) h'))
    go None g true f r h' = (λ o _. inl (h' o), r (subst (λ v. IsHeld v ds) (sym g) tt))
    go None g false f r h' = (λ _ w. absurd (false≢true (sym f ∙ w)), r (subst (λ v. IsHeld v ds) (sym g) tt))

has_with_end : (ds : List ℕ) (d : ℕ) → has_end (with_end ds d) d ≡ true
has_with_end ds d = go (has_end ds d) refl
  where
    go : (b : Bool) → has_end ds d ≡ b → has_end (cond b ds (d ∷ ds)) d ≡ true
    go true e = e
    go false e = ap (λ c. c || has_end ds d) (eq-eqb d d refl)

held_now : (ds : List ℕ) (w : Option StampedTx) → IsHeld w (depend_on ds w)
held_now ds None = tt
held_now ds (Some y) = λ o. subst (λ (c : Bool). has_end (cond c ds (with_end ds y.end)) y.end ≡ true) (sym o) (has_with_end ds y.end)

-- the key that is looked at now is decided
pub decided_now : (k : RowKey) (b : ℕ) (ds : List ℕ) (stamped : List StampedTx) → IsDecided k b (depend_on ds (last_writer k b stamped)) stamped
decided_now k b ds stamped = decided_held k b (depend_on ds (last_writer k b stamped)) stamped (held_now ds (last_writer k b stamped))

pub has_more : (ds : List ℕ) (d x : ℕ) → has_end ds x ≡ true → has_end (with_end ds d) x ≡ true
has_more ds d x e = go (has_end ds d)
  where
    go : (b : Bool) → has_end (cond b ds (d ∷ ds)) x ≡ true
    go true = e
    go false = or_right (d == x) (has_end ds x) e

pub has_rest : (ds : List ℕ) (w : Option StampedTx) (x : ℕ) → has_end ds x ≡ true → has_end (depend_on ds w) x ≡ true
has_rest ds None x e = e
has_rest ds (Some y) x e = go y.settled
  where
    go : (b : Bool) → has_end (cond b ds (with_end ds y.end)) x ≡ true
    go true = e
    go false = has_more ds y.end x e

-- more to depend on
pub decided_more : (k : RowKey) (b : ℕ) (ds es : List ℕ) (stamped : List StampedTx) → ((d : ℕ) → has_end ds d ≡ true → has_end es d ≡ true) → IsDecided k b ds stamped → IsDecided k b es stamped
decided_more k b ds es [] f h = tt
decided_more k b ds es (x ∷ xs) f h = (λ o w. elim (h.0 o w) [ inl q ↦ inl (f x.end q) | inr q ↦ inr q ], decided_more k b ds es xs f h.1)

-- ---- one more at the end of the stamped ones, that ends above the begin
pub history_below-append : (b : ℕ) (xs ys : List StampedTx) → history_below b (xs ++ ys) ≡ history_below b xs ++ history_below b ys
history_below-append b [] ys = refl
history_below-append b (x ∷ xs) ys =
    ap (λ ts. cond (nat_lt x.end b) x.history [] ++ ts) (history_below-append b xs ys)
    ∙ sym (append_assoc (cond (nat_lt x.end b) x.history []) (history_below b xs) (history_below b ys))

pub append-nil : {X : Type 0} (xs : List X) → xs ++ [] ≡ xs
append-nil [] = refl
append-nil (x ∷ xs) = ap (λ ys. x ∷ ys) (append-nil xs)

pub history_below-last : (b : ℕ) (xs : List StampedTx) (y : StampedTx) → b ≤ y.end → history_below b (xs ++ y ∷ []) ≡ history_below b xs
history_below-last b xs y h =
    history_below-append b xs (y ∷ [])
    ∙ ap (λ (c : Bool). history_below b xs ++ (cond c y.history [] ++ [])) (le-ltb y.end b h)
    ∙ append-nil (history_below b xs)

not_writer : (k : RowKey) (b : ℕ) (y : StampedTx) → b ≤ y.end → is_writer k b y ≡ true → ⊥
not_writer k b y h e = let lt = ltb-true y.end b (and_parts (nat_lt y.end b) (is_some (net_write k y.history)) e).0 in absurd (omega arith)

written_append : (k : RowKey) (b : ℕ) (xs ys : List StampedTx) → IsKeyWritten k b xs → IsKeyWritten k b (xs ++ ys)
written_append k b [] ys h = absurd h
written_append k b (x ∷ xs) ys (inl p) = inl p
written_append k b (x ∷ xs) ys (inr q) = inr (written_append k b xs ys q)

pub decided_last : (k : RowKey) (b : ℕ) (ds : List ℕ) (xs : List StampedTx) (y : StampedTx) → b ≤ y.end → IsDecided k b ds xs → IsDecided k b ds (xs ++ y ∷ [])
decided_last k b ds [] y le h = (λ _ w. absurd (not_writer k b y le w), tt)
decided_last k b ds (x ∷ xs) y le h = (λ o w. elim (h.0 o w) [ inl q ↦ inl q | inr q ↦ inr (written_append k b xs (y ∷ []) q) ], decided_last k b ds xs y le h.1)

pub clear_last : (xs : List StampedTx) (y : StampedTx) → y.settled ≡ false → IsClear xs → IsClear (xs ++ y ∷ [])
clear_last [] y o h = (λ _. tt, tt)
clear_last (x ∷ xs) y o h = (λ p. each_append _ xs (y ∷ []) (h.0 p) (λ s. absurd (false≢true (sym o ∙ s)), tt), clear_last xs y o h.1)

pub rising_last : (xs : List StampedTx) (y : StampedTx) → AllByRecursion (λ x. x.end < y.end) xs → IsRising xs → IsRising (xs ++ y ∷ [])
rising_last [] y l h = (tt, tt)
rising_last (x ∷ xs) y l h = (each_append (λ z. x.end < z.end) xs (y ∷ []) h.0 (l.0, tt), rising_last xs y l.1 h.1)

pub legal_last : (m : Map) (xs : List StampedTx) (y : StampedTx) → y.settled ≡ false → IsLegal m xs → IsLegal m (xs ++ y ∷ [])
legal_last m [] y o h = (λ s. absurd (false≢true (sym o ∙ s)), tt)
legal_last m (x ∷ xs) y o h = (h.0, legal_last (after_history (cond x.settled x.history []) m) xs y o h.1)

-- ---- a change of each that keeps the end, the operations, the footprint, and that it is settled
abbrev pub IsLike : (StampedTx → StampedTx) → Type 0
IsLike f = (x : StampedTx) → ((f x).end ≡ x.end) × ((f x).history ≡ x.history) × (x.settled ≡ true → (f x).settled ≡ true) × ((f x).footprint ≡ x.footprint)

pub history_below-map : (f : StampedTx → StampedTx) → IsLike f → (b : ℕ) (xs : List StampedTx) → history_below b (map f xs) ≡ history_below b xs
history_below-map f l b [] = refl
history_below-map f l b (x ∷ xs) =
    ap (λ (n : ℕ). cond (nat_lt n b) (f x).history [] ++ history_below b (map f xs)) (l x).0
    ∙ ap (λ (ts : History). cond (nat_lt x.end b) ts [] ++ history_below b (map f xs)) (l x).1
    ∙ ap (λ ts. cond (nat_lt x.end b) x.history [] ++ ts) (history_below-map f l b xs)

writer-like : (f : StampedTx → StampedTx) → IsLike f → (k : RowKey) (b : ℕ) (x : StampedTx) → is_writer k b (f x) ≡ is_writer k b x
writer-like f l k b x = ap (λ (n : ℕ). nat_lt n b && is_some (net_write k (f x).history)) (l x).0 ∙ ap (λ ts. nat_lt x.end b && is_some (net_write k ts)) (l x).1

written_map : (f : StampedTx → StampedTx) → IsLike f → (k : RowKey) (b : ℕ) (xs : List StampedTx) → IsKeyWritten k b xs → IsKeyWritten k b (map f xs)
written_map f l k b [] h = h
written_map f l k b (x ∷ xs) (inl p) = inl (writer-like f l k b x ∙ p)
written_map f l k b (x ∷ xs) (inr q) = inr (written_map f l k b xs q)

still_open : (b c : Bool) → (b ≡ true → c ≡ true) → c ≡ false → b ≡ false
still_open true c f e = absurd (true≢false (sym (f refl) ∙ e))
still_open false c f e = refl

pub decided_map : (f : StampedTx → StampedTx) → IsLike f → (k : RowKey) (b : ℕ) (ds : List ℕ) (xs : List StampedTx) → IsDecided k b ds xs → IsDecided k b ds (map f xs)
decided_map f l k b ds [] h = tt
decided_map f l k b ds (x ∷ xs) h = (
  λ o w. elim (h.0 (still_open x.settled (f x).settled (l x).2 o) (sym (writer-like f l k b x) ∙ w)) [ inl q ↦ inl (ap (has_end ds) (l x).0 ∙ q) | inr q ↦ inr (written_map f l k b xs q) ],
  decided_map f l k b ds xs h.1,
)

pub rising_map : (f : StampedTx → StampedTx) → IsLike f → (xs : List StampedTx) → IsRising xs → IsRising (map f xs)
rising_map f l [] h = tt
rising_map f l (x ∷ xs) h = (
  each_map f (λ y. x.end < y.end) (λ y. (f x).end < y.end) (λ y lt. let p = (l x).0 in let q = (l y).0 in omega arith) xs h.0,
  rising_map f l xs h.1,
)

changes_like : (f : StampedTx → StampedTx) → IsLike f → (e : Entry) (x : StampedTx) → changes e (f x) ≡ changes e x
changes_like f l (Key k) x = ap (λ ts. is_some (net_write k ts)) (l x).1
changes_like f l (Range t lo hi) x = ap (λ (rs : List Row). list_any (shows (Range t lo hi)) rs) (l x).3

pub unchanged_map : (f : StampedTx → StampedTx) → IsLike f → (b c : ℕ) (e : Entry) (xs : List StampedTx) → IsUnchanged xs b c e → IsUnchanged (map f xs) b c e
unchanged_map f l b c e xs h = each_map f (λ u. b < u.end → u.end < c → changes e u ≡ false) (λ u. b < u.end → u.end < c → changes e u ≡ false)
    (λ u g x y. changes_like f l e u ∙ g (let p = (l u).0 in omega arith) (let p = (l u).0 in omega arith)) xs h

-- ---- some are taken out of the stamped ones, on which this one doesn't depend
abbrev pub IsOut : (StampedTx → Bool) → List ℕ → StampedTx → Type 0
IsOut p ds x = p x ≡ false → (x.settled ≡ false) × (has_end ds x.end ≡ false)

written_filter : (p : StampedTx → Bool) (k : RowKey) (b : ℕ) (ds : List ℕ) (xs : List StampedTx) → AllByRecursion (IsOut p ds) xs → IsDecided k b ds xs → IsKeyWritten k b xs → IsKeyWritten k b (filter p xs)
written_filter p k b ds [] o d h = h
written_filter p k b ds (x ∷ xs) o d h = go (p x) refl (λ q. written_filter p k b ds xs o.1 d.1 q) h
  where
    go : (c : Bool) → p x ≡ c → (IsKeyWritten k b xs → IsKeyWritten k b (filter p xs)) → (is_writer k b x ≡ true) ⊎ IsKeyWritten k b xs → IsKeyWritten k b (cond c (x ∷ filter p xs) (filter p xs))
    go true e r (inl w) = inl w
    go true e r (inr q) = inr (r q)
    go false e r (inl w) = elim (d.0 (o.0 e).0 w) [ inl q ↦ absurd (false≢true (sym (o.0 e).1 ∙ q)) | inr q ↦ r q ]
    go false e r (inr q) = r q

pub decided_filter : (p : StampedTx → Bool) (k : RowKey) (b : ℕ) (ds : List ℕ) (xs : List StampedTx) → AllByRecursion (IsOut p ds) xs → IsDecided k b ds xs → IsDecided k b ds (filter p xs)
decided_filter p k b ds [] o d = tt
decided_filter p k b ds (x ∷ xs) o d = go (p x) (written_filter p k b ds xs o.1 d.1) (decided_filter p k b ds xs o.1 d.1)
  where
    go : (c : Bool) → (IsKeyWritten k b xs → IsKeyWritten k b (filter p xs)) → IsDecided k b ds (filter p xs) → IsDecided k b ds (cond c (x ∷ filter p xs) (filter p xs))
    go true f r = (λ s w. elim (d.0 s w) [ inl q ↦ inl q | inr q ↦ inr (f q) ], r)
    go false f r = r

-- ---- the write at a key, of what is seen
is_there : (w : Option Effect) → is_some w ≡ true → (h : Effect) × (w ≡ Some h)
is_there None n = absurd (false≢true n)
is_there (Some h) n = (h, refl)

later_there : (a b : Option Effect) → is_some a ≡ true → later a b ≡ a
later_there None b e = absurd (false≢true e)
later_there (Some h) b e = refl

later_some : (a b : Option Effect) → is_some b ≡ true → is_some (later a b) ≡ true
later_some None b e = e
later_some (Some h) b e = refl

written_seen : (k : RowKey) (b : ℕ) (xs : List StampedTx) → IsKeyWritten k b xs → is_some (net_write k (history_below b xs)) ≡ true
written_seen k b [] h = absurd h
written_seen k b (x ∷ xs) (inl w) =
    let both = and_parts (nat_lt x.end b) (is_some (net_write k x.history)) w in
    ap is_some (net_write-append k (cond (nat_lt x.end b) x.history []) (history_below b xs))
    ∙ later_some (net_write k (history_below b xs)) (net_write k (cond (nat_lt x.end b) x.history [])) (ap (λ (c : Bool). is_some (net_write k (cond c x.history []))) both.0 ∙ both.1)
written_seen k b (x ∷ xs) (inr q) =
    ap is_some (net_write-append k (cond (nat_lt x.end b) x.history []) (history_below b xs))
    ∙ ap is_some (later_there (net_write k (history_below b xs)) (net_write k (cond (nat_lt x.end b) x.history [])) (written_seen k b xs q)) ∙ written_seen k b xs q

-- what is taken out decides nothing
unseen_one : (k : RowKey) (c : Bool) (us rest all : History) → net_write k rest ≡ net_write k all → ((c && is_some (net_write k us)) ≡ true → is_some (net_write k all) ≡ true) → net_write k rest ≡ net_write k (cond c us [] ++ all)
unseen_one k false us rest all e f = e
unseen_one k true us rest all e f = go (is_some (net_write k us)) refl
  where
    go : (s : Bool) → is_some (net_write k us) ≡ s → net_write k rest ≡ net_write k (us ++ all)
    go true g = e ∙ sym (net_write-append k us all ∙ later_there (net_write k all) (net_write k us) (f g))
    go false g = e ∙ sym (net_write-append k us all ∙ ap (later (net_write k all)) (none_unless (net_write k us) g) ∙ later-none (net_write k all))

pub seen_filter : (p : StampedTx → Bool) (k : RowKey) (b : ℕ) (ds : List ℕ) (xs : List StampedTx) → AllByRecursion (IsOut p ds) xs → IsDecided k b ds xs → net_write k (history_below b (filter p xs)) ≡ net_write k (history_below b xs)
seen_filter p k b ds [] o d = refl
seen_filter p k b ds (x ∷ xs) o d = go (p x) refl (seen_filter p k b ds xs o.1 d.1)
  where
    go : (c : Bool) → p x ≡ c → net_write k (history_below b (filter p xs)) ≡ net_write k (history_below b xs) → net_write k (history_below b (cond c (x ∷ filter p xs) (filter p xs))) ≡ net_write k (cond (nat_lt x.end b) x.history [] ++ history_below b xs)
    go true e r = net_write-append k (cond (nat_lt x.end b) x.history []) (history_below b (filter p xs)) ∙ ap (λ w. later w (net_write k (cond (nat_lt x.end b) x.history []))) r ∙ sym (net_write-append k (cond (nat_lt x.end b) x.history []) (history_below b xs))
    go false e r = unseen_one k (nat_lt x.end b) x.history (history_below b (filter p xs)) (history_below b xs) r
        (λ w. elim (d.0 (o.0 e).0 w) [ inl q ↦ absurd (false≢true (sym (o.0 e).1 ∙ q)) | inr q ↦ written_seen k b xs q ])

pub legal_filter : (p : StampedTx → Bool) (m : Map) (xs : List StampedTx) → AllByRecursion (λ x. p x ≡ false → x.settled ≡ false) xs → IsLegal m xs → IsLegal m (filter p xs)
legal_filter p m [] h l = tt
legal_filter p m (x ∷ xs) h l = go (p x) refl (legal_filter p (after_history (cond x.settled x.history []) m) xs h.1 l.1)
  where
    go : (c : Bool) → p x ≡ c → IsLegal (after_history (cond x.settled x.history []) m) (filter p xs) → IsLegal m (cond c (x ∷ filter p xs) (filter p xs))
    go true e r = (l.0, r)
    go false e r = subst (λ (b : Bool). IsLegal (after_history (cond b x.history []) m) (filter p xs)) (h.0 e) r

each_cond : {X : Type 0} (Q : X → Type 0) (b : Bool) (x : X) (xs : List X) → Q x → AllByRecursion Q xs → AllByRecursion Q (cond b (x ∷ xs) xs)
each_cond Q true x xs h k = (h, k)
each_cond Q false x xs h k = k

pub each_part : {X : Type 0} (p : X → Bool) (Q : X → Type 0) (xs : List X) → AllByRecursion Q xs → AllByRecursion Q (filter p xs)
each_part p Q [] h = tt
each_part p Q (x ∷ xs) h = each_cond Q (p x) x (filter p xs) h.0 (each_part p Q xs h.1)

pub clear_filter : (p : StampedTx → Bool) (xs : List StampedTx) → IsClear xs → IsClear (filter p xs)
clear_filter p [] h = tt
clear_filter p (x ∷ xs) h = go (p x) (clear_filter p xs h.1)
  where
    go : (c : Bool) → IsClear (filter p xs) → IsClear (cond c (x ∷ filter p xs) (filter p xs))
    go true r = (λ o. each_part p _ xs (h.0 o), r)
    go false r = r

pub rising_filter : (p : StampedTx → Bool) (xs : List StampedTx) → IsRising xs → IsRising (filter p xs)
rising_filter p [] h = tt
rising_filter p (x ∷ xs) h = go (p x) (rising_filter p xs h.1)
  where
    go : (c : Bool) → IsRising (filter p xs) → IsRising (cond c (x ∷ filter p xs) (filter p xs))
    go true r = (each_part p (λ y. x.end < y.end) xs h.0, r)
    go false r = r

pub rising_both : (m : ℕ) (xs ys : List StampedTx) → AllByRecursion (λ x. x.end ≤ m) xs → AllByRecursion (λ y. m < y.end) ys → IsRising xs → IsRising ys → IsRising (xs ++ ys)
rising_both m [] ys l g h k = k
rising_both m (x ∷ xs) ys l g h k = (
  each_append (λ y. x.end < y.end) xs ys h.0 (each_weaker (λ y. m < y.end) (λ y. x.end < y.end) (λ y a. let b = l.0 in omega arith) ys g),
  rising_both m xs ys l.1 g h.1 k,
)
