-- The last change below a stamp is the last writer's, or stands up to the start.
use Rattle.std.proofs.Common.{◌≡◌, ◌≢◌, ℕ, ◌<◌, ◌≤◌, suc, zero, Bool, true, false, cond, List, [], ◌∷◌, Option, None, Some, refl, sym, ap, ◌∙◌, subst, arith, ◌⊎◌, inl, inr}
use Rattle.std.specs.Prelude.{nat_lt, is_some, ◌&&◌}
use Rattle.std.specs.List.{AllByRecursion}
use Rattle.std.specs.Option.{option_map}
use Rattle.std.proofs.lemmas.Bool.{lt-ltb, le-ltb, eq-eqb, ne_eqb, cases_order, and_parts}
use Rattle.mvo_types.specs.declared.row.RowKey.{RowKey}
use Rattle.mvo_model.specs.History.{History, later, net_write}
use Rattle.mvo_model.proofs.Serials.{net_write-append}
use Rattle.mvo_theory.specs.State.{StampedTx, history_below}
use Rattle.mvo_theory.specs.Dependencies.{is_writer, or_later, last_writer}
use Rattle.mvo_theory.specs.Sound.{IsRising}
use Rattle.mvo_theory.proofs.Each.{each_weaker, each_always}
use Rattle.mvo_representation.specs.Words.{NetEffect, as_net_effect, or_change_at, last_change}
use Rattle.mvo_representation.specs.Words.NetEffect.{Untouched, Removed, Puts, Clash}
use Rattle.mvo_representation.specs.Versions.{history_at, rows_at}
use Rattle.mvo_types.specs.Write.{Effect}
use Rattle.mvo_types.specs.Write.Effect.{Put, Delete as Gone}

-- ---- changes that agree below b
pub last_change_same : (f g : ℕ → NetEffect) (b : ℕ) → ((s : ℕ) → s < b → f s ≡ g s) → last_change f b ≡ last_change g b
last_change_same f g zero h = refl
last_change_same f g (suc b) h =
    ap (λ d. or_change_at b d (last_change f b)) (h b (omega arith))
    ∙ ap (or_change_at b (g b)) (last_change_same f g b (λ s lt. h s (omega arith)))

-- ---- the change of a writer
abbrev pub change_by : RowKey → StampedTx → ℕ × NetEffect
change_by k x = (x.end, as_net_effect (net_write k x.history))

abbrev pub first_of : Option (ℕ × NetEffect) → Option (ℕ × NetEffect) → Option (ℕ × NetEffect)
first_of None r = r
first_of (Some p) r = Some p

abbrev pub change_of_last : RowKey → ℕ → List StampedTx → Option (ℕ × NetEffect)
change_of_last k b xs = option_map (change_by k) (last_writer k b xs)

-- nobody ends at s
pub history_at-none : (e : ℕ) (xs : List StampedTx) → AllByRecursion (λ x. x.end ≢ e) xs → history_at e xs ≡ []
history_at-none e [] h = refl
history_at-none e (x ∷ xs) h = ap (λ b. cond b x.history (history_at e xs)) (ne_eqb x.end e h.0) ∙ history_at-none e xs h.1

pub rows_at-none : (e : ℕ) (xs : List StampedTx) → AllByRecursion (λ x. x.end ≢ e) xs → rows_at e xs ≡ []
rows_at-none e [] h = refl
rows_at-none e (x ∷ xs) h = ap (λ b. cond b x.footprint (rows_at e xs)) (ne_eqb x.end e h.0) ∙ rows_at-none e xs h.1

-- none writes below b
pub last_none_above : (k : RowKey) (b : ℕ) (xs : List StampedTx) → AllByRecursion (λ x. b ≤ x.end) xs → last_writer k b xs ≡ None
last_none_above k b [] h = refl
last_none_above k b (x ∷ xs) h =
    ap (λ (c : Bool). or_later (cond (c && is_some (net_write k x.history)) (Some x) None) (last_writer k b xs)) (le-ltb x.end b h.0)
    ∙ ap (or_later None) (last_none_above k b xs h.1)

-- ---- one step up
-- a change at b, if something was done
abbrev pub mark : ℕ → NetEffect → Option (ℕ × NetEffect)
mark b Untouched = None
mark b Removed = Some (b, Removed)
mark b (Puts h) = Some (b, Puts h)
mark b Clash = Some (b, Clash)

pub or_change_at-mark : (b : ℕ) (d : NetEffect) (r : Option (ℕ × NetEffect)) → or_change_at b d r ≡ first_of (mark b d) r
or_change_at-mark b Untouched r = refl
or_change_at-mark b Removed r = refl
or_change_at-mark b (Puts h) r = refl
or_change_at-mark b Clash r = refl

first_assoc : (p q r : Option (ℕ × NetEffect)) → first_of (first_of p q) r ≡ first_of p (first_of q r)
first_assoc None q r = refl
first_assoc (Some p) q r = refl

first-none : (p : Option (ℕ × NetEffect)) → first_of p None ≡ p
first-none None = refl
first-none (Some p) = refl

change-but : (k : RowKey) (c w : Option StampedTx) → option_map (change_by k) (or_later c w) ≡ first_of (option_map (change_by k) w) (option_map (change_by k) c)
change-but k c None = refl
change-but k c (Some y) = refl

change-cond : (k : RowKey) (b : Bool) (x : StampedTx) → option_map (change_by k) (cond b (Some x) None) ≡ cond b (Some (change_by k x)) None
change-cond k true x = refl
change-cond k false x = refl

mark_of : (e : ℕ) (w : Option Effect) → cond (is_some w) (Some (e, as_net_effect w)) None ≡ mark e (as_net_effect w)
mark_of e None = refl
mark_of e (Some Gone) = refl
mark_of e (Some (Put h)) = refl

-- what one alone makes
abbrev own_change : RowKey → ℕ → StampedTx → Option (ℕ × NetEffect)
own_change k b x = option_map (change_by k) (cond (is_writer k b x) (Some x) None)

own-below : (k : RowKey) (b : ℕ) (x : StampedTx) → x.end < b → own_change k b x ≡ mark x.end (as_net_effect (net_write k x.history))
own-below k b x lt =
    change-cond k (is_writer k b x) x
    ∙ ap (λ (c : Bool). cond (c && is_some (net_write k x.history)) (Some (change_by k x)) None) (lt-ltb x.end b lt)
    ∙ mark_of x.end (net_write k x.history)

own-above : (k : RowKey) (b : ℕ) (x : StampedTx) → b ≤ x.end → own_change k b x ≡ None
own-above k b x le = ap (λ (c : Bool). option_map (change_by k) (cond (c && is_some (net_write k x.history)) (Some x) None)) (le-ltb x.end b le)

last_step : (k : RowKey) (b : ℕ) (xs : List StampedTx) → IsRising xs → change_of_last k (suc b) xs ≡ first_of (mark b (as_net_effect (net_write k (history_at b xs)))) (change_of_last k b xs)
last_step k b [] h = refl
last_step k b (x ∷ xs) h = go (cases_order x.end b) (last_step k b xs h.1)
  where
    above : x.end ≡ b → AllByRecursion (λ y. suc b ≤ y.end) xs
    above e = each_weaker (λ y. x.end < y.end) (λ y. suc b ≤ y.end) (λ y lt. omega (arith, lt, e)) xs h.0

    beyond : b < x.end → AllByRecursion (λ y. suc b ≤ y.end) xs
    beyond gt = each_weaker (λ y. x.end < y.end) (λ y. suc b ≤ y.end) (λ y lt. omega (arith, lt, gt)) xs h.0

    lower : AllByRecursion (λ y. suc b ≤ y.end) xs → AllByRecursion (λ y. b ≤ y.end) xs
    lower a = each_weaker (λ y. suc b ≤ y.end) (λ y. b ≤ y.end) (λ y lt. omega (arith, lt)) xs a

    nobody : AllByRecursion (λ y. suc b ≤ y.end) xs → history_at b xs ≡ []
    nobody a = history_at-none b xs (each_weaker (λ y. suc b ≤ y.end) (λ y. y.end ≢ b) (λ y lt e. absurd (omega (arith, lt, e))) xs a)

    none_up : AllByRecursion (λ y. suc b ≤ y.end) xs → change_of_last k (suc b) xs ≡ None
    none_up a = ap (option_map (change_by k)) (last_none_above k (suc b) xs a)

    none_here : AllByRecursion (λ y. suc b ≤ y.end) xs → change_of_last k b xs ≡ None
    none_here a = ap (option_map (change_by k)) (last_none_above k b xs (lower a))

    whole : (c : ℕ) → change_of_last k c (x ∷ xs) ≡ first_of (change_of_last k c xs) (own_change k c x)
    whole c = change-but k (cond (is_writer k c x) (Some x) None) (last_writer k c xs)

    net_effect_at : ℕ → History → Option (ℕ × NetEffect)
    net_effect_at e ts = mark e (as_net_effect (net_write k ts))

    go : (x.end ≡ b) ⊎ ((x.end < b) ⊎ (b < x.end)) → change_of_last k (suc b) xs ≡ first_of (mark b (as_net_effect (net_write k (history_at b xs)))) (change_of_last k b xs) → change_of_last k (suc b) (x ∷ xs) ≡ first_of (mark b (as_net_effect (net_write k (history_at b (x ∷ xs))))) (change_of_last k b (x ∷ xs))
    go (inl e) again =
        whole (suc b)
        ∙ ap (λ r. first_of r (own_change k (suc b) x)) (none_up (above e))
        ∙ own-below k (suc b) x (omega (arith, e))
        ∙ ap (λ n. mark n (as_net_effect (net_write k x.history))) e
        ∙ sym (first-none (mark b (as_net_effect (net_write k x.history))))
        ∙ ap (λ (c : Bool). first_of (mark b (as_net_effect (net_write k (cond c x.history (history_at b xs))))) None) (sym (eq-eqb x.end b e))
        ∙ ap (first_of (mark b (as_net_effect (net_write k (history_at b (x ∷ xs)))))) (sym (whole b ∙ ap (λ r. first_of r (own_change k b x)) (none_here (above e)) ∙ own-above k b x (omega (arith, e))))
    go (inr (inl lt)) again =
        whole (suc b)
        ∙ ap (λ r. first_of r (own_change k (suc b) x)) again
        ∙ ap (first_of (first_of (mark b (as_net_effect (net_write k (history_at b xs)))) (change_of_last k b xs))) (own-below k (suc b) x (omega (arith, lt)) ∙ sym (own-below k b x lt))
        ∙ first_assoc (mark b (as_net_effect (net_write k (history_at b xs)))) (change_of_last k b xs) (own_change k b x)
        ∙ ap (first_of (mark b (as_net_effect (net_write k (history_at b xs))))) (sym (whole b))
        ∙ ap (λ (c : Bool). first_of (mark b (as_net_effect (net_write k (cond c x.history (history_at b xs))))) (change_of_last k b (x ∷ xs))) (sym (ne_eqb x.end b (λ e. absurd (omega (arith, lt, e)))))
    go (inr (inr gt)) again =
        whole (suc b)
        ∙ ap (λ r. first_of r (own_change k (suc b) x)) (none_up (beyond gt))
        ∙ own-above k (suc b) x gt
        ∙ ap (λ (ts : History). first_of (mark b (as_net_effect (net_write k ts))) None) (sym (nobody (beyond gt)))
        ∙ ap (λ (c : Bool). first_of (mark b (as_net_effect (net_write k (cond c x.history (history_at b xs))))) None) (sym (ne_eqb x.end b (λ e. absurd (omega (arith, gt, e)))))
        ∙ ap (first_of (mark b (as_net_effect (net_write k (history_at b (x ∷ xs)))))) (sym (whole b ∙ ap (λ r. first_of r (own_change k b x)) (none_here (beyond gt)) ∙ own-above k b x (omega (arith, gt))))

-- ---- the change below b: that of the last writer, or else of those up to the start
pub above_start : (a b : ℕ) → a < b → (suc a ≡ b) ⊎ (suc a < b)
above_start a b lt = go (cases_order (suc a) b)
  where
    go : (suc a ≡ b) ⊎ ((suc a < b) ⊎ (b < suc a)) → (suc a ≡ b) ⊎ (suc a < b)
    go (inl e) = inl e
    go (inr (inl l)) = inr l
    go (inr (inr g)) = absurd (omega (arith, lt, g))

pub last_change_last : (f : ℕ → NetEffect) (k : RowKey) (xs : List StampedTx) (start b : ℕ) → ((s : ℕ) → start < s → f s ≡ as_net_effect (net_write k (history_at s xs))) → IsRising xs → AllByRecursion (λ x. start < x.end) xs → start < b → last_change f b ≡ first_of (change_of_last k b xs) (last_change f (suc start))
last_change_last f k xs start zero h r a lt = absurd (omega (arith, lt))
last_change_last f k xs start (suc b) h r a lt = go (above_start start (suc b) lt) (λ l. last_change_last f k xs start b h r a l)
  where
    go : (suc start ≡ suc b) ⊎ (suc start < suc b) → (start < b → last_change f b ≡ first_of (change_of_last k b xs) (last_change f (suc start))) → last_change f (suc b) ≡ first_of (change_of_last k (suc b) xs) (last_change f (suc start))
    go (inl e) again =
        ap (last_change f) (sym e)
        ∙ sym (ap (λ w. first_of (option_map (change_by k) w) (last_change f (suc start))) (ap (λ c. last_writer k c xs) (sym e) ∙ last_none_above k (suc start) xs (each_weaker (λ x. start < x.end) (λ x. suc start ≤ x.end) (λ x l. omega (arith, l)) xs a)))
    go (inr l) again =
        ap (λ d. or_change_at b d (last_change f b)) (h b (omega (arith, l)))
        ∙ or_change_at-mark b (as_net_effect (net_write k (history_at b xs))) (last_change f b)
        ∙ ap (first_of (mark b (as_net_effect (net_write k (history_at b xs))))) (again (omega (arith, l)))
        ∙ sym (first_assoc (mark b (as_net_effect (net_write k (history_at b xs)))) (change_of_last k b xs) (last_change f (suc start)))
        ∙ ap (λ p. first_of p (last_change f (suc start))) (sym (last_step k b xs r))

-- ---- what is seen below b is the last writer's
abbrev pub write_by : RowKey → Option StampedTx → Option Effect
write_by k None = None
write_by k (Some x) = net_write k x.history

true≢false : true ≡ false → ⊥
true≢false q = cc

none_or : (w : Option Effect) → is_some w ≡ false → w ≡ None
none_or None e = refl
none_or (Some h) e = absurd (true≢false e)

none_stamped : (y : StampedTx) → ◌≡◌ {A = Option StampedTx} None (Some y) → ⊥
none_stamped y e = cc

some_slot : (x y : StampedTx) → ◌≡◌ {A = Option StampedTx} (Some x) (Some y) → x ≡ y
some_slot x y e = cc

-- what holds of each writer below b holds of the last
pub last_holds : (P : StampedTx → Type 0) (k : RowKey) (b : ℕ) (xs : List StampedTx) (y : StampedTx) → AllByRecursion (λ x. is_writer k b x ≡ true → P x) xs → last_writer k b xs ≡ Some y → P y
last_holds P k b [] y h e = absurd (none_stamped y e)
last_holds P k b (x ∷ xs) y h e = go (is_writer k b x) refl (last_writer k b xs) refl e (λ z f. last_holds P k b xs z h.1 f)
  where
    go : (c : Bool) → is_writer k b x ≡ c → (w : Option StampedTx) → last_writer k b xs ≡ w → or_later (cond c (Some x) None) w ≡ Some y → ((z : StampedTx) → last_writer k b xs ≡ Some z → P z) → P y
    go c f (Some z) g i again = subst P (some_slot z y i) (again z g)
    go true f None g i again = subst P (some_slot x y i) (h.0 f)
    go false f None g i again = absurd (none_stamped y i)

writer_writes : (k : RowKey) (b : ℕ) (x : StampedTx) → is_writer k b x ≡ true → is_some (net_write k x.history) ≡ true
writer_writes k b x e = (and_parts (nat_lt x.end b) (is_some (net_write k x.history)) e).1

pub last_writes : (k : RowKey) (b : ℕ) (xs : List StampedTx) (y : StampedTx) → last_writer k b xs ≡ Some y → is_some (net_write k y.history) ≡ true
last_writes k b xs y e = last_holds (λ x. is_some (net_write k x.history) ≡ true) k b xs y (each_always (λ x. is_writer k b x ≡ true → is_some (net_write k x.history) ≡ true) (λ x. writer_writes k b x) xs) e

pub history_below_last : (k : RowKey) (b : ℕ) (xs : List StampedTx) → net_write k (history_below b xs) ≡ write_by k (last_writer k b xs)
history_below_last k b [] = refl
history_below_last k b (x ∷ xs) =
    net_write-append k (cond (nat_lt x.end b) x.history []) (history_below b xs)
    ∙ ap (λ w. later w (net_write k (cond (nat_lt x.end b) x.history []))) (history_below_last k b xs)
    ∙ go (nat_lt x.end b) (is_some (net_write k x.history)) refl (last_writer k b xs) refl
  where
    over_some : (a b : Option Effect) → is_some a ≡ true → later a b ≡ a
    over_some None c e = absurd (true≢false (sym e))
    over_some (Some a) c e = refl

    go : (c d : Bool) → is_some (net_write k x.history) ≡ d → (w : Option StampedTx) → last_writer k b xs ≡ w → later (write_by k w) (net_write k (cond c x.history [])) ≡ write_by k (or_later (cond (c && d) (Some x) None) w)
    go c d e (Some y) f = over_some (net_write k y.history) (net_write k (cond c x.history [])) (last_writes k b xs y f)
    go true true e None f = refl
    go true false e None f = none_or (net_write k x.history) e
    go false d e None f = refl
