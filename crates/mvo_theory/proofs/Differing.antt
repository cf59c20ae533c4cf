-- A check names the greatest end by which the next entry differs, and passes where it doesn't.
use Rattle.std.proofs.Common.{◌≡◌, ℕ, ◌<◌, ◌≤◌, Bool, true, false, cond, List, Option, None, Some, length, refl, sym, ap, ◌∙◌, subst, arith, inl, inr, [], ◌∷◌}
use Rattle.std.specs.Prelude.{nat_lt, nat_le, ◌&&◌, is_some, slice_get}
use Rattle.std.specs.List.{AllByRecursion, list_any}
use Rattle.std.proofs.lemmas.Bool.{true≢false, and_parts, and_from, ltb-true, lt-ltb, leb-true}
use Rattle.std.proofs.lemmas.Option.{slice_get_past}
use Rattle.mvo_types.specs.declared.refusal.Refusal.{Refusal}
use Rattle.mvo_types.specs.declared.refusal.Refusal.TheVariants.{ValidationFailed}
use Rattle.mvo_types.specs.Keys.{Map}
use Rattle.mvo_model.specs.History.{net_write}
use Rattle.mvo_model.specs.Trace.{Step, Phase, history_of, phase_of}
use Rattle.mvo_model.specs.Trace.Phase.{Preparing}
use Rattle.mvo_types.specs.declared.entry.Entry.{Entry}
use Rattle.mvo_theory.specs.Entries.{entries}
use Rattle.mvo_types.specs.declared.entry.Entry.TheVariants.{Key, Range}
use Rattle.mvo_theory.specs.Ranges.{shows}
use Rattle.mvo_theory.specs.State.{State, StampedTx}
use Rattle.mvo_theory.specs.Causes.{is_changer, change_of, entry_differs}
use Rattle.mvo_theory.specs.Sound.{changes}
use Rattle.mvo_theory.specs.Snapshots.{footprint_in}
use Rattle.mvo_theory.specs.Calls.{IsKept}
use Rattle.mvo_theory.proofs.Apart.{IsIn}
use Rattle.mvo_theory.proofs.Causes.{HasEnd, last_none, change_greatest}
use Rattle.mvo_theory.specs.Counts.{checks_in}
use Rattle.mvo_theory.specs.Differences.{HasChanged, DiffersBy, next_entry, NextDiffers, NextDiffersLast}
use Rattle.mvo_theory.specs.Counted.{HasChecks}
use Rattle.mvo_theory.proofs.Firsts.{none_refusal, differs_none, differs_some}
use Rattle.mvo_theory.proofs.There.{ends_at, There, IsSomewhere, Past, Stamped, somewhere}

-- ---- one that has changed an entry
changed_there : (opening : Map) (steps : List Step) (x : StampedTx) (entry : Entry) → history_of x.id steps ≡ x.history → footprint_in opening steps x.id ≡ x.footprint → changes entry x ≡ true → HasChanged opening steps entry x.id
changed_there opening steps x (Key k) t f c = ap (λ ts. is_some (net_write k ts)) t ∙ c
changed_there opening steps x (Range a lo hi) t f c = ap (list_any (shows (Range a lo hi))) f ∙ c

changed_here : (opening : Map) (steps : List Step) (x : StampedTx) (entry : Entry) → history_of x.id steps ≡ x.history → footprint_in opening steps x.id ≡ x.footprint → HasChanged opening steps entry x.id → changes entry x ≡ true
changed_here opening steps x (Key k) t f c = sym (ap (λ ts. is_some (net_write k ts)) t) ∙ c
changed_here opening steps x (Range a lo hi) t f c = sym (ap (list_any (shows (Range a lo hi))) f) ∙ c

end_in : (p : StampedTx → Bool) (n : ℕ) (xs : List StampedTx) (R : Type 0) → ((x : StampedTx) → IsIn x xs → x.end ≡ n → p x ≡ true → R) → HasEnd p n xs → R
end_in p n [] R f h = absurd h
end_in p n (x ∷ xs) R f (inl h) = f x (λ P g. g.0) h.0 h.1
end_in p n (x ∷ xs) R f (inr h) = end_in p n xs R (λ y m. f y (λ P g. m P g.1)) h

-- whom the state names differs by the trace
pub differs_by : (opening : Map) (steps : List Step) (s : State) (b e n : ℕ) (entry : Entry) → change_of s.stamped b e entry ≡ Some n → IsKept opening steps s → DiffersBy opening steps entry b e n
differs_by opening steps s b e n entry c h = end_in (is_changer b e entry) n s.stamped (DiffersBy opening steps entry b e n) one (change_greatest s.stamped b e entry n h.sound.rising c).0
  where
    one : (x : StampedTx) → IsIn x s.stamped → x.end ≡ n → is_changer b e entry x ≡ true → DiffersBy opening steps entry b e n
    one x m i p =
        let q = and_parts (nat_lt b x.end && nat_lt x.end e) (changes entry x) p in
        let r = and_parts (nat_lt b x.end) (nat_lt x.end e) q.0 in
        subst (DiffersBy opening steps entry b e) i (record {
          writer = x.id;
          ends = ends_at opening steps s x m h;
          above = ltb-true b x.end r.0;
          below = ltb-true x.end e r.1;
          changed = changed_there opening steps x entry (m (λ y. history_of y.id steps ≡ y.history) h.after_trace.stamped) (m (λ y. footprint_in opening steps y.id ≡ y.footprint) h.prints.stamped) q.1;
        })

-- who differs by the trace is one whom the state looks at
changer_found : (opening : Map) (steps : List Step) (s : State) (x : StampedTx) (entry : Entry) (n : ℕ) (R : Type 0) → IsIn x s.stamped → x.settled ≡ false → IsKept opening steps s → DiffersBy opening steps entry x.id x.end n →
    ((y : StampedTx) → IsIn y s.stamped → y.end ≡ n → is_changer x.id x.end entry y ≡ true → R) → R
changer_found opening steps s x entry n R m o h d f = go (somewhere opening steps s d.writer n d.ends h)
  where
    changed : (y : StampedTx) → IsIn y s.stamped → y.id ≡ d.writer → changes entry y ≡ true
    changed y my i = changed_here opening steps y entry (my (λ z. history_of z.id steps ≡ z.history) h.after_trace.stamped) (my (λ z. footprint_in opening steps z.id ≡ z.footprint) h.prints.stamped)
        (subst (HasChanged opening steps entry) (sym i) d.changed)

    between : (y : StampedTx) → y.end ≡ n → (nat_lt x.id y.end && nat_lt y.end x.end) ≡ true
    between y e =
        let a = d.above in
        let b = d.below in
        and_from (nat_lt x.id y.end) (nat_lt y.end x.end) (lt-ltb x.id y.end (omega (arith, a, e))) (lt-ltb y.end x.end (omega (arith, b, e)))

    go : IsSomewhere s d.writer n → R
    go (Past (There z mz i e)) =
        let behind = mz (λ q. q.end < x.id) (m (λ y. y.settled ≡ false → AllByRecursion (λ q. q.end < y.id) s.past) h.origins.behind o) in
        let a = d.above in
        absurd (omega (arith, behind, e, a))
    go (Stamped (There y my i e)) = f y my e (and_from (nat_lt x.id y.end && nat_lt y.end x.end) (changes entry y) (between y e) (changed y my i))

undiffering : (opening : Map) (steps : List Step) (s : State) (x : StampedTx) (entry : Entry) (n : ℕ) → IsIn x s.stamped → x.settled ≡ false → IsKept opening steps s → change_of s.stamped x.id x.end entry ≡ None → DiffersBy opening steps entry x.id x.end n → ⊥
undiffering opening steps s x entry n m o h none d = changer_found opening steps s x entry n ⊥ m o h d
    (λ y my e p. true≢false (sym p ∙ my (λ u. is_changer x.id x.end entry u ≡ false) (last_none (is_changer x.id x.end entry) s.stamped none)))

greatest : (opening : Map) (steps : List Step) (s : State) (x : StampedTx) (entry : Entry) (n : ℕ) → IsIn x s.stamped → x.settled ≡ false → IsKept opening steps s → change_of s.stamped x.id x.end entry ≡ Some n → (i : ℕ) → DiffersBy opening steps entry x.id x.end i → i ≤ n
greatest opening steps s x entry n m o h some i d = changer_found opening steps s x entry i (i ≤ n) m o h d
    (λ y my e p. let le = my (λ u. is_changer x.id x.end entry u ≡ true → u.end ≤ n) (change_greatest s.stamped x.id x.end entry n h.sound.rising some).1 p in omega (arith, le, e))

-- ---- the next entry
none_entry : (e : Entry) → ◌≡◌ {A = Option Entry} None (Some e) → ⊥
none_entry e q = cc

same_entry : (d e : Entry) → ◌≡◌ {A = Option Entry} (Some d) (Some e) → d ≡ e
same_entry d e q = cc

same_end : (m n : ℕ) → ◌≡◌ {A = Phase} (Preparing m) (Preparing n) → m ≡ n
same_end m n q = cc

-- the refusal of a check names what the trace says
pub next_differs_by : (opening : Map) (steps : List Step) (s : State) (x : StampedTx) (r : Refusal) → IsIn x s.stamped → x.settled ≡ false → phase_of x.id steps ≡ Preparing x.end → HasChecks steps x → IsKept opening steps s →
    cond x.valid None (entry_differs s.stamped x (slice_get (entries x.history) x.checked)) ≡ Some r → (n : ℕ) × (r ≡ ValidationFailed (record { 0 = n })) × NextDiffersLast opening steps x.id n
next_differs_by opening steps s x r m o phase checks h c = at x.valid refl c
  where
    told : history_of x.id steps ≡ x.history
    told = m (λ z. history_of z.id steps ≡ z.history) h.after_trace.stamped

    go : (w : Option Entry) → slice_get (entries x.history) x.checked ≡ w → x.checked ≡ checks_in x.id steps → entry_differs s.stamped x w ≡ Some r → (n : ℕ) × (r ≡ ValidationFailed (record { 0 = n })) × NextDiffersLast opening steps x.id n
    go None f k g = absurd (none_refusal r g)
    go (Some e) f k g =
        let d = differs_some (change_of s.stamped x.id x.end e) r g in
        let next : next_entry x.id steps ≡ Some e = ap (λ ts. slice_get (entries ts) (checks_in x.id steps)) told ∙ ap (slice_get (entries x.history)) (sym k) ∙ f in (
          d.0,
          d.2,
          record {
            differs = record { end' = x.end; preparing = phase; entry = e; next = next; differs = differs_by opening steps s x.id x.end d.0 e d.1 h };
            greatest = λ i o'. greatest opening steps s x e d.0 m o h d.1 i
                (subst (λ (v : Entry). DiffersBy opening steps v x.id x.end i) (same_entry o'.entry e (sym o'.next ∙ next))
                (subst (λ (n : ℕ). DiffersBy opening steps o'.entry x.id n i) (same_end o'.end' x.end (sym o'.preparing ∙ phase)) o'.differs));
          },
        )

    at : (b : Bool) → x.valid ≡ b → cond b None (entry_differs s.stamped x (slice_get (entries x.history) x.checked)) ≡ Some r → (n : ℕ) × (r ≡ ValidationFailed (record { 0 = n })) × NextDiffersLast opening steps x.id n
    at true f g = absurd (none_refusal r g)
    at false f g = go (slice_get (entries x.history) x.checked) refl (checks.checked f) g

-- and where it passes, the next entry doesn't differ
pub next_is_same : (opening : Map) (steps : List Step) (s : State) (x : StampedTx) (n : ℕ) → IsIn x s.stamped → x.settled ≡ false → phase_of x.id steps ≡ Preparing x.end → HasChecks steps x → IsKept opening steps s →
    cond x.valid None (entry_differs s.stamped x (slice_get (entries x.history) x.checked)) ≡ None → NextDiffers opening steps x.id n → ⊥
next_is_same opening steps s x n m o phase checks h c d = at x.valid refl c
  where
    told : history_of x.id steps ≡ x.history
    told = m (λ z. history_of z.id steps ≡ z.history) h.after_trace.stamped

    next : slice_get (entries x.history) (checks_in x.id steps) ≡ Some d.entry
    next = sym (ap (λ ts. slice_get (entries ts) (checks_in x.id steps)) told) ∙ d.next

    differs_so : DiffersBy opening steps d.entry x.id x.end n
    differs_so = subst (λ (e : ℕ). DiffersBy opening steps d.entry x.id e n) (same_end d.end' x.end (sym d.preparing ∙ phase)) d.differs

    go : (w : Option Entry) → slice_get (entries x.history) x.checked ≡ w → x.checked ≡ checks_in x.id steps → entry_differs s.stamped x w ≡ None → ⊥
    go None f k g = none_entry d.entry (sym f ∙ ap (slice_get (entries x.history)) k ∙ next)
    go (Some e) f k g =
        let is = same_entry d.entry e (sym next ∙ sym (ap (slice_get (entries x.history)) k) ∙ f) in
        undiffering opening steps s x e n m o h (differs_none (change_of s.stamped x.id x.end e) g) (subst (λ (v : Entry). DiffersBy opening steps v x.id x.end n) is differs_so)

    at : (b : Bool) → x.valid ≡ b → cond b None (entry_differs s.stamped x (slice_get (entries x.history) x.checked)) ≡ None → ⊥
    at true f g =
        let p = and_parts (nat_lt 0 (checks_in x.id steps)) (nat_le (length (entries x.history)) (checks_in x.id steps)) (checks.valid ∙ f) in
        none_entry d.entry (sym (slice_get_past (entries x.history) (checks_in x.id steps) (leb-true (length (entries x.history)) (checks_in x.id steps) p.1)) ∙ next)
    at false f g = go (slice_get (entries x.history) x.checked) refl (checks.checked f) g
