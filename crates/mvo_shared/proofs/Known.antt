-- A look needs the exclusive side exactly where it would register a dependency that isn't registered yet, or its transaction is flagged. Elsewhere the exclusive side would change nothing either.
use Rattle.std.proofs.Common.{◌≡◌, ℕ, Bool, true, false, cond, not, ◌||◌, List, [], ◌∷◌, Option, None, Some, map, refl, sym, ap, ◌∙◌, subst}
use Rattle.std.specs.Prelude.{◌&&◌, ◌==◌, is_some}
use Rattle.std.specs.List.{AllByRecursion}
use Rattle.std.proofs.lemmas.Bool.{eqb-true, eq-eqb, false≢true, true≢false, and_parts, not-true, not-false}
use Rattle.mvo_types.specs.declared.row.RowKey.{RowKey}
use Rattle.mvo_types.specs.declared.op.Op.{Op}
use Rattle.mvo_theory.specs.Entries.{entry_of}
use Rattle.mvo_theory.specs.State.{State, StampedTx, ActiveTx}
use Rattle.mvo_theory.specs.Dependencies.{last_writer, has_end, with_end, depend_on, depend_on_all, keys_for, unwritten, dependencies}
use Rattle.mvo_theory.proofs.Footprints.{or_left, or_parts}
use Rattle.mvo_theory.proofs.Depends.{depends_more}
use Rattle.mvo_shared.specs.Shared.{is_known, are_known, needs_exclusive, with_dependencies, after_registering}

pub known_one : (ds : List ℕ) (w : Option StampedTx) → is_known ds w ≡ true → depend_on ds w ≡ ds
known_one ds None h = refl
known_one ds (Some x) h = go x.settled (has_end ds x.end) h
  where
    go : (a b : Bool) → (a || b) ≡ true → cond a ds (cond b ds (x.end ∷ ds)) ≡ ds
    go true b h = refl
    go false true h = refl
    go false false h = absurd (false≢true h)

-- who is known already isn't registered again
pub known_same : (ds : List ℕ) (ks : List RowKey) (b : ℕ) (stamped : List StampedTx) → are_known ds ks b stamped ≡ true → depend_on_all ds ks b stamped ≡ ds
known_same ds [] b stamped h = refl
known_same ds (k ∷ ks) b stamped h =
    let p = and_parts (is_known ds (last_writer k b stamped)) (are_known ds ks b stamped) h in
    ap (λ es. depend_on_all es ks b stamped) (known_one ds (last_writer k b stamped) p.0) ∙ known_same ds ks b stamped p.1

-- ---- who isn't known is registered
abbrev pub IsNew : List ℕ → List ℕ → Type 0
IsNew ds es = (d : ℕ) × (has_end ds d ≡ false) × (has_end es d ≡ true)

unknown_one : (ds : List ℕ) (w : Option StampedTx) → is_known ds w ≡ false → IsNew ds (depend_on ds w)
unknown_one ds None h = absurd (true≢false h)
unknown_one ds (Some x) h =
    let p = or_parts x.settled (has_end ds x.end) h in (
      x.end,
      p.1,
      ap (λ (b : Bool). has_end (cond b ds (with_end ds x.end)) x.end) p.0
          ∙ ap (λ (b : Bool). has_end (cond b ds (x.end ∷ ds)) x.end) p.1
          ∙ or_left (x.end == x.end) (has_end ds x.end) (eq-eqb x.end x.end refl),
    )

pub unknown_new : (ds : List ℕ) (ks : List RowKey) (b : ℕ) (stamped : List StampedTx) → are_known ds ks b stamped ≡ false → IsNew ds (depend_on_all ds ks b stamped)
unknown_new ds [] b stamped h = absurd (true≢false h)
unknown_new ds (k ∷ ks) b stamped h = go (is_known ds (last_writer k b stamped)) refl h (unknown_new ds ks b stamped)
  where
    go : (c : Bool) → is_known ds (last_writer k b stamped) ≡ c → (c && are_known ds ks b stamped) ≡ false → (are_known ds ks b stamped ≡ false → IsNew ds (depend_on_all ds ks b stamped)) → IsNew ds (depend_on_all (depend_on ds (last_writer k b stamped)) ks b stamped)
    go true e g r = subst (λ (es : List ℕ). IsNew ds (depend_on_all es ks b stamped)) (sym (known_one ds (last_writer k b stamped) e)) (r g)
    go false e g r = let n = unknown_one ds (last_writer k b stamped) e in (n.0, n.1, depends_more (depend_on ds (last_writer k b stamped)) ks b stamped n.0 n.2)

-- ---- so the shared side changes nothing where the exclusive side would change nothing
quiet_one : (s : State) (t : ℕ) (op : Op) (r : ActiveTx) → (r.id ≡ t → needs_exclusive s r op ≡ false) → with_dependencies s t op r ≡ r
quiet_one s t op r h = go (r.id == t) refl
  where
    go : (b : Bool) → r.id == t ≡ b → ◌≡◌ {A = ActiveTx} (record r { depends_on = cond b (dependencies s op r) r.depends_on }) r
    go false e = refl
    go true e = ap (λ (ds : List ℕ). record r { depends_on = ds }) (known_same r.depends_on (unwritten r.history (keys_for (entry_of op) r.id s.base s.stamped)) r.id s.stamped (not-false _ (or_parts (is_some r.aborted_dependency) _ (h (eqb-true r.id t e))).1))

quiet_all : (s : State) (t : ℕ) (op : Op) (rs : List ActiveTx) → AllByRecursion (λ r. r.id ≡ t → needs_exclusive s r op ≡ false) rs → map (with_dependencies s t op) rs ≡ rs
quiet_all s t op [] h = refl
quiet_all s t op (r ∷ rs) h = ap (λ (q : ActiveTx). q ∷ map (with_dependencies s t op) rs) (quiet_one s t op r h.0) ∙ ap (λ qs. r ∷ qs) (quiet_all s t op rs h.1)

pub quiet_look : (s : State) (t : ℕ) (op : Op) → AllByRecursion (λ r. r.id ≡ t → needs_exclusive s r op ≡ false) s.active → after_registering s t op ≡ s
quiet_look s t op h = ap (λ rs. record s { active = rs }) (quiet_all s t op s.active h)

-- and where it is needed by one that isn't flagged, a dependency is registered that wasn't
pub loud_look : (s : State) (op : Op) (r : ActiveTx) → r.aborted_dependency ≡ None → needs_exclusive s r op ≡ true → IsNew r.depends_on (dependencies s op r)
loud_look s op r n h = unknown_new r.depends_on (unwritten r.history (keys_for (entry_of op) r.id s.base s.stamped)) r.id s.stamped (not-true _ (sym (ap (λ (o : Option ℕ). is_some o || not (are_known r.depends_on (unwritten r.history (keys_for (entry_of op) r.id s.base s.stamped)) r.id s.stamped)) n) ∙ h))
