-- A trim, where the rows at the new start stand as intervals.
use Rattle.std.proofs.Common.{◌≡◌, ◌≢◌, ℕ, ◌<◌, ◌≤◌, Bool, true, false, cond, not, List, [], ◌∷◌, ◌++◌, refl, sym, ap, ◌∙◌, arith, ◌⊎◌, inl, inr}
use Rattle.std.specs.Prelude.{◌==◌}
use Rattle.std.specs.List.{AllByRecursion, filter, list_any}
use Rattle.std.specs.Option.{option_map}
use Rattle.std.specs.FinMap as fin
use Rattle.std.proofs.lemmas.Bool.{leb-true, ne_eqb, cases_order}
use Rattle.mvo_types.specs.declared.row.RowKey.{RowKey}
use Rattle.mvo_model.specs.History.{net_write}
use Rattle.mvo_theory.specs.State.{State, StampedTx}
use Rattle.mvo_theory.specs.Changes.{is_to, after_trim}
use Rattle.mvo_theory.specs.Phases.{phase_in}
use Rattle.mvo_theory.specs.Sound.{IsSound, IsStarted, IsActive}
use Rattle.mvo_theory.proofs.Each.{each_weaker, each_both, each_filter, each_append}
use Rattle.mvo_theory.proofs.Trim.{IsTrim, is_after}
use Rattle.mvo_chain.specs.declared.version.Version.{Version}
use Rattle.mvo_representation.specs.Words.{Phases, ends_of, has_stamp, as_net_effect, standing_effect}
use Rattle.mvo_representation.specs.Versions.{history_at, rows_at, rows_by, IsKnownStamp, IsKnown, EndIsClaimed, HasItsClaims, AreDrawn, AreVersionsOf}
use Rattle.mvo_representation.proofs.Quiet.{known_next}
use Rattle.mvo_representation.proofs.TrimChanges.{opened_at_trim}
use Rattle.mvo_types.specs.Write.Effect.{Put}

history_at-back : (m e : ℕ) (xs : List StampedTx) → m < e → history_at e (filter (is_after m) xs) ≡ history_at e xs
history_at-back m e [] lt = refl
history_at-back m e (x ∷ xs) lt = go (is_to m x) refl (history_at-back m e xs lt)
  where
    go : (b : Bool) → is_to m x ≡ b → history_at e (filter (is_after m) xs) ≡ history_at e xs → history_at e (cond (not b) (x ∷ filter (is_after m) xs) (filter (is_after m) xs)) ≡ cond (x.end == e) x.history (history_at e xs)
    go true q i = i ∙ sym (ap (λ c. cond c x.history (history_at e xs)) (ne_eqb x.end e (λ g. let l : x.end ≤ m = leb-true x.end m q in absurd (omega (arith, l, lt, g)))))
    go false q i = ap (cond (x.end == e) x.history) i

rows_at-back : (m e : ℕ) (xs : List StampedTx) → m < e → rows_at e (filter (is_after m) xs) ≡ rows_at e xs
rows_at-back m e [] lt = refl
rows_at-back m e (x ∷ xs) lt = go (is_to m x) refl (rows_at-back m e xs lt)
  where
    go : (b : Bool) → is_to m x ≡ b → rows_at e (filter (is_after m) xs) ≡ rows_at e xs → rows_at e (cond (not b) (x ∷ filter (is_after m) xs) (filter (is_after m) xs)) ≡ cond (x.end == e) x.footprint (rows_at e xs)
    go true q i = i ∙ sym (ap (λ c. cond c x.footprint (rows_at e xs)) (ne_eqb x.end e (λ g. let l : x.end ≤ m = leb-true x.end m q in absurd (omega (arith, l, lt, g)))))
    go false q i = ap (cond (x.end == e) x.footprint) i

-- trim, given that just the rows at the new start stand there
pub kept_after_trim : (s : State) (table : Phases) (vs : List Version) (m : ℕ) → IsSound s → IsStarted s → IsTrim m s → AreVersionsOf s table vs → ((u : ℕ) → table u ≡ phase_in (after_trim s m) u) → ((k : RowKey) → standing_effect (ends_of table) m k vs ≡ as_net_effect (option_map (λ h. Put h) (fin.get (after_trim s m).base k))) → AreVersionsOf (after_trim s m) table vs
kept_after_trim s table vs m sd st tr h ph stood = record {
  phases = ph;
  stamped = λ e gt. let w = h.stamped e (let a = tr.above in omega (arith, gt, a)) in record {
    writes = λ k. w.writes k ∙ ap (λ ts. as_net_effect (net_write k ts)) (sym (history_at-back m e s.stamped gt));
    touches = λ g p. w.touches g p ∙ ap (λ ts. list_any p (rows_by g ts (rows_at e s.stamped))) (sym (history_at-back m e s.stamped gt)) ∙ ap (λ rs. list_any p (rows_by g (history_at e (filter (is_after m) s.stamped)) rs)) (sym (rows_at-back m e s.stamped gt));
  };
  active = h.active;
  opened = opened_at_trim s m sd st tr table vs h;
  stood = stood;
  known = each_weaker (λ v. IsKnown s table v.begin × IsKnown s table v.end) (λ v. IsKnown (after_trim s m) table v.begin × IsKnown (after_trim s m) table v.end) (λ v i. (known_next s (after_trim s m) table table stamp (λ u n. n) v.begin i.0, known_next s (after_trim s m) table table stamp (λ u n. n) v.end i.1)) vs h.known;
  claims = each_weaker (HasItsClaims s (ends_of table)) (HasItsClaims (after_trim s m) (ends_of table)) (λ v g a put stays. let w = g a put stays in record { active = w.active; stamped = part (λ x. EndIsClaimed v.row.key a (has_stamp (ends_of table) x.end) x.claims v.end) w.stamped }) vs h.claims;
  forward = h.forward;
  inside = h.inside;
  begun = tr.active;
  behind = each_both (λ r. (m ≤ r.id) × (AllByRecursion (λ x. x.end ≢ r.id) s.stamped)) (λ r. AllByRecursion (λ x. x.end < r.id) s.past) (λ r. AllByRecursion (λ x. x.end < r.id) (s.past ++ front))
      (λ r n g. each_append (λ x. x.end < r.id) s.past front g (each_filter (is_to m) (λ x. x.end ≢ r.id) (λ x. x.end < r.id) (λ x q d. apart x.end r.id (leb-true x.end m q) n.0 d (cases_order x.end r.id)) s.stamped n.1)) s.active
      (each_both (λ r. m ≤ r.id) (IsActive s.base s.stamped s.clock) (λ r. (m ≤ r.id) × (AllByRecursion (λ x. x.end ≢ r.id) s.stamped)) (λ r l a. (l, a.others)) s.active tr.active sd.active) h.behind;
  begun_stamped = part (λ x. x.settled ≡ false → m ≤ x.id) tr.preparing;
  committed = λ u e q. stamp e (h.committed u e q);
  drawn = h.drawn;
  drawn_stamped = part (λ x. AreDrawn s.clock x.claims) h.drawn_stamped;
}
  where
    front : List StampedTx
    front = filter (is_to m) s.stamped

    part : (P : StampedTx → Type 0) → AllByRecursion P s.stamped → AllByRecursion P (filter (is_after m) s.stamped)
    part P g = each_filter (is_after m) P P (λ x _ i. i) s.stamped g

    stamp : (n : ℕ) → IsKnownStamp s n → IsKnownStamp (after_trim s m) n
    stamp n g = record { drawn = g.drawn; apart = g.apart; settled = part (λ x. x.settled ≡ false → x.end ≢ n) g.settled }

    apart : (n i : ℕ) → n ≤ m → m ≤ i → (n ≡ i → ⊥) → (n ≡ i) ⊎ ((n < i) ⊎ (i < n)) → n < i
    apart n i a b d (inl e) = absurd (d e)
    apart n i a b d (inr (inl l)) = l
    apart n i a b d (inr (inr g)) = absurd (omega (arith, a, b, g))
