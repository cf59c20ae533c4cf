-- The last change of a key up to a new start of the tale.
use Rattle.std.proofs.Common.{◌≡◌, ℕ, ◌<◌, ◌≤◌, suc, Bool, true, false, not, List, ◌++◌, refl, sym, ap, ◌∙◌, arith}
use Rattle.std.specs.Prelude.{⊤}
use Rattle.std.specs.List.{AllByRecursion, filter}
use Rattle.mvo_types.specs.Write.{content_after_last}
use Rattle.std.specs.Option.{option_map}
use Rattle.std.specs.FinMap as fin
use Rattle.std.proofs.lemmas.Bool.{leb-true, leb-false, false≢true}
use Rattle.mvo_types.specs.declared.row.RowKey.{RowKey}
use Rattle.mvo_model.proofs.Serials.{get-after_history}
use Rattle.mvo_theory.specs.State.{State, StampedTx, seen_by, history_below, after_settled}
use Rattle.mvo_theory.specs.Dependencies.{last_writer, or_later}
use Rattle.mvo_theory.specs.Claims.{origin, end_or}
use Rattle.mvo_theory.specs.Changes.{is_to, after_trim}
use Rattle.mvo_theory.specs.Sound.{IsSound, IsStarted, IsPast}
use Rattle.mvo_theory.proofs.Each.{each_weaker, each_filter, each_always}
use Rattle.mvo_theory.proofs.Trim.{IsTrim, is_after, parted, seen_trimmed}
use Rattle.mvo_chain.specs.declared.version.Version.{Version}
use Rattle.mvo_representation.specs.Words.{Phases, ends_of, standing, change_below}
use Rattle.mvo_representation.specs.Words.NetEffect.{Puts}
use Rattle.mvo_representation.specs.Versions.{origin_at_start, AreVersionsOf}
use Rattle.mvo_representation.proofs.LastChanges.{history_below_last, write_by, last_none_above}
use Rattle.mvo_representation.proofs.Shown.{last_writer-append, stands_below}

module _ (s : State) (m : ℕ) (sd : IsSound s) (st : IsStarted s) (tr : IsTrim m s) where
  abbrev front : List StampedTx
  front = filter (is_to m) s.stamped

  below : (n : ℕ) → n ≤ s.start → n < suc m
  below n le = let a = tr.above in omega (arith, a, le)

  after : AllByRecursion (λ x. suc m ≤ x.end) (filter (is_after m) s.stamped)
  after = each_filter (is_after m) (λ _. ⊤) (λ x. suc m ≤ x.end) (λ x q _. above x (is_to m x) refl q) s.stamped (each_always (λ _. ⊤) (λ _. tt) s.stamped)
    where
      above : (x : StampedTx) (b : Bool) → is_to m x ≡ b → not b ≡ true → suc m ≤ x.end
      above x true q g = absurd (false≢true g)
      above x false q g = let l : m < x.end = leb-false x.end m q in omega (arith, l)

  settled : AllByRecursion (λ x. x.settled ≡ true) front
  settled = each_filter (is_to m) (λ x. x.settled ≡ false → m < x.end) (λ x. x.settled ≡ true) (λ x q g. is x (leb-true x.end m q) x.settled refl g) s.stamped tr.settled
    where
      is : (x : StampedTx) → x.end ≤ m → (b : Bool) → x.settled ≡ b → (x.settled ≡ false → m < x.end) → x.settled ≡ true
      is x l true e g = e
      is x l false e g = absurd (let n = g e in omega (arith, n, l))

  under : AllByRecursion (λ x. x.end < suc m) front
  under = each_filter (is_to m) (λ _. ⊤) (λ x. x.end < suc m) (λ x q _. let l : x.end ≤ m = leb-true x.end m q in omega (arith, l)) s.stamped (each_always (λ _. ⊤) (λ _. tt) s.stamped)

  both : s.stamped ≡ front ++ filter (is_after m) s.stamped
  both = sym (parted m s.stamped sd.rising)

  last_front : (k : RowKey) → last_writer k (suc m) s.stamped ≡ last_writer k (suc m) front
  last_front k = ap (last_writer k (suc m)) both ∙ last_writer-append k (suc m) front (filter (is_after m) s.stamped) ∙ ap (or_later (last_writer k (suc m) front)) (last_none_above k (suc m) (filter (is_after m) s.stamped) after)

  same_origin : (k : RowKey) → origin s (suc m) k ≡ end_or s.marks.opening (last_writer k (suc m) (s.past ++ front))
  same_origin k = ap (end_or s.marks.opening) (last_writer-append k (suc m) s.past s.stamped ∙ ap (or_later (last_writer k (suc m) s.past)) (last_front k) ∙ sym (last_writer-append k (suc m) s.past front))

  same_row : (k : RowKey) → fin.get (seen_by s.base s.stamped (suc m)) k ≡ fin.get (after_settled front s.base) k
  same_row k =
      ap (λ xs. fin.get (seen_by s.base xs (suc m)) k) both
      ∙ ap (λ n. fin.get n k) (seen_trimmed s.base front (filter (is_after m) s.stamped) (suc m) settled under)
      ∙ get-after_history k (history_below (suc m) (filter (is_after m) s.stamped)) (after_settled front s.base)
      ∙ ap (λ w. content_after_last w (fin.get (after_settled front s.base) k)) (history_below_last k (suc m) (filter (is_after m) s.stamped) ∙ ap (write_by k) (last_none_above k (suc m) (filter (is_after m) s.stamped) after))

  pub opened_at_trim : (table : Phases) (vs : List Version) → AreVersionsOf s table vs → (k : RowKey) → standing (change_below (ends_of table) (suc m) k vs) ≡ option_map (λ h. (origin_at_start (after_trim s m) k, Puts h)) (fin.get (after_trim s m).base k)
  opened_at_trim table vs h k =
      stands_below s table vs (suc m) k sd st h (record { from = let a = tr.above in omega (arith, a); free = λ q j. absurd (let a = tr.above in omega (arith, a, q)) }) (each_weaker (IsPast s.start) (λ x. x.end < suc m) (λ x p. below x.end p.until) s.past st.past)
      ∙ ap (λ o. option_map (λ h. (o, Puts h)) (fin.get (seen_by s.base s.stamped (suc m)) k)) (same_origin k)
      ∙ ap (option_map (λ h. (end_or s.marks.opening (last_writer k (suc m) (s.past ++ front)), Puts h))) (same_row k)
