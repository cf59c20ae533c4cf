-- What the stored commits were told there is what the whole trace says.
use Rattle.std.proofs.Common.{◌≡◌, ℕ, Bool, cond, List, [], ◌∷◌, ◌++◌, map, refl, sym, ap, ◌∙◌, ne_eqb, arith}
use Rattle.std.specs.Prelude.{nat_lt}
use Rattle.std.specs.List.{AllByRecursion}
use Rattle.std.proofs.lemmas.Bool.{eq-eqb}
use Rattle.mvo_types.specs.Keys.{Map}
use Rattle.mvo_model.specs.Order.{in_order}
use Rattle.mvo_model.specs.Trace.{Step, end_cmp}
use Rattle.mvo_theory.specs.State.{StampedTx}
use Rattle.mvo_theory.specs.AfterTrace.{pairs}
use Rattle.mvo_theory.specs.Sound.{IsPlaced}
use Rattle.mvo_theory.proofs.Each.{each_both, each_append, each_back, each_filter}
use Rattle.mvo_theory.proofs.Deciding.{each_pair}
use Rattle.mvo_shared.specs.Shared.{WorksById, taken_history}
use Rattle.mvo_shared.specs.Shadow.{stamped_shadow}
use Rattle.mvo_shadow.specs.Shadowed.{IsWorkOf}
use Rattle.mvo_readonly.specs.Whole.{CommittedReader, WholeState}
use Rattle.mvo_readonly.specs.WholeKept.{reader_commits}
use Rattle.mvo_readonly.specs.WholeTale.{stored_readers, whole_tale, told_in}
use Rattle.mvo_readonly.specs.ReadAt.{IsReadAt}
use Rattle.mvo_readonly.proofs.Ordered.{each_in_order}
use Rattle.mvo_readonly.proofs.Serials.{each_committed, told_here, committed_told}
use Rattle.mvo_theory.specs.State.{timeline}
use Rattle.mvo_given.specs.GivenWhole.{GivenWhole}
use Rattle.mvo_given.specs.WholeShadowed.{GoWholeTogether}
use Rattle.mvo_given.specs.WholeHeld.{read_by, told_given}
use Rattle.mvo_given.proofs.Causes.{whole_shadow, given_whole_is}
use Rattle.mvo_given.proofs.HeldTale.{read_first}

pairs_alike : (xs : List StampedTx) → pairs (map stamped_shadow xs) ≡ pairs xs
pairs_alike [] = refl
pairs_alike (x ∷ xs) = ap (λ (cs : List (ℕ × ℕ)). cond x.settled ((x.end, x.id) ∷ cs) cs) (pairs_alike xs)

same_tale : (w : WholeState) → whole_tale (whole_shadow w) ≡ whole_tale w
same_tale w = ap (λ (cs : List (ℕ × ℕ)). in_order end_cmp (reader_commits (stored_readers w.core.start w.committed_readers) ++ cs)) (pairs_alike w.core.stamped)

module _ (opening : Map) (ws xs : List Step) (w : WholeState) (g : GivenWhole) (works : WorksById) (h : GoWholeTogether opening ws xs w g works) where
  abbrev IsTold : ℕ × ℕ → Type 0
  IsTold c = told_given g c ≡ told_in ws c

  readers : AllByRecursion (λ (y : CommittedReader). IsTold (y.id, y.id)) w.committed_readers
  readers = each_both (λ (y : CommittedReader). read_by y.id w.committed_readers ≡ y.history) (λ (y : CommittedReader). (told_in ws (y.id, y.id) ≡ y.history) × IsReadAt opening (timeline w.core) y.id y.history) (λ (y : CommittedReader). IsTold (y.id, y.id))
      (λ y e k. ap (λ (b : Bool). cond b (read_by y.id g.whole.committed_readers) (taken_history (g.taken y.id))) (eq-eqb y.id y.id refl) ∙ ap (read_by y.id) h.shadowed.committed ∙ e ∙ sym k.0)
      w.committed_readers (read_first w.committed_readers h.kept.apart) (committed_told opening ws xs w h.kept)

  stored : AllByRecursion (λ (y : CommittedReader). IsTold (y.id, y.id)) (stored_readers w.core.start w.committed_readers)
  stored = each_filter (λ (y : CommittedReader). nat_lt w.core.start y.id) (λ (y : CommittedReader). IsTold (y.id, y.id)) (λ (y : CommittedReader). IsTold (y.id, y.id)) (λ y _ k. k) w.committed_readers readers

  others : AllByRecursion (λ x. IsTold (x.end, x.id)) w.core.stamped
  others = each_both (λ x. IsPlaced w.core.stamped w.core.clock x × (told_in ws (x.end, x.id) ≡ x.history)) (λ x. IsWorkOf x.history (g.taken x.end).work) (λ x. IsTold (x.end, x.id))
      (λ x p k. ap (λ (b : Bool). cond b (read_by x.id g.whole.committed_readers) (taken_history (g.taken x.end))) (ne_eqb x.end x.id (λ e. absurd (let b = p.0.begun in omega arith))) ∙ k.history ∙ sym p.1)
      w.core.stamped
      (each_both (IsPlaced w.core.stamped w.core.clock) (λ x. told_in ws (x.end, x.id) ≡ x.history) (λ x. IsPlaced w.core.stamped w.core.clock x × (told_in ws (x.end, x.id) ≡ x.history)) (λ x a b. (a, b)) w.core.stamped h.kept.kept.sound.placed
      (each_back (λ x. told_in ws (x.end, x.id) ≡ x.history) w.core.past w.core.stamped (told_here opening ws xs w h.kept))) h.shadowed.core.taken

  all : AllByRecursion IsTold (whole_tale w)
  all =
      let ys = stored_readers w.core.start w.committed_readers in
      each_in_order IsTold (reader_commits ys ++ pairs w.core.stamped) (each_append IsTold (reader_commits ys) (pairs w.core.stamped) (each_committed IsTold ys stored) (each_pair IsTold w.core.stamped others))

pub told_traced : (opening : Map) (ws xs : List Step) (w : WholeState) (g : GivenWhole) (works : WorksById) → GoWholeTogether opening ws xs w g works → (whole_tale g.whole ≡ whole_tale w) × AllByRecursion (λ c. told_given g c ≡ told_in ws c) (whole_tale w)
told_traced opening ws xs w g works h = (sym (ap (λ (q : GivenWhole). whole_tale q.whole) (given_whole_is w g works h.shadowed)) ∙ same_tale w, all opening ws xs w g works h)
