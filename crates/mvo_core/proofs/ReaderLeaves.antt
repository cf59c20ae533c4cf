-- A transaction leaves the table: how far each read-only one is then, and their places in the tale.
use Rattle.std.proofs.Common.{◌≡◌, ◌≢◌, ◌∙◌, ℕ, Bool, true, false, not, cond, List, [], ◌∷◌, Option, None, Some, refl, sym, ap, subst, ⊎_elim}
use Rattle.std.specs.Prelude.{◌==◌}
use Rattle.std.specs.Option.{option_map}
use Rattle.std.proofs.lemmas.Bool.{cases_eq, eqb-true, ne_eqb}
use Rattle.mvo_theory.specs.State.{State}
use Rattle.mvo_readonly.specs.Whole.{ReaderStage, UnfinishedReader, stage_of}
use Rattle.mvo_readonly.specs.WholeCalls.{without_reader}
use Rattle.mvo_txn.specs.Txns.{Txns, after_terminate}
use Rattle.mvo_txn.proofs.Stamps.{get_removed, get_left}
use Rattle.mvo_deps.specs.declared.node.Node.{Node}
use Rattle.mvo_tale.specs.declared.tale_place.TalePlace.{TalePlace}
use Rattle.mvo_core.specs.declared.kept_transaction.KeptTransaction.{KeptTransaction}
use Rattle.mvo_core.specs.Data.{own_of}
use Rattle.mvo_core.specs.Readers.{Readers, reader_in, HasStage, HaveStages, HasTalePlaces}
use Rattle.mvo_core.proofs.ReaderStages.{AreSameReaders, stages_same, none_of_stage, readers_but}

-- ---- what is kept of it goes, and of the others nothing
pub own_left : (table : Txns (Node KeptTransaction)) (t u : ℕ) → u ≢ t → own_of (after_terminate table t) u ≡ own_of table u
own_left table t u ne = ap (λ o. option_map (λ n. n.own) (option_map (λ x. x.kept) o)) (get_left table.seats t u ne)

pub own_gone : (table : Txns (Node KeptTransaction)) (t : ℕ) → own_of (after_terminate table t) t ≡ None
own_gone table t = ap (λ o. option_map (λ n. n.own) (option_map (λ x. x.kept) o)) (get_removed table.seats t)

-- ---- the read-only ones without it
none_without : (t : ℕ) (us : List UnfinishedReader) → stage_of t (without_reader t us) ≡ None
none_without t [] = refl
none_without t (r ∷ us) = go (r.id == t) refl (none_without t us)
  where
    go : (b : Bool) → (r.id == t) ≡ b → stage_of t (without_reader t us) ≡ None → stage_of t (cond (not b) (r ∷ without_reader t us) (without_reader t us)) ≡ None
    go true e k = k
    go false e k = ap (λ (b : Bool). cond b (Some r.stage) (stage_of t (without_reader t us))) e ∙ k

still_without : (u t : ℕ) (us : List UnfinishedReader) → u ≢ t → stage_of u (without_reader t us) ≡ stage_of u us
still_without u t [] ne = refl
still_without u t (r ∷ us) ne = go (r.id == t) refl (still_without u t us ne)
  where
    go : (b : Bool) → (r.id == t) ≡ b → stage_of u (without_reader t us) ≡ stage_of u us → stage_of u (cond (not b) (r ∷ without_reader t us) (without_reader t us)) ≡ cond (r.id == u) (Some r.stage) (stage_of u us)
    go true e k = k ∙ sym (ap (λ (b : Bool). cond b (Some r.stage) (stage_of u us)) (ne_eqb r.id u (λ i. ne (sym i ∙ eqb-true r.id t e))))
    go false e k = ap (λ (o : Option ReaderStage). cond (r.id == u) (Some r.stage) o) k

pub stages_without : (us : List UnfinishedReader) (table : Txns (Node KeptTransaction)) (tale : List TalePlace) (t : ℕ) → HaveStages us table tale → HaveStages (without_reader t us) (after_terminate table t) tale
stages_without us table tale t h u =
    ⊎_elim
    (λ is. subst (λ (n : ℕ). HasStage tale n (reader_in (own_of (after_terminate table t) n)) (stage_of n (without_reader t us))) (sym is)
    (subst (λ o. HasStage tale t (reader_in o) (stage_of t (without_reader t us))) (sym (own_gone table t))
    (subst (HasStage tale t None) (sym (none_without t us)) tt)))
    (λ ne. subst (HasStage tale u (reader_in (own_of (after_terminate table t) u))) (sym (still_without u t us ne))
    (subst (λ o. HasStage tale u (reader_in o) (stage_of u us)) (sym (own_left table t u ne)) (h u)))
    (cases_eq u t)

-- ---- it leaves
-- these are the read-only ones without it, and their places in the tale are as they were
pub record Leaves (rs after : Readers) (s : State) (tale : List TalePlace) (t : ℕ) : Type 0 where
  pub places : HasTalePlaces after s.start s.clock tale
  pub stages : (table : Txns (Node KeptTransaction)) → HaveStages rs.unfinished table tale → HaveStages after.unfinished (after_terminate table t) tale

-- it is none of them
pub other_leaves : (rs : Readers) (s : State) (tale : List TalePlace) (t : ℕ) → HasTalePlaces rs s.start s.clock tale → stage_of t rs.unfinished ≡ None → Leaves rs rs s tale t
other_leaves rs s tale t places other = record {
  places = places;
  stages = λ table h.
      let same : AreSameReaders table (after_terminate table t) = readers_but table (after_terminate table t) t (own_left table t)
      (ap reader_in (own_gone table t) ∙ sym (none_of_stage tale t (reader_in (own_of table t)) (subst (HasStage tale t (reader_in (own_of table t))) other (h t)))) in
      stages_same rs.unfinished table (after_terminate table t) tale same h;
}
