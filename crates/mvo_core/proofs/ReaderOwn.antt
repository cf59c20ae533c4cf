-- What is kept of a read-only transaction is as its stage says, and each is at its stage where one of them moves.
use Rattle.std.proofs.Common.{◌≡◌, ◌≢◌, ◌∙◌, ℕ, zero, suc, Bool, true, false, cond, List, [], ◌∷◌, Option, None, Some, refl, sym, ap, subst, ⊎_elim}
use Rattle.std.specs.Prelude.{◌==◌, IsSome}
use Rattle.std.specs.Option.{is_some}
use Rattle.std.proofs.lemmas.Bool.{cases_eq, eqb-true, ne_eqb, false≢true}
use Rattle.mvo_readonly.specs.Whole.{ReaderStage, UnfinishedReader, stage_of}
use Rattle.mvo_readonly.specs.Whole.ReaderStage.{Reading as IsReading, Preparing as IsPreparing, Committed as IsCommitted, Aborted as IsAborted}
use Rattle.mvo_readonly.specs.WholeCalls.{with_stage}
use Rattle.mvo_txn.specs.Txns.{Txns}
use Rattle.mvo_deps.specs.declared.node.Node.{Node}
use Rattle.mvo_tale.specs.declared.tale_place.TalePlace.{TalePlace}
use Rattle.mvo_tale.specs.declared.tale_place.TalePlace.TheVariants.{Open, Reading as PlaceReading, Settled, Empty}
use Rattle.mvo_tale.specs.Slots.{reading_begin_at, pending_end_at}
use Rattle.mvo_tale.specs.WholePlaces.{has_ended}
use Rattle.mvo_core.specs.declared.kept_transaction.KeptTransaction.{KeptTransaction}
use Rattle.mvo_core.specs.declared.kept_transaction.TransactionKind.{TransactionKind}
use Rattle.mvo_core.specs.declared.kept_transaction.TransactionKind.TheVariants.{Other, Reading, Preparing, Committed, Aborted}
use Rattle.mvo_core.specs.Aborting.{has_reading_place}
use Rattle.mvo_core.specs.Causes.{kind_kept}
use Rattle.mvo_core.specs.Data.{own_of}
use Rattle.mvo_core.specs.Own.{own_place}
use Rattle.mvo_core.specs.Readers.{KeptReader, reader_by, reader_in, kind_at, IsCheckedTo, IsAtStage, HasStage, HaveStages}
use Rattle.mvo_core.proofs.ReaderStages.{none_kind, none_of_stage}

-- ---- what is kept of it
abbrev reader_as : TransactionKind → ℕ → ℕ → Bool → KeptReader
reader_as k place checked valid = record { kind = k; place = place; checked = checked; valid = valid }

pub record IsOwnOfReader (tale : List TalePlace) (t : ℕ) (o : Option KeptTransaction) (p : ReaderStage) : Type 0 where
  pub own : KeptTransaction
  pub kept : o ≡ Some own
  pub kind : own.kind ≡ kind_at p
  pub checked : IsCheckedTo p (record { kind = own.kind; place = own.place; checked = own.checked; valid = own.valid })
  pub place : has_ended p ≡ false → reading_begin_at tale own.place ≡ Some t

at_stage : (tale : List TalePlace) (t : ℕ) (k : TransactionKind) (place checked : ℕ) (valid : Bool) (p : ReaderStage) → HasStage tale t (reader_by k place checked valid) (Some p) → IsAtStage tale t (reader_as k place checked valid) p
at_stage tale t Other place checked valid p h = absurd h
at_stage tale t Reading place checked valid p h = h
at_stage tale t Preparing place checked valid p h = h
at_stage tale t Committed place checked valid p h = h
at_stage tale t Aborted place checked valid p h = h

pub reader_own : (tale : List TalePlace) (t : ℕ) (o : Option KeptTransaction) (p : ReaderStage) → HasStage tale t (reader_in o) (Some p) → IsOwnOfReader tale t o p
reader_own tale t None p h = absurd h
reader_own tale t (Some own) p h =
    let k = at_stage tale t own.kind own.place own.checked own.valid p h in
    record { own = own; kept = refl; kind = k.kind; checked = k.checked; place = k.place }

-- and the other way
not_other : (p : ReaderStage) → Other ≡ kind_at p → ⊥
not_other IsReading e = cc
not_other (IsPreparing n v) e = cc
not_other IsCommitted e = cc
not_other IsAborted e = cc

stage_at : (tale : List TalePlace) (t : ℕ) (k : TransactionKind) (place checked : ℕ) (valid : Bool) (p : ReaderStage) → IsAtStage tale t (reader_as k place checked valid) p → HasStage tale t (reader_by k place checked valid) (Some p)
stage_at tale t Other place checked valid p h = absurd (not_other p h.kind)
stage_at tale t Reading place checked valid p h = h
stage_at tale t Preparing place checked valid p h = h
stage_at tale t Committed place checked valid p h = h
stage_at tale t Aborted place checked valid p h = h

pub stage_own : (tale : List TalePlace) (t : ℕ) (o : Option KeptTransaction) (p : ReaderStage) → IsOwnOfReader tale t o p → HasStage tale t (reader_in o) (Some p)
stage_own tale t o p h = subst (λ (x : Option KeptTransaction). HasStage tale t (reader_in x) (Some p)) (sym h.kept)
    (stage_at tale t h.own.kind h.own.place h.own.checked h.own.valid p (record { kind = h.kind; checked = h.checked; place = h.place }))

-- ---- its place
none_begin : (b : ℕ) → ◌≡◌ {A = Option ℕ} None (Some b) → ⊥
none_begin b e = cc

pub reading_pending : (xs : List TalePlace) (n b : ℕ) → reading_begin_at xs n ≡ Some b → pending_end_at xs n ≡ Some b
reading_pending [] n b h = absurd (none_begin b h)
reading_pending (Open e ∷ xs) zero b h = absurd (none_begin b h)
reading_pending (PlaceReading e ∷ xs) zero b h = h
reading_pending (Settled c ∷ xs) zero b h = absurd (none_begin b h)
reading_pending (Empty ∷ xs) zero b h = absurd (none_begin b h)
reading_pending (x ∷ xs) (suc n) b h = reading_pending xs n b h

-- one hasn't ended whose kind has a place
unended_kind : (p : ReaderStage) → has_reading_place (kind_at p) ≡ true → has_ended p ≡ false
unended_kind IsReading e = refl
unended_kind (IsPreparing n v) e = refl
unended_kind IsCommitted e = absurd (false≢true e)
unended_kind IsAborted e = absurd (false≢true e)

pub kind_unended : (p : ReaderStage) → has_ended p ≡ false → has_reading_place (kind_at p) ≡ true
kind_unended IsReading e = refl
kind_unended (IsPreparing n v) e = refl
kind_unended IsCommitted e = absurd (false≢true (sym e))
kind_unended IsAborted e = absurd (false≢true (sym e))

pub reading_place : (tale : List TalePlace) (t : ℕ) (o : Option KeptTransaction) (p : Option ReaderStage) → HasStage tale t (reader_in o) p → has_reading_place (kind_kept o) ≡ true → IsSome (pending_end_at tale (own_place o))
reading_place tale t o None h e = absurd (false≢true (sym (ap has_reading_place (none_kind o (none_of_stage tale t (reader_in o) h))) ∙ e))
reading_place tale t o (Some p) h e =
    let w = reader_own tale t o p h in
    let unended = unended_kind p (ap has_reading_place (sym w.kind) ∙ ap (λ x. has_reading_place (kind_kept x)) (sym w.kept) ∙ e) in
    ap is_some (reading_pending tale (own_place o) t (ap (λ x. reading_begin_at tale (own_place x)) w.kept ∙ w.place unended))

-- ---- the stages where one moves
none_stage : (p : ReaderStage) → ◌≡◌ {A = Option ReaderStage} None (Some p) → ⊥
none_stage p e = cc

pub stage_moved : (t : ℕ) (p q : ReaderStage) (us : List UnfinishedReader) → stage_of t us ≡ Some p → stage_of t (with_stage t q us) ≡ Some q
stage_moved t p q [] e = absurd (none_stage p e)
stage_moved t p q (r ∷ us) e = go (r.id == t) e (λ k. stage_moved t p q us k)
  where
    go : (b : Bool) → cond b (Some r.stage) (stage_of t us) ≡ Some p → (stage_of t us ≡ Some p → stage_of t (with_stage t q us) ≡ Some q) → cond b (Some (cond b q r.stage)) (stage_of t (with_stage t q us)) ≡ Some q
    go true k f = refl
    go false k f = f k

pub stage_beside : (u t : ℕ) (q : ReaderStage) (us : List UnfinishedReader) → u ≢ t → stage_of u (with_stage t q us) ≡ stage_of u us
stage_beside u t q [] ne = refl
stage_beside u t q (r ∷ us) ne = go (r.id == u) refl (stage_beside u t q us ne)
  where
    go : (b : Bool) → (r.id == u) ≡ b → stage_of u (with_stage t q us) ≡ stage_of u us → cond b (Some (cond (r.id == t) q r.stage)) (stage_of u (with_stage t q us)) ≡ cond b (Some r.stage) (stage_of u us)
    go true e k = ap (λ (b : Bool). Some (cond b q r.stage)) (ne_eqb r.id t (λ i. ne (sym (eqb-true r.id u e) ∙ i)))
    go false e k = k

still_at : (old new : List TalePlace) (t : ℕ) → ((n : ℕ) → reading_begin_at old n ≡ Some t → reading_begin_at new n ≡ Some t) → (r : Option KeptReader) (p : Option ReaderStage) → HasStage old t r p → HasStage new t r p
still_at old new t keeps None None h = h
still_at old new t keeps None (Some p) h = absurd h
still_at old new t keeps (Some r) None h = absurd h
still_at old new t keeps (Some r) (Some p) h = record { kind = h.kind; checked = h.checked; place = λ e. keeps r.place (h.place e) }

pub stages_moved : (us : List UnfinishedReader) (old new : Txns (Node KeptTransaction)) (before after : List TalePlace) (t : ℕ) (p q : ReaderStage) → stage_of t us ≡ Some p → ((u : ℕ) → u ≢ t → own_of new u ≡ own_of old u)
    → ((u n : ℕ) → u ≢ t → reading_begin_at before n ≡ Some u → reading_begin_at after n ≡ Some u) → IsOwnOfReader after t (own_of new t) q → HaveStages us old before → HaveStages (with_stage t q us) new after
stages_moved us old new before after t p q was beside keeps here h u =
    ⊎_elim
    (λ is. subst (λ (n : ℕ). HasStage after n (reader_in (own_of new n)) (stage_of n (with_stage t q us))) (sym is)
    (subst (HasStage after t (reader_in (own_of new t))) (sym (stage_moved t p q us was)) (stage_own after t (own_of new t) q here)))
    (λ ne. subst (HasStage after u (reader_in (own_of new u))) (sym (stage_beside u t q us ne))
    (subst (λ o. HasStage after u (reader_in o) (stage_of u us)) (sym (beside u ne))
    (still_at before after u (λ n k. keeps u n ne k) (reader_in (own_of old u)) (stage_of u us) (h u))))
    (cases_eq u t)
