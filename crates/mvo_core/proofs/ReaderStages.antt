-- How far each read-only transaction is stays as it is kept where others change, and places beside theirs.
use Rattle.std.proofs.Common.{◌≡◌, ◌≢◌, ◌∙◌, ℕ, Bool, false, List, Option, None, Some, refl, sym, ap, subst, ⊎_elim}
use Rattle.std.proofs.lemmas.Bool.{cases_eq}
use Rattle.mvo_readonly.specs.Whole.{ReaderStage, UnfinishedReader, stage_of}
use Rattle.mvo_txn.specs.Txns.{Txns}
use Rattle.mvo_deps.specs.declared.node.Node.{Node}
use Rattle.mvo_tale.specs.declared.tale_place.TalePlace.{TalePlace}
use Rattle.mvo_tale.specs.Slots.{reading_begin_at}
use Rattle.mvo_core.specs.declared.kept_transaction.KeptTransaction.{KeptTransaction}
use Rattle.mvo_core.specs.declared.kept_transaction.TransactionKind.{TransactionKind}
use Rattle.mvo_core.specs.declared.kept_transaction.TransactionKind.TheVariants.{Other, Reading, Preparing, Committed, Aborted}
use Rattle.mvo_core.specs.Causes.{is_read_only_kind, is_read_only, kind_kept}
use Rattle.mvo_core.specs.Data.{own_of}
use Rattle.mvo_core.specs.Readers.{KeptReader, reader_by, reader_in, HasStage, HaveStages}

-- ---- a place of one that reads stays
abbrev pub KeepsReading : List TalePlace → List TalePlace → Type 0
KeepsReading old new = (q b : ℕ) → reading_begin_at old q ≡ Some b → reading_begin_at new q ≡ Some b

pub stage_kept : (old new : List TalePlace) → KeepsReading old new → (t : ℕ) (r : Option KeptReader) (p : Option ReaderStage) → HasStage old t r p → HasStage new t r p
stage_kept old new keeps t None None h = h
stage_kept old new keeps t None (Some p) h = absurd h
stage_kept old new keeps t (Some r) None h = absurd h
stage_kept old new keeps t (Some r) (Some p) h = record {
  kind = h.kind;
  checked = h.checked;
  place = λ e. keeps r.place t (h.place e);
}

-- ---- what is kept of each that is read-only is the same
abbrev pub AreSameReaders : Txns (Node KeptTransaction) → Txns (Node KeptTransaction) → Type 0
AreSameReaders old new = (u : ℕ) → reader_in (own_of new u) ≡ reader_in (own_of old u)

pub stages_kept : (rs : List UnfinishedReader) (old new : Txns (Node KeptTransaction)) (before after : List TalePlace) → AreSameReaders old new → KeepsReading before after → HaveStages rs old before → HaveStages rs new after
stages_kept rs old new before after same keeps h = λ t. stage_kept before after keeps t (reader_in (own_of new t)) (stage_of t rs) (subst (λ r. HasStage before t r (stage_of t rs)) (sym (same t)) (h t))

-- where the tale is as it was
pub stages_same : (rs : List UnfinishedReader) (old new : Txns (Node KeptTransaction)) (tale : List TalePlace) → AreSameReaders old new → HaveStages rs old tale → HaveStages rs new tale
stages_same rs old new tale same h = stages_kept rs old new tale tale same (λ q b e. e) h

pub stages_told : (rs : List UnfinishedReader) (table : Txns (Node KeptTransaction)) (before after : List TalePlace) → KeepsReading before after → HaveStages rs table before → HaveStages rs table after
stages_told rs table before after keeps h = stages_kept rs table table before after (λ u. refl) keeps h

-- ---- of one
-- it is none of them
pub none_of_stage : (tale : List TalePlace) (t : ℕ) (r : Option KeptReader) → HasStage tale t r None → r ≡ None
none_of_stage tale t None h = refl
none_of_stage tale t (Some r) h = absurd h

-- all that is kept of one that is read-only is the same
pub same_reader : (x y : KeptTransaction) → y.kind ≡ x.kind → y.place ≡ x.place → y.checked ≡ x.checked → y.valid ≡ x.valid → reader_in (Some y) ≡ reader_in (Some x)
same_reader x y kind place checked valid = λ i. reader_by (kind i) (place i) (checked i) (valid i)

some_none : (r : KeptReader) → ◌≡◌ {A = Option KeptReader} (Some r) None → ⊥
some_none r e = cc

still_none : (k : TransactionKind) (place checked : ℕ) (valid : Bool) (p c : ℕ) (v : Bool) → reader_by k place checked valid ≡ None → reader_by k p c v ≡ None
still_none Other place checked valid p c v e = refl
still_none Reading place checked valid p c v e = absurd (some_none _ e)
still_none Preparing place checked valid p c v e = absurd (some_none _ e)
still_none Committed place checked valid p c v e = absurd (some_none _ e)
still_none Aborted place checked valid p c v e = absurd (some_none _ e)

-- one that isn't read-only stays so
pub other_reader : (x y : KeptTransaction) → y.kind ≡ x.kind → reader_in (Some x) ≡ None → reader_in (Some y) ≡ reader_in (Some x)
other_reader x y kind none = ap (λ k. reader_by k y.place y.checked y.valid) kind ∙ still_none x.kind x.place x.checked x.valid y.place y.checked y.valid none ∙ sym none

read_only_at : (k : TransactionKind) (place checked : ℕ) (valid : Bool) → reader_by k place checked valid ≡ None → is_read_only_kind k ≡ false
read_only_at Other place checked valid e = refl
read_only_at Reading place checked valid e = absurd (some_none _ e)
read_only_at Preparing place checked valid e = absurd (some_none _ e)
read_only_at Committed place checked valid e = absurd (some_none _ e)
read_only_at Aborted place checked valid e = absurd (some_none _ e)

pub not_read_only : (o : Option KeptTransaction) → reader_in o ≡ None → is_read_only o ≡ false
not_read_only None e = refl
not_read_only (Some own) e = read_only_at own.kind own.place own.checked own.valid e

kind_at_none : (k : TransactionKind) (place checked : ℕ) (valid : Bool) → reader_by k place checked valid ≡ None → k ≡ Other
kind_at_none Other place checked valid e = refl
kind_at_none Reading place checked valid e = absurd (some_none _ e)
kind_at_none Preparing place checked valid e = absurd (some_none _ e)
kind_at_none Committed place checked valid e = absurd (some_none _ e)
kind_at_none Aborted place checked valid e = absurd (some_none _ e)

pub none_kind : (o : Option KeptTransaction) → reader_in o ≡ None → kind_kept o ≡ Other
none_kind None e = refl
none_kind (Some own) e = kind_at_none own.kind own.place own.checked own.valid e

-- ---- one changes
pub readers_but : (old new : Txns (Node KeptTransaction)) (t : ℕ) → ((u : ℕ) → u ≢ t → own_of new u ≡ own_of old u) → reader_in (own_of new t) ≡ reader_in (own_of old t) → AreSameReaders old new
readers_but old new t beside here u =
    ⊎_elim
    (λ is. ap (λ n. reader_in (own_of new n)) is ∙ here ∙ sym (ap (λ n. reader_in (own_of old n)) is))
    (λ ne. ap reader_in (beside u ne))
    (cases_eq u t)
