-- The causes that the transaction table tells are the theory's.
use Rattle.std.proofs.Common.{◌≡◌, ℕ, ◌++◌, Bool, List, [], ◌∷◌, Option, None, Some, refl, sym, ap, ◌∙◌, subst, false}
use Rattle.std.specs.Prelude.{nat_lt, length, ⊤}
use Rattle.std.specs.Option.{option_map}
use Rattle.mvo_types.specs.declared.limits.TheConstants.{MAX_TABLE, MAX_DATA_LEN}
use Rattle.mvo_types.specs.declared.ids.TxId.{TxId}
use Rattle.mvo_types.specs.declared.row.RowKey.{RowKey}
use Rattle.mvo_types.specs.declared.refusal.Refusal.{Refusal}
use Rattle.mvo_types.specs.declared.refusal.Refusal.TheVariants.{NoSuchTransaction, Ended, NotActive, NotPreparing, TooManyWrites, TooManyReads, DataTooLong, BadTable, ReadOnly}
use Rattle.mvo_types.specs.RowData.{RowData}
use Rattle.mvo_types.specs.Keys.{Map}
use Rattle.mvo_model.specs.Trace.{Phase, Step}
use Rattle.mvo_types.specs.declared.entry.Entry.{Entry}
use Rattle.mvo_types.specs.declared.entry.Entry.TheVariants.{Key, Range}
use Rattle.mvo_theory.specs.State.{State, active_of, preparing_of, history_of_active}
use Rattle.mvo_theory.specs.Phases.{is_absent, is_active, is_preparing, is_ended}
use Rattle.mvo_types.specs.Causes.{when, or_next, first_cause}
use Rattle.mvo_theory.specs.Causes.{flagged, flag_of_active, flag_of_preparing, unless_active, unless_preparing, is_entry_too_many, is_write_too_many, why_not_read, why_not_scan, why_not_insert, why_not_update, why_not_delete, why_not_rollback, conflict, conflicts}
use Rattle.mvo_theory.proofs.Cases.{found_is}
use Rattle.mvo_theory.proofs.Who.{active_holds}
use Rattle.mvo_txn.specs.declared.state.TxState.{TxState}
use Rattle.mvo_txn.specs.declared.state.TxState.TheVariants.{Active, Preparing, Committed, Aborted}
use Rattle.mvo_txn.specs.Txns.{state_of, IsPreparingState, Txns}
use Rattle.mvo_representation.specs.Table.{phase_as}
use Rattle.mvo_representation.proofs.Tabled.{active_is}
use Rattle.mvo_readonly.specs.Whole.{stage_of, ReaderStage}
use Rattle.mvo_readonly.specs.Whole.ReaderStage.{Reading as IsReading, Preparing as IsPreparing, Committed as IsCommitted, Aborted as IsAborted}
use Rattle.mvo_tale.specs.declared.tale_place.TalePlace.{TalePlace}
use Rattle.mvo_deps.specs.declared.node.Node.{Node}
use Rattle.mvo_core.specs.declared.kept_transaction.TransactionKind.TheVariants.{Other, Reading as KindReading, Preparing as Prepared, Committed as KindCommitted, Aborted as KindAborted}
use Rattle.mvo_core.specs.declared.kept_transaction.TransactionKind.{TransactionKind}
use Rattle.mvo_core.proofs.ReaderStages.{none_of_stage, not_read_only, none_kind}
use Rattle.mvo_core.specs.Readers.{Readers, reader_in, HasStage, reader_by}
use Rattle.mvo_core.specs.declared.kept_transaction.KeptTransaction.{KeptTransaction}
use Rattle.mvo_content.specs.Works.{works_in}
use Rattle.mvo_standing.proofs.Telling.{holds_history}
use Rattle.mvo_core.specs.Own.{done_in}
use Rattle.mvo_core.specs.Data.{CoreData, own_of}
use Rattle.mvo_core.specs.Standing.{IsKeptActive, StandsAmong}
use Rattle.mvo_core.specs.Causes.{flag_refusal, flag_of, unless_active_as, unless_preparing_as, why_not_active, why_not_preparing, why_not_undo, why_not_look, why_not_put, why_not_remove, is_read_only, kind_kept, unless_reads}
use Rattle.mvo_core.proofs.Laws.{flag_of_active_told, flag_of_preparing_told}

-- ---- lists of causes
pub or_next_deep : (a b c : Option Refusal) → or_next (or_next a b) c ≡ or_next a (or_next b c)
or_next_deep None b c = refl
or_next_deep (Some r) b c = refl

pub first_append : (xs ys : List (Option Refusal)) → first_cause (xs ++ ys) ≡ or_next (first_cause xs) (first_cause ys)
first_append [] ys = refl
first_append (x ∷ xs) ys = ap (or_next x) (first_append xs ys) ∙ sym (or_next_deep x (first_cause xs) (first_cause ys))

-- what comes behind a cause matters where it doesn't stand
pub or_next_same : (a b c : Option Refusal) → (a ≡ None → b ≡ c) → or_next a b ≡ or_next a c
or_next_same None b c h = h refl
or_next_same (Some r) b c h = refl

pub or_none : (a : Option Refusal) → or_next a None ≡ a
or_none None = refl
or_none (Some r) = refl

pub some_none : (r : Refusal) → ◌≡◌ {A = Option Refusal} (Some r) None → ⊥
some_none r q = cc

-- ---- who may not be called so
pub flag_same : (flag : Option TxId) → flag_refusal flag ≡ or_next (flagged (option_map (λ by. by.0) flag)) None
flag_same None = refl
flag_same (Some id) = refl

abbrev active_causes : Phase → Option ℕ → Option Refusal
active_causes p f = first_cause (
    when (is_absent p) NoSuchTransaction ∷ when (is_ended p) Ended
    ∷ when (is_preparing p) NotActive ∷ flagged f ∷ [])

active_as : (o : Option TxState) (k : TransactionKind) (flag : Option TxId) (f : Option ℕ) → unless_reads k flag ≡ flag_refusal flag → (o ≡ Some Active → option_map (λ by. by.0) flag ≡ f)
    → unless_active_as o k flag ≡ active_causes (phase_as o) f
active_as None k flag f reads h = refl
active_as (Some Active) k flag f reads h = reads ∙ flag_same flag ∙ ap (λ g. or_next (flagged g) None) (h refl)
active_as (Some (Preparing e)) k flag f reads h = refl
active_as (Some (Committed e)) k flag f reads h = refl
active_as (Some Aborted) k flag f reads h = refl

abbrev preparing_causes : Phase → Option ℕ → Option Refusal
preparing_causes p f = first_cause (
    when (is_absent p) NoSuchTransaction ∷ when (is_ended p) Ended
    ∷ when (is_active p) NotPreparing ∷ flagged f ∷ [])

preparing_as : (o : Option TxState) (flag : Option TxId) (f : Option ℕ) → (IsPreparingState o → option_map (λ by. by.0) flag ≡ f)
    → unless_preparing_as o Other flag ≡ preparing_causes (phase_as o) f
preparing_as None flag f h = refl
preparing_as (Some Active) flag f h = refl
preparing_as (Some (Preparing e)) flag f h = flag_same flag ∙ ap (λ g. or_next (flagged g) None) (h refl)
preparing_as (Some (Committed e)) flag f h = refl
preparing_as (Some Aborted) flag f h = refl

undo_as : (o : Option TxState) → why_not_undo o ≡ first_cause (when (is_absent (phase_as o)) NoSuchTransaction ∷ when (is_ended (phase_as o)) Ended ∷ [])
undo_as None = refl
undo_as (Some Active) = refl
undo_as (Some (Preparing e)) = refl
undo_as (Some (Committed e)) = refl
undo_as (Some Aborted) = refl

pub none_active : (o : Option TxState) (k : TransactionKind) (flag : Option TxId) → unless_active_as o k flag ≡ None → o ≡ Some Active
none_active None k flag h = absurd (some_none NoSuchTransaction h)
none_active (Some Active) k flag h = refl
none_active (Some (Preparing e)) k flag h = absurd (some_none NotActive h)
none_active (Some (Committed e)) k flag h = absurd (some_none Ended h)
none_active (Some Aborted) k flag h = absurd (some_none Ended h)

pub stands_active : (table : Txns (Node KeptTransaction)) (t : ℕ) → why_not_active table t ≡ None → state_of table t ≡ Some Active
stands_active table t none = none_active (state_of table t) (kind_kept (own_of table t)) (flag_of table t) none

-- ---- one that isn't Preparing is read as others are
abbrev pub MayLook : Option ReaderStage → Type 0
MayLook None = ⊤
MayLook (Some IsReading) = ⊤
MayLook (Some p) = ⊥

prepared_not_reading : ◌≡◌ {A = TransactionKind} Prepared KindReading → ⊥
prepared_not_reading e = cc

looks_at : (tale : List TalePlace) (t : ℕ) (k : TransactionKind) (place checked : ℕ) (valid : Bool) (p : Option ReaderStage) (flag : Option TxId) → HasStage tale t (reader_by k place checked valid) p → MayLook p → unless_reads k flag ≡ flag_refusal flag
looks_at tale t Other place checked valid p flag h m = refl
looks_at tale t KindReading place checked valid p flag h m = refl
looks_at tale t Prepared place checked valid None flag h m = absurd h
looks_at tale t Prepared place checked valid (Some IsReading) flag h m = absurd (prepared_not_reading h.kind)
looks_at tale t Prepared place checked valid (Some (IsPreparing n v)) flag h m = absurd m
looks_at tale t Prepared place checked valid (Some IsCommitted) flag h m = absurd m
looks_at tale t Prepared place checked valid (Some IsAborted) flag h m = absurd m
looks_at tale t KindCommitted place checked valid p flag h m = refl
looks_at tale t KindAborted place checked valid p flag h m = refl

looks_as : (tale : List TalePlace) (t : ℕ) (o : Option KeptTransaction) (p : Option ReaderStage) (flag : Option TxId) → HasStage tale t (reader_in o) p → MayLook p → unless_reads (kind_kept o) flag ≡ flag_refusal flag
looks_as tale t None p flag h m = refl
looks_as tale t (Some own) p flag h m = looks_at tale t own.kind own.place own.checked own.valid p flag h m

-- ---- what is kept of an Active one
pub record IsOwnOfActive (s : State) (c : CoreData) (t : ℕ) : Type 0 where
  pub own : KeptTransaction
  pub kept : own_of c.table t ≡ Some own

module _ (rs : Readers) (opening : Map) (steps : List Step) (s : State) (c : CoreData) (h : StandsAmong rs opening steps s c) (t : ℕ) where
  -- ---- of another
  may_look : stage_of t rs.unfinished ≡ None → MayLook (stage_of t rs.unfinished)
  may_look other = subst MayLook (sym other) tt

  none_kept : stage_of t rs.unfinished ≡ None → reader_in (own_of c.table t) ≡ None
  none_kept other = none_of_stage c.tale t (reader_in (own_of c.table t)) (subst (HasStage c.tale t (reader_in (own_of c.table t))) other (h.stages t))

  pub kind_is : stage_of t rs.unfinished ≡ None → kind_kept (own_of c.table t) ≡ Other
  kind_is other = none_kind (own_of c.table t) (none_kept other)

  pub not_active_is : MayLook (stage_of t rs.unfinished) → why_not_active c.table t ≡ first_cause (unless_active s t)
  not_active_is looks =
      active_as (state_of c.table t) (kind_kept (own_of c.table t)) (flag_of c.table t) (flag_of_active (active_of t s.active)) (looks_as c.tale t (own_of c.table t) (stage_of t rs.unfinished) (flag_of c.table t) (h.stages t) looks) (flag_of_active_told s c.table t h.dependencies)
      ∙ ap (λ p. active_causes p (flag_of_active (active_of t s.active))) (h.dependencies.stands.phases t)

  pub not_preparing_is : stage_of t rs.unfinished ≡ None → why_not_preparing c.table t ≡ first_cause (unless_preparing s t)
  not_preparing_is other =
      ap (λ k. unless_preparing_as (state_of c.table t) k (flag_of c.table t)) (kind_is other)
      ∙ preparing_as (state_of c.table t) (flag_of c.table t) (flag_of_preparing (preparing_of t s.stamped)) (flag_of_preparing_told s c.table t h.dependencies)
      ∙ ap (λ p. preparing_causes p (flag_of_preparing (preparing_of t s.stamped))) (h.dependencies.stands.phases t)

  pub not_undone_is : why_not_undo (state_of c.table t) ≡ why_not_rollback s t
  not_undone_is =
      undo_as (state_of c.table t)
      ∙ ap (λ p. first_cause (when (is_absent p) NoSuchTransaction ∷ when (is_ended p) Ended ∷ [])) (h.dependencies.stands.phases t)

  pub own_of_active : state_of c.table t ≡ Some Active → IsOwnOfActive s c t
  own_of_active was =
      let found = active_is s t (sym (h.dependencies.stands.phases t) ∙ ap phase_as was) in
      let w = active_holds (IsKeptActive c.table) t s.active found.0 found.1 h.works.active in
      record {
        own = w.0.own;
        kept = ap (own_of c.table) (sym w.1) ∙ w.0.kept;
      }

  own_if_none : why_not_active c.table t ≡ None → IsOwnOfActive s c t
  own_if_none none = own_of_active (stands_active c.table t none)

  -- its work has what the history has
  pub done_of_active : state_of c.table t ≡ Some Active → done_in c.works t ≡ history_of_active t s.active
  done_of_active was =
      let found = active_is s t (sym (h.dependencies.stands.phases t) ∙ ap phase_as was) in
      (holds_history opening steps s h.beside.given (works_in c.works) h.beside.together t found.0 found.1).history ∙ sym (found_is t s.active found.0 found.1).1

  done_is : why_not_active c.table t ≡ None → done_in c.works t ≡ history_of_active t s.active
  done_is none = done_of_active (stands_active c.table t none)

  pub entry_over_is : (e : Entry) → why_not_active c.table t ≡ None → is_entry_too_many (done_in c.works t) e ≡ is_entry_too_many (history_of_active t s.active) e
  entry_over_is e none = ap (λ ts. is_entry_too_many ts e) (done_is none)

  write_over_is : (k : RowKey) → why_not_active c.table t ≡ None → is_write_too_many (done_in c.works t) k ≡ is_write_too_many (history_of_active t s.active) k
  write_over_is k none = ap (λ ts. is_write_too_many ts k) (done_is none)

  -- the causes that come behind those of every call of an Active one
  behind : MayLook (stage_of t rs.unfinished) → (zs ys : List (Option Refusal)) → (why_not_active c.table t ≡ None → zs ≡ ys)
      → first_cause (why_not_active c.table t ∷ zs) ≡ first_cause (unless_active s t ++ ys)
  behind looks zs ys same =
      or_next_same (why_not_active c.table t) (first_cause zs) (first_cause ys) (λ none. ap first_cause (same none))
      ∙ ap (λ a. or_next a (first_cause ys)) (not_active_is looks)
      ∙ sym (first_append (unless_active s t) ys)

  -- and one more behind them
  behind_all : MayLook (stage_of t rs.unfinished) → (zs ys : List (Option Refusal)) (last : Option Refusal) → (why_not_active c.table t ≡ None → zs ≡ ys)
      → or_next (first_cause (why_not_active c.table t ∷ zs)) last ≡ first_cause (unless_active s t ++ (ys ++ last ∷ []))
  behind_all looks zs ys last same =
      or_next_deep (why_not_active c.table t) (first_cause zs) last
      ∙ ap (or_next (why_not_active c.table t)) (ap (or_next (first_cause zs)) (sym (or_none last)) ∙ sym (first_append zs (last ∷ [])))
      ∙ behind looks (zs ++ last ∷ []) (ys ++ last ∷ []) (λ none. ap (λ xs. xs ++ last ∷ []) (same none))

  -- ---- looks
  abbrev look_list : ℕ → Bool → List (Option Refusal)
  look_list of many = when (nat_lt MAX_TABLE of) BadTable ∷ when many TooManyReads ∷ []

  pub not_read_is : MayLook (stage_of t rs.unfinished) → (k : RowKey) → why_not_look c.table (done_in c.works t) t k.table (Key k) ≡ why_not_read s t k
  not_read_is looks k =
      behind looks (look_list k.table (is_entry_too_many (done_in c.works t) (Key k)))
      (look_list k.table (is_entry_too_many (history_of_active t s.active) (Key k)))
      (λ none. ap (look_list k.table) (entry_over_is (Key k) none))

  pub not_scanned_is : MayLook (stage_of t rs.unfinished) → (table lo hi : ℕ) → why_not_look c.table (done_in c.works t) t table (Range table lo hi) ≡ why_not_scan s t table lo hi
  not_scanned_is looks table lo hi =
      behind looks (look_list table (is_entry_too_many (done_in c.works t) (Range table lo hi)))
      (look_list table (is_entry_too_many (history_of_active t s.active) (Range table lo hi)))
      (λ none. ap (look_list table) (entry_over_is (Range table lo hi) none))

  -- ---- one that isn't read-only
  pub may_write : stage_of t rs.unfinished ≡ None → is_read_only (own_of c.table t) ≡ false
  may_write other = not_read_only (own_of c.table t) (none_kept other)

  -- ---- puts
  abbrev put_list : RowData → Bool → Bool → List (Option Refusal)
  put_list row reads writes =
      when (nat_lt MAX_TABLE row.key.table) BadTable
      ∷ when (nat_lt MAX_DATA_LEN (length row.bytes)) DataTooLong
      ∷ when reads TooManyReads ∷ when writes TooManyWrites ∷ []

  abbrev put_told : RowData → List (Option Refusal)
  put_told row = put_list row (is_entry_too_many (done_in c.works t) (Key row.key)) (is_write_too_many (done_in c.works t) row.key)

  abbrev put_causes : RowData → List (Option Refusal)
  put_causes row = put_list row (is_entry_too_many (history_of_active t s.active) (Key row.key)) (is_write_too_many (history_of_active t s.active) row.key)

  put_same : (row : RowData) → why_not_active c.table t ≡ None → put_told row ≡ put_causes row
  put_same row none =
      ap (λ b. put_list row b (is_write_too_many (done_in c.works t) row.key)) (entry_over_is (Key row.key) none)
      ∙ ap (put_list row (is_entry_too_many (history_of_active t s.active) (Key row.key))) (write_over_is row.key none)

  pub not_inserted_is : stage_of t rs.unfinished ≡ None → (row : RowData) → why_not_put c.table (done_in c.works t) t row ≡ why_not_insert s t row
  not_inserted_is other row = ap (λ b. first_cause (why_not_active c.table t ∷ when b ReadOnly ∷ put_told row)) (may_write other) ∙ behind (may_look other) (put_told row) (put_causes row) (put_same row)

  -- behind them, who stands in the way
  pub not_updated_is : stage_of t rs.unfinished ≡ None → (row : RowData) → or_next (why_not_put c.table (done_in c.works t) t row) (conflicts (conflict s t row.key)) ≡ why_not_update s t row
  not_updated_is other row = ap (λ b. or_next (first_cause (why_not_active c.table t ∷ when b ReadOnly ∷ put_told row)) (conflicts (conflict s t row.key))) (may_write other) ∙ behind_all (may_look other) (put_told row) (put_causes row) (conflicts (conflict s t row.key)) (put_same row)

  -- ---- removals
  abbrev remove_list : RowKey → Bool → Bool → List (Option Refusal)
  remove_list k reads writes = when (nat_lt MAX_TABLE k.table) BadTable ∷ when reads TooManyReads ∷ when writes TooManyWrites ∷ []

  abbrev remove_told : RowKey → List (Option Refusal)
  remove_told k = remove_list k (is_entry_too_many (done_in c.works t) (Key k)) (is_write_too_many (done_in c.works t) k)

  abbrev remove_causes : RowKey → List (Option Refusal)
  remove_causes k = remove_list k (is_entry_too_many (history_of_active t s.active) (Key k)) (is_write_too_many (history_of_active t s.active) k)

  remove_same : (k : RowKey) → why_not_active c.table t ≡ None → remove_told k ≡ remove_causes k
  remove_same k none =
      ap (λ b. remove_list k b (is_write_too_many (done_in c.works t) k)) (entry_over_is (Key k) none)
      ∙ ap (remove_list k (is_entry_too_many (history_of_active t s.active) (Key k))) (write_over_is k none)

  pub not_deleted_is : stage_of t rs.unfinished ≡ None → (k : RowKey) → or_next (why_not_remove c.table (done_in c.works t) t k) (conflicts (conflict s t k)) ≡ why_not_delete s t k
  not_deleted_is other k = ap (λ b. or_next (first_cause (why_not_active c.table t ∷ when b ReadOnly ∷ remove_told k)) (conflicts (conflict s t k))) (may_write other) ∙ behind_all (may_look other) (remove_told k) (remove_causes k) (conflicts (conflict s t k)) (remove_same k)
