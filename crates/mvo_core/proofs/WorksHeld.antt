-- What a core stands for where its works stay, where that of one that is over is forgotten, and where
-- one is told an operation.
use Rattle.std.proofs.Common.{◌≡◌, ◌≢◌, ℕ, Bool, true, false, List, Option, None, Some, refl, sym, ap, ◌∙◌, subst}
use Rattle.std.specs.Prelude.{nat_lt, length, cond, ◌==◌}
use Rattle.std.specs.Option.{option_to_list}
use Rattle.std.specs.List.{AllByRecursion}
use Rattle.std.proofs.lemmas.Bool.{ltb-false}
use Rattle.mvo_types.specs.declared.limits.TheConstants.{MAX_TABLE, MAX_DATA_LEN}
use Rattle.mvo_types.specs.declared.ids.Stamp.{Stamp}
use Rattle.mvo_types.specs.declared.op.Op.{Op}
use Rattle.mvo_types.specs.declared.op.Op.TheVariants.{Read, Scan, Insert, Update, Delete}
use Rattle.mvo_types.specs.declared.entry.Entry.{Entry}
use Rattle.mvo_types.specs.declared.entry.Entry.TheVariants.{Key, Range}
use Rattle.mvo_types.specs.declared.refusal.Refusal.{Refusal}
use Rattle.mvo_types.specs.declared.refusal.Refusal.TheVariants.{BadTable, DataTooLong, TooManyReads, TooManyWrites}
use Rattle.mvo_types.specs.declared.row.RowKey.{RowKey}
use Rattle.mvo_types.specs.Entries.{has_entry}
use Rattle.mvo_types.specs.AnswerData.{AnswerData}
use Rattle.mvo_types.specs.AnswerData.AnswerData.{Absent}
use Rattle.mvo_types.specs.RowData.{RowData}
use Rattle.mvo_types.specs.Keys.{Map, row_at}
use Rattle.mvo_model.specs.History.{History}
use Rattle.mvo_model.specs.Trace.{Step}
use Rattle.mvo_theory.specs.Causes.{is_entry_too_many, is_write_too_many, why_not_do}
use Rattle.mvo_theory.specs.Calls.{answer_in}
use Rattle.mvo_theory.specs.Entries.{entry_of}
use Rattle.mvo_theory.specs.State.{State, ActiveTx, active_of, snapshot, seen_by}
use Rattle.mvo_theory.proofs.Cases.{if_stands, not_op}
use Rattle.mvo_theory.proofs.Who.{active_done}
use Rattle.mvo_theory.proofs.Each.{each_weaker}
use Rattle.mvo_shared.specs.Kept.{WorkContent, rows_shown, entries_in, with_looked, answer_kept, after_op}
use Rattle.mvo_shared.specs.Shared.{with_work}
use Rattle.mvo_shared.specs.Held.{empty_work}
use Rattle.mvo_shadow.specs.Shadowed.{IsWorkOf}
use Rattle.mvo_txn.specs.declared.state.TxState.TheVariants.{Preparing}
use Rattle.mvo_txn.specs.Txns.{state_of, IsEnded}
use Rattle.mvo_work.specs.Limits.{MayFollow}
use Rattle.mvo_work.proofs.Follows.{follows_read, follows_scan, follows_insert, follows_update, follows_delete}
use Rattle.mvo_visible.specs.declared.outcome.Shown.{Shown}
use Rattle.mvo_visible.specs.Versions.{versions_at}
use Rattle.mvo_visible.specs.Shown.{AreVersionsInOrder}
use Rattle.mvo_representation.proofs.Tabled.{ended_is}
use Rattle.mvo_representation.proofs.WordsSaid.{ended_not_active}
use Rattle.mvo_representation.proofs.Facts.{found_holds}
use Rattle.mvo_content.specs.Shown.{AreRowsOf}
use Rattle.mvo_content.specs.Done.{DoneData}
use Rattle.mvo_content.specs.Next.{NextData}
use Rattle.mvo_content.specs.Works.{WorksData, work_if_there, works_in, HaveSameWorks, HasWorkFor, IsPreparedAt, MayBeTold, MayBeKept, answer_of_work}
use Rattle.mvo_content.proofs.Fitting.{shown_fits}
use Rattle.mvo_standing.specs.Telling.{MayComeWith, AreWorksWith}
use Rattle.mvo_standing.specs.Beside.{WorksGoBeside, WasTold}
use Rattle.mvo_standing.proofs.Telling.{holds_history, tells_answer, shows_others_row}
use Rattle.mvo_standing.proofs.Beside.{forgotten_beside}
use Rattle.mvo_readonly.specs.Whole.{WholeState}
use Rattle.mvo_core.specs.Readers.{Readers}
use Rattle.mvo_core.specs.Data.{CoreData}
use Rattle.mvo_core.specs.Looking.{row_shown}
use Rattle.mvo_core.specs.Standing.{StandsAmong}
use Rattle.mvo_core.specs.WholeStanding.{readers_of, StandsWhole}
use Rattle.mvo_core.proofs.CausesTold.{some_none}
use Rattle.mvo_core.proofs.GoesBeside.{same_beside}
use Rattle.mvo_core.proofs.Rest.{preparing_there}
use Rattle.mvo_core.proofs.Looked.{IsActiveHere, shown_in, versions_in_order, row_is}

-- ---- what may be told of an operation that may come
stands_none : (b : Bool) (r : Refusal) (next : Option Refusal) → if_stands b r next ≡ None → (b ≡ false) × (next ≡ None)
stands_none true r next e = absurd (some_none r e)
stands_none false r next e = (refl, e)

record IsFit (ts : History) (op : Op) (a : AnswerData) : Type 0 where
  limits : MayFollow ts op a
  few : is_entry_too_many ts (entry_of op) ≡ false

op_is_fit : (s : State) (op : Op) (r : ActiveTx) (a : AnswerData) → not_op s op r ≡ None → IsFit r.history op a
op_is_fit s (Read k) r a e =
    let on = stands_none (nat_lt MAX_TABLE k.table) BadTable _ e in
    let few = stands_none (is_entry_too_many r.history (Key k)) TooManyReads _ on.1 in
    record { limits = follows_read r.history k a; few = few.0 }
op_is_fit s (Scan table lo hi) r a e =
    let on = stands_none (nat_lt MAX_TABLE table) BadTable _ e in
    let few = stands_none (is_entry_too_many r.history (Range table lo hi)) TooManyReads _ on.1 in
    record { limits = follows_scan r.history table lo hi a; few = few.0 }
op_is_fit s (Insert row) r a e =
    let on = stands_none (nat_lt MAX_TABLE row.key.table) BadTable _ e in
    let size = stands_none (nat_lt MAX_DATA_LEN (length row.bytes)) DataTooLong _ on.1 in
    let few = stands_none (is_entry_too_many r.history (Key row.key)) TooManyReads _ size.1 in
    let keys = stands_none (is_write_too_many r.history row.key) TooManyWrites _ few.1 in
    record { limits = follows_insert r.history row a (record { table = ltb-false MAX_TABLE row.key.table on.0; size = ltb-false MAX_DATA_LEN (length row.bytes) size.0 }) keys.0; few = few.0 }
op_is_fit s (Update row) r a e =
    let on = stands_none (nat_lt MAX_TABLE row.key.table) BadTable _ e in
    let size = stands_none (nat_lt MAX_DATA_LEN (length row.bytes)) DataTooLong _ on.1 in
    let few = stands_none (is_entry_too_many r.history (Key row.key)) TooManyReads _ size.1 in
    let keys = stands_none (is_write_too_many r.history row.key) TooManyWrites _ few.1 in
    record { limits = follows_update r.history row a (record { table = ltb-false MAX_TABLE row.key.table on.0; size = ltb-false MAX_DATA_LEN (length row.bytes) size.0 }) keys.0; few = few.0 }
op_is_fit s (Delete k) r a e =
    let on = stands_none (nat_lt MAX_TABLE k.table) BadTable _ e in
    let few = stands_none (is_entry_too_many r.history (Key k)) TooManyReads _ on.1 in
    let keys = stands_none (is_write_too_many r.history k) TooManyWrites _ few.1 in
    record { limits = follows_delete r.history k a (ltb-false MAX_TABLE k.table on.0) keys.0; few = few.0 }

-- ---- an operation that may be done at once, where it is prepared first
among_same : (works mid : ℕ → WorkContent) (t u : ℕ) (v w : WorkContent) → mid u ≡ works u → v ≡ w → with_work mid t v u ≡ with_work works t w u
among_same works mid t u v w e f = go (u == t)
  where
    go : (b : Bool) → cond b v (mid u) ≡ cond b w (works u)
    go true = f
    go false = e

module _ (works mid : WorksData) (t : ℕ) (op : Op) (rows : List RowData) (may : MayBeKept works t op rows) (same : HaveSameWorks works mid) (n : NextData) (p : IsPreparedAt mid t op rows n) where
  done_there : work_if_there (Some p.done) ≡ works_in works t
  done_there = ap work_if_there (sym p.at) ∙ same t

  pub kept_may_be_told : MayBeTold mid t n
  kept_may_be_told = record {
    done = p.done;
    at = p.at;
    room = p.room;
    limits = subst (λ (x : Op). MayFollow p.done.history x n.answer) (sym p.next.asked) (subst (λ (w : WorkContent). MayFollow w.history op n.answer) (sym done_there) (may.limits n.answer));
    few = subst (λ (x : Op). is_entry_too_many p.done.history (entry_of x) ≡ false) (sym p.next.asked) (subst (λ (w : WorkContent). is_entry_too_many w.history (entry_of op) ≡ false) (sym done_there) may.few);
    answer =
        p.next.answer
        ∙ ap (λ (x : Op). answer_kept (with_looked p.done.looked (entry_of x) rows) p.done.history x) (sym p.next.asked)
        ∙ ap (λ (ys : List RowData). answer_kept (with_looked p.done.looked (entry_of n.op) ys) p.done.history n.op) (sym p.next.shown);
  }

  pub kept_answer : n.answer ≡ answer_of_work (works_in works t) op rows
  kept_answer = p.next.answer ∙ ap (λ (w : WorkContent). answer_of_work w op rows) done_there

  pub kept_told : (new : WorksData) → HasWorkFor mid new t (after_op (works_in mid t) n.op n.rows) → HasWorkFor works new t (after_op (works_in works t) op rows)
  kept_told new told = λ u.
      told u
      ∙ among_same (works_in works) (works_in mid) t u (after_op (works_in mid t) n.op n.rows) (after_op (works_in works t) op rows) (same u)
      (ap (λ (w : WorkContent). after_op w n.op n.rows) (same t)
      ∙ ap (λ (x : Op). after_op (works_in works t) x n.rows) p.next.asked
      ∙ ap (λ (ys : List RowData). after_op (works_in works t) op ys) p.next.shown)

-- the operation was prepared with these rows among the works, and its work has come to be told it
pub record IsNextTold (works : WorksData) (t : ℕ) (op : Op) (rows : List RowData) (more : WorksData) : Type 0 where
  pub next : NextData
  pub prepared : IsPreparedAt works t op rows next
  pub told : HasWorkFor works more t (after_op (works_in works t) next.op next.rows)

module _ (rs : Readers) (opening : Map) (steps : List Step) (s : State) (c : CoreData) (h : StandsAmong rs opening steps s c) where
  with_works : (ws : WorksData) → WorksGoBeside opening steps s (works_in ws) → StandsAmong rs opening steps s (record c { works = ws })
  with_works ws beside = record {
    kept = h.kept;
    versions = h.versions;
    dependencies = h.dependencies;
    order = h.order;
    works = h.works;
    words = h.words;
    tale = h.tale;
    places = h.places;
    stages = h.stages;
    marks = h.marks;
    grouped = h.grouped;
    start = h.start;
    over = h.over;
    beside = beside;
  }

  -- room was made
  pub stands_same_works : (ws : WorksData) → HaveSameWorks c.works ws → StandsAmong rs opening steps s (record c { works = ws })
  stands_same_works ws same = with_works ws (same_beside opening steps s (works_in c.works) (works_in ws) h.beside same)

  -- one isn't Active any more
  pub stands_without_work : (ws : WorksData) (t : ℕ) → AllByRecursion (λ r. r.id ≢ t) s.active → HasWorkFor c.works ws t empty_work → StandsAmong rs opening steps s (record c { works = ws })
  stands_without_work ws t apart told = with_works ws (forgotten_beside opening steps s (works_in c.works) h.beside (works_in ws) t apart told)

  -- one that is Preparing isn't
  pub stands_taken_work : (ws : WorksData) (t : ℕ) (e : Stamp) → state_of c.table t ≡ Some (Preparing e) → HasWorkFor c.works ws t empty_work → StandsAmong rs opening steps s (record c { works = ws })
  stands_taken_work ws t e was told =
      let x = preparing_there rs opening steps s c h t e was in
      stands_without_work ws t
      (each_weaker (λ r. AllByRecursion (λ y. y.id ≢ r.id) s.stamped) (λ r. r.id ≢ t)
      (λ r k q. let p = found_holds (λ y. y.id ≢ r.id) t s.stamped x.0 x.1 k in p.0 (p.1 ∙ sym q)) s.active h.versions.kept.numbered.apart) told

  -- one that has ended is over
  pub stands_forgotten_work : (ws : WorksData) (t : ℕ) → IsEnded (state_of c.table t) → HasWorkFor c.works ws t empty_work → StandsAmong rs opening steps s (record c { works = ws })
  stands_forgotten_work ws t ended told =
      let found = ended_is s t (state_of c.table t) ended (sym (h.dependencies.stands.phases t)) in
      stands_without_work ws t (ended_not_active s t found.0 h.versions.kept.single found.1) told

  -- the work of an Active one holds its operations
  pub work_held : (t : ℕ) (r : ActiveTx) → active_of t s.active ≡ Some r → IsWorkOf r.history (works_in c.works t)
  work_held t r f = holds_history opening steps s h.beside.given (works_in c.works) h.beside.together t r f

  -- ---- an operation that may come
  module _ (t : ℕ) (op : Op) (may : why_not_do s t op ≡ None) (rows : List RowData) where
    -- it may be told, where it is prepared
    pub may_be_told : (n : NextData) → IsPreparedAt c.works t op rows n → MayBeTold c.works t n
    may_be_told n p =
        let found = active_done s t op may in
        let fit = op_is_fit s op found.0 n.answer found.3 in
        let same : p.done.history ≡ found.0.history = ap (λ (o : Option DoneData). (work_if_there o).history) (sym p.at) ∙ (work_held t found.0 found.1).history in
        record {
          done = p.done;
          at = p.at;
          room = p.room;
          limits = subst (λ (x : Op). MayFollow p.done.history x n.answer) (sym p.next.asked) (subst (λ (ts : History). MayFollow ts op n.answer) (sym same) fit.limits);
          few = subst (λ (x : Op). is_entry_too_many p.done.history (entry_of x) ≡ false) (sym p.next.asked) (subst (λ (ts : History). is_entry_too_many ts (entry_of op) ≡ false) (sym same) fit.few);
          answer =
              p.next.answer
              ∙ ap (λ (x : Op). answer_kept (with_looked p.done.looked (entry_of x) rows) p.done.history x) (sym p.next.asked)
              ∙ ap (λ (ys : List RowData). answer_kept (with_looked p.done.looked (entry_of n.op) ys) p.done.history n.op) (sym p.next.shown);
        }

    -- and is told what the state answers, where it may come with the rows
    pub told_answer : MayComeWith s t (works_in c.works t) op rows → (n : NextData) → IsPreparedAt c.works t op rows n → n.answer ≡ answer_in s t op
    told_answer come n p =
        p.next.answer
        ∙ ap (λ (o : Option DoneData). answer_kept (with_looked (work_if_there o).looked (entry_of op) rows) (work_if_there o).history op) (sym p.at)
        ∙ tells_answer opening steps s h.beside.given (works_in c.works) h.beside.together t op rows may come

    -- it may be done at once, where others can show these rows
    pub may_be_kept : AreRowsOf (entry_of op) rows → MayBeKept c.works t op rows
    may_be_kept shown =
        let found = active_done s t op may in
        let same : (works_in c.works t).history ≡ found.0.history = (work_held t found.0 found.1).history in
        record {
          shown = shown;
          limits = λ a. subst (λ (ts : History). MayFollow ts op a) (sym same) (op_is_fit s op found.0 a found.3).limits;
          few = subst (λ (ts : History). is_entry_too_many ts (entry_of op) ≡ false) (sym same) (op_is_fit s op found.0 Absent found.3).few;
        }

    pub answer_so : MayComeWith s t (works_in c.works t) op rows → (a : AnswerData) → a ≡ answer_of_work (works_in c.works t) op rows → a ≡ answer_in s t op
    answer_so come a e = e ∙ tells_answer opening steps s h.beside.given (works_in c.works) h.beside.together t op rows may come

    pub told_so : MayComeWith s t (works_in c.works t) op rows → (more : WorksData) → HasWorkFor c.works more t (after_op (works_in c.works t) op rows) → WasTold s (works_in c.works) t op (works_in more)
    told_so come more told = record { rows = rows; come = come; told = told }

    -- and then it was, so
    pub was_told : MayComeWith s t (works_in c.works t) op rows → (more : WorksData) → IsNextTold c.works t op rows more → WasTold s (works_in c.works) t op (works_in more)
    was_told come more w = record {
      rows = rows;
      come = come;
      told = subst (λ (ys : List RowData). AreWorksWith (works_in c.works) t (after_op (works_in c.works t) op ys) (works_in more)) w.prepared.next.shown
          (subst (λ (x : Op). AreWorksWith (works_in c.works) t (after_op (works_in c.works t) x w.next.rows) (works_in more)) w.prepared.next.asked w.told);
    }

  -- ---- on a key, where this version is shown
  module _ (t : ℕ) (here : IsActiveHere s c t) (k : RowKey) (found : Shown) (is : AreVersionsInOrder (state_of c.table) t t (versions_at c.versions.slots c.versions.lists k) → found ≡ shown_in c t k) where
    row_there : row_shown c.versions.slots found.version ≡ row_at (snapshot s t) k
    row_there =
        ap (λ (x : Shown). row_shown c.versions.slots x.version) (is (versions_in_order rs opening steps s c h t here.state k))
        ∙ row_is rs opening steps s c h t here.tx here.found k

    -- its row can be what others show there
    pub key_fits : AreRowsOf (Key k) (option_to_list (row_shown c.versions.slots found.version))
    key_fits = subst (λ (o : Option RowData). AreRowsOf (Key k) (option_to_list o)) (sym row_there) (shown_fits (Key k) (snapshot s t))

    -- and it is, where the work has no entry for the key
    key_comes : (op : Op) → entry_of op ≡ Key k → MayComeWith s t (works_in c.works t) op (option_to_list (row_shown c.versions.slots found.version))
    key_comes op at new =
        ap option_to_list
        (row_there ∙ shows_others_row opening steps s h.beside.given (works_in c.works) h.beside.together t here.tx k here.found (subst (λ (e : Entry). has_entry (entries_in (works_in c.works t).looked) e ≡ false) at new))
        ∙ ap (λ (e : Entry). rows_shown e (seen_by s.base s.stamped t)) (sym at)

    pub key_answer_so : (op : Op) → entry_of op ≡ Key k → why_not_do s t op ≡ None → (a : AnswerData) → a ≡ answer_of_work (works_in c.works t) op (option_to_list (row_shown c.versions.slots found.version)) → a ≡ answer_in s t op
    key_answer_so op at may a e = answer_so t op may (option_to_list (row_shown c.versions.slots found.version)) (key_comes op at) a e

    pub key_told_so : (op : Op) → entry_of op ≡ Key k → why_not_do s t op ≡ None → (more : WorksData) → HasWorkFor c.works more t (after_op (works_in c.works t) op (option_to_list (row_shown c.versions.slots found.version))) → WasTold s (works_in c.works) t op (works_in more)
    key_told_so op at may more told = told_so t op may (option_to_list (row_shown c.versions.slots found.version)) (key_comes op at) more told

    pub key_answer : (op : Op) → entry_of op ≡ Key k → why_not_do s t op ≡ None → (n : NextData) → IsPreparedAt c.works t op (option_to_list (row_shown c.versions.slots found.version)) n → n.answer ≡ answer_in s t op
    key_answer op at may n p = told_answer t op may (option_to_list (row_shown c.versions.slots found.version)) (key_comes op at) n p

    pub key_told : (op : Op) → entry_of op ≡ Key k → why_not_do s t op ≡ None → (more : WorksData) → IsNextTold c.works t op (option_to_list (row_shown c.versions.slots found.version)) more → WasTold s (works_in c.works) t op (works_in more)
    key_told op at may more w = was_told t op may (option_to_list (row_shown c.versions.slots found.version)) (key_comes op at) more w

-- beside read-only ones
pub whole_same_works : (opening : Map) (steps own : List Step) (w : WholeState) (c : CoreData) → StandsWhole opening steps own w c → (ws : WorksData) → HaveSameWorks c.works ws → StandsWhole opening steps own w (record c { works = ws })
whole_same_works opening steps own w c h ws same = record { core = stands_same_works (readers_of w) opening own w.core c h.core ws same; kept = h.kept }

pub whole_forgotten_work : (opening : Map) (steps own : List Step) (w : WholeState) (c : CoreData) → StandsWhole opening steps own w c → (ws : WorksData) (t : ℕ) → IsEnded (state_of c.table t) → HasWorkFor c.works ws t empty_work → StandsWhole opening steps own w (record c { works = ws })
whole_forgotten_work opening steps own w c h ws t ended told = record { core = stands_forgotten_work (readers_of w) opening own w.core c h.core ws t ended told; kept = h.kept }
