-- What an Active transaction is shown at a key, and on whom it depends then.
use Rattle.std.proofs.Common.{◌≡◌, ℕ, List, Option, None, Some, refl, sym, ap, ◌∙◌, subst}
use Rattle.std.specs.Option.{option_map, option_to_list, is_some}
use Rattle.std.specs.FinMap as fin
use Rattle.mvo_types.specs.declared.ids.TxId.{TxId}
use Rattle.mvo_types.specs.declared.op.Op.{Op}
use Rattle.mvo_types.specs.declared.row.RowKey.{RowKey}
use Rattle.mvo_types.specs.RowData.{RowData, content_of, row_with}
use Rattle.mvo_types.specs.Keys.{Map, row_at}
use Rattle.mvo_model.specs.Trace.{Step}
use Rattle.mvo_theory.specs.Entries.{entry_of}
use Rattle.mvo_types.specs.declared.entry.Entry.TheVariants.{Key}
use Rattle.mvo_theory.specs.State.{State, ActiveTx, active_of, snapshot}
use Rattle.mvo_theory.proofs.Who.{id_of, active_holds}
use Rattle.mvo_chain.specs.declared.version.Version.{Version}
use Rattle.mvo_chain.specs.declared.version.VersionNo.{VersionNo}
use Rattle.mvo_txn.specs.declared.state.TxState.TheVariants.{Active}
use Rattle.mvo_txn.specs.Txns.{state_of}
use Rattle.mvo_visible.specs.declared.outcome.Shown.{Shown}
use Rattle.mvo_visible.specs.Versions.{versions_at}
use Rattle.mvo_visible.specs.Shown.{AreVersionsInOrder, shown_to}
use Rattle.mvo_representation.specs.Dependencies.{AreDependencies, named_ids}
use Rattle.mvo_representation.specs.Table.{IsShown, content_shown, phase_as}
use Rattle.mvo_representation.proofs.OnWhom.{key_named}
use Rattle.mvo_representation.proofs.OrderFalls.{order_falls, order_has_own_in_front}
use Rattle.mvo_representation.proofs.Proved.{shows_snapshot, shown_is_there}
use Rattle.mvo_representation.proofs.Tabled.{active_is}
use Rattle.mvo_core.specs.Readers.{Readers}
use Rattle.mvo_core.specs.declared.kept_transaction.KeptTransaction.{KeptTransaction}
use Rattle.mvo_core.specs.Causes.{why_not_active}
use Rattle.mvo_core.specs.Data.{CoreData, own_of}
use Rattle.mvo_core.specs.Looking.{row_shown}
use Rattle.mvo_core.specs.Standing.{IsKeptActive, StandsAmong}
use Rattle.mvo_core.proofs.CausesTold.{stands_active}

-- ---- an Active transaction, in the state and in the table
pub record IsActiveHere (s : State) (c : CoreData) (t : ℕ) : Type 0 where
  pub tx : ActiveTx
  pub found : active_of t s.active ≡ Some tx
  pub state : state_of c.table t ≡ Some Active
  pub own : KeptTransaction
  pub kept : own_of c.table t ≡ Some own

pub active_here : (rs : Readers) (opening : Map) (steps : List Step) (s : State) (c : CoreData) → StandsAmong rs opening steps s c → (t : ℕ) → why_not_active c.table t ≡ None → IsActiveHere s c t
active_here rs opening steps s c h t none =
    let was = stands_active c.table t none in
    let found = active_is s t (sym (h.dependencies.stands.phases t) ∙ ap phase_as was) in
    let w = active_holds (IsKeptActive c.table) t s.active found.0 found.1 h.works.active in
    record {
      tx = found.0;
      found = found.1;
      state = was;
      own = w.0.own;
      kept = ap (own_of c.table) (sym w.1) ∙ w.0.kept;
    }

-- ---- what it is shown
abbrev pub shown_in : CoreData → ℕ → RowKey → Shown
shown_in c t k = shown_to (state_of c.table) t t (versions_at c.versions.slots c.versions.lists k)

listed : (o : Option TxId) → named_ids o ≡ option_to_list o
listed None = refl
listed (Some id) = refl

module _ (rs : Readers) (opening : Map) (steps : List Step) (s : State) (c : CoreData) (h : StandsAmong rs opening steps s c) (t : ℕ) where
  -- a walk finds it
  pub versions_in_order : state_of c.table t ≡ Some Active → (k : RowKey) → AreVersionsInOrder (state_of c.table) t t (versions_at c.versions.slots c.versions.lists k)
  versions_in_order active k = record {
    falling = order_falls opening s (state_of c.table) c.versions.slots c.versions.lists c.versions.places h.versions h.order k;
    own = order_has_own_in_front s.start (state_of c.table) c.versions.slots c.versions.lists t active h.order k;
  }

  module _ (r : ActiveTx) (f : active_of t s.active ≡ Some r) (k : RowKey) where
    id : r.id ≡ t
    id = id_of t s.active r f

    here : active_of r.id s.active ≡ Some r
    here = ap (λ (n : ℕ). active_of n s.active) id ∙ f

    shows : content_shown c.versions.slots (shown_in c t k).version ≡ fin.get (snapshot s t) k
    shows = subst (λ (n : ℕ). content_shown c.versions.slots (shown_in c n k).version ≡ fin.get (snapshot s n) k) id
        (shows_snapshot opening s (state_of c.table) c.versions.slots c.versions.lists c.versions.places r k h.versions here)

    pub shown_there : (number : VersionNo) → (shown_in c t k).version ≡ Some number → IsShown s (state_of c.table) c.versions.slots t k number
    shown_there number = subst (λ (n : ℕ). (shown_in c n k).version ≡ Some number → IsShown s (state_of c.table) c.versions.slots n k number) id
        (shown_is_there opening s (state_of c.table) c.versions.slots c.versions.lists c.versions.places r k number h.versions here)

    -- a row, with its key
    whole : (v : Version) → v.row.key ≡ k → v.row ≡ row_with k (content_of v.row)
    whole v e = ap (λ (q : RowKey). row_with q (content_of v.row)) e

    pub row_is : row_shown c.versions.slots (shown_in c t k).version ≡ row_at (snapshot s t) k
    row_is = go (shown_in c t k).version refl
      where
        go : (o : Option VersionNo) → (shown_in c t k).version ≡ o → row_shown c.versions.slots o ≡ row_at (snapshot s t) k
        go None e = ap (option_map (row_with k)) (ap (content_shown c.versions.slots) (sym e) ∙ shows)
        go (Some n) e =
            let w = shown_there n e in
            ap (option_map (λ v. v.row)) w.at
            ∙ ap (λ (row : RowData). Some row) (whole w.version w.key)
            ∙ ap (option_map (row_with k)) (ap (option_map (λ v. content_of v.row)) (sym w.at) ∙ ap (content_shown c.versions.slots) (sym e) ∙ shows)

    -- a row stands there just where a version is shown
    pub key_is : fin.contains_key (snapshot s t) k ≡ is_some (shown_in c t k).version
    key_is = go (shown_in c t k).version refl
      where
        go : (o : Option VersionNo) → (shown_in c t k).version ≡ o → fin.contains_key (snapshot s t) k ≡ is_some o
        go None e = ap is_some (sym (ap (content_shown c.versions.slots) (sym e) ∙ shows))
        go (Some n) e =
            let w = shown_there n e in
            ap is_some (sym (ap (option_map (λ v. content_of v.row)) (sym w.at) ∙ ap (content_shown c.versions.slots) (sym e) ∙ shows))

    -- no row, where none is shown
    pub none_is : (shown_in c t k).version ≡ None → fin.get (snapshot s t) k ≡ None
    none_is e = sym (ap (content_shown c.versions.slots) (sym e) ∙ shows)

    -- on whom it depends then
    pub names_just : (op : Op) → entry_of op ≡ Key k → AreDependencies s op r (option_to_list (shown_in c t k).depends_on)
    names_just op e = subst (AreDependencies s op r) (listed (shown_in c t k).depends_on)
        (key_named opening s (state_of c.table) c.versions.slots c.versions.lists c.versions.places t op r k h.versions f e)
