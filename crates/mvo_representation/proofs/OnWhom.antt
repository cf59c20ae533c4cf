-- Whom the rules name is on whom an operation lets the transaction depend.
use Rattle.std.proofs.Common.{◌≡◌, ℕ, Bool, true, false, cond, eqb, ◌||◌, ◌⊎◌, List, [], ◌∷◌, Option, None, Some, refl, sym, ap, ◌∙◌, subst, inl, inr}
use Rattle.std.specs.Prelude.{◌==◌, IsSome, is_some, ⊤}
use Rattle.std.specs.List.{AllByRecursion, list_any}
use Rattle.std.specs.Option.{option_map, option_or}
use Rattle.std.proofs.lemmas.Bool.{eq-eqb, eqb-true, true≢false, false≢true}
use Rattle.mvo_types.specs.declared.row.RowKey.{RowKey}
use Rattle.mvo_types.specs.declared.ids.TxId.{TxId}
use Rattle.mvo_types.specs.declared.op.Op.{Op}
use Rattle.mvo_types.specs.declared.op.Op.TheVariants.{Read, Scan}
use Rattle.mvo_types.specs.Keys.{Map}
use Rattle.mvo_types.specs.Write.{Effect}
use Rattle.mvo_model.specs.History.{net_write}
use Rattle.mvo_theory.specs.Entries.{entry_of}
use Rattle.mvo_types.specs.declared.entry.Entry.TheVariants.{Key}
use Rattle.mvo_theory.specs.State.{State, StampedTx, ActiveTx, active_of, preparing_of}
use Rattle.mvo_theory.specs.Dependencies.{has_end, with_end, last_writer, depend_on, dependencies, keys_for, unwritten}
use Rattle.mvo_theory.proofs.Depends.{depends_more}
use Rattle.mvo_theory.proofs.Who.{id_of}
use Rattle.mvo_theory.proofs.Each.{each_append, each_both, each_weaker}
use Rattle.mvo_txn.specs.declared.state.TxState.{TxState}
use Rattle.mvo_txn.specs.declared.state.TxState.TheVariants as state
use Rattle.mvo_txn.specs.Queue.{open_end}
use Rattle.mvo_word.specs.declared.held.Held.{Held}
use Rattle.mvo_word.specs.declared.held.Held.TheVariants.{At, By, Infinity}
use Rattle.mvo_chain.specs.declared.version.VersionNo.{VersionNo}
use Rattle.mvo_chain.specs.Slots.{Slots}
use Rattle.mvo_hash.specs.Lists.{Lists}
use Rattle.mvo_range.specs.Place.{PlaceNumbers as Places}
use Rattle.mvo_visible.specs.declared.seen.Seen.{Seen}
use Rattle.mvo_visible.specs.declared.seen.Seen.TheVariants.{Nothing, Settled, Speculative}
use Rattle.mvo_visible.specs.declared.change.Change.{Change}
use Rattle.mvo_visible.specs.Words.{States, seen_in, seen_of}
use Rattle.mvo_visible.specs.Versions.{NumberedVersion, versions_at, is_own, own_newest}
use Rattle.mvo_visible.specs.Changes.{put_of, removal_of, changes_by, changes_of, greatest_below, owner_with, done_with}
use Rattle.mvo_visible.specs.Shown.{own_or, shown_to}
use Rattle.mvo_deps.specs.Data.{is_id_among}
use Rattle.mvo_representation.specs.Words.{open_end_in, with_open}
use Rattle.mvo_representation.specs.Indexes.{all_versions}
use Rattle.mvo_representation.specs.Table.{phases_of, end_awaited}
use Rattle.mvo_representation.specs.Laws.{VersionsStandFor}
use Rattle.mvo_representation.specs.Dependencies.{AreDependencies, tx_id, named_ids, named_at, is_met_at, AreNamedByScan}
use Rattle.mvo_representation.proofs.DependsOn.{depends_is}
use Rattle.mvo_representation.proofs.Facts.{preparing_is, found_holds}
use Rattle.mvo_representation.proofs.Read.{written_depends, key_depends}
use Rattle.mvo_representation.proofs.Scanned.{IsMetOpen, scan_depends_only, scan_depends_all}
use Rattle.mvo_representation.proofs.Reported.{swap_eq}
use Rattle.mvo_representation.proofs.TableTells.{phase_open}
use Rattle.mvo_representation.proofs.Unsettled.{some_same, found_itself, alone}
use Rattle.mvo_representation.proofs.Waited.{has_with}
use Rattle.mvo_representation.proofs.RangeCheckedBy.{iff}
use Rattle.mvo_representation.proofs.TableMarks.{or_second}

-- ---- whom the rules name is Preparing
abbrev IsOwner : States → Option TxId → Type 0
IsOwner states None = ⊤
IsOwner states (Some t) = is_some (open_end (states t.0)) ≡ true

owner_or : (states : States) (a b : Option TxId) → IsOwner states a → IsOwner states b → IsOwner states (option_or a b)
owner_or states None b x y = y
owner_or states (Some t) b x y = x

owner_if : (states : States) (c : Bool) (a : Option TxId) → IsOwner states a → IsOwner states (cond c a None)
owner_if states true a x = x
owner_if states false a x = tt

-- one that a word names
abbrev IsSeen : States → Seen → Type 0
IsSeen states Nothing = ⊤
IsSeen states (Settled e) = ⊤
IsSeen states (Speculative e t) = is_some (open_end (states t.0)) ≡ true

seen_names : (states : States) (w : Held) → IsSeen states (seen_of states w)
seen_names states (At s) = tt
seen_names states Infinity = tt
seen_names states (By t) = go (states t.0) refl
  where
    go : (o : Option TxState) → states t.0 ≡ o → IsSeen states (seen_in t o)
    go None e = tt
    go (Some state.Active) e = tt
    go (Some (state.Preparing n)) e = ap (λ o. is_some (open_end o)) e
    go (Some (state.Committed n)) e = tt
    go (Some state.Aborted) e = tt

put_names : (states : States) (n : VersionNo) (a b : Seen) → IsSeen states a → AllByRecursion (λ c. IsOwner states c.owner) (put_of n a b)
put_names states n Nothing b h = tt
put_names states n (Settled e) b h = (tt, tt)
put_names states n (Speculative e t) b h = (h, tt)

removal_names : (states : States) (a : Seen) → IsSeen states a → AllByRecursion (λ c. IsOwner states c.owner) (removal_of a)
removal_names states Nothing h = tt
removal_names states (Settled e) h = (tt, tt)
removal_names states (Speculative e t) h = (h, tt)

changes_name : (states : States) (vs : List NumberedVersion) → AllByRecursion (λ c. IsOwner states c.owner) (changes_of states vs)
changes_name states [] = tt
changes_name states (v ∷ vs) = each_append (λ c. IsOwner states c.owner) (changes_by states v) (changes_of states vs)
    (each_append (λ c. IsOwner states c.owner) (put_of v.0 (seen_of states v.1.begin) (seen_of states v.1.end)) (removal_of (seen_of states v.1.end))
    (put_names states v.0 (seen_of states v.1.begin) (seen_of states v.1.end) (seen_names states v.1.begin))
    (removal_names states (seen_of states v.1.end) (seen_names states v.1.end)))
    (changes_name states vs)

first_names : (states : States) (n : ℕ) (cs : List Change) → AllByRecursion (λ c. IsOwner states c.owner) cs → IsOwner states (owner_with n cs)
first_names states n [] h = tt
first_names states n (c ∷ cs) h = owner_or states (cond (c.stamp.0 == n) c.owner None) (owner_with n cs) (owner_if states (c.stamp.0 == n) c.owner h.0) (first_names states n cs h.1)

shown_names : (states : States) (b reader : ℕ) (vs : List NumberedVersion) → IsOwner states (shown_to states b reader vs).depends_on
shown_names states b reader vs = go (list_any (is_own reader) vs) (greatest_below b (changes_of states vs))
  where
    go : (c : Bool) (w : Option ℕ) → IsOwner states (own_or c (own_newest reader vs) (option_map (done_with (changes_of states vs)) w)).depends_on
    go true w = tt
    go false None = tt
    go false (Some n) = first_names states n (changes_of states vs) (changes_name states vs)

-- ---- of one state
or_cases : (a b : Bool) → (a || b) ≡ true → (a ≡ true) ⊎ (b ≡ true)
or_cases true b e = inl refl
or_cases false b e = inr e

or_first : (a b : Bool) → a ≡ true → (a || b) ≡ true
or_first a b e = ap (λ c. c || b) e

or_turned : (a b : Bool) → (a || b) ≡ (b || (a || false))
or_turned true true = refl
or_turned true false = refl
or_turned false true = refl
or_turned false false = refl

one_among : (P : TxId → Type 0) (t : TxId) (ids : List TxId) → is_id_among t ids ≡ true → AllByRecursion P ids → (id : TxId) × (id.0 ≡ t.0) × P id
one_among P t [] e h = absurd (false≢true e)
one_among P t (id ∷ ids) e h = go (eqb id.0 t.0) refl e (λ f. one_among P t ids f h.1)
  where
    go : (b : Bool) → eqb id.0 t.0 ≡ b → (b || is_id_among t ids) ≡ true → (is_id_among t ids ≡ true → (u : TxId) × (u.0 ≡ t.0) × P u) → (u : TxId) × (u.0 ≡ t.0) × P u
    go true q f again = (id, eqb-true id.0 t.0 q, h.0)
    go false q f again = again f

none_written : (w : Option Effect) → is_some w ≡ false → w ≡ None
none_written None e = refl
none_written (Some x) e = absurd (true≢false e)

module _ (opening : Map) (s : State) (states : States) (slots : Slots) (lists : Lists) (places : Places) (w : VersionsStandFor opening s states slots lists places) (r : ActiveTx) (f : active_of r.id s.active ≡ Some r) where
  -- one that the rules name at a key, as the state has it
  record IsNamed (id : TxId) : Type 0 where
    pub it : StampedTx
    pub found : preparing_of id.0 s.stamped ≡ Some it
    pub awaited : end_awaited states (Some id) ≡ Some it.end

  named_open : (o : Option TxState) → is_some (open_end o) ≡ true → (e : ℕ) × (open_end o ≡ Some e)
  named_open o h = go (open_end o) refl h
    where
      go : (p : Option ℕ) → open_end o ≡ p → is_some p ≡ true → (e : ℕ) × (open_end o ≡ Some e)
      go None q i = absurd (false≢true i)
      go (Some e) q i = (e, q)

  is_named : (id : TxId) → is_some (open_end (states id.0)) ≡ true → IsNamed id
  is_named id h =
      let e = named_open (states id.0) h in
      let phase = phase_open (states id.0) e.0 e.1 in
      let x = preparing_is s id.0 e.0 (sym (w.versions.phases id.0) ∙ phase) in
      record { it = x.0; found = x.1; awaited = ap open_end_in phase ∙ ap Some (sym x.2) }

  named_by : (k : RowKey) (id : TxId) → named_at states slots lists r.id k ≡ Some id → IsNamed id
  named_by k id e = is_named id (subst (IsOwner states) e (shown_names states r.id r.id (versions_at slots lists k)))

  by_rule : (op : Op) (k : RowKey) → entry_of op ≡ Key k → dependencies s op r ≡ with_open r.depends_on (end_awaited states (named_at states slots lists r.id k))
  by_rule op k en = depends_is opening s states slots lists op r k w.kept w.versions w.numbers f en

  -- ---- an operation on one key
  key_by_id : (op : Op) (k : RowKey) → entry_of op ≡ Key k → AreDependencies s op r (named_ids (named_at states slots lists r.id k))
  key_by_id op k en = go (named_at states slots lists r.id k) refl (by_rule op k en)
    where
      go : (o : Option TxId) → named_at states slots lists r.id k ≡ o → dependencies s op r ≡ with_open r.depends_on (end_awaited states o) → AreDependencies s op r (named_ids o)
      go None e d = record {
        preparing = tt;
        just = each_both (λ y. y.settled ≡ false → preparing_of y.id s.stamped ≡ Some y) (λ y. y.settled ≡ false → preparing_of y.id s.stamped ≡ Some y) (λ y. y.settled ≡ false → has_end (dependencies s op r) y.end ≡ (has_end r.depends_on y.end || false)) (λ y m n o. ap (λ ds. has_end ds y.end) d ∙ none (has_end r.depends_on y.end)) s.stamped (found_itself s w.kept.single) (found_itself s w.kept.single);
      }
        where
          none : (b : Bool) → b ≡ (b || false)
          none true = refl
          none false = refl
      go (Some id) e d =
          let n = named_by k id e in
          record {
            preparing = (subst IsSome (sym n.found) refl, tt);
            just = each_both (λ y. y.settled ≡ false → preparing_of y.id s.stamped ≡ Some y) (λ y. y.settled ≡ false → (y.id == id.0) ≡ (y.end == n.it.end)) (λ y. y.settled ≡ false → has_end (dependencies s op r) y.end ≡ (has_end r.depends_on y.end || (eqb id.0 y.id || false)))
                (λ y m a o.
                ap (λ ds. has_end ds y.end) (d ∙ ap (with_open r.depends_on) n.awaited)
                ∙ has_with r.depends_on n.it.end y.end
                ∙ ap (λ b. b || has_end r.depends_on y.end) (swap_eq n.it.end y.end ∙ sym (a o) ∙ swap_eq y.id id.0)
                ∙ or_turned (eqb id.0 y.id) (has_end r.depends_on y.end)) s.stamped (found_itself s w.kept.single) (alone s w.kept.single w.kept.sound.rising id.0 n.it n.found);
          }

  -- ---- a scan
  module _ (table lo hi : ℕ) (ids : List TxId) (h : AreNamedByScan s states slots lists r.id table lo hi ids) where
    -- a dependency that is new is among these
    among_these : (y : StampedTx) → y.settled ≡ false → preparing_of y.id s.stamped ≡ Some y → IsMetOpen s (phases_of states) (all_versions slots) table lo hi r y.end → (has_end r.depends_on y.end || is_id_among (tx_id y.id) ids) ≡ true
    among_these y o m v = go (named_at states slots lists r.id v.key) refl (by_rule (Read v.key) v.key refl)
      where
        known : has_end (dependencies s (Read v.key) r) y.end ≡ true
        known =
            ap (λ ds. has_end ds y.end) (key_depends s (Read v.key) r v.key refl (none_written (net_write v.key r.history) v.unwritten) ∙ ap (depend_on r.depends_on) v.last ∙ ap (λ b. cond b r.depends_on (with_end r.depends_on v.writer.end)) v.waits)
            ∙ has_with r.depends_on v.writer.end y.end
            ∙ or_first (v.writer.end == y.end) (has_end r.depends_on y.end) (eq-eqb v.writer.end y.end v.ends)

        go : (p : Option TxId) → named_at states slots lists r.id v.key ≡ p → dependencies s (Read v.key) r ≡ with_open r.depends_on (end_awaited states p) → (has_end r.depends_on y.end || is_id_among (tx_id y.id) ids) ≡ true
        go None e d = or_first (has_end r.depends_on y.end) (is_id_among (tx_id y.id) ids) (sym (ap (λ ds. has_end ds y.end) d) ∙ known)
        go (Some id) e d =
            let n = named_by v.key id e in
            let c = or_cases (n.it.end == y.end) (has_end r.depends_on y.end) (sym (ap (λ ds. has_end ds y.end) (d ∙ ap (with_open r.depends_on) n.awaited) ∙ has_with r.depends_on n.it.end y.end) ∙ known) in
            elim c [
              | inl q ↦ or_second (has_end r.depends_on y.end) (is_id_among (tx_id y.id) ids) (
                  let a = (found_holds (λ z. z.settled ≡ false → (z.id == id.0) ≡ (z.end == n.it.end)) y.id s.stamped y m (alone s w.kept.single w.kept.sound.rising id.0 n.it n.found)).0 o in
                  let is : y.id ≡ id.0 = eqb-true y.id id.0 (a ∙ eq-eqb y.end n.it.end (sym (eqb-true n.it.end y.end q))) in
                  subst (λ (u : ℕ). is_id_among (tx_id u) ids ≡ true) (sym is) (h.each v.key id v.met e))
              | inr q ↦ or_first (has_end r.depends_on y.end) (is_id_among (tx_id y.id) ids) q
            ]

    more : (d : ℕ) → has_end r.depends_on d ≡ true → has_end (dependencies s (Scan table lo hi) r) d ≡ true
    more d e = depends_more r.depends_on (unwritten r.history (keys_for (entry_of (Scan table lo hi)) r.id s.base s.stamped)) r.id s.stamped d e

    -- one of these is a dependency
    from_these : (y : StampedTx) → preparing_of y.id s.stamped ≡ Some y → is_id_among (tx_id y.id) ids ≡ true → has_end (dependencies s (Scan table lo hi) r) y.end ≡ true
    from_these y m e =
        let u = one_among (λ id. (q : RowKey) × (is_met_at states s slots r.id table lo hi q ≡ true) × (named_at states slots lists r.id q ≡ Some id)) (tx_id y.id) ids e h.only in
        let q = u.2.0 in
        let n = named_by q u.0 u.2.2 in
        let same : n.it ≡ y = some_same n.it y (sym n.found ∙ ap (λ (i : ℕ). preparing_of i s.stamped) u.1 ∙ m) in
        let known : has_end (dependencies s (Read q) r) y.end ≡ true =
        ap (λ ds. has_end ds y.end) (by_rule (Read q) q refl ∙ ap (λ o. with_open r.depends_on (end_awaited states o)) u.2.2 ∙ ap (with_open r.depends_on) n.awaited)
        ∙ has_with r.depends_on n.it.end y.end
        ∙ or_first (n.it.end == y.end) (has_end r.depends_on y.end) (eq-eqb n.it.end y.end (ap (λ (z : StampedTx). z.end) same)) in
        written q u.2.1 known (is_some (net_write q r.history)) refl
      where
        written : (q : RowKey) → is_met_at states s slots r.id table lo hi q ≡ true → has_end (dependencies s (Read q) r) y.end ≡ true → (b : Bool) → is_some (net_write q r.history) ≡ b → has_end (dependencies s (Scan table lo hi) r) y.end ≡ true
        written q met known true g = more y.end (sym (ap (λ ds. has_end ds y.end) (written_depends s (Read q) r q refl g)) ∙ known)
        written q met known false g = by (last_writer q r.id s.stamped) refl (sym (ap (λ ds. has_end ds y.end) (key_depends s (Read q) r q refl (none_written (net_write q r.history) g))) ∙ known)
          where
            by : (o : Option StampedTx) → last_writer q r.id s.stamped ≡ o → has_end (depend_on r.depends_on o) y.end ≡ true → has_end (dependencies s (Scan table lo hi) r) y.end ≡ true
            by None l k = more y.end k
            by (Some z) l k = open' z.settled refl k
              where
                open' : (b : Bool) → z.settled ≡ b → has_end (cond b r.depends_on (with_end r.depends_on z.end)) y.end ≡ true → has_end (dependencies s (Scan table lo hi) r) y.end ≡ true
                open' true p i = more y.end i
                open' false p i = elim (or_cases (z.end == y.end) (has_end r.depends_on y.end) (sym (has_with r.depends_on z.end y.end) ∙ i)) [
                  | inl j ↦ scan_depends_all s (phases_of states) (all_versions slots) table lo hi r y.end w.versions (record { key = q; met = met; unwritten = g; writer = z; last = l; waits = p; ends = eqb-true z.end y.end j })
                  | inr j ↦ more y.end j
                ]

    just_these : (y : StampedTx) → y.settled ≡ false → preparing_of y.id s.stamped ≡ Some y → has_end (dependencies s (Scan table lo hi) r) y.end ≡ (has_end r.depends_on y.end || is_id_among (tx_id y.id) ids)
    just_these y o m = iff (has_end (dependencies s (Scan table lo hi) r) y.end) (has_end r.depends_on y.end || is_id_among (tx_id y.id) ids)
        (λ e. elim (scan_depends_only s (phases_of states) (all_versions slots) table lo hi r y.end w.kept.sound w.kept.started w.versions f e) [
          | inl q ↦ or_first (has_end r.depends_on y.end) (is_id_among (tx_id y.id) ids) q
          | inr v ↦ among_these y o m v
        ])
        (λ e. elim (or_cases (has_end r.depends_on y.end) (is_id_among (tx_id y.id) ids) e) [
          | inl q ↦ more y.end q
          | inr q ↦ from_these y m q
        ])

    scan_by_id : AreDependencies s (Scan table lo hi) r ids
    scan_by_id = record {
      preparing = each_weaker (λ id. (q : RowKey) × (is_met_at states s slots r.id table lo hi q ≡ true) × (named_at states slots lists r.id q ≡ Some id)) (λ id. IsSome (preparing_of id.0 s.stamped))
          (λ id n. subst IsSome (sym (named_by n.0 id n.2).found) refl) ids h.only;
      just = each_weaker (λ y. y.settled ≡ false → preparing_of y.id s.stamped ≡ Some y) (λ y. y.settled ≡ false → has_end (dependencies s (Scan table lo hi) r) y.end ≡ (has_end r.depends_on y.end || is_id_among (tx_id y.id) ids))
          (λ y m o. just_these y o (m o)) s.stamped (found_itself s w.kept.single);
    }

-- ---- the same, of the transaction t
pub key_named : (opening : Map) (s : State) (states : States) (slots : Slots) (lists : Lists) (places : Places) (t : ℕ) (op : Op) (r : ActiveTx) (k : RowKey) → VersionsStandFor opening s states slots lists places → active_of t s.active ≡ Some r → entry_of op ≡ Key k → AreDependencies s op r (named_ids (named_at states slots lists t k))
key_named opening s states slots lists places t op r k w f en =
    let is : r.id ≡ t = id_of t s.active r f in
    subst (λ (u : ℕ). AreDependencies s op r (named_ids (named_at states slots lists u k))) is
    (key_by_id opening s states slots lists places w r (subst (λ (u : ℕ). active_of u s.active ≡ Some r) (sym is) f) op k en)

pub scan_named : (opening : Map) (s : State) (states : States) (slots : Slots) (lists : Lists) (places : Places) (t : ℕ) (r : ActiveTx) (table lo hi : ℕ) (ids : List TxId) → VersionsStandFor opening s states slots lists places → active_of t s.active ≡ Some r → AreNamedByScan s states slots lists t table lo hi ids → AreDependencies s (Scan table lo hi) r ids
scan_named opening s states slots lists places t r table lo hi ids w f h =
    let is : r.id ≡ t = id_of t s.active r f in
    scan_by_id opening s states slots lists places w r (subst (λ (u : ℕ). active_of u s.active ≡ Some r) (sym is) f) table lo hi ids
    (subst (λ (u : ℕ). AreNamedByScan s states slots lists u table lo hi ids) (sym is) h)
