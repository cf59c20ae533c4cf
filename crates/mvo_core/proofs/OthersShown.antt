-- What others show a transaction in a range, place by place.
use Rattle.std.proofs.Common.{◌≡◌, ℕ, ◌+◌, Bool, true, false, cond, List, [], ◌∷◌, ◌++◌, append-nil, append_assoc, length, Option, None, Some, refl, sym, ap, ◌∙◌, subst, arith}
use Rattle.std.specs.Prelude.{◌==◌, not, filter}
use Rattle.std.specs.Option.{option_to_list, option_map}
use Rattle.std.proofs.lemmas.Bool.{true≢false, eqb-true}
use Rattle.mvo_types.specs.declared.op.Op.TheVariants.{Scan}
use Rattle.mvo_types.specs.declared.entry.Entry.TheVariants.{Range}
use Rattle.mvo_types.specs.declared.row.RowKey.{RowKey}
use Rattle.mvo_types.specs.RowData.{RowData}
use Rattle.mvo_types.specs.Keys.{Map}
use Rattle.mvo_model.specs.History.{History}
use Rattle.mvo_model.specs.Serial.{scan}
use Rattle.mvo_model.specs.Trace.{Step}
use Rattle.mvo_theory.specs.Entries.{written_keys}
use Rattle.mvo_theory.specs.State.{State, active_of, snapshot, seen_by}
use Rattle.mvo_theory.proofs.Who.{id_of}
use Rattle.mvo_chain.specs.declared.version.Version.{Version}
use Rattle.mvo_chain.specs.declared.version.VersionNo.{VersionNo}
use Rattle.mvo_chain.specs.Slots.{Slots, version_at}
use Rattle.mvo_range.specs.declared.sort_place.SortPlace.{SortPlace}
use Rattle.mvo_range.specs.Place.{is_between}
use Rattle.mvo_txn.specs.Txns.{Txns, state_of}
use Rattle.mvo_deps.specs.declared.node.Node.{Node}
use Rattle.mvo_visible.specs.declared.outcome.Shown.{Shown}
use Rattle.mvo_visible.specs.Words.{States}
use Rattle.mvo_visible.specs.Versions.{versions_at}
use Rattle.mvo_visible.specs.Shown.{AreVersionsInOrder, shown_to}
use Rattle.mvo_validate.specs.Entries.{key_at}
use Rattle.mvo_representation.proofs.OrderFalls.{order_falls}
use Rattle.mvo_versions.specs.Data.{VersionsData}
use Rattle.mvo_content.specs.Shown.{AreRowsOf}
use Rattle.mvo_content.specs.Works.{works_in}
use Rattle.mvo_content.proofs.Fitting.{shown_fits}
use Rattle.mvo_standing.specs.Scans.{ShownAtKeys, row_if_sorted, sorted_row_of, row_at_sort_place, rows_of_places, places_of_range, others_shown}
use Rattle.mvo_standing.proofs.Absent.{shown_others, none_in_front}
use Rattle.mvo_standing.proofs.Others.{others_scanned}
use Rattle.mvo_standing.proofs.Telling.{shows_others_range}
use Rattle.mvo_core.specs.declared.kept_transaction.KeptTransaction.{KeptTransaction}
use Rattle.mvo_core.specs.Readers.{Readers}
use Rattle.mvo_core.specs.Data.{CoreData}
use Rattle.mvo_core.specs.Own.{has_writes, done_in}
use Rattle.mvo_core.specs.Others.{shown_as_of, AreOthersFor, AreOthersShown}
use Rattle.mvo_core.specs.Scanning.{row_at_sort, row_with_sort}
use Rattle.mvo_core.specs.Standing.{StandsAmong}
use Rattle.mvo_core.proofs.Begun.{fresh_state}
use Rattle.mvo_core.proofs.Looked.{IsActiveHere}
use Rattle.mvo_core.proofs.Scanned.{firsts}

-- ---- one place more
-- the row with this sort
row_sorted : (sort : ℕ) (o : Option Version) → row_at_sort sort o ≡ row_if_sorted sort o
row_sorted sort None = refl
row_sorted sort (Some v) = refl

row_numbered : (slots : Slots) (sort : ℕ) (o : Option VersionNo) → row_with_sort slots sort o ≡ sorted_row_of slots sort o
row_numbered slots sort None = refl
row_numbered slots sort (Some n) = row_sorted sort (version_at slots n)

firsts_more : (es : List (SortPlace × ℕ)) (e : SortPlace × ℕ) → firsts (es ++ e ∷ []) ≡ firsts es ++ e.0 ∷ []
firsts_more [] e = refl
firsts_more (x ∷ xs) e = ap (λ ys. x.0 ∷ ys) (firsts_more xs e)

module _ (slots : Slots) (shown : ShownAtKeys) where
  rows_more : (ps : List SortPlace) (p : SortPlace) → rows_of_places slots shown (ps ++ p ∷ []) ≡ rows_of_places slots shown ps ++ option_to_list (row_at_sort_place slots shown p)
  rows_more [] p = append-nil (option_to_list (row_at_sort_place slots shown p))
  rows_more (q ∷ qs) p = ap (λ xs. option_to_list (row_at_sort_place slots shown q) ++ xs) (rows_more qs p) ∙ sym (append_assoc (option_to_list (row_at_sort_place slots shown q)) (rows_of_places slots shown qs) (option_to_list (row_at_sort_place slots shown p)))

module _ (states : States) (vs : VersionsData) (b reader : ℕ) where
  -- as far as these places
  abbrev pub AreSoFar : List (SortPlace × ℕ) → List RowData → Type 0
  AreSoFar es rows =
      ((k : RowKey) → AreVersionsInOrder states b reader (versions_at vs.slots vs.lists k))
      → rows ≡ rows_of_places vs.slots (shown_as_of states vs b reader) (firsts es)

  -- and with one more, where the walk shows what the rules say
  pub so_far_with : (es : List (SortPlace × ℕ)) (e : SortPlace × ℕ) (rows more : List RowData) (found : Shown) (row : Option RowData)
      → (AreVersionsInOrder states b reader (versions_at vs.slots vs.lists (key_at e.0)) → found ≡ shown_to states b reader (versions_at vs.slots vs.lists (key_at e.0)))
      → row ≡ row_with_sort vs.slots e.0.sort found.version → more ≡ rows ++ option_to_list row → AreSoFar es rows → AreSoFar (es ++ e ∷ []) more
  so_far_with es e rows more found row is told all h order =
      all
      ∙ ap (λ xs. xs ++ option_to_list row) (h order)
      ∙ ap (λ o. rows_of_places vs.slots (shown_as_of states vs b reader) (firsts es) ++ option_to_list o)
      (told ∙ ap (λ (x : Shown). row_with_sort vs.slots e.0.sort x.version) (is (order (key_at e.0))) ∙ row_numbered vs.slots e.0.sort (shown_as_of states vs b reader (key_at e.0)))
      ∙ sym (rows_more vs.slots (shown_as_of states vs b reader) (firsts es) e.0)
      ∙ ap (rows_of_places vs.slots (shown_as_of states vs b reader)) (sym (firsts_more es e))

denied : (b : Bool) → not b ≡ false → b ≡ true
denied true e = refl
denied false e = absurd (true≢false e)

-- ---- they are the scan of what others show
module _ (rs : Readers) (opening : Map) (steps : List Step) (s : State) (c : CoreData) (h : StandsAmong rs opening steps s c) (t : ℕ) (here : IsActiveHere s c t) (of lo hi : ℕ) where
  nobody : ℕ
  nobody = c.table.clock + 1

  absent : state_of c.table (c.table.clock + 1) ≡ None
  absent = fresh_state rs opening steps s c h

  in_order : (k : RowKey) → AreVersionsInOrder (state_of c.table) t (c.table.clock + 1) (versions_at c.versions.slots c.versions.lists k)
  in_order k = record {
    falling = order_falls opening s (state_of c.table) c.versions.slots c.versions.lists c.versions.places h.versions h.order k;
    own = none_in_front opening s (state_of c.table) c.versions.slots c.versions.lists c.versions.places (c.table.clock + 1) t k h.versions absent;
  }

  as_others : shown_as_of (state_of c.table) c.versions t (c.table.clock + 1) ≡ others_shown (state_of c.table) c.versions.slots c.versions.lists t
  as_others = λ i k. (shown_others opening s (state_of c.table) c.versions.slots c.versions.lists c.versions.places (c.table.clock + 1) t k h.versions absent i).version

  scanned : rows_of_places c.versions.slots (others_shown (state_of c.table) c.versions.slots c.versions.lists t) (places_of_range c.versions.places of lo hi) ≡ scan (seen_by s.base s.stamped t) of lo hi
  scanned =
      let id : here.tx.id ≡ t = id_of t s.active here.tx here.found in
      subst (λ (n : ℕ). rows_of_places c.versions.slots (others_shown (state_of c.table) c.versions.slots c.versions.lists n) (places_of_range c.versions.places of lo hi) ≡ scan (seen_by s.base s.stamped n) of lo hi) id
      (others_scanned s (state_of c.table) c.versions.slots c.versions.lists c.versions.places here.tx h.versions.kept.sound h.versions.kept.started h.versions.versions h.versions.numbers h.versions.order
      (ap (λ (n : ℕ). active_of n s.active) id ∙ here.found) of lo hi)

  -- who has written nothing, has no written key
  none_written : has_writes (done_in c.works t) ≡ false → written_keys (works_in c.works t).history ≡ []
  none_written e = no_keys (written_keys (works_in c.works t).history) e
    where
      no_keys : (ks : List RowKey) → not (length ks == 0) ≡ false → ks ≡ []
      no_keys [] f = refl
      no_keys (k ∷ ks) f = let n = eqb-true (length (k ∷ ks)) 0 (denied (length (k ∷ ks) == 0) f) in absurd (omega (arith, n))

  module _ (ts : History) (same : ts ≡ done_in c.works t) (rows others : List RowData) (own : rows ≡ scan (snapshot s t) of lo hi) (o : AreOthersShown ts c.table c.versions t of lo hi rows others) where
    pub others_are : others ≡ scan (seen_by s.base s.stamped t) of lo hi
    others_are = go (has_writes ts) refl o
      where
        go : (b : Bool) → has_writes ts ≡ b → AreOthersFor b c.table c.versions t of lo hi rows others → others ≡ scan (seen_by s.base s.stamped t) of lo hi
        go true e w = w in_order ∙ ap (λ (shown : ShownAtKeys). rows_of_places c.versions.slots shown (places_of_range c.versions.places of lo hi)) as_others ∙ scanned
        go false e w = w ∙ own ∙ shows_others_range opening steps s h.beside.given (works_in c.works) h.beside.together t here.tx of lo hi here.found (none_written (ap has_writes (sym same) ∙ e))

    -- so they can be the rows of the range
    pub others_fit : AreRowsOf (Range of lo hi) others
    others_fit = subst (AreRowsOf (Range of lo hi)) (sym others_are) (shown_fits (Range of lo hi) (seen_by s.base s.stamped t))
