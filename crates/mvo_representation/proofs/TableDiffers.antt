-- How transactions stand after each call of the table.
use Rattle.std.proofs.Common.{◌≡◌, ℕ, ◌+◌, Option, None, Some, refl, sym, ap, ◌∙◌, ◌⊎◌, inl, inr}
use Rattle.std.specs.Option.{option_map}
use Rattle.std.specs.FinMap.{get, insert}
use Rattle.std.proofs.lemmas.Bool.{cases_eq}
use Rattle.mvo_txn.specs.declared.table_seat.TableSeat.{TableSeat}
use Rattle.mvo_txn.specs.declared.state.TxState.{TxState}
use Rattle.mvo_txn.specs.declared.state.TxState.TheVariants.{Active, Preparing}
use Rattle.mvo_txn.specs.Seats.{state_in, with_kept_at}
use Rattle.mvo_txn.specs.Txns.{Txns, state_of, table_after_begin, table_after_prepare, table_after_change, table_after_write, after_terminate}
use Rattle.mvo_txn.proofs.Stamps.{get_inserted, get_beside, get_removed, get_left}
use Rattle.mvo_deps.proofs.Looks.{state_restated, state_now}
use Rattle.mvo_visible.specs.Fronts.{DifferAt}

module _ {P : Type 0} where
  pub begin_differs : (t : Txns P) (kept : P) → DifferAt (t.clock + 1) (state_of t) (state_of (table_after_begin t kept)) × (state_of (table_after_begin t kept) (t.clock + 1) ≡ Some Active)
  begin_differs t kept = (
    λ u other. ap (option_map (λ seat. seat.state)) (get_beside t.seats (t.clock + 1) (record { state = Active; kept = kept }) u other),
    ap (option_map (λ seat. seat.state)) (get_inserted t.seats (t.clock + 1) (record { state = Active; kept = kept })),
  )

  pub draw_differs : (t : Txns P) (id : ℕ) (old : TxState) → state_of t id ≡ Some old → DifferAt id (state_of t) (state_of (table_after_prepare t id)) × (state_of (table_after_prepare t id) id ≡ Some (Preparing (record { 0 = t.clock + 1 })))
  draw_differs t id old was = (state_restated t.seats id (Preparing (record { 0 = t.clock + 1 })), state_now t.seats id (Preparing (record { 0 = t.clock + 1 })) old id refl was)

  -- a commit, and an abort
  pub change_differs : (t : Txns P) (id : ℕ) (state old : TxState) → state_of t id ≡ Some old → DifferAt id (state_of t) (state_of (table_after_change t id state)) × (state_of (table_after_change t id state) id ≡ Some state)
  change_differs t id state old was = (state_restated t.seats id state, state_now t.seats id state old id refl was)

  pub leaving_differs : (t : Txns P) (id : ℕ) → DifferAt id (state_of t) (state_of (after_terminate t id)) × (state_of (after_terminate t id) id ≡ None)
  leaving_differs t id = (λ u other. ap (option_map (λ seat. seat.state)) (get_left t.seats id u other), ap (option_map (λ seat. seat.state)) (get_removed t.seats id))

  -- what is kept of one changes nothing
  pub write_same : (t : Txns P) (id : ℕ) (kept : P) (u : ℕ) → state_of (table_after_write t id kept) u ≡ state_of t u
  write_same t id kept u = go (get t.seats id) refl
    where
      by : (seat : TableSeat P) → get t.seats id ≡ Some seat → (u ≡ id) ⊎ (u ≡ id → ⊥) → state_in (insert t.seats id (record seat { kept = kept })) u ≡ state_in t.seats u
      by seat e (inl same) =
          ap (state_in (insert t.seats id (record seat { kept = kept }))) same
          ∙ ap (option_map (λ s. s.state)) (get_inserted t.seats id (record seat { kept = kept }))
          ∙ sym (ap (state_in t.seats) same ∙ ap (option_map (λ s. s.state)) e)
      by seat e (inr other) = ap (option_map (λ s. s.state)) (get_beside t.seats id (record seat { kept = kept }) u other)

      go : (o : Option (TableSeat P)) → get t.seats id ≡ o → state_in (with_kept_at o t.seats id kept) u ≡ state_in t.seats u
      go None e = refl
      go (Some seat) e = by seat e (cases_eq u id)
