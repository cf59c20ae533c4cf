-- What an operation on a key depends on, by words.
use Rattle.std.proofs.Common.{◌≡◌, ℕ, true, cond, not, List, [], ◌∷◌, None, Some, sym, ap, ◌∙◌}
use Rattle.std.specs.Prelude.{is_some}
use Rattle.mvo_types.specs.declared.row.RowKey.{RowKey}
use Rattle.mvo_types.specs.declared.op.Op.{Op}
use Rattle.mvo_types.specs.Keys.{Map}
use Rattle.mvo_model.specs.History.{net_write}
use Rattle.mvo_types.specs.declared.entry.Entry.{Entry}
use Rattle.mvo_theory.specs.Entries.{entry_of}
use Rattle.mvo_types.specs.declared.entry.Entry.TheVariants.{Key}
use Rattle.mvo_theory.specs.State.{State, ActiveTx, active_of}
use Rattle.mvo_theory.specs.Dependencies.{last_writer, depend_on, depend_on_all, keys_for, unwritten, dependencies}
use Rattle.mvo_shared.specs.Standing.{IsStanding}
use Rattle.mvo_word.specs.declared.held.Held.{Held}
use Rattle.mvo_chain.specs.declared.version.Version.{Version}
use Rattle.mvo_representation.specs.Words.{Phases, NetEffect, ends_of, stamp_in, open_in, with_open, change_below}
use Rattle.mvo_representation.specs.Versions.{IsKnown, AreVersionsOf}
use Rattle.mvo_representation.proofs.Shown.{active_begins}
use Rattle.mvo_representation.proofs.Open.{depends_right}

-- of a key that it has written it depends on nobody more
pub written_depends : (s : State) (op : Op) (r : ActiveTx) (k : RowKey) → entry_of op ≡ Key k → is_some (net_write k r.history) ≡ true → dependencies s op r ≡ r.depends_on
written_depends s op r k e w =
    ap (λ (x : Entry). depend_on_all r.depends_on (unwritten r.history (keys_for x r.id s.base s.stamped)) r.id s.stamped) e
    ∙ ap (λ b. depend_on_all r.depends_on (cond (not b) (k ∷ []) []) r.id s.stamped) w

pub key_depends : (s : State) (op : Op) (r : ActiveTx) (k : RowKey) → entry_of op ≡ Key k → net_write k r.history ≡ None → dependencies s op r ≡ depend_on r.depends_on (last_writer k r.id s.stamped)
key_depends s op r k e w =
    ap (λ (x : Entry). depend_on_all r.depends_on (unwritten r.history (keys_for x r.id s.base s.stamped)) r.id s.stamped) e
    ∙ ap (λ o. depend_on_all r.depends_on (cond (not (is_some o)) (k ∷ []) []) r.id s.stamped) w

-- otherwise on the Preparing one that a word with the deciding stamp names
pub read_depends : (opening : Map) (s : State) (table : Phases) (vs : List Version) (op : Op) (r : ActiveTx) (k : RowKey) (w : Held) (p : ℕ × NetEffect) → IsStanding opening s → AreVersionsOf s table vs → active_of r.id s.active ≡ Some r → entry_of op ≡ Key k → net_write k r.history ≡ None → IsKnown s table w → change_below (ends_of table) r.id k vs ≡ Some p → stamp_in (ends_of table) w ≡ Some p.0 → dependencies s op r ≡ with_open r.depends_on (open_in table w)
read_depends opening s table vs op r k w p kept h f e n known c at =
    key_depends s op r k e n ∙ sym (depends_right s table vs r.id k r.depends_on kept.sound kept.started h (active_begins s table vs r.id r kept.sound h f) w known p c at)
