-- What a word says by the rules is what it says by the phases.
use Rattle.std.proofs.Common.{◌≡◌, ℕ, Bool, false, cond, Option, None, Some, refl, ap, ◌∙◌}
use Rattle.mvo_types.specs.declared.ids.TxId.{TxId}
use Rattle.mvo_txn.specs.declared.state.TxState.{TxState}
use Rattle.mvo_txn.specs.declared.state.TxState.TheVariants.{Active, Preparing, Committed, Aborted}
use Rattle.mvo_word.specs.declared.held.Held.{Held}
use Rattle.mvo_word.specs.declared.held.Held.TheVariants.{At, By, Infinity}
use Rattle.mvo_visible.specs.declared.seen.Seen.{Seen}
use Rattle.mvo_visible.specs.declared.seen.Seen.TheVariants.{Nothing, Settled, Speculative}
use Rattle.mvo_visible.specs.Words.{States, seen_in, seen_of, names}
use Rattle.mvo_visible.specs.Changes.{is_at}
use Rattle.mvo_visible.specs.Causes as rule
use Rattle.mvo_representation.specs.Words.{ends_of, end_in, is_stamp, has_stamp, open_end_in, open_in, cause_of_phase, cause_at_end}
use Rattle.mvo_representation.specs.Table.{phase_as, phases_of, end_awaited}

-- ---- the stamp
at_in : (s : ℕ) (t : TxId) (o : Option TxState) → is_at s (seen_in t o) ≡ is_stamp s (end_in (phase_as o))
at_in s t None = refl
at_in s t (Some Active) = refl
at_in s t (Some (Preparing e)) = refl
at_in s t (Some (Committed e)) = refl
at_in s t (Some Aborted) = refl

pub seen_at : (states : States) (s : ℕ) (w : Held) → is_at s (seen_of states w) ≡ has_stamp (ends_of (phases_of states)) s w
seen_at states s (At e) = refl
seen_at states s (By t) = at_in s t (states t.0)
seen_at states s Infinity = refl

-- ---- the Preparing transaction that it names
abbrev pub owner_in : Seen → Option TxId
owner_in Nothing = None
owner_in (Settled s) = None
owner_in (Speculative s t) = Some t

owner_by : (states : States) (t : TxId) (o : Option TxState) → states t.0 ≡ o → end_awaited states (owner_in (seen_in t o)) ≡ open_end_in (phase_as o)
owner_by states t None e = refl
owner_by states t (Some Active) e = refl
owner_by states t (Some (Preparing n)) e = ap (λ o. open_end_in (phase_as o)) e
owner_by states t (Some (Committed n)) e = refl
owner_by states t (Some Aborted) e = refl

pub seen_owner : (states : States) (w : Held) → end_awaited states (owner_in (seen_of states w)) ≡ open_in (phases_of states) w
seen_owner states (At e) = refl
seen_owner states (By t) = owner_by states t (states t.0) refl
seen_owner states Infinity = refl

-- ---- the cause of a conflict, of a word that doesn't name the writer
cause_by : (t : TxId) (o : Option TxState) → rule.cause_in t o ≡ cause_of_phase t.0 (phase_as o)
cause_by t None = refl
cause_by t (Some Active) = refl
cause_by t (Some (Preparing e)) = refl
cause_by t (Some (Committed e)) = refl
cause_by t (Some Aborted) = refl

pub cause_same : (states : States) (writer : ℕ) (w : Held) → names writer w ≡ false → rule.cause_of states writer w ≡ cause_at_end (phases_of states) w
cause_same states writer (At s) n = refl
cause_same states writer (By t) n = ap (λ (b : Bool). cond b None (rule.cause_in t (states t.0))) n ∙ cause_by t (states t.0)
cause_same states writer Infinity n = refl
