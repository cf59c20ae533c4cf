-- Up to the start all are settled: each step keeps that.
use Rattle.std.proofs.Common.{ℕ, ◌<◌, ◌≤◌, Bool, not, [], ◌∷◌, map, arith}
use Rattle.std.specs.Prelude.{◌==◌}
use Rattle.std.specs.List.{filter}
use Rattle.mvo_types.specs.declared.op.Op.{Op}
use Rattle.mvo_types.specs.Keys.{Map}
use Rattle.mvo_types.specs.AnswerData.{AnswerData}
use Rattle.mvo_theory.specs.State.{State, StampedTx, ActiveTx, opened}
use Rattle.mvo_theory.specs.Changes.{new_active, after_begin, after_operation, with_answer, after_prepare, to_stamped, after_check, with_check, after_commit, with_settled, with_flag, active_with_flag, not_at, after_abort_of_active, after_abort_of_preparing, after_termination}
use Rattle.mvo_theory.specs.Sound.{IsStarted}
use Rattle.mvo_theory.proofs.Each.{each_append, each_map}
use Rattle.mvo_theory.proofs.Stamped.{each_part}

pub started_opened : (rows : Map) (mark : ℕ) → IsStarted (opened rows mark)
started_opened rows mark = record { past = tt; rising = tt; later = tt; drawn = omega arith; opened = omega arith; after = tt; begun = tt }

pub started_after_begin : (s : State) (t : ℕ) → s.clock < t → IsStarted s → IsStarted (after_begin s t)
started_after_begin s t lt h = let d = h.drawn in record {
  past = h.past;
  rising = h.rising;
  later = h.later;
  drawn = omega arith;
  opened = h.opened;
  after = h.after;
  begun = each_append (λ r. s.start ≤ r.id) s.active (new_active t ∷ []) h.begun (omega arith, tt);
}

pub started_after_operation : (s : State) (t : ℕ) (op : Op) (a : AnswerData) → IsStarted s → IsStarted (after_operation s t op a)
started_after_operation s t op a h = record { past = h.past; rising = h.rising; later = h.later; drawn = h.drawn; opened = h.opened; after = h.after; begun = each_map (with_answer s t op a) (λ r. s.start ≤ r.id) (λ r. s.start ≤ r.id) (λ r q. q) s.active h.begun }

pub started_after_prepare : (s : State) (r : ActiveTx) (e : ℕ) → s.clock < e → IsStarted s → IsStarted (after_prepare s r e)
started_after_prepare s r e lt h = let d = h.drawn in record {
  past = h.past;
  rising = h.rising;
  later = each_append (λ x. s.start < x.end) s.stamped (to_stamped e r ∷ []) h.later (omega arith, tt);
  drawn = omega arith;
  opened = h.opened;
  after = h.after;
  begun = each_part (λ q. not (q.id == r.id)) (λ q. s.start ≤ q.id) s.active h.begun;
}

-- a change of each that keeps the ends
pub started_map : (s : State) (f : StampedTx → StampedTx) → ((x : StampedTx) → s.start < x.end → s.start < (f x).end) → IsStarted s → IsStarted (record s { stamped = map f s.stamped })
started_map s f g h = record { past = h.past; rising = h.rising; later = each_map f (λ x. s.start < x.end) (λ x. s.start < x.end) g s.stamped h.later; drawn = h.drawn; opened = h.opened; after = h.after; begun = h.begun }

pub started_after_check : (s : State) (e : ℕ) (v : Bool) → IsStarted s → IsStarted (after_check s e v)
started_after_check s e v h = started_map s (with_check e v) (λ x q. q) h

pub started_after_commit : (s : State) (t e : ℕ) → IsStarted s → IsStarted (after_commit s t e)
started_after_commit s t e h =
    let q = started_map s (with_settled e) (λ x g. g) h in
    record { past = q.past; rising = q.rising; later = q.later; drawn = q.drawn; opened = q.opened; after = q.after; begun = q.begun }

pub started_after_abort_of_active : (s : State) (t : ℕ) → IsStarted s → IsStarted (after_abort_of_active s t)
started_after_abort_of_active s t h = record { past = h.past; rising = h.rising; later = h.later; drawn = h.drawn; opened = h.opened; after = h.after; begun = each_part (λ r. not (r.id == t)) (λ r. s.start ≤ r.id) s.active h.begun }

pub started_after_abort_of_preparing : (s : State) (t e : ℕ) → IsStarted s → IsStarted (after_abort_of_preparing s t e)
started_after_abort_of_preparing s t e h = record {
  past = h.past;
  rising = h.rising;
  later = each_map (with_flag t e) (λ x. s.start < x.end) (λ x. s.start < x.end) (λ x q. q) (filter (not_at e) s.stamped) (each_part (not_at e) (λ x. s.start < x.end) s.stamped h.later);
  drawn = h.drawn;
  opened = h.opened;
  after = h.after;
  begun = each_map (active_with_flag t e) (λ r. s.start ≤ r.id) (λ r. s.start ≤ r.id) (λ r q. q) s.active h.begun;
}

pub started_after_termination : (s : State) (t : ℕ) → IsStarted s → IsStarted (after_termination s t)
started_after_termination s t h = record { past = h.past; rising = h.rising; later = h.later; drawn = h.drawn; opened = h.opened; after = h.after; begun = h.begun }
