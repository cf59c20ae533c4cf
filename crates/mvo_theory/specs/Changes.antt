-- The steps on the state.
use Rattle.std.specs.Prelude.{ℕ, ◌+◌, ◌==◌, nat_le, Bool, false, not, ◌||◌, if◌then◌else◌, List, [], ◌∷◌, ◌++◌, map, filter, Option, None, Some}
use Rattle.mvo_types.specs.declared.op.Op.{Op}
use Rattle.mvo_types.specs.Keys.{Map}
use Rattle.mvo_types.specs.AnswerData.{AnswerData}
use Rattle.mvo_model.specs.History.{after_history, write_of}
use Rattle.mvo_theory.specs.Ranges.{changed_by}
use Rattle.mvo_theory.specs.State.{State, ActiveTx, StampedTx, EndedTx, Claim, Word, after_settled, seen_by}
use Rattle.mvo_theory.specs.Dependencies.{has_end, dependencies}
use Rattle.mvo_theory.specs.Claims.{ended_key, claims_with, new_claim}
use Rattle.mvo_theory.specs.Words.{words_now, words_without, words_left, is_done}
use Rattle.mvo_theory.specs.State.Outcome.{Committed, Aborted}

-- ---- begin
abbrev pub new_active : ℕ → ActiveTx
new_active t = record {
  id = t;
  history = [];
  footprint = [];
  claims = [];
  depends_on = [];
  aborted_dependency = None;
}

abbrev pub after_begin : State → ℕ → State
after_begin s t = record s { clock = t; active = s.active ++ new_active t ∷ [] }

-- ---- an operation
-- the rows that the transaction r sees, its own writes included
abbrev pub seen_now : State → ActiveTx → Map
seen_now s r = after_history r.history (seen_by s.base s.stamped r.id)

-- the transaction r after the answer, if it is t
abbrev pub with_answer : State → ℕ → Op → AnswerData → ActiveTx → ActiveTx
with_answer s t op a r = record {
  id = r.id;
  history = if r.id == t then r.history ++ (op, a) ∷ [] else r.history;
  footprint =
      if r.id == t
      then r.footprint ++ changed_by (write_of op a) (seen_now s r)
      else r.footprint;
  claims = if r.id == t then claims_with s r (ended_key op a) else r.claims;
  depends_on = if r.id == t then dependencies s op r else r.depends_on;
  aborted_dependency = r.aborted_dependency;
}

-- the Active transaction t got the answer
abbrev pub after_operation : State → ℕ → Op → AnswerData → State
after_operation s t op a = record s { active = map (with_answer s t op a) s.active }

-- these words are left to the ended ones
abbrev pub with_words : (EndedTx → List Word) → State → State
with_words f s = record s { ended = map {A = EndedTx} (λ u. record u { words = f u }) s.ended }

-- the claim takes the End of the version over, if it was an aborted one's
abbrev pub taken_over : Option Claim → State → State
taken_over None s = s
taken_over (Some c) s = with_words (λ u. words_without c u.outcome u.words) s

-- the state after the answer
abbrev pub after_answer : State → ℕ → Op → AnswerData → State
after_answer s t op a = taken_over (new_claim s t op a) (after_operation s t op a)

-- ---- precommit, validation and commit
abbrev pub without_id : ℕ → List ActiveTx → List ActiveTx
without_id t rs = filter (λ r. not (r.id == t)) rs

abbrev pub to_stamped : ℕ → ActiveTx → StampedTx
to_stamped e r = record {
  id = r.id;
  end = e;
  history = r.history;
  footprint = r.footprint;
  claims = r.claims;
  settled = false;
  checked = 0;
  valid = false;
  depends_on = r.depends_on;
  aborted_dependency = r.aborted_dependency;
}

-- the Active transaction r is Preparing, with the end e
abbrev pub after_prepare : State → ActiveTx → ℕ → State
after_prepare s r e = record s {
  clock = e;
  active = without_id r.id s.active;
  stamped = s.stamped ++ to_stamped e r ∷ [];
}

abbrev pub with_check : ℕ → Bool → StampedTx → StampedTx
with_check e v x = record x {
  checked = if x.end == e then x.checked + 1 else x.checked;
  valid = if x.end == e then v else x.valid;
}

-- one more entry of the one with the end e was checked, and all of them or not
abbrev pub after_check : State → ℕ → Bool → State
after_check s e v = record s { stamped = map (with_check e v) s.stamped }

abbrev pub with_settled : ℕ → StampedTx → StampedTx
with_settled e x = record x {
  settled = x.settled || (x.end == e);
  checked = if x.end == e then 0 else x.checked;
}

abbrev pub committed_tx : ℕ → ℕ → List Word → EndedTx
committed_tx t e ws = record { id = t; outcome = Committed e; words = ws }

-- the Preparing transaction t, with the end e, is Committed
abbrev pub after_commit : State → ℕ → ℕ → State
after_commit s t e = record s {
  stamped = map (with_settled e) s.stamped;
  ended = s.ended ++ committed_tx t e (words_now s t) ∷ [];
}

-- ---- abort
-- the first aborted one of those that it depends on, after t with the end e was aborted
abbrev pub aborted_dependency_after : ℕ → ℕ → List ℕ → Option ℕ → Option ℕ
aborted_dependency_after t e depends_on None = if has_end depends_on e then Some t else None
aborted_dependency_after t e depends_on (Some u) = Some u

abbrev pub with_flag : ℕ → ℕ → StampedTx → StampedTx
with_flag t e x = record x {
  aborted_dependency = aborted_dependency_after t e x.depends_on x.aborted_dependency;
}

abbrev pub active_with_flag : ℕ → ℕ → ActiveTx → ActiveTx
active_with_flag t e r = record r {
  aborted_dependency = aborted_dependency_after t e r.depends_on r.aborted_dependency;
}

abbrev pub not_at : ℕ → StampedTx → Bool
not_at e x = not (x.end == e)

abbrev pub aborted_tx : ℕ → List Word → EndedTx
aborted_tx t ws = record { id = t; outcome = Aborted; words = ws }

-- the Active transaction t is Aborted: none depends on it
abbrev pub after_abort_of_active : State → ℕ → State
after_abort_of_active s t = record s {
  active = without_id t s.active;
  ended = s.ended ++ aborted_tx t (words_now s t) ∷ [];
}

-- the Preparing transaction t, with the end e, is Aborted: those that depend on it are flagged
abbrev pub after_abort_of_preparing : State → ℕ → ℕ → State
after_abort_of_preparing s t e = record s {
  active = map (active_with_flag t e) s.active;
  stamped = map (with_flag t e) (filter (not_at e) s.stamped);
  ended = s.ended ++ aborted_tx t (words_now s t) ∷ [];
}

-- ---- finishing
-- the first with this id is taken out
abbrev pub without_ended : ℕ → List EndedTx → List EndedTx
without_ended t [] = []
without_ended t (u ∷ us) = if u.id == t then us else u ∷ without_ended t us

-- the ended transaction t is Terminated
abbrev pub after_termination : State → ℕ → State
after_termination s t = record s { ended = without_ended t s.ended }

-- one word is replaced: the last one ends it
abbrev pub after_finish : State → ℕ → State
after_finish s t = if is_done s t then after_termination s t else with_words (words_left t) s

-- ---- trimming the tale, and closing a group
-- the settled ones that end at most at m move into the base
abbrev pub is_to : ℕ → StampedTx → Bool
is_to m x = nat_le x.end m

abbrev pub after_trim : State → ℕ → State
after_trim s m = record s {
  start = m;
  base = after_settled (filter (is_to m) s.stamped) s.base;
  past = s.past ++ filter (is_to m) s.stamped;
  stamped = filter (λ x. not (is_to m x)) s.stamped;
}

-- a group with this mark was closed
abbrev pub after_close : State → ℕ → State
after_close s mark = record s { marks = record { opening = s.marks.opening; closed = mark } }
