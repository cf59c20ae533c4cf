-- Finishing and the closed mark change nothing that a core keeps.
use Rattle.std.proofs.Common.{◌≡◌, ℕ, ◌≤◌, ◌+◌, Bool, true, false, cond, List, [], ◌∷◌, Option, None, Some, map, refl, sym, ap, ◌∙◌, arith}
use Rattle.std.specs.Prelude.{◌==◌}
use Rattle.mvo_types.specs.Keys.{Map}
use Rattle.mvo_model.specs.Trace.{Step}
use Rattle.mvo_theory.specs.State.{State, ActiveTx, StampedTx, EndedTx, Word, Claim, active_of, preparing_of, ended_of, is_ended_as}
use Rattle.mvo_theory.specs.Changes.{with_words, taken_over, after_close}
use Rattle.mvo_theory.specs.Words.{words_without}
use Rattle.mvo_theory.specs.Phases.{phase_by}
use Rattle.mvo_theory.specs.Sound.{IsSingle, how_many}
use Rattle.mvo_theory.specs.Calls.{IsKept}
use Rattle.mvo_theory.proofs.Each.{each_map}

-- ---- other words for the ended ones
abbrev pub worded : (EndedTx → List Word) → EndedTx → EndedTx
worded f u = record u { words = f u }

same_ended : (f : EndedTx → List Word) (a : Option ActiveTx) (b : Option StampedTx) (u : EndedTx) → phase_by a b (Some (worded f u)) ≡ phase_by a b (Some u)
same_ended f (Some r) b u = refl
same_ended f None (Some x) u = refl
same_ended f None None u = refl

pub phase_worded : (f : EndedTx → List Word) (t : ℕ) (a : Option ActiveTx) (b : Option StampedTx) (us : List EndedTx) → phase_by a b (ended_of t (map (worded f) us)) ≡ phase_by a b (ended_of t us)
phase_worded f t a b [] = refl
phase_worded f t a b (u ∷ us) = go (u.id == t) (phase_worded f t a b us)
  where
    go : (c : Bool) → phase_by a b (ended_of t (map (worded f) us)) ≡ phase_by a b (ended_of t us) → phase_by a b (cond c (Some (worded f u)) (ended_of t (map (worded f) us))) ≡ phase_by a b (cond c (Some u) (ended_of t us))
    go true e = same_ended f a b u
    go false e = e

count_worded : (f : EndedTx → List Word) (t : ℕ) (us : List EndedTx) → how_many (is_ended_as t) (map (worded f) us) ≡ how_many (is_ended_as t) us
count_worded f t [] = refl
count_worded f t (u ∷ us) = ap (λ (n : ℕ). cond (u.id == t) 1 0 + n) (count_worded f t us)

single_worded : (f : EndedTx → List Word) (s : State) → IsSingle s → IsSingle (with_words f s)
single_worded f s h = record {
  once = λ t. let c = count_worded f t s.ended in let o = h.once t in omega arith;
  drawn = each_map (worded f) (λ u. u.id ≤ s.clock) (λ u. u.id ≤ s.clock) (λ u q. q) s.ended h.drawn;
}

pub kept_worded : (opening : Map) (xs : List Step) (s : State) (f : EndedTx → List Word) → IsKept opening xs s → IsKept opening xs (with_words f s)
kept_worded opening xs s f h = record {
  sound = record { legal = h.sound.legal; rising = h.sound.rising; clear = h.sound.clear; placed = h.sound.placed; preparing = h.sound.preparing; active = h.sound.active };
  numbered = record { distinct = h.numbered.distinct; apart = h.numbered.apart; before = h.numbered.before };
  single = single_worded f s h.single;
  exclusive = h.exclusive;
  started = record { past = h.started.past; rising = h.started.rising; later = h.started.later; drawn = h.started.drawn; opened = h.started.opened; after = h.started.after; begun = h.started.begun };
  after_trace = record {
    base = h.after_trace.base;
    legal = h.after_trace.legal;
    tale = h.after_trace.tale;
    past = h.after_trace.past;
    stamped = h.after_trace.stamped;
    active = h.after_trace.active;
    fresh = h.after_trace.fresh;
    phases = λ t. h.after_trace.phases t ∙ sym (phase_worded f t (active_of t s.active) (preparing_of t s.stamped) s.ended);
  };
  traced = record { active = h.traced.active; preparing = h.traced.preparing };
  claimed = record { active = h.claimed.active; stamped = h.claimed.stamped; past = h.claimed.past };
  has_ends = record { ends = h.has_ends.ends; alone = h.has_ends.alone; active = h.has_ends.active; stamped = h.has_ends.stamped; fresh = h.has_ends.fresh; others = h.has_ends.others };
  prints = record { active = h.prints.active; stamped = h.prints.stamped; fresh = h.prints.fresh };
  origins = record { active = h.origins.active; preparing = h.origins.preparing; settled = h.origins.settled; behind = h.origins.behind };
}

pub kept_taken_over : (opening : Map) (xs : List Step) (s : State) (c : Option Claim) → IsKept opening xs s → IsKept opening xs (taken_over c s)
kept_taken_over opening xs s None h = h
kept_taken_over opening xs s (Some c) h = kept_worded opening xs s (λ u. words_without c u.outcome u.words) h

-- ---- another closed mark
pub kept_closed : (opening : Map) (xs : List Step) (s : State) (m : ℕ) → IsKept opening xs s → IsKept opening xs (after_close s m)
kept_closed opening xs s m h = record {
  sound = record { legal = h.sound.legal; rising = h.sound.rising; clear = h.sound.clear; placed = h.sound.placed; preparing = h.sound.preparing; active = h.sound.active };
  numbered = record { distinct = h.numbered.distinct; apart = h.numbered.apart; before = h.numbered.before };
  single = record { once = h.single.once; drawn = h.single.drawn };
  exclusive = h.exclusive;
  started = record { past = h.started.past; rising = h.started.rising; later = h.started.later; drawn = h.started.drawn; opened = h.started.opened; after = h.started.after; begun = h.started.begun };
  after_trace = record {
    base = h.after_trace.base;
    legal = h.after_trace.legal;
    tale = h.after_trace.tale;
    past = h.after_trace.past;
    stamped = h.after_trace.stamped;
    active = h.after_trace.active;
    fresh = h.after_trace.fresh;
    phases = h.after_trace.phases;
  };
  traced = record { active = h.traced.active; preparing = h.traced.preparing };
  claimed = record { active = h.claimed.active; stamped = h.claimed.stamped; past = h.claimed.past };
  has_ends = record { ends = h.has_ends.ends; alone = h.has_ends.alone; active = h.has_ends.active; stamped = h.has_ends.stamped; fresh = h.has_ends.fresh; others = h.has_ends.others };
  prints = record { active = h.prints.active; stamped = h.prints.stamped; fresh = h.prints.fresh };
  origins = record { active = h.origins.active; preparing = h.origins.preparing; settled = h.origins.settled; behind = h.origins.behind };
}
