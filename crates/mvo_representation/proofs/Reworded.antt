-- Other words left to the ended ones, and another closed mark: the versions stay those of the state.
use Rattle.std.proofs.Common.{◌≡◌, ℕ, List, Option, None, Some, sym, ◌∙◌}
use Rattle.mvo_types.specs.declared.op.Op.{Op}
use Rattle.mvo_types.specs.AnswerData.{AnswerData}
use Rattle.mvo_theory.specs.State.{State, EndedTx, Word, Claim, active_of, preparing_of}
use Rattle.mvo_theory.specs.Changes.{with_words, taken_over, after_answer, after_operation, after_close}
use Rattle.mvo_theory.specs.Claims.{new_claim}
use Rattle.mvo_theory.specs.Words.{words_without}
use Rattle.mvo_theory.specs.Phases.{phase_in}
use Rattle.mvo_theory.proofs.Each.{each_weaker}
use Rattle.mvo_theory.proofs.Finishing.{phase_worded}
use Rattle.mvo_word.specs.declared.held.Held.{Held}
use Rattle.mvo_word.specs.declared.held.Held.TheVariants.{At, By, Infinity}
use Rattle.mvo_chain.specs.declared.version.Version.{Version}
use Rattle.mvo_representation.specs.Words.{Phases, ends_of}
use Rattle.mvo_representation.specs.Versions.{IsKnownStamp, IsKnown, HasItsClaims, AreVersionsOf}

-- ---- where each stands
pub phase_with_words : (f : EndedTx → List Word) (s : State) (t : ℕ) → phase_in (with_words f s) t ≡ phase_in s t
phase_with_words f s t = phase_worded f t (active_of t s.active) (preparing_of t s.stamped) s.ended

-- ---- a state with the same clock, transactions, base and opening mark
record IsAsBefore (s s' : State) : Type 0 where
  pub stamp : (e : ℕ) → IsKnownStamp s e → IsKnownStamp s' e
  pub claims : (table : Phases) (v : Version) → HasItsClaims s (ends_of table) v → HasItsClaims s' (ends_of table) v

known_before : (s s' : State) (table : Phases) → IsAsBefore s s' → (w : Held) → IsKnown s table w → IsKnown s' table w
known_before s s' table b (At e) k = b.stamp e.0 k
known_before s s' table b (By t) k = k
known_before s s' table b Infinity k = k

-- ---- other words
words_before : (f : EndedTx → List Word) (s : State) → IsAsBefore s (with_words f s)
words_before f s = record {
  stamp = λ e k. record { drawn = k.drawn; apart = k.apart; settled = k.settled };
  claims = λ table v h a put stays. let g = h a put stays in record { active = g.active; stamped = g.stamped };
}

pub kept_with_words : (f : EndedTx → List Word) (s : State) (table : Phases) (vs : List Version) → AreVersionsOf s table vs → AreVersionsOf (with_words f s) table vs
kept_with_words f s table vs h = let b = words_before f s in record {
  phases = λ t. h.phases t ∙ sym (phase_with_words f s t);
  stamped = h.stamped;
  active = h.active;
  opened = h.opened;
  stood = h.stood;
  known = each_weaker (λ v. IsKnown s table v.begin × IsKnown s table v.end) (λ v. IsKnown (with_words f s) table v.begin × IsKnown (with_words f s) table v.end) (λ v k. (known_before s (with_words f s) table b v.begin k.0, known_before s (with_words f s) table b v.end k.1)) vs h.known;
  claims = each_weaker (HasItsClaims s (ends_of table)) (HasItsClaims (with_words f s) (ends_of table)) (b.claims table) vs h.claims;
  forward = h.forward;
  inside = h.inside;
  begun = h.begun;
  behind = h.behind;
  begun_stamped = h.begun_stamped;
  committed = λ t e q. b.stamp e (h.committed t e q);
  drawn = h.drawn;
  drawn_stamped = h.drawn_stamped;
}

-- a claim takes the End of a version over
pub kept_taken_over : (c : Option Claim) (s : State) (table : Phases) (vs : List Version) → AreVersionsOf s table vs → AreVersionsOf (taken_over c s) table vs
kept_taken_over None s table vs h = h
kept_taken_over (Some c) s table vs h = kept_with_words (λ u. words_without c u.outcome u.words) s table vs h

-- so an answer may be looked at without the words
pub kept_after_answer : (s : State) (table : Phases) (vs : List Version) (t : ℕ) (op : Op) (a : AnswerData) → AreVersionsOf (after_operation s t op a) table vs → AreVersionsOf (after_answer s t op a) table vs
kept_after_answer s table vs t op a h = kept_taken_over (new_claim s t op a) (after_operation s t op a) table vs h

-- ---- another closed mark
close_before : (s : State) (m : ℕ) → IsAsBefore s (after_close s m)
close_before s m = record {
  stamp = λ e k. record { drawn = k.drawn; apart = k.apart; settled = k.settled };
  claims = λ table v h a put stays. let g = h a put stays in record { active = g.active; stamped = g.stamped };
}

pub kept_after_close : (s : State) (table : Phases) (vs : List Version) (m : ℕ) → AreVersionsOf s table vs → AreVersionsOf (after_close s m) table vs
kept_after_close s table vs m h = let b = close_before s m in record {
  phases = h.phases;
  stamped = h.stamped;
  active = h.active;
  opened = h.opened;
  stood = h.stood;
  known = each_weaker (λ v. IsKnown s table v.begin × IsKnown s table v.end) (λ v. IsKnown (after_close s m) table v.begin × IsKnown (after_close s m) table v.end) (λ v k. (known_before s (after_close s m) table b v.begin k.0, known_before s (after_close s m) table b v.end k.1)) vs h.known;
  claims = each_weaker (HasItsClaims s (ends_of table)) (HasItsClaims (after_close s m) (ends_of table)) (b.claims table) vs h.claims;
  forward = h.forward;
  inside = h.inside;
  begun = h.begun;
  behind = h.behind;
  begun_stamped = h.begun_stamped;
  committed = λ t e q. b.stamp e (h.committed t e q);
  drawn = h.drawn;
  drawn_stamped = h.drawn_stamped;
}
