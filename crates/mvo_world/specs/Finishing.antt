-- Finishing by its count: each More took a word of those that the transaction wrote.
use Rattle.std.specs.Prelude.{◌≡◌, ◌+◌, ◌≤◌, ◌==◌, ℕ, List, length, Option, None, Some}
use Rattle.mvo_model.specs.Trace.{Step, history_of}
use Rattle.mvo_theory.specs.State.{State, EndedTx, Outcome, ended_of}
use Rattle.mvo_theory.specs.State.Outcome.{Committed, Aborted}
use Rattle.mvo_theory.specs.Sound.{how_many}
use Rattle.mvo_theory.specs.Words.{word_count}

-- how many of these are the transaction's
abbrev pub mores_of : ℕ → List ℕ → ℕ
mores_of t mores = how_many (λ u. u == t) mores

-- Of one that ended: the words that are left and those that were replaced, one for each More, are
-- the words that it wrote. Of an Aborted one others may have taken some over.
abbrev pub CountsAs : ℕ → ℕ → Outcome → ℕ → Type 0
CountsAs more wrote (Committed e) left = left + more ≡ wrote
CountsAs more wrote Aborted left = left + more ≤ wrote

-- one that hasn't ended, or that is finished, has none
abbrev pub CountsWords : ℕ → ℕ → Option EndedTx → Type 0
CountsWords more wrote None = more ≡ 0
CountsWords more wrote (Some u) = CountsAs more wrote u.outcome (length u.words)

abbrev pub HaveCountedWords : List ℕ → List Step → State → Type 0
HaveCountedWords mores steps s = (t : ℕ) →
    CountsWords (mores_of t mores) (word_count (history_of t steps)) (ended_of t s.ended)
