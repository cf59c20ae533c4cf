-- What a run promised, and what of it was looked at.
use Rattle.std.specs.Prelude.{◌≡◌, ℕ, List, Option, Some, None, Result, Ok, Err}
use Rattle.std.specs.Option.{option_or}
use Rattle.mvo_types.specs.Keys.{Map}
use Rattle.mvo_store.specs.Opening.{IsAnswer}
use Rattle.mvo_stops.specs.Counting.{counted_on}
use Rattle.mvo_stops.specs.Promise.{IsPromised}
use Rattle.mvo_stops.specs.declared.judge.Judge.{Judge}
use Rattle.mvo_stops.specs.declared.look_end.LookEnd.{LookEnd}
use Rattle.mvo_stops.specs.declared.look_end.LookEnd.TheVariants as look
use Rattle.mvo_stops.specs.declared.recorded.Recorded.{Recorded}
use Rattle.mvo_stops.specs.declared.wrong.Wrong.{Wrong}

-- a run promised these rows at this mark, where that timestamp was acknowledged
abbrev pub Promises : Judge → Recorded → ℕ → Map → ℕ → Type 0
Promises j recorded acknowledged rows mark =
    IsPromised acknowledged j.history.clock.0 j.history.commits.items recorded.rows.items rows mark

-- what the files hold is opened at this mark, with rows that were promised
abbrev pub OpensAsPromised : Judge → Recorded → ℕ → (ℕ → List ℕ) → ℕ → Type 0
OpensAsPromised j recorded acknowledged files mark =
    (rows : Map) × IsAnswer files (Ok (rows, mark)) × Promises j recorded acknowledged rows mark

-- one opening more was compared with what the same run promised
pub record Judges (old new : Judge) : Type 0 where
  pub history : new.history ≡ old.history
  pub calls : new.counts.calls ≡ old.counts.calls
  pub openings : new.counts.openings ≡ counted_on old.counts.openings

-- that of an image more
pub record JudgesImage (old new : Judge) : Type 0 where
  pub judges : Judges old new
  pub images : new.counts.images ≡ counted_on old.counts.images

-- one that was cut short, or of an image that was counted before
pub record JudgesAgain (old new : Judge) : Type 0 where
  pub judges : Judges old new
  pub images : new.counts.images ≡ old.counts.images

-- what is wrong, if that is why no more is looked at
abbrev pub wrong_in : {T : Type 0} → Result T LookEnd → Option Wrong
wrong_in (Ok x) = None
wrong_in (Err (look.Error e)) = None
wrong_in (Err (look.Wrong w)) = Some w

-- what was wrong before is kept, or else what is wrong now
abbrev pub NotesWrong : {T : Type 0} → Result T LookEnd → Judge → Judge → Type 0
NotesWrong judged old new = new.wrong ≡ option_or old.wrong (wrong_in judged)
