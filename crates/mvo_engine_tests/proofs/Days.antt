-- What a day comes to.
use Rattle.std.proofs.Common.{◌≡◌, ℕ, ◌<◌, List, sym, ap, ◌∙◌, subst}
use Rattle.std.proofs.lemmas.List.Sorted.{sum_by-IsPermutation}
use Rattle.mvo_types.specs.Keys.{Map}
use Rattle.mvo_model.specs.Trace.{Step}
use Rattle.mvo_readonly.specs.Whole.{WholeState}
use Rattle.mvo_core.specs.Data.{CoreData}
use Rattle.mvo_core.specs.Receipts.{Receipt}
use Rattle.mvo_core.specs.Trimming.{stored_above}
use Rattle.mvo_core.specs.WholeStanding.{StandsWhole}
use Rattle.mvo_core.specs.WholeTales.{stored_receipts}
use Rattle.mvo_engine.specs.Booked.{IsBooked}
use Rattle.mvo_engine.specs.Stored.{HasStored}
use Rattle.mvo_engine.specs.Watching.{Watched, count_of}
use Rattle.mvo_engine_tests.specs.Days.{IsDay}

pub day_is : (w : Watched) (c : CoreData) (receipts : List Receipt) (opening : Map) (steps own : List Step) (whole : WholeState) → StandsWhole opening steps own whole c → HasStored c → IsBooked w c (count_of w receipts) → IsDay w c receipts
day_is w c receipts opening steps own whole stands stored booked =
    let is = stored opening steps own whole stands in
    let other = stored booked.rows booked.steps booked.own booked.whole booked.stands in
    let start : booked.whole.core.start ≡ whole.core.start = booked.stands.core.start ∙ sym stands.core.start in
    let one : count_of w (stored_receipts booked.whole) ≡ count_of w (stored_above booked.whole.core.start c.tale) = sym (sum_by-IsPermutation w.weigh (stored_receipts booked.whole) (stored_above booked.whole.core.start c.tale) other.told) in
    let two : count_of w (stored_above booked.whole.core.start c.tale) ≡ count_of w (stored_above whole.core.start c.tale) = ap (λ (n : ℕ). count_of w (stored_above n c.tale)) start in
    let same : count_of w (stored_receipts booked.whole) ≡ count_of w (stored_above whole.core.start c.tale) = one ∙ two in
    record {
      opening = opening;
      steps = steps;
      own = own;
      whole = whole;
      stands = stands;
      stored = stored;
      counted = λ below. booked.counted (subst (λ (n : ℕ). n < w.end) (sym start) below) ∙ same;
      ordered = is.stored;
      serial = is.legal;
    }
