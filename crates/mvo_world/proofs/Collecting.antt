-- How many versions were put, step by step.
use Rattle.std.proofs.Common.{◌≡◌, ℕ, ◌+◌, ◌<◌, ◌≤◌, Bool, true, false, cond, List, [], ◌∷◌, ◌++◌, map, refl, sym, ap, ◌∙◌, subst, arith}
use Rattle.std.specs.Prelude.{nat_le, if◌then◌else◌, ⊤}
use Rattle.std.specs.List.{AllByRecursion, filter}
use Rattle.std.proofs.lemmas.Bool.{lt-leb, le-leb}
use Rattle.std.specs.FinMap as fin
use Rattle.mvo_types.specs.declared.answer.Answer.{Answer}
use Rattle.mvo_types.specs.declared.op.Op.{Op}
use Rattle.mvo_types.specs.declared.refusal.Refusal.{Refusal}
use Rattle.mvo_types.specs.AnswerData.{answer_data}
use Rattle.mvo_types.specs.Keys.{Map}
use Rattle.mvo_model.specs.History.{History, after_history, after_histories}
use Rattle.mvo_model.specs.Trace.{Step, history_of, rows_up_to}
use Rattle.mvo_model.specs.Trace.Step.{Begins, Answers, Prepares, Checks, Commits, Aborts, Terminates}
use Rattle.mvo_theory.specs.AfterTrace.{pairs}
use Rattle.mvo_theory.specs.Calls.{IsKept}
use Rattle.mvo_theory.specs.Causes.{is_failure}
use Rattle.mvo_theory.specs.Sound.{IsPast}
use Rattle.mvo_theory.specs.State.{State, StampedTx, after_settled}
use Rattle.mvo_theory.specs.Steps.{steps_of_refusal}
use Rattle.mvo_theory.specs.rests.Course.{Course}
use Rattle.mvo_readonly.specs.Whole.{WholeState}
use Rattle.mvo_readonly.specs.rests.Followed.{IsFollowed}
use Rattle.mvo_readonly.proofs.Serials.{rows_up_to_same}
use Rattle.mvo_core.specs.declared.answers.Settlement.TheVariants.{Committed}
use Rattle.mvo_core.specs.declared.answers.Finishing.TheVariants.{Done}
use Rattle.mvo_core.specs.Collection.{Collection}
use Rattle.mvo_core.specs.Collection.TheVariants.{Collected, Nothing}
use Rattle.mvo_core.specs.Counting.{version_count, versions_put, HasAsMany, HasTakenOne, HasOneEach}
use Rattle.mvo_core.specs.Data.{CoreData}
use Rattle.mvo_core.specs.WholeStanding.{StandsWhole}
use Rattle.mvo_core.proofs.RowsHeld.{rows_have_versions}
use Rattle.mvo_world.specs.Collecting.{put_in, versions_ever, rows_at_start, IsJustCollection}
use Rattle.mvo_world.specs.Forgetting.{tale_start}
use Rattle.mvo_world.specs.Past.{Past, course_of, happened, collected_by}
use Rattle.mvo_world.specs.declared.event.Event.{Event}
use Rattle.mvo_world.specs.declared.event.Event.TheVariants.{Begin, BeginReadOnly, Do, Precommit, Validate, Settle, Rollback, Finish, Collect}
use Rattle.mvo_world.specs.declared.reply.Reply.{Reply}
use Rattle.mvo_world.specs.declared.reply.Reply.TheVariants.{Began, Answered, Prepared, Validated, Settled, RolledBack, Finished, Refused, Collected as CollectedReply}

pub put_in-append : (xs ys : List Step) → put_in (xs ++ ys) ≡ put_in xs + put_in ys
put_in-append [] ys = omega arith
put_in-append (Begins t ∷ xs) ys = put_in-append xs ys
put_in-append (Answers t op a ∷ xs) ys = let l = put_in-append xs ys in omega (arith, l)
put_in-append (Prepares t e ∷ xs) ys = put_in-append xs ys
put_in-append (Checks t ∷ xs) ys = put_in-append xs ys
put_in-append (Commits t e ∷ xs) ys = put_in-append xs ys
put_in-append (Aborts t ∷ xs) ys = put_in-append xs ys
put_in-append (Terminates t ∷ xs) ys = put_in-append xs ys

-- what a refusal leaves puts none
pub none_refused : (t : ℕ) (r : Refusal) → put_in (steps_of_refusal t r) ≡ 0
none_refused t r = go (is_failure r)
  where
    go : (b : Bool) → put_in (if b then Aborts t ∷ [] else []) ≡ 0
    go true = refl
    go false = refl

-- a core has as many versions more as these steps put
abbrev pub HasPutIn : CoreData → List Step → CoreData → Type 0
HasPutIn old xs new = version_count new ≡ version_count old + put_in xs

pub none_put : (old new : CoreData) (xs : List Step) → HasAsMany old new → put_in xs ≡ 0 → HasPutIn old xs new
none_put old new xs same none = omega (arith, same, none)

-- but for an answer to an operation no event puts one
abbrev PutsNone : Event → Reply → Type 0
PutsNone (Do t op) (Answered a) = ⊥
PutsNone e r = ⊤

none_happened : (e : Event) (r : Reply) → PutsNone e r → put_in (happened e r) ≡ 0
none_happened Begin (Began t) h = refl
none_happened BeginReadOnly (Began t) h = refl
none_happened (Do t op) (Answered a) h = absurd h
none_happened (Do t op) (Refused r) h = none_refused t.0 r
none_happened (Precommit t) (Prepared e) h = refl
none_happened (Precommit t) (Refused r) h = none_refused t.0 r
none_happened (Validate t) (Validated v) h = refl
none_happened (Validate t) (Refused r) h = none_refused t.0 r
none_happened (Settle t) (Settled (Committed e)) h = refl
none_happened (Settle t) (Refused r) h = none_refused t.0 r
none_happened (Rollback t) RolledBack h = refl
none_happened (Finish t) (Finished Done) h = refl
none_happened e r h = refl

pub as_many : (old new : CoreData) (e : Event) (r : Reply) → PutsNone e r → HasAsMany old new → HasPutIn old (happened e r) new
as_many old new e r h same = none_put old new (happened e r) same (none_happened e r h)

pub answer_put : (old new : CoreData) (t : ℕ) (op : Op) (a : Answer) → version_count new ≡ version_count old + versions_put (answer_data a) → HasPutIn old (Answers t op (answer_data a) ∷ []) new
answer_put old new t op a is = omega (arith, is)

-- ---- the count of a past
-- with these steps more
pub versions_then : (rows : Map) (steps xs : List Step) (collected : ℕ) (old new : CoreData) → version_count old + collected ≡ fin.len rows + put_in steps → HasPutIn old xs new
    → version_count new + collected ≡ fin.len rows + put_in (steps ++ xs)
versions_then rows steps xs collected old new was is = let l = put_in-append steps xs in omega (arith, was, is, l)

-- with what this collection took
pub versions_less : (p : Past) (old new : CoreData) (c : Collection) → version_count old + p.collected ≡ versions_ever p → HasTakenOne old c new
    → version_count new + (p.collected + collected_by Collect (CollectedReply c)) ≡ versions_ever p
versions_less p old new Collected was is = omega (arith, was, is)
versions_less p old new Nothing was is = omega (arith, was, is)

-- just opened
pub opened_versions : (rows : Map) (c : CoreData) → HasOneEach rows c → version_count c + 0 ≡ fin.len rows + 0
opened_versions rows c is = ap (λ (n : ℕ). n + 0) is

-- ---- the rows where the tale starts
abbrev told_of : List Step → ℕ × ℕ → History
told_of steps c = history_of c.1 steps

abbrev is_up : ℕ → ℕ × ℕ → Bool
is_up m c = nat_le c.0 m

none_up : (m : ℕ) (xs : List StampedTx) → AllByRecursion (λ x. m < x.end) xs → filter (is_up m) (pairs xs) ≡ []
none_up m [] h = refl
none_up m (x ∷ xs) h = go x.settled (none_up m xs h.1)
  where
    go : (b : Bool) → filter (is_up m) (pairs xs) ≡ [] → filter (is_up m) (cond b ((x.end, x.id) ∷ pairs xs) (pairs xs)) ≡ []
    go true r = ap (λ (c : Bool). cond c ((x.end, x.id) ∷ filter (is_up m) (pairs xs)) (filter (is_up m) (pairs xs))) (lt-leb x.end m h.0) ∙ r
    go false r = r

rows_past : (m : ℕ) (steps : List Step) (xs : List StampedTx) (cs : List (ℕ × ℕ)) (rows : Map) → AllByRecursion (IsPast m) xs → AllByRecursion (λ x. history_of x.id steps ≡ x.history) xs → filter (is_up m) cs ≡ []
    → after_histories (map (told_of steps) (filter (is_up m) (pairs xs ++ cs))) rows ≡ after_settled xs rows
rows_past m steps [] cs rows p h e = ap (λ ds. after_histories (map (told_of steps) ds) rows) e
rows_past m steps (x ∷ xs) cs rows p h e =
    ap (λ (b : Bool). after_histories (map (told_of steps) (filter (is_up m) (cond b ((x.end, x.id) ∷ pairs xs) (pairs xs) ++ cs))) rows) p.0.settled
    ∙ ap (λ (b : Bool). after_histories (map (told_of steps) (cond b ((x.end, x.id) ∷ filter (is_up m) (pairs xs ++ cs)) (filter (is_up m) (pairs xs ++ cs)))) rows) (le-leb x.end m p.0.until)
    ∙ rows_past m steps xs cs (after_history (history_of x.id steps) rows) p.1 h.1 e
    ∙ ap (λ ts. after_settled xs (after_history ts rows)) h.0
    ∙ ap (λ (b : Bool). after_settled xs (after_history (cond b x.history []) rows)) (sym p.0.settled)

base_is : (rows : Map) (steps : List Step) (s : State) → IsKept rows steps s → rows_up_to s.start rows steps ≡ s.base
base_is rows steps s k =
    ap (λ cs. after_histories (map (told_of steps) (filter (is_up s.start) cs)) rows) k.after_trace.tale
    ∙ rows_past s.start steps s.past (pairs s.stamped) rows k.started.past k.after_trace.past (none_up s.start s.stamped k.started.later)
    ∙ sym k.after_trace.base

-- each has a version
pub rows_held : (p : Past) (own : Course) (w : WholeState) (c : CoreData) → IsFollowed (course_of p) own w → StandsWhole p.rows p.steps own.steps w c → fin.len (rows_at_start p) ≤ version_count c
rows_held p own w c f stands =
    let start : tale_start p ≡ w.core.start = f.joint.now ∙ f.knows.start in
    subst (λ (m : Map). fin.len m ≤ version_count c)
    (sym (ap (λ (n : ℕ). rows_up_to n p.rows p.steps) start ∙ rows_up_to_same p.rows p.steps own.steps w w.core.start stands.kept ∙ base_is p.rows own.steps w.core stands.kept.kept))
    (rows_have_versions p.rows own.steps w.core c stands.core)

-- a version was there to be taken
pub collected_so : (p : Past) (old new : CoreData) (c : Collection) → version_count old + p.collected ≡ versions_ever p → HasTakenOne old c new → fin.len (rows_at_start p) ≤ version_count new → IsJustCollection p c
collected_so p old new Collected was is held = omega (arith, was, is, held)
collected_so p old new Nothing was is held = tt
