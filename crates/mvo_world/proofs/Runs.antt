-- A world that was just opened, one event more of a run, and what each stretch of it leaves.
use Rattle.std.proofs.Common.{◌≡◌, ◌≤◌, List, [], ◌∷◌, ◌++◌, length, Option, refl, subst, arith, ap, ◌∙◌, ℕ, Ok, sym}
use Rattle.mvo_world.specs.Past.{Past, with_event, with_events, opened_over}
use Rattle.mvo_world.specs.Steps.{AreSteps, IsRunStep}
use Rattle.mvo_world.specs.declared.event.Event.{Event}
use Rattle.mvo_world.specs.declared.reply.Reply.{Reply}
use Rattle.mvo_disk.specs.declared.disk.Disk.{Ghosts}
use Rattle.mvo_store.specs.Seen.{disk_of, mark_of}
use Rattle.mvo_world.specs.WorldData.{WorldData, waiting, Follow, IsSoundWorld, IsJustOpened}
use Rattle.mvo_world.specs.Standing.{IsAfter, HasHonestDisk, MayLeavePrefix, IsPrefix, RecoversPrefix}
use Rattle.mvo_world.specs.Promise.{LeavePrefixes, IsOpenedOver}
use Rattle.mvo_world.proofs.Standing.{prefix_image}
use Rattle.mvo_types.specs.declared.limits.TheConstants.{MAX_STAMP}
use Rattle.mvo_types.specs.Keys.{Map}
use Rattle.mvo_store.specs.Standing.{Gives, HasSlots, KeepsRows}
use Rattle.mvo_store.specs.Opening.{IsAnswer, HasBegun, LeavesAsBefore}
use Rattle.mvo_store.proofs.Marked.{same_answer, same_rows}
use Rattle.std.specs.Option.{option_to_list}
use Rattle.mvo_group.specs.Data.{GroupData}
use Rattle.mvo_theory.specs.State.{Marks}
use Rattle.mvo_readonly.specs.Whole.{opened_whole}
use Rattle.mvo_readonly.proofs.WholeRuns.{whole_opened}
use Rattle.mvo_theory.proofs.Chain.{chained_opened}
use Rattle.mvo_core.specs.Counting.{HasOneEach}
use Rattle.mvo_core.specs.Seen.{closed_mark_of}
use Rattle.mvo_core.specs.Standing.{HasOpenedOver}
use Rattle.mvo_world.proofs.Moves.{begun}

pub with_events-push : (p : Past) (es : List Event) (rs : List Reply) (e : Event) (r : Reply) → length rs ≡ length es → with_events p (es ++ e ∷ []) (rs ++ r ∷ []) ≡ with_event (with_events p es rs) e r
with_events-push p [] [] e r h = refl
with_events-push p [] (x ∷ rs) e r h = absurd (omega arith)
with_events-push p (x ∷ es) [] e r h = absurd (omega arith)
with_events-push p (x ∷ es) (y ∷ rs) e r h = with_events-push (with_event p x y) es rs e r (omega arith)

pub steps-push : {W : Type 0} (IsOne : W → Event → Reply → W → Type 0) (w : W) (es : List Event) (rs : List Reply) (last : W) (e : Event) (r : Reply) (w' : W) → AreSteps IsOne w es rs last → IsOne last e r w' → AreSteps IsOne w (es ++ e ∷ []) (rs ++ r ∷ []) w'
steps-push IsOne w [] [] last e r w' h k = (w', subst (λ v. IsOne v e r w') h k, refl)
steps-push IsOne w [] (x ∷ rs) last e r w' h k = absurd h
steps-push IsOne w (x ∷ es) [] last e r w' h k = absurd h
steps-push IsOne w (x ∷ es) (y ∷ rs) last e r w' h k = (h.0, h.1, steps-push IsOne h.0 es rs last e r w' h.2 k)

module _ {D : Type 0} (d : Ghosts D) where
  -- a stop now leaves what recovers a prefix
  pub may_leave_prefix : (p : Past) (w : WorldData D) → IsAfter d p w → HasHonestDisk d w → MayLeavePrefix d p (disk_of w.store)
  may_leave_prefix p w h honest = λ image now. prefix_image d p w h image ((h.store honest).images image now)

  pub leave_prefixes : (p : Past) (w : WorldData D) (es : List Event) (rs : List Reply) (w' : WorldData D) → IsAfter d p w → AreSteps (IsRunStep d) w es rs w' → LeavePrefixes d p (disk_of w.store) es rs (disk_of w'.store)
  leave_prefixes p w [] [] w' after steps = (ap (λ (v : WorldData D). disk_of v.store) steps, λ honest. may_leave_prefix p w after honest)
  leave_prefixes p w [] (r ∷ rs) w' after steps = absurd steps
  leave_prefixes p w (e ∷ es) [] w' after steps = absurd steps
  leave_prefixes p w (e ∷ es) (r ∷ rs) w' after steps =
      (disk_of steps.0.store, steps.1.any_moment p after, leave_prefixes (with_event p e r) steps.0 es rs w' (steps.1.after p after) steps.2)

  -- the rows that the store answered are those that the world is opened over
  module _ (old : D) (w : WorldData D) (rows : Map) (mark : ℕ) (begins : HasBegun d old w.store mark) (core : HasOpenedOver rows mark w.core) (count : HasOneEach rows w.core) (none : w.ring ≡ []) where
    pub answer_here : IsAnswer (d.content old) (Ok (rows, mark)) → IsAnswer (d.content old) (Ok (rows, mark_of w.store))
    answer_here answer = subst (λ (m : ℕ). IsAnswer (d.content old) (Ok (rows, m))) (sym begins.mark_is) answer

    pub gives_here : Gives rows mark (d.content old) → Gives rows (mark_of w.store) (d.content old)
    gives_here gives = subst (λ (m : ℕ). Gives rows m (d.content old)) (sym begins.mark_is) gives

    begins_here : IsJustOpened rows w
    begins_here = record {
      core = subst (λ (m : ℕ). HasOpenedOver rows m w.core) (sym begins.mark_is) core;
      versions = count;
      ring = none;
      store = record { pending = begins.pending; written = begins.written; jobs = begins.jobs; down = begins.down };
    }

    -- its core stands for what was opened, and no group waits
    pub sound_here : IsSoundWorld w
    sound_here =
        let wait : waiting w ≡ [] = ap (λ (q : Option GroupData). option_to_list q ++ w.ring) begins.pending ∙ none in
        record {
          core = record { opening = rows; steps = []; own = []; whole = opened_whole rows mark; stands = record { core = core; kept = whole_opened rows mark }; closed = (chained_opened rows mark).closed };
          linked = subst (λ (gs : List GroupData). Follow (mark_of w.store) gs (closed_mark_of w.core)) (sym wait) (begins.mark_is ∙ ap (λ (m : Marks). m.closed) core.marks);
        }

    pub opened_here : mark ≤ MAX_STAMP → LeavesAsBefore d old (disk_of w.store) → (HasHonestDisk d w → Gives rows mark (d.content old)) → (HasHonestDisk d w → HasSlots (d.content old) → KeepsRows d w.store rows) → IsOpenedOver d old rows w
    opened_here stamp as_before gives keeps = record {
      begins = begins_here;
      after = λ slots. begun d rows w begins_here (λ now. keeps now (slots (as_before.later.honest now)));
      gives = λ now. gives_here (gives now);
      stamp = subst (λ (m : ℕ). m ≤ MAX_STAMP) (sym begins.mark_is) stamp;
    }

    pub world_begins : IsAnswer (d.content old) (Ok (rows, mark)) → (given : Map) → Gives given (mark_of w.store) (d.content old) → IsJustOpened given w
    world_begins answer given gives = subst (λ (m : Map). IsJustOpened m w) (sym (same_rows (d.content old) rows (mark_of w.store) (answer_here answer) given gives)) begins_here

    pub world_after : IsAnswer (d.content old) (Ok (rows, mark)) → (HasHonestDisk d w → HasSlots (d.content old) → KeepsRows d w.store rows) → (given : Map) → Gives given (mark_of w.store) (d.content old) → HasSlots (d.content old) → IsAfter d (opened_over given (mark_of w.store)) w
    world_after answer keeps given gives slots =
        begun d given w (world_begins answer given gives) (λ now. subst (KeepsRows d w.store) (sym (same_rows (d.content old) rows (mark_of w.store) (answer_here answer) given gives)) (keeps now slots))

    pub world_prefix : IsAnswer (d.content old) (Ok (rows, mark)) → (given : Map) → Gives given (mark_of w.store) (d.content old) → (past : Past) → RecoversPrefix past (d.content old) → IsPrefix past given (mark_of w.store)
    world_prefix answer given gives past h =
        let same = same_answer (d.content old) rows (mark_of w.store) (answer_here answer) in
        subst (λ (x : Map × ℕ). IsPrefix past x.0 x.1) (same h.rows h.mark h.gives ∙ sym (same given (mark_of w.store) gives)) h.prefix
