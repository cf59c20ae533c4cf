-- One step of a flush makes the next group durable and publishes it, or nothing is durable that
-- wasn't.
use Rattle.std.proofs.Common.{◌≡◌, ◌≢◌, ℕ, inl, inr, Bool, true, false, true≢false, List, [], ◌∷◌, max, Option, None, Some, Result, Ok, Err, refl, sym, ap, ◌∙◌, subst, arith}
use Rattle.std.specs.Prelude.{IfOk, is_some}
use Rattle.mvo_types.specs.Causes.{when, first_cause}
use Rattle.mvo_types.specs.declared.refusal.Refusal.{Refusal}
use Rattle.mvo_types.specs.declared.refusal.Refusal.TheVariants.{Busy, Down, NothingToDo, RingFull}
use Rattle.mvo_disk.specs.declared.disk.Disk.{Ghosts}
use Rattle.mvo_group.specs.Data.{GroupData}
use Rattle.mvo_store.specs.Wholes.{AreToRefusal, rotation}
use Rattle.mvo_store.specs.Flushing.{lets_go_on, IsAppend, IsAppendHere, IsRotatedAppend, IsTurn}
use Rattle.mvo_store.specs.Flushing.IsAppendHere.{HereAtBody, HereAtOpen}
use Rattle.mvo_store.specs.Flushing.IsAppend.{AtBody, AtOpen, AtFull}
use Rattle.mvo_store.specs.Seen.{mark_of, pending_of}
use Rattle.mvo_store.specs.StoreData.{StoreData}
use Rattle.mvo_store.specs.Causes.{why_not_take}
use Rattle.mvo_store.specs.Calls.{AnswersCall, IsRefused}
use Rattle.mvo_store.specs.Calls.StoreStep.{Take, Call}
use Rattle.mvo_store.specs.declared.call.StoreCall.{StoreCall}
use Rattle.mvo_store.specs.declared.call.StoreCall.TheVariants.{AppendBody, AppendOpen}
use Rattle.mvo_store.specs.declared.done.Done.{Done}
use Rattle.mvo_store.specs.declared.done.Done.TheVariants.{Durable}
use Rattle.mvo_store.proofs.Taken.{left_taken, quiet_taken}
use Rattle.mvo_world.proofs.Moves.{nothing_taken}
use Rattle.mvo_engine.specs.States.{StoreState}
use Rattle.mvo_engine.specs.Calls.{IsLockedCall, IsTaking, IsNotTaken, is_refusal_to_take}
use Rattle.mvo_engine.proofs.Called.{opens_by, quiet_by}
use Rattle.mvo_engine.specs.Flushing.{IsGroupToFlush, HasFlushed, HasNotFlushed, IsFlushOfOne, goes_past}

-- no group is taken, made durable or published
record Stays {D : Type 0} (old new : StoreState D) : Type 0 where
  mark : mark_of new.store ≡ mark_of old.store
  pending : pending_of new.store ≡ pending_of old.store
  received : new.received ≡ old.received
  published : new.published ≡ old.published

then_stays : {D : Type 0} {a b c : StoreState D} → Stays a b → Stays b c → Stays a c
then_stays x y = record { mark = y.mark ∙ x.mark; pending = y.pending ∙ x.pending; received = y.received ∙ x.received; published = y.published ∙ x.published }

-- this group was pending, and is durable and published
record IsOpenedFor {D : Type 0} (g : GroupData) (old new : StoreState D) : Type 0 where
  mark : mark_of new.store ≡ g.mark
  pending : pending_of new.store ≡ None
  received : new.received ≡ old.received
  published : new.published ≡ max old.published g.mark

then_opens : {D : Type 0} {g : GroupData} {a b c : StoreState D} → Stays a b → IsOpenedFor g b c → IsOpenedFor g a c
then_opens {g = g} x y = record { mark = y.mark; pending = y.pending; received = y.received ∙ x.received; published = y.published ∙ ap (λ n. max n g.mark) x.published }

-- ---- the calls that are quiet
module _ {D : Type 0} (d : Ghosts D) where
  -- another answer than a durable mark, or a refusal
  call_stays : (call : StoreCall) (old new : StoreState D) (r : Result Done Refusal) → ((n : ℕ) → r ≢ Ok (Durable n)) → IsLockedCall d old call r new → Stays old new
  call_stays call old new (Err e) other h =
      let taken = left_taken d (Call call) e old.store new.store h.step.comes.left in
      record { mark = taken.mark; pending = taken.pending; received = h.received; published = h.published }
  call_stays call old new (Ok (Durable n)) other h = absurd (other n refl)
  call_stays call old new (Ok a) other h =
      let taken = quiet_taken d old.store (Call call) (Ok a) new.store (quiet_by d old.store new.store call a h.answers (λ n is. other n (ap (λ (x : Done). Ok x) is))) h.step.comes in
      record { mark = taken.mark; pending = taken.pending; received = h.received; published = h.published }

  -- no other call than the opening of a gate answers one
  never_durable : (call : StoreCall) (old new : StoreState D) (r : Result Done Refusal) → call ≢ AppendOpen → IsLockedCall d old call r new → (n : ℕ) → r ≢ Ok (Durable n)
  never_durable call old new r other h n is = other (opens_by d old.store new.store call n (subst (λ (x : Result Done Refusal). IfOk x (λ a. AnswersCall d old.store call a new.store)) is h.answers))

  other_stays : (call : StoreCall) (old new : StoreState D) (r : Result Done Refusal) → call ≢ AppendOpen → IsLockedCall d old call r new → Stays old new
  other_stays call old new r other h = call_stays call old new r (never_durable call old new r other h) h

  body_stays : (old new : StoreState D) (r : Result Done Refusal) → IsLockedCall d old AppendBody r new → Stays old new
  body_stays old new r h = other_stays AppendBody old new r (λ is. cc) h

  AreOthers : List StoreCall → Type 0
  AreOthers [] = Unit {0}
  AreOthers (call ∷ calls) = (call ≢ AppendOpen) × AreOthers calls

  calls_stay : (calls : List StoreCall) (old new : StoreState D) (r : Result Done Refusal) → AreOthers calls → AreToRefusal (IsLockedCall d) calls old r new → Stays old new
  unfolding AreOthers
  calls_stay [] old new r others h = absurd h
  calls_stay (call ∷ []) old new r others h = other_stays call old new r others.0 h
  calls_stay (call ∷ next ∷ rest) old new r others (inl h) = other_stays call old new (Err h.0) others.0 h.2
  calls_stay (call ∷ next ∷ rest) old new r others (inr h) = then_stays (other_stays call old h.1 (Ok h.0) others.0 h.2) (calls_stay (next ∷ rest) h.1 new r others.1 h.3)

  rotation_stays : (old new : StoreState D) (r : Result Done Refusal) → AreToRefusal (IsLockedCall d) rotation old r new → Stays old new
  unfolding AreOthers
  rotation_stays old new r h = calls_stay rotation old new r ((λ is. cc), ((λ is. cc), ((λ is. cc), ((λ is. cc), tt)))) h

  -- ---- the gate
  refused_stays : (old new : StoreState D) (e : Refusal) → IsLockedCall d old AppendOpen (Err e) new → Stays old new
  refused_stays old new e h = call_stays AppendOpen old new (Err e) (λ n is. cc) h

  opens_gate : (old new : StoreState D) (a : Done) (g : GroupData) → pending_of old.store ≡ Some g → IsLockedCall d old AppendOpen (Ok a) new → IsOpenedFor g old new
  opens_gate old new (Durable n) g there h =
      let made = h.step.comes.made.makes in
      let its : made.group ≡ g = cc (made.there, there) in
      let mark : mark_of new.store ≡ g.mark = ap (λ (y : StoreData D). mark_of y) made.after ∙ ap (λ (x : GroupData). x.mark) its in
      record {
        mark = mark;
        pending = ap (λ (y : StoreData D). pending_of y) made.after;
        received = h.received;
        published = h.published ∙ ap (λ n. max old.published n) (h.answers ∙ mark);
      }
  opens_gate old new a g there h = absurd h.answers

  -- ---- an append
  appended_here : (old new : StoreState D) (a : Done) (g : GroupData) → pending_of old.store ≡ Some g → IsAppendHere (IsLockedCall d) old (Ok a) new → IsOpenedFor g old new
  appended_here old new a g there (HereAtBody stops h) = absurd (true≢false stops)
  appended_here old new a g there (HereAtOpen q m on body h) =
      let stays = body_stays old m q body in
      then_opens stays (opens_gate m new a g (stays.pending ∙ there) h)

  appended_rotated : (old new : StoreState D) (a : Done) (g : GroupData) → pending_of old.store ≡ Some g → IsRotatedAppend (IsLockedCall d) old (Ok a) new → IsOpenedFor g old new
  appended_rotated old new a g there (inl h) = let never = h.1 in absurd cc
  appended_rotated old new a g there (inr h) =
      let stays = rotation_stays old h.1 (Ok h.0) h.2 in
      then_opens stays (appended_here h.1 new a g (stays.pending ∙ there) h.3)

  appended_group : (old new : StoreState D) (a : Done) (g : GroupData) → pending_of old.store ≡ Some g → IsAppend (IsLockedCall d) old (Ok a) new → IsOpenedFor g old new
  appended_group old new a g there (AtBody apart stops h) = absurd (true≢false stops)
  appended_group old new a g there (AtOpen q m on body h) =
      let stays = body_stays old m q body in
      then_opens stays (opens_gate m new a g (stays.pending ∙ there) h)
  appended_group old new a g there (AtFull full m asks body h) =
      let stays = body_stays old m (Err full) body in
      then_opens stays (appended_rotated m new a g (stays.pending ∙ there) h)

  -- one that is refused
  refused_here : (old new : StoreState D) (e : Refusal) → IsAppendHere (IsLockedCall d) old (Err e) new → Stays old new
  refused_here old new e (HereAtBody stops h) = body_stays old new (Err e) h
  refused_here old new e (HereAtOpen q m on body h) = then_stays (body_stays old m q body) (refused_stays m new e h)

  refused_rotated : (old new : StoreState D) (e : Refusal) → IsRotatedAppend (IsLockedCall d) old (Err e) new → Stays old new
  refused_rotated old new e (inl h) = rotation_stays old new (Err h.0) h.2
  refused_rotated old new e (inr h) = then_stays (rotation_stays old h.1 (Ok h.0) h.2) (refused_here h.1 new e h.3)

  refused_append : (old new : StoreState D) (e : Refusal) → IsAppend (IsLockedCall d) old (Err e) new → Stays old new
  refused_append old new e (AtBody apart stops h) = body_stays old new (Err e) h
  refused_append old new e (AtOpen q m on body h) = then_stays (body_stays old m q body) (refused_stays m new e h)
  refused_append old new e (AtFull full m asks body h) = then_stays (body_stays old m (Err full) body) (refused_rotated m new e h)

-- ---- what was taken
busy_pending : (down : Bool) (o : Option GroupData) → is_refusal_to_take (first_cause (when down Down ∷ when (is_some o) Busy ∷ [])) Busy → (g : GroupData) × (o ≡ Some g)
busy_pending true o h = absurd cc
busy_pending false None h = absurd cc
busy_pending false (Some g) h = (g, refl)

none_pending : (down : Bool) (o : Option GroupData) → is_refusal_to_take (first_cause (when down Down ∷ when (is_some o) Busy ∷ [])) Refusal.NothingToDo → first_cause (when down Down ∷ when (is_some o) Busy ∷ []) ≡ None
none_pending true o h = absurd cc
none_pending false None h = refl
none_pending false (Some g) h = absurd cc

goes_on_busy : (e : Refusal) → lets_go_on {A = Unit {0}} (Err e) ≡ true → e ≡ Busy
goes_on_busy Busy on = refl
goes_on_busy e on = grind arith

accepted_free : (o : Option Refusal) (g : GroupData) → IsRefused {A = Unit {0}} (Take g) o (Ok tt) → o ≡ None
accepted_free None g h = refl
accepted_free (Some e) g h = absurd cc

-- ---- one step of a flush
flushed : {D : Type 0} (d : Ghosts D) (old m new : StoreState D) (q : Result (Unit {0}) Refusal) → IsTaking d old q m → lets_go_on q ≡ true → (a : Done) → IsAppend (IsLockedCall d) m (Ok a) new → HasFlushed old new
flushed d old m new (Ok tt) taken on a h =
    let g = taken.group in
    let made = taken.step.comes.made.makes in
    let none : pending_of old.store ≡ None = nothing_taken old.store (accepted_free (why_not_take old.store) g taken.step.comes.refused) in
    let o = appended_group d m new a g (ap (λ (y : StoreData _). pending_of y) made) h in
    record {
      group = g;
      next = subst (λ (x : Option GroupData). IsGroupToFlush x g old.received new.received) (sym none) (o.received ∙ taken.received);
      durable = o.mark;
      published = o.published ∙ ap (λ n. max n g.mark) taken.published;
      pending = o.pending;
    }
flushed d old m new (Err e) taken on a h =
    let busy = goes_on_busy e on in
    let there = busy_pending old.store.down old.store.pending (subst (is_refusal_to_take (why_not_take old.store)) busy taken.refusal) in
    let g = there.0 in
    let o = appended_group d m new a g (ap (λ (y : StoreData _). pending_of y) taken.store ∙ there.1) h in
    record {
      group = g;
      next = subst (λ (x : Option GroupData). IsGroupToFlush x g old.received new.received) (sym there.1) (refl, o.received ∙ taken.received);
      durable = o.mark;
      published = o.published ∙ ap (λ n. max n g.mark) taken.published;
      pending = o.pending;
    }

not_taken : {D : Type 0} (old new : StoreState D) (e : Refusal) → IsNotTaken old e new → HasNotFlushed old new
not_taken old new e h = record { durable = ap (λ (y : StoreData _). mark_of y) h.store; published = h.published; taken = inl h.received }

not_flushed : {D : Type 0} (d : Ghosts D) (old m new : StoreState D) (q : Result (Unit {0}) Refusal) (e : Refusal) → IsTaking d old q m → IsAppend (IsLockedCall d) m (Err e) new → HasNotFlushed old new
not_flushed d old m new (Ok a) e taken h =
    let made = taken.step.comes.made.makes in
    let stays = refused_append d m new e h in
    record {
      durable = stays.mark ∙ ap (λ (y : StoreData _). mark_of y) made;
      published = stays.published ∙ taken.published;
      taken = inr (taken.group, stays.pending ∙ ap (λ (y : StoreData _). pending_of y) made, stays.received ∙ taken.received);
    }
not_flushed d old m new (Err x) e taken h =
    let stays = refused_append d m new e h in
    record {
      durable = stays.mark ∙ ap (λ (y : StoreData _). mark_of y) taken.store;
      published = stays.published ∙ taken.published;
      taken = inl (stays.received ∙ taken.received);
    }

same_state : {D : Type 0} (old new : StoreState D) → new.store ≡ old.store → new.received ≡ old.received → new.published ≡ old.published → new ≡ old
same_state old new a b c = λ i. record { store = a i; received = b i; published = c i }

pub flush_of_one : {D : Type 0} (d : Ghosts D) (old : StoreState D) (result : Result Bool Refusal) (new : StoreState D) → IsTurn (IsTaking d) (IsLockedCall d) old result new → IsFlushOfOne old result new
flush_of_one d old (Ok true) new h = flushed d old h.1.1 new h.1.0 h.1.2 h.1.3 h.0 h.1.4
flush_of_one d old (Ok false) new h = record {
  none = none_pending old.store.down old.store.pending h.refusal;
  same = same_state old new h.store h.received h.published;
}
flush_of_one d old (Err e) new (inl h) = not_taken old new e h.0
flush_of_one d old (Err e) new (inr h) = not_flushed d old h.1 new h.0 e h.2 h.4

-- ---- the closing with which a flush begins
pub past_of : {A : Type 0} (r : Result A Refusal) → ((e : Refusal) → r ≡ Err e → e ≢ NothingToDo → e ≢ RingFull → ⊥) → goes_past r ≡ true
past_of (Ok a) never = refl
past_of (Err NothingToDo) never = refl
past_of (Err RingFull) never = refl
past_of (Err e) never = absurd (never e refl (λ is. cc) (λ is. cc))
