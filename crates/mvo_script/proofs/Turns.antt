-- What stops a flush, and that each of its turns leaves fewer groups that wait.
use Rattle.std.proofs.Common.{Result, Ok, Err, ◌≡◌, ◌≢◌, ◌<◌, ◌++◌, ℕ, Bool, true, false, List, [], ◌∷◌, length, Option, Some, None, refl, sym, subst, ◌∙◌, ap, ap₂, inl, inr, arith}
use Rattle.std.specs.Option.{option_to_list}
use Rattle.std.specs.Prelude.{is_some}
use Rattle.mvo_types.specs.declared.refusal.Refusal.{Refusal}
use Rattle.mvo_types.specs.declared.refusal.Refusal.TheVariants.{Busy, NothingToDo, RingFull, Down}
use Rattle.mvo_disk.specs.declared.disk.Disk.{Ghosts}
use Rattle.mvo_store.specs.Seen.{pending_of}
use Rattle.mvo_types.specs.Causes.{when, first_cause}
use Rattle.mvo_store.specs.Calls.StoreStep.{Call}
use Rattle.mvo_store.specs.declared.call.StoreCall.{StoreCall}
use Rattle.mvo_store.specs.declared.call.StoreCall.TheVariants.{AppendBody, AppendOpen}
use Rattle.mvo_store.specs.declared.done.Done.{Done}
use Rattle.mvo_store.specs.declared.done.Done.TheVariants.{Written}
use Rattle.mvo_store.specs.Flushing.{IsTurn, IsAppend, IsAppendHere, IsRotatedAppend, lets_go_on}
use Rattle.mvo_store.specs.Flushing.IsAppend.{AtBody, AtOpen, AtFull}
use Rattle.mvo_store.specs.Flushing.IsAppendHere.{HereAtBody, HereAtOpen}
use Rattle.mvo_store.specs.Wholes.{AreToRefusal, rotation}
use Rattle.mvo_store.proofs.Taken.{IsQuiet, quiet_taken}
use Rattle.mvo_store.specs.StoreData.{StoreData}
use Rattle.mvo_world.specs.WorldData.{WorldData, waiting}
use Rattle.mvo_world.specs.Ring.{oldest}
use Rattle.mvo_world.specs.Replies.{IsReplyTo, IsStored, or_nothing, reply_of}
use Rattle.mvo_world.specs.Logging.{IsCallBy, IsTakingBy}
use Rattle.mvo_world.specs.declared.reply.Reply.{Reply}
use Rattle.mvo_world.specs.declared.reply.Reply.TheVariants.{Refused}
use Rattle.mvo_script.specs.Flushing.{stops_close}

-- ---- what stops a flush

-- closing goes on where it is refused for want of commits or of a place
pub close_goes : (r : Reply) → ((why : Refusal) → r ≡ Refused why → why ≢ NothingToDo → why ≢ RingFull → ⊥) → stops_close r ≡ false
close_goes (Refused NothingToDo) h = refl
close_goes (Refused RingFull) h = refl
close_goes (Refused why) h = absurd (h why refl (λ e. cc) (λ e. cc))
close_goes _ h = refl

-- ---- how many groups wait

-- the groups that are closed or taken stay
record KeepsGroups {D : Type 0} (w v : WorldData D) : Type 0 where
  ring : v.ring ≡ w.ring
  pending : pending_of v.store ≡ pending_of w.store

-- how many they are
abbrev count : {D : Type 0} → WorldData D → ℕ
count w = length (waiting w)

same_length : {A : Type 0} (a x : Option A) (b y : List A) → a ≡ x → b ≡ y → length (option_to_list a ++ b) ≡ length (option_to_list x ++ y)
same_length {A} a x b y p q = ap₂ (λ (s : Option A) (t : List A). length (option_to_list s ++ t)) p q

kept_count : {D : Type 0} (w v : WorldData D) → KeepsGroups w v → count v ≡ count w
kept_count w v k = same_length (pending_of v.store) (pending_of w.store) v.ring w.ring k.pending k.ring

none_pending : {A : Type 0} (down : Bool) (pending next : Option A) → or_nothing (first_cause (when down Down ∷ when (is_some pending) Busy ∷ [])) next ≡ None → pending ≡ None
none_pending true pending next h = cc
none_pending false (Some g) next h = cc
none_pending false None next h = refl

-- none of the calls takes a group, and none makes one durable
abbrev AreQuiet : List StoreCall → Type 0
AreQuiet [] = Unit {0}
AreQuiet (call ∷ rest) = IsQuiet (Call call) × AreQuiet rest

refused_body : (r : Result Done Refusal) (done : Done) → lets_go_on r ≡ false → r ≡ Ok done → ⊥
refused_body (Ok a) done stop is = cc
refused_body (Err e) done stop is = cc

not_refused : (done : Done) (e : Refusal) → reply_of (Ok done) ≡ Refused e → ⊥
not_refused Written e is = cc
not_refused _ e is = cc

module _ {D : Type 0} (d : Ghosts D) where
  abbrev Comes : WorldData D → StoreCall → Result Done Refusal → WorldData D → Type 0
  Comes = IsCallBy (IsReplyTo d)

  abbrev Takes : WorldData D → Result (Unit {0}) Refusal → WorldData D → Type 0
  Takes = IsTakingBy (IsReplyTo d)

  stored_keeps : (call : StoreCall) (result : Result Done Refusal) → IsQuiet (Call call) → (w v : WorldData D) → IsStored d w call result v → KeepsGroups w v
  stored_keeps call result quiet w v it = record {
    ring = ap (λ (x : WorldData D). x.ring) it.rest;
    pending = (quiet_taken d w.store (Call call) result v.store quiet it.comes).pending;
  }

  quiet_count : (call : StoreCall) → IsQuiet (Call call) → (w v : WorldData D) (r : Result Done Refusal) → Comes w call r v → count v ≡ count w
  quiet_count call quiet w v r it = kept_count w v (stored_keeps call it.0 quiet w v it.2)

  -- calls up to the first that is refused
  quiet_counts : (calls : List StoreCall) → AreQuiet calls → (w v : WorldData D) (r : Result Done Refusal) → AreToRefusal Comes calls w r v → count v ≡ count w
  quiet_counts [] quiet w v r it = absurd it
  quiet_counts (call ∷ []) quiet w v r it = quiet_count call quiet.0 w v r it
  quiet_counts (call ∷ next ∷ rest) quiet w v r (inl a) = quiet_count call quiet.0 w v (Err a.0) a.2
  quiet_counts (call ∷ next ∷ rest) quiet w v r (inr a) =
      quiet_counts (next ∷ rest) quiet.1 a.1 v r a.3 ∙ quiet_count call quiet.0 w a.1 (Ok a.0) a.2

  taken_count : (w v : WorldData D) (r : Result (Unit {0}) Refusal) → Takes w r v → lets_go_on r ≡ true → count v ≡ count w
  taken_count w v (Ok a) it h =
      let none = none_pending _ _ (oldest w.ring) it.0 in
      let before : count w ≡ length (it.1.group ∷ v.ring) = same_length (pending_of w.store) None w.ring (it.1.group ∷ v.ring) none it.1.there in
      let taken = ap (λ (s : StoreData D). pending_of s) it.1.comes.made.makes in
      let after : count v ≡ length (it.1.group ∷ v.ring) = same_length (pending_of v.store) (Some it.1.group) v.ring v.ring taken refl in
      after ∙ sym before
  taken_count w v (Err Busy) it h = ap (λ (x : WorldData D). length (waiting x)) it.1
  taken_count w v (Err _) it h = cc

  durable_count : (w v : WorldData D) (done : Done) (result : Result Done Refusal) → reply_of (Ok done) ≡ reply_of result → IsStored d w AppendOpen result v → count v < count w
  durable_count w v done (Ok a) is it =
      let made = it.comes.made.makes in
      let pending : pending_of v.store ≡ None = ap (λ (s : StoreData D). pending_of s) made.after in
      let ring : v.ring ≡ w.ring = ap (λ (x : WorldData D). x.ring) it.rest in
      let after : count v ≡ length w.ring = same_length (pending_of v.store) None v.ring w.ring pending ring in
      let before : count w ≡ length (made.group ∷ w.ring) = same_length (pending_of w.store) (Some made.group) w.ring w.ring made.there refl in
      omega arith
  durable_count w v done (Err e) is it = absurd (not_refused done e is)

  opened_count : (w v : WorldData D) (r : Result Done Refusal) (done : Done) → r ≡ Ok done → Comes w AppendOpen r v → count v < count w
  opened_count w v r done is it = durable_count w v done it.0 (sym (ap reply_of is) ∙ it.1) it.2

  here_count : (w v : WorldData D) (r : Result Done Refusal) (done : Done) → r ≡ Ok done → IsAppendHere Comes w r v → count v < count w
  here_count w v r done is (HereAtBody stop it) = absurd (refused_body r done stop is)
  here_count w v r done is (HereAtOpen q u goes it rest) =
      let same = quiet_count AppendBody tt w u q it in
      let less = opened_count u v r done is rest in
      omega arith

  rotated_count : (w v : WorldData D) (r : Result Done Refusal) (done : Done) → r ≡ Ok done → IsRotatedAppend Comes w r v → count v < count w
  rotated_count w v r done is (inl a) = let refused = sym is ∙ a.1 in cc
  rotated_count w v r done is (inr a) =
      let same = quiet_counts rotation (tt, (tt, (tt, (tt, tt)))) w a.1 (Ok a.0) a.2 in
      let less = here_count a.1 v r done is a.3 in
      omega arith

  appended_count : (w v : WorldData D) (r : Result Done Refusal) (done : Done) → r ≡ Ok done → IsAppend Comes w r v → count v < count w
  appended_count w v r done is (AtBody other stop it) = absurd (refused_body r done stop is)
  appended_count w v r done is (AtOpen q u goes it rest) =
      let same = quiet_count AppendBody tt w u q it in
      let less = opened_count u v r done is rest in
      omega arith
  appended_count w v r done is (AtFull e u asks it rest) =
      let same = quiet_count AppendBody tt w u (Err e) it in
      let less = rotated_count u v r done is rest in
      omega arith

  -- a turn that makes a group durable leaves one less
  pub turn_count : (w v : WorldData D) → IsTurn (IsTakingBy (IsReplyTo d)) (IsCallBy (IsReplyTo d)) w (Ok true) v → length (waiting v) < length (waiting w)
  turn_count w v it =
      let same = taken_count w it.1.1 it.1.0 it.1.2 it.1.3 in
      let less = appended_count it.1.1 v (Ok it.0) it.0 refl it.1.4 in
      omega arith

-- ---- the same reply by another name
