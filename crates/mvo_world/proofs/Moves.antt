-- What each event makes of a world that stands after a past.
use Rattle.std.proofs.Common.{◌≡◌, ℕ, ◌+◌, ◌≤◌, length, Bool, true, false, List, [], ◌∷◌, ◌++◌, Option, None, Some, Result, Ok, Err, map, refl, sym, ap, ◌∙◌, subst, arith, append_assoc, append-nil}
use Rattle.std.specs.Prelude.{IfOk, is_some, nat_le}
use Rattle.std.specs.Option.{option_to_list}
use Rattle.std.specs.List.{AllByRecursion}
use Rattle.std.specs.FinMap as fin
use Rattle.std.proofs.lemmas.Bool.{leb-true}
use Rattle.std.proofs.lemmas.List.{length-append, map-append}
use Rattle.mvo_types.specs.declared.refusal.Refusal.{Refusal}
use Rattle.mvo_types.specs.declared.refusal.Refusal.TheVariants.{Down, Busy, OutOfMemory}
use Rattle.mvo_types.specs.declared.ids.Stamp.{Stamp}
use Rattle.mvo_types.specs.declared.ids.TxId.{TxId}
use Rattle.mvo_types.specs.declared.answer.Answer.{Answer}
use Rattle.mvo_types.specs.declared.op.Op.{Op}
use Rattle.mvo_types.specs.declared.op.Op.TheVariants.{Insert, Update}
use Rattle.mvo_types.specs.Keys.{Map}
use Rattle.mvo_model.specs.Trace.{Step}
use Rattle.mvo_disk.specs.declared.disk.Disk.{Ghosts}
use Rattle.mvo_disk.specs.Disk.{IsHonest}
use Rattle.mvo_disk.specs.Moments.{weaker}
use Rattle.mvo_group.specs.Data.{GroupData}
use Rattle.mvo_theory.specs.State.{State, Marks, opened}
use Rattle.mvo_theory.specs.Marks.{IsClosedAt, StaysBelow}
use Rattle.mvo_theory.specs.Changes.{after_close}
use Rattle.mvo_theory.specs.Steps.{steps_of_refusal}
use Rattle.mvo_theory.specs.Calls.{Result as CallResult, trace_of}
use Rattle.mvo_theory.specs.Calls.Call.{Do as DoCall, Trim, Close}
use Rattle.mvo_theory.specs.Calls.Result.{Accepted}
use Rattle.mvo_theory.proofs.Each.{each_weaker, each_append}
use Rattle.mvo_theory.specs.rests.Course.{Course}
use Rattle.mvo_readonly.specs.Whole.{WholeState, opened_whole}
use Rattle.mvo_readonly.specs.WholeCauses.{WholeCall}
use Rattle.mvo_readonly.specs.WholeCauses.WholeCall.{CoreCall, BeginReadOnly}
use Rattle.mvo_readonly.specs.WholeCalls.{core_calls, steps_of_whole_call, after_whole_call}
use Rattle.mvo_readonly.specs.rests.Joint.{whole_trims_after, course_after}
use Rattle.mvo_readonly.specs.rests.Followed.{opened_course, IsFollowed}
use Rattle.mvo_readonly.proofs.WholeRuns.{whole_opened}
use Rattle.mvo_readonly.proofs.rests.Following.{followed_opened, followed_after_call}
use Rattle.mvo_core.specs.Collection.{Collection}
use Rattle.mvo_core.specs.declared.answers.Closed as closing
use Rattle.mvo_core.specs.Counting.{version_count, HasAsMany, HasPutMore, HasTakenOne}
use Rattle.mvo_core.specs.Data.{CoreData}
use Rattle.mvo_core.specs.Seen.{closed_mark_of, HasNewVersions}
use Rattle.mvo_core.specs.Records.{fits}
use Rattle.mvo_core.specs.WholeAnswers.{IsAnsweredWhole, StandsWholeAsBefore, AreFewerWhole}
use Rattle.mvo_core.specs.WholeStanding.{StandsWhole, LeadsWhole, IsWholeStep}
use Rattle.mvo_core.proofs.WholeStands.{still_closed_whole}
use Rattle.mvo_types.specs.Causes.{when, or_next}
use Rattle.mvo_store.specs.Frames.{mark_after}
use Rattle.mvo_store.specs.Rows.{after_groups}
use Rattle.mvo_store.proofs.Grown.{after_groups-append}
use Rattle.mvo_store.specs.Seen.{disk_of, mark_of, pending_of}
use Rattle.mvo_store.specs.StoreData.{StoreData, opening}
use Rattle.mvo_store.specs.Standing.{MayBeLeft, KeepsRows, after_taken, IsKeeping, KeepsAllRows}
use Rattle.mvo_store.specs.Causes.{why_not_take}
use Rattle.mvo_store.specs.Calls.{AnswersCall, IsStoreStep}
use Rattle.mvo_store.specs.Calls.StoreStep.{Take, Call as CallOf}
use Rattle.mvo_store.specs.declared.call.StoreCall.{StoreCall}
use Rattle.mvo_store.specs.declared.call.StoreCall.TheVariants.{AppendOpen}
use Rattle.mvo_store.specs.declared.done.Done.{Done}
use Rattle.mvo_store.specs.declared.done.Done.TheVariants as answer
use Rattle.mvo_store.proofs.Taken.{KeepsTaken, IsQuiet, left_taken, quiet_taken, quiet_rows, refused_rows}
use Rattle.mvo_store.proofs.Keeping.{OnlyNow, refused_keeps}
use Rattle.mvo_world.specs.WorldData.{WorldData, waiting, Follow, IsLinked, IsSoundWorld, IsJustOpened}
use Rattle.mvo_world.specs.Past.{Past, course_of, happened, trimmed_by, acknowledged_by, closed_by, taken_by, mores_after, collected_by, read_only_by, with_event, opened_over}
use Rattle.mvo_world.specs.Finishing.{HaveCountedWords}
use Rattle.mvo_world.specs.Collecting.{put_in, versions_ever}
use Rattle.mvo_world.specs.WholeJustified.{KnowsReaders}
use Rattle.mvo_core.specs.Groups.{HaveRecordsOf}
use Rattle.mvo_world.specs.Standing.{IsAfter, HasHonestDisk, RecoversPrefix}
use Rattle.mvo_world.specs.Ring.{oldest, IsClosingInto}
use Rattle.mvo_world.specs.Replies.{IsReplyTo, IsAskedWhole, HasRow, or_nothing, reply_of}
use Rattle.mvo_world.specs.Justified.{IsJustifiedBy}
use Rattle.mvo_world.specs.Steps.{IsStepBy, IsWorldStep}
use Rattle.mvo_types.specs.declared.limits.TheConstants.{RING_GROUPS}
use Rattle.mvo_world.specs.declared.event.Event.{Event}
use Rattle.mvo_world.specs.declared.event.Event.TheVariants.{Do, Collect, CloseGroup, TakeGroup, Store, Poll}
use Rattle.mvo_world.specs.declared.reply.Reply.{Reply}
use Rattle.mvo_world.specs.declared.reply.Reply.TheVariants.{Answered, Collected, Closed, Taken, Durable, Polled, Refused}
use Rattle.mvo_world.proofs.Chain.{groups_stay, group_of_next}
use Rattle.mvo_world.proofs.Closing.{closed_so, unclosed_so}
use Rattle.mvo_world.proofs.WholeReaders.{ids_after, readers_opened, readers_after_call}
use Rattle.mvo_world.proofs.WholeFinishing.{mores_whole, words_after_whole_call, stays_after_whole_call}
use Rattle.mvo_world.proofs.Collecting.{HasPutIn, none_refused, none_put, answer_put, versions_then, versions_less, opened_versions, rows_held, collected_so}
use Rattle.mvo_world.proofs.Justified.{IsNoClosing, answered, refused_is, justified_reply}
use Rattle.mvo_world.proofs.Standing.{mark_after-append, groups_front, groups_back, groups_push, marks_rise, follow_to, prefix_image}

-- ---- the groups that wait
follow_push : (m last : ℕ) (gs : List GroupData) (g : GroupData) → Follow m gs last → g.prev ≡ last → Follow m (gs ++ g ∷ []) g.mark
follow_push m last [] g h e = (e ∙ sym h, refl)
follow_push m last (x ∷ gs) g h e = (h.0, follow_push x.mark last gs g h.1 e)

pub linked_closed : {D : Type 0} (w : WorldData D) (g : GroupData) → g.prev ≡ closed_mark_of w.core → IsLinked w → Follow (mark_of w.store) (option_to_list (pending_of w.store) ++ (w.ring ++ g ∷ [])) g.mark
linked_closed w g e h = subst (λ gs. Follow (mark_of w.store) gs g.mark) (append_assoc (option_to_list (pending_of w.store)) w.ring (g ∷ [])) (follow_push (mark_of w.store) (closed_mark_of w.core) (waiting w) g h e)

pub groups_closed : (s : State) (n m : ℕ) (gs : List GroupData) → HaveRecordsOf s m gs → HaveRecordsOf (after_close s n) m gs
groups_closed s n m [] h = tt
groups_closed s n m (g ∷ gs) h = (h.0, record { closed = record { drawn = h.1.closed.drawn; above = h.1.closed.above }; records = h.1.records; rules = h.1.rules }, groups_closed s n g.mark gs h.2)

-- ---- what a call answered
pub nothing_taken : {D : Type 0} (s : StoreData D) → why_not_take s ≡ None → pending_of s ≡ None
nothing_taken s e = go _ _ e
  where
    go : (b : Bool) (o : Option GroupData) → or_next (when b Down) (or_next (when (is_some o) Busy) None) ≡ None → o ≡ None
    go true o f = absurd cc
    go false None f = refl
    go false (Some g) f = absurd cc

-- ---- a past with an event more
abbrev trims_with : Past → List ℕ → List (ℕ × ℕ)
trims_with p ms = p.trims ++ map (λ m. (length p.steps, m)) ms

past_is : (p : Past) (e : Event) (r : Reply) (steps : List Step) (trims : List (ℕ × ℕ)) (acked closed : List ℕ) (took : ℕ) (mores : List ℕ) (gone : ℕ) (ids : List ℕ) → p.steps ++ happened e r ≡ steps → trims_with p (trimmed_by e r) ≡ trims → p.acknowledged ++ acknowledged_by e r ≡ acked → p.closed ++ closed_by e r ≡ closed → p.taken + taken_by e r ≡ took → mores_after e r p.mores ≡ mores → p.collected + collected_by e r ≡ gone → p.read_only ++ read_only_by e r ≡ ids
    → record { rows = p.rows; mark = p.mark; steps = steps; trims = trims; acknowledged = acked; closed = closed; taken = took; mores = mores; collected = gone; read_only = ids } ≡ with_event p e r
past_is p e r steps trims acked closed took mores gone ids a t b c n m g i = cc

none_more : (n : ℕ) → n + 0 ≡ n
none_more n = omega arith

-- the mark of a group that was closed, how many the store took, up to where it was trimmed, and how
-- many versions were collected
abbrev pub groups_by : Event → Reply → List ℕ × ℕ × List ℕ × ℕ
groups_by e r = (closed_by e r, taken_by e r, trimmed_by e r, collected_by e r)

abbrev trimmed_to : WholeCall → CallResult → List ℕ
trimmed_to (CoreCall (Trim m)) Accepted = m ∷ []
trimmed_to a r = []

trims_are : (p : Past) (a : WholeCall) (r : CallResult) → trims_with p (trimmed_to a r) ≡ whole_trims_after (course_of p) a r
trims_are p BeginReadOnly r = append-nil p.trims
trims_are p (CoreCall (Trim m)) Accepted = refl
trims_are p (CoreCall c) r = append-nil p.trims

-- nothing that a past remembers
abbrev pub IsSilent : Event → Reply → Type 0
IsSilent e r = (happened e r ≡ []) × (acknowledged_by e r ≡ []) × (groups_by e r ≡ ([], 0, [], 0)) × ((ms : List ℕ) → mores_after e r ms ≡ ms) × (read_only_by e r ≡ [])

-- what an event with its reply is of a call
abbrev pub IsOfCall : Event → Reply → WholeState → WholeCall → CallResult → Type 0
IsOfCall e r s a result = (happened e r ≡ steps_of_whole_call s a result) × ((ms : List ℕ) → mores_after e r ms ≡ mores_whole s a result ms) × ((ids : List ℕ) → ids ++ read_only_by e r ≡ ids_after s a result ids)

-- so it is with an event whose copy was refused
pub silent_copy : (e : Event) → HasRow e → IsSilent e (Refused OutOfMemory)
silent_copy (Do t (Insert row)) h = (refl, refl, refl, (λ ms. refl), refl)
silent_copy (Do t (Update row)) h = (refl, refl, refl, (λ ms. refl), refl)
silent_copy (Do t op) h = absurd h
silent_copy e h = absurd h

silent_past : (p : Past) (e : Event) (r : Reply) → IsSilent e r → p ≡ with_event p e r
silent_past p e r s = simp (s.0, s.1, s.3 p.mores, s.4, ap (λ (g : List ℕ × ℕ × List ℕ × ℕ). g.0) s.2, ap (λ (g : List ℕ × ℕ × List ℕ × ℕ). g.1) s.2, ap (λ (g : List ℕ × ℕ × List ℕ × ℕ). g.2) s.2, ap (λ (g : List ℕ × ℕ × List ℕ × ℕ). g.3) s.2, append-nil, none_more)

-- a state stays as it is
unchanged : (s : State) → StaysBelow s s
unchanged s m closed = (closed, refl)

-- the ring has the closed groups that weren't taken, and no more than it may
abbrev HasRoomFor : ℕ → List ℕ → List GroupData → Type 0
HasRoomFor took closed ring = (took + length ring ≡ length closed) × (length ring ≤ RING_GROUPS)

-- a core that no step leads on stands for what it stood for
as_before : (opening : Map) (steps own : List Step) (s : WholeState) (c : CoreData) → StandsWhole opening (steps ++ []) (own ++ []) s c → StandsWhole opening steps own s c
as_before opening steps own s c h = subst (λ ys. StandsWhole opening steps ys s c) (append-nil own) (subst (λ xs. StandsWhole opening xs (own ++ []) s c) (append-nil steps) h)

module _ {D : Type 0} (d : Ghosts D) where
  -- ---- a step, by what it makes of the rows of the store
  stepped : (IsReply : WorldData D → Event → Reply → WorldData D → Type 0) (Justifies : Past → Event → Reply → Type 0) (w w' : WorldData D) (e : Event) (r : Reply) (made : Map → Map) → IsReply w e r w' → ((p : Past) → IsAfter d p w → Justifies p e r) → (HasHonestDisk d w' → HasHonestDisk d w) → (HasHonestDisk d w' → IsKeeping d made w.store w'.store)
      → ((p : Past) (h : IsAfter d p w) → (HasHonestDisk d w' → KeepsRows d w'.store (made (after_groups p.rows h.sent))) → IsAfter d (with_event p e r) w') → IsStepBy IsReply Justifies d w e r w'
  stepped IsReply Justifies w w' e r made reply just was keeps after = record {
    reply = reply;
    justified = just;
    after = λ p h. after p h (λ now. (keeps now).keeps (after_groups p.rows h.sent) (h.store (was now)));
    honest = was;
    any_moment = λ p h now.
        let rows = after_groups p.rows h.sent in
        weaker d.moment d.left_since (disk_of w.store) (disk_of w'.store) (MayBeLeft rows (mark_of w.store) (opening w.store)) (RecoversPrefix p) (prefix_image d p w h) ((keeps now).any_moment rows (h.store (was now)));
  }

  -- no group becomes durable and none is closed
  goes_on : (p : Past) (w w' : WorldData D) (h : IsAfter d p w) (steps : List Step) (trims : List (ℕ × ℕ)) (ids : List ℕ) (own : Course) (s : WholeState) → StandsWhole p.rows steps own.steps s w'.core → IsFollowed (record { rows = p.rows; mark = p.mark; steps = steps; trims = trims }) own s → KnowsReaders ids steps s → (mores : List ℕ) → HaveCountedWords mores own.steps s.core
      → (gone : ℕ) → version_count w'.core + gone ≡ fin.len p.rows + put_in steps → IsClosedAt s.core.marks.closed s.core → StaysBelow h.state.core s.core
      → waiting w' ≡ waiting w → mark_of w'.store ≡ mark_of w.store → (HasHonestDisk d w' → KeepsRows d w'.store (after_groups p.rows h.sent))
      → (acked : List ℕ) → AllByRecursion (λ n. n ≤ mark_of w'.store) acked → (took : ℕ) → HasRoomFor took p.closed w'.ring → IsAfter d (record p { steps = steps; trims = trims; acknowledged = acked; taken = took; mores = mores; collected = gone; read_only = ids }) w'
  goes_on p w w' h steps trims ids own s core followed readers mores words gone versions closed stays wait mark store acked covers took room = record {
    sent = h.sent;
    own = own;
    state = s;
    core = core;
    followed = followed;
    readers = readers;
    words = words;
    versions = versions;
    closed = closed;
    before = (stays p.mark h.before).0;
    none = (stays p.mark h.before).1 ∙ h.none;
    store = store;
    mark = mark ∙ h.mark;
    groups = subst (λ gs. HaveRecordsOf s.core p.mark (h.sent ++ gs)) (sym wait) (groups_stay h.state.core s.core p.mark (h.sent ++ waiting w) stays h.groups);
    marks = ap (λ gs. map (λ x. x.mark) (h.sent ++ gs)) wait ∙ h.marks;
    covers = covers;
    untaken = room.0;
    room = room.1;
  }

  -- so where the state stays as well
  stands_on : (p : Past) (w w' : WorldData D) (h : IsAfter d p w) → StandsWhole p.rows p.steps h.own.steps h.state w'.core → (gone : ℕ) → version_count w'.core + gone ≡ versions_ever p → waiting w' ≡ waiting w → mark_of w'.store ≡ mark_of w.store → (HasHonestDisk d w' → KeepsRows d w'.store (after_groups p.rows h.sent))
      → (acked : List ℕ) → AllByRecursion (λ n. n ≤ mark_of w'.store) acked → (took : ℕ) → HasRoomFor took p.closed w'.ring → IsAfter d (record p { acknowledged = acked; taken = took; collected = gone }) w'
  stands_on p w w' h core gone versions wait mark store acked covers took room = goes_on p w w' h p.steps p.trims p.read_only h.own h.state core h.followed h.readers p.mores h.words gone versions h.closed (unchanged h.state.core) wait mark store acked covers took room

  -- nothing that the past remembers, over which the state stays
  pub moved : (IsReply : WorldData D → Event → Reply → WorldData D → Type 0) (Justifies : Past → Event → Reply → Type 0) (w w' : WorldData D) (e : Event) (r : Reply) → IsSilent e r → IsReply w e r w' → ((p : Past) → IsAfter d p w → Justifies p e r)
      → ((p : Past) (h : IsAfter d p w) → StandsWhole p.rows p.steps h.own.steps h.state w'.core) → HasAsMany w.core w'.core → w'.ring ≡ w.ring → waiting w' ≡ waiting w → mark_of w'.store ≡ mark_of w.store → (HasHonestDisk d w' → HasHonestDisk d w) → (HasHonestDisk d w' → KeepsAllRows d w.store w'.store) → IsStepBy IsReply Justifies d w e r w'
  moved IsReply Justifies w w' e r silent reply just core same ring wait mark was keeps =
      stepped IsReply Justifies w w' e r (λ rows. rows) reply just was keeps (λ p h store.
      subst (λ (q : Past). IsAfter d q w') (silent_past p e r silent) (stands_on p w w' h (core p h) p.collected (ap (λ (n : ℕ). n + p.collected) same ∙ h.versions) wait mark store p.acknowledged (subst (λ m. AllByRecursion (λ n. n ≤ m) p.acknowledged) (sym mark) h.covers) p.taken (subst (HasRoomFor p.taken p.closed) (sym ring) (h.untaken, h.room))))

  -- ---- a call of the store that takes no group and makes none durable
  store_moved : (w : WorldData D) (store : StoreData D) (e : Event) (r : Reply) → IsNoClosing e → IsSilent e r → IsReplyTo d w e r (record w { store = store }) → KeepsTaken w.store store → (IsHonest (d.moment (disk_of store)) → HasHonestDisk d w) → (IsHonest (d.moment (disk_of store)) → KeepsAllRows d w.store store) → IsWorldStep d w e r (record w { store = store })
  store_moved w store e r other silent reply taken was keeps =
      moved (IsReplyTo d) IsJustifiedBy w (record w { store = store }) e r silent reply (λ p h. justified_reply d p w h e r (record w { store = store }) other reply) (λ p h. h.core) refl refl (ap (λ (q : Option GroupData). option_to_list q ++ w.ring) taken.pending) taken.mark was keeps

  -- so of an accepted call, but for the one that opens a gate
  done : (w : WorldData D) {store : StoreData D} (call : StoreCall) (answer : Done) → IsStoreStep d w.store (CallOf call) (Ok answer) store → IsQuiet (CallOf call) → IsSilent (Store call) (reply_of (Ok answer)) → AnswersCall d w.store call answer store → IsWorldStep d w (Store call) (reply_of (Ok answer)) (record w { store = store })
  done w {store} call answer h quiet silent answers =
      store_moved w store (Store call) (reply_of (Ok answer)) tt silent (Ok answer, refl, record { comes = h.comes; answers = answers; rest = refl })
      (quiet_taken d w.store (CallOf call) (Ok answer) store quiet h.comes) h.honest (quiet_rows d w.store (CallOf call) (Ok answer) store quiet h)

  silent : (call : StoreCall) (answer : Done) → IsQuiet (CallOf call) → IsSilent (Store call) (reply_of (Ok answer))
  silent AppendOpen answer quiet = absurd quiet
  silent call answer quiet = (refl, refl, refl, (λ ms. refl), refl)

  -- and of one that is refused
  refused : (w : WorldData D) {store : StoreData D} (call : StoreCall) (why : Refusal) → IsStoreStep {A = Done} d w.store (CallOf call) (Err why) store → IsWorldStep d w (Store call) (Refused why) (record w { store = store })
  refused w {store} call why h =
      store_moved w store (Store call) (Refused why) tt (silent_refused call) (Err why, refl, record { comes = h.comes; answers = tt; rest = refl })
      (left_taken d (CallOf call) why w.store store h.comes.left) h.honest (refused_rows Done d w.store (CallOf call) why store h)
    where
      silent_refused : (call : StoreCall) → IsSilent (Store call) (Refused why)
      silent_refused AppendOpen = (refl, refl, refl, (λ ms. refl), refl)
      silent_refused call = (refl, refl, refl, (λ ms. refl), refl)

  -- ---- a group is taken
  pub taken : (w : WorldData D) {ring : List GroupData} {store : StoreData D} (g : GroupData) → why_not_take w.store ≡ None → w.ring ≡ g ∷ ring → IsStoreStep {A = Unit {0}} d w.store (Take g) (Ok tt) store → IsWorldStep d w TakeGroup Taken (record w { ring = ring; store = store })
  taken w {ring} {store} g why there h =
      let made = h.comes.made.makes in
      let before : waiting w ≡ g ∷ ring = ap (λ (o : Option GroupData). option_to_list o ++ w.ring) (nothing_taken w.store why) ∙ there in
      let later : option_to_list (pending_of store) ++ ring ≡ g ∷ ring = ap (λ (s : StoreData D). option_to_list (pending_of s) ++ ring) made in
      let ends = ap (λ (gs : List GroupData). length gs) there in
      stepped (IsReplyTo d) IsJustifiedBy w (record w { ring = ring; store = store }) TakeGroup Taken (λ rows. rows)
      (ap (λ why. or_nothing why (oldest w.ring)) why ∙ ap (λ (gs : List GroupData). or_nothing None (oldest gs)) there, record { group = g; there = there; comes = h.comes; core = refl })
      (λ p a. tt) h.honest h.keeps (λ p a rows.
      let mark = ap (λ (s : StoreData D). mark_of s) made in
      let untaken = a.untaken in
      let room = a.room in
      subst (λ (q : Past). IsAfter d q (record w { ring = ring; store = store })) (past_is p TakeGroup Taken p.steps p.trims p.acknowledged p.closed (p.taken + 1) p.mores p.collected p.read_only (append-nil p.steps) (append-nil p.trims) (append-nil p.acknowledged) (append-nil p.closed) refl refl (none_more p.collected) (append-nil p.read_only))
      (stands_on p w (record w { ring = ring; store = store }) a a.core p.collected a.versions (later ∙ sym before) mark rows p.acknowledged
      (subst (λ m. AllByRecursion (λ n. n ≤ m) p.acknowledged) (sym mark) a.covers) (p.taken + 1) ((omega (arith, ends, untaken)), (omega (arith, ends, room)))))

  -- ---- a group becomes durable
  durable : (w : WorldData D) {store : StoreData D} (n : ℕ) → IsStoreStep d w.store (CallOf AppendOpen) (Ok (answer.Durable n)) store → n ≡ mark_of store → IsWorldStep d w (Store AppendOpen) (Durable (record { 0 = n })) (record w { store = store })
  durable w {store} n h is =
      stepped (IsReplyTo d) IsJustifiedBy w w' (Store AppendOpen) (Durable mark) (λ rows. after_taken rows (pending_of w.store)) (Ok (answer.Durable n), refl, record { comes = h.comes; answers = is; rest = refl }) (λ p b. tt) h.honest h.keeps after
    where
      mark : Stamp
      mark = record { 0 = n }

      w' : WorldData D
      w' = record w { store = store }

      after : (p : Past) (b : IsAfter d p w) → (IsHonest (d.moment (disk_of store)) → KeepsRows d store (after_taken (after_groups p.rows b.sent) (pending_of w.store))) → IsAfter d (with_event p (Store AppendOpen) (Durable mark)) w'
      after p b keeps =
          let made = h.comes.made.makes in
          let g = made.group in
          let pending = made.there in
          let at : mark_of store ≡ g.mark = ap (λ (s : StoreData D). mark_of s) made.after in
          let none : pending_of store ≡ None = ap (λ (s : StoreData D). pending_of s) made.after in
          let first = p.mark in
          let before : waiting w ≡ g ∷ w.ring = ap (λ (q : Option GroupData). option_to_list q ++ w.ring) pending in
          let later : waiting w' ≡ w.ring = ap (λ (q : Option GroupData). option_to_list q ++ w.ring) none in
          let list : b.sent ++ waiting w ≡ (b.sent ++ g ∷ []) ++ waiting w' = ap (λ gs. b.sent ++ gs) before ∙ sym (append_assoc b.sent (g ∷ []) w.ring) ∙ ap (λ gs. (b.sent ++ g ∷ []) ++ gs) (sym later) in
          let groups = subst (HaveRecordsOf b.state.core first) list b.groups in
          let up : mark_after first b.sent ≤ g.mark = marks_rise b.state.core (mark_after first b.sent) (g ∷ []) (groups_back b.state.core first b.sent (g ∷ []) (groups_front b.state.core first (b.sent ++ g ∷ []) (waiting w') groups)) in
          subst (λ (q : Past). IsAfter d q w') (past_is p (Store AppendOpen) (Durable mark) p.steps p.trims (p.acknowledged ++ mark.0 ∷ []) p.closed p.taken p.mores p.collected p.read_only (append-nil p.steps) (append-nil p.trims) refl (append-nil p.closed) (none_more p.taken) refl (none_more p.collected) (append-nil p.read_only)) (record {
            sent = b.sent ++ g ∷ [];
            own = b.own;
            state = b.state;
            core = b.core;
            followed = b.followed;
            readers = b.readers;
            words = b.words;
            versions = b.versions;
            closed = b.closed;
            before = b.before;
            none = b.none;
            store = λ now. subst (KeepsRows d store) (ap (after_taken (after_groups p.rows b.sent)) pending ∙ sym (after_groups-append p.rows b.sent (g ∷ []))) (keeps now);
            mark = at ∙ sym (mark_after-append first b.sent (g ∷ []));
            groups = groups;
            marks = ap (map (λ x. x.mark)) (sym list) ∙ b.marks;
            covers = each_append (λ n. n ≤ mark_of store) p.acknowledged (mark.0 ∷ []) (each_weaker (λ n. n ≤ mark_of w.store) (λ n. n ≤ mark_of store) (λ n le. omega (arith, le, b.mark, up, at)) p.acknowledged b.covers) (omega (arith, at, is), tt);
            untaken = b.untaken;
            room = b.room;
          })

  -- a call of the store, whatever it comes to
  pub called : (w : WorldData D) {store : StoreData D} (call : StoreCall) (result : Result Done Refusal) → IsStoreStep d w.store (CallOf call) result store → IfOk result (λ a. AnswersCall d w.store call a store) → IsWorldStep d w (Store call) (reply_of result) (record w { store = store })
  called w call (Err why) h answers = refused w call why h
  called w AppendOpen (Ok (answer.Durable n)) h answers = durable w n h answers
  called w AppendOpen (Ok a) h answers = absurd answers
  called w call (Ok a) h answers = done w call a h tt (silent call a tt) answers

  module _ (only_now : OnlyNow d) where
    -- nothing happens
    pub still : (IsReply : WorldData D → Event → Reply → WorldData D → Type 0) (Justifies : Past → Event → Reply → Type 0) (w : WorldData D) (e : Event) (r : Reply) → IsSilent e r → IsReply w e r w → ((p : Past) → IsAfter d p w → Justifies p e r) → IsStepBy IsReply Justifies d w e r w
    still IsReply Justifies w e r silent reply just = moved IsReply Justifies w w e r silent reply just (λ p h. h.core) refl refl refl refl (λ now. now) (λ now. refused_keeps d only_now w.store)

    -- a call of the core that closes no group
    pub told : (w : WorldData D) {core : CoreData} {a : WholeCall} {result : CallResult} {e : Event} {r : Reply}
        → ((opening : Map) (steps own : List Step) (s : WholeState) → StandsWhole opening steps own s w.core → LeadsWhole opening steps own s a result core)
        → (IsAskedWhole w a result (record w { core = core }) → IsReplyTo d w e r (record w { core = core }))
        → ((opening : Map) (steps own : List Step) (s : WholeState) → StandsWhole opening steps own s w.core → IsOfCall e r s a result)
        → HasPutIn w.core (happened e r) core → (acknowledged_by e r ≡ []) × (groups_by e r ≡ ([], 0, trimmed_to a result, 0)) × IsNoClosing e → IsWorldStep d w e r (record w { core = core })
    told w {core} {a} {result} {e} {r} leads reply is put silent =
        stepped (IsReplyTo d) IsJustifiedBy w w' e r (λ rows. rows) (reply (record { leads = leads; rest = refl })) (λ p h. justified_reply d p w h e r w' silent.2 (reply (record { leads = leads; rest = refl }))) (λ now. now) (λ now. refused_keeps d only_now w.store) after
      where
        w' : WorldData D
        w' = record w { core = core }

        after : (p : Past) (h : IsAfter d p w) → (HasHonestDisk d w' → KeepsRows d w.store (after_groups p.rows h.sent)) → IsAfter d (with_event p e r) w'
        after p h store =
            let l = leads p.rows p.steps h.own.steps h.state h.core in
            let of = is p.rows p.steps h.own.steps h.state h.core in
            let kept = h.core.kept in
            let us = steps_of_whole_call h.state a result in
            let own = course_after h.own (trace_of h.state.core (core_calls h.state a result)) a result in
            subst (λ (q : Past). IsAfter d q w')
            (past_is p e r (p.steps ++ us) (whole_trims_after (course_of p) a result) p.acknowledged p.closed p.taken (mores_whole h.state a result p.mores) p.collected (ids_after h.state a result p.read_only) (ap (λ xs. p.steps ++ xs) of.0) (ap (λ (g : List ℕ × ℕ × List ℕ × ℕ). trims_with p g.2) silent.1 ∙ trims_are p a result) (ap (λ ms. p.acknowledged ++ ms) silent.0 ∙ append-nil p.acknowledged)
            (ap (λ (g : List ℕ × ℕ × List ℕ × ℕ). p.closed ++ g.0) silent.1 ∙ append-nil p.closed) (ap (λ (g : List ℕ × ℕ × List ℕ × ℕ). p.taken + g.1) silent.1 ∙ none_more p.taken) (of.1 p.mores) (ap (λ (g : List ℕ × ℕ × List ℕ × ℕ). p.collected + g.3) silent.1 ∙ none_more p.collected) (of.2 p.read_only))
            (goes_on p w w' h (p.steps ++ us) (whole_trims_after (course_of p) a result) (ids_after h.state a result p.read_only) own (after_whole_call h.state a result) l.stands (followed_after_call (course_of p) h.own h.state a result l.may h.followed) (readers_after_call p.rows p.steps h.own.steps h.state kept p.read_only h.readers a result l.may)
            (mores_whole h.state a result p.mores) (words_after_whole_call p.rows p.steps h.own.steps h.state a result l.may kept p.mores h.words) p.collected (versions_then p.rows p.steps us p.collected w.core core h.versions (subst (λ xs. HasPutIn w.core xs core) of.0 put)) (still_closed_whole p.rows p.steps h.own.steps h.state a result l.may kept h.closed) (stays_after_whole_call p.rows p.steps h.own.steps h.state a result l.may kept)
            refl refl store p.acknowledged h.covers p.taken (h.untaken, h.room))

    -- an operation is answered
    pub answered_step : (w : WorldData D) {core : CoreData} (t : TxId) (o : Op) (a : Answer) → IsWholeStep {A = Answer} w.core (DoCall t.0 o) (Ok a) core → IsAnsweredWhole w.core t.0 o a → HasPutMore w.core (Ok a) core → IsWorldStep d w (Do t o) (Answered a) (record w { core = core })
    answered_step w {core} t o a step answer put = told w step (λ asked. (asked, answer)) (λ opening xs own s h. (answered s a (answer opening xs own s h), (λ ms. refl), append-nil)) (answer_put w.core core t.0 o a put) (refl, refl, tt)

    -- or refused
    pub unanswered_step : (w : WorldData D) {core : CoreData} (t : TxId) (o : Op) {r : Refusal} → IsWholeStep {A = Answer} w.core (DoCall t.0 o) (Err r) core → HasAsMany w.core core → IsWorldStep d w (Do t o) (Refused r) (record w { core = core })
    unanswered_step w {core} t o {r} step same = told w step (λ asked. asked) (λ opening xs own s h. (refused_is s (DoCall t.0 o) r, (λ ms. refl), append-nil)) (none_put w.core core (steps_of_refusal t.0 r) same (none_refused t.0 r)) (refl, refl, tt)

    -- a collection, over which the state stays
    pub collected : (w : WorldData D) {core : CoreData} (c : Collection) → AreFewerWhole w.core c core → StandsWholeAsBefore w.core core → HasNewVersions w.core core → HasTakenOne w.core c core → IsWorldStep d w Collect (Collected c) (record w { core = core })
    collected w {core} c counts stands versions one =
        stepped (IsReplyTo d) IsJustifiedBy w w' Collect (Collected c) (λ rows. rows)
        (record { counts = counts; stands = stands; versions = versions; rest = refl }) (λ p h. collected_so p w.core core c h.versions one (rows_held p h.own h.state core h.followed (stands p.rows p.steps h.own.steps h.state h.core))) (λ now. now) (λ now. refused_keeps d only_now w.store) (λ p h store.
        subst (λ (q : Past). IsAfter d q w') (past_is p Collect (Collected c) p.steps p.trims p.acknowledged p.closed p.taken p.mores (p.collected + collected_by Collect (Collected c)) p.read_only (append-nil p.steps) (append-nil p.trims) (append-nil p.acknowledged) (append-nil p.closed) (none_more p.taken) refl refl (append-nil p.read_only))
        (stands_on p w w' h (stands p.rows p.steps h.own.steps h.state h.core) (p.collected + collected_by Collect (Collected c)) (versions_less p w.core core c h.versions one) refl refl store p.acknowledged h.covers p.taken (h.untaken, h.room)))
      where
        w' : WorldData D
        w' = record w { core = core }

    -- a group is closed
    pub closed_step : (w : WorldData D) {core : CoreData} {ring : List GroupData} (c : closing.Closed) → IsLinked w → IsClosingInto w.core w.ring (Ok c) core ring → HasAsMany w.core core → IsWorldStep d w CloseGroup (Closed c) (record w { core = core; ring = ring })
    closed_step w {core} {ring} c linked step same =
        stepped (IsReplyTo d) IsJustifiedBy w w' CloseGroup (Closed c) (λ rows. rows) (record { closing = step; store = refl }) (λ p h. closed_so d p w h linked c w' (record { closing = step; store = refl })) (λ now. now) (λ now. refused_keeps d only_now w.store) after
      where
        w' : WorldData D
        w' = record w { core = core; ring = ring }

        after : (p : Past) (h : IsAfter d p w) → (HasHonestDisk d w → KeepsRows d w.store (after_groups p.rows h.sent)) → IsAfter d (with_event p CloseGroup (Closed c)) w'
        after p h store =
            let first = p.mark in
            let s = h.state in
            let came = step p.rows p.steps h.own.steps s h.core in
            let fits_in = came.0 in
            let g = came.1.0 in
            let there = came.1.1 in
            let now = came.1.2 in
            let call = CoreCall (Close fits (record { prev = g.prev; mark = g.mark; commits = now.commits }) false) in
            let l = now.leads in
            let kept = h.core.kept in
            let is = group_of_next p.rows h.own.steps s.core g now.commits kept.kept h.closed l.may.1 now.records now.rules in
            let wait : waiting w' ≡ waiting w ++ g ∷ [] = ap (λ (gs : List GroupData). option_to_list (pending_of w.store) ++ gs) there ∙ sym (append_assoc (option_to_list (pending_of w.store)) w.ring (g ∷ [])) in
            let list : (h.sent ++ waiting w) ++ g ∷ [] ≡ h.sent ++ waiting w' = append_assoc h.sent (waiting w) (g ∷ []) ∙ ap (λ gs. h.sent ++ gs) (sym wait) in
            let longer : length ring ≡ length w.ring + 1 = ap (λ (gs : List GroupData). length gs) there ∙ length-append w.ring (g ∷ []) in
            let more : length (p.closed ++ g.mark ∷ []) ≡ length p.closed + 1 = length-append p.closed (g.mark ∷ []) in
            let untaken = h.untaken in
            let fits_then = (closed_so d p w h linked c w' (record { closing = step; store = refl })).1 in
            let prev_is : g.prev ≡ mark_after first (h.sent ++ waiting w) =
            l.may.1.prev ∙ ap (λ (m : Marks). m.closed) h.core.core.marks
            ∙ sym (follow_to (mark_of w.store) (closed_mark_of w.core) (waiting w) linked)
            ∙ ap (λ (m : ℕ). mark_after m (waiting w)) h.mark
            ∙ sym (mark_after-append first h.sent (waiting w)) in
            subst (λ (q : Past). IsAfter d q w') (past_is p CloseGroup (Closed c) (p.steps ++ []) p.trims p.acknowledged (p.closed ++ g.mark ∷ []) p.taken p.mores p.collected p.read_only refl (append-nil p.trims) (append-nil p.acknowledged) (ap (λ n. p.closed ++ n ∷ []) (sym now.mark)) (none_more p.taken) refl (none_more p.collected) (append-nil p.read_only)) (record {
              sent = h.sent;
              own = course_after h.own (trace_of s.core (core_calls s call Accepted)) call Accepted;
              state = after_whole_call s call Accepted;
              core = l.stands;
              followed = followed_after_call (course_of p) h.own s call Accepted l.may h.followed;
              readers = readers_after_call p.rows p.steps h.own.steps s kept p.read_only h.readers call Accepted l.may;
              words = words_after_whole_call p.rows p.steps h.own.steps s call Accepted l.may kept p.mores h.words;
              versions = versions_then p.rows p.steps [] p.collected w.core core h.versions (none_put w.core core [] same refl);
              closed = still_closed_whole p.rows p.steps h.own.steps s call Accepted l.may kept h.closed;
              before = record { drawn = h.before.drawn; above = h.before.above };
              none = h.none;
              store = store;
              mark = h.mark;
              groups = subst (HaveRecordsOf (after_close s.core g.mark) first) list (groups_closed s.core g.mark first ((h.sent ++ waiting w) ++ g ∷ []) (groups_push s.core first (h.sent ++ waiting w) g h.groups prev_is is));
              marks = ap (map (λ x. x.mark)) (sym list) ∙ map-append (λ x. x.mark) (h.sent ++ waiting w) (g ∷ []) ∙ ap (λ ms. ms ++ g.mark ∷ []) h.marks;
              covers = h.covers;
              untaken = omega (arith, longer, more, untaken);
              room = omega (arith, longer, fits_then, untaken);
            })

    -- closing a group is refused
    pub unclosed_step : (w : WorldData D) {core : CoreData} {ring : List GroupData} (r : Refusal) → IsSoundWorld w → IsClosingInto w.core w.ring (Err r) core ring → HasAsMany w.core core → IsWorldStep d w CloseGroup (Refused r) (record w { core = core; ring = ring })
    unclosed_step w {core} {ring} r i step as_many =
        let same = (step i.core.opening i.core.steps i.core.own i.core.whole i.core.stands).1 in
        moved (IsReplyTo d) IsJustifiedBy w (record w { core = core; ring = ring }) CloseGroup (Refused r) (refl, refl, refl, (λ ms. refl), refl) (record { closing = step; store = refl })
        (λ p h. unclosed_so d p w h i.linked r (record w { core = core; ring = ring }) (record { closing = step; store = refl }))
        (λ p h. as_before p.rows p.steps h.own.steps h.state core ((step p.rows p.steps h.own.steps h.state h.core).0 (record { prev = 0; mark = 0; commits = [] })).stands) as_many same (ap (λ (gs : List GroupData). option_to_list (pending_of w.store) ++ gs) same) refl (λ now. now) (λ now. refused_keeps d only_now w.store)

    -- a poll
    pub polled_step : (w : WorldData D) (stamp : Stamp) (answer : Bool) → answer ≡ nat_le stamp.0 (mark_of w.store) → IsWorldStep d w (Poll stamp) (Polled answer) w
    polled_step w stamp false is = still (IsReplyTo d) IsJustifiedBy w (Poll stamp) (Polled false) (refl, refl, refl, (λ ms. refl), refl) (is, refl) (λ p h. tt)
    polled_step w stamp true is =
        stepped (IsReplyTo d) IsJustifiedBy w w (Poll stamp) (Polled true) (λ rows. rows) (is, refl) (λ p h. tt) (λ now. now) (λ now. refused_keeps d only_now w.store) (λ p h store.
        let acked = p.acknowledged ++ stamp.0 ∷ [] in
        subst (λ (q : Past). IsAfter d q w) (past_is p (Poll stamp) (Polled true) p.steps p.trims acked p.closed p.taken p.mores p.collected p.read_only (append-nil p.steps) (append-nil p.trims) refl (append-nil p.closed) (none_more p.taken) refl (none_more p.collected) (append-nil p.read_only))
        (stands_on p w w h h.core p.collected h.versions refl refl store acked (each_append (λ m. m ≤ mark_of w.store) p.acknowledged (stamp.0 ∷ []) h.covers (leb-true stamp.0 (mark_of w.store) (sym is), tt)) p.taken (h.untaken, h.room)))

  -- ---- a world that was just opened
  pub begun : (rows : Map) (w : WorldData D) → IsJustOpened rows w → (HasHonestDisk d w → KeepsRows d w.store rows) → IsAfter d (opened_over rows (mark_of w.store)) w
  begun rows w is keeps =
      let wait : waiting w ≡ [] = ap (λ (q : Option GroupData). option_to_list q ++ w.ring) is.store.pending ∙ is.ring in
      let empty : length w.ring ≡ 0 = ap (λ (gs : List GroupData). length gs) is.ring in
      record {
        sent = [];
        own = opened_course rows (mark_of w.store);
        state = opened_whole rows (mark_of w.store);
        core = record { core = is.core; kept = whole_opened rows (mark_of w.store) };
        followed = followed_opened rows (mark_of w.store);
        readers = readers_opened rows (mark_of w.store);
        words = λ t. refl;
        versions = opened_versions rows w.core is.versions;
        closed = record { drawn = omega arith; above = tt };
        before = record { drawn = omega arith; above = tt };
        none = refl;
        store = keeps;
        mark = refl;
        groups = subst (HaveRecordsOf (opened rows (mark_of w.store)) (mark_of w.store)) (sym wait) tt;
        marks = ap (map (λ x. x.mark)) wait;
        covers = (omega arith, tt);
        untaken = omega (arith, empty);
        room = omega (arith, empty);
      }
