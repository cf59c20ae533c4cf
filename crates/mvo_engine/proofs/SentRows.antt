-- The opening rows followed by the sent groups, and then by the commits that are in no group yet,
-- are the rows after the whole history.
use Rattle.std.proofs.Common.{◌≡◌, ℕ, ◌≤◌, ◌<◌, Bool, true, false, cond, List, [], ◌∷◌, ◌++◌, refl, sym, ap, ◌∙◌, subst, arith}
use Rattle.std.specs.Prelude.{nat_le, ◌&&◌}
use Rattle.std.specs.List.{AllByRecursion, filter}
use Rattle.std.proofs.lemmas.Bool.{le-leb}
use Rattle.std.proofs.lemmas.List.{append_assoc}
use Rattle.mvo_types.specs.Keys.{Map}
use Rattle.mvo_model.specs.History.{after_history}
use Rattle.mvo_model.specs.Trace.{Step}
use Rattle.mvo_disk.specs.declared.disk.Disk.{Ghosts}
use Rattle.mvo_disk.specs.Disk.{Image}
use Rattle.mvo_engine.specs.run.Opening.{Opening}
use Rattle.mvo_group.specs.Data.{GroupData}
use Rattle.mvo_theory.specs.State.{State, StampedTx, Marks, timeline, after_settled}
use Rattle.mvo_theory.specs.Marks.{Commit, settled_to}
use Rattle.mvo_theory.specs.Sound.{IsRising, IsPast, IsPlaced}
use Rattle.mvo_theory.specs.AfterTrace.{IsAfterTrace}
use Rattle.mvo_theory.proofs.Each.{each_append, each_weaker}
use Rattle.mvo_theory.proofs.Trim.{after_settled-append}
use Rattle.mvo_readonly.proofs.Serials.{whole_is_serial}
use Rattle.mvo_core.specs.Data.{CoreData}
use Rattle.mvo_core.specs.Groups.{HaveRecordsOf}
use Rattle.mvo_store.specs.Frames.{mark_after}
use Rattle.mvo_store.specs.Rows.{after_groups}
use Rattle.mvo_store.specs.Seen.{mark_of}
use Rattle.mvo_world.proofs.Chain.{left_by_all, left_by_all-append, is_after, chain_rows, parts}
use Rattle.mvo_engine.specs.Sound.{IsSoundCore, GivesReceived, LeavesReceived, last_mark}
use Rattle.mvo_engine.specs.States.{StoreState}
use Rattle.mvo_engine.specs.Audited.{after_commits, not_sent, AgreesWithHistory, tale_rows, GivesSent, IsAudited}

same_walk : (cs : List Commit) (m : Map) → after_commits cs m ≡ left_by_all cs m
same_walk [] m = refl
same_walk (c ∷ cs) m = same_walk cs (after_history c.1 m)

-- all that is settled, where none ends above the mark
whole : (n : ℕ) (xs : List StampedTx) (m : Map) → AllByRecursion (λ (x : StampedTx). x.end ≤ n) xs → left_by_all (settled_to n xs) m ≡ after_settled xs m
whole n [] m h = refl
whole n (x ∷ xs) m h =
    ap (λ (b : Bool). left_by_all (cond (x.settled && b) ((x.end, x.history) ∷ settled_to n xs) (settled_to n xs)) m) (le-leb x.end n h.0) ∙ go x.settled (λ k. whole n xs k h.1)
  where
    go : (b : Bool) → ((k : Map) → left_by_all (settled_to n xs) k ≡ after_settled xs k) → left_by_all (cond (b && true) ((x.end, x.history) ∷ settled_to n xs) (settled_to n xs)) m ≡ after_settled xs (after_history (cond b x.history []) m)
    go true ih = ih (after_history x.history m)
    go false ih = ih m

agrees : (opening : Map) (steps : List Step) (s : State) (sent : List GroupData) → IsAfterTrace opening steps s → IsRising (timeline s) → AllByRecursion (λ (x : StampedTx). x.end ≤ s.clock) (timeline s) → settled_to 0 (timeline s) ≡ [] → HaveRecordsOf s 0 sent → mark_after 0 sent ≤ s.clock → AgreesWithHistory opening s sent
agrees opening steps s sent trace up ends none groups drawn =
    let line = timeline s in
    let m = mark_after 0 sent in
    let all = settled_to s.clock line in
    let sent_rows = ap (λ (cs : List Commit). after_groups (left_by_all cs opening) sent) (sym none) ∙ chain_rows s 0 sent opening up groups in
    same_walk (not_sent s sent) (after_groups opening sent)
    ∙ (ap (left_by_all (filter (is_after m) all)) sent_rows
    ∙ (sym (left_by_all-append (settled_to m line) (filter (is_after m) all) opening)
    ∙ (ap (λ (cs : List Commit). left_by_all cs opening) (sym (parts m s.clock line drawn up))
    ∙ (whole s.clock line opening ends
    ∙ (after_settled-append s.past s.stamped opening
    ∙ ap (after_settled s.stamped) (sym trace.base))))))

-- ---- the rows up to a mark that isn't below the start of the tale
settled_to-append : (m : ℕ) (xs ys : List StampedTx) → settled_to m (xs ++ ys) ≡ settled_to m xs ++ settled_to m ys
settled_to-append m [] ys = refl
settled_to-append m (x ∷ xs) ys = go (x.settled && nat_le x.end m) (settled_to-append m xs ys)
  where
    go : (b : Bool) → settled_to m (xs ++ ys) ≡ settled_to m xs ++ settled_to m ys → cond b ((x.end, x.history) ∷ settled_to m (xs ++ ys)) (settled_to m (xs ++ ys)) ≡ cond b ((x.end, x.history) ∷ settled_to m xs) (settled_to m xs) ++ settled_to m ys
    go true e = ap (λ (cs : List Commit). (x.end, x.history) ∷ cs) e
    go false e = e

from_start : (m : ℕ) (opening : Map) (steps : List Step) (s : State) → IsAfterTrace opening steps s → AllByRecursion (λ (x : StampedTx). x.end ≤ m) s.past → left_by_all (settled_to m (timeline s)) opening ≡ tale_rows m s
from_start m opening steps s trace past =
    ap (λ (cs : List Commit). left_by_all cs opening) (settled_to-append m s.past s.stamped)
    ∙ (left_by_all-append (settled_to m s.past) (settled_to m s.stamped) opening
    ∙ (ap (left_by_all (settled_to m s.stamped)) (whole m s.past opening past ∙ sym trace.base)
    ∙ sym (same_walk (settled_to m s.stamped) s.base)))

records_of_front : (s : State) (mark : ℕ) (front behind : List GroupData) → HaveRecordsOf s mark (front ++ behind) → HaveRecordsOf s mark front
records_of_front s mark [] behind h = tt
records_of_front s mark (g ∷ gs) behind h = (h.0, h.1, records_of_front s g.mark gs behind h.2)

-- none ends at 0
none_first : (xs : List StampedTx) → AllByRecursion (λ (x : StampedTx). x.id < x.end) xs → settled_to 0 xs ≡ []
none_first [] h = refl
none_first (x ∷ xs) h = ap (λ (b : Bool). cond (x.settled && b) ((x.end, x.history) ∷ settled_to 0 xs) (settled_to 0 xs)) (above x.end (let lt = h.0 in omega (arith, lt))) ∙ go x.settled (none_first xs h.1)
  where
    above : (n : ℕ) → 0 < n → nat_le n 0 ≡ false
    above n lt = grind (arith, lt)

    go : (b : Bool) → settled_to 0 xs ≡ [] → cond (b && false) ((x.end, x.history) ∷ settled_to 0 xs) (settled_to 0 xs) ≡ []
    go true ih = ih
    go false ih = ih

-- those up to the start end below those above it
rising_line : (start : ℕ) (xs ys : List StampedTx) → AllByRecursion (IsPast start) xs → IsRising xs → AllByRecursion (λ (y : StampedTx). start < y.end) ys → IsRising ys → IsRising (xs ++ ys)
rising_line start [] ys past up later up' = up'
rising_line start (x ∷ xs) ys past up later up' =
    let until = past.0.until in
    (each_append (λ (y : StampedTx). x.end < y.end) xs ys up.0 (each_weaker (λ (y : StampedTx). start < y.end) (λ (y : StampedTx). x.end < y.end) (λ y p. omega (arith, p, until)) ys later), rising_line start xs ys past.1 up.1 later up')

module _ {o : Opening} {c : CoreData} {sent : List GroupData} (i : IsSoundCore o c sent) where
  begun : AllByRecursion (λ (x : StampedTx). x.id < x.end) (timeline i.whole.core)
  begun =
      each_append (λ (x : StampedTx). x.id < x.end) i.whole.core.past i.whole.core.stamped
      (each_weaker (IsPast i.whole.core.start) (λ (x : StampedTx). x.id < x.end) (λ x p. p.begun) i.whole.core.past i.stands.core.kept.started.past)
      (each_weaker (IsPlaced i.whole.core.stamped i.whole.core.clock) (λ (x : StampedTx). x.id < x.end) (λ x p. p.begun) i.whole.core.stamped i.stands.core.kept.sound.placed)

  drawn : AllByRecursion (λ (x : StampedTx). x.end ≤ i.whole.core.clock) (timeline i.whole.core)
  drawn =
      let started = i.stands.core.kept.started in
      each_append (λ (x : StampedTx). x.end ≤ i.whole.core.clock) i.whole.core.past i.whole.core.stamped
      (each_weaker (IsPast i.whole.core.start) (λ (x : StampedTx). x.end ≤ i.whole.core.clock) (λ x p. let le = p.until in let up = started.drawn in omega (arith, le, up)) i.whole.core.past started.past)
      (each_weaker (IsPlaced i.whole.core.stamped i.whole.core.clock) (λ (x : StampedTx). x.end ≤ i.whole.core.clock) (λ x p. p.drawn) i.whole.core.stamped i.stands.core.kept.sound.placed)

  rising : IsRising (timeline i.whole.core)
  rising =
      let started = i.stands.core.kept.started in
      rising_line i.whole.core.start i.whole.core.past i.whole.core.stamped started.past started.rising started.later i.stands.core.kept.sound.rising

  pub sent_agrees : AgreesWithHistory i.rows i.whole.core sent
  sent_agrees =
      let last = i.last in
      let marks = ap (λ (m : Marks). m.closed) i.stands.core.marks in
      let closed = i.closed.drawn in
      agrees i.rows i.own i.whole.core sent i.stands.core.kept.after_trace rising drawn (none_first (timeline i.whole.core) begun) i.groups (omega (arith, last, marks, closed))

  -- a beginning of the groups leaves the tale's rows up to its mark
  front_rows : (front behind : List GroupData) → sent ≡ front ++ behind → i.whole.core.start ≤ last_mark front → after_groups i.rows front ≡ tale_rows (last_mark front) i.whole.core
  front_rows front behind is above =
      let s = i.whole.core in
      let past = i.stands.core.kept.started.past in
      ap (λ (cs : List Commit). after_groups (left_by_all cs i.rows) front) (sym (none_first (timeline s) begun))
      ∙ (chain_rows s 0 front i.rows rising (records_of_front s 0 front behind (subst (HaveRecordsOf s 0) is i.groups))
      ∙ from_start (last_mark front) i.rows i.own s i.stands.core.kept.after_trace (each_weaker (IsPast s.start) (λ (x : StampedTx). x.end ≤ last_mark front) (λ x p. let le = p.until in omega (arith, le, above)) s.past past))

  image_sent : (least : ℕ) (image : Image) (g : GivesReceived o sent least image) → g.rows ≡ i.rows → GivesSent o i.rows i.whole.core sent least image
  image_sent least image g same = record {
    gives = g;
    rows_are = same;
    tale = λ above. ap (λ (r : Map). after_groups r g.front) same ∙ front_rows g.front g.behind g.received_is above;
  }

  -- what is known with both locks
  pub audited : {D : Type 0} (d : Ghosts D) (made raised : ℕ) (st : StoreState D) (behind : List GroupData) → st.received ++ behind ≡ sent → LeavesReceived d o st.received st.store → IsAudited d o (record { core = c; sends = record { sent = sent; raised = raised }; made = made }) st
  audited d made raised st behind begins leaves = record {
    behind = behind;
    begins = begins;
    rows = i.rows;
    mark = i.mark;
    gives = i.gives;
    steps = i.steps;
    own = i.own;
    whole = i.whole;
    stands = i.stands;
    serial = whole_is_serial i.rows i.steps i.own i.whole i.stands.kept;
    groups = i.groups;
    agrees = sent_agrees;
    images = λ now slots left of.
        let g = leaves.images now slots left of in
        image_sent (mark_of st.store) left (record {
          rows = g.rows;
          mark = g.mark;
          opened = g.opened;
          front = g.front;
          behind = g.behind ++ behind;
          received_is = sym begins ∙ ap (λ (gs : List GroupData). gs ++ behind) g.received_is ∙ append_assoc g.front g.behind behind;
          slots = g.slots;
          gives = g.gives;
          covers = g.covers;
        }) ((i.gives (leaves.was now)).no_other g.rows g.mark g.opened).0;
  }
