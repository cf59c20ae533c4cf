-- A world that stands after its past: what a stop leaves of it.
use Rattle.std.proofs.Common.{◌≡◌, inl, inr, ℕ, ◌≤◌, Bool, true, false, cond, List, [], ◌∷◌, ◌++◌, Option, None, Some, map, refl, sym, ap, ◌∙◌, subst, arith, append_assoc}
use Rattle.std.specs.Option.{option_to_list}
use Rattle.std.specs.List.{AllByRecursion}
use Rattle.mvo_types.specs.Keys.{Map}
use Rattle.mvo_disk.specs.declared.disk.Disk.{Ghosts}
use Rattle.mvo_disk.specs.Disk.{Image}
use Rattle.mvo_group.specs.Data.{GroupData}
use Rattle.mvo_theory.specs.State.{State}
use Rattle.mvo_theory.specs.Calls.{IsKept}
use Rattle.mvo_theory.proofs.AfterTrace.{rising_all}
use Rattle.mvo_theory.proofs.Each.{each_weaker}
use Rattle.mvo_readonly.proofs.Serials.{rows_up_to_same}
use Rattle.mvo_store.specs.Frames.{mark_after}
use Rattle.mvo_store.specs.Rows.{after_groups}
use Rattle.mvo_store.proofs.Grown.{after_groups-append}
use Rattle.mvo_store.specs.Seen.{mark_of, pending_of}
use Rattle.mvo_store.specs.StoreData.{StoreData, opening}
use Rattle.mvo_store.specs.Standing.{Gives, GivesOr, HasSlots, MayBeLeft}
use Rattle.mvo_world.specs.Past.{Past}
use Rattle.mvo_world.specs.WorldData.{WorldData, waiting, Follow}
use Rattle.mvo_core.specs.Groups.{HasRecordsOf, HaveRecordsOf}
use Rattle.mvo_world.specs.Standing.{IsOneOf, RecoversPrefix, IsAfter}
use Rattle.mvo_world.proofs.Chain.{left_by_all, rows_up_to_is, chain_rows}

-- ---- lists of groups
pub mark_after-append : (m : ℕ) (gs hs : List GroupData) → mark_after m (gs ++ hs) ≡ mark_after (mark_after m gs) hs
mark_after-append m [] hs = refl
mark_after-append m (g ∷ gs) hs = mark_after-append g.mark gs hs

pub groups_front : (s : State) (m : ℕ) (gs hs : List GroupData) → HaveRecordsOf s m (gs ++ hs) → HaveRecordsOf s m gs
groups_front s m [] hs h = tt
groups_front s m (g ∷ gs) hs h = (h.0, h.1, groups_front s g.mark gs hs h.2)

pub groups_back : (s : State) (m : ℕ) (gs hs : List GroupData) → HaveRecordsOf s m (gs ++ hs) → HaveRecordsOf s (mark_after m gs) hs
groups_back s m [] hs h = h
groups_back s m (g ∷ gs) hs h = groups_back s g.mark gs hs h.2

pub groups_push : (s : State) (m : ℕ) (gs : List GroupData) (g : GroupData) → HaveRecordsOf s m gs → g.prev ≡ mark_after m gs → HasRecordsOf s g → HaveRecordsOf s m (gs ++ g ∷ [])
groups_push s m [] g h e is = (e, is, tt)
groups_push s m (x ∷ gs) g h e is = (h.0, h.1, groups_push s x.mark gs g h.2 e is)

-- marks rise
pub marks_rise : (s : State) (m : ℕ) (gs : List GroupData) → HaveRecordsOf s m gs → m ≤ mark_after m gs
marks_rise s m [] h = omega arith
marks_rise s m (g ∷ gs) h = let a = h.1.rules.above in let e = h.0 in let r = marks_rise s g.mark gs h.2 in omega arith

one_after : (m : ℕ) (gs hs : List GroupData) → IsOneOf (mark_after m gs) (m ∷ map (λ g. g.mark) (gs ++ hs))
one_after m [] hs = inl refl
one_after m (g ∷ gs) hs = inr (one_after g.mark gs hs)

pub follow_to : (m last : ℕ) (gs : List GroupData) → Follow m gs last → mark_after m gs ≡ last
follow_to m last [] h = h
follow_to m last (g ∷ gs) h = follow_to g.mark last gs h.1

-- ---- what a stop leaves
-- the group that is being opened is the pending one
pub opening_pending : {D : Type 0} (s : StoreData D) (g : GroupData) → opening s ≡ Some g → pending_of s ≡ Some g
opening_pending s g e = go _ _ e
  where
    go : (b : Bool) (o : Option GroupData) → cond b o None ≡ Some g → o ≡ Some g
    go true o f = f
    go false o f = absurd cc

module _ {D : Type 0} (d : Ghosts D) (p : Past) (w : WorldData D) (h : IsAfter d p w) where
  abbrev s : State
  s = h.state.core

  kept : IsKept p.rows h.own.steps s
  kept = h.core.kept.kept

  prefix_of : (image : Image) → HasSlots image → (gs hs : List GroupData) → HaveRecordsOf s p.mark (gs ++ hs) → map (λ g. g.mark) (gs ++ hs) ≡ p.closed → AllByRecursion (λ m. m ≤ mark_after p.mark gs) p.acknowledged → Gives (after_groups p.rows gs) (mark_after p.mark gs) image → RecoversPrefix p image
  prefix_of image slots gs hs groups marks covers gives = record {
    slots = slots;
    rows = after_groups p.rows gs;
    mark = mark_after p.mark gs;
    gives = gives;
    prefix = record {
      rows_are = ap (λ cs. after_groups (left_by_all cs p.rows) gs) (sym h.none)
          ∙ chain_rows s p.mark gs p.rows (rising_all s kept.sound kept.started) (groups_front s p.mark gs hs groups)
          ∙ sym (rows_up_to_is (mark_after p.mark gs) p.rows h.own.steps s kept.after_trace)
          ∙ sym (rows_up_to_same p.rows p.steps h.own.steps h.state (mark_after p.mark gs) h.core.kept);
      known = subst (λ (ms : List ℕ). IsOneOf (mark_after p.mark gs) (p.mark ∷ ms)) marks (one_after p.mark gs hs);
      covers = covers;
    };
  }

  without : (image : Image) → HasSlots image → Gives (after_groups p.rows h.sent) (mark_of w.store) image → RecoversPrefix p image
  without image slots gives =
      prefix_of image slots h.sent (waiting w) h.groups h.marks (subst (λ (m : ℕ). AllByRecursion (λ n. n ≤ m) p.acknowledged) h.mark h.covers)
      (subst (λ (m : ℕ). Gives (after_groups p.rows h.sent) m image) h.mark gives)

  with_opening : (image : Image) → HasSlots image → (g : GroupData) → pending_of w.store ≡ Some g → Gives (after_groups (after_groups p.rows h.sent) (g ∷ [])) g.mark image → RecoversPrefix p image
  with_opening image slots g e gives =
      let wait : waiting w ≡ g ∷ w.ring = ap (λ (q : Option GroupData). option_to_list q ++ w.ring) e in
      let list : h.sent ++ waiting w ≡ (h.sent ++ g ∷ []) ++ w.ring = ap (λ (gs : List GroupData). h.sent ++ gs) wait ∙ sym (append_assoc h.sent (g ∷ []) (w.ring)) in
      let groups = subst (HaveRecordsOf s p.mark) list h.groups in
      let last : mark_after p.mark (h.sent ++ g ∷ []) ≡ g.mark = mark_after-append p.mark h.sent (g ∷ []) in
      let up : mark_after p.mark h.sent ≤ g.mark = marks_rise s (mark_after p.mark h.sent) (g ∷ []) (groups_back s p.mark h.sent (g ∷ []) (groups_front s p.mark (h.sent ++ g ∷ []) (w.ring) groups)) in
      prefix_of image slots (h.sent ++ g ∷ []) (w.ring) groups (ap (map (λ x. x.mark)) (sym list) ∙ h.marks)
      (each_weaker (λ n. n ≤ mark_of w.store) (λ n. n ≤ mark_after p.mark (h.sent ++ g ∷ [])) (λ n le. omega (arith, le, h.mark, up, last)) p.acknowledged h.covers)
      (subst (λ (m : ℕ). Gives (after_groups p.rows (h.sent ++ g ∷ [])) m image) (sym last)
      (subst (λ (rows : Map). Gives rows g.mark image) (sym (after_groups-append p.rows h.sent (g ∷ []))) gives))

  with_or_without : (image : Image) → HasSlots image → (o : Option GroupData) → opening w.store ≡ o → GivesOr (after_groups p.rows h.sent) (mark_of w.store) o image → RecoversPrefix p image
  with_or_without image slots None e gives = without image slots gives
  with_or_without image slots (Some g) e (inl gives) = without image slots gives
  with_or_without image slots (Some g) e (inr gives) = with_opening image slots g (opening_pending w.store g e) gives

  pub prefix_image : (image : Image) → MayBeLeft (after_groups p.rows h.sent) (mark_of w.store) (opening w.store) image → RecoversPrefix p image
  prefix_image image left = with_or_without image left.slots (opening w.store) refl left.gives
