-- The store under its lock stays sound, and what a stop leaves of it.
use Rattle.std.proofs.Common.{◌≡◌, inl, inr, ℕ, ◌≤◌, List, [], ◌∷◌, ◌++◌, Option, None, Some, Result, Ok, Err, refl, sym, ap, ◌∙◌, subst, arith, append-nil}
use Rattle.std.specs.Prelude.{OnOk, max}
use Rattle.std.proofs.Math.Nat.{max-le}
use Rattle.std.specs.Option.{option_to_list}
use Rattle.mvo_types.specs.declared.refusal.Refusal.{Refusal}
use Rattle.mvo_types.specs.Keys.{Map}
use Rattle.mvo_disk.specs.declared.disk.Disk.{Ghosts}
use Rattle.mvo_disk.specs.Disk.{Image, AllOf, IsHonest}
use Rattle.mvo_group.specs.Data.{GroupData}
use Rattle.mvo_group.specs.Rules.{IsGroup}
use Rattle.mvo_store.specs.Rows.{after_groups}
use Rattle.mvo_store.proofs.Grown.{after_groups-append}
use Rattle.mvo_store.specs.Seen.{disk_of, mark_of, pending_of}
use Rattle.mvo_store.specs.StoreData.{StoreData, opening}
use Rattle.mvo_store.specs.Standing.{Gives, GivesOr, FollowsMark, HasSlots, KeepsRows, KeepsAllRows, IsKeeping, after_taken}
use Rattle.mvo_store.specs.Calls.{AnswersCall, StoreStep, IsStoreStep}
use Rattle.mvo_store.specs.Calls.StoreStep.{Call}
use Rattle.mvo_store.specs.declared.jobs.due.Due.TheVariants.{Install}
use Rattle.mvo_store.specs.declared.install.install_step.InstallStep.TheVariants.{Close}
use Rattle.mvo_store.specs.declared.call.StoreCall.{StoreCall}
use Rattle.mvo_store.specs.declared.call.StoreCall.TheVariants.{AppendOpen, Step}
use Rattle.mvo_store.specs.declared.done.Done.TheVariants.{Durable}
use Rattle.mvo_store.proofs.Taken.{KeepsTaken, IsQuiet, left_taken, quiet_taken, quiet_rows, refused_rows}
use Rattle.mvo_world.proofs.Standing.{mark_after-append, opening_pending}
use Rattle.mvo_engine.specs.run.Opening.{Opening}
use Rattle.mvo_engine.specs.Opening.{WasFormatted}
use Rattle.mvo_engine.specs.Sound.{IsSoundStore, GivesReceived, LeavesReceived, last_mark}

pub on_ok : {A E : Type 0} (result : Result A E) (P : Type 0) → P → OnOk result P
on_ok (Ok a) P p = p
on_ok (Err e) P p = tt

module _ {D : Type 0} (d : Ghosts D) {o : Opening} {s : StoreData D} {received : List GroupData} (i : IsSoundStore d o s received) where
  -- over the rows that the run opened with, by what is durable and what was received
  so_far : {t : StoreData D} {received' : List GroupData} (durable : List GroupData) → received' ≡ durable ++ option_to_list (pending_of t) → mark_of t ≡ last_mark durable → FollowsMark (mark_of t) (pending_of t) → (IsHonest (d.moment (disk_of t)) → IsHonest (d.moment (disk_of s))) → (IsHonest (d.moment (disk_of t)) → WasFormatted o → KeepsRows d t (after_groups i.rows durable)) → IsSoundStore d o t received'
  so_far durable received_is mark_is follows was keeps = record { rows = i.rows; mark = i.mark; gives = i.gives; durable = durable; received_is = received_is; mark_is = mark_is; follows = follows; was = λ now. i.was (was now); keeps = keeps }

  -- over a step that takes no group and makes none durable
  kept : (t : StoreData D) → KeepsTaken s t → (IsHonest (d.moment (disk_of t)) → IsHonest (d.moment (disk_of s))) → (IsHonest (d.moment (disk_of t)) → KeepsAllRows d s t) → IsSoundStore d o t received
  kept t taken was keeps =
      so_far i.durable (i.received_is ∙ ap (λ (o : Option GroupData). i.durable ++ option_to_list o) (sym taken.pending)) (taken.mark ∙ i.mark_is)
      (subst (λ (o : Option GroupData). FollowsMark (mark_of t) o) (sym taken.pending) (subst (λ (m : ℕ). FollowsMark m (pending_of s)) (sym taken.mark) i.follows))
      was
      (λ now slots. (keeps now).keeps (after_groups i.rows i.durable) (i.keeps (was now) slots))

  -- the groups that were received are those that are durable, where none is being appended
  received_all : pending_of s ≡ None → received ≡ i.durable
  received_all none = i.received_is ∙ ap (λ (o : Option GroupData). i.durable ++ option_to_list o) none ∙ append-nil i.durable

  -- so the next one begins at the store's mark
  pub next_follows : pending_of s ≡ None → (g : GroupData) → g.prev ≡ last_mark received → g.prev ≡ mark_of s
  next_follows none g is = is ∙ ap last_mark (received_all none) ∙ sym i.mark_is

  -- over the taking of a group
  pub taken_in : (t : StoreData D) (received' : List GroupData) (g : GroupData) → IsGroup g → pending_of s ≡ None → received' ≡ received ++ g ∷ [] → pending_of t ≡ Some g → mark_of t ≡ mark_of s → g.prev ≡ mark_of s → (IsHonest (d.moment (disk_of t)) → IsHonest (d.moment (disk_of s))) → (IsHonest (d.moment (disk_of t)) → KeepsAllRows d s t) → IsSoundStore d o t received'
  taken_in t received' g is none there pending mark prev was keeps =
      so_far i.durable (there ∙ ap (λ (gs : List GroupData). gs ++ g ∷ []) (received_all none) ∙ ap (λ (o : Option GroupData). i.durable ++ option_to_list o) (sym pending)) (mark ∙ i.mark_is)
      (subst (FollowsMark (mark_of t)) (sym pending) (prev ∙ sym mark, is))
      was
      (λ now slots. (keeps now).keeps (after_groups i.rows i.durable) (i.keeps (was now) slots))

  -- over the opening of a group's gate
  pub appended : (t : StoreData D) (g : GroupData) → pending_of s ≡ Some g → mark_of t ≡ g.mark → pending_of t ≡ None → (IsHonest (d.moment (disk_of t)) → IsHonest (d.moment (disk_of s))) → (IsHonest (d.moment (disk_of t)) → IsKeeping d (λ rows. after_taken rows (pending_of s)) s t) → IsSoundStore d o t received
  appended t g there mark none was keeps =
      so_far (i.durable ++ g ∷ [])
      (i.received_is ∙ ap (λ (o : Option GroupData). i.durable ++ option_to_list o) there ∙ sym (append-nil (i.durable ++ g ∷ [])) ∙ ap (λ (o : Option GroupData). (i.durable ++ g ∷ []) ++ option_to_list o) (sym none))
      (mark ∙ sym (mark_after-append 0 i.durable (g ∷ [])))
      (subst (FollowsMark (mark_of t)) (sym none) tt)
      was
      (λ now slots. subst (KeepsRows d t) (ap (after_taken (after_groups i.rows i.durable)) there ∙ sym (after_groups-append i.rows i.durable (g ∷ []))) ((keeps now).keeps (after_groups i.rows i.durable) (i.keeps (was now) slots)))

  -- ---- what a stop leaves
  module _ (now : IsHonest (d.moment (disk_of s))) (left : Image) (slots : HasSlots left) where
    without : Gives (after_groups i.rows i.durable) (mark_of s) left → GivesReceived o received (mark_of s) left
    without gives = record {
      rows = i.rows;
      mark = i.mark;
      opened = (i.gives (i.was now)).gives;
      front = i.durable;
      behind = option_to_list (pending_of s);
      received_is = i.received_is;
      slots = slots;
      gives = subst (λ (m : ℕ). Gives (after_groups i.rows i.durable) m left) i.mark_is gives;
      covers = let at = i.mark_is in omega (arith, at);
    }

    with_opening : (g : GroupData) → pending_of s ≡ Some g → mark_of s ≤ g.mark → Gives (after_groups (after_groups i.rows i.durable) (g ∷ [])) g.mark left → GivesReceived o received (mark_of s) left
    with_opening g there up gives =
        let last : last_mark (i.durable ++ g ∷ []) ≡ g.mark = mark_after-append 0 i.durable (g ∷ []) in
        record {
          rows = i.rows;
          mark = i.mark;
          opened = (i.gives (i.was now)).gives;
          front = i.durable ++ g ∷ [];
          behind = [];
          received_is = i.received_is ∙ ap (λ (o : Option GroupData). i.durable ++ option_to_list o) there ∙ sym (append-nil (i.durable ++ g ∷ []));
          slots = slots;
          gives = subst (λ (m : ℕ). Gives (after_groups i.rows (i.durable ++ g ∷ [])) m left) (sym last)
              (subst (λ (rows : Map). Gives rows g.mark left) (sym (after_groups-append i.rows i.durable (g ∷ []))) gives);
          covers = omega (arith, last, up);
        }

  pub above : (g : GroupData) → pending_of s ≡ Some g → mark_of s ≤ g.mark
  above g there =
      let f : FollowsMark (mark_of s) (Some g) = subst (FollowsMark (mark_of s)) there i.follows in
      let prev = f.0 in
      let lt = f.1.rules.above in
      omega (arith, prev, lt)

  with_or_without : IsHonest (d.moment (disk_of s)) → (left : Image) → HasSlots left → (q : Option GroupData) → opening s ≡ q → GivesOr (after_groups i.rows i.durable) (mark_of s) q left → GivesReceived o received (mark_of s) left
  with_or_without now left slots None e gives = without now left slots gives
  with_or_without now left slots (Some g) e (inl gives) = without now left slots gives
  with_or_without now left slots (Some g) e (inr gives) =
      let there = opening_pending s g e in
      with_opening now left slots g there (above g there) gives

  pub received_image : IsHonest (d.moment (disk_of s)) → WasFormatted o → (left : Image) → AllOf (d.may_leave (disk_of s)) left → GivesReceived o received (mark_of s) left
  received_image now slots left of =
      let may = (i.keeps now slots).images left of in
      with_or_without now left may.slots (opening s) refl may.gives

  pub leaves : LeavesReceived d o received s
  leaves = record { was = i.was; images = received_image }

-- the seat and the ring beside it stay over a step that takes no group and makes none durable
module _ {D : Type 0} (d : Ghosts D) {o : Opening} {s t : StoreData D} {received : List GroupData} {published : ℕ} {P Q : Type 0} (i : IsSoundStore d o s received × P × (published ≤ mark_of s) × Q) where
  stays_kept : KeepsTaken s t → (IsHonest (d.moment (disk_of t)) → IsHonest (d.moment (disk_of s))) → (IsHonest (d.moment (disk_of t)) → KeepsAllRows d s t) → IsSoundStore d o t received × P × (published ≤ mark_of t) × Q
  stays_kept taken was keeps =
      let p = i.2 in
      let m = taken.mark in
      (kept d i.0 t taken was keeps, i.1, omega (arith, m, p), i.3)

  pub stays_quiet : {A : Type 0} {call : StoreStep} {result : Result A Refusal} → IsStoreStep d s call result t → IsQuiet call → IsSoundStore d o t received × P × (published ≤ mark_of t) × Q
  stays_quiet {A} {call} {result} h quiet = stays_kept (quiet_taken d s call result t quiet h.comes) h.honest (quiet_rows d s call result t quiet h)

  pub stays_refused : {A : Type 0} {call : StoreStep} {e : Refusal} → IsStoreStep {A = A} d s call (Err e) t → IsSoundStore d o t received × P × (published ≤ mark_of t) × Q
  stays_refused {A} {call} {e} h = stays_kept (left_taken d call e s t h.comes.left) h.honest (refused_rows A d s call e t h)

  -- and over the opening of a group's gate, whose mark is published
  pub stays_durable : (call : StoreCall) (n : ℕ) → IsStoreStep d s (Call call) (Ok (Durable n)) t → AnswersCall d s call (Durable n) t → IsSoundStore d o t received × P × (max published n ≤ mark_of t) × Q
  stays_durable AppendOpen n h is =
      let made = h.comes.made.makes in
      let up = above d i.0 made.group made.there in
      let at = ap (λ (y : StoreData D). mark_of y) made.after in
      let p = i.2 in
      let old : published ≤ mark_of t = omega (arith, p, up, at) in
      let now : n ≤ mark_of t = omega (arith, is) in
      (appended d i.0 t made.group made.there at (ap (λ (y : StoreData D). pending_of y) made.after) h.honest h.keeps, i.1, max-le old now, i.3)
  stays_durable (Step (Install Close)) n h is = absurd is
  stays_durable call n h is = absurd is
