use Rattle.std.proofs.Common.{arith, ◌≡◌, ℕ, ◌+◌, ◌<◌, Bool, List, [], ◌∷◌, length, sym, ap, subst}
use Rattle.std.specs.Bool.{MatchBool}
use Rattle.mvo_group.specs.Data.{RecordData}
use Rattle.mvo_tale.specs.declared.tale_place.TalePlace.{TalePlace}
use Rattle.mvo_tale.specs.Stored.{stored_commit_of}
use Rattle.mvo_tale.specs.Slots.{open_ends}
use Rattle.mvo_tale.specs.Walk.{HasOneRecordMore, IsTooMuch}
use Rattle.std.specs.Option.{option_copied}
use Rattle.mvo_tale.specs.Forgetting.{slot_or_empty}
use Rattle.mvo_tale.proofs.Gone.{slot_is}
use Rattle.mvo_tale.proofs.DueCommits.{none_left, none_behind, due_over, none_over, opens_over, due_passed, passed_within}
use Rattle.mvo_tale.proofs.Grouping.{IsWalked, walked_first, walked_over, walked_more, next_whole, rules_whole, next_cut, rules_cut, behind_stored}
use Rattle.mvo_tale.proofs.walk.records_from.Goals as goal
use Rattle.mvo_tale.proofs.walk.records_from.Goals.{After-up_to_last, in-Skipped, in-Passed, in-Due+in_ok-add-in-Due+else-not-branch}

pub loop-place-init : goal.loop-place-init
loop-place-init c =
    subst (λ (rs : List RecordData). IsWalked c.args.tale.now c.args.prev.0 c.args.low_water.0 c.args.from c.args.from rs) (sym c.new-gathered.ensures)
    (walked_first c.args.tale.now c.args.prev.0 c.args.low_water.0 c.args.from c.requires.above c.requires.grouped)

pub returns-in-Stop-clause-next : goal.returns-in-Stop-clause-next
returns-in-Stop-clause-next c =
    next_whole c.args.tale.now c.args.prev.0 c.args.low_water.0 c.loop-place.place c.loop-place.next c.loop-place.gathered c.up_to.result c.up_to.ensures.fitting c.loop-place.invariant
    (none_left c.args.prev.0 c.args.low_water.0 c.args.tale.now c.loop-place.place (slot_or_empty (option_copied c.slot.result)) (omega arith) (slot_is c.args.tale.now c.loop-place.place (slot_or_empty (option_copied c.slot.result)) c.slot.ensures) c.in-Stop.ensures c.len-place-end.ensures.rising c.requires.preparing)
    c.up_to.ensures.records (ap (λ m. m.0) c.up_to.ensures.mark) c.up_to.ensures.next

pub returns-in-Stop-clause-rules : goal.returns-in-Stop-clause-rules
returns-in-Stop-clause-rules c =
    rules_whole c.args.tale.now c.args.prev.0 c.args.low_water.0 c.loop-place.place c.loop-place.next c.loop-place.gathered c.up_to.result c.len-place-end.ensures.rising c.requires.above c.requires.drawn c.up_to.ensures.fitting c.loop-place.invariant c.up_to.ensures.records (ap (λ m. m.0) c.up_to.ensures.mark)

-- the records stay, and the commit's doesn't fit
full : (c : After-up_to_last) → (c.add.new.self ≡ c.loop-place.gathered) × IsTooMuch (stored_commit_of c.in-Due.entry.now) c.loop-place.gathered
full c = subst (λ (b : Bool). MatchBool b (HasOneRecordMore (stored_commit_of c.in-Due.entry.now) c.loop-place.gathered c.add.new.self) ((c.add.new.self ≡ c.loop-place.gathered) × IsTooMuch (stored_commit_of c.in-Due.entry.now) c.loop-place.gathered)) c.if-not-branch.true c.in_ok-add-in-Due.ensures

too_much : (c : After-up_to_last) → IsTooMuch (stored_commit_of c.in-Due.entry.now) c.add.new.self
too_much c = let f = full c in subst (IsTooMuch (stored_commit_of c.in-Due.entry.now)) (sym f.0) f.1

walked : (c : After-up_to_last) → IsWalked c.args.tale.now c.args.prev.0 c.args.low_water.0 c.loop-place.place c.loop-place.next c.add.new.self
walked c = let f = full c in subst (IsWalked c.args.tale.now c.args.prev.0 c.args.low_water.0 c.loop-place.place c.loop-place.next) (sym f.0) c.loop-place.invariant

pub returns-then-not-branch-clause-next : goal.returns-then-not-branch-clause-next
returns-then-not-branch-clause-next c =
    next_cut c.args.tale.now c.args.prev.0 c.args.low_water.0 c.loop-place.place c.loop-place.next c.add.new.self c.up_to_last.result (slot_or_empty (option_copied c.slot.result)) c.in-Due.entry.now (omega arith) (slot_is c.args.tale.now c.loop-place.place (slot_or_empty (option_copied c.slot.result)) c.slot.ensures) c.in-Due.ensures (too_much c) c.len-place-end.ensures.rising c.up_to_last.ensures.fitting (walked c) c.up_to_last.ensures.records c.up_to_last.ensures.mark c.up_to_last.ensures.next

pub returns-then-not-branch-clause-rules : goal.returns-then-not-branch-clause-rules
returns-then-not-branch-clause-rules c =
    rules_cut c.args.tale.now c.args.prev.0 c.args.low_water.0 c.loop-place.place c.loop-place.next c.add.new.self c.up_to_last.result (stored_commit_of c.in-Due.entry.now) c.len-place-end.ensures.rising c.requires.above c.requires.drawn (too_much c) c.up_to_last.ensures.fitting (walked c) c.up_to_last.ensures.records c.up_to_last.ensures.mark

pub loop-place-preserved : goal.loop-place-preserved
loop-place-preserved c =
    let slots = c.args.tale.now in
    let prev = c.args.prev.0 in
    let low = c.args.low_water.0 in
    let place = c.loop-place.place in
    let next = c.loop-place.next in
    let rs = c.loop-place.gathered in
    let x = slot_or_empty (option_copied c.slot.result) in
    let lt : place < length slots = omega arith in
    let is = slot_is slots place x c.slot.ensures in
    let h = c.loop-place.invariant in
    elim c.match-step_at.branch [
      | in-Skipped w ↦ moved slots prev low (place + 1) next c.match-step_at.next rs c.match-step_at.gathered w.next-is w.gathered-is
          (walked_over slots prev low place next rs x lt is (due_over prev low x w.in-Skipped.ensures) (none_over low x w.in-Skipped.ensures) (opens_over x w.in-Skipped.ensures) next h.behind (let b = h.below in omega arith) h)
      | in-Passed w ↦ moved slots prev low (place + 1) (place + 1) c.match-step_at.next rs c.match-step_at.gathered w.next-is w.gathered-is
          (walked_over slots prev low place next rs x lt is (due_passed prev low x w.in-Passed.ensures) (passed_within low x w.in-Passed.ensures.commit w.in-Passed.ensures.at w.in-Passed.ensures.within) (ap (λ y. open_ends (y ∷ [])) w.in-Passed.ensures.at) (place + 1) (behind_stored slots place x w.in-Passed.ensures.commit lt is w.in-Passed.ensures.at) (omega arith) h)
      | in-Due+in_ok-add-in-Due+else-not-branch w ↦ moved slots prev low (place + 1) (place + 1) c.match-step_at.next w.add.new.self c.match-step_at.gathered w.next-is w.gathered-is
          (walked_more slots prev low place next rs w.add.new.self x w.in-Due.entry.now lt is w.in-Due.ensures
          (subst (λ (b : Bool). MatchBool b (HasOneRecordMore (stored_commit_of w.in-Due.entry.now) rs w.add.new.self) ((w.add.new.self ≡ rs) × IsTooMuch (stored_commit_of w.in-Due.entry.now) rs)) w.if-not-branch.false w.in_ok-add-in-Due.ensures)
          (behind_stored slots place x w.in-Due.entry.now lt is w.in-Due.ensures.at) h)
    ]
  where
    moved : (slots : List TalePlace) (prev low place next next' : ℕ) (rs rs' : List RecordData) → next' ≡ next → rs' ≡ rs → IsWalked slots prev low place next rs → IsWalked slots prev low place next' rs'
    moved slots prev low place next next' rs rs' e f h = subst (λ (n : ℕ). IsWalked slots prev low place n rs') (sym e) (subst (IsWalked slots prev low place next) (sym f) h)

pub returns-clause-next : goal.returns-clause-next
returns-clause-next c =
    next_whole c.args.tale.now c.args.prev.0 c.args.low_water.0 c.loop-place.place c.loop-place.next c.loop-place.gathered c.up_to-2.result c.up_to-2.ensures.fitting c.loop-place.invariant
    (none_behind c.args.prev.0 c.args.low_water.0 c.args.tale.now c.loop-place.place (omega arith))
    c.up_to-2.ensures.records (ap (λ m. m.0) c.up_to-2.ensures.mark) c.up_to-2.ensures.next

pub returns-clause-rules : goal.returns-clause-rules
returns-clause-rules c =
    rules_whole c.args.tale.now c.args.prev.0 c.args.low_water.0 c.loop-place.place c.loop-place.next c.loop-place.gathered c.up_to-2.result c.len-place-end.ensures.rising c.requires.above c.requires.drawn c.up_to-2.ensures.fitting c.loop-place.invariant c.up_to-2.ensures.records (ap (λ m. m.0) c.up_to-2.ensures.mark)
