use Rattle.std.proofs.Common.{◌≡◌, ℕ, ◌^◌, ◌<◌, ◌≤◌, List, length, Err, Some, rules, sym, ap, subst, ◌∙◌}
use Rattle.mvo_types.specs.declared.refusal.Refusal.TheVariants.{OutOfMemory}
use Rattle.mvo_disk.specs.Disk.{IsHonest}
use Rattle.mvo_pair.specs.Late.{AreThoseFrom}
use Rattle.mvo_pair.specs.Writing.{place_behind}
use Rattle.mvo_store.specs.declared.merge.seen_pairs.SeenPairs.{SeenPairs}
use Rattle.mvo_store.specs.Merging.{neighbours_at, AreLateNow, late_of}
use Rattle.mvo_store.proofs.CameLate.{counted_start, first_there, second_there, late_few, looks_twice}
use Rattle.mvo_store.proofs.Neighbours.{still_now, left_files, right_files}
use Rattle.mvo_store.proofs.merge.late.late_entries.Given as given
use Rattle.mvo_store.proofs.merge.late.late_entries.Goals as goal
use Rattle.mvo_store.proofs.merge.late.late_entries.Goals.{In-Some, After-renumber}

-- the two as they are now
two : (g : given.Over) (c : goal.In-Some g) → neighbours_at c.args.merge.now.seen.place c.args.manifest.now.pairs ≡ Some (c.in-Some.left, c.in-Some.right)
two g c = ap (λ (k : SeenPairs). neighbours_at k.place c.args.manifest.now.pairs) (sym c.seen.view_is) ∙ ap (neighbours_at _) (sym c.pairs.ensures.value) ∙ sym c.neighbours.ensures ∙ c.in-Some.is

pub late_numbers-requires-clause-file : goal.late_numbers-requires-clause-file
late_numbers-requires-clause-file g c = (left_files c.args.manifest.now c.pairs.ensures.manifest _ _ _ (still_now _ _ _ _ (two g (goal.at.late_numbers-requires-clause-file g c).In-Some))).delta_file

pub late_numbers-requires-clause-counted : goal.late_numbers-requires-clause-counted
late_numbers-requires-clause-counted g c = λ honest.
    let old = c.args.disk.now in
    let s = c.requires.stands honest in
    counted_start (g.D.Disk.content old) (g.D.Disk.may_leave old) c.args.manifest.now s.0 s.1.settled c.in-Some.left (first_there c.args.manifest.now _ _ _ (two g (goal.at.late_numbers-requires-clause-counted g c).In-Some))

pub late_numbers-requires-2-clause-file : goal.late_numbers-requires-2-clause-file
late_numbers-requires-2-clause-file g c = (right_files c.args.manifest.now c.pairs.ensures.manifest _ _ _ (still_now _ _ _ _ (two g (goal.at.late_numbers-requires-2-clause-file g c).In-Some))).delta_file

pub late_numbers-requires-2-clause-counted : goal.late_numbers-requires-2-clause-counted
late_numbers-requires-2-clause-counted g c = λ honest.
    let old = c.args.disk.now in
    let s = c.requires.stands (c.in-Ok.ensures.any_moment.later.honest honest) in
    let right = c.in-Some.right in
    subst (λ (b : List ℕ). place_behind right.entries ≤ length b) (sym (c.in-Ok.ensures.rest.content right.delta_file))
    (counted_start (g.D.Disk.content old) (g.D.Disk.may_leave old) c.args.manifest.now s.0 s.1.settled right (second_there c.args.manifest.now _ _ _ (two g (goal.at.late_numbers-requires-2-clause-counted g c).In-Some)))

pub returns-in-Err-late_numbers-clause-read : goal.returns-in-Err-late_numbers-clause-read
returns-in-Err-late_numbers-clause-read g c =
    let first = c.in-Ok.ensures in
    let second = c.in-Err-late_numbers.ensures in
    looks_twice g.D.Disk _ _ _ first.rest first.any_moment first.count second.rest second.any_moment _ second.count

pub returns-in_err-renumber-clause-read : goal.returns-in_err-renumber-clause-read
returns-in_err-renumber-clause-read g c =
    let first = c.in-Ok.ensures in
    let second = c.in-Ok-late_numbers.ensures in
    let is : c.from_residual.result ≡ Err OutOfMemory = search rules in
    rw is (looks_twice g.D.Disk _ _ _ first.rest first.any_moment first.count second.rest second.any_moment (Err OutOfMemory) second.count)

-- ---- what came late

are : (g : given.Over) (c : goal.After-renumber g) → IsHonest (g.D.Disk.moment c.late_numbers-2.new.disk) → AreLateNow (g.D.Disk.content c.args.disk.now) c.args.manifest.now c.args.merge.now.seen c.in-Ok.numbers.items c.in-Ok-late_numbers.numbers.items
are g c honest =
    let first = c.in-Ok.ensures in
    let second = c.in-Ok-late_numbers.ensures in
    let right = c.in-Some.right in
    record {
      first = c.in-Some.left;
      second = right;
      two = two g (goal.at.After-renumber g c).In-Some;
      left_are = subst (λ (k : SeenPairs). AreThoseFrom k.left.entries c.in-Some.left.entries (g.D.Disk.content c.args.disk.now c.in-Some.left.delta_file) c.in-Ok.numbers.items) c.seen.view_is (first.late (second.any_moment.later.honest honest));
      right_are = subst (λ (b : List ℕ). AreThoseFrom c.args.merge.now.seen.right.entries right.entries b c.in-Ok-late_numbers.numbers.items) (first.rest.content right.delta_file)
          (subst (λ (k : SeenPairs). AreThoseFrom k.right.entries right.entries (g.D.Disk.content c.late_numbers.new.disk right.delta_file) c.in-Ok-late_numbers.numbers.items) c.seen.view_is (second.late honest));
    }

pub returns-clause-late : goal.returns-clause-late
returns-clause-late g c = record {
  left = c.in-Ok.numbers.items;
  right = c.in-Ok-late_numbers.numbers.items;
  are = are g (goal.at.returns-clause-late g c).After-renumber;
  is = (rw (c.deref.ensures.value, c.deref-2.ensures.value) at c.in_ok-renumber.ensures) ∙ ap (λ (k : SeenPairs). late_of k c.in-Ok.numbers.items c.in-Ok-late_numbers.numbers.items) c.seen.view_is;
}

pub returns-clause-few : goal.returns-clause-few
returns-clause-few g c = λ honest.
    let old = c.args.disk.now in
    let s = c.requires.stands (c.in-Ok.ensures.any_moment.later.honest (c.in-Ok-late_numbers.ensures.any_moment.later.honest honest)) in
    let is = (rw (c.deref.ensures.value, c.deref-2.ensures.value) at c.in_ok-renumber.ensures) ∙ ap (λ (k : SeenPairs). late_of k c.in-Ok.numbers.items c.in-Ok-late_numbers.numbers.items) c.seen.view_is in
    subst (λ (l : List ℕ). length l < 2 ^ 32) (sym is)
    (late_few (g.D.Disk.content old) (g.D.Disk.may_leave old) c.args.manifest.now s.0 s.1.settled c.args.merge.now.seen s.1.job.work.merge c.in-Ok.numbers.items c.in-Ok-late_numbers.numbers.items (are g (goal.at.returns-clause-few g c).After-renumber honest))

pub returns-clause-read : goal.returns-clause-read
returns-clause-read g c =
    let first = c.in-Ok.ensures in
    let second = c.in-Ok-late_numbers.ensures in
    looks_twice g.D.Disk _ _ _ first.rest first.any_moment first.count second.rest second.any_moment _ second.count
