use Rattle.std.proofs.Common.{◌≡◌, Option, Some, false, sym, ap, subst, ◌∙◌, arith}
use Rattle.mvo_pair.specs.declared.pair.Pair.{Pair}
use Rattle.mvo_store.specs.Causes.{are_too_many}
use Rattle.mvo_store.specs.Merging.{neighbours_at, HaveFiles}
use Rattle.mvo_store.proofs.Neighbours.{are_two, still_now, left_files, left_now_live}
use Rattle.mvo_store.proofs.ReadOn.{begun_safe, begun_from}
use Rattle.mvo_store.proofs.merge.reading.begin_reading.Given as given
use Rattle.mvo_store.proofs.merge.reading.begin_reading.Goals as goal
use Rattle.mvo_store.proofs.merge.reading.begin_reading.Goals.{In-Some}

-- the pairs that are read
two : (g : given.Over) (c : goal.In-Some g) → neighbours_at c.args.place c.args.manifest.now.pairs ≡ Some (c.in-Some.left, c.in-Some.right)
two g c = ap (neighbours_at c.args.place) (sym c.pairs.ensures.value) ∙ sym c.neighbours.ensures ∙ c.in-Some.is

fits : (g : given.Over) (c : goal.In-Some g) → are_too_many (Some (c.in-Some.left, c.in-Some.right)) ≡ false
fits g c = subst (λ (o : Option (Pair × Pair)). are_too_many o ≡ false) (two g c) c.requires.may.few

files : (g : given.Over) (c : goal.In-Some g) → HaveFiles c.in-Some.left
files g c = left_files c.args.manifest.now c.pairs.ensures.manifest c.args.place _ _ (still_now c.args.manifest.now c.args.place _ _ (two g c))

pub begin_pair-requires-clause-data_file : goal.begin_pair-requires-clause-data_file
begin_pair-requires-clause-data_file g c = (files g (goal.at.begin_pair-requires-clause-data_file g c).In-Some).data_file

pub begin_pair-requires-clause-delta_file : goal.begin_pair-requires-clause-delta_file
begin_pair-requires-clause-delta_file g c = (files g (goal.at.begin_pair-requires-clause-delta_file g c).In-Some).delta_file

pub returns-in-Ok-clause-safe : goal.returns-in-Ok-clause-safe
returns-in-Ok-clause-safe g c =
    let at = (goal.at.returns-in-Ok-clause-safe g c).In-Some in
    rw c.start.ensures (begun_safe c.args.manifest.now c.pairs.ensures.manifest c.args.place _ _ (two g at) _ _ c.in-Ok.reading c.in-Ok.ensures.begun c.in_ok-made.made c.in_ok-made.ensures (fits g at) (omega (arith, c.requires.may.generation)))

pub returns-in-Ok-clause-stands : goal.returns-in-Ok-clause-stands
returns-in-Ok-clause-stands g c =
    let here = (goal.at.returns-in-Ok-clause-stands g c).In-Some in
    rw c.start.ensures (λ honest x at settled are. begun_from c.args.manifest.now c.pairs.ensures.manifest c.args.place _ _ (two g here) _ _ c.in-Ok.reading c.in-Ok.ensures.begun c.in_ok-made.made c.in_ok-made.ensures honest (g.D.Disk.may_leave c.args.disk.now) x at settled are)

pub returns-in-Err-clause-stop : goal.returns-in-Err-clause-stop
returns-in-Err-clause-stop g c = λ honest x at settled are.
    let old = c.args.disk.now in
    let t = are_two (g.D.Disk.content old) (g.D.Disk.may_leave old) c.args.manifest.now x settled at are c.args.place _ _ (two g (goal.at.returns-in-Err-clause-stop g c).In-Some) in
    c.in-Err.ensures.stop honest t.live.lives.left (left_now_live t)
