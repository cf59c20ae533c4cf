use Rattle.std.proofs.Common.{◌≡◌, ◌⊎◌, true, false, inl, inr, ⊎_elim, Err, arith, refl}
use Rattle.mvo_types.specs.declared.refusal.Refusal.TheVariants.{Corrupt, OutOfMemory}
use Rattle.mvo_frame.specs.Reading.{step_found, segment_found}
use Rattle.mvo_frame.proofs.Walk.{head_refused}
use Rattle.mvo_pair.specs.Answers.{IsOnly}
use Rattle.mvo_pair.proofs.Loads.{tells_err}
use Rattle.mvo_recovery.specs.image.Files.{SegmentIs}
use Rattle.mvo_recovery.proofs.image.Opening.{segment_exact}
use Rattle.mvo_load.proofs.Replaying.{behind_fits, passed, replay_begun, replay_more, replay_shorter, replay_next, replay_failed, replay_short, replay_ended, replayed_fits}
use Rattle.mvo_load.proofs.put_segment.put_segment.Goals as goal

pub returns-in-Err-clause-err : goal.returns-in-Err-clause-err
returns-in-Err-clause-err c =
    let upto = c.args.upto in
    let b = c.args.bytes.now in
    tells_err (SegmentIs upto c.args.file c.args.start.0 c.args.kind b) (segment_found upto c.args.file c.args.start.0 c.args.kind b) c.in-Err.refusal (c.in-Err.refusal ≡ OutOfMemory)
    (segment_exact upto c.args.file c.args.start.0 c.args.kind b (λ i. omega (arith, c.type_inv.bytes i)))
    (inr (head_refused upto c.args.file c.args.start.0 c.args.kind b c.in-Err.refusal c.in-Err.ensures))

pub loop-writes-init : goal.loop-writes-init
loop-writes-init c =
    replay_begun c.args.upto c.in-Ok.own c.args.file c.args.start.0 c.args.bytes.now c.args.rows.now c.in-Ok.rest.now c.new-writes.result.items c.in-Ok.ensures
    (behind_fits c.args.upto c.in-Ok.own c.args.file c.args.bytes.now c.in-Ok.rest.now (λ i. omega (arith, c.type_inv.bytes i)) c.in-Ok.ensures) c.new-writes.ensures.items

pub next_group-requires : goal.next_group-requires
next_group-requires c = c.loop-writes.invariant.read.so_far.few

pub returns-in_err-group-clause-err : goal.returns-in_err-group-clause-err
returns-in_err-group-clause-err c =
    let upto = c.args.upto in
    let b = c.args.bytes.now in
    let e = c.in_err-group.field-0.0 in
    let told : (e ≡ OutOfMemory) ⊎ (step_found c.in-Ok.own c.args.file c.loop-writes.gate c.loop-writes.mark.0 c.loop-writes.rest.now ≡ Err e) = c.in_err-group.ensures.found in
    passed c.from_residual.result e (λ x. (x ≡ OutOfMemory) ⊎ IsOnly (SegmentIs upto c.args.file c.args.start.0 c.args.kind b) (Err x)) c.from_residual.ensures.1
    (tells_err (SegmentIs upto c.args.file c.args.start.0 c.args.kind b) (segment_found upto c.args.file c.args.start.0 c.args.kind b) e (e ≡ OutOfMemory)
    (segment_exact upto c.args.file c.args.start.0 c.args.kind b (λ i. omega (arith, c.type_inv.bytes i)))
    (⊎_elim (λ m. inl m) (λ h. inr (replay_failed upto c.in-Ok.own c.args.file c.args.start.0 b c.args.rows.now _ _ _ _ _ c.loop-writes.invariant c.args.kind e h)) told))

pub overflow_sub-gate : goal.overflow_sub-gate
overflow_sub-gate c =
    let short = replay_shorter c.args.upto c.in-Ok.own c.args.file c.args.start.0 c.args.bytes.now c.args.rows.now _ _ _ _ _ c.loop-writes.invariant c.in-Some.group c.in-Some.later.now (rw c.in-Some.is at c.in_ok-group.ensures.found) in
    omega (arith, short)

pub overflow_add-gate : goal.overflow_add-gate
overflow_add-gate c =
    let few = replay_next c.args.upto c.in-Ok.own c.args.file c.args.start.0 c.args.bytes.now c.args.rows.now _ _ _ _ _ c.loop-writes.invariant c.in-Some.group c.in-Some.later.now (rw c.in-Some.is at c.in_ok-group.ensures.found) in
    omega (arith, few)

pub loop-writes-smaller : goal.loop-writes-smaller
loop-writes-smaller c =
    let short = replay_shorter c.args.upto c.in-Ok.own c.args.file c.args.start.0 c.args.bytes.now c.args.rows.now _ _ _ _ _ c.loop-writes.invariant c.in-Some.group c.in-Some.later.now (rw c.in-Some.is at c.in_ok-group.ensures.found) in
    omega (arith, short)

pub loop-writes-preserved : goal.loop-writes-preserved
loop-writes-preserved c =
    rw c.mark-mark.ensures.value (replay_more c.args.upto c.in-Ok.own c.args.file c.args.start.0 c.args.bytes.now c.args.rows.now _ _ _ _ _ c.loop-writes.invariant c.in-Some.group c.in-Some.later.now _ _ _ _ (rw c.in-Some.is at c.in_ok-group.ensures.found) refl
    c.in_ok-add_writes.ensures c.in_ok-writes.ensures)

pub returns-then-not-are_enough-clause-err : goal.returns-then-not-are_enough-clause-err
returns-then-not-are_enough-clause-err c =
    let upto = c.args.upto in
    let b = c.args.bytes.now in
    let short = replay_short upto c.in-Ok.own c.args.file c.args.start.0 b c.args.rows.now _ _ _ _ _ c.loop-writes.invariant c.args.kind false (rw c.in_default.is at c.in_ok-group.ensures.found) c.if-not-are_enough.ensures refl in
    tells_err (SegmentIs upto c.args.file c.args.start.0 c.args.kind b) (segment_found upto c.args.file c.args.start.0 c.args.kind b) (Corrupt c.args.file) (Corrupt c.args.file ≡ OutOfMemory)
    (segment_exact upto c.args.file c.args.start.0 c.args.kind b (λ i. omega (arith, c.type_inv.bytes i))) (inr short)

pub returns-clause-ok : goal.returns-clause-ok
returns-clause-ok c =
    replay_ended c.args.upto c.in-Ok.own c.args.file c.args.start.0 c.args.bytes.now c.args.rows.now _ _ _ _ _ c.loop-writes.invariant c.args.kind true (rw c.in_default.is at c.in_ok-group.ensures.found) c.if-not-are_enough.ensures refl
    (λ i. omega (arith, c.type_inv.bytes i)) c.put_writes.new.rows c.in_ok-put_writes.ensures

pub returns-clause-stamp : goal.returns-clause-stamp
returns-clause-stamp c = replayed_fits c.args.upto c.args.file c.args.start.0 c.args.kind c.args.bytes.now c.args.rows.now c.put_writes.new.rows c.loop-writes.mark.0 c.loop-writes.gate (returns-clause-ok c)
