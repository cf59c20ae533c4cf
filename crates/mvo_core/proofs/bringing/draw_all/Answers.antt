use Rattle.std.proofs.Common.{◌≡◌, ◌+◌, ◌∙◌, take, sym, subst, arith}
use Rattle.mvo_txn.specs.Txns.{state_of}
use Rattle.mvo_core.specs.Fronts.{comes_at_draw, IsInFrontIf, AreInFront}
use Rattle.mvo_core.proofs.Awaiting.{IsAwaitedTo, awaited_first, awaited_more, awaited_same, awaited_last}
use Rattle.mvo_core.proofs.Fronting.{front_first, front_more, front_same, front_all}
use Rattle.mvo_core.proofs.bringing.draw_all.Goals as goal
use Rattle.mvo_core.proofs.bringing.draw_all.Goals.{in-Some, in_default}

pub loop-place-init : goal.loop-place-init
loop-place-init c = record {
  fronts = front_first (comes_at_draw (state_of c.args.table.now) c.args.tx.0) c.args.versions.now;
  waits = awaited_first c.args.waiting.now c.args.end c.args.writes.now.words c.requires;
}

pub await_end-requires : goal.await_end-requires
await_end-requires c =
    let room = c.loop-place.invariant.waits.room in
    let count = c.word_count-place-end.ensures in
    omega (arith, room, count)

pub loop-place-preserved : goal.loop-place-preserved
loop-place-preserved c =
    let words = c.args.writes.now.words in
    let test = comes_at_draw (state_of c.args.table.now) c.args.tx.0 in
    elim c.match-word_at.branch [
      | in-Some w ↦
          record {
            fronts =
                subst (λ v. AreInFront test c.args.versions.now v (take (c.loop-place.place + 1) words)) (sym w.versions-is)
                (front_more test c.args.versions.now c.loop-place.versions w.bring_unstamped.new.versions words c.loop-place.place w.in-Some.word
                c.loop-place.invariant.fronts (sym c.word_at.ensures ∙ w.in-Some.is)
                (subst (IsInFrontIf test c.loop-place.versions w.bring_unstamped.new.versions) w.number_of.ensures w.bring_unstamped.ensures));
            waits =
                subst (λ v. IsAwaitedTo c.args.waiting.now v c.args.end words (c.loop-place.place + 1)) (sym w.waiting-is)
                (awaited_more c.args.waiting.now c.loop-place.waiting w.await_end.new.waiting c.args.end words c.loop-place.place w.in-Some.word
                c.loop-place.invariant.waits (sym c.word_at.ensures ∙ w.in-Some.is) w.await_end.ensures.waits w.await_end.ensures.room);
          }
      | in_default w ↦
          record {
            fronts =
                subst (λ v. AreInFront test c.args.versions.now v (take (c.loop-place.place + 1) words)) (sym w.versions-is)
                (front_same test c.args.versions.now c.loop-place.versions words c.loop-place.place c.loop-place.invariant.fronts (sym c.word_at.ensures ∙ w.in_default.is));
            waits =
                subst (λ v. IsAwaitedTo c.args.waiting.now v c.args.end words (c.loop-place.place + 1)) (sym w.waiting-is)
                (awaited_same c.args.waiting.now c.loop-place.waiting c.args.end words c.loop-place.place c.loop-place.invariant.waits (sym c.word_at.ensures ∙ w.in_default.is));
          }
    ]

pub returns-clause-fronts : goal.returns-clause-fronts
returns-clause-fronts c =
    let e : c.loop-place.place ≡ c.word_count-place-end.result = omega arith in
    front_all (comes_at_draw (state_of c.args.table.now) c.args.tx.0) c.args.versions.now c.loop-place.versions c.args.writes.now.words c.loop-place.place (e ∙ c.word_count-place-end.ensures) c.loop-place.invariant.fronts

pub returns-clause-waits : goal.returns-clause-waits
returns-clause-waits c =
    let e : c.loop-place.place ≡ c.word_count-place-end.result = omega arith in
    awaited_last c.args.waiting.now c.loop-place.waiting c.args.end c.args.writes.now.words c.loop-place.place (e ∙ c.word_count-place-end.ensures) c.loop-place.invariant.waits
