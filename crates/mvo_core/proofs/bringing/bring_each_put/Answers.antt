use Rattle.std.proofs.Common.{◌≡◌, ◌+◌, ◌∙◌, take, sym, subst, arith}
use Rattle.mvo_representation.specs.Order.{is_put_by}
use Rattle.mvo_core.specs.Fronts.{IsInFrontIf, AreInFront}
use Rattle.mvo_core.proofs.Fronting.{front_first, front_more, front_same, front_all}
use Rattle.mvo_core.proofs.bringing.bring_each_put.Goals as goal
use Rattle.mvo_core.proofs.bringing.bring_each_put.Goals.{in-Some, in_default}

pub loop-place-init : goal.loop-place-init
loop-place-init c = front_first (is_put_by c.args.tx.0) c.args.versions.now

pub loop-place-preserved : goal.loop-place-preserved
loop-place-preserved c =
    let words = c.args.writes.now.words in
    elim c.match-word_at.branch [
      | in-Some w ↦
          subst (λ v. AreInFront (is_put_by c.args.tx.0) c.args.versions.now v (take (c.loop-place.place + 1) words)) (sym w.versions-is)
          (front_more (is_put_by c.args.tx.0) c.args.versions.now c.loop-place.versions w.bring_put.new.versions words c.loop-place.place w.in-Some.word
          c.loop-place.invariant (sym c.word_at.ensures ∙ w.in-Some.is)
          (subst (IsInFrontIf (is_put_by c.args.tx.0) c.loop-place.versions w.bring_put.new.versions) w.number_of.ensures w.bring_put.ensures))
      | in_default w ↦
          subst (λ v. AreInFront (is_put_by c.args.tx.0) c.args.versions.now v (take (c.loop-place.place + 1) words)) (sym w.versions-is)
          (front_same (is_put_by c.args.tx.0) c.args.versions.now c.loop-place.versions words c.loop-place.place c.loop-place.invariant (sym c.word_at.ensures ∙ w.in_default.is))
    ]

pub returns : goal.returns
returns c =
    let e : c.loop-place.place ≡ c.word_count-place-end.result = omega arith in
    front_all (is_put_by c.args.tx.0) c.args.versions.now c.loop-place.versions c.args.writes.now.words c.loop-place.place (e ∙ c.word_count-place-end.ensures) c.loop-place.invariant
