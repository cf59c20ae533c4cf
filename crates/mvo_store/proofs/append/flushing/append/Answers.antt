use Rattle.std.proofs.Common.{◌≡◌, true, ◌∙◌, arith, Err, ap, refl, subst}
use Rattle.mvo_types.specs.declared.refusal.Refusal.TheVariants.{SegmentFull, OldSegment}
use Rattle.mvo_store.specs.declared.call.StoreCall.TheVariants.{AppendBody}
use Rattle.mvo_store.specs.Flushing.IsAppend.{AtOpen, AtFull}
use Rattle.mvo_store.specs.Flushing.{lets_go_on}
use Rattle.mvo_store.proofs.Goes.{goes_of}
use Rattle.mvo_store.proofs.append.flushing.append.Goals as goal
use Rattle.mvo_store.proofs.append.flushing.append.Goals.{in-Ok-1, in-Err+in-Busy-1}

pub returns-in-Err-SegmentFull : goal.returns-in-Err-SegmentFull
returns-in-Err-SegmentFull g c =
    let full = c.in-Err-SegmentFull.is ∙ ap (λ e. Err e) c.in-Err-SegmentFull.field-0-is in
    AtFull SegmentFull c.call.new.self refl (subst (λ r. g.L.StoreCaller.comes_to c.args.log.now AppendBody r c.call.new.self) full c.call.ensures) c.append_rotated.ensures

pub returns-in-Err-OldSegment : goal.returns-in-Err-OldSegment
returns-in-Err-OldSegment g c =
    let full = c.in-Err-OldSegment.is ∙ ap (λ e. Err e) c.in-Err-OldSegment.field-0-is in
    AtFull OldSegment c.call.new.self refl (subst (λ r. g.L.StoreCaller.comes_to c.args.log.now AppendBody r c.call.new.self) full c.call.ensures) c.append_rotated-in-Err-OldSegment.ensures

pub returns-in-Ok : goal.returns-in-Ok
returns-in-Ok g c =
    let goes : lets_go_on c.call.result ≡ true = elim c.in-Ok-1.branch [
      | in-Ok-1 w ↦ goes_of c.call.result (λ e is not. grind (arith, is))
      | in-Err+in-Busy-1 w ↦ goes_of c.call.result (λ e is not. grind (arith, is, not))
    ] in
    AtOpen c.call.result c.call.new.self goes c.call.ensures c.call-in-Ok.ensures
