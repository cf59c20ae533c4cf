use Rattle.std.proofs.Common.{◌≡◌, Err, rules}
use Rattle.mvo_store.proofs.Taken.{refused_so}
use Rattle.mvo_store.proofs.store.Store.make_step.Goals as goal

pub returns-in_err-checkpoint_data-in-Data-clause-step : goal.returns-in_err-checkpoint_data-in-Data-clause-step
returns-in_err-checkpoint_data-in-Data-clause-step g c =
    let e = c.in_err-checkpoint_data-in-Data.field-0.0 in
    let is : c.from_residual.result ≡ Err e = search rules in
    rw (is, c.in-Data.is) (refused_so _ _ g.D.Disk c.args.self.now _ e c.checkpoint_data.new.self c.in_err-checkpoint_data-in-Data.ensures)

pub returns-in_err-checkpoint_delta-in-Delta-clause-step : goal.returns-in_err-checkpoint_delta-in-Delta-clause-step
returns-in_err-checkpoint_delta-in-Delta-clause-step g c =
    let e = c.in_err-checkpoint_delta-in-Delta.field-0.0 in
    let is : c.from_residual-in_err-checkpoint_delta-in-Delta.result ≡ Err e = search rules in
    rw (is, c.in-Delta.is) (refused_so _ _ g.D.Disk c.args.self.now _ e c.checkpoint_delta.new.self c.in_err-checkpoint_delta-in-Delta.ensures.step)

pub returns-in_err-merge_data-in-MergeData-clause-step : goal.returns-in_err-merge_data-in-MergeData-clause-step
returns-in_err-merge_data-in-MergeData-clause-step g c =
    let e = c.in_err-merge_data-in-MergeData.field-0.0 in
    let is : c.from_residual-in_err-merge_data-in-MergeData.result ≡ Err e = search rules in
    rw (is, c.in-MergeData.is) (refused_so _ _ g.D.Disk c.args.self.now _ e c.merge_data.new.self c.in_err-merge_data-in-MergeData.ensures)

pub returns-in_err-merge_delta-in-MergeDelta-clause-step : goal.returns-in_err-merge_delta-in-MergeDelta-clause-step
returns-in_err-merge_delta-in-MergeDelta-clause-step g c =
    let e = c.in_err-merge_delta-in-MergeDelta.field-0.0 in
    let is : c.from_residual-in_err-merge_delta-in-MergeDelta.result ≡ Err e = search rules in
    rw (is, c.in-MergeDelta.is) (refused_so _ _ g.D.Disk c.args.self.now _ e c.merge_delta.new.self c.in_err-merge_delta-in-MergeDelta.ensures)
