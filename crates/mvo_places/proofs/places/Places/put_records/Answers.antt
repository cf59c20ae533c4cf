use Rattle.std.proofs.Common.{arith, ap, ◌∙◌}
use Rattle.std.specs.FinMap.{insert}
use Rattle.mvo_types.specs.declared.row.RowKey.{RowKey}
use Rattle.mvo_pair.specs.Data.{EntryData}
use Rattle.mvo_places.specs.Places.{place}
use Rattle.mvo_places.proofs.Putting.{took}
use Rattle.mvo_places.proofs.places.Places.put_records.Goals as goal

pub loop-number-preserved : goal.loop-number-preserved
loop-number-preserved c = (
  λ at begins. took c.args.data_file c.args.records.now c.loop-number.number c.index-records-number.result at c.loop-number.self.at c.put.new.self.at (omega (arith, c.loop-number-test.true, c.requires.among)) c.index-records-number.is (c.loop-number.invariant.0 at begins)
      (c.in-Ok.ensures.ok ∙ ap (λ (k : RowKey). insert c.loop-number.self.at k (place c.args.data_file c.loop-number.number)) (ap (λ x. x.row.key) c.entry-inside.view_is ∙ ap (λ (e : EntryData). e.row.key) c.entry.view_is)),
  omega (arith, c.in-Ok.ensures.room, c.loop-number.invariant.1),
)
