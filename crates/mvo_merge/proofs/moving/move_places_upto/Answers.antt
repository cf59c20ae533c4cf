use Rattle.std.proofs.Common.{ap, ◌∙◌, arith}
use Rattle.mvo_types.specs.declared.row.RowKey.{RowKey}
use Rattle.mvo_pair.specs.Data.{EntryData}
use Rattle.mvo_places.specs.Places.{place}
use Rattle.mvo_merge.specs.Moved.{with_one}
use Rattle.mvo_merge.proofs.Moves.{moves_on}
use Rattle.mvo_merge.proofs.moving.move_places_upto.Goals as goal

pub loop-number-preserved : goal.loop-number-preserved
loop-number-preserved c = (
  λ keys at begins. moves_on c.args.left c.args.right c.args.data_file at c.args.records.now c.loop-number.number c.index-records-number.result c.loop-number.places.at c.move_place.new.places.at (omega (arith, c.loop-number-test.true, c.requires.among)) c.index-records-number.is keys (c.loop-number.invariant.0 keys at begins)
      (c.move_place.ensures.moved ∙ ap (λ (k : RowKey). with_one c.args.left c.args.right k (place c.args.data_file c.loop-number.number) c.loop-number.places.at) (ap (λ x. x.row.key) c.entry-inside.view_is ∙ ap (λ (e : EntryData). e.row.key) c.entry.view_is)),
  c.move_place.ensures.room ∙ c.loop-number.invariant.1,
)
