-- What a store holds, as contracts see it.
use Rattle.mvo_store.specs.declared.store.Store.TheInside.{Inside}
use Rattle.mvo_store.specs.StoreData.{StoreData}

abbrev pub store_data : {D : Type 0} → Inside D → StoreData D
store_data s = record {
  disk = s.disk;
  manifest = s.manifest;
  places = s.places;
  old_marks = s.old_marks.items;
  segment = s.segment;
  mark = s.mark.0;
  pending = s.pending;
  written = s.written;
  jobs = s.jobs;
  down = s.down;
}
