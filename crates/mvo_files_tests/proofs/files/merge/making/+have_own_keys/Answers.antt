use Rattle.std.proofs.Common.{◌-◌, List, length, take, drop}
use Rattle.std.proofs.lemmas.Bool.{OnTrue_at, OnTrue_from}
use Rattle.mvo_pair.specs.Data.{EntryData}
use Rattle.mvo_merge.specs.Moved.{HaveOwnKeys}
use Rattle.mvo_files_tests.proofs.files.merge.Own.{IsNewIn, own_none, own_more}
use Rattle.mvo_files_tests.proofs.files.merge.making.+have_own_keys.Goals as goal

pub returns-in-empty : goal.returns-in-empty
returns-in-empty t c = own_none c.args.records.now c.in-empty.len_below

pub returns-then-is_new : goal.returns-then-is_new
returns-then-is_new t c =
    let es : List EntryData = c.args.records.now in
    let fresh : IsNewIn c.first-item.result.row.key (take (length es - 1) (drop 1 es)) = rw (← c.first.view_is, ← c.first-inside.view_is) c.if-is_new.ensures in
    OnTrue_from c.have_own_keys.result (HaveOwnKeys es) (λ yes. own_more es c.first-item.result c.first-item.is c.in-len1-up.len_at_least fresh (OnTrue_at yes c.have_own_keys.ensures))
