use Rattle.mvo_merge.proofs.Live.{live_in_one}
use Rattle.mvo_merge.proofs.Placed.{places_merged}
use Rattle.mvo_merge.proofs.Late.{gained_late, none_late, all_live, gives_numbers}
use Rattle.mvo_merge.proofs.Kept.{live_in_either, keeps_rows, stays_apart, own_keys}
use Rattle.mvo_merge.proofs.Entries.{gives_entries}
use Rattle.mvo_merge.proofs.Loaded.{leaves_others, counts_live, has_both, few_enough, loads_merged}
use Rattle.mvo_merge.proofs.laws.laws_of_merge.Goals as goal

pub returns-clause-live : goal.returns-clause-live
returns-clause-live c = live_in_one

pub returns-clause-others : goal.returns-clause-others
returns-clause-others c = leaves_others

pub returns-clause-counted : goal.returns-clause-counted
returns-clause-counted c = counts_live

pub returns-clause-few : goal.returns-clause-few
returns-clause-few c = few_enough

pub returns-clause-loads : goal.returns-clause-loads
returns-clause-loads c = loads_merged

pub returns-clause-gained : goal.returns-clause-gained
returns-clause-gained c = gained_late

pub returns-clause-none : goal.returns-clause-none
returns-clause-none c = none_late

pub returns-clause-all : goal.returns-clause-all
returns-clause-all c = all_live

pub returns-clause-numbers : goal.returns-clause-numbers
returns-clause-numbers c = gives_numbers

pub returns-clause-rows : goal.returns-clause-rows
returns-clause-rows c = keeps_rows

pub returns-clause-apart : goal.returns-clause-apart
returns-clause-apart c = stays_apart

pub returns-clause-keys : goal.returns-clause-keys
returns-clause-keys c = own_keys

pub returns-clause-entries : goal.returns-clause-entries
returns-clause-entries c = gives_entries

pub returns-clause-places : goal.returns-clause-places
returns-clause-places c = places_merged

pub returns-clause-both : goal.returns-clause-both
returns-clause-both c = has_both

pub returns-clause-either : goal.returns-clause-either
returns-clause-either c = live_in_either
