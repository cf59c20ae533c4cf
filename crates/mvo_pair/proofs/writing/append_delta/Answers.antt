use Rattle.std.proofs.Common.{◌≡◌, List, ℕ, length, subst, ◌∙◌}
use Rattle.std.specs.List.{flat_map}
use Rattle.mvo_disk.specs.Disk.{Holds}
use Rattle.mvo_bytes.specs.Fields.{field}
use Rattle.mvo_pair.specs.Writing.{place_behind}
use Rattle.mvo_pair.proofs.Appends.{more_numbers, keeps_within, keeps_still}
use Rattle.mvo_pair.proofs.writing.append_delta.Goals as goal

pub returns-in_err-bytes-clause-any_moment : goal.returns-in_err-bytes-clause-any_moment
returns-in_err-bytes-clause-any_moment g c = λ only. keeps_still g.D.Disk.moment g.D.Disk.left_since g.D.Disk.content g.D.Disk.may_leave g.met.D.Disk.only_now c.args.disk.now c.args.pair.delta_file c.args.pair.entries only

pub returns-in-Ok-clause-gains : goal.returns-in-Ok-clause-gains
returns-in-Ok-clause-gains g c version below ns has are =
    let old = g.D.Disk.content c.args.disk.now c.args.pair.delta_file in
    let new = g.D.Disk.content c.write_synced.new.disk c.args.pair.delta_file in
    let bytes : c.deref.result.now ≡ flat_map (field 4) c.args.numbers.now = c.deref.ensures.value ∙ c.in_ok-bytes.ensures in
    more_numbers version below c.args.pair.entries ns old has c.args.numbers.now new (subst (λ (l : List ℕ). Holds old (place_behind c.args.pair.entries) l new) bytes c.in-Ok.ensures.written) are

pub returns-in-Ok-clause-any_moment : goal.returns-in-Ok-clause-any_moment
returns-in-Ok-clause-any_moment g c = λ only. keeps_within g.D.Disk.moment g.D.Disk.left_since g.D.Disk.content g.D.Disk.may_leave c.args.disk.now c.write_synced.new.disk c.args.pair.delta_file c.args.pair.entries (length c.deref.result.now) (c.write_synced.ensures.any_moment only)

pub returns-clause-any_moment : goal.returns-clause-any_moment
returns-clause-any_moment g c = λ only. keeps_within g.D.Disk.moment g.D.Disk.left_since g.D.Disk.content g.D.Disk.may_leave c.args.disk.now c.write_synced.new.disk c.args.pair.delta_file c.args.pair.entries (length c.deref.result.now) (c.write_synced.ensures.any_moment only)
