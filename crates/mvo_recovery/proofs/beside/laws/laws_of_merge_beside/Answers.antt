use Rattle.mvo_recovery.proofs.beside.Seen.{seen_at_read, seen_stays, seen_beside_numbers, seen_where_counts_stay, seen_beside_install, stays_unnamed}
use Rattle.mvo_recovery.proofs.beside.Ready.{finds_late}
use Rattle.mvo_recovery.proofs.beside.Proved.{merge_beside_ready, install_beside, places_beside}
use Rattle.mvo_recovery.proofs.beside.Running.{runs_keep}
use Rattle.mvo_recovery.proofs.beside.laws.laws_of_merge_beside.Goals as goal

pub returns-clause-begins : goal.returns-clause-begins
returns-clause-begins g c = seen_at_read (g.D.Disk.content c.args.old.now)

pub returns-clause-stays : goal.returns-clause-stays
returns-clause-stays g c = seen_stays (g.D.Disk.content c.args.old.now) (g.D.Disk.content c.args.new.now)

pub returns-clause-numbers : goal.returns-clause-numbers
returns-clause-numbers g c = seen_beside_numbers (g.D.Disk.content c.args.old.now) (g.D.Disk.content c.args.new.now)

pub returns-clause-counts : goal.returns-clause-counts
returns-clause-counts g c = seen_where_counts_stay (g.D.Disk.content c.args.old.now) (g.D.Disk.content c.args.new.now)

pub returns-clause-install : goal.returns-clause-install
returns-clause-install g c = seen_beside_install (g.D.Disk.content c.args.old.now)

pub returns-clause-unnamed : goal.returns-clause-unnamed
returns-clause-unnamed g c = stays_unnamed

pub returns-clause-late : goal.returns-clause-late
returns-clause-late g c = finds_late (g.D.Disk.content c.args.old.now)

pub returns-clause-ready : goal.returns-clause-ready
returns-clause-ready g c = merge_beside_ready (g.D.Disk.content c.args.old.now) (g.D.Disk.may_leave c.args.old.now)

pub returns-clause-places : goal.returns-clause-places
returns-clause-places g c = places_beside

pub returns-clause-keeps : goal.returns-clause-keeps
returns-clause-keeps g c = install_beside (g.D.Disk.content c.args.old.now) (g.D.Disk.may_leave c.args.old.now)

pub returns-clause-runs : goal.returns-clause-runs
returns-clause-runs g c = runs_keep g.D.Disk.moment g.D.Disk.left_since g.D.Disk.content g.D.Disk.may_leave g.met.D.Disk.only_now
