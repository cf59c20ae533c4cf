use Rattle.mvo_standing.proofs.Versions.{versions_there, versions_back}
use Rattle.mvo_standing.proofs.Table.{dependencies_there, dependencies_back}
use Rattle.mvo_standing.proofs.Lists.{lists_there, lists_back}
use Rattle.mvo_standing.proofs.Others.{others_show, others_placed, others_scanned, unwritten_shown}
use Rattle.mvo_standing.proofs.Scans.{rows_are_scan}
use Rattle.mvo_representation.specs.Table.{phases_of}
use Rattle.mvo_representation.specs.Indexes.{all_versions}
use Rattle.mvo_standing.proofs.laws.laws_of_standing.Goals as goal

pub returns-clause-versions : goal.returns-clause-versions
returns-clause-versions g c = λ s table vs. (versions_back s table vs, versions_there s table vs)

pub returns-clause-dependencies : goal.returns-clause-dependencies
returns-clause-dependencies g c = λ s table. (dependencies_back s table, dependencies_there s table)

pub returns-clause-words : goal.returns-clause-words
returns-clause-words g c = λ s slots lists. (lists_back s slots lists, lists_there s slots lists)

pub returns-clause-stands : goal.returns-clause-stands
returns-clause-stands g c = λ opening s states slots lists places here there. (
  λ h. record { kept = here; versions = versions_back s (phases_of states) (all_versions slots) h.versions; numbers = h.numbers; order = h.order },
  λ h. record { kept = there; versions = versions_there s (phases_of states) (all_versions slots) h.versions; numbers = h.numbers; order = h.order },
)

pub returns-clause-others : goal.returns-clause-others
returns-clause-others g c = λ opening s states slots lists places r k h found. others_show s states slots lists r k h.kept.sound h.kept.started h.versions h.numbers found

pub returns-clause-places : goal.returns-clause-places
returns-clause-places g c = λ opening s states slots lists places r k h stands found row. others_placed s states slots lists places r k h stands.kept.sound stands.kept.started stands.versions stands.numbers stands.order found row

pub returns-clause-unwritten : goal.returns-clause-unwritten
returns-clause-unwritten g c = λ opening s states slots lists places r k h found none. unwritten_shown s states slots lists r k h.versions h.numbers found none

pub returns-clause-places_show : goal.returns-clause-places_show
returns-clause-places_show g c = rows_are_scan

pub returns-clause-scanned : goal.returns-clause-scanned
returns-clause-scanned g c = λ opening s states slots lists places r table lo hi h found. others_scanned s states slots lists places r h.kept.sound h.kept.started h.versions h.numbers h.order found table lo hi
