-- The laws, from the lemmas.
use Rattle.mvo_representation.specs.Laws.{OpensSo, EachCallKeeps, ShowsSnapshot, DependsSo, ShownIsThere, FreeMayBeEnded, TellsCause, NamesChange, RowsArePlaced, MeetsWhatCounts}
use Rattle.mvo_representation.proofs.Opened.{versions_opened}
use Rattle.mvo_representation.proofs.Steps.{versions_after_call}
use Rattle.mvo_representation.proofs.ShownTo.{shown_is}
use Rattle.mvo_representation.proofs.DependsOn.{depends_is}
use Rattle.mvo_representation.proofs.MayEnd.{shown_as, may_end, cause_is}
use Rattle.mvo_representation.proofs.RangeCheckedBy.{check_is}
use Rattle.mvo_representation.proofs.RowsPlaced.{row_placed, met_is}

pub opens_so : OpensSo
opens_so rows mark = versions_opened rows mark

pub each_call_keeps : EachCallKeeps
each_call_keeps opening s c r old new k m h a = versions_after_call opening s c r old new k m h a

pub shows_snapshot : ShowsSnapshot
shows_snapshot opening s states slots lists places r k w f = shown_is s states slots lists r.id r k w.kept.sound w.kept.started w.versions w.numbers f

pub depends_so : DependsSo
depends_so opening s states slots lists places op r k w f e = depends_is opening s states slots lists op r k w.kept w.versions w.numbers f e

pub shown_is_there : ShownIsThere
shown_is_there opening s states slots lists places r k number w f e = shown_as s states slots lists r.id r k number w.versions w.numbers f e

pub free_may_be_ended : FreeMayBeEnded
free_may_be_ended opening s states slots lists places r k number w f shown none = may_end opening s states slots r.id r k number w.kept w.versions f shown none

pub tells_cause : TellsCause
tells_cause opening s states slots lists places r number v stamp w f at n x = cause_is opening s states slots number v r.id r stamp w.kept w.versions f at n x

pub names_change : NamesChange
names_change opening s states slots lists places begin end' entry w le lt = check_is s states slots lists places begin end' entry w.kept.sound w.kept.started w.versions w.numbers w.order le lt

pub rows_are_placed : RowsArePlaced
rows_are_placed opening s states slots lists places r k h w f e = row_placed s states slots lists places r k h w.kept.sound w.kept.started w.versions w.numbers w.order f e

pub meets_what_counts : MeetsWhatCounts
meets_what_counts opening s states slots lists places r table lo hi q w f = met_is s states slots r table lo hi q w.kept.sound w.kept.started w.versions f
