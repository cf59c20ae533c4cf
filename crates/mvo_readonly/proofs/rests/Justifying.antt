-- What a call came to is justified by the whole trace, and tells on whom its transaction rests.
use Rattle.std.proofs.Common.{◌≡◌, ℕ, Option, None, Some, refl, sym, ◌∙◌, subst}
use Rattle.std.specs.List.{AllByRecursion}
use Rattle.mvo_types.specs.Keys.{Map}
use Rattle.mvo_theory.specs.State.{ActiveTx, snapshot}
use Rattle.mvo_theory.specs.Snapshots.{snapshot_of, HasFootprints}
use Rattle.mvo_theory.specs.Traced.{AreTraced}
use Rattle.mvo_theory.specs.Claimed.{AreClaimed}
use Rattle.mvo_theory.specs.Justified.{IsJustified}
use Rattle.mvo_theory.specs.Calls.{Call, Result}
use Rattle.mvo_theory.specs.Calls.Call.{Begin, Settle}
use Rattle.mvo_theory.specs.Calls.Result.{Accepted}
use Rattle.mvo_theory.specs.rests.Course.{Course}
use Rattle.mvo_theory.specs.rests.Laws.{TellsRests, TellsSettling}
use Rattle.mvo_readonly.specs.Whole.{ReaderStage, WholeState, stage_of, id_named, stage_named}
use Rattle.mvo_readonly.specs.WholeCauses.{WholeCall, MayComeAtStage, MayComeWhole}
use Rattle.mvo_readonly.specs.WholeCauses.WholeCall.{CoreCall, BeginReadOnly}
use Rattle.mvo_readonly.specs.WholeCounts.{HasWholeCounts}
use Rattle.mvo_readonly.specs.WholeJustified.{IsReaderJustified}
use Rattle.mvo_readonly.specs.rests.Followed.{IsFollowed}
use Rattle.mvo_readonly.specs.rests.Laws.{IsJustifiedAtStage, IsWholeJustified, TellsWholeRests, awaited_at_stage}
use Rattle.mvo_readonly.proofs.Snapshots.{snapshots_whole, prints_whole}
use Rattle.mvo_readonly.proofs.Flags.{are_traced}
use Rattle.mvo_readonly.proofs.Claims.{are_claimed}
use Rattle.mvo_readonly.proofs.WholeJustified.{other_justified, begin_justified}
use Rattle.mvo_readonly.proofs.ReaderJustified.{reader_justified}
use Rattle.mvo_readonly.proofs.rests.Telling.{other_tells, other_settles, reader_tells, reader_settles}

module _ (a o : Course) (w : WholeState) (f : IsFollowed a o w) where
  -- the opening mark is that of the state
  mark_is : w.core.marks.opening ≡ a.mark
  mark_is = f.counts.core.opening ∙ sym f.joint.mark

  pub counts : HasWholeCounts w.core.marks.opening a.steps o.steps w
  counts = subst (λ (n : ℕ). HasWholeCounts n a.steps o.steps w) (sym f.counts.core.opening) f.counts

  moved : (c : Call) (r : Result) → IsJustified o.rows w.core.marks.opening a.steps c r → IsJustified a.rows a.mark a.steps c r
  moved c r j = subst (λ (rows : Map). IsJustified rows a.mark a.steps c r) (sym f.joint.rows) (subst (λ (n : ℕ). IsJustified o.rows n a.steps c r) mark_is j)

  pub whole_justified : (c : WholeCall) (r : Result) → MayComeWhole w c r → IsWholeJustified w a c r
  whole_justified BeginReadOnly r m = moved Begin r (begin_justified o.rows a.steps o.steps w f.kept f.matched f.given f.remembered f.recalled counts r m)
  whole_justified (CoreCall c) r m = go (stage_named w.readers (id_named c)) refl m
    where
      go : (p : Option ReaderStage) → stage_named w.readers (id_named c) ≡ p → MayComeAtStage w c p r → IsJustifiedAtStage a c r p
      go None e k = moved c r (other_justified o.rows a.steps o.steps w f.kept f.matched f.given f.remembered f.recalled counts c r e k)
      go (Some p) e k = subst (λ (rows : Map). IsReaderJustified rows a.steps c r) (sym f.joint.rows) (reader_justified o.rows a.steps o.steps w f.kept f.remembered f.matched f.counts.readers c r p e k)

  pub snapshots_followed : AllByRecursion (λ (r : ActiveTx). snapshot w.core r.id ≡ snapshot_of o.rows a.steps r.id) w.core.active
  snapshots_followed = snapshots_whole o.rows a.steps o.steps w f.kept f.matched f.given

  pub core_traced : AreTraced o.rows a.steps w.core × AreClaimed a.steps w.core × HasFootprints o.rows a.steps w.core
  core_traced = (
    are_traced o.rows a.steps o.steps w f.kept f.remembered f.matched,
    are_claimed o.rows a.steps o.steps w f.kept f.remembered,
    prints_whole o.rows a.steps o.steps w f.kept f.given,
  )

  pub whole_tells : (c : WholeCall) (r : Result) → MayComeWhole w c r → TellsWholeRests a c r
  whole_tells BeginReadOnly r m = tt
  whole_tells (CoreCall c) r m = go (stage_named w.readers (id_named c)) refl m
    where
      go : (p : Option ReaderStage) → stage_named w.readers (id_named c) ≡ p → MayComeAtStage w c p r → TellsRests a c r
      go None e k = other_tells a o w f c r k
      go (Some p) e k = reader_tells a o w f c r p e k

  pub whole_settles : (t : ℕ) → MayComeWhole w (CoreCall (Settle t)) Accepted → TellsSettling a t (awaited_at_stage w.core t (stage_of t w.readers))
  whole_settles t m = go (stage_of t w.readers) refl m
    where
      go : (p : Option ReaderStage) → stage_of t w.readers ≡ p → MayComeAtStage w (Settle t) p Accepted → TellsSettling a t (awaited_at_stage w.core t p)
      go None e k = other_settles a o w f t k
      go (Some p) e k = reader_settles a o w f t p e k
