use Rattle.std.proofs.Common.{refl, ◌∙◌}
use Rattle.mvo_engine.proofs.Passing.{one_more, none_more}
use Rattle.mvo_engine.proofs.Rings.{same_of}
use Rattle.mvo_engine.proofs.sends.Sends.close_group.Goals as goal

pub invariant_of-self : goal.invariant_of-self
invariant_of-self g c =
    let i = c.self.invariant in
    let s = c.requires.sound in
    let told = c.in-Ok.ensures.whole s.rows s.steps s.own s.whole s.stands in (
      c.raise_closed.ensures.closed.marks ∙ i.0,
      same_of c.self.inside.ring c.close_group.new.ring c.close_group.ensures.ring ∙ i.1,
      one_more _ _ _ _ told.0 i.2 c.saturating_add-self-inside.ensures told.1,
    )

pub invariant_of-self-in-Err : goal.invariant_of-self-in-Err
invariant_of-self-in-Err g c =
    let i = c.self.invariant in
    let s = c.requires.sound in
    let told = c.in-Err.ensures.whole s.rows s.steps s.own s.whole s.stands in (
      i.0,
      same_of c.self.inside.ring c.close_group.new.ring c.close_group.ensures.ring ∙ i.1,
      none_more _ _ _ i.2 told.1.1,
    )

pub returns-in-Ok : goal.returns-in-Ok
returns-in-Ok g c = rw (← c.self.view_is) (λ rows steps own w h.
    let told = c.in-Ok.ensures.whole rows steps own w h in
    (told, c.raise_closed.ensures.no_further))

pub returns-in-Err : goal.returns-in-Err
returns-in-Err g c = rw (← c.self.view_is) (λ rows steps own w h.
    let told = c.in-Err.ensures.whole rows steps own w h in
    (told.1.1, (_, told.0), refl))
