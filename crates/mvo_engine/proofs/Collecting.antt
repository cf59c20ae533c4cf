-- So many collections one after another.
use Rattle.std.proofs.Common.{◌≡◌, ℕ, ◌+◌, ◌<◌, ◌≤◌, ap, ◌∙◌, arith}
use Rattle.mvo_core.specs.Collection.TheVariants.{Collected, Nothing}
use Rattle.mvo_core.specs.Garbage.{horizon, garbage_count}
use Rattle.mvo_core.specs.Data.{CoreData}
use Rattle.mvo_engine.specs.States.{CoreState}
use Rattle.mvo_engine.specs.Collecting.{IsCoreCollection, HasCollectedUpTo}

-- one more version was taken
pub one_more_collected : (old mid new : CoreState) (n : ℕ) → HasCollectedUpTo old n n mid → IsCoreCollection mid Collected new → HasCollectedUpTo old (n + 1) (n + 1) new
one_more_collected old mid new n h c = record {
  taken = λ opening steps own w s.
      let left = h.left opening steps own w s in
      let counts = c.counts opening steps own w (h.stands opening steps own w s) in
      omega (arith, left, counts);
  left = λ opening steps own w s.
      let left = h.left opening steps own w s in
      let counts = c.counts opening steps own w (h.stands opening steps own w s) in
      omega (arith, left, counts);
  stands = λ opening steps own w s. c.stands opening steps own w (h.stands opening steps own w s);
  core = c.core ∙ ap (λ (x : CoreData). record x { versions = new.core.versions }) h.core;
  rest = c.rest ∙ ap (λ (x : CoreState). record x { core = new.core }) h.rest;
}

-- there was none to be taken, before as many were as were asked for
pub none_collected : (old mid new : CoreState) (n most : ℕ) → n < most → HasCollectedUpTo old n n mid → IsCoreCollection mid Nothing new → HasCollectedUpTo old most n new
none_collected old mid new n most low h c = record {
  taken = λ opening steps own w s.
      let left = h.left opening steps own w s in
      let none = (c.counts opening steps own w (h.stands opening steps own w s)).0 in
      omega (arith, left, none, low);
  left = λ opening steps own w s.
      let left = h.left opening steps own w s in
      let same = ap (garbage_count (horizon w.core)) (c.counts opening steps own w (h.stands opening steps own w s)).1 in
      omega (arith, left, same);
  stands = λ opening steps own w s. c.stands opening steps own w (h.stands opening steps own w s);
  core = c.core ∙ ap (λ (x : CoreData). record x { versions = new.core.versions }) h.core;
  rest = c.rest ∙ ap (λ (x : CoreState). record x { core = new.core }) h.rest;
}
