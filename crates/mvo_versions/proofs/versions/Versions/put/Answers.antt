use Rattle.mvo_versions.proofs.Kept.{less_has, put_has, roomed_has}
use Rattle.mvo_versions.proofs.versions.Versions.put.Goals.{then-is_post, else-is_post}
use Rattle.mvo_versions.proofs.versions.Versions.put.Goals as goal

pub invariant_of-self : goal.invariant_of-self
invariant_of-self c = roomed_has c.self.inside.indexed c.put.new.self c.self.inside.skips c.in_err-number.ensures.err c.put.ensures.indexed c.self.invariant

pub invariant_of-self-2 : goal.invariant_of-self-2
invariant_of-self-2 c =
    elim c.if-is_post.branch [
      | then-is_post w ↦
          rw w.self-inside-is
          (put_has c.self.inside.indexed c.put.new.self c.args.row c.args.by.0 c.in_ok-number.number w.reach.new.self c.forget.new.self
          c.in_ok-number.ensures.ok c.put.ensures.indexed (rw w.self-inside-is at c.forget.ensures)
          (less_has c.self.inside.indexed c.self.inside.skips w.reach.new.self w.reach.ensures c.self.invariant))
      | else-is_post w ↦
          rw w.self-inside-is
          (put_has c.self.inside.indexed c.put.new.self c.args.row c.args.by.0 c.in_ok-number.number c.self.inside.skips c.forget.new.self
          c.in_ok-number.ensures.ok c.put.ensures.indexed (rw w.self-inside-is at c.forget.ensures) c.self.invariant)
    ]
