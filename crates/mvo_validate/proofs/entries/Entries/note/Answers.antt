use Rattle.std.proofs.Common.{rules, ◌≡◌, ◌++◌, ◌∷◌, [], sym, subst}
use Rattle.mvo_validate.specs.Noted.{HasNoKeyAbove, with_key}
use Rattle.mvo_validate.proofs.Keys.{none_above}
use Rattle.mvo_validate.proofs.entries.Entries.note.Goals as goal

pub invariant_of-self : goal.invariant_of-self
invariant_of-self c =
    let items : c.push.new.self.items ≡ c.self.inside.few.items ++ c.args.entry ∷ [] = search rules in (
      search rules,
      subst (λ n. HasNoKeyAbove n c.push.new.self.items) (sym c.greatest_with-self-inside.ensures)
          (subst (λ es. HasNoKeyAbove (with_key c.self.inside.greatest c.args.entry) es) (sym items)
          (none_above c.self.inside.greatest c.self.inside.few.items c.args.entry c.self.invariant.1)),
    )
