use Rattle.std.proofs.Common.{ap, ◌∙◌}
use Rattle.std.specs.Map.{keys_of}
use Rattle.std.proofs.lemmas.Result.{IfOk-at_ok}
use Rattle.mvo_content.proofs.Same.{same_key}
use Rattle.mvo_content.proofs.Leaving.{insert_keys, insert_at}
use Rattle.mvo_content.proofs.own_writes.put_left.Goals as goal

pub returns-clause-keys : goal.returns-clause-keys
returns-clause-keys c = ap keys_of (IfOk-at_ok _ c.unwrap.ensures c.insert.ensures.entries) ∙ insert_keys _ (λ j i. same_key j i) c.args.left.now.entries c.args.key c.args.row

pub returns-clause-at : goal.returns-clause-at
returns-clause-at c = insert_at _ (λ j i. same_key j i) c.args.left.now.entries c.insert.new.self.entries c.args.key c.args.row (λ q. (IfOk-at_ok _ c.unwrap.ensures c.insert.ensures.updates).0 q)
