use Rattle.std.proofs.Common.{subst}
use Rattle.mvo_group.specs.Rules.{IsGroup}
use Rattle.mvo_group.proofs.Bodies.{body_of-injective}
use Rattle.mvo_group.proofs.group.Group.encode.Goals as goal

pub returns-in_err-encode_into-clause-one : goal.returns-in_err-encode_into-clause-one
returns-in_err-encode_into-clause-one c g is e = body_of-injective g c.args.self.now is (subst IsGroup c.self.view_is c.self.invariant) e

pub returns-clause-one : goal.returns-clause-one
returns-clause-one c g is e = body_of-injective g c.args.self.now is (subst IsGroup c.self.view_is c.self.invariant) e
